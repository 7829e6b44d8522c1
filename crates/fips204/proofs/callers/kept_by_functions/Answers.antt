use Rattle.std.proofs.Common.{◌≡◌, ◌≤◌, ◌∙◌, ℕ, List, length, Err, inl, refl, sym, arith}
use Rattle.fips204.proofs.Names.{set_44, sign_input, SamplingLimit}
use Rattle.fips204.proofs.callers.kept_by_functions.Goals as goal

pub returns : goal.returns
returns g c = λ longer other first second sk rnd signature input made.
    let H = g.H.Xof.front in
    let G = g.G.Xof.front in
    let long = λ (x : List ℕ). let all : 4096 ≤ length (H x) = omega (arith, g.met.H.Xof.front_size x, g.met.H.Xof.front_least) in all in
    let stays = ((c.longer_functions.ensures H G longer other long first second).1 set_44 (inl refl)).0 in
    let good = λ (e : sign_input set_44 H G sk rnd input ≡ Err SamplingLimit). absurd (let never = sym made ∙ e in cc) in
    stays.inputs sk rnd input good ∙ made
