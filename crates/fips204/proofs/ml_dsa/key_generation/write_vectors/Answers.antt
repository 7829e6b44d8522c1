use Rattle.std.proofs.Common.{rules, arith, ◌≡◌, inl, inr, w32, refl, take, drop, Some, None, Err}
use Rattle.fips204.proofs.Names.{to_z-of_z, SamplingLimit, sampled_matrix, small_vector, set_of}
use Rattle.fips204.proofs.ParameterSets.{limits, small_vector-parts, matrix-shape}
use Rattle.fips204.proofs.KeyGeneration.{AreSampled, AreSeeds, are_seeds, generated-none, generated-some}
use Rattle.fips204.proofs.ml_dsa.key_generation.write_vectors.Given.{Over}
use Rattle.fips204.proofs.ml_dsa.key_generation.write_vectors.Goals.{After-seed_at-rho_prime}
use Rattle.fips204.proofs.ml_dsa.key_generation.write_vectors.Goals as goal

seeds-here : (g : Over) (c : After-seed_at-rho_prime g)
    → AreSeeds (set_of c.args.p.now) g.H.Xof.front c.args.xi.now c.seed_at-rho.result c.seed_at-rho_prime.result (take 32 (drop 96 c.hash-seeds.result))
seeds-here g c =
    are_seeds (set_of c.args.p.now) g.H.Xof.front c.args.xi.now c.hash-seeds.result _ _ _ (search rules)
    c.seed_at-rho.ensures c.seed_at-rho_prime.ensures refl

pub overflow_cast-p : goal.overflow_cast-p
overflow_cast-p g c = omega (arith, (limits c.args.p.now (search rules)).few_rows)

pub overflow_cast-p-2 : goal.overflow_cast-p-2
overflow_cast-p-2 g c = omega (arith, (limits c.args.p.now (search rules)).few_columns)

pub write_expanded_s-requires : goal.write_expanded_s-requires
write_expanded_s-requires g c =
    let p = c.args.p.now in
    let E = to_z-of_z w32 p.eta (search rules) in
    let set = (limits p (search rules)).eta in
    let shape = matrix-shape p g.row.K g.row.L (search rules) c.requires.rows c.requires.columns in
    rw E (search rules, (search rules, (set, shape.1)))

pub returns-in_err-write_expanded_s-clause-keys : goal.returns-in_err-write_expanded_s-clause-keys
returns-in_err-write_expanded_s-clause-keys g c =
    let p = set_of c.args.p.now in
    let H = g.H.Xof.front in
    let E = to_z-of_z w32 c.args.p.now.eta (search rules) in
    let seed = c.seed_at-rho_prime.result in
    let unsampled = c.in_err-write_expanded_s.ensures.limit in
    let fault = rw E at unsampled in
    let refused : c.from_residual.result ≡ Err SamplingLimit = search rules in
    let given : AreSampled p H g.G.Xof.front g.row.K g.row.L c.seed_at-rho.result seed (sampled_matrix g.G.Xof.front c.seed_at-rho.result p.k p.l) (small_vector p.eta H seed 0 g.row.L) (small_vector p.eta H seed g.row.L g.row.K) =
    record { rows = c.requires.rows; columns = c.requires.columns; matrix = refl; first = refl; second = refl } in
    rw refused (generated-none p H g.G.Xof.front c.args.xi.now c.seed_at-rho.result seed _ g.row.K g.row.L _ _ _ (seeds-here g (goal.at.returns-in_err-write_expanded_s-clause-keys g c).After-seed_at-rho_prime) given (inr fault.1))

pub write_key_parts-requires : goal.write_key_parts-requires
write_key_parts-requires g c =
    let p = c.args.p.now in
    let E = to_z-of_z w32 p.eta (search rules) in
    let s1 = c.in_ok-write_expanded_s.ensures.s1 in
    let s2 = c.in_ok-write_expanded_s.ensures.s2 in
    let first = small_vector-parts p _ _ _ _ c.write_expanded_s.new.s1 (search rules) (rw E at s1) in
    let second = small_vector-parts p _ _ _ _ c.write_expanded_s.new.s2 (search rules) (rw E at s2) in
    (search rules, (search rules, (c.requires.rows, (c.requires.columns, (first, second)))))

pub returns-in_err-write_key_parts-clause-keys : goal.returns-in_err-write_key_parts-clause-keys
returns-in_err-write_key_parts-clause-keys g c =
    let p = set_of c.args.p.now in
    let H = g.H.Xof.front in
    let seed = c.seed_at-rho_prime.result in
    let fault = c.in_err-write_key_parts.ensures.values in
    let refused : c.from_residual-in_err-write_key_parts.result ≡ Err SamplingLimit = search rules in
    let given : AreSampled p H g.G.Xof.front g.row.K g.row.L c.seed_at-rho.result seed None (small_vector p.eta H seed 0 g.row.L) (small_vector p.eta H seed g.row.L g.row.K) =
    record { rows = c.requires.rows; columns = c.requires.columns; matrix = fault.0; first = refl; second = refl } in
    rw refused (generated-none p H g.G.Xof.front c.args.xi.now c.seed_at-rho.result seed _ g.row.K g.row.L _ _ _ (seeds-here g (goal.at.returns-in_err-write_key_parts-clause-keys g c).After-seed_at-rho_prime) given (inl refl))

pub returns : goal.returns
returns g c =
    let p = set_of c.args.p.now in
    let H = g.H.Xof.front in
    let E = to_z-of_z w32 c.args.p.now.eta (search rules) in
    let seed = c.seed_at-rho_prime.result in
    let parts = c.in_ok-write_key_parts.ensures.values in
    let s1 = c.in_ok-write_expanded_s.ensures.s1 in
    let s2 = c.in_ok-write_expanded_s.ensures.s2 in
    let first = rw E at s1 in
    let second = rw E at s2 in
    let given : AreSampled p H g.G.Xof.front g.row.K g.row.L c.seed_at-rho.result seed (Some parts.0) (Some c.write_expanded_s.new.s1) (Some c.write_expanded_s.new.s2) =
    record { rows = c.requires.rows; columns = c.requires.columns; matrix = parts.1; first = first; second = second } in
    record {
      keys = rw c.seed_at.ensures (generated-some p H g.G.Xof.front c.args.xi.now c.seed_at-rho.result seed _ _ g.row.K g.row.L parts.0 c.write_expanded_s.new.s1 c.write_expanded_s.new.s2
          c.write_key_parts.new.t1 c.write_key_parts.new.t0 (seeds-here g (goal.at.returns g c).After-seed_at-rho_prime) given parts.2.0 parts.2.1 refl);
      first = small_vector-parts c.args.p.now _ _ _ _ c.write_expanded_s.new.s1 (search rules) first;
      second = small_vector-parts c.args.p.now _ _ _ _ c.write_expanded_s.new.s2 (search rules) second;
      high = c.in_ok-write_key_parts.ensures.high;
      low = c.in_ok-write_key_parts.ensures.low;
    }
