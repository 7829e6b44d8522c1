use Rattle.std.proofs.Common.{◌≡◌, ◌≤◌, ◌-◌, ◌*◌}
use Rattle.fips204.proofs.Names.{set_of}
use Rattle.fips204.proofs.Signing.{answer_from, tries}
use Rattle.fips204.proofs.ml_dsa.signing.SigningKey.sign_with.Given as goal

abbrev pub invariant-loop-n : goal.invariant-loop-n
invariant-loop-n g l =
    let f = tries (set_of l.p) g.H.Xof.front l.self.matrix l.self.parts l.mu l.mask_seed g.row.L in
    (g.row.L ≤ 7) × ((l.n * g.row.L ≤ 5698) × ((answer_from f 0 814 ≡ answer_from f l.n (814 - l.n)) × (l.signature ≡ l.fn.signature)))
