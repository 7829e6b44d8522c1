use Rattle.std.proofs.Common.{◌≡◌, ◌<◌, ℕ, [], length, map, get_or, false, IsTrue, ◌↔◌}
use Rattle.fips204.proofs.Names.{plain, VerifiesPrepared}
use Rattle.fips204.proofs.keys.prepared.PreparedPublicKey.verify_each.Given as goal

abbrev pub invariant-loop-i : goal.invariant-loop-i
invariant-loop-i g l = record {
  size : length l.out ≡ length l.messages;
  judged : (k : ℕ) → k < l.i
      → IsTrue (get_or l.out k false) ↔ VerifiesPrepared g.S.Set.set g.H.Xof.front l.self (get_or l.signatures k []) (plain (get_or (map (λ m. m.now) l.messages) k []) l.ctx);
}
