use Rattle.std.proofs.Common.{◌≡◌, ◌<◌, ℕ, [], length, map, get_or, Err}
use Rattle.fips204.proofs.Names.{SamplingLimit, plain, sign_prepared}
use Rattle.fips204.proofs.keys.prepared.PreparedPrivateKey.sign_each.Given as goal

abbrev pub invariant-loop-i : goal.invariant-loop-i
invariant-loop-i g l = record {
  size : length l.out ≡ length l.messages;
  signed : (k : ℕ) → k < l.i
      → get_or l.out k (Err SamplingLimit) ≡ sign_prepared g.S.Set.set g.H.Xof.front l.self (get_or l.seeds k []) (plain (get_or (map (λ m. m.now) l.messages) k []) l.ctx);
}
