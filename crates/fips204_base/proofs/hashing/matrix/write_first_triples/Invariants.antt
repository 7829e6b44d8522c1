use Rattle.std.proofs.Common.{ℕ, ℤ, ◌≡◌, ◌<◌, ◌≤◌, pos, slice_index_or}
use Rattle.fips204_base.proofs.Names.{kept_triples, number, Keeps}
use Rattle.fips204_base.proofs.hashing.matrix.write_first_triples.Given as goal

abbrev pub invariant-loop-p : goal.invariant-loop-p
invariant-loop-p l = record {
  kept : Keeps l.values l.count (kept_triples l.triples l.p);
  few : l.count ≤ l.p;
  ahead : (i : ℕ) (d : ℤ) → l.p ≤ i → i < 256 → slice_index_or l.values i d ≡ pos (number l.triples i);
}
