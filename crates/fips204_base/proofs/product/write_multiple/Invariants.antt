use Rattle.std.proofs.Common.{ℕ, ℤ, ◌≡◌, ◌<◌, ◌≤◌, ◌*◌, ◌%◌, List, length, get_or}
use Rattle.std.specs.Prelude.{nat_abs}
use Rattle.fips204_base.specs.Residues.{residue}
use Rattle.fips204_base.specs.PlainTransforms.{from_mont}
use Rattle.fips204_base.specs.Lanes.{lane}
use Rattle.fips204_base.specs.Bounds.{coefficient_at}
use Rattle.fips204_base.proofs.product.write_multiple.Given as goal

abbrev pub invariant-loop-n : goal.invariant-loop-n
invariant-loop-n l = record {
  size : length l.out ≡ 256;
  values : (i r : ℕ) (d : List ℤ) → i < l.n → r < 8
      → residue (lane (get_or l.out i d) r) ≡ from_mont (residue (coefficient_at l.c-inside.values i)) * residue (lane (get_or l.v-inside.values i d) r) % 8380417;
  small : (i r : ℕ) (d : List ℤ) → i < l.n → r < 8 → nat_abs (lane (get_or l.out i d) r) ≤ 8380416;
}
