use Rattle.std.proofs.Common.{ℤ, ◌≤ℤ◌, pos, rules}
use Rattle.std.proofs.lemmas.List.Elements.{All-replicate}
use Rattle.mldsa_bench.proofs.arithmetic.coefficients.fields_of_ten_bits.Goals as goal

pub simple_bit_pack-requires-clause-range : goal.simple_bit_pack-requires-clause-range
simple_bit_pack-requires-clause-range _ _ = All-replicate (λ (x : ℤ). (pos 0 ≤ℤ x) × (x ≤ℤ pos 1023)) 256 (pos 1023) (search rules)
