use Rattle.std.proofs.Common.{ℤ, ◌≤ℤ◌, pos, replicate, All, rules}
use Rattle.std.proofs.lemmas.List.Elements.{All-replicate}
use Rattle.mldsa_bench.proofs.arithmetic.coefficients.parts_of_coefficients.Goals as goal

residues : (x : ℤ) → (pos 0 ≤ℤ x) × (x ≤ℤ pos 8380416) → All (λ y. (pos 0 ≤ℤ y) × (y ≤ℤ pos 8380416)) (replicate 256 x)
residues x = All-replicate (λ (y : ℤ). (pos 0 ≤ℤ y) × (y ≤ℤ pos 8380416)) 256 x

pub parts_of-requires : goal.parts_of-requires
parts_of-requires _ _ = residues (pos 4096) (search rules)

pub parts_of-requires-2 : goal.parts_of-requires-2
parts_of-requires-2 _ _ = residues (pos 4097) (search rules)

pub parts_of-requires-3 : goal.parts_of-requires-3
parts_of-requires-3 _ _ = residues (pos 8380416) (search rules)
