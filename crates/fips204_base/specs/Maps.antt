-- What is made coefficient by coefficient: cited by no public clause of `fips204`; nobody has to believe it.
use Rattle.std.specs.Prelude.{◌≡◌, ℕ, ◌<◌, ℤ, List}
use Rattle.fips204_base.specs.Bounds.{coefficient_of}
use Rattle.fips204_base.specs.Vectors.{vector_of}
use Rattle.fips204_base.specs.declared.types.R.{R}

-- coefficient by coefficient, the first k polynomials of a vector are made of those of two others
abbrev pub AreZipped : (ℤ → ℤ → ℤ → Type 0) → ℕ → List R → List R → List R → Type 0
AreZipped Made k v w out = (r n : ℕ) → r < k → n < 256 → Made (coefficient_of v r n) (coefficient_of w r n) (coefficient_of out r n)

-- where what is made at each place is that of a function of the place, the vector is the one of this function
abbrev pub IsDeterminedBy : (ℕ → ℕ → ℤ → Type 0) → ℕ → List R → Type 0
IsDeterminedBy Made k out = (g : ℕ → ℕ → ℤ) → ((r n : ℕ) (y : ℤ) → r < k → n < 256 → Made r n y → y ≡ g r n) → out ≡ vector_of k g
