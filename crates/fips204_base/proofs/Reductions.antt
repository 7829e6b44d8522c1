-- Products in Montgomery form, and centring modulo q.
use Rattle.std.proofs.Common.{◌≡◌, ℕ, zero, suc, ◌<◌, ◌*◌, ◌%◌, ℤ, pos, ◌-ℤ◌, nat_le, if◌then◌else◌, [], ◌∷◌, neg_ℤ, arith, ap, refl, negsuc}
use Rattle.std.proofs.lemmas.Int.{ints}
use Rattle.fips204_base.specs.Residues.{residue, IsCongruent, centred_modulo, centred}
use Rattle.fips204_base.specs.Lanes.{lane}
use Rattle.fips204_base.proofs.Residues.{congruent_refl, congruent_of, congruent_trans, congruent_mod, congruent_mul, residue_is, congruent_without_word}

-- Products in Montgomery form.

-- a fact of a number and a result, where each is the only lane
pub only_lane : (P : ℤ → ℤ → Type 0) (x r stored : ℤ) → stored ≡ r → P x r → (j : ℕ) → j < 1 → P (lane (x ∷ []) j) (lane (stored ∷ []) j)
only_lane P x r stored e p zero h = rw e p
only_lane P x r stored e p (suc j) h = absurd (omega arith)

-- the product with a factor in Montgomery form
pub factor_taken : (x r factor : ℤ) (z : ℕ) → IsCongruent (residue factor) (z * 4294967296) → IsCongruent (4294967296 * residue r) (residue x * residue factor) → IsCongruent (residue r) (z * residue x)
factor_taken x r factor z e s =
    congruent_without_word (congruent_trans s (congruent_trans (congruent_mul (congruent_refl (residue x)) e) (congruent_of (turn (residue x) z))))
  where
    turn : (a b : ℕ) → a * (b * 4294967296) ≡ 4294967296 * (b * a)
    turn a b = omega arith

pub factor_is : (factor : ℤ) (z : ℕ) → factor ≡ pos (z * 4294967296 % 8380417) → IsCongruent (residue factor) (z * 4294967296)
factor_is factor z e = congruent_trans (congruent_of (ap residue e)) (congruent_trans (congruent_mod (z * 4294967296 % 8380417)) (congruent_mod (z * 4294967296)))

pub minus_factor_is : (factor : ℤ) (z : ℕ) → factor ≡ neg_ℤ (pos (z * 4294967296 % 8380417)) → IsCongruent (residue factor) (8380416 * z * 4294967296)
minus_factor_is factor z e = record { same = omega (arith, ints, e, (residue_is factor).same) }

-- The centred value modulo q is the centred value modulo any number, at q.

-- a residue is its own residue
pub residue-again : (x : ℤ) → residue x % 8380417 ≡ residue x
residue-again (pos n) = omega arith
residue-again (negsuc n) = omega arith

pub centred-modulo : (x : ℤ) → centred_modulo 8380417 (residue x) ≡ centred x
unfolding centred
centred-modulo x = refl

pub centred_is : (x : ℤ) → centred x ≡ (if nat_le (residue x) 4190208 then pos (residue x) else pos (residue x) -ℤ pos 8380417)
unfolding centred
centred_is x = rw (residue-again x) refl
