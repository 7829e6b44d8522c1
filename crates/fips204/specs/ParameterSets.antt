-- The parameter sets (FIPS 204, Tables 1 and 2).
use Rattle.std.specs.Prelude.{ℕ, pos, ◌≡◌, ◌⊎◌, ◌+◌, ◌*◌, ◌/◌, ◌-◌}
use Rattle.fips204_base.specs.Packing.{width}

-- the columns of Table 1; beta is tau eta
pub record ParameterSet : Type 0 where
  pub tau : ℕ
  pub lambda : ℕ
  pub gamma1 : ℕ
  pub gamma2 : ℕ
  pub k : ℕ
  pub l : ℕ
  pub eta : ℕ
  pub beta : ℕ
  pub omega : ℕ

abbrev pub set_44 : ParameterSet
set_44 = record { tau = 39; lambda = 128; gamma1 = 131072; gamma2 = 95232; k = 4; l = 4; eta = 2; beta = 78; omega = 80 }

abbrev pub set_65 : ParameterSet
set_65 = record { tau = 49; lambda = 192; gamma1 = 524288; gamma2 = 261888; k = 6; l = 5; eta = 4; beta = 196; omega = 55 }

abbrev pub set_87 : ParameterSet
set_87 = record { tau = 60; lambda = 256; gamma1 = 524288; gamma2 = 261888; k = 8; l = 7; eta = 2; beta = 120; omega = 75 }

-- one of the three
abbrev pub IsSet : ParameterSet → Type 0
IsSet p = (p ≡ set_44) ⊎ ((p ≡ set_65) ⊎ (p ≡ set_87))

abbrev pub public_key_length : ParameterSet → ℕ
public_key_length p = 32 + 320 * p.k

abbrev pub private_key_length : ParameterSet → ℕ
private_key_length p = 128 + 32 * ((p.l + p.k) * width (pos p.eta) (pos p.eta) + p.k * 13)

abbrev pub c_tilde_length : ParameterSet → ℕ
c_tilde_length p = p.lambda / 4

abbrev pub signature_length : ParameterSet → ℕ
signature_length p = c_tilde_length p + 32 * (p.l * width (pos (p.gamma1 - 1)) (pos p.gamma1)) + p.omega + p.k
