-- A device and its mark.
use Rattle.std.specs.Prelude.{ℕ, List, Option, Bool, refl}
use Rattle.std.specs.Io.KnownBytes.{Keeps}
use Rattle.std.specs.Coded.{Coded, code_by, coded×, coded_bool}

-- a device, and whether one of its calls failed
pub record MarkedDevice (D : Type 0) : Type 0 where
  pub device : D
  pub failed : Bool

-- a marked device is stored as the pair of its fields
abbrev pub marked_code : {D : Type 0} → Coded D → Coded (MarkedDevice D)
marked_code {D} code =
    code_by (D × Bool) (coded× code coded_bool) (λ m. (m.device, m.failed)) (λ p. record { device = p.0; failed = p.1 }) (λ _. refl)

-- nothing was written to a marked writer
abbrev pub KeepsWritten : {D : Type 0} → (D → Option (List ℕ)) → MarkedDevice D → MarkedDevice D → Type 0
KeepsWritten contents before after = Keeps (contents before.device) (contents after.device)
