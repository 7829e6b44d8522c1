-- What contracts say of a hasher and of a reader.
use Rattle.std.specs.Prelude.{ℕ, List}
use Rattle.shake.specs.Shake.{IsAbsorbed, next_bytes}
use Rattle.shake.specs.declared.sponge.Shake.{Shake}
use Rattle.shake.specs.declared.sponge.ShakeReader.{ShakeReader}

-- the message that the hasher has taken is m
abbrev pub Holds : {rate : ℕ} → Shake rate → List ℕ → Type 0
Holds {rate} hasher m = IsAbsorbed rate hasher.lanes hasher.block hasher.used m

-- the next d bytes of the reader
abbrev pub next : {rate : ℕ} → ShakeReader rate → ℕ → List ℕ
next {rate} reader d = next_bytes rate reader.lanes reader.block reader.given d
