-- What a hasher of a message in pieces has taken: tr, and the framed message so far (FIPS 204, Algorithms 2 and 7).
use Rattle.std.specs.Prelude.{◌≡◌, ◌<◌, ◌≤◌, List, ℕ, [], ◌++◌, length, Result, Err, MatchResult}
use Rattle.fips204.specs.Framing.{frame}
use Rattle.fips204_base.specs.declared.fault.Fault.TheVariants.{SignCtx}
use Rattle.fips204_shake.specs.Bytes.{IfSized}
use Rattle.fips204_shake.specs.declared.bytes.refusal.Buffer.{Buffer}
use Rattle.fips204_shake.specs.declared.bytes.refusal.Refusal.{Refusal}
use Rattle.fips204_shake.specs.declared.bytes.refusal.Refusal.TheVariants.{Library}
use Rattle.fips204_shake.specs.declared.pieces.MessageHasher.{MessageHasher}
use Rattle.shake.specs.Pieces.{Holds}
use Rattle.shake.specs.State.{IsSaved}

-- the hasher, or a saved one, under tr and a context has taken this part of the message
abbrev pub Hashes : MessageHasher → List ℕ → List ℕ → List ℕ → Type 0
Hashes self tr context m = Holds self.hasher (tr ++ frame 0 context m)

abbrev pub HashesSaved : List ℕ → List ℕ → List ℕ → List ℕ → Type 0
HashesSaved saved tr context m = IsSaved 136 saved (tr ++ frame 0 context m)

-- begun under the tr of a key in bytes, which has the wanted length, and a context of at most 255 bytes
abbrev pub Begins : ℕ → Buffer → List ℕ → List ℕ → List ℕ → Result MessageHasher Refusal → Type 0
Begins wanted which key tr context answer =
    IfSized wanted which key
    (MatchResult answer (λ hasher. (length context ≤ 255) × Hashes hasher tr context []) (λ why. (255 < length context) × (why ≡ Library SignCtx)))
    (λ why. answer ≡ Err why)
