-- What a command takes of a source of a message. `gives` ties what a call returns, and the room that it filled, to the source before and after it.
use Rattle.std.specs.Prelude.{◌≡◌, ◌⊎◌, ◌≤◌, ◌<◌, ◌++◌, ℕ, List, [], length, take, Option, Some, None, MatchOption}
use Rattle.std.specs.Io.KnownBytes.{Consumes, IsAtEnd, Keeps}

-- a call takes bytes of what the source has left, where it tells its bytes: none only at the end or with no room, or where it failed
abbrev pub GivesPiece : Option (List ℕ) → Option (List ℕ) → Option ℕ → List ℕ → Type 0
GivesPiece old new given room =
    MatchOption given (Keeps old new) (λ n. (n ≤ length room) × Consumes old new (take n room) × (n ≡ 0 → 0 < length room → IsAtEnd new))

-- calls gave these bytes, piece by piece, and left the source so
pub data Gave {S : Type 0} (gives : S → Option ℕ → List ℕ → S → Type 0) (old : S) : List ℕ → S → Type 0 where
  nothing : Gave gives old [] old
  piece : (given : List ℕ) (mid new : S) (count : ℕ) (room : List ℕ)
      → Gave gives old given mid → gives mid (Some count) room new → Gave gives old (given ++ take count room) new

-- calls gave this message, and then one gave nothing: it is all that the source had left, where it tells its bytes
pub record GivesAll {S : Type 0} (gives : S → Option ℕ → List ℕ → S → Type 0) (remaining : S → Option (List ℕ)) (old new : S) (message : List ℕ) : Type 0 where
  pub last : S
  pub room : List ℕ
  pub gave : Gave gives old message last
  pub nothing : gives last (Some 0) room new
  pub some : 0 < length room
  pub taken : Consumes (remaining old) (remaining new) message
  pub ended : IsAtEnd (remaining new)

-- the message was not read: calls gave some bytes, and then one failed; or the bytes came in 2^64 - 1 pieces, after which no more are asked for
pub record FailsToGive {S : Type 0} (gives : S → Option ℕ → List ℕ → S → Type 0) (old new : S) : Type 0 where
  pub given : List ℕ
  pub last : S
  pub gave : Gave gives old given last
  pub failed : ((room : List ℕ) × gives last None room new) ⊎ ((last ≡ new) × (18446744073709551615 ≤ length given))
