-- A message that is hashed as it is given.
use Rattle.std.proofs.Common.{ℕ, ◌+◌, ◌≤◌, ◌<◌, List, [], ◌++◌, length, take, Option, Some, arith}
use Rattle.std.proofs.lemmas.List.{length-append, length-take}
use Rattle.std.proofs.KnownBytes.{Consumes-nil, Consumes-trans}
use Rattle.std.specs.Io.KnownBytes.{Consumes}
use Rattle.fips204_shake.specs.Pieces.{Hashes}
use Rattle.fips204_shake.specs.declared.pieces.MessageHasher.{MessageHasher}
use Rattle.mlsign_engine.specs.Messages.{GivesPiece, Gave, nothing, piece}

-- a source gave these bytes of a message, in so many pieces at most, and the hasher has taken them behind what frames them
pub record IsTaken {S : Type 0} (gives : S → Option ℕ → List ℕ → S → Type 0) (remaining : S → Option (List ℕ)) (old new : S) (tr context : List ℕ) (hasher : MessageHasher) (pieces : ℕ) : Type 0 where
  pub given : List ℕ
  pub gave : Gave gives old given new
  pub many : pieces ≤ length given
  pub consumed : Consumes (remaining old) (remaining new) given
  pub held : Hashes hasher tr context given

-- before the first piece
pub taken_none : {S : Type 0} (gives : S → Option ℕ → List ℕ → S → Type 0) (remaining : S → Option (List ℕ)) (old : S) (tr context : List ℕ) (hasher : MessageHasher)
    → Hashes hasher tr context [] → IsTaken gives remaining old old tr context hasher 0
taken_none gives remaining old tr context hasher held =
    record { given = []; gave = nothing; many = omega arith; consumed = Consumes-nil (remaining old); held = held }

longer : (given room : List ℕ) (count pieces : ℕ) → pieces ≤ length given → 0 < count → count ≤ length room → pieces + 1 ≤ length (given ++ take count room)
longer given room count pieces many some fits = omega (arith, length-append given (take count room), length-take count room)

-- after one more
pub taken_more : {S : Type 0} (gives : S → Option ℕ → List ℕ → S → Type 0) (remaining : S → Option (List ℕ)) (old mid new : S) (tr context room : List ℕ) (count pieces : ℕ)
    (before after : MessageHasher) → IsTaken gives remaining old mid tr context before pieces → gives mid (Some count) room new
    → GivesPiece (remaining mid) (remaining new) (Some count) room → 0 < count
    → ((tr context m : List ℕ) → Hashes before tr context m → Hashes after tr context (m ++ take count room)) → IsTaken gives remaining old new tr context after (pieces + 1)
taken_more gives remaining old mid new tr context room count pieces before after so_far call given some updates =
    record {
      given = so_far.given ++ take count room;
      gave = piece so_far.given mid new count room so_far.gave call;
      many = longer so_far.given room count pieces so_far.many some given.0;
      consumed = Consumes-trans (remaining old) (remaining mid) (remaining new) so_far.given (take count room) so_far.consumed given.1;
      held = updates tr context so_far.given so_far.held;
    }
