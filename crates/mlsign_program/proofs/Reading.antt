-- A file that is hashed as it is read.
use Rattle.std.proofs.Common.{ℕ, List, [], ◌++◌, Option}
use Rattle.std.proofs.KnownBytes.{Consumes-nil, Consumes-trans}
use Rattle.std.specs.Io.KnownBytes.{Consumes}
use Rattle.sha2.specs.Hashers.{Holds256}
use Rattle.sha2.specs.declared.Sha256.{Sha256}

-- a reader gave these bytes, and the hasher holds them
pub record IsTaken (old new : Option (List ℕ)) (hasher : Sha256) : Type 0 where
  pub given : List ℕ
  pub consumed : Consumes old new given
  pub held : Holds256 hasher given

-- before the first piece
pub taken_none : (old : Option (List ℕ)) (hasher : Sha256) → Holds256 hasher [] → IsTaken old old hasher
taken_none old hasher held = record { given = []; consumed = Consumes-nil old; held = held }

-- after one more
pub taken_more : (old mid new : Option (List ℕ)) (piece : List ℕ) (before after : Sha256) → IsTaken old mid before → Consumes mid new piece
    → ((m : List ℕ) → Holds256 before m → Holds256 after (m ++ piece)) → IsTaken old new after
taken_more old mid new piece before after so_far given updates =
    record {
      given = so_far.given ++ piece;
      consumed = Consumes-trans old mid new so_far.given piece so_far.consumed given;
      held = updates so_far.given so_far.held;
    }
