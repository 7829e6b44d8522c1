-- A byte out of a buffer, of a reader that tells its bytes.
use Rattle.std.proofs.Common.{◌≡◌, ◌≤◌, ℕ, List, [], ◌∷◌, length, take, drop, slice_set, Result, Ok, Option, Some, None, Bor, refl, sym, ◌∙◌, arith, rules}
use Rattle.std.specs.Prelude.{IfSome, IfOk}
use Rattle.std.specs.List.{slice_get}
use Rattle.std.specs.Io.KnownBytes.{Keeps, ReadConsumes}

-- nothing is left where the buffer stays empty
pub gave_none : {E : Type 0} (old new : Option (List ℕ)) (r : Result (Bor (List ℕ)) E) (s : Bor (List ℕ)) → r ≡ Ok s → Keeps old new
    → IfSome old (λ xs. IfOk r (λ b. length b.now ≡ 0 → xs ≡ [])) → (room : List ℕ) → length s.now ≡ 0 → IfSome old (λ xs. ReadConsumes {E = E} (Some xs) new (Ok 0) room)
gave_none None new r s is keeps end room none = search rules
gave_none (Some xs) None r s is keeps end room none = absurd keeps
gave_none (Some xs) (Some ys) r s is keeps end room none =
    let all : length s.now ≡ 0 → xs ≡ [] = rw is at end in
    (sym keeps, λ _ _. keeps ∙ all none)

-- the first byte of a buffer is the first that the reader told, and no other is taken
front : (xs buffer : List ℕ) (byte : ℕ) → take (length buffer) xs ≡ buffer → slice_get buffer 0 ≡ Some byte → xs ≡ byte ∷ drop 1 xs
front xs [] byte e is = absurd cc
front [] (x ∷ rest) byte e is = absurd cc
front (y ∷ ys) (x ∷ rest) byte e is = cc

pub gave_one : {E : Type 0} (old held new : Option (List ℕ)) (limit : Option ℕ) (r : Result (Bor (List ℕ)) E) (s : Bor (List ℕ)) (byte : ℕ) → r ≡ Ok s → Keeps old held
    → IfSome old (λ _. IfOk r (λ b. IfSome limit (λ n. length b.now ≤ n))) → IfSome old (λ xs. IfOk r (λ b. take (length b.now) xs ≡ b.now))
    → slice_get s.now 0 ≡ Some byte → IfSome held (λ xs. IfSome limit (λ n. 1 ≤ n) → new ≡ Some (drop 1 xs)) → (room : List ℕ) → length room ≡ 1
    → IfSome old (λ xs. ReadConsumes {E = E} (Some xs) new (Ok 1) (slice_set room 0 byte))
gave_one None held new limit r s byte is keeps few known first drops room single = search rules
gave_one (Some xs) None new limit r s byte is keeps few known first drops room single = absurd keeps
gave_one (Some xs) (Some ys) new limit r s byte is keeps few known first drops room single =
    let some : IfSome limit (λ n. length s.now ≤ n) = rw is at few in
    let starts : take (length s.now) xs ≡ s.now = rw is at known in
    let split = front xs s.now byte starts first in
    let one = filled s.now byte first in
    let left : new ≡ Some (drop 1 ys) = drops (within limit some one) in
    (rw left (rw (written room single) (rw keeps split)), λ none. absurd cc)
  where
    within : (most : Option ℕ) → IfSome most (λ n. length s.now ≤ n) → 1 ≤ length s.now → IfSome most (λ n. 1 ≤ n)
    within None few one = search rules
    within (Some n) few one = omega (arith, few, one)

    written : (xs : List ℕ) → length xs ≡ 1 → take 1 (slice_set xs 0 byte) ≡ byte ∷ []
    written [] e = absurd cc
    written (x ∷ xs) e = refl

    filled : (buffer : List ℕ) (b : ℕ) → slice_get buffer 0 ≡ Some b → 1 ≤ length buffer
    filled [] b e = absurd cc
    filled (x ∷ rest) b e = omega arith
