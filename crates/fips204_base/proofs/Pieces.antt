-- Lists of bytes that are written or read piece by piece, where each piece is the bytes of an element and all have one size.
use Rattle.std.proofs.Common.{◌≡◌, ◌∙◌, ◌<◌, ◌≤◌, ◌+◌, ◌-◌, ◌*◌, ℕ, zero, suc, List, [], ◌∷◌, ◌++◌, length, take, drop, get_or, set, ap, sym, arith, length-append, length-drop, length-set, length-take, refl}
use Rattle.std.proofs.lemmas.Grind.{common_steps}
use Rattle.std.proofs.lemmas.List.{take_all, take_at, take_more, take_more_set, drop_at, drop_more, take-append-drop, length-take-le, flat_map_more}
use Rattle.std.proofs.lemmas.List.Concat.{flat_map-append}
use Rattle.std.proofs.lemmas.List.Elements.{All-push, All-take, All-head, All-tail, All-get_or, All-nil}
use Rattle.std.proofs.lemmas.Nat.{mul-le}
use Rattle.std.proofs.lemmas.Slice.{take-put_mid}
use Rattle.std.proofs.Math.Seq.{take-add}
use Rattle.std.specs.List.{All, flat_map}
use Rattle.fips204_base.proofs.Bits.{cut}
use borrow.Rule.Slice.PartMut.{put_mid}

-- ---- where a piece is

-- piece i of n pieces of one size ends within them
pub piece-within : (size i n len : ℕ) → len ≡ size * n → i < n → size * i + size ≤ len
piece-within size i n len all h = grind (arith, common_steps, mul-le)

-- a piece as code slices it
pub piece-sliced : (size at : ℕ) (bytes : List ℕ) → take (at + size - at) (drop at bytes) ≡ take size (drop at bytes)
piece-sliced size at bytes = let same : at + size - at ≡ size = omega arith in rw same refl

-- ---- writing

pub length-put_mid : {X : Type 0} (a k : ℕ) (xs ys : List X) → length ys ≡ k → a + k ≤ length xs → length (put_mid a k xs ys) ≡ length xs
length-put_mid a k xs ys e h = simp (length-append, length-take, length-drop) (omega (arith, e, h))

-- the start of the result is the start before and the piece
pub put_piece : {X : Type 0} (a k n : ℕ) (xs ys front : List X) → length ys ≡ k → a + k ≤ length xs → n ≡ a + k → take a xs ≡ front → take n (put_mid a k xs ys) ≡ front ++ ys
put_piece a k n xs ys front e h same before =
    take-put_mid a k xs ys n (omega (arith, same, e)) (omega (arith, h)) ∙ ap (λ l. l ++ ys) before

-- ---- the pieces of a list of elements

-- one piece more
pub piece_more : {X : Type 0} (f : X → List ℕ) (v : List X) (i : ℕ) (d : X) → i < length v → flat_map f (take (i + 1) v) ≡ flat_map f (take i v) ++ f (get_or v i d)
piece_more f v i d l = ap (flat_map f) (take_more v i d l) ∙ sym (flat_map_more f [] (take i v) (get_or v i d))

-- the pieces of n elements have n times their size
pub length-pieces : {X : Type 0} (P : X → Type 0) (f : X → List ℕ) (size : ℕ) (v : List X) → ((x : X) → P x → length (f x) ≡ size) → All P v → length (flat_map f v) ≡ size * length v
length-pieces P f size [] each all = omega arith
length-pieces P f size (x ∷ v) each all =
    let here = each x (All-head P x v all) in
    let rest = length-pieces P f size v each (All-tail P x v all) in
    length-append (f x) (flat_map f v) ∙ omega (arith, here, rest)

-- piece i
pub piece_at : {X : Type 0} (P : X → Type 0) (f : X → List ℕ) (size : ℕ) (v : List X) (i : ℕ) (d : X) → ((x : X) → P x → length (f x) ≡ size) → All P v → i < length v
    → take size (drop (size * i) (flat_map f v)) ≡ f (get_or v i d)
piece_at P f size v i d each all l =
    let x = get_or v i d in
    let front : length (flat_map f (take i v)) ≡ size * i = length-pieces P f size (take i v) each (All-take P i v all) ∙ ap (λ n. size * n) (length-take-le i v (omega arith)) in
    let parts : flat_map f v ≡ flat_map f (take i v) ++ (f x ++ flat_map f (drop (i + 1) v)) =
    ap (flat_map f) (sym (take-append-drop i v)) ∙ flat_map-append f (take i v) (drop i v) ∙ ap (λ l. flat_map f (take i v) ++ flat_map f l) (drop_more v i d l) in
    ap (λ l. take size (drop (size * i) l)) parts ∙ ap (take size) (drop_at (flat_map f (take i v)) (f x ++ flat_map f (drop (i + 1) v)) (size * i) front)
    ∙ take_at (f x) (flat_map f (drop (i + 1) v)) size (each x (All-get_or P v i d l all))

-- ---- reading

-- the first i of n elements are read from the bytes, and P holds of them
pub record Reads {X : Type 0} (P : X → Type 0) (f : X → List ℕ) (n size i : ℕ) (bytes : List ℕ) (v : List X) : Type 0 where
  pub count : length v ≡ n
  pub read : flat_map f (take i v) ≡ take (size * i) bytes
  pub holds : All P (take i v)

-- one more is read
pub reads_more : {X : Type 0} (P : X → Type 0) (f : X → List ℕ) (n size i : ℕ) (bytes : List ℕ) (v : List X) (w : X) → Reads P f n size i bytes v → i < n
    → f w ≡ take size (drop (size * i) bytes) → P w → Reads P f n size (i + 1) bytes (set v i w)
reads_more P f n size i bytes v w before h here holds =
    let more = take_more_set v i w (omega (arith, h, before.count)) in
    let next : size * i + size ≡ size * (i + 1) = omega arith in
    record {
      count = length-set v i w ∙ before.count;
      read = ap (flat_map f) more ∙ sym (flat_map_more f [] (take i v) w) ∙ rw (before.read, here) (sym (take-add (size * i) size bytes) ∙ ap (λ n. take n bytes) next);
      holds = rw more (All-push P (take i v) w before.holds holds);
    }

-- all are read
pub reads_all : {X : Type 0} (P : X → Type 0) (f : X → List ℕ) (n size i : ℕ) (bytes : List ℕ) (v : List X) → Reads P f n size i bytes v → i ≡ n → length bytes ≡ size * n
    → ((length v ≡ n) × All P v) × (flat_map f v ≡ bytes)
reads_all P f n size i bytes v r done room =
    let all : take i v ≡ v = take_all i v (omega (arith, done, r.count)) in
    let whole : take (size * i) bytes ≡ bytes = take_all _ bytes (rw done (omega (arith, room))) in
    ((r.count, rw all at r.holds), rw (all, whole) at r.read)

-- none has these bytes where no element has the bytes of piece i
pub unread : {X : Type 0} (P : X → Type 0) (f : X → List ℕ) (n size i : ℕ) (bytes : List ℕ) (d : X) → ((x : X) → P x → length (f x) ≡ size) → i < n
    → ((x : X) → P x → f x ≡ take size (drop (size * i) bytes) → ⊥) → (v : List X) → (length v ≡ n) × All P v → flat_map f v ≡ bytes → ⊥
unread P f n size i bytes d each h none v (count, all) same =
    let room : i < length v = omega (arith, h, count) in
    none (get_or v i d) (All-get_or P v i d room all) (sym (ap (λ b. take size (drop (size * i) b)) (sym same) ∙ piece_at P f size v i d each all room))

-- there are n elements where each piece is one of an element
pub gathered : {X : Type 0} (P : X → Type 0) (f : X → List ℕ) (size n : ℕ) (bytes : List ℕ) → ((i : ℕ) → i < n → (x : X) × P x × (f x ≡ take size (drop (size * i) bytes)))
    → (v : List X) × ((length v ≡ n) × All P v) × (flat_map f v ≡ take (size * n) bytes)
gathered P f size zero bytes each = let none : size * 0 ≡ 0 = omega arith in ([], (refl, All-nil P), rw none refl)
gathered P f size (suc n) bytes each =
    let (v, (count, all), same) = gathered P f size n bytes (λ i h. each i (omega (arith, h))) in
    let (x, holds, here) = each n (omega arith) in
    let next : size * n + size ≡ size * suc n = omega arith in (
      v ++ x ∷ [],
      (length-append v (x ∷ []) ∙ omega (arith, count), All-push P v x all holds),
      sym (flat_map_more f [] v x) ∙ rw (same, here) (sym (take-add (size * n) size bytes) ∙ ap (λ m. take m bytes) next),
    )

-- ---- the bytes of elements tell them where those of each do
pub same_pieces : {X : Type 0} (P : X → Type 0) (f : X → List ℕ) (size : ℕ) (v w : List X) → ((x : X) → P x → length (f x) ≡ size) → ((x y : X) → P x → P y → f x ≡ f y → x ≡ y)
    → length v ≡ length w → All P v → All P w → flat_map f v ≡ flat_map f w → v ≡ w
same_pieces P f size [] [] each tells long one two same = refl
same_pieces P f size [] (y ∷ w) each tells long one two same = absurd (omega (arith, long))
same_pieces P f size (x ∷ v) [] each tells long one two same = absurd (omega (arith, long))
same_pieces P f size (x ∷ v) (y ∷ w) each tells long one two same =
    let a = All-head P x v one in
    let b = All-head P y w two in
    let both = cut (f x) (f y) (flat_map f v) (flat_map f w) size (each x a) (each y b) same in
    let head = tells x y a b both.0 in
    let tail = same_pieces P f size v w each tells (omega (arith, long)) (All-tail P x v one) (All-tail P y w two) both.1 in
    cc
