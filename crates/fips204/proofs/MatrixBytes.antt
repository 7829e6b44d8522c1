-- The bytes of a matrix: rows, their entries, and the words of these.
use Rattle.std.proofs.Common.{◌≡◌, ◌∙◌, ◌<◌, ◌≤◌, ◌≤ℤ◌, ◌+◌, ◌*◌, ◌^◌, ℕ, ℤ, pos, nat_abs, List, ◌++◌, length, take, drop, get_or, ap, sym, arith, w32, length-append, length-take, append_assoc, refl, inl, inr}
use Rattle.std.proofs.lemmas.List.{take-append-drop, get_or-take, get_or-drop}
use Rattle.std.proofs.lemmas.Int.{ints}
use Rattle.std.proofs.lemmas.Nat.{from_le_bytes-to_le_bytes_4}
use Rattle.std.specs.Int.{to_le_bytes, from_le_bytes}
use Rattle.std.specs.Prelude.{Option, MatchOption, Some, None}
use Rattle.fips204_base.proofs.EncodedParts.{part, width_4095_4096}
pub use Rattle.fips204_base.proofs.Pieces.{Reads, length-put_mid, piece-within, piece_more, put_piece, reads_all, reads_more, unread}
use Rattle.fips204_base.proofs.Pieces.{length-pieces}
use Rattle.fips204_base.proofs.VectorBytes.{vector-length}
use Rattle.fips204_base.specs.Bounds.{TransformsWithin}
use Rattle.fips204_base.specs.Vectors.{MatrixWithin}
use Rattle.fips204.specs.PreparedBytes.{entry_bytes, row_bytes, matrix_bytes, IsEntry, IsRow, IsMatrix, IsPreparedPublicOf, IsPreparedPrivateOf}
use Rattle.fips204.specs.ParameterSets.{private_key_length}
use Rattle.fips204.proofs.ParameterSets.{of_each_set, matrix_room}
use Rattle.fips204.proofs.Names.{ParameterSet, IsSet, T, cases_lt, get_or_past, PublicParts, PrivateParts, ArePublicParts, ArePrivateParts, PreparedPublic, PreparedPrivate, public_key_bytes, private_key_bytes, vector_bytes, width, bit_length}

-- the bytes of a piece are bytes
pub small_piece : (at n : ℕ) (bytes : List ℕ) → ((i : ℕ) → get_or bytes i 0 < 256) → (i : ℕ) → get_or (take n (drop at bytes)) i 0 < 256
small_piece at n bytes small i = elim (cases_lt i n) [
  | inl h ↦ rw (get_or-take n (drop at bytes) i 0 h ∙ get_or-drop at bytes i 0) (small (at + i))
  | inr h ↦ rw (get_or_past (take n (drop at bytes)) i 0 (omega (arith, length-take n (drop at bytes), h))) (omega arith)
]

-- ---- words, entries, rows

abbrev pub IsValue : ℤ → Type 0
IsValue x = (pos 0 ≤ℤ x) × (x ≤ℤ pos 8380416)

abbrev pub value_bytes : ℤ → List ℕ
value_bytes x = to_le_bytes w32 (nat_abs x)

pub length-value : (x : ℤ) → IsValue x → length (value_bytes x) ≡ 4
length-value x is = refl

pub length-entry : (t : T) → IsEntry t → length (entry_bytes t) ≡ 1024
length-entry t (count, values) = length-pieces IsValue value_bytes 4 t.0 length-value values ∙ omega (arith, count)

pub length-row : (l : ℕ) (row : List T) → IsRow l row → length (row_bytes row) ≡ 1024 * l
length-row l row (count, entries) = length-pieces IsEntry entry_bytes 1024 row length-entry entries ∙ ap (λ n. 1024 * n) count

pub length-matrix : (k l : ℕ) (a : List (List T)) → IsMatrix k l a → length (matrix_bytes a) ≡ 1024 * l * k
length-matrix k l a (count, rows) = length-pieces (IsRow l) row_bytes (1024 * l) a (length-row l) rows ∙ ap (λ n. 1024 * l * n) count

-- a word of q or more is that of no value
pub no_value : (word : ℕ) (bytes : List ℕ) → 8380417 ≤ word → word < 2 ^ 32 → to_le_bytes w32 word ≡ bytes → (x : ℤ) → IsValue x → value_bytes x ≡ bytes → ⊥
no_value word bytes large small is x (low, high) same =
    let value : nat_abs x < 2 ^ 32 = omega (arith, ints, low, high) in
    let equal : nat_abs x ≡ word = sym (from_le_bytes-to_le_bytes_4 (nat_abs x) value) ∙ ap (from_le_bytes w32) (same ∙ sym is) ∙ from_le_bytes-to_le_bytes_4 word small in
    omega (arith, ints, low, high, equal, large)

-- values in range are within it
pub row_within : (l : ℕ) (row : List T) → IsRow l row → TransformsWithin 8380416 row
row_within l row (count, entries) s e m i f n =
    let value = ((entries s e m).1 i f n) in
    omega (arith, ints, value.0, value.1)

pub matrix_within : (k l : ℕ) (a : List (List T)) → IsMatrix k l a → MatrixWithin 8380416 a
matrix_within k l a (count, rows) r d h s e m i f n =
    let value = (((rows r d h).1 s e m).1 i f n) in
    omega (arith, ints, value.0, value.1)

-- ---- prepared keys

-- the parts of a public key's bytes, and of a private key's
pub length-public : (k : ℕ) (pk : PublicParts) → ArePublicParts k pk → length (public_key_bytes pk.rho pk.t1) ≡ 32 + 320 * k
unfolding bit_length
length-public k pk are = length-append pk.rho (vector_bytes 0 1023 pk.t1) ∙ omega (arith, are.rho, vector-length k 0 1023 pk.t1 are.t1)

pub length-private : (eta k l : ℕ) (sk : PrivateParts) → ArePrivateParts eta k l sk
    → length (private_key_bytes eta sk) ≡ 128 + 32 * width (pos eta) (pos eta) * l + 32 * width (pos eta) (pos eta) * k + 416 * k
length-private eta k l sk are =
    let s1 = vector-length l eta eta sk.s1 are.s1 in
    let s2 = vector-length k eta eta sk.s2 are.s2 in
    let t0 : length (vector_bytes 4095 4096 sk.t0) ≡ 32 * 13 * k = vector-length k 4095 4096 sk.t0 are.t0 ∙ ap (λ w. 32 * w * k) width_4095_4096 in
    simp length-append (omega (arith, are.rho, are.key, are.tr, s1, s2, t0))

-- the parts of a prepared key's bytes
pub public_cut : (k l n : ℕ) (bytes : List ℕ) (pk : PreparedPublic) → n ≡ 32 + 320 * k → IsPreparedPublicOf k l bytes pk
    → (take n bytes ≡ public_key_bytes pk.parts.rho pk.parts.t1) × (take 64 (drop n bytes) ≡ pk.parts.tr) × (drop 64 (drop n bytes) ≡ matrix_bytes pk.matrix)
public_cut k l n bytes pk size is =
    let key = public_key_bytes pk.parts.rho pk.parts.t1 in
    let front = part n bytes key _ (sym is.encoding ∙ append_assoc key pk.parts.tr (matrix_bytes pk.matrix)) (length-public k pk.parts is.parts ∙ sym size) in
    let (tr, matrix) = part 64 (drop n bytes) pk.parts.tr (matrix_bytes pk.matrix) front.1 is.parts.tr in
    (front.0, tr, matrix)

pub private_cut : (eta k l n : ℕ) (bytes : List ℕ) (sk : PreparedPrivate) → n ≡ length (private_key_bytes eta sk.parts) → IsPreparedPrivateOf eta k l bytes sk
    → (take n bytes ≡ private_key_bytes eta sk.parts) × (drop n bytes ≡ matrix_bytes sk.matrix)
private_cut eta k l n bytes sk size is = part n bytes (private_key_bytes eta sk.parts) (matrix_bytes sk.matrix) (sym is.encoding) (sym size)

-- the bytes of a prepared key from those of its parts
pub public_joined : (n : ℕ) (bytes key tr matrix : List ℕ) → key ≡ take n bytes → tr ≡ take 64 (drop n bytes) → matrix ≡ drop 64 (drop n bytes) → key ++ tr ++ matrix ≡ bytes
public_joined n bytes key tr matrix e f g =
    append_assoc key tr matrix ∙ rw (e, f, g) (ap (λ rest. take n bytes ++ rest) (take-append-drop 64 (drop n bytes)) ∙ take-append-drop n bytes)

pub private_joined : (n : ℕ) (bytes key matrix : List ℕ) → key ≡ take n bytes → matrix ≡ drop n bytes → key ++ matrix ≡ bytes
private_joined n bytes key matrix e f = rw (e, f) (take-append-drop n bytes)

-- the prepared key with a matrix that was found in the bytes, or none where there is none
pub public_found : {X : Type 0} (P : List (List T) → X → Type 0) (Q : PreparedPublic → X → Type 0) (k l n : ℕ) (bytes matrix : List ℕ) (parts : PublicParts) (answer : Option X) → n ≡ 32 + 320 * k
    → ArePublicParts k parts → public_key_bytes parts.rho parts.t1 ≡ take n bytes → parts.tr ≡ take 64 (drop n bytes) → matrix ≡ drop 64 (drop n bytes)
    → ((a : List (List T)) (x : X) → P a x → Q record { parts = parts; matrix = a } x)
    → MatchOption answer ((b : List (List T)) → IsMatrix k l b → matrix_bytes b ≡ matrix → ⊥) (λ x. (a : List (List T)) × IsMatrix k l a × (matrix_bytes a ≡ matrix) × P a x)
    → MatchOption answer ((pk : PreparedPublic) → IsPreparedPublicOf k l bytes pk → ⊥) (λ x. (pk : PreparedPublic) × IsPreparedPublicOf k l bytes pk × Q pk x)
public_found P Q k l n bytes matrix parts None size are key tr rest carry none = λ pk is. none pk.matrix is.matrix (sym (rest ∙ (public_cut k l n bytes pk size is).2))
public_found P Q k l n bytes matrix parts (Some x) size are key tr rest carry (a, is, same, holds) = (
  record { parts = parts; matrix = a },
  record { parts = are; matrix = is; encoding = public_joined n bytes (public_key_bytes parts.rho parts.t1) parts.tr (matrix_bytes a) key tr (same ∙ rest) },
  carry a x holds,
)

pub private_found : {X : Type 0} (P : List (List T) → X → Type 0) (Q : PreparedPrivate → X → Type 0) (eta k l n : ℕ) (bytes matrix : List ℕ) (parts : PrivateParts) (answer : Option X)
    → ((sk : PrivateParts) → ArePrivateParts eta k l sk → n ≡ length (private_key_bytes eta sk))
    → ArePrivateParts eta k l parts → private_key_bytes eta parts ≡ take n bytes → matrix ≡ drop n bytes
    → ((a : List (List T)) (x : X) → P a x → Q record { parts = parts; matrix = a } x)
    → MatchOption answer ((b : List (List T)) → IsMatrix k l b → matrix_bytes b ≡ matrix → ⊥) (λ x. (a : List (List T)) × IsMatrix k l a × (matrix_bytes a ≡ matrix) × P a x)
    → MatchOption answer ((sk : PreparedPrivate) → IsPreparedPrivateOf eta k l bytes sk → ⊥) (λ x. (sk : PreparedPrivate) × IsPreparedPrivateOf eta k l bytes sk × Q sk x)
private_found P Q eta k l n bytes matrix parts None long are key rest carry none = λ sk is. none sk.matrix is.matrix (sym (rest ∙ (private_cut eta k l n bytes sk (long sk.parts is.parts) is).1))
private_found P Q eta k l n bytes matrix parts (Some x) long are key rest carry (a, is, same, holds) = (
  record { parts = parts; matrix = a },
  record { parts = are; matrix = is; encoding = private_joined n bytes (private_key_bytes eta parts) (matrix_bytes a) key (same ∙ rest) },
  carry a x holds,
)

-- the length of a private key of a set is that of its encoding
pub length-private_at : (p : ParameterSet) (k l n : ℕ) (sk : PrivateParts) → k ≡ p.k → l ≡ p.l → n ≡ private_key_length p → ArePrivateParts p.eta k l sk → n ≡ length (private_key_bytes p.eta sk)
length-private_at p k l n sk rows columns size are =
    size ∙ sym (length-private p.eta k l sk are ∙ rw (rows, columns) (omega arith))

-- what writing and reading a matrix of a set asks
pub matrix_asks : (p : ParameterSet) (k l size : ℕ) → IsSet p → k ≡ p.k → l ≡ p.l → size ≡ 1024 * p.l * p.k
    → (k * (l * 1024) < 9223372036854775808) × ((l * 1024 < 9223372036854775808) × (((k ≤ 8) × (l ≤ 7)) × (size ≡ 1024 * l * k)))
matrix_asks p k l size known rows columns room =
    let few : (p.k ≤ 8) × (p.l ≤ 7) = of_each_set (λ q. (q.k ≤ 8) × (q.l ≤ 7)) p known (omega arith, omega arith) (omega arith, omega arith) (omega arith, omega arith) in
    let shape : (k ≤ 8) × (l ≤ 7) = (omega (arith, rows, few.0), omega (arith, columns, few.1)) in
    (matrix_room k l shape.0 shape.1, (omega (arith, shape.1), (shape, rw (rows, columns) room)))
