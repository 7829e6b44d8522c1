-- The bytes of prepared keys tell the keys.
use Rattle.std.proofs.Common.{◌≡◌, ◌∙◌, ◌+◌, ◌*◌, ◌^◌, ◌<◌, ℕ, ℤ, nat_abs, List, [], ◌∷◌, ◌++◌, length, get_or, map, ap, sym, subst, arith, refl, w32, length-append, Result, Ok, Err, Some}
use Rattle.std.specs.Prelude.{MatchResult, ⊤}
use Rattle.std.proofs.lemmas.Int.{ints}
use Rattle.std.proofs.lemmas.Nat.{from_le_bytes-to_le_bytes_4}
use Rattle.std.specs.Int.{from_le_bytes}
use Rattle.std.specs.List.{range_with_len}
use Rattle.fips204_base.proofs.Sampled.{all_present-at, matrix_entry-residues}
use Rattle.fips204_base.specs.Sampling.{all_present, matrix_entry}
use Rattle.fips204.specs.PreparedBytes.{entry_bytes, row_bytes, matrix_bytes, IsEntry, IsRow, IsMatrix, prepared_public_bytes, prepared_private_bytes, IsPreparedPublicOf, IsPreparedPrivateOf, PreparedThroughBytes}
use Rattle.fips204.specs.ParameterSets.{private_key_length}
use Rattle.fips204.proofs.MatrixBytes.{IsValue, value_bytes, length-value, length-entry, length-row, length-matrix, length-public, length-private_at, length-private, private_cut, public_cut}
use Rattle.fips204_base.proofs.Pieces.{same_pieces}
use Rattle.fips204.proofs.Names.{Fault, T, ParameterSet, IsSet, PublicParts, PrivateParts, ArePublicParts, ArePrivateParts, PreparedPublic, PreparedPrivate, prepared_public, prepared_private, public_key_bytes, private_key_bytes, sampled_matrix}
use Rattle.fips204.proofs.Prepared.{private_parts, public_parts}
use Rattle.fips204.proofs.WholeKeys.{one_public_key, bytes_tell_keys}

-- ---- a matrix that was sampled

sampled_is_matrix : (G : List ℕ → List ℕ) (rho : List ℕ) (k l : ℕ) (a : List (List T)) → sampled_matrix G rho k l ≡ Some a → IsMatrix k l a
unfolding sampled_matrix
sampled_is_matrix G rho k l a e =
    let entry = λ (r s : ℕ). matrix_entry (G (rho ++ s ∷ r ∷ [])) in
    let rows = all_present-at (λ r. all_present (map (entry r) (range_with_len 0 l))) 0 k a e in (
      rows.0,
      λ r d h.
          let columns = all_present-at (entry (0 + r)) 0 l (get_or a r d) (rows.1 r d (omega (arith, rows.0, h))) in
          (columns.0, λ s t m. matrix_entry-residues _ (get_or (get_or a r d) s t) (columns.1 s t (omega (arith, columns.0, m)))),
    )

-- ---- the bytes of a matrix tell it

one_value : (x y : ℤ) → IsValue x → IsValue y → value_bytes x ≡ value_bytes y → x ≡ y
one_value x y (low, high) (low', high') same =
    let first : nat_abs x < 2 ^ 32 = omega (arith, ints, low, high) in
    let second : nat_abs y < 2 ^ 32 = omega (arith, ints, low', high') in
    let equal : nat_abs x ≡ nat_abs y = sym (from_le_bytes-to_le_bytes_4 (nat_abs x) first) ∙ ap (from_le_bytes w32) same ∙ from_le_bytes-to_le_bytes_4 (nat_abs y) second in
    omega (arith, ints, low, low', equal)

one_entry : (t u : T) → IsEntry t → IsEntry u → entry_bytes t ≡ entry_bytes u → t ≡ u
one_entry t u (count, values) (count', values') same =
    let equal : t.0 ≡ u.0 = same_pieces IsValue value_bytes 4 t.0 u.0 length-value one_value (count ∙ sym count') values values' same in
    ap (λ (v : List ℤ). let made : T = record { 0 = v } in made) equal

one_row : (l : ℕ) (row other : List T) → IsRow l row → IsRow l other → row_bytes row ≡ row_bytes other → row ≡ other
one_row l row other (count, entries) (count', entries') same = same_pieces IsEntry entry_bytes 1024 row other length-entry one_entry (count ∙ sym count') entries entries' same

one_matrix : (k l : ℕ) (a b : List (List T)) → IsMatrix k l a → IsMatrix k l b → matrix_bytes a ≡ matrix_bytes b → a ≡ b
one_matrix k l a b (count, rows) (count', rows') same = same_pieces (IsRow l) row_bytes (1024 * l) a b (length-row l) (one_row l) (count ∙ sym count') rows rows' same

-- ---- the bytes of a prepared key tell it

same_public : (parts parts' : PublicParts) (matrix matrix' : List (List T)) → parts ≡ parts' → matrix ≡ matrix' → Path PreparedPublic record { parts = parts; matrix = matrix } record { parts = parts'; matrix = matrix' }
same_public parts parts' matrix matrix' e f = cc

same_private : (parts parts' : PrivateParts) (matrix matrix' : List (List T)) → parts ≡ parts' → matrix ≡ matrix' → Path PreparedPrivate record { parts = parts; matrix = matrix } record { parts = parts'; matrix = matrix' }
same_private parts parts' matrix matrix' e f = cc

one_public : (k l : ℕ) (bytes : List ℕ) (pk other : PreparedPublic) → IsPreparedPublicOf k l bytes pk → IsPreparedPublicOf k l bytes other → pk ≡ other
one_public k l bytes pk other one two =
    let (key, tr, matrix) = public_cut k l (32 + 320 * k) bytes pk refl one in
    let (key', tr', matrix') = public_cut k l (32 + 320 * k) bytes other refl two in
    same_public pk.parts other.parts pk.matrix other.matrix (one_public_key k pk.parts other.parts one.parts two.parts (sym tr ∙ tr') (sym key ∙ key'))
    (one_matrix k l pk.matrix other.matrix one.matrix two.matrix (sym matrix ∙ matrix'))

one_private : (p : ParameterSet) (bytes : List ℕ) (sk other : PreparedPrivate) → IsSet p → IsPreparedPrivateOf p.eta p.k p.l bytes sk → IsPreparedPrivateOf p.eta p.k p.l bytes other → sk ≡ other
one_private p bytes sk other known one two =
    let n = length (private_key_bytes p.eta sk.parts) in
    let size : n ≡ length (private_key_bytes p.eta other.parts) = length-private p.eta p.k p.l sk.parts one.parts ∙ sym (length-private p.eta p.k p.l other.parts two.parts) in
    let (key, matrix) = private_cut p.eta p.k p.l n bytes sk refl one in
    let (key', matrix') = private_cut p.eta p.k p.l n bytes other size two in
    same_private sk.parts other.parts sk.matrix other.matrix ((bytes_tell_keys p known).private_keys sk.parts other.parts one.parts two.parts (sym key ∙ key'))
    (one_matrix p.k p.l sk.matrix other.matrix one.matrix two.matrix (sym matrix ∙ matrix'))

-- a key that was prepared is what its bytes say
own_public : (p : ParameterSet) (G : List ℕ → List ℕ) (pk : PublicParts) (prepared : PreparedPublic) → ArePublicParts p.k pk → prepared_public p G pk ≡ Ok prepared
    → IsPreparedPublicOf p.k p.l (prepared_public_bytes prepared) prepared
own_public p G pk prepared are made =
    let is = public_parts (sampled_matrix G pk.rho p.k p.l) pk prepared made in
    record {
      parts = subst (λ (k : PublicParts). ArePublicParts p.k k) is.0 are;
      matrix = sampled_is_matrix G pk.rho p.k p.l prepared.matrix is.1;
      encoding = refl;
    }

own_private : (p : ParameterSet) (G : List ℕ → List ℕ) (sk : PrivateParts) (prepared : PreparedPrivate) → ArePrivateParts p.eta p.k p.l sk → prepared_private p G sk ≡ Ok prepared
    → IsPreparedPrivateOf p.eta p.k p.l (prepared_private_bytes p.eta prepared) prepared
own_private p G sk prepared are made =
    let is = private_parts (sampled_matrix G sk.rho p.k p.l) sk prepared made in
    record {
      parts = subst (λ (k : PrivateParts). ArePrivateParts p.eta p.k p.l k) is.0 are;
      matrix = sampled_is_matrix G sk.rho p.k p.l prepared.matrix is.1;
      encoding = refl;
    }

-- what is written, where the matrix was sampled
pub written_private : (p : ParameterSet) (G : List ℕ → List ℕ) (sk : PrivateParts) (a : List (List T)) (old new : List ℕ) (answer : Result ⊤ Fault) → sampled_matrix G sk.rho p.k p.l ≡ Some a
    → new ≡ private_key_bytes p.eta sk ++ matrix_bytes a → answer ≡ Ok tt
    → MatchResult (prepared_private p G sk) (λ prepared. (new ≡ prepared_private_bytes p.eta prepared) × (answer ≡ Ok tt)) (λ fault. (new ≡ old) × (answer ≡ Err fault))
written_private p G sk a old new answer there same done = rw there (same, done)

pub prepared_through_bytes : (p : ParameterSet) (G : List ℕ → List ℕ) → IsSet p → PreparedThroughBytes p G
prepared_through_bytes p G known = record {
  public_length = λ pk prepared are made.
      let own = own_public p G pk prepared are made in
      let key = length-public p.k prepared.parts own.parts in
      let matrix = length-matrix p.k p.l prepared.matrix own.matrix in
      length-append (public_key_bytes prepared.parts.rho prepared.parts.t1 ++ prepared.parts.tr) (matrix_bytes prepared.matrix)
      ∙ ap (λ n. n + length (matrix_bytes prepared.matrix)) (length-append (public_key_bytes prepared.parts.rho prepared.parts.t1) prepared.parts.tr)
      ∙ omega (arith, key, own.parts.tr, matrix);
  private_length = λ sk prepared are made.
      let own = own_private p G sk prepared are made in
      let key = length-private_at p p.k p.l (private_key_length p) prepared.parts refl refl refl own.parts in
      let matrix = length-matrix p.k p.l prepared.matrix own.matrix in
      length-append (private_key_bytes p.eta prepared.parts) (matrix_bytes prepared.matrix) ∙ omega (arith, sym key, matrix);
  public_keys = λ pk prepared other are made.
      let own = own_public p G pk prepared are made in (
        λ read. one_public p.k p.l (prepared_public_bytes prepared) other prepared read own,
        λ same. subst (λ (k : PreparedPublic). IsPreparedPublicOf p.k p.l (prepared_public_bytes prepared) k) (sym same) own,
      );
  private_keys = λ sk prepared other are made.
      let own = own_private p G sk prepared are made in (
        λ read. one_private p (prepared_private_bytes p.eta prepared) other prepared known read own,
        λ same. subst (λ (k : PreparedPrivate). IsPreparedPrivateOf p.eta p.k p.l (prepared_private_bytes p.eta prepared) k) (sym same) own,
      );
}
