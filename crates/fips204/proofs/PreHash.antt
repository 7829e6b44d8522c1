-- A table of OIDs with the lengths of their hashes' digests, gone through from the start.
use Rattle.std.proofs.Common.{◌≡◌, ◌<◌, ◌≤◌, ◌+◌, ℕ, List, [], ◌∷◌, Bool, true, false, cond, length, get_or, drop, map, Option, Some, None, refl, ap, ◌∙◌, bytes_eq, find, option_map}
use Rattle.fips204.proofs.Names.{drop_more, drop_all, hash_oid, hashes, digest_length}

-- the length of the first that has this OID
unfoldable pub length_in : List ℕ → List (List ℕ × ℕ) → Option ℕ
length_in oid known = option_map (λ k. k.1) (find (λ k. bytes_eq oid k.0) known)

-- the first is another
other_first : (oid : List ℕ) (k : List ℕ × ℕ) (known : List (List ℕ × ℕ)) → bytes_eq oid k.0 ≡ false → length_in oid (k ∷ known) ≡ length_in oid known
unfolding length_in
other_first oid k known e = rw e refl

-- the first is this one
this_first : (oid : List ℕ) (k : List ℕ × ℕ) (known : List (List ℕ × ℕ)) → bytes_eq oid k.0 ≡ true → length_in oid (k ∷ known) ≡ Some k.1
unfolding length_in
this_first oid k known e = rw e refl

pub other_at : (oid : List ℕ) (known : List (List ℕ × ℕ)) (i : ℕ) (d : List ℕ × ℕ) → i < length known → bytes_eq oid (get_or known i d).0 ≡ false → length_in oid (drop i known) ≡ length_in oid (drop (i + 1) known)
other_at oid known i d l e = ap (length_in oid) (drop_more known i d l) ∙ other_first oid (get_or known i d) (drop (i + 1) known) e

pub this_at : (oid : List ℕ) (known : List (List ℕ × ℕ)) (i : ℕ) (d : List ℕ × ℕ) → i < length known → bytes_eq oid (get_or known i d).0 ≡ true → length_in oid (drop i known) ≡ Some (get_or known i d).1
this_at oid known i d l e = ap (length_in oid) (drop_more known i d l) ∙ this_first oid (get_or known i d) (drop (i + 1) known) e

pub none_left : (oid : List ℕ) (known : List (List ℕ × ℕ)) (i : ℕ) → length known ≤ i → length_in oid (drop i known) ≡ None
unfolding length_in
none_left oid known i l = rw (drop_all i known l) refl

-- the table with the OIDs of the rows, from their last bytes
abbrev pub with_oids : List (ℕ × ℕ) → List (List ℕ × ℕ)
with_oids rows = map (λ row. (hash_oid row.0, row.1)) rows

row_first : (b : Bool) (rest : Option (ℕ × ℕ)) (row : ℕ × ℕ) (known : Option (List ℕ × ℕ)) → option_map (λ r. r.1) rest ≡ option_map (λ k. k.1) known
    → option_map (λ r. r.1) (cond b (Some row) rest) ≡ option_map (λ k. k.1) (cond b (Some (hash_oid row.0, row.1)) known)
row_first true rest row known e = refl
row_first false rest row known e = e

by_rows : (oid : List ℕ) (rows : List (ℕ × ℕ)) → option_map (λ row. row.1) (find (λ row. bytes_eq oid (hash_oid row.0)) rows) ≡ length_in oid (with_oids rows)
unfolding length_in
by_rows oid [] = refl
by_rows oid (row ∷ rows) =
    row_first (bytes_eq oid (hash_oid row.0)) (find (λ row. bytes_eq oid (hash_oid row.0)) rows) row (find (λ k. bytes_eq oid k.0) (with_oids rows)) (by_rows oid rows)

pub digest_length_in : (oid : List ℕ) → digest_length oid ≡ length_in oid (with_oids hashes)
unfolding digest_length
digest_length_in oid = by_rows oid hashes
