-- A framed message determines what was framed.
use Rattle.std.proofs.Common.{◌≡◌, ◌+◌, ℕ, List, [], ◌∷◌, ◌++◌, length, get_or, Bool, true, false, not, ◌&&◌, nat_eq, nat_lt, nat_le, IsTrue, if◌then◌else◌, Option, Some, None, refl, sym, ap, arith, true≢false, eqb-true, unwrap_or}
use Rattle.fips204.proofs.Names.{Fault, OidEmpty, OidNotDer, DigestTooLong, DigestLength, HashCtx, plain, hashed, framed, represented, frame, digest_length, pre_hash_fault, has_oid_form, FramingIsOneToOne}
use Rattle.fips204.proofs.Spellings.{same_parts}
use Rattle.fips204.proofs.ParameterSets.{and_out}
use Rattle.fips204.proofs.RefusedCalls.{same_some, passed, short_context}

test_true : (b : Bool) (fault : Fault) (rest : Option Fault) → (if not b then Some fault else rest) ≡ None → IsTrue b
test_true true fault rest e = refl
test_true false fault rest e = absurd (cc)

der_of_none : (digest oid : List ℕ) → pre_hash_fault digest oid ≡ None → IsTrue (has_oid_form oid)
unfolding pre_hash_fault
der_of_none digest oid e =
    let last = if nat_lt 1024 (length digest) then Some DigestTooLong else if not (nat_eq (length digest) (unwrap_or (digest_length oid) (length digest))) then Some DigestLength else None in
    test_true (has_oid_form oid) OidNotDer last (passed (nat_eq (length oid) 0) OidEmpty (if not (has_oid_form oid) then Some OidNotDer else last) e).1

-- ---- OIDs

-- the second byte is the number of bytes after it
second_byte : (x y : ℕ) (rest : List ℕ) → IsTrue (has_oid_form (x ∷ y ∷ rest)) → y ≡ length rest
second_byte x y rest t =
    let oid = x ∷ y ∷ rest in
    let tests = and_out (nat_le 3 (length oid) && nat_eq x 0x06 && nat_lt y 128) (nat_eq (y + 2) (length oid)) t in
    let e = eqb-true (y + 2) (length oid) tests.1 in
    omega (arith, e)

same_oid : (o p d e : List ℕ) → IsTrue (has_oid_form o) → IsTrue (has_oid_form p) → o ++ d ≡ p ++ e → (o ≡ p) × (d ≡ e)
same_oid [] p d e s t same = absurd (true≢false (sym s))
same_oid (w ∷ []) p d e s t same = absurd (true≢false (sym s))
same_oid (w ∷ x ∷ o) [] d e s t same = absurd (true≢false (sym t))
same_oid (w ∷ x ∷ o) (y ∷ []) d e s t same = absurd (true≢false (sym t))
same_oid (w ∷ x ∷ o) (y ∷ z ∷ p) d e s t same =
    let one = second_byte w x o s in
    let two = second_byte y z p t in
    let bytes : x ≡ z = ap (λ l. get_or l 1 0) same in
    same_parts (w ∷ x ∷ o) (y ∷ z ∷ p) d e (omega (arith, one, two, bytes)) same

-- ---- framed messages

modes : (xs ys : List ℕ) (m n : ℕ) → m ∷ xs ≡ n ∷ ys → m ≡ n
modes xs ys m n e = ap (λ l. get_or l 0 0) e

-- a context with its length before it, and what follows
same_context : (c d us vs : List ℕ) (mode : ℕ) → frame mode c us ≡ frame mode d vs → (c ≡ d) × (us ≡ vs)
same_context c d us vs mode e =
    let lengths : length c ≡ length d = ap (λ l. get_or l 1 0) e in
    let rest : c ++ us ≡ d ++ vs = cc in
    same_parts c d us vs lengths rest

pub same_input : FramingIsOneToOne
same_input (framed m) y s t e f same = absurd (true≢false (sym s))
same_input (represented m) y s t e f same = absurd (true≢false (sym s))
same_input (plain m c) (framed n) s t e f same = absurd (true≢false (sym t))
same_input (plain m c) (represented n) s t e f same = absurd (true≢false (sym t))
same_input (hashed h c o) (framed n) s t e f same = absurd (true≢false (sym t))
same_input (hashed h c o) (represented n) s t e f same = absurd (true≢false (sym t))
same_input (plain m c) (plain n d) s t e f same =
    let both = same_context c d m n 0 (same_some _ _ same) in
    cc
same_input (plain m c) (hashed h d o) s t e f same = absurd (omega (arith, modes _ _ _ _ (same_some _ _ same)))
same_input (hashed h c o) (plain n d) s t e f same = absurd (omega (arith, modes _ _ _ _ (same_some _ _ same)))
same_input (hashed h c o) (hashed i d p) s t e f same =
    let outer = same_context c d (o ++ h) (p ++ i) 1 (same_some _ _ same) in
    let first = der_of_none h o (short_context c HashCtx (pre_hash_fault h o) e).1 in
    let second = der_of_none i p (short_context d HashCtx (pre_hash_fault i p) f).1 in
    let inner = same_oid o p h i first second outer.1 in
    cc
