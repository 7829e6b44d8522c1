-- An element that is read is the element that is there, and an element that is there is read.
use Rattle.std.proofs.Common.{◌≡◌, ℕ, ◌+◌, ◌*◌, ◌/◌, ◌%◌, ◌<◌, ◌≤◌, Bool, true, false, cond, ltb, eqb, ◌⊎◌, inl, inr, List, [], ◌∷◌, ◌++◌, length, take, drop, Result, Ok, Err, refl, sym, ap, subst, ◌∙◌, append_assoc, arith}
use Rattle.std.proofs.lemmas.Bool.{cases_lt, ltb-false, le-ltb, ltb-true, eqb-true}
use Rattle.std.proofs.lemmas.Bool.Decides.{nat_tests}
use Rattle.std.proofs.lemmas.List.{take_at, drop_at, take-append-drop, length-append, length-take, append-nil, nil_from_length}
use Rattle.fips204_shake.specs.declared.der.fault.DerFault.TheVariants.{Short, Behind, Element}
use Rattle.fips204_shake.specs.Der.{length_bytes, element}
use Rattle.std.specs.Prelude.{IfOk}
use Rattle.std.specs.Str.{bytes_eq}
use Rattle.std.proofs.lemmas.Slice.Eq.{bytes_eq-Decides}
use Rattle.fips204_shake.specs.Reading.{◌>>=◌, Gives, spelled_at, one_byte_at, two_bytes_at, length_at, contents_at, tagged_at, element_at, whole_at}

-- the value of a step that did not fail, and what was made of it
pub bind_ok : {A B E : Type 0} (read : Result A E) (then : A → Result B E) (y : B) → (read >>= then) ≡ Ok y
    → (x : A) × (read ≡ Ok x) × (then x ≡ Ok y)
bind_ok (Ok x) then y e = (x, refl, e)
bind_ok (Err fault) then y e = absurd cc

-- which way a test went
pub chosen : {A : Type 0} (b : Bool) (x y z : A) → cond b x y ≡ z → ((b ≡ true) × (x ≡ z)) ⊎ ((b ≡ false) × (y ≡ z))
chosen true x y z e = inl (refl, e)
chosen false x y z e = inr (refl, e)

abbrev found : {A E : Type 0} → A → Result A E
found x = Ok x

pub ok_is : {A E : Type 0} (x y : A) → found {E = E} x ≡ found y → x ≡ y
ok_is x y e = cc

-- a test that fails where it is true, or where it is false
pub passed : {A E : Type 0} (b : Bool) (fault : E) (x y : A) → cond b (Err fault) (Ok x) ≡ Ok y → (b ≡ false) × (x ≡ y)
passed true fault x y e = absurd cc
passed false fault x y e = (refl, cc)

pub met : {A E : Type 0} (b : Bool) (fault : E) (x y : A) → cond b (Ok x) (Err fault) ≡ Ok y → (b ≡ true) × (x ≡ y)
met true fault x y e = (refl, cc)
met false fault x y e = absurd cc

pub same_bytes : (a b : List ℕ) → bytes_eq a b ≡ true → a ≡ b
same_bytes a b e = (bytes_eq-Decides a b).0 e

-- what a function returned, where reading gives as much or gives this
pub gives_found : {X Y E : Type 0} (view : X → Y) (r : Result X E) (read : Result Y E) (P : Y → Type 0)
    → Gives view r read → ((y : Y) → read ≡ Ok y → P y) → IfOk r (λ x. P (view x))
gives_found view (Ok x) read P gives found = found (view x) gives
gives_found view (Err fault) read P gives found = tt

pub gives_only : {X Y E : Type 0} (view : X → Y) (r : Result X E) (read again : Result Y E) → Gives view r read → read ≡ again → Gives view r again
gives_only view r read again gives e = subst (Gives view r) e gives

-- ---- lengths

length_short : (n : ℕ) → n < 128 → length_bytes n ≡ n ∷ []
length_short n short = grind (arith, nat_tests)

length_one : (n : ℕ) → 128 ≤ n → n < 256 → length_bytes n ≡ 129 ∷ n ∷ []
length_one n long short = grind (arith, nat_tests)

length_long : (n : ℕ) → 256 ≤ n → length_bytes n ≡ 130 ∷ n / 256 ∷ n % 256 ∷ []
length_long n long = grind (arith, nat_tests)

spelled_found : (n : ℕ) (spelling rest : List ℕ) (x : ℕ × List ℕ) → spelled_at n spelling rest ≡ Ok x → spelling ++ rest ≡ length_bytes x.0 ++ x.1
spelled_found n spelling rest x e =
    let m = met (bytes_eq (length_bytes n) spelling) Element (n, rest) x e in
    sym (ap (λ (z : List ℕ). z ++ rest) (same_bytes _ _ m.0)) ∙ ap (λ (y : ℕ × List ℕ). length_bytes y.0 ++ y.1) m.1

one_byte_found : (rest : List ℕ) (x : ℕ × List ℕ) → one_byte_at rest ≡ Ok x → 129 ∷ rest ≡ length_bytes x.0 ++ x.1
one_byte_found [] x e = absurd cc
one_byte_found (size ∷ rest) x e = spelled_found size (129 ∷ size ∷ []) rest x e

two_bytes_found : (rest : List ℕ) (x : ℕ × List ℕ) → two_bytes_at rest ≡ Ok x → 130 ∷ rest ≡ length_bytes x.0 ++ x.1
two_bytes_found [] x e = absurd cc
two_bytes_found (high ∷ []) x e = absurd cc
two_bytes_found (high ∷ low ∷ rest) x e = spelled_found (256 * high + low) (130 ∷ high ∷ low ∷ []) rest x e

length_found : (bytes : List ℕ) (x : ℕ × List ℕ) → length_at bytes ≡ Ok x → bytes ≡ length_bytes x.0 ++ x.1
unfolding length_at
length_found [] x e = absurd cc
length_found (size ∷ rest) x e =
    elim (chosen (ltb size 128) _ _ _ e) [
      | inl is ↦
          let here : size ∷ rest ≡ length_bytes size ++ rest = rw (length_short size (ltb-true _ _ is.0)) refl in
          here ∙ ap (λ (y : ℕ × List ℕ). length_bytes y.0 ++ y.1) (ok_is _ x is.1)
      | inr is ↦
          elim (chosen (eqb size 129) _ _ _ is.1) [
            | inl one ↦ rw (eqb-true _ _ one.0) (one_byte_found rest x one.1)
            | inr other ↦
                elim (chosen (eqb size 130) _ _ _ other.1) [
                  | inl two ↦ rw (eqb-true _ _ two.0) (two_bytes_found rest x two.1)
                  | inr none ↦ absurd (cc none.1)
                ]
          ]
    ]

spelled_again : (n : ℕ) (spelling rest : List ℕ) → length_bytes n ≡ spelling → spelled_at n spelling rest ≡ Ok (n, rest)
spelled_again n spelling rest e =
    ap (λ (b : Bool). cond b (found (n, rest)) (Err Element)) ((bytes_eq-Decides (length_bytes n) spelling).1 e)

length_again : (n : ℕ) (rest : List ℕ) → n < 65536 → length_at (length_bytes n ++ rest) ≡ Ok (n, rest)
unfolding length_at
length_again n rest small =
    elim (cases_lt n 128) [
      | inl short ↦ rw (length_short n short) (grind (arith, nat_tests))
      | inr long ↦
          elim (cases_lt n 256) [
            | inl one ↦
                let is = length_one n long one in
                ap (λ (z : List ℕ). length_at (z ++ rest)) is ∙ spelled_again n (129 ∷ n ∷ []) rest is
            | inr two ↦
                let is = length_long n two in
                let whole : 256 * (n / 256) + n % 256 ≡ n = omega arith in
                ap (λ (z : List ℕ). length_at (z ++ rest)) is
                ∙ spelled_again (256 * (n / 256) + n % 256) (130 ∷ n / 256 ∷ n % 256 ∷ []) rest (ap length_bytes whole ∙ is)
                ∙ ap (λ (k : ℕ). Ok (k, rest)) whole
          ]
    ]

-- ---- elements

pub element_found : (tag : ℕ) (bytes : List ℕ) (x : List ℕ × List ℕ) → element_at tag bytes ≡ Ok x → bytes ≡ element tag x.0 ++ x.1
unfolding element_at
element_found tag [] x e = absurd cc
element_found tag (first ∷ rest) x e =
    let a = bind_ok _ _ x e in
    let t = met _ _ rest a.0 a.1 in
    let b = bind_ok _ _ x a.2 in
    let size : ℕ = b.0.0 in
    let tail : List ℕ = b.0.1 in
    let c = passed (ltb (length tail) size) Short (take size tail, drop size tail) x b.2 in
    let enough : size ≤ length tail = ltb-false _ _ c.0 in
    let exact : length (take size tail) ≡ size = omega (arith, length-take size tail) in
    let tag-is : first ≡ tag = eqb-true _ _ t.0 in
    let rest-is : rest ≡ (length_bytes size ++ take size tail) ++ drop size tail =
    t.1 ∙ length_found a.0 b.0 b.1 ∙ ap (λ (z : List ℕ). length_bytes size ++ z) (sym (take-append-drop size tail))
    ∙ sym (append_assoc (length_bytes size) (take size tail) (drop size tail)) in
    ap (λ (k : ℕ). k ∷ rest) tag-is ∙ ap (λ (z : List ℕ). tag ∷ z) rest-is
    ∙ ap (λ (k : ℕ). tag ∷ ((length_bytes k ++ take size tail) ++ drop size tail)) (sym exact)
    ∙ ap (λ (y : List ℕ × List ℕ). element tag y.0 ++ y.1) c.1

tagged_again : (tag : ℕ) (rest : List ℕ) → tagged_at tag (tag ∷ rest) ≡ Ok rest
tagged_again tag rest = grind (arith, nat_tests)

contents_again : (contents rest : List ℕ) → contents_at (length contents) (contents ++ rest) ≡ Ok (contents, rest)
contents_again contents rest =
    let enough : ltb (length (contents ++ rest)) (length contents) ≡ false = le-ltb _ _ (omega (arith, length-append contents rest)) in
    rw (enough, take_at contents rest (length contents) refl, drop_at contents rest (length contents) refl) refl

pub element_again : (tag : ℕ) (contents rest : List ℕ) → length contents < 65536 → element_at tag (element tag contents ++ rest) ≡ Ok (contents, rest)
unfolding element_at
element_again tag contents rest small =
    rw (
      tagged_again tag ((length_bytes (length contents) ++ contents) ++ rest),
      append_assoc (length_bytes (length contents)) contents rest,
      length_again (length contents) (contents ++ rest) small,
    ) (contents_again contents rest)

-- ---- elements that nothing follows

pub whole_found : (tag : ℕ) (bytes contents : List ℕ) → whole_at tag bytes ≡ Ok contents → bytes ≡ element tag contents
unfolding whole_at
whole_found tag bytes contents e =
    let a = bind_ok _ _ contents e in
    let m = met (eqb (length a.0.1) 0) Behind a.0.0 contents a.2 in
    let none : a.0.1 ≡ [] = nil_from_length a.0.1 (eqb-true _ _ m.0) in
    element_found tag bytes a.0 a.1 ∙ ap (λ (z : List ℕ). element tag a.0.0 ++ z) none ∙ append-nil (element tag a.0.0)
    ∙ ap (λ (z : List ℕ). element tag z) m.1

pub whole_again : (tag : ℕ) (contents : List ℕ) → length contents < 65536 → whole_at tag (element tag contents) ≡ Ok contents
unfolding whole_at
whole_again tag contents small =
    let again : element_at tag (element tag contents) ≡ Ok (contents, []) =
    ap (λ (z : List ℕ). element_at tag z) (sym (append-nil (element tag contents))) ∙ element_again tag contents [] small in
    rw again refl

-- ---- writing

pub front_of : (tag size : ℕ) (contents : List ℕ) → 256 ≤ size → size < 65536 → length contents ≡ size
    → element tag contents ≡ (tag ∷ 130 ∷ size / 256 ∷ size % 256 ∷ []) ++ contents
front_of tag size contents long short e = rw (e, length_long size long) refl
