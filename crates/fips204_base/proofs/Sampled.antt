-- What is sampled: vectors and matrices of values that are all there, and the ranges of small polynomials.
use Rattle.std.proofs.Common.{◌%◌, ◌≡◌, ℕ, ◌+◌, ◌<◌, List, [], ◌∷◌, ◌++◌, map, take, set, length, refl, ap, sym, ◌∙◌, Some, None, Ok, Err, ok_or, ◌≤ℤ◌, ◌*◌, ◌/◌, zero, suc, ℤ, pos, get_or, subst, arith, true, false, inl, inr, nat_lt, add-zero, ◌⊎◌, ◌-ℤ◌}
use Rattle.std.specs.Prelude.{option_map, option_and_then, filter_map, IfSome, if◌then◌else◌}
use Rattle.std.specs.declared.option.Option.{Option}
use Rattle.std.specs.List.{range_with_len, All, cons_option}
use Rattle.std.proofs.lemmas.List.{take_all, take_more_set, length-take-le}
use Rattle.std.proofs.lemmas.List.FromFn.{map-range_with_len_more}
use Rattle.fips204_base.specs.SamplerSteps.{sampled_row, triple, kept_triples, half_bytes, kept_half_bytes, small_vector}
use Rattle.fips204_base.specs.Bounds.{ValuesWithin, TransformsWithin, PolynomialInRange}
use Rattle.fips204_base.specs.declared.fault.Fault.{Fault}
use Rattle.fips204_base.specs.declared.fault.Fault.TheVariants.{SamplingLimit}
use Rattle.fips204_base.specs.Sampling.{all_present, first_256, coefficient_from_half_byte, matrix_entry, sampled_matrix, small_polynomial, small_vectors}
use Rattle.std.proofs.lemmas.Bool.{le-ltb, lt-ltb, cases_lt}
use Rattle.std.proofs.lemmas.Int.{ints}
use Rattle.std.proofs.lemmas.Option.{none-some}
use Rattle.std.proofs.lemmas.List.Elements.{All-nil, All-cons, All-take}
use Rattle.fips204_base.specs.declared.types.T.{T}
use Rattle.std.specs.Int.{to_le_bytes}
use Rattle.fips204_base.specs.declared.types.R.{R}
use Rattle.fips204_base.specs.Vectors.{MatrixWithin, IsVector}
use Rattle.std.proofs.lemmas.Grind.{common_steps}

-- the number of three bytes, the lowest first, without the top bit of the last
abbrev pub three_bytes : ℕ → ℕ → ℕ → ℕ
three_bytes b0 b1 b2 = b0 + 256 * b1 + 65536 * (b2 % 128)

-- Lists of values that may be none, each made in turn.

present_push : {A : Type 0} (xs : List (Option A)) (values : List A) (v : A) → all_present xs ≡ Some values → all_present (xs ++ Some v ∷ []) ≡ Some (values ++ v ∷ [])
unfolding all_present
present_push {A} [] values v e = let n : [] ≡ values = cc in ap (λ l. Some (l ++ v ∷ [])) n
present_push (None ∷ xs) values v e = absurd cc
present_push {A} (Some x ∷ xs) values v e =
    let go : (o : Option (List A)) → all_present xs ≡ o → option_map (λ l. x ∷ l) o ≡ Some values → all_present (Some x ∷ (xs ++ Some v ∷ [])) ≡ Some (values ++ v ∷ []) =
    λ o there same. elim o as (λ o. all_present xs ≡ o → option_map (λ l. x ∷ l) o ≡ Some values → all_present (Some x ∷ (xs ++ Some v ∷ [])) ≡ Some (values ++ v ∷ [])) [
      | None ↦ λ there same. absurd cc
      | Some rest ↦ λ there same.
          let whole : x ∷ rest ≡ values = cc in
          ap (option_map (λ l. x ∷ l)) (present_push xs rest v there) ∙ ap (λ l. Some (l ++ v ∷ [])) whole
    ] there same in
    go (all_present xs) refl e

-- a value is written behind those before it
pub present_next : {A : Type 0} (f : ℕ → Option A) (a n j : ℕ) (values : List A) (v : A) → a + n ≡ j → n < length values
    → all_present (map f (range_with_len a n)) ≡ Some (take n values) → f j ≡ Some v
    → all_present (map f (range_with_len a (n + 1))) ≡ Some (take (n + 1) (set values n v))
present_next f a n j values v at l e there =
    ap all_present (map-range_with_len_more f a n j at) ∙ ap (λ x. all_present (map f (range_with_len a n) ++ x ∷ [])) there
    ∙ present_push (map f (range_with_len a n)) (take n values) v e ∙ ap Some (sym (take_more_set values n v l))

-- what an error says of a value that may be none

pub some_of_ok : {A : Type 0} (o : Option A) (x : A) → Ok x ≡ ok_or o SamplingLimit → o ≡ Some x
some_of_ok None x e = absurd cc
some_of_ok (Some y) x e = let s : x ≡ y = cc in ap Some (sym s)

pub none_of_err : {A : Type 0} (o : Option A) (fault : Fault) → Err fault ≡ ok_or o SamplingLimit → (o ≡ None) × (fault ≡ SamplingLimit)
none_of_err None fault e = (refl, cc)
none_of_err (Some y) fault e = absurd cc

pub present_whole : {A : Type 0} (f : ℕ → Option A) (a n m : ℕ) (xs : List A) → m ≡ n → length xs ≡ n
    → all_present (map f (range_with_len a m)) ≡ Some (take m xs) → all_present (map f (range_with_len a n)) ≡ Some xs
present_whole f a n m xs end size all = (rw end at all) ∙ ap Some (take_all n xs (omega (arith, size)))

pub present_nil : {A : Type 0} → all_present {A = A} [] ≡ Some []
unfolding all_present
present_nil = refl

-- What is sampled: vectors and matrices of values that are all there, and what is kept of an output.

-- ---- values that are all there

none_then : {A : Type 0} (o : Option A) → option_and_then (λ value. option_map (λ values. value ∷ values) None) o ≡ None
none_then None = refl
none_then (Some x) = refl

-- one of them is none
pub all_present-none : {A : Type 0} (f : ℕ → Option A) (a n i j : ℕ) → i < n → a + i ≡ j → f j ≡ None
    → all_present (map f (range_with_len a n)) ≡ None
unfolding all_present
all_present-none f a zero i j h at e = absurd (omega arith)
all_present-none f a (suc n) zero j h at e = let first : a ≡ j = omega (arith, at) in let here = ap f first ∙ e in rw here refl
all_present-none f a (suc n) (suc i) j h at e =
    let later = all_present-none f (a + 1) n i j (omega arith) (omega (arith, at)) e in
    rw later (none_then (f a))

-- f is there for each of n numbers from a on, and xs are its values
abbrev pub AreValues : {A : Type 0} → (ℕ → Option A) → ℕ → ℕ → List A → Type 0
AreValues {A} f a n xs = (length xs ≡ n) × ((i : ℕ) (d : A) → i < n → f (a + i) ≡ Some (get_or xs i d))

first_value : {A : Type 0} (f : ℕ → Option A) (a n : ℕ) (x : A) (xs : List A) → f a ≡ Some x → AreValues f (a + 1) n xs → (i : ℕ) (d : A) → i < suc n → f (a + i) ≡ Some (get_or (x ∷ xs) i d)
first_value f a n x xs here later zero d h = ap f (add-zero a) ∙ here
first_value f a n x xs here later (suc i) d h = let m : a + suc i ≡ a + 1 + i = omega arith in ap f m ∙ later.1 i d (omega (arith, h))

first_and_later : {A : Type 0} (f : ℕ → Option A) (a n : ℕ) (xs : List A) (o : Option A) (later : Option (List A)) → f a ≡ o → ((ys : List A) → later ≡ Some ys → AreValues f (a + 1) n ys)
    → option_and_then (λ value. option_map (λ values. value ∷ values) later) o ≡ Some xs → AreValues f a (suc n) xs
first_and_later f a n xs None later here rest e = absurd (none-some xs e)
first_and_later f a n xs (Some x) None here rest e = absurd (none-some xs e)
first_and_later {A = A} f a n xs (Some x) (Some ys) here rest e =
    let made : Some (x ∷ ys) ≡ Some xs = e in
    let same : (x ∷ ys) ≡ xs = cc in
    let values = rest ys refl in
    subst (λ (l : List A). AreValues f a (suc n) l) same (ap suc values.0, first_value f a n x ys here values)

-- and all are there exactly if there is a list of them
pub all_present-at : {A : Type 0} (f : ℕ → Option A) (a n : ℕ) (xs : List A) → all_present (map f (range_with_len a n)) ≡ Some xs → AreValues f a n xs
unfolding all_present
all_present-at {A = A} f a zero xs e =
    let made : Some [] ≡ Some xs = e in
    let same : [] ≡ xs = cc in
    (ap length (sym same), λ i d h. absurd (omega (arith, h)))
all_present-at f a (suc n) xs e = first_and_later f a n xs (f a) (all_present (map f (range_with_len (a + 1) n))) refl (λ ys same. all_present-at f (a + 1) n ys same) e

from_zero : (i : ℕ) → 0 + i ≡ i
from_zero i = omega arith

some_present : {A : Type 0} (f : ℕ → Option A) (n : ℕ) → ((i : ℕ) → i < n → (x : A) × (f i ≡ Some x)) → (xs : List A) × (all_present (map f (range_with_len 0 n)) ≡ Some xs)
some_present f zero there = ([], present_nil)
some_present f (suc n) there =
    let before = some_present f n (λ i h. there i (omega (arith, h))) in
    let last = there n (omega arith) in
    let end : suc n ≡ n + 1 = omega arith in (
      before.0 ++ last.0 ∷ [],
      ap all_present (ap (λ m. map f (range_with_len 0 m)) end ∙ map-range_with_len_more f 0 n n (from_zero n)) ∙ ap (λ x. all_present (map f (range_with_len 0 n) ++ x ∷ [])) last.1
          ∙ present_push (map f (range_with_len 0 n)) before.0 last.0 before.1,
    )

-- what holds of each holds of the list's
pub all_present-each : {A : Type 0} (Q : ℕ → A → Type 0) (f : ℕ → Option A) (n : ℕ) (d : A) → ((i : ℕ) → i < n → (x : A) × (f i ≡ Some x) × Q i x)
    → (xs : List A) × (all_present (map f (range_with_len 0 n)) ≡ Some xs) × ((i : ℕ) → i < n → Q i (get_or xs i d))
all_present-each Q f n d each =
    let all = some_present f n (λ i h. ((each i h).0, (each i h).1)) in
    let listed = all_present-at f 0 n all.0 all.1 in (
      all.0,
      all.1,
      λ i h.
          let there : Some (each i h).0 ≡ Some (get_or all.0 i d) = sym (each i h).1 ∙ (ap f (sym (from_zero i)) ∙ listed.1 i d h) in
          let same : (each i h).0 ≡ get_or all.0 i d = cc in
          subst (Q i) same (each i h).2,
    )

-- ---- what is kept

kept_or_not : {Y : Type 0} (P : Y → Type 0) (o : Option Y) (kept : List Y) → IfSome o P → All P kept → All P (cons_option o kept)
kept_or_not P None kept here all = all
kept_or_not P (Some x) kept here all = All-cons P x kept here all

pub all_kept : {X Y : Type 0} (P : Y → Type 0) (h : X → Option Y) (xs : List X) → ((x : X) → IfSome (h x) P) → All P (filter_map h xs)
all_kept P h [] each = All-nil P
all_kept P h (x ∷ xs) each = kept_or_not P (h x) (filter_map h xs) (each x) (all_kept P h xs each)

-- a whole polynomial is of coefficients that were kept
pub first_kept : (P : ℤ → Type 0) (kept values : List ℤ) → All P kept → first_256 kept ≡ Some values → (length values ≡ 256) × All P values
unfolding first_256
first_kept P kept values all e = elim (cases_lt (length kept) 256) [
  | inl few ↦
      let test : nat_lt (length kept) 256 ≡ true = lt-ltb (length kept) 256 few in
      absurd (none-some values (rw test at e))
  | inr enough ↦
      let test : nat_lt (length kept) 256 ≡ false = le-ltb (length kept) 256 enough in
      let same : take 256 kept ≡ values = (let whole : Some (take 256 kept) ≡ Some values = rw test at e in cc) in
      let long : length (take 256 kept) ≡ 256 = length-take-le 256 kept enough in
      rw (sym same) (long, All-take P 256 kept all)
]

-- ---- the matrix's entries are 256 residues

residue_or_none : (n : ℕ) → IfSome (if nat_lt n 8380417 then Some (pos n) else None) (λ x. (pos 0 ≤ℤ x) × (x ≤ℤ pos 8380416))
residue_or_none n = grind (arith, ints, common_steps, cases_lt, lt-ltb, le-ltb)

triple_residue : (front : List ℕ) (p : ℕ) → IfSome (triple front p) (λ x. (pos 0 ≤ℤ x) × (x ≤ℤ pos 8380416))
unfolding triple
triple_residue front p = residue_or_none (three_bytes (get_or front (3 * p) 0) (get_or front (3 * p + 1) 0) (get_or front (3 * p + 2) 0))

pub whole_entry : (kept : List ℤ) (o : Option (List ℤ)) (t : T) → first_256 kept ≡ o → option_map (λ values. let t : T = record { 0 = values } in t) o ≡ Some t → first_256 kept ≡ Some t.0
whole_entry kept None t e m = absurd (none-some t m)
whole_entry kept (Some values) t e m = let made : T = record { 0 = values } in let whole : Some made ≡ Some t = m in let same : made ≡ t = cc in e ∙ ap (λ (t : T). Some t.0) same

pub matrix_entry-residues : (front : List ℕ) (t : T) → matrix_entry front ≡ Some t → (length t.0 ≡ 256) × All (λ x. (pos 0 ≤ℤ x) × (x ≤ℤ pos 8380416)) t.0
unfolding matrix_entry kept_triples triple
matrix_entry-residues front t e =
    let P = λ (x : ℤ). (pos 0 ≤ℤ x) × (x ≤ℤ pos 8380416) in
    let kept = filter_map (triple front) (range_with_len 0 (length front / 4)) in
    first_kept P kept t.0 (all_kept P (triple front) (range_with_len 0 (length front / 4)) (triple_residue front)) (whole_entry kept (first_256 kept) t refl e)

residues-within : (xs : List ℤ) → All (λ x. (pos 0 ≤ℤ x) × (x ≤ℤ pos 8380416)) xs → ValuesWithin 8380416 xs
residues-within xs h i d l = let b = h i d l in omega (arith, ints, b)

-- a row that is sampled is below q
pub row-within : (G : List ℕ → List ℕ) (rho : List ℕ) (l r : ℕ) (row : List T) → sampled_row G rho l r ≡ Some row → TransformsWithin 8380416 row
row-within G rho l r row e s f m = grind (arith, ints, common_steps, all_present-at, from_zero, residues-within, matrix_entry-residues)

-- and so is a matrix
pub matrix-within : (G : List ℕ → List ℕ) (rho : List ℕ) (k l : ℕ) (a : List (List T)) → sampled_matrix G rho k l ≡ Some a → MatrixWithin 8380416 a
unfolding sampled_matrix
matrix-within G rho k l a e r d h = grind (arith, ints, common_steps, all_present-at, row-within, from_zero)

-- The range of small polynomials.

-- a coefficient from a half byte is from -eta to eta
small_or_none : (eta b : ℕ) → (eta ≡ 2) ⊎ (eta ≡ 4) → IfSome (coefficient_from_half_byte eta b) (λ x. ((pos 0 -ℤ pos eta) ≤ℤ x) × (x ≤ℤ pos eta))
small_or_none eta b (inl e) = grind (arith, ints, common_steps, cases_lt, lt-ltb, le-ltb)
small_or_none eta b (inr e) = grind (arith, ints, common_steps, cases_lt, lt-ltb, le-ltb)

pub whole_polynomial : (kept : List ℤ) (o : Option (List ℤ)) (w : R) → first_256 kept ≡ o → option_map (λ values. let w : R = record { 0 = values } in w) o ≡ Some w → first_256 kept ≡ Some w.0
whole_polynomial kept None w e m = absurd (none-some w m)
whole_polynomial kept (Some values) w e m = let made : R = record { 0 = values } in let whole : Some made ≡ Some w = m in let same : made ≡ w = cc in e ∙ ap (λ (w : R). Some w.0) same

-- 256 coefficients from -eta to eta
pub small_polynomial-range : (eta : ℕ) (front : List ℕ) (w : R) → (eta ≡ 2) ⊎ (eta ≡ 4) → small_polynomial eta front ≡ Some w
    → (length w.0 ≡ 256) × PolynomialInRange (pos 0 -ℤ pos eta) (pos eta) w.0
unfolding small_polynomial kept_half_bytes
small_polynomial-range eta front w set e =
    let P = λ (x : ℤ). ((pos 0 -ℤ pos eta) ≤ℤ x) × (x ≤ℤ pos eta) in
    let halves = half_bytes (take (length front / 4) front) in
    let kept = filter_map (coefficient_from_half_byte eta) halves in
    first_kept P kept w.0 (all_kept P (coefficient_from_half_byte eta) halves (λ b. small_or_none eta b set)) (whole_polynomial kept (first_256 kept) w refl e)

pub small_vector-range : (eta : ℕ) (H : List ℕ → List ℕ) (rho : List ℕ) (first count : ℕ) (v : List R) → (eta ≡ 2) ⊎ (eta ≡ 4) → small_vector eta H rho first count ≡ Some v → IsVector count eta eta v
unfolding small_vector
small_vector-range eta H rho first count v set e = grind (arith, ints, common_steps, all_present-at, to_le_bytes, small_polynomial-range)

-- ---- both small vectors

pub vectors_some : (eta : ℕ) (H : List ℕ → List ℕ) (rho : List ℕ) (k l : ℕ) (s1 s2 : List R) → small_vector eta H rho 0 l ≡ Some s1 → small_vector eta H rho l k ≡ Some s2
    → small_vectors eta H rho k l ≡ Some (s1, s2)
unfolding small_vectors small_vector
vectors_some eta H rho k l s1 s2 e f = rw (e, f) refl

pub vectors_none : (eta : ℕ) (H : List ℕ → List ℕ) (rho : List ℕ) (k l : ℕ) → (small_vector eta H rho 0 l ≡ None) ⊎ (small_vector eta H rho l k ≡ None)
    → small_vectors eta H rho k l ≡ None
unfolding small_vectors small_vector
vectors_none eta H rho k l (inl e) = rw e refl
vectors_none eta H rho k l (inr e) = rw e (whatever (small_vector eta H rho 0 l))
  where
    whatever : (o : Option (List R)) → option_and_then (λ s1. let none : Option (List R × List R) = None in none) o ≡ None
    whatever None = refl
    whatever (Some s1) = refl
