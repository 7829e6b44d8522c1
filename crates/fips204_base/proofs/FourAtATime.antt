-- What is sampled four at a time: outputs that are read in two parts, and entries that are made ahead.
use Rattle.std.proofs.Common.{◌≡◌, ℕ, ◌+◌, ◌*◌, ◌/◌, ◌%◌, ◌<◌, List, [], ◌∷◌, ◌++◌, map, take, drop, get_or, length, refl, ap, sym, ◌∙◌, Some, None, Ok, Err, zero, suc, arith, add-zero, length-drop, length-append, length-take, ◌-◌}
use Rattle.std.specs.Prelude.{MatchResult}
use Rattle.std.specs.declared.result.Result.{Result}
use Rattle.std.specs.declared.option.Option.{Option}
use Rattle.std.specs.List.{range_with_len}
use Rattle.std.proofs.lemmas.List.{take-append-drop}
use Rattle.std.proofs.lemmas.Nat.{div-mul-add, mod-mul-add, div_below, mod_below}
use Rattle.fips204_base.specs.SamplerSteps.{AreAhead, numbered_entry, sampled_entry, sampled_row, small_vector}
use Rattle.fips204_base.specs.Sampling.{all_present, sampled_matrix, small_polynomial}
use Rattle.fips204_base.specs.declared.types.R.{R}
use Rattle.fips204_base.specs.declared.types.T.{T}
use Rattle.std.specs.Int.{w16, to_le_bytes}
use Rattle.fips204_base.proofs.Sampled.{all_present-none}

-- ---- an output that is read in two parts

pub parts_joined : {front reader piece rest : List ℕ} (n : ℕ) → reader ≡ front → piece ≡ take n reader → rest ≡ drop n reader → piece ++ rest ≡ front
parts_joined {front} {reader} {piece} {rest} n same first later = rw (first, later) (take-append-drop n reader ∙ same)

-- what is made of it, where it is said of the parts
pub of_parts : {A : Type 0} {front reader piece rest : List ℕ} {made : A} (make : List ℕ → A) (n : ℕ) → reader ≡ front → piece ≡ take n reader → rest ≡ drop n reader
    → make (piece ++ rest) ≡ made → make front ≡ made
of_parts make n same first later e = ap make (sym (parts_joined n same first later)) ∙ e

pub parts_long : {front reader piece rest : List ℕ} {size : ℕ} (n : ℕ) → reader ≡ front → piece ≡ take n reader → rest ≡ drop n reader → length front ≡ size
    → length piece + length rest ≡ size
parts_long {front} {reader} {piece} {rest} n same first later long = sym (length-append piece rest) ∙ ap length (parts_joined n same first later) ∙ long

-- a place of a part of a list, among its places
pub part_place : {A : Type 0} (from n j : ℕ) (xs : List A) → j < length (take (from + n - from) (drop from xs)) → from + j < length xs
part_place from n j xs h = omega (arith, h, length-take (from + n - from) (drop from xs), length-drop from xs)

-- ---- what is said of a value that may be none

pub matched : {A E : Type 0} {P P' : A → Type 0} {Q Q' : E → Type 0} (result : Result A E) → MatchResult result P Q → ((x : A) → P x → P' x) → ((e : E) → Q e → Q' e)
    → MatchResult result P' Q'
matched (Ok x) m p q = p x m
matched (Err e) m p q = q e m

-- each of the values is there
pub present_each : {A : Type 0} (f : ℕ → Option A) (a n : ℕ) (xs : List A) → length xs ≡ n → ((k : ℕ) (d : A) → k < n → f (a + k) ≡ Some (get_or xs k d))
    → all_present (map f (range_with_len a n)) ≡ Some xs
unfolding all_present
present_each f a zero [] size each = refl
present_each f a zero (x ∷ xs) size each = absurd (omega (arith, size))
present_each f a (suc n) [] size each = absurd (omega (arith, size))
present_each f a (suc n) (x ∷ xs) size each =
    let here : f a ≡ Some x = ap f (sym (add-zero a)) ∙ each 0 x (omega arith) in
    let later = present_each f (a + 1) n xs (omega (arith, size)) (λ k d h. (let e : a + 1 + k ≡ a + suc k = omega arith in ap f e) ∙ each (suc k) d (omega (arith, h))) in
    rw (here, later) refl

-- ---- numbers of entries

-- an entry of the matrix is none, and so is the matrix
pub matrix-none : (G : List ℕ → List ℕ) (rho : List ℕ) (k l n : ℕ) → 0 < l → n < k * l → numbered_entry G rho l n ≡ None → sampled_matrix G rho k l ≡ None
unfolding sampled_matrix
matrix-none G rho k l n some place e =
    let row = all_present-none (sampled_entry G rho (n / l)) 0 l (n % l) (n % l) (mod_below n l some) (omega arith) e in
    all_present-none (sampled_row G rho l) 0 k (n / l) (n / l) (div_below n l k some place) (omega arith) row

-- where a place is within, there are columns
pub some_columns : (k l n : ℕ) → n < k * l → 0 < l
some_columns k zero n h = absurd (omega (arith, h))
some_columns k (suc l) n h = omega arith

pub entry-numbered : (G : List ℕ → List ℕ) (rho : List ℕ) (l r s : ℕ) → s < l → numbered_entry G rho l (r * l + s) ≡ sampled_entry G rho r s
entry-numbered G rho l r s h = rw (div-mul-add r l s h, mod-mul-add r l s h) refl

-- four entries that are a row
pub row_of_four : (G : List ℕ → List ℕ) (rho : List ℕ) (l r : ℕ) (row : List T) → l ≡ 4 → length row ≡ 4 → ((j : ℕ) (d : T) → j < 4 → numbered_entry G rho l (r * l + j) ≡ Some (get_or row j d))
    → sampled_row G rho l r ≡ Some row
row_of_four G rho l r row four size each = present_each (sampled_entry G rho r) 0 l row (size ∙ sym four) (λ k d h.
    let first : 0 + k ≡ k = omega arith in
    ap (sampled_entry G rho r) first ∙ (sym (entry-numbered G rho l r k h) ∙ each k d (omega (arith, h, four))))

-- after them no entry is ahead
pub ahead-none : (G : List ℕ → List ℕ) (rho : List ℕ) (l count r : ℕ) (ahead : List T) → l ≡ 4 → AreAhead G rho l count (r * l) ahead
ahead-none G rho l count r ahead four j d inside within h =
    let none : r * l % 4 ≡ 0 = rw four (omega arith) in
    absurd (inside none)

-- no other entry of the four is ahead where fewer than four are left
pub ahead-last : (G : List ℕ → List ℕ) (rho : List ℕ) (l count n : ℕ) (ahead : List T) → count < n / 4 * 4 + 4 → AreAhead G rho l count (n + 1) ahead
ahead-last G rho l count n ahead e j d within four h = absurd (omega (arith, e, four, within))

-- ---- small polynomials

pub small_vector-none : (eta : ℕ) (H : List ℕ → List ℕ) (rho : List ℕ) (first n r : ℕ) → r < n → small_polynomial eta (H (rho ++ to_le_bytes w16 (first + r))) ≡ None → small_vector eta H rho first n ≡ None
unfolding small_vector
small_vector-none eta H rho first n r h none = all_present-none (λ r. small_polynomial eta (H (rho ++ to_le_bytes w16 r))) first n r (first + r) h refl none

pub small_vector-each : (eta : ℕ) (H : List ℕ → List ℕ) (rho : List ℕ) (first n : ℕ) (polynomials : List R) → length polynomials ≡ n
    → ((k : ℕ) (d : R) → k < n → small_polynomial eta (H (rho ++ to_le_bytes w16 (first + k))) ≡ Some (get_or polynomials k d))
    → small_vector eta H rho first n ≡ Some polynomials
unfolding small_vector
small_vector-each eta H rho first n polynomials size each = present_each (λ r. small_polynomial eta (H (rho ++ to_le_bytes w16 r))) first n polynomials size each
