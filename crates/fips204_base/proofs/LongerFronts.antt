-- What samplers give over an output they give over each longer one that it is a prefix of.
use Rattle.std.proofs.Common.{◌≡◌, ℕ, ◌+◌, ◌*◌, ◌/◌, ◌<◌, ◌≤◌, ◌⊎◌, inl, inr, List, [], ◌∷◌, ◌++◌, length, take, drop, get_or, map, refl, ap, sym, ◌∙◌, arith, length-take, get_or-take, Some, None}
use Rattle.std.specs.Prelude.{option_map, option_and_then, filter_map}
use Rattle.std.specs.declared.option.Option.{Option}
use Rattle.std.specs.Int.{to_le_bytes}
use Rattle.std.specs.List.{range_with_len}
use Rattle.std.proofs.lemmas.List.{take-take, drop-take}
use Rattle.std.proofs.lemmas.Option.{none-some}
use Rattle.fips204_base.specs.declared.types.R.{R}
use Rattle.fips204_base.specs.declared.types.T.{T}
use Rattle.fips204_base.specs.Streams.{IsPrefix, ArePrefixes}
use Rattle.fips204_base.specs.Sampling.{first_256, all_present, matrix_entry, sampled_matrix, small_polynomial, coefficient_from_half_byte, challenge, mask}
use Rattle.fips204_base.specs.Packing.{bit_length}
use Rattle.fips204_base.proofs.Sampling.{given_joined, kept_triples-beyond, kept_half_bytes-beyond, first_256-beyond}
use Rattle.fips204_base.proofs.Sampled.{whole_entry, whole_polynomial}
use Rattle.fips204_base.proofs.Challenges.{picks-beyond, length-challenge_picks, challenge_picks}
use Rattle.fips204_base.specs.SamplerSteps.{mask_width, triple, kept_triples, half_bytes, kept_half_bytes, small_vector}
use Rattle.fips204_base.proofs.Masks.{mask-is, map_same}
use Rattle.std.proofs.lemmas.Int.{ints}
use Rattle.std.proofs.lemmas.Grind.{common_steps}

-- ---- bytes of a prefix

pub prefix-length : (xs ys : List ℕ) → IsPrefix xs ys → length xs ≤ length ys
prefix-length xs ys e = omega (arith, ap length e, length-take (length xs) ys)

pub prefix-take : (xs ys : List ℕ) (n : ℕ) → IsPrefix xs ys → n ≤ length xs → take n ys ≡ take n xs
prefix-take xs ys n e l = sym (take-take n (length xs) ys l) ∙ ap (take n) e

pub prefix-part : (xs ys : List ℕ) (m n : ℕ) → IsPrefix xs ys → m + n ≤ length xs → take n (drop m ys) ≡ take n (drop m xs)
prefix-part xs ys m n e l = sym (drop-take m n ys) ∙ ap (drop m) (prefix-take xs ys (m + n) e l) ∙ drop-take m n xs

prefix-at : (xs ys : List ℕ) (k : ℕ) → IsPrefix xs ys → k < length xs → get_or ys k 0 ≡ get_or xs k 0
prefix-at xs ys k e l = sym (get_or-take (length xs) ys k 0 l) ∙ ap (λ zs. get_or zs k 0) e

-- ---- a matrix entry

triple-longer : (xs ys : List ℕ) (p : ℕ) → IsPrefix xs ys → 3 * p + 2 < length xs → triple ys p ≡ triple xs p
unfolding triple
triple-longer xs ys p e l = grind (arith, ints, common_steps, prefix-at)

kept_triples-longer : (xs ys : List ℕ) (n : ℕ) → IsPrefix xs ys → 3 * n ≤ length xs → kept_triples ys n ≡ kept_triples xs n
unfolding kept_triples
kept_triples-longer xs ys n e l =
    let from_zero : (i : ℕ) → 0 + i ≡ i = λ i. omega arith in
    ap (λ k. filter_map (triple ys) (range_with_len 0 k)) (sym (from_zero n))
    ∙ given_joined (triple ys) (triple xs) 0 n (λ p h. ap (triple ys) (from_zero p) ∙ triple-longer xs ys p e (omega (arith, l, h)))

pub matrix_entry-longer : (xs ys : List ℕ) (t : T) → IsPrefix xs ys → matrix_entry xs ≡ Some t → matrix_entry ys ≡ Some t
unfolding matrix_entry kept_triples triple
matrix_entry-longer xs ys t e there =
    let n : ℕ = length xs / 4 in
    let more = kept_triples-beyond ys (length xs / 4) (length ys / 4) (omega (arith, prefix-length xs ys e)) in
    let whole : kept_triples ys (length ys / 4) ≡ kept_triples xs (length xs / 4) ++ more.0 = more.1 ∙ ap (λ l. l ++ more.0) (kept_triples-longer xs ys (length xs / 4) e (omega arith)) in
    let first = whole_entry (kept_triples xs (length xs / 4)) (first_256 (kept_triples xs (length xs / 4))) t refl there in
    let same : first_256 (kept_triples ys (length ys / 4)) ≡ Some t.0 = ap first_256 whole ∙ first_256-beyond (kept_triples xs (length xs / 4)) more.0 t.0 first in
    rw same refl

-- ---- a small polynomial

kept_half_bytes-longer : (eta : ℕ) (xs ys : List ℕ) (n : ℕ) → IsPrefix xs ys → n ≤ length xs → kept_half_bytes eta ys n ≡ kept_half_bytes eta xs n
unfolding kept_half_bytes
kept_half_bytes-longer eta xs ys n e l = ap (λ bytes. filter_map (coefficient_from_half_byte eta) (half_bytes bytes)) (prefix-take xs ys n e l)

pub small_polynomial-longer : (eta : ℕ) (xs ys : List ℕ) (w : R) → IsPrefix xs ys → small_polynomial eta xs ≡ Some w → small_polynomial eta ys ≡ Some w
unfolding small_polynomial kept_half_bytes
small_polynomial-longer eta xs ys w e there =
    let kept = kept_half_bytes eta xs (length xs / 4) in
    let more = kept_half_bytes-beyond eta ys (length xs / 4) (length ys / 4) (omega (arith, prefix-length xs ys e)) in
    let whole : kept_half_bytes eta ys (length ys / 4) ≡ kept ++ more.0 = more.1 ∙ ap (λ l. l ++ more.0) (kept_half_bytes-longer eta xs ys (length xs / 4) e (omega arith)) in
    let first = whole_polynomial kept (first_256 kept) w refl there in
    let same : first_256 (kept_half_bytes eta ys (length ys / 4)) ≡ Some w.0 = ap first_256 whole ∙ first_256-beyond kept more.0 w.0 first in
    rw same refl

-- ---- a challenge

pub challenge-longer : (tau : ℕ) (xs ys : List ℕ) (c : R) → IsPrefix xs ys → 4096 ≤ length xs → challenge tau xs ≡ Some c → challenge tau ys ≡ Some c
unfolding challenge challenge_picks
challenge-longer tau xs ys c e enough there = grind (arith, ints, common_steps, prefix-take, prefix-part, length-challenge_picks, length-take, picks-beyond, prefix-length)

-- ---- lists of samples

present_step : {A : Type 0} (o o' : Option A) (later later' : Option (List A)) (vs : List A) → ((v : A) → o ≡ Some v → o' ≡ Some v)
    → ((ws : List A) → later ≡ Some ws → later' ≡ Some ws)
    → option_and_then (λ value. option_map (λ values. value ∷ values) later) o ≡ Some vs → option_and_then (λ value. option_map (λ values. value ∷ values) later') o' ≡ Some vs
present_step None o' later later' vs p q e = absurd (none-some vs e)
present_step (Some v) o' None later' vs p q e = absurd (none-some vs e)
present_step (Some v) o' (Some ws) later' vs p q e = rw (p v refl, q ws refl) e

pub all_present-longer : {X A : Type 0} (f g : X → Option A) (xs : List X) (vs : List A) → ((x : X) (v : A) → f x ≡ Some v → g x ≡ Some v)
    → all_present (map f xs) ≡ Some vs → all_present (map g xs) ≡ Some vs
unfolding all_present
all_present-longer f g [] vs same e = e
all_present-longer f g (x ∷ xs) vs same e =
    present_step (f x) (g x) (all_present (map f xs)) (all_present (map g xs)) vs (same x) (λ ws there. all_present-longer f g xs ws same there) e

pub sampled_matrix-longer : (G G' : List ℕ → List ℕ) (rho : List ℕ) (k l : ℕ) (a : List (List T)) → ArePrefixes G G' → sampled_matrix G rho k l ≡ Some a → sampled_matrix G' rho k l ≡ Some a
unfolding sampled_matrix
sampled_matrix-longer G G' rho k l a e there = grind (arith, ints, common_steps, all_present-longer, matrix_entry-longer)

pub small_vector-longer : (eta : ℕ) (H H' : List ℕ → List ℕ) (rho : List ℕ) (first count : ℕ) (v : List R) → ArePrefixes H H' → small_vector eta H rho first count ≡ Some v → small_vector eta H' rho first count ≡ Some v
unfolding small_vector
small_vector-longer eta H H' rho first count v e there = grind (arith, ints, common_steps, to_le_bytes, all_present-longer, small_polynomial-longer)

-- ---- the mask

mask_bytes : (gamma1 : ℕ) → (gamma1 ≡ 131072) ⊎ (gamma1 ≡ 524288) → 32 * mask_width gamma1 ≤ 4096
unfolding bit_length
mask_bytes gamma1 (inl e) = rw e (omega arith)
mask_bytes gamma1 (inr e) = rw e (omega arith)

pub mask-longer : (gamma1 : ℕ) (H H' : List ℕ → List ℕ) (rho : List ℕ) (l kappa : ℕ) → (gamma1 ≡ 131072) ⊎ (gamma1 ≡ 524288) → ArePrefixes H H'
    → ((input : List ℕ) → 4096 ≤ length (H input)) → mask gamma1 H' rho l kappa ≡ mask gamma1 H rho l kappa
mask-longer gamma1 H H' rho l kappa set e enough = grind (arith, ints, common_steps, mask-is, map_same, to_le_bytes, prefix-take, mask_bytes)
