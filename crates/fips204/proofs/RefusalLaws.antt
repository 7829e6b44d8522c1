-- Which errors whole calls have.
use Rattle.std.proofs.Common.{◌≡◌, ◌⊎◌, inl, inr, ℕ, ◌*◌, List, [], ◌∷◌, map, Option, Some, None, Result, Ok, Err, refl, rules, IfErr, ok_or, option_map, unwrap_or}
use Rattle.fips204.proofs.Names.{range_with_len, Fault, SamplingLimit, T, sampled_matrix, ParameterSet, PrivateParts, attempt, first_answer, sign_with, sign, Input, representative, RefusesOnly, IsSigningLimit, mask_seed, derived, refused_or, input_fault, sign_input, OnlySamplingLimit}
use Rattle.fips204.proofs.KeyGeneration.{key_pair_of_seed, generated-by_parts}

-- a value, or a limit where there is none
limited : {A : Type 0} (o : Option A) → OnlySamplingLimit (ok_or o SamplingLimit)
limited None = refl
limited (Some x) = search rules

next_refuses : (this : Result (Option (List ℕ)) Fault) (later : List (Result (Option (List ℕ)) Fault)) → OnlySamplingLimit this → IfErr (first_answer later) (λ fault. IsSigningLimit fault)
    → IfErr (first_answer (this ∷ later)) (λ fault. IsSigningLimit fault)
unfolding first_answer
next_refuses (Err fault) later limit rest = inl limit
next_refuses (Ok None) later limit rest = rest
next_refuses (Ok (Some signature)) later limit rest = search rules

first_refuses : (f : ℕ → Result (Option (List ℕ)) Fault) (ns : List ℕ) → ((n : ℕ) → OnlySamplingLimit (f n)) → IfErr (first_answer (map f ns)) (λ fault. IsSigningLimit fault)
unfolding first_answer
first_refuses f [] limits = inr refl
first_refuses f (n ∷ ns) limits = next_refuses (f n) (map f ns) (limits n) (first_refuses f ns limits)

attempt_refuses : (p : ParameterSet) (H : List ℕ → List ℕ) (a : List (List T)) (sk : PrivateParts) (mu seed : List ℕ) (kappa : ℕ) → OnlySamplingLimit (attempt p H a sk mu seed kappa)
unfolding attempt
attempt_refuses p H a sk mu seed kappa = limited _

with_matrix : (p : ParameterSet) (H : List ℕ → List ℕ) (matrix : Option (List (List T))) (sk : PrivateParts) (mu rnd : List ℕ)
    → IfErr (unwrap_or (option_map (λ a. sign_with p H a sk mu rnd) matrix) (Err SamplingLimit)) (λ fault. IsSigningLimit fault)
unfolding sign_with
with_matrix p H None sk mu rnd = inl refl
with_matrix p H (Some a) sk mu rnd =
    let seed = mask_seed H sk rnd mu in
    first_refuses (λ n. attempt p H a sk mu seed (n * p.l)) (range_with_len 0 814) (λ n. attempt_refuses p H a sk mu seed (n * p.l))

signing_refuses : (p : ParameterSet) (H G : List ℕ → List ℕ) (sk : PrivateParts) (mu rnd : List ℕ) → IfErr (sign p H G sk mu rnd) (λ fault. IsSigningLimit fault)
unfolding sign
signing_refuses p H G sk mu rnd = with_matrix p H (sampled_matrix G sk.rho p.k p.l) sk mu rnd

-- an error that stands first, or one of the result
first_or_later : (first : Option Fault) (answer : Result (List ℕ) Fault) (may : Fault → Type 0) → IfErr answer may → IfErr (refused_or first answer) (λ fault. (first ≡ Some fault) ⊎ may fault)
first_or_later None (Ok x) may is = search rules
first_or_later None (Err fault) may is = inr is
first_or_later (Some fault) answer may is = inl refl

input_refuses : (p : ParameterSet) (H G : List ℕ → List ℕ) (sk : PrivateParts) (rnd : List ℕ) (input : Input)
    → IfErr (sign_input p H G sk rnd input) (λ fault. (input_fault input ≡ Some fault) ⊎ IsSigningLimit fault)
input_refuses p H G sk rnd input =
    let mu = representative H sk.tr input in
    first_or_later (input_fault input) (sign p H G sk mu rnd) (λ fault. IsSigningLimit fault) (signing_refuses p H G sk mu rnd)

pub refuses_only : (p : ParameterSet) (H G : List ℕ → List ℕ) → RefusesOnly p H G
unfolding derived
refuses_only p H G = record {
  pairs = λ xi. rw (generated-by_parts p H G xi) (limited (key_pair_of_seed p H G xi));
  derived_keys = λ sk. limited _;
  private_keys = λ sk. limited _;
  public_keys = λ pk. limited _;
  inputs = λ sk rnd input. input_refuses p H G sk rnd input;
}
