-- The first attempt that isn't rejected decides what signing returns.
use Rattle.std.proofs.Common.{◌≡◌, ◌<◌, ◌+◌, ◌-◌, ℕ, suc, List, [], ◌∷◌, Ok, Err, map, refl, ap, sym, ◌∙◌, arith, ◌≤◌, ◌*◌, Option, Some, None, Result}
use Rattle.fips204.proofs.Names.{range_with_len, TooManyAttempts, SamplingLimit, attempt, first_answer, sign, sign_with, mask_seed, mul-le-mul, Fault, T, sampled_matrix, PrivateParts, ParameterSet}

-- ---- the result of attempts

-- the result of `count` attempts, those of the numbers from n on
unfoldable pub answer_from : (ℕ → Result (Option (List ℕ)) Fault) → ℕ → ℕ → Result (List ℕ) Fault
answer_from f n count = first_answer (map f (range_with_len n count))

first-rejected : (later : List (Result (Option (List ℕ)) Fault)) (this : Result (Option (List ℕ)) Fault) → this ≡ Ok None → first_answer (this ∷ later) ≡ first_answer later
unfolding first_answer
first-rejected later this e = rw e refl

first-signed : (later : List (Result (Option (List ℕ)) Fault)) (this : Result (Option (List ℕ)) Fault) (signature : List ℕ) → this ≡ Ok (Some signature) → first_answer (this ∷ later) ≡ Ok signature
unfolding first_answer
first-signed later this signature e = rw e refl

first-limit : (later : List (Result (Option (List ℕ)) Fault)) (this : Result (Option (List ℕ)) Fault) (fault : Fault) → this ≡ Err fault → first_answer (this ∷ later) ≡ Err fault
unfolding first_answer
first-limit later this fault e = rw e refl

first-none : first_answer [] ≡ Err TooManyAttempts
unfolding first_answer
first-none = refl

-- from here on: attempt n of 814
module _ (f : ℕ → Result (Option (List ℕ)) Fault) (n : ℕ) where
  this_first : n < 814 → answer_from f n (814 - n) ≡ first_answer (f n ∷ map f (range_with_len (n + 1) (814 - (n + 1))))
  unfolding answer_from
  this_first l = let e : 814 - n ≡ suc (814 - (n + 1)) = omega (arith, l) in ap (λ k. first_answer (map f (range_with_len n k))) e

  -- it is rejected, or it decides
  pub answer-rejected : n < 814 → f n ≡ Ok None → answer_from f n (814 - n) ≡ answer_from f (n + 1) (814 - (n + 1))
  unfolding answer_from
  answer-rejected l e = this_first l ∙ first-rejected _ (f n) e

  pub answer-signed : (signature : List ℕ) → n < 814 → f n ≡ Ok (Some signature) → answer_from f n (814 - n) ≡ Ok signature
  answer-signed signature l e = this_first l ∙ first-signed _ (f n) signature e

  pub answer-limit : (fault : Fault) → n < 814 → f n ≡ Err fault → answer_from f n (814 - n) ≡ Err fault
  answer-limit fault l e = this_first l ∙ first-limit _ (f n) fault e

  -- or there is none
  pub answer-none : n ≡ 814 → answer_from f n (814 - n) ≡ Err TooManyAttempts
  unfolding answer_from
  answer-none e = let none : 814 - n ≡ 0 = omega (arith, e) in ap (λ k. first_answer (map f (range_with_len n k))) none ∙ first-none

-- the counters of the attempts are small
pub counter_fits : (n l : ℕ) → n ≤ 814 → l ≤ 7 → n * l ≤ 5698
counter_fits n l last few = mul-le-mul last few

-- ---- signing with the matrix

-- the attempt of a number
abbrev pub tries : ParameterSet → (List ℕ → List ℕ) → List (List T) → PrivateParts → List ℕ → List ℕ → ℕ → ℕ → Result (Option (List ℕ)) Fault
tries p H a sk mu seed l n = attempt p H a sk mu seed (n * l)

pub sign_with-is : (p : ParameterSet) (H : List ℕ → List ℕ) (a : List (List T)) (sk : PrivateParts) (mu rnd seed : List ℕ) (l : ℕ) → seed ≡ mask_seed H sk rnd mu → l ≡ p.l
    → sign_with p H a sk mu rnd ≡ answer_from (tries p H a sk mu seed l) 0 814
unfolding sign_with answer_from
sign_with-is p H a sk mu rnd seed l seeded columns =
    ap (λ s. answer_from (tries p H a sk mu s p.l) 0 814) (sym seeded) ∙ ap (λ k. answer_from (tries p H a sk mu seed k) 0 814) (sym columns)

-- ---- signing

pub sign-by_matrix : (p : ParameterSet) (H G : List ℕ → List ℕ) (sk : PrivateParts) (mu rnd : List ℕ) (a : List (List T)) (answer : Result (List ℕ) Fault) → sampled_matrix G sk.rho p.k p.l ≡ Some a → answer ≡ sign_with p H a sk mu rnd
    → answer ≡ sign p H G sk mu rnd
unfolding sign
sign-by_matrix p H G sk mu rnd a answer e with_matrix = rw e with_matrix

pub sign-no_matrix : (p : ParameterSet) (H G : List ℕ → List ℕ) (sk : PrivateParts) (mu rnd : List ℕ) → sampled_matrix G sk.rho p.k p.l ≡ None → sign p H G sk mu rnd ≡ Err SamplingLimit
unfolding sign
sign-no_matrix p H G sk mu rnd e = rw e refl
