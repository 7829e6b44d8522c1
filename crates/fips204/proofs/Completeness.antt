-- What signing returns is the signature of a kept attempt, and it is accepted.
use Rattle.std.proofs.Common.{◌≡◌, ◌⊎◌, inl, inr, ◌+◌, ◌-◌, ◌*◌, ℕ, zero, suc, List, [], ◌∷◌, IsTrue, ◌&&◌, nat_lt, nat_le, length, map, Some, None, Result, Ok, refl, ap, sym, ◌∙◌, ◌<◌, ◌≤◌, ◌++◌, pos, arith, option_map, unwrap_or, Err}
use Rattle.fips204.proofs.Names.{range_with_len, cases_Bool, ltb-true, leb-true, Fault, SamplingLimit, R, T, vector_norm, challenge, mask, sampled_matrix, PrivateParts, ArePrivateParts, signature_bytes, w1_bytes, all_ones, vector_coefficients, matrix_product, IsVector, ParameterSet, c_tilde_length, IsSet, IsWhole, high_part, low_part, response, low_vector, ct0, hint_vector, passes_checks, commitment_hash, attempt, w_minus_cs2, first_answer, sign_with, sign, length-take-le, Accepts, Verifies, scaled, y_plus_cs1, high_vector, mask_seed, checked_attempt}
use Rattle.std.specs.declared.option.Option.{Option}
use Rattle.fips204.proofs.ParameterSets.{and_out, AreSetNumbers, set_numbers}
use Rattle.fips204.proofs.KeptHints.{IsKept, hinted_is_high}
use Rattle.fips204.proofs.RejectionChecks.{centred-range, hint-vector}

-- What signing returns is the signature of an attempt that was kept.

-- ---- the attempt that was signed

signed_or_later : (this : Result (Option (List ℕ)) Fault) (later : List (Result (Option (List ℕ)) Fault)) (signature : List ℕ) → first_answer (this ∷ later) ≡ Ok signature
    → (this ≡ Ok (Some signature)) ⊎ (first_answer later ≡ Ok signature)
unfolding first_answer
signed_or_later (Err fault) later signature e = absurd cc
signed_or_later (Ok None) later signature e = inr e
signed_or_later (Ok (Some bytes)) later signature e = let same : bytes ≡ signature = cc in inl (ap (λ s. Ok (Some s)) same)

none_signed : (signature : List ℕ) → first_answer [] ≡ Ok signature → ⊥
unfolding first_answer
none_signed signature e = cc

some_signed : (f : ℕ → Result (Option (List ℕ)) Fault) (a count : ℕ) (signature : List ℕ) → first_answer (map f (range_with_len a count)) ≡ Ok signature → (n : ℕ) × (f n ≡ Ok (Some signature))
some_signed f a zero signature e = absurd (none_signed signature e)
some_signed f a (suc count) signature e = elim (signed_or_later (f a) (map f (range_with_len (a + 1) count)) signature e) [
  | inl here ↦ (a, here)
  | inr later ↦ some_signed f (a + 1) count signature later
]

-- ---- its challenge and its tests

pub kept : (p : ParameterSet) (sk : PrivateParts) (y : List R) (w : ℕ → ℕ → ℕ) (c : R) → IsTrue (passes_checks p sk y w c) → IsKept p sk y w c
unfolding passes_checks
kept p sk y w c t =
    let z = nat_lt (vector_norm (response p sk y c)) (p.gamma1 - p.beta) in
    let r = nat_lt (vector_norm (low_vector p sk w c)) (p.gamma2 - p.beta) in
    let s = nat_lt (vector_norm (ct0 p sk c)) p.gamma2 in
    let h = nat_le (length (all_ones (hint_vector p sk w c))) p.omega in
    let three = and_out (z && r && s) h t in
    let two = and_out (z && r) s three.0 in
    let one = and_out z r two.0 in
    record {
      response_norm = ltb-true (vector_norm (response p sk y c)) (p.gamma1 - p.beta) one.0;
      low_norm = ltb-true (vector_norm (low_vector p sk w c)) (p.gamma2 - p.beta) one.1;
      scaled_norm = ltb-true (vector_norm (ct0 p sk c)) p.gamma2 two.1;
      few = leb-true (length (all_ones (hint_vector p sk w c))) p.omega three.1;
    }

-- what a judgement that gives a signature says
pub record GivesSignature (p : ParameterSet) (sk : PrivateParts) (y : List R) (w : ℕ → ℕ → ℕ) (c_tilde : List ℕ) (o : Option R) (signature : List ℕ) : Type 0 where
  pub c : R
  pub there : o ≡ Some c
  pub tests : IsKept p sk y w c
  pub bytes : signature_bytes p.gamma1 p.omega c_tilde (response p sk y c) (hint_vector p sk w c) ≡ signature

signed_bytes : (x y : List ℕ) → Path (Result (Option (List ℕ)) Fault) (Ok (Some x)) (Ok (Some y)) → x ≡ y
signed_bytes x y e = cc

not_signed : (x : List ℕ) → Path (Result (Option (List ℕ)) Fault) (Ok None) (Ok (Some x)) → ⊥
not_signed x e = cc

not_limit : (x : List ℕ) → Path (Result (Option (List ℕ)) Fault) (Err SamplingLimit) (Ok (Some x)) → ⊥
not_limit x e = cc

judged_signed : (p : ParameterSet) (sk : PrivateParts) (y : List R) (w : ℕ → ℕ → ℕ) (c_tilde : List ℕ) (o : Option R) (signature : List ℕ) → checked_attempt p sk y w c_tilde o ≡ Ok (Some signature)
    → GivesSignature p sk y w c_tilde o signature
judged_signed p sk y w c_tilde None signature e = absurd (not_limit signature e)
judged_signed p sk y w c_tilde (Some c) signature e = elim (cases_Bool (passes_checks p sk y w c)) [
  | inl t ↦ record {
    c = c;
    there = refl;
    tests = kept p sk y w c t;
    bytes = signed_bytes (signature_bytes p.gamma1 p.omega c_tilde (response p sk y c) (hint_vector p sk w c)) signature (rw t at e);
  }
  | inr f ↦ absurd (not_signed signature (rw f at e))
]

-- ---- signing

-- the attempt that gave a signature: its mask, and what it says
pub record WasSigned (p : ParameterSet) (H : List ℕ → List ℕ) (a : List (List T)) (sk : PrivateParts) (mu signature : List ℕ) : Type 0 where
  pub y : List R
  pub gives : GivesSignature p sk y (matrix_product p.l a (vector_coefficients y)) (commitment_hash p H mu (high_vector p (matrix_product p.l a (vector_coefficients y))))
      (challenge p.tau (H (commitment_hash p H mu (high_vector p (matrix_product p.l a (vector_coefficients y)))))) signature

attempt_signed : (p : ParameterSet) (H : List ℕ → List ℕ) (a : List (List T)) (sk : PrivateParts) (mu seed signature : List ℕ) (kappa : ℕ) → attempt p H a sk mu seed kappa ≡ Ok (Some signature)
    → WasSigned p H a sk mu signature
unfolding attempt
attempt_signed p H a sk mu seed signature kappa e =
    let y = mask p.gamma1 H seed p.l kappa in
    let w = matrix_product p.l a (vector_coefficients y) in
    let c_tilde = commitment_hash p H mu (high_vector p w) in
    record { y = y; gives = judged_signed p sk y w c_tilde (challenge p.tau (H c_tilde)) signature e }

sign_with_signed : (p : ParameterSet) (H : List ℕ → List ℕ) (a : List (List T)) (sk : PrivateParts) (mu rnd signature : List ℕ) → sign_with p H a sk mu rnd ≡ Ok signature → WasSigned p H a sk mu signature
unfolding sign_with
sign_with_signed p H a sk mu rnd signature e =
    let seed = mask_seed H sk rnd mu in
    let found = some_signed (λ n. attempt p H a sk mu seed (n * p.l)) 0 814 signature e in
    attempt_signed p H a sk mu seed signature (found.0 * p.l) found.1

pub signed_by_attempt : (p : ParameterSet) (H G : List ℕ → List ℕ) (sk : PrivateParts) (mu rnd signature : List ℕ) (a : List (List T)) → sampled_matrix G sk.rho p.k p.l ≡ Some a → sign p H G sk mu rnd ≡ Ok signature
    → WasSigned p H a sk mu signature
unfolding sign
signed_by_attempt p H G sk mu rnd signature a there e =
    sign_with_signed p H a sk mu rnd signature (sym (ap (λ o. unwrap_or (option_map (λ m. sign_with p H m sk mu rnd) o) (Err SamplingLimit)) there) ∙ e)

-- What signing gives with a consistent private key is accepted.

-- ---- the parts of the signature

length-commitment : (p : ParameterSet) (H : List ℕ → List ℕ) (mu : List ℕ) (w1 : List R) → ((x : List ℕ) → 4096 ≤ length (H x)) → c_tilde_length p ≤ 64 → length (commitment_hash p H mu w1) ≡ c_tilde_length p
unfolding commitment_hash
length-commitment p H mu w1 whole short =
    let long = whole (mu ++ w1_bytes p.gamma2 w1) in
    length-take-le (c_tilde_length p) (H (mu ++ w1_bytes p.gamma2 w1)) (omega (arith, long, short))

response_range : (p : ParameterSet) (sk : PrivateParts) (y : List R) (c : R) → vector_norm (response p sk y c) < p.gamma1 - p.beta → IsVector p.l (p.gamma1 - 1) p.gamma1 (response p sk y c)
unfolding response
response_range p sk y c norm = centred-range p.gamma1 (p.gamma1 - p.beta) p.l (λ r n. pos (y_plus_cs1 sk.s1 y c r n)) (omega arith) norm

hint_range : (p : ParameterSet) (sk : PrivateParts) (w : ℕ → ℕ → ℕ) (c : R) → IsVector p.k 0 1 (hint_vector p sk w c)
unfolding hint_vector
hint_range p sk w c = hint-vector p.k p.gamma2 (w_minus_cs2 sk.s2 w c) (λ r. scaled c (vector_coefficients sk.t0) r)

-- ---- acceptance

accepts : (p : ParameterSet) (H : List ℕ → List ℕ) (a : List (List T)) (sk : PrivateParts) (mu signature : List ℕ) → AreSetNumbers p → ArePrivateParts p.eta p.k p.l sk → sk.t0 ≡ low_part p a sk.s1 sk.s2
    → ((x : List ℕ) → 4096 ≤ length (H x)) → WasSigned p H a sk mu signature → Accepts p H a (high_part p a sk.s1 sk.s2) mu signature
unfolding commitment_hash
accepts p H a sk mu signature numbers parts low whole was =
    let w = matrix_product p.l a (vector_coefficients was.y) in
    let c_tilde = commitment_hash p H mu (high_vector p w) in
    let g = was.gives in
    record {
      c_tilde = c_tilde;
      w1 = w1_bytes p.gamma2 (high_vector p w);
      opened = record {
        z = response p sk was.y g.c;
        h = hint_vector p sk w g.c;
        parts = record {
          c_tilde_size = length-commitment p H mu (high_vector p w) whole numbers.short;
          response = response_range p sk was.y g.c g.tests.response_norm;
          hint = hint_range p sk w g.c;
          few = g.tests.few;
          encoding = g.bytes;
        };
        norm = g.tests.response_norm;
        c = g.c;
        sampled = g.there;
        recomputed = ap (w1_bytes p.gamma2) (sym (hinted_is_high p a sk was.y (H c_tilde) g.c numbers parts.s2 low g.there g.tests));
      };
      same = refl;
    }

-- what signing gives with the matrix and a private key that is consistent with it
pub accepts_signed_with : (p : ParameterSet) (H : List ℕ → List ℕ) (a : List (List T)) (sk : PrivateParts) (mu rnd signature : List ℕ) → IsSet p → ArePrivateParts p.eta p.k p.l sk
    → sk.t0 ≡ low_part p a sk.s1 sk.s2 → ((x : List ℕ) → 4096 ≤ length (H x)) → sign_with p H a sk mu rnd ≡ Ok signature → Accepts p H a (high_part p a sk.s1 sk.s2) mu signature
accepts_signed_with p H a sk mu rnd signature row parts low law made = accepts p H a sk mu signature (set_numbers p row) parts low law (sign_with_signed p H a sk mu rnd signature made)

-- what signing gives with a consistent private key, the public key accepts whose high part is that of A s1 + s2
pub completeness : (p : ParameterSet) (H G : List ℕ → List ℕ) (sk : PrivateParts) (mu rnd signature : List ℕ) → IsSet p → ArePrivateParts p.eta p.k p.l sk → (whole : IsWhole p G sk)
    → ((x : List ℕ) → 4096 ≤ length (H x)) → sign p H G sk mu rnd ≡ Ok signature
    → Verifies p H G record { rho = sk.rho; tr = sk.tr; t1 = high_part p whole.matrix sk.s1 sk.s2 } mu signature
completeness p H G sk mu rnd signature row parts whole law made = record {
  a = whole.matrix;
  matrix = whole.sampled;
  accepted = accepts p H whole.matrix sk mu signature (set_numbers p row) parts whole.low law (signed_by_attempt p H G sk mu rnd signature whole.matrix whole.sampled made);
}
