-- Results stay where the outputs are prefixes of longer ones.
use Rattle.std.proofs.Common.{◌≡◌, ◌≢◌, ℕ, ◌+◌, ◌-◌, ◌*◌, ◌≤◌, ◌⊎◌, inl, inr, List, [], ◌∷◌, ◌++◌, length, take, drop, map, refl, ap, sym, subst, ◌∙◌, arith, Some, None, ok_or, append_assoc, option_map, unwrap_or, Ok, Err}
use Rattle.fips204.proofs.Names.{range_with_len, take_at, none-some, Fault, SamplingLimit, R, T, vector_coefficients, matrix_product, PublicParts, PrivateParts, w1_bytes, public_key_bytes, vector_bytes, IsSignature, hint_bytes, sampled_matrix, challenge, mask, ParameterSet, c_tilde_length, IsSet, high_part, key_pair, key_hash, high_vector, mask_seed, checked_attempt, Input, plain, hashed, framed, represented, frame, representative, commitment_hash, attempt, first_answer, sign_with, sign, Verifies, generated, derived, refused_or, input_fault, sign_input, VerifiesInput}
use Rattle.std.specs.declared.option.Option.{Option}
use Rattle.std.specs.declared.result.Result.{Result}
use Rattle.fips204_base.specs.FrontLengths.{counter_blocks-prefix}
use Rattle.fips204_base.specs.Streams.{ArePrefixes}
use Rattle.fips204_base.proofs.LongerFronts.{prefix-take, prefix-part, matrix_entry-longer, small_polynomial-longer, challenge-longer, sampled_matrix-longer, small_vector-longer, mask-longer}
use Rattle.fips204.proofs.KeyGeneration.{key_pair_if_all, key_pair_of_seed, generated-by_parts}
use Rattle.fips204.specs.LongerFronts.{CounterFrontsArePrefixes, SamplesStay, Stays, AnswersStay, IsVerdictDecided, sampled, malformed, YesAndNoStay, AcceptanceStays, LongerFrontsKeep}
use Rattle.fips204.proofs.ParameterSets.{set_numbers}

-- an output has at least 4096 bytes
abbrev pub AreLong : (List ℕ → List ℕ) → Type 0
AreLong H = (input : List ℕ) → 4096 ≤ length (H input)

-- ---- results that may be none

ok_stays : {A : Type 0} (o longer : Option A) → ((x : A) → o ≡ Some x → longer ≡ Some x) → Stays (ok_or o SamplingLimit) (ok_or longer SamplingLimit)
ok_stays None longer same not = absurd (not refl)
ok_stays (Some x) longer same not = ap (λ o. ok_or o SamplingLimit) (same x refl)

mapped_stays : {A B : Type 0} (f : A → B) (o longer : Option A) (y : B) → ((x : A) → o ≡ Some x → longer ≡ Some x) → option_map f o ≡ Some y → option_map f longer ≡ Some y
mapped_stays f None longer y same e = absurd (none-some y e)
mapped_stays f (Some x) longer y same e = ap (option_map f) (same x refl) ∙ e

refused_stays : {A : Type 0} (fault : Option Fault) (answer longer : Result A Fault) → Stays answer longer → Stays (refused_or fault answer) (refused_or fault longer)
refused_stays None answer longer stays = stays
refused_stays (Some fault) answer longer stays = λ not. refl

-- a signature begins with c_tilde
signature-first : (gamma1 omega' k l n : ℕ) (bytes c_tilde : List ℕ) (z h : List R) → IsSignature gamma1 omega' k l n bytes c_tilde z h → take n bytes ≡ c_tilde
signature-first gamma1 omega' k l n bytes c_tilde z h s =
    let response = vector_bytes (gamma1 - 1) gamma1 z in
    let hint = hint_bytes omega' h in
    let same : (c_tilde ++ response) ++ hint ≡ bytes = s.encoding in
    ap (take n) (sym same ∙ append_assoc c_tilde response hint) ∙ take_at c_tilde (response ++ hint) n s.c_tilde_size

-- from here on: the XOFs H and G, and H' and G' with longer outputs
module _ (H G H' G' : List ℕ → List ℕ) (first : ArePrefixes H H') (second : ArePrefixes G G') (enough : AreLong H) where
  hash-longer : (n : ℕ) (input : List ℕ) → n ≤ 4096 → take n (H' input) ≡ take n (H input)
  hash-longer n input l = prefix-take (H input) (H' input) n (first input) (omega (arith, l, enough input))

  part-longer : (m n : ℕ) (input : List ℕ) → m + n ≤ 4096 → take n (drop m (H' input)) ≡ take n (drop m (H input))
  part-longer m n input l = prefix-part (H input) (H' input) m n (first input) (omega (arith, l, enough input))

  samples_stay : SamplesStay H G H' G'
  samples_stay = record {
    entries = λ input t e. matrix_entry-longer (G input) (G' input) t (second input) e;
    small_polynomials = λ eta input w e. small_polynomial-longer eta (H input) (H' input) w (first input) e;
    matrices = λ rho k l a e. sampled_matrix-longer G G' rho k l a second e;
    challenges = λ tau input c e. challenge-longer tau (H input) (H' input) c (first input) (enough input) e;
  }

  -- ---- key generation

  key_pair-longer : (p : ParameterSet) (rho key : List ℕ) (a : List (List T)) (s1 s2 : List R) → key_pair p H' rho key a s1 s2 ≡ key_pair p H rho key a s1 s2
  unfolding key_pair
  key_pair-longer p rho key a s1 s2 =
      let tr : key_hash H' rho (high_part p a s1 s2) ≡ key_hash H rho (high_part p a s1 s2) = hash-longer 64 (public_key_bytes rho (high_part p a s1 s2)) (omega arith) in
      rw tr refl

  pair_stays : (p : ParameterSet) (rho key : List ℕ) (a a' : Option (List (List T))) (s1 s1' s2 s2' : Option (List R)) (keys : PublicParts × PrivateParts)
      → ((x : List (List T)) → a ≡ Some x → a' ≡ Some x) → ((x : List R) → s1 ≡ Some x → s1' ≡ Some x) → ((x : List R) → s2 ≡ Some x → s2' ≡ Some x)
      → key_pair_if_all p H rho key a s1 s2 ≡ Some keys → key_pair_if_all p H' rho key a' s1' s2' ≡ Some keys
  unfolding key_pair_if_all
  pair_stays p rho key None a' s1 s1' s2 s2' keys x y z e = absurd (none-some keys e)
  pair_stays p rho key (Some a) a' None s1' s2 s2' keys x y z e = absurd (none-some keys e)
  pair_stays p rho key (Some a) a' (Some s1) s1' None s2' keys x y z e = absurd (none-some keys e)
  pair_stays p rho key (Some a) a' (Some s1) s1' (Some s2) s2' keys x y z e = rw (x a refl, y s1 refl, z s2 refl) (ap Some (key_pair-longer p rho key a s1 s2) ∙ e)

  seed-longer : (p : ParameterSet) (xi : List ℕ) (keys : PublicParts × PrivateParts) → key_pair_of_seed p H G xi ≡ Some keys → key_pair_of_seed p H' G' xi ≡ Some keys
  seed-longer p xi keys e =
      let input = xi ++ p.k ∷ p.l ∷ [] in
      let rho : take 32 (H' input) ≡ take 32 (H input) = hash-longer 32 input (omega arith) in
      let rho' : take 64 (drop 32 (H' input)) ≡ take 64 (drop 32 (H input)) = part-longer 32 64 input (omega arith) in
      let key : take 32 (drop 96 (H' input)) ≡ take 32 (drop 96 (H input)) = part-longer 96 32 input (omega arith) in
      rw (rho, rho', key)
      (pair_stays p (take 32 (H input)) (take 32 (drop 96 (H input))) _ _ _ _ _ _ keys
      (λ a there. sampled_matrix-longer G G' (take 32 (H input)) p.k p.l a second there)
      (λ v there. small_vector-longer p.eta H H' (take 64 (drop 32 (H input))) 0 p.l v first there)
      (λ v there. small_vector-longer p.eta H H' (take 64 (drop 32 (H input))) p.l p.k v first there) e)

  generated-longer : (p : ParameterSet) (xi : List ℕ) → Stays (generated p H G xi) (generated p H' G' xi)
  generated-longer p xi =
      rw (generated-by_parts p H G xi, generated-by_parts p H' G' xi) (ok_stays (key_pair_of_seed p H G xi) (key_pair_of_seed p H' G' xi) (seed-longer p xi))

  -- ---- signing

  commitment-longer : (p : ParameterSet) (mu : List ℕ) (w1 : List R) → IsSet p → commitment_hash p H' mu w1 ≡ commitment_hash p H mu w1
  unfolding commitment_hash
  commitment-longer p mu w1 t = hash-longer (c_tilde_length p) (mu ++ w1_bytes p.gamma2 w1) (omega (arith, (set_numbers p t).short))

  checked_stays : (p : ParameterSet) (sk : PrivateParts) (y : List R) (w : ℕ → ℕ → ℕ) (c_tilde : List ℕ) (c longer : Option R) → ((x : R) → c ≡ Some x → longer ≡ Some x)
      → (checked_attempt p sk y w c_tilde c ≡ Err SamplingLimit) ⊎ (checked_attempt p sk y w c_tilde longer ≡ checked_attempt p sk y w c_tilde c)
  checked_stays p sk y w c_tilde None longer same = inl refl
  checked_stays p sk y w c_tilde (Some c) longer same = inr (ap (checked_attempt p sk y w c_tilde) (same c refl))

  attempt-longer : (p : ParameterSet) (a : List (List T)) (sk : PrivateParts) (mu rho : List ℕ) (kappa : ℕ) → IsSet p
      → (attempt p H a sk mu rho kappa ≡ Err SamplingLimit) ⊎ (attempt p H' a sk mu rho kappa ≡ attempt p H a sk mu rho kappa)
  unfolding attempt
  attempt-longer p a sk mu rho kappa t =
      let y = mask p.gamma1 H rho p.l kappa in
      let w = matrix_product p.l a (vector_coefficients y) in
      let c_tilde = commitment_hash p H mu (high_vector p w) in
      let masks : mask p.gamma1 H' rho p.l kappa ≡ mask p.gamma1 H rho p.l kappa = mask-longer p.gamma1 H H' rho p.l kappa (set_numbers p t).gamma1 first enough in
      let committed : commitment_hash p H' mu (high_vector p w) ≡ c_tilde = commitment-longer p mu (high_vector p w) t in
      rw (masks, committed)
      (checked_stays p sk y w c_tilde (challenge p.tau (H c_tilde)) (challenge p.tau (H' c_tilde)) (λ c there. challenge-longer p.tau (H c_tilde) (H' c_tilde) c (first c_tilde) (enough c_tilde) there))

  next_stays : (x : Result (Option (List ℕ)) Fault) (later longer : List (Result (Option (List ℕ)) Fault)) → Stays (first_answer later) (first_answer longer) → Stays (first_answer (x ∷ later)) (first_answer (x ∷ longer))
  unfolding first_answer
  next_stays (Err fault) later longer stays not = refl
  next_stays (Ok None) later longer stays not = stays not
  next_stays (Ok (Some signature)) later longer stays not = refl

  first_stays : (f g : ℕ → Result (Option (List ℕ)) Fault) (ns : List ℕ) → ((n : ℕ) → (f n ≡ Err SamplingLimit) ⊎ (g n ≡ f n)) → Stays (first_answer (map f ns)) (first_answer (map g ns))
  unfolding first_answer
  first_stays f g [] each not = refl
  first_stays f g (n ∷ ns) each not = elim (each n) [
    | inl passed ↦ absurd (not (ap (λ x. first_answer (x ∷ map f ns)) passed))
    | inr same ↦ ap (λ x. first_answer (x ∷ map g ns)) same ∙ next_stays (f n) (map f ns) (map g ns) (first_stays f g ns each) not
  ]

  sign_with-longer : (p : ParameterSet) (a : List (List T)) (sk : PrivateParts) (mu rnd : List ℕ) → IsSet p → Stays (sign_with p H a sk mu rnd) (sign_with p H' a sk mu rnd)
  unfolding sign_with
  sign_with-longer p a sk mu rnd t not =
      let seed : mask_seed H' sk rnd mu ≡ mask_seed H sk rnd mu = hash-longer 64 (sk.key ++ rnd ++ mu) (omega arith) in
      let rho = mask_seed H sk rnd mu in
      ap (λ s. first_answer (map (λ n. attempt p H' a sk mu s (n * p.l)) (range_with_len 0 814))) seed
      ∙ first_stays (λ n. attempt p H a sk mu rho (n * p.l)) (λ n. attempt p H' a sk mu rho (n * p.l)) (range_with_len 0 814) (λ n. attempt-longer p a sk mu rho (n * p.l) t) not

  matrix_stays : (p : ParameterSet) (a longer : Option (List (List T))) (sk : PrivateParts) (mu rnd : List ℕ) → IsSet p
      → ((x : List (List T)) → a ≡ Some x → longer ≡ Some x) → Stays (unwrap_or (option_map (λ m. sign_with p H m sk mu rnd) a) (Err SamplingLimit)) (unwrap_or (option_map (λ m. sign_with p H' m sk mu rnd) longer) (Err SamplingLimit))
  matrix_stays p None longer sk mu rnd t same not = absurd (not refl)
  matrix_stays p (Some a) longer sk mu rnd t same not = rw (same a refl) (sign_with-longer p a sk mu rnd t not)

  sign-longer : (p : ParameterSet) (sk : PrivateParts) (mu rnd : List ℕ) → IsSet p → Stays (sign p H G sk mu rnd) (sign p H' G' sk mu rnd)
  unfolding sign
  sign-longer p sk mu rnd t =
      matrix_stays p (sampled_matrix G sk.rho p.k p.l) (sampled_matrix G' sk.rho p.k p.l) sk mu rnd t (λ a there. sampled_matrix-longer G G' sk.rho p.k p.l a second there)

  made-longer : {A : Type 0} (p : ParameterSet) (rho : List ℕ) (f : List (List T) → A)
      → Stays (ok_or (option_map f (sampled_matrix G rho p.k p.l)) SamplingLimit) (ok_or (option_map f (sampled_matrix G' rho p.k p.l)) SamplingLimit)
  made-longer p rho f =
      ok_stays (option_map f (sampled_matrix G rho p.k p.l)) (option_map f (sampled_matrix G' rho p.k p.l))
      (λ y. mapped_stays f (sampled_matrix G rho p.k p.l) (sampled_matrix G' rho p.k p.l) y (λ a there. sampled_matrix-longer G G' rho p.k p.l a second there))

  derived-longer : (p : ParameterSet) (sk : PrivateParts) → Stays (derived p G sk) (derived p G' sk)
  unfolding derived
  derived-longer p sk = made-longer p sk.rho (λ a. let key : PublicParts = record { rho = sk.rho; tr = sk.tr; t1 = high_part p a sk.s1 sk.s2 } in key)

  representative-longer : (tr : List ℕ) (input : Input) → representative H' tr input ≡ representative H tr input
  representative-longer tr (plain message context) = hash-longer 64 (tr ++ frame 0 context message) (omega arith)
  representative-longer tr (hashed digest context oid) = hash-longer 64 (tr ++ frame 1 context (oid ++ digest)) (omega arith)
  representative-longer tr (framed m) = hash-longer 64 (tr ++ m) (omega arith)
  representative-longer tr (represented mu) = refl

  input-longer : (p : ParameterSet) (sk : PrivateParts) (rnd : List ℕ) (input : Input) → IsSet p → Stays (sign_input p H G sk rnd input) (sign_input p H' G' sk rnd input)
  input-longer p sk rnd input t =
      let stays = sign-longer p sk (representative H sk.tr input) rnd t in
      refused_stays (input_fault input) (sign p H G sk (representative H sk.tr input) rnd) (sign p H' G' sk (representative H' sk.tr input) rnd)
      (λ not. ap (λ mu. sign p H' G' sk mu rnd) (representative-longer sk.tr input) ∙ stays not)

  answers_stay : (p : ParameterSet) → IsSet p → AnswersStay p H G H' G'
  answers_stay p t = record {
    key_pairs = λ xi. generated-longer p xi;
    public_keys = λ sk. derived-longer p sk;
    prepared_private_keys = λ sk. made-longer p sk.rho (λ a. record { parts = sk; matrix = a });
    prepared_public_keys = λ pk. made-longer p pk.rho (λ a. record { parts = pk; matrix = a });
    inputs = λ sk rnd input. input-longer p sk rnd input t;
  }

  -- ---- verifying

  verifies-longer : (p : ParameterSet) (pk : PublicParts) (mu signature : List ℕ) → IsSet p → Verifies p H G pk mu signature → Verifies p H' G' pk mu signature
  verifies-longer p pk mu signature t v =
      let accepted = v.accepted in
      let opened = accepted.opened in
      let there = challenge-longer p.tau (H accepted.c_tilde) (H' accepted.c_tilde) opened.c (first accepted.c_tilde) (enough accepted.c_tilde) opened.sampled in
      record {
        a = v.a;
        matrix = sampled_matrix-longer G G' pk.rho p.k p.l v.a second v.matrix;
        accepted = record {
          c_tilde = accepted.c_tilde;
          w1 = accepted.w1;
          opened = record { z = opened.z; h = opened.h; parts = opened.parts; norm = opened.norm; c = opened.c; sampled = there; recomputed = opened.recomputed };
          same = accepted.same ∙ sym (hash-longer (c_tilde_length p) (mu ++ accepted.w1) (omega (arith, (set_numbers p t).short)));
        };
      }

  verifies-shorter : (p : ParameterSet) (pk : PublicParts) (mu signature : List ℕ) → IsSet p → IsVerdictDecided p H G pk signature
      → Verifies p H' G' pk mu signature → Verifies p H G pk mu signature
  verifies-shorter p pk mu signature t (malformed none) v =
      let opened = v.accepted.opened in
      absurd (none v.accepted.c_tilde opened.z opened.h opened.parts opened.norm)
  verifies-shorter p pk mu signature t (sampled a matrix c there) v =
      let accepted = v.accepted in
      let opened = accepted.opened in
      let matrices : Some a ≡ Some v.a = sym (sampled_matrix-longer G G' pk.rho p.k p.l a second matrix) ∙ v.matrix in
      let c_tilde : take (c_tilde_length p) signature ≡ accepted.c_tilde = signature-first p.gamma1 p.omega p.k p.l (c_tilde_length p) signature accepted.c_tilde opened.z opened.h opened.parts in
      let here : challenge p.tau (H accepted.c_tilde) ≡ Some c = ap (λ l. challenge p.tau (H l)) (sym c_tilde) ∙ there in
      let longer = challenge-longer p.tau (H accepted.c_tilde) (H' accepted.c_tilde) c (first accepted.c_tilde) (enough accepted.c_tilde) here in
      let challenges : Some c ≡ Some opened.c = sym longer ∙ opened.sampled in
      record {
        a = v.a;
        matrix = matrix ∙ matrices;
        accepted = record {
          c_tilde = accepted.c_tilde;
          w1 = accepted.w1;
          opened = record { z = opened.z; h = opened.h; parts = opened.parts; norm = opened.norm; c = opened.c; sampled = here ∙ challenges; recomputed = opened.recomputed };
          same = accepted.same ∙ hash-longer (c_tilde_length p) (mu ++ accepted.w1) (omega (arith, (set_numbers p t).short));
        };
      }

  input_stays : (p : ParameterSet) (pk : PublicParts) (signature : List ℕ) (input : Input) → IsSet p
      → YesAndNoStay (IsVerdictDecided p H G pk signature ⊎ (input_fault input ≢ None)) (VerifiesInput p H G pk signature input) (VerifiesInput p H' G' pk signature input)
  input_stays p pk signature input t =
      let mu = representative-longer pk.tr input in
      let longer : VerifiesInput p H G pk signature input → VerifiesInput p H' G' pk signature input =
      λ v. (v.0, subst (λ m. Verifies p H' G' pk m signature) (sym mu) (verifies-longer p pk (representative H pk.tr input) signature t v.1)) in
      record {
        yes_stays = longer;
        no_stays = λ decided. (
          longer,
          λ v. elim decided [
            | inl d ↦ (v.0, verifies-shorter p pk (representative H pk.tr input) signature t d (subst (λ m. Verifies p H' G' pk m signature) mu v.1))
            | inr broken ↦ absurd (broken v.0)
          ],
        );
      }

  acceptance_stays : (p : ParameterSet) → IsSet p → AcceptanceStays p H G H' G'
  acceptance_stays p t = record {
    inputs = λ pk signature input. input_stays p pk signature input t;
    decoded = λ bytes pk d. record { parts = d.parts; encoding = d.encoding; tr = d.tr ∙ sym (hash-longer 64 bytes (omega arith)) };
  }

pub longer_fronts_keep : (H G H' G' : List ℕ → List ℕ) → AreLong H → LongerFrontsKeep H G H' G'
longer_fronts_keep H G H' G' enough first second =
    (samples_stay H G H' G' first second enough, λ p t. (answers_stay H G H' G' first second enough p t, acceptance_stays H G H' G' first second enough p t))

pub counter_fronts_are_prefixes : CounterFrontsArePrefixes
counter_fronts_are_prefixes = record {
  blocks = counter_blocks-prefix;
  sha256 = λ input. counter_blocks-prefix _ _ 128 512 (omega arith);
  sha512 = λ input. counter_blocks-prefix _ _ 64 256 (omega arith);
}
