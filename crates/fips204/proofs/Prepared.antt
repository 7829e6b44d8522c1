-- Keys with their matrix: what is signed with one is accepted, and each returns what its plain key does.
use Rattle.std.proofs.Common.{◌≡◌, ◌≤◌, ℕ, List, [], Bool, refl, sym, ap, subst, ◌∙◌, length, get_or, Result, Ok, Some, None, ◌↔◌, ok_or, option_map, unwrap_or, Err}
use Rattle.fips204.proofs.Names.{Fault, SamplingLimit, T, sampled_matrix, Accepts, Verifies, Input, plain, representative, PublicParts, PrivateParts, ArePrivateParts, IsWhole, high_part, low_part, ParameterSet, IsSet, PreparedPrivate, PreparedPublic, prepared_private, prepared_public, public_of_prepared, sign_prepared, IsWholePrepared, VerifiesPrepared, IsEachSigned, IsEachJudged, PreparedAnswersAsPlain, refused_or, input_fault, sign_input, VerifiesInput, derived, sign, sign_with}
use Rattle.std.specs.declared.option.Option.{Option}
use Rattle.fips204.specs.Completeness.{AcceptedIfWhole}
use Rattle.fips204.proofs.Completeness.{accepts_signed_with}
use Rattle.fips204.proofs.RefusedCalls.{signed_input, same_some, same_ok}

-- ---- what is signed is accepted

pub signed_accepted : (p : ParameterSet) (H : List ℕ → List ℕ) (K L : ℕ) (sk : PreparedPrivate) (rnd : List ℕ) (input : Input) (answer : Result (List ℕ) Fault) → IsSet p
    → ((x : List ℕ) → 4096 ≤ length (H x)) → K ≡ p.k → L ≡ p.l → ArePrivateParts p.eta K L sk.parts → answer ≡ sign_prepared p H sk rnd input
    → AcceptedIfWhole (IsWholePrepared p sk) (Ok (public_of_prepared p sk)) (λ pk signature. VerifiesPrepared p H pk signature input) answer
signed_accepted p H K L sk rnd input answer known law rows columns parts same =
    λ pk signature whole derives e.
    let accepts = λ (mu : List ℕ). Accepts p H sk.matrix (high_part p sk.matrix sk.parts.s1 sk.parts.s2) mu signature in
    let made = signed_input H sk.parts.tr sk.parts.tr input (λ mu. sign_with p H sk.matrix sk.parts mu rnd) accepts signature refl
    (λ mu m. accepts_signed_with p H sk.matrix sk.parts mu rnd signature known (rw (rows, columns) at parts) whole law m) (sym same ∙ e) in
    subst (λ (k : PreparedPublic). VerifiesPrepared p H k signature input) (same_ok (public_of_prepared p sk) pk derives) made

-- ---- a prepared key returns what its plain key does

-- what was prepared is the key with the matrix of its seed
pub private_parts : (matrix : Option (List (List T))) (sk : PrivateParts) (prepared : PreparedPrivate) → ok_or (option_map (λ a. record { parts = sk; matrix = a }) matrix) SamplingLimit ≡ Ok prepared
    → (sk ≡ prepared.parts) × (matrix ≡ Some prepared.matrix)
private_parts None sk prepared e = absurd cc
private_parts (Some a) sk prepared e =
    let same : Path PreparedPrivate record { parts = sk; matrix = a } prepared = cc in
    (ap (λ (k : PreparedPrivate). k.parts) same, ap (λ (k : PreparedPrivate). Some k.matrix) same)

pub public_parts : (matrix : Option (List (List T))) (pk : PublicParts) (prepared : PreparedPublic) → ok_or (option_map (λ a. record { parts = pk; matrix = a }) matrix) SamplingLimit ≡ Ok prepared
    → (pk ≡ prepared.parts) × (matrix ≡ Some prepared.matrix)
public_parts None pk prepared e = absurd cc
public_parts (Some a) pk prepared e =
    let same : Path PreparedPublic record { parts = pk; matrix = a } prepared = cc in
    (ap (λ (k : PreparedPublic). k.parts) same, ap (λ (k : PreparedPublic). Some k.matrix) same)

-- with a hash mu
hash_as_plain : (p : ParameterSet) (H G : List ℕ → List ℕ) (sk : PrivateParts) (prepared : PreparedPrivate) (mu rnd : List ℕ) → sk ≡ prepared.parts
    → sampled_matrix G sk.rho p.k p.l ≡ Some prepared.matrix → sign_with p H prepared.matrix prepared.parts mu rnd ≡ sign p H G sk mu rnd
unfolding sign
hash_as_plain p H G sk prepared mu rnd same there =
    ap (λ k. sign_with p H prepared.matrix k mu rnd) (sym same) ∙ sym (ap (λ o. unwrap_or (option_map (λ m. sign_with p H m sk mu rnd) o) (Err SamplingLimit)) there)

accepts_as_plain : (p : ParameterSet) (H G : List ℕ → List ℕ) (pk : PublicParts) (prepared : PreparedPublic) (mu signature : List ℕ) → pk ≡ prepared.parts
    → sampled_matrix G pk.rho p.k p.l ≡ Some prepared.matrix → Accepts p H prepared.matrix prepared.parts.t1 mu signature ↔ Verifies p H G pk mu signature
accepts_as_plain p H G pk prepared mu signature same there = (
  λ x. record { a = prepared.matrix; matrix = there; accepted = subst (λ (k : PublicParts). Accepts p H prepared.matrix k.t1 mu signature) (sym same) x },
  λ v.
      let matrix = same_some v.a prepared.matrix (sym v.matrix ∙ there) in
      subst (λ (k : PublicParts). Accepts p H prepared.matrix k.t1 mu signature) same (subst (λ (a : List (List T)). Accepts p H a pk.t1 mu signature) matrix v.accepted),
)

-- with an input
input_as_plain : (p : ParameterSet) (H G : List ℕ → List ℕ) (sk : PrivateParts) (prepared : PreparedPrivate) (rnd : List ℕ) (input : Input) → prepared_private p G sk ≡ Ok prepared
    → sign_prepared p H prepared rnd input ≡ sign_input p H G sk rnd input
input_as_plain p H G sk prepared rnd input e =
    let is = private_parts (sampled_matrix G sk.rho p.k p.l) sk prepared e in
    ap (λ (k : PrivateParts). refused_or (input_fault input) (sign_with p H prepared.matrix prepared.parts (representative H k.tr input) rnd)) (sym is.0)
    ∙ ap (λ x. refused_or (input_fault input) x) (hash_as_plain p H G sk prepared (representative H sk.tr input) rnd is.0 is.1)

verdict_as_plain : (p : ParameterSet) (H G : List ℕ → List ℕ) (pk : PublicParts) (prepared : PreparedPublic) (signature : List ℕ) (input : Input) → prepared_public p G pk ≡ Ok prepared
    → VerifiesPrepared p H prepared signature input ↔ VerifiesInput p H G pk signature input
verdict_as_plain p H G pk prepared signature input e =
    let is = public_parts (sampled_matrix G pk.rho p.k p.l) pk prepared e in
    let mu = ap (λ (k : PublicParts). representative H k.tr input) is.0 in
    let accepts = λ (m : List ℕ). Accepts p H prepared.matrix prepared.parts.t1 m signature in
    let both = accepts_as_plain p H G pk prepared (representative H pk.tr input) signature is.0 is.1 in
    (λ x. (x.0, both.0 (subst accepts (sym mu) x.1)), λ v. (v.0, subst accepts mu (both.1 v.1)))

-- of lists: for each entry the result of the plain key
each_signed : (signs alike : List ℕ → List ℕ → Result (List ℕ) Fault) (seeds messages : List (List ℕ)) (answers : List (Result (List ℕ) Fault)) → ((rnd m : List ℕ) → signs rnd m ≡ alike rnd m)
    → IsEachSigned signs seeds messages answers → IsEachSigned alike seeds messages answers
each_signed signs alike seeds messages answers same each = (each.0, each.1, λ i h. each.2 i h ∙ same (get_or seeds i []) (get_or messages i []))

each_judged : (accepts alike : List ℕ → List ℕ → Type 0) (messages signatures : List (List ℕ)) (answers : List Bool) → ((m s : List ℕ) → accepts m s ↔ alike m s)
    → IsEachJudged accepts messages signatures answers → IsEachJudged alike messages signatures answers
each_judged accepts alike messages signatures answers same each = (
  each.0,
  each.1,
  λ i h. let both = same (get_or messages i []) (get_or signatures i []) in (λ t. both.0 ((each.2 i h).0 t), λ v. (each.2 i h).1 (both.1 v)),
)

whole_as_plain : (p : ParameterSet) (G : List ℕ → List ℕ) (sk : PrivateParts) (prepared : PreparedPrivate) → sk ≡ prepared.parts → sampled_matrix G sk.rho p.k p.l ≡ Some prepared.matrix
    → IsWholePrepared p prepared ↔ IsWhole p G sk
whole_as_plain p G sk prepared same there = (
  λ low. record { matrix = prepared.matrix; sampled = there; low = subst (λ (k : PrivateParts). k.t0 ≡ low_part p prepared.matrix k.s1 k.s2) (sym same) low },
  λ whole.
      let matrix = same_some whole.matrix prepared.matrix (sym whole.sampled ∙ there) in
      subst (λ (k : PrivateParts). k.t0 ≡ low_part p prepared.matrix k.s1 k.s2) same (subst (λ (a : List (List T)). sk.t0 ≡ low_part p a sk.s1 sk.s2) matrix whole.low),
)

-- the derived key, prepared
public_as_plain : (p : ParameterSet) (G : List ℕ → List ℕ) (sk : PrivateParts) (prepared : PreparedPrivate) (pk : PublicParts) → sk ≡ prepared.parts
    → sampled_matrix G sk.rho p.k p.l ≡ Some prepared.matrix → derived p G sk ≡ Ok pk → prepared_public p G pk ≡ Ok (public_of_prepared p prepared)
unfolding derived
public_as_plain p G sk prepared pk same there e =
    let own = λ (k : PrivateParts). let key : PublicParts = record { rho = k.rho; tr = k.tr; t1 = high_part p prepared.matrix k.s1 k.s2 } in key in
    let made : own sk ≡ pk = same_ok (own sk) pk (ap (λ a. ok_or (option_map (λ m. let key : PublicParts = record { rho = sk.rho; tr = sk.tr; t1 = high_part p m sk.s1 sk.s2 } in key) a) SamplingLimit) (sym there) ∙ e) in
    let with = λ (k : PublicParts) (a : List (List T)). let key : PreparedPublic = record { parts = k; matrix = a } in key in
    subst (λ (k : PublicParts). prepared_public p G k ≡ Ok (public_of_prepared p prepared)) made
    (ap (λ a. ok_or (option_map (with (own sk)) a) SamplingLimit) there ∙ ap (λ (k : PrivateParts). Ok (with (own k) prepared.matrix)) same)

pub prepared_answers_as_plain : (p : ParameterSet) (H G : List ℕ → List ℕ) → PreparedAnswersAsPlain p H G
prepared_answers_as_plain p H G =
    let private = λ (sk : PrivateParts) (prepared : PreparedPrivate) (e : prepared_private p G sk ≡ Ok prepared). private_parts (sampled_matrix G sk.rho p.k p.l) sk prepared e in
    record {
      sign_inputs = λ sk prepared rnd input e. input_as_plain p H G sk prepared rnd input e;
      sign_lists = λ sk prepared seeds messages context answers e each.
          each_signed (λ rnd m. sign_prepared p H prepared rnd (plain m context)) (λ rnd m. sign_input p H G sk rnd (plain m context)) seeds messages answers
          (λ rnd m. input_as_plain p H G sk prepared rnd (plain m context) e) each;
      verify_inputs = λ pk prepared signature input e. verdict_as_plain p H G pk prepared signature input e;
      verify_lists = λ pk prepared messages signatures context answers e each.
          each_judged (λ m s. VerifiesPrepared p H prepared s (plain m context)) (λ m s. VerifiesInput p H G pk s (plain m context)) messages signatures answers
          (λ m s. verdict_as_plain p H G pk prepared s (plain m context) e) each;
      whole = λ sk prepared e. let is = private sk prepared e in whole_as_plain p G sk prepared is.0 is.1;
      public_key = λ sk prepared pk e. let is = private sk prepared e in public_as_plain p G sk prepared pk is.0 is.1;
    }
