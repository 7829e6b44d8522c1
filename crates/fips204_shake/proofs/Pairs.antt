-- The bytes of two keys belong together.
use Rattle.std.proofs.Common.{◌≡◌, ◌≤◌, ℕ, Bool, true, false, IsTrue, List, length, nat_eq, Result, Ok, Err, refl, sym, ap, ◌∙◌, subst}
use Rattle.std.specs.Prelude.{◌↔◌, MatchBool, MatchResult, ⊤}
use Rattle.std.proofs.lemmas.Bool.{eq-eqb, eqb-true}
use Rattle.fips204_base.specs.Encodings.{PublicParts, PrivateParts, IsPrivateKeyOf, IsPublicKeyOf, private_key_bytes}
use Rattle.fips204_base.specs.declared.fault.Fault.{Fault}
use Rattle.fips204.specs.Completeness.{AcceptsSigned, SignedIsAccepted, IsPair, TellsPair}
use Rattle.fips204.specs.Framing.{Input}
use Rattle.fips204.specs.Keys.{IsWhole, TellsWhole}
use Rattle.fips204.specs.ParameterSets.{ParameterSet, IsSet, public_key_length, private_key_length, signature_length}
use Rattle.fips204.specs.Refusals.{generated, derived, sign_input, VerifiesInput}
use Rattle.fips204_shake.specs.Bytes.{Leaves, WithPrivate, Writes, Tells, WritesPair, Generates, WritesSignature, Signs, TellsVerdict, WritesPublic, Derives, AsksPrivate, ChecksPair, bytes_of_public}
use Rattle.fips204_shake.specs.Pairs.{BelongTogether, PairsBelong}
use Rattle.fips204_shake.specs.declared.bytes.refusal.Buffer.TheVariants.{PublicKey, PrivateKey, Signature}
use Rattle.fips204_shake.specs.declared.bytes.refusal.Refusal.{Refusal}
use Rattle.fips204_shake.specs.declared.bytes.refusal.Refusal.TheVariants.{Length, Library}
use Rattle.fips204_shake.proofs.Lengths.{length-public_key, length-private_key, length-signature}

-- a choice whose other side is refuted
pub chosen : {P Q : Type 0} (b : Bool) → MatchBool b P Q → ¬ Q → P
chosen true p never = p
chosen false q never = absurd (never q)

-- a choice of a length whose other side is refuted
fitted : (P Q : Type 0) (n wanted : ℕ) → MatchBool (nat_eq n wanted) P Q → ¬ Q → n ≡ wanted
fitted P Q n wanted choice never = of (nat_eq n wanted) refl choice
  where
    of : (b : Bool) → nat_eq n wanted ≡ b → MatchBool b P Q → n ≡ wanted
    of true is p = eqb-true n wanted is
    of false is q = absurd (never q)

-- a choice whose test is known
pub taken : {P : Type 0} (Q : Type 0) (b : Bool) → b ≡ true → MatchBool b P Q → P
taken Q true is p = p
taken Q false is q = absurd cc

-- a result whose errors are refuted
pub answered : {A E : Type 0} (r : Result A E) (P : A → Type 0) (Q : E → Type 0) → MatchResult r P Q → ((e : E) → ¬ (Q e)) → (a : A) × (r ≡ Ok a) × P a
answered (Ok a) P Q p never = (a, refl, p)
answered (Err e) P Q q never = absurd (never e q)

-- success is no error
pub not_done : {A : Type 0} (a : A) (why : Refusal) → ¬ (Path (Result A Refusal) (Ok a) (Err why))
not_done a why e = absurd cc

truth : (b : Bool) → IsTrue b → b ≡ true
truth true t = refl
truth false t = absurd cc

-- what is done with the private key that alone has its bytes
with_only : (p : ParameterSet) (key : List ℕ) (sk : PrivateParts) (uses : PrivateParts → Type 0) (refuses : Refusal → Type 0)
    → ((other : PrivateParts) → IsPrivateKeyOf p.eta p.k p.l key other ↔ (other ≡ sk)) → WithPrivate p key uses refuses → uses sk
with_only p key sk uses refuses only (Ok other, decodes, used) = subst uses ((only other).0 decodes) used
with_only p key sk uses refuses only (Err fault, (_, none), refused) = absurd (none sk ((only sk).1 refl))

-- a call that asks of that key alone
asked : {A : Type 0} (p : ParameterSet) (key : List ℕ) (sk : PrivateParts) (uses : PrivateParts → Type 0) (answer : Result A Refusal)
    → length key ≡ private_key_length p → ((other : PrivateParts) → IsPrivateKeyOf p.eta p.k p.l key other ↔ (other ≡ sk)) → AsksPrivate p key uses answer → uses sk
asked p key sk uses answer long only asks =
    with_only p key sk uses (λ why. answer ≡ Err why) only (taken _ (nat_eq (length key) (private_key_length p)) (eq-eqb (length key) (private_key_length p) long) asks)

-- what keygen leaves, where it is done
made : (p : ParameterSet) (H G : List ℕ → List ℕ) (seed public public' private private' : List ℕ) → Generates p H G seed public public' private private' (Ok tt)
    → (pair : PublicParts × PrivateParts) × (generated p H G seed ≡ Ok pair) × ((public' ≡ bytes_of_public pair.0) × (private' ≡ private_key_bytes p.eta pair.1) × (Path (Result ⊤ Refusal) (Ok tt) (Ok tt)))
made p H G seed public public' private private' done =
    let never : (why : Refusal) → ¬ ((public' ≡ public) × ((private' ≡ private) × (Path (Result ⊤ Refusal) (Ok tt) (Err why)))) = λ why (_, (_, is)). not_done tt why is in
    let pair : WritesPair p H G seed public public' private private' (Ok tt) = chosen _ (chosen _ done (never (Length PublicKey))) (never (Length PrivateKey)) in
    answered _ _ _ pair (λ fault. never (Library fault))

-- what signing leaves, where it is done
signed : (p : ParameterSet) (H G : List ℕ → List ℕ) (key : List ℕ) (sk : PrivateParts) (random : List ℕ) (input : Input) (old new : List ℕ)
    → ((other : PrivateParts) → IsPrivateKeyOf p.eta p.k p.l key other ↔ (other ≡ sk)) → Signs p H G key random input old new (Ok tt)
    → sign_input p H G sk random input ≡ Ok new
signed p H G key sk random input old new only done =
    let never : (why : Refusal) → ¬ ((new ≡ old) × (Path (Result ⊤ Refusal) (Ok tt) (Err why))) = λ why (_, is). not_done tt why is in
    let writes : WritesSignature p H G key random input old new (Ok tt) = chosen _ (chosen _ done (never (Length PrivateKey))) (never (Length Signature)) in
    let answer : Writes (λ s. s) (sign_input p H G sk random input) old new (Ok tt) = with_only p key sk _ (Leaves old new (Ok tt)) only writes in
    let made : (s : List ℕ) × (sign_input p H G sk random input ≡ Ok s) × ((new ≡ s) × (Path (Result ⊤ Refusal) (Ok tt) (Ok tt))) = answered _ _ _ answer (λ fault. never (Library fault)) in
    let (s, signs, (same, _)) = made in
    signs ∙ ap Ok (sym same)

-- what is written of a public key that there is
written : (made : Result PublicParts Fault) (pk : PublicParts) (old new : List ℕ) (answer : Result ⊤ Refusal) → made ≡ Ok pk
    → Writes bytes_of_public made old new answer → (new ≡ bytes_of_public pk) × (answer ≡ Ok tt)
written made pk old new answer is = subst (λ it. Writes bytes_of_public it old new answer) is

-- a question whose result is true
is_yes : (told : Result Bool Fault) (answer : Result Bool Refusal) → Tells told answer → told ≡ Ok true → answer ≡ Ok true
is_yes told answer tells is = subst (λ it. Tells it answer) is tells

whole_yes : (p : ParameterSet) (G : List ℕ → List ℕ) (sk : PrivateParts) (told : Result Bool Fault) → IsWhole p G sk → TellsWhole p G sk told → told ≡ Ok true
whole_yes p G sk (Ok b) whole (_, tells) = ap Ok (truth b (tells.1 whole))
whole_yes p G sk (Err fault) whole (none, _) = let e = sym whole.sampled ∙ none in absurd cc

pair_yes : (p : ParameterSet) (H G : List ℕ → List ℕ) (pk : PublicParts) (sk : PrivateParts) (told : Result Bool Fault) → IsPair p H G pk sk → TellsPair p H G sk told → told ≡ Ok true
pair_yes p H G pk sk (Ok b) pair (other, derives, tells) = ap Ok (truth b (tells.1 (subst (λ key. IsPair p H G key sk) (same_key pk other (sym pair.derives ∙ derives)) pair)))
  where
    same_key : (x y : PublicParts) → Path (Result PublicParts Fault) (Ok x) (Ok y) → x ≡ y
    same_key x y e = cc
pair_yes p H G pk sk (Err fault) pair fails = let e = sym pair.derives ∙ fails in absurd cc

-- a private key of which the call that asks says yes, and the public key that is derived of it
asked_pair : (p : ParameterSet) (H G : List ℕ → List ℕ) (key : List ℕ) → ChecksPair p H G key (Ok true)
    → (sk : PrivateParts) × IsPrivateKeyOf p.eta p.k p.l key sk × ((pk : PublicParts) × (derived p G sk ≡ Ok pk) × IsPair p H G pk sk)
asked_pair p H G key asks = of (chosen (nat_eq (length key) (private_key_length p)) asks (not_done true (Length PrivateKey)))
  where
    yes : (b : Bool) → Path (Result Bool Refusal) (Ok true) (Ok b) → IsTrue b
    yes true is = refl
    yes false is = absurd cc

    told : (sk : PrivateParts) → (told : Result Bool Fault) × TellsPair p H G sk told × Tells told (Ok true) → (pk : PublicParts) × (derived p G sk ≡ Ok pk) × IsPair p H G pk sk
    told sk (Ok b, (pk, derives, tells), is) = (pk, derives, tells.0 (yes b is))
    told sk (Err fault, tells, is) = absurd (not_done true (Library fault) is)

    of : WithPrivate p key (λ sk. (told : Result Bool Fault) × TellsPair p H G sk told × Tells told (Ok true)) (λ why. Path (Result Bool Refusal) (Ok true) (Err why))
        → (sk : PrivateParts) × IsPrivateKeyOf p.eta p.k p.l key sk × ((pk : PublicParts) × (derived p G sk ≡ Ok pk) × IsPair p H G pk sk)
    of (Ok sk, is, tells) = (sk, is, told sk tells)
    of (Err fault, _, is) = absurd (not_done true (Library fault) is)

-- what a call wrote of a public key that there is
public_written : (p : ParameterSet) (G : List ℕ → List ℕ) (key : List ℕ) (sk : PrivateParts) (pk : PublicParts) (old new : List ℕ) (answer : Result ⊤ Refusal)
    → length key ≡ private_key_length p → length old ≡ public_key_length p → ((other : PrivateParts) → IsPrivateKeyOf p.eta p.k p.l key other ↔ (other ≡ sk))
    → derived p G sk ≡ Ok pk → Derives p G key old new answer → (new ≡ bytes_of_public pk) × (answer ≡ Ok tt)
public_written p G key sk pk old new answer long room only is derives =
    let writes : WritesPublic p G key old new answer =
    taken _ (nat_eq (length old) (public_key_length p)) (eq-eqb (length old) (public_key_length p) room)
    (taken _ (nat_eq (length key) (private_key_length p)) (eq-eqb (length key) (private_key_length p) long) derives) in
    written (derived p G sk) pk old new answer is (with_only p key sk _ (Leaves old new answer) only writes)

belong : (p : ParameterSet) (H G : List ℕ → List ℕ) (pk : PublicParts) (sk : PrivateParts) (public private : List ℕ)
    → public ≡ bytes_of_public pk → private ≡ private_key_bytes p.eta sk → IsPair p H G pk sk → AcceptsSigned p H G pk sk → BelongTogether p H G public private
belong p H G pk sk public private is_public is_private pair accepts =
    let only : (other : PrivateParts) → IsPrivateKeyOf p.eta p.k p.l private other ↔ (other ≡ sk) =
    subst (λ (bytes : List ℕ). (other : PrivateParts) → IsPrivateKeyOf p.eta p.k p.l bytes other ↔ (other ≡ sk)) (sym is_private) pair.private_decoded in
    let one : (other : PublicParts) → IsPublicKeyOf H p.k public other ↔ (other ≡ pk) =
    subst (λ (bytes : List ℕ). (other : PublicParts) → IsPublicKeyOf H p.k bytes other ↔ (other ≡ pk)) (sym is_public) pair.public_decoded in
    let long : length private ≡ private_key_length p = ap length is_private ∙ length-private_key p sk pair.parts in
    let room : length public ≡ public_key_length p = ap length is_public ∙ length-public_key p pk ((one pk).1 refl).parts in
    record {
      accepted = λ random input old signature answer signs judges.
          let verifies : VerifiesInput p H G pk signature input = accepts random signature input (signed p H G private sk random input old signature only signs) in
          let opened = verifies.1.accepted.opened in
          let fits : length signature ≡ signature_length p = length-signature p signature verifies.1.accepted.c_tilde opened.z opened.h opened.parts in
          let told : TellsVerdict p H G public input signature answer =
          taken _ (nat_eq (length signature) (signature_length p)) (eq-eqb (length signature) (signature_length p) fits)
          (taken _ (nat_eq (length public) (public_key_length p)) (eq-eqb (length public) (public_key_length p) room) judges) in
          let (key, is_key, (verdict, tells, is)) = told in
          is ∙ ap Ok (truth verdict (tells.1 (subst (λ key. VerifiesInput p H G key signature input) (sym ((one key).0 is_key)) verifies)));
      checked = λ answer checks. asked p private sk (λ sk. answer ≡ Ok tt) answer long only checks;
      whole = λ answer checks.
          let (told, tells, is) = asked p private sk (λ sk. (told : Result Bool Fault) × TellsWhole p G sk told × Tells told answer) answer long only checks in
          is_yes told answer is (whole_yes p G sk told pair.whole tells);
      pair = λ answer checks.
          let (told, tells, is) = asked p private sk (λ sk. (told : Result Bool Fault) × TellsPair p H G sk told × Tells told answer) answer long only checks in
          is_yes told answer is (pair_yes p H G pk sk told pair tells);
      derived = λ old new answer fits derives.
          let (same, done) = public_written p G private sk pk old new answer long fits only pair.derives derives in
          (same ∙ sym is_public, done);
    }

pub pairs_belong : SignedIsAccepted → (p : ParameterSet) (H G : List ℕ → List ℕ) → IsSet p → ((x : List ℕ) → 4096 ≤ length (H x)) → PairsBelong p H G
pairs_belong law p H G known long = record {
  generated = λ seed public public' private private' keys.
      let (pair, from, (is_public, is_private, _)) = made p H G seed public public' private private' keys in
      let both = (law p H G pair.0 pair.1 known long).1 seed from in
      belong p H G pair.0 pair.1 public' private' is_public is_private both.0 both.1;
  checked = λ private old public asks derives.
      let (sk, is_key, (pk, is, pair)) = asked_pair p H G private asks in
      let size : length private ≡ private_key_length p = ap length (sym is_key.encoding) ∙ length-private_key p sk is_key.parts in
      let only : (other : PrivateParts) → IsPrivateKeyOf p.eta p.k p.l private other ↔ (other ≡ sk) =
      subst (λ (bytes : List ℕ). (other : PrivateParts) → IsPrivateKeyOf p.eta p.k p.l bytes other ↔ (other ≡ sk)) is_key.encoding pair.private_decoded in
      let never : (why : Refusal) → ¬ (Leaves old public (Ok tt) why) = λ why (_, is). not_done tt why is in
      let sized = chosen (nat_eq (length private) (private_key_length p)) derives (never (Length PrivateKey)) in
      let room : length old ≡ public_key_length p = fitted _ _ (length old) (public_key_length p) sized (never (Length PublicKey)) in
      let (same, _) = public_written p G private sk pk old public (Ok tt) size room only is derives in
      belong p H G pk sk public private same (sym is_key.encoding) pair ((law p H G pk sk known long).0 is_key.parts pair.whole is).0;
}
