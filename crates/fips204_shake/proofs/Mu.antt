-- Signing and verifying mu and M' of an input.
use Rattle.std.proofs.Common.{◌≡◌, ℕ, Bool, true, false, List, length, nat_eq, None, Result, Ok, Err, sym, ap, subst, ◌∙◌}
use Rattle.std.specs.Prelude.{◌↔◌, MatchBool, ⊤}
use Rattle.fips204_base.proofs.EncodedParts.{private_key_cut}
use Rattle.fips204_base.specs.Encodings.{PublicParts, PrivateParts, IsPrivateKeyOf, IsPublicKeyOf}
use Rattle.fips204.specs.Framing.{Input, framed, represented, representative}
use Rattle.fips204.specs.ParameterSets.{ParameterSet, public_key_length, private_key_length, signature_length}
use Rattle.fips204.specs.Refusals.{input_fault, sign_input, VerifiesInput}
use Rattle.fips204.specs.SchemeLaws.{HooksStandForInput}
use Rattle.fips204_shake.specs.Bytes.{Leaves, WithPrivate, Writes, Signs, TellsVerdict, Judges}
use Rattle.fips204_shake.specs.Mu.{tr_of_private, tr_of_public, MuStandsForInput, FramedStandsForInput}
use Rattle.fips204_shake.specs.declared.bytes.refusal.Buffer.TheVariants.{PublicKey, PrivateKey, Signature}
use Rattle.fips204_shake.specs.declared.bytes.refusal.Refusal.{Refusal}
use Rattle.fips204_shake.specs.declared.bytes.refusal.Refusal.TheVariants.{Length}

-- tr in the bytes of a key
pub tr_within : (p : ParameterSet) (key : List ℕ) (sk : PrivateParts) → IsPrivateKeyOf p.eta p.k p.l key sk → tr_of_private key ≡ sk.tr
tr_within p key sk is = (private_key_cut p.eta p.k p.l key sk is).tr

-- ---- a part of a result, exchanged

pub fitting : {P P' : Type 0} (Q : Type 0) (b : Bool) → (P → P') → MatchBool b P Q → MatchBool b P' Q
fitting Q true f p = f p
fitting Q false f q = q

with_used : (p : ParameterSet) (key : List ℕ) (uses uses' : PrivateParts → Type 0) (refuses : Refusal → Type 0)
    → ((sk : PrivateParts) → IsPrivateKeyOf p.eta p.k p.l key sk → uses sk → uses' sk) → WithPrivate p key uses refuses → WithPrivate p key uses' refuses
with_used p key uses uses' refuses f (Ok sk, decodes, held) = (Ok sk, decodes, f sk decodes held)
with_used p key uses uses' refuses f (Err fault, decodes, refused) = (Err fault, decodes, refused)

module _ (p : ParameterSet) (H G : List ℕ → List ℕ) (law : HooksStandForInput p H G) where
  same_signature : (key random : List ℕ) (input : Input) (sk : PrivateParts) → input_fault input ≡ None → IsPrivateKeyOf p.eta p.k p.l key sk
      → sign_input p H G sk random (represented (representative H (tr_of_private key) input)) ≡ sign_input p H G sk random input
  same_signature key random input sk none is =
      ap (λ (tr : List ℕ). sign_input p H G sk random (represented (representative H tr input))) (tr_within p key sk is) ∙ law.signed_mu sk random input none

  same_verdict : (key : List ℕ) (input : Input) (signature : List ℕ) (pk : PublicParts) → input_fault input ≡ None → IsPublicKeyOf H p.k key pk
      → VerifiesInput p H G pk signature (represented (representative H (tr_of_public H key) input)) ↔ VerifiesInput p H G pk signature input
  same_verdict key input signature pk none is =
      subst (λ (tr : List ℕ). VerifiesInput p H G pk signature (represented (representative H tr input)) ↔ VerifiesInput p H G pk signature input)
      is.tr (law.judged_mu pk signature input none)

  signed : (key random : List ℕ) (first second : Input) (old new : List ℕ) (answer : Result ⊤ Refusal)
      → ((sk : PrivateParts) → IsPrivateKeyOf p.eta p.k p.l key sk → sign_input p H G sk random first ≡ sign_input p H G sk random second)
      → Signs p H G key random first old new answer → Signs p H G key random second old new answer
  signed key random first second old new answer same =
      let refuses : Refusal → Type 0 = Leaves old new answer in
      fitting (refuses (Length PrivateKey)) (nat_eq (length key) (private_key_length p)) (fitting (refuses (Length Signature)) (nat_eq (length old) (signature_length p))
      (with_used p key _ _ refuses (λ sk is. subst (λ made. Writes (λ signature. signature) made old new answer) (same sk is))))

  judged : (key : List ℕ) (first second : Input) (signature : List ℕ) (answer : Result Bool Refusal)
      → ((pk : PublicParts) → IsPublicKeyOf H p.k key pk → VerifiesInput p H G pk signature first ↔ VerifiesInput p H G pk signature second)
      → Judges p H G key first signature answer → Judges p H G key second signature answer
  judged key first second signature answer same =
      let told : TellsVerdict p H G key first signature answer → TellsVerdict p H G key second signature answer =
      λ (pk, is, (verdict, tells, answers)). (pk, is, (verdict, (λ yes. (same pk is).0 (tells.0 yes), λ yes. tells.1 ((same pk is).1 yes)), answers)) in
      fitting (answer ≡ Err (Length PublicKey)) (nat_eq (length key) (public_key_length p)) (fitting (answer ≡ Err (Length Signature)) (nat_eq (length signature) (signature_length p)) told)

  pub mu_stands_for_input : MuStandsForInput p H G
  mu_stands_for_input = record {
    signed = λ key random input old new answer none.
        let mu = represented (representative H (tr_of_private key) input) in
        let same = λ (sk : PrivateParts) (is : IsPrivateKeyOf p.eta p.k p.l key sk). same_signature key random input sk none is in
        (signed key random mu input old new answer same, signed key random input mu old new answer (λ sk is. sym (same sk is)));
    judged = λ key input signature answer none.
        let mu = represented (representative H (tr_of_public H key) input) in
        let same = λ (pk : PublicParts) (is : IsPublicKeyOf H p.k key pk). same_verdict key input signature pk none is in
        (judged key mu input signature answer same, judged key input mu signature answer (λ pk is. ((same pk is).1, (same pk is).0)));
  }

  pub framed_stands_for_input : FramedStandsForInput p H G
  framed_stands_for_input = record {
    signed = λ key random input m old new answer none is.
        let same = λ (sk : PrivateParts) (own : IsPrivateKeyOf p.eta p.k p.l key sk). law.signed_framed sk random input m none is in
        (signed key random (framed m) input old new answer same, signed key random input (framed m) old new answer (λ sk own. sym (same sk own)));
    judged = λ key input m signature answer none is.
        let same = λ (pk : PublicParts) (own : IsPublicKeyOf H p.k key pk). law.judged_framed pk signature input m none is in
        (judged key (framed m) input signature answer same, judged key input (framed m) signature answer (λ pk own. ((same pk own).1, (same pk own).0)));
  }
