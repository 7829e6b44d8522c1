-- One signature of which verifying says yes twice.
use Rattle.std.proofs.Common.{◌≡◌, Bool, true, false, IsTrue, List, ℕ, Result, Ok, refl, sym, ap, subst, inl, inr, ◌∙◌}
use Rattle.fips204_base.specs.Encodings.{PublicParts, public_key_bytes}
use Rattle.fips204.specs.Completeness.{BytesTellKeys}
use Rattle.fips204.specs.Framing.{Input, represented}
use Rattle.fips204.specs.ParameterSets.{ParameterSet, IsSet}
use Rattle.fips204.specs.Refusals.{VerifiesInput}
use Rattle.fips204.specs.SchemeLaws.{SignatureBindsHash, SignatureBindsInput, SignatureBindsKey}
use Rattle.fips204_shake.specs.Binding.{OfKey, SignatureBinds}
use Rattle.fips204_shake.specs.Bytes.{TellsVerdict, Judges}
use Rattle.fips204_shake.specs.declared.bytes.refusal.Buffer.TheVariants.{PublicKey, Signature}
use Rattle.fips204_shake.specs.declared.bytes.refusal.Refusal.{Refusal}
use Rattle.fips204_shake.specs.declared.bytes.refusal.Refusal.TheVariants.{Length}
use Rattle.fips204_shake.proofs.Pairs.{chosen, not_done}

-- a result of true
pub yes : (b : Bool) → Path (Result Bool Refusal) (Ok true) (Ok b) → IsTrue b
yes true is = refl
yes false is = absurd cc

module _ (p : ParameterSet) (H G : List ℕ → List ℕ) where
  -- the key of a verifying call that says yes
  accepted : (key : List ℕ) (input : Input) (signature : List ℕ) → Judges p H G key input signature (Ok true) → OfKey p H key (λ pk. VerifiesInput p H G pk signature input)
  accepted key input signature judges =
      let told : TellsVerdict p H G key input signature (Ok true) = chosen _ (chosen _ judges (not_done true (Length PublicKey))) (not_done true (Length Signature)) in
      let (pk, is, (verdict, tells, answers)) = told in
      (pk, is, tells.0 (yes verdict answers))

  -- both keys of two such calls with the same bytes are one
  both : (key : List ℕ) (x y : Input) (signature : List ℕ) → BytesTellKeys p → Judges p H G key x signature (Ok true) → Judges p H G key y signature (Ok true)
      → OfKey p H key (λ pk. VerifiesInput p H G pk signature x × VerifiesInput p H G pk signature y)
  both key x y signature tell first second =
      let (pk, is, accepts) = accepted key x signature first in
      let (other, is_other, other_accepts) = accepted key y signature second in
      let same : other ≡ pk = tell.public_keys other pk is_other.parts is.parts (is_other.tr ∙ sym is.tr) (is_other.encoding ∙ sym is.encoding) in
      (pk, is, (accepts, subst (λ k. VerifiesInput p H G k signature y) same other_accepts))

  pub signature_binds : IsSet p → SignatureBindsHash → SignatureBindsInput → SignatureBindsKey → BytesTellKeys p → SignatureBinds p H G
  signature_binds known hashes inputs keys tell = record {
    hashes = λ key mu nu signature differ first second.
        let (pk, is, (accepts, other)) = both key (represented mu) (represented nu) signature tell first second in
        (pk, is, hashes p H G pk (represented mu) (represented nu) signature known differ accepts other);
    inputs = λ key x y m n signature alike differ first second.
        let (pk, is, (accepts, other)) = both key x y signature tell first second in
        (pk, is, inputs p H G pk x y m n signature known alike differ accepts other);
    keys = λ key other x y m n signature long alike first second.
        let (pk, is, accepts) = accepted key x signature first in
        let (pk', is', accepts') = accepted other y signature second in
        elim (keys p H G key other pk pk' x y m n signature known long is is' alike accepts accepts') [
          | inl (same, input) ↦ inl (sym is.encoding ∙ ap (λ (k : PublicParts). public_key_bytes k.rho k.t1) same ∙ is'.encoding, input)
          | inr collision ↦ inr (pk, is, (pk', is', collision))
        ];
  }
