-- The bytes of a prepared key stand for the key.
use Rattle.std.proofs.Common.{◌≡◌, ◌∙◌, ℕ, Bool, true, false, IsTrue, List, length, nat_eq, Result, Ok, Err, Some, None, refl, sym, ap, subst, ◌↔◌}
use Rattle.std.specs.Prelude.{MatchBool, ⊤}
use Rattle.std.proofs.lemmas.Bool.{eq-eqb}
use Rattle.fips204_base.specs.Encodings.{PrivateParts, IsPrivateKeyOf}
use Rattle.fips204_base.specs.declared.fault.Fault.{Fault}
use Rattle.fips204.specs.ParameterSets.{ParameterSet, public_key_length, private_key_length, signature_length}
use Rattle.fips204.specs.Prepared.{PreparedPublic, PreparedPrivate, prepared_public, prepared_private, sign_prepared, VerifiesPrepared, PreparedAnswersAsPlain}
use Rattle.fips204.specs.PreparedBytes.{IsPreparedPublicOf, IsPreparedPrivateOf, prepared_public_bytes, prepared_private_bytes, prepared_public_length, prepared_private_length, PreparedThroughBytes}
use Rattle.fips204_shake.specs.Bytes.{Leaves, Writes, WithPrivate, WritesSignature, TellsVerdict}
use Rattle.fips204_shake.specs.Prepared.{WithPrepared, TellsPreparedVerdict, WritesPreparedSignature, PreparedStandsForPlain}
use Rattle.fips204_shake.specs.declared.bytes.refusal.Buffer.TheVariants.{PublicKey, PrivateKey, PreparedPublicKey, PreparedPrivateKey, Signature}
use Rattle.fips204_shake.specs.declared.bytes.refusal.Refusal.{Refusal}
use Rattle.fips204_shake.specs.declared.bytes.refusal.Refusal.TheVariants.{Length, Library}
use Rattle.fips204_shake.proofs.Mu.{fitting}
use Rattle.fips204_shake.proofs.Pairs.{taken, not_done, answered}

-- a choice whose other side is refuted, and its test
chosen : {P Q : Type 0} (b : Bool) → MatchBool b P Q → ¬ Q → (b ≡ true) × P
chosen true p never = (refl, p)
chosen false q never = absurd (never q)

-- a choice whose test is known
given : {P : Type 0} (Q : Type 0) (b : Bool) → b ≡ true → P → MatchBool b P Q
given Q true is p = p
given Q false is p = absurd cc

-- what is done with the prepared key that alone has its bytes
with_only : {A : Type 0} (has uses : A → Type 0) (refuses : Refusal → Type 0) (key : A) → has key → ((other : A) → has other → other ≡ key) → WithPrepared has uses refuses → uses key
with_only has uses refuses key own only (Some other, is, used) = subst uses (only other is) used
with_only has uses refuses key own only (None, none, refused) = absurd (none key own)

-- no result of success is an error
unrefused : (old new : List ℕ) (why : Refusal) → ¬ (Leaves old new (Ok tt) why)
unrefused old new why (_, is) = not_done tt why is

-- what preparing leaves, where it is done
made : {A : Type 0} (bytes_of : A → List ℕ) (prepared : Result A Fault) (old new : List ℕ) → Writes bytes_of prepared old new (Ok tt) → (key : A) × (prepared ≡ Ok key) × (new ≡ bytes_of key)
made bytes_of prepared old new writes =
    let (key, is, (same, _)) = answered prepared (λ value. (new ≡ bytes_of value) × (Path (Result ⊤ Refusal) (Ok tt) (Ok tt))) (λ fault. Leaves old new (Ok tt) (Library fault)) writes (λ fault. unrefused old new (Library fault)) in
    (key, is, same)

pub prepared_stands_for_plain : (p : ParameterSet) (H G : List ℕ → List ℕ) → PreparedThroughBytes p G → PreparedAnswersAsPlain p H G → PreparedStandsForPlain p H G
prepared_stands_for_plain p H G through as_plain = record {
  judged = λ key old prepared input signature answer prepares judges.
      let (sized, rest) = chosen (nat_eq (length key) (public_key_length p)) prepares (unrefused old prepared (Length PublicKey)) in
      let (_, writes) = chosen (nat_eq (length old) (prepared_public_length p)) rest (unrefused old prepared (Length PreparedPublicKey)) in
      let (pk, is_key, written) = writes in
      let (ready, made_of, same) = made prepared_public_bytes (prepared_public p G pk) old prepared written in
      let long : length prepared ≡ prepared_public_length p = ap length same ∙ through.public_length pk ready is_key.parts made_of in
      let judged = taken _ (nat_eq (length prepared) (prepared_public_length p)) (eq-eqb (length prepared) (prepared_public_length p) long) judges in
      let only = λ (other : PreparedPublic). subst (λ (bytes : List ℕ). IsPreparedPublicOf p.k p.l bytes other ↔ (other ≡ ready)) (sym same) (through.public_keys pk ready other is_key.parts made_of) in
      let tells : TellsPreparedVerdict p H prepared input signature answer → TellsVerdict p H G key input signature answer =
      λ told.
      let (verdict, is, answers) = with_only (IsPreparedPublicOf p.k p.l prepared)
      (λ other. (verdict : Bool) × (IsTrue verdict ↔ VerifiesPrepared p H other signature input) × (answer ≡ Ok verdict)) (λ why. answer ≡ Err why) ready ((only ready).1 refl) (λ other. (only other).0) told in
      let plain = as_plain.verify_inputs pk ready signature input made_of in
      (pk, is_key, (verdict, (λ yes. plain.0 (is.0 yes), λ accepts. is.1 (plain.1 accepts)), answers)) in
      given (answer ≡ Err (Length PublicKey)) (nat_eq (length key) (public_key_length p)) sized (fitting (answer ≡ Err (Length Signature)) (nat_eq (length signature) (signature_length p)) tells judged);
  signed = λ key old prepared rnd input before after answer prepares signs.
      let (sized, rest) = chosen (nat_eq (length key) (private_key_length p)) prepares (unrefused old prepared (Length PrivateKey)) in
      let (_, writes) = chosen (nat_eq (length old) (prepared_private_length p)) rest (unrefused old prepared (Length PreparedPrivateKey)) in
      let (sk, is_key, written) = used p key _ _ writes (unrefused old prepared) in
      let (ready, made_of, same) = made (λ ready. prepared_private_bytes p.eta ready) (prepared_private p G sk) old prepared written in
      let long : length prepared ≡ prepared_private_length p = ap length same ∙ through.private_length sk ready is_key.parts made_of in
      let signed = taken _ (nat_eq (length prepared) (prepared_private_length p)) (eq-eqb (length prepared) (prepared_private_length p) long) signs in
      let only = λ (other : PreparedPrivate). subst (λ (bytes : List ℕ). IsPreparedPrivateOf p.eta p.k p.l bytes other ↔ (other ≡ ready)) (sym same) (through.private_keys sk ready other is_key.parts made_of) in
      let makes : WritesPreparedSignature p H prepared rnd input before after answer → WritesSignature p H G key rnd input before after answer =
      λ told.
      let put = with_only (IsPreparedPrivateOf p.eta p.k p.l prepared) (λ other. Writes (λ signature. signature) (sign_prepared p H other rnd input) before after answer) (Leaves before after answer)
      ready ((only ready).1 refl) (λ other. (only other).0) told in
      (Ok sk, is_key, subst (λ result. Writes (λ signature. signature) result before after answer) (as_plain.sign_inputs sk ready rnd input made_of) put) in
      given (Leaves before after answer (Length PrivateKey)) (nat_eq (length key) (private_key_length p)) sized (fitting (Leaves before after answer (Length Signature)) (nat_eq (length before) (signature_length p)) makes signed);
}
  where
    -- what is done with the private key, where it isn't rejected
    used : (p : ParameterSet) (key : List ℕ) (uses : PrivateParts → Type 0) (refuses : Refusal → Type 0) → WithPrivate p key uses refuses → ((why : Refusal) → ¬ (refuses why))
        → (sk : PrivateParts) × IsPrivateKeyOf p.eta p.k p.l key sk × uses sk
    used p key uses refuses (Ok sk, is, done) never = (sk, is, done)
    used p key uses refuses (Err fault, _, refused) never = absurd (never (Library fault) refused)
