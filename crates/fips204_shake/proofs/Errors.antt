-- What an error leaves of the arrays that a call writes.
use Rattle.std.proofs.Common.{◌≡◌, Bool, true, false, List, ℕ, length, nat_eq, Some, None, Result, Ok, Err}
use Rattle.std.specs.Prelude.{MatchBool, MatchResult, ⊤}
use Rattle.fips204_base.specs.Encodings.{PublicParts, PrivateParts, private_key_bytes}
use Rattle.fips204_base.specs.declared.fault.Fault.{Fault}
use Rattle.fips204.specs.ParameterSets.{ParameterSet, public_key_length, private_key_length, signature_length}
use Rattle.fips204.specs.Prepared.{prepared_public, prepared_private, sign_prepared}
use Rattle.fips204.specs.PreparedBytes.{IsPreparedPrivateOf, prepared_public_bytes, prepared_private_bytes, prepared_public_length, prepared_private_length}
use Rattle.fips204.specs.Refusals.{generated, derived, sign_input}
use Rattle.fips204_shake.specs.Bytes.{Leaves, Writes, WithPrivate, bytes_of_public}
use Rattle.fips204_shake.specs.Errors.{ErrorsLeave}
use Rattle.fips204_shake.specs.Prepared.{WithPrepared}
use Rattle.fips204_shake.specs.declared.bytes.refusal.Refusal.{Refusal}
use Rattle.fips204_shake.specs.declared.bytes.refusal.Refusal.TheVariants.{Library}

-- what holds on both sides of a choice
either : {P Q R : Type 0} (b : Bool) → (P → R) → (Q → R) → MatchBool b P Q → R
either true f g p = f p
either false f g q = g q

left : {A : Type 0} (bytes_of : A → List ℕ) (made : Result A Fault) (old new : List ℕ) (why : Refusal) → Writes bytes_of made old new (Err why) → new ≡ old
left bytes_of (Ok value) old new why (_, is) = absurd cc
left bytes_of (Err fault) old new why (same, _) = same

with_private : (p : ParameterSet) (key old new : List ℕ) (why : Refusal) (uses : PrivateParts → Type 0) → ((sk : PrivateParts) → uses sk → new ≡ old)
    → WithPrivate p key uses (Leaves old new (Err why)) → new ≡ old
with_private p key old new why uses f (Ok sk, _, used) = f sk used
with_private p key old new why uses f (Err fault, _, (same, _)) = same

with_prepared : {A : Type 0} (has uses : A → Type 0) (old new : List ℕ) (why : Refusal) → ((key : A) → uses key → new ≡ old)
    → WithPrepared has uses (Leaves old new (Err why)) → new ≡ old
with_prepared has uses old new why f (Some key, _, used) = f key used
with_prepared has uses old new why f (None, _, (same, _)) = same

-- two lengths, and then what is written
sized : {P : Type 0} (a b : Bool) (old new : List ℕ) (why : Refusal) (first second : Refusal) → (P → new ≡ old)
    → MatchBool a (MatchBool b P (Leaves old new (Err why) second)) (Leaves old new (Err why) first) → new ≡ old
sized a b old new why first second f = either a (either b f (λ (same, _). same)) (λ (same, _). same)

pair_left : (p : ParameterSet) (public public' private private' : List ℕ) (why : Refusal) (made : Result (PublicParts × PrivateParts) Fault)
    → MatchResult made (λ pair. (public' ≡ bytes_of_public pair.0) × (private' ≡ private_key_bytes p.eta pair.1) × (Path (Result ⊤ Refusal) (Err why) (Ok tt)))
    (λ fault. (public' ≡ public) × Leaves private private' (Err why) (Library fault)) → (public' ≡ public) × (private' ≡ private)
pair_left p public public' private private' why (Ok pair) (_, _, is) = absurd cc
pair_left p public public' private private' why (Err fault) (v, (s, _)) = (v, s)

pub errors_leave : (p : ParameterSet) (H G : List ℕ → List ℕ) → ErrorsLeave p H G
errors_leave p H G = record {
  keygen = λ seed public public' private private' why.
      either (nat_eq (length public) (public_key_length p))
      (either (nat_eq (length private) (private_key_length p)) (pair_left p public public' private private' why (generated p H G seed)) (λ (v, (s, _)). (v, s))) (λ (v, (s, _)). (v, s));
  sign = λ key rnd input old new why.
      sized (nat_eq (length key) (private_key_length p)) (nat_eq (length old) (signature_length p)) old new why _ _
      (with_private p key old new why _ (λ sk. left (λ signature. signature) (sign_input p H G sk rnd input) old new why));
  sign_prepared = λ key rnd input old new why.
      sized (nat_eq (length key) (prepared_private_length p)) (nat_eq (length old) (signature_length p)) old new why _ _
      (with_prepared (IsPreparedPrivateOf p.eta p.k p.l key) _ old new why (λ sk. left (λ signature. signature) (sign_prepared p H sk rnd input) old new why));
  public_key = λ key old new why.
      sized (nat_eq (length key) (private_key_length p)) (nat_eq (length old) (public_key_length p)) old new why _ _
      (with_private p key old new why _ (λ sk. left bytes_of_public (derived p G sk) old new why));
  prepare_public_key = λ key old new why.
      sized (nat_eq (length key) (public_key_length p)) (nat_eq (length old) (prepared_public_length p)) old new why _ _
      (λ (pk, _, writes). left prepared_public_bytes (prepared_public p G pk) old new why writes);
  prepare_private_key = λ key old new why.
      sized (nat_eq (length key) (private_key_length p)) (nat_eq (length old) (prepared_private_length p)) old new why _ _
      (with_private p key old new why _ (λ sk. left (λ prepared. prepared_private_bytes p.eta prepared) (prepared_private p G sk) old new why));
}
