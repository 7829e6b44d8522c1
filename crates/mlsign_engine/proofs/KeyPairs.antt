-- The keys of a file are a pair, and what they sign is valid for the public key's file.
use Rattle.std.proofs.Common.{◌≡◌, ℕ, ◌≤◌, List, ◌++◌, length, take, drop, Bool, true, false, ltb, nat_eq, Result, Ok, Err, refl, sym, ap, subst, ◌∙◌, arith, IsTrue, inl, inr, ◌↔◌, None}
use Rattle.std.proofs.lemmas.Bool.{le-ltb, eq-eqb, eqb-true}
use Rattle.std.specs.Prelude.{MatchBool, MatchResult, ⊤, Option, Some, ok_or, option_map}
use Rattle.fips204.specs.fault.Fault.{Fault}
use Rattle.fips204.specs.fault.Fault.TheVariants.{SamplingLimit}
use Rattle.fips204.specs.Framing.{plain, represented, representative}
use Rattle.fips204.specs.Keys.{DecodesPrivate}
use Rattle.fips204.specs.Encodings.{PublicParts, PrivateParts, IsPublicKeyOf, IsPrivateKeyOf, private_key_bytes}
use Rattle.fips204.specs.Acceptance.{Verifies}
use Rattle.fips204.specs.Completeness.{SignedIsAccepted, AcceptsSigned, IsPair, TellsPair, BytesTellKeys}
use Rattle.fips204.specs.ParameterSets.{ParameterSet, public_key_length, private_key_length, signature_length, IsSet}
use Rattle.fips204.specs.Prepared.{PreparedPublic, PreparedPrivate, prepared_public, prepared_private}
use Rattle.fips204.specs.PreparedBytes.{prepared_public_bytes, prepared_private_bytes, prepared_public_length, prepared_private_length}
use Rattle.fips204.specs.Refusals.{generated, derived, input_fault, sign_input, VerifiesInput}
use Rattle.fips204.specs.Sampling.{sampled_matrix}
use Rattle.fips204.specs.Signing.{sign}
use Rattle.fips204.specs.Sets.{named_set}
use Rattle.fips204.specs.declared.sets.SetName.{SetName}
use Rattle.fips204.specs.declared.sets.SetName.TheVariants.{MlDsa44, MlDsa65, MlDsa87}
use Rattle.fips204_shake.proofs.Mu.{tr_within}
use Rattle.fips204_shake.specs.Bytes as bytes
use Rattle.fips204_shake.specs.Prepared.{PreparesPublic, PreparesPrivate}
use Rattle.fips204_shake.specs.declared.bytes.refusal.Buffer.TheVariants.{Signature}
use Rattle.fips204_shake.specs.declared.bytes.refusal.Refusal.{Refusal}
use Rattle.fips204_shake.specs.declared.bytes.refusal.Refusal.TheVariants as refusal
use Rattle.fips204_shake.specs.Fronts.{shake256_front, shake128_front, length-shake256_front}
use Rattle.fips204_shake.specs.Keys.{FileParts, Seed, Expanded, Both, HasPrivateSizes}
use Rattle.mlsign_engine.specs.Commands.{HasNoKeys, HasNoKeysOrMemory, IsRefused, FailsToGenerate, IsValid, IsValidUnder, IsSigned, CannotSign, SignedIsValid}
use Rattle.mlsign_engine.specs.InnerSteps.{HasPrivateBytes}
use Rattle.mlsign_engine.specs.Keys.{HasKeys, HasBytes}
use Rattle.mlsign_engine.specs.declared.fault.CommandFault.TheVariants.{Key, Inconsistent, Library, Context, Memory, Message, NoSeed, TwoParts}
use Rattle.mlsign_engine.specs.declared.fault.CommandFault.{CommandFault}

long_fronts : (x : List ℕ) → 4096 ≤ length (shake256_front x)
long_fronts x = omega (arith, length-shake256_front x)

pub known_set : (set : SetName) → IsSet (named_set set)
known_set MlDsa44 = inl refl
known_set MlDsa65 = inr (inl refl)
known_set MlDsa87 = inr (inr refl)

-- what a seed generates is a pair
pub keys_of_seed : (p : ParameterSet) (law : SignedIsAccepted) → IsSet p → (seed : List ℕ) (pk : PublicParts) (sk : PrivateParts)
    → generated p shake256_front shake128_front seed ≡ Ok (pk, sk) → HasKeys p (Seed seed) pk sk
keys_of_seed p law known seed pk sk made =
    record { stands = made; pair = ((law p shake256_front shake128_front pk sk known long_fronts).1 seed made).0 }

short_context : (message context : List ℕ) → length context ≤ 255 → input_fault (plain message context) ≡ None
short_context message context short =
    let test : ltb 255 (length context) ≡ false = le-ltb _ _ short in rw test refl

-- a result of the library is one
library_is : {A : Type 0} (x y : A) (r : Result A Fault) → r ≡ Ok x → r ≡ Ok y → x ≡ y
library_is x y r first second = cc

made_or_refused : {A : Type 0} (x : A) (fault : Fault) (r : Result A Fault) → r ≡ Ok x → r ≡ Err fault → ⊥
made_or_refused x fault r made refused = cc

-- ---- what the calls over bytes return, where arrays have their lengths

pub sized : {X : Type 0} (Y : Type 0) (wanted : ℕ) (array : List ℕ) → length array ≡ wanted → MatchBool (nat_eq (length array) wanted) X Y → X
sized {X} Y wanted array is told = subst (λ (b : Bool). MatchBool b X Y) (eq-eqb _ _ is) told

-- an error of the library, of which this is so
abbrev pub RefusedBy : (Fault → Type 0) → Refusal → Type 0
RefusedBy P why = (fault : Fault) × (why ≡ refusal.Library fault) × P fault

-- keygen writes the keys of a seed
pub seed_written : (p : ParameterSet) (law : SignedIsAccepted) → IsSet p → (seed public public' private private' : List ℕ) (answer : Result ⊤ Refusal)
    → length seed ≡ 32 → length public ≡ public_key_length p → length private ≡ private_key_length p
    → length public' ≡ public_key_length p → length private' ≡ private_key_length p
    → bytes.Generates p shake256_front shake128_front seed public public' private private' answer
    → MatchResult answer (λ _. HasBytes p (Seed seed) public' private') (RefusedBy (IsRefused p (Seed seed)))
seed_written p law known seed public public' private private' answer seed_size first second public_size private_size told =
    case_of (generated p shake256_front shake128_front seed) refl (sized _ _ private second (sized _ _ public first told))
  where
    case_of : (made : Result (PublicParts × PrivateParts) Fault) → generated p shake256_front shake128_front seed ≡ made
        → MatchResult made (λ pair. (public' ≡ bytes.bytes_of_public pair.0) × (private' ≡ private_key_bytes p.eta pair.1) × (answer ≡ Ok tt))
        (λ fault. (public' ≡ public) × bytes.Leaves private private' answer (refusal.Library fault))
        → MatchResult answer (λ _. HasBytes p (Seed seed) public' private') (RefusedBy (IsRefused p (Seed seed)))
    case_of (Ok (pk, sk)) is (public_is, private_is, done) = rw done (record {
      pk = pk;
      sk = sk;
      keys = keys_of_seed p law known seed pk sk is;
      sizes = seed_size;
      public_is = public_is;
      public_size = public_size;
      private_is = private_is;
      private_size = private_size;
    })
    case_of (Err fault) is (_, (_, failed)) = rw failed (fault, refl, is)

-- the key of a seed is consistent, or an error
pub generating_fails : (algorithm : SetName) (law : SignedIsAccepted) (seed : List ℕ) (fault : CommandFault)
    → HasNoKeysOrMemory (named_set algorithm) (Seed seed) fault → FailsToGenerate algorithm seed fault
generating_fails algorithm law seed fault fails = (
  fails,
  λ is. case_of (subst (HasNoKeysOrMemory (named_set algorithm) (Seed seed)) is fails) (generated (named_set algorithm) shake256_front shake128_front seed) refl,
)
  where
    case_of : HasNoKeys (named_set algorithm) (Seed seed) Inconsistent → (made : Result (PublicParts × PrivateParts) Fault)
        → generated (named_set algorithm) shake256_front shake128_front seed ≡ made → ⊥
    case_of (none, taken) (Ok (pk, sk)) is = none pk sk (keys_of_seed (named_set algorithm) law (known_set algorithm) seed pk sk is)
    case_of (none, taken) (Err fault) is = taken fault is

one_private : (p : ParameterSet) (law : BytesTellKeys p) (key : List ℕ) (a b : PrivateParts)
    → IsPrivateKeyOf p.eta p.k p.l key a → IsPrivateKeyOf p.eta p.k p.l key b → a ≡ b
one_private p law key a b first second = law.private_keys a b first.parts second.parts (first.encoding ∙ sym second.encoding)

-- an expanded key that decodes is one of a pair, or of none
no_pair : (p : ParameterSet) (law : BytesTellKeys p) (expanded : List ℕ) (pk : PublicParts) (sk : PrivateParts)
    → IsPrivateKeyOf p.eta p.k p.l expanded sk → derived p shake128_front sk ≡ Ok pk → ¬ (IsPair p shake256_front shake128_front pk sk)
    → HasNoKeys p (Expanded expanded) Inconsistent
no_pair p law expanded pk sk is derives never = (
  λ pk' sk' keys.
      let same : sk' ≡ sk = one_private p law expanded sk' sk keys.stands is in
      let key : pk' ≡ pk = library_is pk' pk _ (ap (derived p shake128_front) (sym same) ∙ keys.pair.derives) derives in
      never (subst (λ (k : PublicParts). IsPair p shake256_front shake128_front k sk) key
      (subst (λ (s : PrivateParts). IsPair p shake256_front shake128_front pk' s) same keys.pair)),
  λ fault (sk', is', refused).
      made_or_refused pk fault _ derives (ap (derived p shake128_front) (one_private p law expanded sk sk' is is') ∙ refused),
)

pub not_a_pair : (p : ParameterSet) (law : BytesTellKeys p) (expanded : List ℕ) (answer : Result Bool Refusal) → length expanded ≡ private_key_length p
    → bytes.ChecksPair p shake256_front shake128_front expanded answer → answer ≡ Ok false → HasNoKeys p (Expanded expanded) Inconsistent
not_a_pair p law expanded answer size told answered = case_of (sized _ _ expanded size told)
  where
    case_of : bytes.WithPrivate p expanded (λ sk. (told : Result Bool Fault) × TellsPair p shake256_front shake128_front sk told × bytes.Tells told answer) (λ why. answer ≡ Err why)
        → HasNoKeys p (Expanded expanded) Inconsistent
    case_of (Ok sk, is, (Ok true, _, done)) = absurd cc
    case_of (Ok sk, is, (Ok false, (pk, derives, tells), done)) = no_pair p law expanded pk sk is derives (λ pair. let yes = tells.1 pair in cc)
    case_of (Ok sk, is, (Err fault, _, failed)) = absurd cc
    case_of (Err fault, _, failed) = absurd cc

-- ---- what is done with the bytes of a file's private key

pub private_of : (p : ParameterSet) (parts : FileParts) (public private : List ℕ) → HasBytes p parts public private → HasPrivateBytes p parts private
private_of p parts public private has = record { pk = has.pk; sk = has.sk; keys = has.keys; is = has.private_is; size = has.private_size }

decodes_own : (p : ParameterSet) (pk : PublicParts) (sk : PrivateParts) → IsPair p shake256_front shake128_front pk sk → (decoded : Result PrivateParts Fault)
    → DecodesPrivate p.eta p.k p.l (private_key_bytes p.eta sk) decoded → decoded ≡ Ok sk
decodes_own p pk sk pair (Ok other) is = ap Ok ((pair.private_decoded other).0 is)
decodes_own p pk sk pair (Err fault) (_, none) = absurd (none sk ((pair.private_decoded sk).1 refl))

-- what is said of the key that the bytes decode to is said of that one
uses_own : (p : ParameterSet) (parts : FileParts) (key : List ℕ) (has : HasPrivateBytes p parts key) (uses : PrivateParts → Type 0) (refuses : Refusal → Type 0)
    → bytes.WithPrivate p key uses refuses → uses has.sk
uses_own p parts key has uses refuses (decoded, decodes, told) =
    let own = decodes_own p has.pk has.sk has.keys.pair decoded (subst (λ (z : List ℕ). DecodesPrivate p.eta p.k p.l z decoded) has.is decodes) in
    subst (λ (d : Result PrivateParts Fault). MatchResult d uses (λ fault. refuses (refusal.Library fault))) own told

-- signing the hash of a message signs the message
same_input : (p : ParameterSet) (parts : FileParts) (key random context message mu : List ℕ) (has : HasPrivateBytes p parts key) → length context ≤ 255
    → mu ≡ representative shake256_front (take 64 (drop 64 key)) (plain message context)
    → sign_input p shake256_front shake128_front has.sk random (represented mu) ≡ sign_input p shake256_front shake128_front has.sk random (plain message context)
same_input p parts key random context message mu has short hashed =
    let tr = tr_within p key has.sk (record { parts = has.keys.pair.parts; encoding = sym has.is }) in
    let hash : mu ≡ representative shake256_front has.sk.tr (plain message context) =
    hashed ∙ ap (λ (z : List ℕ). representative shake256_front z (plain message context)) tr in
    rw (short_context message context short) (ap (λ (z : List ℕ). sign p shake256_front shake128_front has.sk z random) hash)

pub signature_written : (p : ParameterSet) (law : SignedIsAccepted) → IsSet p → (parts : FileParts) (key random context message mu old new : List ℕ) (answer : Result ⊤ Refusal)
    → HasPrivateBytes p parts key → length old ≡ signature_length p → length new ≡ signature_length p
    → length context ≤ 255 → mu ≡ representative shake256_front (take 64 (drop 64 key)) (plain message context)
    → bytes.Signs p shake256_front shake128_front key random (represented mu) old new answer
    → MatchResult answer (λ _. IsSigned p parts random context message new) (RefusedBy (CannotSign p parts random context message))
signature_written p law known parts key random context message mu old new answer has second size short hashed told =
    case_of (sign_input p shake256_front shake128_front has.sk random (represented mu)) (sym (same_input p parts key random context message mu has short hashed))
    (uses_own p parts key has (λ sk. bytes.Writes (λ signature. signature) (sign_input p shake256_front shake128_front sk random (represented mu)) old new answer)
    (bytes.Leaves old new answer) (sized _ _ old second (sized _ _ key has.size told)))
  where
    case_of : (made : Result (List ℕ) Fault) → sign_input p shake256_front shake128_front has.sk random (plain message context) ≡ made
        → bytes.Writes (λ signature. signature) made old new answer
        → MatchResult answer (λ _. IsSigned p parts random context message new) (RefusedBy (CannotSign p parts random context message))
    case_of (Ok signature) is (same, done) =
        let pair = has.keys.pair in
        let signed = is ∙ ap Ok (sym same) in
        let accepts : AcceptsSigned p shake256_front shake128_front has.pk has.sk =
        ((law p shake256_front shake128_front has.pk has.sk known long_fronts).0 pair.parts pair.whole pair.derives).0 in
        rw done (record { pk = has.pk; sk = has.sk; keys = has.keys; signed = signed; accepted = (size, accepts random new (plain message context) signed) })
    case_of (Err fault) is (_, failed) = rw failed (fault, refl, (has.pk, has.sk, has.keys, is))

-- the public key of a file's private one is written
pub public_written : (p : ParameterSet) (parts : FileParts) (key old new : List ℕ) (answer : Result ⊤ Refusal)
    → HasPrivateBytes p parts key → HasPrivateSizes (private_key_length p) parts → length old ≡ public_key_length p → length new ≡ public_key_length p
    → bytes.Derives p shake128_front key old new answer → HasBytes p parts new key × (answer ≡ Ok tt)
public_written p parts key old new answer has sizes second size told =
    let derives : bytes.Writes bytes.bytes_of_public (derived p shake128_front has.sk) old new answer =
    uses_own p parts key has (λ sk. bytes.Writes bytes.bytes_of_public (derived p shake128_front sk) old new answer) (bytes.Leaves old new answer)
    (sized _ _ old second (sized _ _ key has.size told)) in
    let done : (new ≡ bytes.bytes_of_public has.pk) × (answer ≡ Ok tt) = rw has.keys.pair.derives at derives in (
      record {
        pk = has.pk;
        sk = has.sk;
        keys = has.keys;
        sizes = sizes;
        public_is = done.0;
        public_size = size;
        private_is = has.is;
        private_size = has.size;
      },
      done.1,
    )

-- ---- what is prepared

-- where a public key is derived, the private key is prepared: both take the matrix
both_made : {A : Type 0} (matrix : Option A) (f : A → PublicParts) (g : A → PreparedPrivate) (bytes_of : PreparedPrivate → List ℕ) (pk : PublicParts) (old new : List ℕ)
    (answer : Result ⊤ Refusal) → ok_or (option_map f matrix) SamplingLimit ≡ Ok pk → bytes.Writes bytes_of (ok_or (option_map g matrix) SamplingLimit) old new answer
    → answer ≡ Ok tt
both_made (Some a) f g bytes_of pk old new answer made written = written.1
both_made None f g bytes_of pk old new answer made written = absurd cc

pub private_prepared : (p : ParameterSet) (parts : FileParts) (key old new : List ℕ) (answer : Result ⊤ Refusal)
    → HasPrivateBytes p parts key → length old ≡ prepared_private_length p
    → PreparesPrivate p shake128_front key old new answer → answer ≡ Ok tt
unfolding derived
private_prepared p parts key old new answer has second told =
    both_made (sampled_matrix shake128_front has.sk.rho p.k p.l) _ _ (λ prepared. prepared_private_bytes p.eta prepared) has.pk old new answer has.keys.pair.derives
    (uses_own p parts key has (λ sk. bytes.Writes (λ prepared. prepared_private_bytes p.eta prepared) (prepared_private p shake128_front sk) old new answer)
    (bytes.Leaves old new answer) (sized _ _ old second (sized _ _ key has.size told)))

pub public_prepared : (p : ParameterSet) (key old new : List ℕ) (answer : Result ⊤ Refusal) → length key ≡ public_key_length p → length old ≡ prepared_public_length p
    → PreparesPublic p shake256_front shake128_front key old new answer
    → MatchResult answer (λ _. ⊤) (RefusedBy (λ fault. (pk : PublicParts) × IsPublicKeyOf shake256_front p.k key pk × (prepared_public p shake128_front pk ≡ Err fault)))
public_prepared p key old new answer first second told =
    let (pk, is, written) = sized _ _ old second (sized _ _ key first told) in case_of pk is (prepared_public p shake128_front pk) refl written
  where
    case_of : (pk : PublicParts) → IsPublicKeyOf shake256_front p.k key pk → (made : Result PreparedPublic Fault) → prepared_public p shake128_front pk ≡ made
        → bytes.Writes prepared_public_bytes made old new answer
        → MatchResult answer (λ _. ⊤) (RefusedBy (λ fault. (pk : PublicParts) × IsPublicKeyOf shake256_front p.k key pk × (prepared_public p shake128_front pk ≡ Err fault)))
    case_of pk is (Ok ready) made (_, done) = rw done tt
    case_of pk is (Err fault) made (_, failed) = rw failed (fault, refl, (pk, is, made))

-- ---- what is accepted by the public key that has these bytes

pub verdict_told : (p : ParameterSet) (law : BytesTellKeys p) (key signature context message mu : List ℕ) (answer : Result Bool Refusal)
    → length key ≡ public_key_length p → length context ≤ 255
    → mu ≡ representative shake256_front (take 64 (shake256_front key)) (plain message context)
    → bytes.Judges p shake256_front shake128_front key (represented mu) signature answer
    → MatchResult answer (λ valid. IsTrue valid ↔ IsValidUnder p key signature context message) (λ _. ¬ (IsValidUnder p key signature context message))
verdict_told p law key signature context message mu answer size short hashed told =
    case_of (nat_eq (length signature) (signature_length p)) refl (sized _ _ key size told)
  where
    one_public_key : (a b : PublicParts) → IsPublicKeyOf shake256_front p.k key a → IsPublicKeyOf shake256_front p.k key b → a ≡ b
    one_public_key a b first second = law.public_keys a b first.parts second.parts (first.tr ∙ sym second.tr) (first.encoding ∙ sym second.encoding)

    same_verdict : (pk : PublicParts) → IsPublicKeyOf shake256_front p.k key pk
        → VerifiesInput p shake256_front shake128_front pk signature (represented mu) ↔ VerifiesInput p shake256_front shake128_front pk signature (plain message context)
    same_verdict pk is =
        let hash : mu ≡ representative shake256_front pk.tr (plain message context) =
        hashed ∙ ap (λ (z : List ℕ). representative shake256_front z (plain message context)) (sym is.tr) in (
          λ accepted. (short_context message context short, subst (λ (z : List ℕ). Verifies p shake256_front shake128_front pk z signature) hash accepted.1),
          λ accepted. (refl, subst (λ (z : List ℕ). Verifies p shake256_front shake128_front pk z signature) (sym hash) accepted.1),
        )

    case_of : (fits : Bool) → nat_eq (length signature) (signature_length p) ≡ fits
        → MatchBool fits (bytes.TellsVerdict p shake256_front shake128_front key (represented mu) signature answer) (answer ≡ Err (refusal.Length Signature))
        → MatchResult answer (λ valid. IsTrue valid ↔ IsValidUnder p key signature context message) (λ _. ¬ (IsValidUnder p key signature context message))
    case_of true fits (pk, is, (verdict, tells, done)) = rw done (
      λ yes. (pk, is, (eqb-true _ _ fits, (same_verdict pk is).0 (tells.0 yes))),
      λ (other, is', (_, accepted)).
          tells.1 ((same_verdict pk is).1 (subst (λ (k : PublicParts). VerifiesInput p shake256_front shake128_front k signature (plain message context)) (one_public_key other pk is' is) accepted)),
    )
    case_of false fits failed = rw failed (λ (_, _, (size, _)). let true_is = eq-eqb _ _ size in cc)

-- ---- what is signed is valid

-- a file has one public key
one_public : (p : ParameterSet) (parts : FileParts) (x y : PublicParts) (a b : PrivateParts) → HasKeys p parts x a → HasKeys p parts y b → x ≡ y
one_public p (Seed seed) x y a b first second = ap (λ (z : PublicParts × PrivateParts). z.0) (library_is (x, a) (y, b) _ first.stands second.stands)
one_public p (Both seed expanded) x y a b first second =
    ap (λ (z : PublicParts × PrivateParts). z.0) (library_is (x, a) (y, b) _ first.stands.0 second.stands.0)
one_public p (Expanded expanded) x y a b first second =
    let moved : IsPrivateKeyOf p.eta p.k p.l (private_key_bytes p.eta b) a =
    subst (λ (bytes : List ℕ). IsPrivateKeyOf p.eta p.k p.l bytes a) (sym second.stands.encoding) first.stands in
    let same : a ≡ b = (second.pair.private_decoded a).0 moved in
    library_is x y _ first.pair.derives (ap (derived p shake128_front) same ∙ second.pair.derives)

pub signed_valid : SignedIsValid
signed_valid pair random context message signature valid has signs judges =
    let p : ParameterSet = named_set pair.algorithm in
    let same : signs.pk ≡ has.pk = one_public p pair.parts signs.pk has.pk signs.sk has.sk signs.keys has.keys in
    let decoded : IsPublicKeyOf shake256_front p.k pair.public has.pk =
    subst (λ (key : List ℕ). IsPublicKeyOf shake256_front p.k key has.pk) (sym has.public_is) ((has.keys.pair.public_decoded has.pk).1 refl) in
    judges.answer.1 (has.pk, decoded, subst (λ (pk : PublicParts). IsValid p pk signature context message) same signs.accepted)
