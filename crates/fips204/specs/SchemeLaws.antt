-- What rounding, hints, challenges, packing and spellings promise, what M' and a signature determine, and which errors there are (FIPS 204, 2.3, 5, 6, 7.1, 7.4).
use Rattle.std.specs.Prelude.{◌≡◌, ◌↔◌, ◌⊎◌, ◌<◌, ◌≤◌, ℕ, ◌+◌, ◌-◌, ◌*◌, ◌%◌, List, pos, ◌-ℤ◌, nat_abs, true, false, length, Some, ◌≢◌, ◌++◌, take, None, IsTrue, Option, Bool, IfErr}
use Rattle.std.specs.List.{All}
use Rattle.fips204_base.specs.Encodings.{PublicParts, PrivateParts, IsPublicKeyOf, IsSignature, Spells, all_ones, hint_bytes}
use Rattle.fips204_base.specs.Bounds.{PolynomialInRange}
use Rattle.fips204_base.specs.Packing.{width, polynomial_bytes, unpacked}
use Rattle.fips204_base.specs.Residues.{centred, norm, coefficients}
use Rattle.fips204_base.specs.Rounding.{IsGamma2, high_bits, low_bits, make_hint, use_hint}
use Rattle.fips204_base.specs.Sampling.{challenge, sampled_matrix}
use Rattle.fips204_base.specs.Streams.{Bytes, XOF}
use Rattle.fips204_base.specs.Transforms.{product}
use Rattle.fips204_base.specs.Vectors.{IsVector, polynomial_of}
use Rattle.fips204_base.specs.declared.fault.Fault.TheVariants.{SamplingLimit, TooManyAttempts}
use Rattle.fips204_base.specs.declared.types.R.{R}
use Rattle.fips204_base.specs.declared.types.T.{T}
use Rattle.fips204.specs.Acceptance.{Opens}
use Rattle.fips204.specs.Framing.{Input, framed, plain, hashed, represented, frame, representative}
use Rattle.fips204.specs.ParameterSets.{ParameterSet, c_tilde_length, IsSet}
use Rattle.fips204.specs.Prepared.{prepared_private, prepared_public}
use Rattle.fips204.specs.Refusals.{generated, derived, input_fault, sign_input, VerifiesInput, OnlySamplingLimit}

-- with the hint of z the high bits of r become those of r + z, where z is at most gamma2 in absolute value
abbrev pub HintGivesHighBits : Type 0
HintGivesHighBits =
    (g z r : ℕ) → IsGamma2 (pos g) → r < 8380417 → z < 8380417 → nat_abs (centred (pos z)) ≤ g
    → use_hint g (make_hint g z r) r ≡ high_bits g ((r + z) % 8380417)

-- r less 2 gamma2 UseHint(h, r) is at most gamma2 in absolute value without a hint, and at most 2 gamma2 + 1 with one
abbrev pub HintStaysNear : Type 0
HintStaysNear =
    (g r : ℕ) → IsGamma2 (pos g) → r < 8380417
    → (nat_abs (centred (pos r -ℤ pos (use_hint g false r * (2 * g)))) ≤ g)
    × (nat_abs (centred (pos r -ℤ pos (use_hint g true r * (2 * g)))) ≤ 2 * g + 1)

-- adding s keeps the high bits of r, where s is at most beta in absolute value and the low bits of r are below gamma2 - beta
abbrev pub HighBitsStay : Type 0
HighBitsStay =
    (g r s beta : ℕ) → IsGamma2 (pos g) → r < 8380417 → s < 8380417 → nat_abs (centred (pos s)) ≤ beta → nat_abs (low_bits g r) + beta < g
    → high_bits g ((r + s) % 8380417) ≡ high_bits g r

-- no coefficient of c s is above tau eta in absolute value, centred, for a challenge c and an s with none above eta
abbrev pub ChallengeProductIsSmall : Type 0
ChallengeProductIsSmall =
    (tau eta : ℕ) (front : Bytes) (c s : R) → challenge tau front ≡ Some c → norm s.0 ≤ eta
    → norm (polynomial_of (λ n. pos (product (coefficients c.0) (coefficients s.0) n))).0 ≤ tau * eta

-- packing and unpacking undo each other, with coefficients from -a to b: a polynomial in range is the one that its bytes hold, and bytes, as
-- many as a polynomial has, are those of the polynomial that they hold
pub record PackingIsUndone (a b : ℕ) : Type 0 where
  pub polynomials : (w : R) → length w.0 ≡ 256 → PolynomialInRange (pos 0 -ℤ pos a) (pos b) w.0 → unpacked a b (polynomial_bytes (pos a) (pos b) w.0) ≡ w
  pub bytes : (v : Bytes) → length v ≡ 32 * width (pos a) (pos b) → All (λ byte. byte < 256) v → polynomial_bytes (pos a) (pos b) (unpacked a b v).0 ≡ v

-- c_tilde, z and h determine the bytes of a signature, and these determine c_tilde, z and h
abbrev pub SignatureHasOneSpelling : Type 0
SignatureHasOneSpelling =
    (gamma1 omega' k l n : ℕ) (first second c_tilde other_c_tilde : Bytes) (z h other_z other_h : List R)
    → (IsSignature gamma1 omega' k l n first c_tilde z h → IsSignature gamma1 omega' k l n second c_tilde z h → first ≡ second)
    × (1 ≤ gamma1 → gamma1 ≤ 1048575 → IsSignature gamma1 omega' k l n first c_tilde z h → IsSignature gamma1 omega' k l n first other_c_tilde other_z other_h
    → (c_tilde ≡ other_c_tilde) × (z ≡ other_z) × (h ≡ other_h))

-- a hint whose ones number no more than omega is spelled by one row of bytes alone, which spells no other hint
abbrev pub HintHasOneSpelling : Type 0
HintHasOneSpelling =
    (omega' k : ℕ) (h : List R)
    → (IsVector k 0 1 h → length (all_ones h) ≤ omega' → Spells omega' k h (hint_bytes omega' h))
    × ((first second : Bytes) → Spells omega' k h first → Spells omega' k h second → first ≡ second)
    × ((other : List R) (bytes : Bytes) → Spells omega' k h bytes → Spells omega' k other bytes → h ≡ other)

-- whether an input is framed when it is signed: a message or a digest, under a context
abbrev pub has_context : Input → Bool
has_context (plain message context) = true
has_context (hashed digest context oid) = true
has_context (framed m) = false
has_context (represented mu) = false

-- M' of an input; none where mu alone is given
abbrev pub framing : Input → Option Bytes
framing (plain message context) = Some (frame 0 context message)
framing (hashed digest context oid) = Some (frame 1 context (oid ++ digest))
framing (framed m) = Some m
framing (represented mu) = None

-- the hooks stand for an input that breaks no condition: signing and judging its mu, made with the key's tr, or its M', is signing and judging it
pub record HooksStandForInput (p : ParameterSet) (H G : XOF) : Type 0 where
  pub signed_mu : (sk : PrivateParts) (rnd : Bytes) (input : Input) → input_fault input ≡ None
      → sign_input p H G sk rnd (represented (representative H sk.tr input)) ≡ sign_input p H G sk rnd input
  pub judged_mu : (pk : PublicParts) (signature : Bytes) (input : Input) → input_fault input ≡ None
      → VerifiesInput p H G pk signature (represented (representative H pk.tr input)) ↔ VerifiesInput p H G pk signature input
  pub signed_framed : (sk : PrivateParts) (rnd : Bytes) (input : Input) (m : Bytes) → input_fault input ≡ None → framing input ≡ Some m
      → sign_input p H G sk rnd (framed m) ≡ sign_input p H G sk rnd input
  pub judged_framed : (pk : PublicParts) (signature : Bytes) (input : Input) (m : Bytes) → input_fault input ≡ None → framing input ≡ Some m
      → VerifiesInput p H G pk signature (framed m) ↔ VerifiesInput p H G pk signature input

-- messages and digests that break no condition have the same M' only if they are the same, mode and part by part
abbrev pub FramingIsOneToOne : Type 0
FramingIsOneToOne = (x y : Input) → IsTrue (has_context x) → IsTrue (has_context y) → input_fault x ≡ None → input_fault y ≡ None → framing x ≡ framing y → x ≡ y

-- two inputs of an XOF that differ and have the same first n bytes of output
pub record Collide (H : XOF) (n : ℕ) (x y : Bytes) : Type 0 where
  pub differ : x ≢ y
  pub same : take n (H x) ≡ take n (H y)

-- w1 are the bytes that a signature fixes under a key, whatever was signed
pub record Fixes (p : ParameterSet) (H G : XOF) (pk : PublicParts) (signature w1 : Bytes) : Type 0 where
  pub a : List (List T)
  pub matrix : sampled_matrix G pk.rho p.k p.l ≡ Some a
  pub c_tilde : Bytes
  pub opened : Opens p H a pk.t1 signature c_tilde w1

-- a signature fixes no other w1 under a key
abbrev pub SignatureFixesOne : Type 0
SignatureFixesOne =
    (p : ParameterSet) (H G : XOF) (pk : PublicParts) (signature w1 other : Bytes) → IsSet p
    → Fixes p H G pk signature w1 → Fixes p H G pk signature other → w1 ≡ other

-- under a key two M' name a collision: of tr || M' in mu, or of mu || w1 in c_tilde, for the w1 that the signature fixes
pub record NamesCollision (p : ParameterSet) (H G : XOF) (pk : PublicParts) (signature m n : Bytes) : Type 0 where
  pub w1 : Bytes
  pub fixed : Fixes p H G pk signature w1
  pub collide : Collide H 64 (pk.tr ++ m) (pk.tr ++ n)
      ⊎ Collide H (c_tilde_length p) (representative H pk.tr (framed m) ++ w1) (representative H pk.tr (framed n) ++ w1)

-- two inputs can be told apart by their M', m and n: both are messages or digests, or both are M'
pub record AreFramedAlike (x y : Input) (m n : Bytes) : Type 0 where
  pub kind : has_context x ≡ has_context y
  pub first : framing x ≡ Some m
  pub second : framing y ≡ Some n

-- one signature that a key accepts for two different inputs names a collision of their M'
abbrev pub SignatureBindsInput : Type 0
SignatureBindsInput =
    (p : ParameterSet) (H G : XOF) (pk : PublicParts) (x y : Input) (m n signature : Bytes) → IsSet p
    → AreFramedAlike x y m n → x ≢ y → VerifiesInput p H G pk signature x → VerifiesInput p H G pk signature y → NamesCollision p H G pk signature m n

-- under a key two values of mu, of whatever input, name a collision in c_tilde, each before the w1 that the signature fixes
pub record NamesHashCollision (p : ParameterSet) (H G : XOF) (pk : PublicParts) (signature mu nu : Bytes) : Type 0 where
  pub w1 : Bytes
  pub fixed : Fixes p H G pk signature w1
  pub collide : Collide H (c_tilde_length p) (mu ++ w1) (nu ++ w1)

-- one signature that a key accepts for two different values of mu, each given or that of an input, names a collision of these
abbrev pub SignatureBindsHash : Type 0
SignatureBindsHash =
    (p : ParameterSet) (H G : XOF) (pk : PublicParts) (x y : Input) (signature : Bytes) → IsSet p
    → representative H pk.tr x ≢ representative H pk.tr y → VerifiesInput p H G pk signature x → VerifiesInput p H G pk signature y
    → NamesHashCollision p H G pk signature (representative H pk.tr x) (representative H pk.tr y)

-- under two keys two M' name a collision: of the keys' bytes in tr, of tr || M' in mu, or of mu || w1 in c_tilde, each key's own tr and w1
pub record NamesKeyCollision (p : ParameterSet) (H G : XOF) (bytes others : Bytes) (pk other : PublicParts) (signature m n : Bytes) : Type 0 where
  pub w1 : Bytes
  pub fixed : Fixes p H G pk signature w1
  pub other_w1 : Bytes
  pub other_fixed : Fixes p H G other signature other_w1
  pub collide : Collide H 64 bytes others ⊎ (Collide H 64 (pk.tr ++ m) (other.tr ++ n)
      ⊎ Collide H (c_tilde_length p) (representative H pk.tr (framed m) ++ w1) (representative H other.tr (framed n) ++ other_w1))

-- one signature that two keys accept, each read from its bytes, is accepted for one input under one key, or names a collision
abbrev pub SignatureBindsKey : Type 0
SignatureBindsKey =
    (p : ParameterSet) (H G : XOF) (bytes others : Bytes) (pk other : PublicParts) (x y : Input) (m n signature : Bytes) → IsSet p
    → ((x : Bytes) → 4096 ≤ length (H x)) → IsPublicKeyOf H p.k bytes pk → IsPublicKeyOf H p.k others other
    → AreFramedAlike x y m n → VerifiesInput p H G pk signature x → VerifiesInput p H G other signature y
    → ((pk ≡ other) × (x ≡ y)) ⊎ NamesKeyCollision p H G bytes others pk other signature m n

-- two signatures under a key name a collision of one mu, before the w1 that each of them fixes, in c_tilde
pub record NamesHintCollision (p : ParameterSet) (H G : XOF) (pk : PublicParts) (mu first second : Bytes) : Type 0 where
  pub w1 : Bytes
  pub fixed : Fixes p H G pk first w1
  pub other_w1 : Bytes
  pub other_fixed : Fixes p H G pk second other_w1
  pub collide : Collide H (c_tilde_length p) (mu ++ w1) (mu ++ other_w1)

-- so do two different signatures that a key accepts for one input, if they are the same up to their hints
abbrev pub OtherHintCollides : Type 0
OtherHintCollides =
    (p : ParameterSet) (H G : XOF) (pk : PublicParts) (input : Input) (first second : Bytes) → IsSet p → first ≢ second
    → take (c_tilde_length p + 32 * width (pos (p.gamma1 - 1)) (pos p.gamma1) * p.l) first ≡ take (c_tilde_length p + 32 * width (pos (p.gamma1 - 1)) (pos p.gamma1) * p.l) second
    → VerifiesInput p H G pk first input → VerifiesInput p H G pk second input → NamesHintCollision p H G pk (representative H pk.tr input) first second

-- making, deriving and preparing keys fail at a sampler's limit alone; signing also where its input breaks a condition or no attempt passes
pub record RefusesOnly (p : ParameterSet) (H G : XOF) : Type 0 where
  pub pairs : (xi : Bytes) → OnlySamplingLimit (generated p H G xi)
  pub derived_keys : (sk : PrivateParts) → OnlySamplingLimit (derived p G sk)
  pub private_keys : (sk : PrivateParts) → OnlySamplingLimit (prepared_private p G sk)
  pub public_keys : (pk : PublicParts) → OnlySamplingLimit (prepared_public p G pk)
  pub inputs : (sk : PrivateParts) (rnd : Bytes) (input : Input)
      → IfErr (sign_input p H G sk rnd input) (λ fault. (input_fault input ≡ Some fault) ⊎ ((fault ≡ SamplingLimit) ⊎ (fault ≡ TooManyAttempts)))
