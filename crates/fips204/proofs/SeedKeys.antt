-- What the keys of a seed sign is accepted, and what a consistent private key signs.
use Rattle.std.proofs.Common.{◌≡◌, ◌≤◌, ℕ, List, sym, ◌∙◌, length, Result, Ok, Err, rules, IfOk, MatchResult}
use Rattle.fips204.proofs.Names.{PublicParts, PrivateParts, ArePrivateParts, IsPublicKeyOf, public_key_bytes, private_key_bytes, Fault, ParameterSet, IsSet, DecodesPrivate, IsWhole, Input, generated, derived, sign_input, VerifiesInput, AcceptedIfWholePlain, SignedIsAccepted, DecodesAlone}
use Rattle.fips204.proofs.WholeKeys.{generated_pair, generated_parts, accepts_signed, pair_of_whole, public_alone, private_alone}

pub signed_is_accepted : SignedIsAccepted
signed_is_accepted p H G pk sk row law = (
  λ parts whole derives. (accepts_signed p H G pk sk row law parts whole derives, pair_of_whole p H G pk sk row parts whole derives),
  λ xi made. generated_pair p H G xi pk sk row law made,
)

-- what signing an input gives for both keys of a seed is accepted
pub seed_accepts : (p : ParameterSet) (H G : List ℕ → List ℕ) (xi rnd signature : List ℕ) (input : Input) (pk : PublicParts) (sk : PrivateParts) → IsSet p → ((x : List ℕ) → 4096 ≤ length (H x))
    → generated p H G xi ≡ Ok (pk, sk) → sign_input p H G sk rnd input ≡ Ok signature → VerifiesInput p H G pk signature input
seed_accepts p H G xi rnd signature input pk sk row law from made = ((signed_is_accepted p H G pk sk row law).1 xi from).1 rnd signature input made

-- ---- what generating returns

pub generated_pairs : (p : ParameterSet) (H G : List ℕ → List ℕ) (xi : List ℕ) (answer : Result (PublicParts × PrivateParts) Fault) → IsSet p
    → ((x : List ℕ) → 4096 ≤ length (H x)) → answer ≡ generated p H G xi → IfOk answer (λ keys. IsWhole p G keys.1 × (derived p G keys.1 ≡ Ok keys.0))
generated_pairs p H G xi (Err fault) row law made = search rules
generated_pairs p H G xi (Ok keys) row law made =
    let are = generated_parts p H G xi keys.0 keys.1 row law (sym made) in
    (are.consistent, are.belongs)

pub generated_decode : (p : ParameterSet) (H G : List ℕ → List ℕ) (xi : List ℕ) (answer : Result (PublicParts × PrivateParts) Fault) → IsSet p
    → ((x : List ℕ) → 4096 ≤ length (H x)) → answer ≡ generated p H G xi
    → IfOk answer (λ keys. DecodesAlone (λ bytes (read : Result PublicParts Fault). MatchResult read (λ key. IsPublicKeyOf H p.k bytes key) (λ _. ⊥)) (public_key_bytes keys.0.rho keys.0.t1) keys.0
    × DecodesAlone (DecodesPrivate p.eta p.k p.l) (private_key_bytes p.eta keys.1) keys.1)
generated_decode p H G xi (Err fault) row law made = search rules
generated_decode p H G xi (Ok keys) row law made =
    let are = generated_parts p H G xi keys.0 keys.1 row law (sym made) in
    (public_alone p H G keys.0 keys.1 are, private_alone p H G keys.0 keys.1 row are)

-- What signing an input returns with a private key in range is accepted where the key is consistent.

pub input_accepted : (p : ParameterSet) (H G : List ℕ → List ℕ) (K L : ℕ) (sk : PrivateParts) (rnd : List ℕ) (input : Input) (answer : Result (List ℕ) Fault) → IsSet p
    → ((x : List ℕ) → 4096 ≤ length (H x)) → K ≡ p.k → L ≡ p.l → ArePrivateParts p.eta K L sk → answer ≡ sign_input p H G sk rnd input → AcceptedIfWholePlain p H G sk input answer
input_accepted p H G K L sk rnd input answer row law rows columns parts same =
    λ pk signature whole derives e. accepts_signed p H G pk sk row law (rw (rows, columns) at parts) whole derives rnd signature input (sym same ∙ e)
