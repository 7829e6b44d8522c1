-- What the exported calls on keys in PEM return (RFC 7468): what those on keys in DER return of the bytes that the text spells. A last
-- status is the result.
use Rattle.std.specs.Prelude.{ℕ, List, MatchResult}
use Rattle.fips204.specs.declared.sets.SetName.{SetName}
use Rattle.fips204_shake.specs.Keys.{public_length, private_length}
use Rattle.fips204_shake.specs.PemReading.{pem_at}
use Rattle.fips204_shake.specs.declared.pem.Kind.{Kind}
use Rattle.fips204_shake.specs.declared.pem.Kind.TheVariants.{Public, Private}
use Rattle.mldsa_c.specs.Calls.{IfSized}
use Rattle.mldsa_c.specs.Der.{PublicKeyFromDer, PrivateKeyFromDer, SeedFromDer}
use Rattle.mldsa_c.specs.Numbers.{status_of_pem}
use Rattle.mldsa_c.specs.Pieces.{Keeps}

-- the longest files of a kind, those of ML-DSA-87: of a public key, and of a private one with its seed and its expanded key
abbrev pub longest_file : Kind → ℕ
longest_file Public = 2614
longest_file Private = 4962

-- the bytes that a text of this kind spells are read, or the call returns the first fault from the beginning of the text
abbrev pub IfSpelled : Kind → List ℕ → (List ℕ → Type 0) → (ℕ → Type 0) → Type 0
IfSpelled kind text reads refuses = MatchResult (pem_at (longest_file kind) kind text) reads (λ fault. refuses (status_of_pem fault))

-- public_key_from_pem
abbrev pub PublicKeyFromPem : SetName → List ℕ → List ℕ → List ℕ → ℕ → Type 0
PublicKeyFromPem set text old new status =
    IfSized (public_length set) old (IfSpelled Public text (λ der. PublicKeyFromDer set der old new status) (Keeps old new status)) (Keeps old new status 3)

-- private_key_from_pem
abbrev pub PrivateKeyFromPem : SetName → List ℕ → List ℕ → List ℕ → ℕ → Type 0
PrivateKeyFromPem set text old new status =
    IfSized (private_length set) old (IfSpelled Private text (λ der. PrivateKeyFromDer set der old new status) (Keeps old new status)) (Keeps old new status 3)

-- seed_from_pem
abbrev pub SeedFromPem : SetName → List ℕ → List ℕ → List ℕ → ℕ → Type 0
SeedFromPem set text old new status =
    IfSized 32 old (IfSpelled Private text (λ der. SeedFromDer set der old new status) (Keeps old new status)) (Keeps old new status 3)
