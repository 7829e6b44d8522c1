-- The files of keys, in DER (RFC 9881).
use Rattle.std.specs.Prelude.{◌≡◌, ℕ, ◌+◌, List, [], ◌∷◌, ◌++◌, length}
use Rattle.fips204.specs.ParameterSets.{public_key_length, private_key_length}
use Rattle.fips204.specs.Sets.{named_set}
use Rattle.fips204_shake.specs.Der.{sequence, octet_string, bit_string, small_integer, object_identifier, element, context_tag_0}
use Rattle.fips204.specs.declared.sets.SetName.{SetName}
use Rattle.fips204.specs.declared.sets.SetName.TheVariants.{MlDsa44, MlDsa65, MlDsa87}
use Rattle.fips204_shake.specs.declared.der.keys.PrivateKey.{PrivateKey}
use Rattle.fips204_shake.specs.declared.der.keys.PrivateKey.TheVariants as key

-- id-ml-dsa-44, id-ml-dsa-65 and id-ml-dsa-87 end in these arcs
abbrev pub last_arc : SetName → ℕ
last_arc MlDsa44 = 17
last_arc MlDsa65 = 18
last_arc MlDsa87 = 19

-- joint-iso-itu-t(2) country(16) us(840) organization(1) gov(101) csor(3) nistAlgorithm(4) sigAlgs(3)
abbrev pub identifier : SetName → List ℕ
identifier algorithm = object_identifier 2 16 (840 ∷ 1 ∷ 101 ∷ 3 ∷ 4 ∷ 3 ∷ last_arc algorithm ∷ [])

-- AlgorithmIdentifier ::= SEQUENCE { algorithm OBJECT IDENTIFIER }, whose parameters are absent
abbrev pub algorithm_identifier : SetName → List ℕ
algorithm_identifier algorithm = sequence (identifier algorithm)

-- the bytes of a public key, of a seed and of an expanded private key (FIPS 204, Table 2)
abbrev pub public_length : SetName → ℕ
public_length algorithm = public_key_length (named_set algorithm)

abbrev pub seed_length : ℕ
seed_length = 32

abbrev pub private_length : SetName → ℕ
private_length algorithm = private_key_length (named_set algorithm)

-- SubjectPublicKeyInfo ::= SEQUENCE { algorithm AlgorithmIdentifier, subjectPublicKey BIT STRING }
unfoldable pub subject_public_key_info : SetName → List ℕ → List ℕ
subject_public_key_info algorithm bytes = sequence (algorithm_identifier algorithm ++ bit_string bytes)

-- the bytes of its file
abbrev pub public_file_length : SetName → ℕ
public_file_length algorithm = public_length algorithm + 22

-- a private key without where it lies in memory
pub data FileParts : Type 0 where
  Seed : List ℕ → FileParts
  Expanded : List ℕ → FileParts
  Both : List ℕ → List ℕ → FileParts

abbrev pub file_parts : PrivateKey → FileParts
file_parts (key.Seed seed) = Seed seed.now
file_parts (key.Expanded expanded) = Expanded expanded.now
file_parts (key.Both seed expanded) = Both seed.now expanded.now

-- ML-DSA-PrivateKey ::= CHOICE { seed [0] IMPLICIT OCTET STRING, expandedKey OCTET STRING,
--   both SEQUENCE { seed OCTET STRING, expandedKey OCTET STRING } }
unfoldable pub private_choice : FileParts → List ℕ
private_choice (Seed seed) = element context_tag_0 seed
private_choice (Expanded expanded) = octet_string expanded
private_choice (Both seed expanded) = sequence (octet_string seed ++ octet_string expanded)

-- the sizes of its strings; the expanded key has so many bytes
abbrev pub HasPrivateSizes : ℕ → FileParts → Type 0
HasPrivateSizes size (Seed seed) = length seed ≡ seed_length
HasPrivateSizes size (Expanded expanded) = length expanded ≡ size
HasPrivateSizes size (Both seed expanded) = (length seed ≡ seed_length) × (length expanded ≡ size)

-- OneAsymmetricKey ::= SEQUENCE { version INTEGER, privateKeyAlgorithm AlgorithmIdentifier, privateKey OCTET STRING }, of version 0
unfoldable pub one_asymmetric_key : SetName → FileParts → List ℕ
one_asymmetric_key algorithm parts =
    sequence (small_integer 0 ++ (algorithm_identifier algorithm ++ octet_string (private_choice parts)))

-- the bytes of its file
abbrev pub private_file_length : ℕ → FileParts → ℕ
private_file_length size (Seed seed) = 54
private_file_length size (Expanded expanded) = size + 28
private_file_length size (Both seed expanded) = size + 66

-- the bytes are the file of this public key
pub record IsPublicFile (der : List ℕ) (algorithm : SetName) (bytes : List ℕ) : Type 0 where
  pub size : length bytes ≡ public_length algorithm
  pub is : der ≡ subject_public_key_info algorithm bytes

-- the bytes are the file of this private key
pub record IsPrivateFile (der : List ℕ) (algorithm : SetName) (parts : FileParts) : Type 0 where
  pub sizes : HasPrivateSizes (private_length algorithm) parts
  pub is : der ≡ one_asymmetric_key algorithm parts
