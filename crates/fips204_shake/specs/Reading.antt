-- Reading an element or a key from left to right: its value, or the first fault.
use Rattle.std.specs.Prelude.{◌≡◌, ℕ, ◌+◌, ◌*◌, List, [], ◌∷◌, length, take, drop, Result, Ok, Err, nat_lt, ◌==◌, if◌then◌else◌}
use Rattle.std.specs.Str.{bytes_eq}
use Rattle.fips204_shake.specs.Der.{length_bytes, integer_tag, bit_string_tag, octet_string_tag, sequence_tag, context_tag_0}
use Rattle.fips204_shake.specs.Keys.{FileParts, Seed, Expanded, Both, identifier, public_length, seed_length, private_length}
use Rattle.fips204.specs.declared.sets.SetName.{SetName}
use Rattle.fips204.specs.declared.sets.SetName.TheVariants.{MlDsa44, MlDsa65, MlDsa87}
use Rattle.fips204_shake.specs.declared.der.fault.DerFault.{DerFault}
use Rattle.fips204_shake.specs.declared.der.fault.DerFault.TheVariants.{Short, Behind, Element, Version, OtherAlgorithm, KeyLength}

infixl 10 ◌>>=◌
abbrev pub ◌>>=◌ : {A B E : Type 0} → Result A E → (A → Result B E) → Result B E
(Ok x) >>= f = f x
(Err fault) >>= f = Err fault

-- what a function returned, seen by view, is what reading gives
abbrev pub Gives : {X Y E : Type 0} → (X → Y) → Result X E → Result Y E → Type 0
Gives view (Ok x) read = read ≡ Ok (view x)
Gives view (Err fault) read = read ≡ Err fault

-- a length that these bytes are to spell in its one form, and the bytes after it
abbrev pub spelled_at : ℕ → List ℕ → List ℕ → Result (ℕ × List ℕ) DerFault
spelled_at n spelling rest = if bytes_eq (length_bytes n) spelling then Ok (n, rest) else Err Element

-- a length of one byte or of two behind its first
abbrev pub one_byte_at : List ℕ → Result (ℕ × List ℕ) DerFault
one_byte_at [] = Err Short
one_byte_at (size ∷ rest) = spelled_at size (129 ∷ size ∷ []) rest

abbrev pub two_bytes_at : List ℕ → Result (ℕ × List ℕ) DerFault
two_bytes_at [] = Err Short
two_bytes_at (high ∷ []) = Err Short
two_bytes_at (high ∷ low ∷ rest) = spelled_at (256 * high + low) (130 ∷ high ∷ low ∷ []) rest

-- a length, and the bytes after it
unfoldable pub length_at : List ℕ → Result (ℕ × List ℕ) DerFault
length_at [] = Err Short
length_at (size ∷ rest) =
    if nat_lt size 128 then Ok (size, rest)
    else if size == 129 then one_byte_at rest
    else if size == 130 then two_bytes_at rest
    else Err Element

-- that many bytes, and the others
abbrev pub contents_at : ℕ → List ℕ → Result (List ℕ × List ℕ) DerFault
contents_at size bytes = if nat_lt (length bytes) size then Err Short else Ok (take size bytes, drop size bytes)

-- the bytes after a tag
abbrev pub tagged_at : ℕ → List ℕ → Result (List ℕ) DerFault
tagged_at tag [] = Err Short
tagged_at tag (first ∷ rest) = if first == tag then Ok rest else Err Element

-- the contents of an element with this tag, and the bytes after it
unfoldable pub element_at : ℕ → List ℕ → Result (List ℕ × List ℕ) DerFault
element_at tag bytes = do
  tagged ← tagged_at tag bytes
  size ← length_at tagged
  contents_at size.0 size.1

-- the same, where nothing may follow
unfoldable pub whole_at : ℕ → List ℕ → Result (List ℕ) DerFault
whole_at tag bytes = do
  found ← element_at tag bytes
  if length found.1 == 0 then Ok found.0 else Err Behind

-- bytes of a wanted length
abbrev pub sized_at : ℕ → List ℕ → Result (List ℕ) DerFault
sized_at wanted bytes = if length bytes == wanted then Ok bytes else Err KeyLength

-- the contents of an element with this tag, where they are to be so many and nothing may follow
unfoldable pub string_at : ℕ → ℕ → List ℕ → Result (List ℕ) DerFault
string_at tag size bytes = whole_at tag bytes >>= sized_at size

-- the contents of an AlgorithmIdentifier
unfoldable pub algorithm_of : List ℕ → Result SetName DerFault
algorithm_of contents =
    if bytes_eq contents (identifier MlDsa44) then Ok MlDsa44
    else if bytes_eq contents (identifier MlDsa65) then Ok MlDsa65
    else if bytes_eq contents (identifier MlDsa87) then Ok MlDsa87
    else Err OtherAlgorithm

-- an AlgorithmIdentifier, and the bytes after it
unfoldable pub algorithm_at : List ℕ → Result (SetName × List ℕ) DerFault
algorithm_at bytes = do
  found ← element_at sequence_tag bytes
  algorithm ← algorithm_of found.0
  Ok (algorithm, found.1)

-- the bytes of a BIT STRING without unused bits
unfoldable pub whole_bytes_of : List ℕ → Result (List ℕ) DerFault
whole_bytes_of [] = Err Element
whole_bytes_of (unused ∷ bytes) = if unused == 0 then Ok bytes else Err Element

unfoldable pub public_at : List ℕ → Result (SetName × List ℕ) DerFault
public_at der = do
  info ← whole_at sequence_tag der
  algorithm ← algorithm_at info
  bits ← whole_at bit_string_tag algorithm.1
  bytes ← whole_bytes_of bits
  sized ← sized_at (public_length algorithm.0) bytes
  Ok (algorithm.0, sized)

-- the three forms of a private key, by their tags
unfoldable pub both_at : SetName → List ℕ → Result FileParts DerFault
both_at algorithm bytes = do
  contents ← whole_at sequence_tag bytes
  first ← element_at octet_string_tag contents
  seed ← sized_at seed_length first.0
  expanded ← string_at octet_string_tag (private_length algorithm) first.1
  Ok (Both seed expanded)

unfoldable pub choice_at : SetName → List ℕ → Result FileParts DerFault
choice_at algorithm [] = Err Short
choice_at algorithm (tag ∷ rest) =
    if tag == context_tag_0 then string_at context_tag_0 seed_length (tag ∷ rest) >>= (λ seed. Ok (Seed seed))
    else if tag == octet_string_tag then string_at octet_string_tag (private_length algorithm) (tag ∷ rest) >>= (λ expanded. Ok (Expanded expanded))
    else both_at algorithm (tag ∷ rest)

-- the version of a OneAsymmetricKey, and the bytes after it
unfoldable pub version_at : List ℕ → Result (List ℕ) DerFault
version_at bytes = do
  version ← element_at integer_tag bytes
  if bytes_eq version.0 (0 ∷ []) then Ok version.1 else Err Version

unfoldable pub private_at : List ℕ → Result (SetName × FileParts) DerFault
private_at der = do
  info ← whole_at sequence_tag der
  rest ← version_at info
  algorithm ← algorithm_at rest
  contents ← whole_at octet_string_tag algorithm.1
  parts ← choice_at algorithm.0 contents
  Ok (algorithm.0, parts)
