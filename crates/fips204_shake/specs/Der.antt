-- DER (X.690), as far as keys need it: an element is its tag, the length of its contents, and these.
use Rattle.std.specs.Prelude.{ℕ, ◌+◌, ◌*◌, ◌/◌, ◌%◌, nat_lt, if◌then◌else◌, List, [], ◌∷◌, ◌++◌, length}
use Rattle.std.specs.List.{flat_map}

-- a length (8.1.3, 10.1): one byte below 128; from there on the fewest bytes that it takes, the high one first, behind 128 and their
-- number. Nothing here is as long as 65536 bytes.
abbrev pub length_bytes : ℕ → List ℕ
length_bytes n =
    if nat_lt n 128 then n ∷ []
    else if nat_lt n 256 then 129 ∷ n ∷ []
    else 130 ∷ n / 256 ∷ n % 256 ∷ []

abbrev pub element : ℕ → List ℕ → List ℕ
element tag contents = tag ∷ (length_bytes (length contents) ++ contents)

-- the tags of X.680, 8.4; a SEQUENCE is constructed, which adds 32
abbrev pub integer_tag : ℕ
integer_tag = 2

abbrev pub bit_string_tag : ℕ
bit_string_tag = 3

abbrev pub octet_string_tag : ℕ
octet_string_tag = 4

abbrev pub object_identifier_tag : ℕ
object_identifier_tag = 6

abbrev pub sequence_tag : ℕ
sequence_tag = 48

-- an IMPLICIT tag [0] of a string: of the class of the context, which adds 128
abbrev pub context_tag_0 : ℕ
context_tag_0 = 128

abbrev pub sequence : List ℕ → List ℕ
sequence elements = element sequence_tag elements

abbrev pub octet_string : List ℕ → List ℕ
octet_string bytes = element octet_string_tag bytes

-- a BIT STRING of whole bytes: no bit of the last one is unused
abbrev pub bit_string : List ℕ → List ℕ
bit_string bytes = element bit_string_tag (0 ∷ bytes)

-- an INTEGER below 128
abbrev pub small_integer : ℕ → List ℕ
small_integer n = element integer_tag (n ∷ [])

-- an arc of an object identifier, below 16384 (8.19.2): seven bits a byte, and 128 on all but the last
abbrev pub arc : ℕ → List ℕ
arc n = if nat_lt n 128 then n ∷ [] else (128 + n / 128) ∷ n % 128 ∷ []

-- an object identifier by its arcs, of which the first two share a number (8.19.4)
abbrev pub object_identifier : ℕ → ℕ → List ℕ → List ℕ
object_identifier first second arcs = element object_identifier_tag (arc (40 * first + second) ++ flat_map arc arcs)
