-- A key that is read is the key that the file has, and the key of a file is read.
use Rattle.std.proofs.Common.{◌≡◌, ℕ, ◌+◌, ◌<◌, ◌≤◌, eqb, inl, inr, List, [], ◌∷◌, ◌++◌, length, Ok, refl, ap, subst, ◌∙◌, arith}
use Rattle.std.specs.Str.{bytes_eq}
use Rattle.std.proofs.lemmas.Bool.{eqb-true}
use Rattle.std.proofs.lemmas.Bool.Decides.{nat_tests}
use Rattle.std.proofs.lemmas.List.{length-append}
use Rattle.fips204.specs.declared.sets.SetName.{SetName}
use Rattle.fips204.specs.declared.sets.SetName.TheVariants.{MlDsa44, MlDsa65, MlDsa87}
use Rattle.fips204.specs.Packing.{bit_length}
use Rattle.fips204_shake.specs.declared.der.fault.DerFault.TheVariants.{Element, Version, KeyLength}
use Rattle.fips204_shake.specs.Der.{element, length_bytes, octet_string, bit_string, small_integer, integer_tag, bit_string_tag, octet_string_tag, sequence_tag, context_tag_0}
use Rattle.fips204_shake.specs.Keys.{identifier, algorithm_identifier, public_length, seed_length, private_length, subject_public_key_info, FileParts, Seed, Expanded, Both, private_choice, HasPrivateSizes, one_asymmetric_key, IsPublicFile, IsPrivateFile}
use Rattle.fips204_shake.specs.Reading.{sized_at, algorithm_of, algorithm_at, whole_bytes_of, public_at, string_at, both_at, choice_at, version_at, private_at}
use Rattle.fips204_shake.proofs.Elements.{bind_ok, chosen, ok_is, met, same_bytes, element_found, element_again, whole_found, whole_again}

-- ---- sizes

length_of_length : (n : ℕ) → length (length_bytes n) ≤ 3
length_of_length n = grind (arith, nat_tests)

pub length_of_element : (tag : ℕ) (contents : List ℕ) → length (element tag contents) ≤ length contents + 4
length_of_element tag contents = omega (arith, length-append (length_bytes (length contents)) contents, length_of_length (length contents))

length_of_two : (one other : ℕ) (first second : List ℕ) → length (element one first ++ element other second) ≤ length first + (length second + 8)
length_of_two one other first second =
    omega (arith, length_of_element one first, length_of_element other second, length-append (element one first) (element other second))

sized_found : (wanted : ℕ) (bytes sized : List ℕ) → sized_at wanted bytes ≡ Ok sized → (bytes ≡ sized) × (length bytes ≡ wanted)
sized_found wanted bytes sized e =
    let m = met (eqb (length bytes) wanted) KeyLength bytes sized e in (m.1, eqb-true _ _ m.0)

sized_again : (wanted : ℕ) (bytes : List ℕ) → length bytes ≡ wanted → sized_at wanted bytes ≡ Ok bytes
sized_again wanted bytes e = grind (arith, nat_tests)

-- ---- algorithms

algorithm_of_found : (contents : List ℕ) (algorithm : SetName) → algorithm_of contents ≡ Ok algorithm → contents ≡ identifier algorithm
unfolding algorithm_of
algorithm_of_found contents algorithm e =
    elim (chosen (bytes_eq contents (identifier MlDsa44)) _ _ _ e) [
      | inl is ↦ same_bytes _ _ is.0 ∙ ap identifier (ok_is _ algorithm is.1)
      | inr other ↦
          elim (chosen (bytes_eq contents (identifier MlDsa65)) _ _ _ other.1) [
            | inl is ↦ same_bytes _ _ is.0 ∙ ap identifier (ok_is _ algorithm is.1)
            | inr third ↦ let m = met _ _ _ algorithm third.1 in same_bytes _ _ m.0 ∙ ap identifier m.1
          ]
    ]

algorithm_of_again : (algorithm : SetName) → algorithm_of (identifier algorithm) ≡ Ok algorithm
unfolding algorithm_of
algorithm_of_again algorithm = grind arith

algorithm_found : (bytes : List ℕ) (x : SetName × List ℕ) → algorithm_at bytes ≡ Ok x → bytes ≡ algorithm_identifier x.0 ++ x.1
unfolding algorithm_at
algorithm_found bytes x e =
    let a = bind_ok _ _ x e in
    let b = bind_ok _ _ x a.2 in
    element_found sequence_tag bytes a.0 a.1 ∙ ap (λ (z : List ℕ). element sequence_tag z ++ a.0.1) (algorithm_of_found a.0.0 b.0 b.1)
    ∙ ap (λ (y : SetName × List ℕ). algorithm_identifier y.0 ++ y.1) (ok_is (b.0, a.0.1) x b.2)

identifier_small : (algorithm : SetName) → length (identifier algorithm) ≡ 11
identifier_small algorithm = grind arith

algorithm_again : (algorithm : SetName) (rest : List ℕ) → algorithm_at (algorithm_identifier algorithm ++ rest) ≡ Ok (algorithm, rest)
unfolding algorithm_at
algorithm_again algorithm rest =
    rw (element_again sequence_tag (identifier algorithm) rest (omega (arith, identifier_small algorithm)), algorithm_of_again algorithm) refl

-- ---- public keys

whole_bytes_found : (contents bytes : List ℕ) → whole_bytes_of contents ≡ Ok bytes → contents ≡ 0 ∷ bytes
unfolding whole_bytes_of
whole_bytes_found [] bytes e = absurd cc
whole_bytes_found (unused ∷ rest) bytes e =
    let m = met (eqb unused 0) Element rest bytes e in
    let none : unused ≡ 0 = eqb-true _ _ m.0 in
    ap (λ (k : ℕ). k ∷ rest) none ∙ ap (λ (z : List ℕ). 0 ∷ z) m.1

pub public_found : (der : List ℕ) (x : SetName × List ℕ) → public_at der ≡ Ok x → IsPublicFile der x.0 x.1
unfolding public_at subject_public_key_info
public_found der x e =
    let a = bind_ok _ _ x e in
    let b = bind_ok _ _ x a.2 in
    let c = bind_ok _ _ x b.2 in
    let d = bind_ok _ _ x c.2 in
    let f = bind_ok _ _ x d.2 in
    let info = whole_found sequence_tag der a.0 a.1 in
    let algorithm = algorithm_found a.0 b.0 b.1 in
    let bits = whole_found bit_string_tag b.0.1 c.0 c.1 in
    let bytes : c.0 ≡ 0 ∷ d.0 = whole_bytes_found c.0 d.0 d.1 in
    let sized = sized_found (public_length b.0.0) d.0 f.0 f.1 in
    let here : IsPublicFile der b.0.0 d.0 =
    record {
      size = sized.1;
      is = info ∙ ap (λ (z : List ℕ). element sequence_tag z) (algorithm
          ∙ ap (λ (z : List ℕ). algorithm_identifier b.0.0 ++ z) (bits ∙ ap (λ (z : List ℕ). element bit_string_tag z) bytes));
    } in
    subst (λ (y : SetName × List ℕ). IsPublicFile der y.0 y.1) (ok_is (b.0.0, f.0) x f.2) (subst (λ (y : List ℕ). IsPublicFile der b.0.0 y) sized.0 here)

pub public_small : (algorithm : SetName) → public_length algorithm ≤ 4896
public_small algorithm = grind arith

pub public_info_small : (algorithm : SetName) (bytes : List ℕ) → length bytes ≡ public_length algorithm
    → length (algorithm_identifier algorithm ++ bit_string bytes) < 65536
public_info_small algorithm bytes size =
    omega (arith, public_small algorithm, identifier_small algorithm, length_of_two sequence_tag bit_string_tag (identifier algorithm) (0 ∷ bytes))

pub public_again : (algorithm : SetName) (bytes : List ℕ) → length bytes ≡ public_length algorithm
    → public_at (subject_public_key_info algorithm bytes) ≡ Ok (algorithm, bytes)
unfolding public_at subject_public_key_info whole_bytes_of
public_again algorithm bytes size =
    let inner : length (0 ∷ bytes) < 65536 = omega (arith, public_small algorithm) in
    rw (
      whole_again sequence_tag (algorithm_identifier algorithm ++ bit_string bytes) (public_info_small algorithm bytes size),
      algorithm_again algorithm (bit_string bytes),
      whole_again bit_string_tag (0 ∷ bytes) inner,
      sized_again (public_length algorithm) bytes size,
    ) refl

-- ---- private keys

pub record IsChoice (bytes : List ℕ) (algorithm : SetName) (parts : FileParts) : Type 0 where
  pub sizes : HasPrivateSizes (private_length algorithm) parts
  pub is : bytes ≡ private_choice parts

string_found : (tag size : ℕ) (bytes string : List ℕ) → string_at tag size bytes ≡ Ok string
    → (length string ≡ size) × (bytes ≡ element tag string)
unfolding string_at
string_found tag size bytes string e =
    let a = bind_ok _ _ string e in
    let sized = sized_found size a.0 string a.2 in
    subst (λ (z : List ℕ). (length z ≡ size) × (bytes ≡ element tag z)) sized.0 (sized.1, whole_found tag bytes a.0 a.1)

string_again : (tag size : ℕ) (string : List ℕ) → length string ≡ size → size < 65536 → string_at tag size (element tag string) ≡ Ok string
unfolding string_at
string_again tag size string is small = rw (whole_again tag string (omega arith), sized_again size string is) refl

both_found : (algorithm : SetName) (bytes : List ℕ) (parts : FileParts) → both_at algorithm bytes ≡ Ok parts
    → IsChoice bytes algorithm parts
unfolding both_at private_choice
both_found algorithm bytes parts e =
    let a = bind_ok _ _ parts e in
    let b = bind_ok _ _ parts a.2 in
    let c = bind_ok _ _ parts b.2 in
    let d = bind_ok _ _ parts c.2 in
    let whole = whole_found sequence_tag bytes a.0 a.1 in
    let first = element_found octet_string_tag a.0 b.0 b.1 in
    let seed = sized_found seed_length b.0.0 c.0 c.1 in
    let expanded = string_found octet_string_tag (private_length algorithm) b.0.1 d.0 d.1 in
    let here : IsChoice bytes algorithm (Both b.0.0 d.0) =
    record {
      sizes = (seed.1, expanded.0);
      is = whole ∙ ap (λ (z : List ℕ). element sequence_tag z) (first ∙ ap (λ (z : List ℕ). octet_string b.0.0 ++ z) expanded.1);
    } in
    subst (IsChoice bytes algorithm) (ap (λ (z : List ℕ). Both z d.0) seed.0 ∙ ok_is (Both c.0 d.0) parts d.2) here

choice_found : (algorithm : SetName) (bytes : List ℕ) (parts : FileParts) → choice_at algorithm bytes ≡ Ok parts
    → IsChoice bytes algorithm parts
unfolding choice_at private_choice
choice_found algorithm [] parts e = absurd cc
choice_found algorithm (tag ∷ rest) parts e =
    elim (chosen (eqb tag context_tag_0) _ _ _ e) [
      | inl is ↦
          let a = bind_ok _ _ parts is.1 in
          let s = string_found context_tag_0 seed_length (tag ∷ rest) a.0 a.1 in
          subst (IsChoice (tag ∷ rest) algorithm) (ok_is (Seed a.0) parts a.2) (record { sizes = s.0; is = s.1 })
      | inr other ↦
          elim (chosen (eqb tag octet_string_tag) _ _ _ other.1) [
            | inl is ↦
                let a = bind_ok _ _ parts is.1 in
                let s = string_found octet_string_tag (private_length algorithm) (tag ∷ rest) a.0 a.1 in
                subst (IsChoice (tag ∷ rest) algorithm) (ok_is (Expanded a.0) parts a.2) (record { sizes = s.0; is = s.1 })
            | inr is ↦ both_found algorithm (tag ∷ rest) parts is.1
          ]
    ]

version_found : (bytes rest : List ℕ) → version_at bytes ≡ Ok rest → bytes ≡ small_integer 0 ++ rest
unfolding version_at
version_found bytes rest e =
    let a = bind_ok _ _ rest e in
    let m = met (bytes_eq a.0.0 (0 ∷ [])) Version a.0.1 rest a.2 in
    element_found integer_tag bytes a.0 a.1 ∙ ap (λ (z : List ℕ). element integer_tag z ++ a.0.1) (same_bytes a.0.0 (0 ∷ []) m.0)
    ∙ ap (λ (z : List ℕ). small_integer 0 ++ z) m.1

pub private_found : (der : List ℕ) (x : SetName × FileParts) → private_at der ≡ Ok x → IsPrivateFile der x.0 x.1
unfolding private_at one_asymmetric_key
private_found der x e =
    let a = bind_ok _ _ x e in
    let b = bind_ok _ _ x a.2 in
    let c = bind_ok _ _ x b.2 in
    let d = bind_ok _ _ x c.2 in
    let f = bind_ok _ _ x d.2 in
    let info = whole_found sequence_tag der a.0 a.1 in
    let version = version_found a.0 b.0 b.1 in
    let algorithm = algorithm_found b.0 c.0 c.1 in
    let contents = whole_found octet_string_tag c.0.1 d.0 d.1 in
    let choice = choice_found c.0.0 d.0 f.0 f.1 in
    let here : IsPrivateFile der c.0.0 f.0 =
    record {
      sizes = choice.sizes;
      is = info ∙ ap (λ (z : List ℕ). element sequence_tag z) (version
          ∙ ap (λ (z : List ℕ). small_integer 0 ++ z) (algorithm
          ∙ ap (λ (z : List ℕ). algorithm_identifier c.0.0 ++ z) (contents
          ∙ ap (λ (z : List ℕ). octet_string z) choice.is)));
    } in
    subst (λ (y : SetName × FileParts). IsPrivateFile der y.0 y.1) (ok_is (c.0.0, f.0) x f.2) here

pub private_small : (algorithm : SetName) → private_length algorithm ≤ 4896
unfolding bit_length
private_small MlDsa44 = omega arith
private_small MlDsa65 = omega arith
private_small MlDsa87 = omega arith

pub private_long : (algorithm : SetName) → 256 ≤ private_length algorithm
unfolding bit_length
private_long MlDsa44 = omega arith
private_long MlDsa65 = omega arith
private_long MlDsa87 = omega arith

pub both_small : (algorithm : SetName) (seed expanded : List ℕ) → length seed ≡ seed_length → length expanded ≡ private_length algorithm
    → length (octet_string seed ++ octet_string expanded) < 64000
both_small algorithm seed expanded first second =
    omega (arith, private_small algorithm, length_of_two octet_string_tag octet_string_tag seed expanded)

pub choice_small : (algorithm : SetName) (parts : FileParts) → HasPrivateSizes (private_length algorithm) parts → length (private_choice parts) < 65000
unfolding private_choice
choice_small algorithm (Seed seed) sizes = omega (arith, length_of_element context_tag_0 seed)
choice_small algorithm (Expanded expanded) sizes = omega (arith, length_of_element octet_string_tag expanded, private_small algorithm)
choice_small algorithm (Both seed expanded) sizes =
    omega (arith, both_small algorithm seed expanded sizes.0 sizes.1, length_of_element sequence_tag (octet_string seed ++ octet_string expanded))

choice_again : (algorithm : SetName) (parts : FileParts) → HasPrivateSizes (private_length algorithm) parts → choice_at algorithm (private_choice parts) ≡ Ok parts
unfolding choice_at private_choice both_at
choice_again algorithm (Seed seed) sizes = rw (string_again context_tag_0 seed_length seed sizes (omega arith)) refl
choice_again algorithm (Expanded expanded) sizes =
    rw (string_again octet_string_tag (private_length algorithm) expanded sizes (omega (arith, private_small algorithm))) refl
choice_again algorithm (Both seed expanded) sizes =
    rw (
      whole_again sequence_tag (octet_string seed ++ octet_string expanded) (omega (arith, both_small algorithm seed expanded sizes.0 sizes.1)),
      element_again octet_string_tag seed (octet_string expanded) (omega arith),
      sized_again seed_length seed sizes.0,
      string_again octet_string_tag (private_length algorithm) expanded sizes.1 (omega (arith, private_small algorithm)),
    ) refl

version_again : (rest : List ℕ) → version_at (small_integer 0 ++ rest) ≡ Ok rest
unfolding version_at
version_again rest = rw (element_again integer_tag (0 ∷ []) rest (omega arith)) refl

private_info_small : (algorithm : SetName) (parts : FileParts) → HasPrivateSizes (private_length algorithm) parts
    → length (small_integer 0 ++ (algorithm_identifier algorithm ++ octet_string (private_choice parts))) < 65536
private_info_small algorithm parts sizes =
    omega (
      arith,
      choice_small algorithm parts sizes,
      identifier_small algorithm,
      length_of_two sequence_tag octet_string_tag (identifier algorithm) (private_choice parts),
    )

pub private_again : (algorithm : SetName) (parts : FileParts) → HasPrivateSizes (private_length algorithm) parts
    → private_at (one_asymmetric_key algorithm parts) ≡ Ok (algorithm, parts)
unfolding private_at one_asymmetric_key
private_again algorithm parts sizes =
    let inner : length (private_choice parts) < 65536 = omega (arith, choice_small algorithm parts sizes) in
    rw (
      whole_again sequence_tag (small_integer 0 ++ (algorithm_identifier algorithm ++ octet_string (private_choice parts))) (private_info_small algorithm parts sizes),
      version_again (algorithm_identifier algorithm ++ octet_string (private_choice parts)),
      algorithm_again algorithm (octet_string (private_choice parts)),
      whole_again octet_string_tag (private_choice parts) inner,
      choice_again algorithm parts sizes,
    ) refl

pub public_of_file : (der : List ℕ) (algorithm : SetName) (bytes : List ℕ) → IsPublicFile der algorithm bytes → public_at der ≡ Ok (algorithm, bytes)
public_of_file der algorithm bytes file = ap public_at file.is ∙ public_again algorithm bytes file.size

pub private_of_file : (der : List ℕ) (algorithm : SetName) (parts : FileParts) → IsPrivateFile der algorithm parts → private_at der ≡ Ok (algorithm, parts)
private_of_file der algorithm parts file = ap private_at file.is ∙ private_again algorithm parts file.sizes
