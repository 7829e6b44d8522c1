-- Worked values of the parameter sets, of the order of attempts, of framing, and of the hashes, seeds and hints of whole calls.
use Rattle.std.proofs.Common.{◌≡◌, ◌*◌, ℕ, ℤ, List, [], ◌∷◌, ◌++◌, Option, Result, Ok, Err, refl, true, false, map, length, take, Some, None, pos, negsuc, if◌then◌else◌}
use Rattle.fips204_base.specs.declared.fault.Fault.{Fault}
use Rattle.fips204_base.specs.declared.fault.Fault.TheVariants.{TooManyAttempts, SamplingLimit, SignCtx, HashCtx, OidEmpty, OidNotDer, DigestTooLong, DigestLength}
use Rattle.fips204_base.specs.Encodings.{PublicParts, PrivateParts, is_one}
use Rattle.fips204_base.specs.Sampling.{matrix_entry, sampled_matrix, first_256, all_present, small_polynomial, small_vectors}
use Rattle.fips204_base.specs.Packing.{bit_length, bits_to_bytes, bits, integer_to_bits, bits_to_integer, polynomial_bytes}
use Rattle.fips204_base.specs.Rounding.{decompose, use_hint}
use Rattle.fips204_base.specs.Residues.{sum_below}
use Rattle.fips204_base.specs.Transforms.{product}
use Rattle.fips204_base.specs.Vectors.{matrix_product, polynomial_of, vector_of}
use Rattle.fips204_base.specs.declared.types.R.{R}
use Rattle.fips204.specs.Keys.{key_pair, high_part}
use Rattle.fips204.proofs.Parts.{seed_front, t1_shifted, mask_seed}
use Rattle.fips204.specs.Acceptance.{w1_prime}
use Rattle.fips204.specs.ParameterSets.{ParameterSet, set_44, set_65, set_87, public_key_length, private_key_length, signature_length}
use Rattle.fips204.specs.Rows.{is_parameter_set}
use Rattle.fips204.specs.Signing.{first_answer, commitment_hash, w_minus_cs2, sign, sign_with}
use Rattle.std.specs.Prelude.{◌/◌, ◌^◌, replicate, nat_eq, get_or, option_map}
use Rattle.std.specs.List.{range_with_len, flat_map}
use Rattle.fips204.specs.declared.types.pre_hash.TheConstants.{SHA2_224, SHA2_256, SHA2_384, SHA2_512, SHA2_512_224, SHA2_512_256, SHA3_224, SHA3_256, SHA3_384, SHA3_512, SHAKE_128, SHAKE_256}
use Rattle.fips204.specs.Framing.{plain, hashed, framed, represented, representative, hash_oid, hashes, digest_length, pre_hash_fault}
use Rattle.fips204.specs.Refusals.{generated, input_fault, sign_input, derived}
use Rattle.fips204.specs.Prepared.{public_of_prepared}
use Rattle.fips204.specs.SchemeLaws.{framing}

-- Worked values of the parameter sets, and of the order of attempts.

sets : List ParameterSet
sets = set_44 ∷ set_65 ∷ set_87 ∷ []

-- Table 2: private key, public key, signature
private_key_lengths : map private_key_length sets ≡ 2560 ∷ 4032 ∷ 4896 ∷ []
unfolding sets bit_length
private_key_lengths = refl

public_key_lengths : map public_key_length sets ≡ 1312 ∷ 1952 ∷ 2592 ∷ []
unfolding sets
public_key_lengths = refl

signature_lengths : map signature_length sets ≡ 2420 ∷ 3309 ∷ 4627 ∷ []
unfolding sets bit_length
signature_lengths = refl

-- Table 1: lambda; gamma1 is 2^17 or 2^19, and gamma2 (q - 1) / 88 or (q - 1) / 32
columns_of_sets : map (λ p. p.lambda ∷ p.gamma1 ∷ p.gamma2 ∷ []) sets
    ≡ (128 ∷ 2 ^ 17 ∷ 8380416 / 88 ∷ []) ∷ (192 ∷ 2 ^ 19 ∷ 8380416 / 32 ∷ []) ∷ (256 ∷ 2 ^ 19 ∷ 8380416 / 32 ∷ []) ∷ []
unfolding sets
columns_of_sets = refl

betas : map (λ p. p.tau * p.eta) sets ≡ map (λ p. p.beta) sets
unfolding sets
betas = refl

rows : map is_parameter_set (record set_65 { eta = 2 } ∷ sets) ≡ false ∷ true ∷ true ∷ true ∷ []
unfolding sets
rows = refl

-- the first attempt that isn't rejected decides, also where it is past its limit
first_signed : first_answer (Ok None ∷ Ok None ∷ Ok (Some (1 ∷ [])) ∷ Ok (Some (2 ∷ [])) ∷ []) ≡ Ok (1 ∷ [])
unfolding first_answer
first_signed = refl

first_limit : first_answer (Ok None ∷ Err SamplingLimit ∷ Ok (Some (2 ∷ [])) ∷ []) ≡ Err SamplingLimit
unfolding first_answer
first_limit = refl

none_left : first_answer (Ok None ∷ Ok None ∷ []) ≡ Err TooManyAttempts
unfolding first_answer
none_left = refl

-- Worked values of framing, and of the conditions on a digest.

-- context `ab`, message `c`
framed_message : framing (plain (0x63 ∷ []) (0x61 ∷ 0x62 ∷ [])) ≡ Some (0x00 ∷ 0x02 ∷ 0x61 ∷ 0x62 ∷ 0x63 ∷ [])
framed_message = refl

-- context `ab`, a digest of 32 bytes 07 under SHA2-256: 47 bytes
framed_sha2_256 : framing (hashed (replicate 32 7) (0x61 ∷ 0x62 ∷ []) (hash_oid 1))
    ≡ Some (0x01 ∷ 0x02 ∷ 0x61 ∷ 0x62 ∷ 0x06 ∷ 0x09 ∷ 0x60 ∷ 0x86 ∷ 0x48 ∷ 0x01 ∷ 0x65 ∷ 0x03 ∷ 0x04 ∷ 0x02 ∷ 0x01 ∷ replicate 32 7)
framed_sha2_256 = refl

framed_length : option_map length (framing (hashed (replicate 32 7) (0x61 ∷ 0x62 ∷ []) (hash_oid 1))) ≡ Some 47
framed_length = refl

-- the twelve hashes by last byte, and no other
digest_lengths : map (λ n. digest_length (hash_oid n)) (range_with_len 0 14)
    ≡ None ∷ Some 32 ∷ Some 48 ∷ Some 64 ∷ Some 28 ∷ Some 28 ∷ Some 32 ∷ Some 28 ∷ Some 32 ∷ Some 48 ∷ Some 64 ∷ Some 32 ∷ Some 64 ∷ None ∷ []
unfolding digest_length hashes
digest_lengths = refl

-- the constants of the program, by last byte
oids_by_name : SHA2_256 ∷ SHA2_384 ∷ SHA2_512 ∷ SHA2_224 ∷ SHA2_512_224 ∷ SHA2_512_256 ∷ SHA3_224 ∷ SHA3_256 ∷ SHA3_384 ∷ SHA3_512 ∷ SHAKE_128 ∷ SHAKE_256 ∷ []
    ≡ map hash_oid (range_with_len 1 12)
oids_by_name = refl

-- an empty OID; four that aren't DER, the last cut short
bad_oids : map (pre_hash_fault (replicate 32 0)) ([] ∷ (0xFF ∷ []) ∷ (0x06 ∷ []) ∷ (0x06 ∷ 0x00 ∷ []) ∷ (0x04 ∷ 0x01 ∷ 0x00 ∷ []) ∷ (0x06 ∷ 0x09 ∷ 0x60 ∷ 0x86 ∷ 0x48 ∷ 0x01 ∷ 0x65 ∷ 0x03 ∷ 0x04 ∷ 0x02 ∷ []) ∷ [])
    ≡ Some OidEmpty ∷ Some OidNotDer ∷ Some OidNotDer ∷ Some OidNotDer ∷ Some OidNotDer ∷ Some OidNotDer ∷ []
unfolding pre_hash_fault digest_length hashes
bad_oids = refl

-- the shortest OID and the longest; one byte more, and the second byte no longer is a length
oids_at_the_edges : map (pre_hash_fault []) ((0x06 ∷ 0x01 ∷ 0x00 ∷ []) ∷ (0x06 ∷ 0x7F ∷ replicate 127 1) ∷ (0x06 ∷ 0x80 ∷ replicate 128 1) ∷ []) ≡ None ∷ None ∷ Some OidNotDer ∷ []
unfolding pre_hash_fault digest_length hashes
oids_at_the_edges = refl

-- a second byte that is one less or one more than the number of bytes after it
other_lengths : map (pre_hash_fault []) ((0x06 ∷ 0x02 ∷ 0x2A ∷ 0x03 ∷ 0x04 ∷ []) ∷ (0x06 ∷ 0x03 ∷ 0x2A ∷ 0x03 ∷ 0x04 ∷ []) ∷ (0x06 ∷ 0x04 ∷ 0x2A ∷ 0x03 ∷ 0x04 ∷ []) ∷ []) ≡ Some OidNotDer ∷ None ∷ Some OidNotDer ∷ []
unfolding pre_hash_fault digest_length hashes
other_lengths = refl

-- under SHA2-256 a digest of 1025 bytes is too long before it has another length
digests_of_sha2_256 : map (λ n. pre_hash_fault (replicate n 0) (hash_oid 1)) (0 ∷ 31 ∷ 32 ∷ 33 ∷ 1024 ∷ 1025 ∷ [])
    ≡ Some DigestLength ∷ Some DigestLength ∷ None ∷ Some DigestLength ∷ Some DigestLength ∷ Some DigestTooLong ∷ []
unfolding pre_hash_fault digest_length hashes
digests_of_sha2_256 = refl

-- under another OID a digest has up to 1024 bytes
digests_of_others : map (λ n. pre_hash_fault (replicate n 0) (0x06 ∷ 0x03 ∷ 0x2A ∷ 0x03 ∷ 0x04 ∷ [])) (0 ∷ 1024 ∷ 1025 ∷ []) ≡ None ∷ None ∷ Some DigestTooLong ∷ []
unfolding pre_hash_fault digest_length hashes
digests_of_others = refl

-- the context stands before all of these; M' and mu have no condition
long_contexts : (input_fault (plain [] (replicate 255 0)) ∷ input_fault (plain [] (replicate 256 0)) ∷ input_fault (hashed [] (replicate 255 0) []) ∷ input_fault (hashed [] (replicate 256 0) []) ∷ []) ≡ None ∷ Some SignCtx ∷ Some OidEmpty ∷ Some HashCtx ∷ []
unfolding pre_hash_fault
long_contexts = refl

no_conditions : (input_fault (framed (replicate 256 0)) ≡ None) × (input_fault (represented []) ≡ None)
no_conditions = (refl, refl)

-- an error stands before what is signed, which else is mu
no_parts : PrivateParts
no_parts = record { rho = []; key = []; tr = []; s1 = []; s2 = []; t0 = [] }

refused_inputs : (sign_input set_44 (λ x. x) (λ x. x) no_parts [] (plain [] (replicate 256 0)) ≡ Err SignCtx) × (sign_input set_44 (λ x. x) (λ x. x) no_parts [] (hashed [] [] []) ≡ Err OidEmpty)
unfolding pre_hash_fault
refused_inputs = (refl, refl)

signed_inputs : (H G : List ℕ → List ℕ) (sk : PrivateParts) (rnd : List ℕ)
    → sign_input set_44 H G sk rnd (plain (3 ∷ []) (1 ∷ 2 ∷ [])) ≡ sign set_44 H G sk (take 64 (H (sk.tr ++ 0 ∷ 2 ∷ 1 ∷ 2 ∷ 3 ∷ []))) rnd
signed_inputs H G sk rnd = refl

digest_before_identifier : input_fault (hashed (replicate 32 0) [] (hash_oid 0x01)) ≡ None
unfolding pre_hash_fault digest_length hashes
digest_before_identifier = refl

-- Worked values of key generation, of signing's hashes and hints, and of acceptance.

-- the seed is followed by a byte of the rows and one of the columns
seeds_of_sets : (seed_front set_44 (λ x. x) (9 ∷ []) ≡ 9 ∷ 4 ∷ 4 ∷ []) × (seed_front set_65 (λ x. x) (9 ∷ []) ≡ 9 ∷ 6 ∷ 5 ∷ []) × (seed_front set_87 (λ x. x) (9 ∷ []) ≡ 9 ∷ 8 ∷ 7 ∷ [])
seeds_of_sets = (refl, refl, refl)

-- both keys, where they are the result
keys_of : Result (PublicParts × PrivateParts) Fault → Option (PublicParts × PrivateParts)
keys_of (Ok keys) = Some keys
keys_of (Err fault) = None

-- so rho of ML-DSA-65 begins with xi and the bytes 6 and 5, where H gives back its input
seeds_begin : option_map {U = List ℕ} (λ pair. take 4 pair.0.rho) (keys_of (generated set_65 (λ input. input ++ replicate 1024 0) (λ _. replicate 1024 0) (9 ∷ [])))
    ≡ Some (9 ∷ 6 ∷ 5 ∷ 0 ∷ [])
unfolding small_vectors key_pair sampled_matrix all_present matrix_entry first_256 small_polynomial keys_of generated
seeds_begin = refl

-- an XOF whose output over the 34 bytes of the seeds is 0, 1, .. to 127, and over any other input its bytes 0 and 64 in
-- turn: over rho' and a number those are the first byte of rho' and the low byte of the number
numbered : List ℕ → List ℕ
numbered input = if nat_eq (length input) 34 then range_with_len 0 128 else flat_map (λ _. get_or input 0 0 ∷ get_or input 64 0 ∷ []) (range_with_len 0 512)

-- rho is bytes 0 to 31 of the seeds, and K bytes 96 to 127
seeds_of_keys : option_map {U = List ℕ × List ℕ × List ℕ} (λ pair. (pair.0.rho, pair.1.rho, pair.1.key)) (keys_of (generated set_44 numbered (λ _. replicate 1024 0) (replicate 32 9)))
    ≡ Some (range_with_len 0 32, range_with_len 0 32, range_with_len 96 32)
unfolding numbered small_vectors key_pair sampled_matrix all_present matrix_entry first_256 small_polynomial keys_of generated
seeds_of_keys = refl

-- rho' is bytes 32 to 95, so its first byte 32 has the half bytes 0 and 2, which are the coefficients 2 and 0; then stand the numbers 0 to 3 of s1,
-- which are the coefficients 2 to -1, and 4 to 7 of s2, which are -2 and 2 to 0
seeds_of_vectors : option_map {U = List (List ℤ) × List (List ℤ)} (λ pair. (map (λ w. take 3 w.0) pair.1.s1, map (λ w. take 3 w.0) pair.1.s2)) (keys_of (generated set_44 numbered (λ _. replicate 1024 0) (replicate 32 9)))
    ≡ Some (map (λ x. pos 2 ∷ pos 0 ∷ x ∷ []) (pos 2 ∷ pos 1 ∷ pos 0 ∷ negsuc 0 ∷ []), map (λ x. pos 2 ∷ pos 0 ∷ x ∷ []) (negsuc 1 ∷ pos 2 ∷ pos 1 ∷ pos 0 ∷ []))
unfolding numbered small_vectors key_pair sampled_matrix all_present matrix_entry first_256 small_polynomial keys_of generated
seeds_of_vectors = refl

-- the same at set 65: s1 has numbers 0 to 4, and s2 has 5 to 10, of which 9 and 10 give no coefficient
seeds_of_65 : option_map {U = List ℤ × List ℤ} (λ pair. (map (λ w. get_or w.0 2 (pos 0)) pair.1.s1, map (λ w. get_or w.0 2 (pos 0)) pair.1.s2)) (keys_of (generated set_65 numbered (λ _. replicate 1024 0) (replicate 32 9)))
    ≡ Some (pos 4 ∷ pos 3 ∷ pos 2 ∷ pos 1 ∷ pos 0 ∷ [], negsuc 0 ∷ negsuc 1 ∷ negsuc 2 ∷ negsuc 3 ∷ pos 4 ∷ pos 4 ∷ [])
unfolding numbered small_vectors key_pair sampled_matrix all_present matrix_entry first_256 small_polynomial keys_of generated
seeds_of_65 = refl

-- mu hashes tr before M', and keeps 64 bytes; a message, and a digest after its OID, are framed first; mu itself stays
representatives : (representative (λ x. x) (1 ∷ 2 ∷ []) (framed (3 ∷ [])) ≡ 1 ∷ 2 ∷ 3 ∷ []) × (representative (λ x. x) (range_with_len 0 60) (framed (range_with_len 60 9)) ≡ range_with_len 0 64)
    × (representative (λ x. x) (5 ∷ []) (plain (3 ∷ []) (1 ∷ 2 ∷ [])) ≡ 5 ∷ 0 ∷ 2 ∷ 1 ∷ 2 ∷ 3 ∷ []) × (representative (λ x. x) (range_with_len 0 60) (plain (range_with_len 63 9) (62 ∷ [])) ≡ range_with_len 0 60 ++ 0 ∷ 1 ∷ 62 ∷ 63 ∷ [])
    × (representative (λ x. x) (5 ∷ []) (hashed (3 ∷ []) (1 ∷ 2 ∷ []) (6 ∷ 1 ∷ 9 ∷ [])) ≡ 5 ∷ 1 ∷ 2 ∷ 1 ∷ 2 ∷ 6 ∷ 1 ∷ 9 ∷ 3 ∷ [])
    × (representative (λ x. x) (range_with_len 0 60) (hashed (7 ∷ 8 ∷ []) (62 ∷ []) (6 ∷ [])) ≡ range_with_len 0 60 ++ 1 ∷ 1 ∷ 62 ∷ 6 ∷ [])
    × (representative (λ x. x) (5 ∷ []) (represented (3 ∷ [])) ≡ 3 ∷ [])
representatives = (refl, refl, refl, refl, refl, refl, refl)

-- the seed of the masks hashes K, then the random bytes, then mu, and keeps 64 bytes
seed_of_masks : (sk : PrivateParts) → (mask_seed (λ x. x) record sk { key = 1 ∷ [] } (2 ∷ []) (3 ∷ []) ≡ 1 ∷ 2 ∷ 3 ∷ [])
    × (mask_seed (λ x. x) record sk { key = range_with_len 0 32 } (range_with_len 32 32) (replicate 64 9) ≡ range_with_len 0 64)
seed_of_masks sk = (refl, refl)

-- c_tilde hashes mu before the bytes of w1, and keeps 32, 48 or 64 bytes: four fields of six bits that are 43 are three bytes, and two
-- of four bits that are 10 are one
commitments : (commitment_hash set_44 (λ x. x) (7 ∷ []) (record { 0 = replicate 256 (pos 43) } ∷ []) ≡ 7 ∷ flat_map (λ _. 0xEB ∷ 0xBA ∷ 0xAE ∷ []) (range_with_len 0 10) ++ 0xEB ∷ [])
    × (commitment_hash set_65 (λ x. x) (7 ∷ []) (record { 0 = replicate 256 (pos 10) } ∷ []) ≡ 7 ∷ replicate 47 0xAA)
    × (commitment_hash set_87 (λ x. x) (7 ∷ []) (record { 0 = replicate 256 (pos 10) } ∷ []) ≡ 7 ∷ replicate 63 0xAA)
unfolding commitment_hash bits_to_bytes bits integer_to_bits bits_to_integer polynomial_bytes bit_length
commitments = (refl, refl, refl)

-- 1023 2^13 is q - 1
shifted_high_part : (t1_shifted (record { 0 = pos 3 ∷ [] } ∷ record { 0 = pos 1 ∷ pos 1023 ∷ [] } ∷ []) 1 0 ≡ 8192)
    × (t1_shifted (record { 0 = pos 3 ∷ [] } ∷ record { 0 = pos 1 ∷ pos 1023 ∷ [] } ∷ []) 1 1 ≡ 8380416)
shifted_high_part = (refl, refl)

-- without columns w = A z - c t1 2^13 is 0 where c is 0, and 1 where c is 1 and t1 is 1023; a one at place 2 of polynomial 1: there a w of 0 goes down past 0 to 43, and one of 1 up to 1; elsewhere high bits are 0
hint_at_one_place : map (λ w. take 4 w.0) (w1_prime (record set_44 { l = 0 }) [] (replicate 4 (polynomial_of (λ _. pos 1023))) [] (polynomial_of (λ _. pos 0) ∷ polynomial_of (λ n. if nat_eq n 2 then pos 1 else pos 0) ∷ []) (record { 0 = [] }))
    ≡ replicate 4 (pos 0) ∷ (pos 0 ∷ pos 0 ∷ pos 43 ∷ pos 0 ∷ []) ∷ replicate 4 (pos 0) ∷ replicate 4 (pos 0) ∷ []
unfolding w1_prime vector_of polynomial_of matrix_product product sum_below is_one use_hint decompose
hint_at_one_place = refl

hint_above_zero : map (λ w. take 4 w.0) (w1_prime (record set_44 { l = 0 }) [] (replicate 4 (polynomial_of (λ _. pos 1023))) [] (polynomial_of (λ _. pos 0) ∷ polynomial_of (λ n. if nat_eq n 2 then pos 1 else pos 0) ∷ []) (record { 0 = pos 1 ∷ [] }))
    ≡ replicate 4 (pos 0) ∷ (pos 0 ∷ pos 0 ∷ pos 1 ∷ pos 0 ∷ []) ∷ replicate 4 (pos 0) ∷ replicate 4 (pos 0) ∷ []
unfolding w1_prime vector_of polynomial_of matrix_product product sum_below is_one use_hint decompose
hint_above_zero = refl

-- as many polynomials as rows
rows_of_w1_prime : length (w1_prime set_65 [] [] [] [] (record { 0 = [] })) ≡ 6
unfolding w1_prime vector_of
rows_of_w1_prime = refl

-- the constant polynomial x
constant : ℤ → R
constant x = polynomial_of (λ n. if nat_eq n 0 then x else pos 0)

-- 3 less 2 times 5
challenge_times_part : w_minus_cs2 (constant (pos 5) ∷ []) (λ r n. 3) (constant (pos 2)) 0 0 ≡ 8380410
unfolding constant polynomial_of product sum_below
challenge_times_part = refl

-- t1 is the high part of A s1 + s2: with one row and no column that of s2, where 8192 has 1
high_parts_of_s2 : (derived (record set_44 { k = 1; l = 0 }) (λ _. []) (record no_parts { rho = 7 ∷ []; tr = 8 ∷ []; s2 = constant (pos 8192) ∷ [] }) ≡ Ok record { rho = 7 ∷ []; tr = 8 ∷ []; t1 = constant (pos 1) ∷ [] })
    × ((public_of_prepared (record set_44 { k = 1; l = 0 }) record { parts = record no_parts { rho = 7 ∷ []; tr = 8 ∷ []; s2 = constant (pos 8192) ∷ [] }; matrix = [] ∷ [] }).parts ≡ record { rho = 7 ∷ []; tr = 8 ∷ []; t1 = constant (pos 1) ∷ [] })
unfolding no_parts constant derived sampled_matrix all_present high_part vector_of polynomial_of matrix_product sum_below
high_parts_of_s2 = (refl, refl)

-- the matrix has as many columns as the parameter set: without any no entry is sampled, so a G without output is no
-- limit
one_small_polynomial : option_map {U = ℕ} (λ pair. length pair.1.s2) (keys_of (generated (record set_44 { k = 1; l = 0 }) (λ _. replicate 1024 0) (λ _. []) [])) ≡ Some 1
unfolding small_vectors key_pair sampled_matrix all_present matrix_entry first_256 small_polynomial keys_of generated
one_small_polynomial = refl

signed_without_columns : sign (record set_44 { tau = 0; k = 1; l = 0 }) (λ _. []) (λ _. []) no_parts [] [] ≡ sign_with (record set_44 { tau = 0; k = 1; l = 0 }) (λ _. []) ([] ∷ []) no_parts [] []
unfolding sign sampled_matrix all_present
signed_without_columns = refl
