-- Worked values of keys, signatures and w1 as bytes, and of their parts.
use Rattle.std.proofs.Common.{◌≡◌, ◌≤ℤ◌, ℕ, ℤ, List, [], ◌∷◌, ◌++◌, refl, pos, negsuc, ap, arith}
use Rattle.std.specs.Prelude.{replicate, slice_index}
use Rattle.std.specs.List.{range_with_len, flat_map}
use Rattle.std.proofs.lemmas.Int.{ints}
use Rattle.fips204_base.specs.declared.types.R.{R}
use Rattle.fips204_base.specs.Encodings.{PrivateParts, ArePublicParts, ArePrivateParts, IsPublicKeyOf, IsPrivateKeyOf, IsSignature, Spells, public_key_bytes, private_key_bytes, signature_bytes, w1_bytes, is_one, all_ones}
use Rattle.fips204_base.specs.Packing.{bit_length, bits, bits_to_bytes, bits_to_integer, integer_to_bits, polynomial_bytes}
use Rattle.fips204_base.proofs.WorkedBounds.{constant_vector}

-- four fields of ten bits that are 1 are five bytes
public_key_of_ones : public_key_bytes (7 ∷ 8 ∷ []) ((record { 0 = replicate 256 (pos 1) }) ∷ []) ≡ 7 ∷ 8 ∷ flat_map (λ _. 0x01 ∷ 0x04 ∷ 0x10 ∷ 0x40 ∷ 0x00 ∷ []) (range_with_len 0 64)
unfolding bits_to_bytes bits integer_to_bits bits_to_integer polynomial_bytes bit_length
public_key_of_ones = refl

-- at eta 2 a coefficient of 2 is the field 0, and -2 the field 4
private_key_of_ends : private_key_bytes 2 record {
  rho = 7 ∷ [];
  key = 8 ∷ [];
  tr = 9 ∷ [];
  s1 = (record { 0 = replicate 256 (pos 2) }) ∷ [];
  s2 = (record { 0 = replicate 256 (negsuc 1) }) ∷ [];
  t0 = (record { 0 = replicate 256 (pos 2) }) ∷ [];
}
    ≡ (7 ∷ 8 ∷ 9 ∷ replicate 96 0) ++ flat_map (λ _. 0x24 ∷ 0x49 ∷ 0x92 ∷ []) (range_with_len 0 32)
    ++ flat_map (λ _. 0xFE ∷ 0xCF ∷ 0xFF ∷ 0xF9 ∷ 0x3F ∷ 0xFF ∷ 0xE7 ∷ 0xFF ∷ 0xFC ∷ 0x9F ∷ 0xFF ∷ 0xF3 ∷ 0x7F ∷ []) (range_with_len 0 32)
unfolding bits_to_bytes bits integer_to_bits bits_to_integer polynomial_bytes bit_length
private_key_of_ends = refl

-- a z of gamma1 everywhere has fields 0
signature_of_ends : signature_bytes 131072 2 (5 ∷ []) ((record { 0 = replicate 256 (pos 131072) }) ∷ []) [] ≡ 5 ∷ replicate 578 0
unfolding bits_to_bytes bits integer_to_bits bits_to_integer bit_length all_ones polynomial_bytes
signature_of_ends = refl

-- four fields of six bits that are 43 are three bytes, and two of four bits that are 10 are one
w1_of_ends : (w1_bytes 95232 ((record { 0 = replicate 256 (pos 43) }) ∷ []) ≡ flat_map (λ _. 0xEB ∷ 0xBA ∷ 0xAE ∷ []) (range_with_len 0 64)) × (w1_bytes 261888 ((record { 0 = replicate 256 (pos 10) }) ∷ []) ≡ replicate 128 0xAA)
unfolding bits_to_bytes bits integer_to_bits bits_to_integer polynomial_bytes bit_length
w1_of_ends = (refl, refl)

-- ---- Parts of keys

-- a vector whose coefficients are all the same
equal : ℕ → ℤ → List R
equal count x = replicate count record { 0 = replicate 256 x }

public_parts : ArePublicParts 1 record { rho = replicate 32 1; tr = replicate 64 2; t1 = equal 1 (pos 1023) } × ArePublicParts 1 record { rho = replicate 32 1; tr = replicate 64 2; t1 = equal 1 (pos 0) }
unfolding equal
public_parts = (
  record { rho = refl; tr = refl; t1 = constant_vector 1 0 1023 (pos 1023) (omega arith) (omega arith) },
  record { rho = refl; tr = refl; t1 = constant_vector 1 0 1023 (pos 0) (omega arith) (omega arith) },
)

-- a rho or tr that is missing, and coefficients past the ends
no_public_parts : (ArePublicParts 0 record { rho = []; tr = replicate 64 2; t1 = [] } → ⊥) × (ArePublicParts 0 record { rho = replicate 32 1; tr = []; t1 = [] } → ⊥)
    × (ArePublicParts 1 record { rho = replicate 32 1; tr = replicate 64 2; t1 = equal 1 (pos 1024) } → ⊥) × (ArePublicParts 1 record { rho = replicate 32 1; tr = replicate 64 2; t1 = equal 1 (negsuc 0) } → ⊥)
unfolding equal
no_public_parts = (
  λ p. omega (arith, p.rho),
  λ p. omega (arith, p.tr),
  λ p. let high : pos 1024 ≤ℤ pos 1023 = (p.t1.range 0 record { 0 = [] } (omega arith) 0 (pos 0) (omega arith)).1 in omega (arith, ints, high),
  λ p. let low : pos 0 ≤ℤ negsuc 0 = (p.t1.range 0 record { 0 = [] } (omega arith) 0 (pos 0) (omega arith)).0 in omega (arith, ints, low),
)

-- the bytes of a key without polynomials are rho, and its tr is the first 64 bytes of the hash of these
public_key_without_polynomials : IsPublicKeyOf (λ x. x ++ range_with_len 0 40) 0 (replicate 32 1) record { rho = replicate 32 1; tr = replicate 32 1 ++ range_with_len 0 32; t1 = [] }
public_key_without_polynomials = record { parts = record { rho = refl; tr = refl; t1 = constant_vector 0 0 1023 (pos 0) (omega arith) (omega arith) }; encoding = refl; tr = refl }

-- a rho that is too short, another byte, and another tr
no_public_keys : (IsPublicKeyOf (λ _. replicate 64 2) 0 (replicate 31 1) record { rho = replicate 31 1; tr = replicate 64 2; t1 = [] } → ⊥)
    × (IsPublicKeyOf (λ _. replicate 64 2) 0 (replicate 32 1) record { rho = replicate 32 3; tr = replicate 64 2; t1 = [] } → ⊥)
    × (IsPublicKeyOf (λ _. replicate 64 2) 0 (replicate 32 1) record { rho = replicate 32 1; tr = replicate 64 3; t1 = [] } → ⊥)
no_public_keys = (
  λ k. omega (arith, k.parts.rho),
  λ k. omega (arith, ap (λ (x : List ℕ). slice_index x 0) k.encoding),
  λ k. omega (arith, ap (λ (x : List ℕ). slice_index x 0) k.tr),
)

-- parts of a private key with two rows and one column, at eta 2
key_parts : List ℕ → List ℕ → List ℕ → List R → List R → List R → PrivateParts
key_parts rho key tr s1 s2 t0 = record { rho = rho; key = key; tr = tr; s1 = s1; s2 = s2; t0 = t0 }

private_parts : ArePrivateParts 2 2 1 (key_parts (replicate 32 1) (replicate 32 2) (replicate 64 3) (equal 1 (pos 2)) (equal 2 (negsuc 1)) (equal 2 (pos 4096)))
    × ArePrivateParts 2 2 1 (key_parts (replicate 32 1) (replicate 32 2) (replicate 64 3) (equal 1 (pos 2)) (equal 2 (negsuc 1)) (equal 2 (negsuc 4094)))
unfolding equal key_parts
private_parts = (
  record {
    rho = refl;
    key = refl;
    tr = refl;
    s1 = constant_vector 1 2 2 (pos 2) (omega arith) (omega arith);
    s2 = constant_vector 2 2 2 (negsuc 1) (omega arith) (omega arith);
    t0 = constant_vector 2 4095 4096 (pos 4096) (omega arith) (omega arith);
  },
  record {
    rho = refl;
    key = refl;
    tr = refl;
    s1 = constant_vector 1 2 2 (pos 2) (omega arith) (omega arith);
    s2 = constant_vector 2 2 2 (negsuc 1) (omega arith) (omega arith);
    t0 = constant_vector 2 4095 4096 (negsuc 4094) (omega arith) (omega arith);
  },
)

-- a part that is missing
no_private_parts : (ArePrivateParts 2 2 1 (key_parts [] (replicate 32 2) (replicate 64 3) (equal 1 (pos 2)) (equal 2 (pos 2)) (equal 2 (pos 0))) → ⊥)
    × (ArePrivateParts 2 2 1 (key_parts (replicate 32 1) [] (replicate 64 3) (equal 1 (pos 2)) (equal 2 (pos 2)) (equal 2 (pos 0))) → ⊥)
    × (ArePrivateParts 2 2 1 (key_parts (replicate 32 1) (replicate 32 2) [] (equal 1 (pos 2)) (equal 2 (pos 2)) (equal 2 (pos 0))) → ⊥)
    × (ArePrivateParts 2 2 1 (key_parts (replicate 32 1) (replicate 32 2) (replicate 64 3) [] (equal 2 (pos 2)) (equal 2 (pos 0))) → ⊥)
    × (ArePrivateParts 2 2 1 (key_parts (replicate 32 1) (replicate 32 2) (replicate 64 3) (equal 1 (pos 2)) [] (equal 2 (pos 0))) → ⊥)
    × (ArePrivateParts 2 2 1 (key_parts (replicate 32 1) (replicate 32 2) (replicate 64 3) (equal 1 (pos 2)) (equal 2 (pos 2)) []) → ⊥)
unfolding equal key_parts
no_private_parts = (λ p. omega (arith, p.rho), λ p. omega (arith, p.key), λ p. omega (arith, p.tr), λ p. omega (arith, p.s1.rows), λ p. omega (arith, p.s2.rows), λ p. omega (arith, p.t0.rows))

-- t0 is from -4095 to 4096
no_low_parts : (ArePrivateParts 2 2 1 (key_parts (replicate 32 1) (replicate 32 2) (replicate 64 3) (equal 1 (pos 2)) (equal 2 (pos 2)) (equal 2 (pos 4097))) → ⊥)
    × (ArePrivateParts 2 2 1 (key_parts (replicate 32 1) (replicate 32 2) (replicate 64 3) (equal 1 (pos 2)) (equal 2 (pos 2)) (equal 2 (negsuc 4095))) → ⊥)
unfolding equal key_parts
no_low_parts = (
  λ p. let high : pos 4097 ≤ℤ pos 4096 = (p.t0.range 0 record { 0 = [] } (omega arith) 0 (pos 0) (omega arith)).1 in omega (arith, ints, high),
  λ p. let low : negsuc 4094 ≤ℤ negsuc 4095 = (p.t0.range 0 record { 0 = [] } (omega arith) 0 (pos 0) (omega arith)).0 in omega (arith, ints, low),
)

-- one row and no column; coefficients at the upper end of their range have fields 0
private_key_of_zeros : IsPrivateKeyOf 2 1 0 (replicate 32 1 ++ replicate 32 2 ++ replicate 64 3 ++ replicate 512 0) (key_parts (replicate 32 1) (replicate 32 2) (replicate 64 3) [] (equal 1 (pos 2)) (equal 1 (pos 4096)))
unfolding equal key_parts bits_to_bytes bits integer_to_bits bits_to_integer polynomial_bytes bit_length
private_key_of_zeros = record {
  parts = record {
    rho = refl;
    key = refl;
    tr = refl;
    s1 = constant_vector 0 2 2 (pos 0) (omega arith) (omega arith);
    s2 = constant_vector 1 2 2 (pos 2) (omega arith) (omega arith);
    t0 = constant_vector 1 4095 4096 (pos 4096) (omega arith) (omega arith);
  };
  encoding = refl;
}

-- rho and K of 31 and 33 bytes, and another first byte
no_private_keys : (IsPrivateKeyOf 2 0 0 (replicate 64 1 ++ replicate 64 3) (key_parts (replicate 31 1) (replicate 33 1) (replicate 64 3) [] [] []) → ⊥)
    × (IsPrivateKeyOf 2 0 0 (replicate 64 1 ++ replicate 64 3) (key_parts (replicate 32 2) (replicate 32 1) (replicate 64 3) [] [] []) → ⊥)
unfolding key_parts
no_private_keys = (λ k. omega (arith, k.parts.rho), λ k. omega (arith, ap (λ (x : List ℕ). slice_index x 0) k.encoding))

-- ---- Parts of signatures, and of spellings of hints

-- z at its ends has fields of 18 bits that are 0, and all ones; a hint of 256 ones, and of none
signatures : IsSignature 131072 256 1 1 1 (5 ∷ replicate 576 0 ++ range_with_len 0 256 ++ 256 ∷ []) (5 ∷ []) (equal 1 (pos 131072)) (equal 1 (pos 1))
    × IsSignature 131072 0 1 1 1 (5 ∷ replicate 576 255 ++ 0 ∷ []) (5 ∷ []) (equal 1 (negsuc 131070)) (equal 1 (pos 0))
unfolding equal is_one all_ones bits_to_bytes bits integer_to_bits bits_to_integer polynomial_bytes bit_length
signatures = (
  record {
    c_tilde_size = refl;
    response = constant_vector 1 131071 131072 (pos 131072) (omega arith) (omega arith);
    hint = constant_vector 1 0 1 (pos 1) (omega arith) (omega arith);
    few = omega arith;
    encoding = refl;
  },
  record {
    c_tilde_size = refl;
    response = constant_vector 1 131071 131072 (negsuc 131070) (omega arith) (omega arith);
    hint = constant_vector 1 0 1 (pos 0) (omega arith) (omega arith);
    few = omega arith;
    encoding = refl;
  },
)

-- a c_tilde that is too short, a z of -gamma1, a hint of -1 or 2 or of too many ones, and another byte
no_signatures : (IsSignature 131072 0 0 0 2 (5 ∷ []) (5 ∷ []) [] [] → ⊥)
    × (IsSignature 131072 0 0 1 1 (5 ∷ replicate 576 0) (5 ∷ []) (equal 1 (negsuc 131071)) [] → ⊥)
    × (IsSignature 131072 0 1 0 1 (5 ∷ 0 ∷ []) (5 ∷ []) [] (equal 1 (negsuc 0)) → ⊥)
    × (IsSignature 131072 256 1 0 1 (5 ∷ range_with_len 0 256 ++ 256 ∷ []) (5 ∷ []) [] (equal 1 (pos 2)) → ⊥)
    × (IsSignature 131072 255 1 0 1 (5 ∷ range_with_len 0 256 ++ 256 ∷ []) (5 ∷ []) [] (equal 1 (pos 1)) → ⊥)
    × (IsSignature 131072 0 0 0 1 (5 ∷ []) (6 ∷ []) [] [] → ⊥)
unfolding equal is_one all_ones
no_signatures = (
  λ s. omega (arith, s.c_tilde_size),
  λ s. let low : negsuc 131070 ≤ℤ negsuc 131071 = (s.response.range 0 record { 0 = [] } (omega arith) 0 (pos 0) (omega arith)).0 in omega (arith, ints, low),
  λ s. let low : pos 0 ≤ℤ negsuc 0 = (s.hint.range 0 record { 0 = [] } (omega arith) 0 (pos 0) (omega arith)).0 in omega (arith, ints, low),
  λ s. let high : pos 2 ≤ℤ pos 1 = (s.hint.range 0 record { 0 = [] } (omega arith) 0 (pos 0) (omega arith)).1 in omega (arith, ints, high),
  λ s. omega (arith, s.few),
  λ s. omega (arith, ap (λ (x : List ℕ). slice_index x 0) s.encoding),
)

spelling_of_ones : Spells 256 1 (equal 1 (pos 1)) (range_with_len 0 256 ++ 256 ∷ [])
unfolding equal is_one all_ones
spelling_of_ones = record { hint = constant_vector 1 0 1 (pos 1) (omega arith) (omega arith); few = omega arith; spelling = refl }

-- a hint of -1 or 2 or of too many ones, and another byte
no_spellings : (Spells 0 1 (equal 1 (negsuc 0)) (0 ∷ []) → ⊥) × (Spells 256 1 (equal 1 (pos 2)) (range_with_len 0 256 ++ 256 ∷ []) → ⊥)
    × (Spells 255 1 (equal 1 (pos 1)) (range_with_len 0 256 ++ 256 ∷ []) → ⊥) × (Spells 0 1 (equal 1 (pos 0)) (1 ∷ []) → ⊥)
unfolding equal is_one all_ones
no_spellings = (
  λ s. let low : pos 0 ≤ℤ negsuc 0 = (s.hint.range 0 record { 0 = [] } (omega arith) 0 (pos 0) (omega arith)).0 in omega (arith, ints, low),
  λ s. let high : pos 2 ≤ℤ pos 1 = (s.hint.range 0 record { 0 = [] } (omega arith) 0 (pos 0) (omega arith)).1 in omega (arith, ints, high),
  λ s. omega (arith, s.few),
  λ s. omega (arith, ap (λ (x : List ℕ). slice_index x 0) s.spelling),
)
