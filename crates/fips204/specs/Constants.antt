-- The public constants, by their values (FIPS 204, Tables 1 and 2, section 5.4 and Appendices B and C).
use Rattle.std.specs.Prelude.{◌≡◌, ◌*◌, ◌%◌, ◌^◌, pos, nat_abs, map, replicate}
use Rattle.std.specs.List.{range_with_len}
use Rattle.fips204_base.specs.Transforms.{bit_reversed}
use Rattle.fips204_base.specs.declared.TheConstants.{Q, ZETA, D}
use Rattle.fips204_base.specs.declared.types.TheConstants.{R0, T0}
use Rattle.fips204_base.specs.declared.helpers.zeta_table.TheConstants.{ZETA_TABLE_MONT}
use Rattle.fips204.specs.declared.ml_dsa.signing.TheConstants.{MAX_SIGN_ATTEMPTS}
use Rattle.fips204.specs.declared.ml_dsa_44.TheConstants as lengths_44
use Rattle.fips204.specs.declared.ml_dsa_65.TheConstants as lengths_65
use Rattle.fips204.specs.declared.ml_dsa_87.TheConstants as lengths_87
use Rattle.fips204.specs.declared.types.pre_hash.TheConstants as hash
use Rattle.fips204.specs.Framing.{hash_oid}
use Rattle.fips204.specs.ParameterSets.{set_44, set_65, set_87, public_key_length, private_key_length, signature_length}

-- the modulus, the root of unity and its powers, the zeros, the limits, and the identifiers of the hashes
pub record ConstantsStand : Type 0 where
  pub q : Q ≡ pos 8380417
  pub zeta : ZETA ≡ pos 1753
  pub powers : ZETA_TABLE_MONT ≡ map (λ m. pos (nat_abs ZETA ^ bit_reversed m % nat_abs Q * 4294967296 % nat_abs Q)) (range_with_len 0 256)
  pub d : D ≡ 13
  pub zero_polynomial : R0.0 ≡ replicate 256 (pos 0)
  pub zero_transform : T0.0 ≡ replicate 256 (pos 0)
  pub attempts : MAX_SIGN_ATTEMPTS ≡ 814
  pub digest_limit : hash.MAX_PREHASH_LEN ≡ 1024
  pub sha2 : (hash.SHA2_224 ≡ hash_oid 0x04) × (hash.SHA2_256 ≡ hash_oid 0x01) × (hash.SHA2_384 ≡ hash_oid 0x02) × (hash.SHA2_512 ≡ hash_oid 0x03)
  pub sha2_512 : (hash.SHA2_512_224 ≡ hash_oid 0x05) × (hash.SHA2_512_256 ≡ hash_oid 0x06)
  pub sha3 : (hash.SHA3_224 ≡ hash_oid 0x07) × (hash.SHA3_256 ≡ hash_oid 0x08) × (hash.SHA3_384 ≡ hash_oid 0x09) × (hash.SHA3_512 ≡ hash_oid 0x0A)
  pub shake : (hash.SHAKE_128 ≡ hash_oid 0x0B) × (hash.SHAKE_256 ≡ hash_oid 0x0C)

-- the lengths of keys and signatures of the three sets
pub record LengthsStand : Type 0 where
  pub public_keys : (lengths_44.PK_LEN ≡ public_key_length set_44) × (lengths_65.PK_LEN ≡ public_key_length set_65) × (lengths_87.PK_LEN ≡ public_key_length set_87)
  pub private_keys : (lengths_44.SK_LEN ≡ private_key_length set_44) × (lengths_65.SK_LEN ≡ private_key_length set_65) × (lengths_87.SK_LEN ≡ private_key_length set_87)
  pub signatures : (lengths_44.SIG_LEN ≡ signature_length set_44) × (lengths_65.SIG_LEN ≡ signature_length set_65) × (lengths_87.SIG_LEN ≡ signature_length set_87)
