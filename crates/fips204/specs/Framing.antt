-- What is signed, its hash mu, and the conditions on a digest (FIPS 204, Algorithms 2 to 5, 7 and 8, section 5.4).
use Rattle.std.specs.Prelude.{ℕ, List, ◌∷◌, ◌++◌, length, take, ◌+◌, [], ◌&&◌, not, nat_eq, nat_lt, nat_le, bytes_eq, find, Option, Some, None, option_map, unwrap_or, slice_index, if◌then◌else◌}
use Rattle.fips204_base.specs.Streams.{Bytes, XOF}
use Rattle.fips204_base.specs.declared.fault.Fault.{Fault}
use Rattle.fips204_base.specs.declared.fault.Fault.TheVariants.{OidEmpty, OidNotDer, DigestTooLong, DigestLength}

-- what is signed: a message, or a digest with the OID of its hash, under a context; M' itself; or mu itself
pub data Input : Type 0 where
  plain : (message context : Bytes) → Input
  hashed : (digest context oid : Bytes) → Input
  framed : (m : Bytes) → Input
  represented : (mu : Bytes) → Input

-- M': the mode, a byte of the context's length, the context, and the text
abbrev pub frame : ℕ → Bytes → Bytes → Bytes
frame mode context text = mode ∷ length context ∷ context ++ text

-- mu, the message representative (Algorithm 7, line 6): the first 64 bytes of H over tr and M', of mode 0 for a message, 1 for a digest
abbrev pub representative : XOF → Bytes → Input → Bytes
representative H tr (plain message context) = take 64 (H (tr ++ frame 0 context message))
representative H tr (hashed digest context oid) = take 64 (H (tr ++ frame 1 context (oid ++ digest)))
representative H tr (framed m) = take 64 (H (tr ++ m))
representative H tr (represented mu) = mu

-- the last byte of the OID of each of the twelve hashes, with the bytes of its digest: SHA2-256, -384, -512, -224,
-- -512/224 and -512/256; SHA3-224, -256, -384 and -512; SHAKE128 and SHAKE256
unfoldable pub hashes : List (ℕ × ℕ)
hashes =
    (0x01, 32) ∷ (0x02, 48) ∷ (0x03, 64) ∷ (0x04, 28) ∷ (0x05, 28) ∷ (0x06, 32)
    ∷ (0x07, 28) ∷ (0x08, 32) ∷ (0x09, 48) ∷ (0x0A, 64)
    ∷ (0x0B, 32) ∷ (0x0C, 64) ∷ []

-- the OID 2.16.840.1.101.3.4.2.n in DER
abbrev pub hash_oid : ℕ → Bytes
hash_oid n = 0x06 ∷ 0x09 ∷ 0x60 ∷ 0x86 ∷ 0x48 ∷ 0x01 ∷ 0x65 ∷ 0x03 ∷ 0x04 ∷ 0x02 ∷ n ∷ []

-- how many bytes the digest has, where the OID is that of one of these hashes
unfoldable pub digest_length : Bytes → Option ℕ
digest_length oid = option_map (λ hash. hash.1) (find (λ hash. bytes_eq oid (hash_oid hash.0)) hashes)

-- the first condition that the digest and the OID break, or none; an OID in DER has at least three bytes, the first 06, and the
-- second below 128 and the number of bytes after it; under the OID of one of the twelve hashes a digest has the length of that
unfoldable pub pre_hash_fault : Bytes → Bytes → Option Fault
pre_hash_fault digest oid =
    if nat_eq (length oid) 0 then Some OidEmpty
    else if not (nat_le 3 (length oid) && nat_eq (slice_index oid 0) 0x06 && nat_lt (slice_index oid 1) 128
    && nat_eq (slice_index oid 1 + 2) (length oid)) then Some OidNotDer
    else if nat_lt 1024 (length digest) then Some DigestTooLong
    else if not (nat_eq (length digest) (unwrap_or (digest_length oid) (length digest))) then Some DigestLength
    else None
