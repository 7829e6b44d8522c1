-- How many bytes keys and signatures have.
use Rattle.std.proofs.Common.{◌≡◌, ◌≤◌, ℕ, List, ◌++◌, length, take, ◌+◌, ◌-◌, ◌*◌, ap, ◌∙◌, arith, length-append, sym}
use Rattle.std.proofs.lemmas.List.{length-replicate}
use Rattle.std.proofs.lemmas.List.FromFn.{length-map-range_with_len}
use Rattle.fips204_base.specs.declared.types.R.{R}
use Rattle.fips204_base.specs.Encodings.{PublicParts, PrivateParts, ArePublicParts, ArePrivateParts, IsSignature, all_ones, hint_bytes, public_key_bytes, private_key_bytes, vector_bytes}
use Rattle.fips204_base.specs.Packing.{bit_length}
use Rattle.fips204_base.proofs.EncodedParts.{width_4095_4096}
use Rattle.fips204_base.proofs.VectorBytes.{vector-length}
use Rattle.fips204.specs.ParameterSets.{ParameterSet, c_tilde_length, public_key_length, private_key_length, signature_length}

pub length-public_key : (p : ParameterSet) (pk : PublicParts) → ArePublicParts p.k pk → length (public_key_bytes pk.rho pk.t1) ≡ public_key_length p
unfolding bit_length
length-public_key p pk are = length-append pk.rho (vector_bytes 0 1023 pk.t1) ∙ omega (arith, are.rho, vector-length p.k 0 1023 pk.t1 are.t1)

pub length-private_key : (p : ParameterSet) (sk : PrivateParts) → ArePrivateParts p.eta p.k p.l sk → length (private_key_bytes p.eta sk) ≡ private_key_length p
length-private_key p sk are =
    let s1 = vector-length p.l p.eta p.eta sk.s1 are.s1 in
    let s2 = vector-length p.k p.eta p.eta sk.s2 are.s2 in
    let t0 : length (vector_bytes 4095 4096 sk.t0) ≡ 32 * 13 * p.k = vector-length p.k 4095 4096 sk.t0 are.t0 ∙ ap (λ w. 32 * w * p.k) width_4095_4096 in
    simp length-append (omega (arith, are.rho, are.key, are.tr, s1, s2, t0))

length-hint : (most : ℕ) (h : List R) → length (all_ones h) ≤ most → length (hint_bytes most h) ≡ most + length h
length-hint most h few =
    let ones = all_ones h in
    let zeros = length-replicate {A = ℕ} (most - length ones) 0 in
    let counts = length-map-range_with_len (λ i. length (all_ones (take (i + 1) h))) 0 (length h) in
    simp length-append (omega (arith, few, counts, zeros))

pub length-signature : (p : ParameterSet) (signature c_tilde : List ℕ) (z h : List R) → IsSignature p.gamma1 p.omega p.k p.l (c_tilde_length p) signature c_tilde z h
    → length signature ≡ signature_length p
length-signature p signature c_tilde z h is =
    let response = vector-length p.l (p.gamma1 - 1) p.gamma1 z is.response in
    let spelling = length-hint p.omega h is.few in
    let front = vector_bytes (p.gamma1 - 1) p.gamma1 z in
    ap length (sym is.encoding) ∙ length-append (c_tilde ++ front) (hint_bytes p.omega h)
    ∙ omega (arith, length-append c_tilde front, is.c_tilde_size, response, spelling, is.hint.rows)
