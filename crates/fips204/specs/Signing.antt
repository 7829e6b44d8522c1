-- Signing (FIPS 204, Algorithm 7): the body of its loop (lines 11 to 32), and the first of 814 attempts that is not rejected.
use Rattle.std.specs.Prelude.{ℕ, ◌+◌, ◌-◌, ◌*◌, ◌%◌, List, ◌++◌, pos, Bool, ◌&&◌, nat_lt, nat_le, length, take, if◌then◌else◌, [], ◌∷◌, map, unwrap_or, option_map, ok_or, Option, Some, None, Result, Ok, Err}
use Rattle.std.specs.List.{range_with_len}
use Rattle.fips204_base.specs.Encodings.{PrivateParts, all_ones, signature_bytes, w1_bytes}
use Rattle.fips204_base.specs.Residues.{centred, vector_norm, coefficients}
use Rattle.fips204_base.specs.Rounding.{high_bits, low_bits, make_hint}
use Rattle.fips204_base.specs.Sampling.{challenge, mask, sampled_matrix}
use Rattle.fips204_base.specs.Streams.{Bytes, XOF}
use Rattle.fips204_base.specs.Transforms.{product, plus, minus}
use Rattle.fips204_base.specs.Vectors.{vector_coefficients, matrix_product, vector_of}
use Rattle.fips204_base.specs.declared.fault.Fault.{Fault}
use Rattle.fips204_base.specs.declared.fault.Fault.TheVariants.{TooManyAttempts, SamplingLimit}
use Rattle.fips204_base.specs.declared.types.R.{R}
use Rattle.fips204_base.specs.declared.types.T.{T}
use Rattle.fips204.specs.ParameterSets.{ParameterSet, c_tilde_length}

-- c_tilde of a vector w1: the first lambda / 4 bytes of H over mu and the bytes of w1
unfoldable pub commitment_hash : ParameterSet → XOF → Bytes → List R → Bytes
commitment_hash p H mu w1 = take (c_tilde_length p) (H (mu ++ w1_bytes p.gamma2 w1))

-- z = y + c s1, centred
unfoldable pub response : ParameterSet → PrivateParts → List R → R → List R
response p sk y c = vector_of p.l (λ r n. centred (pos (plus (vector_coefficients y r) (product (coefficients c.0) (vector_coefficients sk.s1 r)) n)))

-- w - c s2
abbrev pub w_minus_cs2 : List R → (ℕ → ℕ → ℕ) → R → ℕ → ℕ → ℕ
w_minus_cs2 s2 w c r = minus (w r) (product (coefficients c.0) (vector_coefficients s2 r))

-- r0, the low bits of w - c s2
unfoldable pub low_vector : ParameterSet → PrivateParts → (ℕ → ℕ → ℕ) → R → List R
low_vector p sk w c = vector_of p.k (λ r n. low_bits p.gamma2 (w_minus_cs2 sk.s2 w c r n))

-- c t0
unfoldable pub ct0 : ParameterSet → PrivateParts → R → List R
ct0 p sk c = vector_of p.k (λ r n. pos (product (coefficients c.0) (vector_coefficients sk.t0 r) n))

-- h = MakeHint(-t, v + t), coefficient by coefficient, where v = w - c s2 and t = c t0
unfoldable pub hint_vector : ParameterSet → PrivateParts → (ℕ → ℕ → ℕ) → R → List R
hint_vector p sk w c = vector_of p.k (λ r n.
    let v = w_minus_cs2 sk.s2 w c r n in
    let t = product (coefficients c.0) (vector_coefficients sk.t0 r) n in
    if make_hint p.gamma2 (8380416 * t % 8380417) ((v + t) % 8380417) then pos 1 else pos 0)

-- whether an attempt is kept: the tests of lines 23 and 28
unfoldable pub passes_checks : ParameterSet → PrivateParts → List R → (ℕ → ℕ → ℕ) → R → Bool
passes_checks p sk y w c =
    nat_lt (vector_norm (response p sk y c)) (p.gamma1 - p.beta)
    && nat_lt (vector_norm (low_vector p sk w c)) (p.gamma2 - p.beta)
    && nat_lt (vector_norm (ct0 p sk c)) p.gamma2
    && nat_le (length (all_ones (hint_vector p sk w c))) p.omega

-- the attempt at counter kappa, with matrix a and the masks' seed rho'': a signature, none if rejected, an error if there is no challenge
unfoldable pub attempt : ParameterSet → XOF → List (List T) → PrivateParts → Bytes → Bytes → ℕ → Result (Option Bytes) Fault
attempt p H a sk mu rho'' kappa =
    let y = mask p.gamma1 H rho'' p.l kappa in
    let w = matrix_product p.l a (vector_coefficients y) in
    let w1 = vector_of p.k (λ r n. pos (high_bits p.gamma2 (w r n))) in
    let c_tilde = commitment_hash p H mu w1 in
    let checked = λ (c : R). if passes_checks p sk y w c then Some (signature_bytes p.gamma1 p.omega c_tilde (response p sk y c) (hint_vector p sk w c)) else None in
    ok_or (option_map checked (challenge p.tau (H c_tilde))) SamplingLimit

-- the result of the first attempt that isn't rejected
unfoldable pub first_answer : List (Result (Option Bytes) Fault) → Result Bytes Fault
first_answer [] = Err TooManyAttempts
first_answer (Err fault ∷ later) = Err fault
first_answer (Ok None ∷ later) = first_answer later
first_answer (Ok (Some signature) ∷ later) = Ok signature

-- signing with the matrix a: the first of 814 attempts (Appendix C) that isn't rejected; attempt n has kappa = n l
unfoldable pub sign_with : ParameterSet → XOF → List (List T) → PrivateParts → Bytes → Bytes → Result Bytes Fault
sign_with p H a sk mu rnd =
    let rho'' = take 64 (H (sk.key ++ rnd ++ mu)) in
    first_answer (map (λ n. attempt p H a sk mu rho'' (n * p.l)) (range_with_len 0 814))

-- ML-DSA.Sign_internal (Algorithm 7) from mu and rnd, with a plain key: with the matrix of its seed, or an error where there is none
unfoldable pub sign : ParameterSet → XOF → XOF → PrivateParts → Bytes → Bytes → Result Bytes Fault
sign p H G sk mu rnd = unwrap_or (option_map (λ a. sign_with p H a sk mu rnd) (sampled_matrix G sk.rho p.k p.l)) (Err SamplingLimit)
