-- What private functions of key generation and signing take and return: cited by no public clause;
-- nobody has to believe it.
use Rattle.std.specs.Prelude.{◌≡◌, ◌+◌, ◌-◌, ◌*◌, ◌%◌, ◌<◌, ◌≤◌, ℕ, List, [], length, take, slice_index, Bool, ◌&&◌, nat_eq, nat_lt, nat_le, if◌then◌else◌, Option, Some, None, Result, Ok, Err, true, false, ℤ, pos, slice_index_or, option_map, ok_or}
use Rattle.fips204_base.specs.Encodings.{PublicParts, PrivateParts, IsSignature, public_key_bytes, signature_bytes, is_one}
use Rattle.fips204_base.specs.Residues.{vector_norm, coefficients}
use Rattle.fips204_base.specs.Rounding.{make_hint, use_hint}
use Rattle.fips204_base.specs.Sampling.{challenge}
use Rattle.fips204_base.specs.Vectors.{IsVector, vector_coefficients, vector_of}
use Rattle.fips204_base.specs.PlainTransforms.{AreSameModQ}
use Rattle.fips204_base.specs.Bounds.{PolynomialWithin, VectorWithin}
use Rattle.fips204_base.specs.declared.fault.Fault.{Fault}
use Rattle.fips204_base.specs.declared.fault.Fault.TheVariants.{SamplingLimit}
use Rattle.fips204_base.specs.declared.types.R.{R}
use Rattle.fips204.specs.Framing.{Input, representative}
use Rattle.fips204.specs.ParameterSets.{ParameterSet, c_tilde_length}
use Rattle.fips204.specs.Refusals.{refused_or, input_fault}
use Rattle.fips204.specs.Sets.{HasSizes, set_of}
use Rattle.fips204.specs.Signing.{response, hint_vector, passes_checks}
use Rattle.fips204.specs.declared.types.Params.{Params}
use Rattle.fips204.specs.declared.keys.prepared.KeyTransforms.{KeyTransforms}

-- both keys by their seeds and vectors; tr is the hash of the public key's bytes
abbrev pub pair_of : (List ℕ → List ℕ) → List ℕ → List ℕ → List R → List R → List R → List R → PublicParts × PrivateParts
pair_of H rho key s1 s2 t1 t0 =
    let tr = take 64 (H (public_key_bytes rho t1)) in
    (record { rho = rho; tr = tr; t1 = t1 }, record { rho = rho; key = key; tr = tr; s1 = s1; s2 = s2; t0 = t0 })

-- what multiplies is s1, of l polynomials, and s2 and t0, of k each
pub record AreKeyTransforms (k l : ℕ) (sk : PrivateParts) (t : KeyTransforms) : Type 0 where
  pub first : AreSameModQ l t.s1_hat sk.s1
  pub second : AreSameModQ k t.s2_hat sk.s2
  pub low : AreSameModQ k t.t0_hat sk.t0

-- what multiplies is t1 2^13, of k polynomials
abbrev pub AreShifted : ℕ → List R → List R → Type 0
AreShifted k t1 v = (r n : ℕ) → r < k → n < 256 → vector_coefficients v r n ≡ 8192 * vector_coefficients t1 r n % 8380417

-- what an attempt takes beside the key: a parameter set whose sizes the call has, and a counter of its masks that leaves room
-- for one of each row
pub record AreAttemptInputs (p : Params) (k l s : ℕ) (kappa : ℕ) : Type 0 where
  pub sizes : HasSizes (set_of p) k l s
  pub counter : kappa + l ≤ 65536

-- what the checks of an attempt take beside the key: the sizes, a mask y with coefficients of at most 2^19 in absolute value, and
-- w = A y and a challenge c with coefficients below q in absolute value
pub record AreCheckInputs (p : Params) (k l s : ℕ) (c_tilde : List ℕ) (y w : List R) (c : R) : Type 0 where
  pub sizes : HasSizes (set_of p) k l s
  pub commitment : length c_tilde ≡ c_tilde_length (set_of p)
  pub some_rows : 1 ≤ k
  pub few_rows : k ≤ 8
  pub some_columns : 1 ≤ l
  pub few_columns : l ≤ 7
  pub mask : VectorWithin l 524288 y
  pub product : VectorWithin k 8380416 w
  pub challenge : PolynomialWithin 8380416 c.0

-- what an attempt made, by its result and the array that it may have written
abbrev pub attempted : List ℕ → Result Bool Fault → Result (Option (List ℕ)) Fault
attempted bytes (Ok true) = Ok (Some bytes)
attempted bytes (Ok false) = Ok None
attempted bytes (Err fault) = Err fault

-- what is multiplied by d is multiplied by c
abbrev pub IsFactorOf : R → R → Type 0
IsFactorOf d c = (j : ℕ) → j < 256 → coefficients d.0 j ≡ coefficients c.0 j

-- mu of an input under a key's hash tr, or the error
abbrev pub input_hash : (List ℕ → List ℕ) → List ℕ → Input → Result (List ℕ) Fault
input_hash H tr input = refused_or (input_fault input) (Ok (representative H tr input))

-- the signature has these parts, the norm of z is small, and c is the challenge
pub record OpensTo (p : ParameterSet) (H : List ℕ → List ℕ) (signature c_tilde : List ℕ) (z h : List R) (c : R) : Type 0 where
  pub parts : IsSignature p.gamma1 p.omega p.k p.l (c_tilde_length p) signature c_tilde z h
  pub norm : vector_norm z < p.gamma1 - p.beta
  pub sampled : challenge p.tau (H c_tilde) ≡ Some c

-- at least three bytes, the first 06, and the second below 128 and the number of bytes after it
abbrev pub has_oid_form : List ℕ → Bool
has_oid_form oid = nat_le 3 (length oid) && nat_eq (slice_index oid 0) 0x06 && nat_lt (slice_index oid 1) 128 && nat_eq (slice_index oid 1 + 2) (length oid)

-- what a challenge makes of an attempt with mask y, whose A y is w
abbrev pub checked_attempt : ParameterSet → PrivateParts → List R → (ℕ → ℕ → ℕ) → List ℕ → Option R → Result (Option (List ℕ)) Fault
checked_attempt p sk y w c_tilde challenge =
    ok_or (option_map (λ c. if passes_checks p sk y w c then Some (signature_bytes p.gamma1 p.omega c_tilde (response p sk y c) (hint_vector p sk w c)) else None) challenge) SamplingLimit

-- MakeHint(0 - t, v + t) at one place, as a coefficient
abbrev pub hint_bit : ℕ → ℕ → ℕ → ℤ
hint_bit gamma2 v t = if make_hint gamma2 (8380416 * t % 8380417) ((v + t) % 8380417) then pos 1 else pos 0

-- UseHint(h, w), coefficient by coefficient
abbrev pub hinted : ParameterSet → List R → (ℕ → ℕ → ℕ) → List R
hinted p h w = vector_of p.k (λ r n. pos (use_hint p.gamma2 (is_one (slice_index_or h r record { 0 = [] }) n) (w r n)))

-- t1, with k polynomials
abbrev pub IsHighPart : ℕ → List R → Type 0
IsHighPart k t1 = IsVector k 0 1023 t1
