-- Worked values of one attempt of signing.
use Rattle.std.proofs.Common.{◌≡◌, ℕ, ℤ, List, pos, negsuc, [], ◌∷◌, Bool, true, false, refl, map, take, length, nat_eq}
use Rattle.std.specs.Prelude.{if◌then◌else◌}
use Rattle.std.specs.List.{flat_map}
use Rattle.fips204_base.specs.declared.types.R.{R}
use Rattle.fips204_base.specs.Residues.{sum_below, centred}
use Rattle.fips204_base.specs.Rounding.{decompose}
use Rattle.fips204_base.specs.Transforms.{product}
use Rattle.fips204_base.specs.Vectors.{polynomial_of, vector_of}
use Rattle.fips204_base.specs.Encodings.{PrivateParts, all_ones, is_one}
use Rattle.fips204.specs.ParameterSets.{ParameterSet, set_44, set_65}
use Rattle.fips204.specs.Signing.{response, low_vector, ct0, hint_vector, passes_checks}

-- a parameter set of one row and one column, with another gamma1 and omega; beta is 78
toy : ℕ → ℕ → ParameterSet
toy g o = record set_44 { tau = 1; gamma1 = g; k = 1; l = 1; omega = o }

-- the constant polynomial x
one : ℤ → R
one x = record { 0 = x ∷ [] }

-- a key whose vectors are constants
parts : ℤ → ℤ → ℤ → PrivateParts
parts s1 s2 t0 = record { rho = []; key = []; tr = []; s1 = one s1 ∷ []; s2 = one s2 ∷ []; t0 = one t0 ∷ [] }

-- whether an attempt is kept whose mask is y and whose w is w, with the challenge 1
checks : ℕ → ℕ → ℤ → ℤ → ℤ → ℤ → ℕ → Bool
checks g o s1 s2 t0 y w = passes_checks (toy g o) (parts s1 s2 t0) (one y ∷ []) (λ r n. if nat_eq n 0 then w else 0) (one (pos 1))

-- 98 and 2 times 3, and -98
response_of_constants : (map (λ w. take 2 w.0) (response (toy 178 80) (parts (pos 3) (pos 0) (pos 0)) (one (pos 98) ∷ []) (one (pos 2))) ≡ (pos 104 ∷ pos 0 ∷ []) ∷ [])
    × (map (λ w. take 1 w.0) (response (toy 178 80) (parts (pos 0) (pos 0) (pos 0)) (one (negsuc 97) ∷ []) (one (pos 2))) ≡ (negsuc 97 ∷ []) ∷ [])
unfolding toy one parts response vector_of polynomial_of product sum_below centred
response_of_constants = (refl, refl)

-- 5 less 2 times 7
low_bits_of_constants : map (λ w. take 2 w.0) (low_vector (toy 178 80) (parts (pos 0) (pos 7) (pos 0)) (λ r n. if nat_eq n 0 then 5 else 0) (one (pos 2))) ≡ (negsuc 8 ∷ pos 0 ∷ []) ∷ []
unfolding toy one parts low_vector vector_of polynomial_of product sum_below decompose
low_bits_of_constants = refl

-- 2 times 7
ct0_of_constants : map (λ w. take 2 w.0) (ct0 (toy 178 80) (parts (pos 0) (pos 0) (pos 7)) (one (pos 2))) ≡ (pos 14 ∷ pos 0 ∷ []) ∷ []
unfolding toy one parts ct0 vector_of polynomial_of product sum_below
ct0_of_constants = refl

-- the first coefficients of a hint, where w is w, s2 and t0 are constants, and the challenge is 1
hints : ParameterSet → ℕ → ℤ → ℤ → List (List ℤ)
hints p w s2 t0 = map (λ h. take 1 h.0) (hint_vector p (parts (pos 0) s2 t0) (λ r n. w) (one (pos 1)))

-- a hint tells whether v = w - c s2 and v + c t0 have other high bits: from gamma2 to one more, and back by -1; not from one less, from
-- one more, or where t0 is 0; at the last multiple of 2 gamma2 the bits go back to 0, which q - 1 has too
hints_44 : flat_map (λ (x : ℕ × ℤ). hints (toy 178 80) x.0 (pos 0) x.1) ((95232, pos 1) ∷ (95233, negsuc 0) ∷ (8285184, pos 1) ∷ (95231, pos 1) ∷ (95233, pos 1) ∷ (95232, pos 0) ∷ (8380416, pos 1) ∷ (0, negsuc 0) ∷ [])
    ≡ map (λ h. h ∷ []) (pos 1 ∷ pos 1 ∷ pos 1 ∷ pos 0 ∷ pos 0 ∷ pos 0 ∷ pos 0 ∷ pos 0 ∷ [])
unfolding hints toy one parts hint_vector vector_of polynomial_of product sum_below decompose
hints_44 = refl

hints_65_87 : flat_map (λ (x : ℕ × ℤ). hints (record (toy 178 80) { gamma2 = 261888 }) x.0 (pos 0) x.1) ((261888, pos 1) ∷ (261889, negsuc 0) ∷ (8118528, pos 1) ∷ (261887, pos 1) ∷ (261889, pos 1) ∷ (261888, pos 0) ∷ (8380416, pos 1) ∷ (0, negsuc 0) ∷ [])
    ≡ map (λ h. h ∷ []) (pos 1 ∷ pos 1 ∷ pos 1 ∷ pos 0 ∷ pos 0 ∷ pos 0 ∷ pos 0 ∷ pos 0 ∷ [])
unfolding hints toy one parts hint_vector vector_of polynomial_of product sum_below decompose
hints_65_87 = refl

-- v is 95232, and then 95233
hint_after_part : (hints (toy 178 80) 95235 (pos 3) (pos 1) ≡ (pos 1 ∷ []) ∷ []) × (hints (toy 178 80) 95230 (negsuc 2) (pos 1) ≡ (pos 0 ∷ []) ∷ [])
unfolding hints toy one parts hint_vector vector_of polynomial_of product sum_below decompose
hint_after_part = (refl, refl)

-- the norm of z is below 178 less 78
norm_of_z : (checks 178 80 (pos 1) (pos 0) (pos 0) (pos 98) 0 ≡ true) × (checks 178 80 (pos 1) (pos 0) (pos 0) (pos 99) 0 ≡ false)
unfolding checks toy one parts passes_checks response low_vector ct0 hint_vector vector_of polynomial_of product sum_below centred decompose all_ones is_one
norm_of_z = (refl, refl)

-- that of r0 is below gamma2 less 78
norm_of_r0 : (checks 178 80 (pos 0) (pos 1) (pos 0) (pos 0) 95154 ≡ true) × (checks 178 80 (pos 0) (negsuc 0) (pos 0) (pos 0) 95153 ≡ false)
unfolding checks toy one parts passes_checks response low_vector ct0 hint_vector vector_of polynomial_of product sum_below centred decompose all_ones is_one
norm_of_r0 = (refl, refl)

-- that of c t0 is below gamma2
norm_of_ct0 : (checks 178 80 (pos 0) (pos 0) (pos 95231) (pos 0) 0 ≡ true) × (checks 178 80 (pos 0) (pos 0) (pos 95232) (pos 0) 0 ≡ false)
unfolding checks toy one parts passes_checks response low_vector ct0 hint_vector vector_of polynomial_of product sum_below centred decompose all_ones is_one
norm_of_ct0 = (refl, refl)

-- the hint has at most omega ones
ones_of_hint : (checks 178 1 (pos 0) (pos 0) (pos 200) (pos 0) 95100 ≡ true) × (checks 178 0 (pos 0) (pos 0) (pos 200) (pos 0) 95100 ≡ false)
unfolding checks toy one parts passes_checks response low_vector ct0 hint_vector vector_of polynomial_of product sum_below centred decompose all_ones is_one
ones_of_hint = (refl, refl)

-- as many polynomials as columns, and else as rows
rows_of_parts : (length (response set_65 (parts (pos 0) (pos 0) (pos 0)) [] (one (pos 0))) ≡ 5)
    × (length (low_vector set_65 (parts (pos 0) (pos 0) (pos 0)) (λ r n. 0) (one (pos 0))) ≡ 6)
    × (length (ct0 set_65 (parts (pos 0) (pos 0) (pos 0)) (one (pos 0))) ≡ 6)
    × (length (hint_vector set_65 (parts (pos 0) (pos 0) (pos 0)) (λ r n. 0) (one (pos 0))) ≡ 6)
unfolding one parts response low_vector ct0 hint_vector vector_of
rows_of_parts = (refl, refl, refl, refl)
