-- The three parameter sets: their numbers, what these have in common, and the lengths that follow.
use Rattle.std.proofs.Common.{rules, subst, ◌≡◌, ◌≢◌, ◌⊎◌, inl, inr, ℕ, ℤ, pos, negsuc, nat_abs, Bool, true, false, ◌&&◌, ◌||◌, IsTrue, refl, ap, sym, true≢false, eqb-true, ◌≤◌, ◌*◌, arith, ◌<◌, ◌+◌, ◌-◌, ◌/◌, ◌-ℤ◌, ◌≤ℤ◌, List, ◌∙◌, Some, int_le, nat_eq, if◌then◌else◌}
use Rattle.fips204.proofs.Names.{Params, ParameterSet, set_44, set_65, set_87, c_tilde_length, IsSet, PrivateParts, ArePrivateParts, IsGamma, HasSizes, set_of, ints, mul-le, width, bit_length, high_count, response_width, eta_width, R, small_vector, IsVector, small_vector-range}
use Rattle.fips204.specs.Rows.{same_parameters, is_parameter_set, parameter_set, are_parameters}

-- The rows of the parameter sets.

pub and_out : (x y : Bool) → IsTrue (x && y) → IsTrue x × IsTrue y
and_out true y t = (refl, t)
and_out false y t = absurd (true≢false (sym t))

pub or_out : (x y : Bool) → IsTrue (x || y) → IsTrue x ⊎ IsTrue y
or_out true y t = inl refl
or_out false y t = inr t

pub of_size : (x : ℤ) (n : ℕ) → IsTrue (int_le (pos 0) x) → nat_abs x ≡ n → x ≡ pos n
of_size (pos m) n t e = ap pos e
of_size (negsuc m) n t e = absurd (true≢false (sym t))

same_numbers : {tau lambda gamma1 gamma2 k l eta beta omega' tau' lambda' gamma1' gamma2' k' l' eta' beta' omega'' : ℕ}
    → tau ≡ tau' → lambda ≡ lambda' → gamma1 ≡ gamma1' → gamma2 ≡ gamma2' → k ≡ k' → l ≡ l' → eta ≡ eta' → beta ≡ beta' → omega' ≡ omega''
    → Path ParameterSet record { tau = tau; lambda = lambda; gamma1 = gamma1; gamma2 = gamma2; k = k; l = l; eta = eta; beta = beta; omega = omega' }
    record { tau = tau'; lambda = lambda'; gamma1 = gamma1'; gamma2 = gamma2'; k = k'; l = l'; eta = eta'; beta = beta'; omega = omega'' }
same_numbers a b c d e f g h i = cc

-- a set that agrees with another in each column is that set
same_set : (p row : ParameterSet) → IsTrue (same_parameters p row) → p ≡ row
same_set p row t =
    let s8 = and_out (nat_eq p.tau row.tau && nat_eq p.lambda row.lambda && nat_eq p.gamma1 row.gamma1 && nat_eq p.gamma2 row.gamma2 && nat_eq p.k row.k && nat_eq p.l row.l && nat_eq p.eta row.eta && nat_eq p.beta row.beta) (nat_eq p.omega row.omega) t in
    let s7 = and_out (nat_eq p.tau row.tau && nat_eq p.lambda row.lambda && nat_eq p.gamma1 row.gamma1 && nat_eq p.gamma2 row.gamma2 && nat_eq p.k row.k && nat_eq p.l row.l && nat_eq p.eta row.eta) (nat_eq p.beta row.beta) s8.0 in
    let s6 = and_out (nat_eq p.tau row.tau && nat_eq p.lambda row.lambda && nat_eq p.gamma1 row.gamma1 && nat_eq p.gamma2 row.gamma2 && nat_eq p.k row.k && nat_eq p.l row.l) (nat_eq p.eta row.eta) s7.0 in
    let s5 = and_out (nat_eq p.tau row.tau && nat_eq p.lambda row.lambda && nat_eq p.gamma1 row.gamma1 && nat_eq p.gamma2 row.gamma2 && nat_eq p.k row.k) (nat_eq p.l row.l) s6.0 in
    let s4 = and_out (nat_eq p.tau row.tau && nat_eq p.lambda row.lambda && nat_eq p.gamma1 row.gamma1 && nat_eq p.gamma2 row.gamma2) (nat_eq p.k row.k) s5.0 in
    let s3 = and_out (nat_eq p.tau row.tau && nat_eq p.lambda row.lambda && nat_eq p.gamma1 row.gamma1) (nat_eq p.gamma2 row.gamma2) s4.0 in
    let s2 = and_out (nat_eq p.tau row.tau && nat_eq p.lambda row.lambda) (nat_eq p.gamma1 row.gamma1) s3.0 in
    let s1 = and_out (nat_eq p.tau row.tau) (nat_eq p.lambda row.lambda) s2.0 in
    same_numbers (eqb-true p.tau row.tau s1.0) (eqb-true p.lambda row.lambda s1.1) (eqb-true p.gamma1 row.gamma1 s2.1) (eqb-true p.gamma2 row.gamma2 s3.1)
    (eqb-true p.k row.k s4.1) (eqb-true p.l row.l s5.1) (eqb-true p.eta row.eta s6.1) (eqb-true p.beta row.beta s7.1) (eqb-true p.omega row.omega s8.1)

-- it is one of the three
one_of_sets : (p : ParameterSet) → IsTrue (is_parameter_set p) → (p ≡ set_44) ⊎ ((p ≡ set_65) ⊎ (p ≡ set_87))
one_of_sets p t = elim (or_out (same_parameters p set_44 || same_parameters p set_65) (same_parameters p set_87) t) [
  | inl y ↦ elim (or_out (same_parameters p set_44) (same_parameters p set_65) y) [
    | inl x ↦ inl (same_set p set_44 x)
    | inr x ↦ inr (inl (same_set p set_65 x))
  ]
  | inr x ↦ inr (inr (same_set p set_87 x))
]

-- what holds of each of the three holds of it
pub of_each_set : (P : ParameterSet → Type 0) (p : ParameterSet) → IsSet p → P set_44 → P set_65 → P set_87 → P p
of_each_set P p t x y z = elim t [
  | inl e ↦ subst P (sym e) x
  | inr (inl e) ↦ subst P (sym e) y
  | inr (inr e) ↦ subst P (sym e) z
]

-- the numbers of a set in signed words
pub record Numbers (row : ParameterSet) (tau : ℤ) (lambda : ℕ) (gamma1 gamma2 : ℤ) (k l : ℕ) (eta beta omega' : ℤ) : Type 0 where
  pub tau_is : tau ≡ pos row.tau
  pub lambda_is : lambda ≡ row.lambda
  pub gamma1_is : gamma1 ≡ pos row.gamma1
  pub gamma2_is : gamma2 ≡ pos row.gamma2
  pub k_is : k ≡ row.k
  pub l_is : l ≡ row.l
  pub eta_is : eta ≡ pos row.eta
  pub beta_is : beta ≡ pos row.beta
  pub omega_is : omega' ≡ pos row.omega

-- numbers of a row are those of the first, the second or the third set
pub rows : (tau : ℤ) (lambda : ℕ) (gamma1 gamma2 : ℤ) (k l : ℕ) (eta beta omega' : ℤ) → IsTrue (are_parameters tau lambda gamma1 gamma2 k l eta beta omega')
    → Numbers set_44 tau lambda gamma1 gamma2 k l eta beta omega' ⊎ (Numbers set_65 tau lambda gamma1 gamma2 k l eta beta omega' ⊎ Numbers set_87 tau lambda gamma1 gamma2 k l eta beta omega')
rows tau lambda gamma1 gamma2 k l eta beta omega' t =
    let p = parameter_set tau lambda gamma1 gamma2 k l eta beta omega' in
    let s6 = and_out (is_parameter_set p && int_le (pos 0) tau && int_le (pos 0) gamma1 && int_le (pos 0) gamma2 && int_le (pos 0) eta && int_le (pos 0) beta) (int_le (pos 0) omega') t in
    let s5 = and_out (is_parameter_set p && int_le (pos 0) tau && int_le (pos 0) gamma1 && int_le (pos 0) gamma2 && int_le (pos 0) eta) (int_le (pos 0) beta) s6.0 in
    let s4 = and_out (is_parameter_set p && int_le (pos 0) tau && int_le (pos 0) gamma1 && int_le (pos 0) gamma2) (int_le (pos 0) eta) s5.0 in
    let s3 = and_out (is_parameter_set p && int_le (pos 0) tau && int_le (pos 0) gamma1) (int_le (pos 0) gamma2) s4.0 in
    let s2 = and_out (is_parameter_set p && int_le (pos 0) tau) (int_le (pos 0) gamma1) s3.0 in
    let s1 = and_out (is_parameter_set p) (int_le (pos 0) tau) s2.0 in
    let numbers : (row : ParameterSet) → p ≡ row → Numbers row tau lambda gamma1 gamma2 k l eta beta omega' = λ row e. record {
      tau_is = of_size tau row.tau s1.1 (ap (λ (q : ParameterSet). q.tau) e);
      lambda_is = ap (λ (q : ParameterSet). q.lambda) e;
      gamma1_is = of_size gamma1 row.gamma1 s2.1 (ap (λ (q : ParameterSet). q.gamma1) e);
      gamma2_is = of_size gamma2 row.gamma2 s3.1 (ap (λ (q : ParameterSet). q.gamma2) e);
      k_is = ap (λ (q : ParameterSet). q.k) e;
      l_is = ap (λ (q : ParameterSet). q.l) e;
      eta_is = of_size eta row.eta s4.1 (ap (λ (q : ParameterSet). q.eta) e);
      beta_is = of_size beta row.beta s5.1 (ap (λ (q : ParameterSet). q.beta) e);
      omega_is = of_size omega' row.omega s6.1 (ap (λ (q : ParameterSet). q.omega) e);
    } in
    elim (one_of_sets p s1.0) [
      | inl e ↦ inl (numbers set_44 e)
      | inr (inl e) ↦ inr (inl (numbers set_65 e))
      | inr (inr e) ↦ inr (inr (numbers set_87 e))
    ]

-- the set of numbers of a row is the row
row-set : (row : ParameterSet) (tau : ℤ) (lambda : ℕ) (gamma1 gamma2 : ℤ) (k l : ℕ) (eta beta omega' : ℤ)
    → Numbers row tau lambda gamma1 gamma2 k l eta beta omega' → parameter_set tau lambda gamma1 gamma2 k l eta beta omega' ≡ row
row-set row tau lambda gamma1 gamma2 k l eta beta omega' n = rw (n.tau_is, n.lambda_is, n.gamma1_is, n.gamma2_is, n.k_is, n.l_is, n.eta_is, n.beta_is, n.omega_is) refl

-- What the numbers of a parameter set have to do with one another.

-- eta by the rows of the matrix, as the type of a private key has it
abbrev pub eta_of_rows : ℕ → ℕ
eta_of_rows k = if nat_eq k 6 then 4 else 2

pub record AreSetNumbers (p : ParameterSet) : Type 0 where
  pub beta : p.tau * p.eta ≡ p.beta
  pub gamma1 : (p.gamma1 ≡ 131072) ⊎ (p.gamma1 ≡ 524288)
  pub gamma2 : IsGamma p.gamma2
  pub eta : p.eta ≡ eta_of_rows p.k
  pub small : (p.eta ≡ 2) ⊎ (p.eta ≡ 4)
  pub short : c_tilde_length p ≤ 64
  pub signs : (1 ≤ p.tau) × (p.tau ≤ 64)
  pub rows : (1 ≤ p.k) × (p.k ≤ 8)
  pub columns : (1 ≤ p.l) × (p.l ≤ 7)
  pub ones : (1 ≤ p.omega) × (p.omega + p.k < 256)
  pub small_beta : p.beta ≤ 196

numbers_44 : AreSetNumbers set_44
numbers_44 = search rules

numbers_65 : AreSetNumbers set_65
numbers_65 = search rules

numbers_87 : AreSetNumbers set_87
numbers_87 = search rules

pub set_numbers : (p : ParameterSet) → IsSet p → AreSetNumbers p
set_numbers p t = of_each_set AreSetNumbers p t numbers_44 numbers_65 numbers_87

-- What the three rows of the parameter sets have in common.

-- whether the numbers of a value are those of a set, as its type says
abbrev pub IsKnown : Params → Type 0
IsKnown p = IsTrue (are_parameters p.tau p.lambda p.gamma1 p.gamma2 p.k p.l p.eta p.beta p.omega)

-- the ranges of a set's numbers
pub record Limits (p : Params) : Type 0 where
  pub mask : (p.gamma1 ≡ pos 131072) ⊎ (p.gamma1 ≡ pos 524288)
  pub rounding : (p.gamma2 ≡ pos 95232) ⊎ (p.gamma2 ≡ pos 261888)
  pub some_signs : pos 1 ≤ℤ p.tau
  pub few_signs : p.tau ≤ℤ pos 64
  pub short : p.lambda / 4 ≤ 64
  pub some_rows : 1 ≤ p.k
  pub few_rows : p.k ≤ 8
  pub some_columns : 1 ≤ p.l
  pub few_columns : p.l ≤ 7
  pub some_ones : pos 1 ≤ℤ p.omega
  pub hint_size : nat_abs p.omega + p.k < 256
  pub z_room : nat_abs p.beta ≤ nat_abs p.gamma1
  pub r0_room : nat_abs p.beta ≤ nat_abs p.gamma2
  pub eta : (p.eta ≡ pos 2) ⊎ (p.eta ≡ pos 4)
  pub small_low : nat_abs p.gamma2 ≤ 261888

signed : (x a b : ℕ) → (x ≡ a) ⊎ (x ≡ b) → (pos x ≡ pos a) ⊎ (pos x ≡ pos b)
signed x a b (inl e) = inl (ap pos e)
signed x a b (inr e) = inr (ap pos e)

limits_of : (p : Params) (row : ParameterSet) → Numbers row p.tau p.lambda p.gamma1 p.gamma2 p.k p.l p.eta p.beta p.omega
    → AreSetNumbers row → Limits p
limits_of p row n s = record {
  mask = rw n.gamma1_is (signed row.gamma1 131072 524288 s.gamma1);
  rounding = rw n.gamma2_is (signed row.gamma2 95232 261888 s.gamma2);
  some_signs = rw n.tau_is (omega (arith, ints, s.signs));
  few_signs = rw n.tau_is (omega (arith, ints, s.signs));
  short = rw n.lambda_is s.short;
  some_rows = rw n.k_is s.rows.0;
  few_rows = rw n.k_is s.rows.1;
  some_columns = rw n.l_is s.columns.0;
  few_columns = rw n.l_is s.columns.1;
  some_ones = rw n.omega_is (omega (arith, ints, s.ones));
  hint_size = rw (n.omega_is, n.k_is) s.ones.1;
  z_room = rw (n.gamma1_is, n.beta_is) (omega (arith, s.gamma1, s.small_beta));
  r0_room = rw (n.gamma2_is, n.beta_is) (omega (arith, s.gamma2, s.small_beta));
  eta = rw n.eta_is (signed row.eta 2 4 s.small);
  small_low = rw n.gamma2_is (omega (arith, s.gamma2));
}

pub limits : (p : Params) → IsKnown p → Limits p
limits p t = elim (rows p.tau p.lambda p.gamma1 p.gamma2 p.k p.l p.eta p.beta p.omega t) [
  | inl n ↦ limits_of p set_44 n numbers_44
  | inr (inl n) ↦ limits_of p set_65 n numbers_65
  | inr (inr n) ↦ limits_of p set_87 n numbers_87
]

-- the numbers of a row make a set
pub known-set : (p : Params) → IsKnown p → IsSet (set_of p)
known-set p t = elim (rows p.tau p.lambda p.gamma1 p.gamma2 p.k p.l p.eta p.beta p.omega t) [
  | inl n ↦ inl (row-set set_44 p.tau p.lambda p.gamma1 p.gamma2 p.k p.l p.eta p.beta p.omega n)
  | inr (inl n) ↦ inr (inl (row-set set_65 p.tau p.lambda p.gamma1 p.gamma2 p.k p.l p.eta p.beta p.omega n))
  | inr (inr n) ↦ inr (inr (row-set set_87 p.tau p.lambda p.gamma1 p.gamma2 p.k p.l p.eta p.beta p.omega n))
]

-- ---- the bytes of a high part

bytes_of_high_part : ℤ → ℕ → ℕ
bytes_of_high_part gamma2 k = 32 * width (pos 0) (pos (high_count (nat_abs gamma2) - 1)) * k

size_at : (gamma2 bound : ℤ) (k rows : ℕ) → gamma2 ≡ bound → k ≡ rows → bytes_of_high_part gamma2 k ≡ bytes_of_high_part bound rows
size_at gamma2 bound k rows e f = rw (e, f) refl

-- they are 1024 where the matrix has eight rows, and else 768
pub high_part-size : (p : Params) → IsKnown p → (p.k ≡ 8 → 32 * width (pos 0) (pos (high_count (nat_abs p.gamma2) - 1)) * p.k ≡ 1024) × (p.k ≢ 8 → 32 * width (pos 0) (pos (high_count (nat_abs p.gamma2) - 1)) * p.k ≡ 768)
unfolding bit_length bytes_of_high_part
high_part-size p t = elim (rows p.tau p.lambda p.gamma1 p.gamma2 p.k p.l p.eta p.beta p.omega t) [
  | inl n ↦ (λ e. absurd (omega (arith, e, n.k_is)), λ other. size_at p.gamma2 (pos 95232) p.k 4 n.gamma2_is n.k_is)
  | inr (inl n) ↦ (λ e. absurd (omega (arith, e, n.k_is)), λ other. size_at p.gamma2 (pos 261888) p.k 6 n.gamma2_is n.k_is)
  | inr (inr n) ↦ (λ e. size_at p.gamma2 (pos 261888) p.k 8 n.gamma2_is n.k_is, λ other. absurd (other n.k_is))
]

-- gamma2 without its sign
pub rounding-size : (gamma2 : ℤ) → (gamma2 ≡ pos 95232) ⊎ (gamma2 ≡ pos 261888) → (nat_abs gamma2 ≡ 95232) ⊎ (nat_abs gamma2 ≡ 261888)
rounding-size gamma2 (inl e) = inl (rw e refl)
rounding-size gamma2 (inr e) = inr (rw e refl)

pub rounding-some : (gamma2 : ℤ) → (gamma2 ≡ pos 95232) ⊎ (gamma2 ≡ pos 261888) → pos 0 ≤ℤ gamma2
rounding-some gamma2 (inl e) = rw e (omega (arith, ints))
rounding-some gamma2 (inr e) = rw e (omega (arith, ints))

-- a matrix fits
pub matrix_room : (k l : ℕ) → k ≤ 8 → l ≤ 7 → k * (l * 1024) < 9223372036854775808
matrix_room k l h m = let bound = mul-le k (l * 1024) 8 7168 h (omega (arith, m)) in omega (arith, bound)

-- what a signature's encoder and decoder ask of the lengths
pub record IsSignatureShape (gamma1 ones : ℤ) (k l n size : ℕ) : Type 0 where
  pub set : (gamma1 ≡ pos 131072) ⊎ (gamma1 ≡ pos 524288)
  pub some : pos 1 ≤ℤ ones
  pub hint_size : nat_abs ones + k < 256
  pub whole : size ≡ n + 32 * width (gamma1 -ℤ pos 1) gamma1 * l + (nat_abs ones + k)

pub signature-shape : (p : Params) (gamma1 ones : ℤ) (k l n size : ℕ) → IsKnown p → HasSizes (set_of p) k l size → n ≡ c_tilde_length (set_of p)
    → gamma1 ≡ p.gamma1 → ones ≡ p.omega → IsSignatureShape gamma1 ones k l n size
signature-shape p gamma1 ones k l n size known sizes commitment m o =
    let some = limits p known in
    record {
      set = rw m some.mask;
      some = rw o some.some_ones;
      hint_size = rw (o, sizes.rows) some.hint_size;
      whole = sizes.signature ∙ rw (m, o, sizes.rows, sizes.columns, commitment, response_width p.gamma1 some.mask) (omega arith);
    }

pub mask-size : (gamma1 : ℤ) → (gamma1 ≡ pos 131072) ⊎ (gamma1 ≡ pos 524288) → (1 ≤ nat_abs gamma1) × (nat_abs gamma1 ≤ 524288)
mask-size gamma1 (inl e) = rw e (omega arith, omega arith)
mask-size gamma1 (inr e) = rw e (omega arith, omega arith)

-- What the rows of the parameter sets say of keys.

eta_size : (eta : ℤ) → (eta ≡ pos 2) ⊎ (eta ≡ pos 4) → (nat_abs eta ≡ 2) ⊎ (nat_abs eta ≡ 4)
eta_size eta (inl e) = inl (ap nat_abs e)
eta_size eta (inr e) = inr (ap nat_abs e)

-- the range of a small vector
pub small_vector-parts : (p : Params) (H : List ℕ → List ℕ) (rho : List ℕ) (first count : ℕ) (v : List R) → IsKnown p
    → small_vector (nat_abs p.eta) H rho first count ≡ Some v → IsVector count (nat_abs p.eta) (nat_abs p.eta) v
small_vector-parts p H rho first count v t e = small_vector-range (nat_abs p.eta) H rho first count v (eta_size p.eta (limits p t).eta) e

-- the bytes of a private key, part by part
pub private_key-size : (eta : ℤ) (K L k l size : ℕ) → (eta ≡ pos 2) ⊎ (eta ≡ pos 4) → K ≡ k → L ≡ l
    → size ≡ 128 + 32 * ((l + k) * width (pos (nat_abs eta)) (pos (nat_abs eta)) + k * 13)
    → size ≡ 128 + 32 * width eta eta * L + 32 * width eta eta * K + 416 * K
private_key-size eta K L k l size set rows columns e =
    let w = eta_width eta set in
    rw (w, rows, columns) (omega (arith, e))

-- the ranges of a private key's parts, at the set and by the rows of the matrix
pub parts_at_set : (p : ParameterSet) (k l : ℕ) (sk : PrivateParts) → IsSet p → k ≡ p.k → ArePrivateParts (eta_of_rows k) k l sk → ArePrivateParts p.eta k l sk
parts_at_set p k l sk row rows parts = subst (λ m. ArePrivateParts m k l sk) (ap eta_of_rows rows ∙ sym (set_numbers p row).eta) parts

pub parts_by_rows : (p : Params) (k l : ℕ) (sk : PrivateParts) → IsKnown p → k ≡ p.k → ArePrivateParts (nat_abs p.eta) k l sk → ArePrivateParts (eta_of_rows k) k l sk
parts_by_rows p k l sk known rows parts = subst (λ m. ArePrivateParts m k l sk) ((set_numbers (set_of p) (known-set p known)).eta ∙ ap eta_of_rows (sym rows)) parts

-- eta has no sign
pub eta-some : (p : Params) → IsKnown p → pos (nat_abs p.eta) ≡ p.eta
eta-some p t = elim (limits p t).eta [
  | inl e ↦ rw e refl
  | inr e ↦ rw e refl
]

-- a matrix of these rows and columns
pub matrix-shape : (p : Params) (K L : ℕ) → IsKnown p → K ≡ p.k → L ≡ p.l → (K * (L * 1024) < 9223372036854775808) × ((K ≤ 8) × (L ≤ 7))
matrix-shape p K L t rows_are columns_are =
    let all = limits p t in
    let few_rows : K ≤ 8 = omega (arith, rows_are, all.few_rows) in
    let few_columns : L ≤ 7 = omega (arith, columns_are, all.few_columns) in
    (matrix_room K L few_rows few_columns, (few_rows, few_columns))

-- coefficients of s1 and s2 are small
pub eta-small : (p : Params) → IsKnown p → nat_abs p.eta ≤ 8380416
eta-small p t = elim (limits p t).eta [
  | inl e ↦ rw e (omega arith)
  | inr e ↦ rw e (omega arith)
]
