-- Base64 group by group.
use Rattle.std.proofs.Common.{◌≡◌, ℕ, suc, ◌+◌, ◌-◌, ◌*◌, ◌/◌, ◌%◌, ◌<◌, ◌≤◌, ◌^◌, inl, inr, Bool, true, false, eqb, ltb, not, ◌&&◌, map, replicate, List, [], ◌∷◌, ◌++◌, length, Result, Ok, Err, refl, sym, ap, ◌∙◌, append_assoc, arith}
use Rattle.std.proofs.lemmas.Bool.{eqb-true, cases_lt}
use Rattle.std.proofs.lemmas.Bool.Decides.{nat_tests}
use Rattle.std.proofs.lemmas.List.{append-nil}
use Rattle.fips204_shake.specs.Reading.{◌>>=◌}
use Rattle.fips204_shake.specs.Base64.{symbol, base64, bits, bits_of, sixes, six, pad}
use Rattle.fips204_shake.specs.Base64Reading.{group_at, symbols_at}
use Rattle.fips204_shake.specs.declared.pem.fault.PemFault.{PemFault}
use Rattle.fips204_shake.specs.declared.pem.fault.PemFault.TheVariants.{Damaged, TooLong}
use Rattle.fips204_base.proofs.Roots.{all_below, at_index}

-- what is read behind these bytes
abbrev pub behind : List ℕ → Result (List ℕ) PemFault → Result (List ℕ) PemFault
behind front read = read >>= (λ others. Ok (front ++ others))

behind_twice : (front group : List ℕ) (read : Result (List ℕ) PemFault) → behind front (behind group read) ≡ behind (front ++ group) read
behind_twice front group (Ok others) = ap Ok (sym (append_assoc front group others))
behind_twice front group (Err fault) = refl

-- four symbols that are read
pub group_read : (room a b c d : ℕ) (rest group : List ℕ) → group_at a b c d ≡ Ok group → (length group < 3 → rest ≡ []) → length group ≤ room
    → symbols_at room (a ∷ b ∷ c ∷ d ∷ rest) ≡ behind group (symbols_at (room - length group) rest)
unfolding symbols_at
group_read room a b c d rest group is last fits =
    let enough : ltb room (length group) ≡ false = grind (arith, nat_tests) in
    elim (cases_lt (length group) 3) [
      | inl short ↦
          let few : ltb (length group) 3 ≡ true = grind (arith, nat_tests) in
          rw (is, last short, few, enough) refl
      | inr long ↦
          let many : ltb (length group) 3 ≡ false = grind (arith, nat_tests) in
          rw (is, many, enough) refl
    ]

-- fewer than four symbols
pub too_few : (room a : ℕ) (others : List ℕ) → length others < 3 → symbols_at room (a ∷ others) ≡ Err Damaged
unfolding symbols_at
too_few room a [] few = refl
too_few room a (b ∷ []) few = refl
too_few room a (b ∷ c ∷ []) few = refl
too_few room a (b ∷ c ∷ d ∷ rest) few = absurd (omega arith)

abbrev followed_by : List ℕ → List ℕ → Bool
followed_by group rest = ltb (length group) 3 && not (eqb (length rest) 0)

-- a step of the loop: what was read so far stands before what is read of the rest

pub step_few : (room a : ℕ) (others front : List ℕ) (rest : List ℕ) (all : Result (List ℕ) PemFault) → all ≡ behind front (symbols_at room rest)
    → rest ≡ a ∷ others → length others < 3 → all ≡ Err Damaged
step_few room a others front rest all so_far is few = so_far ∙ ap (λ (z : List ℕ). behind front (symbols_at room z)) is ∙ ap (behind front) (too_few room a others few)

pub step_refused : (room a b c d : ℕ) (front rest after : List ℕ) (fault : PemFault) (all : Result (List ℕ) PemFault) → all ≡ behind front (symbols_at room rest)
    → rest ≡ a ∷ b ∷ c ∷ d ∷ after → group_at a b c d ≡ Err fault → all ≡ Err fault
unfolding symbols_at
step_refused room a b c d front rest after fault all so_far is bad = rw (so_far, is, bad) refl

pub step_followed : (room a b c d : ℕ) (front rest after group : List ℕ) (all : Result (List ℕ) PemFault) → all ≡ behind front (symbols_at room rest)
    → rest ≡ a ∷ b ∷ c ∷ d ∷ after → group_at a b c d ≡ Ok group → followed_by group after ≡ true → all ≡ Err Damaged
unfolding symbols_at
step_followed room a b c d front rest after group all so_far is good more = rw (so_far, is, good, more) refl

pub step_too_long : (room a b c d : ℕ) (front rest after group : List ℕ) (all : Result (List ℕ) PemFault) → all ≡ behind front (symbols_at room rest)
    → rest ≡ a ∷ b ∷ c ∷ d ∷ after → group_at a b c d ≡ Ok group → followed_by group after ≡ false → room < length group → all ≡ Err TooLong
unfolding symbols_at
step_too_long room a b c d front rest after group all so_far is good last over =
    let full : ltb room (length group) ≡ true = grind (arith, nat_tests) in
    rw (so_far, is, good, last, full) refl

pub step_read : (room at next a b c d : ℕ) (front written rest after group : List ℕ) (all : Result (List ℕ) PemFault)
    → all ≡ behind front (symbols_at (room - at) rest) → rest ≡ a ∷ b ∷ c ∷ d ∷ after → group_at a b c d ≡ Ok group → followed_by group after ≡ false
    → length group ≤ room - at → next ≡ at + length group → written ≡ front ++ group → all ≡ behind written (symbols_at (room - next) after)
unfolding symbols_at
step_read room at next a b c d front written rest after group all so_far is good last fits place put =
    let enough : ltb (room - at) (length group) ≡ false = grind (arith, nat_tests) in
    let left : room - at - length group ≡ room - next = omega arith in
    let here : symbols_at (room - at) (a ∷ b ∷ c ∷ d ∷ after) ≡ behind group (symbols_at (room - next) after) = rw (good, last, enough, left) refl in
    so_far ∙ ap (λ (z : List ℕ). behind front (symbols_at (room - at) z)) is ∙ ap (behind front) here
    ∙ behind_twice front group (symbols_at (room - next) after) ∙ ap (λ (z : List ℕ). behind z (symbols_at (room - next) after)) (sym put)

pub step_done : (room : ℕ) (front rest : List ℕ) (all : Result (List ℕ) PemFault) → all ≡ behind front (symbols_at room rest) → rest ≡ [] → all ≡ Ok front
unfolding symbols_at
step_done room front rest all so_far none = so_far ∙ ap (λ (z : List ℕ). behind front (symbols_at room z)) none ∙ ap Ok (append-nil front)

-- ---- the bits of a byte, cut after two, four or six

abbrev bit : ℕ → ℕ → ℕ
bit x w = x / 2 ^ w % 2

first_six_tested : all_below 256 (λ x. eqb (six (bit x 7) (bit x 6) (bit x 5) (bit x 4) (bit x 3) (bit x 2)) (x / 4)) ≡ true
first_six_tested = refl

first_four_tested : all_below 256 (λ x. eqb (8 * bit x 7 + 4 * bit x 6 + 2 * bit x 5 + bit x 4) (x / 16)) ≡ true
first_four_tested = refl

first_two_tested : all_below 256 (λ x. eqb (2 * bit x 7 + bit x 6) (x / 64)) ≡ true
first_two_tested = refl

last_two_tested : all_below 256 (λ x. eqb (2 * bit x 1 + bit x 0) (x % 4)) ≡ true
last_two_tested = refl

last_four_tested : all_below 256 (λ x. eqb (8 * bit x 3 + 4 * bit x 2 + 2 * bit x 1 + bit x 0) (x % 16)) ≡ true
last_four_tested = refl

last_six_tested : all_below 256 (λ x. eqb (six (bit x 5) (bit x 4) (bit x 3) (bit x 2) (bit x 1) (bit x 0)) (x % 64)) ≡ true
last_six_tested = refl

first_six : (x : ℕ) → x < 256 → six (bit x 7) (bit x 6) (bit x 5) (bit x 4) (bit x 3) (bit x 2) ≡ x / 4
first_six x small = eqb-true _ _ (at_index 256 (λ x. eqb (six (bit x 7) (bit x 6) (bit x 5) (bit x 4) (bit x 3) (bit x 2)) (x / 4)) first_six_tested x small)

last_six : (x : ℕ) → x < 256 → six (bit x 5) (bit x 4) (bit x 3) (bit x 2) (bit x 1) (bit x 0) ≡ x % 64
last_six x small = eqb-true _ _ (at_index 256 (λ x. eqb (six (bit x 5) (bit x 4) (bit x 3) (bit x 2) (bit x 1) (bit x 0)) (x % 64)) last_six_tested x small)

first_four : (x : ℕ) → x < 256 → 8 * bit x 7 + 4 * bit x 6 + 2 * bit x 5 + bit x 4 ≡ x / 16
first_four x small = eqb-true _ _ (at_index 256 (λ x. eqb (8 * bit x 7 + 4 * bit x 6 + 2 * bit x 5 + bit x 4) (x / 16)) first_four_tested x small)

first_two : (x : ℕ) → x < 256 → 2 * bit x 7 + bit x 6 ≡ x / 64
first_two x small = eqb-true _ _ (at_index 256 (λ x. eqb (2 * bit x 7 + bit x 6) (x / 64)) first_two_tested x small)

last_two : (x : ℕ) → x < 256 → 2 * bit x 1 + bit x 0 ≡ x % 4
last_two x small = eqb-true _ _ (at_index 256 (λ x. eqb (2 * bit x 1 + bit x 0) (x % 4)) last_two_tested x small)

last_four : (x : ℕ) → x < 256 → 8 * bit x 3 + 4 * bit x 2 + 2 * bit x 1 + bit x 0 ≡ x % 16
last_four x small = eqb-true _ _ (at_index 256 (λ x. eqb (8 * bit x 3 + 4 * bit x 2 + 2 * bit x 1 + bit x 0) (x % 16)) last_four_tested x small)

two_and_four : (u1 u0 w3 w2 w1 w0 u w : ℕ) → 2 * u1 + u0 ≡ u → 8 * w3 + 4 * w2 + 2 * w1 + w0 ≡ w → six u1 u0 w3 w2 w1 w0 ≡ 16 * u + w
two_and_four u1 u0 w3 w2 w1 w0 u w eu ew = omega arith

four_and_two : (u3 u2 u1 u0 w1 w0 u w : ℕ) → 8 * u3 + 4 * u2 + 2 * u1 + u0 ≡ u → 2 * w1 + w0 ≡ w → six u3 u2 u1 u0 w1 w0 ≡ 4 * u + w
four_and_two u3 u2 u1 u0 w1 w0 u w eu ew = omega arith

-- ---- the symbols of three bytes, two, or one

pub of_none : base64 [] ≡ []
unfolding base64 bits sixes
of_none = refl

same_four : (a b c d e f g h : ℕ) (xs ys : List ℕ) → a ≡ e → b ≡ f → c ≡ g → d ≡ h → xs ≡ ys → symbol a ∷ symbol b ∷ symbol c ∷ symbol d ∷ xs ≡ symbol e ∷ symbol f ∷ symbol g ∷ symbol h ∷ ys
same_four a b c d e f g h xs ys ae bf cg dh same = rw (ae, bf, cg, dh, same) refl

same_three : (a b c e f g : ℕ) (xs : List ℕ) → a ≡ e → b ≡ f → c ≡ g → symbol a ∷ symbol b ∷ symbol c ∷ xs ≡ symbol e ∷ symbol f ∷ symbol g ∷ xs
same_three a b c e f g xs ae bf cg = rw (ae, bf, cg) refl

same_two : (a b e f : ℕ) (xs : List ℕ) → a ≡ e → b ≡ f → symbol a ∷ symbol b ∷ xs ≡ symbol e ∷ symbol f ∷ xs
same_two a b e f xs ae bf = rw (ae, bf) refl

pub of_three : (a b c : ℕ) (rest : List ℕ) → a < 256 → b < 256 → c < 256
    → base64 (a ∷ b ∷ c ∷ rest) ≡ symbol (a / 4) ∷ symbol (16 * (a % 4) + b / 16) ∷ symbol (4 * (b % 16) + c / 64) ∷ symbol (c % 64) ∷ base64 rest
unfolding base64 bits bits_of sixes
of_three a b c rest sa sb sc =
    let count : (3 - suc (suc (suc (length rest))) % 3) % 3 ≡ (3 - length rest % 3) % 3 = omega arith in
    same_four _ _ _ _ _ _ _ _ _ _ (first_six a sa) (two_and_four _ _ _ _ _ _ _ _ (last_two a sa) (first_four b sb))
    (four_and_two _ _ _ _ _ _ _ _ (last_four b sb) (first_two c sc)) (last_six c sc)
    (ap (λ (n : ℕ). map symbol (sixes (bits rest)) ++ replicate n pad) count)

pub of_two : (a b : ℕ) → a < 256 → b < 256 → base64 (a ∷ b ∷ []) ≡ symbol (a / 4) ∷ symbol (16 * (a % 4) + b / 16) ∷ symbol (4 * (b % 16)) ∷ pad ∷ []
unfolding base64 bits bits_of sixes
of_two a b sa sb =
    let last : six (bit b 3) (bit b 2) (bit b 1) (bit b 0) 0 0 ≡ 4 * (b % 16) = omega (arith, last_four b sb) in
    same_three _ _ _ _ _ _ (pad ∷ []) (first_six a sa) (two_and_four _ _ _ _ _ _ _ _ (last_two a sa) (first_four b sb)) last

pub of_one : (a : ℕ) → a < 256 → base64 (a ∷ []) ≡ symbol (a / 4) ∷ symbol (16 * (a % 4)) ∷ pad ∷ pad ∷ []
unfolding base64 bits bits_of sixes
of_one a sa =
    let last : six (bit a 1) (bit a 0) 0 0 0 0 ≡ 16 * (a % 4) = omega (arith, last_two a sa) in
    same_two _ _ _ _ (pad ∷ pad ∷ []) (first_six a sa) last
