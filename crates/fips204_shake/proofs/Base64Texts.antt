-- What is read of symbols is what they spell, and what they spell is read.
use Rattle.std.proofs.Common.{◌≡◌, ℕ, zero, suc, ◌+◌, ◌-◌, ◌*◌, ◌/◌, ◌%◌, ◌<◌, ◌≤◌, inl, inr, Bool, true, false, cond, eqb, ltb, not, ◌&&◌, List, [], ◌∷◌, ◌++◌, length, Result, Ok, Err, refl, sym, ap, subst, ◌∙◌, arith}
use Rattle.std.specs.List.{list_all}
use Rattle.std.proofs.lemmas.Bool.{eqb-true, ltb-true, ltb-false}
use Rattle.std.proofs.lemmas.Bool.Decides.{nat_tests}
use Rattle.std.proofs.lemmas.List.{length-append}
use Rattle.std.proofs.lemmas.List.Sums.{passes_at_first}
use Rattle.fips204_shake.specs.Base64.{alphabet, symbol, base64, base64_length, pad, IsBytes}
use Rattle.fips204_shake.specs.Base64Reading.{value_of, three_bytes, two_bytes, one_byte, group_at, symbols_at}
use Rattle.fips204_shake.specs.declared.pem.fault.PemFault.TheVariants.{Damaged, TooLong}
use Rattle.fips204_base.proofs.Roots.{all_below, at_index}
use Rattle.fips204_shake.proofs.Elements.{bind_ok, chosen, ok_is, met, passed}
use Rattle.fips204_shake.proofs.Base64Groups.{behind, group_read, of_none, of_three, of_two, of_one}

-- ---- symbols and their numbers

value_tested : all_below 64 (λ value. eqb (value_of (symbol value)) value) ≡ true
unfolding value_of symbol alphabet
value_tested = refl

value_again : (value : ℕ) → value < 64 → value_of (symbol value) ≡ value
value_again value small = eqb-true _ _ (at_index 64 (λ value. eqb (value_of (symbol value)) value) value_tested value small)

no_pad_tested : all_below 64 (λ value. not (eqb (symbol value) pad)) ≡ true
unfolding symbol alphabet
no_pad_tested = refl

not_true : (b : Bool) → not b ≡ true → b ≡ false
not_true true e = absurd cc
not_true false e = refl

no_pad : (value : ℕ) → value < 64 → eqb (symbol value) pad ≡ false
no_pad value small = not_true _ (at_index 64 (λ value. not (eqb (symbol value) pad)) no_pad_tested value small)

symbol_again : (byte : ℕ) → value_of byte < 64 → symbol (value_of byte) ≡ byte
unfolding value_of symbol alphabet
symbol_again byte small = eqb-true _ _ (passes_at_first (λ symbol. eqb symbol byte) alphabet 0 small)

-- ---- what is read

-- both of two tests
pub both_true : (a b : Bool) → (a && b) ≡ true → (a ≡ true) × (b ≡ true)
both_true true b e = (refl, e)
both_true false b e = absurd cc

pub bytes_none : IsBytes []
bytes_none k = omega arith

pub bytes_more : (byte : ℕ) (bytes : List ℕ) → byte < 256 → IsBytes bytes → IsBytes (byte ∷ bytes)
bytes_more byte bytes small all zero = small
bytes_more byte bytes small all (suc k) = all k

bytes_joined : (front bytes : List ℕ) → IsBytes front → IsBytes bytes → IsBytes (front ++ bytes)
bytes_joined [] bytes first all = all
bytes_joined (byte ∷ front) bytes first all = bytes_more byte (front ++ bytes) (first 0) (bytes_joined front bytes (λ k. first (suc k)) all)

-- a test that fails where it is true
failed_not : {A E : Type 0} (b : Bool) (fault : E) (then : Result A E) (y : A) → cond b (Err fault) then ≡ Ok y → (b ≡ false) × (then ≡ Ok y)
failed_not true fault then y e = absurd cc
failed_not false fault then y e = (refl, e)

-- the bytes of four symbols, and what they are with those of others, which follow only three bytes
record GroupFound (a b c d : ℕ) (group : List ℕ) : Type 0 where
  bytes : IsBytes group
  is : (rest : List ℕ) → (length group < 3 → rest ≡ []) → base64 (group ++ rest) ≡ a ∷ b ∷ c ∷ d ∷ base64 rest

four_same : (a b c d e f g h : ℕ) (xs : List ℕ) → a ≡ e → b ≡ f → c ≡ g → d ≡ h → a ∷ b ∷ c ∷ d ∷ xs ≡ e ∷ f ∷ g ∷ h ∷ xs
four_same a b c d e f g h xs ae bf cg dh = rw (ae, bf, cg, dh) refl

three_spelled : (p q r s a b c d : ℕ) → p < 64 → q < 64 → r < 64 → s < 64 → symbol p ≡ a → symbol q ≡ b → symbol r ≡ c → symbol s ≡ d
    → GroupFound a b c d ((4 * p + q / 16) ∷ (16 * (q % 16) + r / 4) ∷ (64 * (r % 4) + s) ∷ [])
three_spelled p q r s a b c d sp sq sr ss ea eb ec ed =
    let x : ℕ = 4 * p + q / 16 in
    let y : ℕ = 16 * (q % 16) + r / 4 in
    let z : ℕ = 64 * (r % 4) + s in
    let sx : x < 256 = omega arith in
    let sy : y < 256 = omega arith in
    let sz : z < 256 = omega arith in
    let ip : x / 4 ≡ p = omega arith in
    let iq : 16 * (x % 4) + y / 16 ≡ q = omega arith in
    let ir : 4 * (y % 16) + z / 64 ≡ r = omega arith in
    let is : z % 64 ≡ s = omega arith in
    record {
      bytes = bytes_more x (y ∷ z ∷ []) sx (bytes_more y (z ∷ []) sy (bytes_more z [] sz bytes_none));
      is = λ rest last. of_three x y z rest sx sy sz
          ∙ four_same _ _ _ _ _ _ _ _ (base64 rest) (ap symbol ip ∙ ea) (ap symbol iq ∙ eb) (ap symbol ir ∙ ec) (ap symbol is ∙ ed);
    }

two_spelled : (p q r a b c : ℕ) → p < 64 → q < 64 → r < 64 → r % 4 ≡ 0 → symbol p ≡ a → symbol q ≡ b → symbol r ≡ c
    → GroupFound a b c pad ((4 * p + q / 16) ∷ (16 * (q % 16) + r / 4) ∷ [])
two_spelled p q r a b c sp sq sr zero_bits ea eb ec =
    let x : ℕ = 4 * p + q / 16 in
    let y : ℕ = 16 * (q % 16) + r / 4 in
    let sx : x < 256 = omega arith in
    let sy : y < 256 = omega arith in
    let ip : x / 4 ≡ p = omega arith in
    let iq : 16 * (x % 4) + y / 16 ≡ q = omega arith in
    let ir : 4 * (y % 16) ≡ r = omega arith in
    record {
      bytes = bytes_more x (y ∷ []) sx (bytes_more y [] sy bytes_none);
      is = λ rest last. subst (λ (z : List ℕ). base64 ((x ∷ y ∷ []) ++ z) ≡ a ∷ b ∷ c ∷ pad ∷ base64 z) (sym (last (omega arith)))
          (of_two x y sx sy ∙ four_same _ _ _ _ _ _ _ _ [] (ap symbol ip ∙ ea) (ap symbol iq ∙ eb) (ap symbol ir ∙ ec) refl
          ∙ ap (λ (z : List ℕ). a ∷ b ∷ c ∷ pad ∷ z) (sym of_none));
    }

one_spelled : (p q a b : ℕ) → p < 64 → q < 64 → q % 16 ≡ 0 → symbol p ≡ a → symbol q ≡ b → GroupFound a b pad pad ((4 * p + q / 16) ∷ [])
one_spelled p q a b sp sq zero_bits ea eb =
    let x : ℕ = 4 * p + q / 16 in
    let sx : x < 256 = omega arith in
    let ip : x / 4 ≡ p = omega arith in
    let iq : 16 * (x % 4) ≡ q = omega arith in
    record {
      bytes = bytes_more x [] sx bytes_none;
      is = λ rest last. subst (λ (z : List ℕ). base64 ((x ∷ []) ++ z) ≡ a ∷ b ∷ pad ∷ pad ∷ base64 z) (sym (last (omega arith)))
          (of_one x sx ∙ four_same _ _ _ _ _ _ _ _ [] (ap symbol ip ∙ ea) (ap symbol iq ∙ eb) refl refl
          ∙ ap (λ (z : List ℕ). a ∷ b ∷ pad ∷ pad ∷ z) (sym of_none));
    }

three_found : (a b c d : ℕ) (group : List ℕ) → three_bytes (value_of a) (value_of b) (value_of c) (value_of d) ≡ Ok group → GroupFound a b c d group
three_found a b c d group e =
    let p : ℕ = value_of a in
    let q : ℕ = value_of b in
    let r : ℕ = value_of c in
    let s : ℕ = value_of d in
    let m = met (((ltb p 64 && ltb q 64) && ltb r 64) && ltb s 64) Damaged ((4 * p + q / 16) ∷ (16 * (q % 16) + r / 4) ∷ (64 * (r % 4) + s) ∷ []) group e in
    let one = both_true _ _ m.0 in
    let two = both_true _ _ one.0 in
    let three = both_true _ _ two.0 in
    let sp : value_of a < 64 = ltb-true _ _ three.0 in
    let sq : value_of b < 64 = ltb-true _ _ three.1 in
    let sr : value_of c < 64 = ltb-true _ _ two.1 in
    let ss : value_of d < 64 = ltb-true _ _ one.1 in
    subst (GroupFound a b c d) m.1 (three_spelled _ _ _ _ a b c d sp sq sr ss (symbol_again a sp) (symbol_again b sq) (symbol_again c sr) (symbol_again d ss))

two_found : (a b c : ℕ) (group : List ℕ) → two_bytes (value_of a) (value_of b) (value_of c) ≡ Ok group → GroupFound a b c pad group
two_found a b c group e =
    let p : ℕ = value_of a in
    let q : ℕ = value_of b in
    let r : ℕ = value_of c in
    let m = met (((ltb p 64 && ltb q 64) && ltb r 64) && eqb (r % 4) 0) Damaged ((4 * p + q / 16) ∷ (16 * (q % 16) + r / 4) ∷ []) group e in
    let one = both_true _ _ m.0 in
    let two = both_true _ _ one.0 in
    let three = both_true _ _ two.0 in
    let sp : value_of a < 64 = ltb-true _ _ three.0 in
    let sq : value_of b < 64 = ltb-true _ _ three.1 in
    let sr : value_of c < 64 = ltb-true _ _ two.1 in
    subst (GroupFound a b c pad) m.1 (two_spelled _ _ _ a b c sp sq sr (eqb-true _ _ one.1) (symbol_again a sp) (symbol_again b sq) (symbol_again c sr))

one_found : (a b : ℕ) (group : List ℕ) → one_byte (value_of a) (value_of b) ≡ Ok group → GroupFound a b pad pad group
one_found a b group e =
    let p : ℕ = value_of a in
    let q : ℕ = value_of b in
    let m = met ((ltb p 64 && ltb q 64) && eqb (q % 16) 0) Damaged ((4 * p + q / 16) ∷ []) group e in
    let one = both_true _ _ m.0 in
    let two = both_true _ _ one.0 in
    let sp : value_of a < 64 = ltb-true _ _ two.0 in
    let sq : value_of b < 64 = ltb-true _ _ two.1 in
    subst (GroupFound a b pad pad) m.1 (one_spelled _ _ a b sp sq (eqb-true _ _ one.1) (symbol_again a sp) (symbol_again b sq))

group_found : (a b c d : ℕ) (group : List ℕ) → group_at a b c d ≡ Ok group → GroupFound a b c d group
unfolding group_at
group_found a b c d group e =
    elim (chosen (eqb d pad) _ _ _ e) [
      | inl last ↦
          elim (chosen (eqb c pad) _ _ _ last.1) [
            | inl both ↦
                let found : GroupFound a b pad pad group = one_found a b group both.1 in
                rw (eqb-true _ _ last.0, eqb-true _ _ both.0) found
            | inr other ↦
                let found : GroupFound a b c pad group = two_found a b c group other.1 in
                rw (eqb-true _ _ last.0) found
          ]
      | inr none ↦ three_found a b c d group none.1
    ]

-- a group that is not the last has three bytes
last_of : (group rest : List ℕ) → (ltb (length group) 3 && not (eqb (length rest) 0)) ≡ false → length group < 3 → rest ≡ []
last_of group [] e short = refl
last_of group (x ∷ rest) e short = absurd (grind (arith, nat_tests))

pub symbols_found : (room : ℕ) (symbols bytes : List ℕ) → symbols_at room symbols ≡ Ok bytes → (symbols ≡ base64 bytes) × IsBytes bytes × (length bytes ≤ room)
unfolding symbols_at
symbols_found room [] bytes e =
    let none : [] ≡ bytes = ok_is [] bytes e in
    subst (λ (z : List ℕ). ([] ≡ base64 z) × IsBytes z × (length z ≤ room)) none (sym of_none, bytes_none, omega arith)
symbols_found room (a ∷ []) bytes e = absurd cc
symbols_found room (a ∷ b ∷ []) bytes e = absurd cc
symbols_found room (a ∷ b ∷ c ∷ []) bytes e = absurd cc
symbols_found room (a ∷ b ∷ c ∷ d ∷ rest) bytes e =
    let one = bind_ok _ _ bytes e in
    let two = bind_ok _ _ bytes one.2 in
    let three = bind_ok _ _ bytes two.2 in
    let group : List ℕ = one.0 in
    let others : List ℕ = three.0 in
    let followed = failed_not (ltb (length group) 3 && not (eqb (length rest) 0)) Damaged _ _ two.1 in
    let fits = passed (ltb room (length group)) TooLong group two.0 followed.1 in
    let enough : length group ≤ room = ltb-false _ _ fits.0 in
    let found = group_found a b c d group one.1 in
    let later = symbols_found (room - length group) rest others three.1 in
    let last : length group < 3 → others ≡ [] = λ short. sym (ok_is [] others (sym (ap (symbols_at (room - length group)) (last_of group rest followed.0 short)) ∙ three.1)) in
    let is : a ∷ b ∷ c ∷ d ∷ rest ≡ base64 (group ++ others) = ap (λ (z : List ℕ). a ∷ b ∷ c ∷ d ∷ z) later.0 ∙ sym (found.is others last) in
    let long : length (group ++ others) ≤ room = omega (arith, length-append group others, later.2, enough) in
    subst (λ (z : List ℕ). (a ∷ b ∷ c ∷ d ∷ rest ≡ base64 z) × IsBytes z × (length z ≤ room)) (ok_is (group ++ others) bytes three.2)
    (is, bytes_joined group others found.bytes later.1, long)

-- ---- what they spell is read

three_written : (p q r s a b c : ℕ) → p < 64 → q < 64 → r < 64 → s < 64 → 4 * p + q / 16 ≡ a → 16 * (q % 16) + r / 4 ≡ b → 64 * (r % 4) + s ≡ c
    → three_bytes p q r s ≡ Ok (a ∷ b ∷ c ∷ [])
three_written p q r s a b c sp sq sr ss ea eb ec =
    let tp : ltb p 64 ≡ true = grind (arith, nat_tests) in
    let tq : ltb q 64 ≡ true = grind (arith, nat_tests) in
    let tr : ltb r 64 ≡ true = grind (arith, nat_tests) in
    let ts : ltb s 64 ≡ true = grind (arith, nat_tests) in
    rw (tp, tq, tr, ts, ea, eb, ec) refl

two_written : (p q r a b : ℕ) → p < 64 → q < 64 → r < 64 → r % 4 ≡ 0 → 4 * p + q / 16 ≡ a → 16 * (q % 16) + r / 4 ≡ b → two_bytes p q r ≡ Ok (a ∷ b ∷ [])
two_written p q r a b sp sq sr zero_bits ea eb =
    let tp : ltb p 64 ≡ true = grind (arith, nat_tests) in
    let tq : ltb q 64 ≡ true = grind (arith, nat_tests) in
    let tr : ltb r 64 ≡ true = grind (arith, nat_tests) in
    rw (tp, tq, tr, zero_bits, ea, eb) refl

one_written : (p q a : ℕ) → p < 64 → q < 64 → q % 16 ≡ 0 → 4 * p + q / 16 ≡ a → one_byte p q ≡ Ok (a ∷ [])
one_written p q a sp sq zero_bits ea =
    let tp : ltb p 64 ≡ true = grind (arith, nat_tests) in
    let tq : ltb q 64 ≡ true = grind (arith, nat_tests) in
    rw (tp, tq, zero_bits, ea) refl

group_of_three : (p q r s a b c : ℕ) → p < 64 → q < 64 → r < 64 → s < 64 → 4 * p + q / 16 ≡ a → 16 * (q % 16) + r / 4 ≡ b → 64 * (r % 4) + s ≡ c
    → group_at (symbol p) (symbol q) (symbol r) (symbol s) ≡ Ok (a ∷ b ∷ c ∷ [])
unfolding group_at
group_of_three p q r s a b c sp sq sr ss ea eb ec =
    rw (no_pad s ss, value_again p sp, value_again q sq, value_again r sr, value_again s ss) (three_written p q r s a b c sp sq sr ss ea eb ec)

group_of_two : (p q r a b : ℕ) → p < 64 → q < 64 → r < 64 → r % 4 ≡ 0 → 4 * p + q / 16 ≡ a → 16 * (q % 16) + r / 4 ≡ b
    → group_at (symbol p) (symbol q) (symbol r) pad ≡ Ok (a ∷ b ∷ [])
unfolding group_at
group_of_two p q r a b sp sq sr zero_bits ea eb =
    rw (no_pad r sr, value_again p sp, value_again q sq, value_again r sr) (two_written p q r a b sp sq sr zero_bits ea eb)

group_of_one : (p q a : ℕ) → p < 64 → q < 64 → q % 16 ≡ 0 → 4 * p + q / 16 ≡ a → group_at (symbol p) (symbol q) pad pad ≡ Ok (a ∷ [])
unfolding group_at
group_of_one p q a sp sq zero_bits ea = rw (value_again p sp, value_again q sq) (one_written p q a sp sq zero_bits ea)

pub symbols_again : (room : ℕ) (bytes : List ℕ) → IsBytes bytes → length bytes ≤ room → symbols_at room (base64 bytes) ≡ Ok bytes
unfolding symbols_at
symbols_again room [] small fits = ap (symbols_at room) of_none
symbols_again room (a ∷ []) small fits =
    let sa : a < 256 = small 0 in
    ap (symbols_at room) (of_one a sa)
    ∙ group_read room _ _ _ _ [] (a ∷ []) (group_of_one (a / 4) (16 * (a % 4)) a (omega arith) (omega arith) (omega arith) (omega arith)) (λ short. refl) (omega arith)
symbols_again room (a ∷ b ∷ []) small fits =
    let sa : a < 256 = small 0 in
    let sb : b < 256 = small 1 in
    ap (symbols_at room) (of_two a b sa sb)
    ∙ group_read room _ _ _ _ [] (a ∷ b ∷ []) (group_of_two (a / 4) (16 * (a % 4) + b / 16) (4 * (b % 16)) a b (omega arith) (omega arith) (omega arith) (omega arith) (omega arith) (omega arith)) (λ short. refl) (omega arith)
symbols_again room (a ∷ b ∷ c ∷ rest) small fits =
    let sa : a < 256 = small 0 in
    let sb : b < 256 = small 1 in
    let sc : c < 256 = small 2 in
    let later : symbols_at (room - 3) (base64 rest) ≡ Ok rest = symbols_again (room - 3) rest (λ k. small (suc (suc (suc k)))) (omega arith) in
    ap (symbols_at room) (of_three a b c rest sa sb sc)
    ∙ group_read room _ _ _ _ (base64 rest) (a ∷ b ∷ c ∷ [])
    (group_of_three (a / 4) (16 * (a % 4) + b / 16) (4 * (b % 16) + c / 64) (c % 64) a b c (omega arith) (omega arith) (omega arith) (omega arith) (omega arith) (omega arith) (omega arith))
    (λ short. absurd (omega arith)) (omega arith)
    ∙ ap (behind (a ∷ b ∷ c ∷ [])) later

-- ---- the characters of a text in base64, and how many they are

both_so : (a b : Bool) → a ≡ true → b ≡ true → (a && b) ≡ true
both_so a b first second = rw (first, second) refl

four_pass : (p : ℕ → Bool) (a b c d : ℕ) (xs : List ℕ) → p a ≡ true → p b ≡ true → p c ≡ true → p d ≡ true → list_all p xs ≡ true → list_all p (a ∷ b ∷ c ∷ d ∷ xs) ≡ true
four_pass p a b c d xs pa pb pc pd all =
    both_so (p a) (p b && (p c && (p d && list_all p xs))) pa (both_so (p b) (p c && (p d && list_all p xs)) pb
    (both_so (p c) (p d && list_all p xs) pc (both_so (p d) (list_all p xs) pd all)))

pub all_pass : (p : ℕ → Bool) → all_below 64 (λ value. p (symbol value)) ≡ true → p pad ≡ true → (bytes : List ℕ) → IsBytes bytes → list_all p (base64 bytes) ≡ true
all_pass p all ends [] small = ap (list_all p) of_none
all_pass p all ends (a ∷ []) small =
    let sa : a < 256 = small 0 in
    let one = at_index 64 (λ value. p (symbol value)) all in
    ap (list_all p) (of_one a sa) ∙ four_pass p _ _ _ _ [] (one (a / 4) (omega arith)) (one (16 * (a % 4)) (omega arith)) ends ends refl
all_pass p all ends (a ∷ b ∷ []) small =
    let sa : a < 256 = small 0 in
    let sb : b < 256 = small 1 in
    let one = at_index 64 (λ value. p (symbol value)) all in
    ap (list_all p) (of_two a b sa sb)
    ∙ four_pass p _ _ _ _ [] (one (a / 4) (omega arith)) (one (16 * (a % 4) + b / 16) (omega arith)) (one (4 * (b % 16)) (omega arith)) ends refl
all_pass p all ends (a ∷ b ∷ c ∷ rest) small =
    let sa : a < 256 = small 0 in
    let sb : b < 256 = small 1 in
    let sc : c < 256 = small 2 in
    let one = at_index 64 (λ value. p (symbol value)) all in
    let later : list_all p (base64 rest) ≡ true = all_pass p all ends rest (λ k. small (suc (suc (suc k)))) in
    ap (list_all p) (of_three a b c rest sa sb sc)
    ∙ four_pass p _ _ _ _ (base64 rest) (one (a / 4) (omega arith)) (one (16 * (a % 4) + b / 16) (omega arith)) (one (4 * (b % 16) + c / 64) (omega arith))
    (one (c % 64) (omega arith)) later

pub how_long : (bytes : List ℕ) → IsBytes bytes → length (base64 bytes) ≡ base64_length (length bytes)
how_long [] small = ap length of_none
how_long (a ∷ []) small = ap length (of_one a (small 0))
how_long (a ∷ b ∷ []) small = ap length (of_two a b (small 0) (small 1))
how_long (a ∷ b ∷ c ∷ rest) small =
    let later : length (base64 rest) ≡ base64_length (length rest) = how_long rest (λ k. small (suc (suc (suc k)))) in
    ap length (of_three a b c rest (small 0) (small 1) (small 2)) ∙ omega (arith, later)

-- bytes before others, in whole threes
pub of_both : (front rest : List ℕ) → IsBytes front → length front % 3 ≡ 0 → base64 (front ++ rest) ≡ base64 front ++ base64 rest
of_both [] rest small threes = ap (λ (z : List ℕ). z ++ base64 rest) (sym of_none)
of_both (a ∷ []) rest small threes = absurd (omega arith)
of_both (a ∷ b ∷ []) rest small threes = absurd (omega arith)
of_both (a ∷ b ∷ c ∷ front) rest small threes =
    let later : base64 (front ++ rest) ≡ base64 front ++ base64 rest = of_both front rest (λ k. small (suc (suc (suc k)))) (omega arith) in
    of_three a b c (front ++ rest) (small 0) (small 1) (small 2)
    ∙ ap (λ (z : List ℕ). symbol (a / 4) ∷ symbol (16 * (a % 4) + b / 16) ∷ symbol (4 * (b % 16) + c / 64) ∷ symbol (c % 64) ∷ z) later
    ∙ sym (ap (λ (z : List ℕ). z ++ base64 rest) (of_three a b c front (small 0) (small 1) (small 2)))
