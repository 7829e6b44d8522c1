-- Which arrays of the right length no private key has.
use Rattle.std.proofs.Common.{◌≡◌, ◌<◌, ◌≤◌, ◌+◌, ◌-◌, ◌*◌, ◌^◌, ℕ, zero, suc, ℤ, pos, ◌+ℤ◌, ◌-ℤ◌, ◌≤ℤ◌, ◌<ℤ◌, List, [], ◌∷◌, ◌++◌, length, take, drop, get_or, nat_eq, Result, Ok, Err, refl, sym, ap, subst, ◌∙◌, inl, inr, arith, length-drop}
use Rattle.std.specs.Prelude.{◌⊎◌, ◌↔◌, ⊤}
use Rattle.std.specs.List.{All, Any}
use Rattle.std.proofs.lemmas.Bool.{cases_lt, eq-eqb}
use Rattle.std.proofs.lemmas.Int.{ints, by_lt_z}
use Rattle.std.proofs.lemmas.List.{drop-drop, drop-take, take-take, take_all, take-append-drop, length-take-le}
use Rattle.std.proofs.lemmas.List.Elements.{All-nil, All-cons, All-head, All-tail, All-take, All-drop}
use Rattle.fips204_base.specs.Bounds.{Bounds, PolynomialInRange}
use Rattle.fips204_base.specs.EncodingSteps.{coefficient, field}
use Rattle.fips204_base.specs.Encodings.{PrivateParts, IsPrivateKeyOf, vector_bytes}
use Rattle.fips204_base.specs.Packing.{unpacked, polynomial_bytes, width}
use Rattle.fips204_base.specs.Vectors.{IsVector}
use Rattle.fips204_base.specs.declared.fault.Fault.{Fault}
use Rattle.fips204_base.specs.declared.fault.Fault.TheVariants.{KeyRange}
use Rattle.fips204_base.specs.declared.types.R.{R}
use Rattle.fips204_base.proofs.EncodedParts.{private_key_cut, private_key_joined, width_4095_4096}
use Rattle.fips204_base.proofs.Packing.{bytes_unpack, is_unpacked, length-polynomial_bytes, unpacks, unpacks_bytes}
use Rattle.fips204_base.proofs.Pieces.{gathered, piece-within, piece_at}
use Rattle.fips204_base.proofs.VectorBytes.{IsPolynomial, packed, unpacked_range}
use Rattle.fips204.proofs.Spellings.{one_more}
use Rattle.fips204.specs.ParameterSets.{ParameterSet, IsSet, private_key_length}
use Rattle.fips204_shake.specs.Bytes.{Checks, WithPrivate}
use Rattle.fips204_shake.specs.KeyRange.{HasFieldAbove, small_polynomial_at}
use Rattle.fips204_shake.specs.declared.bytes.refusal.Refusal.{Refusal}
use Rattle.fips204_shake.specs.declared.bytes.refusal.Refusal.TheVariants.{Library}
use Rattle.fips204_shake.proofs.Pairs.{not_done, taken}

-- bytes that hold polynomials in range are those of a vector
read : (a b size n : ℕ) (bytes : List ℕ) → Bounds (pos a) (pos b) → size ≡ 32 * width (pos a) (pos b) → size * n ≤ length bytes → All (λ byte. byte < 256) bytes
    → ((i : ℕ) → i < n → PolynomialInRange (pos 0 -ℤ pos a) (pos b) (unpacked a b (take size (drop (size * i) bytes))).0)
    → (v : List R) × IsVector n a b v × (vector_bytes a b v ≡ take (size * n) bytes)
read a b size n bytes bounds is long small ranges =
    let Byte = λ (byte : ℕ). byte < 256 in
    let (v, (count, all), same) = gathered (IsPolynomial (pos a) (pos b)) (packed (pos a) (pos b)) size n bytes (λ i below.
    let rest = drop (size * i) bytes in
    let piece = take size rest in
    let w = unpacked a b piece in
    let room = piece-within size i n (size * n) refl below in
    let fits : length piece ≡ size = length-take-le size rest (omega (arith, length-drop (size * i) bytes, room, long)) in
    let u = unpacks (pos a) (pos b) piece w bounds (fits ∙ is) (All-take Byte size rest (All-drop Byte (size * i) bytes small)) refl in
    (w, (ranges i below, u.count), sym (unpacks_bytes (pos a) (pos b) piece w.0 u))) in
    (v, record { rows = count; places = λ j d h. (all j d h).1; range = λ j d h. (all j d h).0 }, same)

-- a coefficient is at most b
at_most : (a b x : ℤ) → pos 1 ≤ℤ a → coefficient a b (field a b x) ≡ x → x ≤ℤ b
unfolding coefficient
at_most a b x some same = grind (arith, ints, some, same)

in_range_or_below : (lo hi : ℤ) (w : List ℤ) → All (λ x. x ≤ℤ hi) w → PolynomialInRange lo hi w ⊎ Any (λ x. x <ℤ lo) w
in_range_or_below lo hi [] most = inl (All-nil (λ (x : ℤ). (lo ≤ℤ x) × (x ≤ℤ hi)))
in_range_or_below lo hi (x ∷ w) most = by_lt_z x lo
    (λ below. inr (0, x, omega arith, refl, below))
    (λ within. elim (in_range_or_below lo hi w (All-tail (λ (y : ℤ). y ≤ℤ hi) x w most)) [
      | inl rest ↦ inl (All-cons (λ (y : ℤ). (lo ≤ℤ y) × (y ≤ℤ hi)) x w (within, All-head (λ (y : ℤ). y ≤ℤ hi) x w most) rest)
      | inr some ↦ inr (suc some.0, some.1, omega (arith, some.2), some.3, some.4)
    ])

-- one of two holds at each place below a bound, or the other at one
each_or_some : (P Q : ℕ → Type 0) (n : ℕ) → ((i : ℕ) → i < n → P i ⊎ Q i) → ((i : ℕ) → i < n → P i) ⊎ ((i : ℕ) × (i < n) × Q i)
each_or_some P Q zero decided = inl (λ i below. absurd (omega (arith, below)))
each_or_some P Q (suc n) decided = elim (each_or_some P Q n (λ i below. decided i (omega (arith, below)))) [
  | inl all ↦ elim (decided n (omega arith)) [
    | inl here ↦ inl (λ i below. one_more P n all here i (omega (arith, below)))
    | inr other ↦ inr (n, omega arith, other)
  ]
  | inr (i, below, other) ↦ inr (i, omega (arith, below), other)
]

-- eta, as packing takes it
eta_some : (p : ParameterSet) → IsSet p → (1 ≤ p.eta) × (p.eta ≤ 4)
eta_some p (inl is) = subst (λ (q : ParameterSet). (1 ≤ q.eta) × (q.eta ≤ 4)) (sym is) (omega arith, omega arith)
eta_some p (inr (inl is)) = subst (λ (q : ParameterSet). (1 ≤ q.eta) × (q.eta ≤ 4)) (sym is) (omega arith, omega arith)
eta_some p (inr (inr is)) = subst (λ (q : ParameterSet). (1 ≤ q.eta) × (q.eta ≤ 4)) (sym is) (omega arith, omega arith)

eta_bounds : (p : ParameterSet) → IsSet p → Bounds (pos p.eta) (pos p.eta)
eta_bounds p known =
    let (some, few) = eta_some p known in
    (omega (arith, ints), omega (arith, ints, few), omega (arith, ints, some), omega (arith, ints, few))

low_range : (bytes : List ℕ) → length bytes ≡ 416 → All (λ byte. byte < 256) bytes → PolynomialInRange (pos 0 -ℤ pos 4095) (pos 4096) (unpacked 4095 4096 bytes).0
low_range bytes long small =
    let bounds : Bounds (pos 4095) (pos 4096) = (omega (arith, ints), omega (arith, ints), omega (arith, ints), omega (arith, ints)) in
    let whole : pos (2 ^ width (pos 4095) (pos 4096)) ≡ pos 4095 +ℤ pos 4096 +ℤ pos 1 = rw width_4095_4096 refl in
    unpacked_range (pos 4095) (pos 4096) bytes (unpacked 4095 4096 bytes).0 bounds whole (unpacks (pos 4095) (pos 4096) bytes (unpacked 4095 4096 bytes) bounds (rw width_4095_4096 long) small refl)

-- the polynomials of a vector in range are those that its bytes hold
held_range : (eta size n i : ℕ) (v : List R) (bytes : List ℕ) → Bounds (pos eta) (pos eta) → size ≡ 32 * width (pos eta) (pos eta) → IsVector n eta eta v
    → vector_bytes eta eta v ≡ take (size * n) bytes → i < n → PolynomialInRange (pos 0 -ℤ pos eta) (pos eta) (unpacked eta eta (take size (drop (size * i) bytes))).0
held_range eta size n i v bytes bounds is vector held below =
    let none : R = record { 0 = [] } in
    let w = get_or v i none in
    let inside : i < length v = omega (arith, below, vector.rows) in
    let rest = size * n - size * i in
    let room = piece-within size i n (size * n) refl below in
    let split : size * i + rest ≡ size * n = omega (arith, room) in
    let piece : take size (drop (size * i) (take (size * n) bytes)) ≡ take size (drop (size * i) bytes) =
    ap (λ (k : ℕ). take size (drop (size * i) (take k bytes))) (sym split) ∙ ap (λ (x : List ℕ). take size x) (drop-take (size * i) rest bytes)
    ∙ take-take size rest (drop (size * i) bytes) (omega (arith, room)) in
    let own : take size (drop (size * i) bytes) ≡ polynomial_bytes (pos eta) (pos eta) w.0 =
    sym piece ∙ ap (λ (x : List ℕ). take size (drop (size * i) x)) (sym held)
    ∙ piece_at (λ (u : R). length u.0 ≡ 256) (packed (pos eta) (pos eta)) size v i none (λ u long. length-polynomial_bytes (pos eta) (pos eta) u.0 long ∙ sym is) vector.places inside in
    let range = vector.range i none inside in
    let again : w ≡ unpacked eta eta (polynomial_bytes (pos eta) (pos eta) w.0) =
    is_unpacked (pos eta) (pos eta) (polynomial_bytes (pos eta) (pos eta) w.0) w bounds (bytes_unpack (pos eta) (pos eta) w.0 bounds range (vector.places i none inside)) in
    subst (λ (u : R). PolynomialInRange (pos 0 -ℤ pos eta) (pos eta) u.0) (again ∙ ap (unpacked eta eta) (sym own)) range

module _ (p : ParameterSet) (known : IsSet p) (key : List ℕ) (small : All (λ byte. byte < 256) key) (long : length key ≡ private_key_length p) where
  -- the bytes of s2, polynomial by polynomial
  second_at : (i : ℕ) → drop (128 + 32 * width (pos p.eta) (pos p.eta) * (p.l + i)) key
      ≡ drop (32 * width (pos p.eta) (pos p.eta) * i) (drop (32 * width (pos p.eta) (pos p.eta) * p.l) (drop 128 key))
  second_at i =
      let size = 32 * width (pos p.eta) (pos p.eta) in
      let shift : 128 + size * (p.l + i) ≡ 128 + (size * p.l + size * i) = omega arith in
      ap (λ (k : ℕ). drop k key) shift ∙ sym (drop-drop (size * p.l + size * i) 128 key) ∙ sym (drop-drop (size * i) (size * p.l) (drop 128 key))

  -- where all is in range there is a key
  found : ((i : ℕ) → i < p.l + p.k → PolynomialInRange (pos 0 -ℤ pos p.eta) (pos p.eta) (small_polynomial_at p key i).0) → (sk : PrivateParts) × IsPrivateKeyOf p.eta p.k p.l key sk
  found ranges =
      let size = 32 * width (pos p.eta) (pos p.eta) in
      let bounds = eta_bounds p known in
      let wide : Bounds (pos 4095) (pos 4096) = (omega (arith, ints), omega (arith, ints), omega (arith, ints), omega (arith, ints)) in
      let Byte = λ (byte : ℕ). byte < 256 in
      let InRange = λ (bytes : List ℕ). PolynomialInRange (pos 0 -ℤ pos p.eta) (pos p.eta) (unpacked p.eta p.eta (take size bytes)).0 in
      let seeds = take 128 key in
      let first = drop 128 key in
      let second = drop (size * p.l) first in
      let low = drop (size * p.k) second in
      let all : length first ≡ size * p.l + size * p.k + 416 * p.k = length-drop 128 key ∙ omega (arith, long) in
      let after : length second ≡ size * p.k + 416 * p.k = length-drop (size * p.l) first ∙ omega (arith, all) in
      let last : length low ≡ 416 * p.k = length-drop (size * p.k) second ∙ omega (arith, after) in
      let in_first = All-drop Byte 128 key small in
      let in_second = All-drop Byte (size * p.l) first in_first in
      let in_low = All-drop Byte (size * p.k) second in_second in
      let s1 = read p.eta p.eta size p.l first bounds refl (omega (arith, all)) in_first (λ i below. subst InRange (sym (drop-drop (size * i) 128 key)) (ranges i (omega (arith, below)))) in
      let s2 = read p.eta p.eta size p.k second bounds refl (omega (arith, after)) in_second (λ i below. subst InRange (second_at i) (ranges (p.l + i) (omega (arith, below)))) in
      let t0 = read 4095 4096 416 p.k low wide (rw width_4095_4096 refl) (omega (arith, last)) in_low
      (λ i below. low_range (take 416 (drop (416 * i) low)) (length-take-le 416 (drop (416 * i) low) (omega (arith, length-drop (416 * i) low, last, below)))
      (All-take Byte 416 (drop (416 * i) low) (All-drop Byte (416 * i) low in_low))) in
      let whole : low ≡ take (416 * p.k) low = sym (take_all (416 * p.k) low (omega (arith, last))) in
      let parts : key ≡ seeds ++ (take (size * p.l) first ++ (take (size * p.k) second ++ take (416 * p.k) low)) =
      sym (take-append-drop 128 key) ∙ ap (λ (x : List ℕ). seeds ++ x) (sym (take-append-drop (size * p.l) first) ∙ ap (λ (x : List ℕ). take (size * p.l) first ++ x)
      (sym (take-append-drop (size * p.k) second) ∙ ap (λ (x : List ℕ). take (size * p.k) second ++ x) whole)) in (
        _,
        private_key_joined p.eta p.k p.l key seeds (take (size * p.l) first) (take (size * p.k) second) (take (416 * p.k) low) s1.0 s2.0 t0.0 parts (length-take-le 128 key (omega (arith, long)))
            s1.1 s2.1 t0.1 s1.2 s2.2 t0.2,
      )

  -- where there is a key all is in range
  within : (sk : PrivateParts) → IsPrivateKeyOf p.eta p.k p.l key sk → (i : ℕ) → i < p.l + p.k → PolynomialInRange (pos 0 -ℤ pos p.eta) (pos p.eta) (small_polynomial_at p key i).0
  within sk is i below =
      let size = 32 * width (pos p.eta) (pos p.eta) in
      let bounds = eta_bounds p known in
      let InRange = λ (bytes : List ℕ). PolynomialInRange (pos 0 -ℤ pos p.eta) (pos p.eta) (unpacked p.eta p.eta (take size bytes)).0 in
      elim (cases_lt i p.l) [
        | inl less ↦ subst InRange (drop-drop (size * i) 128 key)
            (held_range p.eta size p.l i sk.s1 (drop 128 key) bounds refl is.parts.s1 (sym (private_key_cut p.eta p.k p.l key sk is).s1) less)
        | inr past ↦
            let j = i - p.l in
            let at : p.l + j ≡ i = omega (arith, past) in
            subst (λ (n : ℕ). InRange (drop (128 + size * n) key)) at (subst InRange (sym (second_at j))
            (held_range p.eta size p.k j sk.s2 (drop (size * p.l) (drop 128 key)) bounds refl is.parts.s2 (sym (private_key_cut p.eta p.k p.l key sk is).s2) (omega (arith, past, below))))
      ]

  -- in range or not, at each place
  decided : (i : ℕ) → i < p.l + p.k → PolynomialInRange (pos 0 -ℤ pos p.eta) (pos p.eta) (small_polynomial_at p key i).0
      ⊎ Any (λ x. x <ℤ (pos 0 -ℤ pos p.eta)) (small_polynomial_at p key i).0
  decided i below =
      let size = 32 * width (pos p.eta) (pos p.eta) in
      let start = 128 + size * i in
      let bytes = take size (drop start key) in
      let room = piece-within size i (p.l + p.k) (size * (p.l + p.k)) refl below in
      let all : size * (p.l + p.k) ≡ size * p.l + size * p.k = omega arith in
      let fits : length bytes ≡ size = length-take-le size (drop start key) (omega (arith, length-drop start key, long, room, all)) in
      let Byte = λ (byte : ℕ). byte < 256 in
      let u = unpacks (pos p.eta) (pos p.eta) bytes (unpacked p.eta p.eta bytes) (eta_bounds p known) fits (All-take Byte size (drop start key) (All-drop Byte start key small)) refl in
      let some = (eta_some p known).0 in
      in_range_or_below (pos 0 -ℤ pos p.eta) (pos p.eta) (unpacked p.eta p.eta bytes).0
      (λ n d inside. at_most (pos p.eta) (pos p.eta) (get_or (unpacked p.eta p.eta bytes).0 n d) (omega (arith, ints, some)) (u.coefficients n d inside))

  pub range_is_of_fields : (answer : Result ⊤ Refusal) → Checks p key answer → (answer ≡ Err (Library KeyRange)) ↔ HasFieldAbove p key
  range_is_of_fields answer checks = of (taken _ (nat_eq (length key) (private_key_length p)) (eq-eqb (length key) (private_key_length p) long) checks)
    where
      of : WithPrivate p key (λ sk. answer ≡ Ok tt) (λ why. answer ≡ Err why) → (answer ≡ Err (Library KeyRange)) ↔ HasFieldAbove p key
      of (Ok sk, is, done) = (
        λ refused. absurd (not_done tt (Library KeyRange) (sym done ∙ refused)),
        λ (i, below, h). absurd (let inside = within sk is i below h.0 h.1 h.2 in omega (arith, ints, inside.0, h.3, h.4)),
      )
      of (Err fault, (range, none), refused) = (
        λ _. elim (each_or_some (λ i. PolynomialInRange (pos 0 -ℤ pos p.eta) (pos p.eta) (small_polynomial_at p key i).0) (λ i. Any (λ x. x <ℤ (pos 0 -ℤ pos p.eta)) (small_polynomial_at p key i).0)
            (p.l + p.k) decided) [
              | inl all ↦ let (sk, is) = found all in absurd (none sk is)
              | inr some ↦ some
            ],
        λ _. refused ∙ ap (λ (why : Fault). let answer : Result ⊤ Refusal = Err (Library why) in answer) range,
      )
