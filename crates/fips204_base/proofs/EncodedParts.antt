-- Keys and signatures as bytes, and their parts, which the bytes determine.
use Rattle.std.proofs.Common.{w32, to_z, of_z, ◌≡◌, ℕ, List, ℤ, pos, length, refl, ap, ◌∙◌, arith, ◌+◌, ◌*◌, ◌++◌, nat_abs, take, drop, sym, append_assoc, length-append, length-drop, ◌-◌, ◌^◌, ◌+ℤ◌, ◌-ℤ◌, ◌≤◌}
use Rattle.std.specs.List.{All}
use Rattle.std.proofs.lemmas.Int.{ints}
use Rattle.fips204_base.specs.declared.types.R.{R}
use Rattle.fips204_base.specs.Encodings.{PrivateParts, public_key_bytes, IsPrivateKeyOf, vector_bytes, IsSignature, Spells, hint_bytes}
use Rattle.fips204_base.specs.Bounds.{IsEta, IsGamma1, PolynomialInRange, Bounds}
use Rattle.fips204_base.specs.Packing.{polynomial_bytes, bit_length, width}
use Rattle.fips204_base.proofs.Bits.{cut}
use Rattle.fips204_base.proofs.Packing.{length-polynomial_bytes, same_polynomial}
use Rattle.std.proofs.lemmas.List.{take_all, take_at, drop_at, drop-drop, length-take-le}
use Rattle.std.proofs.Math.Seq.{take-add}
use Rattle.fips204_base.specs.Vectors.{IsVector}
use Rattle.fips204_base.proofs.Pieces.{same_pieces}
use Rattle.fips204_base.proofs.VectorBytes.{IsPolynomial, packed, vector-length}
use Rattle.fips204_base.proofs.HintSpelling.{one_hint}
use Rattle.std.proofs.lemmas.Grind.{common_steps}

-- A public key determines rho and t1. So `pk_decode` of what `pk_encode` gives are the parts again; the other way round is
-- one equation of the two contracts, `pk ≡ public_key_bytes rho t1` and `result ≡ public_key_bytes rho t1`.

-- the polynomials that a public key has
pub record IsT1 (w : R) : Type 0 where
  pub range : PolynomialInRange (pos 0) (pos 1023) w.0
  pub count : length w.0 ≡ 256

-- The parts of a private key.

pub width_4095_4096 : width (pos 4095) (pos 4096) ≡ 13
unfolding bit_length
width_4095_4096 = refl

pub eta_bounds : (eta : ℤ) → IsEta eta → Bounds eta eta
eta_bounds eta set = (omega (arith, ints, set), omega (arith, ints, set), omega (arith, ints, set), omega (arith, ints, set))

pub eta_width : (eta : ℤ) → IsEta eta → width eta eta ≡ width (pos (nat_abs eta)) (pos (nat_abs eta))
eta_width eta set = grind (arith, ints, common_steps)

in_a_row : (a b c d e f : List ℕ) → a ++ b ++ c ++ d ++ e ++ f ≡ a ++ (b ++ (c ++ (d ++ (e ++ f))))
in_a_row a b c d e f = simp append_assoc

-- the first n bytes, and those after them
pub part : (n : ℕ) (bytes a rest : List ℕ) → bytes ≡ a ++ rest → length a ≡ n → (take n bytes ≡ a) × (drop n bytes ≡ rest)
part n bytes a rest e size = (ap (take n) e ∙ take_at a rest n size, ap (drop n) e ∙ drop_at a rest n size)

-- where the parts of a private key are in its bytes
pub record PrivateCut (eta k l : ℕ) (bytes : List ℕ) (sk : PrivateParts) : Type 0 where
  pub rho : take 32 bytes ≡ sk.rho
  pub key : take 32 (drop 32 bytes) ≡ sk.key
  pub tr : take 64 (drop 64 bytes) ≡ sk.tr
  pub s1 : take (32 * width (pos eta) (pos eta) * l) (drop 128 bytes) ≡ vector_bytes eta eta sk.s1
  pub s2 : take (32 * width (pos eta) (pos eta) * k) (drop (32 * width (pos eta) (pos eta) * l) (drop 128 bytes)) ≡ vector_bytes eta eta sk.s2
  pub t0 : drop (32 * width (pos eta) (pos eta) * k) (drop (32 * width (pos eta) (pos eta) * l) (drop 128 bytes)) ≡ vector_bytes 4095 4096 sk.t0

pub private_key_cut : (eta k l : ℕ) (bytes : List ℕ) (sk : PrivateParts) → IsPrivateKeyOf eta k l bytes sk → PrivateCut eta k l bytes sk
private_key_cut eta k l bytes sk s =
    let s1 = vector_bytes eta eta sk.s1 in
    let s2 = vector_bytes eta eta sk.s2 in
    let t0 = vector_bytes 4095 4096 sk.t0 in
    let rho = part 32 bytes sk.rho _ (sym s.encoding ∙ in_a_row sk.rho sk.key sk.tr s1 s2 t0) s.parts.rho in
    let key = part 32 (drop 32 bytes) sk.key _ rho.1 s.parts.key in
    let tr = part 64 (drop 64 bytes) sk.tr _ (sym (drop-drop 32 32 bytes) ∙ key.1) s.parts.tr in
    let first = part (32 * width (pos eta) (pos eta) * l) (drop 128 bytes) s1 _ (sym (drop-drop 64 64 bytes) ∙ tr.1) (vector-length l eta eta sk.s1 s.parts.s1) in
    let second = part (32 * width (pos eta) (pos eta) * k) (drop (32 * width (pos eta) (pos eta) * l) (drop 128 bytes)) s2 _ first.1 (vector-length k eta eta sk.s2 s.parts.s2) in
    record { rho = rho.0; key = key.0; tr = tr.0; s1 = first.0; s2 = second.0; t0 = second.1 }

-- a private key from 128 bytes and the vectors of those after them
pub private_key_joined : (eta k l : ℕ) (bytes seeds first second low : List ℕ) (s1 s2 t0 : List R) → bytes ≡ seeds ++ (first ++ (second ++ low)) → length seeds ≡ 128
    → IsVector l eta eta s1 → IsVector k eta eta s2 → IsVector k 4095 4096 t0 → vector_bytes eta eta s1 ≡ first → vector_bytes eta eta s2 ≡ second → vector_bytes 4095 4096 t0 ≡ low
    → IsPrivateKeyOf eta k l bytes record { rho = take 32 (drop 0 seeds); key = take 32 (drop 32 seeds); tr = take 64 (drop 64 seeds); s1 = s1; s2 = s2; t0 = t0 }
private_key_joined eta k l bytes seeds first second low s1 s2 t0 whole size u v w p q r =
    let rho = take 32 (drop 0 seeds) in
    let key = take 32 (drop 32 seeds) in
    let tr = take 64 (drop 64 seeds) in
    let front : rho ++ key ++ tr ≡ seeds = ap (λ x. x ++ tr) (sym (take-add 32 32 seeds)) ∙ sym (take-add 64 64 seeds) ∙ take_all 128 seeds (omega (arith, size)) in
    record {
      parts = record {
        rho = length-take-le 32 (drop 0 seeds) (omega (arith, size));
        key = length-take-le 32 (drop 32 seeds) (omega (arith, size, length-drop 32 seeds));
        tr = length-take-le 64 (drop 64 seeds) (omega (arith, size, length-drop 64 seeds));
        s1 = u;
        s2 = v;
        t0 = w;
      };
      encoding = rw (front, p, q, r) (append_assoc (seeds ++ first) second low ∙ append_assoc seeds first (second ++ low) ∙ sym whole);
    }

-- The parts of a signature.

width_131071_131072 : width (pos 131071) (pos 131072) ≡ 18
unfolding bit_length
width_131071_131072 = refl

width_524287_524288 : width (pos 524287) (pos 524288) ≡ 20
unfolding bit_length
width_524287_524288 = refl

-- every field of z is that of a coefficient in range
pub whole_response : (gamma1 : ℤ) → IsGamma1 gamma1 → pos (2 ^ width (gamma1 -ℤ pos 1) gamma1) ≡ gamma1 -ℤ pos 1 +ℤ gamma1 +ℤ pos 1
whole_response gamma1 set = grind (arith, ints, common_steps, width_131071_131072, width_524287_524288)

pub response_bounds : (gamma1 : ℤ) → IsGamma1 gamma1 → Bounds (gamma1 -ℤ pos 1) gamma1
response_bounds gamma1 set = (omega (arith, ints, set), omega (arith, ints, set), omega (arith, ints, set), omega (arith, ints, set))

-- gamma1 - 1 as a number of 32 bits
pub less_one : (gamma1 : ℤ) → IsGamma1 gamma1 → to_z w32 (of_z w32 (to_z w32 (of_z w32 gamma1) -ℤ pos 1)) ≡ gamma1 -ℤ pos 1
less_one gamma1 set = omega (arith, ints, set)

pub response_least : (gamma1 : ℤ) → IsGamma1 gamma1 → nat_abs (gamma1 -ℤ pos 1) ≡ nat_abs gamma1 - 1
response_least gamma1 set = omega (arith, ints, set)

pub response_width : (gamma1 : ℤ) → IsGamma1 gamma1 → width (gamma1 -ℤ pos 1) gamma1 ≡ width (pos (nat_abs gamma1 - 1)) (pos (nat_abs gamma1))
response_width gamma1 set = grind (arith, ints, common_steps)

-- a signature from its parts
pub signature-of_parts : (gamma1 omega' k l n : ℕ) (sigma c_tilde response hint : List ℕ) (z h : List R) → sigma ≡ c_tilde ++ (response ++ hint) → length c_tilde ≡ n
    → IsVector l (gamma1 - 1) gamma1 z → vector_bytes (gamma1 - 1) gamma1 z ≡ response → Spells omega' k h hint → IsSignature gamma1 omega' k l n sigma c_tilde z h
signature-of_parts gamma1 omega' k l n sigma c_tilde response hint z h cut size vector packed spells = grind (arith, ints, common_steps, append_assoc, cut)

-- the hint of a signature is spelled by its last bytes
pub signature-hint : (gamma1 omega' k l n m : ℕ) (sigma c_tilde : List ℕ) (z h : List R) → IsSignature gamma1 omega' k l n sigma c_tilde z h → m ≡ n + 32 * width (pos (gamma1 - 1)) (pos gamma1) * l
    → Spells omega' k h (drop m sigma)
signature-hint gamma1 omega' k l n m sigma c_tilde z h s e = grind (arith, ints, common_steps, vector-length, length-append, drop_at)

-- The bytes of a private key and of a signature determine their parts.

-- ---- vectors

-- the a and b of every vector
abbrev pub AreBounds : ℕ → ℕ → Type 0
AreBounds a b = (a ≤ 1048575) × (1 ≤ b) × (b ≤ 1048575)

same_row : (a b : ℕ) (v w : R) → AreBounds a b → length v.0 ≡ 256 → length w.0 ≡ 256 → PolynomialInRange (pos 0 -ℤ pos a) (pos b) v.0 → PolynomialInRange (pos 0 -ℤ pos a) (pos b) w.0
    → polynomial_bytes (pos a) (pos b) v.0 ≡ polynomial_bytes (pos a) (pos b) w.0 → v ≡ w
same_row a b v w bounds m n p q e =
    let lists = same_polynomial (pos a) (pos b) v.0 w.0 (omega (arith, ints), omega (arith, ints, bounds), omega (arith, ints, bounds), omega (arith, ints, bounds)) p q m n e in
    ap (λ (l : List ℤ). let r : R = record { 0 = l } in r) lists

pub same_vector : (n m a b : ℕ) (v w : List R) → AreBounds a b → length v ≡ length w → IsVector n a b v → IsVector m a b w → vector_bytes a b v ≡ vector_bytes a b w → v ≡ w
same_vector n m a b v w bounds l p q =
    same_pieces (IsPolynomial (pos a) (pos b)) (packed (pos a) (pos b)) (32 * width (pos a) (pos b)) v w (λ x is. length-polynomial_bytes (pos a) (pos b) x.0 is.1)
    (λ x y i j. same_row a b x y bounds i.1 j.1 i.0 j.0) l (λ i d h. (p.range i d h, p.places i d h)) (λ i d h. (q.range i d h, q.places i d h))

-- ---- public keys

vector_of_t1 : (v : List R) → All IsT1 v → IsVector (length v) 0 1023 v
vector_of_t1 v h = record { rows = refl; places = λ i d l. (h i d l).count; range = λ i d l. (h i d l).range }

pub same_parts : (rho seed : List ℕ) (t1 others : List R) → length rho ≡ 32 → length seed ≡ 32 → length t1 ≡ length others → All IsT1 t1 → All IsT1 others
    → public_key_bytes rho t1 ≡ public_key_bytes seed others → (rho ≡ seed) × (t1 ≡ others)
same_parts rho seed t1 others r s n p q e = grind (arith, ints, common_steps, cut, same_vector, vector_of_t1)

-- ---- signatures

pub same_signature : (gamma1 omega' k l n : ℕ) (bytes c d : List ℕ) (z y g h : List R) → 1 ≤ gamma1 → gamma1 ≤ 1048575
    → IsSignature gamma1 omega' k l n bytes c z g → IsSignature gamma1 omega' k l n bytes d y h → (c ≡ d) × (z ≡ y) × (g ≡ h)
same_signature gamma1 omega' k l n bytes c d z y g h low high p q =
    let Z = vector_bytes (gamma1 - 1) gamma1 z in
    let Y = vector_bytes (gamma1 - 1) gamma1 y in
    let same : c ++ (Z ++ hint_bytes omega' g) ≡ d ++ (Y ++ hint_bytes omega' h) = sym (append_assoc c Z _) ∙ p.encoding ∙ sym q.encoding ∙ append_assoc d Y _ in
    let outer = cut c d _ _ n p.c_tilde_size q.c_tilde_size same in
    let inner = cut Z Y _ _ (32 * width (pos (gamma1 - 1)) (pos gamma1) * l) (vector-length l (gamma1 - 1) gamma1 z p.response) (vector-length l (gamma1 - 1) gamma1 y q.response) outer.1 in
    let left : Spells omega' k g (hint_bytes omega' h) = record { hint = p.hint; few = p.few; spelling = inner.1 } in
    let right : Spells omega' k h (hint_bytes omega' h) = record { hint = q.hint; few = q.few; spelling = refl } in (
      outer.0,
      same_vector l l (gamma1 - 1) gamma1 z y (omega (arith, high), low, high) (p.response.rows ∙ sym q.response.rows) p.response q.response inner.0,
      one_hint omega' k g h (hint_bytes omega' h) left right,
    )

-- ---- private keys

pub same_private_key : (eta k l : ℕ) (bytes : List ℕ) (sk other : PrivateParts) → 1 ≤ eta → eta ≤ 1048575 → IsPrivateKeyOf eta k l bytes sk → IsPrivateKeyOf eta k l bytes other → sk ≡ other
same_private_key eta k l bytes sk other low high p q =
    let one = private_key_cut eta k l bytes sk p in
    let two = private_key_cut eta k l bytes other q in
    same_private sk.rho other.rho sk.key other.key sk.tr other.tr sk.s1 other.s1 sk.s2 other.s2 sk.t0 other.t0 (sym one.rho ∙ two.rho) (sym one.key ∙ two.key) (sym one.tr ∙ two.tr)
    (same_vector l l eta eta sk.s1 other.s1 (high, low, high) (p.parts.s1.rows ∙ sym q.parts.s1.rows) p.parts.s1 q.parts.s1 (sym one.s1 ∙ two.s1))
    (same_vector k k eta eta sk.s2 other.s2 (high, low, high) (p.parts.s2.rows ∙ sym q.parts.s2.rows) p.parts.s2 q.parts.s2 (sym one.s2 ∙ two.s2))
    (same_vector k k 4095 4096 sk.t0 other.t0 (omega arith, omega arith, omega arith) (p.parts.t0.rows ∙ sym q.parts.t0.rows) p.parts.t0 q.parts.t0 (sym one.t0 ∙ two.t0))
  where
    same_private : (rho rho' key key' tr tr' : List ℕ) (s1 s1' s2 s2' t0 t0' : List R) → rho ≡ rho' → key ≡ key' → tr ≡ tr' → s1 ≡ s1' → s2 ≡ s2' → t0 ≡ t0'
        → Path PrivateParts record { rho = rho; key = key; tr = tr; s1 = s1; s2 = s2; t0 = t0 } record { rho = rho'; key = key'; tr = tr'; s1 = s1'; s2 = s2'; t0 = t0' }
    same_private rho rho' key key' tr tr' s1 s1' s2 s2' t0 t0' e f g h i j = cc
