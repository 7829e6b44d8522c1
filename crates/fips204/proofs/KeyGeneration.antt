-- The vector t = A s1 + s2 of a pair of keys, and what key generation and derivation return.
use Rattle.std.proofs.Common.{◌≡◌, ◌<◌, ◌≤◌, ◌+◌, ◌-◌, ◌%◌, ℕ, ℤ, List, pos, ap, ◌∙◌, arith, ◌⊎◌, inl, inr, refl, sym, Some, None, Ok, Err, take, drop, Bool, IsTrue, ◌≢◌, ◌↔◌, ok_or, option_map, option_and_then}
use Rattle.fips204.proofs.Names.{none-some, ints, R, T, residue, power2round, IsVector, vector_coefficients, vector_of, matrix_product, power2round_high, power2round_low, vector_of-ext, vector_of-entry, vector_of-range, PublicParts, PrivateParts, IsWhole, key_vector, high_part, low_part, key_pair, seed_front, key_hash, ParameterSet, drop-take, take-take, SamplingLimit, sampled_matrix, small_vectors, small_vector, generated, derived}
use Rattle.fips204.proofs.RefusedCalls.{same_some}
use Rattle.std.specs.declared.option.Option.{Option}

-- The vector t = A s1 + s2 of a pair of keys, and its parts.

-- coefficients of t are residues
abbrev IsKeyVector : ParameterSet → List (List T) → List R → List R → List R → Type 0
IsKeyVector p a s1 s2 t = t ≡ vector_of p.k (λ r n. pos (key_vector p.l a s1 s2 r n))

key_vector-below : (p : ParameterSet) (a : List (List T)) (s1 s2 : List R) (r n : ℕ) → key_vector p.l a s1 s2 r n < 8380417
key_vector-below p a s1 s2 r n = omega arith

read_back : (p : ParameterSet) (a : List (List T)) (s1 s2 t : List R) (r n : ℕ) → IsKeyVector p a s1 s2 t → r < p.k → n < 256 → vector_coefficients t r n ≡ key_vector p.l a s1 s2 r n
read_back p a s1 s2 t r n e h q =
    ap (λ v. vector_coefficients v r n) e ∙ ap residue (vector_of-entry p.k (λ r n. pos (key_vector p.l a s1 s2 r n)) r n h q) ∙ own (key_vector p.l a s1 s2 r n) (key_vector-below p a s1 s2 r n)
  where
    own : (x : ℕ) → x < 8380417 → x % 8380417 ≡ x
    own x h = omega (arith, h)

-- the high parts of t are its high part, and the low ones its low part
pub key_parts-are : (p : ParameterSet) (a : List (List T)) (s1 s2 t t1 t0 : List R) (k l : ℕ) → k ≡ p.k → l ≡ p.l → t ≡ vector_of k (λ r n. pos (key_vector l a s1 s2 r n))
    → t1 ≡ vector_of k (λ r n. pos (power2round (vector_coefficients t r n)).0) → t0 ≡ vector_of k (λ r n. (power2round (vector_coefficients t r n)).1)
    → (t1 ≡ high_part p a s1 s2) × (t0 ≡ low_part p a s1 s2)
unfolding high_part low_part
key_parts-are p a s1 s2 t t1 t0 k l rows columns e high low =
    let whole : IsKeyVector p a s1 s2 t = e ∙ rw (rows, columns) refl in (
      high ∙ rw rows (vector_of-ext p.k _ _ (λ r n h q. ap (λ x. pos (power2round x).0) (read_back p a s1 s2 t r n whole h q))),
      low ∙ rw rows (vector_of-ext p.k _ _ (λ r n h q. ap (λ x. (power2round x).1) (read_back p a s1 s2 t r n whole h q))),
    )

pub high_part-range : (p : ParameterSet) (a : List (List T)) (s1 s2 : List R) → IsVector p.k 0 1023 (high_part p a s1 s2)
unfolding high_part
high_part-range p a s1 s2 =
    vector_of-range p.k 0 1023 (λ r n. pos (power2round (key_vector p.l a s1 s2 r n)).0) (λ r n h q.
    let high = power2round_high (key_vector p.l a s1 s2 r n) (key_vector-below p a s1 s2 r n) in
    (omega (arith, ints), omega (arith, ints, high)))

pub low_part-range : (p : ParameterSet) (a : List (List T)) (s1 s2 : List R) → IsVector p.k 4095 4096 (low_part p a s1 s2)
unfolding low_part
low_part-range p a s1 s2 =
    vector_of-range p.k 4095 4096 (λ r n. (power2round (key_vector p.l a s1 s2 r n)).1) (λ r n h q.
    power2round_low (key_vector p.l a s1 s2 r n) (key_vector-below p a s1 s2 r n))

-- What key generation and derivation return.

pub derived-none : (p : ParameterSet) (G : List ℕ → List ℕ) (sk : PrivateParts) → sampled_matrix G sk.rho p.k p.l ≡ None → derived p G sk ≡ Err SamplingLimit
unfolding derived
derived-none p G sk none = rw none refl

pub derived-some : (p : ParameterSet) (G : List ℕ → List ℕ) (sk : PrivateParts) (a : List (List T)) (t1 : List R) → sampled_matrix G sk.rho p.k p.l ≡ Some a
    → t1 ≡ high_part p a sk.s1 sk.s2 → derived p G sk ≡ Ok (record { rho = sk.rho; tr = sk.tr; t1 = t1 })
unfolding derived
derived-some p G sk a t1 there high = rw (there, high) refl

-- t0 is that of the matrix of rho exactly where the key is consistent
pub low_of_whole : (p : ParameterSet) (G : List ℕ → List ℕ) (sk : PrivateParts) (a : List (List T)) (low : List R) → sampled_matrix G sk.rho p.k p.l ≡ Some a → low ≡ low_part p a sk.s1 sk.s2
    → IsWhole p G sk → sk.t0 ≡ low
low_of_whole p G sk a low there is whole =
    whole.low ∙ ap (λ m. low_part p m sk.s1 sk.s2) (same_some whole.matrix a (sym whole.sampled ∙ there)) ∙ sym is

-- whether t0 is the low part tells whether the key is consistent
pub tells_whole : (p : ParameterSet) (G : List ℕ → List ℕ) (sk : PrivateParts) (a : List (List T)) (low : List R) (answer : Bool) → sampled_matrix G sk.rho p.k p.l ≡ Some a
    → low ≡ low_part p a sk.s1 sk.s2 → IsTrue answer ↔ (sk.t0 ≡ low) → (sampled_matrix G sk.rho p.k p.l ≢ None) × (IsTrue answer ↔ IsWhole p G sk)
tells_whole p G sk a low answer there is both = (
  λ none. none-some a (sym none ∙ there),
  (λ t. record { matrix = a; sampled = there; low = both.0 t ∙ is }, λ whole. both.1 (low_of_whole p G sk a low there is whole)),
)

-- ---- key generation

-- what is sampled of the seeds, by other names of the rows and columns
pub record AreSampled (p : ParameterSet) (H G : List ℕ → List ℕ) (k l : ℕ) (rho rho' : List ℕ) (a : Option (List (List T))) (s1 s2 : Option (List R)) : Type 0 where
  pub rows : k ≡ p.k
  pub columns : l ≡ p.l
  pub matrix : sampled_matrix G rho p.k p.l ≡ a
  pub first : small_vector p.eta H rho' 0 l ≡ s1
  pub second : small_vector p.eta H rho' l k ≡ s2

-- the seeds
pub record AreSeeds (p : ParameterSet) (H : List ℕ → List ℕ) (xi rho rho' key : List ℕ) : Type 0 where
  pub matrix : rho ≡ take 32 (seed_front p H xi)
  pub vectors : rho' ≡ take 64 (drop 32 (seed_front p H xi))
  pub masks : key ≡ take 32 (drop 96 (seed_front p H xi))

-- n items of the first 128, from a place on
part_of_front : (at n : ℕ) (front bytes part : List ℕ) → at + n ≤ 128 → bytes ≡ take 128 front → part ≡ take n (drop at bytes)
    → part ≡ take n (drop at front)
part_of_front at n front bytes part room first here =
    let m : 128 ≡ at + (n + (128 - at - n)) = omega (arith, room) in
    here ∙ ap (λ l. take n (drop at l)) (first ∙ ap (λ k. take k front) m) ∙ ap (take n) (drop-take at (n + (128 - at - n)) front)
    ∙ take-take n (n + (128 - at - n)) (drop at front) (omega arith)

-- the seeds are parts of 128 bytes
pub are_seeds : (p : ParameterSet) (H : List ℕ → List ℕ) (xi bytes rho rho' key : List ℕ) → bytes ≡ take 128 (seed_front p H xi)
    → rho ≡ take 32 (drop 0 bytes) → rho' ≡ take 64 (drop 32 bytes) → key ≡ take 32 (drop 96 bytes) → AreSeeds p H xi rho rho' key
are_seeds p H xi bytes rho rho' key e f g h = record {
  matrix = part_of_front 0 32 (seed_front p H xi) bytes rho (omega arith) e f;
  vectors = part_of_front 32 64 (seed_front p H xi) bytes rho' (omega arith) e g;
  masks = part_of_front 96 32 (seed_front p H xi) bytes key (omega arith) e h;
}

-- both keys where the matrix and the small vectors are there, or else none
unfoldable pub key_pair_if_all : ParameterSet → (List ℕ → List ℕ) → List ℕ → List ℕ → Option (List (List T)) → Option (List R) → Option (List R) → Option (PublicParts × PrivateParts)
key_pair_if_all p H rho key (Some a) (Some s1) (Some s2) = Some (key_pair p H rho key a s1 s2)
key_pair_if_all p H rho key a s1 s2 = None

if_all : (p : ParameterSet) (H : List ℕ → List ℕ) (rho key : List ℕ) (a : Option (List (List T))) (s1 s2 : Option (List R))
    → option_and_then (λ m. option_map (λ (small : List R × List R). key_pair p H rho key m small.0 small.1) (option_and_then (λ x. option_map (λ y. (x, y)) s2) s1)) a ≡ key_pair_if_all p H rho key a s1 s2
unfolding key_pair_if_all
if_all p H rho key None s1 s2 = refl
if_all p H rho key (Some a) None s2 = refl
if_all p H rho key (Some a) (Some s1) None = refl
if_all p H rho key (Some a) (Some s1) (Some s2) = refl

-- both keys of a seed, where what they are made of is there
abbrev pub key_pair_of_seed : ParameterSet → (List ℕ → List ℕ) → (List ℕ → List ℕ) → List ℕ → Option (PublicParts × PrivateParts)
key_pair_of_seed p H G xi =
    key_pair_if_all p H (take 32 (seed_front p H xi)) (take 32 (drop 96 (seed_front p H xi))) (sampled_matrix G (take 32 (seed_front p H xi)) p.k p.l)
    (small_vector p.eta H (take 64 (drop 32 (seed_front p H xi))) 0 p.l) (small_vector p.eta H (take 64 (drop 32 (seed_front p H xi))) p.l p.k)

-- key generation by what is sampled
pub generated-by_parts : (p : ParameterSet) (H G : List ℕ → List ℕ) (xi : List ℕ) → generated p H G xi ≡ ok_or (key_pair_of_seed p H G xi) SamplingLimit
unfolding generated small_vectors small_vector
generated-by_parts p H G xi =
    ap (λ (o : Option (PublicParts × PrivateParts)). ok_or o SamplingLimit) (if_all p H (take 32 (seed_front p H xi)) (take 32 (drop 96 (seed_front p H xi))) _ _ _)

generated-is : (p : ParameterSet) (H G : List ℕ → List ℕ) (xi rho rho' key : List ℕ) (k l : ℕ) (a : Option (List (List T))) (s1 s2 : Option (List R))
    → AreSeeds p H xi rho rho' key → AreSampled p H G k l rho rho' a s1 s2 → generated p H G xi ≡ ok_or (key_pair_if_all p H rho key a s1 s2) SamplingLimit
generated-is p H G xi rho rho' key k l a s1 s2 from given =
    let first = rw given.columns at given.first in
    let second = rw (given.rows, given.columns) at given.second in
    generated-by_parts p H G xi ∙ rw (sym from.matrix, sym from.vectors, sym from.masks) (rw (given.matrix, first, second) refl)

no_pair : (p : ParameterSet) (H : List ℕ → List ℕ) (rho key : List ℕ) (a : Option (List (List T))) (s1 s2 : Option (List R)) → (a ≡ None) ⊎ ((s1 ≡ None) ⊎ (s2 ≡ None)) → key_pair_if_all p H rho key a s1 s2 ≡ None
unfolding key_pair_if_all
no_pair p H rho key None s1 s2 h = refl
no_pair p H rho key (Some a) None s2 h = refl
no_pair p H rho key (Some a) (Some s1) None h = refl
no_pair p H rho key (Some a) (Some s1) (Some s2) (inl e) = absurd cc
no_pair p H rho key (Some a) (Some s1) (Some s2) (inr (inl e)) = absurd cc
no_pair p H rho key (Some a) (Some s1) (Some s2) (inr (inr e)) = absurd cc

-- one of the samplings is none
pub generated-none : (p : ParameterSet) (H G : List ℕ → List ℕ) (xi rho rho' key : List ℕ) (k l : ℕ) (a : Option (List (List T))) (s1 s2 : Option (List R))
    → AreSeeds p H xi rho rho' key → AreSampled p H G k l rho rho' a s1 s2 → (a ≡ None) ⊎ ((s1 ≡ None) ⊎ (s2 ≡ None)) → generated p H G xi ≡ Err SamplingLimit
generated-none p H G xi rho rho' key k l a s1 s2 from given h =
    generated-is p H G xi rho rho' key k l a s1 s2 from given ∙ ap (λ (o : Option (PublicParts × PrivateParts)). ok_or o SamplingLimit) (no_pair p H rho key a s1 s2 h)

-- all are there
pub generated-some : (p : ParameterSet) (H G : List ℕ → List ℕ) (xi rho rho' key tr : List ℕ) (k l : ℕ) (a : List (List T)) (s1 s2 t1 t0 : List R)
    → AreSeeds p H xi rho rho' key → AreSampled p H G k l rho rho' (Some a) (Some s1) (Some s2) → t1 ≡ high_part p a s1 s2 → t0 ≡ low_part p a s1 s2 → tr ≡ key_hash H rho t1
    → generated p H G xi ≡ Ok ((let pk : PublicParts = record { rho = rho; tr = tr; t1 = t1 } in pk), (let sk : PrivateParts = record { rho = rho; key = key; tr = tr; s1 = s1; s2 = s2; t0 = t0 } in sk))
unfolding key_pair_if_all key_pair
generated-some p H G xi rho rho' key tr k l a s1 s2 t1 t0 from given high low hash =
    generated-is p H G xi rho rho' key k l (Some a) (Some s1) (Some s2) from given ∙ rw (hash, high, low) refl

-- A s1 + s2 at one place
pub key_sum : (l : ℕ) (a : List (List T)) (s1 s2 : List R) (r n : ℕ) (x : ℤ) → x ≡ pos (matrix_product l a (vector_coefficients s1) r n)
    → pos ((residue x + vector_coefficients s2 r n) % 8380417) ≡ pos (key_vector l a s1 s2 r n)
key_sum l a s1 s2 r n x e = rw e (ap pos (omega arith))
