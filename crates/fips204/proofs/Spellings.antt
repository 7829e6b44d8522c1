-- What users cite of bytes that spell a value: joined lists of known lengths, numbers, a fact of each place of a list, and packed polynomials.
use Rattle.std.proofs.Common.{◌≡◌, ◌<◌, ◌≤◌, ◌+◌, ◌^◌, pos, inl, inr, ℕ, List, ◌++◌, length, take, drop, arith, refl, sym, ap, subst, ◌∙◌}
use Rattle.fips204.proofs.Names.{cases_lt, from_be_bytes-to_be_bytes_4, ints, PackingIsUndone}
use Rattle.fips204_base.specs.Bounds.{Bounds}
use Rattle.fips204_base.specs.Packing.{polynomial_bytes, unpacked}
use Rattle.fips204_base.proofs.Packing.{bytes_unpack, is_unpacked, unpacks, unpacks_bytes}
use Rattle.std.proofs.Math.Seq.{take-append_seam, drop-append_seam}
use Rattle.std.specs.Int.{w32, to_be_bytes, from_be_bytes}

-- two joined lists whose first parts are as long have the same parts
pub same_parts : (xs ys us vs : List ℕ) → length xs ≡ length ys → xs ++ us ≡ ys ++ vs → (xs ≡ ys) × (us ≡ vs)
same_parts xs ys us vs l e = (
  sym (take-append_seam xs us) ∙ ap (take (length xs)) e ∙ ap (λ n. take n (ys ++ vs)) l ∙ take-append_seam ys vs,
  sym (drop-append_seam xs us) ∙ ap (drop (length xs)) e ∙ ap (λ n. drop n (ys ++ vs)) l ∙ drop-append_seam ys vs,
)

-- two numbers of 32 bits with the same four bytes are the same
pub same_u32 : (n m : ℕ) → n < 2 ^ 32 → m < 2 ^ 32 → to_be_bytes w32 n ≡ to_be_bytes w32 m → n ≡ m
same_u32 n m small little e = sym (from_be_bytes-to_be_bytes_4 n small) ∙ ap (from_be_bytes w32) e ∙ from_be_bytes-to_be_bytes_4 m little

-- what holds at each place below a bound, and at the bound, holds at each place below the next one
pub one_more : (P : ℕ → Type 0) (n : ℕ) → ((k : ℕ) → k < n → P k) → P n → (k : ℕ) → k < n + 1 → P k
one_more P n before here k below = elim (cases_lt k n) [
  | inl less ↦ before k less
  | inr past ↦ let at : n ≡ k = omega arith in subst P at here
]

-- packing and unpacking undo each other
pub packing_is_undone : (a b : ℕ) → a ≤ 1048575 → 1 ≤ b → b ≤ 1048575 → PackingIsUndone a b
packing_is_undone a b small some few =
    let bounds : Bounds (pos a) (pos b) = (omega (arith, ints), omega (arith, ints, small), omega (arith, ints, some), omega (arith, ints, few)) in
    record {
      polynomials = λ w count range. sym (is_unpacked (pos a) (pos b) (polynomial_bytes (pos a) (pos b) w.0) w bounds (bytes_unpack (pos a) (pos b) w.0 bounds range count));
      bytes = λ v room all. sym (unpacks_bytes (pos a) (pos b) v (unpacked a b v).0 (unpacks (pos a) (pos b) v (unpacked a b v) bounds room all refl));
    }
