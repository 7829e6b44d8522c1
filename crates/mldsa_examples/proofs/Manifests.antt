-- Two manifests with one spelling are one manifest.
use Rattle.std.proofs.Common.{◌≡◌, ◌++◌, ℕ, List, [], ◌∷◌, length, take, drop, arith, length-append, refl, sym, ap, ◌∙◌}
use Rattle.std.specs.Int.{w64, from_be_bytes}
use Rattle.std.proofs.lemmas.List.{take_at, drop_at}
use Rattle.std.proofs.lemmas.List.Elements.{All-head, All-tail}
use Rattle.std.proofs.lemmas.Nat.{from_be_bytes-to_be_bytes_8}
use Rattle.mldsa_examples.specs.Manifest.{entry_bytes, spelling, IsEntry, SpellingIsOneToOne}
use Rattle.mldsa_examples.specs.declared.manifest.Entry.{Entry}

-- two joined lists whose first parts have as many elements have the same parts
cut : (n : ℕ) (p q r s : List ℕ) → length p ≡ n → length r ≡ n → p ++ q ≡ r ++ s → (p ≡ r) × (q ≡ s)
cut n p q r s one other same = (
  sym (take_at p q n one) ∙ ap (take n) same ∙ take_at r s n other,
  sym (drop_at p q n one) ∙ ap (drop n) same ∙ drop_at r s n other,
)

one_entry : (a b : Entry) → IsEntry a → IsEntry b → entry_bytes a ≡ entry_bytes b → a ≡ b
one_entry a b one other same =
    let digests = cut 40 _ _ _ _ (simp length-append (omega (arith, one.name))) (simp length-append (omega (arith, other.name))) same in
    let names = cut 32 _ _ _ _ one.name other.name digests.0 in
    let sizes = sym (from_be_bytes-to_be_bytes_8 a.size one.size) ∙ ap (from_be_bytes w64) names.1
    ∙ from_be_bytes-to_be_bytes_8 b.size other.size in
    λ i. record { name = names.0 i; size = sizes i; digest = digests.1 i }

length-entry : (a : Entry) → IsEntry a → length (entry_bytes a) ≡ 72
length-entry a is = simp length-append (omega (arith, is.name, is.digest))

no_entry : (a : Entry) (rest : List ℕ) → IsEntry a → [] ≡ entry_bytes a ++ rest → ⊥
no_entry a rest is none = omega (arith, length-entry a is, simp length-append at (ap length none))

pub one_manifest : SpellingIsOneToOne
one_manifest [] [] all every same = refl
one_manifest [] (b ∷ more) all every same = absurd (no_entry b (spelling more) (All-head IsEntry b more every) same)
one_manifest (a ∷ rest) [] all every same = absurd (no_entry a (spelling rest) (All-head IsEntry a rest all) (sym same))
one_manifest (a ∷ rest) (b ∷ more) all every same =
    let one = All-head IsEntry a rest all in
    let other = All-head IsEntry b more every in
    let parts = cut 72 _ _ _ _ (length-entry a one) (length-entry b other) same in
    let first = one_entry a b one other parts.0 in
    let others = one_manifest rest more (All-tail IsEntry a rest all) (All-tail IsEntry b more every) parts.1 in
    λ i. first i ∷ others i
