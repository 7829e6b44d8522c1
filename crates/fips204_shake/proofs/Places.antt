-- Places in a text.
use Rattle.std.proofs.Common.{◌≡◌, ℕ, ◌≤◌, Bool, true, cond, ltb, Some, None, not, List, length, inl, inr, sym, ap, ◌∙◌, arith}
use Rattle.std.specs.List.{position, position_or_len}
use Rattle.std.proofs.lemmas.List.Sums.{prefix_len-le-length}
use Rattle.std.proofs.lemmas.Bool.{cases_lt}
use Rattle.std.proofs.lemmas.Bool.Decides.{nat_tests}

-- a place that is not found is the end
pub past_all : (p : ℕ → Bool) (xs : List ℕ) → position p xs ≡ None → position_or_len p xs ≡ length xs
past_all p xs none =
    let within : position_or_len p xs ≤ length xs = prefix_len-le-length (λ x. not (p x)) xs in
    elim (cases_lt (position_or_len p xs) (length xs)) [
      | inl before ↦
          let test : ltb (position_or_len p xs) (length xs) ≡ true = grind (arith, nat_tests) in
          absurd (cc (sym none ∙ ap (λ (b : Bool). cond b (Some (position_or_len p xs)) None) test))
      | inr past ↦ omega (arith, within, past)
    ]
