use Rattle.std.proofs.Common.{ℕ, ◌<◌, ◌≤◌, ◌≡◌, ℤ, List, [], pos, arith, ap, sym, subst, ◌∙◌}
use Rattle.fips204_base.proofs.Names.{nat_abs, replicate, get_or-replicate, residue, lane, plain-zeros}
use Rattle.fips204_base.proofs.product.Transforms.zeros.Goals as goal
use Rattle.fips204_base.proofs.product.Transforms.zeros.Goals.{After-from_array}

zero : (c : After-from_array) (j : ℕ) → j < 8 → lane c.from_array.result j ≡ pos 0
zero c j h = ap (λ (x : List ℤ). lane x j) c.from_array.ensures ∙ get_or-replicate 8 j (pos 0) (pos 0) h

pub invariant_of-result : goal.invariant_of-result
invariant_of-result c = λ i j d h l.
    let at = zero (goal.at.invariant_of-result c).After-from_array j l in
    subst (λ (x : List ℤ). nat_abs (lane x j) ≤ 8380416) (sym (get_or-replicate 256 i c.from_array.result d h)) (subst (λ x. nat_abs x ≤ 8380416) (sym at) (omega arith))

pub returns : goal.returns
returns c = λ r n h l.
    let at = zero (goal.at.returns c).After-from_array r h in
    plain-zeros (replicate 256 c.from_array.result) r n h l (λ i p. ap (λ (x : List ℤ). residue (lane x r)) (get_or-replicate 256 i c.from_array.result [] p) ∙ ap residue at)
