use Rattle.std.proofs.Common.{◌≤◌, pos, arith}
use Rattle.std.proofs.lemmas.List.Elements.{All-replicate}
use Rattle.std.specs.Prelude.{replicate}
use Rattle.fips204_base.proofs.Names.{nat_abs}
use Rattle.fips204_base.specs.Bounds.{ValuesWithin}
use Rattle.fips204_base.specs.declared.types.T.{T}
use Rattle.fips204_base.proofs.product.matrix.Values.zeros.Goals as goal

pub invariant_of-result : goal.invariant_of-result
invariant_of-result g c =
    let zeros : ValuesWithin 8380416 (replicate 256 (pos 0)) = All-replicate (λ x. nat_abs x ≤ 8380416) 256 (pos 0) (omega arith) in
    All-replicate (λ (t : T). ValuesWithin 8380416 t.0) _ _ zeros
