use Rattle.std.proofs.Common.{ℤ, ◌≤◌, ◌∷◌, [], nat_abs, to_z, of_z}
use Rattle.std.specs.Int.{w32}
use Rattle.std.proofs.lemmas.Int.{to_z-of_z}
use Rattle.std.proofs.lemmas.List.{get_or-replicate}
use Rattle.std.proofs.lemmas.List.Elements.{All-replicate}
use Rattle.fips204_base.proofs.Residues.{size_at}
use Rattle.mldsa_bench.specs.declared.arithmetic.lanes.Noted.{Noted}
use Rattle.mldsa_bench.proofs.arithmetic.lanes.repeated.Goals as goal

pub returns : goal.returns
returns c = λ i j d below h.
    let read = to_z-of_z w32 c.args.number c.ranges.number in
    let noted : Noted = record { 0 = to_z w32 (of_z w32 c.args.number) } in
    rw (get_or-replicate 256 i noted d below, read) (size_at 8380416 (c.args.number ∷ []) j (All-replicate (λ (y : ℤ). nat_abs y ≤ 8380416) 1 c.args.number c.requires))
