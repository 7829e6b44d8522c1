use Rattle.std.proofs.Common.{◌≡◌, arith}
use Rattle.fips204_base.proofs.Names.{vector_of-same}
use Rattle.fips204_base.proofs.maps.write_map_vector.Goals as goal

pub returns-clause-whole : goal.returns-clause-whole
returns-clause-whole g c f by =
    let end : c.loop-r.r ≡ g.row.K = omega (arith, c.loop-r-test.false, c.loop-r.auto.r-end) in
    let all = rw end at c.loop-r.invariant.changed in
    vector_of-same g.row.K f c.loop-r.v c.loop-r.invariant.rows (rw end at c.loop-r.invariant.places) (λ r n h l. by r n _ h l (all r n h l))
