use Rattle.std.proofs.Common.{[], get_or, arith}
use Rattle.fips204_base.proofs.Names.{lane, vector_of-same}
use Rattle.fips204_base.proofs.product.write_lanes.Goals as goal

pub returns : goal.returns
returns g c =
    vector_of-same g.row.N (λ r n. lane (get_or c.args.lanes.now n []) r) c.loop-n.out c.loop-n.invariant.size (λ r h. c.loop-n.invariant.places r record { 0 = [] } h (omega (arith, c.loop-n-test.false)))
    (λ r n h l. c.loop-n.invariant.values r n [] h (omega (arith, l, c.loop-n-test.false)))
