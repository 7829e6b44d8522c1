use Rattle.fips204_base.proofs.Names.{InHand-left}
use Rattle.fips204_base.proofs.xof.counter.BlockReaderXofReader.left.Goals as goal

pub returns : goal.returns
returns g c =
    InHand-left g.H.BlockHash.hash g.row.N g.met.H.BlockHash.digest_size c.self.inside.seed c.self.inside.blocks c.args.self.now
    c.self.inside.next c.self.inside.block c.self.inside.given (c.self.invariant.0, c.self.invariant.1, c.self.told2, c.self.view_is)
