use Rattle.std.proofs.Common.{arith}
use Rattle.fips204_base.proofs.Names.{ints, width-below}
use Rattle.fips204_base.proofs.conversion.field_of.Goals as goal

pub returns-then-a-gt0-clause-below : goal.returns-then-a-gt0-clause-below
returns-then-a-gt0-clause-below c = width-below c.args.a c.args.b _ c.requires.bounds (omega (arith, ints, c.requires))

pub returns-else-a-gt0-clause-below : goal.returns-else-a-gt0-clause-below
returns-else-a-gt0-clause-below c = width-below c.args.a c.args.b _ c.requires.bounds (omega (arith, ints, c.requires))
