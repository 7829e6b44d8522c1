use Rattle.std.proofs.Common.{◌-ℤ◌, sym}
use Rattle.fips204_base.proofs.Names.{rows_asked, rows_eight, rows_given}
use Rattle.fips204_base.proofs.lanes.LanesResidue.sub.Goals as goal

pub overflow_sub-result : goal.overflow_sub-result
overflow_sub-result c = rows_asked ◌-ℤ◌ c.self.inside.0 c.other.inside.0 c.self.invariant c.other.invariant (rw (sym c.self.view_is, sym c.other.view_is) at c.requires.fits)

pub invariant_of-result : goal.invariant_of-result
invariant_of-result c = rows_eight ◌-ℤ◌ c.self.inside.0 c.other.inside.0 c.self.invariant c.other.invariant (rw (sym c.self.view_is, sym c.other.view_is) at c.requires.fits)

pub returns-clause-value : goal.returns-clause-value
returns-clause-value c =
    let fits = rw (sym c.self.view_is, sym c.other.view_is) at c.requires.fits in
    rw (sym c.self.view_is, sym c.other.view_is) (rows_given ◌-ℤ◌ c.self.inside.0 c.other.inside.0 c.self.invariant c.other.invariant fits)
