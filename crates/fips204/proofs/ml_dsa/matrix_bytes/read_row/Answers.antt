use Rattle.std.proofs.Common.{arith, refl, rules, ◌≡◌, ◌+◌, ◌-◌, ◌*◌, None}
use Rattle.fips204_base.specs.declared.types.TheConstants.{T0}
use Rattle.fips204.specs.PreparedBytes.{IsEntry, entry_bytes}
use Rattle.fips204.proofs.MatrixBytes.{length-entry, reads_more, reads_all, unread}
use Rattle.fips204.proofs.ml_dsa.matrix_bytes.read_row.Goals as goal

pub loop-s-init : goal.loop-s-init
loop-s-init g c = record { count = search rules; read = refl; holds = λ i d h. absurd (omega (arith, h)) }

pub returns-in_err-read_entry : goal.returns-in_err-read_entry
returns-in_err-read_entry g c =
    let none : c.from_residual.result ≡ None = search rules in
    let size : 1024 * c.loop-s.s + 1024 - 1024 * c.loop-s.s ≡ 1024 = omega arith in
    let refused = rw size at c.in_err-read_entry.ensures in
    rw none (unread IsEntry entry_bytes g.row.L 1024 c.loop-s.s c.args.bytes.now T0 length-entry c.loop-s-test.true refused)

pub loop-s-preserved : goal.loop-s-preserved
loop-s-preserved g c =
    let size : 1024 * c.loop-s.s + 1024 - 1024 * c.loop-s.s ≡ 1024 = omega arith in
    let read = rw size at c.in_ok-read_entry.ensures in
    reads_more IsEntry entry_bytes g.row.L 1024 c.loop-s.s c.args.bytes.now c.loop-s.row c.read_entry.new.t c.loop-s.invariant c.loop-s-test.true read.1 read.0

pub returns : goal.returns
returns g c = reads_all IsEntry entry_bytes g.row.L 1024 c.loop-s.s c.args.bytes.now c.loop-s.row c.loop-s.invariant (omega (arith, c.loop-s-test.false, c.loop-s.auto.s-end)) c.requires.size
