use Rattle.std.proofs.Common.{arith, refl, rules, ◌≡◌, ◌+◌, ◌-◌, ◌*◌, [], None, set, replicate}
use Rattle.std.proofs.lemmas.List.{length-replicate}
use Rattle.fips204.specs.PreparedBytes.{IsRow, row_bytes}
use Rattle.fips204.proofs.MatrixBytes.{length-row, reads_more, reads_all, unread}
use Rattle.fips204.proofs.ml_dsa.matrix_bytes.check_matrix.Goals as goal

pub loop-r-init : goal.loop-r-init
loop-r-init g c =
    let none : 1024 * g.row.L * 0 ≡ 0 = omega arith in
    (replicate g.row.K [], record { count = length-replicate g.row.K []; read = rw none refl; holds = λ i d h. absurd (omega (arith, h)) })

pub returns-in_err-read_row : goal.returns-in_err-read_row
returns-in_err-read_row g c =
    let none : c.from_residual.result ≡ None = search rules in
    let one = 1024 * g.row.L in
    let size : one * c.loop-r.r + one - one * c.loop-r.r ≡ one = omega arith in
    let refused = rw size at c.in_err-read_row.ensures in
    rw none (unread (IsRow g.row.L) row_bytes g.row.K one c.loop-r.r c.args.bytes.now [] (length-row g.row.L) c.loop-r-test.true refused)

pub loop-r-preserved : goal.loop-r-preserved
loop-r-preserved g c =
    let one = 1024 * g.row.L in
    let size : one * c.loop-r.r + one - one * c.loop-r.r ≡ one = omega arith in
    let read = rw size at c.in_ok-read_row.ensures in
    let kept = c.loop-r.invariant in (
      set kept.0 c.loop-r.r c.read_row.new.row,
      reads_more (IsRow g.row.L) row_bytes g.row.K one c.loop-r.r c.args.bytes.now kept.0 c.read_row.new.row kept.1 c.loop-r-test.true read.1 read.0,
    )

pub returns : goal.returns
returns g c =
    let kept = c.loop-r.invariant in
    let all = reads_all (IsRow g.row.L) row_bytes g.row.K (1024 * g.row.L) c.loop-r.r c.args.bytes.now kept.0 kept.1 (omega (arith, c.loop-r-test.false, c.loop-r.auto.r-end)) c.requires.size in
    (kept.0, all.0, all.1)
