use Rattle.std.proofs.Common.{arith, refl, rules, ◌≡◌, ◌≢◌, ◌∙◌, ◌<◌, ◌+◌, ◌-◌, ◌*◌, [], None, get_or, length, set, replicate}
use Rattle.std.proofs.lemmas.List.{length-replicate, get_or-set_same, get_or-set_other}
use native.Mathlib.Decide.{dec_lt}
use Rattle.fips204_base.specs.PlainTransforms.{plain_row, row_product}
use Rattle.fips204_base.specs.Vectors.{matrix_product, vector_coefficients}
use Rattle.fips204_base.proofs.PlainTransforms.{row-same}
use Rattle.fips204.specs.PreparedBytes.{IsRow, row_bytes}
use Rattle.fips204.proofs.MatrixBytes.{length-row, reads_more, reads_all, unread, row_within}
use Rattle.fips204.proofs.ml_dsa.matrix_bytes.write_read_product.Goals as goal

pub loop-r-init : goal.loop-r-init
loop-r-init g c =
    let none : 1024 * g.row.L * 0 ≡ 0 = omega arith in (
      replicate g.row.K [],
      record { count = length-replicate g.row.K []; read = rw none refl; holds = λ i d h. absurd (omega (arith, h)) },
      λ i n h. absurd (omega (arith, h)),
    )

pub returns-in_err-read_row : goal.returns-in_err-read_row
returns-in_err-read_row g c =
    let none : c.from_residual.result ≡ None = search rules in
    let one = 1024 * g.row.L in
    let size : one * c.loop-r.r + one - one * c.loop-r.r ≡ one = omega arith in
    let refused = rw size at c.in_err-read_row.ensures in
    rw none (unread (IsRow g.row.L) row_bytes g.row.K one c.loop-r.r c.args.bytes.now [] (length-row g.row.L) c.loop-r-test.true refused)

pub write_row_product-requires : goal.write_row_product-requires
write_row_product-requires g c =
    let one = 1024 * g.row.L in
    let size : one * c.loop-r.r + one - one * c.loop-r.r ≡ one = omega arith in
    let read = rw size at c.in_ok-read_row.ensures in
    (omega (arith, c.requires.few.1), (search (arith, c.requires.few.1, rules), ((omega (arith, c.loop-r-test.true, c.requires.few.0), c.requires.few.1), (row_within g.row.L c.read_row.new.row read.0))))

pub loop-r-preserved : goal.loop-r-preserved
loop-r-preserved g c =
    let one = 1024 * g.row.L in
    let r = c.loop-r.r in
    let size : one * r + one - one * r ≡ one = omega arith in
    let read = rw size at c.in_ok-read_row.ensures in
    let kept = c.loop-r.invariant in
    let row = c.read_row.new.row in
    let room : r < length kept.0 = omega (arith, c.loop-r-test.true, kept.1.count) in (
      set kept.0 r row,
      reads_more (IsRow g.row.L) row_bytes g.row.K one r c.args.bytes.now kept.0 row kept.1 c.loop-r-test.true read.1 read.0,
      λ i n h m. elim (dec_lt i r) [
        | yes before ↦
            let other : i ≢ r = λ e. omega (arith, before, e) in
            rw (get_or-set_other kept.0 r i row [] other) (c.write_row_product.ensures.kept i n other (omega (arith, before, c.loop-r-test.true, c.requires.few.0)) m ∙ kept.2 i n before m)
        | no now ↦
            let here : i ≡ r = omega (arith, h, now) in
            rw (here, get_or-set_same kept.0 r row [] room) (c.write_row_product.ensures.product n m)
      ],
    )

pub returns : goal.returns
unfolding matrix_product row_product
returns g c =
    let end : c.loop-r.r ≡ g.row.K = omega (arith, c.loop-r-test.false, c.loop-r.auto.r-end) in
    let kept = c.loop-r.invariant in
    let all = reads_all (IsRow g.row.L) row_bytes g.row.K (1024 * g.row.L) c.loop-r.r c.args.bytes.now kept.0 kept.1 end c.requires.size in (
      kept.0,
      all.0,
      all.1,
      λ r n h m. kept.2 r n (omega (arith, h, end)) m
          ∙ row-same g.row.L (plain_row (get_or kept.0 r [])) (plain_row c.write_values.new.out) (vector_coefficients c.args.v.now) n c.write_values.ensures m,
    )
