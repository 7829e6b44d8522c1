use Rattle.std.proofs.Common.{◌<◌, ◌≤◌, ◌≡◌, ◌∙◌, pos, arith, get_or, sym, to_z, of_z}
use Rattle.fips204_base.proofs.Names.{ints, w32, to_z-of_z, fits_signed_from_abs, number, get_or-set_other, kept_numbers, kept_triples-zero, kept_triples-kept, kept_triples-left, keeps_none, keeps_more}
use Rattle.fips204_base.proofs.hashing.matrix.write_first_triples.Goals as goal
use Rattle.fips204_base.proofs.hashing.matrix.write_first_triples.Goals.{then-number-lt-Q, else-number-lt-Q}

pub returns-then-are_below_q-clause-kept : goal.returns-then-are_below_q-clause-kept
returns-then-are_below_q-clause-kept c =
    let numbers = c.write_numbers.ensures in
    let below = c.are_below_q.ensures c.if-are_below_q.true in
    (kept_numbers c.args.triples.now c.write_numbers.new.values 256 c.write_numbers.array_long (omega arith) (λ p h. (
      omega (arith, ints, numbers p (pos 0) h, below p (pos 0) h),
      numbers p (pos 0) h,
    ))).same

pub loop-p-init : goal.loop-p-init
loop-p-init c = record {
  kept = rw (kept_triples-zero c.args.triples.now) (keeps_none c.write_numbers.new.values c.write_numbers.array_long);
  few = omega arith;
  ahead = λ i d l h. c.write_numbers.ensures i d h;
}

pub loop-p-preserved : goal.loop-p-preserved
loop-p-preserved c =
    let p = c.loop-p.p in
    let triples = c.args.triples.now in
    let here = c.loop-p.invariant.ahead p (pos 0) (omega arith) c.loop-p-test.true in
    elim c.if-number-lt-Q.branch [
      | then-number-lt-Q w ↦
          let below : number triples p < 8380417 = omega (arith, ints, here, w.if-number-lt-Q) in
          let x = get_or c.loop-p.values p (pos 0) in
          let read : to_z w32 (of_z w32 x) ≡ x = to_z-of_z w32 x (fits_signed_from_abs w32 x (omega (arith, ints, here, below))) in
          let next = keeps_more x c.loop-p.invariant.kept (omega (arith, c.loop-p.invariant.few, c.loop-p-test.true)) in
          record {
            kept = rw (w.values-is, w.count-is, kept_triples-kept triples p below, sym here, read) next;
            few = omega (arith, w.count-is, c.loop-p.invariant.few);
            ahead = λ i d l h. rw w.values-is (get_or-set_other c.loop-p.values c.loop-p.count i _ d (λ same. omega (arith, l, c.loop-p.invariant.few, same)) ∙ c.loop-p.invariant.ahead i d (omega (arith, l)) h);
          }
      | else-number-lt-Q w ↦
          let above : 8380417 ≤ number triples p = omega (arith, ints, here, w.if-number-lt-Q) in
          record {
            kept = rw (w.values-is, w.count-is, kept_triples-left triples p above) c.loop-p.invariant.kept;
            few = omega (arith, w.count-is, c.loop-p.invariant.few);
            ahead = λ i d l h. rw w.values-is (c.loop-p.invariant.ahead i d (omega (arith, l)) h);
          }
    ]
