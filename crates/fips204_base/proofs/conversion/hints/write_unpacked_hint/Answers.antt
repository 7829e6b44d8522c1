use Rattle.fips204_base.proofs.Names.{common_steps, to_z-of_z, ints, take_more_set, take_all, All-push, R, PolynomialInRange, all_ones, Spells, all_ones-none, total_before, pieces, totals_rise, places_of, zero_rest, one_more, totals_more, gathered, spelling}
use Rattle.std.proofs.Common.{rules, arith, ◌≡◌, ◌<◌, ◌+◌, pos, nat_abs, length, take, get_or, ◌∙◌, ap, sym, refl, length-set, w32, to_z, of_z, add-one, None}
use Rattle.fips204_base.specs.declared.types.TheConstants.{R0}
use Rattle.fips204_base.proofs.conversion.hints.write_unpacked_hint.Goals as goal
use Rattle.fips204_base.proofs.conversion.hints.write_unpacked_hint.Goals.{then-end-index-via-then-end-index, then-end-index-via-else-end-index+then-end-limit}

pub returns-then-end-index : goal.returns-then-end-index
returns-then-end-index g c = λ h s.
    let O = to_z-of_z w32 c.args.omega c.ranges.omega in
    let S : Spells (nat_abs (to_z w32 (of_z w32 c.args.omega))) g.row.K h c.args.y.now = rw O s in
    let n = S.hint.rows in
    let rise = totals_rise _ h c.args.y.now c.loop-i.i (pieces _ _ h c.args.y.now S) (omega (arith, n)) in
    elim c.then-end-index.branch [
      | then-end-index-via-then-end-index w ↦ omega (arith, rise.0, c.loop-i.invariant.at, w.if-end-index.true)
      | then-end-index-via-else-end-index+then-end-limit w ↦ omega (arith, rise.1, w.if-end-limit.true)
    ]

pub returns-in_err-write_ones : goal.returns-in_err-write_ones
returns-in_err-write_ones g c =
    let none : c.from_residual.result ≡ None = search rules in
    rw none (λ h s.
    let O = to_z-of_z w32 c.args.omega c.ranges.omega in
    let S : Spells (nat_abs (to_z w32 (of_z w32 c.args.omega))) g.row.K h c.args.y.now = rw O s in
    let n = S.hint.rows in
    c.in_err-write_ones.ensures (get_or h c.loop-i.i R0) (rw c.loop-i.invariant.at (places_of _ h c.args.y.now c.loop-i.i (pieces _ _ h c.args.y.now S) (omega (arith, n)))))

pub loop-i-init : goal.loop-i-init
loop-i-init g c = grind (arith, ints, common_steps, all_ones-none, c.told-h)

pub loop-i-preserved : goal.loop-i-preserved
loop-i-preserved g c =
    let end = get_or c.args.y.now (nat_abs (to_z w32 (of_z w32 c.args.omega)) + c.loop-i.i) 0 in
    let inside : c.loop-i.i < length c.loop-i.h = omega arith in
    let places = one_more c.loop-i.h c.args.y.now c.loop-i.i c.loop-i.index end c.write_ones.new.w inside c.if-end-index.false c.loop-i.invariant.places c.in_ok-write_ones.ensures.0 in
    let more = take_more_set c.loop-i.h c.loop-i.i c.write_ones.new.w inside in
    record {
      count = length-set c.loop-i.h c.loop-i.i c.write_ones.new.w ∙ c.loop-i.invariant.count;
      at = ap (total_before _ c.args.y.now) (sym (add-one c.loop-i.i));
      few = c.if-end-limit.false;
      places = places;
      totals = totals_more c.loop-i.h c.args.y.now _ c.loop-i.i end c.write_ones.new.w inside (search rules) refl (search rules) places c.loop-i.invariant.totals;
      sizes = rw more (All-push (λ (w : R). length w.0 ≡ 256) (take c.loop-i.i c.loop-i.h) c.write_ones.new.w c.loop-i.invariant.sizes c.in_ok-write_ones.ensures.1);
      bits = rw more (All-push (λ (w : R). PolynomialInRange (pos 0) (pos 1) w.0) (take c.loop-i.i c.loop-i.h) c.write_ones.new.w c.loop-i.invariant.bits c.in_ok-write_ones.ensures.2);
    }

pub loop-k-init : goal.loop-k-init
loop-k-init g c = search rules

pub returns-then-y-k-ne0 : goal.returns-then-y-k-ne0
returns-then-y-k-ne0 g c = λ h s.
    let O = to_z-of_z w32 c.args.omega c.ranges.omega in
    let S : Spells (nat_abs (to_z w32 (of_z w32 c.args.omega))) g.row.K h c.args.y.now = rw O s in
    let n = S.hint.rows in
    let all : c.loop-i.i ≡ length h = omega (arith, n) in
    let end = rw all at c.loop-i.invariant.at in
    c.if-y-k-ne0.true (zero_rest _ h c.args.y.now c.loop-k.k (pieces _ _ h c.args.y.now S) (omega (arith, end)) c.loop-k-test.true)

pub returns : goal.returns
returns g c =
    let O = to_z-of_z w32 c.args.omega c.ranges.omega in
    let all : c.loop-i.i ≡ length c.loop-i.h = omega arith in
    let whole : take c.loop-i.i c.loop-i.h ≡ c.loop-i.h = take_all c.loop-i.i c.loop-i.h (omega arith) in
    let limit : nat_abs (to_z w32 (of_z w32 c.args.omega)) ≡ nat_abs c.args.omega = ap nat_abs O in
    let size : length c.args.y.now ≡ nat_abs (to_z w32 (of_z w32 c.args.omega)) + length c.loop-i.h = omega (arith, limit) in
    let all_pieces = gathered c.loop-i.h c.args.y.now (nat_abs (to_z w32 (of_z w32 c.args.omega))) c.loop-i.index c.loop-i.invariant.few size (c.loop-i.invariant.places ∙ ap all_ones whole)
    (λ k l. c.loop-i.invariant.totals k (omega (arith, l))) (λ j l u. c.loop-k.invariant j l (omega (arith, u))) in
    let spells : Spells (nat_abs (to_z w32 (of_z w32 c.args.omega))) g.row.K c.loop-i.h c.args.y.now = record {
      hint = record { rows = c.loop-i.invariant.count; places = rw whole at c.loop-i.invariant.sizes; range = rw whole at c.loop-i.invariant.bits };
      few = all_pieces.few;
      spelling = spelling _ c.loop-i.h c.args.y.now size all_pieces;
    } in
    rw O at spells
