use Rattle.fips204_base.proofs.Names.{common_steps, to_z-of_z, ints, take_all, all_ones, all_ones-none, total_more, total_le, places_written, gathered, spelling}
use Rattle.std.proofs.Common.{rules, arith, ◌≡◌, ◌+◌, nat_abs, take, [], ◌∙◌, ap, sym, length, w32, to_z, of_z}
use Rattle.fips204_base.proofs.conversion.hints.hint_bit_pack.Goals as goal

pub write_places-index-requires : goal.write_places-index-requires
write_places-index-requires g c = grind (arith, ints, common_steps, total_more, total_le)

pub loop-i-init : goal.loop-i-init
loop-i-init g c = grind (arith, ints, common_steps, all_ones-none)

pub loop-i-preserved : goal.loop-i-preserved
loop-i-preserved g c =
    let O = to_z-of_z w32 c.args.omega c.ranges.omega in
    let limit : nat_abs (to_z w32 (of_z w32 c.args.omega)) ≡ nat_abs c.args.omega = ap nat_abs O in
    let more = total_more c.args.h.now c.loop-i.i record { 0 = [] } (omega arith) in
    let le = total_le c.args.h.now (c.loop-i.i + 1) in
    let new = places_written c.args.h.now c.loop-i.y c.write_places-index.new.y (nat_abs (to_z w32 (of_z w32 c.args.omega))) c.loop-i.i c.loop-i.index c.write_places-index.result record { 0 = [] }
    (omega arith) (search rules) (omega (arith, more, le, limit)) c.loop-i.invariant.places c.loop-i.invariant.at c.write_places-index.ensures.end
    c.write_places-index.ensures.places c.write_places-index.ensures.rest c.loop-i.invariant.totals c.loop-i.invariant.zeros in
    record { at = new.0; places = new.1; totals = new.2; zeros = new.3 }

pub returns : goal.returns
returns g c =
    let O = to_z-of_z w32 c.args.omega c.ranges.omega in
    let limit : nat_abs (to_z w32 (of_z w32 c.args.omega)) ≡ nat_abs c.args.omega = ap nat_abs O in
    let whole : take c.loop-i.i c.args.h.now ≡ c.args.h.now = take_all c.loop-i.i c.args.h.now (omega arith) in
    let le = total_le c.args.h.now c.loop-i.i in
    let size : length c.loop-i.y ≡ nat_abs (to_z w32 (of_z w32 c.args.omega)) + length c.args.h.now = search rules in
    let pieces = gathered c.args.h.now c.loop-i.y (nat_abs (to_z w32 (of_z w32 c.args.omega))) c.loop-i.index (omega (arith, le, limit)) size
    (c.loop-i.invariant.places ∙ ap all_ones whole) (λ k l. c.loop-i.invariant.totals k (omega (arith, l))) c.loop-i.invariant.zeros in
    let same = spelling _ c.args.h.now c.loop-i.y size pieces in
    sym (rw O at same)
