use Rattle.std.proofs.Common.{◌≡◌, ◌+◌, ◌-◌, ◌∙◌, [], ap, arith, length, refl, rules, sym}
use Rattle.std.proofs.lemmas.Simd.{pick_l_whole}
use borrow.Rule.Slice.PartMut.{put_mid}
use Rattle.shake.specs.Four.{state_at}
use Rattle.shake.specs.Pieces.{next}
use Rattle.shake.specs.State.{next_bytes}
use Rattle.shake.proofs.SideBySide.{block_more, given_all, given_more, given_none, given_out}
use Rattle.shake.proofs.Squeezing.{filled_all}
use Rattle.shake.proofs.sponge.ShakeReader.read_beside.Goals as goal

pub loop-done-init : goal.loop-done-init
loop-done-init g c =
    record {
      within = omega arith;
      four = search rules;
      first = given_none (next c.args.a.now) (next_bytes g.row.R (state_at c.write_beside.new.states 0) [] 0) c.args.to_a.now (given_out g.row.R c.args.a.now.lanes (state_at c.write_beside.new.states 0) c.args.a.now.block c.args.a.now.given
          (sym (ap (λ s. state_at s 0) c.write_beside.ensures ∙ pick_l_whole 0 c.args.a.now.lanes 25 (search rules))) (search rules));
      second = given_none (next c.args.b.now) (next_bytes g.row.R (state_at c.write_beside.new.states 1) [] 0) c.args.to_b.now (given_out g.row.R c.args.b.now.lanes (state_at c.write_beside.new.states 1) c.args.b.now.block c.args.b.now.given
          (sym (ap (λ s. state_at s 1) c.write_beside.ensures ∙ pick_l_whole 0 c.args.b.now.lanes 25 (search rules))) (search rules));
      third = given_none (next c.args.c.now) (next_bytes g.row.R (state_at c.write_beside.new.states 2) [] 0) c.args.to_c.now (given_out g.row.R c.args.c.now.lanes (state_at c.write_beside.new.states 2) c.args.c.now.block c.args.c.now.given
          (sym (ap (λ s. state_at s 2) c.write_beside.ensures ∙ pick_l_whole 0 c.args.c.now.lanes 25 (search rules))) (search rules));
      fourth = given_none (next c.args.d.now) (next_bytes g.row.R (state_at c.write_beside.new.states 3) [] 0) c.args.to_d.now (given_out g.row.R c.args.d.now.lanes (state_at c.write_beside.new.states 3) c.args.d.now.block c.args.d.now.given
          (sym (ap (λ s. state_at s 3) c.write_beside.ensures ∙ pick_l_whole 0 c.args.d.now.lanes 25 (search rules))) (search rules));
    }

pub loop-done-preserved : goal.loop-done-preserved
loop-done-preserved g c =
    let l = c.loop-done in
    let some = c.args.a.now.rate.0 in
    let small = c.args.a.now.rate.1 in
    record {
      within = omega (arith, l.invariant.within, c.loop-done-test.true);
      four = c.f1600x4.ensures.four;
      first = block_more g.row.R some small (next c.args.a.now) (state_at l.states 0) (state_at c.f1600x4.new.states 0) l.to_a c.write_block_of.new.block l.done _
          l.invariant.first (c.f1600x4.ensures.permuted 0 (omega arith)) c.write_block_of.ensures (omega (arith, l.auto.to_a, l.auto.to_a, c.requires.lengths, l.invariant.within, c.loop-done-test.true)) (omega arith);
      second = block_more g.row.R some small (next c.args.b.now) (state_at l.states 1) (state_at c.f1600x4.new.states 1) l.to_b c.write_block_of-in-loop-done.new.block l.done _
          l.invariant.second (c.f1600x4.ensures.permuted 1 (omega arith)) c.write_block_of-in-loop-done.ensures (omega (arith, l.auto.to_a, l.auto.to_b, c.requires.lengths, l.invariant.within, c.loop-done-test.true)) (omega arith);
      third = block_more g.row.R some small (next c.args.c.now) (state_at l.states 2) (state_at c.f1600x4.new.states 2) l.to_c c.write_block_of-in-loop-done-2.new.block l.done _
          l.invariant.third (c.f1600x4.ensures.permuted 2 (omega arith)) c.write_block_of-in-loop-done-2.ensures (omega (arith, l.auto.to_a, l.auto.to_c, c.requires.lengths, l.invariant.within, c.loop-done-test.true)) (omega arith);
      fourth = block_more g.row.R some small (next c.args.d.now) (state_at l.states 3) (state_at c.f1600x4.new.states 3) l.to_d c.write_block_of-in-loop-done-3.new.block l.done _
          l.invariant.fourth (c.f1600x4.ensures.permuted 3 (omega arith)) c.write_block_of-in-loop-done-3.ensures (omega (arith, l.auto.to_a, l.auto.to_d, c.requires.lengths, l.invariant.within, c.loop-done-test.true)) (omega arith);
    }

pub returns-clause-first : goal.returns-clause-first
returns-clause-first g c =
    let l = c.loop-done in
    let n = length c.args.to_a.now - l.done in
    let same : length l.to_a ≡ length c.args.to_a.now = omega (arith, l.auto.to_a, l.auto.to_a, c.requires.lengths) in
    let size : length (put_mid l.done n l.to_a c.read.new.out) ≡ length l.to_a = search rules in
    let given = given_more (next c.args.a.now) (next_bytes g.row.R (state_at l.states 0) [] 0) (next c.go_on.new.a) (next c.read.new.self) l.to_a c.read.new.out l.done n n
    l.invariant.first c.go_on.ensures.first c.read.ensures.pieces (omega (arith, same, l.invariant.within)) refl (search rules) in
    given_all (next c.args.a.now) c.read.new.self (put_mid l.done n l.to_a c.read.new.out) (l.done + n) (length c.args.to_a.now) given (omega (arith, size, same, l.invariant.within)) (omega (arith, l.auto.to_a, same, l.invariant.within))

pub returns-clause-first_left : goal.returns-clause-first_left
returns-clause-first_left g c =
    let l = c.loop-done in
    let n = length c.args.to_a.now - l.done in
    let same : length l.to_a ≡ length c.args.to_a.now = omega (arith, l.auto.to_a, l.auto.to_a, c.requires.lengths) in
    let size : length (put_mid l.done n l.to_a c.read.new.out) ≡ length l.to_a = search rules in
    let given = given_more (next c.args.a.now) (next_bytes g.row.R (state_at l.states 0) [] 0) (next c.go_on.new.a) (next c.read.new.self) l.to_a c.read.new.out l.done n n
    l.invariant.first c.go_on.ensures.first c.read.ensures.pieces (omega (arith, same, l.invariant.within)) refl (search rules) in
    filled_all (put_mid l.done n l.to_a c.read.new.out) (next c.args.a.now) (next c.read.new.self) (l.done + n) (length c.args.to_a.now) (omega (arith, size, same, l.invariant.within)) (omega (arith, l.auto.to_a, same, l.invariant.within)) given

pub returns-clause-second : goal.returns-clause-second
returns-clause-second g c =
    let l = c.loop-done in
    let n = length c.args.to_a.now - l.done in
    let same : length l.to_b ≡ length c.args.to_a.now = omega (arith, l.auto.to_a, l.auto.to_b, c.requires.lengths) in
    let size : length (put_mid l.done n l.to_b c.read-2.new.out) ≡ length l.to_b = search rules in
    let given = given_more (next c.args.b.now) (next_bytes g.row.R (state_at l.states 1) [] 0) (next c.go_on.new.b) (next c.read-2.new.self) l.to_b c.read-2.new.out l.done n n
    l.invariant.second c.go_on.ensures.second c.read-2.ensures.pieces (omega (arith, same, l.invariant.within)) refl (search rules) in
    given_all (next c.args.b.now) c.read-2.new.self (put_mid l.done n l.to_b c.read-2.new.out) (l.done + n) (length c.args.to_b.now) given (omega (arith, size, same, l.invariant.within)) (omega (arith, l.auto.to_b, same, l.invariant.within))

pub returns-clause-second_left : goal.returns-clause-second_left
returns-clause-second_left g c =
    let l = c.loop-done in
    let n = length c.args.to_a.now - l.done in
    let same : length l.to_b ≡ length c.args.to_a.now = omega (arith, l.auto.to_a, l.auto.to_b, c.requires.lengths) in
    let size : length (put_mid l.done n l.to_b c.read-2.new.out) ≡ length l.to_b = search rules in
    let given = given_more (next c.args.b.now) (next_bytes g.row.R (state_at l.states 1) [] 0) (next c.go_on.new.b) (next c.read-2.new.self) l.to_b c.read-2.new.out l.done n n
    l.invariant.second c.go_on.ensures.second c.read-2.ensures.pieces (omega (arith, same, l.invariant.within)) refl (search rules) in
    filled_all (put_mid l.done n l.to_b c.read-2.new.out) (next c.args.b.now) (next c.read-2.new.self) (l.done + n) (length c.args.to_b.now) (omega (arith, size, same, l.invariant.within)) (omega (arith, l.auto.to_b, same, l.invariant.within)) given

pub returns-clause-third : goal.returns-clause-third
returns-clause-third g c =
    let l = c.loop-done in
    let n = length c.args.to_a.now - l.done in
    let same : length l.to_c ≡ length c.args.to_a.now = omega (arith, l.auto.to_a, l.auto.to_c, c.requires.lengths) in
    let size : length (put_mid l.done n l.to_c c.read-3.new.out) ≡ length l.to_c = search rules in
    let given = given_more (next c.args.c.now) (next_bytes g.row.R (state_at l.states 2) [] 0) (next c.go_on.new.c) (next c.read-3.new.self) l.to_c c.read-3.new.out l.done n n
    l.invariant.third c.go_on.ensures.third c.read-3.ensures.pieces (omega (arith, same, l.invariant.within)) refl (search rules) in
    given_all (next c.args.c.now) c.read-3.new.self (put_mid l.done n l.to_c c.read-3.new.out) (l.done + n) (length c.args.to_c.now) given (omega (arith, size, same, l.invariant.within)) (omega (arith, l.auto.to_c, same, l.invariant.within))

pub returns-clause-third_left : goal.returns-clause-third_left
returns-clause-third_left g c =
    let l = c.loop-done in
    let n = length c.args.to_a.now - l.done in
    let same : length l.to_c ≡ length c.args.to_a.now = omega (arith, l.auto.to_a, l.auto.to_c, c.requires.lengths) in
    let size : length (put_mid l.done n l.to_c c.read-3.new.out) ≡ length l.to_c = search rules in
    let given = given_more (next c.args.c.now) (next_bytes g.row.R (state_at l.states 2) [] 0) (next c.go_on.new.c) (next c.read-3.new.self) l.to_c c.read-3.new.out l.done n n
    l.invariant.third c.go_on.ensures.third c.read-3.ensures.pieces (omega (arith, same, l.invariant.within)) refl (search rules) in
    filled_all (put_mid l.done n l.to_c c.read-3.new.out) (next c.args.c.now) (next c.read-3.new.self) (l.done + n) (length c.args.to_c.now) (omega (arith, size, same, l.invariant.within)) (omega (arith, l.auto.to_c, same, l.invariant.within)) given

pub returns-clause-fourth : goal.returns-clause-fourth
returns-clause-fourth g c =
    let l = c.loop-done in
    let n = length c.args.to_a.now - l.done in
    let same : length l.to_d ≡ length c.args.to_a.now = omega (arith, l.auto.to_a, l.auto.to_d, c.requires.lengths) in
    let size : length (put_mid l.done n l.to_d c.read-4.new.out) ≡ length l.to_d = search rules in
    let given = given_more (next c.args.d.now) (next_bytes g.row.R (state_at l.states 3) [] 0) (next c.go_on.new.d) (next c.read-4.new.self) l.to_d c.read-4.new.out l.done n n
    l.invariant.fourth c.go_on.ensures.fourth c.read-4.ensures.pieces (omega (arith, same, l.invariant.within)) refl (search rules) in
    given_all (next c.args.d.now) c.read-4.new.self (put_mid l.done n l.to_d c.read-4.new.out) (l.done + n) (length c.args.to_d.now) given (omega (arith, size, same, l.invariant.within)) (omega (arith, l.auto.to_d, same, l.invariant.within))

pub returns-clause-fourth_left : goal.returns-clause-fourth_left
returns-clause-fourth_left g c =
    let l = c.loop-done in
    let n = length c.args.to_a.now - l.done in
    let same : length l.to_d ≡ length c.args.to_a.now = omega (arith, l.auto.to_a, l.auto.to_d, c.requires.lengths) in
    let size : length (put_mid l.done n l.to_d c.read-4.new.out) ≡ length l.to_d = search rules in
    let given = given_more (next c.args.d.now) (next_bytes g.row.R (state_at l.states 3) [] 0) (next c.go_on.new.d) (next c.read-4.new.self) l.to_d c.read-4.new.out l.done n n
    l.invariant.fourth c.go_on.ensures.fourth c.read-4.ensures.pieces (omega (arith, same, l.invariant.within)) refl (search rules) in
    filled_all (put_mid l.done n l.to_d c.read-4.new.out) (next c.args.d.now) (next c.read-4.new.self) (l.done + n) (length c.args.to_d.now) (omega (arith, size, same, l.invariant.within)) (omega (arith, l.auto.to_d, same, l.invariant.within)) given
