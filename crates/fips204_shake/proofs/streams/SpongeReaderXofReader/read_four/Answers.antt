use Rattle.std.proofs.Common.{ℕ, List, ◌≡◌, ◌≤◌, ◌+◌, ◌-◌, ◌++◌, drop, length, take, ap, ◌∙◌, arith}
use Rattle.shake.specs.Pieces.{next}
use Rattle.shake.specs.declared.sponge.ShakeReader.{ShakeReader}
use Rattle.shake.proofs.Pieces.{length-next, front_given, front_left}
use Rattle.fips204_shake.proofs.streams.SpongeReaderXofReader.read_four.Goals as goal

-- a reader of `bytes`, of which at least `out` are left, gives `out` and has the others left
module _ {rate : ℕ} (output later : ShakeReader rate) (bytes out : List ℕ) (n left : ℕ) (view : next output left ≡ bytes) (enough : n ≤ length bytes) (size : length out ≡ n) where
  within : n ≤ left
  within = omega (arith, length-next output left, ap length view, enough)

  fits : length out ≤ left
  fits = omega (arith, size, within)

  given : ((d : ℕ) → next output (n + d) ≡ out ++ next later d) → out ≡ take n bytes
  given pieces = front_given (next output) (next later) out n left size within pieces ∙ ap (take n) view

  rest : ((d : ℕ) → next output (n + d) ≡ out ++ next later d) → next later (left - length out) ≡ drop n bytes
  rest pieces = rw size (front_left (next output) (next later) out n left size within pieces ∙ ap (drop n) view)

pub overflow_sub-a : goal.overflow_sub-a
overflow_sub-a g c = fits c.a.inside.output c.read_four.new.a c.args.a.now c.read_four.new.to_a (length c.args.to_a.now) c.a.inside.left c.a.view_is c.requires.first c.read_four.auto.to_a

pub returns-clause-first : goal.returns-clause-first
returns-clause-first g c = given c.a.inside.output c.read_four.new.a c.args.a.now c.read_four.new.to_a (length c.args.to_a.now) c.a.inside.left c.a.view_is c.requires.first c.read_four.auto.to_a c.read_four.ensures.first_left

pub returns-clause-first_left : goal.returns-clause-first_left
returns-clause-first_left g c = rest c.a.inside.output c.read_four.new.a c.args.a.now c.read_four.new.to_a (length c.args.to_a.now) c.a.inside.left c.a.view_is c.requires.first c.read_four.auto.to_a c.read_four.ensures.first_left

pub overflow_sub-b : goal.overflow_sub-b
overflow_sub-b g c = fits c.b.inside.output c.read_four.new.b c.args.b.now c.read_four.new.to_b (length c.args.to_b.now) c.b.inside.left c.b.view_is c.requires.second c.read_four.auto.to_b

pub returns-clause-second : goal.returns-clause-second
returns-clause-second g c = given c.b.inside.output c.read_four.new.b c.args.b.now c.read_four.new.to_b (length c.args.to_b.now) c.b.inside.left c.b.view_is c.requires.second c.read_four.auto.to_b c.read_four.ensures.second_left

pub returns-clause-second_left : goal.returns-clause-second_left
returns-clause-second_left g c = rest c.b.inside.output c.read_four.new.b c.args.b.now c.read_four.new.to_b (length c.args.to_b.now) c.b.inside.left c.b.view_is c.requires.second c.read_four.auto.to_b c.read_four.ensures.second_left

pub overflow_sub-c : goal.overflow_sub-c
overflow_sub-c g c = fits c.c.inside.output c.read_four.new.c c.args.c.now c.read_four.new.to_c (length c.args.to_c.now) c.c.inside.left c.c.view_is c.requires.third c.read_four.auto.to_c

pub returns-clause-third : goal.returns-clause-third
returns-clause-third g c = given c.c.inside.output c.read_four.new.c c.args.c.now c.read_four.new.to_c (length c.args.to_c.now) c.c.inside.left c.c.view_is c.requires.third c.read_four.auto.to_c c.read_four.ensures.third_left

pub returns-clause-third_left : goal.returns-clause-third_left
returns-clause-third_left g c = rest c.c.inside.output c.read_four.new.c c.args.c.now c.read_four.new.to_c (length c.args.to_c.now) c.c.inside.left c.c.view_is c.requires.third c.read_four.auto.to_c c.read_four.ensures.third_left

pub overflow_sub-d : goal.overflow_sub-d
overflow_sub-d g c = fits c.d.inside.output c.read_four.new.d c.args.d.now c.read_four.new.to_d (length c.args.to_d.now) c.d.inside.left c.d.view_is c.requires.fourth c.read_four.auto.to_d

pub returns-clause-fourth : goal.returns-clause-fourth
returns-clause-fourth g c = given c.d.inside.output c.read_four.new.d c.args.d.now c.read_four.new.to_d (length c.args.to_d.now) c.d.inside.left c.d.view_is c.requires.fourth c.read_four.auto.to_d c.read_four.ensures.fourth_left

pub returns-clause-fourth_left : goal.returns-clause-fourth_left
returns-clause-fourth_left g c = rest c.d.inside.output c.read_four.new.d c.args.d.now c.read_four.new.to_d (length c.args.to_d.now) c.d.inside.left c.d.view_is c.requires.fourth c.read_four.auto.to_d c.read_four.ensures.fourth_left
