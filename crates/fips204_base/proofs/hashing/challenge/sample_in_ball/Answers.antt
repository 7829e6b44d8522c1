use Rattle.std.proofs.Common.{◌≡◌, ◌∙◌, ◌+◌, ◌-◌, ◌/◌, ◌≤◌, pos, nat_abs, ap, refl, arith, rules, take, drop, get_or, length, drop-drop, append-nil, to_z, of_z}
use Rattle.fips204_base.proofs.Names.{w32, ints, picks, bits, Placed, placed_none, picks-nil, byte_after, challenge-more, challenge-same, challenge-full, challenge-few, sign-read}
use Rattle.fips204_base.proofs.hashing.challenge.sample_in_ball.Goals as goal
use Rattle.fips204_base.proofs.hashing.challenge.sample_in_ball.Goals.{then-pick-i+else-i-eq256, else-pick-i}

pub loop-byte-init : goal.loop-byte-init
loop-byte-init g c =
    let front = g.H.Xof.front c.args.rho.now in
    let first = 256 - nat_abs (to_z w32 (of_z w32 c.args.tau)) in
    let tau : to_z w32 (of_z w32 c.args.tau) ≡ c.args.tau = search rules in
    let opened : g.H.Reader.XofReader.rest c.open-reader.result ≡ front = c.open-reader.ensures ∙ ap g.H.Xof.front (append-nil c.args.rho.now) in (
      c.read.ensures.dropped ∙ ap (drop 8) opened,
      c.read.ensures.given ∙ ap (take 8) opened,
      rw tau (omega (arith, ints, c.requires.tau)),
      rw (picks-nil first) (placed_none first (bits 8 (take 8 front))),
    )

pub returns-then-i-eq256 : goal.returns-then-i-eq256
returns-then-i-eq256 g c =
    let front = g.H.Xof.front c.args.rho.now in
    let pick = get_or c.read-in-loop-byte.new.out 0 0 in
    let tau : to_z w32 (of_z w32 c.args.tau) ≡ c.args.tau = search rules in
    let small : nat_abs (to_z w32 (of_z w32 c.args.tau)) ≤ 64 = rw tau (omega (arith, ints, c.requires.tau)) in
    let moved : to_z w32 (of_z w32 (get_or c.loop-byte.c pick (pos 0))) ≡ get_or c.loop-byte.c pick (pos 0) = search rules in
    let signed : to_z w32 (of_z w32 c.sign_at.result) ≡ c.sign_at.result = sign-read _ c.sign_at.result c.sign_at.ensures in
    let size = g.met.H.Xof.front_size c.args.rho.now in
    let enough : 4096 ≤ length front = omega (arith, size, g.met.H.Xof.front_least) in
    let byte : pick ≡ get_or (drop 8 front) c.loop-byte._byte 0 = byte_after front c.read-in-loop-byte.new.out _ c.loop-byte._byte c.read-in-loop-byte.ensures.given c.loop-byte.invariant.0 in
    let placed = challenge-more (256 - nat_abs (to_z w32 (of_z w32 c.args.tau))) c.loop-byte._byte c.loop-byte.i pick front c.read.new.out c.loop-byte.c c.sign_at.result
    enough (omega (arith, size, c.sampling_limit-limit.ensures.quarter, c.loop-byte-test.true)) c.loop-byte.invariant.1 (omega (arith, small)) byte c.loop-byte.invariant.2 c.if-pick-i.true c.sign_at.ensures c.loop-byte.invariant.3 in
    let full = rw (tau, c.if-i-eq256.true) at placed in
    let whole = challenge-full (nat_abs c.args.tau) (c.loop-byte._byte + 1) front _ (rw tau at small) (omega (arith, size, c.sampling_limit-limit.ensures.quarter, c.loop-byte-test.true)) full in
    rw (moved, signed, whole) refl

pub loop-byte-preserved : goal.loop-byte-preserved
loop-byte-preserved g c =
    let front = g.H.Xof.front c.args.rho.now in
    let pick = get_or c.read-in-loop-byte.new.out 0 0 in
    let tau : to_z w32 (of_z w32 c.args.tau) ≡ c.args.tau = search rules in
    let small : nat_abs (to_z w32 (of_z w32 c.args.tau)) ≤ 64 = rw tau (omega (arith, ints, c.requires.tau)) in
    let size = g.met.H.Xof.front_size c.args.rho.now in
    let enough : 4096 ≤ length front = omega (arith, size, g.met.H.Xof.front_least) in
    let byte : pick ≡ get_or (drop 8 front) c.loop-byte._byte 0 = byte_after front c.read-in-loop-byte.new.out _ c.loop-byte._byte c.read-in-loop-byte.ensures.given c.loop-byte.invariant.0 in
    let e : 8 + c.loop-byte._byte + 1 ≡ 8 + (c.loop-byte._byte + 1) = omega arith in
    let rest = c.read-in-loop-byte.ensures.dropped ∙ ap (drop 1) c.loop-byte.invariant.0 ∙ drop-drop 1 (8 + c.loop-byte._byte) front ∙ ap (λ n. drop n front) e in
    elim c.if-pick-i.branch [
      | then-pick-i+else-i-eq256 w ↦
          let moved : to_z w32 (of_z w32 (get_or c.loop-byte.c pick (pos 0))) ≡ get_or c.loop-byte.c pick (pos 0) = search rules in
          let signed : to_z w32 (of_z w32 w.sign_at.result) ≡ w.sign_at.result = sign-read _ w.sign_at.result w.sign_at.ensures in
          let placed = challenge-more (256 - nat_abs (to_z w32 (of_z w32 c.args.tau))) c.loop-byte._byte c.loop-byte.i pick front c.read.new.out c.loop-byte.c w.sign_at.result
          enough (omega (arith, size, c.sampling_limit-limit.ensures.quarter, c.loop-byte-test.true)) c.loop-byte.invariant.1 (omega (arith, small)) byte c.loop-byte.invariant.2 w.if-pick-i.true w.sign_at.ensures c.loop-byte.invariant.3 in
          rw (w.c-is, w.i-is, moved, signed) (rest, c.loop-byte.invariant.1, omega (arith, c.loop-byte.invariant.2, w.if-i-eq256.false), placed)
      | else-pick-i w ↦
          rw (w.c-is, w.i-is) (
            rest,
            c.loop-byte.invariant.1,
            c.loop-byte.invariant.2,
            challenge-same (256 - nat_abs (to_z w32 (of_z w32 c.args.tau))) c.loop-byte._byte c.loop-byte.i pick front c.loop-byte.c enough (omega (arith, size, c.sampling_limit-limit.ensures.quarter, c.loop-byte-test.true)) byte w.if-pick-i.false c.loop-byte.invariant.3,
          )
    ]

pub returns : goal.returns
returns g c =
    let front = g.H.Xof.front c.args.rho.now in
    let tau : to_z w32 (of_z w32 c.args.tau) ≡ c.args.tau = search rules in
    let small : nat_abs c.args.tau ≤ 64 = omega (arith, ints, c.requires.tau) in
    let size = g.met.H.Xof.front_size c.args.rho.now in
    let end : c.loop-byte._byte ≡ length front / 4 = omega (arith, size, c.sampling_limit-limit.ensures.quarter, c.loop-byte-test.false, c.loop-byte.auto._byte-end) in
    let placed : Placed (256 - nat_abs c.args.tau) (bits 8 (take 8 front)) (picks (256 - nat_abs c.args.tau) (take (length front / 4) (drop 8 front))) c.loop-byte.c c.loop-byte.i =
    rw (tau, end) at c.loop-byte.invariant.3 in
    rw (challenge-few (nat_abs c.args.tau) c.loop-byte.i front c.loop-byte.c small c.loop-byte.invariant.2 placed) refl
