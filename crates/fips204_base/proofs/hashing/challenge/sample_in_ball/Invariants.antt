use Rattle.std.proofs.Common.{◌≡◌, ◌<◌, ◌+◌, take, drop}
use Rattle.fips204_base.proofs.Names.{picks, bits, Placed}
use Rattle.fips204_base.proofs.hashing.challenge.sample_in_ball.Given as goal

abbrev pub invariant-loop-byte : goal.invariant-loop-byte
invariant-loop-byte g l =
    let front = g.H.Xof.front l.rho in
    (g.H.Reader.XofReader.rest l.reader ≡ drop (8 + l._byte) front)
    × (l.signs ≡ take 8 front) × (l.i < 256)
    × Placed l.first (bits 8 (take 8 front)) (picks l.first (take l._byte (drop 8 front))) l.c l.i
