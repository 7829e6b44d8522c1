use Rattle.std.proofs.Common.{◌≡◌, ◌≤◌, ◌-◌, ◌*◌, ◌++◌, drop, length, take}
use Rattle.fips204_base.proofs.hashing.sampler.Draws.fill.Given as goal

abbrev pub invariant-loop-count : goal.invariant-loop-count
invariant-loop-count g l =
    let front = l.draws ++ g.X.Reader.XofReader.rest l.fn.reader in
    (l.tried ≤ l.limit) × (g.X.Reader.XofReader.rest l.reader ≡ drop (g.Self.Draws.bytes l.self * l.tried) front) × (l.count ≤ 256) × (length l.values ≡ 256)
    × (take l.count l.values ≡ take 256 (g.Self.Draws.kept l.self front l.tried))

abbrev pub decreases-loop-count : goal.decreases-loop-count
decreases-loop-count g l = l.limit - l.tried
