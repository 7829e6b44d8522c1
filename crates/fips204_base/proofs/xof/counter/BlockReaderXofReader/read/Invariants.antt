use Rattle.std.proofs.Common.{length, ◌-◌, ◌≡◌, ◌≤◌, take, drop}
use Rattle.fips204_base.proofs.xof.counter.BlockReaderXofReader.read.Given as goal

abbrev pub invariant-loop-filled : goal.invariant-loop-filled
invariant-loop-filled g l = (l.filled ≤ length l.out) × (take l.filled l.out ≡ take l.filled l.fn.self) × (l.self ≡ drop l.filled l.fn.self)

abbrev pub decreases-loop-filled : goal.decreases-loop-filled
decreases-loop-filled g l = length l.initial.out - l.filled
