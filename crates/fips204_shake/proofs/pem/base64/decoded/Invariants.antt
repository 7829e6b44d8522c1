use Rattle.std.proofs.Common.{◌≡◌, ◌≤◌, ◌-◌, length, take}
use Rattle.std.specs.List.{filter}
use Rattle.fips204_shake.specs.Base64Reading.{is_black, symbols_at}
use Rattle.fips204_shake.proofs.Base64Groups.{behind}
use Rattle.fips204_shake.proofs.pem.base64.decoded.Given as goal

-- what is written, and what is still to be read
abbrev pub invariant-loop-a : goal.invariant-loop-a
invariant-loop-a l = record {
  within : l.at ≤ length l.fn.out;
  read : symbols_at (length l.fn.out) (filter is_black l.text) ≡ behind (take l.at l.out) (symbols_at (length l.fn.out - l.at) (filter is_black l.rest));
}

abbrev pub decreases-loop-a : goal.decreases-loop-a
decreases-loop-a l = length l.rest
