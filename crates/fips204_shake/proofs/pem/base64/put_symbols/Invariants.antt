use Rattle.std.proofs.Common.{◌≡◌, ◌+◌, ◌++◌, length, take}
use Rattle.fips204_shake.specs.Base64.{base64, base64_length}
use Rattle.fips204_shake.proofs.pem.base64.put_symbols.Given as goal

-- what is written, and what is still to be written
abbrev pub invariant-loop-rest : goal.invariant-loop-rest
invariant-loop-rest l = record {
  place : l.at + base64_length (length l.rest) ≡ l.fn.at + base64_length (length l.bytes);
  written : take l.at l.out ++ base64 l.rest ≡ take l.fn.at l.fn.out ++ base64 l.bytes;
}

abbrev pub decreases-loop-rest : goal.decreases-loop-rest
decreases-loop-rest l = length l.rest
