use Rattle.std.proofs.Common.{◌≡◌, ◌+◌, ◌++◌, length, take}
use Rattle.fips204_shake.specs.Base64.{base64, IsBytes}
use Rattle.fips204_shake.specs.Pem.{wrapped, lines_length}
use Rattle.fips204_shake.proofs.pem.put_lines.Given as goal

-- what is written, and what is still to be written
abbrev pub invariant-loop-rest : goal.invariant-loop-rest
invariant-loop-rest l = record {
  small : IsBytes l.rest;
  place : l.at + lines_length (length l.rest) ≡ l.fn.at + lines_length (length l.bytes);
  written : take l.at l.text ++ wrapped (base64 l.rest) ≡ take l.fn.at l.fn.text ++ wrapped (base64 l.bytes);
}

abbrev pub decreases-loop-rest : goal.decreases-loop-rest
decreases-loop-rest l = length l.rest
