use Rattle.std.proofs.Common.{◌≡◌, ◌<◌, ◌+◌, ◌*◌, ◌-◌, ◌^◌, ◌++◌, take, length, map}
use Rattle.fips204_base.proofs.Names.{All, bits, integer_to_bits, field, HasField}
use Rattle.fips204_base.proofs.conversion.write_unpacked_group.Given as goal

abbrev pub invariant-loop-i : goal.invariant-loop-i
invariant-loop-i l = record {
  long : length l.out ≡ 8;
  few : l.have < 8;
  word : l.word < 2 ^ l.have;
  bits_done : l.c * l.i + l.have ≡ 8 * l.at;
  so_far : bits l.c (map (field l.fn.a l.fn.b) (take l.i l.out)) ++ integer_to_bits l.have l.word ≡ bits 8 (take l.at l.v);
  fields : All (HasField l.fn.a l.fn.b) (take l.i l.out);
}

abbrev pub invariant-loop-have : goal.invariant-loop-have
invariant-loop-have l = record {
  few : l.have < l.c + 8;
  word : l.word < 2 ^ l.have;
  bits_done : l.c * l.i + l.have ≡ 8 * l.at;
  so_far : bits l.c (map (field l.fn.a l.fn.b) (take l.i l.out)) ++ integer_to_bits l.have l.word ≡ bits 8 (take l.at l.v);
}

abbrev pub decreases-loop-have : goal.decreases-loop-have
decreases-loop-have l = l.c - l.have
