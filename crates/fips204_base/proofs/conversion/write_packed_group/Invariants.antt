use Rattle.std.proofs.Common.{◌≡◌, ◌<◌, ◌+◌, ◌*◌, ◌^◌, ◌++◌, take, length, map}
use Rattle.fips204_base.proofs.Names.{All, bits, integer_to_bits, field}
use Rattle.fips204_base.proofs.conversion.write_packed_group.Given as goal

abbrev pub invariant-loop-x : goal.invariant-loop-x
invariant-loop-x l = record {
  long : length l.out ≡ l.c;
  few : l.have < 8;
  word : l.word < 2 ^ l.have;
  bits_done : 8 * l.at + l.have ≡ l.c * l.x-index;
  so_far : bits 8 (take l.at l.out) ++ integer_to_bits l.have l.word ≡ bits l.c (map (field l.fn.a l.fn.b) (take l.x-index l.fn.w));
  whole : All (λ byte. byte < 256) (take l.at l.out);
}

abbrev pub invariant-loop-have : goal.invariant-loop-have
invariant-loop-have l = record {
  long : length l.out ≡ l.c;
  few : l.have < 29;
  word : l.word < 2 ^ l.have;
  bits_done : 8 * l.at + l.have ≡ l.c * (l.x-index + 1);
  so_far : bits 8 (take l.at l.out) ++ integer_to_bits l.have l.word ≡ bits l.c (map (field l.fn.a l.fn.b) (take (l.x-index + 1) l.fn.w));
  whole : All (λ byte. byte < 256) (take l.at l.out);
}

abbrev pub decreases-loop-have : goal.decreases-loop-have
decreases-loop-have l = l.have
