-- Worked values of what a run reads and writes.
use Rattle.std.proofs.Common.{◌≡◌, [], ◌∷◌, ◌++◌, Some, None, map, refl}
use Rattle.std.specs.Prelude.{codes}
use Rattle.fips204.specs.Packing.{bit_length}
use Rattle.fips204.specs.ParameterSets.{set_44, set_87}
use Rattle.hex.specs.Hex.{decode_pairs, encode_with}
use Rattle.mldsa_engine.specs.Lines.{judged}
use Rattle.mldsa_engine.specs.ProgramText.{two_bytes, entries_of, later_lines, text, hex_text}
use Rattle.mldsa_engine.specs.declared.call.Task.TheVariants.{Verify, Batch}

-- the high byte first
numbers : map two_bytes ((0 ∷ 0 ∷ []) ∷ (0 ∷ 1 ∷ []) ∷ (1 ∷ 2 ∷ []) ∷ (255 ∷ 255 ∷ []) ∷ []) ≡ 0 ∷ 1 ∷ 258 ∷ 65535 ∷ []
numbers = refl

-- the third line of an input says how many entries there are, whatever stands in the two before it
counted : entries_of (Some (codes "zz" ++ 10 ∷ 10 ∷ codes "0102" ++ 10 ∷ codes "00")) ≡ 258
unfolding judged decode_pairs
counted = refl

-- where it is missing, not hex or of another length, there are none
uncounted : map (λ line. entries_of (Some (10 ∷ 10 ∷ line))) ([] ∷ codes "000g" ∷ codes "00" ∷ codes "000001" ∷ []) ≡ 0 ∷ 0 ∷ 0 ∷ 0 ∷ []
unfolding judged decode_pairs
uncounted = refl

untold : entries_of None ≡ 0
untold = refl

-- two lines for each entry
later : later_lines Batch set_44 2 ≡ Some 2420 ∷ None ∷ Some 2420 ∷ None ∷ []
unfolding bit_length
later = refl

later_none : later_lines Verify set_87 2 ≡ []
later_none = refl

-- each line ends with LF
written : map text ([] ∷ ([] ∷ []) ∷ (codes "yes" ∷ codes "no" ∷ []) ∷ []) ≡ [] ∷ (10 ∷ []) ∷
    (codes "yes" ++ 10 ∷ codes "no" ++ 10 ∷ []) ∷ []
written = refl

spelt : hex_text ((1 ∷ 171 ∷ []) ∷ [] ∷ []) ≡ codes "01ab" ++ 10 ∷ 10 ∷ []
unfolding encode_with
spelt = refl
