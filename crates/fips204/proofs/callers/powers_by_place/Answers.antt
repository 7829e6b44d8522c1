use Rattle.std.proofs.Common.{◌*◌, ◌%◌, ◌^◌, ℤ, List, pos, ap, ◌∙◌, arith, slice_index_or}
use Rattle.fips204.proofs.Names.{bit_reversed}
use Rattle.std.proofs.lemmas.List.FromFn.{get_or-map-range_with_len}
use Rattle.fips204.proofs.callers.powers_by_place.Goals as goal

pub returns : goal.returns
returns c = λ m h.
    ap (λ (table : List ℤ). slice_index_or table m (pos 0)) c.constants.ensures.values.powers
    ∙ get_or-map-range_with_len (λ n. pos (1753 ^ bit_reversed n % 8380417 * 4294967296 % 8380417)) 0 256 m m (pos 0) h (omega arith)
