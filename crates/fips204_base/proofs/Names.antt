-- The names that most proofs cite, passed on from one place. Declares nothing.
pub use Rattle.fips204_base.proofs.Challenges.{Placed, bit_at, byte_after, challenge-few, challenge-full, challenge-more, challenge-same, picks-nil, placed_none, sign-clear, sign-read, sign-set}
pub use Rattle.fips204_base.proofs.CounterStreams.{InHand, InHand-few, InHand-left, InHand-made, InHand-run, InHand-size, IsRun, filled_more}
pub use Rattle.fips204_base.proofs.EncodedParts.{eta_bounds, eta_width, less_one, private_key_cut, private_key_joined, response_bounds, response_least, response_width, signature-hint, signature-of_parts, whole_response, width_4095_4096}
pub use Rattle.fips204_base.proofs.Fields.{HasField, bit_length-leading, fields_fit, group_finished, one_above, stored, width-below, width-le, width-some}
pub use Rattle.fips204_base.proofs.FourAtATime.{ahead-last, ahead-none, entry-numbered, matched, matrix-none, of_parts, part_place, parts_long, row_of_four, small_vector-each, small_vector-none, some_columns}
pub use Rattle.fips204_base.proofs.HintSpelling.{all_ones-none, bits-set, gathered, is_one-test, one_more, ones-none, ones-room, ones-set, ones-skip, ones-zeros, pieces}
pub use Rattle.fips204_base.proofs.HintSpelling.{places_of, places_written, rising, spelling, total_before, total_le, total_more, totals_more, totals_rise, zero_at, zero_bits, zero_rest}
pub use Rattle.fips204_base.proofs.LaneRows.{all_fit, below_eight, eight_stored, length-placed, placed_at, placed_other, read_one, readback, rows_asked, rows_eight, rows_given}
pub use Rattle.fips204_base.proofs.Layers.{Halves, SoFar, block_fits, count_below, factor_positive, halves_more, halves_none, halves_whole, inverse_layer_of_blocks, inverse_layer_sizes, layer_more, layer_none, layer_of_blocks, layer_products, layer_sizes, layer_sums, layer_whole, one_changed, others_stay}
pub use Rattle.fips204_base.proofs.Masks.{four_rows, less_read, mask-each, mask_size-within, mask_width-is}
pub use Rattle.fips204_base.proofs.Network.{HoldsSums, KeepsValues, halved, layer_shape, sums_end, sums_next, sums_start, values_end, values_next, values_start}
pub use Rattle.fips204_base.proofs.Packing.{Unpacks, bytes_unpack, field_at, field_small, bits_below, is_packed, is_unpacked, packs_cut, packs_joined, packs_none, polynomial_bytes-is, unpacks, unpacks_bytes, unpacks_once, wide-at, wide-piece}
pub use Rattle.fips204_base.proofs.PlainTransforms.{back_from_mont, factor-transformed, matrix-same, plain-at, plain-row, plain-transformed, plain-values, plain-zeros, row-same}
pub use Rattle.fips204_base.proofs.Reductions.{factor_is, factor_taken, minus_factor_is, only_lane}
pub use Rattle.fips204_base.proofs.Residues.{congruent_mul, congruent_of, congruent_refl, congruent_trans, montgomery_congruent, product_bound, product_fits, residue_add, residue_below, residue_mul, residue_multiple, residue_sub, residue_sum_more, size_at, size_sum_more, sum_equal, wider}
pub use Rattle.fips204_base.proofs.Sampled.{all_present-each, matrix-within, none_of_err, present_next, present_nil, present_whole, row-within, some_of_ok, vectors_none, vectors_some}
pub use Rattle.fips204_base.proofs.Sampling.{Keeps, entry-few, entry-full, keeps_counted, keeps_full, keeps_joined, keeps_more, keeps_next, keeps_none, keeps_of, keeps_there, kept_half_bytes-beyond, kept_half_bytes-drawn, kept_half_bytes-joined, kept_half_bytes-more, kept_half_bytes-zero, kept_numbers, kept_triples-joined, kept_triples-kept, kept_triples-left, kept_triples-more, kept_triples-zero, number-front, number-piece, polynomial-few, polynomial-full, triple-at}
pub use Rattle.fips204_base.proofs.Pieces.{Reads, length-put_mid, piece-sliced, piece-within, piece_more, put_piece, reads_more, unread}
pub use Rattle.fips204_base.proofs.VectorBytes.{IsPolynomial, bytes_at_integers, none_above, packed, range_at_integers, read_all, same_bounds, unpacked_range}
pub use Rattle.fips204_base.proofs.Vectors.{row_written, rows_ahead, vector_of-same}
pub use Rattle.fips204_base.specs.Bounds.{Bounds, IsUnpacked, PolynomialInRange, ValuesWithin, coefficient_at, coefficient_of, row_value, vector_residues}
pub use Rattle.fips204_base.specs.EncodingSteps.{Packs, coefficient, field, ones, ones_below, wide_field}
pub use Rattle.fips204_base.specs.Encodings.{Spells, all_ones, is_one}
pub use Rattle.fips204_base.specs.Lanes.{IsInverse, lane, lane_at, residues}
pub use Rattle.fips204_base.specs.Network.{AreEight, IsButterfly, IsInverseButterfly}
pub use Rattle.fips204_base.specs.Packing.{bit_length, bits, integer_to_bits, polynomial_bytes, unpacked, width}
unfoldable pub use Rattle.fips204_base.specs.PlainTransforms.{row_product}
pub use Rattle.fips204_base.specs.PlainTransforms.{from_mont, lane_values, plain_row}
unfoldable pub use Rattle.fips204_base.specs.Residues.{sum_below}
pub use Rattle.fips204_base.specs.Residues.{IsCongruent, coefficients, norm, residue, vector_norm}
pub use Rattle.fips204_base.specs.SamplerSteps.{AreAhead, kept_half_bytes, kept_triples, mask_polynomial, number, numbered_entry, sampled_entry, sampled_row, triple}
unfoldable pub use Rattle.fips204_base.specs.Sampling.{sampled_matrix}
pub use Rattle.fips204_base.specs.Sampling.{all_present, coefficient_from_half_byte, matrix_entry, picks, small_polynomial}
unfoldable pub use Rattle.fips204_base.specs.Transforms.{bit_reversed, zeta_at}
pub use Rattle.fips204_base.specs.Transforms.{inverse_transform, transform}
unfoldable pub use Rattle.fips204_base.specs.Vectors.{matrix_product}
pub use Rattle.fips204_base.specs.Vectors.{MatrixWithin, vector_coefficients}
pub use Rattle.fips204_base.specs.declared.fault.Fault.TheVariants.{KeyRange, SamplingLimit}
pub use Rattle.fips204_base.specs.declared.types.R.{R}
pub use Rattle.fips204_base.specs.declared.types.T.{T}
pub use Rattle.std.proofs.lemmas.Bool.{cases_eq, eqb-false, eqb-true, iff_false}
pub use Rattle.std.proofs.lemmas.Grind.{common_steps}
pub use Rattle.std.proofs.lemmas.Int.{fits_signed_from_abs, ints, to_z-of_z}
pub use Rattle.std.proofs.lemmas.List.{drop-drop, drop_at, get_or-replicate, get_or-set_other, get_or_default, length-replicate, length-take-le, map-append, map_more, take-append-drop, take_all, take_at, take_more, take_more_set, take_rest}
pub use Rattle.std.proofs.lemmas.List.Elements.{All-append, All-from_get_or, All-nil, All-push}
pub use Rattle.std.proofs.lemmas.Nat.{and_mask, mod_below, one_shl, or_shifted, pow_below, pow_pos}
pub use Rattle.std.specs.Int.{int_div_euclid, int_rem_euclid, to_le_bytes, w16, w32, w64}
pub use Rattle.std.specs.List.{All, Any, flat_map, range_with_len}
pub use Rattle.std.specs.Prelude.{None, Option, Some, int_lt, nat_abs, option_to_list, replicate}
pub use mir.Val.{SFits}
