-- The names that most proofs cite, passed on from one place. Declares nothing.
unfoldable pub use Rattle.fips204.specs.Acceptance.{w1_prime}
pub use Rattle.fips204.specs.Acceptance.{Accepts, Opens, Verifies}
pub use Rattle.fips204.specs.Completeness.{AcceptedIfWholePlain, AcceptsSigned, BytesTellKeys, DecodesAlone, IsPair, SignedIsAccepted, TellsPair}
unfoldable pub use Rattle.fips204.specs.Framing.{digest_length, hashes, pre_hash_fault}
pub use Rattle.fips204.specs.Framing.{Input, frame, framed, hash_oid, hashed, plain, representative, represented}
pub use Rattle.fips204.specs.Inputs.{input_of}
unfoldable pub use Rattle.fips204.specs.Keys.{high_part, key_pair, low_part}
pub use Rattle.fips204.specs.Keys.{DecodesPrivate, IsWhole, key_vector}
pub use Rattle.fips204.specs.ParameterSets.{IsSet, ParameterSet, c_tilde_length, set_44, set_65, set_87}
pub use Rattle.fips204.specs.Prepared.{IsEachJudged, IsEachSigned, IsWholePrepared, PreparedAnswersAsPlain, PreparedPrivate, PreparedPublic, VerifiesPrepared, prepared_private, prepared_public, public_of_prepared, sign_prepared}
unfoldable pub use Rattle.fips204.specs.Refusals.{derived, generated}
pub use Rattle.fips204.specs.Refusals.{DrawsUnless, OnlySamplingLimit, VerifiesInput, Writes, input_fault, refused_or, sign_input}
pub use Rattle.fips204.specs.SchemeLaws.{AreFramedAlike, ChallengeProductIsSmall, Collide, Fixes, FramingIsOneToOne, NamesKeyCollision, OtherHintCollides, PackingIsUndone, RefusesOnly, SignatureBindsHash, SignatureBindsInput, SignatureBindsKey, SignatureFixesOne, framing, has_context}
pub use Rattle.fips204.specs.Sets.{HasKeySizes, HasSizes, set_of}
unfoldable pub use Rattle.fips204.specs.Signing.{attempt, commitment_hash, ct0, first_answer, hint_vector, low_vector, passes_checks, response, sign, sign_with}
pub use Rattle.fips204.specs.Signing.{w_minus_cs2}
pub use Rattle.fips204.specs.SigningInputs.{AreShifted, IsFactorOf, IsHighPart, OpensTo, checked_attempt, has_oid_form, hint_bit, hinted, input_hash}
pub use Rattle.fips204.proofs.Parts.{IsSigningLimit, high_vector, key_hash, mask_seed, scaled, seed_front, t1_shifted, y_plus_cs1}
pub use Rattle.fips204.specs.declared.types.Params.{Params}
unfoldable pub use Rattle.fips204_base.proofs.Challenges.{challenge_picks}
pub use Rattle.fips204_base.proofs.Challenges.{challenge_places, challenge_places-apart, length-challenge_places, sum-elsewhere}
pub use Rattle.fips204_base.proofs.EncodedParts.{IsT1, eta_width, response_width, same_parts, same_private_key, same_signature, same_vector}
pub use Rattle.fips204_base.proofs.HintSpelling.{all_ones-none, is_one-test, one_hint, one_spelling, ones-keep, ones-none, ones-skip, spelling_exists, total_more}
pub use Rattle.fips204_base.proofs.PlainTransforms.{matrix-same, matrix_below, multiple-same, plain_matrix}
unfoldable pub use Rattle.fips204_base.proofs.Products.{shifted}
pub use Rattle.fips204_base.proofs.Products.{inverse_of_transforms, product_below, product_of_transforms, product_plus, product_same, row_of_multiple, row_of_sum}
pub use Rattle.fips204_base.proofs.Reductions.{centred_is, residue-again}
pub use Rattle.fips204_base.proofs.Residues.{congruent_mod, congruent_mul, congruent_of, congruent_refl, congruent_sym, congruent_trans, residue_add, residue_below, residue_is, residue_sub, sum_add, sum_equal, sum_one, sum_same, sum_zero}
pub use Rattle.fips204_base.proofs.Rounding.{high_bits_below, low_bits_near, power2round_back, power2round_high, power2round_low}
pub use Rattle.fips204_base.proofs.RoundingLaws.{IsGamma, high_bits_stay, natural_gamma, use_hint_distance_hint, use_hint_distance_none, use_hint_of_make_hint}
pub use Rattle.fips204_base.proofs.Sampled.{none_of_err, small_vector-range, some_of_ok}
pub use Rattle.fips204_base.proofs.Vectors.{length-polynomial_of, length-vector_of, polynomial_of-at, row_written, vector-within, vector_of-at, vector_of-entry, vector_of-ext, vector_of-range, vector_of-row, vector_of-same}
pub use Rattle.fips204_base.specs.Bounds.{PolynomialInRange, PolynomialWithin, VectorInRange, VectorWithin, coefficient_at, coefficient_of}
pub use Rattle.fips204_base.specs.EncodingSteps.{ones_below}
unfoldable pub use Rattle.fips204_base.specs.Encodings.{all_ones, is_one}
pub use Rattle.fips204_base.specs.Encodings.{ArePrivateParts, ArePublicParts, IsPrivateKeyOf, IsPublicKeyOf, IsSignature, PrivateParts, PublicParts, hint_bytes, private_key_bytes, public_key_bytes, signature_bytes, vector_bytes, w1_bytes}
unfoldable pub use Rattle.fips204_base.specs.Packing.{bit_length, bits}
pub use Rattle.fips204_base.specs.Packing.{width}
unfoldable pub use Rattle.fips204_base.specs.PlainTransforms.{row_product}
pub use Rattle.fips204_base.specs.PlainTransforms.{AreSameModQ, multiple}
unfoldable pub use Rattle.fips204_base.specs.Residues.{centred, sum_below}
pub use Rattle.fips204_base.specs.Residues.{IsCongruent, coefficients, norm, residue, vector_norm}
unfoldable pub use Rattle.fips204_base.specs.Rounding.{use_hint}
pub use Rattle.fips204_base.specs.Rounding.{high_bits, high_count, low_bits, make_hint, power2round}
unfoldable pub use Rattle.fips204_base.specs.SamplerSteps.{small_vector}
pub use Rattle.fips204_base.specs.SamplerSteps.{sign_of}
unfoldable pub use Rattle.fips204_base.specs.Sampling.{challenge, sampled_matrix, signed_sum, small_vectors}
pub use Rattle.fips204_base.specs.Sampling.{mask}
unfoldable pub use Rattle.fips204_base.specs.Transforms.{bit_reversed, product}
pub use Rattle.fips204_base.specs.Transforms.{minus, plus}
unfoldable pub use Rattle.fips204_base.specs.Vectors.{matrix_product, polynomial_of, vector_of}
pub use Rattle.fips204_base.specs.Vectors.{IsVector, vector_coefficients}
pub use Rattle.fips204_base.specs.declared.fault.Fault.{Fault}
pub use Rattle.fips204_base.specs.declared.fault.Fault.TheVariants.{DigestLength, DigestTooLong, HashCtx, OidEmpty, OidNotDer, SamplingLimit, TooManyAttempts}
pub use Rattle.fips204_base.specs.declared.types.R.{R}
pub use Rattle.fips204_base.specs.declared.types.T.{T}
pub use Rattle.std.proofs.Math.Nat.{le-max_left, le-max_right, max-le, mul-le-mul}
pub use Rattle.std.proofs.lemmas.Bool.{cases_Bool, cases_lt, eq-eqb, le-leb, le-ltb, leb-true, lt-leb, lt-ltb, ltb-false, ltb-true, ne_eqb}
pub use Rattle.std.proofs.lemmas.Int.{ints, to_z-of_z}
pub use Rattle.std.proofs.lemmas.List.{append_cancel_left, append_cancel_right, drop-take, drop_all, drop_more, get_or-map, get_or_default, get_or_past, length-map, length-take-le, take-take, take_at}
pub use Rattle.std.proofs.lemmas.Nat.{from_be_bytes-to_be_bytes_4, mod_below, mul-le}
pub use Rattle.std.proofs.lemmas.Option.{none-some}
pub use Rattle.std.proofs.lemmas.Slice.Eq.{bytes_eq-Decides, slice_eq-Decides}
pub use Rattle.std.specs.List.{All, range_with_len}
