-- Worked values of sizes and sets, of relations between lists of messages and their results, and of what the laws on
-- framing and collisions ask.
use Rattle.std.proofs.Common.{◌≡◌, ◌≤◌, ℕ, List, [], ◌∷◌, ◌++◌, length, true, false, true≢false, Ok, Err, inl, inr, refl, arith, ap, pos}
use Rattle.std.specs.Prelude.{replicate, slice_index}
use Rattle.std.proofs.lemmas.List.{get_or-replicate}
use Rattle.fips204_base.specs.declared.fault.Fault.TheVariants.{SamplingLimit}
use Rattle.fips204_base.specs.Packing.{bit_length}
use Rattle.fips204_base.proofs.Vectors.{get_or-padded}
use Rattle.fips204.specs.SigningInputs.{AreShifted}
use Rattle.fips204.specs.Framing.{plain, framed, represented}
use Rattle.fips204.specs.LongerFronts.{YesAndNoStay}
use Rattle.fips204.specs.ParameterSets.{set_44, set_65, set_87, IsSet}
use Rattle.fips204.specs.Prepared.{IsEachSigned, IsEachJudged}
use Rattle.fips204.specs.SchemeLaws.{Collide, AreFramedAlike}
use Rattle.fips204.specs.Sets.{HasSizes, HasKeySizes}

three_sets : IsSet set_44 × IsSet set_65 × IsSet set_87
three_sets = (inl refl, inr (inl refl), inr (inr refl))

-- Table 2
sizes_of_65 : HasSizes set_65 6 5 3309 × HasKeySizes set_65 6 5 1952 4032
unfolding bit_length
sizes_of_65 = (record { rows = refl; columns = refl; signature = refl }, record { rows = refl; columns = refl; public_key = refl; private_key = refl })

other_sizes : (HasSizes set_65 5 5 3309 → ⊥) × (HasSizes set_65 6 6 3309 → ⊥) × (HasSizes set_65 6 5 3308 → ⊥)
unfolding bit_length
other_sizes = (λ s. omega (arith, s.rows), λ s. omega (arith, s.columns), λ s. omega (arith, s.signature))

other_key_sizes : (HasKeySizes set_65 5 5 1952 4032 → ⊥) × (HasKeySizes set_65 6 6 1952 4032 → ⊥) × (HasKeySizes set_65 6 5 1951 4032 → ⊥) × (HasKeySizes set_65 6 5 1952 4033 → ⊥)
unfolding bit_length
other_key_sizes = (λ s. omega (arith, s.rows), λ s. omega (arith, s.columns), λ s. omega (arith, s.public_key), λ s. omega (arith, s.private_key))

-- 1024 2^13 is 8191 modulo q; what stands at row 1 and at place 256 doesn't count, and what stands at place 255 does
shifted_vectors : AreShifted 1 (record { 0 = replicate 256 (pos 1024) } ∷ []) (record { 0 = replicate 256 (pos 8191) ++ pos 5 ∷ [] } ∷ record { 0 = pos 7 ∷ [] } ∷ [])
    × (AreShifted 1 [] (record { 0 = replicate 255 (pos 0) ++ pos 1 ∷ [] } ∷ []) → ⊥)
shifted_vectors = (
  λ r n h l. let first : r ≡ 0 = omega (arith, h) in rw (first, get_or-padded (pos 8191) (pos 5) (pos 0) n l, get_or-replicate 256 n (pos 1024) (pos 0) l) refl,
  λ all. let last : 1 ≡ 0 = all 0 255 (omega arith) (omega arith) in omega (arith, last),
)

-- ---- Lists of messages

-- what signs joins the random byte and the message
each_signed : IsEachSigned (λ rnd message. Ok (rnd ++ message)) ((1 ∷ []) ∷ []) ((2 ∷ []) ∷ []) (Ok (1 ∷ 2 ∷ []) ∷ [])
each_signed = (refl, refl, λ i h. let first : i ≡ 0 = omega (arith, h) in rw first refl)

-- a seed too many, a result too many, and another result
not_each_signed : (IsEachSigned (λ rnd message. Ok (rnd ++ message)) ([] ∷ []) [] [] → ⊥) × (IsEachSigned (λ rnd message. Ok (rnd ++ message)) [] [] (Ok [] ∷ []) → ⊥)
    × (IsEachSigned (λ rnd message. Ok (rnd ++ message)) ((1 ∷ []) ∷ []) ((2 ∷ []) ∷ []) (Err SamplingLimit ∷ []) → ⊥)
not_each_signed = (λ s. omega (arith, s.0), λ s. omega (arith, s.1), λ s. let wrong : Err SamplingLimit ≡ Ok (1 ∷ 2 ∷ []) = s.2 0 (omega arith) in cc)

-- accepted is a signature that is no shorter than the message
each_judged : IsEachJudged (λ message signature. length message ≤ length signature) ([] ∷ []) ((1 ∷ []) ∷ []) (true ∷ [])
each_judged = (refl, refl, λ i h. let first : i ≡ 0 = omega (arith, h) in rw first (λ _. omega arith, λ _. refl))

-- a signature too many, a result too many, and a wrong one
not_each_judged : (IsEachJudged (λ message signature. length message ≤ length signature) [] ([] ∷ []) [] → ⊥) × (IsEachJudged (λ message signature. length message ≤ length signature) [] [] (true ∷ []) → ⊥)
    × (IsEachJudged (λ message signature. length message ≤ length signature) ((1 ∷ []) ∷ []) ([] ∷ []) (true ∷ []) → ⊥)
not_each_judged = (λ j. omega (arith, j.0), λ j. omega (arith, j.1), λ j. let wrong : 1 ≤ 0 = (j.2 0 (omega arith)).0 refl in omega (arith, wrong))

-- ---- What laws ask

-- a yes that goes, and a no that goes though it was decided
changed_verdicts : (YesAndNoStay (true ≡ false) (true ≡ true) (true ≡ false) → ⊥) × (YesAndNoStay (true ≡ true) (true ≡ false) (true ≡ true) → ⊥)
changed_verdicts = (λ s. true≢false (s.yes_stays refl), λ s. true≢false ((s.no_stays refl).1 refl))

-- two lists with the same first byte; a list doesn't collide with itself, nor with one that begins otherwise
collision : Collide (λ x. x) 1 (1 ∷ 2 ∷ []) (1 ∷ 3 ∷ []) × (Collide (λ x. x) 1 (1 ∷ []) (1 ∷ []) → ⊥) × (Collide (λ x. x) 1 (1 ∷ []) (2 ∷ []) → ⊥)
collision = (
  record { differ = λ e. omega (arith, ap (λ (x : List ℕ). slice_index x 1) e); same = refl },
  λ c. c.differ refl,
  λ c. omega (arith, ap (λ (x : List ℕ). slice_index x 0) c.same),
)

-- of two messages, and not of a message and an M', nor where a mu stands alone
framed_alike : AreFramedAlike (plain (3 ∷ []) []) (plain (4 ∷ []) []) (0 ∷ 0 ∷ 3 ∷ []) (0 ∷ 0 ∷ 4 ∷ []) × (AreFramedAlike (plain (3 ∷ []) []) (framed (4 ∷ [])) (0 ∷ 0 ∷ 3 ∷ []) (4 ∷ []) → ⊥)
    × (AreFramedAlike (represented []) (framed (4 ∷ [])) [] (4 ∷ []) → ⊥) × (AreFramedAlike (framed (4 ∷ [])) (represented []) (4 ∷ []) [] → ⊥)
framed_alike = (
  record { kind = refl; first = refl; second = refl },
  λ a. let kind : true ≡ false = a.kind in cc,
  λ a. let first = a.first in cc,
  λ a. let second = a.second in cc,
)
