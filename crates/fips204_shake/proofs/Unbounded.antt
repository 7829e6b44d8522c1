-- The bounded outputs are the beginning of SHAKE's output.
use Rattle.std.proofs.Common.{rules, ◌≡◌, ◌<◌, ◌≤◌, ◌*◌, ℕ, List, length, take, ◌∙◌, arith}
use Rattle.std.proofs.lemmas.List.{take-take}
use Rattle.std.specs.Int.{div_ceil}
use Rattle.fips204_base.specs.Streams.{ArePrefixes}
use Rattle.fips204.specs.LongerFronts.{LongerFrontsKeep}
use Rattle.fips204_shake.specs.Fronts.{shake256_front, shake128_front, length-shake256_front, length-shake128_front}
use Rattle.fips204_shake.specs.Unbounded.{first_256, first_128, OnlyLimitsDiffer}
use Rattle.shake.proofs.Squeezing.{squeezed_enough}
use Rattle.shake.specs.Lengths.{ceil_enough, length-message_state}
use Rattle.shake.specs.Shake.{message_state, shake, squeezed}

-- the first d bytes of more are the first d bytes
shake-begins : (rate : ℕ) → 0 < rate → rate ≤ 200 → (m : List ℕ) (d e : ℕ) → d ≤ e → take d (shake rate m e) ≡ shake rate m d
unfolding shake
shake-begins rate some small m d e h =
    let blocks = div_ceil e rate in
    let enough : d ≤ blocks * rate = omega (arith, h, ceil_enough rate e some) in
    take-take d e (squeezed rate (message_state rate m) blocks) h
    ∙ squeezed_enough rate some small (message_state rate m) (length-message_state rate m) d blocks (div_ceil d rate) enough (ceil_enough rate d some)

first_256-prefix : (d : ℕ) → 1048576 ≤ d → ArePrefixes shake256_front (first_256 d)
first_256-prefix d h input = rw (length-shake256_front input) (shake-begins 136 (search rules) (search rules) input 1048576 d h)

first_128-prefix : (d : ℕ) → 1048576 ≤ d → ArePrefixes shake128_front (first_128 d)
first_128-prefix d h input = rw (length-shake128_front input) (shake-begins 168 (search rules) (search rules) input 1048576 d h)

pub only_limits_differ : ((H G H' G' : List ℕ → List ℕ) → ((x : List ℕ) → 4096 ≤ length (H x)) → LongerFrontsKeep H G H' G') → OnlyLimitsDiffer
only_limits_differ keep d e h g =
    let first = first_256-prefix d h in
    let second = first_128-prefix e g in
    let long = λ (x : List ℕ). let all : 4096 ≤ length (shake256_front x) = rw (length-shake256_front x) (search rules) in all in
    let stays = keep shake256_front shake128_front (first_256 d) (first_128 e) long first second in
    record {
      h = first;
      g = second;
      samples = stays.0;
      answers = λ p row. (stays.1 p row).0;
      verdicts = λ p row. (stays.1 p row).1;
    }
