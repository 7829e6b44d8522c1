-- Two tokens with one spelling are one token.
use Rattle.std.proofs.Common.{take, drop, ap}
use Rattle.fips204.proofs.Spellings.{same_u32}
use Rattle.mldsa_examples.specs.Licence.{SpellingIsOneToOne}

pub one_token : SpellingIsOneToOne
one_token a b one other same =
    let products = same_u32 a.product b.product one.product other.product (ap (take 4) same) in
    let days = same_u32 a.last_day b.last_day one.last_day other.last_day (ap (λ bytes. take 4 (drop 4 bytes)) same) in
    λ i. record { product = products i; last_day = days i; customer = ap (drop 8) same i }
