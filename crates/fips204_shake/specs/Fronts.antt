-- The outputs of the XOFs, and their lengths.
use Rattle.std.specs.Prelude.{◌≡◌, ℕ, List, length}
use Rattle.std.proofs.Common.{rules}
use Rattle.shake.specs.Shake.{shake128, shake256}
use Rattle.shake.specs.Lengths.{length-shake}

abbrev pub shake256_front : List ℕ → List ℕ
shake256_front input = shake256 input 1048576

abbrev pub shake128_front : List ℕ → List ℕ
shake128_front input = shake128 input 1048576

pub length-shake256_front : (input : List ℕ) → length (shake256_front input) ≡ 1048576
length-shake256_front input = length-shake 136 (search rules) (search rules) input 1048576

pub length-shake128_front : (input : List ℕ) → length (shake128_front input) ≡ 1048576
length-shake128_front input = length-shake 168 (search rules) (search rules) input 1048576
