-- The texts of the numbers that the exported calls return.
use Rattle.std.specs.Prelude.{◌≡◌, ℕ, List, ◌++◌, ◌-◌, length, replicate, slice_index_or}
use Rattle.mldsa_c.specs.Calls.{IfSized}
use Rattle.mldsa_c.specs.Numbers.{no_status, texts}

-- the text of a number
abbrev pub text_of : ℕ → List ℕ
text_of number = slice_index_or texts number no_status

-- text_of: the text of any number, and zeros behind it, in 64 bytes
abbrev pub TextOfAnswers : ℕ → List ℕ → List ℕ → ℕ → Type 0
TextOfAnswers number old new status =
    IfSized 64 old ((new ≡ text_of number ++ replicate (64 - length (text_of number)) 0) × (status ≡ 0)) ((new ≡ old) × (status ≡ 3))
