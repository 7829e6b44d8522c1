-- What the characters of a line are judged to be.
use Rattle.std.proofs.Common.{◌≡◌, ◌≤◌, ◌<◌, ℕ, List, length, Option, Some, None, Result, Ok, Err, ap, sym, ◌∙◌, arith, refl, inl, inr, IfOk, IfErr, MatchResult, ◌⊎◌, subst}
use Rattle.std.proofs.lemmas.Bool.{cases_eq}
use Rattle.std.proofs.lemmas.Bool.Decides.{nat_tests}
use Rattle.hex.specs.Hex.{decode_of}
use Rattle.hex.proofs.HexLemmas.{decode_of-ok}
use Rattle.hex.specs.declared.error.FromHexError.{FromHexError}
use Rattle.hex.specs.declared.error.FromHexError.TheVariants.{InvalidHexCharacter, InvalidStringLength, OddLength, OutOfMemory}
use Rattle.mldsa_engine.specs.declared.fault.RunFault.{RunFault}
use Rattle.mldsa_engine.specs.declared.fault.RunFault.TheVariants.{TooLong, NotHex, Length}
use Rattle.mldsa_engine.specs.Lines.{longest_line, line_digits, judged, decoded, sized, refused, IsLineFault, Fits}

pub judged_short : (number : ℕ) (wanted : Option ℕ) (line : List ℕ) → length line ≤ longest_line
    → judged number wanted line ≡ decoded number wanted (decode_of line)
unfolding judged
judged_short number wanted line short = grind (arith, nat_tests)

pub judged_long : (number : ℕ) (wanted : Option ℕ) (line : List ℕ) → longest_line < length line
    → judged number wanted line ≡ Err (TooLong number)
unfolding judged
judged_long number wanted line long = grind (arith, nat_tests)

pub judged_not_hex : (number : ℕ) (wanted : Option ℕ) (line : List ℕ) (e : FromHexError) → length line ≤ longest_line
    → decode_of line ≡ Err e → judged number wanted line ≡ Err (NotHex number)
judged_not_hex number wanted line e short bad = judged_short number wanted line short ∙ ap (decoded number wanted) bad

pub judged_hex : (number : ℕ) (wanted : Option ℕ) (line bytes : List ℕ) → length line ≤ longest_line → decode_of line ≡ Ok bytes
    → judged number wanted line ≡ sized number wanted bytes
judged_hex number wanted line bytes short good = judged_short number wanted line short ∙ ap (decoded number wanted) good

pub sized_other : (number wants : ℕ) (bytes : List ℕ) → ¬ (length bytes ≡ wants)
    → sized number (Some wants) bytes ≡ Err (Length number wants (length bytes))
sized_other number wants bytes other = grind (arith, nat_tests)

-- the fault of a line that could not be decoded is what it is judged to be
refused_line : (number : ℕ) (wanted : Option ℕ) (line : List ℕ) (e : FromHexError) (fault : RunFault) → length line ≤ longest_line
    → (e ≡ OutOfMemory) ⊎ (decode_of line ≡ Err e) → fault ≡ refused number e → IsLineFault fault → judged number wanted line ≡ Err fault
refused_line number wanted line (InvalidHexCharacter c i) fault short (inr bad) is of_line = judged_not_hex number wanted line _ short bad
    ∙ ap Err (sym is)
refused_line number wanted line InvalidStringLength fault short (inr bad) is of_line = judged_not_hex number wanted line _ short bad
    ∙ ap Err (sym is)
refused_line number wanted line OddLength fault short (inr bad) is of_line = judged_not_hex number wanted line _ short bad ∙ ap Err (sym is)
refused_line number wanted line (InvalidHexCharacter c i) fault short (inl memory) is of_line = absurd cc
refused_line number wanted line InvalidStringLength fault short (inl memory) is of_line = absurd cc
refused_line number wanted line OddLength fault short (inl memory) is of_line = absurd cc
refused_line number wanted line OutOfMemory fault short either is of_line = absurd (subst IsLineFault is of_line)

-- a good line has the wanted digits
decoded_digits : (number : ℕ) (wanted : Option ℕ) (line : List ℕ) (spelt : Result (List ℕ) FromHexError) (bytes : List ℕ)
    → decode_of line ≡ spelt → decoded number wanted spelt ≡ Ok bytes → line_digits wanted ≤ length line
decoded_digits number None line spelt bytes e good = omega arith
decoded_digits number (Some wants) line (Err refusal) bytes e good = cc good
decoded_digits number (Some wants) line (Ok given) bytes e good =
    let twice = (decode_of-ok line given e).2 in
    elim (cases_eq (length given) wants) [
      | inl same ↦ omega (arith, twice, same)
      | inr other ↦ cc (sym (sized_other number wants given other) ∙ good)
    ]

pub judged_digits : (number : ℕ) (wanted : Option ℕ) (line bytes : List ℕ) → length line ≤ longest_line
    → judged number wanted line ≡ Ok bytes → line_digits wanted ≤ length line
judged_digits number wanted line bytes short good =
    decoded_digits number wanted line (decode_of line) bytes refl (sym (judged_short number wanted line short) ∙ good)

-- what is made of a line by what decoding its characters gave is what it is judged to be
pub judged_by_decoding : {V : Type 0} (items : V → List ℕ) (number : ℕ) (wanted : Option ℕ) (line : List ℕ)
    (given : Result V FromHexError) (result : Result V RunFault) → length line ≤ longest_line
    → IfOk given (λ bytes. decode_of line ≡ Ok (items bytes)) → IfErr given (λ e. (e ≡ OutOfMemory) ⊎ (decode_of line ≡ Err e))
    → MatchResult given
    (λ bytes. MatchResult result (λ same. (sized number wanted (items bytes) ≡ Ok (items same)) × Fits wanted (items same))
    (λ fault. sized number wanted (items bytes) ≡ Err fault))
    (λ refusal. result ≡ Err (refused number refusal))
    → IfOk result (λ bytes. judged number wanted line ≡ Ok (items bytes)) × IfOk result (λ bytes. Fits wanted (items bytes))
    × IfErr result (λ fault. IsLineFault fault → judged number wanted line ≡ Err fault)
judged_by_decoding items number wanted line (Ok bytes) (Ok same) short good bad now =
    (judged_hex number wanted line (items bytes) short good ∙ now.0, now.1, tt)
judged_by_decoding items number wanted line (Ok bytes) (Err fault) short good bad now =
    (tt, tt, λ _. judged_hex number wanted line (items bytes) short good ∙ now)
judged_by_decoding items number wanted line (Err refusal) (Ok bytes) short good bad now = cc now
judged_by_decoding items number wanted line (Err refusal) (Err fault) short good bad now =
    (tt, tt, refused_line number wanted line refusal fault short bad (cc now))
