-- The program's text: what a run returns and writes, by what its input spells.
use Rattle.std.specs.Prelude.{◌≡◌, ◌<◌, ◌↔◌, ℕ, zero, suc, ◌+◌, ◌*◌, Bool, true, false, IsTrue, List, [], ◌∷◌, ◌++◌, length, get_or, map, take, All, codes, Option, Some, None, Result, Ok, Err, MatchResult, IfOk, IfErr}
use Rattle.std.specs.List.{flat_map}
use Rattle.std.specs.Io.KnownBytes.{Appends}
use Rattle.hex.specs.Hex.{encode_lower}
use Rattle.fips204.specs.fault.Fault.{Fault}
use Rattle.fips204.specs.Encodings.{PublicParts, IsPublicKeyOf, public_key_bytes, private_key_bytes}
use Rattle.fips204.specs.Faults.{words}
use Rattle.fips204.specs.Keys.{DecodesPrivate}
use Rattle.fips204.specs.ParameterSets.{ParameterSet, public_key_length, private_key_length, signature_length}
use Rattle.fips204.specs.Sets.{named_set}
use Rattle.fips204.specs.Refusals.{generated, sign_input, VerifiesInput}
use Rattle.fips204.specs.Framing.{plain}
use Rattle.mldsa_engine.specs.Calls.{first_stream, second_stream, AreCall, AreNoCall}
use Rattle.mldsa_engine.specs.Devices.{KeepsWritten, MarkedDevice}
use Rattle.mldsa_engine.specs.Lines.{after_lines, line_bytes, IsLineFault, TakesLines, FaultOfLines, InTurn}
use Rattle.mldsa_engine.specs.declared.fault.RunFault.{RunFault}
use Rattle.mldsa_engine.specs.declared.fault.RunFault.TheVariants.{Usage, Write}
use Rattle.mldsa_engine.specs.declared.call.Task.{Task}
use Rattle.mldsa_engine.specs.declared.call.Task.TheVariants.{Id, Keygen, Sign, Verify, Check, Batch}
use Rattle.fips204.specs.declared.sets.SetName.{SetName}

-- the lines that a command wants of every input: a number of bytes each, or any number of them
abbrev pub wanted_lines : Task → ParameterSet → List (Option ℕ)
wanted_lines Id p = Some (public_key_length p) ∷ []
wanted_lines Keygen p = Some 32 ∷ []
wanted_lines Sign p = Some (private_key_length p) ∷ Some 32 ∷ None ∷ None ∷ []
wanted_lines Verify p = Some (public_key_length p) ∷ Some (signature_length p) ∷ None ∷ None ∷ []
wanted_lines Check p = Some 32 ∷ Some 32 ∷ None ∷ None ∷ []
wanted_lines Batch p = Some (public_key_length p) ∷ None ∷ Some 2 ∷ []

-- the lines of so many entries of a batch: a signature of this size and a message each
abbrev pub entry_lines : ℕ → ℕ → List (Option ℕ)
entry_lines size zero = []
entry_lines size (suc entries) = Some size ∷ None ∷ entry_lines size entries

-- the lines that a command wants after those: of a batch with so many entries theirs, and of every other none
abbrev pub later_lines : Task → ParameterSet → ℕ → List (Option ℕ)
later_lines Id p entries = []
later_lines Keygen p entries = []
later_lines Sign p entries = []
later_lines Verify p entries = []
later_lines Check p entries = []
later_lines Batch p entries = entry_lines (signature_length p) entries

-- the number that two bytes spell, the high byte first
abbrev pub two_bytes : List ℕ → ℕ
two_bytes bytes = get_or bytes 0 0 * 256 + get_or bytes 1 0

-- how many entries a batch has whose third line is judged so: what its two bytes spell, and none where it has a fault
abbrev pub entries_of_line : Result (List ℕ) RunFault → ℕ
entries_of_line (Ok bytes) = two_bytes bytes
entries_of_line (Err fault) = 0

-- how many entries a batch has on this input
abbrev pub entries_of : Option (List ℕ) → ℕ
entries_of None = 0
entries_of (Some input) = entries_of_line (line_bytes 3 (Some 2) (after_lines 2 input))

-- all the lines that a command wants of an input, with the numbers of a parameter set, and by its name
abbrev pub input_lines : Task → ParameterSet → Option (List ℕ) → List (Option ℕ)
input_lines task p given = wanted_lines task p ++ later_lines task p (entries_of given)

abbrev pub lines_of_input : Task → SetName → Option (List ℕ) → List (Option ℕ)
lines_of_input task set given = input_lines task (named_set set) given

-- lines as they are written, each ended by LF
abbrev pub text : List (List ℕ) → List ℕ
text lines = flat_map (λ line. line ++ 10 ∷ []) lines

-- lines that spell bytes in lower case hex
abbrev pub hex_text : List (List ℕ) → List ℕ
hex_text lines = text (map encode_lower lines)

-- an error is its words, and false
abbrev pub Refuses : Fault → List ℕ → Bool → Type 0
Refuses fault output answer = (output ≡ text (words fault ∷ [])) × (answer ≡ false)

-- what is told of a call: lines that spell what it returned, and true, or its error
abbrev pub Tells : {A : Type 0} → (A → List (List ℕ)) → Result A Fault → List ℕ → Bool → Type 0
Tells lines (Ok value) output answer = (output ≡ hex_text (lines value)) × (answer ≡ true)
Tells lines (Err fault) output answer = Refuses fault output answer

-- what is told of bytes that spell a key or are rejected: what is told of the key, or the error
abbrev pub TellsOfKey : {K : Type 0} → (Result K Fault → Type 0) → (K → List ℕ → Bool → Type 0) → List ℕ → Bool → Type 0
TellsOfKey {K} decodes tells output answer = (decoded : Result K Fault) × decodes decoded
    × MatchResult decoded (λ key. tells key output answer) (λ fault. Refuses fault output answer)

-- `keygen`: the public key and the private key of a seed
abbrev pub TellsKeys : ParameterSet → (List ℕ → List ℕ) → (List ℕ → List ℕ) → List ℕ → List ℕ → Bool → Type 0
TellsKeys p H G seed output answer =
    Tells (λ keys. public_key_bytes keys.0.rho keys.0.t1 ∷ private_key_bytes p.eta keys.1 ∷ [])
    (generated p H G seed) output answer

-- `sign`: the signature by the private key that has these bytes, or the error; that of the bytes stands first
abbrev pub TellsSignature : ParameterSet → (List ℕ → List ℕ) → (List ℕ → List ℕ) → List ℕ → List ℕ → List ℕ → List ℕ → List ℕ → Bool → Type 0
TellsSignature p H G key seed context message output answer =
    TellsOfKey (DecodesPrivate p.eta p.k p.l key) (λ sk. Tells (λ signature. signature ∷ []) (sign_input p H G sk seed (plain message context)))
    output answer

-- the word for a result
abbrev pub answer_word : Bool → List ℕ
answer_word true = codes "yes"
answer_word false = codes "no"

-- `verify`: whether the public key that has these bytes accepts the signature
abbrev pub TellsVerdict : ParameterSet → (List ℕ → List ℕ) → (List ℕ → List ℕ) → List ℕ → List ℕ → List ℕ → List ℕ → List ℕ → Bool → Type 0
TellsVerdict p H G key signature context message output answer = (pk : PublicParts)
    × IsPublicKeyOf H p.k key pk
    × (IsTrue answer ↔ VerifiesInput p H G pk signature (plain message context))
    × (output ≡ text (answer_word answer ∷ []))

-- `check`: yes where the seed's pair signs the message, which its public key then accepts, or the first error
abbrev pub TellsCheck : ParameterSet → (List ℕ → List ℕ) → (List ℕ → List ℕ) → List ℕ → List ℕ → List ℕ → List ℕ → List ℕ → Bool → Type 0
TellsCheck p H G xi rnd context message output answer =
    MatchResult (generated p H G xi)
    (λ keys. MatchResult (sign_input p H G keys.1 rnd (plain message context))
    (λ _. (output ≡ text (answer_word true ∷ [])) × (answer ≡ true))
    (λ fault. Refuses fault output answer))
    (λ fault. Refuses fault output answer)

-- the result of each entry, a signature and a message, is whether it is accepted
abbrev pub AnswersEach : (List ℕ → List ℕ → Type 0) → List (List ℕ) → List Bool → Type 0
AnswersEach accepts entries answers = (length entries ≡ 2 * length answers)
    × ((entry : ℕ) → entry < length answers → IsTrue (get_or answers entry false)
    ↔ accepts (get_or entries (2 * entry) []) (get_or entries (2 * entry + 1) []))

-- results are written as a word each, and are true together where none is `no`
abbrev pub TellsAll : List Bool → List ℕ → Bool → Type 0
TellsAll answers output answer = (output ≡ text (map answer_word answers)) × (IsTrue answer ↔ All IsTrue answers)

-- `batch`: whether the public key that has these bytes accepts each of the entries
abbrev pub TellsVerdicts : ParameterSet → (List ℕ → List ℕ) → (List ℕ → List ℕ) → List ℕ → List ℕ → List (List ℕ) → List ℕ → Bool → Type 0
TellsVerdicts p H G key context entries output answer = (pk : PublicParts) × IsPublicKeyOf H p.k key pk
    × ((answers : List Bool) × AnswersEach (λ signature message. VerifiesInput p H G pk signature (plain message context)) entries answers
    × TellsAll answers output answer)

-- what a command writes and returns, given the bytes of its lines, over the XOFs H and G; `id` writes the public key and
-- its hash
abbrev pub Answers : (List ℕ → List ℕ) → (List ℕ → List ℕ) → Task → ParameterSet → List (List ℕ) → List ℕ → Bool → Type 0
Answers H G Id p lines output answer = (key : List ℕ) × (lines ≡ key ∷ [])
    × (output ≡ hex_text (key ∷ take 64 (H key) ∷ [])) × (answer ≡ true)
Answers H G Keygen p lines output answer = (seed : List ℕ) × (lines ≡ seed ∷ [])
    × TellsKeys p H G seed output answer
Answers H G Sign p lines output answer = (key seed context message : List ℕ) × (lines ≡ key ∷ seed ∷ context ∷ message ∷ [])
    × TellsSignature p H G key seed context message output answer
Answers H G Verify p lines output answer = (key signature context message : List ℕ) × (lines ≡ key ∷ signature ∷ context ∷ message ∷ [])
    × TellsVerdict p H G key signature context message output answer
Answers H G Check p lines output answer = (xi rnd context message : List ℕ) × (lines ≡ xi ∷ rnd ∷ context ∷ message ∷ [])
    × TellsCheck p H G xi rnd context message output answer
Answers H G Batch p lines output answer = (key context count : List ℕ)
    × ((entries : List (List ℕ)) × (lines ≡ key ∷ context ∷ count ∷ entries)
    × (length entries ≡ 2 * two_bytes count)
    × TellsVerdicts p H G key context entries output answer)

-- a command was carried out over the XOFs H and G: its reader gave the wanted lines and has left what follows them, and this is
-- what the command writes and returns for them
abbrev pub Executes : (List ℕ → List ℕ) → (List ℕ → List ℕ) → Task → ParameterSet → Option (List ℕ) → Option (List ℕ) → List ℕ → Bool
    → Type 0
Executes H G task p given left output answer = (lines : List (List ℕ)) × TakesLines 1 (input_lines task p given) given left lines
    × Answers H G task p lines output answer

-- a run over the XOFs H and G ended with this result: the command was carried out, and the writer got what it writes, and
-- nothing else
abbrev pub Runs : (List ℕ → List ℕ) → (List ℕ → List ℕ) → Task → SetName → Option (List ℕ) → Option (List ℕ) → Option (List ℕ)
    → Option (List ℕ) → Bool → Type 0
Runs H G task set given left before after answer = (output : List ℕ) × Executes H G task (named_set set) given left output answer
    × Appends before after output

-- the same over a marked reader and a marked writer, and of the call that the words are
abbrev pub RunsOver : {I O : Type 0} → (List ℕ → List ℕ) → (List ℕ → List ℕ) → Task → SetName → (I → Option (List ℕ)) → MarkedDevice I
    → MarkedDevice I
    → (O → Option (List ℕ)) → MarkedDevice O → MarkedDevice O → Bool → Type 0
RunsOver H G task set remaining given left contents before after answer =
    Runs H G task set (remaining given.device) (remaining left.device) (contents before.device) (contents after.device) answer

abbrev pub RunsCall : {I O : Type 0} → List (List ℕ) → (I → Option (List ℕ)) → MarkedDevice I → MarkedDevice I
    → (O → Option (List ℕ)) → MarkedDevice O → MarkedDevice O → Bool → Type 0
RunsCall words remaining given left contents before after answer = AreCall words (λ streams task set.
    RunsOver (first_stream streams) (second_stream streams) task set remaining given left contents before after answer)

-- the fault is the first of the lines that a command wants of a marked reader, and of those of the call that the words are
abbrev pub FaultOfRun : {I : Type 0} → Task → SetName → (I → Option (List ℕ)) → MarkedDevice I → RunFault → Type 0
FaultOfRun task set remaining given fault = FaultOfLines 1 (lines_of_input task set (remaining given.device)) (remaining given.device) fault

abbrev pub FaultOfCall : {I : Type 0} → List (List ℕ) → (I → Option (List ℕ)) → MarkedDevice I → RunFault → Type 0
FaultOfCall words remaining given fault = AreCall words (λ streams task set. FaultOfRun task set remaining given fault)

-- each of these lines was judged before the next was read
abbrev pub RunInTurn : {I : Type 0} → Task → SetName → (I → Option (List ℕ)) → MarkedDevice I → MarkedDevice I → Type 0
RunInTurn task set remaining given left =
    InTurn 1 (lines_of_input task set (remaining given.device)) (remaining given.device) (remaining left.device)

abbrev pub CallInTurn : {I : Type 0} → List (List ℕ) → (I → Option (List ℕ)) → MarkedDevice I → MarkedDevice I → Type 0
CallInTurn words remaining given left = AreCall words (λ streams task set. RunInTurn task set remaining given left)

-- the exit status of a result, true being done or `yes`, and false `no` or an error; a fault has one status, whichever it is
abbrev pub status_of : Result Bool RunFault → ℕ
status_of (Ok true) = 0
status_of (Ok false) = 1
status_of (Err fault) = 2

-- how a call ends: with its usage where the words are none, else as the command is carried out, or with the first fault of
-- the lines that it wants; and but for a failed write a fault has written nothing
abbrev pub AnswersCall : {I O : Type 0} → List (List ℕ) → (I → Option (List ℕ)) → MarkedDevice I → MarkedDevice I
    → (O → Option (List ℕ)) → MarkedDevice O → MarkedDevice O → Result Bool RunFault → Type 0
AnswersCall words remaining given left contents before after answer = ((answer ≡ Err Usage) ↔ AreNoCall words)
    × IfOk answer (RunsCall words remaining given left contents before after)
    × IfErr answer (λ fault. IsLineFault fault → FaultOfCall words remaining given fault)
    × IfErr answer (λ fault. ¬ (fault ≡ Write) → KeepsWritten contents before after)
