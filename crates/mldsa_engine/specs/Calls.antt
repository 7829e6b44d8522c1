-- The words of a call.
use Rattle.std.specs.Prelude.{◌≡◌, ℕ, List, [], ◌∷◌, codes, replicate}
use Rattle.fips204.specs.Streams.{sha256_front, sha512_front}
use Rattle.mldsa_engine.specs.declared.call.Streams.{Streams}
use Rattle.mldsa_engine.specs.declared.call.Streams.TheVariants.{Sha2, Fill00, Fill55, FillFf}
use Rattle.mldsa_engine.specs.declared.call.Task.{Task}
use Rattle.mldsa_engine.specs.declared.call.Task.TheVariants.{Id, Keygen, Sign, Verify, Check, Batch}
use Rattle.fips204.specs.declared.sets.SetName.{SetName}
use Rattle.fips204.specs.declared.sets.SetName.TheVariants.{MlDsa44, MlDsa65, MlDsa87}

-- the word that names the XOFs
abbrev pub streams_word : Streams → List ℕ
streams_word Sha2 = codes "sha2"
streams_word Fill00 = codes "fill00"
streams_word Fill55 = codes "fill55"
streams_word FillFf = codes "fillff"

-- the word that names a command
abbrev pub task_word : Task → List ℕ
task_word Id = codes "id"
task_word Keygen = codes "keygen"
task_word Sign = codes "sign"
task_word Verify = codes "verify"
task_word Check = codes "check"
task_word Batch = codes "batch"

-- the word that names a parameter set
abbrev pub set_word : SetName → List ℕ
set_word MlDsa44 = codes "44"
set_word MlDsa65 = codes "65"
set_word MlDsa87 = codes "87"

-- the words of a call, after the program's name
abbrev pub call_words : Streams → Task → SetName → List (List ℕ)
call_words streams task set = streams_word streams ∷ task_word task ∷ set_word set ∷ []

-- the words are those of no call
abbrev pub AreNoCall : List (List ℕ) → Type 0
AreNoCall words = (streams : Streams) (task : Task) (set : SetName) → ¬ (words ≡ call_words streams task set)

-- the words are those of a call, of which this holds
abbrev pub AreCall : List (List ℕ) → (Streams → Task → SetName → Type 0) → Type 0
AreCall words holds = (streams : Streams) × ((task : Task) × ((set : SetName) × (words ≡ call_words streams task set)
    × holds streams task set))

-- the XOF that stands for H
abbrev pub first_stream : Streams → List ℕ → List ℕ
first_stream Sha2 input = sha256_front input
first_stream Fill00 input = replicate 4096 0x00
first_stream Fill55 input = replicate 4096 0x55
first_stream FillFf input = replicate 4096 0xFF

-- the XOF that stands for G
abbrev pub second_stream : Streams → List ℕ → List ℕ
second_stream Sha2 input = sha512_front input
second_stream Fill00 input = replicate 4096 0x00
second_stream Fill55 input = replicate 4096 0x00
second_stream FillFf input = replicate 4096 0xFF
