-- The statuses that the exported calls return: 0 says done or yes, 2 says no, and 3 that an array has the wrong length.
use Rattle.std.specs.Prelude.{ℕ, Bool, true, false, Result, Ok, Err, ⊤, nat_eq, if◌then◌else◌}
use Rattle.fips204_shake.specs.declared.bytes.refusal.Refusal.{Refusal}
use Rattle.fips204_shake.specs.declared.bytes.refusal.Refusal.TheVariants.{Length, Library, NotPrepared}
use Rattle.mldsa_c.specs.Numbers.{status_of}

-- the status of an error, of a call that writes, and of a question
abbrev pub refusal_status : Refusal → ℕ
refusal_status (Length which) = 3
refusal_status (Library fault) = status_of fault
refusal_status NotPrepared = 14

abbrev pub done_status : Result ⊤ Refusal → ℕ
done_status (Ok done) = 0
done_status (Err refusal) = refusal_status refusal

abbrev pub answer_status : Result Bool Refusal → ℕ
answer_status (Ok true) = 0
answer_status (Ok false) = 2
answer_status (Err refusal) = refusal_status refusal

-- 1 where a status says yes, and else 0
abbrev pub accepted : ℕ → ℕ
accepted status = if nat_eq status 0 then 1 else 0
