use Rattle.std.proofs.Common.{inl, inr}
use Rattle.fips204.specs.Framing.{represented, pre_hash_fault}
use Rattle.fips204_shake.specs.Bytes as bytes
use Rattle.fips204_shake.specs.Prepared as prepared
use Rattle.fips204_shake.specs.Fronts.{shake256_front, shake128_front}
use Rattle.mldsa_c.proofs.ByStatus.{either, failed, told_not_one}
use Rattle.mldsa_c.proofs.Errors.{signature_left, prepared_signature_left, begun_left, state_left, digest_told}
use Rattle.mldsa_c.proofs.callers.arrays_after_errors.Goals as goal

pub returns-clause-pairs : goal.returns-clause-pairs
returns-clause-pairs c = λ p seed v pk s sk status differ.
    either 32 seed (failed (bytes.Generates p shake256_front shake128_front seed v pk s sk) status ((c.errors_leave_arrays.ensures p shake256_front shake128_front).keygen seed v pk s sk) differ) (λ (public, private, _). (public, private))

pub returns-clause-signatures : goal.returns-clause-signatures
returns-clause-signatures c = λ p key input random old new status differ answers. elim answers [
  | inl plain ↦ signature_left p (c.errors_leave_arrays.ensures p shake256_front shake128_front) key input random old new status differ plain
  | inr ready ↦ prepared_signature_left p (c.errors_leave_arrays.ensures p shake256_front shake128_front) key input random old new status differ ready
]

pub returns-clause-signatures_of_mu : goal.returns-clause-signatures_of_mu
returns-clause-signatures_of_mu c = λ p key mu random old new status differ answers. elim answers [
  | inl plain ↦ either 64 mu (signature_left p (c.errors_leave_arrays.ensures p shake256_front shake128_front) key (represented mu) random old new status differ) (λ (same, _). same) plain
  | inr ready ↦ either 64 mu (prepared_signature_left p (c.errors_leave_arrays.ensures p shake256_front shake128_front) key (represented mu) random old new status differ) (λ (same, _). same) ready
]

pub returns-clause-keys : goal.returns-clause-keys
returns-clause-keys c = λ p key old new status differ answers. elim answers [
  | inl derives ↦ failed (bytes.Derives p shake128_front key old new) status ((c.errors_leave_arrays.ensures p shake256_front shake128_front).public_key key old new) differ derives
  | inr prepares ↦ elim prepares [
    | inl public ↦ failed (prepared.PreparesPublic p shake256_front shake128_front key old new) status ((c.errors_leave_arrays.ensures p shake256_front shake128_front).prepare_public_key key old new) differ public
    | inr private ↦ failed (prepared.PreparesPrivate p shake128_front key old new) status ((c.errors_leave_arrays.ensures p shake256_front shake128_front).prepare_private_key key old new) differ private
  ]
]

pub returns-clause-states : goal.returns-clause-states
returns-clause-states c = λ wanted key tr context piece old new status differ answers. elim answers [
  | inl begins ↦ begun_left wanted key tr context old new status differ begins
  | inr used ↦ elim used [
    | inl updates ↦ state_left old old new status _ differ updates
    | inr finishes ↦ either 64 old (state_left piece old new status _ differ) (λ (same, _). same) finishes
  ]
]

pub returns-clause-digests : goal.returns-clause-digests
returns-clause-digests c = λ digest oid status. digest_told (pre_hash_fault digest oid) status

pub returns-clause-judged : goal.returns-clause-judged
returns-clause-judged c = λ p key input signature status answers. elim answers [
  | inl plain ↦ told_not_one (bytes.Judges p shake256_front shake128_front key input signature) status plain
  | inr ready ↦ told_not_one (prepared.JudgesPrepared p shake256_front key input signature) status ready
]

pub returns-clause-judged_mu : goal.returns-clause-judged_mu
returns-clause-judged_mu c = λ p key mu signature status answers. elim answers [
  | inl plain ↦ either 64 mu (told_not_one (bytes.Judges p shake256_front shake128_front key (represented mu) signature) status) (λ three one. absurd cc) plain
  | inr ready ↦ either 64 mu (told_not_one (prepared.JudgesPrepared p shake256_front key (represented mu) signature) status) (λ three one. absurd cc) ready
]

pub returns-clause-asked : goal.returns-clause-asked
returns-clause-asked c = λ p key status answers. elim answers [
  | inl whole ↦ told_not_one (bytes.ChecksWholeness p shake128_front key) status whole
  | inr pair ↦ told_not_one (bytes.ChecksPair p shake256_front shake128_front key) status pair
]
