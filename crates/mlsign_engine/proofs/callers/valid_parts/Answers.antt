use Rattle.mlsign_engine.proofs.callers.valid_parts.Goals as goal

pub returns-clause-signed : goal.returns-clause-signed
returns-clause-signed c = c.signed_is_valid.ensures.signed

pub returns-clause-published : goal.returns-clause-published
returns-clause-published c = c.signed_is_valid.ensures.published

pub returns-clause-generated : goal.returns-clause-generated
returns-clause-generated c = c.signed_is_valid.ensures.generated

pub returns-clause-public : goal.returns-clause-public
returns-clause-public c = λ form set found file bytes. c.keys_are_read.ensures.public form set file (found, bytes)

pub returns-clause-private : goal.returns-clause-private
returns-clause-private c = λ form set found file parts. c.keys_are_read.ensures.private form set file (found, parts)
