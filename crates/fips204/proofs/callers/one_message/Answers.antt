use Rattle.std.proofs.Common.{◌≡◌, Some, ap, refl}
use Rattle.fips204.proofs.Names.{plain, hashed}
use Rattle.fips204.proofs.callers.one_message.Goals as goal

pub returns-clause-messages : goal.returns-clause-messages
returns-clause-messages c = λ m n context other s t e.
    let same = c.framing.ensures (plain m context) (plain n other) refl refl s t (ap Some e) in
    let messages : m ≡ n = cc in
    let contexts : context ≡ other = cc in
    (messages, contexts)

pub returns-clause-digests : goal.returns-clause-digests
returns-clause-digests c = λ digest other context second oid third s t e.
    let same = c.framing.ensures (hashed digest context oid) (hashed other second third) refl refl s t (ap Some e) in
    let digests : digest ≡ other = cc in
    let contexts : context ≡ second = cc in
    let oids : oid ≡ third = cc in
    (digests, contexts, oids)

pub returns-clause-kinds : goal.returns-clause-kinds
returns-clause-kinds c = λ m digest context other oid s t e.
    let same = c.framing.ensures (plain m context) (hashed digest other oid) refl refl s t (ap Some e) in
    absurd cc
