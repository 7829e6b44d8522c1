use Rattle.std.proofs.Common.{sym, ◌∙◌}
use Rattle.fips204.proofs.Names.{same_signature}
use Rattle.fips204.proofs.laws.signature_spelling.Goals as goal

pub returns : goal.returns
returns _ = λ gamma1 omega' k l n first second c_tilde other_c_tilde z h other_z other_h.
    (λ one two. sym one.encoding ∙ two.encoding, same_signature gamma1 omega' k l n first c_tilde other_c_tilde z other_z h other_h)
