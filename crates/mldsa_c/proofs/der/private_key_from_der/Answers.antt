use Rattle.std.proofs.Common.{refl, ◌∙◌}
use Rattle.fips204.specs.Sets.{named_set}
use Rattle.fips204_shake.specs.Keys.{private_length}
use Rattle.mldsa_c.specs.Der.{IfConsistent, Has}
use Rattle.mldsa_c.specs.Pieces.{Keeps}
use Rattle.mldsa_c.proofs.KeyFiles.{of_key, of_status}
use Rattle.mldsa_c.proofs.der.private_key_from_der.Goals as goal

pub returns-in-Ok : goal.returns-in-Ok
returns-in-Ok c =
    let old = c.args.private_key.now in
    let new = c.write_expanded.new.private_key in
    let status = c.write_expanded.result in
    of_key c.args.set (private_length c.args.set) c.args.der.now old c.private_key_of.result c.in-Ok.key
    (λ parts. IfConsistent (named_set c.args.set) parts (Has new status) (Keeps old new status)) (Keeps old new status)
    (c.if-private_key-private_key_len.false ∙ c.private_key_len.ensures) c.in-Ok.is c.write_expanded.ensures c.private_key_of.ensures.exact

pub returns-in-Err : goal.returns-in-Err
returns-in-Err c =
    let old = c.args.private_key.now in
    let status = c.in-Err.status in
    of_status c.args.set (private_length c.args.set) c.args.der.now old c.private_key_of.result status
    (λ parts. IfConsistent (named_set c.args.set) parts (Has old status) (Keeps old old status)) (Keeps old old status)
    (c.if-private_key-private_key_len.false ∙ c.private_key_len.ensures) c.in-Err.is (refl, refl) c.private_key_of.ensures.exact
