use Rattle.std.proofs.Common.{refl}
use Rattle.fips204.specs.Sets.{named_set}
use Rattle.mldsa_c.specs.Der.{IfSeed, Has}
use Rattle.mldsa_c.specs.Pieces.{Keeps}
use Rattle.mldsa_c.proofs.KeyFiles.{of_key, of_status}
use Rattle.mldsa_c.proofs.der.seed_from_der.Goals as goal

pub returns-in-Ok : goal.returns-in-Ok
returns-in-Ok c =
    let old = c.args.seed.now in
    let new = c.write_seed.new.out in
    let status = c.write_seed.result in
    of_key c.args.set 32 c.args.der.now old c.private_key_of.result c.in-Ok.key
    (λ parts. IfSeed (named_set c.args.set) parts (Has new status) (Keeps old new status)) (Keeps old new status)
    (c.if-seed-ne32.false) c.in-Ok.is c.write_seed.ensures c.private_key_of.ensures.exact

pub returns-in-Err : goal.returns-in-Err
returns-in-Err c =
    let old = c.args.seed.now in
    let status = c.in-Err.status in
    of_status c.args.set 32 c.args.der.now old c.private_key_of.result status
    (λ parts. IfSeed (named_set c.args.set) parts (Has old status) (Keeps old old status)) (Keeps old old status)
    (c.if-seed-ne32.false) c.in-Err.is (refl, refl) c.private_key_of.ensures.exact
