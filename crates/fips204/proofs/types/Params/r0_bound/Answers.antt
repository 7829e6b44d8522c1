use Rattle.std.proofs.Common.{rules, ◌≡◌, nat_abs}
use Rattle.fips204.proofs.ParameterSets.{limits}
use Rattle.fips204.proofs.types.Params.r0_bound.Goals as goal

pub overflow_sub-result : goal.overflow_sub-result
overflow_sub-result c =
    let p = c.args.self.now in
    let gamma2 : c.unsigned_abs.result ≡ nat_abs p.gamma2 = search rules in
    let beta : c.unsigned_abs-2.result ≡ nat_abs p.beta = search rules in
    rw (gamma2, beta) (limits p (search rules)).r0_room
