use Rattle.std.proofs.Common.{rules, Result, Bool, Ok}
use Rattle.fips204_base.specs.declared.fault.Fault.{Fault}
use Rattle.fips204.specs.Completeness.{TellsPair}
use Rattle.fips204_shake.specs.Bytes.{Tells}
use Rattle.fips204_shake.proofs.bytes.calls.MlDsa.is_pair.Goals as goal

pub returns-in_ok-is_pair-in-Ok : goal.returns-in_ok-is_pair-in-Ok
returns-in_ok-is_pair-in-Ok g c =
    let told : (told : Result Bool Fault) × TellsPair g.S.Set.set g.H.Xof.front g.G.Xof.front c.in-Ok.key told × Tells told (Ok c.in_ok-is_pair-in-Ok.field-0) =
    (c.is_pair.result, c.is_pair.ensures, search rules) in
    search rules
