use Rattle.std.proofs.Common.{refl, ◌∙◌, length}
use Rattle.fips204.proofs.Names.{plain, lt-ltb}
use Rattle.fips204_base.specs.declared.fault.Fault.TheVariants.{SignCtx}
use Rattle.fips204.proofs.callers.long_context_refused.Goals as goal

pub returns : goal.returns
returns g c =
    c.try_sign_with_seed.ensures.answer
    ∙ g.met.K.Signer.refused c.args.key.now c.args.rnd.now (plain c.args.message.now c.args.ctx.now) SignCtx (rw (lt-ltb 255 (length c.args.ctx.now) c.requires) refl)
