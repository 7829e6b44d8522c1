use Rattle.std.proofs.Common.{ap, refl, sym}
use Rattle.std.specs.Prelude.{Ok}
use Rattle.mldsa_examples.proofs.callers.accepts_framed_it_signs_prepared.Goals as goal

pub returns : goal.returns
returns g c = c.verify_internal.ensures.1 (c.in_ok-signature.ensures.accepted c.args.pk.now c.in_ok-signature.signature c.requires.whole (ap Ok (sym c.requires.pair)) refl)
