use Rattle.std.proofs.Common.{◌≡◌, ◌∙◌, ap, arith, length, rules}
use Rattle.shake.specs.Keccak.{keccak_f}
use Rattle.shake.proofs.Absorbing.{absorbed_padded}
use Rattle.shake.proofs.Squeezing.{next_bytes-shake}
use Rattle.shake.proofs.sponge.Shake.finalize_xof.Goals as goal

pub returns : goal.returns
returns g c = λ m held d.
    let s = c.args.self in
    let size : length s.block ≡ g.row.R = search rules in
    let after : length c.pad.new.block ≡ g.row.R = search rules in
    let state = absorbed_padded g.row.R s.lanes s.block c.pad.new.block s.used m s.rate.0 s.below held after (rw size at c.pad.ensures) in
    next_bytes-shake g.row.R s.rate.0 s.rate.1 c.add_block.new.state c.pad.new.block m g.row.R (omega (arith, after))
    (ap keccak_f c.add_block.ensures ∙ state) d
