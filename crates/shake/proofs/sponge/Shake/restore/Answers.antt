use Rattle.std.proofs.Common.{rules, ◌≡◌, ℕ, ◌<◌, ◌≤◌, ◌+◌, ◌-◌, take, drop, replicate, get_or, refl, ap, ◌∙◌, arith}
use Rattle.shake.specs.Shake.{add_block}
use Rattle.shake.proofs.Saved.{restored}
use Rattle.shake.proofs.sponge.Shake.restore.Goals as goal

pub returns : goal.returns
returns g c =
    let saved = c.args.saved.now in
    let R = g.row.R in
    let front : c.split_at.result.0.now ≡ take 200 saved = search rules in
    let lanes : c.add_block.new.state ≡ add_block (replicate 25 0) (take 200 saved) = c.add_block.ensures ∙ rw front refl in
    let block : c.copy_from_slice.new.self ≡ take R (drop 200 saved) = search rules in
    let count : get_or c.split_at.result.1.now R 0 ≡ get_or saved (200 + R) 0 = search rules in
    let some : 0 < get_or saved (200 + R) 0 = omega (arith, count, c.if-count-eq0.false) in
    let within : get_or saved (200 + R) 0 ≤ R = omega (arith, count, c.if-count.false) in
    ((some, within), λ m. restored R _ saved _ _ m lanes block (ap (λ (n : ℕ). n - 1) count))
