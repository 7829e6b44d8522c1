use Rattle.std.proofs.Common.{arith, lit<}
use Rattle.std.proofs.lemmas.Str.Pattern.{split_parts, strip_prefix_char}
use Rattle.mlsign_program.proofs.Lines.{behind_mode, line_of_parts}
use Rattle.mlsign_program.proofs.sums.sum_of.Goals as goal

pub returns-in-Some-2 : goal.returns-in-Some-2
returns-in-Some-2 c =
    let parts = rw c.in-Some.is at (split_parts 32 _ c.split_once.result c.split_once.ensures.cases (lit< tt)) in
    let blank = strip_prefix_char 32 _ c.strip_prefix.result c.strip_prefix.ensures.cases (lit< tt) in
    let star = strip_prefix_char 42 _ c.strip_prefix-2.result c.strip_prefix-2.ensures.cases (lit< tt) in
    let mode = rw c.in-Some-or.is at (behind_mode _ _ _ _ blank star c.or.ensures) in
    line_of_parts _ _ _ _ _ _ _ _ c.behind_backslash-escaped.ensures parts.0 mode.1 mode.2 (rw c.in-Some-2.is at c.in_ok-name.ensures) (omega (arith, c.if-digits-ne64.false))
