use Rattle.std.proofs.Common.{◌≡◌, sym, arith, rules, to_z, of_z}
use Rattle.fips204_base.proofs.Names.{option_to_list, w32, keeps_counted, keeps_there, keeps_full}
use Rattle.fips204_base.proofs.hashing.push_branchless.Goals as goal

pub returns-then-kept-lt256-clause-kept : goal.returns-then-kept-lt256-clause-kept
returns-then-kept-lt256-clause-kept c =
    let read : to_z w32 (of_z w32 c.unwrap_or.result) ≡ c.unwrap_or.result = search rules in
    rw (read, c.unwrap_or.ensures, c.from.ensures, c.is_some.ensures) (keeps_counted c.args.values.now c.args.kept c.args.coefficient c.told-values c.if-kept-lt256.true)

pub returns-else-kept-lt256-clause-kept : goal.returns-else-kept-lt256-clause-kept
returns-else-kept-lt256-clause-kept c =
    let full : 256 ≡ c.args.kept = omega (arith, c.requires.room, c.if-kept-lt256.false) in
    rw (sym full) (keeps_full (option_to_list c.args.coefficient) (keeps_there c.args.values.now 256 c.told-values (omega arith))).same
