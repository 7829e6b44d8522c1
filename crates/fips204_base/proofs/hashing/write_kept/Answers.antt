use Rattle.std.proofs.Common.{◌≡◌, sym, arith, rules, take, append-nil, to_z, of_z}
use Rattle.fips204_base.proofs.Names.{option_to_list, w32, keeps_there, keeps_more, keeps_full}
use Rattle.fips204_base.proofs.hashing.write_kept.Goals as goal

pub returns-in-Some-clause-kept : goal.returns-in-Some-clause-kept
returns-in-Some-clause-kept c =
    let read : to_z w32 (of_z w32 c.in-Some.coefficient) ≡ c.in-Some.coefficient = search rules in
    rw (read, c.in-Some.is) (keeps_more c.in-Some.coefficient (keeps_there c.args.values.now c.args.kept c.told-values c.requires.room) c.if-kept-lt256.true).same

pub returns-in_default-clause-kept : goal.returns-in_default-clause-kept
returns-in_default-clause-kept c =
    let full : 256 ≡ c.args.kept = omega (arith, c.requires.room, c.if-kept-lt256.false) in
    rw (sym full) (keeps_full (option_to_list c.args.coefficient) (keeps_there c.args.values.now 256 c.told-values (omega arith))).same

pub returns-in_default-2-clause-kept : goal.returns-in_default-2-clause-kept
returns-in_default-2-clause-kept c =
    rw (c.in_default.is, append-nil (take c.args.kept c.args.values.now)) (keeps_there c.args.values.now c.args.kept c.told-values c.requires.room).same
