use Rattle.std.proofs.Common.{◌<◌, ◌≡◌, ℕ, pos, get_or, length, rules}
use Rattle.fips204_base.proofs.Names.{w32, SFits, below_eight, eight_stored}
use Rattle.fips204_base.proofs.lanes.Lanes.from_array.Goals as goal

eight : (c : goal.After-h-1) → length c.args.entries ≡ 8
eight c = search rules

fits : (c : goal.After-h-1) → (j : ℕ) → j < 8 → SFits w32 (get_or c.args.entries j (pos 0))
fits c = below_eight (λ j. SFits w32 (get_or c.args.entries j (pos 0))) (search rules) (search rules) (search rules) (search rules) (search rules) (search rules) (search rules) (search rules)

pub invariant_of-result : goal.invariant_of-result
invariant_of-result c = rw (eight_stored c.args.entries (eight c) (fits c)) (record { eight = eight c; fits = fits c })

pub returns : goal.returns
returns c = eight_stored c.args.entries (eight c) (fits c)
