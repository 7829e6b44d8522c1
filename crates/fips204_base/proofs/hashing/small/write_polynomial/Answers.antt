use Rattle.std.proofs.Common.{◌≡◌, ◌∙◌, ◌/◌, ◌++◌, ap, arith, length, length-append, nat_abs, of_z, rules, sym, take, to_z}
use Rattle.fips204_base.proofs.Names.{w32, keeps_of, kept_half_bytes, matched, polynomial-few, polynomial-full}
use Rattle.fips204_base.proofs.hashing.small.write_polynomial.Goals as goal

pub returns : goal.returns
returns g c =
    let eta : to_z w32 (of_z w32 c.args.eta) ≡ c.args.eta = search rules in
    let rest = g.H.Reader.XofReader.rest c.args.reader.now in
    let front = c.args.first.now ++ rest in
    let size : length front ≡ g.H.Xof.FRONT = length-append c.args.first.now rest ∙ c.requires.front in
    let values = c.fill.new.values in
    matched c.fill.result (rw eta at c.fill.ensures)
    (λ _ full. polynomial-full (nat_abs c.args.eta) front full.0 values (omega (arith, size, full.1)) (keeps_of c.fill.array_long full.2))
    (λ fault few. (polynomial-few (nat_abs c.args.eta) front values few.0.0 few.0.1 record { within = omega (arith, few.0.1); whole = c.fill.array_long; same = few.0.2 ∙ ap (λ n. take 256 (kept_half_bytes (nat_abs c.args.eta) front (n / 4))) (sym size) }, few.1))
