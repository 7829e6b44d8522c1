use Rattle.std.proofs.Common.{◌≡◌, ◌∙◌, ◌/◌, ◌++◌, ap, arith, length, length-append, sym, take}
use Rattle.fips204_base.proofs.Names.{entry-few, entry-full, kept_triples, keeps_of, matched}
use Rattle.fips204_base.proofs.hashing.matrix.write_entry.Goals as goal

pub returns : goal.returns
returns g c =
    let rest = g.G.Reader.XofReader.rest c.args.reader.now in
    let front = c.args.first.now ++ rest in
    let size : length front ≡ g.G.Xof.FRONT = length-append c.args.first.now rest ∙ c.requires.front in
    let values = c.fill.new.values in
    matched c.fill.result c.fill.ensures
    (λ _ full. entry-full front full.0 values (omega (arith, size, full.1)) (keeps_of c.fill.array_long full.2))
    (λ fault few. (entry-few front values few.0.0 few.0.1 record { within = omega (arith, few.0.1); whole = c.fill.array_long; same = few.0.2 ∙ ap (λ n. take 256 (kept_triples front (n / 4))) (sym size) }, few.1))
