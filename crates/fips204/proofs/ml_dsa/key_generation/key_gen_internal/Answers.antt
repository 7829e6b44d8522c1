use Rattle.std.proofs.Common.{rules, ◌≡◌, ◌+◌, ◌*◌, ◌∙◌, ap, sym}
use Rattle.fips204.proofs.ParameterSets.{parts_by_rows}
use Rattle.fips204.proofs.ml_dsa.key_generation.key_gen_internal.Goals as goal

pub pk_encode-pk-requires : goal.pk_encode-pk-requires
pk_encode-pk-requires g c =
    let size : g.row.PK_LEN ≡ 32 + 320 * g.row.K = c.requires.size ∙ ap (λ k. 32 + 320 * k) (sym c.requires.rows) in
    (search rules, (search rules, (size, c.in_ok-rho.ensures.high.range)))

pub invariant_of-public : goal.invariant_of-public
invariant_of-public g c = record { rho = search rules; tr = search rules; t1 = c.in_ok-rho.ensures.high }

pub invariant_of-private : goal.invariant_of-private
invariant_of-private g c =
    let ranges = c.in_ok-rho.ensures in
    parts_by_rows c.args.p.now _ _ _ (search rules) c.requires.rows record {
      rho = search rules;
      key = search rules;
      tr = search rules;
      s1 = ranges.first;
      s2 = ranges.second;
      t0 = ranges.low;
    }
