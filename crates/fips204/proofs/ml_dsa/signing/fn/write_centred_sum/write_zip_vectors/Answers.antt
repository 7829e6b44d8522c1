use Rattle.std.proofs.Common.{rules, ◌∙◌, ◌+ℤ◌, w32}
use Rattle.fips204.proofs.Names.{to_z-of_z}
use Rattle.fips204.proofs.RejectionChecks.{centred-sum}
use Rattle.fips204.proofs.ml_dsa.signing.fn.write_centred_sum.write_zip_vectors.Goals as goal

pub returns : goal.returns
returns c =
    let x = to_z-of_z w32 c.args.mask c.ranges.mask in
    let y = to_z-of_z w32 c.args.product c.ranges.product in
    let sum = to_z-of_z w32 (c.args.mask +ℤ c.args.product) (search rules) in
    record {
      value = to_z-of_z w32 c.center_mod.result (search rules) ∙ (rw (x, y, sum) at c.center_mod.ensures.value) ∙ centred-sum c.args.mask c.args.product;
      small = search rules;
    }
