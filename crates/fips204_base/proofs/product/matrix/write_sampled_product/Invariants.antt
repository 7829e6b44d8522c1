use Rattle.std.proofs.Common.{ℕ, ◌≡◌, ◌<◌, ◌*◌, List, Some}
use Rattle.fips204_base.proofs.Names.{AreAhead, sampled_row, plain_row, row_product, T, vector_coefficients}
use Rattle.fips204_base.proofs.product.matrix.write_sampled_product.Given as goal

abbrev pub invariant-loop-r : goal.invariant-loop-r
invariant-loop-r g l = record {
  values : (i : ℕ) → i < l.r → (row : List T) × (sampled_row g.G.Xof.front l.rho g.row.L i ≡ Some row)
      × ((n : ℕ) → n < 256 → vector_coefficients l.v i n ≡ row_product g.row.L (plain_row row) (plain_row l.values) n);
  ahead : AreAhead g.G.Xof.front l.rho g.row.L (g.row.K * g.row.L) (l.r * g.row.L) l.ahead;
}
