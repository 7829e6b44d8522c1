use Rattle.std.proofs.Common.{rules, ◌≡◌, ◌∙◌, ◌+◌, ◌*◌, None, length, take, drop, sym, arith, ap}
use Rattle.std.proofs.lemmas.List.{take_all}
use Rattle.fips204.proofs.MatrixBytes.{matrix_asks, matrix_within, public_cut, public_joined}
use Rattle.fips204.proofs.Names.{ArePublicParts, public_key_bytes}
use Rattle.fips204.specs.PreparedBytes.{matrix_bytes}
use Rattle.fips204.proofs.keys.prepared.PreparedPublicKey.read.Given as given
use Rattle.fips204.proofs.keys.prepared.PreparedPublicKey.read.Goals as goal
use Rattle.fips204.proofs.keys.prepared.PreparedPublicKey.read.Goals.{After-write_shifted_transforms}

pub read_matrix-requires : goal.read_matrix-requires
read_matrix-requires g c =
    let p = g.S.Set.set in
    let sizes = g.met.S.KeySizes.key_sizes in
    let room : length c.split_at-2.result.1.now ≡ 1024 * p.l * p.k = omega (arith, c.requires.size, sizes.public_key, c.split_at.ensures.back_len, c.split_at-2.ensures.back_len) in
    matrix_asks p g.row.K g.row.L (length c.split_at-2.result.1.now) g.S.Set.known sizes.rows sizes.columns room

pub returns-in_err-read_matrix : goal.returns-in_err-read_matrix
returns-in_err-read_matrix g c =
    let none : c.from_residual.result ≡ None = search rules in
    let sizes = g.met.S.KeySizes.key_sizes in
    let size : g.row.PK_LEN ≡ 32 + 320 * g.row.K = sizes.public_key ∙ ap (λ k. 32 + 320 * k) (sym sizes.rows) in
    let matrix : c.split_at-2.result.1.now ≡ drop 64 (drop g.row.PK_LEN c.args.bytes.now) = search rules in
    rw none (λ pk is. c.in_err-read_matrix.ensures pk.matrix is.matrix (sym (matrix ∙ (public_cut g.row.K g.row.L g.row.PK_LEN c.args.bytes.now pk size is).2)))

-- the array that has tr
tr-whole : (g : given.Over) (c : After-write_shifted_transforms g) → c.unwrap.result.now ≡ c.split_at-2.result.0.now
tr-whole g c =
    let tr : c.unwrap.result.now ≡ take 64 c.split_at-2.result.0.now = search rules in
    tr ∙ take_all 64 c.split_at-2.result.0.now (omega (arith, c.split_at-2.ensures.front_len))

parts-read : (g : given.Over) (c : After-write_shifted_transforms g) → ArePublicParts g.row.K record { rho = c.write_public_key_parts-rho.result.now; tr = c.unwrap.result.now; t1 = c.write_public_key_parts-rho.new.t1 }
parts-read g c = record {
  rho = c.write_public_key_parts-rho.ensures.seed;
  tr = ap length (tr-whole g c) ∙ c.split_at-2.ensures.front_len;
  t1 = c.write_public_key_parts-rho.ensures.vector;
}

pub invariant_of-pk : goal.invariant_of-pk
invariant_of-pk g c = (parts-read g c, matrix_within g.row.K g.row.L c.read_matrix.new.a c.in_ok-read_matrix.ensures.0, c.write_shifted_transforms.ensures)

pub returns : goal.returns
returns g c =
    let bytes = c.args.bytes.now in
    let n = g.row.PK_LEN in
    let front : c.split_at.result.0.now ≡ take n bytes = search rules in
    let rest : c.split_at.result.1.now ≡ drop n bytes = search rules in
    let second : c.split_at-2.result.0.now ≡ take 64 (drop n bytes) = search rules in
    let tr_at : c.unwrap.result.now ≡ take 64 (drop n bytes) = tr-whole g c ∙ second in
    let matrix : c.split_at-2.result.1.now ≡ drop 64 (drop n bytes) = search rules in
    record {
      parts = parts-read g c;
      matrix = c.in_ok-read_matrix.ensures.0;
      encoding = public_joined n bytes (public_key_bytes c.write_public_key_parts-rho.result.now c.write_public_key_parts-rho.new.t1) c.unwrap.result.now (matrix_bytes c.read_matrix.new.a)
          (sym c.write_public_key_parts-rho.ensures.same_bytes ∙ front) tr_at (c.in_ok-read_matrix.ensures.1 ∙ matrix);
    }
