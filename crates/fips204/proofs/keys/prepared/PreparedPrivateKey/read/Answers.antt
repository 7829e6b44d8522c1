use Rattle.std.proofs.Common.{rules, ◌≡◌, ◌∙◌, ◌*◌, ℕ, None, length, take, drop, sym, subst, arith, ap, nat_abs}
use Rattle.std.proofs.lemmas.List.{take_all}
use Rattle.fips204.proofs.MatrixBytes.{matrix_asks, matrix_within, private_cut, private_joined, length-private_at}
use Rattle.fips204.proofs.Names.{ParameterSet, PrivateParts, IsPrivateKeyOf, HasKeySizes, set_of, private_key_bytes}
use Rattle.fips204.proofs.ParameterSets.{parts_by_rows}
use Rattle.fips204.specs.PreparedBytes.{matrix_bytes}
use Rattle.fips204.proofs.keys.prepared.PreparedPrivateKey.read.Given as given
use Rattle.fips204.proofs.keys.prepared.PreparedPrivateKey.read.Goals as goal
use Rattle.fips204.proofs.keys.prepared.PreparedPrivateKey.read.Goals.{After-expand_private}

-- the bytes that are decoded as the plain key
key-at : (g : given.Over) (c : After-expand_private g) → c.unwrap-encoded.result.now ≡ take g.row.SK_LEN c.args.bytes.now
key-at g c =
    let n = g.row.SK_LEN in
    let front : c.split_at.result.0.now ≡ take n c.args.bytes.now = search rules in
    let key : c.unwrap-encoded.result.now ≡ take n c.split_at.result.0.now = search rules in
    key ∙ take_all n c.split_at.result.0.now (omega (arith, c.split_at.ensures.front_len)) ∙ front

pub returns-in-Err : goal.returns-in-Err
returns-in-Err g c =
    let p = g.S.Set.set in
    let sizes = g.met.S.KeySizes.key_sizes in
    let refused : (key : PrivateParts) → IsPrivateKeyOf p.eta g.row.K g.row.L c.unwrap-encoded.result.now key → ⊥ =
    subst (λ (e : ℕ). (key : PrivateParts) → IsPrivateKeyOf e g.row.K g.row.L c.unwrap-encoded.result.now key → ⊥) (ap (λ (q : ParameterSet). q.eta) c.params.ensures) c.in-Err.ensures.1 in
    λ sk is.
    let size = length-private_at p g.row.K g.row.L g.row.SK_LEN sk.parts sizes.rows sizes.columns sizes.private_key is.parts in
    refused sk.parts record { parts = is.parts; encoding = sym (key-at g (goal.at.returns-in-Err g c).After-expand_private ∙ (private_cut p.eta g.row.K g.row.L g.row.SK_LEN c.args.bytes.now sk size is).0) }

pub read_matrix-requires : goal.read_matrix-requires
read_matrix-requires g c =
    let p = g.S.Set.set in
    let sizes = g.met.S.KeySizes.key_sizes in
    let room : length c.split_at.result.1.now ≡ 1024 * p.l * p.k = omega (arith, c.requires.size, sizes.private_key, c.split_at.ensures.back_len) in
    matrix_asks p g.row.K g.row.L (length c.split_at.result.1.now) g.S.Set.known sizes.rows sizes.columns room

pub returns-in_err-read_matrix : goal.returns-in_err-read_matrix
returns-in_err-read_matrix g c =
    let p = g.S.Set.set in
    let sizes = g.met.S.KeySizes.key_sizes in
    let none : c.from_residual.result ≡ None = search rules in
    let matrix : c.split_at.result.1.now ≡ drop g.row.SK_LEN c.args.bytes.now = search rules in
    rw none (λ sk is.
    let size = length-private_at p g.row.K g.row.L g.row.SK_LEN sk.parts sizes.rows sizes.columns sizes.private_key is.parts in
    c.in_err-read_matrix.ensures sk.matrix is.matrix (sym (matrix ∙ (private_cut p.eta g.row.K g.row.L g.row.SK_LEN c.args.bytes.now sk size is).1)))

pub invariant_of-sk : goal.invariant_of-sk
invariant_of-sk g c =
    let q = c.params.result in
    let sizes : HasKeySizes (set_of q) g.row.K g.row.L g.row.PK_LEN g.row.SK_LEN = rw c.params.ensures g.met.S.KeySizes.key_sizes in
    let key : IsPrivateKeyOf (nat_abs q.eta) g.row.K g.row.L c.unwrap-encoded.result.now c.in-Ok.plain = c.in-Ok.ensures in
    (matrix_within g.row.K g.row.L c.read_matrix.new.a c.in_ok-read_matrix.ensures.0, parts_by_rows q g.row.K g.row.L c.in-Ok.plain q.known sizes.rows key.parts, c.write_transforms.ensures)

pub returns : goal.returns
returns g c =
    let p = g.S.Set.set in
    let bytes = c.args.bytes.now in
    let n = g.row.SK_LEN in
    let key : IsPrivateKeyOf p.eta g.row.K g.row.L c.unwrap-encoded.result.now c.in-Ok.plain =
    subst (λ (e : ℕ). IsPrivateKeyOf e g.row.K g.row.L c.unwrap-encoded.result.now c.in-Ok.plain) (ap (λ (q : ParameterSet). q.eta) c.params.ensures) c.in-Ok.ensures in
    let matrix : c.split_at.result.1.now ≡ drop n bytes = search rules in
    record {
      parts = key.parts;
      matrix = c.in_ok-read_matrix.ensures.0;
      encoding = private_joined n bytes (private_key_bytes p.eta c.in-Ok.plain) (matrix_bytes c.read_matrix.new.a) (key.encoding ∙ key-at g (goal.at.returns g c).After-expand_private) (c.in_ok-read_matrix.ensures.1 ∙ matrix);
    }
