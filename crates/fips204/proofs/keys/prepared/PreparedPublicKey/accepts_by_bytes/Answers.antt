use Rattle.std.proofs.Common.{rules, refl, ◌≡◌, ◌∙◌, ◌+◌, ◌*◌, ◌↔◌, ◌<◌, ℕ, List, Bool, IsTrue, false, true≢false, None, Some, length, take, drop, sym, arith, ap}
use Rattle.std.proofs.lemmas.List.{take_all}
use Rattle.std.specs.Prelude.{Option, MatchOption}
use Rattle.fips204.specs.PreparedBytes.{IsMatrix, IsPreparedPublicOf, matrix_bytes}
use Rattle.fips204.proofs.MatrixBytes.{matrix_asks, public_found}
use Rattle.fips204.proofs.Names.{T, Accepts, HasSizes, PublicParts, PreparedPublic, ArePublicParts, VerifiesPrepared, input_of, set_of}
use Rattle.fips204.proofs.RefusedCalls.{verified_input, refused_input}
use Rattle.fips204.proofs.keys.prepared.PreparedPublicKey.accepts_by_bytes.Given as given
use Rattle.fips204.proofs.keys.prepared.PreparedPublicKey.accepts_by_bytes.Goals as goal
use Rattle.fips204.proofs.keys.prepared.PreparedPublicKey.accepts_by_bytes.Goals.{After-mu_of}

-- the parts of the key before the matrix
abbrev read : (g : given.Over) (c : After-mu_of g) → PublicParts
read g c = record { rho = c.write_public_key_parts.result.now; tr = c.unwrap.result.now; t1 = c.write_public_key_parts.new.t1 }

tr-whole : (g : given.Over) (c : After-mu_of g) → c.unwrap.result.now ≡ c.split_at-2.result.0.now
tr-whole g c =
    let tr : c.unwrap.result.now ≡ take 64 c.split_at-2.result.0.now = search rules in
    tr ∙ take_all 64 c.split_at-2.result.0.now (omega (arith, c.split_at-2.ensures.front_len))

tr-at : (g : given.Over) (c : After-mu_of g) → c.unwrap.result.now ≡ take 64 (drop g.row.PK_LEN c.args.bytes.now)
tr-at g c =
    let second : c.split_at-2.result.0.now ≡ take 64 (drop g.row.PK_LEN c.args.bytes.now) = search rules in
    tr-whole g c ∙ second

key-at : (g : given.Over) (c : After-mu_of g) → c.split_at.result.0.now ≡ take g.row.PK_LEN c.args.bytes.now
key-at g c = search rules

parts-read : (g : given.Over) (c : After-mu_of g) → ArePublicParts g.row.K (read g c)
parts-read g c = record {
  rho = c.write_public_key_parts.ensures.seed;
  tr = ap length (tr-whole g c) ∙ c.split_at-2.ensures.front_len;
  t1 = c.write_public_key_parts.ensures.vector;
}

-- what is found of the matrix is found of the prepared key
found : (g : given.Over) (c : After-mu_of g) (P : List (List T) → Bool → Type 0) (answer : Option Bool)
    → ((a : List (List T)) (yes : Bool) → P a yes → IsTrue yes ↔ VerifiesPrepared g.S.Set.set g.H.Xof.front record { parts = read g c; matrix = a } c.args.signature.now (input_of c.args.input.now))
    → MatchOption answer ((b : List (List T)) → IsMatrix g.row.K g.row.L b → matrix_bytes b ≡ c.split_at-2.result.1.now → ⊥)
    (λ yes. (a : List (List T)) × IsMatrix g.row.K g.row.L a × (matrix_bytes a ≡ c.split_at-2.result.1.now) × P a yes)
    → MatchOption answer ((pk : PreparedPublic) → IsPreparedPublicOf g.row.K g.row.L c.args.bytes.now pk → ⊥)
    (λ yes. (pk : PreparedPublic) × IsPreparedPublicOf g.row.K g.row.L c.args.bytes.now pk × (IsTrue yes ↔ VerifiesPrepared g.S.Set.set g.H.Xof.front pk c.args.signature.now (input_of c.args.input.now)))
found g c P answer carry there =
    let n = g.row.PK_LEN in
    let sizes = g.met.S.KeySizes.key_sizes in
    let size : n ≡ 32 + 320 * g.row.K = sizes.public_key ∙ ap (λ k. 32 + 320 * k) (sym sizes.rows) in
    let matrix : c.split_at-2.result.1.now ≡ drop 64 (drop n c.args.bytes.now) = search rules in
    public_found P (λ pk yes. IsTrue yes ↔ VerifiesPrepared g.S.Set.set g.H.Xof.front pk c.args.signature.now (input_of c.args.input.now)) g.row.K g.row.L n c.args.bytes.now c.split_at-2.result.1.now (read g c) answer size
    (parts-read g c) (sym c.write_public_key_parts.ensures.same_bytes ∙ key-at g c) (tr-at g c) matrix carry there

pub returns-in_err-check_matrix-in-Err : goal.returns-in_err-check_matrix-in-Err
returns-in_err-check_matrix-in-Err g c =
    let none : c.from_residual.result ≡ None = search rules in
    rw none (found g (goal.at.returns-in_err-check_matrix-in-Err g c).After-mu_of (λ a yes. ⊥) None (λ a yes never. absurd never) c.in_err-check_matrix-in-Err.ensures)

pub verify_by_bytes-requires : goal.verify_by_bytes-requires
verify_by_bytes-requires g c =
    let p = g.S.Set.set in
    let sizes : HasSizes (set_of c.params.result) g.row.K g.row.L g.row.SIG_LEN = rw c.params.ensures g.met.S.SignatureSizes.sizes in
    let keys = g.met.S.KeySizes.key_sizes in
    let room : length c.split_at-2.result.1.now ≡ 1024 * p.l * p.k = omega (arith, c.requires.size, keys.public_key, c.split_at.ensures.back_len, c.split_at-2.ensures.back_len) in
    let asks = matrix_asks p g.row.K g.row.L (length c.split_at-2.result.1.now) g.S.Set.known keys.rows keys.columns room in
    let parts = parts-read g (goal.at.verify_by_bytes-requires g c).After-mu_of in
    let few : g.row.K * 1024 < 9223372036854775808 = omega (arith, asks.1.1.0.0) in
    (few, (rw c.told-signature sizes, (parts.t1, asks.1.1.1)))

pub returns-in_ok-check_matrix-in-Err : goal.returns-in_ok-check_matrix-in-Err
returns-in_ok-check_matrix-in-Err g c =
    let there = c.in_ok-check_matrix-in-Err.ensures in
    let refused = refused_input g.H.Xof.front c.unwrap.result.now (input_of c.args.input.now) c.in-Err.field-0 (search rules) in
    found g (goal.at.returns-in_ok-check_matrix-in-Err g c).After-mu_of (λ a yes. yes ≡ false) (Some false) (λ a yes is. rw is (λ t. absurd (true≢false (sym t)), λ v. absurd (refused v.0))) (there.0, there.1, there.2, refl)

pub returns-in-Ok : goal.returns-in-Ok
returns-in-Ok g c =
    let p = g.S.Set.set in
    let H = g.H.Xof.front in
    let at = (goal.at.returns-in-Ok g c).After-mu_of in
    let tr = c.unwrap.result.now in
    let accepts = λ (a : List (List T)) (mu : List ℕ). Accepts p H a c.write_public_key_parts.new.t1 mu c.args.signature.now in
    found g at (λ a yes. IsTrue yes ↔ accepts a c.in-Ok.mu) c.verify_by_bytes.result
    (λ a yes both. verified_input H tr c.in-Ok.mu (input_of c.args.input.now) (accepts a) yes (search rules) both)
    (rw c.params.ensures at c.verify_by_bytes.ensures)
