use Rattle.std.proofs.Common.{rules, ◌≡◌, ◌∙◌, List, Result, take, drop, sym, arith}
use Rattle.std.specs.Bool.{⊤}
use Rattle.std.proofs.lemmas.List.{take_all}
use Rattle.fips204.proofs.MatrixBytes.{private_cut, private_found, length-private_at}
use Rattle.fips204.proofs.Names.{Fault, T, PreparedPrivate, IsPrivateKeyOf, Writes, sign_prepared, input_of}
use Rattle.fips204.proofs.keys.prepared.PreparedPrivateKey.write_signature_by_bytes.Given as given
use Rattle.fips204.proofs.keys.prepared.PreparedPrivateKey.write_signature_by_bytes.Goals as goal
use Rattle.fips204.proofs.keys.prepared.PreparedPrivateKey.write_signature_by_bytes.Goals.{After-try_from_bytes}

-- the bytes that are decoded as the plain key
key-at : (g : given.Over) (c : After-try_from_bytes g) → c.unwrap-encoded.result.now ≡ take g.row.SK_LEN c.args.bytes.now
key-at g c =
    let n = g.row.SK_LEN in
    let front : c.split_at.result.0.now ≡ take n c.args.bytes.now = search rules in
    let key : c.unwrap-encoded.result.now ≡ take n c.split_at.result.0.now = search rules in
    key ∙ take_all n c.split_at.result.0.now (omega (arith, c.split_at.ensures.front_len)) ∙ front

pub returns-in-Err-clause-found : goal.returns-in-Err-clause-found
returns-in-Err-clause-found g c =
    let p = g.S.Set.set in
    let sizes = g.met.S.KeySizes.key_sizes in
    let refused = rw c.in-Err.is at c.try_from_bytes.ensures in
    λ sk is.
    let size = length-private_at p g.row.K g.row.L g.row.SK_LEN sk.parts sizes.rows sizes.columns sizes.private_key is.parts in
    refused.1 sk.parts record { parts = is.parts; encoding = sym (key-at g (goal.at.returns-in-Err-clause-found g c).After-try_from_bytes ∙ (private_cut p.eta g.row.K g.row.L g.row.SK_LEN c.args.bytes.now sk size is).0) }

pub returns-in-Ok-clause-found : goal.returns-in-Ok-clause-found
returns-in-Ok-clause-found g c =
    let p = g.S.Set.set in
    let sizes = g.met.S.KeySizes.key_sizes in
    let n = g.row.SK_LEN in
    let key : IsPrivateKeyOf p.eta g.row.K g.row.L c.unwrap-encoded.result.now c.in-Ok.plain = rw c.in-Ok.is at c.try_from_bytes.ensures in
    let matrix : c.split_at.result.1.now ≡ drop n c.args.bytes.now = search rules in
    let writes = λ (sk : PreparedPrivate) (answer : Result ⊤ Fault).
    Writes (sign_prepared p g.H.Xof.front sk c.args.seed.now (input_of c.args.input.now)) c.args.signature.now c.write_with_matrix.new.signature answer in
    private_found (λ (a : List (List T)) (answer : Result ⊤ Fault). writes record { parts = c.in-Ok.plain; matrix = a } answer) writes p.eta g.row.K g.row.L n c.args.bytes.now c.split_at.result.1.now c.in-Ok.plain c.write_with_matrix.result
    (λ sk are. length-private_at p g.row.K g.row.L n sk sizes.rows sizes.columns sizes.private_key are) key.parts (key.encoding ∙ key-at g (goal.at.returns-in-Ok-clause-found g c).After-try_from_bytes) matrix (λ a x is. is) c.write_with_matrix.ensures.found
