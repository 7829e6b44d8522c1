use Rattle.std.proofs.Common.{◌≡◌, ℕ, List, ap}
use Rattle.fips204_base.specs.Encodings.{IsSignature}
use Rattle.fips204_base.specs.declared.types.R.{R}
use Rattle.fips204.specs.ParameterSets.{c_tilde_length}
use Rattle.fips204_shake.proofs.bytes.callers.spelling_parts.Goals as goal

pub returns-clause-signatures : goal.returns-clause-signatures
returns-clause-signatures c = λ p bytes other c_tilde c_tilde' z h z' h' known is.
    let law = (c.one_spelling.ensures p (λ x. x) known).signatures in
    let parts : List ℕ × List R × List R = (c_tilde, z, h) in
    let others : List ℕ × List R × List R = (c_tilde', z', h') in
    let one : IsSignature p.gamma1 p.omega p.k p.l (c_tilde_length p) bytes c_tilde' z' h' → (c_tilde' ≡ c_tilde) × (z' ≡ z) × (h' ≡ h) =
    λ same. let e = law.one_value bytes others parts same is in
    (ap (λ (x : List ℕ × List R × List R). x.0) e, ap (λ (x : List ℕ × List R × List R). x.1) e, ap (λ (x : List ℕ × List R × List R). x.2) e) in
    (law.sized bytes parts is, law.restored bytes parts is, λ same. law.one_array other bytes parts same is, one)

pub returns-clause-public_keys : goal.returns-clause-public_keys
returns-clause-public_keys c = λ p H bytes other pk pk' known is.
    let law = (c.one_spelling.ensures p H known).public_keys in
    (law.sized bytes pk is, law.restored bytes pk is, λ same. law.one_array other bytes pk same is, λ same. law.one_value bytes pk' pk same is)

pub returns-clause-private_keys : goal.returns-clause-private_keys
returns-clause-private_keys c = λ p bytes other sk sk' known is.
    let law = (c.one_spelling.ensures p (λ x. x) known).private_keys in
    (law.sized bytes sk is, law.restored bytes sk is, λ same. law.one_array other bytes sk same is, λ same. law.one_value bytes sk' sk same is)
