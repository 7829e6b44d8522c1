use Rattle.std.proofs.Common.{◌≡◌, ◌∙◌, ℕ, List, [], ◌++◌, take, sym, ap, arith}
use Rattle.std.proofs.lemmas.List.{append-nil, nil_from_length}
use Rattle.fips204_shake.specs.Base64.{base64}
use Rattle.fips204_shake.proofs.Base64Groups.{of_none}
use Rattle.fips204_shake.proofs.pem.base64.put_symbols.Goals as goal

pub returns-in-empty-clause-written : goal.returns-in-empty-clause-written
returns-in-empty-clause-written c =
    let none : c.loop-rest.rest.now ≡ [] = nil_from_length c.loop-rest.rest.now (omega arith) in
    sym (append-nil (take c.loop-rest.at c.loop-rest.out)) ∙ ap (λ (z : List ℕ). take c.loop-rest.at c.loop-rest.out ++ z) (sym (ap base64 none ∙ of_none))
    ∙ c.loop-rest.invariant.written
