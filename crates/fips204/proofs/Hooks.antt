-- What the hooks sign and judge.
use Rattle.std.proofs.Common.{◌≡◌, ◌++◌, List, ℕ, Option, Some, refl, sym, ap, subst, take}
use Rattle.fips204.specs.Acceptance.{Verifies}
use Rattle.fips204.specs.Framing.{Input, plain, hashed, framed, represented, representative}
use Rattle.fips204.specs.ParameterSets.{ParameterSet}
use Rattle.fips204.specs.SchemeLaws.{framing, HooksStandForInput}

some_same : {x y : List ℕ} → Path (Option (List ℕ)) (Some x) (Some y) → x ≡ y
some_same is = cc

-- mu of M' is mu of the input
same_mu : (H : List ℕ → List ℕ) (tr : List ℕ) (input : Input) (m : List ℕ) → framing input ≡ Some m → representative H tr (framed m) ≡ representative H tr input
same_mu H tr (plain message context) m is = ap (λ (x : List ℕ). take 64 (H (tr ++ x))) (sym (some_same is))
same_mu H tr (hashed digest context oid) m is = ap (λ (x : List ℕ). take 64 (H (tr ++ x))) (sym (some_same is))
same_mu H tr (framed n) m is = ap (λ (x : List ℕ). take 64 (H (tr ++ x))) (sym (some_same is))
same_mu H tr (represented mu) m is = absurd cc

pub hooks_stand_for_input : (p : ParameterSet) (H G : List ℕ → List ℕ) → HooksStandForInput p H G
hooks_stand_for_input p H G = record {
  signed_mu = λ sk rnd input none. rw (none) refl;
  judged_mu = λ pk signature input none. (λ (_, verifies). (none, verifies), λ (_, verifies). (refl, verifies));
  signed_framed = λ sk rnd input m none is. rw (none, same_mu H sk.tr input m is) refl;
  judged_framed = λ pk signature input m none is. (
    λ (_, verifies). (none, subst (λ mu. Verifies p H G pk mu signature) (same_mu H pk.tr input m is) verifies),
    λ (_, verifies). (refl, subst (λ mu. Verifies p H G pk mu signature) (sym (same_mu H pk.tr input m is)) verifies),
  );
}
