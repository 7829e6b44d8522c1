-- The parameter sets as values of the program (FIPS 204, Tables 1 and 2).
use Rattle.std.specs.Prelude.{◌≡◌, ℕ, nat_abs}
use Rattle.fips204.specs.declared.sets.SetName.{SetName}
use Rattle.fips204.specs.declared.sets.SetName.TheVariants.{MlDsa44, MlDsa65, MlDsa87}
use Rattle.fips204.specs.declared.types.Params.{Params}
use Rattle.fips204.specs.ParameterSets.{ParameterSet, set_44, set_65, set_87, signature_length, public_key_length, private_key_length}

-- the set of a value
abbrev pub set_of : Params → ParameterSet
set_of p =
    record {
      tau = nat_abs p.tau;
      lambda = p.lambda;
      gamma1 = nat_abs p.gamma1;
      gamma2 = nat_abs p.gamma2;
      k = p.k;
      l = p.l;
      eta = nat_abs p.eta;
      beta = nat_abs p.beta;
      omega = nat_abs p.omega;
    }

-- the set of a name
abbrev pub named_set : SetName → ParameterSet
named_set MlDsa44 = set_44
named_set MlDsa65 = set_65
named_set MlDsa87 = set_87

-- k rows and l columns, and s bytes of a signature, are those of the set
pub record HasSizes (p : ParameterSet) (k l s : ℕ) : Type 0 where
  pub rows : k ≡ p.k
  pub columns : l ≡ p.l
  pub signature : s ≡ signature_length p

-- k rows and l columns, and the bytes of a public and of a private key, are those of the set
pub record HasKeySizes (p : ParameterSet) (k l public private : ℕ) : Type 0 where
  pub rows : k ≡ p.k
  pub columns : l ≡ p.l
  pub public_key : public ≡ public_key_length p
  pub private_key : private ≡ private_key_length p
