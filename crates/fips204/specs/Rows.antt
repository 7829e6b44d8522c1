-- Whether numbers are those of a parameter set, as the type `Params` asks, so that literals can be tested. The law `known_set` says that such a value is one of
-- the three (`IsSet`), and the law `rows` that each constant has the row of its name; with these two nobody has to believe this file.
use Rattle.std.specs.Prelude.{ℕ, ℤ, pos, nat_abs, int_le, Bool, ◌&&◌, ◌||◌, nat_eq}
use Rattle.fips204.specs.ParameterSets.{ParameterSet, set_44, set_65, set_87}

-- whether two sets agree in each column
abbrev pub same_parameters : ParameterSet → ParameterSet → Bool
same_parameters p row =
    nat_eq p.tau row.tau && nat_eq p.lambda row.lambda && nat_eq p.gamma1 row.gamma1 && nat_eq p.gamma2 row.gamma2
    && nat_eq p.k row.k && nat_eq p.l row.l && nat_eq p.eta row.eta && nat_eq p.beta row.beta && nat_eq p.omega row.omega

-- whether the numbers are those of one of the three sets
abbrev pub is_parameter_set : ParameterSet → Bool
is_parameter_set p = same_parameters p set_44 || same_parameters p set_65 || same_parameters p set_87

-- the set with these numbers, where tau, gamma1, gamma2, eta, beta and omega stand in signed words
abbrev pub parameter_set : ℤ → ℕ → ℤ → ℤ → ℕ → ℕ → ℤ → ℤ → ℤ → ParameterSet
parameter_set tau lambda gamma1 gamma2 k l eta beta omega =
    record {
      tau = nat_abs tau;
      lambda = lambda;
      gamma1 = nat_abs gamma1;
      gamma2 = nat_abs gamma2;
      k = k;
      l = l;
      eta = nat_abs eta;
      beta = nat_abs beta;
      omega = nat_abs omega;
    }

-- whether these numbers are those of one of the three sets
abbrev pub are_parameters : ℤ → ℕ → ℤ → ℤ → ℕ → ℕ → ℤ → ℤ → ℤ → Bool
are_parameters tau lambda gamma1 gamma2 k l eta beta omega =
    is_parameter_set (parameter_set tau lambda gamma1 gamma2 k l eta beta omega)
    && int_le (pos 0) tau && int_le (pos 0) gamma1 && int_le (pos 0) gamma2
    && int_le (pos 0) eta && int_le (pos 0) beta && int_le (pos 0) omega
