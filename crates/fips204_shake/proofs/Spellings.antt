-- How keys and signatures are spelled.
use Rattle.std.proofs.Common.{◌≡◌, ◌∙◌, ◌≤◌, ℕ, List, length, inl, inr, refl, sym, ap, subst, arith}
use Rattle.fips204_base.specs.declared.types.R.{R}
use Rattle.fips204.specs.Completeness.{BytesTellKeys}
use Rattle.fips204.specs.ParameterSets.{ParameterSet, IsSet, c_tilde_length}
use Rattle.fips204.specs.SchemeLaws.{SignatureHasOneSpelling}
use Rattle.fips204_shake.specs.Spellings.{HasOneSpelling}
use Rattle.fips204_shake.proofs.Lengths.{length-public_key, length-private_key, length-signature}

-- gamma1, as packing takes it
gamma1_bounds : (p : ParameterSet) → IsSet p → (1 ≤ p.gamma1) × (p.gamma1 ≤ 1048575)
gamma1_bounds p (inl is) = subst (λ (q : ParameterSet). (1 ≤ q.gamma1) × (q.gamma1 ≤ 1048575)) (sym is) (omega arith, omega arith)
gamma1_bounds p (inr (inl is)) = subst (λ (q : ParameterSet). (1 ≤ q.gamma1) × (q.gamma1 ≤ 1048575)) (sym is) (omega arith, omega arith)
gamma1_bounds p (inr (inr is)) = subst (λ (q : ParameterSet). (1 ≤ q.gamma1) × (q.gamma1 ≤ 1048575)) (sym is) (omega arith, omega arith)

same_parts : (x y : List ℕ × List R × List R) → x.0 ≡ y.0 → x.1 ≡ y.1 → x.2 ≡ y.2 → x ≡ y
same_parts (a, b, c) (d, e, f) first second third = rw (first, second, third) refl

pub one_spelling : (p : ParameterSet) (H : List ℕ → List ℕ) → IsSet p → SignatureHasOneSpelling → BytesTellKeys p → HasOneSpelling p H
one_spelling p H known law tell =
    let (some, few) = gamma1_bounds p known in
    record {
      signatures = record {
        sized = λ bytes parts is. length-signature p bytes parts.0 parts.1 parts.2 is;
        restored = λ bytes parts is. is.encoding;
        one_array = λ first second parts is other.
            (law p.gamma1 p.omega p.k p.l (c_tilde_length p) first second parts.0 parts.0 parts.1 parts.2 parts.1 parts.2).0 is other;
        one_value = λ bytes first second is other.
            let (c_tilde, z, h) = (law p.gamma1 p.omega p.k p.l (c_tilde_length p) bytes bytes first.0 second.0 first.1 first.2 second.1 second.2).1 some few is other in
            same_parts first second c_tilde z h;
      };
      public_keys = record {
        sized = λ bytes pk is. ap length (sym is.encoding) ∙ length-public_key p pk is.parts;
        restored = λ bytes pk is. is.encoding;
        one_array = λ first second pk is other. sym is.encoding ∙ other.encoding;
        one_value = λ bytes first second is other. tell.public_keys first second is.parts other.parts (is.tr ∙ sym other.tr) (is.encoding ∙ sym other.encoding);
      };
      private_keys = record {
        sized = λ bytes sk is. ap length (sym is.encoding) ∙ length-private_key p sk is.parts;
        restored = λ bytes sk is. is.encoding;
        one_array = λ first second sk is other. sym is.encoding ∙ other.encoding;
        one_value = λ bytes first second is other. tell.private_keys first second is.parts other.parts (is.encoding ∙ sym other.encoding);
      };
    }
