-- Keys by their bytes, generated pairs, and what a consistent private key signs.
use Rattle.std.proofs.Common.{◌≡◌, ◌-◌, ℕ, List, length, take, drop, IsTrue, Bool, true, ◌&&◌, Some, None, Result, Ok, Err, refl, ap, sym, subst, ◌∙◌, arith, length-drop, ◌≤◌, option_map, ok_or, ◌↔◌, MatchResult}
use Rattle.fips204.proofs.Names.{All, length-take-le, none-some, R, T, PublicParts, PrivateParts, ArePublicParts, ArePrivateParts, IsPublicKeyOf, IsPrivateKeyOf, public_key_bytes, private_key_bytes, sampled_matrix, small_vector, IsVector, small_vector-range, some_of_ok, ParameterSet, IsSet, DecodesPrivate, IsWhole, high_part, low_part, key_pair, sign, Verifies, derived, generated, AcceptsSigned, IsPair, TellsPair, DecodesAlone, BytesTellKeys, Fault, SamplingLimit, same_private_key, IsT1, same_parts, IsHighPart, seed_front, key_hash}
use Rattle.std.specs.declared.option.Option.{Option}
use Rattle.fips204.proofs.Completeness.{completeness}
use Rattle.fips204.proofs.KeyGeneration.{derived-some, low_of_whole, high_part-range, low_part-range, key_pair_if_all, key_pair_of_seed, generated-by_parts}
use Rattle.fips204.proofs.RefusedCalls.{same_some, signed_input, same_ok}
use Rattle.fips204.proofs.ParameterSets.{and_out, set_numbers}

-- ---- keys by their bytes

-- keys of the same parts are the same
same_public : (rho rho' tr tr' : List ℕ) (t1 t1' : List R) → rho ≡ rho' → tr ≡ tr' → t1 ≡ t1'
    → Path PublicParts record { rho = rho; tr = tr; t1 = t1 } record { rho = rho'; tr = tr'; t1 = t1' }
same_public rho rho' tr tr' t1 t1' e f g = cc

-- bytes that two public keys have
pub one_public_key : (k : ℕ) (pk other : PublicParts) → ArePublicParts k pk → ArePublicParts k other → pk.tr ≡ other.tr
    → public_key_bytes pk.rho pk.t1 ≡ public_key_bytes other.rho other.t1 → pk ≡ other
one_public_key k pk other one two hash same =
    let parts = same_parts pk.rho other.rho pk.t1 other.t1 one.rho two.rho (one.t1.rows ∙ sym two.t1.rows) (all_high k pk.t1 one.t1) (all_high k other.t1 two.t1) same in
    same_public pk.rho other.rho pk.tr other.tr pk.t1 other.t1 parts.0 hash parts.1
  where
    all_high : (n : ℕ) (v : List R) → IsHighPart n v → All IsT1 v
    all_high n v h = λ i d l. record { range = h.range i d l; count = h.places i d l }

-- and that two private keys have
one_private_key : (p : ParameterSet) (bytes : List ℕ) (sk other : PrivateParts) → IsSet p → IsPrivateKeyOf p.eta p.k p.l bytes sk
    → IsPrivateKeyOf p.eta p.k p.l bytes other → sk ≡ other
one_private_key p bytes sk other row one two =
    let eta = (set_numbers p row).small in
    same_private_key p.eta p.k p.l bytes sk other (omega (arith, eta)) (omega (arith, eta)) one two

pub bytes_tell_keys : (p : ParameterSet) → IsSet p → BytesTellKeys p
bytes_tell_keys p row = record {
  private_keys = λ first second one two same. one_private_key p _ first second row record { parts = one; encoding = same } record { parts = two; encoding = refl };
  public_keys = λ first second one two hash same. one_public_key p.k first second one two hash same;
}

-- ---- a private key and its public key

pub derived_of_whole : (p : ParameterSet) (G : List ℕ → List ℕ) (sk : PrivateParts) → (whole : IsWhole p G sk) → derived p G sk ≡ Ok record { rho = sk.rho; tr = sk.tr; t1 = high_part p whole.matrix sk.s1 sk.s2 }
derived_of_whole p G sk whole = derived-some p G sk whole.matrix (high_part p whole.matrix sk.s1 sk.s2) whole.sampled refl

-- ---- what a consistent private key signs is accepted

-- the public key of a private key has its tr
pub derived_hash : (p : ParameterSet) (G : List ℕ → List ℕ) (sk : PrivateParts) (pk : PublicParts) → derived p G sk ≡ Ok pk → sk.tr ≡ pk.tr
unfolding derived
derived_hash p G sk pk e = of_matrix (sampled_matrix G sk.rho p.k p.l) e
  where
    of_matrix : (a : Option (List (List T))) → ok_or (option_map (λ m. let key : PublicParts = record { rho = sk.rho; tr = sk.tr; t1 = high_part p m sk.s1 sk.s2 } in key) a) SamplingLimit ≡ Ok pk → sk.tr ≡ pk.tr
    of_matrix None none = absurd cc
    of_matrix (Some a) s = ap (λ (k : PublicParts). k.tr) (same_ok _ pk s)

pub accepts_signed : (p : ParameterSet) (H G : List ℕ → List ℕ) (pk : PublicParts) (sk : PrivateParts) → IsSet p → ((x : List ℕ) → 4096 ≤ length (H x))
    → ArePrivateParts p.eta p.k p.l sk → IsWhole p G sk → derived p G sk ≡ Ok pk → AcceptsSigned p H G pk sk
accepts_signed p H G pk sk row law parts whole derives =
    let own : PublicParts = record { rho = sk.rho; tr = sk.tr; t1 = high_part p whole.matrix sk.s1 sk.s2 } in
    let same : own ≡ pk = same_ok own pk (sym (derived_of_whole p G sk whole) ∙ derives) in
    let accepts = λ (mu rnd signature : List ℕ) (made : sign p H G sk mu rnd ≡ Ok signature).
    subst (λ (k : PublicParts). Verifies p H G k mu signature) same (completeness p H G sk mu rnd signature row parts whole law made) in
    λ rnd signature input made.
    signed_input H sk.tr pk.tr input (λ mu. sign p H G sk mu rnd) (λ mu. Verifies p H G pk mu signature) signature (derived_hash p G sk pk derives) (λ mu. accepts mu rnd signature) made

-- ---- a consistent private key and the hash of its public key's bytes

-- bytes decode to one public key over an XOF
one_decoded : (H : List ℕ → List ℕ) (k : ℕ) (bytes : List ℕ) (pk other : PublicParts) → IsPublicKeyOf H k bytes pk → IsPublicKeyOf H k bytes other → other ≡ pk
one_decoded H k bytes pk other one two = one_public_key k other pk two.parts one.parts (two.tr ∙ sym one.tr) (two.encoding ∙ sym one.encoding)

-- the public key that is derived of a consistent private key is what its bytes decode to, if tr is their hash
public_decodes : (p : ParameterSet) (H G : List ℕ → List ℕ) (pk : PublicParts) (sk : PrivateParts) → ArePrivateParts p.eta p.k p.l sk → IsWhole p G sk → derived p G sk ≡ Ok pk
    → sk.tr ≡ key_hash H pk.rho pk.t1 → IsPublicKeyOf H p.k (public_key_bytes pk.rho pk.t1) pk
public_decodes p H G pk sk parts whole derives hash =
    let own : PublicParts = record { rho = sk.rho; tr = sk.tr; t1 = high_part p whole.matrix sk.s1 sk.s2 } in
    let same : own ≡ pk = same_ok own pk (sym (derived_of_whole p G sk whole) ∙ derives) in
    record {
      parts = subst (λ (k : PublicParts). ArePublicParts p.k k) same record { rho = parts.rho; tr = parts.tr; t1 = high_part-range p whole.matrix sk.s1 sk.s2 };
      encoding = refl;
      tr = sym (ap (λ (k : PublicParts). k.tr) same) ∙ hash;
    }

pub pair_of_whole : (p : ParameterSet) (H G : List ℕ → List ℕ) (pk : PublicParts) (sk : PrivateParts) → IsSet p
    → ArePrivateParts p.eta p.k p.l sk → IsWhole p G sk → derived p G sk ≡ Ok pk → sk.tr ≡ key_hash H pk.rho pk.t1 → IsPair p H G pk sk
pair_of_whole p H G pk sk row parts whole derives hash =
    let bytes = private_key_bytes p.eta sk in
    let encoded = public_decodes p H G pk sk parts whole derives hash in
    let held : IsPrivateKeyOf p.eta p.k p.l bytes sk = record { parts = parts; encoding = refl } in
    record {
      parts = parts;
      whole = whole;
      derives = derives;
      public_decoded = λ other. (
        λ d. one_decoded H p.k (public_key_bytes pk.rho pk.t1) pk other encoded d,
        λ e. subst (λ (k : PublicParts). IsPublicKeyOf H p.k (public_key_bytes pk.rho pk.t1) k) (sym e) encoded,
      );
      private_decoded = λ other. (λ d. one_private_key p bytes other sk row d held, λ e. subst (λ (k : PrivateParts). IsPrivateKeyOf p.eta p.k p.l bytes k) (sym e) held);
    }

-- t0 and tr tell whether a private key and the public key that is derived of it are a pair
pub tells_pair : (p : ParameterSet) (H G : List ℕ → List ℕ) (sk : PrivateParts) (a : List (List T)) (t1 t0 : List R) (tr : List ℕ) (whole own : Bool) → IsSet p
    → ArePrivateParts p.eta p.k p.l sk → sampled_matrix G sk.rho p.k p.l ≡ Some a → t1 ≡ high_part p a sk.s1 sk.s2 → t0 ≡ low_part p a sk.s1 sk.s2 → tr ≡ key_hash H sk.rho t1
    → (IsTrue whole ↔ (sk.t0 ≡ t0)) → (IsTrue own ↔ (sk.tr ≡ tr)) → TellsPair p H G sk (Ok (whole && own))
tells_pair p H G sk a t1 t0 tr whole own row parts there high low hash same_low same_hash =
    let pk : PublicParts = record { rho = sk.rho; tr = sk.tr; t1 = t1 } in
    let derives : derived p G sk ≡ Ok pk = derived-some p G sk a t1 there high in (
      pk,
      derives,
      (
        λ t.
            let both = and_out whole own t in
            pair_of_whole p H G pk sk row parts record { matrix = a; sampled = there; low = same_low.0 both.0 ∙ low } derives (same_hash.0 both.1 ∙ hash),
        λ pair.
            let is_whole : whole ≡ true = same_low.1 (low_of_whole p G sk a t0 there low pair.whole) in
            let is_own : own ≡ true = same_hash.1 (((pair.public_decoded pk).1 refl).tr ∙ sym hash) in
            rw (is_whole, is_own) refl,
      ),
    )

-- ---- key generation

-- what the keys of a seed are to each other
pub record AreGenerated (p : ParameterSet) (H G : List ℕ → List ℕ) (pk : PublicParts) (sk : PrivateParts) : Type 0 where
  pub in_range : ArePrivateParts p.eta p.k p.l sk
  pub consistent : IsWhole p G sk
  pub belongs : derived p G sk ≡ Ok pk
  pub hashed : sk.tr ≡ key_hash H pk.rho pk.t1

generated_of_parts : (p : ParameterSet) (H G : List ℕ → List ℕ) (rho key : List ℕ) (a : List (List T)) (s1 s2 : List R) → ((x : List ℕ) → 4096 ≤ length (H x))
    → length rho ≡ 32 → length key ≡ 32 → sampled_matrix G rho p.k p.l ≡ Some a → IsVector p.l p.eta p.eta s1 → IsVector p.k p.eta p.eta s2
    → AreGenerated p H G (key_pair p H rho key a s1 s2).0 (key_pair p H rho key a s1 s2).1
unfolding key_pair
generated_of_parts p H G rho key a s1 s2 law m n there first second =
    let t1 = high_part p a s1 s2 in
    let tr = key_hash H rho t1 in
    let sk : PrivateParts = record { rho = rho; key = key; tr = tr; s1 = s1; s2 = s2; t0 = low_part p a s1 s2 } in
    let hash = length-take-le 64 (H (public_key_bytes rho t1)) (omega (arith, law (public_key_bytes rho t1))) in
    let whole : IsWhole p G sk = record { matrix = a; sampled = there; low = refl } in
    record {
      in_range = record { rho = m; key = n; tr = hash; s1 = first; s2 = second; t0 = low_part-range p a s1 s2 };
      consistent = whole;
      belongs = derived_of_whole p G sk whole;
      hashed = refl;
    }

-- what a pair that is there was made of
record WasMade (p : ParameterSet) (H : List ℕ → List ℕ) (rho key : List ℕ) (a : Option (List (List T))) (s1 s2 : Option (List R)) (pk : PublicParts) (sk : PrivateParts) : Type 0 where
  matrix : List (List T)
  first : List R
  second : List R
  has_matrix : a ≡ Some matrix
  has_first : s1 ≡ Some first
  has_second : s2 ≡ Some second
  made : key_pair p H rho key matrix first second ≡ (pk, sk)

made_of : (p : ParameterSet) (H : List ℕ → List ℕ) (rho key : List ℕ) (a : Option (List (List T))) (s1 s2 : Option (List R)) (pk : PublicParts) (sk : PrivateParts)
    → key_pair_if_all p H rho key a s1 s2 ≡ Some (pk, sk) → WasMade p H rho key a s1 s2 pk sk
unfolding key_pair_if_all
made_of p H rho key None s1 s2 pk sk e = absurd (none-some (pk, sk) e)
made_of p H rho key (Some a) None s2 pk sk e = absurd (none-some (pk, sk) e)
made_of p H rho key (Some a) (Some s1) None pk sk e = absurd (none-some (pk, sk) e)
made_of p H rho key (Some a) (Some s1) (Some s2) pk sk e = record {
  matrix = a;
  first = s1;
  second = s2;
  has_matrix = refl;
  has_first = refl;
  has_second = refl;
  made = same_some (key_pair p H rho key a s1 s2) (pk, sk) e;
}

pub generated_parts : (p : ParameterSet) (H G : List ℕ → List ℕ) (xi : List ℕ) (pk : PublicParts) (sk : PrivateParts) → IsSet p → ((x : List ℕ) → 4096 ≤ length (H x))
    → generated p H G xi ≡ Ok (pk, sk) → AreGenerated p H G pk sk
generated_parts p H G xi pk sk row law e =
    let eta = (set_numbers p row).small in
    let all = seed_front p H xi in
    let rho = take 32 all in
    let rho' = take 64 (drop 32 all) in
    let key = take 32 (drop 96 all) in
    let was = made_of p H rho key (sampled_matrix G rho p.k p.l) (small_vector p.eta H rho' 0 p.l) (small_vector p.eta H rho' p.l p.k) pk sk
    (some_of_ok (key_pair_of_seed p H G xi) (pk, sk) (sym e ∙ generated-by_parts p H G xi)) in
    let long : 4096 ≤ length all = law _ in
    let rest : length (drop 96 all) ≡ length all - 96 = length-drop 96 all in
    subst (λ (pair : PublicParts × PrivateParts). AreGenerated p H G pair.0 pair.1) was.made
    (generated_of_parts p H G rho key was.matrix was.first was.second law (length-take-le 32 all (omega (arith, long))) (length-take-le 32 (drop 96 all) (omega (arith, long, rest)))
    was.has_matrix (small_vector-range p.eta H rho' 0 p.l was.first eta was.has_first) (small_vector-range p.eta H rho' p.l p.k was.second eta was.has_second))

-- the keys of a seed are a pair, and the public one accepts what the private one signs
pub generated_pair : (p : ParameterSet) (H G : List ℕ → List ℕ) (xi : List ℕ) (pk : PublicParts) (sk : PrivateParts) → IsSet p → ((x : List ℕ) → 4096 ≤ length (H x))
    → generated p H G xi ≡ Ok (pk, sk) → IsPair p H G pk sk × AcceptsSigned p H G pk sk
generated_pair p H G xi pk sk row law e =
    let are = generated_parts p H G xi pk sk row law e in
    (pair_of_whole p H G pk sk row are.in_range are.consistent are.belongs are.hashed, accepts_signed p H G pk sk row law are.in_range are.consistent are.belongs)

-- the public key of a seed is what its bytes decode to, and so is the private one
pub public_alone : (p : ParameterSet) (H G : List ℕ → List ℕ) (pk : PublicParts) (sk : PrivateParts) → AreGenerated p H G pk sk
    → DecodesAlone (λ bytes (answer : Result PublicParts Fault). MatchResult answer (λ key. IsPublicKeyOf H p.k bytes key) (λ _. ⊥)) (public_key_bytes pk.rho pk.t1) pk
public_alone p H G pk sk are (Ok other) decoded =
    ap Ok (one_decoded H p.k (public_key_bytes pk.rho pk.t1) pk other (public_decodes p H G pk sk are.in_range are.consistent are.belongs are.hashed) decoded)
public_alone p H G pk sk are (Err fault) decoded = absurd decoded

pub private_alone : (p : ParameterSet) (H G : List ℕ → List ℕ) (pk : PublicParts) (sk : PrivateParts) → IsSet p → AreGenerated p H G pk sk
    → DecodesAlone (DecodesPrivate p.eta p.k p.l) (private_key_bytes p.eta sk) sk
private_alone p H G pk sk row are (Ok other) decoded = ap Ok (one_private_key p _ other sk row decoded record { parts = are.in_range; encoding = refl })
private_alone p H G pk sk row are (Err fault) decoded = absurd (decoded.1 sk record { parts = are.in_range; encoding = refl })
