-- What one signature fixes: one w1 under a key, and one message and one key unless it names a collision.
use Rattle.std.proofs.Common.{◌≡◌, ◌≤◌, ℕ, List, ◌++◌, length, take, Bool, true, false, Some, None, refl, sym, ap, subst, ◌∙◌, arith, true≢false, ◌≢◌, ◌⊎◌, inl, inr, Decides, bytes_eq}
use Rattle.fips204.proofs.Names.{append_cancel_left, append_cancel_right, length-take-le, none-some, bytes_eq-Decides, R, T, PublicParts, w1_bytes, challenge, same_signature, ParameterSet, c_tilde_length, IsSet, Opens, Verifies, w1_prime, Input, plain, hashed, framed, represented, representative, Collide, Fixes, SignatureFixesOne, SignatureBindsHash, SignatureBindsInput, NamesKeyCollision, SignatureBindsKey, has_context, framing, AreFramedAlike, input_fault, VerifiesInput}
use Rattle.fips204.proofs.Framing.{same_input}
use Rattle.fips204.proofs.ParameterSets.{set_numbers}
use Rattle.fips204.proofs.RefusedCalls.{same_some}
use Rattle.fips204.proofs.WholeKeys.{one_public_key}
use Rattle.fips204.proofs.Spellings.{same_parts}

-- ---- two lists are the same or they differ

by_test : (P : Type 0) (b : Bool) → Decides b P → P ⊎ (P → ⊥)
by_test P true d = inl (d.0 refl)
by_test P false d = inr (λ p. true≢false (sym (d.1 p)))

same_or_not : (xs ys : List ℕ) → (xs ≡ ys) ⊎ (xs ≢ ys)
same_or_not xs ys = by_test (xs ≡ ys) (bytes_eq xs ys) (bytes_eq-Decides xs ys)

-- ---- what a signature fixes under a key

-- c_tilde under any two keys, and w1 under one
same_opened : (p : ParameterSet) (H : List ℕ → List ℕ) (a b : List (List T)) (t1 : List R) (signature c d v w : List ℕ) → IsSet p
    → a ≡ b → Opens p H a t1 signature c v → Opens p H b t1 signature d w → v ≡ w
same_opened p H a b t1 signature c d v w row same x y =
    let gamma1 = (set_numbers p row).gamma1 in
    let parts = same_signature p.gamma1 p.omega p.k p.l (c_tilde_length p) signature c d x.z y.z x.h y.h (omega (arith, gamma1)) (omega (arith, gamma1)) x.parts y.parts in
    let challenges : Some x.c ≡ Some y.c = sym x.sampled ∙ ap (λ bytes. challenge p.tau (H bytes)) parts.0 ∙ y.sampled in
    let one : x.c ≡ y.c = cc in
    let z = parts.1 in
    let h = parts.2 in
    let bytes = w1_bytes p.gamma2 in
    x.recomputed ∙ ap (λ m. bytes (w1_prime p m t1 x.z x.h x.c)) same ∙ ap (λ v. bytes (w1_prime p b t1 v x.h x.c)) z ∙ ap (λ v. bytes (w1_prime p b t1 y.z v x.c)) h
    ∙ ap (λ v. bytes (w1_prime p b t1 y.z y.h v)) one ∙ sym y.recomputed

same_commitment : (p : ParameterSet) (H : List ℕ → List ℕ) (a b : List (List T)) (t u : List R) (signature c d v w : List ℕ) → IsSet p
    → Opens p H a t signature c v → Opens p H b u signature d w → c ≡ d
same_commitment p H a b t u signature c d v w row x y =
    let gamma1 = (set_numbers p row).gamma1 in
    (same_signature p.gamma1 p.omega p.k p.l (c_tilde_length p) signature c d x.z y.z x.h y.h (omega (arith, gamma1)) (omega (arith, gamma1)) x.parts y.parts).0

pub signature_fixes_one : SignatureFixesOne
signature_fixes_one p H G pk signature w1 other row x y =
    let matrices : Some x.a ≡ Some y.a = sym x.matrix ∙ y.matrix in
    let matrix : x.a ≡ y.a = cc in
    same_opened p H x.a y.a pk.t1 signature x.c_tilde y.c_tilde w1 other row matrix x.opened y.opened

pub fixed_by : (p : ParameterSet) (H G : List ℕ → List ℕ) (pk : PublicParts) (mu signature : List ℕ) → (v : Verifies p H G pk mu signature) → Fixes p H G pk signature v.accepted.w1
fixed_by p H G pk mu signature v = record { a = v.a; matrix = v.matrix; c_tilde = v.accepted.c_tilde; opened = v.accepted.opened }

-- the hash of mu and of nu, each with the w1 of its acceptance, is the c_tilde of the signature
same_hash : (p : ParameterSet) (H G : List ℕ → List ℕ) (pk other : PublicParts) (mu nu signature : List ℕ) → IsSet p
    → (x : Verifies p H G pk mu signature) (y : Verifies p H G other nu signature)
    → take (c_tilde_length p) (H (mu ++ x.accepted.w1)) ≡ take (c_tilde_length p) (H (nu ++ y.accepted.w1))
same_hash p H G pk other mu nu signature row x y =
    let one = same_commitment p H x.a y.a pk.t1 other.t1 signature x.accepted.c_tilde y.accepted.c_tilde x.accepted.w1 y.accepted.w1 row x.accepted.opened y.accepted.opened in
    sym x.accepted.same ∙ one ∙ y.accepted.same

-- ---- one signature for two inputs

-- mu of an input with this M'
representative_of : (H : List ℕ → List ℕ) (tr m : List ℕ) (x : Input) → framing x ≡ Some m → representative H tr x ≡ representative H tr (framed m)
representative_of H tr m (plain message context) e = ap (λ f. representative H tr (framed f)) (same_some _ m e)
representative_of H tr m (hashed digest context oid) e = ap (λ f. representative H tr (framed f)) (same_some _ m e)
representative_of H tr m (framed own) e = ap (λ f. representative H tr (framed f)) (same_some own m e)
representative_of H tr m (represented mu) e = absurd (none-some m e)

verifies_framed : (p : ParameterSet) (H G : List ℕ → List ℕ) (pk : PublicParts) (signature m : List ℕ) (x : Input) → framing x ≡ Some m → VerifiesInput p H G pk signature x
    → Verifies p H G pk (representative H pk.tr (framed m)) signature
verifies_framed p H G pk signature m x e v = subst (λ mu. Verifies p H G pk mu signature) (representative_of H pk.tr m x e) v.1

-- inputs that are framed alike are the same where their M' are
same_framed : (x y : Input) (m n : List ℕ) → AreFramedAlike x y m n → input_fault x ≡ None → input_fault y ≡ None → m ≡ n → x ≡ y
same_framed x y m n alike first second e = of_kind (has_context x) refl
  where
    frames : framing x ≡ framing y
    frames = alike.first ∙ ap Some e ∙ sym alike.second

    bare : (u v : Input) → has_context u ≡ false → has_context v ≡ false → framing u ≡ framing v → framing u ≡ Some m → u ≡ v
    bare (framed a) (framed b) s t f there = ap framed (same_some a b f)
    bare (framed a) (represented b) s t f there = absurd (none-some a (sym f))
    bare (represented a) v s t f there = absurd (none-some m there)
    bare (plain a b) v s t f there = absurd (true≢false s)
    bare (hashed a b c) v s t f there = absurd (true≢false s)
    bare (framed a) (plain b c) s t f there = absurd (true≢false t)
    bare (framed a) (hashed b c d) s t f there = absurd (true≢false t)

    of_kind : (b : Bool) → has_context x ≡ b → x ≡ y
    of_kind true s = same_input x y s (sym alike.kind ∙ s) first second frames
    of_kind false s = bare x y s (sym alike.kind ∙ s) frames alike.first

pub signature_binds_input : SignatureBindsInput
signature_binds_input p H G pk x y m n signature row alike differ accepted other_accepted =
    let mu = representative H pk.tr (framed m) in
    let nu = representative H pk.tr (framed n) in
    let first = verifies_framed p H G pk signature m x alike.first accepted in
    let second = verifies_framed p H G pk signature n y alike.second other_accepted in
    let w1 = first.accepted.w1 in
    let own = fixed_by p H G pk mu signature first in
    let one = signature_fixes_one p H G pk signature w1 second.accepted.w1 row own (fixed_by p H G pk nu signature second) in
    let hash = same_hash p H G pk pk mu nu signature row first second ∙ ap (λ v. take (c_tilde_length p) (H (nu ++ v))) (sym one) in
    record {
      w1 = w1;
      fixed = own;
      collide = elim (same_or_not mu nu) [
        | inl e ↦ inl record { differ = λ d. differ (same_framed x y m n alike accepted.0 other_accepted.0 (append_cancel_left pk.tr m n d)); same = e }
        | inr other ↦ inr record { differ = λ d. other (append_cancel_right mu nu w1 d); same = hash }
      ];
    }

pub signature_binds_hash : SignatureBindsHash
signature_binds_hash p H G pk x y signature row differ accepted other_accepted =
    let mu = representative H pk.tr x in
    let nu = representative H pk.tr y in
    let first = accepted.1 in
    let second = other_accepted.1 in
    let w1 = first.accepted.w1 in
    let fixed = fixed_by p H G pk mu signature first in
    let one = signature_fixes_one p H G pk signature w1 second.accepted.w1 row fixed (fixed_by p H G pk nu signature second) in
    record {
      w1 = w1;
      fixed = fixed;
      collide = record {
        differ = λ d. differ (append_cancel_right mu nu w1 d);
        same = same_hash p H G pk pk mu nu signature row first second ∙ ap (λ v. take (c_tilde_length p) (H (nu ++ v))) (sym one);
      };
    }

-- ---- one signature under two keys

-- 64 bytes of an output
length-64 : (H : List ℕ → List ℕ) → ((x : List ℕ) → 4096 ≤ length (H x)) → (input : List ℕ) → length (take 64 (H input)) ≡ 64
length-64 H long input = let enough = long input in length-take-le 64 (H input) (omega (arith, enough))

pub signature_binds_key : SignatureBindsKey
signature_binds_key p H G bytes others pk other x y m n signature row long one two alike accepted other_accepted =
    let mu = representative H pk.tr (framed m) in
    let nu = representative H other.tr (framed n) in
    let first = verifies_framed p H G pk signature m x alike.first accepted in
    let second = verifies_framed p H G other signature n y alike.second other_accepted in
    let v = first.accepted.w1 in
    let w = second.accepted.w1 in
    let named = λ (collide : Collide H 64 bytes others ⊎ (Collide H 64 (pk.tr ++ m) (other.tr ++ n) ⊎ Collide H (c_tilde_length p) (mu ++ v) (nu ++ w))).
    let all : NamesKeyCollision p H G bytes others pk other signature m n = record {
      w1 = v;
      fixed = fixed_by p H G pk mu signature first;
      other_w1 = w;
      other_fixed = fixed_by p H G other nu signature second;
      collide = collide;
    } in all in
    elim (same_or_not (mu ++ v) (nu ++ w)) [
      | inr differ ↦ inr (named (inr (inr record { differ = differ; same = same_hash p H G pk other mu nu signature row first second })))
      | inl equal ↦
          let hashes = same_parts mu nu v w (length-64 H long (pk.tr ++ m) ∙ sym (length-64 H long (other.tr ++ n))) equal in
          elim (same_or_not (pk.tr ++ m) (other.tr ++ n)) [
            | inr differ ↦ inr (named (inr (inl record { differ = differ; same = hashes.0 })))
            | inl equal_framed ↦
                let parts = same_parts pk.tr other.tr m n (one.parts.tr ∙ sym two.parts.tr) equal_framed in
                elim (same_or_not bytes others) [
                  | inr differ ↦ inr (named (inl record { differ = differ; same = sym one.tr ∙ parts.0 ∙ two.tr }))
                  | inl read ↦ inl (
                    one_public_key p.k pk other one.parts two.parts parts.0 (one.encoding ∙ read ∙ sym two.encoding),
                    same_framed x y m n alike accepted.0 other_accepted.0 parts.1,
                  )
                ]
          ]
    ]
