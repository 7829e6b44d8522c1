-- What is loaded from the file of a key is that key.
use Rattle.std.proofs.Common.{◌≡◌, inl, inr, ℕ, List, ◌∷◌, length, take, drop, nat_eq, true, Some, None, Ok, Err, refl, sym, ap, ◌∙◌}
use Rattle.fips204.specs.Completeness.{BytesTellKeys}
use Rattle.fips204.specs.ParameterSets.{set_44}
use Rattle.mldsa_examples.specs.KeyStore.{file_fault, LoadsStored, LoadsStoredPublic}
use Rattle.mldsa_examples.specs.declared.key_store.LoadFault.{LoadFault}

-- a file with the header and so many bytes is not rejected for these
not_refused : (size : ℕ) (file rest : List ℕ) (fault : LoadFault) → nat_eq size size ≡ true → length file ≡ size → file ≡ 1 ∷ 44 ∷ rest
    → file_fault size file ≡ Some fault → ⊥
not_refused size file rest fault same long itself refused =
    let stands : file_fault size file ≡ None = rw long (rw same (rw itself refl)) in
    absurd (cc (stands, refused))

pub loads_stored : BytesTellKeys set_44 → LoadsStored
loads_stored tell sk file (Ok key) parts long same (none, is) = ap Ok (tell.private_keys key sk is.parts parts (is.encoding ∙ ap (drop 2) same))
loads_stored tell sk file (Err fault) parts long same (inl refused) = absurd (not_refused 2562 file _ fault refl long same refused)
loads_stored tell sk file (Err fault) parts long same (inr (none, range, nobody)) = absurd (nobody sk (record { parts = parts; encoding = sym (ap (drop 2) same) }))

pub loads_stored_public : BytesTellKeys set_44 → LoadsStoredPublic
loads_stored_public tell H pk file (Ok key) parts hashed long same (none, is) =
    let bytes = is.encoding ∙ ap (drop 2) same in
    let hashes = is.tr ∙ ap (λ b. take 64 (H b)) (ap (drop 2) same) ∙ sym hashed in
    ap Ok (tell.public_keys key pk is.parts parts hashes bytes)
loads_stored_public tell H pk file (Err fault) parts hashed long same said = absurd (not_refused 1314 file _ fault refl long same said)
