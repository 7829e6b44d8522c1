-- What is read of a file is the key that it has, and what is written is read again.
use Rattle.std.proofs.Common.{◌≡◌, ℕ, List, length, Bool, true, false, eqb, Some, Result, Ok, Err, IfErr, refl, sym, ap, subst, ◌∙◌, arith}
use Rattle.std.proofs.lemmas.Bool.{eq-eqb, eqb-true}
use Rattle.fips204.specs.Packing.{bit_length}
use Rattle.fips204.specs.Sets.{named_set}
use Rattle.fips204.specs.declared.sets.SetName.{SetName}
use Rattle.fips204.specs.declared.sets.SetName.TheVariants.{MlDsa44, MlDsa65, MlDsa87}
use Rattle.fips204_shake.specs.Keys.{FileParts, Seed, Expanded, Both, HasPrivateSizes, public_length, private_length}
use Rattle.mlsign_engine.specs.Lax.{strict_form}
use Rattle.mlsign_engine.specs.Pem.{IsPem}
use Rattle.mlsign_engine.specs.Faults.{of_der}
use Rattle.mlsign_engine.specs.declared.pem.Kind.{Kind}
use Rattle.mlsign_engine.specs.declared.pem.Kind.TheVariants.{Public, Private}
use Rattle.mlsign_engine.specs.declared.pem.LineEnd.TheVariants.{Lf}
use Rattle.fips204_shake.proofs.Elements.{ok_is}
use Rattle.fips204_shake.proofs.KeyFiles.{public_of_file, private_of_file}
use Rattle.mlsign_engine.proofs.LaxTexts.{strict_of_text, strict_is_lf}
use Rattle.mlsign_engine.proofs.PemFiles.{pem_of_text}
use Rattle.mlsign_engine.specs.Commands.{FailsPrivate, HasNoKeysOrMemory, IsSigned, Judges, FilesBelong, MadeFilesBelong}
use Rattle.mlsign_engine.specs.Forms.{IsRaw, IsPublicIn, IsPrivateIn, read_as, HasPublic, HasPrivate, public_in, private_in, ConvertsPrivate}
use Rattle.mlsign_engine.specs.Keys.{PublicValue, PairValue}
use Rattle.mlsign_engine.specs.declared.fault.CommandFault.{CommandFault}
use Rattle.mlsign_engine.specs.declared.fault.CommandFault.TheVariants.{Key, Inconsistent, Library, Context, Memory, Message, NoSeed, TwoParts}
use Rattle.mlsign_engine.specs.declared.forms.Form.{Form}
use Rattle.mlsign_engine.specs.declared.forms.Form.TheVariants.{Pem, Der, Raw}
use Rattle.mlsign_engine.specs.declared.forms.Parts.TheVariants.{Kept}
use Rattle.mlsign_engine.proofs.KeyPairs.{signed_valid}

-- ---- the key of a file is what is read of it

raw_public : (set : SetName) (file : List ℕ) → length file ≡ public_length set → public_in Raw set file ≡ Ok (set, file)
raw_public set file size = rw (eq-eqb _ _ size) refl

pub reads_public : (form : Form) (set : SetName) (file : List ℕ) (x : SetName × List ℕ) → HasPublic form set file x.0 x.1 → public_in form set file ≡ Ok x
reads_public Pem set file x (has, _) = rw (pem_of_text (strict_form Public file) Public has.der has.spelled) (ap of_der (public_of_file has.der x.0 x.1 has.file))
reads_public Der set file x (has, _) = ap of_der (public_of_file file x.0 x.1 has)
reads_public Raw set file x ((size, is), at) =
    raw_public set file (ap length is ∙ size ∙ ap public_length at)
    ∙ ap (λ (y : SetName × List ℕ). Ok y) (ap (λ (algorithm : SetName). (algorithm, file)) (sym at) ∙ ap (λ (bytes : List ℕ). (x.0, bytes)) is)

-- a seed is no expanded key
no_seed : (set : SetName) → private_length set ≡ 32 → ⊥
unfolding bit_length
no_seed MlDsa44 e = absurd (omega (arith, e))
no_seed MlDsa65 e = absurd (omega (arith, e))
no_seed MlDsa87 e = absurd (omega (arith, e))

raw_private : (set : SetName) (file : List ℕ) (parts : FileParts) → HasPrivateSizes (private_length set) parts → IsRaw parts file → private_in Raw set file ≡ Ok (set, parts)
raw_private set file (Seed seed) size is = rw (is, eq-eqb _ _ size) refl
raw_private set file (Expanded expanded) size is =
    let other : eqb (length expanded) 32 ≡ false = decided (eqb (length expanded) 32) (λ yes. no_seed set (sym size ∙ eqb-true _ _ yes)) in
    rw (is, other, eq-eqb _ _ size) refl
  where
    decided : (b : Bool) → ¬ (b ≡ true) → b ≡ false
    decided true never = absurd (never refl)
    decided false never = refl
raw_private set file (Both seed expanded) size is = absurd is

pub reads_private : (form : Form) (set : SetName) (file : List ℕ) (x : SetName × FileParts) → HasPrivate form set file x.0 x.1 → private_in form set file ≡ Ok x
reads_private Pem set file x (has, _) = rw (pem_of_text (strict_form Private file) Private has.der has.spelled) (ap of_der (private_of_file has.der x.0 x.1 has.file))
reads_private Der set file x (has, _) = ap of_der (private_of_file file x.0 x.1 has)
reads_private Raw set file x ((sizes, is), at) =
    raw_private set file x.1 (subst (λ (algorithm : SetName). HasPrivateSizes (private_length algorithm) x.1) at sizes) is
    ∙ ap (λ (algorithm : SetName). Ok (algorithm, x.1)) (sym at)

-- why the key of a file has no keys is why none is had of the file
pub no_keys_of_file : (form : Form) (set algorithm : SetName) (file : List ℕ) (parts : FileParts) (fault : CommandFault) → HasPrivate form set file algorithm parts
    → HasNoKeysOrMemory (named_set algorithm) parts fault → FailsPrivate form set file fault
no_keys_of_file form set algorithm file parts (Key why) has never = absurd never
no_keys_of_file form set algorithm file parts Inconsistent has never = (algorithm, parts, has, never)
no_keys_of_file form set algorithm file parts (Library why) has never = (algorithm, parts, has, never)
no_keys_of_file form set algorithm file parts Context has never = absurd never
no_keys_of_file form set algorithm file parts Memory has never = tt
no_keys_of_file form set algorithm file parts Message has never = absurd never
no_keys_of_file form set algorithm file parts NoSeed has never = absurd never
no_keys_of_file form set algorithm file parts TwoParts has never = absurd never

pub if_no_keys : {A : Type 0} (form : Form) (set algorithm : SetName) (file : List ℕ) (parts : FileParts) (r : Result A CommandFault)
    → HasPrivate form set file algorithm parts → IfErr r (HasNoKeysOrMemory (named_set algorithm) parts) → IfErr r (FailsPrivate form set file)
if_no_keys form set algorithm file parts (Ok x) has never = tt
if_no_keys form set algorithm file parts (Err fault) has never = no_keys_of_file form set algorithm file parts fault has never

-- ---- what is written is read again

strict_is : (kind : Kind) (text der : List ℕ) → IsPem text kind der → IsPem (strict_form kind text) kind der
strict_is kind text der is = record { ending = Lf; bytes = is.bytes; is = strict_of_text kind text der is }

public_again : (form : Form) (algorithm : SetName) (file bytes : List ℕ) → IsPublicIn form file algorithm bytes → HasPublic form algorithm file algorithm bytes
public_again Pem algorithm file bytes is = (record { der = is.der; spelled = strict_is Public file is.der is.spelled; file = is.file }, tt)
public_again Der algorithm file bytes is = (is, tt)
public_again Raw algorithm file bytes is = (is, refl)

private_again : (form : Form) (algorithm : SetName) (file : List ℕ) (parts : FileParts) → IsPrivateIn form file algorithm parts → HasPrivate form algorithm file algorithm parts
private_again Pem algorithm file parts is = (record { der = is.der; spelled = strict_is Private file is.der is.spelled; file = is.file }, tt)
private_again Der algorithm file parts is = (is, tt)
private_again Raw algorithm file parts is = (is, refl)

pub files_belong : FilesBelong
files_belong form pair public file random context message signature valid consistent written read signs judges =
    let same : (pair.algorithm, pair.public) ≡ (public.algorithm, public.bytes) =
    ok_is _ _ (sym (reads_public form pair.algorithm file (pair.algorithm, pair.public) (public_again form pair.algorithm file pair.public written))
    ∙ reads_public form pair.algorithm file (public.algorithm, public.bytes) read) in
    signed_valid pair random context message signature valid consistent signs
    (subst (λ (x : SetName × List ℕ). Judges (let key : PublicValue = record { algorithm = x.0; bytes = x.1 } in key) signature context message valid) (sym same) judges)

pub made_files_belong : MadeFilesBelong
made_files_belong form algorithm pair public seed private_file public_file random context message signature valid made has read signs judges =
    let same : (pair.algorithm, pair.parts) ≡ (algorithm, Seed seed) =
    ok_is _ _ (sym (reads_private form algorithm private_file (pair.algorithm, pair.parts) has)
    ∙ reads_private form algorithm private_file (algorithm, Seed seed) (private_again form algorithm private_file (Seed seed) made.private_file)) in
    let own : PairValue = record { algorithm = algorithm; parts = Seed seed; public = made.public_bytes; private = made.private_bytes } in
    files_belong form own public public_file random context message signature valid made.keys made.public_file read
    (subst (λ (x : SetName × FileParts). IsSigned (named_set x.0) x.1 random context message signature) same signs) judges

-- ---- what is converted there and back is the same

same_text : (kind : Kind) (one other der : List ℕ) → IsPem (strict_form kind one) kind der → IsPem (strict_form kind other) kind der
    → strict_form kind one ≡ strict_form kind other
same_text kind one other der first second = strict_is_lf kind one der first ∙ sym (strict_is_lf kind other der second)

one_private_file : (form : Form) (algorithm : SetName) (one other : List ℕ) (parts : FileParts) → IsPrivateIn form (read_as form Private one) algorithm parts
    → IsPrivateIn form (read_as form Private other) algorithm parts → read_as form Private one ≡ read_as form Private other
one_private_file Pem algorithm one other parts first second =
    same_text Private one other first.der first.spelled
    (subst (λ (der : List ℕ). IsPem (strict_form Private other) Private der) (second.file.is ∙ sym first.file.is) second.spelled)
one_private_file Der algorithm one other parts first second = first.is ∙ sym second.is
one_private_file Raw algorithm one other (Seed seed) first second = first.1 ∙ sym second.1
one_private_file Raw algorithm one other (Expanded expanded) first second = first.1 ∙ sym second.1
one_private_file Raw algorithm one other (Both seed expanded) first second = absurd first.1

one_public_file : (form : Form) (algorithm : SetName) (one other bytes : List ℕ) → IsPublicIn form (read_as form Public one) algorithm bytes
    → IsPublicIn form (read_as form Public other) algorithm bytes → read_as form Public one ≡ read_as form Public other
one_public_file Pem algorithm one other bytes first second =
    same_text Public one other first.der first.spelled
    (subst (λ (der : List ℕ). IsPem (strict_form Public other) Public der) (second.file.is ∙ sym first.file.is) second.spelled)
one_public_file Der algorithm one other bytes first second = first.is ∙ sym second.is
one_public_file Raw algorithm one other bytes first second = first.1 ∙ sym second.1

some_is : {A : Type 0} (x y : A) → Some x ≡ Some y → x ≡ y
some_is x y e = cc

-- what is written of a key with the parts that it has, is its own
kept_parts : (form : Form) (pair : PairValue) (file : List ℕ) → ConvertsPrivate form Kept pair file → IsPrivateIn form file pair.algorithm pair.parts
kept_parts form pair file converts = subst (λ (parts : FileParts). IsPrivateIn form file pair.algorithm parts) (sym (some_is _ _ converts.are)) converts.has

pub private_back : (form other : Form) (set : SetName) (first second : PairValue) (file between again : List ℕ)
    → HasPrivate form set file first.algorithm first.parts → ConvertsPrivate other Kept first between
    → HasPrivate other first.algorithm between second.algorithm second.parts → ConvertsPrivate form Kept second again
    → read_as form Private again ≡ read_as form Private file
private_back form other set first second file between again has there read back =
    let same : (second.algorithm, second.parts) ≡ (first.algorithm, first.parts) =
    ok_is _ _ (sym (reads_private other first.algorithm between (second.algorithm, second.parts) read)
    ∙ reads_private other first.algorithm between (first.algorithm, first.parts) (private_again other first.algorithm between first.parts (kept_parts other first between there))) in
    let written : IsPrivateIn form again first.algorithm first.parts =
    subst (λ (x : SetName × FileParts). IsPrivateIn form again x.0 x.1) same (kept_parts form second again back) in
    one_private_file form first.algorithm again file first.parts (private_again form first.algorithm again first.parts written).0 has.0

pub public_back : (form other : Form) (set : SetName) (first second : PublicValue) (file between again : List ℕ)
    → HasPublic form set file first.algorithm first.bytes → IsPublicIn other between first.algorithm first.bytes
    → HasPublic other first.algorithm between second.algorithm second.bytes → IsPublicIn form again second.algorithm second.bytes
    → read_as form Public again ≡ read_as form Public file
public_back form other set first second file between again has there read back =
    let same : (second.algorithm, second.bytes) ≡ (first.algorithm, first.bytes) =
    ok_is _ _ (sym (reads_public other first.algorithm between (second.algorithm, second.bytes) read)
    ∙ reads_public other first.algorithm between (first.algorithm, first.bytes) (public_again other first.algorithm between first.bytes there)) in
    let written : IsPublicIn form again first.algorithm first.bytes =
    subst (λ (x : SetName × List ℕ). IsPublicIn form again x.0 x.1) same back in
    one_public_file form first.algorithm again file first.bytes (public_again form first.algorithm again first.bytes written).0 has.0
