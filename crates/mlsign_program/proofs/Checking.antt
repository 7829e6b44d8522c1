-- What a loop over sums or files has found so far.
use Rattle.std.proofs.Common.{◌≡◌, ◌↔◌, ℕ, [], Any, Bor, codes, ◌+◌, ◌<◌, ◌≤◌, List, All, Bool, true, false, not, take, length, get_or, IfOk, IsTrue, Ok, Err, Result, subst, sym, rules}
use Rattle.std.proofs.lemmas.List.{nil_from_length, take_all}
use Rattle.std.proofs.lemmas.List.Elements.{All-more, All-nil, All-same}
use Rattle.clap.specs.declared.parser.matches.ArgMatches.{ArgMatches}
use Rattle.mlsign_program.specs.Outputs.{LacksFlag}
use Rattle.mlsign_program.specs.Sums.{AcceptsList, AreFilesGood, HasFound, IsListOf, IsListed, IsSumOf}
use Rattle.mlsign_program.specs.declared.verify.TrustedKey.{TrustedKey}
use Rattle.mlsign_program.specs.declared.sums.Sum.{Sum}

-- one more element has what those before it have
pub one_more : {X : Type 0} (P : X → Type 0) (xs : List X) (i : ℕ) (x : X) → x ≡ get_or xs i x → i < length xs → All P (take i xs) → P x
    → All P (take (i + 1) xs)
one_more P xs i x is within before holds = All-more P xs i x within before (subst P is holds)

-- all elements have been looked at
pub whole : {X : Type 0} (P : X → Type 0) (xs : List X) (i : ℕ) → length xs ≤ i → All P (take i xs) → All P xs
whole P xs i past = subst (All P) (take_all i xs past)

-- a yes of `check_file`
pub found_of : {E : Type 0} (sum : Sum) (end : Result Bool E) → IfOk end (λ has. (bytes : List ℕ) × (IsTrue has ↔ IsSumOf sum.digits.now bytes)) → end ≡ Ok true
    → HasFound sum
found_of sum end told is = let at_yes = rw is at told in (at_yes.0, at_yes.1.0 (search rules))

-- a yes that means the first fact gives the second
pub when_good : {E : Type 0} (end : Result Bool E) (P Q : Type 0) → IfOk end (λ good. IsTrue good ↔ P) → (P → Q) → IfOk end (λ good. good ≡ true → Q)
when_good (Ok good) P Q told gives = λ is. gives (told.0 (rw is (search rules)))
when_good (Err fault) P Q told gives = search rules

-- a test for a difference
pub false_of : (same : Bool) → true ≡ not same → false ≡ same
false_of true is = sym is
false_of false is = search rules

pub true_of : (same : Bool) → false ≡ not same → true ≡ same
true_of true is = search rules
true_of false is = sym is

-- an element of a list that is another's
pub any_at : {X : Type 0} (P : X → Type 0) (xs ys : List X) (i : ℕ) (x : X) → xs ≡ ys → i < length ys → x ≡ get_or xs i x → P (get_or xs i x) → Any P ys
any_at P xs ys i x same within is holds = (i, x, within, sym (subst (λ zs. x ≡ get_or zs i x) same is), subst P (sym is) holds)

-- a call that names no file
pub all_good : {E : Type 0} (end : Result Bool E) (words : ArgMatches) (keys : List TrustedKey) (files : List (Bor (List ℕ))) (signature list : List ℕ) (sums : List Sum)
    → Any (AcceptsList words signature list) keys → IsListOf list sums → length files ≡ 0
    → (LacksFlag words (codes "ignore-missing") → IfOk end (λ good. good ≡ true → All HasFound sums)) → IfOk end (λ good. good ≡ true → AreFilesGood words keys files)
all_good (Ok good) words keys files signature list sums accepted listed none told =
    λ is. record {
      signature = signature;
      list = list;
      sums = sums;
      accepted = accepted;
      listed = listed;
      named = let P : Bor (List ℕ) → Type 0 = λ file. IsListed sums file.now in All-same P files [] (nil_from_length files none) (All-nil P);
      every = λ _ lacks. told lacks is;
    }
all_good (Err fault) words keys files signature list sums accepted listed none told = search rules

-- a call that names files
pub named_good : {E : Type 0} (end : Result Bool E) (words : ArgMatches) (keys : List TrustedKey) (files : List (Bor (List ℕ))) (signature list : List ℕ) (sums : List Sum)
    → Any (AcceptsList words signature list) keys → IsListOf list sums → (length files ≡ 0 → ⊥)
    → IfOk end (λ good. good ≡ true → All (λ file. IsListed sums file.now) files) → IfOk end (λ good. good ≡ true → AreFilesGood words keys files)
named_good (Ok good) words keys files signature list sums accepted listed some told =
    λ is. record {
      signature = signature;
      list = list;
      sums = sums;
      accepted = accepted;
      listed = listed;
      named = told is;
      every = λ none _. absurd (some none);
    }
named_good (Err fault) words keys files signature list sums accepted listed some told = search rules
