-- Outputs that are filled side by side.
use Rattle.std.proofs.Common.{◌≡◌, ◌<◌, ◌≤◌, ℕ, ◌+◌, List, [], ◌++◌, refl, length, length-drop, take, drop, sym, subst, ap, ◌∙◌, arith}
use Rattle.std.proofs.lemmas.List.{take_all, drop_all, length-take-le}
use borrow.Rule.Slice.PartMut.{put_mid}
use Rattle.shake.specs.Pieces.{next}
use Rattle.shake.specs.declared.sponge.ShakeReader.{ShakeReader}
use Rattle.shake.specs.Keccak.{keccak_f}
use Rattle.shake.specs.Shake.{bytes}
use Rattle.shake.specs.State.{next_bytes}
use Rattle.shake.specs.Lengths.{length-bytes, length-keccak_f}
use Rattle.shake.proofs.Squeezing.{filled_more, filled_only, next_bytes-made, next_bytes-none, next_bytes-run}

-- S has given the first bytes of out, and T gives the next ones
abbrev pub IsGiven : (ℕ → List ℕ) → ℕ → List ℕ → (ℕ → List ℕ) → Type 0
IsGiven S filled out T = (d : ℕ) → S (filled + d) ≡ take filled out ++ T d

pub given_none : (S T : ℕ → List ℕ) (out : List ℕ) → ((n : ℕ) → S n ≡ T n) → IsGiven S 0 out T
given_none S T out same = λ d. let e : 0 + d ≡ d = omega arith in rw e (same d)

pub given_at : (S T : ℕ → List ℕ) (out : List ℕ) {m n : ℕ} → m ≡ n → IsGiven S m out T → IsGiven S n out T
given_at S T out same = subst (λ n. IsGiven S n out T) same

-- U, which gives what T gives, gives a part of out, and then V
pub given_more : (S T U V : ℕ → List ℕ) (out part : List ℕ) (filled k count : ℕ) → IsGiven S filled out T → ((d : ℕ) → U d ≡ T d)
    → ((d : ℕ) → U (length (take k (drop filled out)) + d) ≡ part ++ V d) → filled + count ≤ length out → k ≡ count
    → length part ≡ length (take k (drop filled out)) → IsGiven S (filled + count) (put_mid filled k out part) V
given_more S T U V out part filled k count first same next within whole long =
    let room : length (take k (drop filled out)) ≡ count =
    length-take-le k (drop filled out) (omega (arith, length-drop filled out, within, whole)) ∙ whole in
    filled_more out part S U V filled k count (omega arith) (omega (arith, room, long)) (λ d. first d ∙ ap (λ l. take filled out ++ l) (sym (same d)))
    (λ d. ap (λ n. U (n + d)) (sym room) ∙ next d ∙ ap (λ l. l ++ V d) (sym (take_all count part (omega (arith, room, long)))))

-- out is filled
pub given_all : {rate : ℕ} (S : ℕ → List ℕ) (reader : ShakeReader rate) (out : List ℕ) (filled n : ℕ) → IsGiven S filled out (next reader)
    → filled ≡ length out → n ≡ filled → out ≡ S n
given_all {rate} S reader out filled n first all whole =
    sym (filled_only out S (next reader) filled n all whole first (next_bytes-none rate reader.lanes reader.block reader.given))

-- a reader whose block is given, and what its lanes were made
pub begun : (rate : ℕ) (reader : ShakeReader rate) (lanes : List ℕ) (T : ℕ → List ℕ) → length reader.block ≡ rate → reader.given ≡ rate → lanes ≡ keccak_f reader.lanes
    → ((n : ℕ) → T n ≡ next_bytes rate lanes (take rate (bytes lanes)) 0 n) → (n : ℕ) → T n ≡ next reader n
begun rate reader lanes T size spent permuted block n =
    block n
    ∙ ap (λ l. next_bytes rate l (take rate (bytes l)) 0 n) permuted
    ∙ sym (next_bytes-made rate reader.rate.0 reader.rate.1 reader.lanes reader.block reader.given (omega (arith, size, spent)) n)

-- what follows a block that is given
pub given_out : (rate : ℕ) (lanes state block : List ℕ) (given : ℕ) → lanes ≡ state → length block ≤ given
    → (n : ℕ) → next_bytes rate lanes block given n ≡ next_bytes rate state [] 0 n
unfolding next_bytes
given_out rate lanes state block given same spent n = rw (drop_all given block spent, same) refl

module _ (rate : ℕ) (some : 0 < rate) (small : rate ≤ 200) where
  -- the next block in hand, or none
  pub in_hand : (s t : List ℕ) → t ≡ keccak_f s → (n : ℕ) → next_bytes rate t (take rate (bytes t)) 0 n ≡ next_bytes rate s [] 0 n
  in_hand s t permuted n =
      ap (λ l. next_bytes rate l (take rate (bytes l)) 0 n) permuted ∙ sym (next_bytes-made rate some small s [] 0 (omega arith) n)

  -- the next block is given
  pub block_out : (s t : List ℕ) → t ≡ keccak_f s → (d : ℕ) → next_bytes rate s [] 0 (rate + d) ≡ take rate (bytes t) ++ next_bytes rate t [] 0 d
  block_out s t permuted d =
      let block = take rate (bytes t) in
      let long : length (bytes t) ≡ 200 = rw permuted (omega (arith, length-bytes (keccak_f s), length-keccak_f s)) in
      let fits : length block ≡ rate = length-take-le rate (bytes t) (omega (arith, long, small)) in
      sym (in_hand s t permuted (rate + d))
      ∙ next_bytes-run rate some small t block 0 rate (omega (arith, fits)) d
      ∙ ap (λ l. l ++ next_bytes rate t block (0 + rate) d) (take_all rate block (omega (arith, fits)))
      ∙ ap (λ l. block ++ l) (given_out rate t t block (0 + rate) refl (omega (arith, fits)) d)

  -- and written
  pub block_more : (S : ℕ → List ℕ) (s t out part : List ℕ) (done k : ℕ) → IsGiven S done out (next_bytes rate s [] 0) → t ≡ keccak_f s
      → part ≡ take (length (take k (drop done out))) (bytes t) → done + rate ≤ length out → k ≡ rate
      → IsGiven S (done + rate) (put_mid done k out part) (next_bytes rate t [] 0)
  block_more S s t out part done k first permuted made within whole =
      let long : length (bytes t) ≡ 200 = rw permuted (omega (arith, length-bytes (keccak_f s), length-keccak_f s)) in
      let room : length (take k (drop done out)) ≡ rate = length-take-le k (drop done out) (omega (arith, length-drop done out, within, whole)) ∙ whole in
      let run : part ≡ take rate (bytes t) = made ∙ ap (λ n. take n (bytes t)) room in
      let size : length part ≡ rate = ap length run ∙ length-take-le rate (bytes t) (omega (arith, long, small)) in
      filled_more out part S (next_bytes rate s [] 0) (next_bytes rate t [] 0) done k rate (omega (arith, within)) (omega (arith, size)) first
      (λ d. block_out s t permuted d ∙ ap (λ l. l ++ next_bytes rate t [] 0 d) (sym run ∙ sym (take_all rate part (omega (arith, size)))))
