-- For callers that take output piece by piece.
use Rattle.std.proofs.Common.{◌≡◌, ℕ, ◌+◌, ◌-◌, ◌≤◌, List, ◌++◌, length, take, drop, sym, ap, ◌∙◌, arith}
use Rattle.std.proofs.lemmas.List.{take_at, drop_at}
use Rattle.shake.specs.Pieces.{next}
use Rattle.shake.specs.declared.sponge.ShakeReader.{ShakeReader}
use Rattle.shake.proofs.Squeezing.{length-next_bytes}

-- the next d bytes are d bytes
pub length-next : {rate : ℕ} (reader : ShakeReader rate) (d : ℕ) → length (next reader d) ≡ d
length-next {rate} reader d = length-next_bytes rate reader.rate.0 reader.rate.1 reader.lanes reader.block reader.given d

-- a reader of so many bytes, of which n are read into `out`: what was given, and what is left
module _ (S T : ℕ → List ℕ) (out : List ℕ) (n left : ℕ) (size : length out ≡ n) (enough : n ≤ left) (pieces : (d : ℕ) → S (n + d) ≡ out ++ T d) where
  parts : S left ≡ out ++ T (left - n)
  parts =
      let e : left ≡ n + (left - n) = omega (arith, enough) in
      ap S e ∙ pieces (left - n)

  pub front_given : out ≡ take n (S left)
  front_given = sym (ap (take n) parts ∙ take_at out (T (left - n)) n size)

  pub front_left : T (left - n) ≡ drop n (S left)
  front_left = sym (ap (drop n) parts ∙ drop_at out (T (left - n)) n size)
