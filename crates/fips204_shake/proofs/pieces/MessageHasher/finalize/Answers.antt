use Rattle.std.proofs.Common.{List, ℕ, ◌++◌, take, sym, ap, ◌∙◌}
use Rattle.std.proofs.lemmas.List.{take_at}
use Rattle.fips204.specs.Framing.{frame}
use Rattle.shake.specs.Pieces.{next}
use Rattle.fips204_shake.proofs.pieces.MessageHasher.finalize.Goals as goal

pub returns : goal.returns
returns c = λ tr context m held.
    let rest = next c.read.new.self 1048512 in
    sym (ap (λ (z : List ℕ). take 64 z) (sym (c.finalize_xof-reader.ensures (tr ++ frame 0 context m) held 1048576) ∙ c.read.ensures.pieces 1048512)
    ∙ take_at c.read.new.out rest 64 c.read.auto.out)
