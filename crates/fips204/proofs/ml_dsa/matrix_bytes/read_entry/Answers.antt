use Rattle.std.proofs.Common.{arith, refl, rules, ◌≡◌, ◌∙◌, ◌*◌, pos, to_z, w32, take, drop, ap}
use Rattle.std.proofs.lemmas.Int.{ints}
use Rattle.std.specs.Int.{to_le_bytes}
use Rattle.fips204.proofs.MatrixBytes.{IsValue, value_bytes, length-value, reads_more, reads_all, unread, no_value}
use Rattle.fips204.proofs.ml_dsa.matrix_bytes.read_entry.Goals as goal

pub loop-n-init : goal.loop-n-init
loop-n-init c = record { count = search rules; read = refl; holds = λ i d h. absurd (omega (arith, h)) }

pub returns-then-word : goal.returns-then-word
returns-then-word c =
    let whole : c.in_ok-words.words.now ≡ c.args.bytes.now = search rules in
    let is : to_le_bytes w32 c.word_at-word.result ≡ take 4 (drop (4 * c.loop-n.n) c.args.bytes.now) = c.word_at-word.ensures ∙ ap (λ bytes. take 4 (drop (4 * c.loop-n.n) bytes)) whole in
    λ b entry same. unread IsValue value_bytes 256 4 c.loop-n.n c.args.bytes.now (pos 0) length-value c.loop-n-test.true
    (λ x value. no_value c.word_at-word.result _ c.if-word.true c.word_at-word.type_inv is x value) b.0 entry same

pub loop-n-preserved : goal.loop-n-preserved
loop-n-preserved c =
    let whole : c.in_ok-words.words.now ≡ c.args.bytes.now = search rules in
    let cast : to_z w32 c.word_at-word.result ≡ pos c.word_at-word.result = omega (arith, ints, c.if-word.false) in
    let is : value_bytes (pos c.word_at-word.result) ≡ take 4 (drop (4 * c.loop-n.n) c.args.bytes.now) = c.word_at-word.ensures ∙ ap (λ bytes. take 4 (drop (4 * c.loop-n.n) bytes)) whole in
    rw cast (reads_more IsValue value_bytes 256 4 c.loop-n.n c.args.bytes.now c.loop-n.t.0 (pos c.word_at-word.result) c.loop-n.invariant c.loop-n-test.true is (omega (arith, ints), omega (arith, ints, c.if-word.false)))

pub returns : goal.returns
returns c = reads_all IsValue value_bytes 256 4 c.loop-n.n c.args.bytes.now c.loop-n.t.0 c.loop-n.invariant (omega (arith, c.loop-n-test.false, c.loop-n.auto.n-end)) (omega (arith, c.requires))
