use Rattle.std.proofs.Common.{◌≡◌, ◌∙◌, ◌+◌, ◌/◌, ◌%◌, ◌++◌, ap, sym, refl, arith, take, length, get_or, rules, append_assoc, append-nil, nat_abs, to_z, of_z}
use Rattle.fips204_base.proofs.Names.{option_to_list, w32, coefficient_from_half_byte, kept_half_bytes, Keeps, keeps_full, keeps_there, keeps_joined, kept_half_bytes-beyond, kept_half_bytes-zero, kept_half_bytes-more}
use Rattle.fips204_base.proofs.hashing.small.write_half_bytes_at.Goals as goal

pub loop-byte-init : goal.loop-byte-init
loop-byte-init c =
    let none = kept_half_bytes-zero (nat_abs (to_z w32 (of_z w32 c.args.eta))) c.args.piece.now in
    rw (none, append-nil (take c.args.kept c.args.values.now)) (keeps_there c.args.values.now c.args.kept c.told-values c.requires.room)

pub loop-byte-preserved : goal.loop-byte-preserved
loop-byte-preserved c =
    let eta = nat_abs (to_z w32 (of_z w32 c.args.eta)) in
    let piece = c.args.piece.now in
    let n = c.loop-byte.byte-index in
    let byte = get_or piece n 0 in
    let before = take c.args.kept c.args.values.now in
    let low = option_to_list (coefficient_from_half_byte eta (byte % 16)) in
    let high = option_to_list (coefficient_from_half_byte eta (byte / 16)) in
    let given1 = c.push_branchless-count.ensures.kept ∙ ap (λ o. take 256 (take c.loop-byte.count c.loop-byte.values ++ option_to_list o)) c.coeff_from_half_byte.ensures in
    let kept1 = keeps_joined low c.loop-byte.invariant c.push_branchless-count.array_long c.push_branchless-count.ensures.count given1 in
    let given2 = c.push_branchless-count-in-loop-byte.ensures.kept ∙ ap (λ o. take 256 (take c.push_branchless-count.result c.push_branchless-count.new.values ++ option_to_list o)) c.coeff_from_half_byte-in-loop-byte.ensures in
    let kept2 = keeps_joined high kept1 c.push_branchless-count-in-loop-byte.array_long c.push_branchless-count-in-loop-byte.ensures.count given2 in
    let more : before ++ kept_half_bytes eta piece (n + 1) ≡ ((before ++ kept_half_bytes eta piece n) ++ low) ++ high =
    ap (λ l. before ++ l) (kept_half_bytes-more eta piece n byte (omega (arith, c.loop-byte-test.true)) refl ∙ append_assoc (kept_half_bytes eta piece n) low high)
    ∙ sym (append_assoc before (kept_half_bytes eta piece n) (low ++ high)) ∙ sym (append_assoc (before ++ kept_half_bytes eta piece n) low high) in
    rw more kept2

pub returns-then-count-eq256-clause-kept : goal.returns-then-count-eq256-clause-kept
returns-then-count-eq256-clause-kept c =
    let eta = nat_abs (to_z w32 (of_z w32 c.args.eta)) in
    let piece = c.args.piece.now in
    let n = c.loop-byte.byte-index in
    let before = take c.args.kept c.args.values.now in
    let read : to_z w32 (of_z w32 c.args.eta) ≡ c.args.eta = search rules in
    let later = kept_half_bytes-beyond eta piece n (length piece) c.loop-byte.auto.byte-index-end in
    let full : Keeps c.loop-byte.values 256 (before ++ kept_half_bytes eta piece n) = rw (sym c.if-count-eq256.true) c.loop-byte.invariant in
    let more : before ++ kept_half_bytes eta piece (length piece) ≡ (before ++ kept_half_bytes eta piece n) ++ later.0 =
    ap (λ l. before ++ l) later.1 ∙ sym (append_assoc before (kept_half_bytes eta piece n) later.0) in
    rw (c.if-count-eq256.true, sym read, more) (keeps_full later.0 full).same
