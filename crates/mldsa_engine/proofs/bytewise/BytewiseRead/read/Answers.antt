use Rattle.std.proofs.Common.{◌≡◌, length, Ok, Some, sym, ◌∙◌, rules}
use Rattle.std.specs.List.{slice_get}
use Rattle.mldsa_engine.proofs.Buffered.{gave_none, gave_one}
use Rattle.mldsa_engine.proofs.bytewise.BytewiseRead.read.Goals as goal

pub returns-in_default-clause-told : goal.returns-in_default-clause-told
returns-in_default-clause-told g c =
    let before = g.B.Read.remaining c.args.self.now.reader in
    let held = g.B.Read.remaining c.fill_buf.follows.lender-at-none in
    let is : c.fill_buf.result ≡ Ok c.in_ok-fill_buf.field-0 = search rules in
    let empty : length c.in_ok-fill_buf.field-0.now ≡ 0 = search rules in
    gave_none before held c.fill_buf.result c.in_ok-fill_buf.field-0 is c.fill_buf.follows.holds-at-none.0 c.fill_buf.follows.claims.1 c.args.room.now empty

pub returns-clause-told : goal.returns-clause-told
returns-clause-told g c =
    let before = g.B.Read.remaining c.args.self.now.reader in
    let held = g.B.Read.remaining c.fill_buf.follows.lender-at-none in
    let after = g.B.Read.remaining c.consume.new.self in
    let is : c.fill_buf.result ≡ Ok c.in_ok-fill_buf.field-0 = search rules in
    let first : slice_get c.in_ok-fill_buf.field-0.now 0 ≡ Some c.in-Some.byte = sym c.first.ensures.value ∙ sym c.copied.ensures ∙ c.in-Some.is in
    let single : length c.args.room.now ≡ 1 = search rules in
    gave_one before held after (g.B.BufRead.consumable_len c.fill_buf.follows.lender-at-none) c.fill_buf.result c.in_ok-fill_buf.field-0 c.in-Some.byte is
    c.fill_buf.follows.holds-at-none.0 c.fill_buf.follows.holds-at-none.1 c.fill_buf.follows.claims.0 first c.consume.ensures.bytes c.args.room.now single
