use Rattle.std.proofs.Common.{◌∙◌, sym, ap, rules, [], bytes_eq}
use Rattle.fips204.proofs.Names.{hashes}
use Rattle.fips204.proofs.PreHash.{digest_length_in, other_at, this_at, none_left, with_oids}
use Rattle.fips204.proofs.types.pre_hash.digest_len.Goals as goal

pub loop-known-init : goal.loop-known-init
unfolding hashes
loop-known-init c = digest_length_in c.args.oid.now

pub loop-known-preserved : goal.loop-known-preserved
unfolding hashes
loop-known-preserved c = c.loop-known.invariant ∙ other_at c.args.oid.now (with_oids hashes) c.loop-known.known-index ([], 0) c.loop-known-test.true (ap (bytes_eq c.args.oid.now) (sym c.as_slice.ensures) ∙ sym c.eq.ensures ∙ c.if-eq.false)

pub returns-then-eq : goal.returns-then-eq
unfolding hashes
returns-then-eq c = sym (c.loop-known.invariant ∙ this_at c.args.oid.now (with_oids hashes) c.loop-known.known-index ([], 0) c.loop-known-test.true (ap (bytes_eq c.args.oid.now) (sym c.as_slice.ensures) ∙ sym c.eq.ensures ∙ c.if-eq.true))

pub returns : goal.returns
unfolding hashes
returns c = sym (c.loop-known.invariant ∙ none_left c.args.oid.now (with_oids hashes) c.loop-known.known-index (search rules))
