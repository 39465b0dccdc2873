use Rattle.std.proofs.Common.{◌≡◌, ◌∙◌, ◌<◌, true, false, sym, ap}
use Rattle.lane_index.specs.declared.keys.TheConstants.{BUCKETS}
use Rattle.lane_index.specs.Keys.{bucket_of, key_of, is_keyed}
use Rattle.lane_index.specs.Slots.{is_ended}
use Rattle.lane_index.proofs.ChainLemmas.{chained-skip, chained-join, keyed-ended, keyed-mine, keyed-once}
use Rattle.lane_index.proofs.links.add_key.Goals as goal

pub returns-then-is_ended-clause-chained : goal.returns-then-is_ended-clause-chained
returns-then-is_ended-clause-chained c = λ cells h.
    let over : is_ended c.args.cell.now ≡ true = sym c.is_ended.ensures ∙ c.if-is_ended.true in
    rw c.skip.ensures (chained-skip BUCKETS is_keyed cells c.args.keys.now h c.args.cell.now (keyed-ended c.args.cell.now over))

pub returns-else-is_ended-clause-chained : goal.returns-else-is_ended-clause-chained
returns-else-is_ended-clause-chained c = λ cells h.
    let going : is_ended c.args.cell.now ≡ false = sym c.is_ended.ensures ∙ c.if-is_ended.false in
    let head : c.bucket.result ≡ bucket_of (key_of c.args.cell.now) = c.bucket.ensures.exact ∙ ap bucket_of c.key.ensures in
    let inside : bucket_of (key_of c.args.cell.now) < BUCKETS = rw head at c.bucket.ensures.inside in
    rw (c.join.ensures, head) (chained-join BUCKETS is_keyed cells c.args.keys.now h c.args.cell.now keyed-once (bucket_of (key_of c.args.cell.now)) inside (keyed-mine c.args.cell.now going))
