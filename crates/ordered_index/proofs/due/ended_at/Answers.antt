use Rattle.std.proofs.Common.{ap, ◌∙◌, sym}
use Rattle.ordered_index.specs.Ended.{has_ended}
use Rattle.ordered_index.specs.Slots.{holds}
use Rattle.ordered_index.proofs.DueSlots.{ended_by, live_by}
use Rattle.ordered_index.proofs.due.ended_at.Goals as goal

pub returns-in_default-clause-tells : goal.returns-in_default-clause-tells
returns-in_default-clause-tells g c = ap (holds (has_ended g.L.Expires.expiry c.args.m)) c.in_default.ensures

pub returns-then-m-expiry-clause-tells : goal.returns-then-m-expiry-clause-tells
returns-then-m-expiry-clause-tells g c =
    sym (live_by g.L.Expires.expiry c.args.m c.in-Some.entry.now.1 c.expires_at-expiry.result c.expires_at-expiry.ensures c.if-m-expiry.true)
    ∙ ap (holds (has_ended g.L.Expires.expiry c.args.m)) c.in-Some.ensures

pub returns-clause-tells : goal.returns-clause-tells
returns-clause-tells g c =
    sym (ended_by g.L.Expires.expiry c.args.m c.in-Some.entry.now.1 c.expires_at-expiry.result c.expires_at-expiry.ensures c.if-m-expiry.false)
    ∙ ap (holds (has_ended g.L.Expires.expiry c.args.m)) c.in-Some.ensures

pub returns-clause-number : goal.returns-clause-number
returns-clause-number g c = (c.in-Some.entry.now.1, sym c.in-Some.ensures)
