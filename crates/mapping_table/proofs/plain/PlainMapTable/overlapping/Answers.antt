use Rattle.std.proofs.Common.{◌≡◌, find, ap, ◌∙◌}
use Rattle.mapping_table.specs.MapLists.{overlaps}
use Rattle.mapping_table.proofs.Meetings.{search_none, search_some}
use Rattle.mapping_table.proofs.plain.PlainMapTable.overlapping.Goals as goal

pub returns-in_default-clause-overlapped : goal.returns-in_default-clause-overlapped
returns-in_default-clause-overlapped g c =
    let same : c.deref.result.now ≡ c.args.self.now = c.deref.ensures.value ∙ c.self.view_is in
    search_none c.args.self.now c.args.lease.now (c.in_default.ensures ∙ ap (find (overlaps c.args.lease.now)) same)

pub returns-clause-overlapped : goal.returns-clause-overlapped
returns-clause-overlapped g c =
    let same : c.deref.result.now ≡ c.args.self.now = c.deref.ensures.value ∙ c.self.view_is in
    search_some c.args.self.now c.args.lease.now c.in-Some.other.now (c.in-Some.ensures ∙ ap (find (overlaps c.args.lease.now)) same) c.first_endpoint.result c.first_endpoint.ensures
