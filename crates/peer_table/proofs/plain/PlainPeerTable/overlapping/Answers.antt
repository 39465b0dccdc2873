use Rattle.std.proofs.Common.{◌≡◌, find, ap, ◌∙◌}
use Rattle.std.specs.Option.{option_copied}
use Rattle.peer_table.specs.PeerLists.{overlaps}
use Rattle.peer_table.proofs.Fellows.{search_tells}
use Rattle.peer_table.proofs.plain.PlainPeerTable.overlapping.Goals as goal

pub returns-clause-overlapped : goal.returns-clause-overlapped
returns-clause-overlapped g c =
    let same : c.deref.result.now ≡ c.args.self.now = c.deref.ensures.value ∙ c.self.view_is in
    search_tells c.args.lease.now c.args.self.now (option_copied c.overlapped_by.result) (c.overlapped_by.ensures ∙ ap (find (overlaps c.args.lease.now)) same)
