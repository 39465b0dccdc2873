use Rattle.std.proofs.Common.{◌≡◌, find, ap, ◌∙◌}
use Rattle.std.specs.Option.{option_copied}
use Rattle.peer_table.specs.PeerLists.{is_ended_of}
use Rattle.peer_table.proofs.Finds.{ended_told}
use Rattle.peer_table.proofs.plain.PlainPeerTable.ended_of.Goals as goal

pub returns-clause-ended : goal.returns-clause-ended
returns-clause-ended g c =
    let e = c.args.endpoint.now in let m = c.args.m in
    let same : c.deref.result.now ≡ c.args.self.now = c.deref.ensures.value ∙ c.self.view_is in
    ended_told e m c.args.self.now (option_copied c.ended_with.result) (c.ended_with.ensures ∙ ap (find (is_ended_of e m)) same)
