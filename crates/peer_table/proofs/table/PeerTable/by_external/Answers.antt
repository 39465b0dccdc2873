use Rattle.std.proofs.Common.{sym, ap, ◌∙◌}
use Rattle.std.specs.BTreeMap.{get}
use Rattle.ordered_index.proofs.Keeping.{no-port-found, port-found}
use Rattle.peer_table.specs.PeerLists.{opens, peer_opening}
use Rattle.peer_table.specs.Kept.{opening_at, opening_cmp, peer_keying}
use Rattle.peer_table.proofs.PeerKeeping.{peer_laws, peer_opens}
use Rattle.peer_table.proofs.Views.{found_is}
use Rattle.peer_table.proofs.table.PeerTable.by_external.Goals as goal

pub returns-in_default-clause-lease : goal.returns-in_default-clause-lease
returns-in_default-clause-lease g c =
    let remote = c.args.remote.now in let remote_port = c.args.remote_port in
    no-port-found peer_keying peer_laws c.self.inside.kept c.self.invariant.kept.kept (opens c.args.protocol c.args.port remote remote_port) (opening_at c.args.protocol c.args.port remote remote_port)
    (peer_opens c.args.protocol c.args.port remote remote_port)
    (ap (get opening_cmp c.self.inside.kept.ports) (sym c.opening_at-opening.ensures) ∙ sym (c.in_default.ensures ∙ c.get.ensures.value))
    ∙ ap (peer_opening c.args.protocol c.args.port remote remote_port) (found_is c.self.view_is)

pub returns-clause-lease : goal.returns-clause-lease
returns-clause-lease g c =
    let remote = c.args.remote.now in let remote_port = c.args.remote_port in
    c.lease_at.ensures.lease ∙ port-found peer_keying peer_laws c.self.inside.kept c.self.invariant.kept.kept (opens c.args.protocol c.args.port remote remote_port) (opening_at c.args.protocol c.args.port remote remote_port)
    c.in-Some.number (peer_opens c.args.protocol c.args.port remote remote_port)
    (ap (get opening_cmp c.self.inside.kept.ports) (sym c.opening_at-opening.ensures) ∙ sym (c.in-Some.ensures ∙ c.get.ensures.value))
    ∙ ap (peer_opening c.args.protocol c.args.port remote remote_port) (found_is c.self.view_is)
