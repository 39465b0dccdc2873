use Rattle.std.proofs.Common.{sym, ap, ◌∙◌}
use Rattle.pcp_base.specs.Tables.{is_peer_of}
use Rattle.std.specs.BTreeMap.{get}
use Rattle.ordered_index.proofs.Keeping.{none-found, key-found}
use Rattle.peer_table.specs.PeerLists.{peer_with_key}
use Rattle.peer_table.specs.Kept.{key_at, key_cmp, peer_keying}
use Rattle.peer_table.proofs.PeerKeeping.{peer_laws, peer_tells}
use Rattle.peer_table.proofs.Views.{found_is}
use Rattle.peer_table.proofs.table.PeerTable.find.Goals as goal

pub returns-in_default-clause-lease : goal.returns-in_default-clause-lease
returns-in_default-clause-lease g c =
    let e = c.args.endpoint.now in let remote = c.args.remote.now in let port = c.args.port in
    none-found peer_keying peer_laws c.self.inside.kept c.self.invariant.kept.kept (is_peer_of e remote port) (key_at e remote port) (peer_tells e remote port)
    (ap (get key_cmp c.self.inside.kept.keys) (sym c.key_at-key.ensures) ∙ sym c.in_default.ensures.number)
    ∙ ap (peer_with_key e remote port) (found_is c.self.view_is)

pub returns-clause-lease : goal.returns-clause-lease
returns-clause-lease g c =
    let e = c.args.endpoint.now in let remote = c.args.remote.now in let port = c.args.port in
    c.lease_at.ensures.lease ∙ key-found peer_keying peer_laws c.self.inside.kept c.self.invariant.kept.kept (is_peer_of e remote port) (key_at e remote port) c.in-Some.number (peer_tells e remote port)
    (ap (get key_cmp c.self.inside.kept.keys) (sym c.key_at-key.ensures) ∙ sym c.in-Some.ensures.number)
    ∙ ap (peer_with_key e remote port) (found_is c.self.view_is)
