use Rattle.std.proofs.Common.{◌≡◌, ◌∷◌, [], find, ap, ◌∙◌}
use Rattle.pcp_base.specs.declared.leases.PeerLease.{PeerLease}
use Rattle.pcp_base.specs.Tables.{is_peer_of}
use Rattle.pcp_base.specs.Owners.{peer_owner}
use Rattle.pcp_base.specs.Fits.{RestForNoOther}
use Rattle.lease_store.specs.Lookups.{peering}
use Rattle.indexed_store.specs.Judging.{unrested_by}
use Rattle.indexed_store.proofs.JudgeLemmas.{told-held, told-none, unrested-one}
use Rattle.indexed_store.specs.Tabled.{TabledState}
use Rattle.indexed_store.proofs.StateLooks.{leases_of, looked_in, reached-later}
use Rattle.indexed_store.proofs.judging.peer_is_rested.Goals as goal

pub returns-in_default : goal.returns-in_default
returns-in_default c =
    let s = c.args.state.now.state in let v = c.args.state.now.ports in let m = c.args.m in let l = c.args.lease.now in
    told-none (λ (x : PeerLease). x ≡ x) (RestForNoOther s m (peer_owner l ∷ [])) c.is_unrested_by.result (unrested_by m v (peer_owner l))
    (c.is_unrested_by.ensures ∙ ap (unrested_by m c.state.inside.ports) c.owner_of_peer.ensures ∙ ap (λ (x : TabledState). unrested_by m x.ports (peer_owner l)) c.state.view_is) (peering s.table m l.endpoint l.remote l.remote_port)
    (c.in_default.ensures ∙ looked_in (λ t. find (is_peer_of l.endpoint l.remote l.remote_port) t.peers) c.args.state.now m c.state.inside.leases.found (leases_of c.state.view_is) c.requires.kept (reached-later _ _ c.requires)) (unrested-one c.args.state.now m c.requires (peer_owner l))

pub returns : goal.returns
returns c =
    let s = c.args.state.now.state in let m = c.args.m in let l = c.args.lease.now in
    told-held (RestForNoOther s m (peer_owner l ∷ [])) (peering s.table m l.endpoint l.remote l.remote_port) c.in-Some._held
    (c.in-Some.ensures ∙ looked_in (λ t. find (is_peer_of l.endpoint l.remote l.remote_port) t.peers) c.args.state.now m c.state.inside.leases.found (leases_of c.state.view_is) c.requires.kept (reached-later _ _ c.requires))
