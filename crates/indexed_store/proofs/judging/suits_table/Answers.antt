use Rattle.std.proofs.Common.{◌≡◌, Bool, true, false, Option, Some, None, find, refl, sym, ap, ◌∙◌, subst, IsTrue, ◌↔◌, IfOk}
use Rattle.std.specs.Prelude.{IsSome, is_some}
use Rattle.pcp_base.specs.declared.records.Change.{Change}
use Rattle.pcp_base.specs.Tables.{is_map_of, is_peer_of, live}
use Rattle.pcp_base.specs.Fits.{IsAllowed}
use Rattle.pcp_base.specs.Rooms.{HasRoom}
use Rattle.indexed_store.proofs.StateLooks.{leases_of, looked_in, reached-later}
use Rattle.indexed_store.proofs.judging.suits_table.Goals as goal

no_some : (X : Type 0) → IsSome {T = X} None → ⊥
no_some X s = absurd cc

-- a lease is there that may go
there : {X : Type 0} (o : Option X) (b : Bool) → b ≡ is_some o → IsTrue b ↔ (IsSome o × Unit {0})
there {X} None b is = (λ h. absurd (let never : true ≡ false = sym h ∙ is in cc), λ h. absurd (no_some X h.0))
there {X} (Some x) b is = (λ h. (refl, tt), λ h. is)

pub returns-in-Map : goal.returns-in-Map
returns-in-Map c =
    let t = live c.args.state.now.state.table c.args.kept.now.moment in
    subst (λ (change : Change). IfOk c.map_suits_table.result (λ b. IsTrue b ↔ (IsAllowed t change × HasRoom t change))) (sym c.in-Map.is) c.map_suits_table.ensures

pub returns-in-DropMap : goal.returns-in-DropMap
returns-in-DropMap c =
    let m = c.args.kept.now.moment in let t = live c.args.state.now.state.table m in let key = c.in-DropMap.key in
    subst (λ (change : Change). IsTrue c.is_some.result ↔ (IsAllowed t change × HasRoom t change)) (sym c.in-DropMap.is)
    (there (find (is_map_of key) t.maps) c.is_some.result (c.is_some.ensures ∙ ap is_some (c.map_of.ensures
    ∙ looked_in (λ u. find (is_map_of key) u.maps) c.args.state.now m c.state.inside.leases.found (leases_of c.state.view_is) c.requires.current.kept (reached-later _ _ c.requires.current))))

pub returns-in-DropPeer : goal.returns-in-DropPeer
returns-in-DropPeer c =
    let m = c.args.kept.now.moment in let t = live c.args.state.now.state.table m in
    let e = c.in-DropPeer.endpoint in let remote = c.in-DropPeer.remote in let port = c.in-DropPeer.port in
    subst (λ (change : Change). IsTrue c.is_some-in-DropPeer.result ↔ (IsAllowed t change × HasRoom t change)) (sym c.in-DropPeer.is)
    (there (find (is_peer_of e remote port) t.peers) c.is_some-in-DropPeer.result (c.is_some-in-DropPeer.ensures ∙ ap is_some (c.peering.ensures
    ∙ looked_in (λ u. find (is_peer_of e remote port) u.peers) c.args.state.now m c.state.inside.leases.found (leases_of c.state.view_is) c.requires.current.kept (reached-later _ _ c.requires.current))))
