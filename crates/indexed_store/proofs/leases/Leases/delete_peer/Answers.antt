use Rattle.std.proofs.Common.{◌≡◌, ℕ, Contains, Option, Some, find, ap, ◌∙◌, sym, subst, arith}
use Rattle.std.specs.Option.{option_map}
use Rattle.pcp_base.specs.declared.addresses.Address.{Address}
use Rattle.pcp_base.specs.declared.leases.Endpoint.{Endpoint}
use Rattle.pcp_base.specs.declared.leases.PeerLease.{PeerLease}
use Rattle.pcp_base.specs.Tables.{Table, IsPeerLease, is_peer_of, live}
use Rattle.pcp_base.proofs.Members.{find-some, All-IsIn}
use Rattle.peer_table.specs.PeerLists.{peer_with_key}
use Rattle.indexed_store.specs.Runs.{peer_run}
use Rattle.indexed_store.specs.Tabled.{AreTabled}
use Rattle.indexed_store.proofs.DropSteps.{gone-from}
use Rattle.indexed_store.proofs.ChangeLemmas.{peer_gone_tabled, peer_gone_live, peer_gone_is, seen_without_peer}
use Rattle.indexed_store.proofs.Views.{found_is}
use Rattle.indexed_store.proofs.leases.Leases.delete_peer.Goals as goal

-- what is told of them
told : (t before : Table) (e : Endpoint) (remote : Address) (port : ℕ) (o : Option PeerLease) → before ≡ t → o ≡ peer_with_key e remote port before.peers → o ≡ find (is_peer_of e remote port) t.peers
told t before e remote port o seen is = is ∙ ap (λ (x : Table). peer_with_key e remote port x.peers) seen

pub run_of_peer-requires : goal.run_of_peer-requires
run_of_peer-requires g c =
    let t = c.args.self.now.found in let e = c.args.endpoint.now in let r = c.args.remote.now in let p = c.args.port in
    let found = told t _ e r p _ (found_is c.self.view_is) c.in-Some.ensures.removed.answer in
    let is = All-IsIn IsPeerLease t.peers c.in-Some.lease c.requires.tabled.peers.leases (find-some (is_peer_of e r p) t.peers c.in-Some.lease (sym found)).0 in
    let some = is.external in omega (arith, some)

pub returns-in_default-clause-tabled : goal.returns-in_default-clause-tabled
returns-in_default-clause-tabled g c =
    let t = c.args.self.now.found in let e = c.args.endpoint.now in let r = c.args.remote.now in let p = c.args.port in
    subst AreTabled (sym (seen_without_peer e r p t _ _ (found_is c.self.view_is) c.in_default.ensures.removed.removed)) (peer_gone_tabled c.args.m e r p t c.requires.tabled c.fewer_peers_are_sound.ensures)

pub returns-in_default-clause-table : goal.returns-in_default-clause-table
returns-in_default-clause-table g c =
    let t = c.args.self.now.found in let e = c.args.endpoint.now in let r = c.args.remote.now in let p = c.args.port in
    ap (λ (x : Table). live x c.args.m) (seen_without_peer e r p t _ _ (found_is c.self.view_is) c.in_default.ensures.removed.removed) ∙ peer_gone_live c.args.m e r p t c.requires.tabled

pub returns-in_default-clause-touched : goal.returns-in_default-clause-touched
returns-in_default-clause-touched g c =
    let t = c.args.self.now.found in let e = c.args.endpoint.now in let r = c.args.remote.now in let p = c.args.port in
    ap (option_map peer_run) (told t _ e r p _ (found_is c.self.view_is) c.in_default.ensures.removed.answer ∙ peer_gone_is c.args.m e r p t c.requires.tabled c.requires.there)

pub returns-clause-tabled : goal.returns-clause-tabled
returns-clause-tabled g c =
    let t = c.args.self.now.found in let e = c.args.endpoint.now in let r = c.args.remote.now in let p = c.args.port in
    subst AreTabled (sym (seen_without_peer e r p t _ _ (found_is c.self.view_is) c.in-Some.ensures.removed.removed)) (peer_gone_tabled c.args.m e r p t c.requires.tabled c.fewer_peers_are_sound.ensures)

pub returns-clause-table : goal.returns-clause-table
returns-clause-table g c =
    let t = c.args.self.now.found in let e = c.args.endpoint.now in let r = c.args.remote.now in let p = c.args.port in
    ap (λ (x : Table). live x c.args.m) (seen_without_peer e r p t _ _ (found_is c.self.view_is) c.in-Some.ensures.removed.removed) ∙ peer_gone_live c.args.m e r p t c.requires.tabled

pub returns-clause-touched : goal.returns-clause-touched
returns-clause-touched g c =
    let t = c.args.self.now.found in let e = c.args.endpoint.now in let r = c.args.remote.now in let p = c.args.port in
    ap Some c.run_of_peer.ensures.value
    ∙ ap (option_map peer_run) (told t _ e r p _ (found_is c.self.view_is) c.in-Some.ensures.removed.answer ∙ peer_gone_is c.args.m e r p t c.requires.tabled c.requires.there)

pub returns-in_default-clause-peers_from : goal.returns-in_default-clause-peers_from
returns-in_default-clause-peers_from g c = λ l i.
    subst (λ (t : Table). Contains t.peers l) (found_is c.self.view_is)
    (gone-from (is_peer_of c.args.endpoint.now c.args.remote.now c.args.port) c.self.inside.peers.found c.remove.new.self.found c.in_default.ensures.removed.removed l i)

pub returns-clause-peers_from : goal.returns-clause-peers_from
returns-clause-peers_from g c = λ l i.
    subst (λ (t : Table). Contains t.peers l) (found_is c.self.view_is)
    (gone-from (is_peer_of c.args.endpoint.now c.args.remote.now c.args.port) c.self.inside.peers.found c.remove.new.self.found c.in-Some.ensures.removed.removed l i)
