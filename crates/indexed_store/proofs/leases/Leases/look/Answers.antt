use Rattle.std.proofs.Common.{filter, Bool, ◌∙◌}
use Rattle.pcp_base.specs.declared.leases.MapLease.{MapLease}
use Rattle.pcp_base.specs.Tables.{live}
use Rattle.filter_rules.specs.Filters.{allows}
use Rattle.filter_rules.specs.Lookups.{is_with}
use Rattle.indexed_store.proofs.LookLemmas.{looked}
use Rattle.indexed_store.proofs.leases.Leases.look.Goals as goal

pub returns-in_default : goal.returns-in_default
returns-in_default c =
    let lets : MapLease → Bool = λ l. allows l.filters c.args.remote.now c.args.remote_port in
    let t = live c.args.self.now.all c.args.m in
    let maps = filter lets t.maps in let peers = filter (is_with c.args.remote.now c.args.remote_port) t.peers in
    c.behind_peer.ensures ∙ looked c.args.protocol c.args.port maps peers c.in_default.ensures

pub returns : goal.returns
returns c =
    let lets : MapLease → Bool = λ l. allows l.filters c.args.remote.now c.args.remote_port in
    let t = live c.args.self.now.all c.args.m in
    let maps = filter lets t.maps in let peers = filter (is_with c.args.remote.now c.args.remote_port) t.peers in
    Rattle.indexed_store.proofs.LookLemmas.looked_map c.args.protocol c.args.port maps peers c.in-Some.endpoint c.in-Some.ensures
