use Rattle.std.proofs.Common.{rules, tests, ◌≤◌, ◌&&◌, ◌∙◌, Bool, find, ap, arith}
use Rattle.std.proofs.lemmas.Iterator.Consumers.{YieldsList-from_rest}
use Rattle.std.proofs.lemmas.Iterator.Search.{find_from_yields_List}
use Rattle.std.specs.BTreeMap.{values}
use Rattle.pcp_base.specs.declared.leases.PeerLease.{PeerLease}
use Rattle.peer_table.specs.PeerLists.{is_live_peer, opens}
use Rattle.peer_table.proofs.Past.{none_opens}
use Rattle.peer_table.proofs.Views.{past_is}
use Rattle.peer_table.proofs.table.PeerTable.past_opening.Goals as goal

pub returns-then-self-get : goal.returns-then-self-get
returns-then-self-get c =
    let over : c.self.inside.gone ≤ c.args.m = omega (arith, c.if-self-get.true, c.get.ensures.value) in
    let test = opens c.args.protocol c.args.port c.args.remote.now c.args.remote_port in
    none_opens c.self.inside.gone c.args.m over (values c.self.inside.past) c.self.invariant.dead test
    ∙ ap (find (λ (l : PeerLease). is_live_peer c.args.m l && test l)) (past_is c.self.view_is)

pub returns : goal.returns
returns c =
    let test : PeerLease → Bool = λ l. is_live_peer c.args.m l && opens c.args.protocol c.args.port c.args.remote.now c.args.remote_port l in
    let found = find_from_yields_List test _ _ _ c.find.ensures.ran (YieldsList-from_rest (values c.self.inside.past) c.values.ensures.rest) (λ x b q k. search (rules, tests)) in
    c.copied.ensures ∙ found ∙ ap (find test) (past_is c.self.view_is)
