use Rattle.std.proofs.Common.{◌≡◌, ◌++◌, List, OnOk, rules, tests, sym, subst}
use Rattle.std.proofs.lemmas.Iterator.Consumers.{YieldsList-at, YieldsList-from_filter_map}
use Rattle.std.proofs.lemmas.Iterator.{YieldsList-from_slice}
use Rattle.std.proofs.lemmas.Iterator.Adapters.{items_from_extend}
use Rattle.std.specs.List.{filter_map}
use Rattle.pcp_base.specs.declared.leases.PeerLease.{PeerLease}
use Rattle.ordered_index.specs.Aged.{AreNumbersOf}
use Rattle.peer_table.specs.Kept.{live_with}
use Rattle.peer_table.proofs.Past.{listed}
use Rattle.peer_table.proofs.lists.append_live.Goals as goal

pub returns-clause-ok : goal.returns-clause-ok
returns-clause-ok c =
    let leases = c.args.leases.now in let past = c.args.past.now in let m = c.args.m in
    let ns = c.deref.result.now in
    let all = items_from_extend c.extend.result c.extend.ensures.ran
    (YieldsList-from_filter_map _ (live_with m leases past)
    (YieldsList-at c.filter_map.ensures.source (YieldsList-from_slice ns c.iter.ensures.rest))
    c.filter_map.ensures.closure (λ x r q k. search (rules, tests))) in
    let found : OnOk c.extend.result (c.extend.new.self.items ≡ c.args.out.now.items ++ filter_map (live_with m leases past) ns) = search rules in
    subst (λ (live : List PeerLease). OnOk c.extend.result (c.extend.new.self.items ≡ c.args.out.now.items ++ live)) (listed m leases past ns c.requires (subst (AreNumbersOf leases past) (sym c.deref.ensures.value) c.in_ok-numbers_of_both.ensures)) found
