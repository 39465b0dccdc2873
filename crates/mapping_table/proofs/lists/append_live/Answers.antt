use Rattle.std.proofs.Common.{◌≡◌, ◌++◌, ℕ, List, OnOk, rules, tests, subst}
use Rattle.std.proofs.lemmas.Iterator.Consumers.{YieldsList-at, YieldsList-from_filter_map}
use Rattle.std.proofs.lemmas.Iterator.Adapters.{items_from_extend}
use Rattle.std.specs.List.{filter_map}
use Rattle.pcp_base.specs.declared.leases.MapLease.{MapLease}
use Rattle.mapping_table.specs.Kept.{filters_at, live_with}
use Rattle.mapping_table.proofs.AgedMaps.{copied_live, numbers_yield}
use Rattle.mapping_table.proofs.lists.append_live.Goals as goal

pub returns-clause-ok : goal.returns-clause-ok
returns-clause-ok c =
    let kept = filters_at c.args.filters.now in let m = c.args.m in let leases = c.args.leases.now in let past = c.args.past.now in
    let numbers = c.in_ok-numbers.numbers.items in
    let all = items_from_extend c.extend.result c.extend.ensures.ran
    (YieldsList-from_filter_map _ (live_with m kept leases past)
    (YieldsList-at c.filter_map.ensures.source (numbers_yield numbers (search rules)))
    c.filter_map.ensures.closure (λ x r q k. search (rules, tests))) in
    let found : OnOk c.extend.result (c.extend.new.self.items ≡ c.args.out.now.items ++ filter_map (live_with m kept leases past) numbers) = search rules in
    subst (λ (live : List MapLease). OnOk c.extend.result (c.extend.new.self.items ≡ c.args.out.now.items ++ live)) (copied_live kept leases past c.requires numbers c.in_ok-numbers.ensures m) found
