use Rattle.std.proofs.Common.{◌≡◌, ◌<◌, ◌≤◌, sym, subst, ◌∙◌, arith}
use Rattle.std.proofs.lemmas.Bool.{OnTrue_from, OnFalse_from, ltb-true, ltb-false}
use Rattle.external_pool.specs.Holdings.{ports_held}
use Rattle.leased_ports.specs.Leased.{Leased}
use Rattle.leased_ports.specs.Counts.{held_since}
use Rattle.leased_ports.specs.Plain.{held_now}
use Rattle.leased_ports.proofs.PlainLemmas.{held-now, held-since}
use Rattle.leased_ports.proofs.ports.LeasedPorts.is_below_quota.Goals as goal

pub returns-clause-yes : goal.returns-clause-yes
returns-clause-yes g c =
    let a = c.self.inside in
    let who = c.args.who.now in
    let fewer = held-now a.low a.high a.quota a.reached a.ends a.pool a.wheel c.self.invariant.in_step c.self.invariant.on c.self.invariant.begun who in
    let quota = c.self.invariant.on.quota in
    OnTrue_from _ _ (λ t. subst (λ (v : Leased). held_now v who < v.quota) c.self.view_is
    (let below = ltb-true (ports_held a.pool who) a.pool.quota (sym c.is_below_quota.ensures.below ∙ t) in omega (arith, fewer, below, quota)))

pub returns-clause-no : goal.returns-clause-no
returns-clause-no g c =
    let a = c.self.inside in
    let who = c.args.who.now in
    let most = held-since a.low a.high a.quota a.reached a.ends a.pool a.wheel c.self.invariant.in_step c.self.invariant.on c.self.invariant.begun a.settled c.self.invariant.late who in
    let quota = c.self.invariant.on.quota in
    OnFalse_from _ _ (λ t. subst (λ (v : Leased). v.quota ≤ held_since v who) c.self.view_is
    (let past = ltb-false (ports_held a.pool who) a.pool.quota (sym c.is_below_quota.ensures.below ∙ t) in omega (arith, most, past, quota)))
