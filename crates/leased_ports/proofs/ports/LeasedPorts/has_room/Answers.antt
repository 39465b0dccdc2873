use Rattle.std.proofs.Common.{◌+◌, ◌<◌, ◌≤◌, subst, arith}
use Rattle.std.proofs.lemmas.Bool.{OnTrue_from, OnFalse_from, leb-true, leb-false}
use Rattle.leased_ports.specs.Leased.{Leased}
use Rattle.leased_ports.specs.Counts.{held_since}
use Rattle.leased_ports.specs.Plain.{held_now}
use Rattle.leased_ports.proofs.PlainLemmas.{held-now, held-since}
use Rattle.leased_ports.proofs.ports.LeasedPorts.has_room.Goals as goal

pub returns-in_default-clause-no : goal.returns-in_default-clause-no
returns-in_default-clause-no g c =
    let a = c.self.inside in
    let who = c.args.who.now in
    let most = held-since a.low a.high a.quota a.reached a.ends a.pool a.wheel c.self.invariant.in_step c.self.invariant.on c.self.invariant.begun a.settled c.self.invariant.late who in
    let full = c.in_default.ensures.full in
    let quota = c.self.invariant.on.quota in
    subst (λ (v : Leased). v.quota < held_since v who + c.args.most) c.self.view_is (omega (arith, most, full.0, full.1, quota, c.requires.some))

pub returns-clause-yes : goal.returns-clause-yes
returns-clause-yes g c =
    let a = c.self.inside in
    let who = c.args.who.now in
    let fewer = held-now a.low a.high a.quota a.reached a.ends a.pool a.wheel c.self.invariant.in_step c.self.invariant.on c.self.invariant.begun who in
    let below = c.in-Ok.ensures.below in
    let quota = c.self.invariant.on.quota in
    OnTrue_from _ _ (λ t. subst (λ (v : Leased). held_now v who + c.args.most ≤ v.quota) c.self.view_is (let fits = leb-true c.args.most c.in-Ok.left t in omega (arith, fewer, below.0, below.1, quota, fits)))

pub returns-clause-no : goal.returns-clause-no
returns-clause-no g c =
    let a = c.self.inside in
    let who = c.args.who.now in
    let most = held-since a.low a.high a.quota a.reached a.ends a.pool a.wheel c.self.invariant.in_step c.self.invariant.on c.self.invariant.begun a.settled c.self.invariant.late who in
    let below = c.in-Ok.ensures.below in
    let quota = c.self.invariant.on.quota in
    OnFalse_from _ _ (λ t. subst (λ (v : Leased). v.quota < held_since v who + c.args.most) c.self.view_is (let past = leb-false c.args.most c.in-Ok.left t in omega (arith, most, below.0, below.1, quota, past)))
