use Rattle.std.proofs.Common.{◌≡◌, ℕ, ◌-◌, ◌<◌, ◌≤◌, min, ap, sym, subst, ◌∙◌, arith}
use Rattle.pcp_base.specs.declared.addresses.Address.{Address}
use Rattle.external_pool.specs.Holdings.{Holdings, ports_held}
use Rattle.std.specs.Ordering.{nat_cmp}
use Rattle.std.specs.FinMap.{FinMap}
use Rattle.leased_ports.specs.Leased.{Leased, leased}
use Rattle.leased_ports.specs.Falling.{NoneDue}
use Rattle.leased_ports.specs.Kept.{IsKept}
use Rattle.leased_ports.specs.Plain.{held_now}
use Rattle.leased_ports.proofs.FallLemmas.{all_settled}
use Rattle.leased_ports.proofs.PlainLemmas.{held-settled}
use Rattle.leased_ports.proofs.ports.LeasedPorts.room_left.Goals as goal
use Rattle.port_spans.specs.declared.runs.Run.{Run}
use Rattle.pcp_base.specs.declared.leases.End.{End}
use Rattle.std.proofs.Common.{List}

-- the counts are those of the moment reached, where all is seen to
same : (low high quota settled reached : ℕ) (runs : List (Run End)) (pool : Holdings) (waits : FinMap nat_cmp ℕ) → IsKept low high quota settled reached runs pool waits → settled ≡ reached → (who : Address)
    → held_now (leased low high quota settled reached runs) who ≡ ports_held pool who
same low high quota settled reached runs pool waits kept now who =
    held-settled low high quota reached runs pool waits kept.in_step kept.on kept.begun
    (all_settled reached runs pool waits kept.in_step kept.begun (subst (λ (n : ℕ). NoneDue n waits) now kept.late)) who

pub returns-in-Ok-clause-below : goal.returns-in-Ok-clause-below
returns-in-Ok-clause-below g c =
    let a = c.self.inside in
    let who = c.args.who.now in
    let now : a.settled ≡ a.reached = ap (λ (v : Leased). v.settled) c.self.view_is ∙ c.requires.settled ∙ sym (ap (λ (v : Leased). v.reached) c.self.view_is) in
    let held = same a.low a.high a.quota a.settled a.reached a.ends a.pool a.wheel c.self.invariant now who in
    let below = c.in-Ok.ensures.below in
    let quota = c.self.invariant.on.quota in
    subst (λ (v : Leased). held_now v who < v.quota) c.self.view_is (omega (arith, held, below.0, quota))

pub returns-in-Ok-clause-room : goal.returns-in-Ok-clause-room
returns-in-Ok-clause-room g c =
    let a = c.self.inside in
    let who = c.args.who.now in
    let now : a.settled ≡ a.reached = ap (λ (v : Leased). v.settled) c.self.view_is ∙ c.requires.settled ∙ sym (ap (λ (v : Leased). v.reached) c.self.view_is) in
    let held = same a.low a.high a.quota a.settled a.reached a.ends a.pool a.wheel c.self.invariant now who in
    let below = c.in-Ok.ensures.below in
    let quota = c.self.invariant.on.quota in
    let left : c.in-Ok.left ≡ a.quota - held_now (leased a.low a.high a.quota a.settled a.reached a.ends) who = omega (arith, held, below.1, quota) in
    let least : c.min.result ≡ min c.args.most c.in-Ok.left = omega arith in
    subst (λ (v : Leased). c.min.result ≡ min c.args.most (v.quota - held_now v who)) c.self.view_is (least ∙ ap (min c.args.most) left)

pub returns-in-Err-clause-owned : goal.returns-in-Err-clause-owned
returns-in-Err-clause-owned g c =
    let a = c.self.inside in
    let who = c.args.who.now in
    let now : a.settled ≡ a.reached = ap (λ (v : Leased). v.settled) c.self.view_is ∙ c.requires.settled ∙ sym (ap (λ (v : Leased). v.reached) c.self.view_is) in
    let held = same a.low a.high a.quota a.settled a.reached a.ends a.pool a.wheel c.self.invariant now who in
    subst (λ (v : Leased). c.in-Err.owned ≡ held_now v who) c.self.view_is (c.in-Err.ensures.full.0 ∙ sym held)

pub returns-in-Err-clause-full : goal.returns-in-Err-clause-full
returns-in-Err-clause-full g c =
    let quota = c.self.invariant.on.quota in
    let full = c.in-Err.ensures.full in
    subst (λ (v : Leased). v.quota ≤ c.in-Err.owned) c.self.view_is (omega (arith, quota, full.1))
