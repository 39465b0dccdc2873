use Rattle.std.proofs.Common.{◌≡◌, ◌≤◌, sym, ap, subst, arith}
use Rattle.pcp_base.specs.Reached.{IsReached}
use Rattle.indexed_store.specs.Indexed.{Indexed}
use Rattle.leased_ports.specs.Leased.{Leased, IsOnTerms}
use Rattle.indexed_store.specs.Looks.{pick_steps}
use Rattle.indexed_store.proofs.KeptStates.{later-kept}
use Rattle.indexed_store.proofs.PickSteps.{settled-fewer}
use Rattle.indexed_store.proofs.store.IndexedStoreLeaseStore.reach.Goals as goal

pub invariant_of-self : goal.invariant_of-self
invariant_of-self g c =
    let s = c.self.inside.state in let inv = c.self.invariant in
    let at : c.self.inside.reached ≡ c.args.self.now.reached = ap (λ (x : Indexed). x.reached) c.self.view_is in
    let later : s.ports.reached ≤ c.args.m = omega (arith, inv.now, at, c.requires.later) in
    record {
      allowed = inv.allowed;
      sound = subst IsReached (sym c.reach.ensures.state) inv.sound;
      kept = later-kept c.ports_follow_states.ensures.later s c.reach.new.self c.args.m c.reach.new.self.ports.settled later c.reach.ensures.state c.reach.ensures.all
          c.reach.ensures.tabled c.reach.ensures.live c.reach.ensures.past c.reach.ensures.ports inv.kept;
      now = ap (λ (v : Leased). v.reached) c.reach.ensures.ports;
      on = subst (λ (v : Leased). IsOnTerms v c.self.inside.terms) (sym c.reach.ensures.ports) (record { low = inv.on.low; high = inv.on.high; quota = inv.on.quota });
    }

pub returns-clause-picks : goal.returns-clause-picks
returns-clause-picks g c = λ who plain.
    let w = c.reach.new.self.ports in
    subst (λ (x : Indexed). pick_steps w c.args.m who plain ≤ pick_steps x.kept.ports c.args.m who plain) c.self.view_is
    (settled-fewer c.self.inside.state.ports w c.args.m w.settled who plain c.reach.ensures.ports c.reach.ensures.from)
