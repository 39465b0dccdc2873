use Rattle.std.proofs.Common.{sym, subst}
use Rattle.pcp_base.specs.Fits.{Fits}
use Rattle.pcp_base.specs.Reached.{IsReached}
use Rattle.indexed_store.specs.Indexed.{Indexed}
use Rattle.indexed_store.proofs.KeptStates.{new-indexed}
use Rattle.indexed_store.proofs.store.IndexedStoreLeaseStore.apply.Goals as goal

pub invariant_of-self : goal.invariant_of-self
invariant_of-self g c =
    let inv = c.self.invariant in let s = c.self.inside.state.state in let r = c.args.kept.now in
    let fits = subst (λ (x : Indexed). Fits x.kept.state r) (sym c.self.view_is) c.requires.fits in
    record {
      allowed = inv.allowed;
      sound = subst IsReached (sym c.in_default.ensures.applied) (c.states_are_sound.ensures.kept s r inv.sound fits);
      kept = c.take.ensures.kept;
      now = c.in_default.ensures.reached;
      on = c.take.ensures.terms c.self.inside.terms inv.on;
    }

pub invariant_of-self-2 : goal.invariant_of-self-2
invariant_of-self-2 g c =
    let inv = c.self.invariant in
    new-indexed c.states_are_sound.ensures.made c.take.new.state c.zero-self-inside.result c.self.inside.terms inv.allowed c.in-Err.ensures.new c.take.ensures.kept c.zero-self-inside.ensures
    (c.take.ensures.terms c.self.inside.terms inv.on)
