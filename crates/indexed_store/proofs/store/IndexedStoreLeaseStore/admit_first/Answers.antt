use Rattle.std.proofs.Common.{sym, subst}
use Rattle.pcp_base.specs.Reached.{IsReached, IsReachedFirst}
use Rattle.indexed_store.specs.Indexed.{Indexed}
use Rattle.indexed_store.proofs.KeptStates.{new-indexed}
use Rattle.indexed_store.proofs.store.IndexedStoreLeaseStore.admit_first.Goals as goal

pub invariant_of-self : goal.invariant_of-self
invariant_of-self c =
    let inv = c.self.invariant in let s = c.self.inside.state.state in let r = c.args.kept.now in
    let fits = (c.new_leases_need_room.ensures.fits_first s r inv.sound.sound.table).1 (c.in_ok-suits_first.ensures.0 c.if-not-branch.false) in
    let begun = subst (λ (x : Indexed). IsReachedFirst x.kept.state) (sym c.self.view_is) c.requires.reached in
    record {
      allowed = inv.allowed;
      sound = subst IsReached (sym c.in_default.ensures.applied) ((c.first_states_are_sound.ensures.kept s r begun fits).reached);
      kept = c.take_first.ensures.kept;
      now = c.in_default.ensures.reached;
      on = c.take_first.ensures.terms c.self.inside.terms inv.on;
    }

pub invariant_of-self-2 : goal.invariant_of-self-2
invariant_of-self-2 c =
    let inv = c.self.invariant in
    new-indexed c.states_are_sound.ensures.made c.take_first.new.state c.zero-self-inside.result c.self.inside.terms inv.allowed c.in-Err.ensures.new c.take_first.ensures.kept c.zero-self-inside.ensures
    (c.take_first.ensures.terms c.self.inside.terms inv.on)
