use Rattle.std.specs.Prelude.{is_some}
use Rattle.std.proofs.Common.{◌≡◌, Bool, List, ◌∷◌, sym, subst}
use Rattle.std.specs.Bool.{OnTrue}
use Rattle.std.specs.BTreeMap.{values}
use Rattle.pcp_base.specs.declared.leases.PeerLease.{PeerLease}
use Rattle.peer_table.proofs.Leaving.{aged_popped, told_gone}
use Rattle.peer_table.proofs.Views.{past_is}
use Rattle.peer_table.proofs.table.PeerTable.forget_one.Goals as goal

pub invariant_of-self : goal.invariant_of-self
invariant_of-self g c =
    aged_popped c.self.inside.kept c.self.inside.past c.self.inside.gone c.self.invariant c.pop_first.new.self c.pop_first.result c.pop_first.ensures.removal c.pop_first.ensures.unchanged

pub returns-clause-forgot : goal.returns-clause-forgot
returns-clause-forgot g c =
    let left = values c.pop_first.new.self in
    let told = told_gone c.self.inside.past.entries c.pop_first.new.self.entries c.pop_first.result c.pop_first.ensures.removal in
    subst (λ (b : Bool). OnTrue b ((l : PeerLease) × (c.args.self.now.past ≡ l ∷ left))) (sym c.is_some.ensures)
    (subst (λ (v : List PeerLease). OnTrue (is_some c.pop_first.result) ((l : PeerLease) × (v ≡ l ∷ left))) (past_is c.self.view_is) told)
