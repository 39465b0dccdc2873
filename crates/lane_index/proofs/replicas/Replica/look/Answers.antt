use Rattle.std.proofs.Common.{rules, ◌≡◌, max, subst, ap, ◌∙◌, IfSome, IfNone, ℕ}
use Rattle.lane_index.specs.Histories.{state_left}
use Rattle.lane_index.specs.Openings.{EachLaterWins, IsOpen, NoneOpens}
use Rattle.lane_index.specs.LeaseCells.{AreCellsOf}
use Rattle.lane_index.proofs.replicas.Replica.look.Goals as goal

pub returns : goal.returns
returns c =
    let r = c.requires in
    let st = state_left c.args.self.now.seen.log in
    let at : c.later_of.result ≡ max c.args.m st.last = c.later_of.ensures ∙ ap (max c.args.m) r.last_is in
    c.looks_are_the_tables.ensures st c.args.sender.now c.args.m c.args.self.now.index c.look.result
    (subst (λ (n : ℕ). AreCellsOf st.table n c.args.self.now.index) r.last_is r.leases)
    c.port_is_small.ensures
    (subst (λ (n : ℕ). IfSome c.look.result (λ e. IsOpen n c.args.sender.now c.args.self.now.index e)) at c.look.ensures.some)
    (subst (λ (n : ℕ). IfNone c.look.result (EachLaterWins n c.args.self.now.index → NoneOpens n c.args.sender.now (λ _. Rattle.std.proofs.Common.true) c.args.self.now.index)) at c.look.ensures.none)
