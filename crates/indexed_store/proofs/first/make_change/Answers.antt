use Rattle.std.proofs.Common.{sym, ap, ◌∙◌, subst}
use Rattle.std.proofs.lemmas.Result.{on_ok_weaker}
use Rattle.pcp_base.specs.Tables.{Table}
use Rattle.pcp_base.specs.Fits.{IsAllowed}
use Rattle.pcp_base.specs.Sound.{Sound}
use Rattle.pcp_base.specs.Apply.{table_changed}
use Rattle.indexed_store.specs.declared.holding.Unowned.TheVariants.{IsFree}
use Rattle.indexed_store.specs.Runs.{touched_run}
use Rattle.indexed_store.specs.Holding.{HoldsIf}
use Rattle.indexed_store.proofs.TouchLemmas.{touched_agreed}
use Rattle.indexed_store.proofs.FirstLemmas.{holds-live, near-again, ports-changed}
use Rattle.indexed_store.proofs.first.make_change.Goals as goal

pub change-requires-clause-allowed : goal.change-requires-clause-allowed
change-requires-clause-allowed g c = subst (λ (t : Table). IsAllowed t c.args.kept.now.change) c.requires.ready.live_before c.requires.ready.allowed

pub change-requires-clause-after : goal.change-requires-clause-after
change-requires-clause-after g c = subst (λ (t : Table). Sound (table_changed c.args.kept.now.change t)) c.requires.ready.live_before c.requires.ready.sound_after

pub hold_touched-requires-clause-near : goal.hold_touched-requires-clause-near
hold_touched-requires-clause-near g c =
    let r = c.args.kept.now in
    near-again r.moment _ (table_changed r.change c.args.leases.now.found) c.in_ok-touched.ensures.tabled
    (c.in_ok-touched.ensures.table ∙ ap (table_changed r.change) (sym c.requires.ready.live_before)) c.requires.ready.sound_after c.requires.ready.after c.requires.formed.moment

pub returns-clause-table : goal.returns-clause-table
returns-clause-table g c =
    on_ok_weaker c.hold_touched.result (λ held. c.in_ok-touched.ensures.table ∙ ap (table_changed c.args.kept.now.change) (sym c.requires.ready.live_before)) c.hold_touched.ensures.ports

pub returns-clause-ports : goal.returns-clause-ports
returns-clause-ports g c =
    let t = c.args.leases.now.found in let r = c.args.kept.now in let run = c.in_ok-touched.touched in let w = c.hold_touched.new.ports in
    let sound = subst Sound (sym c.requires.ready.live_before) c.requires.ready.before.sound in
    let table = c.in_ok-touched.ensures.table ∙ ap (table_changed r.change) (sym c.requires.ready.live_before) in
    let touched = c.in_ok-touched.ensures.touched ∙ ap (touched_run r.change) (sym c.requires.ready.live_before) in
    let agreed = touched_agreed t sound c.requires.ready.before.tabled r.change c.requires.ready.sound_after c.requires.ready.after.tabled _ run touched c.in_ok-touched.ensures.formed in
    on_ok_weaker c.hold_touched.result (λ holds.
    let here = subst (λ (u : Table). HoldsIf IsFree r.moment u run c.args.ports.now w) table (holds-live r.moment _ run c.args.ports.now w holds) in
    ports-changed r.moment t r.change c.args.ports.now w sound c.requires.ready.allowed c.requires.keeps c.requires.ready.live_after c.requires.ports run touched agreed here)
    c.hold_touched.ensures.ports
