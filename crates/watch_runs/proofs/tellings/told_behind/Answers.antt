use Rattle.std.proofs.Common.{rules, ◌≡◌, not, inl, Err, Result, sym, subst, ap, ◌∙◌, arith}
use Rattle.watch_readings.specs.declared.readings.Told.{Told}
use Rattle.watch_runs.specs.Looks.{IsNextLook, IsToldNext}
use Rattle.watch_runs.specs.declared.links.LookFault.{LookFault}
use Rattle.watch_runs.specs.declared.links.LookFault.TheVariants.{File}
use Rattle.watch_runs.specs.declared.tellings.TheConstants.{MOST_LOOKS}
use Rattle.watch_runs.proofs.LookLemmas.{fails_behind, fails_first, looked_more, looked_once, looked_told, none_from}
use Rattle.watch_runs.proofs.tellings.told_behind.Goals as goal

pub returns-in_err-told-clause-file : goal.returns-in_err-told-clause-file
returns-in_err-told-clause-file g c = λ failed.
    let left = g.L.JournalLooks.left in
    let same : ◌≡◌ {A = Result Told LookFault} c.from_residual.result (Err c.in_err-told.field-0.0) = search rules in
    fails_first MOST_LOOKS (left c.args.link.now) (left c.told_once.new.link) (omega arith) (c.in_err-told.ensures.file (sym same ∙ failed))

pub loop-look-init : goal.loop-look-init
loop-look-init g c =
    let left = g.L.JournalLooks.left in
    record {
      within = omega arith;
      so = looked_once c.args.external.now c.args.shard (left c.args.link.now) (left c.told_once.new.link) c.in_ok-told.told c.in_ok-told.ensures.told;
    }

pub returns-then-is_none-clause-told : goal.returns-then-is_none-clause-told
returns-then-is_none-clause-told g c =
    let left = g.L.JournalLooks.left in
    looked_told MOST_LOOKS c.args.external.now c.args.shard c.loop-look._look (left c.args.link.now) (left c.loop-look.link) c.loop-look.told
    c.loop-look.invariant.so c.loop-look.invariant.within (inl (none_from c.loop-look.told.doubt (c.is_none.ensures ∙ ap not c.if-is_none.true)))

pub returns-in_err-told-2-clause-file : goal.returns-in_err-told-2-clause-file
returns-in_err-told-2-clause-file g c = λ failed.
    let left = g.L.JournalLooks.left in
    let now = left c.told_once-in-loop-look.new.link in
    let same : ◌≡◌ {A = Result Told LookFault} c.from_residual-in_err-told-2.result (Err c.in_err-told-2.field-0.0) = search rules in
    let next = subst (λ l. IsNextLook l now (Err File)) c.pause.ensures (c.in_err-told-2.ensures.file (sym same ∙ failed)) in
    fails_behind MOST_LOOKS c.args.external.now c.args.shard c.loop-look._look (left c.args.link.now) (left c.loop-look.link) now c.loop-look.told
    c.loop-look.invariant.so (omega (arith, c.loop-look-test.true)) (c.is_none.ensures ∙ ap not c.if-is_none.false) next

pub loop-look-preserved : goal.loop-look-preserved
loop-look-preserved g c =
    let left = g.L.JournalLooks.left in
    let now = left c.told_once-in-loop-look.new.link in
    let next = subst (λ l. IsToldNext c.args.external.now c.args.shard l now c.in_ok-told-2.told) c.pause.ensures c.in_ok-told-2.ensures.told in
    record {
      within = omega (arith, c.loop-look-test.true);
      so = looked_more c.args.external.now c.args.shard c.loop-look._look (left c.args.link.now) (left c.loop-look.link) now c.loop-look.told c.in_ok-told-2.told
          c.loop-look.invariant.so (c.is_none.ensures ∙ ap not c.if-is_none.false) next;
    }
