use Rattle.std.proofs.Common.{◌≡◌, sym, subst, ap, ◌∙◌, ◌+◌, Err}
use Rattle.std.proofs.lemmas.Option.{slice_get-get_or}
use Rattle.watch_runs.specs.declared.tellings.TheConstants.{MOST_LOOKS}
use Rattle.watch_runs.proofs.RunLemmas.{AreToldTo, fails_at, told_more}
use Rattle.watch_runs.proofs.runs.told_all.Goals as goal

pub returns-in-Err-File-clause-file : goal.returns-in-Err-File-clause-file
returns-in-Err-File-clause-file g c = λ shard told.
    let at = c.told_at.ensures in
    let same : c.loop-place.place ≡ shard = cc told in
    let failed = c.in-Err-File.is ∙ ap Err c.in-Err-File.field-0-is in
    fails_at g.L.JournalLooks.left MOST_LOOKS c.args.links.now c.loop-place.links c.told_at.new.links c.loop-place.place shard at.before at.after same
    c.loop-place.invariant.untouched at.was at.is (at.how.1 failed)

pub loop-place-preserved : goal.loop-place-preserved
loop-place-preserved g c =
    let left = g.L.JournalLooks.left in
    let so = c.in-Ok.ensures in
    let place = c.loop-place.place in
    let external = slice_get-get_or c.args.externals.now place _ c.loop-place-test.true in
    subst (λ all. AreToldTo left MOST_LOOKS c.args.externals.now c.args.links.now c.told_at.new.links all (place + 1)) (sym c.in_ok-push-in-Ok.ensures.items)
    (told_more left MOST_LOOKS c.args.externals.now c.args.links.now c.loop-place.links c.told_at.new.links c.loop-place.all.items place c.in-Ok.told _
    so.before so.after c.loop-place.invariant external so.was so.is so.how.0)
