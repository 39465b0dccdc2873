use Rattle.std.proofs.Common.{refl, rules}
use Rattle.std.proofs.lemmas.Option.{slice_get_read}
use Rattle.serve_runs.proofs.HandLemmas.{updates-more}
use Rattle.serve_runs.proofs.updates.send_own.Goals as goal

pub loop-place-preserved : goal.loop-place-preserved
loop-place-preserved g c =
    updates-more c.args.config.now c.args.updates.now c.loop-place.place c.index-updates-place.result _ _ _
    (slice_get_read c.args.updates.now _ c.loop-place.place c.index-updates-place.result refl (search rules) c.index-updates-place.is)
    c.loop-place.invariant c.send_update.ensures
