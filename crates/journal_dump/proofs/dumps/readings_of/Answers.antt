use Rattle.std.proofs.Common.{◌≡◌, ◌≤◌, [], ◌∷◌, ◌++◌, map, refl, sym, subst, ap, ◌∙◌, arith, Err}
use Rattle.std.proofs.lemmas.List.{map-append}
use Rattle.std.proofs.lemmas.Option.{slice_get-get_or}
use Rattle.serde_json.specs.View.{view}
use Rattle.journal_dump.specs.Turns.{AreReadAs}
use Rattle.journal_dump.proofs.TurnLemmas.{fault_at, next_read, none_read, same_behind, same_read, zip_same, zip_step}
use Rattle.journal_dump.proofs.dumps.readings_of.Goals as goal

pub loop-place-init : goal.loop-place-init
loop-place-init g c =
    let d = g.D.LeaseDisk in
    let laws = g.met.D.LeaseDisk in
    record {
      values = subst (λ vs. AreReadAs d.tells d.seen [] [] (map view vs)) (sym c.new-values.ensures.items) (none_read d.tells d.seen);
      read = zip_same _ (same_read d.moment d.left_since d.may_leave laws.only_now d.tells d.seen d.faults) c.args.pairs.now;
      untouched = λ k le. refl;
    }

pub returns-in_err-push-in-Ok-clause-read : goal.returns-in_err-push-in-Ok-clause-read
returns-in_err-push-in-Ok-clause-read g c =
    let at = c.reading_at.ensures in
    zip_step _ c.args.pairs.now c.loop-place.pairs c.reading_at.new.pairs c.loop-place.place at.before at.after
    c.loop-place.invariant.read c.loop-place.invariant.untouched at.was at.is at.how.0

pub returns-in-Err-Disk-clause-read : goal.returns-in-Err-Disk-clause-read
returns-in-Err-Disk-clause-read g c =
    let at = c.reading_at.ensures in
    zip_step _ c.args.pairs.now c.loop-place.pairs c.reading_at.new.pairs c.loop-place.place at.before at.after
    c.loop-place.invariant.read c.loop-place.invariant.untouched at.was at.is at.how.0

pub returns-in-Err-Disk-clause-disk_fault : goal.returns-in-Err-Disk-clause-disk_fault
returns-in-Err-Disk-clause-disk_fault g c = λ shard told.
    let at = c.reading_at.ensures in
    let same : c.loop-place.place ≡ shard = cc told in
    let failed = c.in-Err-Disk.is ∙ ap Err c.in-Err-Disk.field-0-is in
    fault_at g.D.LeaseDisk.faults c.args.pairs.now c.loop-place.pairs c.reading_at.new.pairs c.loop-place.place shard at.before at.after same
    c.loop-place.invariant.untouched at.was at.is (at.how.1.risen failed)

pub returns-in-Err-Memory-clause-read : goal.returns-in-Err-Memory-clause-read
returns-in-Err-Memory-clause-read g c =
    let at = c.reading_at.ensures in
    zip_step _ c.args.pairs.now c.loop-place.pairs c.reading_at.new.pairs c.loop-place.place at.before at.after
    c.loop-place.invariant.read c.loop-place.invariant.untouched at.was at.is at.how.0

pub loop-place-preserved : goal.loop-place-preserved
loop-place-preserved g c =
    let d = g.D.LeaseDisk in
    let at = c.reading_at.ensures in
    let so = c.in-Ok.ensures in
    let place = c.loop-place.place in
    let reached : place ≤ place = omega arith in
    let external = slice_get-get_or c.args.externals.now place _ c.loop-place-test.true in
    let pair = sym (c.loop-place.invariant.untouched place reached) ∙ so.was in
    let next = next_read d.tells d.seen c.args.externals.now c.args.pairs.now (map view c.loop-place.values.items) place _ so.before (view c.in-Ok.value)
    c.loop-place.invariant.values external pair so.how.2 in
    let pushed : map view c.push.new.self.items ≡ map view c.loop-place.values.items ++ view c.in-Ok.value ∷ [] =
    ap (map view) c.in_ok-push-in-Ok.ensures.items ∙ map-append view c.loop-place.values.items (c.in-Ok.value ∷ []) in
    record {
      values = subst (AreReadAs d.tells d.seen _ _) (sym pushed) next;
      read = zip_step _ c.args.pairs.now c.loop-place.pairs c.reading_at.new.pairs place at.before at.after
          c.loop-place.invariant.read c.loop-place.invariant.untouched at.was at.is at.how.0;
      untouched = same_behind c.args.pairs.now c.loop-place.pairs c.reading_at.new.pairs place at.after
          c.loop-place.invariant.untouched at.is;
    }
