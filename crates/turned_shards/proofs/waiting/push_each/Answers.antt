use Rattle.std.specs.List.{slice_get}
use Rattle.std.proofs.Common.{◌≡◌, Some, refl}
use Rattle.std.proofs.lemmas.Option.{slice_get_read}
use Rattle.turned_shards.proofs.LaneLemmas.{next-pushed}
use Rattle.turned_shards.proofs.waiting.push_each.Goals as goal

pub push-requires-clause-later : goal.push-requires-clause-later
push-requires-clause-later c =
    let i = c.loop-kept.kept-index in
    let r = c.kept-item.result in
    let there : slice_get c.args.records.now i ≡ Some r =
    slice_get_read c.args.records.now _ i r refl c.loop-kept-test.true c.kept-item.is in
    (next-pushed c.args.writer.now c.loop-kept.writer _ r c.loop-kept.invariant.pushed
    (c.requires i r there)).later

pub push-requires-clause-sound : goal.push-requires-clause-sound
push-requires-clause-sound c =
    let i = c.loop-kept.kept-index in
    let r = c.kept-item.result in
    let there : slice_get c.args.records.now i ≡ Some r =
    slice_get_read c.args.records.now _ i r refl c.loop-kept-test.true c.kept-item.is in
    (next-pushed c.args.writer.now c.loop-kept.writer _ r c.loop-kept.invariant.pushed
    (c.requires i r there)).sound
