use Rattle.std.proofs.Common.{◌≡◌, ◌++◌, map, take}
use Rattle.journal_watch.specs.declared.happenings.Happening.TheVariants.{FoundMap}
use Rattle.watch_readings.proofs.readings.put_maps.Given as goal

abbrev pub invariant-loop-lease : goal.invariant-loop-lease
invariant-loop-lease l = l.told.items ≡ l.fn.told.items ++ map FoundMap (take l.lease-index l.maps)
