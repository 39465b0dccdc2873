use Rattle.house_workers.proofs.LookupLemmas.{looked-at}
use Rattle.house_workers.proofs.lookups.lookups_are_of_histories.Goals as goal

pub returns : goal.returns
returns g c config groups port m before pairs begun old new result read rows begins serves ran place turn last was is
    there came here now =
    looked-at c.looks_depend_on_tables.ensures config begins.books begun.house.turns begun.passes.items serves.ended
    begun.lanes.items serves.then.lanes ran.served.before.links ran.served.after.links ran.served.before.lane_clocks
    ran.served.after.lane_clocks place turn last was is begins.begins.each serves.lanes
    ran.served.serves.runs.lanes there came here now
