use Rattle.std.proofs.Common.{length, refl, ap, ◌∙◌}
use Rattle.house_workers.proofs.EndLemmas.{begins_for, begun_lanes, ends_home, rows_back, serves_to_end}
use Rattle.house_workers.proofs.LookupLemmas.{ends-lanes}
use Rattle.house_workers.proofs.serving.serve_all.Goals as goal

pub serve_begun-tally-requires-clause-passes : goal.serve_begun-tally-requires-clause-passes
serve_begun-tally-requires-clause-passes g c κs within =
    begins_for g.D.LeaseDisk.tells g.D.LeaseDisk.seen g.D.LeaseDisk.moment g.D.LeaseDisk.left_since g.D.LeaseDisk.may_leave g.D.LeaseDisk.faults
    c.args.config.now c.args.begun c.requires.begun c.of-house.result c.of-house.ensures

pub serve_begun-tally-requires-clause-lanes : goal.serve_begun-tally-requires-clause-lanes
serve_begun-tally-requires-clause-lanes g c κs within =
    ap length c.as_mut_slice-readers.ensures.value
    ∙ begun_lanes g.D.LeaseDisk.tells g.D.LeaseDisk.seen g.D.LeaseDisk.moment g.D.LeaseDisk.left_since g.D.LeaseDisk.may_leave g.D.LeaseDisk.faults
    c.args.config.now c.args.begun c.requires.begun

pub end-pairs-requires-clause-lanes : goal.end-pairs-requires-clause-lanes
end-pairs-requires-clause-lanes g c =
    ends-lanes g.D.LeaseDisk.tells g.D.LeaseDisk.seen g.D.LeaseDisk.moment g.D.LeaseDisk.left_since g.D.LeaseDisk.may_leave g.D.LeaseDisk.faults
    c.args.config.now c.args.begun c.requires.begun c.of-house.result c.into_house.result _ _ _ _ _ _
    c.of-house.ensures c.into_house.ensures c.as_mut_slice-readers.ensures.value c.serve_begun-tally.ensures

pub end-pairs-requires-clause-home : goal.end-pairs-requires-clause-home
end-pairs-requires-clause-home g c =
    ends_home g.D.LeaseDisk.tells g.D.LeaseDisk.seen g.D.LeaseDisk.moment g.D.LeaseDisk.left_since g.D.LeaseDisk.may_leave g.D.LeaseDisk.faults
    c.args.config.now c.args.begun c.requires.begun c.of-house.result c.into_house.result _ _ _ _ _ _
    c.of-house.ensures c.into_house.ensures refl c.serve_begun-tally.ensures

pub returns-clause-served : goal.returns-clause-served
returns-clause-served g c =
    serves_to_end g.D.LeaseDisk.tells g.D.LeaseDisk.seen g.D.LeaseDisk.moment g.D.LeaseDisk.left_since g.D.LeaseDisk.may_leave g.D.LeaseDisk.faults
    _ _ _ c.args.begun _ _ _ _ _ _ _ _ c.of-house.ensures c.into_house.ensures c.as_mut_slice-readers.ensures.value c.serve_begun-tally.ensures c.end-pairs.ensures.ended
    c.end-pairs.ensures.lanes

pub returns-clause-rows : goal.returns-clause-rows
returns-clause-rows g c =
    rows_back g.D.LeaseDisk.tells g.D.LeaseDisk.seen g.D.LeaseDisk.moment g.D.LeaseDisk.left_since g.D.LeaseDisk.may_leave g.D.LeaseDisk.faults
    c.args.config.now c.args.begun c.requires.begun c.of-house.result _ _ _ _ _ c.serve_begun-tally.result refl c.serve_begun-tally.ensures
