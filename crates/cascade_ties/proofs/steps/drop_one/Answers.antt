use Rattle.std.specs.BTreeMap.{values}
use Rattle.cascade_ties.specs.Kept.{ties_of}
use Rattle.cascade_ties.proofs.StepLemmas.{all_still, fewer_left, over_there, still_less}
use Rattle.cascade_ties.proofs.steps.drop_one.Goals as goal

pub returns-in_default-clause-all : goal.returns-in_default-clause-all
returns-in_default-clause-all c = all_still c.args.kept.now c.args.pool.now c.args.rests.now c.requires.kept c.args.now_ms c.in_default.ensures

pub index-requires : goal.index-requires
index-requires c = over_there c.args.kept.now c.args.pool.now c.args.rests.now c.requires.kept c.args.now_ms c.in-Some.number c.in-Some.ensures

pub returns-clause-still : goal.returns-clause-still
returns-clause-still c =
    still_less c.args.kept.now c.args.pool.now c.args.rests.now c.requires.kept c.args.now_ms c.in-Some.number c.index.result.now c.in-Some.ensures c.index.ensures
    (ties_of c.take_tie.new.pool c.args.rests.now (values c.take_tie.new.kept.leases)) c.take_tie.ensures.ties

pub returns-clause-fewer : goal.returns-clause-fewer
returns-clause-fewer c =
    fewer_left c.args.kept.now c.args.pool.now c.args.rests.now c.requires.kept c.args.now_ms c.in-Some.number c.index.result.now c.in-Some.ensures c.index.ensures
    (ties_of c.take_tie.new.pool c.args.rests.now (values c.take_tie.new.kept.leases)) c.take_tie.ensures.ties
