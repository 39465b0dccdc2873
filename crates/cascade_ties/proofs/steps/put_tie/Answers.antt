use Rattle.cascade_ties.proofs.StepLemmas.{back_table, key_free, may_be_held, port_free, put_seen, put_table}
use Rattle.cascade_ties.proofs.steps.put_tie.Goals as goal

pub hold-requires : goal.hold-requires
hold-requires c = may_be_held c.args.kept.now c.args.pool.now c.args.rests.now c.requires.kept c.args.tied c.requires.may

pub append-requires-clause-kept : goal.append-requires-clause-kept
append-requires-clause-kept c = c.requires.kept.ties

pub append-requires-clause-key : goal.append-requires-clause-key
append-requires-clause-key c = key_free c.args.kept.now c.args.pool.now c.args.rests.now c.requires.kept c.args.tied c.requires.may

pub append-requires-clause-port : goal.append-requires-clause-port
append-requires-clause-port c = port_free c.args.kept.now c.args.pool.now c.args.rests.now c.requires.kept c.args.tied c.requires.may

pub returns-in-Err-clause-kept : goal.returns-in-Err-clause-kept
returns-in-Err-clause-kept c =
    back_table c.args.kept.now c.args.pool.now c.args.rests.now c.requires.kept c.args.tied c.requires.may c.append.new.kept c.hold.new.self c.in_ok-hold.ensures.ok
    c.release.new.self c.in-Err.ensures.err c.release.ensures

pub returns-clause-kept : goal.returns-clause-kept
returns-clause-kept c =
    put_table c.args.kept.now c.args.pool.now c.args.rests.now c.requires.kept c.args.tied c.requires.may c.append.new.kept c.hold.new.self c.in_ok-hold.ensures.ok c.in_default.ensures.ok

pub returns-clause-ties : goal.returns-clause-ties
returns-clause-ties c = record {
  ok = put_seen c.args.kept.now c.args.pool.now c.args.rests.now c.requires.kept c.args.tied c.requires.may c.append.new.kept c.hold.new.self c.in_ok-hold.ensures.ok c.in_default.ensures.ok;
  err = tt;
}
