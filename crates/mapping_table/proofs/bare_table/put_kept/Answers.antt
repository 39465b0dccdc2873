use Rattle.std.proofs.Common.{◌+◌, ◌≤◌, length, arith}
use Rattle.std.specs.BTreeMap.{values}
use Rattle.step_count.specs.Levels.{levels}
use Rattle.mapping_table.proofs.LevelLemmas.{one-level}
use Rattle.mapping_table.proofs.bare_table.put_kept.Goals as goal

pub returns-in-Some-clause-steps : goal.returns-in-Some-clause-steps
returns-in-Some-clause-steps g c =
    let n = length (values c.args.kept.now.leases) in
    let one : levels n ≤ levels (n + 1) = one-level c.levels_grow.ensures n c.requires.sieved.counted.kept.sound.few in
    let a = c.look.ensures in let b = c.replace.ensures.steps in omega (arith, one, a, b)

pub returns-in-None-clause-steps : goal.returns-in-None-clause-steps
returns-in-None-clause-steps g c =
    let n = length (values c.args.kept.now.leases) in
    let one : levels n ≤ levels (n + 1) = one-level c.levels_grow.ensures n c.requires.sieved.counted.kept.sound.few in
    let a = c.look.ensures in let b = c.append.ensures.steps in omega (arith, one, a, b)

pub returns-in-Some-clause-put : goal.returns-in-Some-clause-put
returns-in-Some-clause-put g c = record { ok = c.replace.ensures.put; err = tt }
