use Rattle.std.proofs.Common.{◌+◌, refl}
use Rattle.port_runs.proofs.WordBits.{next_run_is}
use Rattle.port_runs.proofs.words.next_run.Goals as goal

pub returns : goal.returns
returns c =
    let gap = c.run_from.result in
    let run = c.run_from-2.result in
    next_run_is c.args.word gap c.args.place (c.args.place + gap) (c.args.place + gap + run) run c.ranges.word.fits c.requires c.run_from.ensures refl c.run_from-2.ensures refl
