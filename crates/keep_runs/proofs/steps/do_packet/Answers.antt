use Rattle.std.proofs.Common.{◌≡◌, true, false, refl, rules}
use Rattle.client_runs.specs.Links.{Drawing, Sending}
use Rattle.keep_runs.specs.Keeping.{has_use, step_lines, step_request, stepped}
use Rattle.keep_runs.specs.Steps.{Sides}
use Rattle.keep_runs.proofs.StepLemmas.{acted, idles, lacks_memory, lacks_word, one_drawn}
use Rattle.keep_runs.proofs.steps.do_packet.Goals as goal

pub returns-then-not-has_use : goal.returns-then-not-has_use
returns-then-not-has_use g c =
    let idle : has_use c.args.keeper.now c.args.packet.now c.args.now_ms ≡ false = search rules in
    idles c.args.server c.args.keeper.now c.args.packet.now c.args.now_ms _ idle

pub returns-in_default : goal.returns-in_default
returns-in_default g c =
    let needed : has_use c.args.keeper.now c.args.packet.now c.args.now_ms ≡ true = search rules in
    lacks_word c.args.server c.args.keeper.now c.args.packet.now c.args.now_ms _ _ needed (search rules) c.word.ensures.cause.later (c.word.ensures.cause.failed (search rules)) refl refl refl

pub returns-in_default-step : goal.returns-in_default-step
returns-in_default-step g c =
    let d : Drawing = record { words = g.E.Entropy.words c.args.entropy.now; faults = g.E.Entropy.faults c.args.entropy.now } in
    let d' : Drawing = record { words = g.E.Entropy.words c.word.new.self; faults = g.E.Entropy.faults c.word.new.self } in
    lacks_memory c.args.server c.args.keeper.now c.args.packet.now c.args.now_ms _ _ _ c.in-Ok.word (one_drawn c.in-Ok.word d d' c.in-Ok.ensures.gives c.word.ensures.cause.later) refl refl refl

pub returns : goal.returns
returns g c =
    let needed : has_use c.args.keeper.now c.args.packet.now c.args.now_ms ≡ true = search rules in
    let d : Drawing = record { words = g.E.Entropy.words c.args.entropy.now; faults = g.E.Entropy.faults c.args.entropy.now } in
    let d' : Drawing = record { words = g.E.Entropy.words c.word.new.self; faults = g.E.Entropy.faults c.word.new.self } in
    acted c.args.server c.args.keeper.now c.args.packet.now c.args.now_ms c.step.new.keeper c.in-Ok.word _ _ _ _ needed (search rules) (search rules) (search rules)
    (one_drawn c.in-Ok.word d d' c.in-Ok.ensures.gives c.word.ensures.cause.later) c.act.result c.act.ensures
