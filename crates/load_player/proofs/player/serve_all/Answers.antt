use Rattle.std.proofs.Common.{arith}
use Rattle.load_player.specs.LoadRuns.{kinds_of, planned_to}
use Rattle.load_player.proofs.RunLemmas.{length-kinds_of, length-planned_to}
use Rattle.load_player.proofs.player.serve_all.Goals as goal

pub serve_next-requires-clause-few : goal.serve_next-requires-clause-few
serve_next-requires-clause-few g c =
    let plan = c.args.plan in
    let requests = planned_to plan c.loop-i.i in
    let begun = g.A.LoadAnswerer.house c.args.answerer.now in
    let all = length-kinds_of g.A.LoadAnswerer.effects begun requests in
    let count = length-planned_to plan c.loop-i.i in
    let more = c.loop-i-test.true in
    (kinds_of g.A.LoadAnswerer.effects begun requests, c.loop-i.invariant.serving.counts, omega arith)
