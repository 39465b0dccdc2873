use Rattle.std.proofs.Common.{sym, ◌∙◌}
use Rattle.std.specs.Bool.{⊤}
use Rattle.std.proofs.lemmas.Result.{IfOk-weaker}
use Rattle.watch_readings.specs.Copies.{sides_of}
use Rattle.watch_readings.proofs.ReadingLemmas.{told_settled, told_still, told_unsettled}
use Rattle.watch_readings.proofs.looks.told_of.Goals as goal

pub returns-in-Some : goal.returns-in-Some
returns-in-Some c =
    let place = c.args.place.now in
    let sides = c.in-Some.sides in
    IfOk-weaker c.told_of_octets.result _ _
    (λ told is. told_settled (sides_of c.args.a.now c.args.b.now) sides place.external place.shard place.time told (sym c.in_ok-sides.ensures ∙ c.in-Some.is)
    (told_still ⊤ c.items.result.now c.items-in-Some.result.now sides.0 sides.1 place.external place.shard place.time told c.items.ensures c.items-in-Some.ensures is))
    c.told_of_octets.ensures

pub returns-in-None : goal.returns-in-None
returns-in-None c =
    let place = c.args.place.now in
    IfOk-weaker c.unsettled_told.result _ _
    (λ told is. told_unsettled (sides_of c.args.a.now c.args.b.now) place.external place.shard place.time told (sym c.in_ok-sides.ensures ∙ c.in-None.is) is)
    c.unsettled_told.ensures
