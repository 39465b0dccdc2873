use Rattle.std.proofs.Common.{sym, ◌∙◌}
use Rattle.serve_runs.proofs.HandLemmas.{by-one}
use Rattle.serve_runs.proofs.updates.send_by.Goals as goal

pub returns : goal.returns
returns g c =
    by-one c.args.update.now c.args.door.now _ c.send_one-sent.result c.items-octets.result.now _ _
    (sym c.reaches.ensures ∙ c.if-not-reaches.false) c.items-octets.ensures c.send_one-sent.ensures
