use Rattle.std.proofs.Common.{sym, ◌∙◌}
use Rattle.job_workers.proofs.SendLemmas.{tells-one}
use Rattle.job_workers.proofs.sends.send_by.Goals as goal

pub returns : goal.returns
returns g c = tells-one _ c.in-Some.group c.args.port c.args.octets.now c.send_one-sent.result _ _ _ _
    (sym c.group_of.ensures ∙ c.in-Some.is) c.send_one-sent.ensures
