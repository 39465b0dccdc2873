use Rattle.std.proofs.Common.{◌≡◌, filter, ap, ◌∙◌}
use Rattle.std.proofs.lemmas.Result.{IfOk-weaker}
use Rattle.leased_ports.specs.Listed.{listed, spot_end, has_come, ends_come}
use Rattle.leased_ports.proofs.CopyLemmas.{come_seen}
use Rattle.leased_ports.proofs.ports.LeasedPorts.copy_ends.Goals as goal

pub copy-requires-clause-apart : goal.copy-requires-clause-apart
copy-requires-clause-apart c = c.self.invariant.in_step.scheduled.apart

pub copy-requires-clause-set : goal.copy-requires-clause-set
copy-requires-clause-set c = c.self.invariant.in_step.scheduled.set

pub returns : goal.returns
returns c =
    let a = c.self.inside in
    IfOk-weaker c.copy.result (λ all. all.items ≡ filter (has_come c.args.m) (listed (spot_end a.ends) 0 131072)) (λ all. all.items ≡ ends_come c.args.m c.args.self.now) (λ all told. told ∙ come_seen a.low a.high a.quota a.settled a.reached a.ends c.args.m ∙ ap (ends_come c.args.m) c.self.view_is) c.copy.ensures
