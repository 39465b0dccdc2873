use Rattle.std.proofs.Common.{ap, ◌∙◌}
use Rattle.leased_ports.specs.Leased.{Leased, end_of, while_recent}
use Rattle.leased_ports.proofs.ports.LeasedPorts.last_end.Goals as goal

pub returns : goal.returns
returns c =
    c.recent_end.ensures
    ∙ ap (λ (v : Leased). while_recent v.reached (end_of v c.args.protocol c.args.port)) c.self.view_is
