use Rattle.std.proofs.Common.{ℕ, ◌≤◌, ◌-◌, ◌&&◌, Some, cond, sym, ap, ◌∙◌, subst, arith}
use Rattle.std.proofs.lemmas.Result.{on_ok_weaker}
use Rattle.pcp_base.specs.Tables.{same_protocol}
use Rattle.port_runs.specs.Ports.{is_in_run}
use Rattle.leased_ports.specs.Leased.{end_of}
use Rattle.leased_ports.specs.Among.{runs_among}
use Rattle.port_spans.specs.Along.{end_along, spot_of}
use Rattle.leased_ports.proofs.AmongLemmas.{among_one}
use Rattle.leased_ports.proofs.ViewLemmas.{one_port}
use Rattle.leased_ports.proofs.ports.LeasedPorts.put.Goals as goal

pub put_run-requires : goal.put_run-requires
put_run-requires g c = record {
  is_last = c.requires;
  some = omega (arith, c.single-one.ensures.one);
  external = c.single-one.ensures.external;
  internal = c.single-one.ensures.internal;
}

pub returns-clause-ports : goal.returns-clause-ports
returns-clause-ports g c =
    let last = c.args.last.now in
    on_ok_weaker c.put_run.result (λ told q port. told q port
    ∙ ap (λ (n : ℕ). cond (same_protocol last.endpoint.protocol q && is_in_run last.external n port) (Some (end_along (port - last.external) last)) (end_of c.args.self.now q port)) c.single-one.ensures.one
    ∙ one_port last q port (end_of c.args.self.now q port)) c.put_run.ensures.ports

pub returns-clause-steps : goal.returns-clause-steps
returns-clause-steps g c =
    let runs = c.args.self.now.runs in
    let at = spot_of c.args.last.now in
    let most : runs_among runs at c.single-one.result ≤ 1 = subst (λ (n : ℕ). runs_among runs at n ≤ 1) (sym c.single-one.ensures.one) (among_one runs at) in
    let told = c.put_run.ensures.steps in
    omega (arith, most, told)
