use Rattle.std.proofs.Common.{◌<◌, ◌≤◌, arith}
use Rattle.peer_table.proofs.NextNamed.{named_nowhere, named_elsewhere, named_behind, named_first}
use Rattle.peer_table.proofs.named.next_named.Goals as goal

pub returns-in_default-clause-next : goal.returns-in_default-clause-next
returns-in_default-clause-next g c = named_nowhere c.args.kept.now c.requires c.args.endpoint.now c.bound_at.result c.bound_at.ensures c.args.end c.in_default.ensures

pub returns-in_default-port_beside-clause-next : goal.returns-in_default-port_beside-clause-next
returns-in_default-port_beside-clause-next g c = named_elsewhere c.args.kept.now c.requires c.args.endpoint.now c.bound_at.result c.bound_at.ensures c.args.end c.in-Some.first c.in-Some.ensures c.in_default-port_beside.ensures.none

pub returns-then-end-from-clause-next : goal.returns-then-end-from-clause-next
returns-then-end-from-clause-next g c =
    let late : c.args.end ≤ c.in-Some-port_beside.port = (let past = c.if-end-from.true in let same = c.from.ensures in omega (arith, past, same)) in
    named_behind c.args.kept.now c.requires c.args.endpoint.now c.bound_at.result c.bound_at.ensures c.args.end c.in-Some.first c.in-Some.ensures c.in-Some-port_beside.port c.in-Some-port_beside.ensures.some late

pub returns-clause-next : goal.returns-clause-next
returns-clause-next g c =
    let early : c.in-Some-port_beside.port < c.args.end = (let before = c.if-end-from.false in let same = c.from.ensures in omega (arith, before, same)) in
    named_first c.args.kept.now c.requires c.args.endpoint.now c.bound_at.result c.bound_at.ensures c.args.end c.in-Some.first c.in-Some.ensures c.in-Some-port_beside.port c.in-Some-port_beside.ensures.some early
