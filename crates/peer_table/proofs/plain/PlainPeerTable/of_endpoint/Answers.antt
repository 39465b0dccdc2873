use Rattle.std.proofs.Common.{◌≡◌, find, Some, None, rules}
use Rattle.peer_table.specs.PeerLists.{is_live_of}
use Rattle.peer_table.proofs.Finds.{none_counted, port_use-found}
use Rattle.peer_table.proofs.plain.PlainPeerTable.of_endpoint.Goals as goal

pub returns-in_err-external-clause-used : goal.returns-in_err-external-clause-used
returns-in_err-external-clause-used g c =
    let none : find (is_live_of c.args.endpoint.now c.args.m) c.args.self.now ≡ None = search rules in
    let counted = none_counted (is_live_of c.args.endpoint.now c.args.m) c.args.self.now none in
    search rules

pub returns-clause-used : goal.returns-clause-used
returns-clause-used g c =
    let found : find (is_live_of c.args.endpoint.now c.args.m) c.args.self.now ≡ Some c.in_ok-external.field-0.now = search rules in
    let among = port_use-found c.args.endpoint.now c.args.m c.args.self.now c.in_ok-external.field-0.now found in
    record { external = among; count = search rules; none = tt }
