use Rattle.std.proofs.Common.{ap, ◌∙◌}
use Rattle.std.specs.Option.{option_map}
use Rattle.pcp_base.specs.declared.leases.PeerLease.{PeerLease}
use Rattle.pcp_base.specs.Tables.{live}
use Rattle.indexed_store.proofs.Uniques.{opening-find}
use Rattle.indexed_store.proofs.leases.Leases.behind_peer.Goals as goal

pub returns-in_default : goal.returns-in_default
returns-in_default c =
    ap (option_map (λ (l : PeerLease). l.endpoint))
    (c.in_default.ensures ∙ opening-find c.args.protocol c.args.port c.args.remote.now c.args.remote_port (live c.args.self.now.all c.args.m).peers)

pub returns : goal.returns
returns c =
    ap (option_map (λ (l : PeerLease). l.endpoint))
    (c.in-Some.ensures ∙ opening-find c.args.protocol c.args.port c.args.remote.now c.args.remote_port (live c.args.self.now.all c.args.m).peers)
