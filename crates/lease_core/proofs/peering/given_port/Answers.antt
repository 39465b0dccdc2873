use Rattle.std.proofs.Common.{◌∙◌, sym}
use Rattle.lease_core.proofs.RoomLemmas.{own_port-fits}
use Rattle.lease_core.proofs.peering.given_port.Goals as goal

pub port_within-requires : goal.port_within-requires
port_within-requires g c =
    own_port-fits (g.S.LeaseStore.state c.args.store.now) (g.S.LeaseStore.reached c.args.store.now) c.args.endpoint.now
    c.in-Some.lease c.requires.sound (sym c.covering.ensures.lease ∙ c.in-Some.is)
