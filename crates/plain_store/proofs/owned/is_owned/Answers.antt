use Rattle.std.proofs.Common.{sym, ◌∙◌}
use Rattle.pcp_base.specs.Tables.{live}
use Rattle.pcp_base.proofs.PortLemmas.{owned_of_either}
use Rattle.plain_store.proofs.owned.is_owned.Goals as goal

pub returns : goal.returns
returns c =
    let t = live c.args.replay.now.table c.args.m in
    rw (c.maps.ensures, c.peers.ensures) at c.has_owner.ensures ∙ sym (owned_of_either c.args.protocol c.args.port t.maps t.peers)
