use Rattle.std.proofs.Common.{◌+◌, ◌∙◌, sym, ap}
use Rattle.pcp_base.specs.Owners.{port_count}
use Rattle.plain_store.specs.AddressPorts.{owners_at}
use Rattle.plain_store.proofs.CountLemmas.{one_map_more}
use Rattle.plain_store.proofs.counts.more_ports.Goals as goal

pub returns-clause-value : goal.returns-clause-value
returns-clause-value c =
    ap (λ n. n + port_count (owners_at c.args.m c.args.who.now c.args.later.now c.args.peers.now)) c.new_ports.ensures.value
    ∙ one_map_more c.args.m c.args.who.now c.args.lease.now c.args.later.now c.args.peers.now (sym c.is_map_at.ensures ∙ c.if-not-is_map_at.false)
