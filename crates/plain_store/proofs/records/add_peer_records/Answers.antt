use Rattle.pcp_base.specs.Snapshots.{peer_record}
use Rattle.record_sink.proofs.FormedLemmas.{formed_item}
use Rattle.plain_store.proofs.records.add_peer_records.Goals as goal

pub take-requires : goal.take-requires
take-requires g c = formed_item (peer_record c.args.m) c.args.peers.now c.loop-lease.lease-index c.lease-item.result c.requires c.loop-lease-test.true c.lease-item.is
