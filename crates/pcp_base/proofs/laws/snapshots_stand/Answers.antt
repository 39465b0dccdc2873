use Rattle.pcp_base.proofs.SnapshotLaws.{snapshot-stands}
use Rattle.pcp_base.proofs.laws.snapshots_stand.Goals as goal

pub returns : goal.returns
returns c = snapshot-stands
