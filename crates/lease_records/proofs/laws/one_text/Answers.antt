use Rattle.lease_records.proofs.RecordLaws.{one_text}
use Rattle.lease_records.proofs.laws.one_text.Goals as goal

pub returns : goal.returns
returns c = one_text
