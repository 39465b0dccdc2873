use Rattle.lease_records.proofs.AppendLaws.{front_of, still_in_front}
use Rattle.lease_records.proofs.writing.put_filters.Goals as goal

pub returns-in_err-put_filter-clause-old : goal.returns-in_err-put_filter-clause-old
returns-in_err-put_filter-clause-old c = still_in_front _ _ _ (front_of _ _ _ c.loop-filter.invariant.text) c.put_filter.ensures.old
