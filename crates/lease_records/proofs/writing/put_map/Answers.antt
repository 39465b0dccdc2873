use Rattle.std.proofs.Common.{arith}
use Rattle.std.proofs.lemmas.Grind.{common_steps}
use Rattle.lease_records.proofs.AppendLaws.{still_in_front}
use Rattle.lease_records.proofs.writing.put_map.Goals as goal

pub returns-in_err-put_term-clause-old : goal.returns-in_err-put_term-clause-old
returns-in_err-put_term-clause-old c = still_in_front _ _ _ (grind (arith, common_steps)) c.put_term.ensures.old

pub returns-clause-old : goal.returns-clause-old
returns-clause-old c = still_in_front _ _ _ (grind (arith, common_steps)) c.put_filters.ensures.old
