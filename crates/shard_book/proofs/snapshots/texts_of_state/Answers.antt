use Rattle.std.proofs.Common.{◌++◌, [], List, ap, ◌∙◌}
use Rattle.pcp_base.specs.declared.records.Record.{Record}
use Rattle.shard_book.specs.KeptTexts.{KeptRecords}
use Rattle.shard_book.proofs.snapshots.texts_of_state.Goals as goal

pub put_snapshot-requires-clause-none : goal.put_snapshot-requires-clause-none
put_snapshot-requires-clause-none g c = ap (λ (k : KeptRecords). k.sure ++ k.added) c.new-texts.ensures

pub returns : goal.returns
returns g c = c.confirm.ensures ∙ ap (λ (l : List Record). record { sure = l; added = [] }) c.in_ok-put_snapshot.ensures
