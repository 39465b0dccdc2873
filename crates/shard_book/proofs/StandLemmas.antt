-- A snapshot stands alone for its state.
use Rattle.std.proofs.Common.{◌≡◌, true, List, sym, subst, ◌∙◌, ap}
use Rattle.pcp_base.specs.declared.records.Record.{Record}
use Rattle.pcp_base.specs.Apply.{state_of}
use Rattle.pcp_base.specs.Fits.{AllFit}
use Rattle.pcp_base.specs.Laws.{SnapshotsStand}
use Rattle.pcp_base.specs.Reached.{IsReached}
use Rattle.pcp_base.specs.Snapshots.{snapshot}
use Rattle.pcp_base.specs.States.{State, empty_state}
use Rattle.shard_book.specs.Insides.{StandAlone}

pub stand_snapshot : SnapshotsStand → (s : State) (sure : List Record) → IsReached s → s.started ≡ true → sure ≡ snapshot s → StandAlone sure s
stand_snapshot stand s sure is started same = record {
  fit = subst (AllFit empty_state) (sym same) (stand s is started).0;
  state = ap state_of same ∙ (stand s is started).1;
}
