-- What a crash may leave while a journal is read again that stands for one of two states.
use Rattle.std.proofs.Common.{◌≡◌, inl, ⊎_elim, ℕ, ◌-◌, ◌^◌, ◌<◌, List, refl, sym, subst}
use Rattle.std.specs.Prelude.{◌⊎◌}
use Rattle.pcp_base.specs.declared.records.Record.{Record}
use Rattle.pcp_base.specs.Apply.{apply_all}
use Rattle.pcp_base.specs.States.{State}
use Rattle.lease_disk.specs.declared.disks.DiskPair.{DiskPair}
use Rattle.lease_disk.specs.Pairs.{HoldsNow, PairLeavesOnly}
use Rattle.lease_disk.proofs.PairLemmas.{pair_goes_on, pair_weaker}
use Rattle.lease_journal.specs.declared.errors.Found.{Found}
use Rattle.lease_journal.specs.declared.errors.Found.TheVariants.{Recovered, Blank, Damaged}
use Rattle.journal_sides.specs.declared.formats.Format.TheVariants.{Second}
use Rattle.journal_sides.specs.declared.sides.Side.{Side}
use Rattle.journal_sides.specs.declared.walks.Standing.{Standing}
use Rattle.journal_sides.specs.Journals.{StandsFor, StandsForWithOrWithout}
use Rattle.journal_sides.specs.Laws.{OneState, RecoveredAlone}
use Rattle.journal_sides.specs.Settled.{StandsBy}
use Rattle.journal_sides.specs.Writes.{of_side, other}
use Rattle.shard_book.specs.Keepings.{IsBeside}
use Rattle.lease_journal.specs.Views.{JournalView, IsSettled}
use Rattle.lease_journal.specs.Openings.{HasStarted, IsShutAnew, IsStillOrShut, LeavesOld, MayOpen, Opens}
use Rattle.shard_book.specs.Addresses.{renumbering}
use Rattle.shard_book.specs.Openings.{IsOnOther, IsOpenedAnew, IsStartUnless, MayOpenBook, OpensBook}
use Rattle.pcp_base.specs.declared.addresses.Address.{Address}
use Rattle.lease_journal.specs.Openings.{FoundMeans}
use Rattle.shard_book.proofs.OpenLemmas.{may_known, one_of, opens_may}

pub started_start : (m : ℕ) (side : Side) (standing : Standing) (s : State) (found : Found) → HasStarted m side standing s found → IsStartUnless m s found
started_start m side standing s Recovered is = tt
started_start m side standing s Blank is = is.state
started_start m side standing s Damaged is = is.state

pub second_unless : (m : ℕ) (side : Side) (standing : Standing) (s : State) (found : Found) → HasStarted m side standing s found → (found ≡ Recovered → ⊥) → standing.format ≡ Second
second_unless m side standing s Recovered is not = absurd (not refl)
second_unless m side standing s Blank is not = is.new.second
second_unless m side standing s Damaged is not = is.new.second

-- where no records were found the start stands on side a, and side b is beside it
pub beside_start : {D : Type 0} (seen : D → List ℕ) (m : ℕ) (s : State) (found : Found) (old new : JournalView D) → HasStarted m old.side old.standing s found → (found ≡ Recovered → ⊥) → IsBeside seen old new → seen new.pair.b ≡ seen old.pair.b
beside_start seen m s Recovered old new started not is = absurd (not refl)
beside_start seen m s Blank old new started not is = subst (λ (side : Side). of_side (other side) (seen new.pair.a) (seen new.pair.b) ≡ of_side (other side) (seen old.pair.a) (seen old.pair.b)) started.on_a is
beside_start seen m s Damaged old new started not is = subst (λ (side : Side). of_side (other side) (seen new.pair.a) (seen new.pair.b) ≡ of_side (other side) (seen old.pair.a) (seen old.pair.b)) started.on_a is

-- what was found stands on the sides as they were, or side b is shut
pub written_anew : {D : Type 0} (tells : Type 0) (seen : D → List ℕ) (may_leave : D → List ℕ → Type 0) (old : DiskPair D) (mid new : JournalView D) (s : State) (found : Found) → (tells → IsStillOrShut seen old mid.pair found) → (tells → IsSettled seen may_leave mid s)
    → (found ≡ Recovered → mid.standing.generation < 2 ^ 64 - 1 → IsOnOther mid.side mid.standing.generation new) → (tells → (found ≡ Recovered → ⊥) → seen new.pair.b ≡ seen mid.pair.b) → IsOpenedAnew tells seen old s new found
written_anew tells seen may_leave old mid new s Recovered still settled goes beside = record {
  side = mid.side;
  standing = mid.standing;
  stood = λ told.
      let is = still told in
      subst (λ (l : List ℕ). StandsBy mid.side mid.standing s l (seen old.b)) is.a (subst (λ (l : List ℕ). StandsBy mid.side mid.standing s (seen mid.pair.a) l) is.b (settled told).sides);
  anew = goes refl;
}
written_anew tells seen may_leave old mid new s Blank still settled goes beside = λ told. subst (λ (l : List ℕ). IsShutAnew (seen old.b) l) (sym (beside told (λ is. absurd cc))) (still told)
written_anew tells seen may_leave old mid new s Damaged still settled goes beside = λ told. subst (λ (l : List ℕ). IsShutAnew (seen old.b) l) (sym (beside told (λ is. absurd cc))) (still told)

module _ {D : Type 0} (seen : D → List ℕ) (moment : D → ℕ) (left_since : D → ℕ → List ℕ → Type 0) (may_leave : D → List ℕ → Type 0) where
  pub reading_runs : OneState → RecoveredAlone → (m : ℕ) (old new : DiskPair D) (s : State) (rs : List Record) → HoldsNow may_leave (StandsForWithOrWithout s rs) old → StandsForWithOrWithout s rs (seen old.a) (seen old.b)
      → Opens seen moment left_since may_leave m old new ⊎ LeavesOld moment left_since may_leave old new → PairLeavesOnly moment left_since may_leave old new (StandsForWithOrWithout s rs)
  reading_runs one alone m old new s rs holds known =
      let P : List ℕ → List ℕ → Type 0 = StandsForWithOrWithout s rs in
      ⊎_elim
      (λ (opens : Opens seen moment left_since may_leave m old new).
      pair_goes_on moment left_since may_leave old opens.synced new P
      (pair_weaker moment left_since may_leave old opens.synced _ P opens.until (λ x y left. holds x y left.0 left.1))
      (pair_weaker moment left_since may_leave opens.synced new (MayOpen m (seen old.a) (seen old.b)) P opens.from (λ x y may. may_known one alone m (seen old.a) (seen old.b) s rs x y known may)))
      (λ (still : LeavesOld moment left_since may_leave old new). pair_weaker moment left_since may_leave old new _ P still (λ x y left. holds x y left.0 left.1))

  -- a run that stands for what was found stands for one of the two
  pub found_runs : (old new : DiskPair D) (s t : State) (rs : List Record) → (t ≡ s) ⊎ (t ≡ apply_all s rs) → PairLeavesOnly moment left_since may_leave old new (StandsFor t) → PairLeavesOnly moment left_since may_leave old new (StandsForWithOrWithout s rs)
  found_runs old new s t rs which run = pair_weaker moment left_since may_leave old new (StandsFor t) (StandsForWithOrWithout s rs) run (λ x y stands. one_of s t rs x y which stands)

  -- an opening, and then the Renumber
  pub opening_runs : (m : ℕ) (address : Address) (old mid new : DiskPair D) (s : State) (found : Found) → FoundMeans m (seen old.a) (seen old.b) s found → Opens seen moment left_since may_leave m old mid
      → PairLeavesOnly moment left_since may_leave mid new (StandsForWithOrWithout s (renumbering m address s)) → OpensBook seen moment left_since may_leave m address old new
  opening_runs m address old mid new s found is opens run =
      let Q : List ℕ → List ℕ → Type 0 = MayOpenBook m address (seen old.a) (seen old.b) in
      record {
        synced = opens.synced;
        until = opens.until;
        durable = opens.durable;
        still = opens.still;
        «from» = pair_goes_on moment left_since may_leave opens.synced mid new Q
            (pair_weaker moment left_since may_leave opens.synced mid (MayOpen m (seen old.a) (seen old.b)) Q opens.from (λ x y may. inl may))
            (pair_weaker moment left_since may_leave mid new (StandsForWithOrWithout s (renumbering m address s)) Q run (λ x y stands. opens_may m address (seen old.a) (seen old.b) s found x y is stands));
      }

  pub opens_book : (m : ℕ) (address : Address) (old mid : DiskPair D) → Opens seen moment left_since may_leave m old mid → OpensBook seen moment left_since may_leave m address old mid
  opens_book m address old mid opens =
      let Q : List ℕ → List ℕ → Type 0 = MayOpenBook m address (seen old.a) (seen old.b) in
      record {
        synced = opens.synced;
        until = opens.until;
        durable = opens.durable;
        still = opens.still;
        «from» = pair_weaker moment left_since may_leave opens.synced mid (MayOpen m (seen old.a) (seen old.b)) Q opens.from (λ x y may. inl may);
      }
