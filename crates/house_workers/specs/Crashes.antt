-- What a crash leaves of the journals of a house that was served (our own).
use Rattle.std.specs.Prelude.{◌≡◌, ◌⊎◌, ℕ, ◌/◌, List, [], ◌∷◌, ◌++◌, length, map, Some}
use Rattle.std.specs.List.{AllByRecursion, AllZip, slice_get}
use Rattle.pcp_base.specs.declared.addresses.Address.{Address}
use Rattle.pcp_base.specs.declared.configs.External.{External}
use Rattle.pcp_base.specs.declared.datagrams.Datagram.{Datagram}
use Rattle.pcp_base.specs.declared.datagrams.Entry.{Entry}
use Rattle.pcp_base.specs.Apply.{apply_all}
use Rattle.pcp_base.specs.States.{State}
use Rattle.lease_disk.specs.declared.disks.DiskPair.{DiskPair}
use Rattle.lease_disk.specs.Pairs.{HoldsNow, PairLeavesOnly}
use Rattle.journal_sides.specs.Journals.{StandsForWithOrWithout}
use Rattle.shard_book.specs.Addresses.{renumbering}
use Rattle.shard_book.specs.Openings.{OpensBook}
use Rattle.lease_histories.specs.Entries.{Served}
use Rattle.lease_histories.specs.Legal.{records_of, state_after}
use Rattle.lease_house.specs.declared.faults.HouseFault.TheVariants.{Disk}
use Rattle.job_queue.specs.declared.jobs.Job.{Job}
use Rattle.job_queue.specs.declared.jobs.Job.TheVariants.{Packet, Lose}
use Rattle.job_workers.specs.Works.{Refused, WorkCall}
use Rattle.turned_shards.specs.declared.openings.Opening.{Opening}
use Rattle.turned_shards.specs.Crashes.{IsInDoubt, StandsAlong}
use Rattle.turned_shards.specs.Shards.{served_by}
use Rattle.shared_house.specs.HouseCalls.{batch_behind, loss_behind}
use Rattle.house_workers.specs.OwnEntries.{AreRising}

-- The entries of all answered batches stand in the history, in order and each in a place of its own,
-- and each two images of the pair stand for the state to which the history leads, or, where that ends
-- in a fault, for that with what was in doubt there.
pub record KeepsAcknowledged {D : Type 0} (tells : Type 0) (may_leave : D → List ℕ → Type 0)
    (o : Opening D) (doubts : List (List Entry)) (answered history : List Entry)
    (pair : DiskPair D) : Type 0 where
  pub places : List ℕ
  pub rising : AreRising 0 places (length history)
  pub there : AllZip (λ place e. slice_get history place ≡ Some e) places answered
  pub doubt : List Entry
  pub in_doubt : (doubt ≡ []) ⊎ IsInDoubt (served_by o) o.book.state doubts history doubt
  pub images : tells → HoldsNow may_leave
      (StandsForWithOrWithout (state_after o.book.state history) (records_of doubt)) pair

-- From a call's start on each two images of a pair are what this opening at m leaves; from then on they
-- stand for the state after some first entries of the history, or for that and what was in doubt behind
-- these, of which there is one list for each fault.
pub record KeepsServed {D : Type 0} (tells : Type 0) (seen : D → List ℕ) (moment : D → ℕ)
    (left_since : D → ℕ → List ℕ → Type 0) (may_leave : D → List ℕ → Type 0) (m : ℕ)
    (x : External) (opening : Opening D) (doubts : List (List Entry)) (history : List Entry)
    (before now : DiskPair D) : Type 0 where
  pub opens : tells → OpensBook seen moment left_since may_leave m x.address before
      opening.book.journal.pair
  pub serves : tells → PairLeavesOnly moment left_since may_leave opening.book.journal.pair now
      (StandsAlong (served_by opening) opening.book.state doubts history)

-- A book that is opened at m over sides that a crash has left has the state after some first entries, or
-- after these and what was in doubt behind them, and then perhaps a Renumber.
pub record IsRecovered (x : Served) (opening : State) (doubts : List (List Entry)) (log : List Entry)
    (m : ℕ) (address : Address) (now : State) : Type 0 where
  pub first : List Entry
  pub more : List Entry
  pub log_is : log ≡ first ++ more
  pub behind : List Entry
  pub in_doubt : (behind ≡ []) ⊎ IsInDoubt x opening doubts first behind
  pub now_is : now ≡ apply_all (state_after opening (first ++ behind))
      (renumbering m address (state_after opening (first ++ behind)))

-- The jobs of a call ask for these entries behind this history, where the word told this base.
abbrev pub IsAskedFor : {D : Type 0} → Opening D → List Entry → (now heard : ℕ) → List Job → List Entry
    → Type 0
IsAskedFor o log now heard jobs entries =
    ((batch : List Datagram) × (jobs ≡ map Packet batch)
    × (entries ≡ batch_behind o log now heard batch))
    ⊎ ((jobs ≡ Lose ∷ []) × (entries ≡ loss_behind o log now heard))

-- A disk refused the call: its entry is a fault, and what was in doubt at that is what its jobs ask for,
-- decided behind the history before it. Or, where the journal couldn't be read, it is nothing, or what was
-- in doubt there before.
pub record IsRefusedAlong {D : Type 0} (o : Opening D) (history : List Entry)
    (doubts : List (List Entry)) (call : WorkCall) : Type 0 where
  pub before : List Entry
  pub fault : Entry
  pub more : List Entry
  pub history_is : history ≡ before ++ fault ∷ more
  pub own : call.own ≡ fault ∷ []
  pub doubt : List Entry
  pub there : slice_get doubts (length before) ≡ Some doubt
  pub heard : ℕ
  pub asked : IsAskedFor o before (call.time / 1000) heard call.jobs doubt
      ⊎ ((doubt ≡ []) ⊎ IsInDoubt (served_by o) o.book.state doubts before doubt)

-- so it is with each of these calls that a disk refused
abbrev pub AreRefusedAlong : {D : Type 0} → Opening D → List Entry → List (List Entry) → List WorkCall
    → Type 0
AreRefusedAlong o history doubts calls =
    AllByRecursion (λ c. (place : ℕ) → c.result ≡ Refused (Disk place) →
    IsRefusedAlong o history doubts c) calls
