-- What is promised of an external address that was served to the end (our own).
use Rattle.std.specs.Prelude.{◌≡◌, ℕ, List, Some}
use Rattle.std.specs.List.{slice_get}
use Rattle.pcp_base.specs.declared.configs.Config.{Config}
use Rattle.pcp_base.specs.declared.configs.External.{External}
use Rattle.pcp_base.specs.declared.datagrams.Entry.{Entry}
use Rattle.lease_disk.specs.declared.disks.DiskPair.{DiskPair}
use Rattle.lease_histories.specs.Promises.{KeepsPromises}
use Rattle.lease_house.specs.SoloOpenings.{OpensOne}
use Rattle.job_workers.specs.Stations.{OutState}
use Rattle.job_workers.specs.Works.{WorkCall}
use Rattle.turned_shards.specs.declared.openings.Opening.{Opening}
use Rattle.turned_shards.specs.Shards.{served_by}
use Rattle.house_workers.specs.Crashes.{AreRefusedAlong, KeepsAcknowledged, KeepsServed}
use Rattle.house_workers.specs.OwnEntries.{HandsReplies, answered_in}

-- Its journal was opened at m, and from the state that was found there one history was served. That
-- keeps what is promised; a crash at any moment leaves what the opening leaves, or the state after some
-- first entries, or, right behind a fault, that with what was in doubt there: where a disk refused a call
-- of its worker, what the jobs of that call ask for. The outbox was handed the replies of entries that
-- stand in the history, and at the end each image stands for all of it, or, where it ends in a fault, for
-- that with what was in doubt there.
pub record IsServedAsPromised {D : Type 0} (tells : Type 0) (seen : D → List ℕ) (moment : D → ℕ)
    (left_since : D → ℕ → List ℕ → Type 0) (may_leave : D → List ℕ → Type 0) (faults : D → ℕ)
    (config : Config) (m place : ℕ) (x : External) (before now : DiskPair D)
    (out_before out_now : OutState) : Type 0 where
  pub opening : Opening D
  pub served : served_by opening ≡ record { config = config; place = place; external = x }
  pub opened : OpensOne tells seen moment left_since may_leave faults config m x before
      opening.book
  pub history : List Entry
  pub promises : KeepsPromises (served_by opening) opening.book.state history
  pub doubts : List (List Entry)
  pub crash : KeepsServed tells seen moment left_since may_leave m x opening doubts history before
      now
  pub calls : List WorkCall
  pub refused : AreRefusedAlong opening history doubts calls
  pub answered : List Entry
  pub answered_are : answered ≡ answered_in calls
  pub replies : HandsReplies answered out_before out_now
  pub acknowledged : KeepsAcknowledged tells may_leave opening doubts answered history now

-- so it was with each external address, over the pair and by the outbox with its index
abbrev pub AreServedAsPromised : {D : Type 0} → (tells : Type 0) → (D → List ℕ) → (D → ℕ)
    → (D → ℕ → List ℕ → Type 0) → (D → List ℕ → Type 0) → (D → ℕ) → Config → ℕ
    → (before now : List (DiskPair D)) → (outs_before outs_now : List OutState) → Type 0
AreServedAsPromised {D} tells seen moment left_since may_leave faults config m before now
    outs_before outs_now =
    (place : ℕ) (x : External) (p q : DiskPair D) (out_before out_now : OutState) →
    slice_get config.externals place ≡ Some x → slice_get before place ≡ Some p →
    slice_get now place ≡ Some q → slice_get outs_before place ≡ Some out_before →
    slice_get outs_now place ≡ Some out_now →
    IsServedAsPromised tells seen moment left_since may_leave faults config m place x p q
    out_before out_now
