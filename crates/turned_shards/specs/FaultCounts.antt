-- How many faults a history tells (our own).
use Rattle.std.specs.Prelude.{ℕ, ◌+◌, ◌-◌, ◌^◌, ◌<◌, ◌≤◌, Bool, true, false, List, None, count_by}
use Rattle.std.specs.List.{last_or}
use Rattle.std.specs.Option.{option_map_or}
use Rattle.pcp_base.specs.declared.datagrams.Entry.{Entry}
use Rattle.lease_disk.specs.declared.disks.DiskPair.{DiskPair}
use Rattle.lease_histories.specs.Entries.{EntryKind, OfRequest, OfServer, OfFault, entry_kind}

abbrev pub is_of_fault : EntryKind → Bool
is_of_fault OfRequest = false
is_of_fault (OfServer r) = false
is_of_fault OfFault = true

abbrev pub fault_count : List Entry → ℕ
fault_count log = count_by (λ e. is_of_fault (entry_kind e)) log

-- whether the last entry tells one
abbrev pub ends_in_fault : List Entry → Bool
ends_in_fault log = option_map_or (λ e. is_of_fault (entry_kind e)) (last_or None log) false

-- The counts of a pair haven't fallen, and have risen so often at least, unless one stands at its
-- end.
pub record HaveRisenBy {D : Type 0} (faults : D → ℕ) (old new : DiskPair D) (n : ℕ) : Type 0 where
  pub later_a : faults old.a ≤ faults new.a
  pub later_b : faults old.b ≤ faults new.b
  pub by : faults new.a < 2 ^ 64 - 1 → faults new.b < 2 ^ 64 - 1 →
      n + (faults old.a + faults old.b) ≤ faults new.a + faults new.b
