-- How many requests of each kind there are (our own).
use Rattle.std.specs.Prelude.{◌≡◌, Bool, true, false, List, length, count_by}
use Rattle.load_summary.specs.declared.counts.LoadCounts.{LoadCounts}
use Rattle.load_summary.specs.declared.counts.LoadKind.{LoadKind}
use Rattle.load_summary.specs.declared.counts.LoadKind.TheVariants.{Granted, Renewed, Deleted, Absent, Refused}

abbrev pub is_granted : LoadKind → Bool
is_granted Granted = true
is_granted Renewed = false
is_granted Deleted = false
is_granted Absent = false
is_granted Refused = false

abbrev pub is_renewed : LoadKind → Bool
is_renewed Granted = false
is_renewed Renewed = true
is_renewed Deleted = false
is_renewed Absent = false
is_renewed Refused = false

abbrev pub is_deleted : LoadKind → Bool
is_deleted Granted = false
is_deleted Renewed = false
is_deleted Deleted = true
is_deleted Absent = false
is_deleted Refused = false

abbrev pub is_absent : LoadKind → Bool
is_absent Granted = false
is_absent Renewed = false
is_absent Deleted = false
is_absent Absent = true
is_absent Refused = false

abbrev pub is_refused : LoadKind → Bool
is_refused Granted = false
is_refused Renewed = false
is_refused Deleted = false
is_refused Absent = false
is_refused Refused = true

-- the counts of requests of these kinds
abbrev pub counts_of : List LoadKind → LoadCounts
counts_of kinds = record {
  requests = length kinds;
  granted = count_by is_granted kinds;
  renewed = count_by is_renewed kinds;
  deleted = count_by is_deleted kinds;
  absent = count_by is_absent kinds;
  refused = count_by is_refused kinds;
}

abbrev pub AreCountsOf : LoadCounts → List LoadKind → Type 0
AreCountsOf counts kinds = counts ≡ counts_of kinds
