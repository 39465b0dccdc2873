-- What is counted of a shard's jobs (our own).
use Rattle.std.specs.Prelude.{ℕ, ◌+◌, ◌-◌, ◌^◌, min}
use Rattle.lease_house.specs.declared.faults.HouseFault.{HouseFault}
use Rattle.lease_house.specs.declared.faults.HouseFault.TheVariants.{Disk, Memory}
use Rattle.job_workers.specs.declared.tallies.TallyRow.{TallyRow}

-- so many more, in a count of 64 bits, which stands still at its end
abbrev pub more : ℕ → ℕ → ℕ
more count n = min (count + n) (2 ^ 64 - 1)

abbrev pub no_jobs : TallyRow
no_jobs = record {
  taken = 0;
  replied = 0;
  silent = 0;
  unsent = 0;
  faulted = 0;
  full = 0;
  starved = 0;
}

-- a batch of so many jobs was answered, so many of them silent
abbrev pub row_replied : TallyRow → ℕ → ℕ → ℕ → ℕ → TallyRow
row_replied row jobs silent sent failed = record row {
  taken = more row.taken jobs;
  replied = more row.replied sent;
  silent = more row.silent silent;
  unsent = more row.unsent failed;
}

abbrev pub row_lost : TallyRow → TallyRow
row_lost row = record row { taken = more row.taken 1 }

-- a call for so many jobs was refused
abbrev pub row_refused : TallyRow → ℕ → HouseFault → TallyRow
row_refused row jobs (Disk shard) =
    record row { taken = more row.taken jobs; faulted = more row.faulted jobs }
row_refused row jobs Memory =
    record row { taken = more row.taken jobs; starved = more row.starved jobs }

abbrev pub row_full : TallyRow → TallyRow
row_full row = record row { full = more row.full 1 }

abbrev pub row_starved : TallyRow → TallyRow
row_starved row = record row { starved = more row.starved 1 }

-- the row of a worker, with what the dispatcher counted for its shard
abbrev pub joined_rows : TallyRow → TallyRow → TallyRow
joined_rows worker dispatched = record worker {
  full = dispatched.full;
  starved = more worker.starved dispatched.starved;
}
