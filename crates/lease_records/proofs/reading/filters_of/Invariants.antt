use Rattle.std.proofs.Common.{◌≡◌, ◌-◌, length}
use Rattle.lease_records.specs.RecordReading.{filters_at}
use Rattle.lease_records.proofs.FilterLoop.{with_front}
use Rattle.lease_records.proofs.reading.filters_of.Given as goal

-- what was read so far and what is still to be read is what is read in all
abbrev pub invariant-loop : goal.invariant-loop
invariant-loop l = record {
  count : length l.filters ≡ l.counter;
  total : with_front l.filters (filters_at (l.count - l.counter) l.rest) ≡ filters_at l.count l.octets;
}
