use Rattle.std.proofs.Common.{◌≡◌, ◌∷◌, ◌++◌, length, take}
use Rattle.std.specs.List.{flat_map, AllByRecursion}
use Rattle.lease_records.specs.Values.{IsFilter}
use Rattle.lease_records.specs.RecordTexts.{filter_text}
use Rattle.lease_records.proofs.writing.put_filters.Given as goal

-- the number, and the filters so far
abbrev pub invariant-loop-filter : goal.invariant-loop-filter
invariant-loop-filter l = record {
  text : l.out.items ≡ l.fn.out.items ++ (length l.filters ∷ flat_map filter_text (take l.filter-index l.filters));
  values : AllByRecursion IsFilter (take l.filter-index l.filters);
}
