use Rattle.std.proofs.Common.{◌≡◌, ◌++◌, drop}
use Rattle.pcp_options.specs.Asking.{filters_of}
use Rattle.pcp_options.proofs.options.collect_filters.Given as goal

abbrev pub invariant-loop-item : goal.invariant-loop-item
invariant-loop-item l = filters_of l.fn.items ≡ l.filters.items ++ filters_of (drop l.item-index l.fn.items)
