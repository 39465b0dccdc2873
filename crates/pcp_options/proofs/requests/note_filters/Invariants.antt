use Rattle.std.proofs.Common.{◌≡◌, ◌++◌, take, map}
use Rattle.pcp_options.specs.declared.options.Item.TheVariants as Items
use Rattle.pcp_options.proofs.requests.note_filters.Given as goal

abbrev pub invariant-loop-filter : goal.invariant-loop-filter
invariant-loop-filter l = l.items.items ≡ l.fn.items.items ++ map Items.Filter (take l.filter-index l.filters)
