use Rattle.std.proofs.Common.{◌≡◌, ◌++◌, take}
use Rattle.std.specs.List.{flat_map}
use Rattle.pcp_options.specs.Options.{option_of, option_text}
use Rattle.pcp_options.proofs.replies.push_each.Given as goal

abbrev pub invariant-loop-item : goal.invariant-loop-item
invariant-loop-item l =
    l.text.items ≡ l.fn.text.items ++ flat_map (λ item. option_text (option_of item)) (take l.item-index l.items)
