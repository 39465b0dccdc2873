use Rattle.std.proofs.Common.{◌≡◌, ◌*◌, ◌^◌, length, sym, ◌∙◌}
use Rattle.expiry_wheel.specs.Blocks.{row}
use Rattle.expiry_wheel.proofs.LeastLists.{row_power, nodes_made, nodes_blank, leasts_blank}
use Rattle.expiry_wheel.proofs.leasts.Leasts.new.Goals as goal

pub invariant_of-result : goal.invariant_of-result
invariant_of-result c =
    let v = c.in_ok-nodes.nodes in
    let places : length v.items ≡ 2 * row c.args.levels = sym v.ok.0 ∙ c.in_ok-nodes.ensures.all ∙ nodes_made c.args.levels c.requires in
    nodes_blank c.args.levels v.items c.requires places c.in_ok-nodes.ensures.never

pub returns : goal.returns
returns c =
    let v = c.in_ok-nodes.nodes in
    let places : length v.items ≡ 2 * row c.args.levels = sym v.ok.0 ∙ c.in_ok-nodes.ensures.all ∙ nodes_made c.args.levels c.requires in
    leasts_blank c.args.levels v.items c.requires places c.in_ok-nodes.ensures.never (2 ^ c.args.levels) (sym (row_power c.args.levels))
