use Rattle.std.proofs.Common.{◌≡◌, ℕ, slice_index_or, replicate, inl, inr, arith}
use Rattle.std.proofs.lemmas.Bool.{cases_lt}
use Rattle.std.proofs.lemmas.List.{get_or_past, get_or-replicate, length-replicate}
use Rattle.port_runs.specs.declared.node.Node.{Node}
use Rattle.port_runs.specs.Nodes.{empty_node}
use Rattle.port_runs.proofs.tree.cleared.Goals as goal

all_alike : (n i : ℕ) (d : Node) → slice_index_or (replicate n d) i d ≡ d
all_alike n i d = elim (cases_lt i n) [
  | inl within ↦ get_or-replicate n i d d within
  | inr past ↦ get_or_past (replicate n d) i d (omega (arith, length-replicate n d))
]

pub returns-clause-clear : goal.returns-clause-clear
unfolding empty_node
returns-clause-clear c i =
    rw (c.in_ok-nodes.ensures.items_if_clones_equal (λ y h. h)) (all_alike c.args.count i empty_node)
