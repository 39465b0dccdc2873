use Rattle.std.proofs.Common.{true, ◌∙◌, sym}
use Rattle.port_runs.specs.Flags.{flags_of}
use Rattle.port_runs.proofs.Joins.{tree_of_none}
use Rattle.port_runs.proofs.ShownFlags.{alone_marked}
use Rattle.port_runs.proofs.WordFlags.{marked_words, flags_whole}
use Rattle.port_runs.proofs.tree.Tree.new.Goals as goal

pub returns : goal.returns
returns c =
    let v = c.in_ok-words.words in
    alone_marked c.args.from c.args.to (flags_of v.items) _ (flags_whole v.items (sym v.ok.0 ∙ c.in_ok-words.ensures.all)) c.in_ok-words.ensures.clear (marked_words v c.deref_mut.result.now c.change.new.words c.args.from c.args.to true c.deref_mut.ensures.value c.change.ensures.marked)

pub change-requires-clause-tree : goal.change-requires-clause-tree
change-requires-clause-tree c =
    let words = c.in_ok-words.words in
    let nodes = c.in_ok-nodes.nodes in
    rw (c.deref_mut.ensures.value, c.deref_mut-2.ensures.value) (tree_of_none (flags_of words.items) nodes.items (flags_whole words.items (sym words.ok.0 ∙ c.in_ok-words.ensures.all)) (sym nodes.ok.0 ∙ c.in_ok-nodes.ensures.all) c.in_ok-words.ensures.clear c.in_ok-nodes.ensures.clear)
