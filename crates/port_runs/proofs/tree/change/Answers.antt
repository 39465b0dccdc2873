use Rattle.std.proofs.Common.{◌∙◌, arith}
use Rattle.port_runs.specs.Flags.{flags_of}
use Rattle.port_runs.proofs.Joins.{leaves_but_marked, leaves_kept, when_not}
use Rattle.port_runs.proofs.WordFlags.{words_of_flags}
use Rattle.port_runs.proofs.tree.change.Goals as goal

pub mark-requires-clause-within : goal.mark-requires-clause-within
mark-requires-clause-within c = omega (arith, words_of_flags c.args.words.now c.requires.tree.whole)

pub renew-requires-clause-words : goal.renew-requires-clause-words
renew-requires-clause-words c = words_of_flags c.mark.new.words (c.mark.ensures.same_length ∙ c.requires.tree.whole)

pub renew-requires-clause-leaves : goal.renew-requires-clause-leaves
renew-requires-clause-leaves c =
    leaves_but_marked c.args.from c.args.to c.args.value (flags_of c.args.words.now) (flags_of c.mark.new.words) c.args.nodes.now c.requires.ordered c.mark.ensures c.requires.tree.leaves

pub returns-then-renew-clause-tree : goal.returns-then-renew-clause-tree
returns-then-renew-clause-tree c = record {
  whole = c.mark.ensures.same_length ∙ c.requires.tree.whole;
  leaves = leaves_kept (flags_of c.mark.new.words) c.renew.new.nodes c.refresh.new.nodes c.refresh.ensures.leaves c.renew.ensures.leaves;
  joined = c.refresh.ensures.joined;
}

pub returns-else-renew-clause-tree : goal.returns-else-renew-clause-tree
returns-else-renew-clause-tree c = record {
  whole = c.mark.ensures.same_length ∙ c.requires.tree.whole;
  leaves = c.renew.ensures.leaves;
  joined = when_not c.renew.result c.if-renew.false c.renew.ensures.same;
}
