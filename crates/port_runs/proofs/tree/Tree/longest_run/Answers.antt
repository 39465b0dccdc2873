use Rattle.port_runs.specs.Flags.{flags_of}
use Rattle.port_runs.proofs.Search.{longest_at_root}
use Rattle.port_runs.proofs.tree.Tree.longest_run.Goals as goal

pub returns-clause-longest : goal.returns-clause-longest
returns-clause-longest g c =
    rw (c.longest_run.ensures, c.look.ensures.node, c.deref.ensures.value)
    (longest_at_root (flags_of c.self.inside.words.items) c.self.inside.nodes.items c.args.parity c.args.self.now c.self.view_is c.self.invariant.whole c.requires c.self.invariant.leaves c.self.invariant.joined)
