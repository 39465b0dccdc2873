use Rattle.std.proofs.Common.{◌≡◌, ◌++◌}
use Rattle.leased_ports.specs.Listed.{listed}
use Rattle.leased_ports.proofs.CopyLemmas.{run_ends}
use Rattle.leased_ports.proofs.listing.push_ends.Given as goal

abbrev pub invariant-loop-i : goal.invariant-loop-i
invariant-loop-i l = l.all.items ≡ l.fn.all.items ++ listed (run_ends l.run) l.run.first l.i
