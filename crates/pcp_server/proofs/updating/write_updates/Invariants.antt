use Rattle.std.proofs.Common.{◌≡◌, ◌≤◌, ◌++◌, ℕ, List, drop, flat_map}
use Rattle.std.specs.Io.KnownBytes.{append_known}
use Rattle.pcp_script.specs.Results.{reply_line}
use Rattle.pcp_server.proofs.updating.write_updates.Given as goal

-- the lines of the updates before this one are written
abbrev pub invariant-loop-update : goal.invariant-loop-update
invariant-loop-update g l = record {
  written : (written : List ℕ) × (g.W.Sink.held l.out ≡ append_known (g.W.Sink.held l.fn.out) written)
      × (written ++ flat_map reply_line (drop l.update-index l.fn.updates) ≡ flat_map reply_line l.fn.updates);
  later : g.W.Sink.faults l.fn.out ≤ g.W.Sink.faults l.out;
}
