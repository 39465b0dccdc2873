use Rattle.std.proofs.Common.{◌<◌, All}
use Rattle.pcp_io.specs.declared.clocks.TheConstants.{END_OF_TIME_MS}
use Rattle.client_runs_rows.proofs.links.times_of.Given as goal

-- all that were pushed are times
abbrev pub invariant-loop-time : goal.invariant-loop-time
invariant-loop-time l = All (λ t. t < END_OF_TIME_MS) l.times.items
