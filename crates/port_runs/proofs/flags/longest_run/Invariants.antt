use Rattle.port_runs.proofs.Longest.{IsRunFrom, IsLongestFrom}
use Rattle.port_runs.proofs.flags.longest_run.Given as goal

-- how long the run from the start on is, and the longest of those from there on
abbrev pub invariant-loop-start : goal.invariant-loop-start
invariant-loop-start l = record {
  run : IsRunFrom l.flags l.start l.run;
  longest : IsLongestFrom l.flags l.parity l.start l.longest;
}
