use Rattle.std.proofs.Common.{◌≡◌, ◌++◌, replicate}
use Rattle.shared_house.proofs.findings.push_place.Given as goal

abbrev pub invariant-loop : goal.invariant-loop
invariant-loop l = l.shards.items ≡ l.initial.shards.items ++ replicate l.counter l.place
