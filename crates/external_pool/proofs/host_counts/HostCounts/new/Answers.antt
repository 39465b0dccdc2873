use Rattle.std.proofs.Common.{arith}
use Rattle.external_pool.proofs.SlotLemmas.{free_apart, free_held}
use Rattle.external_pool.proofs.host_counts.HostCounts.new.Goals as goal

pub invariant_of-result : goal.invariant_of-result
invariant_of-result c = record {
  places = free_apart c.in_ok-free_slots.field-0.items c.new.result.entries c.in_ok-free_slots.ensures c.new.ensures.empty;
  bound = λ who. omega (arith, free_held c.in_ok-free_slots.field-0.items c.new.result.entries c.in_ok-free_slots.ensures c.new.ensures.empty who);
}

pub returns : goal.returns
returns c who = free_held c.in_ok-free_slots.field-0.items c.new.result.entries c.in_ok-free_slots.ensures c.new.ensures.empty who
