use Rattle.std.proofs.Common.{refl}
use Rattle.port_spans.proofs.RunLemmas.{kept_zeros}
use Rattle.port_spans.proofs.spans.Spans.new.Goals as goal

pub invariant_of-result : goal.invariant_of-result
invariant_of-result g c = kept_zeros 131072 c.in_ok-zeros.field-0.items c.in_ok-with_capacity.field-0 refl c.in_ok-zeros.ensures c.in_ok-with_capacity.ensures.empty
