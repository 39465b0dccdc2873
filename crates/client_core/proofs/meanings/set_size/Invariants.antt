use Rattle.std.proofs.Common.{◌≡◌, drop}
use Rattle.client_core.specs.Meanings.{set_size}
use Rattle.client_core.proofs.meanings.set_size.Given as goal

abbrev pub invariant-loop-item : goal.invariant-loop-item
invariant-loop-item l = set_size (drop l.item-index l.items) ≡ set_size l.items
