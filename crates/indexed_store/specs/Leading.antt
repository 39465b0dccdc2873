-- Which owned port comes in front (our own; for proofs alone).
use Rattle.std.specs.Prelude.{Bool, true, List, [], ◌∷◌}
use Rattle.pcp_base.specs.declared.leases.Owner.{Owner}
use Rattle.lease_store.specs.OwnerOrder.{precedes}

-- whether the owner stands before the first of these
abbrev pub leads : Owner → List Owner → Bool
leads o [] = true
leads o (x ∷ xs) = precedes o x
