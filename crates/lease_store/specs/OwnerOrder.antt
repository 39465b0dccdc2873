-- Owned ports in their order (our own).
use Rattle.std.specs.Prelude.{ℕ, ◌&&◌, ◌||◌, ◌==◌, nat_lt, Bool, List, [], ◌∷◌, if◌then◌else◌}
use Rattle.pcp_base.specs.declared.leases.Owner.{Owner}
use Rattle.pcp_base.specs.Protocols.{protocol_number}
use Rattle.pcp_base.specs.Tables.{Table, live}
use Rattle.pcp_base.specs.Owners.{owners}

-- by protocol number, then by port
abbrev pub precedes : Owner → Owner → Bool
precedes a b = nat_lt (protocol_number a.protocol) (protocol_number b.protocol)
    || (protocol_number a.protocol == protocol_number b.protocol && nat_lt a.external b.external)

-- one more owned port, in its place; one that is there stays as it is
abbrev pub with_owner : Owner → List Owner → List Owner
with_owner o [] = o ∷ []
with_owner o (x ∷ xs) =
    if precedes o x then o ∷ x ∷ xs
    else if precedes x o then x ∷ with_owner o xs
    else x ∷ xs

abbrev pub in_order : List Owner → List Owner
in_order [] = []
in_order (o ∷ os) = with_owner o (in_order os)

-- the ports that live leases own, each once, in order
abbrev pub owners_in_order : Table → ℕ → List Owner
owners_in_order t m = in_order (owners (live t m))
