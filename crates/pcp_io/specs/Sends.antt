-- What a send does to the datagrams that an outbox took, where it tells them (our own).
use Rattle.std.specs.Prelude.{ℕ, List, [], ◌∷◌, ◌++◌, Option, option_map}
use Rattle.pcp_base.specs.declared.addresses.Address.{Address}
use Rattle.pcp_base.specs.declared.datagrams.Datagram.{Datagram}

-- these datagrams come behind the others
abbrev pub sent_with : Option (List Datagram) → List Datagram → Option (List Datagram)
sent_with before more = option_map (λ ds. ds ++ more) before

-- a datagram by this door to this peer comes behind the others
abbrev pub sent_after : Option (List Datagram) → ℕ → Address → ℕ → List ℕ → Option (List Datagram)
sent_after before door peer port octets =
    sent_with before (record { peer = peer; port = port; door = door; octets = octets } ∷ [])
