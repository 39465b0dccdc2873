-- The last ends of ports after a record (our own).
use Rattle.std.specs.Prelude.{ℕ, max, List, [], ◌∷◌, filter, find, Option, Some, if◌then◌else◌}
use Rattle.std.specs.Option.{option_map, option_or}
use Rattle.pcp_base.specs.declared.leases.Protocol.{Protocol}
use Rattle.pcp_base.specs.declared.leases.Owner.{Owner}
use Rattle.pcp_base.specs.declared.leases.End.{End}
use Rattle.pcp_base.specs.declared.records.Change.{Change}
use Rattle.pcp_base.specs.declared.records.Change.TheVariants.{Map, Peer, Rest}
use Rattle.pcp_base.specs.declared.records.Record.{Record}
use Rattle.pcp_base.specs.Tables.{Table}
use Rattle.pcp_base.specs.Owners.{map_owners, peer_owner, owners, is_port}
use Rattle.pcp_base.specs.Ends.{end_at, ends_at_expiry, is_end_of}
use Rattle.pcp_base.specs.States.{State}
use Rattle.pcp_base.specs.Apply.{deleted, table_1, table_2}
use Rattle.leased_ports.specs.LastEnds.{last_end}

-- the owners of the ports of the lease that a change puts or deletes
abbrev pub touched : Change → Table → List Owner
touched (Map l) t = map_owners l
touched (Peer l) t = peer_owner l ∷ []
touched change t = owners (deleted change t)

-- the latest of a moment and of these ends
abbrev pub latest : ℕ → List End → ℕ
latest m [] = m
latest m (e ∷ es) = max e.end (latest m es)

-- until when the leases of a table hold a port; m where none does
abbrev pub held_until : ℕ → Table → Protocol → ℕ → ℕ
held_until m t protocol port = latest m (filter (is_end_of protocol port) (ends_at_expiry t))

-- the end that a Rest gives a port; another change leaves the port as it is
abbrev pub end_by_rest : Change → Protocol → ℕ → Option End → Option End
end_by_rest (Rest e port end) protocol n before =
    if is_end_of protocol n (record { endpoint = e; external = port; end = end })
    then Some (record { endpoint = e; external = port; end = end }) else before
end_by_rest change protocol n before = before

-- The last end of a port after a record: that of a touched port comes when the last of its leases
-- expires, and now where none is left. Another port keeps its own, unless a Rest tells it.
abbrev pub end_after : State → Record → Protocol → ℕ → Option End
end_after s r protocol port = option_or
    (option_map (λ o. end_at (held_until r.moment (table_2 s r) protocol port) o)
    (find (is_port protocol port) (touched r.change (table_1 s r))))
    (end_by_rest r.change protocol port (last_end s r.moment protocol port))
