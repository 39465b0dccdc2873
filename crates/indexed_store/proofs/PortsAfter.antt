-- The ports of a state after a record.
use Rattle.std.proofs.Common.{◌≡◌, ℕ, ◌+◌, Bool, true, false, cond, List, find, Option, Some, None, refl, sym, ap, ◌∙◌, arith}
use Rattle.std.specs.Option.{option_map, option_or}
use Rattle.std.proofs.lemmas.Bool.{cond-true, lt-ltb}
use Rattle.pcp_base.specs.declared.leases.Protocol.{Protocol}
use Rattle.pcp_base.specs.declared.leases.Owner.{Owner}
use Rattle.pcp_base.specs.declared.leases.End.{End}
use Rattle.pcp_base.specs.declared.records.Change.{Change}
use Rattle.pcp_base.specs.declared.records.Change.TheVariants.{Start, Map, Peer, DropMap, DropPeer, Lose, Mark, Rest, Renumber}
use Rattle.pcp_base.specs.declared.records.Record.{Record}
use Rattle.pcp_base.specs.Tables.{Table, live}
use Rattle.pcp_base.specs.Owners.{is_port}
use Rattle.pcp_base.specs.Ends.{end_at, is_end_of, is_recent}
use Rattle.pcp_base.specs.States.{State}
use Rattle.pcp_base.specs.Records.{IsWellFormedChange}
use Rattle.pcp_base.specs.Reached.{IsReached}
use Rattle.pcp_base.specs.Fits.{Fits}
use Rattle.pcp_base.specs.Apply.{apply, empties, table_1, table_2}
use Rattle.pcp_base.proofs.TableLemmas.{Sound-live}
use Rattle.leased_ports.specs.Leased.{Leased, IsPortsOf, end_of, while_recent}
use Rattle.leased_ports.specs.Recorded.{held_until, end_by_rest, end_after, touched}
use Rattle.leased_ports.specs.Laws.{PortsTellLastEnds, PortsFollowRecords}
use Rattle.indexed_store.specs.declared.owning.OwnerRun.{OwnerRun}
use Rattle.indexed_store.specs.declared.holding.Unowned.TheVariants.{Rests}
use Rattle.indexed_store.specs.Runs.{owners_if, touched_run}
use Rattle.indexed_store.specs.Holding.{HoldsIf}
use Rattle.indexed_store.proofs.HeldLive.{held-from, held-live}
use Rattle.indexed_store.proofs.HoldingLemmas.{holds-after}
use Rattle.indexed_store.proofs.TouchLemmas.{touched_owners}

-- what a Rest gives is recent
recent-rest : (m : ℕ) (change : Change) (protocol : Protocol) (port : ℕ) (before : Option End) → IsWellFormedChange m change
    → while_recent m (end_by_rest change protocol port before) ≡ end_by_rest change protocol port (while_recent m before)
recent-rest m (Rest e n end) protocol port before formed = step (is_end_of protocol port (record { endpoint = e; external = n; end = end }))
  where
    step : (b : Bool) → while_recent m (cond b (Some (record { endpoint = e; external = n; end = end })) before) ≡ cond b (Some (record { endpoint = e; external = n; end = end })) (while_recent m before)
    step true = cond-true (is_recent m (record { endpoint = e; external = n; end = end })) (Some (record { endpoint = e; external = n; end = end })) None (lt-ltb m (end + 120) formed.recent)
    step false = refl
recent-rest m (Map l) protocol port before formed = refl
recent-rest m (Peer l) protocol port before formed = refl
recent-rest m (DropMap e) protocol port before formed = refl
recent-rest m (DropPeer e remote n) protocol port before formed = refl
recent-rest m Start protocol port before formed = refl
recent-rest m Lose protocol port before formed = refl
recent-rest m Mark protocol port before formed = refl
recent-rest m (Renumber a) protocol port before formed = refl

-- until when leases hold a port is recent
recent-held : (m : ℕ) (t : Table) (protocol : Protocol) (port : ℕ) (found : Option Owner) (before : Option End)
    → while_recent m (option_or (option_map (λ (o : Owner). end_at (held_until m t protocol port) o) found) before)
    ≡ option_or (option_map (λ (o : Owner). end_at (held_until m t protocol port) o) found) (while_recent m before)
recent-held m t protocol port None before = refl
recent-held m t protocol port (Some o) before =
    let from = held-from m t protocol port in
    cond-true (is_recent m (end_at (held_until m t protocol port) o)) (Some (end_at (held_until m t protocol port) o)) None
    (lt-ltb m (held_until m t protocol port + 120) (omega (arith, from)))

module _ (told : PortsTellLastEnds) (follow : PortsFollowRecords) (s : State) (r : Record) (reached : IsReached s) (fits : Fits s r) (keeps : empties r.change ≡ false) where
  -- where the touched ports have the last ends by which these leases hold them, the ports are those of the state after the record
  pub ports-after : (t : Table) (run : Option OwnerRun) (before rested after : Leased) → live t r.moment ≡ table_2 s r → run ≡ touched_run r.change (table_1 s r) → IsPortsOf before s
      → ((protocol : Protocol) (port : ℕ) → end_of rested protocol port ≡ end_by_rest r.change protocol port (end_of before protocol port))
      → HoldsIf Rests r.moment t run rested after → after.reached ≡ r.moment → IsPortsOf after (apply s r)
  ports-after t run before rested after table is ports rests held moment = follow after s r reached fits keeps (omega (arith, moment)) (λ protocol port. same protocol port)
    where
      own : owners_if run ≡ touched r.change (table_1 s r)
      own = ap owners_if is ∙ sym (touched_owners r.change (table_1 s r) (Sound-live s.table r.moment reached.sound.table))

      until : (protocol : Protocol) (port : ℕ) → held_until r.moment t protocol port ≡ held_until r.moment (table_2 s r) protocol port
      until protocol port = held-live r.moment t protocol port ∙ ap (λ (u : Table). held_until r.moment u protocol port) table

      same : (protocol : Protocol) (port : ℕ) → while_recent r.moment (end_of after protocol port) ≡ end_after s r protocol port
      same protocol port =
          ap (while_recent r.moment)
          (holds-after r.moment t run rested after held protocol port
          ∙ ap (λ (n : ℕ). option_or (option_map (λ (o : Owner). end_at n o) (find (is_port protocol port) (owners_if run))) (end_of rested protocol port)) (until protocol port)
          ∙ ap (λ (os : List Owner). option_or (option_map (λ (o : Owner). end_at (held_until r.moment (table_2 s r) protocol port) o) (find (is_port protocol port) os)) (end_of rested protocol port)) own
          ∙ ap (λ (e : Option End). option_or (option_map (λ (o : Owner). end_at (held_until r.moment (table_2 s r) protocol port) o) (find (is_port protocol port) (touched r.change (table_1 s r)))) e) (rests protocol port))
          ∙ recent-held r.moment (table_2 s r) protocol port (find (is_port protocol port) (touched r.change (table_1 s r))) (end_by_rest r.change protocol port (end_of before protocol port))
          ∙ ap (λ (e : Option End). option_or (option_map (λ (o : Owner). end_at (held_until r.moment (table_2 s r) protocol port) o) (find (is_port protocol port) (touched r.change (table_1 s r)))) e)
          (recent-rest r.moment r.change protocol port (end_of before protocol port) fits.formed.change
          ∙ ap (end_by_rest r.change protocol port) (told before s r.moment protocol port reached.sound ports fits.later))
