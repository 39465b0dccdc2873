-- A lookup depends on the table and the last moment alone.
use Rattle.std.proofs.Common.{◌≡◌, ℕ, max, List, [], ◌∷◌, find, Option, refl, ap, ◌∙◌}
use Rattle.std.specs.Option.{option_map}
use Rattle.pcp_base.specs.declared.addresses.Address.{Address}
use Rattle.pcp_base.specs.declared.leases.Protocol.{Protocol}
use Rattle.pcp_base.specs.declared.leases.Endpoint.{Endpoint}
use Rattle.pcp_base.specs.declared.leases.Owner.{Owner}
use Rattle.pcp_base.specs.declared.records.Record.{Record}
use Rattle.pcp_base.specs.Tables.{Table, live}
use Rattle.pcp_base.specs.Owners.{is_port}
use Rattle.pcp_base.specs.States.{State}
use Rattle.pcp_base.specs.Apply.{table_changed, apply, apply_all}
use Rattle.filter_rules.specs.Lookups.{owners_for, look}
use Rattle.lane_index.specs.Lanes.{opening_state}
use Rattle.lane_index.specs.Laws.{LooksDependOnTables}

module _ (protocol : Protocol) (port : ℕ) (remote : Address) (remote_port m : ℕ) where
  answer : Table → ℕ → Option Endpoint
  answer t n = option_map (λ (o : Owner). o.endpoint) (find (is_port protocol port) (owners_for (live t (max m n)) remote remote_port))

  looks-same : (rs : List Record) (a b : State) → a.table ≡ b.table → a.last ≡ b.last → look (apply_all a rs) protocol port remote remote_port m ≡ look (apply_all b rs) protocol port remote remote_port m
  unfolding answer
  looks-same [] a b t l = ap (λ (x : Table). answer x a.last) t ∙ ap (answer b.table) l
  looks-same (r ∷ rs) a b t l = looks-same rs (apply a r) (apply b r) (ap (λ (x : Table). table_changed r.change (live x r.moment)) t) refl

pub depend : LooksDependOnTables
depend s rs protocol port remote remote_port m = looks-same protocol port remote remote_port m rs (opening_state s.table.maps s.table.peers s.last) s refl refl
