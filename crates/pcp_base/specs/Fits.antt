-- Records that may come after those of a state (our own).
use Rattle.std.specs.Prelude.{◌≡◌, ◌&&◌, ◌==◌, ℕ, ◌≤◌, not, Bool, bytes_eq, true, false, List, [], ◌∷◌, find, IsSome, IfSome, IfNone, ⊤}
use Rattle.std.specs.List.{AllByRecursion, list_any}
use Rattle.pcp_base.specs.declared.leases.Endpoint.{Endpoint}
use Rattle.pcp_base.specs.declared.leases.MapLease.{MapLease}
use Rattle.pcp_base.specs.declared.leases.Owner.{Owner}
use Rattle.pcp_base.specs.declared.records.Change.{Change}
use Rattle.pcp_base.specs.declared.records.Change.TheVariants.{Map, Peer, DropMap, DropPeer, Rest, Renumber}
use Rattle.pcp_base.specs.declared.records.Record.{Record}
use Rattle.pcp_base.specs.Tables.{Table, live, first_endpoint, is_map_of, is_peer_of, same_endpoint}
use Rattle.pcp_base.specs.Owners.{map_owners, peer_owner, owners, is_owned}
use Rattle.pcp_base.specs.Ends.{is_end_of, rests_for}
use Rattle.pcp_base.specs.States.{State}
use Rattle.pcp_base.specs.Records.{IsWellFormedRecord}
use Rattle.pcp_base.specs.Sound.{Sound, SoundState}
use Rattle.pcp_base.specs.Apply.{apply, apply_first, is_start}

-- whether the second lease has every field of the first but the expiry and the filters
abbrev pub renews : MapLease → MapLease → Bool
renews old new = same_endpoint (first_endpoint old) (first_endpoint new) && old.count == new.count
    && old.external == new.external && bytes_eq old.nonce.0 new.nonce.0 && old.granted == new.granted

-- A renewal keeps every field but the expiry and the filters; what is deleted is there.
abbrev pub IsAllowed : Table → Change → Type 0
IsAllowed t (Map l) = IfSome (find (is_map_of (first_endpoint l)) t.maps)
    (λ old. l ≡ record old { expiry = l.expiry; filters = l.filters })
IsAllowed t (Peer l) = IfSome (find (is_peer_of l.endpoint l.remote l.remote_port) t.peers)
    (λ old. l ≡ record old { expiry = l.expiry })
IsAllowed t (DropMap e) = IsSome (find (is_map_of e) t.maps)
IsAllowed t (DropPeer e remote port) = IsSome (find (is_peer_of e remote port) t.peers)
IsAllowed t change = ⊤

-- each of these ports rests at m for no endpoint other than the one that it is given to
abbrev pub RestForNoOther : State → ℕ → List Owner → Type 0
RestForNoOther s m os = AllByRecursion (λ o. (e : Endpoint) → e.protocol ≡ o.protocol →
    rests_for s m o.external e ≡ true → e ≡ o.endpoint) os

-- no lease of the table, live or not, owns the port, and it has no end
pub record IsUnused (s : State) (e : Endpoint) (port : ℕ) : Type 0 where
  pub unowned : is_owned e.protocol port (owners s.table) ≡ false
  pub endless : list_any (is_end_of e.protocol port) s.ends ≡ false

-- A new lease takes no port that rests for another endpoint; a Rest names an unused port.
abbrev pub IsRested : State → ℕ → Change → Type 0
IsRested s m (Map l) = IfNone (find (is_map_of (first_endpoint l)) (live s.table m).maps)
    (RestForNoOther s m (map_owners l))
IsRested s m (Peer l) = IfNone (find (is_peer_of l.endpoint l.remote l.remote_port) (live s.table m).peers)
    (RestForNoOther s m (peer_owner l ∷ []))
IsRested s m (Rest e port end) = IsUnused s e port
IsRested s m change = ⊤

pub record Fits (s : State) (r : Record) : Type 0 where
  pub formed : IsWellFormedRecord r
  -- it is a Start exactly where it is the first
  pub first : is_start r.change ≡ not s.started
  pub later : s.last ≤ r.moment
  pub allowed : IsAllowed (live s.table r.moment) r.change
  pub rested : IsRested s r.moment r.change
  pub sound : SoundState (apply s r)

-- the first format has neither a Rest nor a Renumber
abbrev pub IsOfFirst : Change → Type 0
IsOfFirst (Rest e port end) = ⊥
IsOfFirst (Renumber a) = ⊥
IsOfFirst change = ⊤

-- the same in the first format
pub record FitsFirst (s : State) (r : Record) : Type 0 where
  pub of_first : IsOfFirst r.change
  pub formed : IsWellFormedRecord r
  pub first : is_start r.change ≡ not s.started
  pub later : s.last ≤ r.moment
  pub allowed : IsAllowed (live s.table r.moment) r.change
  pub sound : Sound (apply_first s r).table

-- each fits after those before it
abbrev pub AllFit : State → List Record → Type 0
AllFit s [] = ⊤
AllFit s (r ∷ rs) = Fits s r × AllFit (apply s r) rs

abbrev pub AllFitFirst : State → List Record → Type 0
AllFitFirst s [] = ⊤
AllFitFirst s (r ∷ rs) = FitsFirst s r × AllFitFirst (apply_first s r) rs
