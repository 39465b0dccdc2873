-- The leases of an opened book, with which its lane begins.
use Rattle.std.specs.List.{AllByRecursion}
use Rattle.std.proofs.Common.{◌≡◌, ◌∙◌, ℕ, true, List, [], ◌∷◌, nat_lt, ap, sym, subst}
use Rattle.std.proofs.lemmas.Bool.{lt-ltb}
use Rattle.pcp_base.specs.declared.leases.MapLease.{MapLease}
use Rattle.pcp_base.specs.declared.leases.PeerLease.{PeerLease}
use Rattle.pcp_base.specs.Reached.{IsReached}
use Rattle.pcp_base.specs.Records.{IsTermAt}
use Rattle.pcp_base.specs.Sound.{Sound}
use Rattle.pcp_base.specs.States.{State}
use Rattle.pcp_base.specs.Tables.{live}
use Rattle.pcp_base.proofs.Members.{filter-all}
use Rattle.lane_index.specs.Lanes.{opening_state}

all-live : {X : Type 0} (granted expiry : X → ℕ) (m : ℕ) (xs : List X) →
    AllByRecursion (λ x. IsTermAt m (granted x) (expiry x)) xs →
    AllByRecursion (λ x. nat_lt m (expiry x) ≡ true) xs
all-live granted expiry m [] all = tt
all-live granted expiry m (x ∷ xs) all =
    (lt-ltb m (expiry x) all.0.live, all-live granted expiry m xs all.1)

-- what is told of the leases of a state is all of them
pub record IsTold (s : State) (maps : List MapLease) (peers : List PeerLease)
    (last : ℕ) : Type 0 where
  pub maps_are : maps ≡ s.table.maps
  pub peers_are : peers ≡ s.table.peers
  pub last_is : last ≡ s.last

pub told-all : (s book : State) (maps maps_now : List MapLease) (peers peers_now : List PeerLease)
    (last : ℕ) → s ≡ book → IsReached s → last ≡ s.last → maps ≡ (live s.table last).maps →
    maps_now ≡ maps →
    peers ≡ (live s.table last).peers → peers_now ≡ peers → IsTold book maps_now peers_now last
told-all s book maps maps_now peers peers_now last same reached at maps_are maps_is peers_are
    peers_is =
    subst (λ (u : State). IsTold u maps_now peers_now last) same (record {
      maps_are = maps_is ∙ maps_are ∙ ap (λ (m : ℕ). (live s.table m).maps) at
          ∙ filter-all (λ (l : MapLease). nat_lt s.last l.expiry) s.table.maps
          (all-live (λ (l : MapLease). l.granted) (λ (l : MapLease). l.expiry)
          s.last s.table.maps reached.maps);
      peers_are = peers_is ∙ peers_are ∙ ap (λ (m : ℕ). (live s.table m).peers) at
          ∙ filter-all (λ (l : PeerLease). nat_lt s.last l.expiry) s.table.peers
          (all-live (λ (l : PeerLease). l.granted) (λ (l : PeerLease). l.expiry)
          s.last s.table.peers reached.peers);
      last_is = at;
    })

pub told-sound : (s : State) (maps : List MapLease) (peers : List PeerLease) (last : ℕ) →
    IsTold s maps peers last → Sound s.table → Sound (record { maps = maps; peers = peers })
told-sound s maps peers last told sound =
    subst (λ (ms : List MapLease). Sound (record { maps = ms; peers = peers })) (sym told.maps_are)
    (subst (λ (ps : List PeerLease). Sound (record { maps = s.table.maps; peers = ps }))
    (sym told.peers_are) sound)

pub told-opening : (s : State) (maps : List MapLease) (peers : List PeerLease) (last : ℕ) →
    IsTold s maps peers last → opening_state maps peers last
    ≡ opening_state s.table.maps s.table.peers s.last
told-opening s maps peers last told =
    ap (λ (ms : List MapLease). opening_state ms peers last) told.maps_are
    ∙ ap (λ (ps : List PeerLease). opening_state s.table.maps ps last) told.peers_are
    ∙ ap (λ (m : ℕ). opening_state s.table.maps s.table.peers m) told.last_is
