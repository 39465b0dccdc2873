-- Leases that leave, and are forgotten.
use Rattle.std.proofs.Common.{◌≡◌, ℕ, ◌<◌, ◌≤◌, Bool, true, false, List, [], ◌∷◌, Contains, Result, Ok, Err, OnErr, refl, sym, ap, ◌∙◌, subst, inl, inr, arith}
use Rattle.std.specs.Bool.{OnTrue, OnFalse}
use Rattle.pcp_base.specs.declared.errors.Memory.{Memory}
use Rattle.pcp_base.specs.declared.leases.MapLease.{MapLease}
use Rattle.pcp_base.specs.declared.leases.PeerLease.{PeerLease}
use Rattle.pcp_base.specs.Tables.{first_endpoint}
use Rattle.pcp_base.proofs.Members.{IsIn, IsIn-from_Contains, Contains-from_IsIn}
use Rattle.pcp_base.proofs.TableLemmas.{key-own}
use Rattle.ordered_index.specs.Aged.{Aged}
use Rattle.mapping_table.specs.Laws.{FewerMapsAreSound}
use Rattle.mapping_table.specs.MapLists.{is_live_map, LeavesMap}
use Rattle.peer_table.specs.Laws.{FewerPeersAreSound}
use Rattle.peer_table.specs.PeerLists.{is_live_peer, LeavesPeer}
use Rattle.indexed_store.specs.Tabled.{ArePast, AreTabled, Retires, Tables, count_of, tables}
use Rattle.indexed_store.proofs.DeadGo.{AreFewer, map-goes, peer-goes}
use Rattle.indexed_store.proofs.PastLemmas.{ended-later}
use Rattle.indexed_store.proofs.Views.{all_is, found_is}

module _ (maps : Aged MapLease) (peers : Aged PeerLease) (now : Tables) (seen : tables maps peers ≡ now) (tabled : AreTabled now.found) (m : ℕ) where
  -- a MAP lease leaves
  module _ (law : FewerMapsAreSound) (maps' : Aged MapLease) (left : LeavesMap m maps maps') where
    map-gone : (n : ℕ) → m ≤ n → AreFewer n now.found (tables maps' peers).found
    map-gone n later =
        map-goes n (tables maps peers).found now.found (found_is seen) tabled law left.lease (first_endpoint left.lease) (IsIn-from_Contains maps.found left.lease left.there)
        (ended-later m n left.lease.expiry later left.dead) (key-own left.lease) maps'.found left.found

    map_past : (l : MapLease) → ArePast m now.past → Contains maps'.past l → is_live_map m l ≡ false
    map_past l past there = elim (left.past l there) [
      | inl old ↦ past.maps l (subst (λ (v : Tables). Contains v.past.maps l) seen old)
      | inr same ↦ ap (is_live_map m) same ∙ left.dead
    ]

    pub map-retires : Retires m now (tables maps' peers)
    map-retires = record {
      tabled = (map-gone m (omega arith)).rest.tabled;
      live = λ n later. (map-gone n later).rest.same;
      past = λ past. record {
        maps = λ l there. map_past l past there;
        peers = λ l there. past.peers l (subst (λ (v : Tables). Contains v.past.peers l) seen there);
      };
      all = ap (λ (ls : List MapLease). record { maps = ls; peers = peers.all }) left.all ∙ all_is seen;
    }

    pub map-fewer : count_of (tables maps' peers).found < count_of now.found
    map-fewer = (map-gone m (omega arith)).fewer

  -- the same of a PEER lease
  module _ (law : FewerPeersAreSound) (peers' : Aged PeerLease) where
    module _ (left : LeavesPeer m peers peers') where
      peer-gone : (n : ℕ) → m ≤ n → AreFewer n now.found (tables maps peers').found
      peer-gone n later =
          peer-goes n (tables maps peers).found now.found (found_is seen) tabled law left.lease (IsIn-from_Contains peers.found left.lease left.there)
          (ended-later m n left.lease.expiry later left.dead) peers'.found left.found

      peer_past : (l : PeerLease) → ArePast m now.past → Contains peers'.past l → is_live_peer m l ≡ false
      peer_past l past there = elim (left.past l there) [
        | inl old ↦ past.peers l (subst (λ (v : Tables). Contains v.past.peers l) seen old)
        | inr same ↦ ap (is_live_peer m) same ∙ left.dead
      ]

      peer_retires : Retires m now (tables maps peers')
      peer_retires = record {
        tabled = (peer-gone m (omega arith)).rest.tabled;
        live = λ n later. (peer-gone n later).rest.same;
        past = λ past. record {
          maps = λ l there. past.maps l (subst (λ (v : Tables). Contains v.past.maps l) seen there);
          peers = λ l there. peer_past l past there;
        };
        all = ap (λ (ls : List PeerLease). record { maps = maps.all; peers = ls }) left.all ∙ all_is seen;
      }

      peer_fewer : count_of (tables maps peers').found < count_of now.found
      peer_fewer = (peer-gone m (omega arith)).fewer

    stays : peers' ≡ peers → Retires m now (tables maps peers')
    stays same = subst (Retires m now) (sym (ap (tables maps) same ∙ seen)) (record {
      tabled = tabled;
      live = λ n later. refl;
      past = λ past. past;
      all = refl;
    })

    -- it leaves, or nothing changes
    pub peer-told : (r : Result Bool Memory) → (r ≡ Ok true → LeavesPeer m peers peers') → (r ≡ Ok false → peers' ≡ peers) → OnErr r (peers' ≡ peers) → Retires m now (tables maps peers')
    peer-told (Ok true) left none err = peer_retires (left refl)
    peer-told (Ok false) left none err = stays (none refl)
    peer-told (Err e) left none err = stays err

    pub peer-fewer : LeavesPeer m peers peers' → count_of (tables maps peers').found < count_of now.found
    peer-fewer left = peer_fewer left

-- ---- those that are forgotten

module _ {X : Type 0} (old new : List X) where
  pub rest-part : (x : X) → old ≡ x ∷ new → (l : X) → Contains new l → Contains old l
  rest-part x is l there = Contains-from_IsIn old l (subst (IsIn l) (sym is) (inr (IsIn-from_Contains new l there)))

  pub none-part : new ≡ [] → (l : X) → Contains new l → Contains old l
  none-part none l there = absurd (subst (IsIn l) none (IsIn-from_Contains new l there))

  pub either-part : (b : Bool) → OnTrue b ((x : X) × (old ≡ x ∷ new)) → OnFalse b ((old ≡ []) × (new ≡ [])) → (l : X) → Contains new l → Contains old l
  either-part true gone none = rest-part gone.0 gone.1
  either-part false gone none = none-part none.1
