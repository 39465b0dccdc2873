-- A lease that is put or taken out beside others that have ended.
use Rattle.std.proofs.Common.{◌≡◌, ℕ, ◌+◌, ◌<◌, ◌≤◌, nat_lt, not, Bool, true, false, cond, List, [], ◌∷◌, filter, find, length, Option, Some, None, IsSome, IfSome, refl, sym, ap, ◌∙◌, subst, arith}
use Rattle.std.proofs.lemmas.Bool.{cond-true, cond-false, lt-ltb}
use Rattle.pcp_base.specs.declared.addresses.Address.{Address}
use Rattle.pcp_base.specs.declared.leases.Endpoint.{Endpoint}
use Rattle.pcp_base.specs.declared.leases.MapLease.{MapLease}
use Rattle.pcp_base.specs.declared.leases.PeerLease.{PeerLease}
use Rattle.pcp_base.specs.declared.leases.TheConstants.{MOST_LEASES}
use Rattle.pcp_base.specs.declared.records.Change.TheVariants.{Map, Peer, DropMap, DropPeer}
use Rattle.pcp_base.specs.Tables.{Table, IsMapLease, IsPeerLease, first_endpoint, is_map_of, is_peer_of, live, put}
use Rattle.pcp_base.specs.Apply.{table_changed}
use Rattle.pcp_base.proofs.Members.{IsIn-filter, find-some}
use Rattle.pcp_base.proofs.StageLaws.{unlike}
use Rattle.pcp_base.proofs.StepLaws.{put-new}
use Rattle.pcp_base.proofs.TableLemmas.{length-fewer}
use Rattle.mapping_table.specs.MapLists.{AreSoundMaps, with_map}
use Rattle.mapping_table.specs.Laws.{FewerMapsAreSound, MapsAreSoundWithOneMore}
use Rattle.peer_table.specs.PeerLists.{AreSoundPeers, with_peer}
use Rattle.peer_table.specs.Laws.{FewerPeersAreSound, PeersAreSoundWithOneMore}
use Rattle.indexed_store.specs.declared.owning.OwnerRun.{OwnerRun}
use Rattle.indexed_store.specs.Runs.{IsOwnerRun, map_run}
use Rattle.indexed_store.specs.Holding.{IsEven, IsEvenRun}
use Rattle.indexed_store.specs.MakingWay.{HasWayForMap, HasWayForPeer}
use Rattle.indexed_store.specs.Tabled.{AreTabled}
use Rattle.indexed_store.proofs.EvenLemmas.{even_own, even_gone}
use Rattle.indexed_store.proofs.Uniques.{AtMostOne, gone-within, none-within, one-key, one-peer, one-within}

-- ---- an item with a key, among items of which those that pass `alive` count

module _ {X : Type 0} (has_key alive : X → Bool) where
  -- one that passes is put in the place of one that passes, or at the end
  put_live : (y : X) (xs : List X) → alive y ≡ true → IfSome (find has_key xs) (λ x. alive x ≡ true) → filter alive (put has_key y xs) ≡ put has_key y (filter alive xs)
  put_live y [] is own = cond-true (alive y) (y ∷ []) [] is
  put_live y (x ∷ xs) is own = step (has_key x) (alive x) refl refl own (put_live y xs is)
    where
      step : (k a : Bool) → has_key x ≡ k → alive x ≡ a → IfSome (cond k (Some x) (find has_key xs)) (λ z. alive z ≡ true)
          → (IfSome (find has_key xs) (λ z. alive z ≡ true) → filter alive (put has_key y xs) ≡ put has_key y (filter alive xs))
          → filter alive (cond k (y ∷ xs) (x ∷ put has_key y xs)) ≡ put has_key y (cond a (x ∷ filter alive xs) (filter alive xs))
      step true true k a o rest = cond-true (alive y) (y ∷ filter alive xs) (filter alive xs) is ∙ sym (cond-true (has_key x) (y ∷ filter alive xs) (x ∷ put has_key y (filter alive xs)) k)
      step true false k a o rest = absurd (unlike (alive x) o a)
      step false true k a o rest = cond-true (alive x) (x ∷ filter alive (put has_key y xs)) (filter alive (put has_key y xs)) a
          ∙ ap (λ (ys : List X). x ∷ ys) (rest o) ∙ sym (cond-false (has_key x) (y ∷ filter alive xs) (x ∷ put has_key y (filter alive xs)) k)
      step false false k a o rest = cond-false (alive x) (x ∷ filter alive (put has_key y xs)) (filter alive (put has_key y xs)) a ∙ rest o

  -- where one that passes is taken out, it is that with the key
  taken_live : (xs : List X) → AtMostOne has_key xs → IsSome (find has_key (filter alive xs)) → find has_key xs ≡ find has_key (filter alive xs)
  taken_live xs one there = step (find has_key xs) refl
    where
      step : (o : Option X) → find has_key xs ≡ o → o ≡ find has_key (filter alive xs)
      step None h = sym (none-within has_key alive xs h)
      step (Some x) h = each (alive x) refl
        where
          each : (b : Bool) → alive x ≡ b → Some x ≡ find has_key (filter alive xs)
          each true a = sym (one-within has_key alive xs x h a)
          each false a = absurd (let none : find has_key (filter alive xs) ≡ None = gone-within has_key alive xs x one h a in
              let some : false ≡ true = subst IsSome none there in cc)

filter_turned : {X : Type 0} (p q : X → Bool) (xs : List X) → filter p (filter q xs) ≡ filter q (filter p xs)
filter_turned p q [] = refl
filter_turned {X} p q (x ∷ xs) = step (p x) (q x) refl refl (filter_turned p q xs)
  where
    step : (a b : Bool) → p x ≡ a → q x ≡ b → filter p (filter q xs) ≡ filter q (filter p xs)
        → filter p (cond b (x ∷ filter q xs) (filter q xs)) ≡ filter q (cond a (x ∷ filter p xs) (filter p xs))
    step true true e f rest = cond-true (p x) (x ∷ filter p (filter q xs)) (filter p (filter q xs)) e ∙ ap (λ (ys : List X). x ∷ ys) rest
        ∙ sym (cond-true (q x) (x ∷ filter q (filter p xs)) (filter q (filter p xs)) f)
    step true false e f rest = rest ∙ sym (cond-false (q x) (x ∷ filter q (filter p xs)) (filter q (filter p xs)) f)
    step false true e f rest = cond-false (p x) (x ∷ filter p (filter q xs)) (filter p (filter q xs)) e ∙ rest
    step false false e f rest = rest

-- how many there are where one is put
put_count : {X : Type 0} (has_key : X → Bool) (y : X) (xs : List X) (others most : ℕ) → length xs + others ≤ most
    → (find has_key xs ≡ None → length xs + others < most) → length (put has_key y xs) + others ≤ most
put_count {X} has_key y xs others most few room = step (find has_key xs) refl
  where
    longer : {X : Type 0} (has_key : X → Bool) (y : X) (xs : List X) → length (put has_key y xs) ≤ length xs + 1
    longer has_key y [] = omega arith
    longer has_key y (x ∷ xs) = each (has_key x) (longer has_key y xs)
      where
        each : (b : Bool) → length (put has_key y xs) ≤ length xs + 1 → length (cond b (y ∷ xs) (x ∷ put has_key y xs)) ≤ length (x ∷ xs) + 1
        each true rest = omega arith
        each false rest = omega (arith, rest)

    same : {X : Type 0} (has_key : X → Bool) (y : X) (xs : List X) (z : X) → find has_key xs ≡ Some z → length (put has_key y xs) ≡ length xs
    same has_key y [] z h = absurd (let never : None ≡ Some z = h in cc)
    same has_key y (x ∷ xs) z h = each (has_key x) h (same has_key y xs z)
      where
        each : (b : Bool) → cond b (Some x) (find has_key xs) ≡ Some z → (find has_key xs ≡ Some z → length (put has_key y xs) ≡ length xs)
            → length (cond b (y ∷ xs) (x ∷ put has_key y xs)) ≡ length (x ∷ xs)
        each true h rest = omega arith
        each false h rest = let e = rest h in omega (arith, e)

    step : (o : Option X) → find has_key xs ≡ o → length (put has_key y xs) + others ≤ most
    step None h = let less = room h in let more = longer has_key y xs in omega (arith, less, more)
    step (Some z) h = let equal = same has_key y xs z h in omega (arith, few, equal)

-- ---- a MAP lease comes

abbrev pub with_one_map : MapLease → Table → Table
with_one_map l t = record t { maps = with_map l t.maps }

-- the same, where a table is seen as this one
pub seen_with_map : (l : MapLease) (t before : Table) (maps : List MapLease) → before ≡ t
    → maps ≡ with_map l before.maps → record before { maps = maps } ≡ with_one_map l t
seen_with_map l t before maps seen are =
    ap (λ (ls : List MapLease). record before { maps = ls }) are ∙ ap (with_one_map l) seen

module _ (m : ℕ) (l : MapLease) (t : Table) (way : HasWayForMap m l t) where
  pub maps_with_one : MapsAreSoundWithOneMore → IsMapLease l → AreSoundMaps (with_map l t.maps)
  maps_with_one law is = law l t.maps way.tabled.maps is way.apart (λ none. let less = way.room none in omega (arith, less))

  pub map_tabled : MapsAreSoundWithOneMore → IsMapLease l → AreTabled (with_one_map l t)
  map_tabled law is = record {
    maps = maps_with_one law is;
    peers = way.tabled.peers;
    few = put_count (is_map_of (first_endpoint l)) l t.maps (length t.peers) MOST_LEASES way.tabled.few way.room;
  }

  pub map_live : m < l.expiry → live (with_one_map l t) m ≡ table_changed (Map l) (live t m)
  map_live later = ap (λ (ls : List MapLease). record (live t m) { maps = ls })
      (put_live (is_map_of (first_endpoint l)) (λ (x : MapLease). nat_lt m x.expiry) l t.maps (lt-ltb m l.expiry later) way.own)

  pub map_even : MapsAreSoundWithOneMore → IsMapLease l → (r : OwnerRun) → r ≡ map_run l → IsOwnerRun r → IsEvenRun (with_map l t.maps) r
  map_even law is r same formed = record {
    formed = formed;
    even = subst (IsEven (with_map l t.maps)) (sym same)
        (even_own (with_one_map l t) l (map_tabled law is) (put-new (is_map_of (first_endpoint l)) l t.maps) (subst IsOwnerRun same formed).some);
  }

-- ---- a PEER lease comes

abbrev pub with_one_peer : PeerLease → Table → Table
with_one_peer l t = record t { peers = with_peer l t.peers }

pub seen_with_peer : (l : PeerLease) (t before : Table) (peers : List PeerLease) → before ≡ t
    → peers ≡ with_peer l before.peers → record before { peers = peers } ≡ with_one_peer l t
seen_with_peer l t before peers seen are =
    ap (λ (ls : List PeerLease). record before { peers = ls }) are ∙ ap (with_one_peer l) seen

module _ (m : ℕ) (l : PeerLease) (t : Table) (way : HasWayForPeer m l t) where
  pub peers_with_one : PeersAreSoundWithOneMore → IsPeerLease l → AreSoundPeers (with_peer l t.peers)
  peers_with_one law is = law l t.peers way.tabled.peers is way.apart
      (λ none. record { few = (let less = way.room none in omega (arith, less)); few_peers = way.of_endpoint none })

  pub peer_tabled : PeersAreSoundWithOneMore → IsPeerLease l → AreTabled (with_one_peer l t)
  peer_tabled law is = record {
    maps = way.tabled.maps;
    peers = peers_with_one law is;
    few = (let few = way.tabled.few in
        let most = put_count (is_peer_of l.endpoint l.remote l.remote_port) l t.peers (length t.maps) MOST_LEASES (omega (arith, few))
        (λ none. let less = way.room none in omega (arith, less)) in
        omega (arith, most));
  }

  pub peer_live : m < l.expiry → live (with_one_peer l t) m ≡ table_changed (Peer l) (live t m)
  peer_live later = ap (λ (ls : List PeerLease). record (live t m) { peers = ls })
      (put_live (is_peer_of l.endpoint l.remote l.remote_port) (λ (x : PeerLease). nat_lt m x.expiry) l t.peers (lt-ltb m l.expiry later) way.own)

-- ---- a MAP lease goes

abbrev pub without_map : Endpoint → Table → Table
without_map e t = record t { maps = filter (λ (x : MapLease). not (is_map_of e x)) t.maps }

-- the same, where a table is seen as this one
pub seen_without_map : (e : Endpoint) (t before : Table) (maps : List MapLease) → before ≡ t
    → maps ≡ filter (λ (x : MapLease). not (is_map_of e x)) before.maps
    → record before { maps = maps } ≡ without_map e t
seen_without_map e t before maps seen are =
    ap (λ (ls : List MapLease). record before { maps = ls }) are ∙ ap (without_map e) seen

module _ (m : ℕ) (e : Endpoint) (t : Table) (tabled : AreTabled t) where
  pub gone_tabled : FewerMapsAreSound → AreTabled (without_map e t)
  gone_tabled law = record {
    maps = law (λ (x : MapLease). not (is_map_of e x)) t.maps tabled.maps;
    peers = tabled.peers;
    few = (let few = tabled.few in let less = length-fewer (λ (x : MapLease). not (is_map_of e x)) t.maps in omega (arith, few, less));
  }

  pub gone_live : live (without_map e t) m ≡ table_changed (DropMap e) (live t m)
  gone_live = ap (λ (ls : List MapLease). record (live t m) { maps = ls })
      (filter_turned (λ (x : MapLease). nat_lt m x.expiry) (λ (x : MapLease). not (is_map_of e x)) t.maps)

  pub gone_is : IsSome (find (is_map_of e) (live t m).maps) → find (is_map_of e) t.maps ≡ find (is_map_of e) (live t m).maps
  gone_is = taken_live (is_map_of e) (λ (x : MapLease). nat_lt m x.expiry) t.maps (one-key t e tabled)

  pub gone_even : (l : MapLease) → find (is_map_of e) t.maps ≡ Some l → (r : OwnerRun) → r ≡ map_run l → IsOwnerRun r → IsEvenRun (without_map e t).maps r
  gone_even l h r same formed =
      let f = find-some (is_map_of e) t.maps l h in
      let maps = (without_map e t).maps in
      record {
        formed = formed;
        even = subst (IsEven maps) (sym same)
            (even_gone t l maps tabled f.0 (subst IsOwnerRun same formed).some (λ x i. (IsIn-filter (λ (y : MapLease). not (is_map_of e y)) t.maps x i).0)
            (λ i. let stays = (IsIn-filter (λ (y : MapLease). not (is_map_of e y)) t.maps l i).1 in
            let no : true ≡ false = sym stays ∙ ap not f.1 in cc));
      }

-- ---- a PEER lease goes

abbrev pub without_peer : Endpoint → Address → ℕ → Table → Table
without_peer e remote port t = record t { peers = filter (λ (x : PeerLease). not (is_peer_of e remote port x)) t.peers }

pub seen_without_peer : (e : Endpoint) (remote : Address) (port : ℕ) (t before : Table)
    (peers : List PeerLease) → before ≡ t
    → peers ≡ filter (λ (x : PeerLease). not (is_peer_of e remote port x)) before.peers
    → record before { peers = peers } ≡ without_peer e remote port t
seen_without_peer e remote port t before peers seen are =
    ap (λ (ls : List PeerLease). record before { peers = ls }) are ∙ ap (without_peer e remote port) seen

module _ (m : ℕ) (e : Endpoint) (remote : Address) (port : ℕ) (t : Table) (tabled : AreTabled t) where
  pub peer_gone_tabled : FewerPeersAreSound → AreTabled (without_peer e remote port t)
  peer_gone_tabled law = record {
    maps = tabled.maps;
    peers = law (λ (x : PeerLease). not (is_peer_of e remote port x)) t.peers tabled.peers;
    few = (let few = tabled.few in let less = length-fewer (λ (x : PeerLease). not (is_peer_of e remote port x)) t.peers in omega (arith, few, less));
  }

  pub peer_gone_live : live (without_peer e remote port t) m ≡ table_changed (DropPeer e remote port) (live t m)
  peer_gone_live = ap (λ (ls : List PeerLease). record (live t m) { peers = ls })
      (filter_turned (λ (x : PeerLease). nat_lt m x.expiry) (λ (x : PeerLease). not (is_peer_of e remote port x)) t.peers)

  pub peer_gone_is : IsSome (find (is_peer_of e remote port) (live t m).peers) → find (is_peer_of e remote port) t.peers ≡ find (is_peer_of e remote port) (live t m).peers
  peer_gone_is = taken_live (is_peer_of e remote port) (λ (x : PeerLease). nat_lt m x.expiry) t.peers (one-peer e remote port t tabled)
