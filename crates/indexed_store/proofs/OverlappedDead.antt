-- A lease that one overlaps which is put has ended: else the table after it wouldn't be sound.
use Rattle.std.proofs.Common.{◌≡◌, ℕ, ◌&&◌, ◌||◌, ◌==◌, ◌⊎◌, nat_lt, not, Bool, true, false, cond, List, [], ◌∷◌, filter, Contains, refl, inl, inr, sym, ap, ◌∙◌, subst}
use Rattle.std.specs.List.{list_any}
use Rattle.std.proofs.lemmas.Bool.{and_parts, or_cases, eqb-true, eq-eqb, false_from_ne_true}
use Rattle.pcp_base.specs.declared.records.Change.TheVariants.{Map, Peer}
use Rattle.pcp_base.specs.declared.leases.Endpoint.{Endpoint}
use Rattle.pcp_base.specs.declared.leases.MapLease.{MapLease}
use Rattle.pcp_base.specs.declared.leases.PeerLease.{PeerLease}
use Rattle.pcp_base.specs.Apply.{table_changed}
use Rattle.pcp_base.specs.Sound.{Sound}
use Rattle.pcp_base.specs.Tables.{Table, EachTwo, first_endpoint, is_map_of, is_peer_of, live, names, put, same_protocol}
use Rattle.pcp_base.proofs.Members.{IsIn, IsIn-from_Contains, filter-IsIn, All-IsIn, any-some, some-any}
use Rattle.pcp_base.proofs.Same.{same_endpoint-Decides, same_protocol-Decides}
use Rattle.pcp_base.proofs.StageLaws.{unlike}
use Rattle.pcp_base.proofs.TableLemmas.{key-own}
use Rattle.mapping_table.specs.Laws.{FewerMapsAreSound, SoundTablesHaveSoundMaps}
use Rattle.mapping_table.specs.MapLists.{overlaps as overlaps_map, AreSeparate, meet_inside, meet_outside}
use Rattle.mapping_table.proofs.Meetings.{separate-flip}
use Rattle.peer_table.specs.Laws.{FewerPeersAreSound, SoundTablesHaveSoundPeers}
use Rattle.peer_table.specs.PeerLists.{overlaps as overlaps_peer, has_other_port, has_other_endpoint}
use Rattle.peer_table.proofs.Fellows.{two_share}
use Rattle.indexed_store.proofs.DeadGo.{AreFewer, IsRest, map-goes, peer-goes}

-- ---- a lease that is put among others

pub put-there : {X : Type 0} (p : X → Bool) (y : X) (xs : List X) → IsIn y (put p y xs)
put-there p y [] = inl refl
put-there p y (x ∷ xs) = step (p x) (put-there p y xs)
  where
    step : (b : Bool) → IsIn y (put p y xs) → IsIn y (cond b (y ∷ xs) (x ∷ put p y xs))
    step true rest = inl refl
    step false rest = inr rest

-- one with another key stays
pub put-beside : {X : Type 0} (p : X → Bool) (y z : X) (xs : List X) → IsIn z xs → p z ≡ false → IsIn z (put p y xs)
put-beside p y z [] i other = absurd i
put-beside p y z (x ∷ xs) (inl same) other = step (p x) (ap p same ∙ other)
  where
    step : (b : Bool) → b ≡ false → IsIn z (cond b (y ∷ xs) (x ∷ put p y xs))
    step true fails = absurd (let never : true ≡ false = fails in cc)
    step false fails = inl same
put-beside p y z (x ∷ xs) (inr i) other = step (p x) (put-beside p y z xs i other)
  where
    step : (b : Bool) → IsIn z (put p y xs) → IsIn z (cond b (y ∷ xs) (x ∷ put p y xs))
    step true rest = inr i
    step false rest = inr rest

-- any two of a list, of which each two have this to each other
two-of : {X : Type 0} (R : X → X → Type 0) (xs : List X) (a b : X) → EachTwo R xs → IsIn a xs → IsIn b xs → (a ≡ b) ⊎ (R a b ⊎ R b a)
two-of R [] a b h i j = absurd i
two-of {X} R (x ∷ xs) a b h (inl e) (inl f) = inl (sym e ∙ f)
two-of {X} R (x ∷ xs) a b h (inl e) (inr j) = inr (inl (subst (λ (z : X). R z b) e (All-IsIn (R x) xs b h.0 j)))
two-of {X} R (x ∷ xs) a b h (inr i) (inl f) = inr (inr (subst (λ (z : X). R z a) f (All-IsIn (R x) xs a h.0 i)))
two-of R (x ∷ xs) a b h (inr i) (inr j) = two-of R xs a b h.1 i j

is-false : (b : Bool) → not b ≡ true → b ≡ false
is-false true h = sym h
is-false false h = refl

-- ---- MAP leases

map-apart : (a b : MapLease) → AreSeparate a b → (meet_inside a b ≡ true) ⊎ (meet_outside a b ≡ true) → ⊥
map-apart a b h (inl inside) = unlike (meet_inside a b) inside h.inside
map-apart a b h (inr outside) = unlike (meet_outside a b) outside h.outside

module _ (law : SoundTablesHaveSoundMaps) (m : ℕ) (t : Table) (l : MapLease) (after : Sound (table_changed (Map l) (live t m))) where
  abbrev has_map_key : MapLease → Bool
  has_map_key = is_map_of (first_endpoint l)

  abbrev maps_after : List MapLease
  maps_after = put has_map_key l (live t m).maps

  map-not_live : (x : MapLease) → overlaps_map l x ≡ true → IsIn x t.maps → nat_lt m x.expiry ≡ true → ⊥
  map-not_live x meets i alive =
      let parts = and_parts (not (has_map_key x)) (meet_inside l x || meet_outside l x) meets in
      let other = is-false (has_map_key x) parts.0 in
      let there = put-beside has_map_key l x (live t m).maps (filter-IsIn (λ (y : MapLease). nat_lt m y.expiry) t.maps x i alive) other in
      let which = or_cases (meet_inside l x) (meet_outside l x) parts.1 in
      elim (two-of AreSeparate maps_after l x (law (table_changed (Map l) (live t m)) after).separate (put-there has_map_key l (live t m).maps) there) [
        | inl same ↦ unlike (has_map_key x) (ap has_map_key (sym same) ∙ key-own l) other
        | inr apart ↦ elim apart [
          | inl forth ↦ map-apart l x forth which
          | inr back ↦ map-apart l x (separate-flip x l back) which
        ]
      ]

  map-dead : (x : MapLease) → overlaps_map l x ≡ true → IsIn x t.maps → nat_lt m x.expiry ≡ false
  map-dead x meets i = false_from_ne_true (nat_lt m x.expiry) (λ alive. map-not_live x meets i alive)

  -- the lease with a key that is told as overlapped
  map-told : (key : Endpoint) → list_any (λ x. is_map_of key x && overlaps_map l x) t.maps ≡ true
      → (x : MapLease) × IsIn x t.maps × (is_map_of key x ≡ true) × (nat_lt m x.expiry ≡ false)
  map-told key told =
      let x = any-some (λ x. is_map_of key x && overlaps_map l x) t.maps told in
      let both = and_parts (is_map_of key x.0) (overlaps_map l x.0) x.2 in
      (x.0, x.1, both.0, map-dead x.0 both.1 x.1)

-- ---- PEER leases

module _ (law : SoundTablesHaveSoundPeers) (m : ℕ) (t : Table) (l : PeerLease) (after : Sound (table_changed (Peer l) (live t m))) where
  abbrev has_peer_key : PeerLease → Bool
  has_peer_key = is_peer_of l.endpoint l.remote l.remote_port

  abbrev peers_after : List PeerLease
  peers_after = put has_peer_key l (live t m).peers

  peer-not_live : (x : PeerLease) → overlaps_peer l x ≡ true → IsIn x t.peers → nat_lt m x.expiry ≡ true → ⊥
  peer-not_live x meets i alive =
      let parts = and_parts (not (has_peer_key x)) (has_other_port l x || has_other_endpoint l x) meets in
      let there = put-beside has_peer_key l x (live t m).peers (filter-IsIn (λ (y : PeerLease). nat_lt m y.expiry) t.peers x i alive) (is-false (has_peer_key x) parts.0) in
      let share = two_share peers_after x l (law (table_changed (Peer l) (live t m)) after).fellows there (put-there has_peer_key l (live t m).peers) in
      elim (or_cases (has_other_port l x) (has_other_endpoint l x) parts.1) [
        | inl port ↦ (let p = and_parts (names x l.endpoint) (not (x.external == l.external)) port in
            unlike (x.external == l.external) (eq-eqb x.external l.external (share.port ((same_endpoint-Decides x.endpoint l.endpoint).0 p.0))) (is-false (x.external == l.external) p.1))
        | inr endpoint ↦ (let p = and_parts (same_protocol x.endpoint.protocol l.endpoint.protocol && x.external == l.external) (not (names x l.endpoint)) endpoint in
            let q = and_parts (same_protocol x.endpoint.protocol l.endpoint.protocol) (x.external == l.external) p.0 in
            unlike (names x l.endpoint) ((same_endpoint-Decides x.endpoint l.endpoint).1 (share.endpoint ((same_protocol-Decides x.endpoint.protocol l.endpoint.protocol).0 q.0) (eqb-true x.external l.external q.1))) (is-false (names x l.endpoint) p.1))
      ]

  peer-dead : (x : PeerLease) → overlaps_peer l x ≡ true → IsIn x t.peers → nat_lt m x.expiry ≡ false
  peer-dead x meets i = false_from_ne_true (nat_lt m x.expiry) (λ alive. peer-not_live x meets i alive)

-- ---- where no lease has ended, none is overlapped

pub map-clear : SoundTablesHaveSoundMaps → (m : ℕ) (t : Table) (l : MapLease) → Sound (table_changed (Map l) (live t m))
    → list_any (λ x. not (nat_lt m x.expiry)) t.maps ≡ false → list_any (overlaps_map l) t.maps ≡ false
map-clear law m t l after none = false_from_ne_true (list_any (overlaps_map l) t.maps) (λ some.
    let x = any-some (overlaps_map l) t.maps some in
    unlike (list_any (λ y. not (nat_lt m y.expiry)) t.maps) (some-any (λ y. not (nat_lt m y.expiry)) t.maps x.0 x.1 (ap not (map-dead law m t l after x.0 x.2 x.1))) none)

pub peer-clear : SoundTablesHaveSoundPeers → (m : ℕ) (t : Table) (l : PeerLease) → Sound (table_changed (Peer l) (live t m))
    → list_any (λ x. not (nat_lt m x.expiry)) t.peers ≡ false → list_any (overlaps_peer l) t.peers ≡ false
peer-clear law m t l after none = false_from_ne_true (list_any (overlaps_peer l) t.peers) (λ some.
    let x = any-some (overlaps_peer l) t.peers some in
    unlike (list_any (λ y. not (nat_lt m y.expiry)) t.peers) (some-any (λ y. not (nat_lt m y.expiry)) t.peers x.0 x.1 (ap not (peer-dead law m t l after x.0 x.2 x.1))) none)

-- ---- while leases go, of which the first were those of a table (start), and some are left (here)

module _ (m : ℕ) (start here : Table) (rest : IsRest m start here) where
  pub overlapped_map-goes : SoundTablesHaveSoundMaps → FewerMapsAreSound → (l : MapLease) → Sound (table_changed (Map l) (live start m))
      → (key : Endpoint) → list_any (λ x. is_map_of key x && overlaps_map l x) here.maps ≡ true
      → (maps : List MapLease) → maps ≡ filter (λ x. not (is_map_of key x)) here.maps → AreFewer m here (record here { maps = maps })
  overlapped_map-goes sound fewer l after key told maps are =
      let now = subst (λ (t : Table). Sound (table_changed (Map l) t)) (sym rest.same) after in
      let x = map-told sound m here l now key told in
      map-goes m here here refl rest.tabled fewer x.0 key x.1 x.3 x.2 maps are

  pub overlapped_peer-goes : SoundTablesHaveSoundPeers → FewerPeersAreSound → (l : PeerLease) → Sound (table_changed (Peer l) (live start m))
      → (x : PeerLease) → Contains here.peers x → overlaps_peer l x ≡ true
      → (peers : List PeerLease) → peers ≡ filter (λ y. not (is_peer_of x.endpoint x.remote x.remote_port y)) here.peers → AreFewer m here (record here { peers = peers })
  overlapped_peer-goes sound fewer l after x among meets peers are =
      let now = subst (λ (t : Table). Sound (table_changed (Peer l) t)) (sym rest.same) after in
      let i = IsIn-from_Contains here.peers x among in
      peer-goes m here here refl rest.tabled fewer x i (peer-dead sound m here l now x meets i) peers are
