-- The cells keep standing for the lease table, record by record.
use Rattle.std.proofs.Common.{◌≡◌, ◌≢◌, ℕ, ◌<◌, ◌≤◌, ◌==◌, nat_lt, not, Bool, true, false, cond, List, [], ◌∷◌, ◌++◌, map, filter, length, refl, sym, ap, ◌∙◌, subst, arith, length-append}
use Rattle.std.specs.List.{AllByRecursion}
use Rattle.std.proofs.lemmas.List.{length-map}
use Rattle.std.proofs.lemmas.Bool.{and_parts, and_from, cond_both, cond-true, cond-false, eqb-true, eq-eqb, ltb-true, ltb-false, lt-ltb, leb-true, false_from_ne_true}
use Rattle.pcp_base.specs.declared.addresses.Address.{Address}
use Rattle.pcp_base.specs.declared.leases.Endpoint.{Endpoint}
use Rattle.pcp_base.specs.declared.leases.MapLease.{MapLease}
use Rattle.pcp_base.specs.declared.leases.PeerLease.{PeerLease}
use Rattle.pcp_base.specs.declared.leases.TheConstants.{MOST_LEASES}
use Rattle.pcp_base.specs.Tables.{Table, EachTwo, live, is_map_of, is_peer_of}
use Rattle.pcp_base.specs.Sound.{Sound}
use Rattle.pcp_base.proofs.Members.{IsIn, IsIn-from_Contains, Contains-from_IsIn, All-IsIn, All-from_IsIn, All-filter, IsIn-append, IsIn-left, IsIn-right, IsIn-filter, filter-IsIn, IsIn-map, map-IsIn, flat_map-IsIn, EachTwo-filter, EachTwo-push}
use Rattle.pcp_base.proofs.TableLemmas.{length-fewer, Sound-filter, Sound-filter_maps, Sound-live}
use Rattle.lane_index.specs.declared.links.TheConstants.{CELLS}
use Rattle.lane_index.specs.declared.cells.Cell.{Cell}
use Rattle.lane_index.specs.declared.cells.Cell.TheVariants.{Mapping, Peering}
use Rattle.lane_index.specs.Slots.{map_kept, peer_kept, takes, is_live}
use Rattle.lane_index.specs.Openings.{LaterWins}
use Rattle.lane_index.specs.Applying.{map_ended, peer_ended, with_room}
use Rattle.lane_index.specs.LeaseCells.{IsOf, AreTwo, AreCellsOf}
use Rattle.lane_index.proofs.ListLemmas.{two-weaker, two-map, no-more}

unlike : {b : Bool} → b ≡ true → b ≡ false → ⊥
unlike h k = let never : true ≡ false = sym h ∙ k in cc

-- ---- time

live-sooner : (m n : ℕ) (c : Cell) → m ≤ n → is_live n c ≡ true → is_live m c ≡ true
live-sooner m n (Mapping l) le h = let lt = ltb-true n l.expiry h in lt-ltb m l.expiry (omega (arith, le, lt))
live-sooner m n (Peering l) le h = let lt = ltb-true n l.expiry h in lt-ltb m l.expiry (omega (arith, le, lt))

sooner : (m n e : ℕ) → m ≤ n → nat_lt n e ≡ true → nat_lt m e ≡ true
sooner m n e le h = let lt = ltb-true n e h in lt-ltb m e (omega (arith, le, lt))

dead-later : (m n : ℕ) (c : Cell) → m ≤ n → is_live m c ≡ false → is_live n c ≡ false
dead-later m n c le h = false_from_ne_true (is_live n c) (λ yes. absurd (unlike (live-sooner m n c le yes) h))

of-live : (t : Table) (n : ℕ) (c : Cell) → IsOf t c → is_live n c ≡ true → IsOf (live t n) c
of-live t n (Mapping k) h alive = (h.0, filter-IsIn (λ (l : MapLease). nat_lt n l.expiry) t.maps h.0 h.1 (ap (λ (l : MapLease). nat_lt n l.expiry) h.2 ∙ alive), h.2)
of-live t n (Peering k) h alive = (h.0, filter-IsIn (λ (l : PeerLease). nat_lt n l.expiry) t.peers h.0 h.1 (ap (λ (l : PeerLease). nat_lt n l.expiry) h.2 ∙ alive), h.2)

-- what leases a table at a moment leases, at a later one, its leases that are live then
pub leases-later : (t : Table) (m n : ℕ) (cells : List Cell) → m ≤ n → AreCellsOf t m cells → AreCellsOf (live t n) n cells
leases-later t m n cells le h = record {
  sound = Sound-live t n h.sound;
  shown = λ c there alive. of-live t n c (h.shown c there (live-sooner m n c le alive)) alive;
  maps = λ l there alive. h.maps l (IsIn-filter (λ (x : MapLease). nat_lt n x.expiry) t.maps l there).0 (sooner m n l.expiry le alive);
  peers = λ l there alive. h.peers l (IsIn-filter (λ (x : PeerLease). nat_lt n x.expiry) t.peers l there).0 (sooner m n l.expiry le alive);
  later = two-weaker (LaterWins m) (LaterWins n) (λ c d wins slot x y. dead-later m n c le (wins slot x y)) cells h.later;
  different = two-weaker (AreTwo m) (AreTwo n) (λ c d two x y. two (live-sooner m n c le x) (live-sooner m n d le y)) cells h.different;
  few = h.few;
}

-- ---- room

pub leases-filter : (t : Table) (m : ℕ) (cells : List Cell) → AreCellsOf t m cells → AreCellsOf t m (filter (is_live m) cells)
leases-filter t m cells h = record {
  sound = h.sound;
  shown = λ c there alive. h.shown c (IsIn-filter (is_live m) cells c there).0 alive;
  maps = λ l there alive. filter-IsIn (is_live m) cells (Mapping (map_kept l)) (h.maps l there alive) alive;
  peers = λ l there alive. filter-IsIn (is_live m) cells (Peering (peer_kept l)) (h.peers l there alive) alive;
  later = EachTwo-filter (LaterWins m) (is_live m) cells h.later;
  different = EachTwo-filter (AreTwo m) (is_live m) cells h.different;
  few = omega (arith, h.few, length-fewer (is_live m) cells);
}

-- what cells keep of the leases of a table
abbrev kept_all : Table → List Cell
kept_all t = map (λ l. Mapping (map_kept l)) t.maps ++ map (λ l. Peering (peer_kept l)) t.peers

kept-in : (t : Table) (c : Cell) → IsOf t c → IsIn c (kept_all t)
kept-in t (Mapping k) h = subst (λ (c : Cell). IsIn c (kept_all t)) (ap Mapping h.2)
    (IsIn-left (map (λ l. Mapping (map_kept l)) t.maps) (map (λ l. Peering (peer_kept l)) t.peers) (Mapping (map_kept h.0)) (map-IsIn (λ l. Mapping (map_kept l)) t.maps h.0 h.1))
kept-in t (Peering k) h = subst (λ (c : Cell). IsIn c (kept_all t)) (ap Peering h.2)
    (IsIn-right (map (λ l. Mapping (map_kept l)) t.maps) (map (λ l. Peering (peer_kept l)) t.peers) (Peering (peer_kept h.0)) (map-IsIn (λ l. Peering (peer_kept l)) t.peers h.0 h.1))

each-live : (m : ℕ) (cells : List Cell) → EachTwo (AreTwo m) (filter (is_live m) cells) → AllByRecursion (λ c. is_live m c ≡ true) (filter (is_live m) cells) → EachTwo (λ c d. c ≢ d) (filter (is_live m) cells)
each-live m cells two alive = strong (filter (is_live m) cells) two alive
  where
    strong : (xs : List Cell) → EachTwo (AreTwo m) xs → AllByRecursion (λ c. is_live m c ≡ true) xs → EachTwo (λ c d. c ≢ d) xs
    strong [] two alive = tt
    strong (x ∷ xs) two alive = (All-from_IsIn (λ d. x ≢ d) xs (λ d i. All-IsIn (AreTwo m x) xs d two.0 i alive.0 (All-IsIn (λ c. is_live m c ≡ true) xs d alive.1 i)), strong xs two.1 alive.1)

-- live cells are no more than the leases of the table
few-live : (t : Table) (m : ℕ) (cells : List Cell) → AreCellsOf t m cells → length (filter (is_live m) cells) ≤ MOST_LEASES
few-live t m cells h =
    let alive : AllByRecursion (λ c. is_live m c ≡ true) (filter (is_live m) cells) = All-from_IsIn (λ c. is_live m c ≡ true) (filter (is_live m) cells) (λ c i. (IsIn-filter (is_live m) cells c i).1) in
    let n = no-more (filter (is_live m) cells) (kept_all t) (each-live m cells (EachTwo-filter (AreTwo m) (is_live m) cells h.different) alive)
    (λ c i. let r = IsIn-filter (is_live m) cells c i in kept-in t c (h.shown c r.0 r.1)) in
    omega (arith, n, h.sound.few, length-append (map (λ l. Mapping (map_kept l)) t.maps) (map (λ l. Peering (peer_kept l)) t.peers), length-map t.maps (λ (l : MapLease). Mapping (map_kept l)), length-map t.peers (λ (l : PeerLease). Peering (peer_kept l)))

pub leases-room : (t : Table) (m : ℕ) (cells : List Cell) → AreCellsOf t m cells → (length (with_room m cells) < CELLS) × AreCellsOf t m (with_room m cells)
leases-room t m cells h = step (length cells == CELLS) refl
  where
    step : (b : Bool) → (length cells == CELLS) ≡ b → (length (cond b (filter (is_live m) cells) cells) < CELLS) × AreCellsOf t m (cond b (filter (is_live m) cells) cells)
    step true is = (let few = few-live t m cells h in omega (arith, few), leases-filter t m cells h)
    step false is = (let other = Rattle.std.proofs.lemmas.Bool.eqb-false (length cells) CELLS is in omega (arith, other, h.few), h)

-- ---- ended leases

map-dead : (m : ℕ) (k : MapLease) → is_live m (Mapping (record k { expiry = 0 })) ≡ false
map-dead m k = false_from_ne_true (nat_lt m 0) (λ yes. let lt = ltb-true m 0 yes in absurd (omega (arith, lt)))

peer-dead : (m : ℕ) (k : PeerLease) → is_live m (Peering (record k { expiry = 0 })) ≡ false
peer-dead m k = false_from_ne_true (nat_lt m 0) (λ yes. let lt = ltb-true m 0 yes in absurd (omega (arith, lt)))

module _ (e : Endpoint) where
  -- a cell that is live afterwards is as it was, and hasn't the key
  map-ended-live : (m : ℕ) (c : Cell) → is_live m (map_ended e c) ≡ true → (map_ended e c ≡ c) × ((k : MapLease) → c ≡ Mapping k → is_map_of e k ≡ false)
  map-ended-live m (Peering l) alive = (refl, λ k is. absurd (let never : Peering l ≡ Mapping k = is in cc))
  map-ended-live m (Mapping l) alive = step (is_map_of e l) refl alive
    where
      step : (b : Bool) → is_map_of e l ≡ b → is_live m (cond b (Mapping (record l { expiry = 0 })) (Mapping l)) ≡ true → (cond b (Mapping (record l { expiry = 0 })) (Mapping l) ≡ Mapping l) × ((k : MapLease) → Mapping l ≡ Mapping k → is_map_of e k ≡ false)
      step true is alive' = absurd (unlike alive' (map-dead m l))
      step false is alive' = (refl, λ k same. let one : l ≡ k = cc in subst (λ (x : MapLease). is_map_of e x ≡ false) one is)

  map-ended-takes : (slot : ℕ) (c : Cell) → takes slot (map_ended e c) ≡ true → takes slot c ≡ true
  map-ended-takes slot (Peering l) h = h
  map-ended-takes slot (Mapping l) h = step (is_map_of e l) h
    where
      step : (b : Bool) → takes slot (cond b (Mapping (record l { expiry = 0 })) (Mapping l)) ≡ true → takes slot (Mapping l) ≡ true
      step true h' = h'
      step false h' = h'

  map-ended-dead : (m : ℕ) (c : Cell) → is_live m c ≡ false → is_live m (map_ended e c) ≡ false
  map-ended-dead m c h = false_from_ne_true (is_live m (map_ended e c)) (λ yes. absurd (unlike (ap (is_live m) (sym (map-ended-live m c yes).0) ∙ yes) h))

  map-ended-other : (l : MapLease) → is_map_of e l ≡ false → map_ended e (Mapping l) ≡ Mapping l
  map-ended-other l h = cond-false (is_map_of e l) (Mapping (record l { expiry = 0 })) (Mapping l) h

  pub leases-map_ended : (t : Table) (m : ℕ) (cells : List Cell) → AreCellsOf t m cells
      → AreCellsOf (record t { maps = filter (λ l. not (is_map_of e l)) t.maps }) m (map (map_ended e) cells)
  leases-map_ended t m cells h = record {
    sound = Sound-filter_maps t (λ l. not (is_map_of e l)) h.sound;
    shown = λ c there alive. (let r = IsIn-map (map_ended e) cells c there in
        let alive' : is_live m (map_ended e r.0) ≡ true = ap (is_live m) r.2 ∙ alive in
        let f = map-ended-live m r.0 alive' in
        let same : r.0 ≡ c = sym f.0 ∙ r.2 in
        still c (subst (λ (d : Cell). IsOf t d) same (h.shown r.0 r.1 (ap (is_live m) same ∙ alive))) (λ k is. f.1 k (same ∙ is)));
    maps = λ l there alive. (let r = IsIn-filter (λ (x : MapLease). not (is_map_of e x)) t.maps l there in
        subst (λ (c : Cell). IsIn c (map (map_ended e) cells)) (map-ended-other (map_kept l) (not-true (is_map_of e l) r.1)) (map-IsIn (map_ended e) cells (Mapping (map_kept l)) (h.maps l r.0 alive)));
    peers = λ l there alive. map-IsIn (map_ended e) cells (Peering (peer_kept l)) (h.peers l there alive);
    later = two-map (LaterWins m) (LaterWins m) (map_ended e) (λ c d wins slot x y. map-ended-dead m c (wins slot (map-ended-takes slot c x) (map-ended-takes slot d y))) cells h.later;
    different = two-map (AreTwo m) (AreTwo m) (map_ended e) (λ c d two x y same.
        let cs = (map-ended-live m c x).0 in let ds = (map-ended-live m d y).0 in
        two (ap (is_live m) (sym cs) ∙ x) (ap (is_live m) (sym ds) ∙ y) (sym cs ∙ (same ∙ ds))) cells h.different;
    few = omega (arith, h.few, length-map cells (map_ended e));
  }
    where
      not-true : (b : Bool) → not b ≡ true → b ≡ false
      not-true true h' = absurd (let never : false ≡ true = h' in cc)
      not-true false h' = refl

      still : (c : Cell) → IsOf t c → ((k : MapLease) → c ≡ Mapping k → is_map_of e k ≡ false) → IsOf (record t { maps = filter (λ l. not (is_map_of e l)) t.maps }) c
      still (Mapping k) of other = (of.0, filter-IsIn (λ (l : MapLease). not (is_map_of e l)) t.maps of.0 of.1 (ap not (ap (is_map_of e) of.2 ∙ other k refl)), of.2)
      still (Peering k) of other = of

module _ (e : Endpoint) (remote : Address) (port : ℕ) where
  peer-ended-live : (m : ℕ) (c : Cell) → is_live m (peer_ended e remote port c) ≡ true → (peer_ended e remote port c ≡ c) × ((k : PeerLease) → c ≡ Peering k → is_peer_of e remote port k ≡ false)
  peer-ended-live m (Mapping l) alive = (refl, λ k is. absurd (let never : Mapping l ≡ Peering k = is in cc))
  peer-ended-live m (Peering l) alive = step (is_peer_of e remote port l) refl alive
    where
      step : (b : Bool) → is_peer_of e remote port l ≡ b → is_live m (cond b (Peering (record l { expiry = 0 })) (Peering l)) ≡ true → (cond b (Peering (record l { expiry = 0 })) (Peering l) ≡ Peering l) × ((k : PeerLease) → Peering l ≡ Peering k → is_peer_of e remote port k ≡ false)
      step true is alive' = absurd (unlike alive' (peer-dead m l))
      step false is alive' = (refl, λ k same. let one : l ≡ k = cc in subst (λ (x : PeerLease). is_peer_of e remote port x ≡ false) one is)

  peer-ended-takes : (slot : ℕ) (c : Cell) → takes slot (peer_ended e remote port c) ≡ true → takes slot c ≡ true
  peer-ended-takes slot (Mapping l) h = h
  peer-ended-takes slot (Peering l) h = step (is_peer_of e remote port l) h
    where
      step : (b : Bool) → takes slot (cond b (Peering (record l { expiry = 0 })) (Peering l)) ≡ true → takes slot (Peering l) ≡ true
      step true h' = h'
      step false h' = h'

  peer-ended-dead : (m : ℕ) (c : Cell) → is_live m c ≡ false → is_live m (peer_ended e remote port c) ≡ false
  peer-ended-dead m c h = false_from_ne_true (is_live m (peer_ended e remote port c)) (λ yes. absurd (unlike (ap (is_live m) (sym (peer-ended-live m c yes).0) ∙ yes) h))

  peer-ended-other : (l : PeerLease) → is_peer_of e remote port l ≡ false → peer_ended e remote port (Peering l) ≡ Peering l
  peer-ended-other l h = cond-false (is_peer_of e remote port l) (Peering (record l { expiry = 0 })) (Peering l) h

  pub leases-peer_ended : (t : Table) (m : ℕ) (cells : List Cell) → AreCellsOf t m cells
      → AreCellsOf (record t { peers = filter (λ l. not (is_peer_of e remote port l)) t.peers }) m (map (peer_ended e remote port) cells)
  leases-peer_ended t m cells h = record {
    sound = subst (λ (maps : List MapLease). Sound (record { maps = maps; peers = filter (λ l. not (is_peer_of e remote port l)) t.peers })) (Rattle.pcp_base.proofs.Members.filter-all (λ _. true) t.maps (All-from_IsIn (λ (l : MapLease). true ≡ true) t.maps (λ l i. refl))) (Sound-filter t (λ _. true) (λ l. not (is_peer_of e remote port l)) h.sound);
    shown = λ c there alive. (let r = IsIn-map (peer_ended e remote port) cells c there in
        let alive' : is_live m (peer_ended e remote port r.0) ≡ true = ap (is_live m) r.2 ∙ alive in
        let f = peer-ended-live m r.0 alive' in
        let same : r.0 ≡ c = sym f.0 ∙ r.2 in
        still c (subst (λ (d : Cell). IsOf t d) same (h.shown r.0 r.1 (ap (is_live m) same ∙ alive))) (λ k is. f.1 k (same ∙ is)));
    maps = λ l there alive. map-IsIn (peer_ended e remote port) cells (Mapping (map_kept l)) (h.maps l there alive);
    peers = λ l there alive. (let r = IsIn-filter (λ (x : PeerLease). not (is_peer_of e remote port x)) t.peers l there in
        subst (λ (c : Cell). IsIn c (map (peer_ended e remote port) cells)) (peer-ended-other (peer_kept l) (not-true (is_peer_of e remote port l) r.1)) (map-IsIn (peer_ended e remote port) cells (Peering (peer_kept l)) (h.peers l r.0 alive)));
    later = two-map (LaterWins m) (LaterWins m) (peer_ended e remote port) (λ c d wins slot x y. peer-ended-dead m c (wins slot (peer-ended-takes slot c x) (peer-ended-takes slot d y))) cells h.later;
    different = two-map (AreTwo m) (AreTwo m) (peer_ended e remote port) (λ c d two x y same.
        let cs = (peer-ended-live m c x).0 in let ds = (peer-ended-live m d y).0 in
        two (ap (is_live m) (sym cs) ∙ x) (ap (is_live m) (sym ds) ∙ y) (sym cs ∙ (same ∙ ds))) cells h.different;
    few = omega (arith, h.few, length-map cells (peer_ended e remote port));
  }
    where
      not-true : (b : Bool) → not b ≡ true → b ≡ false
      not-true true h' = absurd (let never : false ≡ true = h' in cc)
      not-true false h' = refl

      still : (c : Cell) → IsOf t c → ((k : PeerLease) → c ≡ Peering k → is_peer_of e remote port k ≡ false) → IsOf (record t { peers = filter (λ l. not (is_peer_of e remote port l)) t.peers }) c
      still (Peering k) of other = (of.0, filter-IsIn (λ (l : PeerLease). not (is_peer_of e remote port l)) t.peers of.0 of.1 (ap not (ap (is_peer_of e remote port) of.2 ∙ other k refl)), of.2)
      still (Mapping k) of other = of
