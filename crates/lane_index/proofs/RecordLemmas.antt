-- A record keeps the cells standing for the table.
use Rattle.std.proofs.Common.{◌≡◌, ℕ, ◌<◌, ◌≤◌, ◌⊎◌, not, Bool, true, false, List, [], ◌∷◌, ◌++◌, filter, length, refl, sym, ap, ◌∙◌, subst, inl, inr, arith, length-append}
use Rattle.std.specs.List.{AllByRecursion}
use Rattle.std.proofs.lemmas.Bool.{and_parts, and_from, eqb-true, eq-eqb, false_from_ne_true}
use Rattle.pcp_base.specs.declared.addresses.Address.{Address}
use Rattle.pcp_base.specs.declared.leases.Endpoint.{Endpoint}
use Rattle.pcp_base.specs.declared.leases.MapLease.{MapLease}
use Rattle.pcp_base.specs.declared.leases.PeerLease.{PeerLease}
use Rattle.pcp_base.specs.declared.records.Change.{Change}
use Rattle.pcp_base.specs.declared.records.Change.TheVariants.{Start, Map, Peer, DropMap, DropPeer, Lose, Mark, Rest, Renumber}
use Rattle.pcp_base.specs.declared.records.Record.{Record}
use Rattle.pcp_base.specs.Tables.{Table, EachTwo, AreApart, HaveOtherKeys, IsMapLease, live, empty_table, covers, first_endpoint, is_map_of, is_peer_of, put}
use Rattle.pcp_base.specs.Sound.{Sound}
use Rattle.pcp_base.specs.States.{State}
use Rattle.pcp_base.specs.Apply.{table_changed, apply}
use Rattle.pcp_base.proofs.Members.{IsIn, All-IsIn, All-from_IsIn, IsIn-append, IsIn-left, IsIn-right, IsIn-filter, filter-IsIn, EachTwo-push}
use Rattle.pcp_base.proofs.Same.{same_address-Decides, same_endpoint-Decides}
use Rattle.pcp_base.proofs.TableLemmas.{covers-first, Sound-empty, key-own}
use Rattle.lane_index.specs.declared.links.TheConstants.{CELLS}
use Rattle.lane_index.specs.declared.cells.Cell.{Cell}
use Rattle.lane_index.specs.declared.cells.Cell.TheVariants.{Mapping, Peering}
use Rattle.lane_index.specs.Slots.{map_kept, peer_kept, takes, is_live}
use Rattle.lane_index.specs.Openings.{LaterWins}
use Rattle.lane_index.specs.Applying.{applied, HasCell}
use Rattle.lane_index.specs.LeaseCells.{IsOf, AreTwo, AreCellsOf}
use Rattle.lane_index.proofs.ListLemmas.{two-weaker, put-own, put-stays, put-cases}
use Rattle.lane_index.proofs.PortLemmas.{take-same}
use Rattle.lane_index.proofs.LeaseCellLemmas.{leases-later, leases-room, leases-map_ended, leases-peer_ended}

unlike : {b : Bool} → b ≡ true → b ≡ false → ⊥
unlike h k = let never : true ≡ false = sym h ∙ k in cc

not-true : (b : Bool) → not b ≡ true → b ≡ false
not-true true h' = absurd (let never : false ≡ true = h' in cc)
not-true false h' = refl

-- ---- one more MAP lease

-- the table with it
pub record IsWithMap (t t' : Table) (l : MapLease) : Type 0 where
  pub here : IsIn l t'.maps
  pub old : (x : MapLease) → IsIn x t.maps → IsIn x t'.maps × (is_map_of (first_endpoint l) x ≡ false)
  pub new : (x : MapLease) → IsIn x t'.maps → (l ≡ x) ⊎ IsIn x t.maps
  pub peers : t'.peers ≡ t.peers

module _ (t t' : Table) (l : MapLease) (m : ℕ) (cells : List Cell) (h : AreCellsOf t m cells) (sound : Sound t') (w : IsWithMap t t' l) where
  abbrev mine : Cell
  mine = Mapping (map_kept l)

  of-more : (c : Cell) → IsOf t c → IsOf t' c
  of-more (Mapping k) of = (of.0, (w.old of.0 of.1).0, of.2)
  of-more (Peering k) of = (of.0, subst (λ ps. IsIn of.0 ps) (sym w.peers) of.1, of.2)

  -- a live cell takes none of its slots
  apart : (c : Cell) → IsIn c cells → LaterWins m c mine
  apart (Peering k) there slot x y = absurd (let never : false ≡ true = x in cc)
  apart (Mapping k) there slot x y = false_from_ne_true (is_live m (Mapping k)) (λ alive.
      let of = h.shown (Mapping k) there alive in
      let o = w.old of.0 of.1 in
      let takes-it : takes slot (Mapping (map_kept of.0)) ≡ true = ap (λ (z : MapLease). takes slot (Mapping z)) of.2 ∙ x in
      let same : of.0 ≡ l = take-same t' slot of.0 l sound o.0 w.here takes-it y in
      absurd (unlike (ap (is_map_of (first_endpoint l)) same ∙ key-own l) o.1))

  other : (c : Cell) → IsIn c cells → AreTwo m c mine
  other (Peering k) there x y same = let never : Peering k ≡ mine = same in cc
  other (Mapping k) there x y same =
      let one : k ≡ map_kept l = (let both : Mapping k ≡ mine = same in cc) in
      let of = h.shown (Mapping k) there x in
      let o = w.old of.0 of.1 in
      let key : is_map_of (first_endpoint l) (map_kept of.0) ≡ true = ap (is_map_of (first_endpoint l)) (of.2 ∙ one) ∙ key-own l in
      unlike key o.1

  pub leases-map : length cells < CELLS → AreCellsOf t' m (cells ++ mine ∷ [])
  leases-map room = record {
    sound = sound;
    shown = λ c there alive. elim (IsIn-append cells (mine ∷ []) c there) [
      | inl a ↦ of-more c (h.shown c a alive)
      | inr b ↦ elim b [ inl same ↦ subst (λ (d : Cell). IsOf t' d) same (l, w.here, refl) | inr none ↦ absurd none ]
    ];
    maps = λ x there alive. elim (w.new x there) [
      | inl same ↦ subst (λ (z : MapLease). IsIn (Mapping (map_kept z)) (cells ++ mine ∷ [])) same (IsIn-right cells (mine ∷ []) mine (inl refl))
      | inr old ↦ IsIn-left cells (mine ∷ []) (Mapping (map_kept x)) (h.maps x old alive)
    ];
    peers = λ x there alive. IsIn-left cells (mine ∷ []) (Peering (peer_kept x)) (h.peers x (subst (λ ps. IsIn x ps) w.peers there) alive);
    later = EachTwo-push (LaterWins m) cells mine h.later (All-from_IsIn (λ c. LaterWins m c mine) cells apart);
    different = EachTwo-push (AreTwo m) cells mine h.different (All-from_IsIn (λ c. AreTwo m c mine) cells other);
    few = omega (arith, room, length-append cells (mine ∷ []));
  }

-- ---- one more PEER lease

pub record IsWithPeer (t t' : Table) (l : PeerLease) : Type 0 where
  pub here : IsIn l t'.peers
  pub old : (x : PeerLease) → IsIn x t.peers → IsIn x t'.peers × (is_peer_of l.endpoint l.remote l.remote_port x ≡ false)
  pub new : (x : PeerLease) → IsIn x t'.peers → (l ≡ x) ⊎ IsIn x t.peers
  pub maps : t'.maps ≡ t.maps

peer-key-own : (l : PeerLease) → is_peer_of l.endpoint l.remote l.remote_port l ≡ true
peer-key-own l = and_from _ _ (and_from _ _ ((same_endpoint-Decides l.endpoint l.endpoint).1 refl) ((same_address-Decides l.remote l.remote).1 refl)) (eq-eqb l.remote_port l.remote_port refl)

module _ (t t' : Table) (l : PeerLease) (m : ℕ) (cells : List Cell) (h : AreCellsOf t m cells) (sound : Sound t') (w : IsWithPeer t t' l) where
  abbrev ours : Cell
  ours = Peering (peer_kept l)

  peer-of-more : (c : Cell) → IsOf t c → IsOf t' c
  peer-of-more (Peering k) of = (of.0, (w.old of.0 of.1).0, of.2)
  peer-of-more (Mapping k) of = (of.0, subst (λ ms. IsIn of.0 ms) (sym w.maps) of.1, of.2)

  peer-apart : (c : Cell) → IsIn c cells → LaterWins m c ours
  peer-apart c there slot x y = absurd (let never : false ≡ true = y in cc)

  peer-other : (c : Cell) → IsIn c cells → AreTwo m c ours
  peer-other (Mapping k) there x y same = let never : Mapping k ≡ ours = same in cc
  peer-other (Peering k) there x y same =
      let one : k ≡ peer_kept l = (let both : Peering k ≡ ours = same in cc) in
      let of = h.shown (Peering k) there x in
      let o = w.old of.0 of.1 in
      let key : is_peer_of l.endpoint l.remote l.remote_port (peer_kept of.0) ≡ true = ap (is_peer_of l.endpoint l.remote l.remote_port) (of.2 ∙ one) ∙ peer-key-own l in
      unlike key o.1

  pub leases-peer : length cells < CELLS → AreCellsOf t' m (cells ++ ours ∷ [])
  leases-peer room = record {
    sound = sound;
    shown = λ c there alive. elim (IsIn-append cells (ours ∷ []) c there) [
      | inl a ↦ peer-of-more c (h.shown c a alive)
      | inr b ↦ elim b [ inl same ↦ subst (λ (d : Cell). IsOf t' d) same (l, w.here, refl) | inr none ↦ absurd none ]
    ];
    maps = λ x there alive. IsIn-left cells (ours ∷ []) (Mapping (map_kept x)) (h.maps x (subst (λ ms. IsIn x ms) w.maps there) alive);
    peers = λ x there alive. elim (w.new x there) [
      | inl same ↦ subst (λ (z : PeerLease). IsIn (Peering (peer_kept z)) (cells ++ ours ∷ [])) same (IsIn-right cells (ours ∷ []) ours (inl refl))
      | inr old ↦ IsIn-left cells (ours ∷ []) (Peering (peer_kept x)) (h.peers x old alive)
    ];
    later = EachTwo-push (LaterWins m) cells ours h.later (All-from_IsIn (λ c. LaterWins m c ours) cells peer-apart);
    different = EachTwo-push (AreTwo m) cells ours h.different (All-from_IsIn (λ c. AreTwo m c ours) cells peer-other);
    few = omega (arith, room, length-append cells (ours ∷ []));
  }

-- ---- put into a table

map-keys-apart : (e : Endpoint) (maps : List MapLease) → AllByRecursion IsMapLease maps → EachTwo AreApart maps → EachTwo (λ a b. is_map_of e a ≡ true → is_map_of e b ≡ true → ⊥) maps
map-keys-apart e [] formed apart' = tt
map-keys-apart e (x ∷ xs) formed apart' = (
  All-from_IsIn (λ b. is_map_of e x ≡ true → is_map_of e b ≡ true → ⊥) xs (λ b i k y.
      let kx : first_endpoint x ≡ e = (same_endpoint-Decides (first_endpoint x) e).0 k in
      let ky : first_endpoint b ≡ e = (same_endpoint-Decides (first_endpoint b) e).0 y in
      All-IsIn (AreApart x) xs b apart'.0 i e
      (subst (λ (z : Endpoint). covers x z ≡ true) kx (covers-first x formed.0.ports.some))
      (subst (λ (z : Endpoint). covers b z ≡ true) ky (covers-first b (All-IsIn IsMapLease xs b formed.1 i).ports.some))),
  map-keys-apart e xs formed.1 apart'.1,
)

peer-keys-apart : (e : Endpoint) (remote : Address) (port : ℕ) (peers : List PeerLease) → EachTwo HaveOtherKeys peers → EachTwo (λ a b. is_peer_of e remote port a ≡ true → is_peer_of e remote port b ≡ true → ⊥) peers
peer-keys-apart e remote port peers apart' = two-weaker HaveOtherKeys (λ a b. is_peer_of e remote port a ≡ true → is_peer_of e remote port b ≡ true → ⊥) keys peers apart'
  where
    parts : (l : PeerLease) → is_peer_of e remote port l ≡ true → (l.endpoint ≡ e) × (l.remote ≡ remote) × (l.remote_port ≡ port)
    parts l h = let a = and_parts _ _ h in let b = and_parts _ _ a.0 in ((same_endpoint-Decides l.endpoint e).0 b.0, (same_address-Decides l.remote remote).0 b.1, eqb-true l.remote_port port a.1)

    keys : (a b : PeerLease) → HaveOtherKeys a b → is_peer_of e remote port a ≡ true → is_peer_of e remote port b ≡ true → ⊥
    keys a b different x y =
        let k = parts a x in let q = parts b y in
        unlike (and_from _ _ (and_from _ _ ((same_endpoint-Decides a.endpoint b.endpoint).1 (k.0 ∙ sym q.0)) ((same_address-Decides a.remote b.remote).1 (k.1 ∙ sym q.1))) (eq-eqb a.remote_port b.remote_port (k.2 ∙ sym q.2))) different

put-map : (t : Table) (l : MapLease) → Sound t → IsWithMap (record t { maps = filter (λ x. not (is_map_of (first_endpoint l) x)) t.maps }) (record t { maps = put (is_map_of (first_endpoint l)) l t.maps }) l
put-map t l sound = record {
  here = put-own (is_map_of (first_endpoint l)) l t.maps;
  old = λ x there. (let r = IsIn-filter (λ (y : MapLease). not (is_map_of (first_endpoint l) y)) t.maps x there in
      let no = not-true (is_map_of (first_endpoint l) x) r.1 in (put-stays (is_map_of (first_endpoint l)) l t.maps x r.0 no, no));
  new = λ x there. elim (put-cases (is_map_of (first_endpoint l)) l t.maps x (map-keys-apart (first_endpoint l) t.maps sound.maps sound.apart) there) [
    | inl same ↦ inl same
    | inr r ↦ inr (filter-IsIn (λ (y : MapLease). not (is_map_of (first_endpoint l) y)) t.maps x r.0 (ap not r.1))
  ];
  peers = refl;
}

put-peer : (t : Table) (l : PeerLease) → Sound t
    → IsWithPeer (record t { peers = filter (λ x. not (is_peer_of l.endpoint l.remote l.remote_port x)) t.peers }) (record t { peers = put (is_peer_of l.endpoint l.remote l.remote_port) l t.peers }) l
put-peer t l sound = record {
  here = put-own (is_peer_of l.endpoint l.remote l.remote_port) l t.peers;
  old = λ x there. (let r = IsIn-filter (λ (y : PeerLease). not (is_peer_of l.endpoint l.remote l.remote_port y)) t.peers x there in
      let no = not-true (is_peer_of l.endpoint l.remote l.remote_port x) r.1 in (put-stays (is_peer_of l.endpoint l.remote l.remote_port) l t.peers x r.0 no, no));
  new = λ x there. elim (put-cases (is_peer_of l.endpoint l.remote l.remote_port) l t.peers x (peer-keys-apart l.endpoint l.remote l.remote_port t.peers sound.different) there) [
    | inl same ↦ inl same
    | inr r ↦ inr (filter-IsIn (λ (y : PeerLease). not (is_peer_of l.endpoint l.remote l.remote_port y)) t.peers x r.0 (ap not r.1))
  ];
  maps = refl;
}

-- ---- every kind of record

pub leases-none : (m : ℕ) → AreCellsOf empty_table m []
leases-none m = record { sound = Sound-empty; shown = λ c there alive. absurd there; maps = λ l there alive. absurd there; peers = λ l there alive. absurd there; later = tt; different = tt; few = omega arith }

module _ (t : Table) (m : ℕ) (cells : List Cell) (h : AreCellsOf t m cells) where
  changed : (change : Change) → Sound (table_changed change t) → HasCell (record { moment = m; change = change }) cells × AreCellsOf (table_changed change t) m (applied (record { moment = m; change = change }) cells)
  changed Start sound = (omega arith, leases-none m)
  changed Lose sound = (omega arith, leases-none m)
  changed Mark sound = ((leases-room t m cells h).0, h)
  changed (Rest e p end) sound = ((leases-room t m cells h).0, h)
  changed (Renumber a) sound = ((leases-room t m cells h).0, h)
  changed (DropMap e) sound = (let k = leases-map_ended e t m cells h in ((leases-room _ m _ k).0, k))
  changed (DropPeer e remote port) sound = (let k = leases-peer_ended e remote port t m cells h in ((leases-room _ m _ k).0, k))
  changed (Map l) sound =
      let k = leases-map_ended (first_endpoint l) t m cells h in let room = leases-room _ m _ k in
      (room.0, leases-map _ _ l m _ room.1 sound (put-map t l h.sound) room.0)
  changed (Peer l) sound =
      let k = leases-peer_ended l.endpoint l.remote l.remote_port t m cells h in let room = leases-room _ m _ k in
      (room.0, leases-peer _ _ l m _ room.1 sound (put-peer t l h.sound) room.0)

pub leases-applied : (s : State) (r : Record) (cells : List Cell) → AreCellsOf s.table s.last cells → s.last ≤ r.moment → Sound (apply s r).table → HasCell r cells × AreCellsOf (apply s r).table r.moment (applied r cells)
leases-applied s r cells h le sound = changed (live s.table r.moment) r.moment cells (leases-later s.table s.last r.moment cells le h) r.change sound
