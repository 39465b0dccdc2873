-- Records one after the other, and the cells of an index that was just made.
use Rattle.std.proofs.Common.{◌≡◌, ℕ, ◌≤◌, true, false, List, [], ◌∷◌, ◌++◌, map, length, refl, sym, ap, ◌∙◌, subst, inl, inr, arith, length-append}
use Rattle.std.proofs.lemmas.List.{length-map}
use Rattle.std.proofs.lemmas.Bool.{and_from, eq-eqb}
use Rattle.pcp_base.specs.declared.leases.MapLease.{MapLease}
use Rattle.pcp_base.specs.declared.leases.PeerLease.{PeerLease}
use Rattle.pcp_base.specs.declared.records.Change.{Change}
use Rattle.pcp_base.specs.declared.records.Change.TheVariants.{Start, Map, Peer, DropMap, DropPeer, Lose, Mark, Rest, Renumber}
use Rattle.pcp_base.specs.declared.records.Record.{Record}
use Rattle.pcp_base.specs.Tables.{Table, EachTwo, AreApart, HaveOtherKeys, IsMapLease, live, covers, first_endpoint, is_map_of, is_peer_of}
use Rattle.pcp_base.specs.Sound.{Sound}
use Rattle.pcp_base.specs.States.{State}
use Rattle.pcp_base.specs.Apply.{table_changed, apply, apply_all}
use Rattle.pcp_base.proofs.Members.{IsIn, All-IsIn, All-from_IsIn, IsIn-append, IsIn-left, IsIn-right, IsIn-map, map-IsIn}
use Rattle.pcp_base.proofs.TableLemmas.{covers-first}
use Rattle.pcp_base.proofs.Same.{same_address-Decides, same_endpoint-Decides}
use Rattle.lane_index.specs.declared.links.TheConstants.{CELLS}
use Rattle.lane_index.specs.declared.cells.Cell.{Cell}
use Rattle.lane_index.specs.declared.cells.Cell.TheVariants.{Mapping, Peering}
use Rattle.lane_index.specs.Slots.{map_kept, peer_kept, takes}
use Rattle.lane_index.specs.Openings.{LaterWins}
use Rattle.lane_index.specs.Applying.{ChangeHasSlots}
use Rattle.lane_index.specs.LeaseCells.{IsOf, AreTwo, AreCellsOf}
use Rattle.lane_index.specs.Histories.{state_left, HasBeginning}
use Rattle.lane_index.specs.declared.replicas.Replica.{Replica}
use Rattle.lane_index.specs.Histories.{IndexHistory}
use Rattle.lane_index.specs.Histories.{only_opening}
use Rattle.lane_index.specs.Lanes.{opening_state}
use Rattle.lane_index.specs.Replicas.{IsReplica}
use Rattle.lane_index.proofs.ListLemmas.{two-map, put-own}
use Rattle.lane_index.proofs.PortLemmas.{take-same}

-- ---- records in a row

pub all-append : (s : State) (xs ys : List Record) → apply_all s (xs ++ ys) ≡ apply_all (apply_all s xs) ys
all-append s [] ys = refl
all-append s (x ∷ xs) ys = all-append (apply s x) xs ys

placed-change : (change : Change) (t : Table) → Sound (table_changed change t) → ChangeHasSlots change
placed-change (Map l) t sound = (All-IsIn IsMapLease _ l sound.maps (put-own (is_map_of (first_endpoint l)) l t.maps)).ports.external_end
placed-change (Peer l) t sound = tt
placed-change (DropMap e) t sound = tt
placed-change (DropPeer e remote port) t sound = tt
placed-change Start t sound = tt
placed-change Lose t sound = tt
placed-change Mark t sound = tt
placed-change (Rest e port end) t sound = tt
placed-change (Renumber a) t sound = tt

pub sound-placed : (s : State) (r : Record) → Sound (apply s r).table → ChangeHasSlots r.change
sound-placed s r sound = placed-change r.change (live s.table r.moment) sound

-- ---- an index that was just made

two-append : {X : Type 0} (R : X → X → Type 0) (xs ys : List X) → EachTwo R xs → EachTwo R ys → ((x y : X) → IsIn x xs → IsIn y ys → R x y) → EachTwo R (xs ++ ys)
two-append R [] ys h k f = k
two-append R (x ∷ xs) ys h k f = (
  All-from_IsIn (R x) (xs ++ ys) (λ y i. elim (IsIn-append xs ys y i) [ inl a ↦ All-IsIn (R x) xs y h.0 a | inr b ↦ f x y (inl refl) b ]),
  two-append R xs ys h.1 k (λ z y i j. f z y (inr i) j),
)

two-within : {X : Type 0} (R S : X → X → Type 0) (zs xs : List X) → ((x : X) → IsIn x xs → IsIn x zs) → ((x y : X) → IsIn x zs → IsIn y zs → R x y → S x y) → EachTwo R xs → EachTwo S xs
two-within R S zs [] among f h = tt
two-within R S zs (x ∷ xs) among f h = (All-from_IsIn (S x) xs (λ y i. f x y (among x (inl refl)) (among y (inr i)) (All-IsIn (R x) xs y h.0 i)), two-within R S zs xs (λ y i. among y (inr i)) f h.1)

module _ (t : Table) (m : ℕ) (sound : Sound t) where
  abbrev map_cells : List Cell
  map_cells = map (λ l. Mapping (map_kept l)) t.maps

  abbrev peer_cells : List Cell
  peer_cells = map (λ l. Peering (peer_kept l)) t.peers

  apart-kept : (x y : MapLease) → IsIn x t.maps → AreApart x y → map_kept x ≡ map_kept y → ⊥
  apart-kept x y i apart same =
      let first = covers-first x (All-IsIn IsMapLease t.maps x sound.maps i).ports.some in
      apart (first_endpoint x) first (ap (λ (z : MapLease). covers z (first_endpoint x)) (sym same) ∙ first)

  maps-later : EachTwo (LaterWins m) map_cells
  maps-later = two-map (λ (x y : MapLease). LaterWins m (Mapping (map_kept x)) (Mapping (map_kept y))) (LaterWins m) (λ l. Mapping (map_kept l)) (λ x y h. h) t.maps
      (two-within AreApart (λ x y. LaterWins m (Mapping (map_kept x)) (Mapping (map_kept y))) t.maps t.maps (λ x i. i)
      (λ x y i j apart slot a b. absurd (apart-kept x y i apart (ap map_kept (take-same t slot x y sound i j a b)))) sound.apart)

  maps-different : EachTwo (AreTwo m) map_cells
  maps-different = two-map (λ (x y : MapLease). AreTwo m (Mapping (map_kept x)) (Mapping (map_kept y))) (AreTwo m) (λ l. Mapping (map_kept l)) (λ x y h. h) t.maps
      (two-within AreApart (λ x y. AreTwo m (Mapping (map_kept x)) (Mapping (map_kept y))) t.maps t.maps (λ x i. i)
      (λ x y i j apart a b same. apart-kept x y i apart (cc)) sound.apart)

  peer-same : (x y : PeerLease) → HaveOtherKeys x y → peer_kept x ≡ peer_kept y → ⊥
  peer-same x y other same =
      let e : x.endpoint ≡ y.endpoint = ap (λ (z : PeerLease). z.endpoint) same in
      let r : x.remote ≡ y.remote = ap (λ (z : PeerLease). z.remote) same in
      let p : x.remote_port ≡ y.remote_port = ap (λ (z : PeerLease). z.remote_port) same in
      let both : is_peer_of y.endpoint y.remote y.remote_port x ≡ true = and_from _ _ (and_from _ _ ((same_endpoint-Decides x.endpoint y.endpoint).1 e) ((same_address-Decides x.remote y.remote).1 r)) (eq-eqb x.remote_port y.remote_port p) in
      let never : true ≡ false = sym both ∙ other in cc

  peers-later : EachTwo (LaterWins m) peer_cells
  peers-later = two-map HaveOtherKeys (LaterWins m) (λ l. Peering (peer_kept l)) (λ x y other slot a b. absurd (let never : false ≡ true = a in cc)) t.peers sound.different

  peers-different : EachTwo (AreTwo m) peer_cells
  peers-different = two-map HaveOtherKeys (AreTwo m) (λ l. Peering (peer_kept l)) (λ x y other a b same. peer-same x y other (cc)) t.peers sound.different

  across-later : (x y : Cell) → IsIn x map_cells → IsIn y peer_cells → LaterWins m x y
  across-later x y i j slot a b = absurd (let r = IsIn-map (λ (l : PeerLease). Peering (peer_kept l)) t.peers y j in let never : false ≡ true = ap (takes slot) r.2 ∙ b in cc)

  across-different : (x y : Cell) → IsIn x map_cells → IsIn y peer_cells → AreTwo m x y
  across-different x y i j a b same =
      let r = IsIn-map (λ (l : MapLease). Mapping (map_kept l)) t.maps x i in
      let q = IsIn-map (λ (l : PeerLease). Peering (peer_kept l)) t.peers y j in
      let never : Mapping (map_kept r.0) ≡ Peering (peer_kept q.0) = r.2 ∙ same ∙ sym q.2 in cc

  pub few-filled : length (map_cells ++ peer_cells) ≤ CELLS
  few-filled = omega (arith, sound.few, length-append map_cells peer_cells, length-map t.maps (λ (l : MapLease). Mapping (map_kept l)), length-map t.peers (λ (l : PeerLease). Peering (peer_kept l)))

  -- a cell for each lease of a sound table
  pub leases-filled : AreCellsOf t m (map_cells ++ peer_cells)
  leases-filled = record {
    sound = sound;
    shown = λ c there alive. elim (IsIn-append map_cells peer_cells c there) [
      | inl a ↦ (let r = IsIn-map (λ (l : MapLease). Mapping (map_kept l)) t.maps c a in subst (λ (d : Cell). IsOf t d) r.2 (r.0, r.1, refl))
      | inr b ↦ (let r = IsIn-map (λ (l : PeerLease). Peering (peer_kept l)) t.peers c b in subst (λ (d : Cell). IsOf t d) r.2 (r.0, r.1, refl))
    ];
    maps = λ l there alive. IsIn-left map_cells peer_cells (Mapping (map_kept l)) (map-IsIn (λ x. Mapping (map_kept x)) t.maps l there);
    peers = λ l there alive. IsIn-right map_cells peer_cells (Peering (peer_kept l)) (map-IsIn (λ x. Peering (peer_kept x)) t.peers l there);
    later = two-append (LaterWins m) map_cells peer_cells maps-later peers-later across-later;
    different = two-append (AreTwo m) map_cells peer_cells maps-different peers-different across-different;
    few = few-filled;
  }

-- a copy that was just filled
pub filled-copy : (maps : List MapLease) (peers : List PeerLease) (last : ℕ) (h : IndexHistory) (r : Replica) → Sound (record { maps = maps; peers = peers }) → h.log ≡ only_opening maps peers last
    → r.seen.book ≡ h.index → r.seen.log ≡ h.log → r.count ≡ length h.log → r.last ≡ last
    → r.index ≡ map (λ l. Mapping (map_kept l)) maps ++ map (λ l. Peering (peer_kept l)) peers → IsReplica h.index r
filled-copy maps peers last h r sound log-only_opening book-is log-is count-is last-is cells-are =
    let log : r.seen.log ≡ only_opening maps peers last = log-is ∙ log-only_opening in
    let st : state_left r.seen.log ≡ opening_state maps peers last = ap state_left log in
    record {
      book_is = book-is;
      counted = count-is ∙ ap length (sym log-is);
      begins = subst HasBeginning (sym log) tt;
      last_is = last-is ∙ ap (λ (s : State). s.last) (sym st);
      leases = subst (λ (s : State). AreCellsOf s.table r.last r.index) (sym st) (subst (λ (cs : List Cell). AreCellsOf (record { maps = maps; peers = peers }) r.last cs) (sym cells-are) (leases-filled (record { maps = maps; peers = peers }) r.last sound));
    }
