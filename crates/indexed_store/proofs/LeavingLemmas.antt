-- Leases that go out of a table because they have ended.
use Rattle.std.proofs.Common.{◌≡◌, ℕ, ◌<◌, ◌≤◌, ◌⊎◌, nat_lt, not, Bool, true, false, cond, List, [], ◌∷◌, ◌++◌, map, flat_map, filter, find, length, Contains, None, refl, sym, ap, ◌∙◌, subst, inl, inr, arith}
use Rattle.pcp_base.specs.declared.leases.MapLease.{MapLease}
use Rattle.pcp_base.specs.declared.leases.PeerLease.{PeerLease}
use Rattle.pcp_base.specs.declared.leases.Owner.{Owner}
use Rattle.pcp_base.specs.Tables.{Table, live, dead, first_endpoint, is_map_of, is_peer_of}
use Rattle.pcp_base.specs.Owners.{map_owners, peer_owner, owners}
use Rattle.pcp_base.proofs.Members.{IsIn, IsIn-filter, filter-IsIn, IsIn-append, IsIn-left, IsIn-right, IsIn-flat_map, flat_map-IsIn, IsIn-map, map-IsIn, IsIn-from_Contains, Contains-from_IsIn, find-none, filter-all, All-weaker, All-push}
use Rattle.pcp_base.proofs.TableLemmas.{key-own}
use Rattle.pcp_base.proofs.StageLaws.{two_ways, unlike}
use Rattle.pcp_base.proofs.Same.{same_endpoint-Decides, same_address-Decides}
use Rattle.std.proofs.lemmas.Bool.{and_from, cond-false, eq-eqb}
use Rattle.indexed_store.specs.declared.owning.OwnerRun.{OwnerRun}
use Rattle.indexed_store.specs.Runs.{IsOwnerRun, map_run, owners_among, owners_of, peer_run}
use Rattle.indexed_store.specs.Leaving.{AreLeaving, AreOfDead, IsOfLeases}
use Rattle.indexed_store.specs.Tabled.{AreTabled}
use Rattle.indexed_store.proofs.RunLemmas.{along_none}
use Rattle.indexed_store.proofs.ChangeLemmas.{without_map, without_peer}
use Rattle.indexed_store.proofs.Uniques.{AtMostOne, one-key, one-peer}

pub not_back : (b : Bool) → not b ≡ true → b ≡ false
not_back true h = absurd (let no_way : false ≡ true = h in cc)
not_back false h = refl

pub not_forth : (b : Bool) → not b ≡ false → b ≡ true
not_forth true h = refl
not_forth false h = absurd (let no_way : true ≡ false = h in cc)

-- where no lease has ended, all are live
pub all_live : {X : Type 0} (p : X → Bool) (xs : List X) → find (λ x. not (p x)) xs ≡ None
    → xs ≡ filter p xs
all_live p xs h = sym (filter-all p xs
    (All-weaker (λ x. not (p x) ≡ false) (λ x. p x ≡ true) (λ x e. not_forth (p x) e) xs
    (find-none (λ x. not (p x)) xs h)))

none_dead : {X : Type 0} (p : X → Bool) (xs : List X) → xs ≡ filter p xs
    → (x : X) → IsIn x (filter (λ y. not (p y)) xs) → ⊥
none_dead p xs all x i =
    let k = IsIn-filter (λ y. not (p y)) xs x i in
    let alive = IsIn-filter p xs x (subst (λ (ys : List _). IsIn x ys) all k.0) in
    unlike (p x) alive.1 (not_back (p x) k.1)

-- what fails one test needs no other
filter_others : {X : Type 0} (p q : X → Bool) (xs : List X) → ((x : X) → IsIn x xs → q x ≡ true → p x ≡ false) → filter p (filter (λ x. not (q x)) xs) ≡ filter p xs
filter_others p q [] h = refl
filter_others p q (x ∷ xs) h = step (q x) refl (filter_others p q xs (λ y i. h y (inr i)))
  where
    step : (b : Bool) → q x ≡ b → filter p (filter (λ y. not (q y)) xs) ≡ filter p xs → filter p (cond (not b) (x ∷ filter (λ y. not (q y)) xs) (filter (λ y. not (q y)) xs)) ≡ cond (p x) (x ∷ filter p xs) (filter p xs)
    step true e later = later ∙ sym (cond-false (p x) (x ∷ filter p xs) (filter p xs) (h x (inl refl) e))
    step false e later = ap (λ zs. cond (p x) (x ∷ zs) zs) later

no_longer : {X : Type 0} (p : X → Bool) (xs : List X) → length (filter p xs) ≤ length xs
no_longer p [] = omega arith
no_longer p (x ∷ xs) = step (p x) (no_longer p xs)
  where
    step : (b : Bool) → length (filter p xs) ≤ length xs → length (cond b (x ∷ filter p xs) (filter p xs)) ≤ length (x ∷ xs)
    step true rest = omega (arith, rest)
    step false rest = omega (arith, rest)

-- what one fails keeps fewer
shorter : {X : Type 0} (p : X → Bool) (xs : List X) (x : X) → IsIn x xs → p x ≡ false → length (filter p xs) < length xs
shorter p [] x h e = absurd h
shorter p (y ∷ ys) x (inl same) e =
    let fails : p y ≡ false = ap p same ∙ e in
    let rest = no_longer p ys in
    let is : length (filter p (y ∷ ys)) ≡ length (filter p ys) = ap length (cond-false (p y) (y ∷ filter p ys) (filter p ys) fails) in
    omega (arith, rest, is)
shorter p (y ∷ ys) x (inr h) e = step (p y) (shorter p ys x h e)
  where
    step : (b : Bool) → length (filter p ys) < length ys → length (cond b (y ∷ filter p ys) (filter p ys)) < length (y ∷ ys)
    step true rest = omega (arith, rest)
    step false rest = omega (arith, rest)

-- ---- one lease of a list, of either kind

-- what leases own is what each of them owns
record IsOwned {L : Type 0} (own : L → List Owner) (owned : List L → List Owner) : Type 0 where
  of_one : (ls : List L) (o : Owner) → IsIn o (owned ls) → (x : L) × IsIn x ls × IsIn o (own x)
  of_all : (ls : List L) (x : L) (o : Owner) → IsIn x ls → IsIn o (own x) → IsIn o (owned ls)

-- the lease has ended, and is the only one with its key
record IsOut {L : Type 0} (is_live has_key : L → Bool) (ls : List L) (l : L) : Type 0 where
  among : IsIn l ls
  ended : is_live l ≡ false
  key : has_key l ≡ true
  one : AtMostOne has_key ls

module _ {L : Type 0} (is_live has_key : L → Bool) (ls : List L) (l : L)
    (out : IsOut is_live has_key ls l) where
  abbrev others : List L
  others = filter (λ x. not (has_key x)) ls

  abbrev ended_of : List L → List L
  ended_of xs = filter (λ x. not (is_live x)) xs

  only : (x : L) → IsIn x ls → has_key x ≡ true → x ≡ l
  only x i k = out.one x l i out.among k out.key

  same_live : filter is_live others ≡ filter is_live ls
  same_live = filter_others is_live has_key ls (λ x i k. ap is_live (only x i k) ∙ out.ended)

  fewer : length others < length ls
  fewer = shorter (λ x. not (has_key x)) ls l out.among (ap not out.key)

  still_ended : (x : L) → IsIn x (ended_of ls) → has_key x ≡ false → IsIn x (ended_of others)
  still_ended x i other =
      let was = IsIn-filter (λ y. not (is_live y)) ls x i in
      let stays = filter-IsIn (λ y. not (has_key y)) ls x was.0 (ap not other) in
      filter-IsIn (λ y. not (is_live y)) others x stays was.1

  -- what leases that have ended own is owned by this one, or by others of them
  owned_parts : (own : L → List Owner) (owned : List L → List Owner) → IsOwned own owned
      → (o : Owner) → IsIn o (owned (ended_of ls))
      → IsIn o (own l) ⊎ IsIn o (owned (ended_of others))
  owned_parts own owned laws o i =
      let x = laws.of_one (ended_of ls) o i in
      let was = IsIn-filter (λ y. not (is_live y)) ls x.0 x.1 in
      elim (two_ways (has_key x.0)) [
        | inl same ↦ inl (subst (λ (y : L). IsIn o (own y)) (only x.0 was.0 same) x.2)
        | inr other ↦ inr (laws.of_all (ended_of others) x.0 o (still_ended x.0 x.1 other) x.2)
      ]

abbrev one_owner : PeerLease → List Owner
one_owner l = peer_owner l ∷ []

owned_by_maps : IsOwned map_owners (flat_map map_owners)
owned_by_maps = record { of_one = IsIn-flat_map map_owners; of_all = flat_map-IsIn map_owners }

owned_by_peers : IsOwned one_owner (map peer_owner)
owned_by_peers = record {
  of_one = λ ls o i. (let x = IsIn-map peer_owner ls o i in (x.0, x.1, inl x.2));
  of_all = λ ls x o i own. elim own [
    | inl is ↦ subst (λ (z : Owner). IsIn z (map peer_owner ls)) is (map-IsIn peer_owner ls x i)
    | inr none ↦ absurd none
  ];
}

-- the one port of a PEER lease
peer_owners : (l : PeerLease) → one_owner l ≡ owners_of (peer_run l)
peer_owners l = ap (λ (o : Owner). o ∷ []) (sym (along_none (peer_owner l)))

peer_own : (l : PeerLease) → is_peer_of l.endpoint l.remote l.remote_port l ≡ true
peer_own l =
    let endpoint = (same_endpoint-Decides l.endpoint l.endpoint).1 refl in
    let remote = (same_address-Decides l.remote l.remote).1 refl in
    and_from _ _ (and_from _ _ endpoint remote) (eq-eqb l.remote_port l.remote_port refl)

-- ---- the table

pub begins : (m : ℕ) (t : Table) (left : List OwnerRun) → left ≡ [] → AreLeaving m t t left
begins m t left none = subst (λ (rs : List OwnerRun). AreLeaving m t t rs) (sym none) (record {
  live_same = refl;
  maps_from = λ l h. h;
  peers_from = λ l h. h;
  formed = tt;
  of_dead = tt;
  left_all = λ o h. inr h;
})

-- the same of an equal table and equal runs
pub leaving_same : (m : ℕ) (start t u : Table) (left more : List OwnerRun) → u ≡ t → more ≡ left
    → AreLeaving m start t left → AreLeaving m start u more
leaving_same m start t u left more tables runs h =
    subst (λ (x : Table). AreLeaving m start x more) (sym tables)
    (subst (λ (rs : List OwnerRun). AreLeaving m start t rs) (sym runs) h)

-- runs with one more, which is this
pub pushed : (left runs : List OwnerRun) (r s : OwnerRun) → runs ≡ left ++ r ∷ [] → r ≡ s
    → runs ≡ left ++ s ∷ []
pushed left runs r s h same = h ∙ ap (λ (x : OwnerRun). left ++ x ∷ []) same

-- what one run more owns
in_more : (left : List OwnerRun) (r : OwnerRun) (o : Owner) → IsIn o (owners_among left)
    → IsIn o (owners_among (left ++ r ∷ []))
in_more left r o h =
    let k = IsIn-flat_map owners_of left o h in
    flat_map-IsIn owners_of (left ++ r ∷ []) k.0 o (IsIn-left left (r ∷ []) k.0 k.1) k.2

in_last : (left : List OwnerRun) (r : OwnerRun) (o : Owner) → IsIn o (owners_of r)
    → IsIn o (owners_among (left ++ r ∷ []))
in_last left r o h =
    flat_map-IsIn owners_of (left ++ r ∷ []) r o (IsIn-right left (r ∷ []) r (inl refl)) h

-- the table that is left has the same live leases, and what is owned no more is left
module _ (m : ℕ) (start t gone : Table) (left : List OwnerRun) (r : OwnerRun)
    (h : AreLeaving m start t left) where
  leave : live gone m ≡ live t m → IsOwnerRun r → IsOfLeases (dead start m) r
      → ((l : MapLease) → IsIn l gone.maps → IsIn l t.maps)
      → ((l : PeerLease) → IsIn l gone.peers → IsIn l t.peers)
      → ((o : Owner) → IsIn o (owners (dead t m))
      → IsIn o (owners_of r) ⊎ IsIn o (owners (dead gone m)))
      → AreLeaving m start gone (left ++ r ∷ [])
  leave same formed of maps peers parts = record {
    live_same = same ∙ h.live_same;
    maps_from = λ l c. h.maps_from l
        (Contains-from_IsIn t.maps l (maps l (IsIn-from_Contains gone.maps l c)));
    peers_from = λ l c. h.peers_from l
        (Contains-from_IsIn t.peers l (peers l (IsIn-from_Contains gone.peers l c)));
    formed = All-push IsOwnerRun left r h.formed formed;
    of_dead = All-push (IsOfLeases (dead start m)) left r h.of_dead of;
    left_all = λ o c. elim (h.left_all o c) [
      | inl before ↦ inl (Contains-from_IsIn (owners_among (left ++ r ∷ [])) o
          (in_more left r o (IsIn-from_Contains (owners_among left) o before)))
      | inr there ↦ elim (parts o (IsIn-from_Contains (owners (dead t m)) o there)) [
        | inl now ↦ inl (Contains-from_IsIn (owners_among (left ++ r ∷ [])) o (in_last left r o now))
        | inr stays ↦ inr (Contains-from_IsIn (owners (dead gone m)) o stays)
      ]
    ];
  }

abbrev live_map : ℕ → MapLease → Bool
live_map m l = nat_lt m l.expiry

abbrev live_peer : ℕ → PeerLease → Bool
live_peer m l = nat_lt m l.expiry

abbrev map_part : Table → List Owner
map_part t = flat_map map_owners t.maps

abbrev peer_part : Table → List Owner
peer_part t = map peer_owner t.peers

-- ---- a MAP lease goes out

abbrev map_key : MapLease → MapLease → Bool
map_key l x = is_map_of (first_endpoint l) x

module _ (m : ℕ) (t : Table) (tabled : AreTabled t)
    (l : MapLease) (among : Contains t.maps l) (ended : live_map m l ≡ false) where
  abbrev map_gone : Table
  map_gone = without_map (first_endpoint l) t

  map_out : IsOut (live_map m) (map_key l) t.maps l
  map_out = record {
    among = IsIn-from_Contains t.maps l among;
    ended = ended;
    key = key-own l;
    one = one-key t (first_endpoint l) tabled;
  }

  map_parts : (o : Owner) → IsIn o (owners (dead t m))
      → IsIn o (map_owners l) ⊎ IsIn o (owners (dead map_gone m))
  map_parts o i =
      let of_others = map_part (dead map_gone m) in let of_peers = peer_part (dead t m) in
      elim (IsIn-append (map_part (dead t m)) of_peers o i) [
        | inl a ↦ elim (owned_parts _ _ _ _ map_out _ _ owned_by_maps o a) [
          | inl own ↦ inl own
          | inr other ↦ inr (IsIn-left of_others of_peers o other)
        ]
        | inr b ↦ inr (IsIn-right of_others of_peers o b)
      ]

  pub leave_map : (start : Table) (left : List OwnerRun) → IsOwnerRun (map_run l)
      → AreLeaving m start t left → AreLeaving m start map_gone (left ++ map_run l ∷ [])
  leave_map start left formed h = leave m start t map_gone left (map_run l) h
      (ap (λ (ls : List MapLease). record (live t m) { maps = ls }) (same_live _ _ _ _ map_out))
      formed (inl (record {
        lease = l;
        there = Contains-from_IsIn (dead start m).maps l
            (filter-IsIn (λ (x : MapLease). not (live_map m x)) start.maps l
            (IsIn-from_Contains start.maps l (h.maps_from l among)) (ap not ended));
        is = refl;
      }))
      (λ x i. (IsIn-filter (λ y. not (map_key l y)) t.maps x i).0) (λ x i. i) map_parts

  pub fewer_maps : length map_gone.maps < length t.maps
  fewer_maps = fewer _ _ _ _ map_out

-- ---- a PEER lease goes out

abbrev peer_key : PeerLease → PeerLease → Bool
peer_key l x = is_peer_of l.endpoint l.remote l.remote_port x

module _ (m : ℕ) (t : Table) (tabled : AreTabled t)
    (l : PeerLease) (among : Contains t.peers l) (ended : live_peer m l ≡ false) where
  abbrev peer_gone : Table
  peer_gone = without_peer l.endpoint l.remote l.remote_port t

  peer_out : IsOut (live_peer m) (peer_key l) t.peers l
  peer_out = record {
    among = IsIn-from_Contains t.peers l among;
    ended = ended;
    key = peer_own l;
    one = one-peer l.endpoint l.remote l.remote_port t tabled;
  }

  peer_parts : (o : Owner) → IsIn o (owners (dead t m))
      → IsIn o (one_owner l) ⊎ IsIn o (owners (dead peer_gone m))
  peer_parts o i =
      let of_maps = map_part (dead t m) in let of_others = peer_part (dead peer_gone m) in
      elim (IsIn-append of_maps (peer_part (dead t m)) o i) [
        | inl a ↦ inr (IsIn-left of_maps of_others o a)
        | inr b ↦ elim (owned_parts _ _ _ _ peer_out _ _ owned_by_peers o b) [
          | inl own ↦ inl own
          | inr other ↦ inr (IsIn-right of_maps of_others o other)
        ]
      ]

  pub leave_peer : (start : Table) (left : List OwnerRun) → IsOwnerRun (peer_run l)
      → AreLeaving m start t left → AreLeaving m start peer_gone (left ++ peer_run l ∷ [])
  leave_peer start left formed h = leave m start t peer_gone left (peer_run l) h
      (ap (λ (ls : List PeerLease). record (live t m) { peers = ls }) (same_live _ _ _ _ peer_out))
      formed (inr (record {
        lease = l;
        there = Contains-from_IsIn (dead start m).peers l
            (filter-IsIn (λ (x : PeerLease). not (live_peer m x)) start.peers l
            (IsIn-from_Contains start.peers l (h.peers_from l among)) (ap not ended));
        is = refl;
      }))
      (λ x i. i) (λ x i. (IsIn-filter (λ y. not (peer_key l y)) t.peers x i).0)
      (λ o i. subst (λ (os : List Owner). IsIn o os ⊎ IsIn o (owners (dead peer_gone m)))
      (peer_owners l) (peer_parts o i))

  pub fewer_peers : length peer_gone.peers < length t.peers
  fewer_peers = fewer _ _ _ _ peer_out

-- ---- the end

-- where all leases of the table are live, it has those that were live at the start
table_left : (m : ℕ) (start t : Table) (left : List OwnerRun) → AreLeaving m start t left
    → t.maps ≡ (live t m).maps → t.peers ≡ (live t m).peers → t ≡ live start m
table_left m start t left h maps peers =
    ap (λ (ls : List MapLease). record t { maps = ls }) maps
    ∙ ap (λ (ls : List PeerLease). record (live t m) { peers = ls }) peers
    ∙ h.live_same

-- and the runs are of those that were dead at the start
all_left : (m : ℕ) (start t : Table) (left : List OwnerRun) → AreLeaving m start t left
    → t.maps ≡ (live t m).maps → t.peers ≡ (live t m).peers → AreOfDead m start left
all_left m start t left h maps peers = record {
  formed = h.formed;
  of_dead = h.of_dead;
  all = λ o c. elim (h.left_all o c) [
    | inl gone ↦ gone
    | inr stays ↦ elim (IsIn-append (map_part (dead t m)) (peer_part (dead t m)) o
        (IsIn-from_Contains (owners (dead t m)) o stays)) [
          | inl a ↦ absurd (let x = owned_by_maps.of_one (dead t m).maps o a in
              none_dead (live_map m) t.maps maps x.0 x.1)
          | inr b ↦ absurd (let x = owned_by_peers.of_one (dead t m).peers o b in
              none_dead (live_peer m) t.peers peers x.0 x.1)
        ]
  ];
}

-- where MAP leases left first, and then PEER leases
pub left_over : (m : ℕ) (start mid t : Table) (left : List OwnerRun) → AreLeaving m start t left
    → mid.maps ≡ (live mid m).maps → t.maps ≡ mid.maps → t.peers ≡ (live t m).peers
    → (t ≡ live start m) × AreOfDead m start left
left_over m start mid t left h maps same peers =
    let alive : List MapLease → List MapLease = filter (live_map m) in
    let all : t.maps ≡ alive t.maps = same ∙ maps ∙ ap alive (sym same) in
    (table_left m start t left h all peers, all_left m start t left h all peers)
