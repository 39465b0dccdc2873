-- Leases that have ended go out of tables, and all that are live stay.
use Rattle.std.proofs.Common.{◌≡◌, ℕ, ◌<◌, ◌+◌, nat_lt, not, Bool, true, false, cond, List, [], ◌∷◌, filter, find, length, Contains, Option, Some, None, IfSome, refl, sym, ap, ◌∙◌, subst, inl, inr, arith}
use Rattle.std.specs.Prelude.{is_some}
use Rattle.std.proofs.lemmas.Bool.{and_from, cond-false, eq-eqb, false_from_ne_true}
use Rattle.pcp_base.specs.declared.leases.Endpoint.{Endpoint}
use Rattle.pcp_base.specs.declared.leases.MapLease.{MapLease}
use Rattle.pcp_base.specs.declared.leases.PeerLease.{PeerLease}
use Rattle.pcp_base.specs.Tables.{Table, live, is_map_of, is_peer_of}
use Rattle.pcp_base.proofs.Members.{IsIn, IsIn-filter, IsIn-from_Contains, Contains-from_IsIn, filter-IsIn, find-none, find-some, filter-all, All-IsIn, All-from_IsIn, All-weaker}
use Rattle.pcp_base.proofs.Same.{same_endpoint-Decides, same_address-Decides}
use Rattle.pcp_base.proofs.StageLaws.{unlike}
use Rattle.pcp_base.proofs.TableLemmas.{length-fewer}
use Rattle.mapping_table.specs.Laws.{FewerMapsAreSound}
use Rattle.peer_table.specs.Laws.{FewerPeersAreSound}
use Rattle.indexed_store.specs.Tabled.{AreTabled}
use Rattle.indexed_store.proofs.Uniques.{all-none, one-key, one-peer}

-- some leases of a table, among them all that are live at m
pub record IsRest (m : ℕ) (old new : Table) : Type 0 where
  pub tabled : AreTabled new
  pub same : live new m ≡ live old m
  pub maps_from : (l : MapLease) → Contains new.maps l → Contains old.maps l
  pub peers_from : (l : PeerLease) → Contains new.peers l → Contains old.peers l

-- some leases of some
pub rest-then : (m : ℕ) (t u v : Table) → IsRest m t u → IsRest m u v → IsRest m t v
rest-then m t u v a b = record {
  tabled = b.tabled;
  same = b.same ∙ a.same;
  maps_from = λ l i. a.maps_from l (b.maps_from l i);
  peers_from = λ l i. a.peers_from l (b.peers_from l i);
}

not-true : (b : Bool) → not b ≡ true → b ≡ false
not-true true h = sym h
not-true false h = refl

not-false : (b : Bool) → not b ≡ false → b ≡ true
not-false true h = refl
not-false false h = sym h

-- where no lease has ended, all are live
all-live : {X : Type 0} (p : X → Bool) (xs : List X) → find (λ x. not (p x)) xs ≡ None
    → xs ≡ filter p xs
all-live p xs h = sym (filter-all p xs
    (All-weaker (λ x. not (p x) ≡ false) (λ x. p x ≡ true) (λ x e. not-false (p x) e) xs
    (find-none (λ x. not (p x)) xs h)))

-- a test that all fail which go is passed by as many
filter-others : {X : Type 0} (p q : X → Bool) (xs : List X)
    → ((x : X) → IsIn x xs → q x ≡ true → p x ≡ false)
    → filter p (filter (λ x. not (q x)) xs) ≡ filter p xs
filter-others p q [] h = refl
filter-others p q (x ∷ xs) h = step (q x) refl (filter-others p q xs (λ y i. h y (inr i)))
  where
    step : (b : Bool) → q x ≡ b → filter p (filter (λ y. not (q y)) xs) ≡ filter p xs → filter p (cond (not b) (x ∷ filter (λ y. not (q y)) xs) (filter (λ y. not (q y)) xs)) ≡ cond (p x) (x ∷ filter p xs) (filter p xs)
    step true e later = later ∙ sym (cond-false (p x) (x ∷ filter p xs) (filter p xs) (h x (inl refl) e))
    step false e later = ap (λ zs. cond (p x) (x ∷ zs) zs) later

-- a list without one of its items is shorter
shorter : {X : Type 0} (p : X → Bool) (xs : List X) (x : X) → IsIn x xs → p x ≡ false
    → length (filter p xs) < length xs
shorter p [] x h e = absurd h
shorter p (y ∷ ys) x (inl same) e =
    let fails : p y ≡ false = ap p same ∙ e in
    let rest = length-fewer p ys in
    let is : length (filter p (y ∷ ys)) ≡ length (filter p ys) = ap length (cond-false (p y) (y ∷ filter p ys) (filter p ys) fails) in
    omega (arith, rest, is)
shorter p (y ∷ ys) x (inr h) e = step (p y) (shorter p ys x h e)
  where
    step : (b : Bool) → length (filter p ys) < length ys → length (cond b (y ∷ filter p ys) (filter p ys)) < length (y ∷ ys)
    step true rest = omega (arith, rest)
    step false rest = omega (arith, rest)

-- MAP leases have gone that have ended
maps-rest : FewerMapsAreSound → (m : ℕ) (t : Table) → AreTabled t → (q : MapLease → Bool)
    → ((l : MapLease) → IsIn l t.maps → q l ≡ true → nat_lt m l.expiry ≡ false)
    → IsRest m t (record t { maps = filter (λ l. not (q l)) t.maps })
maps-rest fewer m t tabled q dead =
    let less = length-fewer (λ (l : MapLease). not (q l)) t.maps in
    let all = tabled.few in
    record {
      tabled = record {
        maps = fewer (λ l. not (q l)) t.maps tabled.maps;
        peers = tabled.peers;
        few = omega (arith, less, all);
      };
      same = ap (λ (ls : List MapLease). record (live t m) { maps = ls })
          (filter-others (λ (l : MapLease). nat_lt m l.expiry) q t.maps dead);
      maps_from = λ l c. Contains-from_IsIn t.maps l (IsIn-filter (λ x. not (q x)) t.maps l
          (IsIn-from_Contains (filter (λ x. not (q x)) t.maps) l c)).0;
      peers_from = λ l c. c;
    }

pub own-key : (l : PeerLease) → is_peer_of l.endpoint l.remote l.remote_port l ≡ true
own-key l =
    let endpoint = (same_endpoint-Decides l.endpoint l.endpoint).1 refl in
    let remote = (same_address-Decides l.remote l.remote).1 refl in
    and_from _ _ (and_from _ _ endpoint remote) (eq-eqb l.remote_port l.remote_port refl)

-- PEER leases have gone that have ended
peers-rest : FewerPeersAreSound → (m : ℕ) (t : Table) → AreTabled t → (q : PeerLease → Bool)
    → ((l : PeerLease) → IsIn l t.peers → q l ≡ true → nat_lt m l.expiry ≡ false)
    → IsRest m t (record t { peers = filter (λ l. not (q l)) t.peers })
peers-rest fewer m t tabled q dead =
    let less = length-fewer (λ (l : PeerLease). not (q l)) t.peers in
    let all = tabled.few in
    record {
      tabled = record {
        maps = tabled.maps;
        peers = fewer (λ l. not (q l)) t.peers tabled.peers;
        few = omega (arith, less, all);
      };
      same = ap (λ (ls : List PeerLease). record (live t m) { peers = ls })
          (filter-others (λ (l : PeerLease). nat_lt m l.expiry) q t.peers dead);
      maps_from = λ l c. c;
      peers_from = λ l c. Contains-from_IsIn t.peers l (IsIn-filter (λ x. not (q x)) t.peers l
          (IsIn-from_Contains (filter (λ x. not (q x)) t.peers) l c)).0;
    }

-- fewer leases than there were, all that are live among them
pub record AreFewer (m : ℕ) (old new : Table) : Type 0 where
  pub rest : IsRest m old new
  pub fewer : length new.maps + length new.peers < length old.maps + length old.peers

-- the leases of both tables (before), seen as one table (t)
module _ (m : ℕ) (before t : Table) (seen : before ≡ t) (tabled : AreTabled t) where
  tabled-before : AreTabled before
  tabled-before = subst AreTabled (sym seen) tabled

  pub none-dead : find (λ l. not (nat_lt m l.expiry)) before.maps ≡ None → find (λ l. not (nat_lt m l.expiry)) before.peers ≡ None → t ≡ live t m
  none-dead maps peers =
      let all : before ≡ live before m =
      ap (λ (ls : List MapLease). record before { maps = ls }) (all-live (λ (l : MapLease). nat_lt m l.expiry) before.maps maps)
      ∙ ap (λ (ls : List PeerLease). record (live before m) { peers = ls }) (all-live (λ (l : PeerLease). nat_lt m l.expiry) before.peers peers) in
      subst (λ (u : Table). u ≡ live u m) seen all

  -- a MAP lease that has ended goes
  pub map-goes : FewerMapsAreSound → (l : MapLease) (key : Endpoint) → IsIn l before.maps → nat_lt m l.expiry ≡ false
      → is_map_of key l ≡ true → (maps : List MapLease) → maps ≡ filter (λ x. not (is_map_of key x)) before.maps
      → AreFewer m t (record before { maps = maps })
  map-goes law l key among ended has maps are =
      subst (λ (ls : List MapLease). AreFewer m t (record before { maps = ls })) (sym are)
      (subst (λ (u : Table). AreFewer m u (record before { maps = filter (λ x. not (is_map_of key x)) before.maps })) seen (record {
        rest = maps-rest law m before tabled-before (is_map_of key) (λ x i k.
            ap (λ (y : MapLease). nat_lt m y.expiry) (one-key before key tabled-before x l i among k has) ∙ ended);
        fewer = (let less = shorter (λ x. not (is_map_of key x)) before.maps l among (ap not has) in omega (arith, less));
      }))

  -- a PEER lease that has ended goes
  pub peer-goes : FewerPeersAreSound → (l : PeerLease) → IsIn l before.peers → nat_lt m l.expiry ≡ false
      → (peers : List PeerLease) → peers ≡ filter (λ x. not (is_peer_of l.endpoint l.remote l.remote_port x)) before.peers
      → AreFewer m t (record before { peers = peers })
  peer-goes law l among ended peers are =
      let has = is_peer_of l.endpoint l.remote l.remote_port in
      let own : has l ≡ true = own-key l in
      subst (λ (ls : List PeerLease). AreFewer m t (record before { peers = ls })) (sym are)
      (subst (λ (u : Table). AreFewer m u (record before { peers = filter (λ x. not (has x)) before.peers })) seen (record {
        rest = peers-rest law m before tabled-before has (λ x i k.
            ap (λ (y : PeerLease). nat_lt m y.expiry) (one-peer l.endpoint l.remote l.remote_port before tabled-before x l i among k own) ∙ ended);
        fewer = (let less = shorter (λ x. not (has x)) before.peers l among (ap not own) in omega (arith, less));
      }))

  -- what has a key goes, where none with the key is live
  pub key-goes : FewerMapsAreSound → (key : Endpoint) → find (is_map_of key) (live t m).maps ≡ None
      → (maps : List MapLease) → maps ≡ filter (λ x. not (is_map_of key x)) before.maps
      → IsRest m t (record before { maps = maps })
  key-goes law key none maps are =
      let living = (live before m).maps in
      let none_before : find (is_map_of key) living ≡ None = ap (λ (u : Table). find (is_map_of key) (live u m).maps) seen ∙ none in
      subst (λ (ls : List MapLease). IsRest m t (record before { maps = ls })) (sym are)
      (subst (λ (u : Table). IsRest m u (record before { maps = filter (λ x. not (is_map_of key x)) before.maps })) seen
      (maps-rest law m before tabled-before (is_map_of key) (λ x i k. false_from_ne_true (nat_lt m x.expiry) (λ alive.
      unlike (is_map_of key x) k (All-IsIn (λ y. is_map_of key y ≡ false) living x (find-none (is_map_of key) living none_before)
      (filter-IsIn (λ (y : MapLease). nat_lt m y.expiry) before.maps x i alive))))))

-- where a MAP lease with a key is live, it is the one with the key
module _ (m : ℕ) (t : Table) (tabled : AreTabled t) (key : Endpoint) where
  live-own : (o q : Option MapLease) → find (is_map_of key) (live t m).maps ≡ o → is_some o ≡ true
      → find (is_map_of key) t.maps ≡ q → IfSome q (λ l. nat_lt m l.expiry ≡ true) × (true ≡ is_some q)
  live-own None q is some found = absurd (let no : false ≡ true = some in cc)
  live-own (Some x) None is some found =
      let f = find-some (is_map_of key) (live t m).maps x is in
      let i = IsIn-filter (λ (y : MapLease). nat_lt m y.expiry) t.maps x f.0 in
      absurd (unlike (is_map_of key x) f.1 (All-IsIn (λ y. is_map_of key y ≡ false) t.maps x (find-none (is_map_of key) t.maps found) i.0))
  live-own (Some x) (Some y) is some found =
      let f = find-some (is_map_of key) (live t m).maps x is in
      let i = IsIn-filter (λ (z : MapLease). nat_lt m z.expiry) t.maps x f.0 in
      let g = find-some (is_map_of key) t.maps y found in
      (ap (λ (z : MapLease). nat_lt m z.expiry) (one-key t key tabled y x g.0 i.0 g.1 f.1) ∙ i.1, refl)

  pub own-live : is_some (find (is_map_of key) (live t m).maps) ≡ true
      → IfSome (find (is_map_of key) t.maps) (λ l. nat_lt m l.expiry ≡ true) × (true ≡ is_some (find (is_map_of key) t.maps))
  own-live some = live-own (find (is_map_of key) (live t m).maps) (find (is_map_of key) t.maps) refl some refl

pub none-left : {X : Type 0} (has : X → Bool) (xs ys : List X) → ys ≡ filter (λ x. not (has x)) xs → find has ys ≡ None
none-left has xs ys are = ap (find has) are ∙ all-none has (filter (λ x. not (has x)) xs)
    (All-from_IsIn (λ x. has x ≡ false) (filter (λ x. not (has x)) xs) (λ x i. not-true (has x) (IsIn-filter (λ y. not (has y)) xs x i).1))

pub found-none : {X : Type 0} (o : Option X) → is_some o ≡ false → o ≡ None
found-none None h = refl
found-none (Some x) h = absurd (let no : true ≡ false = h in cc)
