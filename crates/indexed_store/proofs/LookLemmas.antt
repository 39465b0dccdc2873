-- What the tables tell of leases that are live at a moment.
use Rattle.std.proofs.Common.{◌≡◌, ℕ, ◌<◌, ◌≤◌, ◌+◌, ◌-◌, ◌&&◌, ◌||◌, ◌==◌, nat_lt, Bool, true, false, cond, List, [], ◌∷◌, ◌++◌, map, flat_map, filter, find, count_by, Option, Some, None, IfSome, IfNone, refl, sym, ap, subst, ◌∙◌, arith}
use Rattle.std.specs.List.{AllByRecursion, list_any, range_with_len}
use Rattle.std.specs.Option.{option_map, option_or}
use Rattle.std.proofs.lemmas.Bool.{and_parts, and_from, or_from, or_left, or_right, eqb-true, eq-eqb, lt-ltb, ltb-true, ltb-false, cond-true, cond-false, false_from_ne_true}
use Rattle.pcp_base.specs.declared.leases.Protocol.{Protocol}
use Rattle.pcp_base.specs.declared.leases.Endpoint.{Endpoint}
use Rattle.pcp_base.specs.declared.leases.MapLease.{MapLease}
use Rattle.pcp_base.specs.declared.leases.PeerLease.{PeerLease}
use Rattle.pcp_base.specs.Tables.{Table, names}
use Rattle.pcp_base.specs.declared.leases.Owner.{Owner}
use Rattle.pcp_base.specs.Owners.{map_owners, peer_owner, owners, is_port, endpoint_behind}
use Rattle.pcp_base.proofs.OwnerLooks.{found_in}
use Rattle.peer_table.proofs.Fellows.{two_share}
use Rattle.indexed_store.specs.Tabled.{AreTabled}
use Rattle.pcp_base.proofs.Members.{IsIn, IsIn-filter, filter-IsIn, IsIn-right, map-IsIn, Contains-from_IsIn, find-some, find-IsIn, All-from_IsIn, any-some, some-any, none-any}
use Rattle.pcp_base.proofs.Same.{same_endpoint-Decides}
use Rattle.ordered_index.proofs.EntryLaws.{tally, count-cons, count-some}
use Rattle.peer_table.specs.PeerLists.{is_live_peer, is_live_of, IsPortUse}
use Rattle.peer_table.specs.declared.uses.PortUse.{PortUse}
use Rattle.lease_store.specs.Lookups.{named_port, peer_count}
use Rattle.indexed_store.proofs.Uniques.{all-none}

-- ---- the leases that name an endpoint

module _ (t : Table) (e : Endpoint) (m : ℕ) where
  abbrev living : List PeerLease
  living = filter (λ l. nat_lt m l.expiry) t.peers

  filtered_step : (p q : PeerLease → Bool) (x : PeerLease) (xs : List PeerLease) (b : Bool) → q x ≡ b → count_by p (filter q xs) ≡ count_by (λ y. p y && q y) xs →
      count_by p (cond b (x ∷ filter q xs) (filter q xs)) ≡ tally (p x && b) + count_by (λ y. p y && q y) xs
  filtered_step p q x xs true h rest = (let a = count-cons p x (filter q xs) in let one : tally (p x && true) ≡ tally (p x) = true_last (p x) in omega (arith, a, one, rest))
    where
      true_last : (b : Bool) → tally (b && true) ≡ tally b
      true_last true = refl
      true_last false = refl
  filtered_step p q x xs false h rest = (let none : tally (p x && false) ≡ 0 = false_last (p x) in omega (arith, none, rest))
    where
      false_last : (b : Bool) → tally (b && false) ≡ 0
      false_last true = refl
      false_last false = refl

  counted : (p q : PeerLease → Bool) (xs : List PeerLease) → count_by p (filter q xs) ≡ count_by (λ y. p y && q y) xs
  counted p q [] = refl
  counted p q (x ∷ xs) =
      let a = count-cons (λ y. p y && q y) x xs in
      let b = filtered_step p q x xs (q x) refl (counted p q xs) in
      omega (arith, a, b)

  pub named_count : (used : PortUse) → IsPortUse e m t.peers (Some used) → used.count ≡ peer_count t m e
  named_count used h = h.count ∙ sym (counted (λ l. names l e) (is_live_peer m) t.peers)

  pub none_count : IsPortUse e m t.peers None → 0 ≡ peer_count t m e
  none_count h = sym h.none ∙ sym (counted (λ l. names l e) (is_live_peer m) t.peers)

  -- where none is counted, none passes
  uncounted : {X : Type 0} (p : X → Bool) (xs : List X) → count_by p xs ≡ 0 → AllByRecursion (λ x. p x ≡ false) xs
  uncounted {X} p xs h = All-from_IsIn (λ x. p x ≡ false) xs (λ x i. false_from_ne_true (p x) (λ t. let some = count-some p xs x i t in absurd (omega (arith, some, h))))

  pub none_named : IsPortUse e m t.peers None → None ≡ named_port t m e
  none_named h = ap (option_map (λ (l : PeerLease). l.external)) (sym (all-none (λ l. names l e) living (uncounted (λ l. names l e) living (sym (none_count h)))))

  -- the leases that name an endpoint have one port
  pub one_port : AreTabled t → (a b : PeerLease) → IsIn a t.peers → IsIn b t.peers → names a e ≡ true → names b e ≡ true → a.external ≡ b.external
  one_port tabled a b i j x y = (two_share t.peers a b tabled.peers.fellows i j).port ((same_endpoint-Decides a.endpoint e).0 x ∙ sym ((same_endpoint-Decides b.endpoint e).0 y))

  found_port : AreTabled t → (x : PeerLease) → IsIn x t.peers → is_live_of e m x ≡ true → (o : Option PeerLease) → find (λ l. names l e) living ≡ o → Some x.external ≡ option_map (λ (l : PeerLease). l.external) o
  found_port sound x i h None is =
      let both = and_parts _ _ h in
      absurd (let some = find-IsIn (λ l. names l e) living x (filter-IsIn (λ (l : PeerLease). nat_lt m l.expiry) t.peers x i both.1) both.0 in no_some (find (λ l. names l e) living) is some)
    where
      no_some : (o : Option PeerLease) → o ≡ None → Rattle.std.specs.Prelude.IsSome o → ⊥
      no_some None e s = absurd (cc)
      no_some (Some y) e s = let never : Some y ≡ None = e in cc
  found_port sound x i h (Some y) is =
      let both = and_parts _ _ h in
      let f = find-some (λ l. names l e) living y is in
      ap Some (one_port sound x y i (IsIn-filter (λ (l : PeerLease). nat_lt m l.expiry) t.peers y f.0).0 both.0 f.1)

  pub port_named : AreTabled t → (used : PortUse) → IsPortUse e m t.peers (Some used) → Some used.external ≡ named_port t m e
  port_named sound used h =
      let x = any-some (λ l. is_live_of e m l && l.external == used.external) t.peers h.external in
      let parts = and_parts _ _ x.2 in
      ap Some (sym (eqb-true x.0.external used.external parts.1)) ∙ found_port sound x.0 x.1 parts.0 (find (λ l. names l e) living) refl

  -- whether one is named
  pub used_any : (o : Option PortUse) → IsPortUse e m t.peers o → Rattle.std.specs.Prelude.is_some o ≡ list_any (λ l. names l e) living
  used_any None h = sym (none-any (λ l. names l e) living (uncounted (λ l. names l e) living (sym (none_count h))))
  used_any (Some used) h =
      let x = any-some (λ l. is_live_of e m l && l.external == used.external) t.peers h.external in
      let both = and_parts _ _ (and_parts _ _ x.2).0 in
      sym (some-any (λ l. names l e) living x.0 (filter-IsIn (λ (l : PeerLease). nat_lt m l.expiry) t.peers x.0 x.1 both.1) both.0)

-- ---- covered and named ports

find_any : {X : Type 0} (p : X → Bool) (xs : List X) → Rattle.std.specs.Prelude.is_some (find p xs) ≡ list_any p xs
find_any p [] = refl
find_any p (x ∷ xs) = step (p x) (find_any p xs)
  where
    step : (b : Bool) → Rattle.std.specs.Prelude.is_some (find p xs) ≡ list_any p xs → Rattle.std.specs.Prelude.is_some (cond b (Some x) (find p xs)) ≡ (b || list_any p xs)
    step true h = refl
    step false h = h

pub some_any : {X : Type 0} (p : X → Bool) (xs : List X) → Rattle.std.specs.Prelude.is_some (find p xs) ≡ list_any p xs
some_any p xs = find_any p xs

-- ---- by port

module _ (protocol : Protocol) (port : ℕ) (maps : List MapLease) (peers : List PeerLease) where
  abbrev through_map : Option Endpoint
  through_map = option_map (endpoint_behind port) (find (Rattle.pcp_base.specs.Owners.owns protocol port) maps)

  abbrev through_peer : Option Endpoint
  through_peer = option_map (λ (l : PeerLease). l.endpoint) (find (λ l. is_port protocol port (peer_owner l)) peers)

  abbrev through : Option Endpoint
  through = option_map (λ (o : Owner). o.endpoint) (find (is_port protocol port) (flat_map map_owners maps ++ map peer_owner peers))

  pub looked : None ≡ through_map → through_peer ≡ through
  looked none = ap (λ (o : Option Endpoint). option_or o through_peer) none ∙ sym (found_in protocol port maps peers)

  pub looked_map : (e : Endpoint) → Some e ≡ through_map → Some e ≡ through
  looked_map e some = ap (λ (o : Option Endpoint). option_or o through_peer) some ∙ sym (found_in protocol port maps peers)
