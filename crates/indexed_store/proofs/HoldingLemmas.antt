-- Until when the leases of a table hold a port.
use Rattle.std.proofs.Common.{◌≡◌, ℕ, ◌<◌, ◌≤◌, ◌+◌, ◌-◌, ◌^◌, ◌&&◌, ◌==◌, nat_lt, Bool, true, false, cond, List, [], ◌∷◌, filter, find, Option, Some, None, IfSome, refl, sym, ap, ◌∙◌, subst, inl, inr, arith}
use Rattle.std.specs.List.{list_any}
use Rattle.std.specs.Option.{option_map, option_or}
use Rattle.std.proofs.lemmas.Bool.{and_parts, and_from, eqb-true, eq-eqb, ltb-true, ltb-false}
use Rattle.pcp_base.specs.declared.leases.Protocol.{Protocol}
use Rattle.pcp_base.specs.declared.leases.Protocol.TheVariants.{Tcp, Udp}
use Rattle.pcp_base.specs.declared.leases.MapLease.{MapLease}
use Rattle.pcp_base.specs.declared.leases.PeerLease.{PeerLease}
use Rattle.pcp_base.specs.declared.leases.Owner.{Owner}
use Rattle.pcp_base.specs.declared.leases.End.{End}
use Rattle.pcp_base.specs.Protocols.{protocol_number}
use Rattle.pcp_base.specs.Tables.{Table, same_protocol}
use Rattle.pcp_base.specs.Owners.{map_owners, peer_owner, is_port, owns}
use Rattle.pcp_base.specs.Ends.{end_at, ends_at_expiry, is_end_of}
use Rattle.pcp_base.proofs.Members.{IsIn, All-IsIn, IsIn-filter, filter-IsIn, IsIn-map, map-IsIn, any-some, some-any, find-some, find-none}
use Rattle.pcp_base.proofs.TableLemmas.{map_owners-IsIn}
use Rattle.pcp_base.proofs.StageLaws.{unlike, map_ends, peer_end, expiry-parts, from_map, from_peer}
use Rattle.pcp_base.proofs.PortLemmas.{owned_by}
use Rattle.leased_ports.proofs.RecordLemmas.{latest-least}
use Rattle.mapping_table.specs.MapLists.{map_owning}
use Rattle.peer_table.specs.PeerLists.{IsLastExpiry}
use Rattle.leased_ports.specs.Leased.{Leased, end_of}
use Rattle.leased_ports.specs.Recorded.{latest, held_until}
use Rattle.indexed_store.specs.declared.owning.OwnerRun.{OwnerRun}
use Rattle.indexed_store.specs.declared.holding.Hold.{Hold}
use Rattle.indexed_store.specs.declared.holding.Unowned.{Unowned}
use Rattle.indexed_store.specs.declared.holding.Unowned.TheVariants.{Rests}
use Rattle.indexed_store.specs.Runs.{behind, has_port, owner_in, owners_if, up_to}
use Rattle.indexed_store.specs.Holding.{AreNearAt, Holds, HoldsIf, IsEven, IsHold, end_held, held_by_map, later_by}
use Rattle.indexed_store.proofs.Uniques.{one-owns}
use Rattle.indexed_store.proofs.RunLemmas.{found_owner, has_more, has_none, owner_behind, place_in, set_more}

pub same_number : (a b : Protocol) → same_protocol a b ≡ (protocol_number a == protocol_number b)
same_number Tcp Tcp = refl
same_number Tcp Udp = refl
same_number Udp Tcp = refl
same_number Udp Udp = refl

-- ---- the latest end

latest-from : (m : ℕ) (es : List End) → m ≤ latest m es
latest-from m [] = omega arith
latest-from m (e ∷ es) = let rest = latest-from m es in omega (arith, rest)

-- what bounds all bounds the latest
latest-most : (m : ℕ) (es : List End) (r : ℕ) → m ≤ r → ((e : End) → IsIn e es → e.end ≤ r) → latest m es ≤ r
latest-most m [] r h k = h
latest-most m (e ∷ es) r h k = let rest = latest-most m es r h (λ x i. k x (inr i)) in let here = k e (inl refl) in omega (arith, rest, here)

later-least : (m : ℕ) (o : Option ℕ) → m ≤ later_by m o
later-least m None = omega arith
later-least m (Some n) = step (nat_lt m n) refl
  where
    step : (b : Bool) → nat_lt m n ≡ b → m ≤ cond b n m
    step true e = let lt = ltb-true m n e in omega (arith, lt)
    step false e = omega arith

later-some : (m n : ℕ) (o : Option ℕ) → o ≡ Some n → n ≤ later_by m o
later-some m n None h = absurd (let never : None ≡ Some n = h in cc)
later-some m n (Some k) h = let same : k ≡ n = (let both : Some k ≡ Some n = h in cc) in step (nat_lt m k) refl same
  where
    step : (b : Bool) → nat_lt m k ≡ b → k ≡ n → n ≤ cond b k m
    step true e same = omega (arith, same)
    step false e same = let le = ltb-false m k e in omega (arith, same, le)

later-most : (m r : ℕ) (o : Option ℕ) → m ≤ r → IfSome o (λ n. n ≤ r) → later_by m o ≤ r
later-most m r None h k = h
later-most m r (Some n) h k = step (nat_lt m n)
  where
    step : (b : Bool) → cond b n m ≤ r
    step true = k
    step false = h

module _ (t : Table) (protocol : Protocol) (port : ℕ) where
  -- an end of this port is that of a lease that owns it
  map-owns : (l : MapLease) (e : End) → IsIn e (map_ends l) → is_end_of protocol port e ≡ true → (owns protocol port l ≡ true) × (e.end ≡ l.expiry)
  map-owns l e i h =
      let r = IsIn-map (end_at l.expiry) (map_owners l) e i in
      let k = map_owners-IsIn l r.0 r.1 in
      let parts' = and_parts _ _ h in
      let number : protocol_number r.0.endpoint.protocol ≡ protocol_number protocol = ap (λ (x : End). protocol_number x.endpoint.protocol) r.2 ∙ eqb-true _ _ parts'.0 in
      let mine : r.0.protocol ≡ r.0.endpoint.protocol = subst (λ (x : Owner). x.protocol ≡ x.endpoint.protocol) k.2 refl in
      let same : same_protocol r.0.protocol protocol ≡ true = same_number r.0.protocol protocol ∙ eq-eqb _ _ (ap protocol_number mine ∙ number) in
      let external : (r.0.external == port) ≡ true = eq-eqb r.0.external port (ap (λ (x : End). x.external) r.2 ∙ eqb-true e.external port parts'.1) in
      (sym (owned_by protocol port l) ∙ some-any (is_port protocol port) (map_owners l) r.0 r.1 (and_from _ _ same external), sym (ap (λ (x : End). x.end) r.2))

  owns-map : (l : MapLease) → owns protocol port l ≡ true → (e : End) × IsIn e (map_ends l) × (is_end_of protocol port e ≡ true) × (e.end ≡ l.expiry)
  owns-map l h =
      let o = any-some (is_port protocol port) (map_owners l) (owned_by protocol port l ∙ h) in
      let k = map_owners-IsIn l o.0 o.1 in
      let p = and_parts _ _ o.2 in
      let mine : o.0.protocol ≡ o.0.endpoint.protocol = subst (λ (x : Owner). x.protocol ≡ x.endpoint.protocol) k.2 refl in
      let number : (protocol_number o.0.endpoint.protocol == protocol_number protocol) ≡ true = ap (λ (q : Protocol). protocol_number q == protocol_number protocol) (sym mine) ∙ sym (same_number o.0.protocol protocol) ∙ p.0 in
      (end_at l.expiry o.0, map-IsIn (end_at l.expiry) (map_owners l) o.0 o.1, and_from _ _ number p.1, refl)

  peer-owns : (l : PeerLease) → is_port protocol port (peer_owner l) ≡ is_end_of protocol port (peer_end l)
  peer-owns l = ap (λ (b : Bool). b && l.external == port) (same_number l.endpoint.protocol protocol)

  near-map : (m : ℕ) → AreNearAt m t → (o : Option MapLease) → find (owns protocol port) t.maps ≡ o → IfSome (option_map (λ (l : MapLease). l.expiry) o) (λ n. n ≤ 2 ^ 41 - 1)
  near-map m near None h = tt
  near-map m near (Some l) h = let f = find-some (owns protocol port) t.maps l h in let lt = All-IsIn (λ (x : MapLease). x.expiry < 2 ^ 41) t.maps l near.maps f.0 in omega (arith, lt)

  -- when the MAP lease of the port expires
  pub map_bounds : (m : ℕ) → AreNearAt m t → m < 2 ^ 41 → (m ≤ held_by_map m t.maps protocol port) × (held_by_map m t.maps protocol port < 2 ^ 41)
  map_bounds m near small =
      let o = option_map (λ (l : MapLease). l.expiry) (map_owning protocol port t.maps) in
      let from = later-least m o in
      let to = later-most m (2 ^ 41 - 1) o (omega (arith, small)) (near-map m near (map_owning protocol port t.maps) refl) in
      (from, omega (arith, to))

  module _ (m : ℕ) (near : AreNearAt m t) (b : Option ℕ) (last : IsLastExpiry protocol port t.peers b) where
    abbrev a : Option ℕ
    a = option_map (λ (l : MapLease). l.expiry) (map_owning protocol port t.maps)

    abbrev r : ℕ
    r = later_by (later_by m a) b

    abbrev ends : List End
    ends = filter (is_end_of protocol port) (ends_at_expiry t)

    r-from : m ≤ r
    r-from = let x = later-least m a in let y = later-least (later_by m a) b in omega (arith, x, y)

    map-expiry : (o : Option MapLease) → find (owns protocol port) t.maps ≡ o → IfSome (option_map (λ (l : MapLease). l.expiry) o) (λ n. n ≤ held_until m t protocol port)
    map-expiry None h = tt
    map-expiry (Some l) h =
        let f = find-some (owns protocol port) t.maps l h in
        let e = owns-map l f.1 in
        let up = latest-least m ends e.0 (filter-IsIn (is_end_of protocol port) (ends_at_expiry t) e.0 (from_map t e.0 (l, f.0, e.1)) e.2) in
        omega (arith, up, e.3)

    peer-expiry : (o : Option ℕ) → IsLastExpiry protocol port t.peers o → IfSome o (λ n. n ≤ held_until m t protocol port)
    peer-expiry None h = tt
    peer-expiry (Some n) h =
        let l = any-some (λ x. is_port protocol port (peer_owner x) && x.expiry == n) t.peers h.there in
        let p = and_parts _ _ l.2 in
        let up = latest-least m ends (peer_end l.0) (filter-IsIn (is_end_of protocol port) (ends_at_expiry t) (peer_end l.0) (from_peer t (peer_end l.0) (l.0, l.1, refl)) (sym (peer-owns l.0) ∙ p.0)) in
        let same : l.0.expiry ≡ n = eqb-true l.0.expiry n p.1 in
        omega (arith, up, same)

    up : r ≤ held_until m t protocol port
    up = later-most (later_by m a) (held_until m t protocol port) b
        (later-most m (held_until m t protocol port) a (latest-from m ends) (map-expiry (map_owning protocol port t.maps) refl)) (peer-expiry b last)

    one_owns : (l : MapLease) → IsIn l t.maps → owns protocol port l ≡ true → (o : Option MapLease) → find (owns protocol port) t.maps ≡ o → o ≡ Some l
    one_owns l i h None is = absurd (unlike (owns protocol port l) h (All-IsIn (λ x. owns protocol port x ≡ false) t.maps l (find-none (owns protocol port) t.maps is) i))
    one_owns l i h (Some x) is = let f = find-some (owns protocol port) t.maps x is in ap Some (one-owns t protocol port near.tabled x l f.0 i f.1 h)

    peer-late : (l : PeerLease) → IsIn l t.peers → is_port protocol port (peer_owner l) ≡ true → (o : Option ℕ) → IsLastExpiry protocol port t.peers o → (k : ℕ) → l.expiry ≤ later_by k o
    peer-late l i h None last k = absurd (unlike (list_any (λ x. is_port protocol port (peer_owner x)) t.peers) (some-any (λ x. is_port protocol port (peer_owner x)) t.peers l i h) last.none)
    peer-late l i h (Some n) last k = let le = All-IsIn (λ x. is_port protocol port (peer_owner x) ≡ true → x.expiry ≤ n) t.peers l last.latest i h in let up = later-some k n (Some n) refl in omega (arith, le, up)

    each : (e : End) → IsIn e ends → e.end ≤ r
    each e i =
        let k = IsIn-filter (is_end_of protocol port) (ends_at_expiry t) e i in
        elim (expiry-parts t e k.0) [
          | inl x ↦ (let o = map-owns x.0 e x.2 k.1 in
              let found = one_owns x.0 x.1 o.0 (map_owning protocol port t.maps) refl in
              let here = later-some m x.0.expiry a (ap (option_map (λ (l : MapLease). l.expiry)) found) in
              let on = later-least (later_by m a) b in
              omega (arith, o.1, here, on))
          | inr y ↦ (let same : y.0.expiry ≡ e.end = ap (λ (x : End). x.end) y.2 in
              let is : is_port protocol port (peer_owner y.0) ≡ true = peer-owns y.0 ∙ ap (is_end_of protocol port) y.2 ∙ k.1 in
              let late = peer-late y.0 y.1 is b last (later_by m a) in
              omega (arith, late, same))
        ]

    pub held : r ≡ held_until m t protocol port
    held = let x = up in let y = latest-most m ends r r-from each in omega (arith, x, y)

    near-peer : (o : Option ℕ) → IsLastExpiry protocol port t.peers o → IfSome o (λ n. n ≤ 2 ^ 41 - 1)
    near-peer None h = tt
    near-peer (Some n) h =
        let l = any-some (λ x. is_port protocol port (peer_owner x) && x.expiry == n) t.peers h.there in
        let p = and_parts (is_port protocol port (peer_owner l.0)) (l.0.expiry == n) l.2 in
        let same : l.0.expiry ≡ n = eqb-true l.0.expiry n p.1 in
        let lt = All-IsIn (λ (x : PeerLease). x.expiry < 2 ^ 41) t.peers l.0 near.peers l.1 in omega (arith, lt, same)

    pub bounded : m < 2 ^ 41 → (m ≤ r) × (r < 2 ^ 41)
    bounded small =
        let x = later-most m (2 ^ 41 - 1) a (omega (arith, small)) (near-map m near (map_owning protocol port t.maps) refl) in
        let y = later-most (later_by m a) (2 ^ 41 - 1) b x (near-peer b last) in
        (r-from, omega (arith, y))

-- ---- ports of a run that are held until the same moment

module _ (m : ℕ) (t : Table) (near : AreNearAt m t) (r : OwnerRun) (from : ℕ) (h : Hold) (hold : IsHold from t.peers r h)
    (maps : (i : ℕ) → i < r.count → from ≡ held_by_map m t.maps r.first.protocol (r.first.external + i)) where
  until-later : (i : ℕ) (less : i < h.count) → h.until ≡ later_by (held_by_map m t.maps r.first.protocol (r.first.external + i)) (hold.same i less).expiry
  until-later i less = (hold.same i less).is ∙ ap (λ (n : ℕ). later_by n (hold.same i less).expiry) (maps i (let few = hold.few in omega (arith, less, few)))

  until-is : (i : ℕ) → i < h.count → h.until ≡ held_until m t r.first.protocol (r.first.external + i)
  until-is i less = until-later i less ∙ held t r.first.protocol (r.first.external + i) m near (hold.same i less).expiry (hold.same i less).last

  pub until-bounds : m < 2 ^ 41 → (m ≤ h.until) × (h.until < 2 ^ 41)
  until-bounds small =
      let some : 0 < h.count = (let one = hold.some in omega (arith, one)) in
      subst (λ (n : ℕ). (m ≤ n) × (n < 2 ^ 41)) (sym (until-later 0 some))
      (bounded t r.first.protocol (r.first.external + 0) m near (hold.same 0 some).expiry (hold.same 0 some).last small)

  pub piece-holds : (unowned : Unowned) (old new : Leased) → ((protocol : Protocol) (port : ℕ) → end_of new protocol port
      ≡ cond (has_port protocol port (up_to h.count r)) (end_held unowned m h.until (owner_in (up_to h.count r) port)) (end_of old protocol port)) → Holds unowned m t (up_to h.count r) old new
  piece-holds unowned old new given protocol port = given protocol port ∙ step (has_port protocol port (up_to h.count r)) refl
    where
      step : (b : Bool) → has_port protocol port (up_to h.count r) ≡ b → cond b (end_held unowned m h.until (owner_in (up_to h.count r) port)) (end_of old protocol port)
          ≡ cond b (end_held unowned m (held_until m t protocol port) (owner_in (up_to h.count r) port)) (end_of old protocol port)
      step false e = refl
      step true e =
          let p = place_in protocol port (up_to h.count r) e in
          let until : h.until ≡ held_until m t protocol port = until-is p.place p.less ∙ ap (λ (q : Protocol). held_until m t q (r.first.external + p.place)) p.protocol_is ∙ ap (λ (n : ℕ). held_until m t protocol n) p.port_is in
          ap (λ (n : ℕ). end_held unowned m n (owner_in (up_to h.count r) port)) until

-- ---- a run piece by piece

module _ (unowned : Unowned) (m : ℕ) (t : Table) (r : OwnerRun) where
  pub holds-none : (v : Leased) → Holds unowned m t (up_to 0 r) v v
  holds-none v protocol port = sym (ap (λ (b : Bool). cond b (end_held unowned m (held_until m t protocol port) (owner_in r port)) (end_of v protocol port)) (has_none protocol port r))

  abbrev held_in : Protocol → ℕ → Option End
  held_in protocol port = end_held unowned m (held_until m t protocol port) (owner_in r port)

  -- a port of a piece behind the first ones has the same owner as in the run
  same_piece : (done n : ℕ) (protocol : Protocol) (port : ℕ) (other : Option End) (b : Bool) → has_port protocol port (up_to n (behind done r)) ≡ b
      → cond b (end_held unowned m (held_until m t protocol port) (owner_in (behind done r) port)) other ≡ cond b (held_in protocol port) other
  same_piece done n protocol port other true e = ap (end_held unowned m (held_until m t protocol port)) (owner_behind protocol port r done n e)
  same_piece done n protocol port other false e = refl

  pub holds-more : (done n : ℕ) (before mid after : Leased) → Holds unowned m t (up_to done r) before mid → Holds unowned m t (up_to n (behind done r)) mid after → Holds unowned m t (up_to (done + n) r) before after
  holds-more done n before mid after h k protocol port =
      set_more (has_port protocol port (up_to done r)) (has_port protocol port (up_to n (behind done r))) (held_in protocol port) (end_of before protocol port) (end_of mid protocol port) (end_of after protocol port)
      (h protocol port) (k protocol port ∙ same_piece done n protocol port (end_of mid protocol port) (has_port protocol port (up_to n (behind done r))) refl)
      ∙ ap (λ (b : Bool). cond b (held_in protocol port) (end_of before protocol port)) (sym (has_more protocol port r done n))

  pub holds-whole : (done : ℕ) (before after : Leased) → done ≡ r.count → Holds unowned m t (up_to done r) before after → Holds unowned m t r before after
  holds-whole done before after whole h = subst (λ (n : ℕ). Holds unowned m t (up_to n r) before after) whole h

-- what MAP leases hold of the ports behind the first of a run
pub even-behind : (m from : ℕ) (maps : List MapLease) (r : OwnerRun) (done : ℕ) → from ≡ held_by_map m maps r.first.protocol r.first.external → IsEven maps r → done < r.count → (i : ℕ) → i < r.count - done
    → from ≡ held_by_map m maps r.first.protocol (r.first.external + done + i)
even-behind m from maps r done is even before i less =
    let at : r.first.external + (done + i) ≡ r.first.external + done + i = omega arith in
    is ∙ ap (λ (o : Option MapLease). later_by m (option_map (λ (l : MapLease). l.expiry) o))
    (sym (even (done + i) (omega (arith, before, less))) ∙ ap (λ (n : ℕ). map_owning r.first.protocol n maps) at)

-- as a record tells it
pub holds-after : (m : ℕ) (t : Table) (run : Option OwnerRun) (old new : Leased) → HoldsIf Rests m t run old new → (protocol : Protocol) (port : ℕ) →
    end_of new protocol port ≡ option_or (option_map (λ (o : Owner). end_at (held_until m t protocol port) o) (find (is_port protocol port) (owners_if run))) (end_of old protocol port)
holds-after m t None old new h protocol port = h protocol port
holds-after m t (Some r) old new h protocol port =
    h protocol port ∙ step (has_port protocol port r)
    ∙ ap (λ (o : Option Owner). option_or (option_map (λ (o : Owner). end_at (held_until m t protocol port) o) o) (end_of old protocol port)) (sym (found_owner protocol port r))
  where
    step : (b : Bool) → cond b (end_held Rests m (held_until m t protocol port) (owner_in r port)) (end_of old protocol port)
        ≡ option_or (option_map (λ (o : Owner). end_at (held_until m t protocol port) o) (cond b (Some (owner_in r port)) None)) (end_of old protocol port)
    step true = refl
    step false = refl
