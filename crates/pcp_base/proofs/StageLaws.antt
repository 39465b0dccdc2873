-- Leases that go at different moments leave the same ends in two stages as in one.
use Rattle.std.specs.Prelude.{◌≡◌, refl, ℕ, ◌<◌, ◌≤◌, ◌⊎◌, nat_lt, not, Bool, true, false, List, ◌++◌, map, flat_map, filter}
use Rattle.std.specs.List.{AllByRecursion}
use Rattle.std.proofs.Common.{inl, inr, sym, ap, ◌∙◌, subst, arith}
use Rattle.std.proofs.lemmas.Bool.{not-true, not_from_false, ltb-true, ltb-false, lt-ltb, le-ltb}
use Rattle.pcp_base.specs.declared.leases.Protocol.{Protocol}
use Rattle.pcp_base.specs.declared.leases.MapLease.{MapLease}
use Rattle.pcp_base.specs.declared.leases.PeerLease.{PeerLease}
use Rattle.pcp_base.specs.declared.leases.Owner.{Owner}
use Rattle.pcp_base.specs.declared.leases.End.{End}
use Rattle.pcp_base.specs.Protocols.{protocol_number}
use Rattle.pcp_base.specs.Tables.{Table, live, dead}
use Rattle.pcp_base.specs.Owners.{map_owners, peer_owner, owners, is_owned}
use Rattle.pcp_base.specs.States.{State}
use Rattle.pcp_base.specs.Ends.{end_at, ends_at_expiry, is_owned_by, with_left, ends_by}
use Rattle.pcp_base.specs.Sound.{SoundState}
use Rattle.pcp_base.proofs.Members.{IsIn, All-weaker, All-kept, IsIn-filter, filter-IsIn, IsIn-append, IsIn-left, IsIn-right, IsIn-map, map-IsIn, IsIn-flat_map, flat_map-IsIn}
use Rattle.pcp_base.proofs.TableLemmas.{owners-fewer, OneOwner-fewer}
use Rattle.pcp_base.proofs.EndOrder.{SamePort, SamePort-sym, with_ends-all, with_ends-ordered}
use Rattle.pcp_base.proofs.EndLemmas.{IsLeftBy, left-by_expiry, left-owned, expired-by, owned-some, some-owned, unowned-fewer, owners-live, owners-dead, owner-protocol}
use Rattle.pcp_base.proofs.RestLaws.{owned-same, end-same, left-one, InOrder-same, IsLatestLeft, AreLeft, with_left-parts, with_left-old, with_left-new}

pub two_ways : (b : Bool) → (b ≡ true) ⊎ (b ≡ false)
two_ways true = inl refl
two_ways false = inr refl

pub unlike : (b : Bool) → b ≡ true → b ≡ false → ⊥
unlike b h k = cc

-- the ends that leases of t left, beside ends of ports that it doesn't own, are of ports that fewer leases don't own
pub with_left-unowned : (t now : Table) (left ends : List End) → ((o : Owner) → IsIn o (owners now) → IsIn o (owners t)) →
    AllByRecursion (λ e. is_owned_by (owners t) e ≡ false) ends → AllByRecursion (λ e. is_owned_by (owners now) e ≡ false) (with_left now left ends)
with_left-unowned t now left ends fewer h =
    with_ends-all (λ e. is_owned_by (owners now) e ≡ false) (filter (λ e. not (is_owned_by (owners now) e)) left) ends
    (All-weaker (λ e. not (is_owned_by (owners now) e) ≡ true) (λ e. is_owned_by (owners now) e ≡ false) (λ e k. not-true _ k)
    (filter (λ e. not (is_owned_by (owners now) e)) left) (All-kept (λ e. not (is_owned_by (owners now) e)) left))
    (All-weaker (λ e. is_owned_by (owners t) e ≡ false) (λ e. is_owned_by (owners now) e ≡ false)
    (λ e u. unowned-fewer e.endpoint.protocol e.external (owners t) (owners now) fewer u) ends h)

-- First leases leave t, so that u stays; then leases leave u, so that v stays.
pub record AreStages (t u v : Table) (sooner later ends : List End) : Type 0 where
  pub first : AreLeft t sooner ends
  pub u_fewer : (o : Owner) → IsIn o (owners u) → IsIn o (owners t)
  pub v_fewer : (o : Owner) → IsIn o (owners v) → IsIn o (owners u)
  pub by_lease : (e : End) → IsIn e later → IsLeftBy u e
  -- each port that is owned no more has an end
  pub all : (e : End) → is_owned_by (owners u) e ≡ true → is_owned_by (owners v) e ≡ false → (f : End) × IsIn f later × SamePort e f
  pub in_order : (e f : End) → IsIn e sooner → IsIn f later → e.end ≤ f.end

left_by_more : (t u : Table) (e : End) → ((o : Owner) → IsIn o (owners u) → IsIn o (owners t)) → IsLeftBy u e → IsLeftBy t e
left_by_more t u e fewer h = record { owner = h.owner; there = fewer h.owner h.there; same = h.same }

both_are_left : (t u v : Table) (sooner later ends : List End) → AreStages t u v sooner later ends → AreLeft t (sooner ++ later) ends
both_are_left t u v sooner later ends h = record {
  one = h.first.one;
  by_lease = λ e there. elim (IsIn-append sooner later e there) [
    | inl a ↦ h.first.by_lease e a
    | inr b ↦ left_by_more t u e h.u_fewer (h.by_lease e b)
  ];
  ordered = h.first.ordered;
  unowned = h.first.unowned;
}

later_are_left : (t u v : Table) (sooner later ends : List End) → AreStages t u v sooner later ends → AreLeft u later (with_left u sooner ends)
later_are_left t u v sooner later ends h = record {
  one = OneOwner-fewer (owners t) (owners u) h.u_fewer h.first.one;
  by_lease = h.by_lease;
  ordered = with_ends-ordered (filter (λ e. not (is_owned_by (owners u) e)) sooner) ends h.first.ordered;
  unowned = with_left-unowned t u sooner ends h.u_fewer h.first.unowned;
}

at_once : (t u v : Table) (sooner later ends : List End) → AreStages t u v sooner later ends → (e : End) → IsIn e (with_left v (sooner ++ later) ends) → IsIn e (with_left v later (with_left u sooner ends))
at_once t u v sooner later ends h e there =
    let second = later_are_left t u v sooner later ends h in
    let of_later : IsIn e later → IsLatestLeft v (sooner ++ later) e → IsIn e (with_left v later (with_left u sooner ends)) =
    λ k is. with_left-new u v later (with_left u sooner ends) e second
    (record { there = k; unowned = is.unowned; latest = λ f l same. is.latest f (IsIn-right sooner later f l) same }) in
    elim (with_left-parts t v (sooner ++ later) ends e (both_are_left t u v sooner later ends h) there) [
      | inl old ↦ with_left-old u v later (with_left u sooner ends) e second (with_left-old t u sooner ends e h.first old)
      | inr is ↦ elim (IsIn-append sooner later e is.there) [
        | inr k ↦ of_later k is
        | inl k ↦ elim (two_ways (is_owned_by (owners u) e)) [
          | inr free ↦ with_left-old u v later (with_left u sooner ends) e second
              (with_left-new t u sooner ends e h.first (record { there = k; unowned = free; latest = λ f l same. is.latest f (IsIn-left sooner later f l) same }))
          | inl owned ↦ (let g = h.all e owned is.unowned in
              let low = is.latest g.0 (IsIn-right sooner later g.0 g.1) (SamePort-sym e g.0 g.2) in
              let high = h.in_order e g.0 k g.1 in
              let same : g.0 ≡ e = end-same g.0 e
              (left-one t g.0 e h.first.one (left_by_more t u g.0 h.u_fewer (h.by_lease g.0 g.1)) (h.first.by_lease e k) (SamePort-sym e g.0 g.2)) (sym g.2.external) (omega arith) in
              of_later (subst (λ (x : End). IsIn x later) same g.1) is)
        ]
      ]
    ]

one_by_one : (t u v : Table) (sooner later ends : List End) → AreStages t u v sooner later ends → (e : End) → IsIn e (with_left v later (with_left u sooner ends)) → IsIn e (with_left v (sooner ++ later) ends)
one_by_one t u v sooner later ends h e there =
    let both = both_are_left t u v sooner later ends h in
    elim (with_left-parts u v later (with_left u sooner ends) e (later_are_left t u v sooner later ends h) there) [
      | inl before ↦ elim (with_left-parts t u sooner ends e h.first before) [
        | inl old ↦ with_left-old t v (sooner ++ later) ends e both old
        | inr is ↦ with_left-new t v (sooner ++ later) ends e both (record {
          there = IsIn-left sooner later e is.there;
          unowned = unowned-fewer e.endpoint.protocol e.external (owners u) (owners v) h.v_fewer is.unowned;
          latest = λ f k same. elim (IsIn-append sooner later f k) [
            | inl a ↦ is.latest f a same
            | inr b ↦ absurd (unlike (is_owned_by (owners u) e) (sym (owned-same (owners u) f e same) ∙ left-owned u f (h.by_lease f b)) is.unowned)
          ];
        })
      ]
      | inr is ↦ with_left-new t v (sooner ++ later) ends e both (record {
        there = IsIn-right sooner later e is.there;
        unowned = is.unowned;
        latest = λ f k same. elim (IsIn-append sooner later f k) [
          | inl a ↦ h.in_order f e a is.there
          | inr b ↦ is.latest f b same
        ];
      })
    ]

-- in one stage as in two
pub two_stages : (t u v : Table) (sooner later ends : List End) → AreStages t u v sooner later ends → with_left v (sooner ++ later) ends ≡ with_left v later (with_left u sooner ends)
two_stages t u v sooner later ends h =
    InOrder-same (with_left v (sooner ++ later) ends) (with_left v later (with_left u sooner ends))
    (with_ends-ordered (filter (λ e. not (is_owned_by (owners v) e)) (sooner ++ later)) ends h.first.ordered)
    (with_ends-ordered (filter (λ e. not (is_owned_by (owners v) e)) later) (with_left u sooner ends) (later_are_left t u v sooner later ends h).ordered)
    (at_once t u v sooner later ends h) (one_by_one t u v sooner later ends h)

-- the same ends in another order
pub with_left-same : (t now : Table) (left others ends : List End) → AreLeft t left ends → AreLeft t others ends →
    ((e : End) → IsIn e left → IsIn e others) → ((e : End) → IsIn e others → IsIn e left) → with_left now left ends ≡ with_left now others ends
with_left-same t now left others ends h k f g =
    InOrder-same (with_left now left ends) (with_left now others ends)
    (with_ends-ordered (filter (λ e. not (is_owned_by (owners now) e)) left) ends h.ordered)
    (with_ends-ordered (filter (λ e. not (is_owned_by (owners now) e)) others) ends k.ordered)
    (λ e there. moved left others h k f g e (with_left-parts t now left ends e h there))
    (λ e there. moved others left k h g f e (with_left-parts t now others ends e k there))
  where
    moved : (xs ys : List End) → AreLeft t xs ends → AreLeft t ys ends → ((e : End) → IsIn e xs → IsIn e ys) → ((e : End) → IsIn e ys → IsIn e xs) → (e : End) →
        IsIn e ends ⊎ IsLatestLeft now xs e → IsIn e (with_left now ys ends)
    moved xs ys h k f g e (inl old) = with_left-old t now ys ends e k old
    moved xs ys h k f g e (inr is) = with_left-new t now ys ends e k (record { there = f e is.there; unowned = is.unowned; latest = λ x there same. is.latest x (g x there) same })

-- ---- leases that expire

-- which lease left an end: one of the MAP leases, or one of the PEER leases
abbrev pub FromMap : Table → End → Type 0
FromMap t e = (l : MapLease) × IsIn l t.maps × IsIn e (map (end_at l.expiry) (map_owners l))

abbrev pub FromPeer : Table → End → Type 0
FromPeer t e = (l : PeerLease) × IsIn l t.peers × (end_at l.expiry (peer_owner l) ≡ e)

abbrev pub map_ends : MapLease → List End
map_ends l = map (end_at l.expiry) (map_owners l)

abbrev pub peer_end : PeerLease → End
peer_end l = end_at l.expiry (peer_owner l)

pub expiry-parts : (t : Table) (e : End) → IsIn e (ends_at_expiry t) → FromMap t e ⊎ FromPeer t e
expiry-parts t e h =
    elim (IsIn-append (flat_map map_ends t.maps) (map peer_end t.peers) e h) [
      | inl a ↦ inl (IsIn-flat_map map_ends t.maps e a)
      | inr b ↦ inr (IsIn-map peer_end t.peers e b)
    ]

pub from_map : (t : Table) (e : End) → FromMap t e → IsIn e (ends_at_expiry t)
from_map t e h = IsIn-left (flat_map map_ends t.maps) (map peer_end t.peers) e (flat_map-IsIn map_ends t.maps h.0 e h.1 h.2)

pub from_peer : (t : Table) (e : End) → FromPeer t e → IsIn e (ends_at_expiry t)
from_peer t e h = IsIn-right (flat_map map_ends t.maps) (map peer_end t.peers) e (subst (λ (x : End). IsIn x (map peer_end t.peers)) h.2 (map-IsIn peer_end t.peers h.0 h.1))

map_ends-end : (l : MapLease) (e : End) → IsIn e (map_ends l) → e.end ≡ l.expiry
map_ends-end l e h = let k = IsIn-map (end_at l.expiry) (map_owners l) e h in ap (λ (x : End). x.end) (sym k.2)

-- a lease that isn't live
is_dead : {X : Type 0} (expiry : X → ℕ) (m : ℕ) (xs : List X) (l : X) → IsIn l (filter (λ l. not (nat_lt m (expiry l))) xs) → IsIn l xs × (expiry l ≤ m)
is_dead expiry m xs l h =
    let k = IsIn-filter (λ l. not (nat_lt m (expiry l))) xs l h in (k.0, ltb-false m (expiry l) (not-true (nat_lt m (expiry l)) k.1))

dead_is : {X : Type 0} (expiry : X → ℕ) (m : ℕ) (xs : List X) (l : X) → IsIn l xs → expiry l ≤ m → IsIn l (filter (λ l. not (nat_lt m (expiry l))) xs)
dead_is expiry m xs l h le = filter-IsIn (λ l. not (nat_lt m (expiry l))) xs l h (not_from_false (nat_lt m (expiry l)) (le-ltb m (expiry l) le))

is_live : {X : Type 0} (expiry : X → ℕ) (m : ℕ) (xs : List X) (l : X) → IsIn l (filter (λ l. nat_lt m (expiry l)) xs) → IsIn l xs × (m < expiry l)
is_live expiry m xs l h = let k = IsIn-filter (λ l. nat_lt m (expiry l)) xs l h in (k.0, ltb-true m (expiry l) k.1)

live_is : {X : Type 0} (expiry : X → ℕ) (m : ℕ) (xs : List X) (l : X) → IsIn l xs → m < expiry l → IsIn l (filter (λ l. nat_lt m (expiry l)) xs)
live_is expiry m xs l h lt = filter-IsIn (λ l. nat_lt m (expiry l)) xs l h (lt-ltb m (expiry l) lt)

by_then : (n m : ℕ) → (m < n) ⊎ (n ≤ m)
by_then n m = elim (two_ways (nat_lt m n)) [ inl a ↦ inl (ltb-true m n a) | inr b ↦ inr (ltb-false m n b) ]

-- a lease that isn't live at n was live at m or not
expired-split : (t : Table) (m n : ℕ) (e : End) → IsIn e (ends_at_expiry (dead t n)) → IsIn e (ends_at_expiry (dead t m) ++ ends_at_expiry (dead (live t m) n))
expired-split t m n e h =
    elim (expiry-parts (dead t n) e h) [
      | inl a ↦ (let k = is_dead (λ (l : MapLease). l.expiry) n t.maps a.0 a.1 in
          elim (by_then a.0.expiry m) [
            | inr dead_then ↦ IsIn-left (ends_at_expiry (dead t m)) (ends_at_expiry (dead (live t m) n)) e (from_map (dead t m) e (a.0, dead_is (λ (l : MapLease). l.expiry) m t.maps a.0 k.0 dead_then, a.2))
            | inl live_then ↦ IsIn-right (ends_at_expiry (dead t m)) (ends_at_expiry (dead (live t m) n)) e (from_map (dead (live t m) n) e
                (a.0, dead_is (λ (l : MapLease). l.expiry) n (live t m).maps a.0 (live_is (λ (l : MapLease). l.expiry) m t.maps a.0 k.0 live_then) k.1, a.2))
          ])
      | inr b ↦ (let k = is_dead (λ (l : PeerLease). l.expiry) n t.peers b.0 b.1 in
          elim (by_then b.0.expiry m) [
            | inr dead_then ↦ IsIn-left (ends_at_expiry (dead t m)) (ends_at_expiry (dead (live t m) n)) e (from_peer (dead t m) e (b.0, dead_is (λ (l : PeerLease). l.expiry) m t.peers b.0 k.0 dead_then, b.2))
            | inl live_then ↦ IsIn-right (ends_at_expiry (dead t m)) (ends_at_expiry (dead (live t m) n)) e (from_peer (dead (live t m) n) e
                (b.0, dead_is (λ (l : PeerLease). l.expiry) n (live t m).peers b.0 (live_is (λ (l : PeerLease). l.expiry) m t.peers b.0 k.0 live_then) k.1, b.2))
          ])
    ]

expired-joined : (t : Table) (m n : ℕ) (e : End) → m ≤ n → IsIn e (ends_at_expiry (dead t m) ++ ends_at_expiry (dead (live t m) n)) → IsIn e (ends_at_expiry (dead t n))
expired-joined t m n e le h =
    elim (IsIn-append (ends_at_expiry (dead t m)) (ends_at_expiry (dead (live t m) n)) e h) [
      | inl sooner ↦ elim (expiry-parts (dead t m) e sooner) [
        | inl a ↦ (let k = is_dead (λ (l : MapLease). l.expiry) m t.maps a.0 a.1 in from_map (dead t n) e (a.0, dead_is (λ (l : MapLease). l.expiry) n t.maps a.0 k.0 (omega (arith, k.1)), a.2))
        | inr b ↦ (let k = is_dead (λ (l : PeerLease). l.expiry) m t.peers b.0 b.1 in from_peer (dead t n) e (b.0, dead_is (λ (l : PeerLease). l.expiry) n t.peers b.0 k.0 (omega (arith, k.1)), b.2))
      ]
      | inr later ↦ elim (expiry-parts (dead (live t m) n) e later) [
        | inl a ↦ (let k = is_dead (λ (l : MapLease). l.expiry) n (live t m).maps a.0 a.1 in
            from_map (dead t n) e (a.0, dead_is (λ (l : MapLease). l.expiry) n t.maps a.0 (is_live (λ (l : MapLease). l.expiry) m t.maps a.0 k.0).0 k.1, a.2))
        | inr b ↦ (let k = is_dead (λ (l : PeerLease). l.expiry) n (live t m).peers b.0 b.1 in
            from_peer (dead t n) e (b.0, dead_is (λ (l : PeerLease). l.expiry) n t.peers b.0 (is_live (λ (l : PeerLease). l.expiry) m t.peers b.0 k.0).0 k.1, b.2))
      ]
    ]

-- what was live at m ended after m
expired-after : (t : Table) (m n : ℕ) (e : End) → IsIn e (ends_at_expiry (dead (live t m) n)) → m ≤ e.end
expired-after t m n e h =
    elim (expiry-parts (dead (live t m) n) e h) [
      | inl a ↦ (let k = is_dead (λ (l : MapLease). l.expiry) n (live t m).maps a.0 a.1 in
          let then_ = is_live (λ (l : MapLease). l.expiry) m t.maps a.0 k.0 in omega (arith, then_.1, map_ends-end a.0 e a.2))
      | inr b ↦ (let k = is_dead (λ (l : PeerLease). l.expiry) n (live t m).peers b.0 b.1 in
          let then_ = is_live (λ (l : PeerLease). l.expiry) m t.peers b.0 k.0 in
          let same : b.0.expiry ≡ e.end = ap (λ (x : End). x.end) b.2 in omega (arith, then_.1))
    ]

owner-live_or_left : (t : Table) (n : ℕ) (o : Owner) → IsIn o (owners t) → IsIn o (owners (live t n)) ⊎ ((f : End) × IsIn f (ends_at_expiry (dead t n)) × (end_at f.end o ≡ f))
owner-live_or_left t n o h =
    elim (IsIn-append (flat_map map_owners t.maps) (map peer_owner t.peers) o h) [
      | inl a ↦ (let r = IsIn-flat_map map_owners t.maps o a in
          elim (by_then r.0.expiry n) [
            | inl live_then ↦ inl (IsIn-left (flat_map map_owners (live t n).maps) (map peer_owner (live t n).peers) o
                (flat_map-IsIn map_owners (live t n).maps r.0 o (live_is (λ (l : MapLease). l.expiry) n t.maps r.0 r.1 live_then) r.2))
            | inr dead_then ↦ inr (
              end_at r.0.expiry o,
              from_map (dead t n) (end_at r.0.expiry o)
                  (r.0, dead_is (λ (l : MapLease). l.expiry) n t.maps r.0 r.1 dead_then, map-IsIn (end_at r.0.expiry) (map_owners r.0) o r.2),
              refl,
            )
          ])
      | inr b ↦ (let r = IsIn-map peer_owner t.peers o b in
          elim (by_then r.0.expiry n) [
            | inl live_then ↦ inl (IsIn-right (flat_map map_owners (live t n).maps) (map peer_owner (live t n).peers) o
                (subst (λ (x : Owner). IsIn x (map peer_owner (live t n).peers)) r.2 (map-IsIn peer_owner (live t n).peers r.0 (live_is (λ (l : PeerLease). l.expiry) n t.peers r.0 r.1 live_then))))
            | inr dead_then ↦ inr (
              end_at r.0.expiry o,
              from_peer (dead t n) (end_at r.0.expiry o)
                  (r.0, dead_is (λ (l : PeerLease). l.expiry) n t.peers r.0 r.1 dead_then, ap (end_at r.0.expiry) r.2),
              refl,
            )
          ])
    ]

owners-live_later : (t : Table) (m n : ℕ) (o : Owner) → m ≤ n → IsIn o (owners (live t n)) → IsIn o (owners (live t m))
owners-live_later t m n o le h =
    owners-fewer (live t m).maps (live t n).maps (live t m).peers (live t n).peers
    (λ l a. let k = is_live (λ (l : MapLease). l.expiry) n t.maps l a in live_is (λ (l : MapLease). l.expiry) m t.maps l k.0 (omega (arith, k.1)))
    (λ l a. let k = is_live (λ (l : PeerLease). l.expiry) n t.peers l a in live_is (λ (l : PeerLease). l.expiry) m t.peers l k.0 (omega (arith, k.1))) o h

owners-live_again : (t : Table) (m n : ℕ) (o : Owner) → IsIn o (owners (live (live t m) n)) → IsIn o (owners (live t n))
owners-live_again t m n o h =
    owners-fewer (live t n).maps (live (live t m) n).maps (live t n).peers (live (live t m) n).peers
    (λ l a. let k = is_live (λ (l : MapLease). l.expiry) n (live t m).maps l a in live_is (λ (l : MapLease). l.expiry) n t.maps l (is_live (λ (l : MapLease). l.expiry) m t.maps l k.0).0 k.1)
    (λ l a. let k = is_live (λ (l : PeerLease). l.expiry) n (live t m).peers l a in live_is (λ (l : PeerLease). l.expiry) n t.peers l (is_live (λ (l : PeerLease). l.expiry) m t.peers l k.0).0 k.1) o h

-- a port that was owned at m and is owned no more at n has an end
no_more_owned : (t : Table) (m n : ℕ) (e : End) → is_owned_by (owners (live t m)) e ≡ true → is_owned_by (owners (live t n)) e ≡ false →
    (f : End) × IsIn f (ends_at_expiry (dead (live t m) n)) × SamePort e f
no_more_owned t m n e owned free =
    let o = owned-some e.endpoint.protocol e.external (owners (live t m)) owned in
    elim (owner-live_or_left (live t m) n o.0 o.1) [
      | inr left ↦ (
        left.0,
        left.1,
        record {
          protocol = ap protocol_number (sym o.2 ∙ owner-protocol (live t m) o.0 o.1 ∙ ap (λ (x : End). x.endpoint.protocol) left.2);
          external = sym o.3 ∙ ap (λ (x : End). x.external) left.2;
        },
      )
      | inl still ↦ absurd (unlike (is_owned_by (owners (live t n)) e)
          (subst (λ (p : Protocol). is_owned p e.external (owners (live t n)) ≡ true) o.2
          (subst (λ (k : ℕ). is_owned o.0.protocol k (owners (live t n)) ≡ true) o.3 (some-owned (owners (live t n)) o.0 (owners-live_again t m n o.0 still)))) free)
    ]

pub expired_left : (t : Table) (m : ℕ) (e : End) → IsIn e (ends_at_expiry (dead t m)) → IsLeftBy t e
expired_left t m e h = left_by_more t (dead t m) e (owners-dead t m) (left-by_expiry (dead t m) e h)

expiry_stages : (s : State) (m n : ℕ) → SoundState s → m ≤ n →
    AreStages s.table (live s.table m) (live s.table n) (ends_at_expiry (dead s.table m)) (ends_at_expiry (dead (live s.table m) n)) s.ends
expiry_stages s m n h le = record {
  first = record { one = h.table.one_owner; by_lease = expired_left s.table m; ordered = h.ordered; unowned = h.unowned };
  u_fewer = owners-live s.table m;
  v_fewer = λ o k. owners-live_later s.table m n o le k;
  by_lease = expired_left (live s.table m) n;
  all = no_more_owned s.table m n;
  in_order = λ e f a b. omega (arith, expired-by s.table m e a, expired-after s.table m n f b);
}

-- The ends at n are those at an earlier m, and those of leases that were live at m and aren't at n.
pub ends_by-later : (s : State) (m n : ℕ) → SoundState s → m ≤ n →
    ends_by s n ≡ with_left (live s.table n) (ends_at_expiry (dead (live s.table m) n)) (ends_by s m)
ends_by-later s m n h le =
    let stages = expiry_stages s m n h le in
    with_left-same s.table (live s.table n) (ends_at_expiry (dead s.table n)) (ends_at_expiry (dead s.table m) ++ ends_at_expiry (dead (live s.table m) n)) s.ends
    (record { one = h.table.one_owner; by_lease = expired_left s.table n; ordered = h.ordered; unowned = h.unowned })
    (both_are_left s.table (live s.table m) (live s.table n) (ends_at_expiry (dead s.table m)) (ends_at_expiry (dead (live s.table m) n)) s.ends stages)
    (expired-split s.table m n) (λ e k. expired-joined s.table m n e le k)
    ∙ two_stages s.table (live s.table m) (live s.table n) (ends_at_expiry (dead s.table m)) (ends_at_expiry (dead (live s.table m) n)) s.ends stages
