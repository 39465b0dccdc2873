-- From one record to the next a port that a lease left stays its endpoint's.
use Rattle.std.specs.Prelude.{◌⊎◌, nat_le, Contains}
use Rattle.std.specs.List.{AllByRecursion, list_any}
use Rattle.std.proofs.Common.{◌≡◌, ◌∙◌, ℕ, ◌+◌, ◌<◌, ◌≤◌, ◌==◌, ◌&&◌, nat_lt, Bool, true, false, List, [], ◌∷◌, ◌++◌, map, filter, not, Option, Some, None, refl, ap, sym, subst, inl, inr, arith, append_assoc}
use Rattle.std.proofs.lemmas.List.{append-nil}
use Rattle.std.proofs.lemmas.Bool.{and_from, eq-eqb, le-leb, lt-ltb, ltb-false, ltb-true}
use Rattle.pcp_base.specs.declared.datagrams.Entry.{Entry}
use Rattle.pcp_base.specs.declared.leases.TheConstants.{REST_SECONDS}
use Rattle.pcp_base.specs.declared.leases.Endpoint.{Endpoint}
use Rattle.pcp_base.specs.declared.leases.End.{End}
use Rattle.pcp_base.specs.declared.leases.MapLease.{MapLease}
use Rattle.pcp_base.specs.declared.leases.Owner.{Owner}
use Rattle.pcp_base.specs.declared.leases.PeerLease.{PeerLease}
use Rattle.pcp_base.specs.declared.records.Record.{Record}
use Rattle.pcp_base.specs.declared.records.Change.{Change}
use Rattle.pcp_base.specs.declared.records.Change.TheVariants.{Start, Map, Peer, DropMap, DropPeer, Lose, Mark, Rest, Renumber}
use Rattle.pcp_base.specs.Protocols.{protocol_number}
use Rattle.pcp_base.specs.Tables.{Table, live, dead, first_endpoint, is_map_of, is_peer_of, same_endpoint}
use Rattle.pcp_base.specs.Owners.{map_owners, peer_owner, owners, is_owned}
use Rattle.pcp_base.specs.Ends.{end_at, ends_at_expiry, ends_by, is_end_of, is_owned_by, is_recent, resting, rests_for, with_left}
use Rattle.pcp_base.specs.Apply.{apply, empties, table_changed, table_2, deleted, ends_changed, ends_3}
use Rattle.pcp_base.specs.Fits.{Fits, IsRested}
use Rattle.pcp_base.specs.Laws.{EndsAtAMoment, RecordsComeLast}
use Rattle.pcp_base.specs.Reached.{IsReached}
use Rattle.pcp_base.specs.Records.{IsTermAt}
use Rattle.pcp_base.specs.Sound.{SoundState}
use Rattle.pcp_base.specs.States.{State}
use Rattle.pcp_base.proofs.Members.{IsIn, All-IsIn, All-filter, All-from_IsIn, All-weaker, Contains-from_IsIn, IsIn-from_Contains, IsIn-map, filter-IsIn, filter-all, map-IsIn, some-any}
use Rattle.pcp_base.proofs.Same.{same_endpoint-Decides}
use Rattle.pcp_base.proofs.ApplyLaws.{IsReached-apply}
use Rattle.pcp_base.proofs.EndOrder.{HasAsLate, InOrder, InOrder-one, SamePort-refl, with_end-all, with_end-keeps, with_ends-all, with_ends-has, with_ends-keeps, with_ends-ordered}
use Rattle.pcp_base.proofs.EndLemmas.{left-by_expiry, owner-protocol, owners-dead, owners-deleted, owned-some, owners-live, some-owned, unowned-fewer}
use Rattle.pcp_base.proofs.RestLaws.{protocol_number-same}
use Rattle.pcp_base.proofs.TableLemmas.{Sound-live}
use Rattle.lease_core.specs.Laws.{DecisionsChangeLeases, DecisionsFit, ChangesLease}
use Rattle.lease_store.specs.LeaseTerms.{terms_of}
use Rattle.lease_histories.specs.DatagramAsks.{DatagramAsksAreWellFormed}
use Rattle.lease_histories.specs.Entries.{Served, OfRequest, OfServer, begins_anew, decided_on, entry_kind}
use Rattle.lease_histories.specs.Legal.{IsLegal, IsNextEntry, IsOfServer, IsOfTable, IsOpening, state_after}
use Rattle.lease_histories.specs.Laws.{HasEndSince, HasNoOther, OwnsUpTo, PortsRest, PortsStay, lasting_to}
use Rattle.lease_histories.specs.PlainHouses.{with_kept}
use Rattle.lease_histories.proofs.Growing.{if-some, prefix-legal, state-more}
use Rattle.lease_histories.proofs.EntryKinds.{IsWell, KindOf, ServerDeed, begins, is_fault, is_request, is_server, kind_of_entry, may-decide, of-kind, renumber-fits, renumbers, server_deed, well-after, well-step}
use Rattle.lease_histories.proofs.Rests.{Held, HeldAt, by-map, by-peer, deleting, end-owner, ended, ended_then, held-at, lasting-fewer, over, owned-is, owned_now, owned_to, owner-after, owner-same, put-new, stays-or-deleted}

-- ---- the table after a record

abbrev table_of : List MapLease → List PeerLease → Table
table_of maps peers = record { maps = maps; peers = peers }

-- leases that expire later last to t
lasting-all : (t : Table) (m : ℕ) → AllByRecursion (λ l. m ≤ l.expiry) t.maps → AllByRecursion (λ l. m ≤ l.expiry) t.peers → lasting_to t m ≡ t
lasting-all t m maps peers =
    let a = filter-all (λ l. nat_le m l.expiry) t.maps (All-weaker (λ l. m ≤ l.expiry) (λ l. nat_le m l.expiry ≡ true) (λ l h. le-leb m l.expiry h) t.maps maps) in
    let b = filter-all (λ l. nat_le m l.expiry) t.peers (All-weaker (λ l. m ≤ l.expiry) (λ l. nat_le m l.expiry ≡ true) (λ l h. le-leb m l.expiry h) t.peers peers) in
    ap (λ xs. table_of xs (filter (λ l. nat_le m l.expiry) t.peers)) a ∙ ap (table_of t.maps) b

-- what is owned after a record is owned up to t
owned-after : (s : State) (r : Record) (t : ℕ) (o : Owner) → IsReached (apply s r) → t ≤ r.moment → IsIn o (owners (table_2 s r)) → Held (apply s r) t o
owned-after s r t o reached late h =
    let T = table_2 s r in
    let same = lasting-all T t
    (All-weaker (λ l. IsTermAt r.moment l.granted l.expiry) (λ l. t ≤ l.expiry) (λ l k. let lives = k.live in omega (arith, late, lives)) T.maps reached.maps)
    (All-weaker (λ l. IsTermAt r.moment l.granted l.expiry) (λ l. t ≤ l.expiry) (λ l k. let lives = k.live in omega (arith, late, lives)) T.peers reached.peers) in
    owned_to (subst (λ (u : Table). IsIn o (owners u)) (sym same) h)

-- ---- the ends after a record

recent-kept : (s : State) (r : Record) (z : End) → IsIn z (ends_3 s r) → r.moment < z.end + REST_SECONDS → IsIn z (apply s r).ends
recent-kept s r z there soon = filter-IsIn (is_recent r.moment) (ends_3 s r) z there (lt-ltb r.moment (z.end + REST_SECONDS) soon)

-- a port of a deleted lease
deleted-ends : EndsAtAMoment → RecordsComeLast → (s : State) (r : Record) (t : ℕ) (o : Owner) → SoundState s → Fits s r → empties r.change ≡ false →
    o.endpoint.protocol ≡ o.protocol → t ≤ r.moment → IsIn o (owners (live s.table r.moment)) → IsIn o (owners (deleted r.change (live s.table r.moment))) →
    is_owned o.protocol o.external (owners (table_2 s r)) ≡ false → Held (apply s r) t o
deleted-ends members last s r t o sound fits keeps own late h gone un =
    let m = r.moment in
    let T = table_2 s r in
    let L = live s.table m in
    let left = map (end_at m) (owners (deleted r.change L)) in
    let old = ends_changed r.change (ends_by s m) in
    let stage : ends_3 s r ≡ with_left T left old = last s r sound fits keeps in
    let y = end_at m o in
    let free : is_owned_by (owners T) y ≡ false = ap (λ p. is_owned p o.external (owners T)) own ∙ un in
    let remaining = filter (λ e. not (is_owned_by (owners T) e)) left in
    let z = with_ends-has remaining old y (filter-IsIn (λ e. not (is_owned_by (owners T) e)) left y (map-IsIn (end_at m) (owners (deleted r.change L)) o gone) (ap not free)) in
    let protocol : z.end.endpoint.protocol ≡ o.protocol = sym (protocol_number-same o.endpoint.protocol z.end.endpoint.protocol z.port.protocol) ∙ own in
    let external : z.end.external ≡ o.external = sym z.port.external in
    let endpoint : z.end.endpoint ≡ o.endpoint =
    All-IsIn (λ e. e.endpoint.protocol ≡ o.protocol → e.external ≡ o.external → e.endpoint ≡ o.endpoint) (with_left T left old) z.end
    (with_ends-all (λ e. e.endpoint.protocol ≡ o.protocol → e.external ≡ o.external → e.endpoint ≡ o.endpoint) remaining old
    (All-filter (λ e. e.endpoint.protocol ≡ o.protocol → e.external ≡ o.external → e.endpoint ≡ o.endpoint) (λ e. not (is_owned_by (owners T) e)) left
    (All-from_IsIn (λ e. e.endpoint.protocol ≡ o.protocol → e.external ≡ o.external → e.endpoint ≡ o.endpoint) left (λ e there protocol external. of-left e there protocol external)))
    (All-from_IsIn (λ e. e.endpoint.protocol ≡ o.protocol → e.external ≡ o.external → e.endpoint ≡ o.endpoint) old
    (λ e there protocol external. end-owner members s m o sound (owners-live s.table m o h) e
    (subst (λ xs. IsIn e xs) ((deleting r.change L o gone).ends (ends_by s m)) there) protocol external)))
    z.there protocol external in
    let as_late = z.as_late in
    ended un z.end (recent-kept s r z.end (subst (λ xs. IsIn z.end xs) (sym stage) z.there) (omega (arith, as_late))) endpoint external (omega (arith, late, as_late))
  where
    of-left : (e : End) → IsIn e (map (end_at r.moment) (owners (deleted r.change (live s.table r.moment)))) → e.endpoint.protocol ≡ o.protocol → e.external ≡ o.external → e.endpoint ≡ o.endpoint
    of-left e there protocol external =
        let L = live s.table r.moment in
        let k = IsIn-map (end_at r.moment) (owners (deleted r.change L)) e there in
        let q = k.0 in
        let in_live = owners-deleted L r.change q k.1 in
        let at : q.endpoint ≡ e.endpoint = ap (λ (x : End). x.endpoint) k.2 in
        let port : q.external ≡ e.external = ap (λ (x : End). x.external) k.2 in
        let own_protocol : q.protocol ≡ o.protocol = owner-protocol L q in_live ∙ ap (λ (x : Endpoint). x.protocol) at ∙ protocol in
        sym at ∙ (Sound-live s.table r.moment sound.table).one_owner q o (Contains-from_IsIn (owners L) q in_live) (Contains-from_IsIn (owners L) o h) own_protocol (port ∙ external)

-- the change leaves an end of a port that no lease of the table owns then
kept-end : (s : State) (m : ℕ) (change : Change) (x : End) → empties change ≡ false → IsIn x (ends_by s m) →
    is_owned_by (owners (table_changed change (live s.table m))) x ≡ false → HasAsLate (ends_changed change (ends_by s m)) x
kept-end s m (Map new) x keeps there un =
    record {
      end = x;
      there = filter-IsIn (λ e. not (is_owned_by (map_owners new) e)) (ends_by s m) x there
          (ap not (unowned-fewer x.endpoint.protocol x.external (owners (table_changed (Map new) (live s.table m))) (map_owners new)
          (λ o own. by-map (table_changed (Map new) (live s.table m)) o new (put-new (is_map_of (first_endpoint new)) new (live s.table m).maps) own) un));
      port = SamePort-refl x;
      as_late = omega arith;
    }
kept-end s m (Peer new) x keeps there un =
    record {
      end = x;
      there = filter-IsIn (λ e. not (is_owned_by (peer_owner new ∷ []) e)) (ends_by s m) x there
          (ap not (unowned-fewer x.endpoint.protocol x.external (owners (table_changed (Peer new) (live s.table m))) (peer_owner new ∷ [])
          (λ o own. elim own [
            | inl e ↦ by-peer (table_changed (Peer new) (live s.table m)) o new (put-new (is_peer_of new.endpoint new.remote new.remote_port) new (live s.table m).peers) e
            | inr k ↦ absurd k
          ]) un));
      port = SamePort-refl x;
      as_late = omega arith;
    }
kept-end s m (Rest e p t) x keeps there un = with_end-keeps (record { endpoint = e; external = p; end = t }) (ends_by s m) x there
kept-end s m (DropMap e) x keeps there un = record { end = x; there = there; port = SamePort-refl x; as_late = omega arith }
kept-end s m (DropPeer e a p) x keeps there un = record { end = x; there = there; port = SamePort-refl x; as_late = omega arith }
kept-end s m Mark x keeps there un = record { end = x; there = there; port = SamePort-refl x; as_late = omega arith }
kept-end s m (Renumber a) x keeps there un = record { end = x; there = there; port = SamePort-refl x; as_late = omega arith }
kept-end s m Start x keeps there un = absurd cc
kept-end s m Lose x keeps there un = absurd cc

-- an end of a port that is unused has none there
unused-end : EndsAtAMoment → (s : State) (m : ℕ) (e : Endpoint) (port : ℕ) (x : End) → SoundState s → is_owned e.protocol port (owners s.table) ≡ false →
    list_any (is_end_of e.protocol port) s.ends ≡ false → IsIn x (ends_by s m) → x.endpoint.protocol ≡ e.protocol → x.external ≡ port → ⊥
unused-end law s m e port x sound unowned endless there protocol external =
    elim ((law s m x sound).0 (Contains-from_IsIn (ends_by s m) x there)) [
      | inl old ↦ (let some = some-any (is_end_of e.protocol port) s.ends x (IsIn-from_Contains s.ends x old)
          (and_from _ _ (eq-eqb _ _ (ap protocol_number protocol)) (eq-eqb x.external port external)) in absurd cc)
      | inr new ↦ (let left = left-by_expiry (dead s.table m) x (IsIn-from_Contains (ends_at_expiry (dead s.table m)) x new.left) in
          let q = left.owner in
          let in_table = owners-dead s.table m q left.there in
          let own = some-owned (owners s.table) q in_table in
          let q_protocol : q.protocol ≡ e.protocol = owner-protocol s.table q in_table ∙ ap (λ (y : End). y.endpoint.protocol) left.same ∙ protocol in
          let q_external : q.external ≡ port = ap (λ (y : End). y.external) left.same ∙ external in
          let same : is_owned q.protocol q.external (owners s.table) ≡ is_owned e.protocol port (owners s.table) =
          ap (λ p. is_owned p q.external (owners s.table)) q_protocol ∙ ap (λ n. is_owned e.protocol n (owners s.table)) q_external in
          absurd cc)
    ]

-- what holds of each end, and of one of the port of x
abbrev AtPort : Owner → End → Type 0
AtPort o e = e.endpoint.protocol ≡ o.protocol → e.external ≡ o.external → e.endpoint ≡ o.endpoint

changed-all : EndsAtAMoment → (s : State) (m : ℕ) (change : Change) (o : Owner) (x : End) → SoundState s → IsRested s m change →
    IsIn x (ends_by s m) → x.endpoint ≡ o.endpoint → x.external ≡ o.external → o.endpoint.protocol ≡ o.protocol →
    AllByRecursion (AtPort o) (ends_by s m) → AllByRecursion (AtPort o) (ends_changed change (ends_by s m))
changed-all law s m (Map new) o x sound rested there endpoint external own all = All-filter (AtPort o) (λ e. not (is_owned_by (map_owners new) e)) (ends_by s m) all
changed-all law s m (Peer new) o x sound rested there endpoint external own all = All-filter (AtPort o) (λ e. not (is_owned_by (peer_owner new ∷ []) e)) (ends_by s m) all
changed-all law s m (Rest e p t) o x sound rested there endpoint external own all =
    with_end-all (AtPort o) (record { endpoint = e; external = p; end = t }) (ends_by s m)
    (λ protocol port. absurd (unused-end law s m e p x sound rested.unowned rested.endless there (ap (λ (y : Endpoint). y.protocol) endpoint ∙ own ∙ sym protocol) (external ∙ sym port))) all
changed-all law s m (DropMap e) o x sound rested there endpoint external own all = all
changed-all law s m (DropPeer e a p) o x sound rested there endpoint external own all = all
changed-all law s m Mark o x sound rested there endpoint external own all = all
changed-all law s m (Renumber a) o x sound rested there endpoint external own all = all
changed-all law s m Start o x sound rested there endpoint external own all = tt
changed-all law s m Lose o x sound rested there endpoint external own all = tt

-- a port that rested
rested-ends : EndsAtAMoment → RecordsComeLast → (s : State) (r : Record) (t : ℕ) (o : Owner) (x : End) → SoundState s → Fits s r → empties r.change ≡ false →
    o.endpoint.protocol ≡ o.protocol → r.moment < t + REST_SECONDS → is_owned o.protocol o.external (owners (live s.table r.moment)) ≡ false →
    IsIn x (ends_by s r.moment) → x.endpoint ≡ o.endpoint → x.external ≡ o.external → t ≤ x.end →
    is_owned o.protocol o.external (owners (table_2 s r)) ≡ false → Held (apply s r) t o
rested-ends members last s r t o x sound fits keeps own soon un there endpoint external late free =
    let m = r.moment in
    let T = table_2 s r in
    let L = live s.table m in
    let left = map (end_at m) (owners (deleted r.change L)) in
    let old = ends_changed r.change (ends_by s m) in
    let remaining = filter (λ e. not (is_owned_by (owners T) e)) left in
    let stage : ends_3 s r ≡ with_left T left old = last s r sound fits keeps in
    let x_protocol : x.endpoint.protocol ≡ o.protocol = ap (λ (y : Endpoint). y.protocol) endpoint ∙ own in
    let x_free : is_owned_by (owners T) x ≡ false = ap (λ p. is_owned p x.external (owners T)) x_protocol ∙ ap (λ n. is_owned o.protocol n (owners T)) external ∙ free in
    let k = kept-end s m r.change x keeps there x_free in
    let z = with_ends-keeps remaining old k.end k.there in
    let z_protocol : z.end.endpoint.protocol ≡ o.protocol =
    sym (protocol_number-same k.end.endpoint.protocol z.end.endpoint.protocol z.port.protocol) ∙ sym (protocol_number-same x.endpoint.protocol k.end.endpoint.protocol k.port.protocol) ∙ x_protocol in
    let z_external : z.end.external ≡ o.external = sym z.port.external ∙ sym k.port.external ∙ external in
    let ordered : InOrder (ends_by s m) = with_ends-ordered (filter (λ e. not (is_owned_by (owners L) e)) (ends_at_expiry (dead s.table m))) s.ends sound.ordered in
    let here : AllByRecursion (AtPort o) (ends_by s m) =
    All-from_IsIn (AtPort o) (ends_by s m) (λ e e_there protocol port.
    ap (λ (y : End). y.endpoint) (InOrder-one (ends_by s m) e x ordered e_there there
    (record { protocol = ap protocol_number (protocol ∙ sym x_protocol); external = port ∙ sym external })) ∙ endpoint) in
    let z_endpoint : z.end.endpoint ≡ o.endpoint =
    All-IsIn (AtPort o) (with_left T left old) z.end
    (with_ends-all (AtPort o) remaining old
    (All-filter (AtPort o) (λ e. not (is_owned_by (owners T) e)) left
    (All-from_IsIn (AtPort o) left (λ e e_there protocol port. absurd (of-left e e_there protocol port))))
    (changed-all members s m r.change o x sound fits.rested there endpoint external own here))
    z.there z_protocol z_external in
    let as_late = z.as_late in
    let first_late = k.as_late in
    ended free z.end (recent-kept s r z.end (subst (λ xs. IsIn z.end xs) (sym stage) z.there) (omega (arith, as_late, first_late, late, soon))) z_endpoint z_external
    (omega (arith, late, as_late, first_late))
  where
    of-left : (e : End) → IsIn e (map (end_at r.moment) (owners (deleted r.change (live s.table r.moment)))) → e.endpoint.protocol ≡ o.protocol → e.external ≡ o.external → ⊥
    of-left e e_there protocol port =
        let L = live s.table r.moment in
        let k = IsIn-map (end_at r.moment) (owners (deleted r.change L)) e e_there in
        let q = k.0 in
        let in_live = owners-deleted L r.change q k.1 in
        let some = some-owned (owners L) q in_live in
        let q_protocol : q.protocol ≡ o.protocol = owner-protocol L q in_live ∙ ap (λ (y : End). y.endpoint.protocol) k.2 ∙ protocol in
        let q_external : q.external ≡ o.external = ap (λ (y : End). y.external) k.2 ∙ port in
        let same : is_owned q.protocol q.external (owners L) ≡ is_owned o.protocol o.external (owners L) =
        ap (λ p. is_owned p q.external (owners L)) q_protocol ∙ ap (λ n. is_owned o.protocol n (owners L)) q_external in
        absurd cc

-- it rests for its endpoint
rests-still : (s : State) (m t : ℕ) (o : Owner) (x : End) → o.endpoint.protocol ≡ o.protocol → m < t + REST_SECONDS →
    is_owned o.protocol o.external (owners (live s.table m)) ≡ false → IsIn x (ends_by s m) → x.endpoint ≡ o.endpoint → x.external ≡ o.external → t ≤ x.end →
    rests_for s m o.external o.endpoint ≡ true
rests-still s m t o x own soon un there endpoint external late =
    let x_protocol : x.endpoint.protocol ≡ o.protocol = ap (λ (y : Endpoint). y.protocol) endpoint ∙ own in
    let free : is_owned_by (owners (live s.table m)) x ≡ false =
    ap (λ p. is_owned p x.external (owners (live s.table m))) x_protocol ∙ ap (λ n. is_owned o.protocol n (owners (live s.table m))) external ∙ un in
    some-any (λ y. same_endpoint y.endpoint o.endpoint && y.external == o.external) (resting s m) x
    (filter-IsIn (λ y. is_recent m y && not (is_owned_by (owners (live s.table m)) y)) (ends_by s m) x there
    (and_from _ _ (lt-ltb m (x.end + REST_SECONDS) (omega (arith, late, soon))) (ap not free)))
    (and_from _ _ ((same_endpoint-Decides x.endpoint o.endpoint).1 endpoint) (eq-eqb x.external o.external external))

-- ---- one record

-- the owner of a port after a record
owner-of : (os : List Owner) (o : Owner) → is_owned o.protocol o.external os ≡ true → ((p : Owner) → IsIn p os → p.protocol ≡ o.protocol → p.external ≡ o.external → p.endpoint ≡ o.endpoint) → IsIn o os
owner-of os o h one =
    let q = owned-some o.protocol o.external os h in
    subst (λ (x : Owner). IsIn x os) (owner-same q.0 o q.2 q.3 (one q.0 q.1 q.2 q.3)) q.1

held-record : EndsAtAMoment → RecordsComeLast → (s : State) (r : Record) (t : ℕ) (o : Owner) → SoundState s → IsReached (apply s r) → Fits s r →
    empties r.change ≡ false → o.endpoint.protocol ≡ o.protocol → t ≤ r.moment → r.moment < t + REST_SECONDS → HeldAt s r.moment t o → Held (apply s r) t o
held-record members last s r t o sound reached fits keeps own late soon (owned_now h) =
    elim (stays-or-deleted (live s.table r.moment) r.change o (Sound-live s.table r.moment sound.table) fits.allowed keeps h) [
      | inl k ↦ owned-after s r t o reached late k
      | inr gone ↦ go gone (is_owned o.protocol o.external (owners (table_2 s r))) refl
    ]
  where
    go : IsIn o (owners (deleted r.change (live s.table r.moment))) → (b : Bool) → is_owned o.protocol o.external (owners (table_2 s r)) ≡ b → Held (apply s r) t o
    go gone true is = owned-after s r t o reached late
        (owned-is (owners (live s.table r.moment)) o (Sound-live s.table r.moment sound.table).one_owner h (owners (table_2 s r))
        (deleting r.change (live s.table r.moment) o gone).fewer is)
    go gone false is = deleted-ends members last s r t o sound fits keeps own late h gone is
held-record members last s r t o sound reached fits keeps own late soon (ended_then un x there endpoint external late_end) =
    go (is_owned o.protocol o.external (owners (table_2 s r))) refl
  where
    one : (p : Owner) → IsIn p (owners (table_2 s r)) → p.protocol ≡ o.protocol → p.external ≡ o.external → p.endpoint ≡ o.endpoint
    one p h protocol port = elim (owner-after s r.moment r.change p fits.allowed fits.rested h) [
      | inl k ↦ (let some = some-owned (owners (live s.table r.moment)) p k in
          let same : is_owned p.protocol p.external (owners (live s.table r.moment)) ≡ is_owned o.protocol o.external (owners (live s.table r.moment)) =
          ap (λ q. is_owned q p.external (owners (live s.table r.moment))) protocol ∙ ap (λ n. is_owned o.protocol n (owners (live s.table r.moment))) port in
          absurd cc)
      | inr none ↦ sym (none o.endpoint (own ∙ sym protocol)
          (subst (λ n. rests_for s r.moment n o.endpoint ≡ true) (sym port) (rests-still s r.moment t o x own soon un there endpoint external late_end)))
    ]

    go : (b : Bool) → is_owned o.protocol o.external (owners (table_2 s r)) ≡ b → Held (apply s r) t o
    go true is = owned-after s r t o reached late (owner-of (owners (table_2 s r)) o is one)
    go false is = rested-ends members last s r t o x sound fits keeps own soon un there endpoint external late_end is

-- ---- one entry

changes-keep : (change : Change) → ChangesLease change → empties change ≡ false
changes-keep (Map l) h = refl
changes-keep (Peer l) h = refl
changes-keep (DropMap e) h = refl
changes-keep (DropPeer e a p) h = refl
changes-keep Start h = absurd h
changes-keep Lose h = absurd h
changes-keep Mark h = absurd h
changes-keep (Rest e p t) h = absurd h
changes-keep (Renumber a) h = absurd h

-- the record of an entry that begins no table anew fits
record FitsOn (s : State) (r : Record) (m : ℕ) : Type 0 where
  fits : Fits s r
  keeps : empties r.change ≡ false
  moment : r.moment ≡ m

entry-fits : DatagramAsksAreWellFormed → DecisionsFit → DecisionsChangeLeases → (x : Served) (opening : State) → IsOpening x opening → (before : List Entry) (e : Entry) →
    IsWell (state_after opening before) → IsNextEntry x opening before e → begins_anew (entry_kind e) ≡ false → (r : Record) → e.kept ≡ Some r →
    FitsOn (state_after opening before) r e.moment
entry-fits formed fit change x opening opens before e well next same r is = by (kind_of_entry e)
  where
    moment : r.moment ≡ e.moment
    moment = if-some e.kept (λ r. r.moment ≡ e.moment) r next.recorded is

    renumbered : ServerDeed before r → empties r.change ≡ false → FitsOn (state_after opening before) r e.moment
    renumbered (begins anew) keeps = absurd cc
    renumbered (renumbers a named just) keeps =
        let s = state_after opening before in
        let later = next.after_records in
        let range = next.value.moment in
        let at = moment in
        record {
          fits = subst (λ c. Fits s (record { moment = r.moment; change = c })) (sym named)
              (renumber-fits s r.moment a well.reached well.started (omega (arith, later, at)) (omega (arith, range, at)));
          keeps = keeps;
          moment = moment;
        }

    by : KindOf e → FitsOn (state_after opening before) r e.moment
    by (is_fault kind none) = absurd cc
    by (is_server q kind some) =
        let one : q ≡ r = cc in
        renumbered (server_deed before r.moment r.change (subst (λ (r : Record). IsOfServer before r.change) one (of-kind x opening before e (OfServer q) kind next)))
        (ap (λ (r : Record). empties r.change) (sym one) ∙ sym (ap begins_anew kind) ∙ same)
    by (is_request kind) =
        let of : IsOfTable x (state_after opening before) e = of-kind x opening before e OfRequest kind next in
        let s = state_after opening before in
        let may = may-decide formed x s e.moment e.from of.request opens.config opens.there well next.after_records next.value.moment next.value.octets of.asks in
        let there = sym of.kept ∙ is in
        let fits = if-some (decided_on x s e.moment of.request).kept (λ r. Fits s r × (r.moment ≡ e.moment)) r
        (fit (terms_of x.external x.config) s e.moment of.request.ask may) there in
        let one = if-some (decided_on x s e.moment of.request).kept (λ r. ChangesLease r.change × (r.moment ≡ e.moment)) r
        (change (terms_of x.external x.config) s e.moment of.request.ask) there in
        record { fits = fits.0; keeps = changes-keep r.change one.0; moment = moment }

held-kept : EndsAtAMoment → RecordsComeLast → (s : State) (kept : Option Record) (m t : ℕ) (o : Owner) → IsReached s → o.endpoint.protocol ≡ o.protocol → t ≤ m → s.last ≤ m →
    ((r : Record) → kept ≡ Some r → FitsOn s r m) → Held s t o → Held (with_kept s kept) t o
held-kept members last s None m t o reached own late later each h = h
held-kept members last s (Some r) m t o reached own late later each h = go (nat_lt r.moment (t + REST_SECONDS)) refl
  where
    go : (b : Bool) → nat_lt r.moment (t + REST_SECONDS) ≡ b → Held (apply s r) t o
    go true is =
        let f = each r refl in
        let at = f.moment in
        let soon = ltb-true r.moment (t + REST_SECONDS) is in
        held-record members last s r t o reached.sound (IsReached-apply s r reached f.fits) f.fits f.keeps own (omega (arith, late, at)) soon
        (held-at members s r.moment t o reached.sound own h soon (omega (arith, later, at)))
    go false is = over (ltb-false r.moment (t + REST_SECONDS) is)

-- ---- all entries

-- no lease of the table owns a port with an end
unowned-port : (s : State) (t : ℕ) (o : Owner) → SoundState s → HasEndSince s t o → is_owned o.protocol o.external (owners s.table) ≡ false
unowned-port s t o sound h =
    let unowned = All-IsIn (λ e. is_owned_by (owners s.table) e ≡ false) s.ends h.end sound.unowned (IsIn-from_Contains s.ends h.end h.there) in
    let protocol : o.protocol ≡ h.end.endpoint.protocol = sym (ap (λ (x : Endpoint). x.protocol) h.endpoint ∙ h.own) in
    ap (λ p. is_owned p o.external (owners s.table)) protocol ∙ ap (λ n. is_owned h.end.endpoint.protocol n (owners s.table)) (sym h.external) ∙ unowned

-- what holds where an owner has its port up to t
holds : (s : State) (t : ℕ) (o : Owner) → SoundState s → Contains (owners (lasting_to s.table t)) o ⊎ HasEndSince s t o → (o.endpoint.protocol ≡ o.protocol) × Held s t o
holds s t o sound (inl owned) =
    let there = IsIn-from_Contains (owners (lasting_to s.table t)) o owned in
    (sym (owner-protocol s.table o (lasting-fewer s.table t o there)), owned_to there)
holds s t o sound (inr h) =
    (h.own, ended (unowned-port s t o sound h) h.end (IsIn-from_Contains s.ends h.end h.there) h.endpoint h.external h.late)

module _ (formed : DatagramAsksAreWellFormed) (fit : DecisionsFit) (change : DecisionsChangeLeases) (members : EndsAtAMoment) (last : RecordsComeLast) (x : Served) (opening : State) (opens : IsOpening x opening) (t : ℕ) (o : Owner) where
  held-along : (front rest : List Entry) → IsLegal x opening (front ++ rest) → IsWell (state_after opening front) → o.endpoint.protocol ≡ o.protocol →
      AllByRecursion (λ e. t ≤ e.moment) rest → AllByRecursion (λ e. begins_anew (entry_kind e) ≡ false) rest → Held (state_after opening front) t o →
      Held (state_after opening (front ++ rest)) t o
  held-along front [] legal well own late same held = subst (λ es. Held (state_after opening es) t o) (sym (append-nil front)) held
  held-along front (e ∷ rest) legal well own late same held =
      let next = legal front e rest refl in
      let grouped = append_assoc front (e ∷ []) rest in
      subst (λ es. Held (state_after opening es) t o) grouped
      (held-along (front ++ e ∷ []) rest (subst (λ es. IsLegal x opening es) (sym grouped) legal) (well-step formed fit x opening opens front e well next) own late.1 same.1
      (subst (λ (s : State). Held s t o) (sym (state-more opening front e))
      (held-kept members last (state_after opening front) e.kept e.moment t o well.reached own late.0 next.after_records
      (entry-fits formed fit change x opening opens front e well next same.0) held)))

  held-after : (before behind : List Entry) → IsLegal x opening (before ++ behind) → OwnsUpTo opening before behind t o →
      (o.endpoint.protocol ≡ o.protocol) × Held (state_after opening (before ++ behind)) t o
  held-after before behind legal owns =
      let well = well-after formed fit x opening before opens (prefix-legal x opening before behind legal) in
      let first = holds (state_after opening before) t o well.reached.sound owns.owned in
      (first.0, held-along before behind legal well first.0 owns.undisturbed owns.same_table first.1)

none-other : (s : State) (t : ℕ) (o : Owner) (n : ℕ) → SoundState s → s.last ≤ n → n < t + REST_SECONDS → Held s t o → HasNoOther (owners (live s.table n)) o
none-other s t o n sound later soon (owned_to h) p there protocol external =
    sound.table.one_owner p o (Contains-from_IsIn (owners s.table) p (owners-live s.table n p (IsIn-from_Contains (owners (live s.table n)) p there)))
    (Contains-from_IsIn (owners s.table) o (lasting-fewer s.table t o h)) protocol external
none-other s t o n sound later soon (ended un e e_there endpoint port late) p there protocol external =
    let some = some-owned (owners s.table) p (owners-live s.table n p (IsIn-from_Contains (owners (live s.table n)) p there)) in
    let same : is_owned p.protocol p.external (owners s.table) ≡ is_owned o.protocol o.external (owners s.table) =
    ap (λ q. is_owned q p.external (owners s.table)) protocol ∙ ap (λ k. is_owned o.protocol k (owners s.table)) external in
    absurd cc
none-other s t o n sound later soon (over done) p there protocol external = absurd (omega (arith, done, later, soon))

pub ports-rest : DatagramAsksAreWellFormed → DecisionsFit → DecisionsChangeLeases → EndsAtAMoment → RecordsComeLast → PortsRest
ports-rest formed fit change members last x opening before behind t o n opens legal owns later soon =
    let held = held-after formed fit change members last x opening opens t o before behind legal owns in
    let end = well-after formed fit x opening (before ++ behind) opens legal in
    none-other (state_after opening (before ++ behind)) t o n end.reached.sound later soon held.1

-- the state that holds it may be the next opening
begins-so : (s : State) (t : ℕ) (o : Owner) → o.endpoint.protocol ≡ o.protocol → Held s t o → OwnsUpTo s [] [] t o ⊎ (t + REST_SECONDS ≤ s.last)
begins-so s t o own (owned_to h) =
    inl (record { owned = inl (Contains-from_IsIn (owners (lasting_to s.table t)) o h); undisturbed = tt; same_table = tt })
begins-so s t o own (ended un e there endpoint external late) =
    let end : HasEndSince s t o = record { end = e; there = Contains-from_IsIn s.ends e there; endpoint = endpoint; external = external; own = own; late = late } in
    inl (record { owned = inr end; undisturbed = tt; same_table = tt })
begins-so s t o own (over done) = inr done

pub ports-stay : DatagramAsksAreWellFormed → DecisionsFit → DecisionsChangeLeases → EndsAtAMoment → RecordsComeLast → PortsStay
ports-stay formed fit change members last x opening before behind t o opens legal owns =
    let held = held-after formed fit change members last x opening opens t o before behind legal owns in
    begins-so (state_after opening (before ++ behind)) t o held.0 held.1
