-- Last ends after a record.
use Rattle.std.specs.Prelude.{◌≡◌, refl, ℕ, ◌+◌, ◌<◌, ◌≤◌, ◌⊎◌, ◌&&◌, not, Bool, true, false, List, [], ◌∷◌, map, flat_map, filter, find, Option, Some, None, ⊤}
use Rattle.std.specs.List.{AllByRecursion}
use Rattle.std.specs.Option.{option_map, option_or}
use Rattle.std.proofs.Common.{inl, inr, sym, ap, ◌∙◌, subst, arith, cond}
use Rattle.std.proofs.lemmas.Bool.{and_parts, and_from, not_from_false, lt-ltb, eqb-true, eq-eqb}
use Rattle.pcp_base.specs.declared.leases.Protocol.{Protocol}
use Rattle.pcp_base.specs.declared.leases.MapLease.{MapLease}
use Rattle.pcp_base.specs.declared.leases.PeerLease.{PeerLease}
use Rattle.pcp_base.specs.declared.leases.Endpoint.{Endpoint}
use Rattle.pcp_base.specs.declared.leases.Owner.{Owner}
use Rattle.pcp_base.specs.declared.leases.End.{End}
use Rattle.pcp_base.specs.declared.records.Change.{Change}
use Rattle.pcp_base.specs.declared.records.Change.TheVariants.{Start, Map, Peer, DropMap, DropPeer, Lose, Mark, Rest, Renumber}
use Rattle.pcp_base.specs.declared.records.Record.{Record}
use Rattle.pcp_base.specs.Protocols.{protocol_number}
use Rattle.pcp_base.specs.Tables.{Table, live, dead, first_endpoint, is_map_of, is_peer_of}
use Rattle.pcp_base.specs.Owners.{map_owners, peer_owner, owners, is_port, is_owned}
use Rattle.pcp_base.specs.States.{State}
use Rattle.pcp_base.specs.Ends.{end_at, ends_at_expiry, is_before, with_end, is_owned_by, with_left, ends_by, is_recent, is_end_of}
use Rattle.pcp_base.specs.Records.{IsTermAt}
use Rattle.pcp_base.specs.Apply.{empties, table_changed, deleted, ends_changed, apply}
use Rattle.pcp_base.specs.Sound.{SoundState}
use Rattle.pcp_base.specs.Reached.{IsReached}
use Rattle.pcp_base.specs.Fits.{Fits, IsAllowed, IsRested, IsUnused}
use Rattle.pcp_base.proofs.Same.{same_protocol-Decides}
use Rattle.pcp_base.proofs.Members.{IsIn, Contains-from_IsIn, IsIn-from_Contains, All-IsIn, All-from_IsIn, All-filter, any-none, none-any, IsIn-filter, filter-IsIn, EachTwo-filter, IsIn-left, IsIn-right, IsIn-map, map-IsIn, flat_map-IsIn, find-some, find-none}
use Rattle.pcp_base.proofs.TableLemmas.{map_owners-IsIn}
use Rattle.pcp_base.proofs.EndOrder.{SamePort, SamePort-sym, InOrder, InOrder-one, with_end-all, with_end-ordered, with_end-has, with_end-keeps, with_ends-ordered}
use Rattle.pcp_base.proofs.EndLemmas.{left-by_expiry, left-by_deletion, left-owned, owned-some, some-owned, unowned-fewer, owners-live, owners-deleted, put-IsIn, owner-protocol}
use Rattle.pcp_base.proofs.RestLaws.{protocol_number-same, owned-same, end-same, IsLatestLeft, AreLeft, with_left-parts, with_left-old, with_left-new, resting-parts, ends_by-members}
use Rattle.pcp_base.proofs.StageLaws.{unlike, two_ways, with_left-unowned, expiry-parts, from_map, from_peer}
use Rattle.pcp_base.proofs.StepLaws.{ends_3-by, put-or, put-new, found}
use Rattle.pcp_base.proofs.ApplyLaws.{owners-kept, OneOwner-at, IsReached-apply}
use Rattle.leased_ports.specs.LastEnds.{last_end}
use Rattle.leased_ports.specs.Leased.{Leased, IsPortsOf, at_moment, end_of, fresh_ports, while_recent}
use Rattle.leased_ports.proofs.SpotLemmas.{empty_by}
use Rattle.leased_ports.specs.Recorded.{touched, latest, held_until, end_by_rest, end_after}
use Rattle.leased_ports.proofs.ExpiryLemmas.{map_ends-end, later-live, live-any, dead-any, owner-leaves}
use Rattle.leased_ports.proofs.LastEndLemmas.{later_or_not, last-some, last-from, latest-last, old-last, old-ended, last-rests, rests-last}

-- ---- leases that a change leaves

map_owner-there : (t : Table) (l : MapLease) (o : Owner) → IsIn l t.maps → IsIn o (map_owners l) → IsIn o (owners t)
map_owner-there t l o there h = IsIn-left (flat_map map_owners t.maps) (map peer_owner t.peers) o (flat_map-IsIn map_owners t.maps l o there h)

peer_owner-there : (t : Table) (l : PeerLease) → IsIn l t.peers → IsIn (peer_owner l) (owners t)
peer_owner-there t l there = IsIn-right (flat_map map_owners t.maps) (map peer_owner t.peers) (peer_owner l) (map-IsIn peer_owner t.peers l there)

-- a MAP lease stays, or its ports are touched
pub map-kept : (change : Change) (t : Table) → IsAllowed t change → empties change ≡ false → (l : MapLease) → IsIn l t.maps
    → IsIn l (table_changed change t).maps ⊎ ((o : Owner) → IsIn o (map_owners l) → IsIn o (touched change t))
map-kept Start t allowed keeps l there = absurd cc
map-kept Lose t allowed keeps l there = absurd cc
map-kept (Map n) t allowed keeps l there =
    elim (put-or (is_map_of (first_endpoint n)) n t.maps l there) [
      | inl still ↦ inl still
      | inr old ↦ (let same = ap map_owners (found (λ old. n ≡ record old { expiry = n.expiry; filters = n.filters }) (find (is_map_of (first_endpoint n)) t.maps) l old allowed) in
          inr (λ o k. subst (λ (os : List Owner). IsIn o os) (sym same) k))
    ]
map-kept (Peer n) t allowed keeps l there = inl there
map-kept (DropMap e) t allowed keeps l there =
    elim (two_ways (is_map_of e l)) [
      | inl gone ↦ inr (λ o k. map_owner-there (deleted (DropMap e) t) l o (filter-IsIn (is_map_of e) t.maps l there gone) k)
      | inr stays ↦ inl (filter-IsIn (λ l. not (is_map_of e l)) t.maps l there (not_from_false _ stays))
    ]
map-kept (DropPeer e remote port) t allowed keeps l there = inl there
map-kept Mark t allowed keeps l there = inl there
map-kept (Rest e port end) t allowed keeps l there = inl there
map-kept (Renumber a) t allowed keeps l there = inl there

pub peer-kept : (change : Change) (t : Table) → IsAllowed t change → empties change ≡ false → (l : PeerLease) → IsIn l t.peers
    → IsIn l (table_changed change t).peers ⊎ IsIn (peer_owner l) (touched change t)
peer-kept Start t allowed keeps l there = absurd cc
peer-kept Lose t allowed keeps l there = absurd cc
peer-kept (Map n) t allowed keeps l there = inl there
peer-kept (Peer n) t allowed keeps l there =
    elim (put-or (is_peer_of n.endpoint n.remote n.remote_port) n t.peers l there) [
      | inl still ↦ inl still
      | inr old ↦ inr (inl (ap peer_owner (found (λ old. n ≡ record old { expiry = n.expiry }) (find (is_peer_of n.endpoint n.remote n.remote_port) t.peers) l old allowed)))
    ]
peer-kept (DropMap e) t allowed keeps l there = inl there
peer-kept (DropPeer e remote port) t allowed keeps l there =
    elim (two_ways (is_peer_of e remote port l)) [
      | inl gone ↦ inr (peer_owner-there (deleted (DropPeer e remote port) t) l (filter-IsIn (is_peer_of e remote port) t.peers l there gone))
      | inr stays ↦ inl (filter-IsIn (λ l. not (is_peer_of e remote port l)) t.peers l there (not_from_false _ stays))
    ]
peer-kept Mark t allowed keeps l there = inl there
peer-kept (Rest e port end) t allowed keeps l there = inl there
peer-kept (Renumber a) t allowed keeps l there = inl there

-- a lease was there, or its ports are touched
pub map-from : (change : Change) (t : Table) → empties change ≡ false → (l : MapLease) → IsIn l (table_changed change t).maps
    → IsIn l t.maps ⊎ ((o : Owner) → IsIn o (map_owners l) → IsIn o (touched change t))
map-from Start t keeps l there = absurd cc
map-from Lose t keeps l there = absurd cc
map-from (Map n) t keeps l there =
    elim (put-IsIn (is_map_of (first_endpoint n)) n t.maps l there) [
      | inl new ↦ inr (λ o k. subst (λ (x : MapLease). IsIn o (map_owners x)) new k)
      | inr old ↦ inl old
    ]
map-from (Peer n) t keeps l there = inl there
map-from (DropMap e) t keeps l there = inl (IsIn-filter (λ l. not (is_map_of e l)) t.maps l there).0
map-from (DropPeer e remote port) t keeps l there = inl there
map-from Mark t keeps l there = inl there
map-from (Rest e port end) t keeps l there = inl there
map-from (Renumber a) t keeps l there = inl there

pub peer-from : (change : Change) (t : Table) → empties change ≡ false → (l : PeerLease) → IsIn l (table_changed change t).peers → IsIn l t.peers ⊎ IsIn (peer_owner l) (touched change t)
peer-from Start t keeps l there = absurd cc
peer-from Lose t keeps l there = absurd cc
peer-from (Map n) t keeps l there = inl there
peer-from (Peer n) t keeps l there =
    elim (put-IsIn (is_peer_of n.endpoint n.remote n.remote_port) n t.peers l there) [
      | inl new ↦ inr (inl (ap peer_owner (sym new)))
      | inr old ↦ inl old
    ]
peer-from (DropMap e) t keeps l there = inl there
peer-from (DropPeer e remote port) t keeps l there = inl (IsIn-filter (λ l. not (is_peer_of e remote port l)) t.peers l there).0
peer-from Mark t keeps l there = inl there
peer-from (Rest e port end) t keeps l there = inl there
peer-from (Renumber a) t keeps l there = inl there

-- no such owner leaves the end
abbrev pub Apart : List Owner → End → Type 0
Apart os e = (o : Owner) → IsIn o os → o.external ≡ e.external → o.endpoint ≡ e.endpoint → ⊥

pub leaves-kept : (t u : Table) (os : List Owner) (e : End) → ((l : MapLease) → IsIn l t.maps → IsIn l u.maps ⊎ ((o : Owner) → IsIn o (map_owners l) → IsIn o os))
    → ((l : PeerLease) → IsIn l t.peers → IsIn l u.peers ⊎ IsIn (peer_owner l) os) → Apart os e → IsIn e (ends_at_expiry t) → IsIn e (ends_at_expiry u)
leaves-kept t u os e maps peers apart h =
    elim (expiry-parts t e h) [
      | inl a ↦ elim (maps a.0 a.1) [
        | inl still ↦ from_map u e (a.0, still, a.2)
        | inr out ↦ (let k = IsIn-map (end_at a.0.expiry) (map_owners a.0) e a.2 in
            absurd (apart k.0 (out k.0 k.1) (ap (λ (x : End). x.external) k.2) (ap (λ (x : End). x.endpoint) k.2)))
      ]
      | inr b ↦ elim (peers b.0 b.1) [
        | inl still ↦ from_peer u e (b.0, still, b.2)
        | inr out ↦ absurd (apart (peer_owner b.0) out (ap (λ (x : End). x.external) b.2) (ap (λ (x : End). x.endpoint) b.2))
      ]
    ]

-- a touched owner and its endpoint have one protocol
pub touched-protocol : (change : Change) (t : Table) (o : Owner) → IsIn o (touched change t) → o.protocol ≡ o.endpoint.protocol
touched-protocol (Map l) t o h = let k = map_owners-IsIn l o h in subst (λ (x : Owner). x.protocol ≡ x.endpoint.protocol) k.2 refl
touched-protocol (Peer l) t o (inl e) = subst (λ (x : Owner). x.protocol ≡ x.endpoint.protocol) e refl
touched-protocol (Peer l) t o (inr h) = absurd h
touched-protocol (DropMap e) t o h = owner-protocol (deleted (DropMap e) t) o h
touched-protocol (DropPeer e remote port) t o h = owner-protocol (deleted (DropPeer e remote port) t) o h
touched-protocol Start t o h = absurd h
touched-protocol Lose t o h = absurd h
touched-protocol Mark t o h = absurd h
touched-protocol (Rest e port end) t o h = absurd h
touched-protocol (Renumber a) t o h = absurd h

-- it owns its port now, or was deleted
touched-owned : (change : Change) (t : Table) (o : Owner) → IsIn o (touched change t) → IsIn o (owners (table_changed change t)) ⊎ IsIn o (owners (deleted change t))
touched-owned (Map l) t o h = inl (map_owner-there (table_changed (Map l) t) l o (put-new (is_map_of (first_endpoint l)) l t.maps) h)
touched-owned (Peer l) t o (inl e) =
    inl (subst (λ (x : Owner). IsIn x (owners (table_changed (Peer l) t))) e (peer_owner-there (table_changed (Peer l) t) l (put-new (is_peer_of l.endpoint l.remote l.remote_port) l t.peers)))
touched-owned (Peer l) t o (inr h) = absurd h
touched-owned (DropMap e) t o h = inr h
touched-owned (DropPeer e remote port) t o h = inr h
touched-owned Start t o h = inr h
touched-owned Lose t o h = inr h
touched-owned Mark t o h = inr h
touched-owned (Rest e port end) t o h = inr h
touched-owned (Renumber a) t o h = inr h

deleted-touched : (change : Change) (t : Table) (o : Owner) → IsIn o (owners (deleted change t)) → IsIn o (touched change t)
deleted-touched (Map l) t o h = absurd h
deleted-touched (Peer l) t o h = absurd h
deleted-touched (DropMap e) t o h = h
deleted-touched (DropPeer e remote port) t o h = h
deleted-touched Start t o h = h
deleted-touched Lose t o h = h
deleted-touched Mark t o h = h
deleted-touched (Rest e port end) t o h = h
deleted-touched (Renumber a) t o h = h

-- where some owner was deleted, no owner is new
deleted-fewer : (change : Change) (t : Table) (o other : Owner) → IsIn o (owners (deleted change t)) → IsIn other (owners (table_changed change t)) → IsIn other (owners t)
deleted-fewer (DropMap e) t o other h k = owners-kept t (DropMap e) tt other k
deleted-fewer (DropPeer e remote port) t o other h k = owners-kept t (DropPeer e remote port) tt other k
deleted-fewer (Map l) t o other h k = absurd h
deleted-fewer (Peer l) t o other h k = absurd h
deleted-fewer Start t o other h k = absurd h
deleted-fewer Lose t o other h k = absurd h
deleted-fewer Mark t o other h k = absurd h
deleted-fewer (Rest e port end) t o other h k = absurd h
deleted-fewer (Renumber a) t o other h k = absurd h

-- ---- the latest of some ends

pub latest-least : (m : ℕ) (es : List End) (f : End) → IsIn f es → f.end ≤ latest m es
latest-least m [] f h = absurd h
latest-least m (e ∷ es) f (inl same) = let one : e.end ≡ f.end = ap (λ (x : End). x.end) same in omega (arith, one)
latest-least m (e ∷ es) f (inr h) = let rest = latest-least m es f h in omega (arith, rest)

pub latest-is : (m : ℕ) (es : List End) → (latest m es ≡ m) ⊎ ((e : End) × IsIn e es × (e.end ≡ latest m es))
latest-is m [] = inl refl
latest-is m (e ∷ es) =
    elim (later_or_not (latest m es) e.end) [
      | inl more ↦ inr (e, inl refl, omega (arith, more))
      | inr less ↦ elim (latest-is m es) [
        | inl none ↦ inl (omega (arith, less, none))
        | inr some ↦ inr (some.0, inr some.1, omega (arith, less, some.2))
      ]
    ]

-- leases that are live leave ends to come
pub ends-late : (t : Table) (m : ℕ) (e : End) → AllByRecursion (λ l. IsTermAt m l.granted l.expiry) t.maps → AllByRecursion (λ l. IsTermAt m l.granted l.expiry) t.peers → IsIn e (ends_at_expiry t) → m < e.end
ends-late t m e maps peers h =
    elim (expiry-parts t e h) [
      | inl a ↦ (let term = All-IsIn (λ l. IsTermAt m l.granted l.expiry) t.maps a.0 maps a.1 in omega (arith, term.live, map_ends-end a.0 e a.2))
      | inr b ↦ (let term = All-IsIn (λ l. IsTermAt m l.granted l.expiry) t.peers b.0 peers b.1 in
          let same : b.0.expiry ≡ e.end = ap (λ (x : End). x.end) b.2 in omega (arith, term.live, same))
    ]

-- ---- ends that a change leaves

-- a Rest tells another port
abbrev IsNotRested : Change → Protocol → ℕ → Type 0
IsNotRested (Rest e port end) protocol n = is_end_of protocol n (record { endpoint = e; external = port; end = end }) ≡ false
IsNotRested change protocol n = ⊤

pub of-port : (protocol : Protocol) (port : ℕ) (e : End) → e.endpoint.protocol ≡ protocol → e.external ≡ port → is_end_of protocol port e ≡ true
of-port protocol port e p n = and_from _ _ (eq-eqb _ _ (ap protocol_number p)) (eq-eqb e.external port n)

pub port-of : (protocol : Protocol) (port : ℕ) (e : End) → is_end_of protocol port e ≡ true → (e.endpoint.protocol ≡ protocol) × (e.external ≡ port)
port-of protocol port e h = let k = and_parts _ _ h in (protocol_number-same e.endpoint.protocol protocol (eqb-true _ _ k.0), eqb-true e.external port k.1)

-- owners of which none has the port don't own an end of it
none-owned : (os : List Owner) (protocol : Protocol) (port : ℕ) (e : End) → e.endpoint.protocol ≡ protocol → e.external ≡ port → find (is_port protocol port) os ≡ None → is_owned_by os e ≡ false
none-owned os protocol port e p n none =
    ap (λ (q : Protocol). is_owned q e.external os) p ∙ ap (λ (k : ℕ). is_owned protocol k os) n ∙ none-any (is_port protocol port) os (find-none (is_port protocol port) os none)

with_end-other : (x : End) (ends : List End) (e : End) → InOrder ends → (SamePort x e → ⊥) → IsIn e ends → IsIn e (with_end x ends)
with_end-other x ends e ordered other there =
    let r = with_end-keeps x ends e there in
    elim (All-IsIn (λ (y : End). (y ≡ x) ⊎ IsIn y ends) (with_end x ends) r.end
    (with_end-all (λ (y : End). (y ≡ x) ⊎ IsIn y ends) x ends (inl refl) (All-from_IsIn (λ (y : End). (y ≡ x) ⊎ IsIn y ends) ends (λ y k. inr k))) r.there) [
      | inl same ↦ absurd (other (SamePort-sym e x (subst (λ (y : End). SamePort e y) same r.port)))
      | inr old ↦ subst (λ (y : End). IsIn y (with_end x ends)) (InOrder-one ends r.end e ordered old there (SamePort-sym e r.end r.port)) r.there
    ]

changed-kept : (change : Change) (t : Table) (ends : List End) (protocol : Protocol) (port : ℕ) (e : End) → empties change ≡ false → InOrder ends → find (is_port protocol port) (touched change t) ≡ None
    → IsNotRested change protocol port → e.endpoint.protocol ≡ protocol → e.external ≡ port → IsIn e ends → IsIn e (ends_changed change ends)
changed-kept Start t ends protocol port e keeps ordered none other p n there = absurd cc
changed-kept Lose t ends protocol port e keeps ordered none other p n there = absurd cc
changed-kept (Map l) t ends protocol port e keeps ordered none other p n there =
    filter-IsIn (λ e. not (is_owned_by (map_owners l) e)) ends e there (not_from_false _ (none-owned (map_owners l) protocol port e p n none))
changed-kept (Peer l) t ends protocol port e keeps ordered none other p n there =
    filter-IsIn (λ e. not (is_owned_by (peer_owner l ∷ []) e)) ends e there (not_from_false _ (none-owned (peer_owner l ∷ []) protocol port e p n none))
changed-kept (DropMap d) t ends protocol port e keeps ordered none other p n there = there
changed-kept (DropPeer d remote q) t ends protocol port e keeps ordered none other p n there = there
changed-kept Mark t ends protocol port e keeps ordered none other p n there = there
changed-kept (Renumber a) t ends protocol port e keeps ordered none other p n there = there
changed-kept (Rest d q end) t ends protocol port e keeps ordered none other p n there =
    let x : End = record { endpoint = d; external = q; end = end } in
    with_end-other x ends e ordered (λ same. unlike (is_end_of protocol port x)
    (of-port protocol port x (protocol_number-same d.protocol e.endpoint.protocol same.protocol ∙ p) (same.external ∙ n)) other) there

changed-from : (change : Change) (ends : List End) (protocol : Protocol) (port : ℕ) (e : End) → empties change ≡ false
    → IsNotRested change protocol port → e.endpoint.protocol ≡ protocol → e.external ≡ port → IsIn e (ends_changed change ends) → IsIn e ends
changed-from Start ends protocol port e keeps other p n there = absurd cc
changed-from Lose ends protocol port e keeps other p n there = absurd cc
changed-from (Map l) ends protocol port e keeps other p n there = (IsIn-filter (λ e. not (is_owned_by (map_owners l) e)) ends e there).0
changed-from (Peer l) ends protocol port e keeps other p n there = (IsIn-filter (λ e. not (is_owned_by (peer_owner l ∷ []) e)) ends e there).0
changed-from (DropMap d) ends protocol port e keeps other p n there = there
changed-from (DropPeer d remote q) ends protocol port e keeps other p n there = there
changed-from Mark ends protocol port e keeps other p n there = there
changed-from (Renumber a) ends protocol port e keeps other p n there = there
changed-from (Rest d q end) ends protocol port e keeps other p n there =
    let x : End = record { endpoint = d; external = q; end = end } in
    elim (All-IsIn (λ (y : End). (y ≡ x) ⊎ IsIn y ends) (with_end x ends) e
    (with_end-all (λ (y : End). (y ≡ x) ⊎ IsIn y ends) x ends (inl refl) (All-from_IsIn (λ (y : End). (y ≡ x) ⊎ IsIn y ends) ends (λ y k. inr k))) there) [
      | inl same ↦ absurd (unlike (is_end_of protocol port x) (subst (λ (y : End). is_end_of protocol port y ≡ true) same (of-port protocol port e p n)) other)
      | inr old ↦ old
    ]

changed-ordered : (change : Change) (ends : List End) → InOrder ends → InOrder (ends_changed change ends)
changed-ordered Start ends h = tt
changed-ordered Lose ends h = tt
changed-ordered (Map l) ends h = EachTwo-filter (λ a b. is_before a b ≡ true) (λ e. not (is_owned_by (map_owners l) e)) ends h
changed-ordered (Peer l) ends h = EachTwo-filter (λ a b. is_before a b ≡ true) (λ e. not (is_owned_by (peer_owner l ∷ []) e)) ends h
changed-ordered (DropMap d) ends h = h
changed-ordered (DropPeer d remote q) ends h = h
changed-ordered Mark ends h = h
changed-ordered (Renumber a) ends h = h
changed-ordered (Rest d q end) ends h = with_end-ordered (record { endpoint = d; external = q; end = end }) ends h

changed-unowned : (change : Change) (s : State) (m : ℕ) (os : List Owner) (ends : List End) → ((o : Owner) → IsIn o os → IsIn o (owners s.table)) → IsRested s m change
    → AllByRecursion (λ e. is_owned_by os e ≡ false) ends → AllByRecursion (λ e. is_owned_by os e ≡ false) (ends_changed change ends)
changed-unowned Start s m os ends fewer rests h = tt
changed-unowned Lose s m os ends fewer rests h = tt
changed-unowned (Map l) s m os ends fewer rests h = All-filter (λ e. is_owned_by os e ≡ false) (λ e. not (is_owned_by (map_owners l) e)) ends h
changed-unowned (Peer l) s m os ends fewer rests h = All-filter (λ e. is_owned_by os e ≡ false) (λ e. not (is_owned_by (peer_owner l ∷ []) e)) ends h
changed-unowned (DropMap d) s m os ends fewer rests h = h
changed-unowned (DropPeer d remote q) s m os ends fewer rests h = h
changed-unowned Mark s m os ends fewer rests h = h
changed-unowned (Renumber a) s m os ends fewer rests h = h
changed-unowned (Rest d q end) s m os ends fewer rests h =
    with_end-all (λ e. is_owned_by os e ≡ false) (record { endpoint = d; external = q; end = end }) ends (unowned-fewer d.protocol q (owners s.table) os fewer rests.unowned) h

pub same-options : (a b : Option End) → ((e : End) → a ≡ Some e → b ≡ Some e) → ((e : End) → b ≡ Some e → a ≡ Some e) → a ≡ b
same-options None None f g = refl
same-options None (Some e) f g = g e refl
same-options (Some e) b f g = sym (f e refl)

-- ---- a record

module _ (s : State) (m : ℕ) (change : Change) (reached : IsReached s) (fits : Fits s (record { moment = m; change = change })) (keeps : empties change ≡ false) where
  abbrev r : Record
  r = record { moment = m; change = change }

  abbrev t1 : Table
  t1 = live s.table m

  abbrev t2 : Table
  t2 = table_changed change t1

  abbrev before : List End
  before = ends_by s m

  abbrev gone : List End
  gone = map (end_at m) (owners (deleted change t1))

  abbrev next : State
  next = apply s r

  abbrev sound : SoundState s
  sound = reached.sound

  after : IsReached next
  after = IsReached-apply s r reached fits

  before-ordered : InOrder before
  before-ordered = with_ends-ordered (filter (λ e. not (is_owned_by (owners t1) e)) (ends_at_expiry (dead s.table m))) s.ends sound.ordered

  before-unowned : AllByRecursion (λ e. is_owned_by (owners t1) e ≡ false) before
  before-unowned = with_left-unowned s.table t1 (ends_at_expiry (dead s.table m)) s.ends (owners-live s.table m) sound.unowned

  are_left : AreLeft t1 gone (ends_changed change before)
  are_left = record {
    one = OneOwner-at s m sound;
    by_lease = λ e there. let k = left-by_deletion (deleted change t1) m e there in record { owner = k.0.owner; there = owners-deleted t1 change k.0.owner k.0.there; same = k.0.same };
    ordered = changed-ordered change before before-ordered;
    unowned = changed-unowned change s m (owners t1) before (owners-live s.table m) fits.rested before-unowned;
  }

  next-ends : next.ends ≡ filter (is_recent m) (with_left t2 gone (ends_changed change before))
  next-ends = ap (filter (is_recent m)) (ends_3-by s r sound fits.allowed fits.rested keeps)

  in-next : (e : End) → IsIn e (with_left t2 gone (ends_changed change before)) → is_recent m e ≡ true → IsIn e next.ends
  in-next e there recent = subst (λ (es : List End). IsIn e es) (sym next-ends) (filter-IsIn (is_recent m) (with_left t2 gone (ends_changed change before)) e there recent)

  from-next : (e : End) → IsIn e next.ends → IsIn e (with_left t2 gone (ends_changed change before)) × (is_recent m e ≡ true)
  from-next e there = IsIn-filter (is_recent m) (with_left t2 gone (ends_changed change before)) e (subst (λ (es : List End). IsIn e es) next-ends there)

  soon-recent : (e : End) → m < e.end + 120 → is_recent m e ≡ true
  soon-recent e late = lt-ltb m (e.end + 120) late

  -- what the leases leave that the record leaves comes later
  t2-late : (e : End) → IsIn e (ends_at_expiry t2) → m < e.end
  t2-late e h = ends-late t2 m e after.maps after.peers h

  module _ (protocol : Protocol) (port : ℕ) where
    -- ---- a port that isn't touched

    module _ (none : find (is_port protocol port) (touched change t1) ≡ None) (other : IsNotRested change protocol port) where
      apart : (e : End) → e.endpoint.protocol ≡ protocol → e.external ≡ port → Apart (touched change t1) e
      apart e p n o there external endpoint =
          let fails : is_port protocol port o ≡ false = All-IsIn (λ o. is_port protocol port o ≡ false) (touched change t1) o (find-none (is_port protocol port) (touched change t1) none) there in
          let protocols : o.protocol ≡ protocol = touched-protocol change t1 o there ∙ ap (λ (x : Endpoint). x.protocol) endpoint ∙ p in
          unlike (is_port protocol port o) (and_from _ _ ((same_protocol-Decides o.protocol protocol).1 protocols) (eq-eqb o.external port (external ∙ n))) fails

      to-t2 : (e : End) → e.endpoint.protocol ≡ protocol → e.external ≡ port → IsIn e (ends_at_expiry t1) → IsIn e (ends_at_expiry t2)
      to-t2 e p n = leaves-kept t1 t2 (touched change t1) e (map-kept change t1 fits.allowed keeps) (peer-kept change t1 fits.allowed keeps) (apart e p n)

      to-t1 : (e : End) → e.endpoint.protocol ≡ protocol → e.external ≡ port → IsIn e (ends_at_expiry t2) → IsIn e (ends_at_expiry t1)
      to-t1 e p n = leaves-kept t2 t1 (touched change t1) e (map-from change t1 keeps) (peer-from change t1 keeps) (apart e p n)

      forth : (e : End) → last_end s m protocol port ≡ Some e → last_end next m protocol port ≡ Some e
      forth e h =
          let k = last-some s sound m protocol port e h in
          elim (later_or_not m e.end) [
            | inl late ↦ elim (last-from s sound m protocol port e h) [
              | inl old ↦ absurd (let soon = old-ended s m reached fits.later e old in omega (arith, late, soon))
              | inr left ↦ latest-last next after.sound m protocol port e k.2 k.3 (to-t2 e k.2 k.3 (later-live s.table m e late left.0))
                  (λ f there same. left.1 f (live-any s.table m f (to-t1 f (protocol_number-same f.endpoint.protocol e.endpoint.protocol same.protocol ∙ k.2) (same.external ∙ k.3) there)) same) k.1
            ]
            | inr came ↦ (let rests = resting-parts s m e (last-rests s m reached fits.later protocol port e h came) in
                let there = changed-kept change t1 before protocol port e keeps before-ordered none other k.2 k.3 rests.0 in
                old-last next after.sound m protocol port e k.2 k.3 (in-next e (with_left-old t1 t2 gone (ends_changed change before) e are_left there) k.1) k.1)
          ]

      back : (e : End) → last_end next m protocol port ≡ Some e → last_end s m protocol port ≡ Some e
      back e h =
          let k = last-some next after.sound m protocol port e h in
          elim (last-from next after.sound m protocol port e h) [
            | inl there ↦ elim (with_left-parts t1 t2 gone (ends_changed change before) e are_left (from-next e there).0) [
              | inl old ↦ (let kept = changed-from change before protocol port e keeps other k.2 k.3 old in
                  let free : is_owned_by (owners t1) e ≡ false = All-IsIn (λ e. is_owned_by (owners t1) e ≡ false) before e before-unowned kept in
                  let at_rest = filter-IsIn (λ x. is_recent m x && not (is_owned_by (owners t1) x)) before e kept (and_from _ _ k.1 (not_from_false _ free)) in
                  let last = rests-last s m reached fits.later e at_rest in
                  ap (λ (q : Protocol). last_end s m q port) (sym k.2) ∙ ap (λ (n : ℕ). last_end s m e.endpoint.protocol n) (sym k.3) ∙ last.0)
              | inr left ↦ (let o = IsIn-map (end_at m) (owners (deleted change t1)) e left.there in
                  absurd (apart e k.2 k.3 o.0 (deleted-touched change t1 o.0 o.1) (ap (λ (x : End). x.external) o.2) (ap (λ (x : End). x.endpoint) o.2)))
            ]
            | inr left ↦ (let here = to-t1 e k.2 k.3 left.0 in
                let late = t2-late e left.0 in
                latest-last s sound m protocol port e k.2 k.3 (live-any s.table m e here) (λ f there same.
                elim (later_or_not m f.end) [
                  | inl f_late ↦ left.1 f (to-t2 f (protocol_number-same f.endpoint.protocol e.endpoint.protocol same.protocol ∙ k.2) (same.external ∙ k.3) (later-live s.table m f f_late there)) same
                  | inr f_soon ↦ omega (arith, late, f_soon)
                ]) k.1)
          ]

      untouched : last_end next m protocol port ≡ last_end s m protocol port
      untouched = same-options (last_end next m protocol port) (last_end s m protocol port) back forth

    -- ---- a port that is touched

    module _ (o : Owner) (there : IsIn o (touched change t1)) (is : is_port protocol port o ≡ true) where
      protocol-is : o.protocol ≡ protocol
      protocol-is = let k = and_parts _ _ is in (same_protocol-Decides o.protocol protocol).0 k.0

      external-is : o.external ≡ port
      external-is = let k = and_parts _ _ is in eqb-true o.external port k.1

      endpoint-is : o.endpoint.protocol ≡ protocol
      endpoint-is = sym (touched-protocol change t1 o there) ∙ protocol-is

      abbrev es : List End
      es = filter (is_end_of protocol port) (ends_at_expiry t2)

      abbrev until : ℕ
      until = held_until m t2 protocol port

      -- another owner of the port has the same endpoint
      same-endpoint : (q : Owner) → IsIn q (owners t2) → q.protocol ≡ protocol → q.external ≡ port → o.endpoint ≡ q.endpoint
      same-endpoint q here p n =
          elim (touched-owned change t1 o there) [
            | inl mine ↦ fits.sound.table.one_owner o q (Contains-from_IsIn (owners t2) o mine) (Contains-from_IsIn (owners t2) q here) (protocol-is ∙ sym p) (external-is ∙ sym n)
            | inr deleted_o ↦ OneOwner-at s m sound o q (Contains-from_IsIn (owners t1) o (owners-deleted t1 change o deleted_o))
                (Contains-from_IsIn (owners t1) q (deleted-fewer change t1 o q deleted_o here)) (protocol-is ∙ sym p) (external-is ∙ sym n)
          ]

      -- an end that leases leave of the port is of its owner
      end-is : (e : End) → IsIn e es → (is_owned protocol port (owners t2) ≡ true) × (e ≡ end_at e.end o)
      end-is e h =
          let k = IsIn-filter (is_end_of protocol port) (ends_at_expiry t2) e h in
          let p = port-of protocol port e k.1 in
          let by = left-by_expiry t2 e k.0 in
          let owned = left-owned t2 e by in
          let q : by.owner.protocol ≡ protocol = owner-protocol t2 by.owner by.there ∙ ap (λ (x : End). x.endpoint.protocol) by.same ∙ p.0 in
          let n : by.owner.external ≡ port = ap (λ (x : End). x.external) by.same ∙ p.1 in
          let endpoints = same-endpoint by.owner by.there q n in (
            ap (λ (x : Protocol). is_owned x port (owners t2)) (sym p.0) ∙ ap (λ (x : ℕ). is_owned e.endpoint.protocol x (owners t2)) (sym p.1) ∙ owned,
            end-same e (end_at e.end o) (sym (ap (λ (x : End). x.endpoint) by.same) ∙ sym endpoints) (p.1 ∙ sym external-is) refl,
          )

      still-owned : is_owned protocol port (owners t2) ≡ true → last_end next m protocol port ≡ Some (end_at until o)
      still-owned owned =
          let q = owned-some protocol port (owners t2) owned in
          let f = owner-leaves t2 q.0 q.1 in
          let f_port : is_end_of protocol port f.0 ≡ true = of-port protocol port f.0
          (sym (ap (λ (x : End). x.endpoint.protocol) f.2) ∙ sym (owner-protocol t2 q.0 q.1) ∙ q.2) (sym (ap (λ (x : End). x.external) f.2) ∙ q.3) in
          let f_in = filter-IsIn (is_end_of protocol port) (ends_at_expiry t2) f.0 f.1 f_port in
          let f_least = latest-least m es f.0 f_in in
          let f_late = t2-late f.0 f.1 in
          elim (latest-is m es) [
            | inl none ↦ absurd (omega (arith, f_least, f_late, none))
            | inr e ↦ (let k = IsIn-filter (is_end_of protocol port) (ends_at_expiry t2) e.0 e.1 in
                let p = port-of protocol port e.0 k.1 in
                let late = t2-late e.0 k.0 in
                let last : last_end next m protocol port ≡ Some e.0 = latest-last next after.sound m protocol port e.0 p.0 p.1 k.0
                (λ g there_g same.
                let g_in = filter-IsIn (is_end_of protocol port) (ends_at_expiry t2) g there_g
                (of-port protocol port g (protocol_number-same g.endpoint.protocol e.0.endpoint.protocol same.protocol ∙ p.0) (same.external ∙ p.1)) in
                let g_least = latest-least m es g g_in in
                omega (arith, g_least, e.2)) (soon-recent e.0 (omega (arith, late))) in
                last ∙ ap Some ((end-is e.0 e.1).1 ∙ ap (λ (n : ℕ). end_at n o) e.2))
          ]

      owned-no-more : is_owned protocol port (owners t2) ≡ false → last_end next m protocol port ≡ Some (end_at until o)
      owned-no-more free =
          elim (touched-owned change t1 o there) [
            | inl mine ↦ absurd (unlike (is_owned protocol port (owners t2))
                (ap (λ (x : Protocol). is_owned x port (owners t2)) (sym protocol-is) ∙ ap (λ (x : ℕ). is_owned o.protocol x (owners t2)) (sym external-is) ∙ some-owned (owners t2) o mine) free)
            | inr deleted_o ↦ (let x : End = end_at m o in
                let in_gone = map-IsIn (end_at m) (owners (deleted change t1)) o deleted_o in
                let unowned : is_owned_by (owners t2) x ≡ false =
                ap (λ (q : Protocol). is_owned q o.external (owners t2)) endpoint-is ∙ ap (λ (n : ℕ). is_owned protocol n (owners t2)) external-is ∙ free in
                let left : IsLatestLeft t2 gone x = record {
                  there = in_gone;
                  unowned = unowned;
                  latest = λ f k same. let now : f.end ≡ m = (left-by_deletion (deleted change t1) m f k).1 in omega (arith, now);
                } in
                let recent : is_recent m x ≡ true = soon-recent x (omega arith) in
                let last = old-last next after.sound m protocol port x endpoint-is external-is
                (in-next x (with_left-new t1 t2 gone (ends_changed change before) x are_left left) recent) recent in
                let now : until ≡ m = elim (latest-is m es) [
                  | inl none ↦ none
                  | inr e ↦ absurd (unlike (is_owned protocol port (owners t2)) (end-is e.0 e.1).0 free)
                ] in
                last ∙ ap (λ (n : ℕ). Some (end_at n o)) (sym now))
          ]

      touched-last : last_end next m protocol port ≡ Some (end_at until o)
      touched-last = elim (two_ways (is_owned protocol port (owners t2))) [
        | inl owned ↦ still-owned owned
        | inr free ↦ owned-no-more free
      ]

-- a port that a Rest tells
rest-last : (s : State) (m : ℕ) (d : Endpoint) (q end : ℕ) (protocol : Protocol) (port : ℕ) → IsReached s → Fits s (record { moment = m; change = Rest d q end })
    → is_end_of protocol port (record { endpoint = d; external = q; end = end }) ≡ true
    → last_end (apply s (record { moment = m; change = Rest d q end })) m protocol port ≡ Some (record { endpoint = d; external = q; end = end })
rest-last s m d q end protocol port reached fits is =
    let x : End = record { endpoint = d; external = q; end = end } in
    let p = port-of protocol port x is in
    let sound = reached.sound in
    let ends = ends_by s m in
    let r = with_end-has x ends in
    let from = All-IsIn (λ (y : End). (y ≡ x) ⊎ IsIn y ends) (with_end x ends) r.end
    (with_end-all (λ (y : End). (y ≡ x) ⊎ IsIn y ends) x ends (inl refl) (All-from_IsIn (λ (y : End). (y ≡ x) ⊎ IsIn y ends) ends (λ y k. inr k))) r.there in
    let there : IsIn x (with_end x ends) = elim from [
      | inl same ↦ subst (λ (y : End). IsIn y (with_end x ends)) same r.there
      | inr old ↦ absurd (unused s m d q end r.end sound fits.rested r.port old)
    ] in
    let recent : is_recent m x ≡ true = lt-ltb m (end + 120) fits.formed.change.recent in
    old-last (apply s (record { moment = m; change = Rest d q end })) (IsReached-apply s (record { moment = m; change = Rest d q end }) reached fits).sound m protocol port x p.0 p.1
    (in-next s m (Rest d q end) reached fits refl x
    (with_left-old (live s.table m) (live s.table m) (map (end_at m) (owners (deleted (Rest d q end) (live s.table m)))) (with_end x ends) x (are_left s m (Rest d q end) reached fits refl) there) recent) recent
  where
    unused : (s : State) (m : ℕ) (d : Endpoint) (q end : ℕ) (y : End) → SoundState s → IsUnused s d q → SamePort (record { endpoint = d; external = q; end = end }) y → IsIn y (ends_by s m) → ⊥
    unused s m d q end y sound free same old =
        elim ((ends_by-members s m y sound).0 (Contains-from_IsIn (ends_by s m) y old)) [
          | inl there ↦ unlike (is_end_of d.protocol q y) (and_from _ _ (eq-eqb _ _ (sym same.protocol)) (eq-eqb _ _ (sym same.external)))
              (All-IsIn (λ y. is_end_of d.protocol q y ≡ false) s.ends y (any-none (is_end_of d.protocol q) s.ends free.endless) (IsIn-from_Contains s.ends y there))
          | inr ended ↦ unlike (is_owned_by (owners s.table) y)
              (left-owned s.table y (left-by_expiry s.table y (dead-any s.table m y (IsIn-from_Contains (ends_at_expiry (dead s.table m)) y ended.left))))
              (sym (owned-same (owners s.table) (record { endpoint = d; external = q; end = end }) y same) ∙ free.unowned)
        ]

-- ---- all together

-- a change that doesn't tell the port leaves it as it is
told-or : (change : Change) (protocol : Protocol) (port : ℕ) (o : Option End) → IsNotRested change protocol port → end_by_rest change protocol port o ≡ o
told-or (Rest d q end) protocol port o h = ap (λ (b : Bool). cond b (Some (record { endpoint = d; external = q; end = end })) o) h
told-or Start protocol port o h = refl
told-or Lose protocol port o h = refl
told-or (Map l) protocol port o h = refl
told-or (Peer l) protocol port o h = refl
told-or (DropMap e) protocol port o h = refl
told-or (DropPeer e remote n) protocol port o h = refl
told-or Mark protocol port o h = refl
told-or (Renumber a) protocol port o h = refl

module _ (s : State) (m : ℕ) (change : Change) (protocol : Protocol) (port : ℕ) (reached : IsReached s) (fits : Fits s (record { moment = m; change = change })) (keeps : empties change ≡ false) where
  abbrev by_rest : Type 0
  by_rest = last_end (apply s (record { moment = m; change = change })) m protocol port ≡ end_by_rest change protocol port (last_end s m protocol port)

  plainly : find (is_port protocol port) (touched change (live s.table m)) ≡ None → IsNotRested change protocol port → by_rest
  plainly none other = untouched s m change reached fits keeps protocol port none other ∙ sym (told-or change protocol port (last_end s m protocol port) other)

not-touched : (s : State) (m : ℕ) (change : Change) (protocol : Protocol) (port : ℕ) (reached : IsReached s) (fits : Fits s (record { moment = m; change = change })) (keeps : empties change ≡ false)
    → find (is_port protocol port) (touched change (live s.table m)) ≡ None
    → last_end (apply s (record { moment = m; change = change })) m protocol port ≡ end_by_rest change protocol port (last_end s m protocol port)
not-touched s m (Rest d q end) protocol port reached fits keeps none =
    elim (two_ways (is_end_of protocol port (record { endpoint = d; external = q; end = end }))) [
      | inl is ↦ rest-last s m d q end protocol port reached fits is
          ∙ sym (ap (λ (b : Bool). cond b (Some (record { endpoint = d; external = q; end = end })) (last_end s m protocol port)) is)
      | inr other ↦ plainly s m (Rest d q end) protocol port reached fits keeps none other
    ]
not-touched s m Start protocol port reached fits keeps none = plainly s m Start protocol port reached fits keeps none tt
not-touched s m Lose protocol port reached fits keeps none = plainly s m Lose protocol port reached fits keeps none tt
not-touched s m (Map l) protocol port reached fits keeps none = plainly s m (Map l) protocol port reached fits keeps none tt
not-touched s m (Peer l) protocol port reached fits keeps none = plainly s m (Peer l) protocol port reached fits keeps none tt
not-touched s m (DropMap e) protocol port reached fits keeps none = plainly s m (DropMap e) protocol port reached fits keeps none tt
not-touched s m (DropPeer e remote n) protocol port reached fits keeps none = plainly s m (DropPeer e remote n) protocol port reached fits keeps none tt
not-touched s m Mark protocol port reached fits keeps none = plainly s m Mark protocol port reached fits keeps none tt
not-touched s m (Renumber a) protocol port reached fits keeps none = plainly s m (Renumber a) protocol port reached fits keeps none tt

by-found : (s : State) (m : ℕ) (change : Change) (protocol : Protocol) (port : ℕ) (reached : IsReached s) (fits : Fits s (record { moment = m; change = change })) (keeps : empties change ≡ false)
    (o : Option Owner) → find (is_port protocol port) (touched change (live s.table m)) ≡ o
    → last_end (apply s (record { moment = m; change = change })) m protocol port
    ≡ option_or (option_map (λ o. end_at (held_until m (table_changed change (live s.table m)) protocol port) o) o) (end_by_rest change protocol port (last_end s m protocol port))
by-found s m change protocol port reached fits keeps None none = not-touched s m change protocol port reached fits keeps none
by-found s m change protocol port reached fits keeps (Some o) some =
    let k = find-some (is_port protocol port) (touched change (live s.table m)) o some in
    touched-last s m change reached fits keeps protocol port o k.0 k.1

pub recorded-last : (s : State) (r : Record) (protocol : Protocol) (port : ℕ) → IsReached s → Fits s r → empties r.change ≡ false → last_end (apply s r) r.moment protocol port ≡ end_after s r protocol port
recorded-last s r protocol port reached fits keeps =
    by-found s r.moment r.change protocol port reached fits keeps (find (is_port protocol port) (touched r.change (live s.table r.moment))) refl

nothing : (s : State) (m : ℕ) (change : Change) (protocol : Protocol) (port : ℕ) → empties change ≡ true → last_end (apply s (record { moment = m; change = change })) m protocol port ≡ None
nothing s m Start protocol port h = refl
nothing s m Lose protocol port h = refl
nothing s m (Map l) protocol port h = absurd cc
nothing s m (Peer l) protocol port h = absurd cc
nothing s m (DropMap e) protocol port h = absurd cc
nothing s m (DropPeer e remote n) protocol port h = absurd cc
nothing s m Mark protocol port h = absurd cc
nothing s m (Rest d q end) protocol port h = absurd cc
nothing s m (Renumber a) protocol port h = absurd cc

pub nothing-kept : (s : State) (r : Record) (protocol : Protocol) (port : ℕ) → empties r.change ≡ true → last_end (apply s r) r.moment protocol port ≡ None
nothing-kept s r protocol port h = nothing s r.moment r.change protocol port h

-- ---- the ports after a record

pub ports-recorded : (v : Leased) (s : State) (r : Record) → IsReached s → Fits s r → empties r.change ≡ false → r.moment ≤ v.reached
    → ((protocol : Protocol) (port : ℕ) → while_recent r.moment (end_of v protocol port) ≡ end_after s r protocol port) → IsPortsOf v (apply s r)
ports-recorded v s r reached fits keeps passed ends = record {
  passed = passed;
  same = λ protocol port. ends protocol port ∙ sym (recorded-last s r protocol port reached fits keeps);
}

pub ports-anew : (low high quota : ℕ) (s : State) (r : Record) → empties r.change ≡ true → IsPortsOf (at_moment r.moment (fresh_ports low high quota)) (apply s r)
ports-anew low high quota s r forgets =
    let passed : r.moment ≤ r.moment = omega arith in record {
      passed = passed;
      same = λ protocol port. ap (while_recent r.moment) (empty_by protocol port) ∙ sym (nothing-kept s r protocol port forgets);
    }
