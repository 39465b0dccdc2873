-- What becomes of a live lease when a record comes.
use Rattle.std.specs.Prelude.{Contains}
use Rattle.std.proofs.Common.{◌≡◌, ◌∙◌, Bool, true, List, ◌∷◌, ◌⊎◌, map, filter, Option, Some, None, refl, ap, sym, subst, inl, inr}
use Rattle.pcp_base.specs.declared.addresses.Nonce.{Nonce}
use Rattle.pcp_base.specs.declared.configs.Config.{Config}
use Rattle.pcp_base.specs.declared.datagrams.Entry.{Entry}
use Rattle.pcp_base.specs.declared.leases.MapLease.{MapLease}
use Rattle.pcp_base.specs.declared.leases.PeerLease.{PeerLease}
use Rattle.pcp_base.specs.declared.records.Record.{Record}
use Rattle.pcp_base.specs.declared.records.Change.{Change}
use Rattle.pcp_base.specs.declared.records.Change.TheVariants.{Start, Map, Peer, DropMap, DropPeer, Lose, Mark, Rest, Renumber}
use Rattle.pcp_base.specs.Tables.{Table, live, first_endpoint, is_map_of, is_peer_of}
use Rattle.pcp_base.specs.Apply.{table_changed}
use Rattle.pcp_base.specs.States.{State}
use Rattle.pcp_base.proofs.Members.{IsIn, Contains-from_IsIn, IsIn-from_Contains, IsIn-filter, filter-IsIn, map-IsIn}
use Rattle.lease_histories.specs.DatagramAsks.{DatagramAsksAreWellFormed}
use Rattle.lease_store.specs.LeaseTerms.{terms_of}
use Rattle.lease_core.specs.Laws.{ChangesLease, DecisionsChangeLeases, DecisionsFit, HasNonce, NoncesMatch, nonces_of}
use Rattle.lease_histories.specs.Entries.{Served, OfRequest, OfServer, begins_anew, entry_kind, decided_on}
use Rattle.lease_histories.specs.Legal.{IsNextEntry, IsOfTable, state_after}
use Rattle.lease_histories.specs.Laws.{ChangesByNonce, MayChange, NoncesDecide}
use Rattle.lease_histories.specs.PlainHouses.{with_kept}
use Rattle.lease_histories.proofs.Growing.{if-some, prefix-legal, state-more}
use Rattle.lease_histories.proofs.Rests.{filter-stays, put-stays}
use Rattle.lease_histories.proofs.EntryKinds.{IsWell, KindOf, ServerDeed, begins, is_fault, is_request, is_server, kind_of_entry, of-kind, renumbers, server_deed, well-after}

-- a lease stays, or its nonce is one of those of the change
abbrev MapStays : Change → Table → MapLease → Type 0
MapStays change t l = IsIn l (table_changed change t).maps ⊎ Contains (nonces_of change t) l.nonce

abbrev PeerStays : Change → Table → PeerLease → Type 0
PeerStays change t l = IsIn l (table_changed change t).peers ⊎ Contains (nonces_of change t) l.nonce

map-listed : (p : MapLease → Bool) (ls : List MapLease) (l : MapLease) → IsIn l ls → p l ≡ true → Contains (map (λ x. x.nonce) (filter p ls)) l.nonce
map-listed p ls l there key =
    Contains-from_IsIn (map (λ x. x.nonce) (filter p ls)) l.nonce (map-IsIn (λ (x : MapLease). x.nonce) (filter p ls) l (filter-IsIn p ls l there key))

peer-listed : (p : PeerLease → Bool) (ls : List PeerLease) (l : PeerLease) → IsIn l ls → p l ≡ true → Contains (map (λ x. x.nonce) (filter p ls)) l.nonce
peer-listed p ls l there key =
    Contains-from_IsIn (map (λ x. x.nonce) (filter p ls)) l.nonce (map-IsIn (λ (x : PeerLease). x.nonce) (filter p ls) l (filter-IsIn p ls l there key))

map-stays : (change : Change) (t : Table) (l : MapLease) → ChangesLease change → IsIn l t.maps → MapStays change t l
map-stays (Map new) t l h there =
    elim (put-stays (is_map_of (first_endpoint new)) new t.maps l there) [ inl k ↦ inl k | inr key ↦ inr (map-listed (is_map_of (first_endpoint new)) t.maps l there key) ]
map-stays (DropMap e) t l h there =
    elim (filter-stays (is_map_of e) t.maps l there) [ inl k ↦ inl k | inr key ↦ inr (map-listed (is_map_of e) t.maps l there key) ]
map-stays (Peer new) t l h there = inl there
map-stays (DropPeer e a p) t l h there = inl there
map-stays Start t l h there = absurd h
map-stays Lose t l h there = absurd h
map-stays Mark t l h there = absurd h
map-stays (Rest e p x) t l h there = absurd h
map-stays (Renumber a) t l h there = absurd h

peer-stays : (change : Change) (t : Table) (l : PeerLease) → ChangesLease change → IsIn l t.peers → PeerStays change t l
peer-stays (Peer new) t l h there =
    elim (put-stays (is_peer_of new.endpoint new.remote new.remote_port) new t.peers l there) [
      | inl k ↦ inl k
      | inr key ↦ inr (peer-listed (is_peer_of new.endpoint new.remote new.remote_port) t.peers l there key)
    ]
peer-stays (DropPeer e a p) t l h there =
    elim (filter-stays (is_peer_of e a p) t.peers l there) [ inl k ↦ inl k | inr key ↦ inr (peer-listed (is_peer_of e a p) t.peers l there key) ]
peer-stays (Map new) t l h there = inl there
peer-stays (DropMap e) t l h there = inl there
peer-stays Start t l h there = absurd h
peer-stays Lose t l h there = absurd h
peer-stays Mark t l h there = absurd h
peer-stays (Rest e p x) t l h there = absurd h
peer-stays (Renumber a) t l h there = absurd h

-- ---- by the record of an entry

-- a live lease stays, or the entry may change it
record Keeps (config : Config) (e : Entry) (s : State) (kept : Option Record) : Type 0 where
  maps : (l : MapLease) → IsIn l (live s.table e.moment).maps → IsIn l (with_kept s kept).table.maps ⊎ MayChange config e l.nonce
  peers : (l : PeerLease) → IsIn l (live s.table e.moment).peers → IsIn l (with_kept s kept).table.peers ⊎ MayChange config e l.nonce

keeps-none : (config : Config) (e : Entry) (s : State) → Keeps config e s None
keeps-none config e s = record {
  maps = λ l h. inl (IsIn-filter _ s.table.maps l h).0;
  peers = λ l h. inl (IsIn-filter _ s.table.peers l h).0;
}

-- the record of a request
keeps-request : (x : Served) (e : Entry) (s : State) (of : IsOfTable x s e) (r : Record) → e.kept ≡ Some r → ChangesLease r.change → r.moment ≡ e.moment →
    ((nonce : Nonce) → Contains (nonces_of r.change (live s.table e.moment)) nonce → HasNonce of.request.ask nonce) → Keeps x.config e s (Some r)
keeps-request x e s of r is change moment nonces = record {
  maps = λ l h. subst (λ m. IsIn l (table_changed r.change (live s.table m)).maps ⊎ MayChange x.config e l.nonce) (sym moment)
      (elim (map-stays r.change (live s.table e.moment) l change h) [
        | inl k ↦ inl k
        | inr there ↦ inr (inl (record { request = of.request; asks = of.asks; nonce_of = nonces l.nonce there }))
      ]);
  peers = λ l h. subst (λ m. IsIn l (table_changed r.change (live s.table m)).peers ⊎ MayChange x.config e l.nonce) (sym moment)
      (elim (peer-stays r.change (live s.table e.moment) l change h) [
        | inl k ↦ inl k
        | inr there ↦ inr (inl (record { request = of.request; asks = of.asks; nonce_of = nonces l.nonce there }))
      ]);
}

-- a record of the server itself
keeps-server : (config : Config) (before : List Entry) (e : Entry) (s : State) (r : Record) → entry_kind e ≡ OfServer r → r.moment ≡ e.moment →
    ServerDeed before r → Keeps config e s (Some r)
keeps-server config before e s r kind moment (begins is) =
    let anew : begins_anew (entry_kind e) ≡ true = ap begins_anew kind ∙ is in
    record { maps = λ l h. inr (inr anew); peers = λ l h. inr (inr anew) }
keeps-server config before e s r kind moment (renumbers a is just) = record {
  maps = λ l h. inl (subst (λ c. IsIn l (table_changed c (live s.table r.moment)).maps) (sym is) (subst (λ m. IsIn l (live s.table m).maps) (sym moment) h));
  peers = λ l h. inl (subst (λ c. IsIn l (table_changed c (live s.table r.moment)).peers) (sym is) (subst (λ m. IsIn l (live s.table m).peers) (sym moment) h));
}

keeps : DecisionsChangeLeases → NoncesMatch → (x : Served) (opening : State) (before : List Entry) (e : Entry) → IsWell (state_after opening before) →
    IsNextEntry x opening before e → Keeps x.config e (state_after opening before) e.kept
keeps changes match x opening before e well next = by (kind_of_entry e)
  where
    decided : (of : IsOfTable x (state_after opening before) e) (k : Option Record) → e.kept ≡ k → Keeps x.config e (state_after opening before) k
    decided of None is = keeps-none x.config e (state_after opening before)
    decided of (Some r) is =
        let s = state_after opening before in
        let there = sym of.kept ∙ is in
        let change = if-some (decided_on x s e.moment of.request).kept (λ r. ChangesLease r.change × (r.moment ≡ e.moment)) r
        (changes (terms_of x.external x.config) s e.moment of.request.ask) there in
        keeps-request x e s of r is change.0 change.1
        (if-some (decided_on x s e.moment of.request).kept
        (λ r. (nonce : Nonce) → Contains (nonces_of r.change (live s.table e.moment)) nonce → HasNonce of.request.ask nonce) r
        (match (terms_of x.external x.config) s e.moment of.request.ask well.reached) there)

    by : KindOf e → Keeps x.config e (state_after opening before) e.kept
    by (is_fault kind none) = subst (λ k. Keeps x.config e (state_after opening before) k) (sym none) (keeps-none x.config e (state_after opening before))
    by (is_server r kind some) = subst (λ k. Keeps x.config e (state_after opening before) k) (sym some)
        (keeps-server x.config before e (state_after opening before) r kind (if-some e.kept (λ r. r.moment ≡ e.moment) r next.recorded some)
        (server_deed before r.moment r.change (of-kind x opening before e (OfServer r) kind next)))
    by (is_request kind) = decided (of-kind x opening before e OfRequest kind next) e.kept refl

pub nonces-decide : DatagramAsksAreWellFormed → DecisionsFit → DecisionsChangeLeases → NoncesMatch → NoncesDecide
nonces-decide formed fit changes match x opening before e more opens legal =
    let well = well-after formed fit x opening before opens (prefix-legal x opening before (e ∷ more) legal) in
    let k = keeps changes match x opening before e well (legal before e more refl) in
    subst (λ (s : State). ChangesByNonce x.config e (state_after opening before).table s.table) (sym (state-more opening before e))
    (record {
      maps = λ l h. elim (k.maps l (IsIn-from_Contains (live (state_after opening before).table e.moment).maps l h)) [
        | inl there ↦ inl (Contains-from_IsIn (with_kept (state_after opening before) e.kept).table.maps l there)
        | inr may ↦ inr may
      ];
      peers = λ l h. elim (k.peers l (IsIn-from_Contains (live (state_after opening before).table e.moment).peers l h)) [
        | inl there ↦ inl (Contains-from_IsIn (with_kept (state_after opening before) e.kept).table.peers l there)
        | inr may ↦ inr may
      ];
    })
