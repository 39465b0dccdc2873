-- That what is kept of a PEER request suits the state.
use Rattle.std.proofs.Common.{◌≡◌, ◌∙◌, ℕ, ◌+◌, ◌<◌, ◌≤◌, ◌^◌, true, false, List, [], ◌∷◌, Option, Some, None, find, map, refl, ap, sym, subst, arith, inl, inr}
use Rattle.std.specs.Prelude.{◌&&◌, ◌==◌, nat_lt, flat_map, length, IsSome, IfSome, IfNone}
use Rattle.std.specs.Option.{option_map, option_or}
use Rattle.std.proofs.lemmas.Bool.{and_parts, leb-false, eqb-true}
use Rattle.pcp_base.specs.declared.addresses.Address.{Address}
use Rattle.pcp_base.specs.declared.leases.TheConstants.{MOST_LEASES, MOST_PEERS}
use Rattle.pcp_base.specs.declared.leases.Endpoint.{Endpoint}
use Rattle.pcp_base.specs.declared.leases.PeerLease.{PeerLease}
use Rattle.pcp_base.specs.declared.leases.Owner.{Owner}
use Rattle.pcp_base.specs.declared.asks.PeerAsk.{PeerAsk}
use Rattle.pcp_base.specs.declared.records.Change.TheVariants.{Peer, DropPeer}
use Rattle.pcp_base.specs.Asks.{IsPeerAsk}
use Rattle.pcp_base.specs.Tables.{Table, live, is_peer_of, IsMapLease, IsPeerLease, same_endpoint, same_address}
use Rattle.pcp_base.specs.Owners.{owners, map_owner, map_owners, peer_owner, is_owned}
use Rattle.pcp_base.specs.States.{State}
use Rattle.pcp_base.specs.Records.{IsTermAt}
use Rattle.pcp_base.specs.Sound.{Sound}
use Rattle.pcp_base.specs.Reached.{IsReached}
use Rattle.pcp_base.specs.Fits.{RestForNoOther}
use Rattle.pcp_base.specs.Rooms.{Agree, HasRoomForPeer, Suits}
use Rattle.pcp_base.proofs.Members.{All-IsIn, IsIn, IsIn-append, IsIn-flat_map, IsIn-map, IsIn-from_Contains, IsIn-filter, find-some}
use Rattle.pcp_base.proofs.Same.{same_address-Decides, same_endpoint-Decides}
use Rattle.pcp_base.proofs.TableLemmas.{map_owners-IsIn, Sound-live}
use Rattle.pcp_base.proofs.EndLemmas.{owner-ports, some-owned}
use Rattle.external_pool.specs.declared.asks.Picked.{Picked}
use Rattle.lease_store.specs.declared.terms.Terms.{Terms}
use Rattle.lease_store.specs.LeaseTerms.{AreTerms}
use Rattle.lease_store.specs.Lookups.{covering, named_port, peer_count, peering, with_port}
use Rattle.lease_store.specs.Picks.{pick}
use Rattle.lease_core.specs.Answers.{port_within}
use Rattle.lease_core.specs.DecidePeer.{given_port, new_peer, peer_choice_by, renewed_peer}
use Rattle.lease_core.proofs.Deeds.{IsGrantedPort, IsKnown}
use Rattle.lease_core.proofs.Fresh.{agree-owned, given-owner, no_owner, none_mapped, owner_at, rested-owned, some_mapped, unused-from_none}
use Rattle.lease_core.proofs.MapFits.{new-term, renewed-term, no_start}
use Rattle.lease_core.proofs.OpenPorts.{IsOpenPort, picked-open, picked-some}

-- when a decision may be made on a PEER request
pub record MayDecidePeer (terms : Terms) (s : State) (m : ℕ) (ask : PeerAsk) : Type 0 where
  pub allowed : AreTerms terms
  pub reached : IsReached s
  pub started : s.started ≡ true
  pub later : s.last ≤ m
  pub moment : m < 2 ^ 40
  pub formed : IsPeerAsk ask

-- a live PEER lease of this key
pub record IsLivePeer (s : State) (m : ℕ) (ask : PeerAsk) (lease : PeerLease) : Type 0 where
  pub live : IsIn lease (live s.table m).peers
  pub endpoint : lease.endpoint ≡ ask.endpoint
  pub remote : lease.remote ≡ ask.remote
  pub port : lease.remote_port ≡ ask.remote_port
  pub formed : IsPeerLease lease
  pub term : IsTermAt s.last lease.granted lease.expiry

pub live-peer : (s : State) (m : ℕ) (ask : PeerAsk) (lease : PeerLease) → IsReached s →
    peering s.table m ask.endpoint ask.remote ask.remote_port ≡ Some lease → IsLivePeer s m ask lease
live-peer s m ask lease reached h =
    let found = find-some (is_peer_of ask.endpoint ask.remote ask.remote_port) (live s.table m).peers lease h in
    let there = (IsIn-filter (λ l. nat_lt m l.expiry) s.table.peers lease found.0).0 in
    let a = and_parts (same_endpoint lease.endpoint ask.endpoint && same_address lease.remote ask.remote) (lease.remote_port == ask.remote_port) found.1 in
    let b = and_parts (same_endpoint lease.endpoint ask.endpoint) (same_address lease.remote ask.remote) a.0 in record {
      live = found.0;
      endpoint = (same_endpoint-Decides lease.endpoint ask.endpoint).0 b.0;
      remote = (same_address-Decides lease.remote ask.remote).0 b.1;
      port = eqb-true lease.remote_port ask.remote_port a.1;
      formed = All-IsIn IsPeerLease s.table.peers lease reached.sound.table.peers there;
      term = All-IsIn (λ l. IsTermAt s.last l.granted l.expiry) s.table.peers lease reached.peers there;
    }

-- it is found by its own key
own_key : (peers : List PeerLease) (e f : Endpoint) (a b : Address) (m n : ℕ) (lease : PeerLease) →
    find (is_peer_of e a m) peers ≡ Some lease → f ≡ e → b ≡ a → n ≡ m → find (is_peer_of f b n) peers ≡ Some lease
own_key peers e f a b m n lease h endpoint remote port =
    ap (λ x. find (is_peer_of x b n) peers) endpoint ∙ ap (λ x. find (is_peer_of e x n) peers) remote
    ∙ ap (λ x. find (is_peer_of e a x) peers) port ∙ h

pub drop_peer-suits : (terms : Terms) (s : State) (m : ℕ) (ask : PeerAsk) (lease : PeerLease) → MayDecidePeer terms s m ask →
    IsKnown s m ask lease → Suits s (record { moment = m; change = DropPeer ask.endpoint ask.remote ask.remote_port })
drop_peer-suits terms s m ask lease may h = record {
  formed = record { moment = may.moment; change = (may.formed.internal.some, may.formed.remote.some) };
  first = no_start s may.started;
  later = may.later;
  allowed = subst (λ (o : Option PeerLease). IsSome o) (sym h.peering) refl;
  rested = tt;
  room = tt;
}

pub renew_peer-suits : (terms : Terms) (s : State) (m : ℕ) (ask : PeerAsk) (lease : PeerLease) → MayDecidePeer terms s m ask →
    IsKnown s m ask lease → Suits s (record { moment = m; change = Peer (renewed_peer terms m ask lease) })
renew_peer-suits terms s m ask lease may h =
    let l = live-peer s m ask lease may.reached h.peering in
    let new = renewed_peer terms m ask lease in
    let own = own_key (live s.table m).peers ask.endpoint lease.endpoint ask.remote lease.remote ask.remote_port lease.remote_port
    lease h.peering l.endpoint l.remote l.port in record {
      formed = record {
        moment = may.moment;
        change = (
          record {
            internal = l.formed.internal;
            external = l.formed.external;
            external_end = l.formed.external_end;
            remote = l.formed.remote;
          },
          renewed-term terms s.last m ask.lifetime lease.granted lease.expiry may.allowed may.moment may.later l.term,
        );
      };
      first = no_start s may.started;
      later = may.later;
      allowed = subst (λ (o : Option PeerLease). IfSome o (λ old. new ≡ record old { expiry = new.expiry })) (sym own) refl;
      rested = subst (λ (o : Option PeerLease). IfNone o (RestForNoOther s m (peer_owner new ∷ []))) (sym own) tt;
      room = subst (λ (o : Option PeerLease). IfNone o (HasRoomForPeer (live s.table m) new)) (sym own) tt;
    }

-- ---- a grant

owner-end : (t : Table) (o : Owner) → Sound t → IsIn o (owners t) → o.external ≤ 65535
owner-end t o sound h =
    elim (IsIn-append (flat_map map_owners t.maps) (map peer_owner t.peers) o h) [
      | inl a ↦ (let r = IsIn-flat_map map_owners t.maps o a in
          let end = (All-IsIn IsMapLease t.maps r.0 sound.maps r.1).ports.external_end in
          let k = map_owners-IsIn r.0 o r.2 in
          let below = k.1 in
          let here : (map_owner r.0 k.0).external ≤ 65535 = omega arith in
          subst (λ (x : Owner). x.external ≤ 65535) k.2 here)
      | inr b ↦ (let r = IsIn-map peer_owner t.peers o b in
          subst (λ (x : Owner). x.external ≤ 65535) r.2 (All-IsIn IsPeerLease t.peers r.0 sound.peers r.1).external_end)
    ]

-- what the port of a new lease must be to suit a state
pub record IsNewPort (s : State) (m : ℕ) (e : Endpoint) (port : ℕ) : Type 0 where
  pub some : 0 < port
  pub end : port ≤ 65535
  pub agree : Agree (owners (live s.table m)) (owner_at e port ∷ [])
  pub rested : RestForNoOther s m (owner_at e port ∷ [])

only_one : (o q : Owner) → IsIn q (o ∷ []) → q ≡ o
only_one o q (inl e) = sym e
only_one o q (inr h) = absurd h

given_is_new : (s : State) (m : ℕ) (e : Endpoint) (port : ℕ) → IsReached s → given_port s.table m e ≡ Some port → IsNewPort s m e port
given_is_new s m e port reached h =
    let sound = Sound-live s.table m reached.sound.table in
    let there = given-owner s.table m e port h in record {
      some = (owner-ports (live s.table m) (owner_at e port) sound there).1;
      end = owner-end (live s.table m) (owner_at e port) sound there;
      agree = agree-owned (owners (live s.table m)) (owner_at e port ∷ []) (owner_at e port) sound.one_owner sound.one_port there
          (only_one (owner_at e port));
      rested = rested-owned s m e port (owner_at e port ∷ []) there (only_one (owner_at e port));
    }

none_or : {X : Type 0} (a b : Option X) → option_or a b ≡ None → (a ≡ None) × (b ≡ None)
none_or None b h = (refl, h)
none_or (Some x) b h = absurd cc

open_is_new : (terms : Terms) (s : State) (m : ℕ) (e : Endpoint) (port : ℕ) → AreTerms terms → given_port s.table m e ≡ None →
    IsOpenPort terms s m e port → IsNewPort s m e port
open_is_new terms s m e port allowed none free =
    let both = none_or (option_map (port_within e) (covering s.table m e)) (named_port s.table m e) none in
    let unused = unused-from_none s.table m e (none_mapped (port_within e) (covering s.table m e) both.0) both.1 in
    let os = owners (live s.table m) in
    let low = free.low in let high = free.high in
    let first : 0 < terms.external.low = allowed.external.low in
    let last : terms.external.high ≤ 65535 = allowed.external.high in record {
      some = omega arith;
      end = omega arith;
      agree = record {
        owner = λ p q a b protocol external. let is = only_one (owner_at e port) q (IsIn-from_Contains (owner_at e port ∷ []) q b) in
            let unowned : is_owned e.protocol port os ≡ false = free.unowned in
            let owned_port : is_owned p.protocol p.external os ≡ true = some-owned os p (IsIn-from_Contains os p a) in
            let protocols : p.protocol ≡ e.protocol = protocol ∙ ap (λ (x : Owner). x.protocol) is in
            let ports : p.external ≡ port = external ∙ ap (λ (x : Owner). x.external) is in
            let same : is_owned p.protocol p.external os ≡ is_owned e.protocol port os =
            ap (λ k. is_owned k p.external os) protocols ∙ ap (λ k. is_owned e.protocol k os) ports in absurd cc;
        port = λ p q a b endpoint. let is = only_one (owner_at e port) q (IsIn-from_Contains (owner_at e port ∷ []) q b) in
            absurd (no_owner s.table m e p unused (IsIn-from_Contains os p a) (endpoint ∙ ap (λ (x : Owner). x.endpoint) is));
      };
      rested = (free.rests, tt);
    }

pub new-port : (terms : Terms) (s : State) (m : ℕ) (ask : PeerAsk) (given : Option ℕ) (port : ℕ) → AreTerms terms → IsReached s →
    given_port s.table m ask.endpoint ≡ given → peer_choice_by given terms s m ask ≡ Some port → IsNewPort s m ask.endpoint port
new-port terms s m ask (Some given) port allowed reached is h =
    let same : given ≡ port = cc in given_is_new s m ask.endpoint port reached (is ∙ ap (λ (k : ℕ). Some k) same)
new-port terms s m ask None port allowed reached is h =
    let e = ask.endpoint in
    let r = some_mapped (λ (run : Picked). run.start) (pick terms s m e ask.port None 1) port h in
    let some = picked-some terms s m e ask.port None 1 r.0 (omega arith) r.1 in
    let free = picked-open terms s m e ask.port None 1 r.0 r.1 0 (omega arith) in
    let inside : e.port + 0 ≡ e.port = omega arith in
    let started : r.0.start ≡ port = r.2 in
    let outside : r.0.start + 0 ≡ port = omega arith in
    open_is_new terms s m e port allowed is
    (subst (λ (k : ℕ). IsOpenPort terms s m e k) outside
    (subst (λ (k : ℕ). IsOpenPort terms s m (with_port e k) (r.0.start + 0)) inside free))

pub grant_peer-suits : (terms : Terms) (s : State) (m : ℕ) (ask : PeerAsk) (port : ℕ) → MayDecidePeer terms s m ask →
    IsGrantedPort terms s m ask port → Suits s (record { moment = m; change = Peer (new_peer terms m ask port) })
grant_peer-suits terms s m ask port may g =
    let l = new_peer terms m ask port in
    let is = new-port terms s m ask (given_port s.table m ask.endpoint) port may.allowed may.reached refl g.choice in record {
      formed = record {
        moment = may.moment;
        change = (
          record {
            internal = may.formed.internal.some;
            external = is.some;
            external_end = is.end;
            remote = may.formed.remote.some;
          },
          new-term terms m ask.lifetime may.allowed may.moment,
        );
      };
      first = no_start s may.started;
      later = may.later;
      allowed = subst (λ (o : Option PeerLease). IfSome o (λ old. l ≡ record old { expiry = l.expiry })) (sym g.unknown) tt;
      rested = subst (λ (o : Option PeerLease). IfNone o (RestForNoOther s m (peer_owner l ∷ []))) (sym g.unknown) is.rested;
      room = subst (λ (o : Option PeerLease). IfNone o (HasRoomForPeer (live s.table m) l)) (sym g.unknown) (record {
        few = leb-false MOST_PEERS (peer_count s.table m ask.endpoint) g.few;
        agree = is.agree;
        room = leb-false MOST_LEASES (length (live s.table m).maps + length (live s.table m).peers) g.room;
      });
    }
