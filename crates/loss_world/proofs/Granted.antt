-- Each lease of a table was granted by an entry of the history.
use Rattle.std.specs.List.{AllByRecursion}
use Rattle.std.specs.Prelude.{Contains, IfSome, nat_lt, not, unwrap_or}
use Rattle.std.proofs.Common.{◌≡◌, ◌∙◌, ◌⊎◌, inl, inr, ℕ, ◌%◌, ◌^◌, ◌<◌, Bool, List, [], ◌∷◌, length, Option, Some, None, refl, ap, sym, subst}
use Rattle.std.proofs.lemmas.Bool.{cond_both}
use Rattle.pcp_base.proofs.Members.{All-IsIn, All-filter, All-weaker, IsIn-from_Contains}
use Rattle.pcp_base.specs.declared.addresses.Address.{Address}
use Rattle.pcp_base.specs.declared.addresses.Nonce.{Nonce}
use Rattle.pcp_base.specs.declared.asks.Answer.{Answer}
use Rattle.pcp_base.specs.declared.asks.Ask.{Ask}
use Rattle.pcp_base.specs.declared.asks.Ask.TheVariants as Asks
use Rattle.pcp_base.specs.declared.asks.MapAsk.{MapAsk}
use Rattle.pcp_base.specs.declared.asks.PeerAsk.{PeerAsk}
use Rattle.pcp_base.specs.declared.asks.Refusal.{Refusal}
use Rattle.pcp_base.specs.declared.configs.Config.{Config}
use Rattle.pcp_base.specs.declared.datagrams.Datagram.{Datagram}
use Rattle.pcp_base.specs.declared.leases.Endpoint.{Endpoint}
use Rattle.pcp_base.specs.declared.leases.MapLease.{MapLease}
use Rattle.pcp_base.specs.declared.leases.PeerLease.{PeerLease}
use Rattle.pcp_base.specs.declared.records.Change.{Change}
use Rattle.pcp_base.specs.declared.records.Change.TheVariants as Changes
use Rattle.pcp_base.specs.declared.records.Record.{Record}
use Rattle.pcp_base.specs.Apply.{table_changed}
use Rattle.pcp_base.specs.Protocols.{protocol_number}
use Rattle.pcp_base.specs.States.{State}
use Rattle.pcp_base.specs.Tables.{Table, first_endpoint, is_map_of, is_peer_of, live, put}
use Rattle.pcp_codec.specs.declared.requests.Common.{Common}
use Rattle.pcp_codec.specs.Requests.{body_of}
use Rattle.pcp_options.specs.declared.options.Item.{Item}
use Rattle.pcp_options.specs.declared.verdicts.Verdict.{Verdict}
use Rattle.pcp_options.specs.declared.verdicts.Verdict.TheVariants.{Silent, Refuse, Asked}
use Rattle.pcp_options.specs.Asking.{subject_of, third_of}
use Rattle.pcp_options.specs.Replies.{assigned, assigned_common, reply_text}
use Rattle.pcp_options.specs.Responses.{AreOctets, FitsBody, FitsCommon}
use Rattle.pcp_options.specs.Verdicts.{verdict_of}
use Rattle.option_laws.specs.Asked.{AsksAreOfRequests, AsksCommon}
use Rattle.option_laws.specs.Fitting.{RequestsFit}
use Rattle.option_laws.specs.Grants.{MapGrantsAreRead, PeerGrantsAreRead, TellsGrant}
use Rattle.option_laws.specs.Octets.{OctetsAreAsked, OctetsBody, OctetsCommon}
use Rattle.lease_store.specs.declared.terms.Terms.{Terms}
use Rattle.lease_core.specs.Answers.{granted_lifetime}
use Rattle.lease_core.specs.Decide.{decide}
use Rattle.lease_core.specs.Laws.{ChangesLease}
use Rattle.decision_laws.specs.Granting.{IsNewMap, IsNewMapOf, IsNewPeer, IsNewPeerOf, MapsAreGranted, PeersAreGranted, RenewsMap, RenewsPeer}
use Rattle.lease_histories.specs.Entries.{Request, request_by}
use Rattle.lease_histories.specs.HouseHistories.{HouseEntry}
use Rattle.lease_histories.specs.PlainHouses.{with_kept}
use Rattle.loss_world.specs.Disclosure.{Grants, HasCommon}

-- what the crates below say of requests and decisions
pub record GrantLaws : Type 0 where
  pub fit : RequestsFit
  pub octets : OctetsAreAsked
  pub asks : AsksAreOfRequests
  pub maps_read : MapGrantsAreRead
  pub peers_read : PeerGrantsAreRead
  pub maps : MapsAreGranted
  pub peers : PeersAreGranted

-- A lease of the external address at this place, for this endpoint, was granted by an entry, which told its nonce and,
-- in 16 bits, its external port.
pub record IsGrantedAt (history : List HouseEntry) (place : ℕ) (internal : Address) (nonce : Nonce)
    (protocol port external : ℕ) : Type 0 where
  pub entry : HouseEntry
  pub among : Contains history entry
  pub place_is : entry.place ≡ place
  pub told : Common
  pub grants : Grants entry told internal
  pub nonce_is : told.nonce ≡ nonce
  pub protocol_is : told.protocol ≡ protocol
  pub internal_is : told.internal ≡ port
  pub external_is : told.external ≡ external % 2 ^ 16
  pub long : length nonce.0 ≡ 12
  pub octets : AreOctets nonce.0
  pub fits : port < 2 ^ 16

abbrev pub MapGranted : List HouseEntry → ℕ → MapLease → Type 0
MapGranted history place l = IsGrantedAt history place l.address l.nonce (protocol_number l.protocol) l.internal l.external

-- the remote peer of a lease, as its types hold it
pub record IsRemote (l : PeerLease) : Type 0 where
  pub long : length l.remote.0 ≡ 16
  pub octets : AreOctets l.remote.0
  pub fits : l.remote_port < 2 ^ 16

abbrev pub PeerGranted : List HouseEntry → ℕ → PeerLease → Type 0
PeerGranted history place l =
    IsGrantedAt history place l.endpoint.address l.nonce (protocol_number l.endpoint.protocol) l.endpoint.port l.external × IsRemote l

pub record TableGranted (history : List HouseEntry) (place : ℕ) (t : Table) : Type 0 where
  pub maps : AllByRecursion (MapGranted history place) t.maps
  pub peers : AllByRecursion (PeerGranted history place) t.peers

-- ---- the history grows

module _ (history more : List HouseEntry) (f : (h : HouseEntry) → Contains history h → Contains more h) where
  granted-more : (place : ℕ) (internal : Address) (nonce : Nonce) (protocol port external : ℕ)
      → IsGrantedAt history place internal nonce protocol port external → IsGrantedAt more place internal nonce protocol port external
  granted-more place internal nonce protocol port external h = record {
    entry = h.entry;
    among = f h.entry h.among;
    place_is = h.place_is;
    told = h.told;
    grants = h.grants;
    nonce_is = h.nonce_is;
    protocol_is = h.protocol_is;
    internal_is = h.internal_is;
    external_is = h.external_is;
    long = h.long;
    octets = h.octets;
    fits = h.fits;
  }

  pub table-more : (place : ℕ) (t : Table) → TableGranted history place t → TableGranted more place t
  table-more place t h = record {
    maps = All-weaker (MapGranted history place) (MapGranted more place)
        (λ l g. granted-more place l.address l.nonce (protocol_number l.protocol) l.internal l.external g) t.maps h.maps;
    peers = All-weaker (PeerGranted history place) (PeerGranted more place)
        (λ l g. (granted-more place l.endpoint.address l.nonce (protocol_number l.endpoint.protocol) l.endpoint.port l.external g.0, g.1)) t.peers h.peers;
  }

-- ---- a record changes a table

pub live-granted : (history : List HouseEntry) (place : ℕ) (t : Table) (m : ℕ) → TableGranted history place t
    → TableGranted history place (live t m)
live-granted history place t m h = record {
  maps = All-filter (MapGranted history place) (λ l. nat_lt m l.expiry) t.maps h.maps;
  peers = All-filter (PeerGranted history place) (λ l. nat_lt m l.expiry) t.peers h.peers;
}

All-put : {X : Type 0} (P : X → Type 0) (has_key : X → Bool) (l : X) (xs : List X) → P l → AllByRecursion P xs
    → AllByRecursion P (put has_key l xs)
All-put P has_key l [] p h = (p, tt)
All-put P has_key l (x ∷ xs) p h =
    cond_both (has_key x) (l ∷ xs) (x ∷ put has_key l xs) (AllByRecursion P) (λ _. (p, h.1)) (λ _. (h.0, All-put P has_key l xs p h.1))

pub change-granted : (history : List HouseEntry) (place : ℕ) (change : Change) (t : Table) → TableGranted history place t
    → ((l : MapLease) → change ≡ Changes.Map l → MapGranted history place l)
    → ((l : PeerLease) → change ≡ Changes.Peer l → PeerGranted history place l)
    → TableGranted history place (table_changed change t)
change-granted history place Changes.Start t h f g = record { maps = tt; peers = tt }
change-granted history place Changes.Lose t h f g = record { maps = tt; peers = tt }
change-granted history place (Changes.Map l) t h f g =
    record { maps = All-put (MapGranted history place) (is_map_of (first_endpoint l)) l t.maps (f l refl) h.maps; peers = h.peers }
change-granted history place (Changes.Peer l) t h f g =
    record { maps = h.maps; peers = All-put (PeerGranted history place) (is_peer_of l.endpoint l.remote l.remote_port) l t.peers (g l refl) h.peers }
change-granted history place (Changes.DropMap e) t h f g =
    record { maps = All-filter (MapGranted history place) (λ l. not (is_map_of e l)) t.maps h.maps; peers = h.peers }
change-granted history place (Changes.DropPeer e remote port) t h f g =
    record { maps = h.maps; peers = All-filter (PeerGranted history place) (λ l. not (is_peer_of e remote port l)) t.peers h.peers }
change-granted history place (Changes.Rest e port end) t h f g = h
change-granted history place (Changes.Renumber a) t h f g = h
change-granted history place Changes.Mark t h f g = h

-- ---- a request makes an entry

pub record IsMade (history : List HouseEntry) (place : ℕ) (config : Config) (d : Datagram) (terms : Terms) (s : State)
    (m epoch : ℕ) (request : Request) (new : HouseEntry) : Type 0 where
  pub among : Contains history new
  pub place_is : new.place ≡ place
  pub from : new.entry.from ≡ d
  pub octets : AreOctets d.octets
  pub judged : request_by (verdict_of config d.peer d.octets) ≡ Some request
  pub reply : new.entry.reply ≡ reply_text d.octets request.items (decide terms s m request.ask).answer epoch
  pub later : epoch < 2 ^ 32
  pub long : length terms.external.address.0 ≡ 16
  pub lasts : (n : ℕ) → 0 < granted_lifetime terms n
  pub some : (n : ℕ) → granted_lifetime terms n < 2 ^ 32

-- what is asked came as a request that is asked
pub data CameSo (v : Verdict) (request : Request) : Type 0 where
  refused : (refusal : Refusal) → request.ask ≡ Asks.Known refusal → CameSo v request
  asked : (place : ℕ) → v ≡ Asked place request.ask request.items → CameSo v request

came : (v : Verdict) (request : Request) → request_by v ≡ Some request → CameSo v request
came Silent request h = absurd cc
came (Refuse refusal) request h =
    let made : Request = record { ask = Asks.Known refusal; items = [] } in
    let same : made ≡ request = cc in
    refused refusal (ap (λ (x : Request). x.ask) (sym same))
came (Asked place ask items) request h =
    let made : Request = record { ask = ask; items = items } in
    let same : made ≡ request = cc in
    asked place (ap (λ (x : Request). Asked place x.ask x.items) same)

subject : (source : Address) (third : Option Address) → unwrap_or third source ≡ subject_of source third
subject source None = refl
subject source (Some a) = refl

-- the entry of a grant grants the lease for the endpoint that was asked for
granted-by : (history : List HouseEntry) (place : ℕ) (new : HouseEntry) → Contains history new → new.place ≡ place
    → (d : Datagram) → new.entry.from ≡ d → (items : List Item) (lifetime external : ℕ) (address : Address)
    → TellsGrant d.octets items lifetime external address new.entry.reply → 0 < lifetime
    → (c : Common) → HasCommon (assigned (body_of d.octets) (external % 2 ^ 16) address) (assigned_common c (external % 2 ^ 16) address)
    → FitsCommon c → OctetsCommon c → (e : Endpoint) (n : Nonce) → AsksCommon (subject_of d.peer (third_of items)) c e n
    → (internal : Address) (nonce : Nonce) (protocol port : ℕ) → internal ≡ e.address → nonce ≡ n → protocol ≡ protocol_number e.protocol → port ≡ e.port
    → IsGrantedAt history place internal nonce protocol port external
granted-by history place new among at d from items lifetime external address tells lasts c has fits octets e n asks internal nonce protocol port a b p q = record {
  entry = new;
  among = among;
  place_is = at;
  told = assigned_common c (external % 2 ^ 16) address;
  grants = record {
    response = tells.response;
    read = tells.read;
    success = tells.success;
    lasts = subst (λ k. 0 < k) (sym tells.lifetime_is) lasts;
    common = subst (λ b. HasCommon b (assigned_common c (external % 2 ^ 16) address)) (sym tells.body) has;
    address = ap (λ t. unwrap_or t new.entry.from.peer) tells.third ∙ ap (λ (x : Datagram). unwrap_or (third_of items) x.peer) from ∙ subject d.peer (third_of items) ∙ sym asks.address_is ∙ sym a;
  };
  nonce_is = sym (b ∙ asks.nonce_is);
  protocol_is = sym (p ∙ asks.protocol);
  internal_is = sym (q ∙ asks.port);
  external_is = refl;
  long = subst (λ (x : Nonce). length x.0 ≡ 12) (sym (b ∙ asks.nonce_is)) fits.0;
  octets = subst (λ (x : Nonce). AreOctets x.0) (sym (b ∙ asks.nonce_is)) octets.0;
  fits = subst (λ k. k < 2 ^ 16) (sym (q ∙ asks.port)) fits.2;
}

module _ (laws : GrantLaws) (history : List HouseEntry) (place : ℕ) (config : Config) (d : Datagram) (terms : Terms) (s : State) (m epoch : ℕ) (request : Request) (new : HouseEntry) (made : IsMade history place config d terms s m epoch request new) where
  abbrev Told : Answer
  Told = (decide terms s m request.ask).answer

  map-so : (ask : MapAsk) (l : MapLease) → request.ask ≡ Asks.Map ask → IsNewMap terms ask Told l
      → CameSo (verdict_of config d.peer d.octets) request → MapGranted history place l
  map-so ask l is n (refused refusal bad) = let no : Asks.Known refusal ≡ Asks.Map ask = sym bad ∙ is in absurd cc
  map-so ask l is n (asked at judged) =
      let this : verdict_of config d.peer d.octets ≡ Asked at (Asks.Map ask) request.items = judged ∙ ap (λ a. Asked at a request.items) is in
      let so = (laws.asks config d.peer d.octets at (Asks.Map ask) request.items this).asks in
      let fit = (laws.fit config d.peer d.octets at (Asks.Map ask) request.items made.octets this).body in
      let octets = (laws.octets config d.peer d.octets at (Asks.Map ask) request.items made.octets this).0 in
      let lifetime = granted_lifetime terms ask.lifetime in
      let address = terms.external.address in
      let tells = laws.maps_read config d.peer d.octets at (Asks.Map ask) request.items lifetime l.external address n.set epoch made.octets this (made.some ask.lifetime) made.later made.long in
      let reply = made.reply ∙ ap (λ a. reply_text d.octets request.items a epoch) n.told in
      let body = so.body_is in
      granted-by history place new made.among made.place_is d made.from request.items lifetime l.external address
      (subst (TellsGrant d.octets request.items lifetime l.external address) (sym reply) tells) (made.lasts ask.lifetime) so.common
      (subst (λ b. HasCommon (assigned b (l.external % 2 ^ 16) address) (assigned_common so.common (l.external % 2 ^ 16) address)) (sym body) refl)
      (subst FitsBody body fit) (subst OctetsBody body octets) ask.endpoint ask.nonce so.asks l.address l.nonce (protocol_number l.protocol) l.internal
      n.address n.nonce (ap protocol_number n.protocol) n.internal

  new-map : (a : Ask) (l : MapLease) → request.ask ≡ a → IsNewMapOf terms a Told l → MapGranted history place l
  new-map (Asks.Map ask) l is n = map-so ask l is n (came (verdict_of config d.peer d.octets) request made.judged)
  new-map (Asks.Peer ask) l is n = absurd n
  new-map (Asks.Known refusal) l is n = absurd n
  new-map Asks.Announce l is n = absurd n

  peer-so : (ask : PeerAsk) (l : PeerLease) → request.ask ≡ Asks.Peer ask → IsNewPeer terms ask Told l
      → CameSo (verdict_of config d.peer d.octets) request → PeerGranted history place l
  peer-so ask l is n (refused refusal bad) = let no : Asks.Known refusal ≡ Asks.Peer ask = sym bad ∙ is in absurd cc
  peer-so ask l is n (asked at judged) =
      let this : verdict_of config d.peer d.octets ≡ Asked at (Asks.Peer ask) request.items = judged ∙ ap (λ a. Asked at a request.items) is in
      let so = (laws.asks config d.peer d.octets at (Asks.Peer ask) request.items this).asks in
      let body = so.body_is in
      let fit = subst FitsBody body (laws.fit config d.peer d.octets at (Asks.Peer ask) request.items made.octets this).body in
      let octets = subst OctetsBody body (laws.octets config d.peer d.octets at (Asks.Peer ask) request.items made.octets this).0 in
      let lifetime = granted_lifetime terms ask.lifetime in
      let address = terms.external.address in
      let tells = laws.peers_read config d.peer d.octets at (Asks.Peer ask) request.items lifetime l.external address epoch made.octets this (made.some ask.lifetime) made.later made.long in
      let reply = made.reply ∙ ap (λ a. reply_text d.octets request.items a epoch) n.told in (
        granted-by history place new made.among made.place_is d made.from request.items lifetime l.external address
            (subst (TellsGrant d.octets request.items lifetime l.external address) (sym reply) tells) (made.lasts ask.lifetime) so.common
            (subst (λ b. HasCommon (assigned b (l.external % 2 ^ 16) address) (assigned_common so.common (l.external % 2 ^ 16) address)) (sym body) refl)
            fit.0 octets.0 ask.endpoint ask.nonce so.asks l.endpoint.address l.nonce (protocol_number l.endpoint.protocol) l.endpoint.port
            (ap (λ (x : Endpoint). x.address) n.endpoint) n.nonce (ap (λ (x : Endpoint). protocol_number x.protocol) n.endpoint) (ap (λ (x : Endpoint). x.port) n.endpoint),
        record {
          long = subst (λ (x : Address). length x.0 ≡ 16) (sym n.remote) fit.2;
          octets = subst (λ (x : Address). AreOctets x.0) (sym n.remote) octets.1;
          fits = subst (λ k. k < 2 ^ 16) (sym n.remote_port) fit.1;
        },
      )

  new-peer : (a : Ask) (l : PeerLease) → request.ask ≡ a → IsNewPeerOf terms a Told l → PeerGranted history place l
  new-peer (Asks.Peer ask) l is n = peer-so ask l is n (came (verdict_of config d.peer d.octets) request made.judged)
  new-peer (Asks.Map ask) l is n = absurd n
  new-peer (Asks.Known refusal) l is n = absurd n
  new-peer Asks.Announce l is n = absurd n

  module _ (h : TableGranted history place s.table) where
    map-kept : (l : MapLease) → RenewsMap s l ⊎ IsNewMapOf terms request.ask Told l → MapGranted history place l
    map-kept l (inl r) =
        subst (MapGranted history place) (sym r.same) (All-IsIn (MapGranted history place) s.table.maps r.old h.maps (IsIn-from_Contains s.table.maps r.old r.among))
    map-kept l (inr n) = new-map request.ask l refl n

    peer-kept : (l : PeerLease) → RenewsPeer s l ⊎ IsNewPeerOf terms request.ask Told l → PeerGranted history place l
    peer-kept l (inl r) =
        let old = All-IsIn (PeerGranted history place) s.table.peers r.old h.peers (IsIn-from_Contains s.table.peers r.old r.among) in
        subst (PeerGranted history place) (sym r.same) (old.0, record { long = old.1.long; octets = old.1.octets; fits = old.1.fits })
    peer-kept l (inr n) = new-peer request.ask l refl n

    record-is : (r : Record) (change : Change) → r.moment ≡ m → r.change ≡ change → Some r ≡ Some (record { moment = m; change = change })
    record-is r change at is =
        ap (λ n. Some (record { moment = n; change = r.change })) at ∙ ap (λ c. Some (record { moment = m; change = c })) is

    pub table-kept : (kept : Option Record) → (decide terms s m request.ask).kept ≡ kept
        → IfSome kept (λ r. ChangesLease r.change × (r.moment ≡ m)) → TableGranted history place (with_kept s kept).table
    table-kept None is law = h
    table-kept (Some r) is law =
        change-granted history place r.change (live s.table r.moment) (live-granted history place s.table r.moment h)
        (λ l e. map-kept l (laws.maps terms s m request.ask l (is ∙ record-is r (Changes.Map l) law.1 e)))
        (λ l e. peer-kept l (laws.peers terms s m request.ask l (is ∙ record-is r (Changes.Peer l) law.1 e)))
