-- An update is a message, and is traced to the entry that granted its lease.
use Rattle.std.specs.Int.{to_be_bytes, w16}
use Rattle.std.specs.List.{AllByRecursion}
use Rattle.std.specs.Prelude.{Contains, map, nat_le, nat_lt, replicate}
use Rattle.std.proofs.Common.{◌≡◌, ◌∙◌, inr, ℕ, ◌/◌, ◌%◌, ◌^◌, ◌<◌, Bool, true, false, cond, List, [], ◌∷◌, ◌++◌, length, Some, None, refl, ap, sym, subst, arith}
use Rattle.std.proofs.lemmas.Bool.{leb-true}
use Rattle.pcp_base.proofs.Members.{All-IsIn, All-append, IsIn-from_Contains}
use Rattle.pcp_base.specs.declared.addresses.Address.{Address}
use Rattle.pcp_base.specs.declared.addresses.Nonce.{Nonce}
use Rattle.pcp_base.specs.declared.datagrams.Datagram.{Datagram}
use Rattle.pcp_base.specs.declared.leases.MapLease.{MapLease}
use Rattle.pcp_base.specs.declared.leases.PeerLease.{PeerLease}
use Rattle.pcp_base.specs.declared.leases.Protocol.{Protocol}
use Rattle.pcp_base.specs.declared.leases.Protocol.TheVariants.{Tcp, Udp}
use Rattle.pcp_base.specs.Epoch.{epoch_of}
use Rattle.pcp_base.specs.Protocols.{protocol_number}
use Rattle.pcp_base.specs.States.{State}
use Rattle.pcp_base.specs.Tables.{live}
use Rattle.pcp_codec.specs.declared.requests.Body.{Body}
use Rattle.pcp_codec.specs.declared.requests.Body.TheVariants.{Map, Peer}
use Rattle.pcp_codec.specs.declared.requests.Common.{Common}
use Rattle.pcp_codec.specs.Replies.{head}
use Rattle.pcp_options.specs.declared.options.Item.{Item}
use Rattle.pcp_options.specs.declared.options.Item.TheVariants.{PortSet}
use Rattle.pcp_options.specs.declared.responses.Response.{Response}
use Rattle.pcp_options.specs.Asking.{third_of}
use Rattle.pcp_options.specs.Options.{option_of, option_text, options_text}
use Rattle.pcp_options.specs.ReadingLaws.{WrittenSuccessesAreRead, success_read}
use Rattle.pcp_options.specs.ReadResponses.{are_single, is_mapped, response_of}
use Rattle.pcp_options.specs.Replies.{common_text, opcode_of_body, remote_text, success_text}
use Rattle.pcp_options.specs.Responses.{FitsBody, FitsItem}
use Rattle.option_laws.specs.Octets.{OctetsItem}
use Rattle.pcp_announce.specs.Updates.{left_of, map_body, map_items, map_update, peer_body, peer_update}
use Rattle.lease_histories.specs.HouseHistories.{HouseEntry}
use Rattle.lease_histories.specs.PlainHouses.{raised}
use Rattle.loss_world.specs.Disclosure.{HasCommon}
use Rattle.loss_world.specs.HouseLosses.{Loses, Restarts, Renumbers, update_to, updates_by}
use Rattle.loss_world.specs.Steps.{second}
use Rattle.loss_world.specs.Worlds.{Beginning, IsAddressValue, IsEventValue, Renumbering, World, Event, ToServer, ToRelay, ToClient, RelayTicks, ClientTicks, Wants, Ends, Fails, Announces, Passes}
use Rattle.loss_world.proofs.CodeReads.{long-none}
use Rattle.loss_world.proofs.Granted.{IsGrantedAt, MapGranted, PeerGranted, TableGranted, live-granted}
use Rattle.loss_world.proofs.Held.{AreTold}
use Rattle.loss_world.proofs.RelayValues.{OctetLaws, success-message}
use Rattle.loss_world.proofs.TableSteps.{IsPastEntry, TablesOf}
use Rattle.loss_world.proofs.Traces.{IsTraced}
use Rattle.loss_world.proofs.Values.{EventTells, OutIsText}

-- ---- numbers of 16 bits

cut-bytes : (n : ℕ) → to_be_bytes w16 n ≡ to_be_bytes w16 (n % 2 ^ 16)
cut-bytes n =
    let high : n / 256 % 256 ≡ n % 2 ^ 16 / 256 % 256 = omega arith in
    let low : n % 256 ≡ n % 2 ^ 16 % 256 = omega arith in
    ap (λ h. h ∷ (n % 256) ∷ []) high ∙ ap (λ l. (n % 2 ^ 16 / 256 % 256) ∷ l ∷ []) low

-- what an update tells, as it is read
abbrev cut_common : Nonce → ℕ → ℕ → ℕ → Address → Common
cut_common nonce protocol internal external address = record {
  nonce = nonce;
  protocol = protocol;
  internal = internal;
  external = external % 2 ^ 16;
  address = address;
}

abbrev with_external : Nonce → ℕ → ℕ → ℕ → Address → Common
with_external nonce protocol internal external address = record {
  nonce = nonce;
  protocol = protocol;
  internal = internal;
  external = external;
  address = address;
}

cut-text : (nonce : Nonce) (protocol internal external : ℕ) (address : Address)
    → common_text (with_external nonce protocol internal external address) ≡ common_text (cut_common nonce protocol internal external address)
cut-text nonce protocol internal external address =
    ap (λ (x : List ℕ). nonce.0 ++ protocol ∷ 0 ∷ 0 ∷ 0 ∷ to_be_bytes w16 internal ++ x ++ address.0) (cut-bytes external)

abbrev set_items : Bool → ℕ → ℕ → List Item
set_items several size first = cond several (PortSet (record { size = size; first = first; parity = false }) ∷ []) []

cut-set : (several : Bool) (size first : ℕ)
    → options_text (map option_of (set_items several size first)) ≡ options_text (map option_of (set_items several (size % 2 ^ 16) first))
cut-set false size first = refl
cut-set true size first =
    ap (λ (x : List ℕ). option_text (record { code = 130; content = x ++ to_be_bytes w16 first ++ 0 ∷ [] }) ++ []) (cut-bytes size)

abbrev with_head : ℕ → ℕ → ℕ → List ℕ → List ℕ → List ℕ
with_head opcode lifetime epoch fields options = head opcode 0 lifetime epoch (replicate 12 0) ++ fields ++ options

abbrev map_common : MapLease → Address → Common
map_common l a = cut_common l.nonce (protocol_number l.protocol) l.internal l.external a

map-cut : (l : MapLease) (a : Address) (m base : ℕ)
    → map_update l a m base ≡ success_text (left_of l.expiry m) (epoch_of m base) (Map (map_common l a)) (set_items (nat_lt 1 l.count) (l.count % 2 ^ 16) l.internal)
map-cut l a m base =
    ap (λ x. with_head 1 (left_of l.expiry m) (epoch_of m base) x (options_text (map option_of (map_items l)))) (cut-text l.nonce (protocol_number l.protocol) l.internal l.external a)
    ∙ ap (λ x. with_head 1 (left_of l.expiry m) (epoch_of m base) (common_text (map_common l a)) x) (cut-set (nat_lt 1 l.count) l.count l.internal)

abbrev peer_common : PeerLease → Address → Common
peer_common l a = cut_common l.nonce (protocol_number l.endpoint.protocol) l.endpoint.port l.external a

peer-cut : (l : PeerLease) (a : Address) (m base : ℕ)
    → peer_update l a m base ≡ success_text (left_of l.expiry m) (epoch_of m base) (Peer (peer_common l a) l.remote_port l.remote) []
peer-cut l a m base =
    ap (λ (x : List ℕ). with_head 2 (left_of l.expiry m) (epoch_of m base) (x ++ remote_text l.remote_port l.remote) [])
    (cut-text l.nonce (protocol_number l.endpoint.protocol) l.endpoint.port l.external a)

-- ---- an update is a message

protocol-octet : (p : Protocol) → protocol_number p < 256
protocol-octet Tcp = omega arith
protocol-octet Udp = omega arith

set-octets : (several : Bool) (size first : ℕ) → AllByRecursion OctetsItem (set_items several size first)
set-octets true size first = (tt, tt)
set-octets false size first = tt

module _ (laws : OctetLaws) (history : List HouseEntry) (place : ℕ) (a : Address) (value : IsAddressValue a) (m base : ℕ) where
  map-messages : (ls : List MapLease) → AllByRecursion (MapGranted history place) ls
      → AllByRecursion OutIsText (map (λ l. update_to l.address (map_update l a m base)) ls)
  map-messages [] h = tt
  map-messages (l ∷ ls) h = (
    success-message laws (left_of l.expiry m) (epoch_of m base) (map_body l a) (map_items l) (h.0.octets, protocol-octet l.protocol, value.1) (set-octets (nat_lt 1 l.count) l.count l.internal),
    map-messages ls h.1,
  )

  peer-messages : (ls : List PeerLease) → AllByRecursion (PeerGranted history place) ls
      → AllByRecursion OutIsText (map (λ l. update_to l.endpoint.address (peer_update l a m base)) ls)
  peer-messages [] h = tt
  peer-messages (l ∷ ls) h = (
    success-message laws (left_of l.expiry m) (epoch_of m base) (peer_body l a) [] ((h.0.0.octets, protocol-octet l.endpoint.protocol, value.1), h.0.1.octets) tt,
    peer-messages ls h.1,
  )

  updates-messages : (s : State) → TableGranted history place s.table → AllByRecursion OutIsText (updates_by s m base (Renumbers a))
  updates-messages s h =
      let t = live-granted history place s.table m h in
      All-append OutIsText (map (λ l. update_to l.address (map_update l a m base)) (live s.table m).maps)
      (map (λ l. update_to l.endpoint.address (peer_update l a m base)) (live s.table m).peers)
      (map-messages (live s.table m).maps t.maps) (peer-messages (live s.table m).peers t.peers)

pub event-tells : OctetLaws → (w : World) (e : Event) → IsEventValue e → TablesOf w → EventTells w e
event-tells laws w (ToServer p) v h = tt
event-tells laws w (ToRelay p k) v h = tt
event-tells laws w (ToClient p k word) v h = tt
event-tells laws w (RelayTicks k) v h = tt
event-tells laws w (ClientTicks k word) v h = tt
event-tells laws w (Wants k third ask) v h = tt
event-tells laws w (Ends k id) v h = tt
event-tells laws w (Fails place Loses) v h = λ shard there base. tt
event-tells laws w (Fails place Restarts) v h = λ shard there base. tt
event-tells laws w (Fails place (Renumbers a)) v h = λ shard there base.
    updates-messages laws w.history place a v (raised (second w) shard) base shard.state (h.tables place shard there)
event-tells laws w Announces v h = tt
event-tells laws w (Passes ms) v h = tt

-- ---- an update is traced

update-told : WrittenSuccessesAreRead → (b : Beginning) (history : List HouseEntry) (rs : List Renumbering) (to : Address) (text : List ℕ)
    (lifetime epoch : ℕ) (body : Body) (items : List Item) → text ≡ success_text lifetime epoch body items → lifetime < 2 ^ 32 → epoch < 2 ^ 32
    → FitsBody body → AllByRecursion FitsItem items → is_mapped body ≡ true → are_single items ≡ true
    → ((c : Common) → HasCommon body c → IsTraced b history rs to (third_of items) c) → AreTold (IsTraced b history rs to) text
update-told law b history rs to text lifetime epoch body items is some later fits all mapped single f x c read success lasts has = by (nat_le (length written) 1100) refl
  where
    written : List ℕ
    written = success_text lifetime epoch body items

    by : (short : Bool) → nat_le (length written) 1100 ≡ short → IsTraced b history rs to (third_of x.items) c
    by false h =
        let none = long-none written h in
        let there : response_of written ≡ Some x = sym (ap response_of is) ∙ read in
        absurd cc
    by true h =
        let there : response_of written ≡ Some x = sym (ap response_of is) ∙ read in
        let again = law lifetime epoch body items some later fits all mapped single (leb-true (length written) 1100 h) in
        let same : success_read (opcode_of_body body) lifetime epoch body items ≡ x = cc in
        subst (λ (y : Response). HasCommon y.body c → IsTraced b history rs to (third_of y.items) c) same (f c) has

left-fits : (expiry m : ℕ) → left_of expiry m < 2 ^ 32
left-fits expiry m = omega arith

epoch-fits : (m base : ℕ) → epoch_of m base < 2 ^ 32
epoch-fits m base = omega arith

number-mapped : (p : Protocol) (c : Common) → c.protocol ≡ protocol_number p → is_mapped (Map c) ≡ true
number-mapped Tcp c h = subst (λ n. is_mapped (Map (record c { protocol = n })) ≡ true) (sym h) refl
number-mapped Udp c h = subst (λ n. is_mapped (Map (record c { protocol = n })) ≡ true) (sym h) refl

set-fits : (several : Bool) (size first : ℕ) → first < 2 ^ 16 → AllByRecursion FitsItem (set_items several (size % 2 ^ 16) first)
set-fits true size first f = ((omega arith, f), tt)
set-fits false size first f = tt

set-single : (several : Bool) (size first : ℕ) → are_single (set_items several size first) ≡ true
set-single true size first = refl
set-single false size first = refl

set-third : (several : Bool) (size first : ℕ) → third_of (set_items several size first) ≡ None
set-third true size first = refl
set-third false size first = refl

-- the history and the renumberings after the event; `now` is its second
module _ (law : WrittenSuccessesAreRead) (b : Beginning) (before history : List HouseEntry) (f : (h : HouseEntry) → Contains before h → Contains history h) (rs : List Renumbering) (place now : ℕ) (a : Address) (value : IsAddressValue a) (among : Contains rs (record { moment = now; place = place; address = a })) (past : AllByRecursion (IsPastEntry now) before) (m base : ℕ) where
  traced : (internal : Address) (nonce : Nonce) (protocol port external : ℕ) → IsGrantedAt before place internal nonce protocol port external
      → IsTraced b history rs internal None (cut_common nonce protocol port external a)
  traced internal nonce protocol port external g =
      let made : Renumbering = record { moment = now; place = place; address = a } in
      let was = All-IsIn (IsPastEntry now) before g.entry past (IsIn-from_Contains before g.entry g.among) in
      record {
        entry = g.entry;
        among = f g.entry g.among;
        told = g.told;
        grants = g.grants;
        relays = [];
        on_the_way = tt;
        rewritten_to = g.nonce_is;
        protocol = g.protocol_is;
        internal = g.internal_is;
        external = g.external_is;
        address = inr (record { renumbering = made; among = among; place = sym g.place_is; later = was; address_is = refl });
      }

  abbrev pub OutIsTold : Datagram → Type 0
  OutIsTold out = AreTold (IsTraced b history rs out.peer) out.octets

  map-told : (l : MapLease) → MapGranted before place l → OutIsTold (update_to l.address (map_update l a m base))
  map-told l g =
      let c = map_common l a in
      let items = set_items (nat_lt 1 l.count) (l.count % 2 ^ 16) l.internal in
      let t = traced l.address l.nonce (protocol_number l.protocol) l.internal l.external g in
      update-told law b history rs l.address (map_update l a m base) (left_of l.expiry m) (epoch_of m base) (Map c) items (map-cut l a m base)
      (left-fits l.expiry m) (epoch-fits m base) (g.long, value.0, g.fits, omega arith) (set-fits (nat_lt 1 l.count) l.count l.internal g.fits)
      (number-mapped l.protocol c refl) (set-single (nat_lt 1 l.count) (l.count % 2 ^ 16) l.internal)
      (λ x has. subst (λ t. IsTraced b history rs l.address t x) (sym (set-third (nat_lt 1 l.count) (l.count % 2 ^ 16) l.internal)) (subst (IsTraced b history rs l.address None) has t))

  peer-told : (l : PeerLease) → PeerGranted before place l → OutIsTold (update_to l.endpoint.address (peer_update l a m base))
  peer-told l g =
      let c = peer_common l a in
      let t = traced l.endpoint.address l.nonce (protocol_number l.endpoint.protocol) l.endpoint.port l.external g.0 in
      update-told law b history rs l.endpoint.address (peer_update l a m base) (left_of l.expiry m) (epoch_of m base) (Peer c l.remote_port l.remote) [] (peer-cut l a m base)
      (left-fits l.expiry m) (epoch-fits m base) ((g.0.long, value.0, g.0.fits, omega arith), g.1.fits, g.1.long) tt
      (number-mapped l.endpoint.protocol c refl) refl
      (λ x has. subst (IsTraced b history rs l.endpoint.address None) has t)

  all-maps : (ls : List MapLease) → AllByRecursion (MapGranted before place) ls
      → AllByRecursion OutIsTold (map (λ l. update_to l.address (map_update l a m base)) ls)
  all-maps [] h = tt
  all-maps (l ∷ ls) h = (map-told l h.0, all-maps ls h.1)

  all-peers : (ls : List PeerLease) → AllByRecursion (PeerGranted before place) ls
      → AllByRecursion OutIsTold (map (λ l. update_to l.endpoint.address (peer_update l a m base)) ls)
  all-peers [] h = tt
  all-peers (l ∷ ls) h = (peer-told l h.0, all-peers ls h.1)

  pub updates-told : (s : State) → TableGranted before place s.table → AllByRecursion OutIsTold (updates_by s m base (Renumbers a))
  updates-told s h =
      let t = live-granted before place s.table m h in
      All-append OutIsTold (map (λ l. update_to l.address (map_update l a m base)) (live s.table m).maps)
      (map (λ l. update_to l.endpoint.address (peer_update l a m base)) (live s.table m).peers)
      (all-maps (live s.table m).maps t.maps) (all-peers (live s.table m).peers t.peers)
