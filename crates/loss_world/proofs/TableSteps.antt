-- Each event leaves only leases in the tables of the house that an entry of the history granted.
use Rattle.std.specs.List.{AllByRecursion}
use Rattle.std.specs.Prelude.{Contains, max, min, position, reverse, map, slice_get, slice_set}
use Rattle.std.proofs.Common.{◌≡◌, ◌∙◌, ◌⊎◌, inl, inr, ℕ, zero, suc, ◌+◌, ◌^◌, ◌<◌, ◌≤◌, cond, List, [], ◌∷◌, ◌++◌, Option, Some, None, refl, ap, sym, subst, arith}
use Rattle.std.proofs.lemmas.Bool.{cond_both}
use Rattle.pcp_base.proofs.Members.{All-append, All-weaker, Contains-from_IsIn, IsIn-from_Contains}
use Rattle.pcp_base.specs.declared.addresses.Address.{Address}
use Rattle.pcp_base.specs.declared.asks.Ask.{Ask}
use Rattle.pcp_base.specs.declared.configs.Config.{Config}
use Rattle.pcp_base.specs.declared.configs.External.{External}
use Rattle.pcp_base.specs.declared.datagrams.Datagram.{Datagram}
use Rattle.pcp_base.specs.declared.datagrams.Entry.{Entry}
use Rattle.pcp_base.specs.declared.leases.MapLease.{MapLease}
use Rattle.pcp_base.specs.declared.leases.PeerLease.{PeerLease}
use Rattle.pcp_base.specs.declared.records.Change.{Change}
use Rattle.pcp_base.specs.declared.records.Change.TheVariants as Changes
use Rattle.pcp_base.specs.Epoch.{epoch_of}
use Rattle.pcp_base.specs.States.{State}
use Rattle.pcp_base.specs.Tables.{empty_table, live}
use Rattle.lease_store.specs.LeaseTerms.{terms_of}
use Rattle.lease_core.specs.Laws.{DecisionsChangeLeases}
use Rattle.lease_histories.specs.Entries.{Request, decided_on, request_by, request_entry, request_of}
use Rattle.lease_histories.specs.HouseHistories.{HouseEntry}
use Rattle.lease_histories.specs.PlainHouses.{PlainHouse, PlainShard, add_by, add_entry, entry_by, greatest_base, packet_entry, raised, served_at, shard_after, shards_begun, with_kept}
use Rattle.lease_histories.specs.Routes.{route_of}
use Rattle.client_core.specs.Clients.{after_tick, free_id, request_due}
use Rattle.loss_world.specs.HouseLosses.{Cause, Loses, Restarts, Renumbers, at_address, control_entry, controlled, entries_of, house_after, is_loss, readdressed, shards_at}
use Rattle.loss_world.specs.Packets.{Packet, datagram_of, seconds}
use Rattle.loss_world.specs.Steps.{answered, asked, by_door, client_ends, client_ticks, client_wants, comes_down, fails, from_upstream, happens, hears, is_for, is_reached, lost, relay_ticks, second, sends, to_client, to_relay, to_server, wanting, with_client}
use Rattle.loss_world.specs.Worlds.{Beginning, ClientHost, IsBeginning, RelayHost, World, Event, ToServer, ToRelay, ToClient, RelayTicks, ClientTicks, Wants, Ends, Fails, Announces, Passes, begun}
use Rattle.loss_world.proofs.Granted.{GrantLaws, IsMade, TableGranted, change-granted, live-granted, table-kept, table-more}
use Rattle.loss_world.proofs.HouseFacts.{All-got, IsBy, answers}
use Rattle.loss_world.proofs.RelayValues.{IsMessage}
use Rattle.loss_world.proofs.Values.{PacketIsMessage, ShardIsValue, Values, pcp-reply, pcp-verdict}

abbrev pub AreGranted : List HouseEntry → List PlainShard → Type 0
AreGranted history shards = (k : ℕ) (s : PlainShard) → slice_get shards k ≡ Some s → TableGranted history k s.state.table

-- lifetimes that may be granted
pub record HasLifetimes (c : Config) : Type 0 where
  pub least : 0 < c.lifetime_min
  pub ordered : c.lifetime_min ≤ c.lifetime_max
  pub most : c.lifetime_max < 2 ^ 32

abbrev pub IsPastEntry : ℕ → HouseEntry → Type 0
IsPastEntry now h = h.entry.moment ≤ now

pub record Tables (now : ℕ) (house : PlainHouse) (history : List HouseEntry) : Type 0 where
  pub lifetimes : HasLifetimes house.config
  pub tables : AreGranted history house.shards
  pub past : AllByRecursion (IsPastEntry now) history

abbrev pub TablesOf : World → Type 0
TablesOf w = Tables (second w) w.house w.history

-- what the crates below say of decisions
pub record TableLaws : Type 0 where
  pub grants : GrantLaws
  pub changes : DecisionsChangeLeases

-- ---- lists by their places

shifted : (k i : ℕ) (P Q : Type 0) → ((k ≡ i) × P) ⊎ Q → ((suc k ≡ suc i) × P) ⊎ Q
shifted k i P Q (inl e) = inl (ap suc e.0, e.1)
shifted k i P Q (inr e) = inr e

set-get : {X : Type 0} (xs : List X) (i : ℕ) (y : X) (k : ℕ) (s : X) → slice_get (slice_set xs i y) k ≡ Some s
    → ((k ≡ i) × (y ≡ s)) ⊎ (slice_get xs k ≡ Some s)
set-get [] i y k s h = inr h
set-get (x ∷ xs) zero y zero s h = inl (refl, cc)
set-get (x ∷ xs) zero y (suc k) s h = inr h
set-get (x ∷ xs) (suc i) y zero s h = inr h
set-get (x ∷ xs) (suc i) y (suc k) s h = shifted k i (y ≡ s) (slice_get xs k ≡ Some s) (set-get xs i y k s h)

set-granted : (history : List HouseEntry) (shards : List PlainShard) (place : ℕ) (y : PlainShard) → AreGranted history shards
    → TableGranted history place y.state.table → AreGranted history (slice_set shards place y)
set-granted history shards place y h t k s at = by (set-get shards place y k s at)
  where
    by : ((k ≡ place) × (y ≡ s)) ⊎ (slice_get shards k ≡ Some s) → TableGranted history k s.state.table
    by (inl e) =
        subst (λ n. TableGranted history n s.state.table) (sym e.0) (subst (λ (x : PlainShard). TableGranted history place x.state.table) e.1 t)
    by (inr e) = h k s e

shards-more : (history more : List HouseEntry) → ((h : HouseEntry) → Contains history h → Contains more h)
    → (shards : List PlainShard) → AreGranted history shards → AreGranted more shards
shards-more history more f shards h k s at = table-more history more f k s.state.table (h k s at)

behind : (new : HouseEntry) (history : List HouseEntry) (x : HouseEntry) → Contains history x → Contains (new ∷ history) x
behind new history x k = Contains-from_IsIn (new ∷ history) x (inr (IsIn-from_Contains history x k))

-- ---- requests

epoch-fits : (m base : ℕ) → epoch_of m base < 2 ^ 32
epoch-fits m base = omega arith

granted-lasts : (least most n : ℕ) → 0 < least → least ≤ most → 0 < min (max n least) most
granted-lasts least most n a b = omega (arith, a, b)

granted-some : (least most n : ℕ) → most < 2 ^ 32 → min (max n least) most < 2 ^ 32
granted-some least most n a = omega (arith, a)

shard-made : TableLaws → (history : List HouseEntry) (house : PlainHouse) (m : ℕ) (d : Datagram) (shard : PlainShard) (request : Request)
    (e : Entry) → HasLifetimes house.config → AllByRecursion ShardIsValue house.shards → IsMessage d.octets
    → slice_get house.shards (route_of house.config d) ≡ Some shard → request_of house.config d ≡ Some request
    → request_entry (served_at house (route_of house.config d) shard) shard.state (raised m shard) (greatest_base house) d request ≡ e
    → TableGranted history (route_of house.config d) shard.state.table
    → TableGranted ((record { place = route_of house.config d; entry = e }) ∷ history) (route_of house.config d) (shard_after shard e).state.table
shard-made laws history house m d shard request e lives values is at asks same h =
    let place = route_of house.config d in
    let x = served_at house place shard in
    let terms = terms_of x.external x.config in
    let now = raised m shard in
    let base = greatest_base house in
    let new : HouseEntry = record { place = place; entry = e } in
    let more = new ∷ history in
    let value = All-got ShardIsValue house.shards place shard values at in
    let made : IsMade more place house.config d terms shard.state now (epoch_of now base) request new = record {
      among = Contains-from_IsIn more new (inl refl);
      place_is = refl;
      from = ap (λ (y : Entry). y.from) (sym same);
      octets = is.octets;
      judged = ap request_by (sym (pcp-verdict house.config d.peer d.octets is.version)) ∙ asks;
      reply = ap (λ (y : Entry). y.reply) (sym same) ∙ pcp-reply d.octets x.external.address request.items (decided_on x shard.state now request).answer (epoch_of now base) is.version;
      later = epoch-fits now base;
      long = value.0;
      lasts = λ n. granted-lasts house.config.lifetime_min house.config.lifetime_max n lives.least lives.ordered;
      some = λ n. granted-some house.config.lifetime_min house.config.lifetime_max n lives.most;
    } in
    let before = table-more history more (behind new history) place shard.state.table h in
    subst (λ (y : Entry). TableGranted more place (with_kept shard.state y.kept).table) same
    (table-kept laws.grants more place house.config d terms shard.state now (epoch_of now base) request new made before
    (decided_on x shard.state now request).kept refl (laws.changes terms shard.state now request.ask))

answer-by : TableLaws → (history : List HouseEntry) (house : PlainHouse) (m : ℕ) (d : Datagram) (shard : Option PlainShard)
    (request : Option Request) (e : Entry) → HasLifetimes house.config → AllByRecursion ShardIsValue house.shards → IsMessage d.octets
    → slice_get house.shards (route_of house.config d) ≡ shard → request_of house.config d ≡ request → entry_by house m d shard request ≡ Some e
    → AreGranted history house.shards
    → AreGranted ((record { place = route_of house.config d; entry = e }) ∷ history) (add_by house (route_of house.config d) shard (Some e)).shards
answer-by laws history house m d None None e lives values is at asks made h = absurd cc
answer-by laws history house m d None (Some request) e lives values is at asks made h = absurd cc
answer-by laws history house m d (Some shard) None e lives values is at asks made h = absurd cc
answer-by laws history house m d (Some shard) (Some request) e lives values is at asks made h =
    let place = route_of house.config d in
    let new : HouseEntry = record { place = place; entry = e } in
    let same : request_entry (served_at house place shard) shard.state (raised m shard) (greatest_base house) d request ≡ e = cc in
    set-granted (new ∷ history) house.shards place (shard_after shard e) (shards-more history (new ∷ history) (behind new history) house.shards h)
    (shard-made laws history house m d shard request e lives values is at asks same (h place shard at))

config-same : (house : PlainHouse) (place : ℕ) (shard : Option PlainShard) (e : Option Entry) → (add_by house place shard e).config ≡ house.config
config-same house place None None = refl
config-same house place None (Some e) = refl
config-same house place (Some shard) None = refl
config-same house place (Some shard) (Some e) = refl

lives-after : (house : PlainHouse) (place : ℕ) (e : Option Entry) → HasLifetimes house.config → HasLifetimes (add_entry house place e).config
lives-after house place e h = subst HasLifetimes (sym (config-same house place (slice_get house.shards place) e)) h

answer : TableLaws → (w : World) (d : Datagram) (e : Option Entry) → TablesOf w → Values w → IsBy (second w) w.house → IsMessage d.octets
    → packet_entry w.house (second w) d ≡ e → TablesOf (answered w d e)
answer laws w d None h v by is made = h
answer laws w d (Some e) h v by is made =
    let place = route_of w.house.config d in
    let new : HouseEntry = record { place = place; entry = e } in
    let moment = (answers laws.changes (second w) w.house d e by made).moment in
    let granted = answer-by laws w.history w.house (second w) d (slice_get w.house.shards place) (request_of w.house.config d) e h.lifetimes v.shards is refl refl made h.tables in
    record {
      lifetimes = lives-after w.house place (packet_entry w.house (second w) d) h.lifetimes;
      tables = subst (λ x. AreGranted (new ∷ w.history) (add_entry w.house place x).shards) (sym made) granted;
      past = (omega (arith, moment), h.past);
    }

to-server : TableLaws → (w : World) (p : Option Packet) → TablesOf w → Values w → IsBy (second w) w.house
    → ((x : Packet) → p ≡ Some x → PacketIsMessage x) → TablesOf (to_server w p)
to-server laws w None h v by f = h
to-server laws w (Some p) h v by f =
    let d = datagram_of p in
    cond_both (is_for p w.server) (answered w d (packet_entry w.house (second w) d)) w TablesOf
    (λ _. answer laws w d (packet_entry w.house (second w) d) h v by (f p refl).0 refl) (λ _. h)

-- ---- losses

control-by : (history : List HouseEntry) (house : PlainHouse) (place m : ℕ) (change : Change) (shard : Option PlainShard)
    → slice_get house.shards place ≡ shard → ((l : MapLease) → change ≡ Changes.Map l → ⊥) → ((l : PeerLease) → change ≡ Changes.Peer l → ⊥)
    → AreGranted history house.shards → AreGranted history (add_by house place shard (Some (control_entry house m change))).shards
control-by history house place m change None at f g h = h
control-by history house place m change (Some s) at f g h =
    let e = control_entry house m change in
    set-granted history house.shards place (shard_after s e) h
    (change-granted history place change (live s.state.table m) (live-granted history place s.state.table m (h place s at)) (λ l k. absurd (f l k)) (λ l k. absurd (g l k)))

controls : (history : List HouseEntry) (house : PlainHouse) (place m : ℕ) (change : Change)
    → ((l : MapLease) → change ≡ Changes.Map l → ⊥) → ((l : PeerLease) → change ≡ Changes.Peer l → ⊥)
    → AreGranted history house.shards → AreGranted history (controlled house place m change).shards
controls history house place m change f g h = control-by history house place m change (slice_get house.shards place) refl f g h

moved-by : (history : List HouseEntry) (shards : List PlainShard) (place : ℕ) (a : Address) (shard : Option PlainShard)
    → slice_get shards place ≡ shard → AreGranted history shards → AreGranted history (shards_at shards place a shard)
moved-by history shards place a None at h = h
moved-by history shards place a (Some s) at h =
    set-granted history shards place (record s { external = at_address a s.external }) h (h place s at)

house-granted : (history : List HouseEntry) (house : PlainHouse) (place : ℕ) (shard : PlainShard) (m : ℕ) (cause : Cause)
    → AreGranted history house.shards → AreGranted history (house_after house place shard m cause).shards
house-granted history house place shard m Loses h = controls history house place m Changes.Lose (λ l e. absurd cc) (λ l e. absurd cc) h
house-granted history house place shard m Restarts h =
    controls history (controlled house place m Changes.Start) place m (Changes.Renumber shard.external.address) (λ l e. absurd cc) (λ l e. absurd cc)
    (controls history house place m Changes.Start (λ l e. absurd cc) (λ l e. absurd cc) h)
house-granted history house place shard m (Renumbers a) h =
    controls history (readdressed house place a) place m (Changes.Renumber a) (λ l e. absurd cc) (λ l e. absurd cc)
    (moved-by history house.shards place a (slice_get house.shards place) refl h)

house-lives : (house : PlainHouse) (place : ℕ) (shard : PlainShard) (m : ℕ) (cause : Cause) → HasLifetimes house.config
    → HasLifetimes (house_after house place shard m cause).config
house-lives house place shard m Loses h = lives-after house place (Some (control_entry house m Changes.Lose)) h
house-lives house place shard m Restarts h =
    let begun = controlled house place m Changes.Start in
    lives-after begun place (Some (control_entry begun m (Changes.Renumber shard.external.address))) (lives-after house place (Some (control_entry house m Changes.Start)) h)
house-lives house place shard m (Renumbers a) h =
    let moved = readdressed house place a in
    lives-after moved place (Some (control_entry moved m (Changes.Renumber a))) (record { least = h.least; ordered = h.ordered; most = h.most })

-- the entries of a loss, the latest first
abbrev pub loss_entries : World → ℕ → PlainShard → Cause → List HouseEntry
loss_entries w place shard cause =
    reverse (map (λ e. record { place = place; entry = e }) (entries_of w.house shard (raised (second w) shard) cause))

loss-past : (w : World) (place : ℕ) (shard : PlainShard) (cause : Cause) → raised (second w) shard ≡ second w
    → AllByRecursion (IsPastEntry (second w)) (loss_entries w place shard cause)
loss-past w place shard Loses now = (omega (arith, now), tt)
loss-past w place shard Restarts now = (omega (arith, now), (omega (arith, now), tt))
loss-past w place shard (Renumbers a) now = (omega (arith, now), tt)

in-behind : (front history : List HouseEntry) (x : HouseEntry) → Contains history x → Contains (front ++ history) x
in-behind [] history x k = k
in-behind (y ∷ ys) history x k = behind y (ys ++ history) x (in-behind ys history x k)

fails-at : (w : World) (place : ℕ) (cause : Cause) (shard : Option PlainShard) → slice_get w.house.shards place ≡ shard → TablesOf w
    → IsBy (second w) w.house → TablesOf (fails w place cause shard)
fails-at w place cause None at h by = h
fails-at w place cause (Some shard) at h by =
    let past = All-got (λ (s : PlainShard). s.last ≤ second w) w.house.shards place shard by at in
    let now : raised (second w) shard ≡ second w = omega (arith, past) in
    let m = raised (second w) shard in
    let front = loss_entries w place shard cause in
    cond_both (is_loss shard cause) (lost w place shard cause (house_after w.house place shard m cause)) w TablesOf
    (λ _. record {
      lifetimes = house-lives w.house place shard m cause h.lifetimes;
      tables = shards-more w.history (front ++ w.history) (in-behind front w.history) (house_after w.house place shard m cause).shards
          (house-granted w.history w.house place shard m cause h.tables);
      past = All-append (IsPastEntry (second w)) front w.history (loss-past w place shard cause now) h.past;
    })
    (λ _. h)

-- ---- what doesn't touch the house

sends-tables : (w : World) (ps : List Packet) → TablesOf w → TablesOf (sends w ps)
sends-tables w ps h = h

by-door : (w : World) (k : ℕ) (r : RelayHost) (p : Packet) (door : Option ℕ) → TablesOf w → TablesOf (by_door w k r p door)
by-door w k r p None h = h
by-door w k r p (Some door) h = h

to-relay : (w : World) (k : ℕ) (r : Option RelayHost) (p : Option Packet) → TablesOf w → TablesOf (to_relay w k r p)
to-relay w k None p h = h
to-relay w k (Some r) None h = h
to-relay w k (Some r) (Some p) h =
    cond_both (comes_down p r.relay) (from_upstream w k r p) (by_door w k r p (position (is_for p) r.inner)) TablesOf
    (λ _. h) (λ _. by-door w k r p (position (is_for p) r.inner) h)

relay-ticks : (w : World) (k : ℕ) (r : Option RelayHost) → TablesOf w → TablesOf (relay_ticks w k r)
relay-ticks w k None h = h
relay-ticks w k (Some r) h = h

to-client : (w : World) (k word : ℕ) (c : Option ClientHost) (p : Option Packet) → TablesOf w → TablesOf (to_client w k word c p)
to-client w k word None p h = h
to-client w k word (Some c) None h = h
to-client w k word (Some c) (Some p) h =
    cond_both (is_reached p c.client.own c.client.server) (hears w k c p word) w TablesOf (λ _. h) (λ _. h)

client-ticks : (w : World) (k word : ℕ) (c : Option ClientHost) → TablesOf w → TablesOf (client_ticks w k word c)
client-ticks w k word None h = h
client-ticks w k word (Some c) h =
    sends-tables (with_client w k (record c { client = after_tick c.client w.clock word })) (asked w c (request_due c.client w.clock)) h

wants-by : (w : World) (k : ℕ) (c : ClientHost) (third : Option Address) (ask : Ask) (id : Option ℕ) → TablesOf w
    → TablesOf (wanting w k c third ask id)
wants-by w k c third ask None h = h
wants-by w k c third ask (Some id) h = h

client-wants : (w : World) (k : ℕ) (c : Option ClientHost) (third : Option Address) (ask : Ask) → TablesOf w
    → TablesOf (client_wants w k c third ask)
client-wants w k None third ask h = h
client-wants w k (Some c) third ask h = wants-by w k c third ask (free_id c.client) h

client-ends : (w : World) (k id : ℕ) (c : Option ClientHost) → TablesOf w → TablesOf (client_ends w k id c)
client-ends w k id None h = h
client-ends w k id (Some c) h = h

past-on : (now later : ℕ) → now ≤ later → (h : HouseEntry) → IsPastEntry now h → IsPastEntry later h
past-on now later le h p = omega (arith, le, p)

-- ---- all

pub next-tables : TableLaws → (w : World) (e : Event) → Values w → IsBy (second w) w.house → TablesOf w → TablesOf (happens w e)
next-tables laws w (ToServer p) v by h =
    to-server laws w (slice_get w.bag p) h v by (λ x there. All-got PacketIsMessage w.bag p x v.bag there)
next-tables laws w (ToRelay p k) v by h = to-relay w k (slice_get w.relays k) (slice_get w.bag p) h
next-tables laws w (ToClient p k word) v by h = to-client w k word (slice_get w.clients k) (slice_get w.bag p) h
next-tables laws w (RelayTicks k) v by h = relay-ticks w k (slice_get w.relays k) h
next-tables laws w (ClientTicks k word) v by h = client-ticks w k word (slice_get w.clients k) h
next-tables laws w (Wants k third ask) v by h = client-wants w k (slice_get w.clients k) third ask h
next-tables laws w (Ends k id) v by h = client-ends w k id (slice_get w.clients k) h
next-tables laws w (Fails place cause) v by h = fails-at w place cause (slice_get w.house.shards place) refl h by
next-tables laws w Announces v by h = h
next-tables laws w (Passes ms) v by h =
    let le : seconds w.clock ≤ seconds (w.clock + ms) = omega arith in
    record {
      lifetimes = h.lifetimes;
      tables = h.tables;
      past = All-weaker (IsPastEntry (seconds w.clock)) (IsPastEntry (seconds (w.clock + ms))) (past-on (seconds w.clock) (seconds (w.clock + ms)) le) w.history h.past;
    }

-- ---- the beginning

empty-at : (xs : List External) (ss : List State) (k : ℕ) (s : PlainShard) → AllByRecursion (λ s. s.table ≡ empty_table) ss
    → slice_get (shards_begun xs ss) k ≡ Some s → s.state.table ≡ empty_table
empty-at [] ss k s h at = absurd cc
empty-at (x ∷ xs) [] k s h at = absurd cc
empty-at (x ∷ xs) (y ∷ ys) zero s h at =
    let begun : PlainShard = record { external = x; state = y; last = y.last } in
    let same : begun ≡ s = cc in
    subst (λ (z : PlainShard). z.state.table ≡ empty_table) same h.0
empty-at (x ∷ xs) (y ∷ ys) (suc k) s h at = empty-at xs ys k s h.1 at

pub begin-tables : (b : Beginning) → IsBeginning b → TablesOf (begun b)
begin-tables b h =
    let c = h.openings.config_is in
    let most = c.lifetime_max in
    record {
      lifetimes = record { least = c.lifetime_min; ordered = c.lifetimes; most = omega (arith, most) };
      tables = λ k s at. subst (TableGranted [] k) (sym (empty-at b.config.externals b.openings k s h.empty at)) (record { maps = tt; peers = tt });
      past = tt;
    }
