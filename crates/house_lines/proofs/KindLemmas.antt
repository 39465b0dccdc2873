-- How a request counts, by whether a lease covers its endpoint before it, and by its reply.
use Rattle.std.proofs.Common.{◌≡◌, ◌∙◌, ℕ, ◌≤◌, ◌==◌, ◌&&◌, not, Bool, max, true, false, cond, List, [], Option, Some, None, refl, ap, sym, subst, arith}
use Rattle.std.specs.Prelude.{nat_le, nat_lt, is_none, is_some, unwrap_or, bytes_eq, slice_index}
use Rattle.std.specs.List.{AllByRecursion, slice_get}
use Rattle.std.specs.Option.{option_and_then, option_map, option_map_or}
use Rattle.pcp_base.proofs.Members.{All-IsIn, All-filter, All-from_IsIn, find-none, find-some, none-any, some-any}
use Rattle.pcp_base.proofs.Same.{same_endpoint-Decides}
use Rattle.pcp_base.proofs.TableLemmas.{covers-first}
use Rattle.pcp_base.specs.Codes.{code_number}
use Rattle.pcp_base.specs.Epoch.{epoch_of}
use Rattle.pcp_base.specs.declared.asks.Ask.{Ask}
use Rattle.pcp_base.specs.declared.asks.Ask.TheVariants as Asks
use Rattle.pcp_base.specs.declared.datagrams.Datagram.{Datagram}
use Rattle.pcp_base.specs.declared.datagrams.Entry.{Entry}
use Rattle.lease_store.specs.LeaseTerms.{terms_of}
use Rattle.lease_histories.specs.Entries.{Request, reply_text_of, request_entry, request_of}
use Rattle.lease_histories.specs.PlainHouses.{PlainHouse, PlainShard, at_last, entry_by, greatest_base, packet_entry, packet_reply, raised, served_at}
use Rattle.lease_histories.specs.Routes.{route_of}
use Rattle.pcp_base.specs.declared.leases.Endpoint.{Endpoint}
use Rattle.pcp_base.specs.declared.leases.MapLease.{MapLease}
use Rattle.pcp_base.specs.declared.asks.MapAsk.{MapAsk}
use Rattle.pcp_base.specs.declared.codes.Code.TheVariants.{NoResources, UserExQuota, CannotProvideExternal, ExcessiveRemotePeers}
use Rattle.pcp_base.specs.declared.asks.Answer.{Answer}
use Rattle.pcp_base.specs.declared.asks.Answer.TheVariants.{Gone}
use Rattle.pcp_base.specs.declared.asks.Answer.TheVariants as Answers
use Rattle.pcp_base.specs.declared.asks.Refusal.{Refusal}
use Rattle.pcp_base.specs.declared.records.Change.TheVariants.{DropMap}
use Rattle.pcp_base.specs.States.{State}
use Rattle.pcp_base.specs.Tables.{IsMapLease, covers, first_endpoint, is_map_of, live}
use Rattle.pcp_base.specs.Owners.{owned}
use Rattle.pcp_options.specs.declared.options.Item.{Item}
use Rattle.external_pool.specs.declared.asks.Picked.{Picked}
use Rattle.lease_store.specs.declared.terms.Terms.{Terms}
use Rattle.lease_store.specs.Lookups.{covering, named_port}
use Rattle.lease_core.specs.declared.decided.Decided.{Decided}
use Rattle.lease_core.specs.Answers.{answered, gone, is_address_met, is_full, is_port_met, refused, refused_until}
use Rattle.lease_core.specs.DecideMap.{choice_by, covered, decide_map, decide_map_by, granted, has_excess, is_wanted, mapped, new_lease, port_told, renewed, uncovered_by}
use Rattle.lease_core.proofs.Deeds.{by_case}
use Rattle.load_summary.specs.Kinds.{has_live_key, kind_by}
use Rattle.load_summary.specs.declared.counts.LoadKind.{LoadKind}
use Rattle.load_summary.specs.declared.counts.LoadKind.TheVariants.{Granted, Renewed, Deleted, Absent, Refused}
use Rattle.lease_house.specs.declared.routes.Routed.{Routed}
use Rattle.lease_house.specs.Routings.{routed_by, routed_to}
use Rattle.house_lines.specs.LoadFindings.{is_met, is_there, kind_met, kind_told}
use Rattle.house_lines.specs.LoadEffects.{entry_kind_by, kind_asked, request_kind}
use Rattle.house_lines.proofs.ResultLemmas.{TellsResult, tells-result}

-- ---- by what was done to which lease

kind-met : (told : Bool) (done found : LoadKind) → told ≡ true → done ≡ found → done ≡ cond told found Refused
kind-met true done found h same = same
kind-met false done found h same = absurd cc

kind-refused : (told : Bool) (found : LoadKind) → told ≡ false → cond told Absent Refused ≡ cond told found Refused
kind-refused true found h = absurd cc
kind-refused false found h = refl

module _ (terms : Terms) (s : State) (m : ℕ) (ask : MapAsk) (text : Answer → List ℕ) (told : TellsResult text) where
  abbrev deletes : Bool
  deletes = ask.lifetime == 0

  abbrev IsRight : Bool → Decided → Type 0
  IsRight there d =
      unwrap_or (kind_by s.table m (text d.answer) d.kept) Refused ≡ cond (is_met (text d.answer)) (kind_met deletes there) Refused

  abbrev tells-success : Answer → Bool
  tells-success answer = slice_index (text answer) 3 == 0

  refused-right : (there : Bool) (refusal : Refusal) → (code_number refusal.code == 0) ≡ false → IsRight there (answered (Answers.Refused refusal))
  refused-right there refusal fails = kind-refused (tells-success (Answers.Refused refusal)) (kind_met deletes there) (told.refused refusal fails)

  -- a lease is granted, or renewed where it was there
  mapped-right : (there : Bool) (lease : MapLease) → has_live_key s.table m (first_endpoint lease) ≡ there → deletes ≡ false →
      IsRight there (mapped terms m ask lease)
  mapped-right there lease known stays =
      kind-met (tells-success (mapped terms m ask lease).answer) _ (kind_met deletes there) (told.mapped _ _ _ _)
      (ap (λ b. cond b Renewed Granted) known ∙ sym (ap (λ b. kind_met b there) stays))

  -- a live lease covers the endpoint
  covered-right : (lease : MapLease) → has_live_key s.table m (first_endpoint lease) ≡ true → IsRight true (covered terms m ask lease)
  covered-right lease known =
      let last = mapped terms m ask (renewed terms m ask lease) in
      let dropped = gone m (DropMap (first_endpoint lease)) in
      by_case (IsRight true) (not (bytes_eq lease.nonce.0 ask.nonce.0)) (refused_until m lease.expiry) _ last (λ _. refused-right true _ refl)
      (λ _. by_case (IsRight true) deletes dropped _ last
      (λ yes. kind-met (tells-success Gone) Deleted (kind_met deletes true) told.gone (sym (ap (λ b. kind_met b true) yes)))
      (λ no. by_case (IsRight true) (ask.prefer && not (is_port_met ask.port (port_told ask lease) && is_address_met ask.address terms.external.address))
      (refused CannotProvideExternal) _ last (λ _. refused-right true _ refl)
      (λ _. by_case (IsRight true) (has_excess lease.filters ask) (refused ExcessiveRemotePeers) None last (λ _. refused-right true _ refl)
      (λ _. mapped-right true (renewed terms m ask lease) known no))))

  -- none does
  uncovered-right : (named : Option ℕ) (choice : Option Picked) → has_live_key s.table m ask.endpoint ≡ false → IsRight false (uncovered_by terms s m ask named choice)
  uncovered-right named choice new =
      let last = granted terms m ask choice in
      by_case (IsRight false) deletes (answered Gone) _ last
      (λ yes. ap (λ k. cond (tells-success Gone) k Refused) (sym (ap (λ b. kind_met b false) yes)))
      (λ no. by_case (IsRight false) (is_none named && nat_le terms.quota (owned s.table m ask.endpoint.address)) (refused UserExQuota) _ last (λ _. refused-right false _ refl)
      (λ _. by_case (IsRight false) (ask.prefer && not (is_wanted terms ask choice)) (refused CannotProvideExternal) _ last (λ _. refused-right false _ refl)
      (λ _. by_case (IsRight false) (is_none choice) (refused NoResources) _ last (λ _. refused-right false _ refl)
      (λ _. by_case (IsRight false) (is_full s.table m) (refused NoResources) _ last (λ _. refused-right false _ refl)
      (λ _. by_case (IsRight false) (has_excess [] ask) (refused ExcessiveRemotePeers) None last (λ _. refused-right false _ refl)
      (λ _. mapped-right false (new_lease terms m ask (unwrap_or choice (record { start = 0; count = 0 }))) new no))))))

  -- the lease that covers the endpoint has a live key
  known-key : (lease : MapLease) → covering s.table m ask.endpoint ≡ Some lease → has_live_key s.table m (first_endpoint lease) ≡ true
  known-key lease found =
      let there = find-some (λ l. covers l ask.endpoint) (live s.table m).maps lease found in
      some-any (is_map_of (first_endpoint lease)) (live s.table m).maps lease there.0 ((same_endpoint-Decides (first_endpoint lease) (first_endpoint lease)).1 refl)

  -- where none covers it, it is no key
  new-key : AllByRecursion IsMapLease s.table.maps → covering s.table m ask.endpoint ≡ None → has_live_key s.table m ask.endpoint ≡ false
  new-key formed none =
      let maps = (live s.table m).maps in
      let uncovered = find-none (λ l. covers l ask.endpoint) maps none in
      none-any (is_map_of ask.endpoint) maps
      (All-from_IsIn (λ l. is_map_of ask.endpoint l ≡ false) maps
      (λ l there. not-key l (All-IsIn IsMapLease maps l (All-filter IsMapLease (λ l. nat_lt m l.expiry) s.table.maps formed) there)
      (All-IsIn (λ l. covers l ask.endpoint ≡ false) maps l uncovered there) (is_map_of ask.endpoint l) refl))
    where
      not-key : (l : MapLease) → IsMapLease l → covers l ask.endpoint ≡ false → (b : Bool) → is_map_of ask.endpoint l ≡ b → is_map_of ask.endpoint l ≡ false
      not-key l is uncovered false same = same
      not-key l is uncovered true same =
          let first = (same_endpoint-Decides (first_endpoint l) ask.endpoint).0 same in
          let covered : covers l ask.endpoint ≡ true = subst (λ (e : Endpoint). covers l e ≡ true) first (covers-first l is.ports.some) in
          absurd (let bad : true ≡ false = sym covered ∙ uncovered in cc)

  by-covering : AllByRecursion IsMapLease s.table.maps → (found : Option MapLease) → covering s.table m ask.endpoint ≡ found →
      IsRight (is_some found) (decide_map_by terms s m ask found)
  by-covering formed (Some lease) is = covered-right lease (known-key lease is)
  by-covering formed None is = uncovered-right (named_port s.table m ask.endpoint) (choice_by (named_port s.table m ask.endpoint) terms s m ask) (new-key formed is)

  map-right : AllByRecursion IsMapLease s.table.maps → IsRight (is_some (covering s.table m ask.endpoint)) (decide_map terms s m ask)
  unfolding decide_map
  map-right formed = by-covering formed (covering s.table m ask.endpoint) refl

-- ---- a request of a house

-- what holds of an external address
pub record IsSoundShard (shard : PlainShard) : Type 0 where
  pub formed : AllByRecursion IsMapLease shard.state.table.maps
  pub later : shard.state.last ≤ shard.last

-- by the external address to which it goes
ask-right : (house : PlainHouse) (now : ℕ) (from : Datagram) (shard : PlainShard) → slice_get house.shards (route_of house.config from) ≡ Some shard →
    IsSoundShard shard → (ask : Ask) (items : List Item) (e : Entry) →
    e ≡ request_entry (served_at house (route_of house.config from) shard) shard.state (raised now shard) (greatest_base house) from (record { ask = ask; items = items }) →
    kind_told ask (is_there house (route_of house.config from) ask now) e.reply ≡ kind_asked shard e ask
ask-right house now from shard there sound (Asks.Known refusal) items e is = refl
ask-right house now from shard there sound Asks.Announce items e is = refl
ask-right house now from shard there sound (Asks.Peer ask) items e is = refl
ask-right house now from shard there sound (Asks.Map ask) items e is =
    let place = route_of house.config from in
    let m = raised now shard in
    let late = sound.later in
    let at : max m shard.state.last ≡ m = omega (arith, late) in
    let found : is_there house place (Asks.Map ask) now ≡ is_some (covering shard.state.table m ask.endpoint) =
    ap (λ o. is_some (option_and_then (λ (s : PlainShard). covering s.state.table (at_last (max now (option_map_or (λ (s : PlainShard). s.last) o 0)) s) ask.endpoint) o)) there
    ∙ ap (λ n. is_some (covering shard.state.table n ask.endpoint)) at in
    let address = shard.external.address in
    let epoch = epoch_of m (greatest_base house) in
    let right : kind_told (Asks.Map ask) (is_some (covering shard.state.table m ask.endpoint)) e.reply ≡ kind_asked shard e (Asks.Map ask) =
    rw is (sym (map-right (terms_of shard.external house.config) shard.state m ask (λ answer. reply_text_of from.octets address items answer epoch)
    (tells-result from.octets address items epoch) sound.formed)) in
    ap (λ b. kind_told (Asks.Map ask) b e.reply) found ∙ right

by-shard : (house : PlainHouse) (now : ℕ) (from : Datagram) (shard : PlainShard) (request : Request) (reply : List ℕ) →
    slice_get house.shards (route_of house.config from) ≡ Some shard → request_of house.config from ≡ Some request → IsSoundShard shard →
    Some reply ≡ packet_reply house now from →
    kind_told request.ask (is_there house (route_of house.config from) request.ask now) reply ≡ request_kind house from now
by-shard house now from shard request reply there asks sound told =
    let place = route_of house.config from in
    let e : Entry = request_entry (served_at house place shard) shard.state (raised now shard) (greatest_base house) from request in
    let entry : packet_entry house now from ≡ Some e =
    ap (λ o. entry_by house now from o (request_of house.config from)) there ∙ ap (λ o. entry_by house now from (Some shard) o) asks in
    let replied : Some reply ≡ Some e.reply = told ∙ ap (λ o. option_map (λ (x : Entry). x.reply) o) entry in
    let same : reply ≡ e.reply = cc in
    let kind : request_kind house from now ≡ kind_asked shard e request.ask =
    ap (λ o. entry_kind_by o (packet_entry house now from) (request_of house.config from)) there
    ∙ ap (λ o. entry_kind_by (Some shard) o (request_of house.config from)) entry ∙ ap (λ o. entry_kind_by (Some shard) (Some e) o) asks in
    ap (λ r. kind_told request.ask (is_there house place request.ask now) r) same
    ∙ ask-right house now from shard there sound request.ask request.items e refl ∙ sym kind

-- a request that was read of a datagram
pub kinds-agree : (house : PlainHouse) (now : ℕ) (from : Datagram) (read : Routed) (reply : List ℕ) →
    ((place : ℕ) (shard : PlainShard) → slice_get house.shards place ≡ Some shard → IsSoundShard shard) →
    routed_by house.config from ≡ Some read → Some reply ≡ packet_reply house now from →
    kind_told read.ask (is_there house read.place read.ask now) reply ≡ request_kind house from now
kinds-agree house now from read reply sound is told =
    go (slice_get house.shards (route_of house.config from)) refl (request_of house.config from) refl
  where
    go : (found : Option PlainShard) → slice_get house.shards (route_of house.config from) ≡ found → (asked : Option Request) → request_of house.config from ≡ asked →
        kind_told read.ask (is_there house read.place read.ask now) reply ≡ request_kind house from now
    go None there asked asks =
        let none : packet_entry house now from ≡ None = ap (λ o. entry_by house now from o (request_of house.config from)) there in
        absurd (let bad : Some reply ≡ None = told ∙ ap (λ o. option_map (λ (x : Entry). x.reply) o) none in cc)
    go (Some shard) there None asks =
        let none : routed_by house.config from ≡ None = ap (λ o. option_map (routed_to (route_of house.config from)) o) asks in
        absurd (let bad : Some read ≡ None = sym is ∙ none in cc)
    go (Some shard) there (Some request) asks =
        let made : Some (routed_to (route_of house.config from) request) ≡ Some read = sym (ap (λ o. option_map (routed_to (route_of house.config from)) o) asks) ∙ is in
        let same : routed_to (route_of house.config from) request ≡ read = cc in
        subst (λ (r : Routed). kind_told r.ask (is_there house r.place r.ask now) reply ≡ request_kind house from now) same
        (by-shard house now from shard request reply there asks (sound (route_of house.config from) shard there) told)

-- a silent datagram
pub silent-kind : (house : PlainHouse) (from : Datagram) (now : ℕ) → request_of house.config from ≡ None → Refused ≡ request_kind house from now
silent-kind house from now silent =
    go (slice_get house.shards (route_of house.config from)) (packet_entry house now from)
    ∙ sym (ap (λ o. entry_kind_by (slice_get house.shards (route_of house.config from)) (packet_entry house now from) o) silent)
  where
    go : (shard : Option PlainShard) (e : Option Entry) → Refused ≡ entry_kind_by shard e None
    go None e = refl
    go (Some shard) None = refl
    go (Some shard) (Some e) = refl
