-- What the calls do is what those of a plain house do.
use Rattle.std.specs.Prelude.{max, slice_set, IsSome}
use Rattle.std.specs.List.{slice_get}
use Rattle.std.specs.Option.{option_map, option_map_or}
use Rattle.std.proofs.Common.{◌≡◌, ◌∙◌, ℕ, List, [], map, Option, Some, None, refl, ap, sym, subst, inl, inr}
use Rattle.pcp_base.specs.declared.addresses.Address.{Address}
use Rattle.pcp_base.specs.declared.configs.Config.{Config}
use Rattle.pcp_base.specs.declared.configs.External.{External}
use Rattle.pcp_base.specs.declared.datagrams.Datagram.{Datagram}
use Rattle.pcp_base.specs.declared.datagrams.Entry.{Entry}
use Rattle.pcp_base.specs.declared.records.Record.{Record}
use Rattle.pcp_base.specs.Apply.{apply_all}
use Rattle.pcp_base.specs.Epoch.{epoch_of}
use Rattle.pcp_base.specs.States.{State}
use Rattle.lease_core.specs.Decide.{decide}
use Rattle.lease_store.specs.declared.terms.Terms.{Terms}
use Rattle.lease_store.specs.Lookups.{lease_count}
use Rattle.shard_book.specs.declared.batches.DatedAnswer.{DatedAnswer}
use Rattle.shard_book.specs.Batches.{kept_before}
use Rattle.shard_book.specs.Books.{BookView}
use Rattle.shard_book.specs.Keepings.{Keeps}
use Rattle.lease_histories.specs.Entries.{Request, reply_text_of, request_entry, request_of}
use Rattle.lease_histories.specs.HouseHistories.{greatest}
use Rattle.lease_histories.specs.PlainHouses.{PlainHouse, PlainShard, add_by, add_entry, entry_by, greatest_base, loss_entry, loss_of, packet_entry, raised, served_at, shard_after, with_kept}
use Rattle.lease_histories.specs.Routes.{route_of}
use Rattle.lease_house.specs.declared.faults.HouseFault.{HouseFault}
use Rattle.lease_house.specs.declared.faults.HouseFault.TheVariants.{Memory}
use Rattle.lease_house.specs.declared.routes.Routed.{Routed}
use Rattle.lease_house.specs.BookCalls.{AnswersAsk}
use Rattle.lease_house.specs.Routings.{routed_to}
use Rattle.lease_house.specs.SoloCalls.{AnswersPacket, IsLineRefused, LosesAt, RefusesPacket, SettlesAt, ask_records, loss_records, request_records}
use Rattle.lease_house.specs.SoloHouses.{ChangesBook, HouseView, plain_house, plain_shard}
use Rattle.lease_house.proofs.ListLemmas.{get-map, map-map, map-put}

pub plain-greatest : {D : Type 0} (books : List (BookView D)) → greatest (map (λ (b : BookView D). b.state.base) books) ≡ greatest (map (λ (s : PlainShard). s.state.base) (map plain_shard books))
plain-greatest {D} books = ap (λ (l : List ℕ). greatest l) (sym (map-map (λ (s : PlainShard). s.state.base) plain_shard books))

-- ---- plain houses

entry-is : (house : PlainHouse) (now : ℕ) (from : Datagram) (shard : PlainShard) (request : Request) → slice_get house.shards (route_of house.config from) ≡ Some shard →
    request_of house.config from ≡ Some request → packet_entry house now from
    ≡ Some (request_entry (served_at house (route_of house.config from) shard) shard.state (raised now shard) (greatest_base house) from request)
entry-is house now from shard request there asks =
    ap (λ (o : Option PlainShard). entry_by house now from o (request_of house.config from)) there
    ∙ ap (λ (o : Option Request). entry_by house now from (Some shard) o) asks

added : (house : PlainHouse) (place : ℕ) (shard : PlainShard) (e : Entry) → slice_get house.shards place ≡ Some shard →
    add_entry house place (Some e) ≡ record house { shards = slice_set house.shards place (shard_after shard e) }
added house place shard e there = ap (λ (o : Option PlainShard). add_by house place o (Some e)) there

abbrev shard-of : External → State → ℕ → PlainShard
shard-of external state last = record { external = external; state = state; last = last }

same-shard : (a b : External) (s t : State) (m n : ℕ) → a ≡ b → s ≡ t → m ≡ n → shard-of a s m ≡ shard-of b t n
same-shard a b s t m n p q r = ap (λ (x : External). shard-of x s m) p ∙ ap (λ (x : State). shard-of b x m) q ∙ ap (λ (x : ℕ). shard-of b t x) r

kept-once : (s : State) (kept : Option Record) → apply_all s (kept_before kept []) ≡ with_kept s kept
kept-once s None = refl
kept-once s (Some r) = refl

-- the plain house, when a book has changed
plain-put : {D : Type 0} (mid new : HouseView D) (place : ℕ) (b c : BookView D) (shard : PlainShard) → ChangesBook place b c mid new → plain_shard c ≡ shard →
    plain_house new ≡ record (plain_house mid) { shards = slice_set (map plain_shard mid.books) place shard }
plain-put {D} mid new place b c shard changes same =
    ap (λ (h : HouseView D). plain_house h) changes.new_is
    ∙ ap (λ (l : List PlainShard). record (plain_house mid) { shards = l }) (map-put plain_shard mid.books place c
    ∙ ap (λ (s : PlainShard). slice_set (map plain_shard mid.books) place s) same)

-- ---- a datagram

pub routed-is : (place : ℕ) (asked : Option Request) (r : Routed) → option_map (routed_to place) asked ≡ Some r →
    (asked ≡ Some (record { ask = r.ask; items = r.items })) × (r.place ≡ place)
routed-is place None r h = absurd cc
routed-is place (Some q) r h =
    let same : routed_to place q ≡ r = cc in
    subst (λ (x : Routed). (Some q ≡ Some (record { ask = x.ask; items = x.items })) × (x.place ≡ place)) same (refl, refl)

module _ {D : Type 0} (tells : Type 0) (moment : D → ℕ) (left_since : D → ℕ → List ℕ → Type 0) (may_leave : D → List ℕ → Type 0) where
  pub answers-packet : (now : ℕ) (from : Datagram) (request : Request) (old new : HouseView D) (answer : DatedAnswer) (address : Address) → request_of old.config from ≡ Some request →
      (a : AnswersAsk tells moment left_since may_leave now (route_of old.config from) request.ask old new answer) → address ≡ a.book.terms.external.address →
      AnswersPacket tells moment left_since may_leave now from old new (reply_text_of from.octets address request.items answer.answer (epoch_of answer.moment answer.base))
  answers-packet now from request old new answer address asks a to =
      let mid : HouseView D = a.mid in
      let book : BookView D = a.book in
      let house : PlainHouse = plain_house mid in
      let place : ℕ = route_of old.config from in
      let m : ℕ = max now book.last in
      let same : mid.config ≡ old.config = ap (λ (h : HouseView D). h.config) a.settles.changes.new_is in
      let there : slice_get house.shards place ≡ Some (plain_shard book) = get-map plain_shard mid.books place book a.changes.there in
      let here : slice_get house.shards (route_of mid.config from) ≡ Some (plain_shard book) = ap (λ (x : Config). slice_get house.shards (route_of x from)) same ∙ there in
      let asked : request_of mid.config from ≡ Some request = ap (λ (x : Config). request_of x from) same ∙ asks in
      let e : Entry = request_entry (served_at house (route_of mid.config from) (plain_shard book)) book.state m (greatest_base house) from request in
      let entry : packet_entry house now from ≡ Some e = entry-is house now from (plain_shard book) request here asked in
      let own : Address = book.terms.external.address in
      let told : e.reply ≡ reply_text_of from.octets address request.items answer.answer (epoch_of answer.moment answer.base) =
      ap (λ (t : Terms). reply_text_of from.octets own request.items (decide t book.state m request.ask).answer (epoch_of m (greatest_base house))) a.on_terms
      ∙ sym (ap (λ (x : DatedAnswer). reply_text_of from.octets own request.items x.answer (epoch_of x.moment x.base)) a.told)
      ∙ sym (ap (λ (x : Address). reply_text_of from.octets x request.items answer.answer (epoch_of answer.moment answer.base)) to) in
      let kept : a.kept_book.state ≡ with_kept book.state e.kept =
      a.keeps.state ∙ kept-once book.state (decide book.terms book.state m request.ask).kept
      ∙ sym (ap (λ (t : Terms). with_kept book.state (decide t book.state m request.ask).kept) a.on_terms) in
      let shard : plain_shard a.kept_book ≡ shard_after (plain_shard book) e =
      same-shard a.kept_book.terms.external book.terms.external a.kept_book.state (with_kept book.state e.kept) a.kept_book.last m
      (ap (λ (t : Terms). t.external) a.keeps.terms) kept a.keeps.last in
      record {
        mid = mid;
        settles = a.settles;
        told = ap (λ (o : Option Entry). option_map (λ (x : Entry). x.reply) o) entry ∙ ap (λ (t : List ℕ). Some t) told;
        after = plain-put mid new place book a.kept_book (shard_after (plain_shard book) e) a.changes shard
            ∙ sym (ap (λ (o : Option Entry). add_entry house (route_of mid.config from) o) entry
            ∙ ap (λ (x : Config). add_entry house (route_of x from) (Some e)) same
            ∙ added house place (plain_shard book) e there);
        keeps = record {
          book = book;
          kept_book = a.kept_book;
          keeps = subst (λ (o : Option Request). Keeps tells moment left_since may_leave m (request_records now o book) book a.kept_book) (sym asks) a.keeps;
          changes = a.changes;
        };
      }

  pub refuses-packet : (now : ℕ) (from : Datagram) (request : Request) (old new : HouseView D) (fault : HouseFault) → request_of old.config from ≡ Some request →
      IsLineRefused tells moment left_since may_leave now (route_of old.config from) (ask_records now request.ask) old new fault →
      RefusesPacket tells moment left_since may_leave now from old new fault
  refuses-packet now from request old new fault asks is =
      inr (
        subst (λ (o : Option Request). IsSome o) (sym asks) refl,
        inl (subst (λ (o : Option Request). IsLineRefused tells moment left_since may_leave now (route_of old.config from) (request_records now o) old new fault) (sym asks) is),
      )

  pub untold-packet : (now : ℕ) (from : Datagram) (request : Request) (old new : HouseView D) (fault : HouseFault) (reply : List ℕ) → request_of old.config from ≡ Some request →
      fault ≡ Memory → AnswersPacket tells moment left_since may_leave now from old new reply →
      RefusesPacket tells moment left_since may_leave now from old new fault
  untold-packet now from request old new fault reply asks memory answers =
      inr (subst (λ (o : Option Request). IsSome o) (sym asks) refl, inr (record { memory = memory; reply = reply; answers = answers }))

  -- ---- a loss

  pub loses-plainly : (now place : ℕ) (old mid new : HouseView D) (b c : BookView D) (count : ℕ) → SettlesAt tells moment left_since may_leave now place old mid →
      ChangesBook place b c mid new → count ≡ lease_count b.state.table (max now b.last) →
      Keeps tells moment left_since may_leave (max now b.last) (loss_records now b) b c → LosesAt tells moment left_since may_leave now place old new count
  loses-plainly now place old mid new b c count settles changes counted keeps =
      let house : PlainHouse = plain_house mid in
      let m : ℕ = max now b.last in
      let there : slice_get house.shards place ≡ Some (plain_shard b) = get-map plain_shard mid.books place b changes.there in
      let e : Entry = loss_of house m in
      let entry : loss_entry house place now ≡ Some e = ap (λ (o : Option PlainShard). option_map (λ (s : PlainShard). loss_of house (raised now s)) o) there in
      let shard : plain_shard c ≡ shard_after (plain_shard b) e =
      same-shard c.terms.external b.terms.external c.state (with_kept b.state e.kept) c.last m (ap (λ (t : Terms). t.external) keeps.terms) keeps.state keeps.last in
      record {
        mid = mid;
        settles = settles;
        told = counted ∙ sym (ap (λ (o : Option PlainShard). option_map_or (λ (s : PlainShard). lease_count s.state.table (raised now s)) o 0) there);
        after = plain-put mid new place b c (shard_after (plain_shard b) e) changes shard
            ∙ sym (ap (λ (o : Option Entry). add_entry house place o) entry ∙ added house place (plain_shard b) e there);
        keeps = record { book = b; kept_book = c; keeps = keeps; changes = changes };
      }
