-- What an entry may be, by its kind, and what its record does.
use Rattle.std.specs.List.{AllByRecursion, slice_get}
use Rattle.std.proofs.Common.{◌≡◌, ◌∙◌, ℕ, zero, suc, ◌==◌, ◌&&◌, ◌||◌, ◌≤◌, ◌<◌, ◌^◌, Bool, true, false, cond, List, [], ◌∷◌, ◌++◌, length, not, Option, Some, None, refl, ap, sym, subst, arith}
use Rattle.pcp_base.specs.declared.addresses.Address.{Address}
use Rattle.pcp_base.specs.declared.asks.Ask.{Ask}
use Rattle.pcp_base.specs.declared.asks.Ask.TheVariants.{Known}
use Rattle.pcp_base.specs.declared.configs.Config.{Config}
use Rattle.pcp_base.specs.declared.datagrams.Datagram.{Datagram}
use Rattle.pcp_base.specs.declared.datagrams.Entry.{Entry}
use Rattle.pcp_base.specs.declared.records.Record.{Record}
use Rattle.pcp_base.specs.declared.records.Change.{Change}
use Rattle.pcp_base.specs.declared.records.Change.TheVariants.{Start, Map, Peer, DropMap, DropPeer, Lose, Mark, Rest, Renumber}
use Rattle.pcp_base.specs.Apply.{apply, is_start, empties}
use Rattle.pcp_base.specs.Asks.{IsWellFormedAsk}
use Rattle.pcp_base.specs.Configs.{IsConfig, IsExternal}
use Rattle.pcp_base.specs.Fits.{Fits}
use Rattle.pcp_base.specs.Reached.{IsReached}
use Rattle.pcp_base.specs.States.{State}
use Rattle.pcp_base.proofs.ApplyLaws.{IsReached-apply, SoundState-apply}
use Rattle.pcp_base.proofs.TableLemmas.{Sound-live, Sound-empty}
use Rattle.pcp_options.specs.declared.options.Item.{Item}
use Rattle.pcp_options.specs.declared.verdicts.Verdict.{Verdict}
use Rattle.pcp_options.specs.declared.verdicts.Verdict.TheVariants.{Silent, Refuse, Asked}
use Rattle.lease_histories.specs.DatagramAsks.{DatagramAsksAreWellFormed}
use Rattle.pcp_options.specs.Responses.{AreOctets}
use Rattle.lease_store.specs.LeaseTerms.{AreTerms, terms_of}
use Rattle.lease_core.specs.Laws.{DecisionsFit, MayDecide}
use Rattle.lease_histories.specs.Routes.{judged}
use Rattle.lease_histories.specs.Entries.{Served, EntryKind, OfRequest, OfServer, OfFault, Request, entry_kind, has_just_begun, kind_without_octets, request_by, request_of, decided_on}
use Rattle.lease_histories.specs.Legal.{IsNextEntry, IsLegal, IsOfKind, IsOfTable, IsOfServer, IsOpening, state_after}
use Rattle.lease_histories.specs.PlainHouses.{with_kept}
use Rattle.lease_histories.proofs.Growing.{along, if-some, state-more}

-- ---- kinds

pub data KindOf (e : Entry) : Type 0 where
  is_request : entry_kind e ≡ OfRequest → KindOf e
  is_server : (r : Record) → entry_kind e ≡ OfServer r → e.kept ≡ Some r → KindOf e
  is_fault : entry_kind e ≡ OfFault → e.kept ≡ None → KindOf e

pub kind_of_entry : (e : Entry) → KindOf e
kind_of_entry e = by (length e.from.octets == 0 && length e.reply == 0) e.kept refl refl
  where
    by : (b : Bool) (k : Option Record) → (length e.from.octets == 0 && length e.reply == 0) ≡ b → e.kept ≡ k → KindOf e
    by false k is kept = is_request (ap (λ b. cond b (kind_without_octets e.kept) OfRequest) is)
    by true (Some r) is kept = is_server r (ap (λ b. cond b (kind_without_octets e.kept) OfRequest) is ∙ ap kind_without_octets kept) kept
    by true None is kept = is_fault (ap (λ b. cond b (kind_without_octets e.kept) OfRequest) is ∙ ap kind_without_octets kept) kept

-- ---- the terms of an external address that is served

All-get : {X : Type 0} (P : X → Type 0) (xs : List X) (i : ℕ) (x : X) → AllByRecursion P xs → slice_get xs i ≡ Some x → P x
All-get P [] i x all h = absurd cc
All-get P (y ∷ xs) zero x all h = let same : y ≡ x = cc in subst P same all.0
All-get P (y ∷ xs) (suc i) x all h = All-get P xs i x all.1 h

pub terms-allowed : (x : Served) → IsConfig x.config → slice_get x.config.externals x.place ≡ Some x.external → AreTerms (terms_of x.external x.config)
terms-allowed x config there = record {
  external = All-get IsExternal x.config.externals x.place x.external config.externals there;
  quota = config.quota;
  lifetime_min = config.lifetime_min;
  lifetimes = config.lifetimes;
  lifetime_max = config.lifetime_max;
}

-- ---- what is asked is well formed

formed-by : (v : Verdict) (request : Request) → ((place : ℕ) (ask : Ask) (items : List Item) → v ≡ Asked place ask items → IsWellFormedAsk ask) →
    request_by v ≡ Some request → IsWellFormedAsk request.ask
formed-by Silent request asked h = absurd cc
formed-by (Refuse refusal) request asked h =
    let made : Request = record { ask = Known refusal; items = [] } in
    let same : made ≡ request = cc in subst (λ (r : Request). IsWellFormedAsk r.ask) same tt
formed-by (Asked place ask items) request asked h =
    let made : Request = record { ask = ask; items = items } in
    let same : made ≡ request = cc in subst (λ (r : Request). IsWellFormedAsk r.ask) same (asked place ask items refl)

pub request-formed : DatagramAsksAreWellFormed → (config : Config) (from : Datagram) (request : Request) → AreOctets from.octets →
    request_of config from ≡ Some request → IsWellFormedAsk request.ask
request-formed law config from request octets h =
    formed-by (judged config from) request (λ place ask items is. law config from.peer from.octets place ask items octets is) h

-- ---- what a record does

-- a table that begins anew
anew-reached : (s : State) (m : ℕ) (change : Change) → m < 2 ^ 40 → empties change ≡ true →
    IsReached (apply s (record { moment = m; change = change }))
anew-reached s m Start range h = record {
  sound = record { table = Sound-empty; ordered = tt; unowned = tt };
  maps = tt;
  peers = tt;
  ends = tt;
  base = omega arith;
  last = range;
}
anew-reached s m Lose range h = record {
  sound = record { table = Sound-empty; ordered = tt; unowned = tt };
  maps = tt;
  peers = tt;
  ends = tt;
  base = omega arith;
  last = range;
}
anew-reached s m (Map l) range h = absurd cc
anew-reached s m (Peer l) range h = absurd cc
anew-reached s m (DropMap e) range h = absurd cc
anew-reached s m (DropPeer e a p) range h = absurd cc
anew-reached s m Mark range h = absurd cc
anew-reached s m (Rest e p t) range h = absurd cc
anew-reached s m (Renumber a) range h = absurd cc

pub renumber-fits : (s : State) (m : ℕ) (a : Address) → IsReached s → s.started ≡ true → s.last ≤ m → m < 2 ^ 40 →
    Fits s (record { moment = m; change = Renumber a })
renumber-fits s m a reached started later range =
    let r : Record = record { moment = m; change = Renumber a } in
    record {
      formed = record { moment = range; change = tt };
      first = ap not (sym started);
      later = later;
      allowed = tt;
      rested = tt;
      sound = SoundState-apply s r reached.sound tt (Sound-live s.table m reached.sound.table);
    }

-- a record that the server itself makes
pub data ServerDeed (before : List Entry) (r : Record) : Type 0 where
  begins : empties r.change ≡ true → ServerDeed before r
  renumbers : (a : Address) → r.change ≡ Renumber a → has_just_begun before ≡ true → ServerDeed before r

pub server_deed : (before : List Entry) (m : ℕ) (change : Change) → IsOfServer before change → ServerDeed before (record { moment = m; change = change })
server_deed before m (Renumber a) h = renumbers a refl h
server_deed before m Start h = begins h
server_deed before m Lose h = begins h
server_deed before m (Map l) h = absurd cc
server_deed before m (Peer l) h = absurd cc
server_deed before m (DropMap e) h = absurd cc
server_deed before m (DropPeer e a p) h = absurd cc
server_deed before m Mark h = absurd cc
server_deed before m (Rest e p t) h = absurd cc

started-after : (s : State) (r : Record) → s.started ≡ true → (apply s r).started ≡ true
started-after s r h = go (is_start r.change) s.started h
  where
    go : (a b : Bool) → b ≡ true → (a || b) ≡ true
    go true b h = refl
    go false b h = h

-- ---- what holds along

pub record IsWell (s : State) : Type 0 where
  pub reached : IsReached s
  pub started : s.started ≡ true

pub well-server : (s : State) (before : List Entry) (r : Record) → IsWell s → s.last ≤ r.moment → r.moment < 2 ^ 40 →
    ServerDeed before r → IsWell (apply s r)
well-server s before r h later range (begins is) = record { reached = anew-reached s r.moment r.change range is; started = started-after s r h.started }
well-server s before r h later range (renumbers a is just) =
    record {
      reached = IsReached-apply s r h.reached
          (subst (λ c. Fits s (record { moment = r.moment; change = c })) (sym is) (renumber-fits s r.moment a h.reached h.started later range));
      started = started-after s r h.started;
    }

-- what may be decided on a request
pub may-decide : DatagramAsksAreWellFormed → (x : Served) (s : State) (m : ℕ) (from : Datagram) (request : Request) →
    IsConfig x.config → slice_get x.config.externals x.place ≡ Some x.external → IsWell s → s.last ≤ m → m < 2 ^ 40 → AreOctets from.octets →
    request_of x.config from ≡ Some request → MayDecide (terms_of x.external x.config) s m request.ask
may-decide law x s m from request config there h later range octets asks = record {
  allowed = terms-allowed x config there;
  reached = h.reached;
  started = h.started;
  later = later;
  moment = range;
  formed = request-formed law x.config from request octets asks;
}

well-kept : (s : State) (kept : Option Record) → IsWell s → ((r : Record) → kept ≡ Some r → IsWell (apply s r)) → IsWell (with_kept s kept)
well-kept s None h each = h
well-kept s (Some r) h each = each r refl

pub of-kind : (x : Served) (opening : State) (before : List Entry) (e : Entry) (k : EntryKind) → entry_kind e ≡ k →
    IsNextEntry x opening before e → IsOfKind k x opening before e
of-kind x opening before e k is next = subst (λ j. IsOfKind j x opening before e) is next.kind

pub well-step : DatagramAsksAreWellFormed → DecisionsFit → (x : Served) (opening : State) → IsOpening x opening → (before : List Entry) (e : Entry) →
    IsWell (state_after opening before) → IsNextEntry x opening before e → IsWell (state_after opening (before ++ e ∷ []))
well-step formed fit x opening opens before e h next =
    subst IsWell (sym (state-more opening before e))
    (well-kept (state_after opening before) e.kept h (by (kind_of_entry e)))
  where
    by : KindOf e → (r : Record) → e.kept ≡ Some r → IsWell (apply (state_after opening before) r)
    by (is_fault kind none) r is = absurd cc
    by (is_server q kind some) r is =
        let same : q ≡ r = cc in
        let moment = if-some e.kept (λ r. r.moment ≡ e.moment) r next.recorded is in
        let later = next.after_records in
        let range = next.value.moment in
        well-server (state_after opening before) before r h (omega (arith, moment, later)) (omega (arith, moment, range))
        (server_deed before r.moment r.change (subst (λ (r : Record). IsOfServer before r.change) same (of-kind x opening before e (OfServer q) kind next)))
    by (is_request kind) r is =
        let of : IsOfTable x (state_after opening before) e = of-kind x opening before e OfRequest kind next in
        let s = state_after opening before in
        let may = may-decide formed x s e.moment e.from of.request opens.config opens.there h next.after_records next.value.moment next.value.octets of.asks in
        let fits = if-some (decided_on x s e.moment of.request).kept (λ r. Fits s r × (r.moment ≡ e.moment)) r
        (fit (terms_of x.external x.config) s e.moment of.request.ask may) (sym of.kept ∙ is) in
        record { reached = IsReached-apply s r h.reached fits.0; started = started-after s r h.started }

pub well-after : DatagramAsksAreWellFormed → DecisionsFit → (x : Served) (opening : State) (entries : List Entry) → IsOpening x opening → IsLegal x opening entries →
    IsWell (state_after opening entries)
well-after formed fit x opening entries opens legal =
    along (λ es. IsWell (state_after opening es)) x opening (well-step formed fit x opening opens) [] entries legal
    (record { reached = opens.reached; started = opens.started })
