-- What may come next in a legal history.
use Rattle.std.specs.Prelude.{IfSome}
use Rattle.std.specs.List.{AllByRecursion}
use Rattle.std.proofs.Common.{◌≡◌, ◌∙◌, ℕ, ◌==◌, ◌&&◌, ◌≤◌, ◌<◌, ◌^◌, Bool, true, false, cond, List, [], ◌∷◌, length, Option, Some, None, refl, ap, sym, subst, arith}
use Rattle.std.proofs.lemmas.Bool.{eqb-true}
use Rattle.pcp_base.specs.declared.addresses.Address.{Address}
use Rattle.pcp_base.specs.declared.configs.Config.{Config}
use Rattle.pcp_base.specs.declared.datagrams.Datagram.{Datagram}
use Rattle.pcp_base.specs.declared.datagrams.Entry.{Entry}
use Rattle.pcp_base.specs.declared.records.Record.{Record}
use Rattle.pcp_base.specs.declared.records.Change.{Change}
use Rattle.pcp_base.specs.declared.records.Change.TheVariants.{Start, Map, Peer, DropMap, DropPeer, Lose, Mark, Rest, Renumber}
use Rattle.pcp_base.specs.Apply.{rebases}
use Rattle.pcp_base.specs.States.{State}
use Rattle.pcp_base.proofs.Members.{All-weaker}
use Rattle.pcp_options.specs.declared.verdicts.Verdict.TheVariants.{Silent}
use Rattle.pcp_options.specs.Responses.{AreOctets}
use Rattle.pcp_options.specs.Verdicts.{verdict_of}
use Rattle.lease_store.specs.LeaseTerms.{terms_of}
use Rattle.lease_core.specs.Laws.{ChangesLease, DecisionsChangeLeases}
use Rattle.lease_histories.specs.Entries.{Served, OfRequest, OfServer, OfFault, Request, entry_kind, kind_without_octets, request_by, request_of, request_entry, decided_on}
use Rattle.lease_histories.specs.Routes.{verdict_of_datagram}
use Rattle.lease_histories.specs.Legal.{IsLegal, IsOfKind, IsOpening, state_after, moment_after, base_after}
use Rattle.lease_histories.specs.Laws.{AreGreatest, DecisionsComeNext, FaultsComeNext, ServersComeNext}
use Rattle.lease_histories.specs.PlainHouses.{with_kept}
use Rattle.lease_histories.proofs.Growing.{along, last-greatest, moment-more, state-more}
use Rattle.lease_histories.proofs.EntryKinds.{KindOf, is_request, is_server, is_fault, kind_of_entry}

-- ---- requests

empty-silent : (config : Config) (source : Address) (message : List ℕ) → (length message == 0) ≡ true → verdict_of_datagram config source message ≡ Silent
unfolding verdict_of verdict_of_datagram
empty-silent config source [] h = refl
empty-silent config source (x ∷ message) h = let k = eqb-true (length (x ∷ message)) 0 h in absurd (omega (arith, k))

pub heard : (config : Config) (from : Datagram) (q : Request) → request_of config from ≡ Some q → (length from.octets == 0) ≡ false
heard config from q asks = go (length from.octets == 0) refl
  where
    go : (b : Bool) → (length from.octets == 0) ≡ b → b ≡ false
    go false is = refl
    go true is =
        let none : request_of config from ≡ None = ap request_by (empty-silent config from.peer from.octets is) in absurd cc

no-rebase : (change : Change) → ChangesLease change → (s : State) → rebases change s.address ≡ false
no-rebase (Map l) h s = refl
no-rebase (Peer l) h s = refl
no-rebase (DropMap e) h s = refl
no-rebase (DropPeer e a p) h s = refl
no-rebase Start h s = absurd h
no-rebase Lose h s = absurd h
no-rebase Mark h s = absurd h
no-rebase (Rest e p t) h s = absurd h
no-rebase (Renumber a) h s = absurd h

pub kept-base : (s : State) (kept : Option Record) (m : ℕ) → IfSome kept (λ r. ChangesLease r.change × (r.moment ≡ m)) → (with_kept s kept).base ≡ s.base
kept-base s None m h = refl
kept-base s (Some r) m h = ap (λ b. cond b r.moment s.base) (no-rebase r.change h.0 s)

kept-moment : (kept : Option Record) (m : ℕ) → IfSome kept (λ r. ChangesLease r.change × (r.moment ≡ m)) → IfSome kept (λ r. r.moment ≡ m)
kept-moment None m h = tt
kept-moment (Some r) m h = h.1

all-told : (opening : State) (entries : List Entry) (b : ℕ) → AreGreatest opening entries → base_after opening entries ≤ b → AllByRecursion (λ p. p.base ≤ b) entries
all-told opening entries b h told =
    All-weaker (λ p. p.base ≤ base_after opening entries) (λ p. p.base ≤ b) (λ p k. omega (arith, k, told)) entries h.bases

pub decisions-next : DecisionsChangeLeases → DecisionsComeNext
decisions-next law x opening entries m base from q legal least comes =
    let s = state_after opening entries in
    let e = request_entry x s m base from q in
    let greatest = last-greatest x opening entries legal in
    let change = law (terms_of x.external x.config) s m q.ask in
    let kind : entry_kind e ≡ OfRequest = ap (λ b. cond (b && length e.reply == 0) (kind_without_octets e.kept) OfRequest) (heard x.config from q comes.asks) in
    let last = greatest.last in
    let first = greatest.base in
    let later = least.later in
    let told = least.told in
    record {
      value = record { moment = least.in_range; octets = comes.octets };
      later = later;
      after_records = omega (arith, last, later);
      recorded = kept-moment (decided_on x s m q).kept m change;
      kind = subst (λ k. IsOfKind k x opening entries e) (sym kind)
          (record { routed = comes.routed; request = q; asks = comes.asks; kept = refl; reply = refl });
      base = subst (λ (t : State). t.base ≤ base) (sym (state-more opening entries e))
          (let same = kept-base s (decided_on x s m q).kept m change in omega (arith, same, first, told));
      bases = all-told opening entries base greatest told;
    }

-- ---- what the server itself does, and faults

quiet-by : (e : Entry) (b c : Bool) → cond (b && c) (kind_without_octets e.kept) OfRequest ≡ entry_kind e → (entry_kind e ≡ OfRequest → ⊥) → b ≡ true
quiet-by e true c is h = refl
quiet-by e false c is h = absurd (h (sym is))

no-octets : (message : List ℕ) → (length message == 0) ≡ true → AreOctets message
no-octets [] h i = omega arith
no-octets (x ∷ message) h i = let k = eqb-true (length (x ∷ message)) 0 h in absurd (omega (arith, k))

quiet : (e : Entry) → (entry_kind e ≡ OfRequest → ⊥) → AreOctets e.from.octets
quiet e h = no-octets e.from.octets (quiet-by e (length e.from.octets == 0) (length e.reply == 0) refl h)

server-kept : (e : Entry) (r : Record) → entry_kind e ≡ OfServer r → e.kept ≡ Some r
server-kept e r h = go (kind_of_entry e)
  where
    go : KindOf e → e.kept ≡ Some r
    go (is_request kind) = absurd cc
    go (is_server q kind some) = let same : q ≡ r = cc in some ∙ ap (λ x. Some x) same
    go (is_fault kind none) = absurd cc

fault-kept : (e : Entry) → entry_kind e ≡ OfFault → e.kept ≡ None
fault-kept e h = go (kind_of_entry e)
  where
    go : KindOf e → e.kept ≡ None
    go (is_request kind) = absurd cc
    go (is_server q kind some) = absurd cc
    go (is_fault kind none) = none

base-either : (b : Bool) (m base told : ℕ) → m ≤ told → base ≤ told → cond b m base ≤ told
base-either true m base told h k = h
base-either false m base told h k = k

pub servers-next : ServersComeNext
servers-next x opening entries e r legal least kind moment of anew =
    let s = state_after opening entries in
    let greatest = last-greatest x opening entries legal in
    let kept = server-kept e r kind in
    let last = greatest.last in
    let first = greatest.base in
    let later = least.later in
    let told = least.told in
    record {
      value = record { moment = least.in_range; octets = quiet e (λ k. absurd cc) };
      later = later;
      after_records = omega (arith, last, later);
      recorded = subst (λ k. IfSome k (λ r. r.moment ≡ e.moment)) (sym kept) moment;
      kind = subst (λ k. IsOfKind k x opening entries e) (sym kind) of;
      base = subst (λ (t : State). t.base ≤ e.base) (sym (state-more opening entries e ∙ ap (with_kept s) kept))
          (base-either (rebases r.change s.address) r.moment s.base e.base (omega (arith, moment, anew)) (omega (arith, first, told)));
      bases = all-told opening entries e.base greatest told;
    }

pub moment-in-range : (x : Served) (opening : State) (entries : List Entry) → IsOpening x opening → IsLegal x opening entries → moment_after opening entries < 2 ^ 40
moment-in-range x opening entries opens legal =
    along (λ es. moment_after opening es < 2 ^ 40) x opening
    (λ before e h next. let m = moment-more opening before e in let range = next.value.moment in omega (arith, m, range))
    [] entries legal opens.reached.last

pub faults-next : FaultsComeNext
faults-next x opening entries e opens legal kind moment base =
    let s = state_after opening entries in
    let greatest = last-greatest x opening entries legal in
    let kept = fault-kept e kind in
    let range = moment-in-range x opening entries opens legal in
    let last = greatest.last in
    let first = greatest.base in
    record {
      value = record { moment = omega (arith, range, moment); octets = quiet e (λ k. absurd cc) };
      later = omega (arith, moment);
      after_records = omega (arith, last, moment);
      recorded = subst (λ k. IfSome k (λ r. r.moment ≡ e.moment)) (sym kept) tt;
      kind = subst (λ k. IsOfKind k x opening entries e) (sym kind) (record { moment = moment; base = base });
      base = subst (λ (t : State). t.base ≤ e.base) (sym (state-more opening entries e ∙ ap (with_kept s) kept)) (omega (arith, first, base));
      bases = all-told opening entries e.base greatest (omega (arith, base));
    }
