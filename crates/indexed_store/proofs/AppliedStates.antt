-- A state in tables after a record.
use Rattle.std.proofs.Common.{◌≡◌, ℕ, ◌≤◌, ◌||◌, true, false, cond, List, Option, sym, ap, ◌∙◌, subst}
use Rattle.pcp_base.specs.declared.leases.End.{End}
use Rattle.pcp_base.specs.declared.records.Change.{Change}
use Rattle.pcp_base.specs.declared.records.Change.TheVariants.{Start, Map, Peer, DropMap, DropPeer, Lose, Mark, Rest, Renumber}
use Rattle.pcp_base.specs.declared.records.Record.{Record}
use Rattle.pcp_base.specs.Tables.{Table, empty_table, live}
use Rattle.pcp_base.specs.States.{State}
use Rattle.pcp_base.specs.Sound.{Sound}
use Rattle.pcp_base.specs.Reached.{IsReached}
use Rattle.pcp_base.specs.Fits.{Fits, IsAllowed}
use Rattle.pcp_base.specs.Apply.{address_changed, apply, empties, is_start, rebases, table_1, table_2, table_changed}
use Rattle.pcp_base.specs.Laws.{ReachedIsKept}
use Rattle.leased_ports.specs.Leased.{Leased, IsPortsOf, at_moment, vacated}
use Rattle.leased_ports.specs.Listed.{ends_come}
use Rattle.leased_ports.specs.Laws.{EndsAreTold, PortsBeginAnew}
use Rattle.indexed_store.specs.declared.owning.OwnerRun.{OwnerRun}
use Rattle.indexed_store.specs.Runs.{touched_run}
use Rattle.indexed_store.specs.Holding.{AreNearAt}
use Rattle.indexed_store.specs.Tabled.{ArePart, ArePast, AreTabled, AreWhole, TabledState, Tables, no_tables, state_in}
use Rattle.indexed_store.specs.Indexed.{IsKept}
use Rattle.indexed_store.proofs.HeldLive.{near-at}
use Rattle.indexed_store.proofs.KeptStates.{none-come, tabled-empty}
use Rattle.indexed_store.proofs.PastLemmas.{past-later, past-none, past-part, whole-later, whole-live, whole-none}
use Rattle.indexed_store.proofs.Views.{found_is, past_is}

-- what is noted of a record, beside these leases and ports
abbrev pub noted : Table → Leased → State → Record → State
noted t v s r = state_in t v (cond (rebases r.change s.address) r.moment s.base) (address_changed r.change s.address) r.moment (is_start r.change || s.started)

-- a state in tables has these leases and ports, at the moment of a record
pub record IsAfter (t : Tables) (v : Leased) (made : State) (m : ℕ) (new : TabledState) : Type 0 where
  pub state : new.state ≡ made
  pub leases : new.leases ≡ t.found
  pub past : new.past ≡ t.past
  pub all : new.all ≡ t.all
  pub ports : new.ports ≡ v
  pub reached : v.reached ≡ m
  pub tabled : AreTabled t.found
  pub whole : AreWhole t
  pub ended : ArePast m t.past

pub noted-kept : (t : Tables) (v : Leased) (s : State) (r : Record) (new : TabledState) (to : State) → noted t.all v s r ≡ to → IsAfter t v (noted t.all v s r) r.moment new
    → IsPortsOf v to → IsKept new
noted-kept t v s r new to applied after are =
    let now : new.ports.reached ≡ r.moment = ap (λ (x : Leased). x.reached) after.ports ∙ after.reached in record {
      tabled = subst AreTabled (sym after.leases) after.tabled;
      table = ap (λ (x : State). x.table) after.state ∙ ap (λ (x : State). live t.all x.last) (sym after.state) ∙ ap (λ (u : Table). live u new.state.last) (sym after.all);
      live = λ m later.
          let then : r.moment ≤ m = subst (λ n. n ≤ m) now later in
          ap (λ (x : State). live x.table m) after.state ∙ whole-later t r.moment m then after.whole (past-later r.moment m t.past then after.ended)
          ∙ ap (λ (u : Table). live u m) (sym after.leases);
      past = subst (λ n. ArePast n new.past) (sym now) (subst (ArePast r.moment) (sym after.past) after.ended);
      ports = subst (λ (x : State). IsPortsOf new.ports x) (sym (after.state ∙ applied)) (subst (λ (x : Leased). IsPortsOf x to) (sym after.ports) are);
    }

-- ---- a record that doesn't forget all

module _ (kept_law : ReachedIsKept) (s : TabledState) (r : Record) (reached : IsReached s.state) (kept : IsKept s) (fits : Fits s.state r) (later : s.ports.reached ≤ r.moment) where
  live-then : live s.leases r.moment ≡ table_1 s.state r
  live-then = sym (kept.live r.moment later)

  -- what has left by then
  pub past-then : (past : Table) → ArePart past s.past → ArePast r.moment past
  past-then past part = past-part r.moment past s.past part (past-later s.ports.reached r.moment s.past later kept.past)

  pub allowed-then : IsAllowed (live s.leases r.moment) r.change
  allowed-then = subst (λ (t : Table). IsAllowed t r.change) (sym live-then) fits.allowed

  pub sound-then : Sound (table_changed r.change (live s.leases r.moment))
  sound-then = subst (λ (t : Table). Sound (table_changed r.change t)) (sym live-then) fits.sound.table

  pub touched-then : (run : Option OwnerRun) → run ≡ touched_run r.change (live s.leases r.moment) → run ≡ touched_run r.change (table_1 s.state r)
  touched-then run is = is ∙ ap (touched_run r.change) live-then

  module _ (t : Table) (changed : live t r.moment ≡ table_changed r.change (live s.leases r.moment)) where
    pub table-then : live t r.moment ≡ table_2 s.state r
    table-then = changed ∙ ap (table_changed r.change) live-then

    pub near-then : AreTabled t → AreNearAt r.moment t
    near-then tabled = near-at r.moment t (apply s.state r) tabled table-then (kept_law s.state r reached fits) fits.formed.moment

  module _ (t : Tables) (changed : live t.found r.moment ≡ table_changed r.change (live s.leases r.moment)) (whole : AreWhole t) (ended : ArePast r.moment t.past)
      (told : EndsAreTold) (v : Leased) (ports : IsPortsOf v (apply s.state r)) where
    pub noted-applied : noted t.all v s.state r ≡ apply s.state r
    noted-applied =
        let ends : ends_come r.moment v ≡ (apply s.state r).ends = sym (told v (apply s.state r) (kept_law s.state r reached fits) ports) in
        ap (λ (u : Table). record (noted t.all v s.state r) { table = u }) (whole-live t r.moment whole ended ∙ table-then t.found changed)
        ∙ ap (λ (es : List End). record (noted t.all v s.state r) { table = table_2 s.state r; ends = es }) ends

    pub change-kept : (new : TabledState) → IsAfter t v (noted t.all v s.state r) r.moment new → IsKept new
    change-kept new after = noted-kept t v s.state r new (apply s.state r) noted-applied after ports

-- ---- one that forgets all

begun : (s : State) (m : ℕ) (change : Change) (v : Leased) → empties change ≡ true
    → noted empty_table (vacated v) s (record { moment = m; change = change }) ≡ apply s (record { moment = m; change = change })
begun s m Start v h = ap (λ (es : List End). record (apply s (record { moment = m; change = Start })) { ends = es }) (none-come m v.low v.high v.quota)
begun s m Lose v h = ap (λ (es : List End). record (apply s (record { moment = m; change = Lose })) { ends = es }) (none-come m v.low v.high v.quota)
begun s m (Map l) v h = absurd (let never : false ≡ true = h in cc)
begun s m (Peer l) v h = absurd (let never : false ≡ true = h in cc)
begun s m (DropMap e) v h = absurd (let never : false ≡ true = h in cc)
begun s m (DropPeer e remote port) v h = absurd (let never : false ≡ true = h in cc)
begun s m Mark v h = absurd (let never : false ≡ true = h in cc)
begun s m (Rest e port end) v h = absurd (let never : false ≡ true = h in cc)
begun s m (Renumber a) v h = absurd (let never : false ≡ true = h in cc)

module _ (anew : PortsBeginAnew) (s : State) (r : Record) (forgets : empties r.change ≡ true) (t : Tables) (v old : Leased) (none : t ≡ no_tables) (is : v ≡ record (at_moment r.moment (vacated old)) { settled = v.settled }) where
  begin-noted : noted t.all v s r ≡ apply s r
  begin-noted = ap (λ (u : Tables). noted u.all v s r) none ∙ ap (λ (x : Leased). noted empty_table x s r) is ∙ begun s r.moment r.change old forgets

  module _ (new : TabledState) (state : new.state ≡ noted t.all v s r) where
    pub begin-applied : new.state ≡ apply s r
    begin-applied = state ∙ begin-noted

    pub begin-kept : new.leases ≡ t.found → new.past ≡ t.past → new.all ≡ t.all → new.ports ≡ v → IsKept new
    begin-kept leases past all ports = noted-kept t v s r new (apply s r) begin-noted
        (record {
          state = state;
          leases = leases;
          past = past;
          all = all;
          ports = ports;
          reached = ap (λ (x : Leased). x.reached) is;
          tabled = subst AreTabled (sym (found_is none)) tabled-empty;
          whole = whole-none t none;
          ended = past-none r.moment t.past (past_is none);
        })
        (subst (λ (x : Leased). IsPortsOf x (apply s r)) (sym is) (let of = anew old.low old.high old.quota s r forgets in record { passed = of.passed; same = of.same }))
