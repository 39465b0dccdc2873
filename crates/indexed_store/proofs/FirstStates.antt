-- A state in tables after a record of the first format.
use Rattle.std.proofs.Common.{◌≡◌, ℕ, ◌≤◌, List, sym, ap, ◌∙◌, subst, arith}
use Rattle.pcp_base.specs.declared.leases.End.{End}
use Rattle.pcp_base.specs.declared.records.Record.{Record}
use Rattle.pcp_base.specs.Tables.{Table, live}
use Rattle.pcp_base.specs.States.{State}
use Rattle.pcp_base.specs.Sound.{Sound}
use Rattle.pcp_base.specs.Reached.{IsReachedFirst}
use Rattle.pcp_base.specs.Fits.{FitsFirst, IsAllowed}
use Rattle.pcp_base.specs.Apply.{apply_first, table_changed}
use Rattle.pcp_base.specs.Laws.{FirstReachedIsKept}
use Rattle.mapping_table.specs.Laws.{SoundTablesHaveSoundMaps}
use Rattle.peer_table.specs.Laws.{SoundTablesHaveSoundPeers}
use Rattle.leased_ports.specs.Leased.{Leased, IsPortsOf, at_moment}
use Rattle.leased_ports.specs.Listed.{ends_come}
use Rattle.leased_ports.specs.Laws.{EndsAreTold, PortsFollowMoments}
use Rattle.indexed_store.specs.Tabled.{ArePast, AreTabled, AreWhole, TabledState, Tables}
use Rattle.indexed_store.specs.Holding.{AreEndsOf, AreLiveAt, AreNearAt, AreReadyFor}
use Rattle.indexed_store.specs.Indexed.{IsKept}
use Rattle.indexed_store.proofs.AppliedStates.{noted, noted-kept}
use Rattle.indexed_store.proofs.KeptStates.{settled-ports}
use Rattle.indexed_store.proofs.PastLemmas.{past-later, whole-live}
use Rattle.indexed_store.proofs.Uniques.{live-live}
use Rattle.indexed_store.proofs.FirstLemmas.{first-live, live-near, near-again, ports-follow, reached-near}

-- a record of the first format may come next
pub record IsNextFirst (s : TabledState) (r : Record) : Type 0 where
  pub kept : IsKept s
  pub first : IsReachedFirst s.state
  pub fits : FitsFirst s.state r
  pub at_last : s.ports.reached ≡ s.state.last

pub next-inside : (inside : TabledState) {now : TabledState} (r : Record) → inside ≡ now → IsKept now → IsReachedFirst now.state → FitsFirst now.state r
    → now.ports.reached ≡ now.state.last → IsNextFirst inside r
next-inside inside r is kept first fits at_last = record {
  kept = subst IsKept (sym is) kept;
  first = subst (λ (s : TabledState). IsReachedFirst s.state) (sym is) first;
  fits = subst (λ (s : TabledState). FitsFirst s.state r) (sym is) fits;
  at_last = subst (λ (s : TabledState). s.ports.reached ≡ s.state.last) (sym is) at_last;
}

-- no later moment was reached than the last, nor than its own
pub next-later : (s : TabledState) (r : Record) → IsNextFirst s r → s.ports.reached ≤ r.moment
next-later s r next = let at = next.at_last in let later = next.fits.later in omega (arith, at, later)

-- the state's leases are those of the tables that are live at its last moment
pub next-table : (s : TabledState) (r : Record) → IsNextFirst s r → s.state.table ≡ live s.leases s.state.last
next-table s r next =
    let last = s.state.last in let at = next.at_last in
    next.kept.table ∙ sym (live-live s.all last last (omega arith)) ∙ ap (λ (t : Table). live t last) (sym next.kept.table) ∙ next.kept.live last (omega (arith, at))

-- at its moment the ports are still the state's
pub next-ports : PortsFollowMoments → (s : TabledState) (r : Record) → IsNextFirst s r → s.ports.reached ≤ r.moment → (v : Leased) (n : ℕ)
    → v ≡ record (at_moment r.moment s.ports) { settled = n } → IsPortsOf v s.state
next-ports follow s r next later v n is = subst (λ (x : Leased). IsPortsOf x s.state) (sym is)
    (settled-ports (at_moment r.moment s.ports) n s.state (follow s.ports s.state r.moment later next.kept.ports))

module _ (maps : SoundTablesHaveSoundMaps) (peers : SoundTablesHaveSoundPeers) (made : FirstReachedIsKept) (s : TabledState) (r : Record) (next : IsNextFirst s r) where
  pub old-near : AreNearAt s.state.last s.leases
  old-near = near-again s.state.last s.leases s.state.table next.kept.tabled (sym (next-table s r next)) next.first.reached.sound.table
      (reached-near maps peers s.state s.state.last next.first.reached) next.first.reached.last

  after : IsReachedFirst (apply_first s.state r)
  after = made s.state r next.first next.fits

  module _ (left : Table) (is : left ≡ live s.leases r.moment) where
    left-is : live s.state.table r.moment ≡ left
    left-is = next.kept.live r.moment (next-later s r next) ∙ sym is

    pub left-ready : AreReadyFor r left
    left-ready = record {
      allowed = subst (λ (t : Table). IsAllowed t r.change) left-is next.fits.allowed;
      before = subst (AreNearAt r.moment) left-is (live-near maps peers s.state.table r.moment r.moment (reached-near maps peers s.state r.moment next.first.reached));
      live_before = is ∙ sym (live-live s.leases r.moment r.moment (omega arith)) ∙ ap (λ (t : Table). live t r.moment) (sym is);
      after = subst (λ (t : Table). AreNearAt r.moment (table_changed r.change t)) left-is (reached-near maps peers (apply_first s.state r) r.moment after.reached);
      sound_after = subst (λ (t : Table). Sound (table_changed r.change t)) left-is after.reached.sound.table;
      live_after = subst (λ (t : Table). AreLiveAt r.moment (table_changed r.change t)) left-is (first-live (apply_first s.state r) after);
    }

    module _ (told : EndsAreTold) (t : Tables) (v : Leased) (whole : AreWhole t) (past : t.past ≡ s.past) (changed : live t.found r.moment ≡ table_changed r.change left)
        (ends : AreEndsOf r.moment (table_changed r.change left) v) (now : v.reached ≡ r.moment) where
      ports-first : IsPortsOf v (apply_first s.state r)
      ports-first = ports-follow (apply_first s.state r) after v (subst (λ (u : Table). AreEndsOf r.moment (table_changed r.change u) v) (sym left-is) ends) now

      ended : ArePast r.moment t.past
      ended = subst (ArePast r.moment) (sym past) (past-later s.ports.reached r.moment s.past (next-later s r next) next.kept.past)

      pub noted-first : noted t.all v s.state r ≡ apply_first s.state r
      noted-first =
          let table : live t.all r.moment ≡ (apply_first s.state r).table = whole-live t r.moment whole ended ∙ changed ∙ ap (table_changed r.change) (sym left-is) in
          let came : ends_come r.moment v ≡ (apply_first s.state r).ends = sym (told v (apply_first s.state r) after.reached ports-first) in
          ap (λ (u : Table). record (noted t.all v s.state r) { table = u }) table
          ∙ ap (λ (es : List End). record (noted t.all v s.state r) { table = (apply_first s.state r).table; ends = es }) came

      pub kept-first : (new : TabledState) → new.state ≡ noted t.all v s.state r → new.leases ≡ t.found → new.past ≡ t.past → new.all ≡ t.all → new.ports ≡ v → AreTabled t.found
          → IsKept new
      kept-first new state leases still all ports tabled = noted-kept t v s.state r new (apply_first s.state r) noted-first
          (record {
            state = state;
            leases = leases;
            past = still;
            all = all;
            ports = ports;
            reached = now;
            tabled = tabled;
            whole = whole;
            ended = ended;
          })
          ports-first
