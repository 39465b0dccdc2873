-- Runs that fall due.
use Rattle.std.specs.Prelude.{◌≢◌}
use Rattle.std.proofs.Common.{◌≡◌, ℕ, ◌+◌, ◌<◌, ◌≤◌, nat_le, true, false, List, Option, Some, None, is_some, refl, sym, ap, ◌∙◌, inl, inr, arith}
use Rattle.std.specs.Ordering.{nat_cmp}
use Rattle.std.specs.FinMap.{FinMap, get, contains_key}
use Rattle.std.proofs.lemmas.Bool.{le-leb, leb-true}
use Rattle.pcp_base.specs.declared.leases.End.{End}
use Rattle.ordered_index.proofs.EntryLaws.{some_one}
use Rattle.ordered_index.proofs.Entries.{false_by}
use Rattle.expiry_wheel.proofs.Maps.{same_or_not, cond_same, cond_other}
use Rattle.external_pool.specs.Holdings.{Holdings}
use Rattle.port_spans.specs.declared.runs.Run.{Run}
use Rattle.port_spans.specs.Runs.{run_at}
use Rattle.leased_ports.specs.declared.phases.Phase.{Phase}
use Rattle.leased_ports.specs.declared.phases.Phase.TheVariants.{Holds, Rests, Over}
use Rattle.leased_ports.specs.Kept.{use_in, since, until, phase_at, phase_by, wait_told, IsSet, AreInStep, HaveBegun, AreSettled}
use Rattle.leased_ports.specs.Steps.{GivesUses, AreUsedBy, Waits}
use Rattle.leased_ports.specs.Falling.{IsDueAt, is_due, due_below}
use Rattle.leased_ports.proofs.SpotLemmas.{place_low}
use Rattle.leased_ports.proofs.PhaseLemmas.{phase-settled, run_waits}
use Rattle.leased_ports.proofs.CountLemmas.{due_less}
use Rattle.leased_ports.proofs.BlockLemmas.{IsBlock, run_uses, phased_block, block_in_step, block_begun}
use Rattle.port_spans.proofs.SpotLemmas.{if-some, some-if, run_has}

-- ---- one run falls due

held_step : (m e expiry : ℕ) (p : Phase) → until p e ≡ Some expiry → expiry ≤ m → m < e + 120 → p ≡ Holds
held_step m e expiry Holds h due late = refl
held_step m e expiry Rests h due late = absurd (let same : e + 120 ≡ expiry = (let told : Some (e + 120) ≡ Some expiry = h in cc) in omega (arith, same, due, late))
held_step m e expiry Over h due late = absurd (let no : None ≡ Some expiry = h in cc)

came_step : (m e expiry : ℕ) (p : Phase) → until p e ≡ Some expiry → expiry ≤ m → e ≤ m
came_step m e expiry Holds h due = let same : e ≡ expiry = (let told : Some e ≡ Some expiry = h in cc) in omega (arith, same, due)
came_step m e expiry Rests h due = let same : e + 120 ≡ expiry = (let told : Some (e + 120) ≡ Some expiry = h in cc) in omega (arith, same, due)
came_step m e expiry Over h due = absurd (let no : None ≡ Some expiry = h in cc)

module _ (m : ℕ) (runs : List (Run End)) (pool : Holdings) (waits : FinMap nat_cmp ℕ) (is : AreInStep runs pool waits) (id : ℕ) (due : IsDueAt m waits id) where
  found_step : (o : Option (Run End)) → wait_told waits id o ≡ Some due.expiry → (r : Run End) × (o ≡ Some r) × (r.first ≡ id) × (until (phase_by waits r) r.value.end ≡ Some due.expiry)
  found_step None h = absurd (let no : None ≡ Some due.expiry = h in cc)
  found_step (Some r) h = elim (same_or_not r.first id) [
    | inl same ↦ (r, refl, same, sym (cond_same r.first id (until (phase_by waits r) r.value.end) None same) ∙ h)
    | inr other ↦ absurd (let no : None ≡ Some due.expiry = sym (cond_other r.first id (until (phase_by waits r) r.value.end) None other) ∙ h in cc)
  ]

  -- a run begins at the id
  pub due_run : (r : Run End) × (run_at runs id ≡ Some r) × (r.first ≡ id) × (until (phase_by waits r) r.value.end ≡ Some due.expiry)
  due_run = found_step (run_at runs id) (sym (is.scheduled.waiting id) ∙ due.expires)

  pub no_due_run : run_at runs id ≡ None → ⊥
  no_due_run none = let d = due_run in let no : Some d.0 ≡ None = sym d.1 ∙ none in cc

  was_due : is_due m (get waits id) ≡ true
  was_due = ap (is_due m) due.expires ∙ le-leb due.expiry m due.due

  module _ (r : Run End) (there : run_at runs id ≡ Some r) where
    same_run : due_run.0 ≡ r
    same_run = some_one (run_at runs id) due_run.0 r due_run.1 there

    pub due_first : r.first ≡ id
    due_first = ap (λ (t : Run End). t.first) (sym same_run) ∙ due_run.2

    due_until : until (phase_by waits r) r.value.end ≡ Some due.expiry
    due_until = ap (λ (t : Run End). until (phase_by waits t) t.value.end) (sym same_run) ∙ due_run.3

    pub due_set : IsSet r
    due_set = if-some IsSet (run_at runs id) r there (is.scheduled.set id)

    pub due_low : id < 131072
    due_low = place_low r due_set id (run_has runs is.scheduled.apart id r there)

    pub due_uses : AreUsedBy pool r (use_in (phase_by waits r) r.value)
    due_uses = run_uses runs pool waits is id r there due_set

    pub due_waits : contains_key waits r.first ≡ true
    due_waits = ap (λ (k : ℕ). contains_key waits k) due_first ∙ ap is_some due.expires

    -- where its rest isn't over it was held
    pub due_held : m < r.value.end + 120 → phase_by waits r ≡ Holds
    due_held late = held_step m r.value.end due.expiry (phase_by waits r) due_until due.due late

    pub due_came : r.value.end ≤ m
    due_came = came_step m r.value.end due.expiry (phase_by waits r) due_until due.due

    -- it comes into a phase that has begun
    module _ (p : Phase) (later : Holdings) (next : FinMap nat_cmp ℕ) (waits_are : Waits waits r.first (until p r.value.end) next) where
      pub falls_others : (other : ℕ) → other ≢ id → get next other ≡ get waits other
      falls_others other h = waits_are other ∙ cond_other other r.first (until p r.value.end) (get waits other) (λ e. h (e ∙ due_first))

      here : get next id ≡ until p r.value.end
      here = waits_are id ∙ cond_same id r.first (until p r.value.end) (get waits id) (sym due_first)

      pub falls_seen : is_due m (until p r.value.end) ≡ false → is_due m (get next id) ≡ false
      falls_seen isnt = ap (is_due m) here ∙ isnt

      pub due_fewer : is_due m (until p r.value.end) ≡ false → due_below m next 131072 < due_below m waits 131072
      due_fewer isnt =
          let less = due_less m waits next id falls_others was_due (ap (is_due m) here ∙ isnt) 131072 due_low in
          omega (arith, less)

      module _ (gives : GivesUses pool r.value.endpoint.protocol r.value.external r.count (use_in p r.value) later) where
        block : IsBlock runs runs pool later waits next r p (Some r)
        block = phased_block runs runs pool later waits next r is id there due_set p gives waits_are

        pub falls_in_step : AreInStep runs later next
        falls_in_step = block_in_step runs runs pool later waits next r p (Some r) is due_set block

        pub falls_begun : HaveBegun m runs waits → since p r.value.end ≤ m → HaveBegun m runs next
        falls_begun begun own = block_begun runs runs pool later waits next r p (Some r) is due_set block m begun own

pub rest_isnt_due : (m e : ℕ) → m < e + 120 → is_due m (until Rests e) ≡ false
rest_isnt_due m e late = false_by (nat_le (e + 120) m) (λ t. absurd (omega (arith, leb-true (e + 120) m t, late)))

-- ---- nothing falls due any more

pub all_settled : (m : ℕ) (runs : List (Run End)) (pool : Holdings) (waits : FinMap nat_cmp ℕ) → AreInStep runs pool waits → HaveBegun m runs waits → ((id expiry : ℕ) → get waits id ≡ Some expiry → m < expiry) → AreSettled m runs waits
all_settled m runs pool waits is begun none at = some-if (λ (r : Run End). phase_by waits r ≡ phase_at m r.value.end) (run_at runs at) (λ r e.
    phase-settled m r.value.end (phase_by waits r) (if-some (λ (t : Run End). since (phase_by waits t) t.value.end ≤ m) (run_at runs at) r e (begun at))
    (λ expiry h. none r.first expiry (run_waits runs waits is.scheduled at r e ∙ h)))
