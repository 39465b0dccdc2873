-- Runs that are taken out one after the other.
use Rattle.std.proofs.Common.{◌≡◌, ℕ, ◌+◌, ◌-◌, ◌<◌, ◌≤◌, true, false, List, Option, Some, None, IfSome, refl, sym, ap, ◌∙◌, subst, inl, inr, arith}
use Rattle.std.specs.Ordering.{nat_cmp}
use Rattle.std.specs.FinMap.{FinMap}
use Rattle.pcp_base.specs.declared.leases.End.{End}
use Rattle.ordered_index.proofs.EntryLaws.{none_by}
use Rattle.ordered_index.proofs.Entries.{false_by}
use Rattle.port_runs.specs.Ports.{is_in_run}
use Rattle.expiry_wheel.proofs.Maps.{below_or_not}
use Rattle.external_pool.specs.declared.uses.Use.TheVariants.{Free}
use Rattle.external_pool.specs.Holdings.{Holdings}
use Rattle.port_spans.specs.declared.runs.Run.{Run}
use Rattle.port_spans.specs.Runs.{has_place, run_at, AreRuns, but_from, IsNextRun, IsFirstFrom}
use Rattle.port_spans.proofs.RunLemmas.{in_from, in_to, in_by}
use Rattle.leased_ports.specs.declared.phases.Phase.TheVariants.{Over}
use Rattle.leased_ports.specs.Kept.{IsSet, AreInStep, HaveBegun}
use Rattle.leased_ports.specs.Steps.{GivesUses, Waits, AreFreeing, AreFreed}
use Rattle.leased_ports.proofs.BlockLemmas.{IsBlock, taken_block, block_in_step, block_begun}
use Rattle.port_spans.specs.Along.{end_told, BeginsAt}
use Rattle.port_spans.proofs.SpotLemmas.{if-some, some-if, but_keeps, begins_from, none_between, ends_before, run_from, run_to, run_whole}

-- no run goes on over the spot behind a run
begins_behind : (runs : List (Run End)) → AreRuns runs → (a : ℕ) (r : Run End) → run_at runs a ≡ Some r → BeginsAt (r.first + r.count) runs
begins_behind runs apart a r there = some-if (λ (q : Run End). q.first ≡ r.first + r.count) (run_at runs (r.first + r.count)) (λ q own.
    let no_less : q.first < r.first + r.count → ⊥ = λ less.
    let from = run_from runs apart a r there in
    let to = run_to runs apart a r there in
    let past = run_to runs apart (r.first + r.count) q own in
    let last : ℕ = r.first + r.count - 1 in
    let mine : run_at runs last ≡ Some r = run_whole runs apart a r there last (in_by r.first r.count last (omega (arith, from, to)) (omega (arith, from, to))) in
    let other : run_at runs last ≡ Some q = run_whole runs apart (r.first + r.count) q own last (in_by q.first q.count last (omega (arith, less)) (omega (arith, past, less))) in
    let both : Some q ≡ Some r = sym other ∙ mine in
    let same : q ≡ r = cc in
    let ends : q.first + q.count ≡ r.first + r.count = ap (λ (t : Run End). t.first + t.count) same in
    absurd (omega (arith, past, ends)) in
    grind (arith, no_less, run_from runs apart (r.first + r.count) q own))

-- the first run that begins from a spot on
module _ (runs : List (Run End)) (pool : Holdings) (waits : FinMap nat_cmp ℕ) (is : AreInStep runs pool waits) (at to : ℕ) (r : Run End) (first : IsFirstFrom runs at to r) where
  pub next_there : run_at runs r.first ≡ Some r
  next_there = first.there.whole r.first first.there.has

  pub next_set : IsSet r
  next_set = if-some IsSet (run_at runs r.first) r next_there (is.scheduled.set r.first)

  pub next_behind : at < r.first + r.count
  next_behind = omega (arith, first.from, next_set.some)

  pub next_within : BeginsAt to runs → r.first + r.count ≤ to
  next_within begins = ends_before runs is.scheduled.apart to begins r.first r next_there first.before

module _ (from at to : ℕ) (start : List (Run End)) (before : FinMap nat_cmp ℕ) (runs : List (Run End)) (pool : Holdings) (waits : FinMap nat_cmp ℕ) (f : AreFreeing from at to start before runs pool waits) where
  pub freeing_last : IsNextRun runs at to None → AreFreeing from to to start before runs pool waits
  freeing_last none = record {
    in_step = f.in_step;
    begun = f.begun;
    at_begins = f.to_begins;
    to_begins = f.to_begins;
    none = λ s from_on h. elim (below_or_not s at) [
      | inl less ↦ f.none s from_on less
      | inr past ↦ none_between runs f.in_step.scheduled.apart at f.at_begins to none s past h
    ];
    below = f.below;
    above = f.above;
  }

  module _ (from_on : from ≤ at) (r : Run End) (first : IsFirstFrom runs at to r) where
    there : run_at runs r.first ≡ Some r
    there = next_there runs pool waits f.in_step at to r first

    set : IsSet r
    set = next_set runs pool waits f.in_step at to r first

    module _ (new : List (Run End)) (later : Holdings) (next : FinMap nat_cmp ℕ) (apart : AreRuns new)
        (left : (at : ℕ) → run_at new at ≡ but_from r.first (run_at runs at)) (gives : GivesUses pool r.value.endpoint.protocol r.value.external r.count Free later) (waits_are : Waits waits r.first None next) where
      block : IsBlock runs new pool later waits next r Over None
      block = taken_block runs new pool later waits next r f.in_step r.first there apart left gives waits_are

      to_end : r.first + r.count ≤ to
      to_end = next_within runs pool waits f.in_step at to r first f.to_begins

      out_below : (s : ℕ) → s < r.first → has_place s r ≡ false
      out_below s h = false_by (has_place s r) (λ t. absurd (omega (arith, h, in_from r.first r.count s t)))

      out_above : (s : ℕ) → r.first + r.count ≤ s → has_place s r ≡ false
      out_above s h = false_by (has_place s r) (λ t. absurd (omega (arith, h, in_to r.first r.count s t)))

      -- no run begins between the third spot and this one
      none_before : (s : ℕ) → at ≤ s → s < r.first → run_at runs s ≡ None
      none_before s past h = none_by (run_at runs s) (λ q own.
          let begins = begins_from runs f.in_step.scheduled.apart at f.at_begins s q own past in
          let least = if-some (λ (t : Run End). at ≤ t.first → r.first ≤ t.first) (run_at runs s) q own (first.least s) begins in
          absurd (omega (arith, h, least, run_from runs f.in_step.scheduled.apart s q own)))

      none_was : (s : ℕ) → from ≤ s → s < r.first → run_at runs s ≡ None
      none_was s own h = elim (below_or_not s at) [
        | inl less ↦ f.none s own less
        | inr past ↦ none_before s past h
      ]

      none_now : (s : ℕ) → from ≤ s → s < r.first + r.count → run_at new s ≡ None
      none_now s own h = elim (below_or_not s r.first) [
        | inl less ↦ block.outside s (out_below s less) ∙ none_was s own less
        | inr past ↦ block.inside s (in_by r.first r.count s past h)
      ]

      pub freeing_more : AreFreeing from (r.first + r.count) to start before new later next
      freeing_more = record {
        in_step = block_in_step runs new pool later waits next r Over None f.in_step set block;
        begun = λ m was. block_begun runs new pool later waits next r Over None f.in_step set block m (f.begun m was) tt;
        at_begins = subst (λ (o : Option (Run End)). IfSome o (λ q. q.first ≡ r.first + r.count)) (sym (left (r.first + r.count)))
            (but_keeps (λ (q : Run End). q.first ≡ r.first + r.count) r.first (run_at runs (r.first + r.count)) (begins_behind runs f.in_step.scheduled.apart r.first r there));
        to_begins = subst (λ (o : Option (Run End)). IfSome o (λ q. q.first ≡ to)) (sym (left to)) (but_keeps (λ (q : Run End). q.first ≡ to) r.first (run_at runs to) f.to_begins);
        none = none_now;
        below = λ s h. block.outside s (out_below s (omega (arith, h, from_on, first.from))) ∙ f.below s h;
        above = λ s h. block.outside s (out_above s (omega (arith, h, to_end))) ∙ f.above s h;
      }

-- what begins
pub freeing_first : (from to : ℕ) (runs : List (Run End)) (pool : Holdings) (waits : FinMap nat_cmp ℕ) → AreInStep runs pool waits → BeginsAt from runs → BeginsAt to runs → AreFreeing from from to runs waits runs pool waits
freeing_first from to runs pool waits is from_begins to_begins = record {
  in_step = is;
  begun = λ m was. was;
  at_begins = from_begins;
  to_begins = to_begins;
  none = λ s from_on h. absurd (omega (arith, from_on, h));
  below = λ s h. refl;
  above = λ s h. refl;
}

-- what ends
module _ (from n : ℕ) (old : List (Run End)) (first : FinMap nat_cmp ℕ) (runs : List (Run End)) (before : FinMap nat_cmp ℕ) (new : List (Run End)) (pool : Holdings) (waits : FinMap nat_cmp ℕ)
    (f : AreFreeing from (from + n) (from + n) runs before new pool waits) (told : (at : ℕ) → end_told at (run_at runs at) ≡ end_told at (run_at old at)) where
  freed_other : (at : ℕ) → is_in_run from n at ≡ false → end_told at (run_at new at) ≡ end_told at (run_at old at)
  freed_other at out = elim (below_or_not at from) [
    | inl less ↦ ap (end_told at) (f.below at less) ∙ told at
    | inr past ↦ (let no_less : at < from + n → ⊥ = λ less. absurd (let no : true ≡ false = sym (in_by from n at past less) ∙ out in cc) in
        let after : from + n ≤ at = grind (arith, no_less) in
        ap (end_told at) (f.above at after) ∙ told at)
  ]

  pub freed_last : ((m : ℕ) → HaveBegun m old first → HaveBegun m runs before) → AreFreed from n old first new pool waits
  freed_last begun = record {
    in_step = f.in_step;
    begun = λ m was. f.begun m (begun m was);
    none = λ at h. f.none at (in_from from n at h) (in_to from n at h);
    others = freed_other;
  }
