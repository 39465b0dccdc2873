-- Last ends that ports in a row get, or lose.
use Rattle.std.proofs.Common.{◌≡◌, ℕ, ◌+◌, ◌-◌, ◌<◌, ◌≤◌, ◌^◌, ◌&&◌, Bool, true, false, cond, List, Option, Some, None, refl, sym, ap, ◌∙◌, subst, inl, inr, arith}
use Rattle.std.specs.Option.{option_map}
use Rattle.std.specs.Ordering.{nat_cmp}
use Rattle.std.specs.FinMap.{FinMap}
use Rattle.std.proofs.lemmas.Bool.{and_parts}
use Rattle.std.proofs.lemmas.Bool.Decides.{nat_tests}
use Rattle.pcp_base.specs.declared.leases.Protocol.{Protocol}
use Rattle.pcp_base.specs.declared.leases.End.{End}
use Rattle.pcp_base.specs.Tables.{same_protocol}
use Rattle.pcp_base.proofs.Same.{same_protocol-Decides}
use Rattle.port_runs.specs.Ports.{is_in_run}
use Rattle.expiry_wheel.proofs.Maps.{below_or_not}
use Rattle.external_pool.specs.Holdings.{Holdings}
use Rattle.port_spans.specs.declared.runs.Run.{Run}
use Rattle.port_spans.specs.Runs.{has_place, run_at, AreRuns, with_value}
use Rattle.port_spans.specs.Along.{end_along, spot, spot_of, end_told}
use Rattle.leased_ports.specs.declared.phases.Phase.{Phase}
use Rattle.leased_ports.specs.declared.phases.Phase.TheVariants.{Holds, Rests, Over}
use Rattle.leased_ports.specs.Kept.{end_by, use_in, since, until, phase_at, IsSet, AreInStep, HaveBegun}
use Rattle.leased_ports.specs.Steps.{GivesUses, Waits, AreAssigned, AreFreed, IsOwnRun, last_along, no_last}
use Rattle.leased_ports.proofs.SpotLemmas.{run_of_low, run_of_high, place_off}
use Rattle.leased_ports.proofs.BlockLemmas.{IsBlock, block_in_step, block_begun, block_ends, inserted_block, renewed_block}
use Rattle.leased_ports.proofs.PhaseLemmas.{phase-begun}
use Rattle.leased_ports.proofs.UseLemmas.{gives-as}
use Rattle.port_spans.proofs.SpotLemmas.{spot_in}

module _ (m : ℕ) (runs new : List (Run End)) (pool later : Holdings) (waits next : FinMap nat_cmp ℕ) (r0 r : Run End) (p : Phase) (is : AreInStep runs pool waits) (set0 : IsSet r0)
    (first : r.first ≡ r0.first) (external : r.value.external ≡ r0.value.external) (begun : HaveBegun m runs waits) (now : p ≡ phase_at m r.value.end)
    (b : IsBlock runs new pool later waits next r0 p (Some r)) where
  abbrev mine : Protocol → ℕ → Bool
  mine q port = same_protocol r0.value.endpoint.protocol q && is_in_run r0.value.external r0.count port

  ends_step : (q : Protocol) (port : ℕ) (t : Bool) → mine q port ≡ t → cond t (end_told (spot q port) (Some r)) (end_by runs q port) ≡ cond t (last_along r.value port) (end_by runs q port)
  ends_step q port false e = refl
  ends_step q port true e =
      let k = and_parts (same_protocol r0.value.endpoint.protocol q) (is_in_run r0.value.external r0.count port) e in
      let same : r0.value.endpoint.protocol ≡ q = (same_protocol-Decides r0.value.endpoint.protocol q).0 k.0 in
      let off : spot q port - r.first ≡ port - r.value.external =
      ap (λ (f : ℕ). spot q port - f) first ∙ ap (λ (p : Protocol). spot p port - r0.first) (sym same) ∙ place_off r0 set0 port k.1 ∙ ap (λ (x : ℕ). port - x) (sym external) in
      ap (λ (i : ℕ). Some (end_along i r.value)) off

  own_begun : since p r.value.end ≤ m
  own_begun = subst (λ (f : Phase). since f r.value.end ≤ m) (sym now) (phase-begun m r.value.end)

  pub block_assigned : AreAssigned m runs r0.value.endpoint.protocol r0.value.external r0.count (last_along r.value) new later next
  block_assigned = record {
    in_step = block_in_step runs new pool later waits next r0 p (Some r) is set0 b;
    begun = block_begun runs new pool later waits next r0 p (Some r) is set0 b m begun own_begun;
    ends = λ q port. block_ends runs new pool later waits next r0 p (Some r) is set0 b q port ∙ ends_step q port (mine q port) refl;
  }

pub inserted : (m : ℕ) (runs new : List (Run End)) (pool later : Holdings) (waits next : FinMap nat_cmp ℕ) (r : Run End) (p : Phase) → p ≡ phase_at m r.value.end → AreInStep runs pool waits → HaveBegun m runs waits → IsSet r → AreRuns new
    → ((at : ℕ) → has_place at r ≡ true → run_at runs at ≡ None) → ((at : ℕ) → run_at new at ≡ cond (has_place at r) (Some r) (run_at runs at))
    → GivesUses pool r.value.endpoint.protocol r.value.external r.count (use_in p r.value) later → Waits waits r.first (until p r.value.end) next
    → AreAssigned m runs r.value.endpoint.protocol r.value.external r.count (last_along r.value) new later next
inserted m runs new pool later waits next r p now is begun set apart free changed gives waits_are =
    block_assigned m runs new pool later waits next r r p is set refl refl begun now (inserted_block runs new pool later waits next r p is set apart free changed gives waits_are)

-- another moment of the same last ends
module _ (r : Run End) (last : End) (same : r.value ≡ record last { end = r.value.end }) where
  abbrev renewed : Run End
  renewed = record { first = r.first; count = r.count; value = last }

  pub renewed_set : IsSet r → last.end < 2 ^ 41 → IsSet renewed
  renewed_set set near =
      let s : IsSet (record { first = r.first; count = r.count; value = record last { end = r.value.end } }) = subst (λ (v : End). IsSet (record { first = r.first; count = r.count; value = v })) same set in
      record { first = s.first; some = s.some; external = s.external; within = s.within; internal = s.internal; near = near }

  same_use : (p : Phase) → use_in p (record last { end = r.value.end }) ≡ use_in p last
  same_use Holds = refl
  same_use Rests = refl
  same_use Over = refl

  pub renewed_assigned : (m : ℕ) (runs new : List (Run End)) (pool later : Holdings) (waits next : FinMap nat_cmp ℕ) (p : Phase) → p ≡ phase_at m last.end → AreInStep runs pool waits → HaveBegun m runs waits → run_at runs r.first ≡ Some r → IsSet r
      → last.end < 2 ^ 41 → AreRuns new → ((at : ℕ) → run_at new at ≡ option_map (with_value r.first last) (run_at runs at))
      → GivesUses pool r.value.endpoint.protocol r.value.external r.count (use_in p r.value) later → Waits waits r.first (until p last.end) next
      → AreAssigned m runs last.endpoint.protocol last.external r.count (last_along last) new later next
  renewed_assigned m runs new pool later waits next p now is begun there set near apart changed gives waits_are =
      let as_last = gives-as pool later r.value.endpoint.protocol r.value.external r.count (use_in p r.value) (use_in p last) (ap (use_in p) same ∙ same_use p) gives in
      let block = renewed_block runs new pool later waits next r is r.first there last (renewed_set set near) p apart changed as_last waits_are in
      let external : last.external ≡ r.value.external = sym (ap (λ (v : End). v.external) same) in
      let protocol : r.value.endpoint.protocol ≡ last.endpoint.protocol = ap (λ (v : End). v.endpoint.protocol) same in
      let made = block_assigned m runs new pool later waits next r renewed p is set refl external begun now block in
      subst (λ (x : ℕ). AreAssigned m runs last.endpoint.protocol x r.count (last_along last) new later next) (sym external)
      (subst (λ (q : Protocol). AreAssigned m runs q r.value.external r.count (last_along last) new later next) protocol made)

-- the run of exactly these ports stands where they do
pub own-at : (runs : List (Run End)) (first : End) (n : ℕ) (r : Run End) → IsOwnRun runs first n r → (from : ℕ) → from ≡ spot_of first → run_at runs from ≡ Some r
own-at runs first n r own from e = ap (run_at runs) (e ∙ sym own.at_first) ∙ own.there

pub run-as : (runs : List (Run End)) (v : End) (a b m n : ℕ) → a ≡ b → m ≡ n → run_at runs a ≡ Some (record { first = a; count = m; value = v }) → run_at runs b ≡ Some (record { first = b; count = n; value = v })
run-as runs v a b m n e f h =
    subst (λ (x : ℕ). run_at runs x ≡ Some (record { first = x; count = n; value = v })) e
    (subst (λ (x : ℕ). run_at runs a ≡ Some (record { first = a; count = x; value = v })) f h)

-- ---- ports that are freed

module _ (p : Protocol) (start n : ℕ) (within : start + n ≤ 65536) (old : List (Run End)) (before : FinMap nat_cmp ℕ) (mid : List (Run End)) (pool : Holdings) (waits : FinMap nat_cmp ℕ) (f : AreFreed (spot p start) n old before mid pool waits) where
  high_test : (s : Bool) (port : ℕ) → 65536 ≤ port → (s && is_in_run start n port) ≡ false
  high_test true port high = grind (arith, nat_tests, high, within)
  high_test false port high = refl

  freed_low : (q : Protocol) (port : ℕ) → port < 65536 → (t : Bool) → (same_protocol p q && is_in_run start n port) ≡ t
      → end_told (spot q port) (run_at mid (spot q port)) ≡ cond t None (end_told (spot q port) (run_at old (spot q port)))
  freed_low q port low true e = ap (end_told (spot q port)) (f.none (spot q port) (spot_in p q start n port within low ∙ e))
  freed_low q port low false e = f.others (spot q port) (spot_in p q start n port within low ∙ e)

  pub freed_ends : (q : Protocol) (port : ℕ) → end_by mid q port ≡ cond (same_protocol p q && is_in_run start n port) None (end_by old q port)
  freed_ends q port = elim (below_or_not port 65536) [
    | inl low ↦ ap (end_told (spot q port)) (run_of_low mid q port low) ∙ freed_low q port low (same_protocol p q && is_in_run start n port) refl
        ∙ ap (λ (o : Option (Run End)). cond (same_protocol p q && is_in_run start n port) None (end_told (spot q port) o)) (sym (run_of_low old q port low))
    | inr high ↦ ap (end_told (spot q port)) (run_of_high mid q port high) ∙ ap (end_told (spot q port)) (sym (run_of_high old q port high))
        ∙ sym (ap (λ (b : Bool). cond b None (end_by old q port)) (high_test (same_protocol p q) port high))
  ]

  pub freed_assigned : (m : ℕ) → HaveBegun m old before → AreAssigned m old p start n no_last mid pool waits
  freed_assigned m was = record { in_step = f.in_step; begun = f.begun m was; ends = freed_ends }

  twice : (b : Bool) (x y : Option End) → cond b x (cond b None y) ≡ cond b x y
  twice true x y = refl
  twice false x y = refl

  -- and then get others
  pub freed_then : (m : ℕ) (last : ℕ → Option End) (new : List (Run End)) (later : Holdings) (next : FinMap nat_cmp ℕ) → AreAssigned m mid p start n last new later next → AreAssigned m old p start n last new later next
  freed_then m last new later next h = record {
    in_step = h.in_step;
    begun = h.begun;
    ends = λ q port. h.ends q port ∙ ap (cond (same_protocol p q && is_in_run start n port) (last port)) (freed_ends q port)
        ∙ twice (same_protocol p q && is_in_run start n port) (last port) (end_by old q port);
  }
