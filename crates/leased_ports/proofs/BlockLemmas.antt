-- Runs of which one block comes, changes or goes, with a pool and a wheel that follow.
use Rattle.std.proofs.Common.{◌≡◌, ℕ, ◌-◌, ◌<◌, ◌≤◌, ◌&&◌, ◌==◌, Bool, true, false, cond, List, Option, Some, None, IfSome, refl, sym, ap, ◌∙◌, subst, inl, inr, arith}
use Rattle.std.specs.Option.{option_map}
use Rattle.std.specs.Ordering.{nat_cmp}
use Rattle.std.specs.FinMap.{FinMap, get}
use Rattle.std.proofs.lemmas.Bool.{and_parts}
use Rattle.std.proofs.lemmas.Bool.Decides.{nat_tests}
use Rattle.pcp_base.specs.declared.leases.Protocol.{Protocol}
use Rattle.pcp_base.specs.declared.leases.End.{End}
use Rattle.pcp_base.specs.Tables.{same_protocol}
use Rattle.pcp_base.proofs.Same.{same_protocol-Decides}
use Rattle.port_runs.specs.Ports.{is_in_run}
use Rattle.expiry_wheel.proofs.Maps.{same_or_not, below_or_not, cond_same, cond_other}
use Rattle.external_pool.specs.declared.uses.Use.{Use}
use Rattle.external_pool.specs.declared.uses.Use.TheVariants.{Free}
use Rattle.external_pool.specs.PortUses.{use_along}
use Rattle.external_pool.specs.Holdings.{Holdings, use_of}
use Rattle.port_spans.specs.declared.runs.Run.{Run}
use Rattle.port_spans.specs.Runs.{has_place, run_at, AreRuns, but_from, with_value}
use Rattle.leased_ports.specs.declared.phases.Phase.{Phase}
use Rattle.leased_ports.specs.declared.phases.Phase.TheVariants.{Over}
use Rattle.leased_ports.specs.Kept.{port_run, end_by, use_in, since, until, phase_by, use_told, wait_told, IsSet, AreInStep, HaveBegun}
use Rattle.leased_ports.specs.Steps.{GivesUses, AreUsedBy, Waits}
use Rattle.leased_ports.proofs.SpotLemmas.{run_of_low, run_of_high, in_spots, place_first, place_off, place_of, port_low}
use Rattle.leased_ports.proofs.PhaseLemmas.{phase_other, phase_own}
use Rattle.port_spans.specs.Along.{spot, end_told}
use Rattle.port_spans.proofs.SpotLemmas.{some-if, if-some, run_has, run_whole, run_first, same_begin}

-- the use of the first port of what is there in a phase, and until when it waits
abbrev pub use_first : Phase → Option (Run End) → Use
use_first p None = Free
use_first p (Some r) = use_in p r.value

abbrev pub wait_first : Phase → Option (Run End) → Option ℕ
wait_first p None = None
wait_first p (Some r) = until p r.value.end

pub record IsBlock (runs new : List (Run End)) (pool later : Holdings) (waits next : FinMap nat_cmp ℕ) (r0 : Run End) (p : Phase) (o : Option (Run End)) : Type 0 where
  pub apart : AreRuns new
  pub outside : (at : ℕ) → has_place at r0 ≡ false → run_at new at ≡ run_at runs at
  pub inside : (at : ℕ) → has_place at r0 ≡ true → run_at new at ≡ o
  pub own : IfSome o (λ r. IsSet r × (r.first ≡ r0.first))
  pub begins : (at : ℕ) → has_place at r0 ≡ false → IfSome (run_at runs at) (λ q. q.first ≡ r0.first → ⊥)
  pub quiet : (at : ℕ) → has_place at r0 ≡ true → (at ≡ r0.first → ⊥) → get waits at ≡ None
  pub gives : GivesUses pool r0.value.endpoint.protocol r0.value.external r0.count (use_first p o) later
  pub waits_are : Waits waits r0.first (wait_first p o) next

module _ (runs new : List (Run End)) (pool later : Holdings) (waits next : FinMap nat_cmp ℕ) (r0 : Run End) (p : Phase) (o : Option (Run End))
    (is : AreInStep runs pool waits) (set0 : IsSet r0) (b : IsBlock runs new pool later waits next r0 p o) where
  abbrev IsOwn : Option (Run End) → Type 0
  IsOwn x = IfSome x (λ r. IsSet r × (r.first ≡ r0.first))

  own_set : (x : Option (Run End)) → IsOwn x → IfSome x IsSet
  own_set None h = tt
  own_set (Some r) h = h.0

  set_at : (at : ℕ) (t : Bool) → has_place at r0 ≡ t → IfSome (run_at new at) IsSet
  set_at at true e = subst (λ (x : Option (Run End)). IfSome x IsSet) (sym (b.inside at e)) (own_set o b.own)
  set_at at false e = subst (λ (x : Option (Run End)). IfSome x IsSet) (sym (b.outside at e)) (is.scheduled.set at)

  -- the phases of the others stay, and its own is this
  other_phase : (at : ℕ) → has_place at r0 ≡ false → IfSome (run_at runs at) (λ q. phase_by next q ≡ phase_by waits q)
  other_phase at out = some-if (λ (q : Run End). phase_by next q ≡ phase_by waits q) (run_at runs at) (λ q e.
      phase_other waits next r0.first (wait_first p o) b.waits_are q (if-some (λ (t : Run End). t.first ≡ r0.first → ⊥) (run_at runs at) q e (b.begins at out)))

  own_step : (x : Option (Run End)) → Waits waits r0.first (wait_first p x) next → IsOwn x → IfSome x (λ r. phase_by next r ≡ p)
  own_step None w h = tt
  own_step (Some r) w h = phase_own waits next r0.first p r w h.1

  own_phase : IfSome o (λ r. phase_by next r ≡ p)
  own_phase = own_step o b.waits_are b.own

  -- at another place than its first a run doesn't wait
  elsewhere : (at : ℕ) → (at ≡ r0.first → ⊥) → (x : Option (Run End)) → IsOwn x → None ≡ wait_told next at x
  elsewhere at other None h = refl
  elsewhere at other (Some r) h = sym (cond_other r.first at (until (phase_by next r) r.value.end) None (λ e. other (sym e ∙ h.1)))

  agreed : (at : ℕ) (x : Option (Run End)) → IfSome x (λ r. phase_by next r ≡ phase_by waits r) → wait_told waits at x ≡ wait_told next at x
  agreed at None h = refl
  agreed at (Some r) h = ap (λ (f : Phase). cond (r.first == at) (until f r.value.end) None) (sym h)

  waiting_other : (at : ℕ) (t : Bool) → has_place at r0 ≡ t → (at ≡ r0.first → ⊥) → get waits at ≡ wait_told next at (run_at new at)
  waiting_other at true e other = b.quiet at e other ∙ elsewhere at other o b.own ∙ ap (wait_told next at) (sym (b.inside at e))
  waiting_other at false e other = is.scheduled.waiting at ∙ agreed at (run_at runs at) (other_phase at e) ∙ ap (wait_told next at) (sym (b.outside at e))

  first_step : (at : ℕ) → at ≡ r0.first → (x : Option (Run End)) → IsOwn x → IfSome x (λ r. phase_by next r ≡ p) → wait_first p x ≡ wait_told next at x
  first_step at same None h k = refl
  first_step at same (Some r) h k = ap (λ (f : Phase). until f r.value.end) (sym k) ∙ sym (cond_same r.first at (until (phase_by next r) r.value.end) None (h.1 ∙ sym same))

  waiting_at : (at : ℕ) → get next at ≡ wait_told next at (run_at new at)
  waiting_at at = elim (same_or_not at r0.first) [
    | inl same ↦ b.waits_are at ∙ cond_same at r0.first (wait_first p o) (get waits at) same
        ∙ first_step at same o b.own own_phase
        ∙ ap (wait_told next at) (sym (b.inside at (subst (λ (a : ℕ). has_place a r0 ≡ true) (sym same) (place_first r0 set0))))
    | inr other ↦ b.waits_are at ∙ cond_other at r0.first (wait_first p o) (get waits at) other ∙ waiting_other at (has_place at r0) refl other
  ]

  abbrev mine : Protocol → ℕ → Bool
  mine q port = same_protocol r0.value.endpoint.protocol q && is_in_run r0.value.external r0.count port

  -- a port of the block is as far in it as its place
  along : (q : Protocol) (port : ℕ) → mine q port ≡ true → (x : Option (Run End)) → IsOwn x → IfSome x (λ r. phase_by next r ≡ p)
      → use_along (port - r0.value.external) (use_first p x) ≡ use_told next (spot q port) x
  along q port t None h k = refl
  along q port t (Some r) h k =
      let parts = and_parts (same_protocol r0.value.endpoint.protocol q) (is_in_run r0.value.external r0.count port) t in
      let same : r0.value.endpoint.protocol ≡ q = (same_protocol-Decides r0.value.endpoint.protocol q).0 parts.0 in
      let off : spot q port - r.first ≡ port - r0.value.external =
      ap (λ (f : ℕ). spot q port - f) h.1 ∙ ap (λ (x : Protocol). spot x port - r0.first) (sym same) ∙ place_off r0 set0 port parts.1 in
      ap (λ (i : ℕ). use_along i (use_in p r.value)) (sym off) ∙ ap (λ (f : Phase). use_along (spot q port - r.first) (use_in f r.value)) (sym k)

  agreed_use : (at : ℕ) (x : Option (Run End)) → IfSome x (λ r. phase_by next r ≡ phase_by waits r) → use_told waits at x ≡ use_told next at x
  agreed_use at None h = refl
  agreed_use at (Some r) h = ap (λ (f : Phase). use_along (at - r.first) (use_in f r.value)) (sym h)

  used_low : (q : Protocol) (port : ℕ) → port < 65536 → (t : Bool) → mine q port ≡ t → cond t (use_along (port - r0.value.external) (use_first p o)) (use_of pool q port) ≡ use_told next (spot q port) (run_at new (spot q port))
  used_low q port low true e = along q port e o b.own own_phase ∙ ap (use_told next (spot q port)) (sym (b.inside (spot q port) (in_spots r0 set0 q port low ∙ e)))
  used_low q port low false e =
      let out : has_place (spot q port) r0 ≡ false = in_spots r0 set0 q port low ∙ e in
      is.used q port ∙ ap (use_told waits (spot q port)) (run_of_low runs q port low)
      ∙ agreed_use (spot q port) (run_at runs (spot q port)) (other_phase (spot q port) out) ∙ ap (use_told next (spot q port)) (sym (b.outside (spot q port) out))

  mine_high : (q : Protocol) (port : ℕ) → 65536 ≤ port → (s : Bool) → (s && is_in_run r0.value.external r0.count port) ≡ false
  mine_high q port high true = grind (arith, nat_tests, high, set0.within)
  mine_high q port high false = refl

  used_at : (q : Protocol) (port : ℕ) → use_of later q port ≡ use_told next (spot q port) (port_run new q port)
  used_at q port = elim (below_or_not port 65536) [
    | inl low ↦ b.gives.uses is.whole q port ∙ used_low q port low (mine q port) refl ∙ ap (use_told next (spot q port)) (sym (run_of_low new q port low))
    | inr high ↦ b.gives.uses is.whole q port
        ∙ ap (λ t. cond t (use_along (port - r0.value.external) (use_first p o)) (use_of pool q port)) (mine_high q port high (same_protocol r0.value.endpoint.protocol q))
        ∙ is.used q port ∙ ap (use_told waits (spot q port)) (run_of_high runs q port high) ∙ ap (use_told next (spot q port)) (sym (run_of_high new q port high))
  ]

  pub block_in_step : AreInStep new later next
  block_in_step = record {
    whole = b.gives.whole is.whole;
    scheduled = record { apart = b.apart; set = λ at. set_at at (has_place at r0) refl; waiting = waiting_at };
    used = used_at;
  }

  begun_own : (m : ℕ) (x : Option (Run End)) → IfSome x (λ r. phase_by next r ≡ p) → IfSome x (λ r. since p r.value.end ≤ m) → IfSome x (λ r. since (phase_by next r) r.value.end ≤ m)
  begun_own m None k h = tt
  begun_own m (Some r) k h = subst (λ (f : Phase). since f r.value.end ≤ m) (sym k) h

  begun_other : (m : ℕ) (x : Option (Run End)) → IfSome x (λ r. phase_by next r ≡ phase_by waits r) → IfSome x (λ r. since (phase_by waits r) r.value.end ≤ m) → IfSome x (λ r. since (phase_by next r) r.value.end ≤ m)
  begun_other m None k h = tt
  begun_other m (Some r) k h = subst (λ (f : Phase). since f r.value.end ≤ m) (sym k) h

  module _ (m : ℕ) (begun : HaveBegun m runs waits) (own_begun : IfSome o (λ r. since p r.value.end ≤ m)) where
    begun_at : (at : ℕ) (t : Bool) → has_place at r0 ≡ t → IfSome (run_at new at) (λ r. since (phase_by next r) r.value.end ≤ m)
    begun_at at true e = subst (λ (x : Option (Run End)). IfSome x (λ r. since (phase_by next r) r.value.end ≤ m)) (sym (b.inside at e)) (begun_own m o own_phase own_begun)
    begun_at at false e = subst (λ (x : Option (Run End)). IfSome x (λ r. since (phase_by next r) r.value.end ≤ m)) (sym (b.outside at e))
        (begun_other m (run_at runs at) (other_phase at e) (begun at))

    -- phases have begun then
    pub block_begun : HaveBegun m new next
    block_begun at = begun_at at (has_place at r0) refl

  ends_low : (q : Protocol) (port : ℕ) → port < 65536 → (t : Bool) → mine q port ≡ t → end_told (spot q port) (run_at new (spot q port)) ≡ cond t (end_told (spot q port) o) (end_told (spot q port) (run_at runs (spot q port)))
  ends_low q port low true e = ap (end_told (spot q port)) (b.inside (spot q port) (in_spots r0 set0 q port low ∙ e))
  ends_low q port low false e = ap (end_told (spot q port)) (b.outside (spot q port) (in_spots r0 set0 q port low ∙ e))

  -- the last ends then
  pub block_ends : (q : Protocol) (port : ℕ) → end_by new q port ≡ cond (mine q port) (end_told (spot q port) o) (end_by runs q port)
  block_ends q port = elim (below_or_not port 65536) [
    | inl low ↦ ap (end_told (spot q port)) (run_of_low new q port low) ∙ ends_low q port low (mine q port) refl
        ∙ ap (λ x. cond (mine q port) (end_told (spot q port) o) (end_told (spot q port) x)) (sym (run_of_low runs q port low))
    | inr high ↦ ap (end_told (spot q port)) (run_of_high new q port high) ∙ ap (end_told (spot q port)) (sym (run_of_high runs q port high))
        ∙ sym (ap (λ t. cond t (end_told (spot q port) o) (end_by runs q port)) (mine_high q port high (same_protocol r0.value.endpoint.protocol q)))
  ]

-- the ports of a run are used by its phase
pub run_uses : (runs : List (Run End)) (pool : Holdings) (waits : FinMap nat_cmp ℕ) → AreInStep runs pool waits → (a : ℕ) (r : Run End) → run_at runs a ≡ Some r → IsSet r → AreUsedBy pool r (use_in (phase_by waits r) r.value)
run_uses runs pool waits is a r there set q h =
    is.used r.value.endpoint.protocol q
    ∙ ap (use_told waits (spot r.value.endpoint.protocol q)) (run_of_low runs r.value.endpoint.protocol q (port_low r set q h) ∙ run_whole runs is.scheduled.apart a r there (spot r.value.endpoint.protocol q) (place_of r set q h))
    ∙ ap (λ (i : ℕ). use_along i (use_in (phase_by waits r) r.value)) (place_off r set q h)

-- ports of no run are free
pub none_uses : (runs : List (Run End)) (pool : Holdings) (waits : FinMap nat_cmp ℕ) → AreInStep runs pool waits → (r : Run End) → IsSet r → ((at : ℕ) → has_place at r ≡ true → run_at runs at ≡ None) → AreUsedBy pool r Free
none_uses runs pool waits is r set free q h =
    is.used r.value.endpoint.protocol q
    ∙ ap (use_told waits (spot r.value.endpoint.protocol q)) (run_of_low runs r.value.endpoint.protocol q (port_low r set q h) ∙ free (spot r.value.endpoint.protocol q) (place_of r set q h))

-- what a spot has that isn't of a run begins elsewhere
pub other_first : (runs : List (Run End)) → AreRuns runs → (a at : ℕ) (r q : Run End) → run_at runs a ≡ Some r → run_at runs at ≡ Some q → has_place at r ≡ false → q.first ≡ r.first → ⊥
other_first runs apart a at r q there own out same =
    let is : q ≡ r = same_begin runs apart at a q r own there same in
    let has : has_place at r ≡ true = subst (λ (t : Run End). has_place at t ≡ true) is (run_has runs apart at q own) in
    absurd (let no : true ≡ false = sym has ∙ out in cc)

module _ (runs new : List (Run End)) (pool later : Holdings) (waits next : FinMap nat_cmp ℕ) (r : Run End)
    (is : AreInStep runs pool waits) (a : ℕ) (there : run_at runs a ≡ Some r) where
  quiet_run : (at : ℕ) → has_place at r ≡ true → (at ≡ r.first → ⊥) → get waits at ≡ None
  quiet_run at h other =
      is.scheduled.waiting at ∙ ap (wait_told waits at) (run_whole runs is.scheduled.apart a r there at h)
      ∙ cond_other r.first at (until (phase_by waits r) r.value.end) None (λ e. other (sym e))

  begins_other : (at : ℕ) → has_place at r ≡ false → IfSome (run_at runs at) (λ q. q.first ≡ r.first → ⊥)
  begins_other at out = some-if (λ (q : Run End). q.first ≡ r.first → ⊥) (run_at runs at) (λ q e. other_first runs is.scheduled.apart a at r q there e out)

  -- a run goes
  gone_step : (at : ℕ) → has_place at r ≡ false → (o : Option (Run End)) → run_at runs at ≡ o → but_from r.first o ≡ o
  gone_step at out None e = refl
  gone_step at out (Some q) e = cond_other q.first r.first None (Some q) (other_first runs is.scheduled.apart a at r q there e out)

  pub taken_block : AreRuns new → ((at : ℕ) → run_at new at ≡ but_from r.first (run_at runs at)) → GivesUses pool r.value.endpoint.protocol r.value.external r.count Free later → Waits waits r.first None next
      → IsBlock runs new pool later waits next r Over None
  taken_block apart left gives waits_are = record {
    apart = apart;
    outside = λ at out. left at ∙ gone_step at out (run_at runs at) refl;
    inside = λ at h. left at ∙ ap (but_from r.first) (run_whole runs is.scheduled.apart a r there at h) ∙ cond_same r.first r.first None (Some r) refl;
    own = tt;
    begins = begins_other;
    quiet = quiet_run;
    gives = gives;
    waits_are = waits_are;
  }

  -- a run has another value
  module _ (v : End) (set : IsSet (record { first = r.first; count = r.count; value = v })) where
    abbrev renewed : Run End
    renewed = record { first = r.first; count = r.count; value = v }

    renewed_step : (at : ℕ) → has_place at r ≡ false → (o : Option (Run End)) → run_at runs at ≡ o → option_map (with_value r.first v) o ≡ o
    renewed_step at out None e = refl
    renewed_step at out (Some q) e = ap Some (cond_other q.first r.first (record q { value = v }) q (other_first runs is.scheduled.apart a at r q there e out))

    pub renewed_block : (p : Phase) → AreRuns new → ((at : ℕ) → run_at new at ≡ option_map (with_value r.first v) (run_at runs at)) → GivesUses pool r.value.endpoint.protocol r.value.external r.count (use_in p v) later
        → Waits waits r.first (until p v.end) next → IsBlock runs new pool later waits next r p (Some renewed)
    renewed_block p apart changed gives waits_are = record {
      apart = apart;
      outside = λ at out. changed at ∙ renewed_step at out (run_at runs at) refl;
      inside = λ at h. changed at ∙ ap (option_map (with_value r.first v)) (run_whole runs is.scheduled.apart a r there at h) ∙ ap Some (cond_same r.first r.first (record r { value = v }) r refl);
      own = (set, refl);
      begins = begins_other;
      quiet = quiet_run;
      gives = gives;
      waits_are = waits_are;
    }

  -- a run comes into another phase
  pub phased_block : IsSet r → (p : Phase) → GivesUses pool r.value.endpoint.protocol r.value.external r.count (use_in p r.value) later → Waits waits r.first (until p r.value.end) next
      → IsBlock runs runs pool later waits next r p (Some r)
  phased_block set p gives waits_are = record {
    apart = is.scheduled.apart;
    outside = λ at out. refl;
    inside = λ at h. run_whole runs is.scheduled.apart a r there at h;
    own = (set, refl);
    begins = begins_other;
    quiet = quiet_run;
    gives = gives;
    waits_are = waits_are;
  }

-- a run comes
pub inserted_block : (runs new : List (Run End)) (pool later : Holdings) (waits next : FinMap nat_cmp ℕ) (r : Run End) (p : Phase) → AreInStep runs pool waits → IsSet r → AreRuns new
    → ((at : ℕ) → has_place at r ≡ true → run_at runs at ≡ None) → ((at : ℕ) → run_at new at ≡ cond (has_place at r) (Some r) (run_at runs at))
    → GivesUses pool r.value.endpoint.protocol r.value.external r.count (use_in p r.value) later → Waits waits r.first (until p r.value.end) next
    → IsBlock runs new pool later waits next r p (Some r)
inserted_block runs new pool later waits next r p is set apart free changed gives waits_are = record {
  apart = apart;
  outside = λ at out. changed at ∙ ap (λ t. cond t (Some r) (run_at runs at)) out;
  inside = λ at h. changed at ∙ ap (λ t. cond t (Some r) (run_at runs at)) h;
  own = (set, refl);
  begins = λ at out. some-if (λ (q : Run End). q.first ≡ r.first → ⊥) (run_at runs at) (λ q e same.
      let no : None ≡ Some q = sym (free r.first (place_first r set)) ∙ ap (run_at runs) (sym same) ∙ run_first runs is.scheduled.apart at q e in
      absurd cc);
  quiet = λ at h other. is.scheduled.waiting at ∙ ap (wait_told waits at) (free at h);
  gives = gives;
  waits_are = waits_are;
}
