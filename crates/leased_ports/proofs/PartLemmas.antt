-- A run that is parted, with a wheel that follows.
use Rattle.std.proofs.Common.{◌≡◌, ℕ, ◌+◌, ◌-◌, ◌<◌, ◌≤◌, ◌==◌, nat_lt, Bool, true, false, cond, List, Option, Some, None, IfSome, refl, sym, ap, ◌∙◌, subst, inl, inr, arith}
use Rattle.std.specs.Option.{option_map}
use Rattle.std.specs.Ordering.{nat_cmp}
use Rattle.std.specs.FinMap.{FinMap, get}
use Rattle.std.proofs.lemmas.Bool.{ltb-false}
use Rattle.pcp_base.specs.declared.leases.End.{End}
use Rattle.expiry_wheel.proofs.Maps.{same_or_not, cond_same, cond_other}
use Rattle.external_pool.specs.PortUses.{use_along}
use Rattle.external_pool.specs.Holdings.{Holdings}
use Rattle.port_spans.specs.declared.runs.Run.{Run}
use Rattle.port_spans.specs.Runs.{has_place, run_at, AreRuns, part_at, with_value}
use Rattle.port_spans.proofs.RunLemmas.{in_by}
use Rattle.port_spans.specs.Along.{end_along, spot}
use Rattle.port_spans.proofs.CutLemmas as cut_lemmas
use Rattle.pcp_base.specs.declared.leases.Protocol.{Protocol}
use Rattle.leased_ports.specs.declared.phases.Phase.{Phase}
use Rattle.leased_ports.specs.declared.phases.Phase.TheVariants.{Holds, Rests, Over}
use Rattle.leased_ports.specs.Kept.{use_in, use_told, since, until, phase_until, phase_by, wait_told, IsSet, AreScheduled, AreInStep, HaveBegun}
use Rattle.leased_ports.specs.Steps.{Waits}
use Rattle.leased_ports.proofs.PhaseLemmas.{run_waits, phase_other}
use Rattle.port_spans.proofs.SpotLemmas.{if-some, some-if, run_has, run_whole, run_from, run_to, spot_more, along_twice}

-- a use by what is told alone
pub use_step : (i : ℕ) (v : End) (p : Phase) → use_along i (use_in p v) ≡ use_in p (end_along i v)
use_step i v Holds = refl
use_step i v Rests = refl
use_step i v Over = refl

-- the pool follows, where each port keeps its use
pub in_step_told : (runs new : List (Run End)) (pool : Holdings) (waits next : FinMap nat_cmp ℕ) → AreInStep runs pool waits → AreScheduled new next
    → ((at : ℕ) → use_told next at (run_at new at) ≡ use_told waits at (run_at runs at)) → AreInStep new pool next
in_step_told runs new pool waits next is scheduled told = record {
  whole = is.whole;
  scheduled = scheduled;
  used = λ q port. is.used q port ∙ by q port (nat_lt port 65536);
}
  where
    by : (q : Protocol) (port : ℕ) (b : Bool) → use_told waits (spot q port) (cond b (run_at runs (spot q port)) None) ≡ use_told next (spot q port) (cond b (run_at new (spot q port)) None)
    by q port true = sym (told (spot q port))
    by q port false = refl

module _ (runs : List (Run End)) (waits : FinMap nat_cmp ℕ) (is : AreScheduled runs waits) (p : ℕ) (r : Run End) (there : run_at runs p ≡ Some r) where
  pub set_run : IsSet r
  set_run = if-some IsSet (run_at runs p) r there (is.set p)

  module _ (inner : r.first ≡ p → ⊥) where
    pub behind : r.first < p
    behind = cut_lemmas.behind runs is.apart p r there inner

    within : p < r.first + r.count
    within = run_to runs is.apart p r there

    abbrev pub last : End
    last = end_along (p - r.first) r.value

    abbrev left : Run End
    left = cut_lemmas.left runs is.apart p r there inner

    abbrev right : Run End
    right = cut_lemmas.right runs is.apart p r there inner

    left_set : IsSet left
    left_set = record {
      first = set_run.first;
      some = omega (arith, behind);
      external = set_run.external;
      within = omega (arith, set_run.within, within, behind);
      internal = omega (arith, set_run.internal, within, behind);
      near = set_run.near;
    }

    right_set : IsSet right
    right_set = record {
      first =
          let sum : p ≡ r.first + (p - r.first) = omega (arith, behind) in
          sum ∙ ap (λ (f : ℕ). f + (p - r.first)) set_run.first ∙ spot_more r.value.endpoint.protocol r.value.external (p - r.first);
      some = omega (arith, within);
      external = omega (arith, set_run.external);
      within = omega (arith, set_run.within, within, behind);
      internal = omega (arith, set_run.internal, within, behind);
      near = set_run.near;
    }

    module _ (between new : List (Run End)) (cut : (at : ℕ) → run_at between at ≡ option_map (part_at p at) (run_at runs at))
        (changed : (at : ℕ) → run_at new at ≡ option_map (with_value p last) (run_at between at)) where
      new_own : (at : ℕ) → has_place at r ≡ true → run_at new at ≡ Some (cond (nat_lt at p) left right)
      new_own = cut_lemmas.new_own runs is.apart p r there inner between new cut changed

      new_other : (at : ℕ) → has_place at r ≡ false → run_at new at ≡ run_at runs at
      new_other = cut_lemmas.new_other runs is.apart p r there inner between new cut changed

      at_cut : run_at new p ≡ Some right
      at_cut = cut_lemmas.at_cut runs is.apart p r there inner between new cut changed

      part_set : (b : Bool) → IsSet (cond b left right)
      part_set true = left_set
      part_set false = right_set

      set_at : (at : ℕ) (t : Bool) → has_place at r ≡ t → IfSome (run_at new at) IsSet
      set_at at true h = subst (λ (o : Option (Run End)). IfSome o IsSet) (sym (new_own at h)) (part_set (nat_lt at p))
      set_at at false h = subst (λ (o : Option (Run End)). IfSome o IsSet) (sym (new_other at h)) (is.set at)

      -- what has another place isn't at the cut
      apart_from : (at : ℕ) (q : Run End) → run_at runs at ≡ Some q → has_place at r ≡ false → has_place p q ≡ true → ⊥
      apart_from at q own out has =
          let both : Some q ≡ Some r = sym (run_whole runs is.apart at q own p has) ∙ there in
          let same : q ≡ r = cc in
          let own_has : has_place at r ≡ true = subst (λ (t : Run End). has_place at t ≡ true) same (run_has runs is.apart at q own) in
          absurd (let no : true ≡ false = sym own_has ∙ out in cc)

      module _ (apart : AreRuns new) (next : FinMap nat_cmp ℕ) (waits_are : Waits waits p (get waits r.first) next) where
        left_phase : phase_by next left ≡ phase_by waits r
        left_phase = ap (phase_until r.value.end) (waits_are r.first ∙ cond_other r.first p (get waits r.first) (get waits r.first) inner)

        right_phase : phase_by next right ≡ phase_by waits r
        right_phase = ap (phase_until r.value.end) (waits_are p ∙ cond_same p p (get waits r.first) (get waits p) refl)

        -- the phase of another stays
        other_phase : (at : ℕ) (q : Run End) → run_at runs at ≡ Some q → has_place at r ≡ false → phase_by next q ≡ phase_by waits q
        other_phase at q own out = phase_other waits next p (get waits r.first) waits_are q (λ same.
            let from = run_from runs is.apart at q own in
            let to = run_to runs is.apart at q own in
            apart_from at q own out (in_by q.first q.count p (omega (arith, same)) (omega (arith, same, from, to))))

        own_use : (at : ℕ) (b : Bool) → nat_lt at p ≡ b → use_told next at (Some (cond b left right)) ≡ use_told waits at (Some r)
        own_use at true e = ap (λ (f : Phase). use_along (at - r.first) (use_in f r.value)) left_phase
        own_use at false e =
            let from : p ≤ at = ltb-false at p e in
            ap (λ (f : Phase). use_along (at - p) (use_in f last)) right_phase
            ∙ use_step (at - p) last (phase_by waits r)
            ∙ ap (use_in (phase_by waits r)) (along_twice r.value (p - r.first) (at - p) (at - r.first) (omega (arith, from, behind)))
            ∙ sym (use_step (at - r.first) r.value (phase_by waits r))

        other_use : (at : ℕ) → has_place at r ≡ false → (o : Option (Run End)) → run_at runs at ≡ o → use_told next at o ≡ use_told waits at o
        other_use at out None e = refl
        other_use at out (Some q) e = ap (λ (f : Phase). use_along (at - q.first) (use_in f q.value)) (other_phase at q e out)

        used_at : (at : ℕ) (t : Bool) → has_place at r ≡ t → use_told next at (run_at new at) ≡ use_told waits at (run_at runs at)
        used_at at true h = ap (use_told next at) (new_own at h) ∙ own_use at (nat_lt at p) refl ∙ sym (ap (use_told waits at) (run_whole runs is.apart p r there at h))
        used_at at false h = ap (use_told next at) (new_other at h) ∙ other_use at h (run_at runs at) refl

        pub part_uses : (at : ℕ) → use_told next at (run_at new at) ≡ use_told waits at (run_at runs at)
        part_uses at = used_at at (has_place at r) refl

        abbrev Began : ℕ → Run End → Type 0
        Began m q = since (phase_by next q) q.value.end ≤ m

        own_begun : (m : ℕ) → since (phase_by waits r) r.value.end ≤ m → (b : Bool) → Began m (cond b left right)
        own_begun m h true = subst (λ (f : Phase). since f r.value.end ≤ m) (sym left_phase) h
        own_begun m h false = subst (λ (f : Phase). since f r.value.end ≤ m) (sym right_phase) h

        begun_at : (m : ℕ) → HaveBegun m runs waits → (at : ℕ) (t : Bool) → has_place at r ≡ t → IfSome (run_at new at) (Began m)
        begun_at m begun at true h = subst (λ (o : Option (Run End)). IfSome o (Began m)) (sym (new_own at h))
            (own_begun m (if-some (λ (q : Run End). since (phase_by waits q) q.value.end ≤ m) (run_at runs p) r there (begun p)) (nat_lt at p))
        begun_at m begun at false h = subst (λ (o : Option (Run End)). IfSome o (Began m)) (sym (new_other at h)) (some-if (Began m) (run_at runs at) (λ q e.
            subst (λ (f : Phase). since f q.value.end ≤ m) (sym (other_phase at q e h)) (if-some (λ (t : Run End). since (phase_by waits t) t.value.end ≤ m) (run_at runs at) q e (begun at))))

        pub part_begun : (m : ℕ) → HaveBegun m runs waits → HaveBegun m new next
        part_begun m begun at = begun_at m begun at (has_place at r) refl

        waiting_own : (at : ℕ) → (at ≡ p → ⊥) → (b : Bool) → nat_lt at p ≡ b → wait_told waits at (Some r) ≡ wait_told next at (Some (cond b left right))
        waiting_own at other true e = ap (λ (f : Phase). cond (r.first == at) (until f r.value.end) None) (sym left_phase)
        waiting_own at other false e =
            let from : p ≤ at = ltb-false at p e in
            let later : r.first ≡ at → ⊥ = λ same. absurd (omega (arith, same, from, behind)) in
            cond_other r.first at (until (phase_by waits r) r.value.end) None later
            ∙ sym (cond_other p at (until (phase_by next right) last.end) None (λ same. other (sym same)))

        waiting_step : (at : ℕ) → has_place at r ≡ false → (o : Option (Run End)) → run_at runs at ≡ o → wait_told waits at o ≡ wait_told next at o
        waiting_step at out None e = refl
        waiting_step at out (Some q) e = ap (λ (f : Phase). cond (q.first == at) (until f q.value.end) None) (sym (other_phase at q e out))

        waiting_other : (at : ℕ) → (at ≡ p → ⊥) → (t : Bool) → has_place at r ≡ t → get waits at ≡ wait_told next at (run_at new at)
        waiting_other at other true h =
            is.waiting at ∙ ap (wait_told waits at) (run_whole runs is.apart p r there at h) ∙ waiting_own at other (nat_lt at p) refl ∙ ap (wait_told next at) (sym (new_own at h))
        waiting_other at other false h = is.waiting at ∙ waiting_step at h (run_at runs at) refl ∙ ap (wait_told next at) (sym (new_other at h))

        pub part_scheduled : AreScheduled new next
        part_scheduled = record {
          apart = apart;
          set = λ at. set_at at (has_place at r) refl;
          waiting = λ at. elim (same_or_not at p) [
            | inl same ↦ waits_are at ∙ cond_same at p (get waits r.first) (get waits at) same
                ∙ run_waits runs waits is p r there
                ∙ sym (ap (λ (a : ℕ). wait_told next a (run_at new a)) same ∙ ap (wait_told next p) at_cut ∙ cond_same p p (until (phase_by next right) last.end) None refl
                ∙ ap (λ (f : Phase). until f r.value.end) right_phase)
            | inr other ↦ waits_are at ∙ cond_other at p (get waits r.first) (get waits at) other ∙ waiting_other at other (has_place at r) refl
          ];
        }
