-- How many runs fall due, by the ports at which something does.
use Rattle.std.proofs.Common.{◌≡◌, ℕ, ◌+◌, ◌<◌, ◌≤◌, ◌==◌, nat_le, Bool, true, false, cond, List, Option, Some, None, refl, sym, ap, ◌∙◌, inl, inr, arith}
use Rattle.std.specs.Ordering.{nat_cmp}
use Rattle.std.specs.FinMap.{FinMap, get}
use Rattle.std.proofs.lemmas.Bool.{lt-ltb, leb-true, le-leb}
use Rattle.pcp_base.specs.declared.leases.Protocol.{Protocol}
use Rattle.pcp_base.specs.declared.leases.Protocol.TheVariants.{Tcp, Udp}
use Rattle.pcp_base.specs.declared.leases.End.{End}
use Rattle.ordered_index.proofs.Entries.{false_by}
use Rattle.expiry_wheel.proofs.Maps.{below_or_not}
use Rattle.port_spans.specs.declared.runs.Run.{Run}
use Rattle.port_spans.specs.Runs.{run_at}
use Rattle.leased_ports.specs.declared.phases.Phase.{Phase}
use Rattle.leased_ports.specs.declared.phases.Phase.TheVariants.{Holds, Rests, Over}
use Rattle.leased_ports.specs.Leased.{Leased, leased, end_of}
use Rattle.leased_ports.specs.Kept.{end_by, until, phase_at, phase_by, wait_told, AreScheduled}
use Rattle.leased_ports.specs.Falling.{NoneDue, is_due, due_below}
use Rattle.leased_ports.specs.Counts.{count_below, falls_due, due_before, ports_due}
use Rattle.leased_ports.specs.Searching.{due_among}
use Rattle.leased_ports.proofs.PhaseLemmas.{at-holds, at-rests, phase-late}
use Rattle.leased_ports.proofs.CountLemmas.{due-counted, count-same, count-some, count-none, count-split}
use Rattle.port_spans.specs.Along.{spot, end_told}

pub told_step : (from m e : ℕ) (b : Bool) (p : Phase) → ((expiry : ℕ) → cond b (until p e) None ≡ Some expiry → from < expiry) → is_due m (cond b (until p e) None) ≡ true → is_due m (until (phase_at from e) e) ≡ true
told_step from m e false p late h = absurd (let no : false ≡ true = h in cc)
told_step from m e true Holds late h = ap (λ (f : Phase). is_due m (until f e)) (at-holds from e (late e refl)) ∙ h
told_step from m e true Rests late h = elim (below_or_not from e) [
  | inl less ↦ (let over = leb-true (e + 120) m h in ap (λ (f : Phase). is_due m (until f e)) (at-holds from e less) ∙ le-leb e m (omega (arith, over)))
  | inr came ↦ ap (λ (f : Phase). is_due m (until f e)) (at-rests from e came (late (e + 120) refl)) ∙ h
]
told_step from m e true Over late h = absurd (let no : false ≡ true = h in cc)

-- where a run falls due that begins at a spot, something does at the port there
due-told : (from m s : ℕ) (waits : FinMap nat_cmp ℕ) (o : Option (Run End)) → ((expiry : ℕ) → wait_told waits s o ≡ Some expiry → from < expiry) → is_due m (wait_told waits s o) ≡ true → falls_due from m (end_told s o) ≡ true
due-told from m s waits None late h = absurd (let no : false ≡ true = h in cc)
due-told from m s waits (Some r) late h = told_step from m r.value.end (r.first == s) (phase_by waits r) late h

module _ (low high quota seen m : ℕ) (runs : List (Run End)) where
  abbrev view : Leased
  view = leased low high quota seen m runs

  port_told : (p : Protocol) (i : ℕ) → i < 65536 → falls_due seen m (end_told (spot p i) (run_at runs (spot p i))) ≡ falls_due seen m (end_of view p i)
  port_told p i less =
      let by : end_by runs p i ≡ end_told (spot p i) (run_at runs (spot p i)) = ap (λ b. end_told (spot p i) (cond b (run_at runs (spot p i)) None)) (lt-ltb i 65536 less) in
      ap (falls_due seen m) (sym by)

  -- no more runs fall due than ports
  pub due-ports : (waits : FinMap nat_cmp ℕ) → AreScheduled runs waits → NoneDue seen waits → due_below m waits 131072 ≤ ports_due view
  due-ports waits is late =
      let p : ℕ → Bool = λ s. falls_due seen m (end_told s (run_at runs s)) in
      let some = due-counted m waits p (λ s due. due-told seen m s waits (run_at runs s) (λ expiry h. late s expiry (is.waiting s ∙ h)) (ap (is_due m) (sym (is.waiting s)) ∙ due)) 131072 in
      let all : count_below p 131072 ≡ count_below p 65536 + count_below (λ i. p (65536 + i)) 65536 = count-split p 65536 65536 in
      let tcp = count-same p (λ i. falls_due seen m (end_of view Tcp i)) 65536 (λ i less. port_told Tcp i less) in
      let udp = count-same (λ i. p (65536 + i)) (λ i. falls_due seen m (end_of view Udp i)) 65536 (λ i less. port_told Udp i less) in
      omega (arith, some, all, tcp, udp)

  -- nor among those of a protocol below one
  pub due-before : (waits : FinMap nat_cmp ℕ) → AreScheduled runs waits → NoneDue seen waits → (p : Protocol) (n : ℕ) → n ≤ 65536 → due_among m waits p n ≤ due_before view p n
  due-before waits is late p n few =
      count-some (λ i. falls_due seen m (end_of view p i)) (λ i. is_due m (get waits (spot p i))) n (λ i less due.
      sym (port_told p i (omega (arith, less, few)))
      ∙ due-told seen m (spot p i) waits (run_at runs (spot p i)) (λ expiry h. late (spot p i) expiry (is.waiting (spot p i) ∙ h)) (ap (is_due m) (sym (is.waiting (spot p i))) ∙ due))

pub one-due : (v : Leased) (p : Protocol) → due_before v p 65536 ≤ ports_due v
one-due v Tcp = omega arith
one-due v Udp = omega arith

-- where all is seen to, none is due
pub none-due : (v : Leased) → v.settled ≡ v.reached → ports_due v ≡ 0
none-due v same =
    let tcp = none Tcp in
    let udp = none Udp in
    omega (arith, tcp, udp)
  where
    late : (o : Option End) → falls_due v.settled v.reached o ≡ false
    late None = refl
    late (Some e) = by (until (phase_at v.settled e.end) e.end) refl
      where
        by : (o : Option ℕ) → until (phase_at v.settled e.end) e.end ≡ o → is_due v.reached o ≡ false
        by None h = refl
        by (Some expiry) h = false_by (nat_le expiry v.reached) (λ t. let less = phase-late v.settled e.end expiry h in let due = leb-true expiry v.reached t in absurd (omega (arith, less, due, same)))

    none : (p : Protocol) → due_before v p 65536 ≡ 0
    none p = count-none (λ port. falls_due v.settled v.reached (end_of v p port)) 65536 (λ i less. late (end_of v p i))
