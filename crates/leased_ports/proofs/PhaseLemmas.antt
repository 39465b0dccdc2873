-- Phases, as the wheel tells them and as moments do.
use Rattle.std.specs.Prelude.{◌≢◌}
use Rattle.std.proofs.Common.{◌≡◌, ℕ, ◌+◌, ◌<◌, ◌≤◌, ◌==◌, nat_lt, Bool, true, false, cond, List, Option, Some, None, refl, sym, ap, ◌∙◌, arith, inl, inr}
use Rattle.std.specs.Ordering.{nat_cmp}
use Rattle.std.specs.FinMap.{FinMap, get}
use Rattle.std.proofs.lemmas.Bool.{ltb-true, lt-ltb, le-ltb, ltb-false, eq-eqb, eqb-true}
use Rattle.pcp_base.specs.declared.leases.End.{End}
use Rattle.ordered_index.proofs.Entries.{false_by}
use Rattle.expiry_wheel.proofs.Maps.{same_or_not, cond_same, cond_other}
use Rattle.port_spans.specs.declared.runs.Run.{Run}
use Rattle.port_spans.specs.Runs.{run_at}
use Rattle.leased_ports.specs.declared.phases.Phase.{Phase}
use Rattle.leased_ports.specs.declared.phases.Phase.TheVariants.{Holds, Rests, Over}
use Rattle.leased_ports.specs.Leased.{while_recent}
use Rattle.leased_ports.specs.Kept.{since, until, phase_at, phase_until, phase_by, use_by, use_in, wait_told, AreScheduled, HaveBegun}
use Rattle.leased_ports.specs.Falling.{NoneDue}
use Rattle.leased_ports.specs.Steps.{Waits}
use Rattle.port_spans.proofs.SpotLemmas.{some-if, if-some, run_first}

-- what waits so is in this phase
pub until-phase : (p : Phase) (e : ℕ) → phase_until e (until p e) ≡ p
until-phase Holds e = ap (λ (b : Bool). cond b Holds Rests) (eq-eqb e e refl)
until-phase Rests e = ap (λ (b : Bool). cond b Holds Rests) (false_by (e + 120 == e) (λ t. absurd (omega (arith, eqb-true (e + 120) e t))))
until-phase Over e = refl

-- a phase at a moment has begun
pub phase-begun : (m e : ℕ) → since (phase_at m e) e ≤ m
phase-begun m e = by (nat_lt m e) refl (nat_lt m (e + 120)) refl
  where
    by : (a : Bool) → nat_lt m e ≡ a → (b : Bool) → nat_lt m (e + 120) ≡ b → since (cond a Holds (cond b Rests Over)) e ≤ m
    by true h b k = omega arith
    by false h true k = ltb-false m e h
    by false h false k = ltb-false m (e + 120) k

pub at-holds : (m e : ℕ) → m < e → phase_at m e ≡ Holds
at-holds m e h = ap (λ (b : Bool). cond b Holds (cond (nat_lt m (e + 120)) Rests Over)) (lt-ltb m e h)

pub at-rests : (m e : ℕ) → e ≤ m → m < e + 120 → phase_at m e ≡ Rests
at-rests m e came late =
    ap (λ (b : Bool). cond b Holds (cond (nat_lt m (e + 120)) Rests Over)) (le-ltb m e came) ∙ ap (λ (b : Bool). cond b Rests Over) (lt-ltb m (e + 120) late)

pub at-over : (m e : ℕ) → e + 120 ≤ m → phase_at m e ≡ Over
at-over m e over =
    let came : e ≤ m = omega (arith, over) in
    ap (λ (b : Bool). cond b Holds (cond (nat_lt m (e + 120)) Rests Over)) (le-ltb m e came) ∙ ap (λ (b : Bool). cond b Rests Over) (le-ltb m (e + 120) over)

-- a phase that has begun, of what isn't due, is that at the moment
pub phase-settled : (m e : ℕ) (p : Phase) → since p e ≤ m → ((expiry : ℕ) → until p e ≡ Some expiry → m < expiry) → p ≡ phase_at m e
phase-settled m e Holds begun late = sym (at-holds m e (late e refl))
phase-settled m e Rests begun late = sym (at-rests m e begun (late (e + 120) refl))
phase-settled m e Over begun late = sym (at-over m e begun)

-- a port is used by its last end while that is recent
pub use-recent : (m : ℕ) (o : Option End) → use_by m o ≡ use_by m (while_recent m o)
use-recent m None = refl
use-recent m (Some e) = by (nat_lt m (e.end + 120)) refl
  where
    by : (b : Bool) → nat_lt m (e.end + 120) ≡ b → use_by m (Some e) ≡ use_by m (cond b (Some e) None)
    by true h = refl
    by false h = ap (λ (p : Phase). use_in p e) (at-over m e.end (ltb-false m (e.end + 120) h))

-- a run waits by its phase
pub run_waits : (runs : List (Run End)) (waits : FinMap nat_cmp ℕ) → AreScheduled runs waits → (a : ℕ) (r : Run End) → run_at runs a ≡ Some r → get waits r.first ≡ until (phase_by waits r) r.value.end
run_waits runs waits is a r there =
    is.waiting r.first ∙ ap (wait_told waits r.first) (run_first runs is.apart a r there) ∙ cond_same r.first r.first (until (phase_by waits r) r.value.end) None refl

-- another run's phase stays where one waits otherwise
pub phase_other : (waits next : FinMap nat_cmp ℕ) (id : ℕ) (until_then : Option ℕ) → Waits waits id until_then next → (r : Run End) → r.first ≢ id → phase_by next r ≡ phase_by waits r
phase_other waits next id until_then waits_are r other = ap (phase_until r.value.end) (waits_are r.first ∙ cond_other r.first id until_then (get waits r.first) other)

-- and its own is that by which it waits
pub phase_own : (waits next : FinMap nat_cmp ℕ) (id : ℕ) (p : Phase) (r : Run End) → Waits waits id (until p r.value.end) next → r.first ≡ id → phase_by next r ≡ p
phase_own waits next id p r waits_are same =
    ap (phase_until r.value.end) (waits_are r.first ∙ cond_same r.first id (until p r.value.end) (get waits r.first) same) ∙ until-phase p r.value.end

pub begun-later : (n m : ℕ) (runs : List (Run End)) (waits : FinMap nat_cmp ℕ) → n ≤ m → HaveBegun n runs waits → HaveBegun m runs waits
begun-later n m runs waits later begun at = some-if (λ (r : Run End). since (phase_by waits r) r.value.end ≤ m) (run_at runs at) (λ r e.
    let was = if-some (λ (t : Run End). since (phase_by waits t) t.value.end ≤ n) (run_at runs at) r e (begun at) in
    omega (arith, was, later))

-- what waits otherwise isn't due, where it waits until later
pub none-due-set : (seen : ℕ) (waits next : FinMap nat_cmp ℕ) (id : ℕ) (o : Option ℕ) → Waits waits id o next → ((expiry : ℕ) → o ≡ Some expiry → seen < expiry) → NoneDue seen waits → NoneDue seen next
none-due-set seen waits next id o waits_are own none other expiry h = elim (same_or_not other id) [
  | inl same ↦ own expiry (sym (waits_are other ∙ cond_same other id o (get waits other) same) ∙ h)
  | inr ne ↦ none other expiry (sym (waits_are other ∙ cond_other other id o (get waits other) ne) ∙ h)
]

pub none-due-removed : (seen : ℕ) (waits next : FinMap nat_cmp ℕ) (id : ℕ) → Waits waits id None next → NoneDue seen waits → NoneDue seen next
none-due-removed seen waits next id gone none = none-due-set seen waits next id None gone (λ expiry h. let no : None ≡ Some expiry = h in absurd cc) none

-- what has its phase at a moment waits until later
pub phase-late : (m e expiry : ℕ) → until (phase_at m e) e ≡ Some expiry → m < expiry
phase-late m e expiry h = by (nat_lt m e) refl (nat_lt m (e + 120)) refl h
  where
    by : (a : Bool) → nat_lt m e ≡ a → (b : Bool) → nat_lt m (e + 120) ≡ b → until (cond a Holds (cond b Rests Over)) e ≡ Some expiry → m < expiry
    by true late b k told = let same : e ≡ expiry = (let whole : Some e ≡ Some expiry = told in cc) in let less = ltb-true m e late in omega (arith, same, less)
    by false late true k told = let same : e + 120 ≡ expiry = (let whole : Some (e + 120) ≡ Some expiry = told in cc) in let less = ltb-true m (e + 120) k in omega (arith, same, less)
    by false late false k told = absurd (let no : None ≡ Some expiry = told in cc)
