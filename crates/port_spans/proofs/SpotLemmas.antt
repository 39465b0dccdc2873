-- Where ports stand, and runs by their places.
use Rattle.std.proofs.Common.{◌≡◌, ℕ, ◌+◌, ◌-◌, ◌<◌, ◌≤◌, ◌&&◌, ◌==◌, Bool, true, false, cond, List, Option, Some, None, IfSome, refl, sym, ap, ◌∙◌, subst, arith}
use Rattle.std.proofs.lemmas.Bool.Decides.{nat_tests}
use Rattle.pcp_base.specs.declared.leases.Protocol.{Protocol}
use Rattle.pcp_base.specs.declared.leases.Protocol.TheVariants.{Tcp, Udp}
use Rattle.pcp_base.specs.declared.leases.End.{End}
use Rattle.pcp_base.specs.Tables.{same_protocol}
use Rattle.ordered_index.proofs.EntryLaws.{none_by}
use Rattle.port_runs.specs.Ports.{is_in_run}
use Rattle.port_spans.specs.declared.runs.Run.{Run}
use Rattle.port_spans.specs.Runs.{has_place, run_at, AreRuns, IsRunAt, IsNextRun, but_from}
use Rattle.port_spans.specs.Along.{spot, end_along, BeginsAt}
use Rattle.port_spans.proofs.RunLemmas.{in_from, in_to, in_by}

pub if-some : {X : Type 0} (P : X → Type 0) (o : Option X) (x : X) → o ≡ Some x → IfSome o P → P x
if-some P o x e h = subst (λ o. IfSome o P) e h

pub some-if : {X : Type 0} (P : X → Type 0) (o : Option X) → ((x : X) → o ≡ Some x → P x) → IfSome o P
some-if P None f = tt
some-if P (Some x) f = f x refl

-- ---- spots

pub spot_in : (p q : Protocol) (x n port : ℕ) → x + n ≤ 65536 → port < 65536 → is_in_run (spot p x) n (spot q port) ≡ (same_protocol p q && is_in_run x n port)
spot_in Tcp Tcp x n port a b = refl
spot_in Udp Udp x n port a b = grind (arith, nat_tests)
spot_in Tcp Udp x n port a b = grind (arith, nat_tests, a)
spot_in Udp Tcp x n port a b = grind (arith, nat_tests, b)

pub spot_low : (p : Protocol) (n : ℕ) → n < 65536 → spot p n < 131072
spot_low Tcp n h = omega (arith, h)
spot_low Udp n h = omega (arith, h)

pub spot_up_to : (p : Protocol) (x n : ℕ) → x + n ≤ 65536 → spot p x + n ≤ 131072
spot_up_to Tcp x n h = omega (arith, h)
spot_up_to Udp x n h = omega (arith, h)

pub spot_from : (p : Protocol) (x port : ℕ) → x ≤ port → spot p port - spot p x ≡ port - x
spot_from Tcp x port h = refl
spot_from Udp x port h = omega (arith, h)

pub spot_more : (p : Protocol) (x i : ℕ) → spot p x + i ≡ spot p (x + i)
spot_more Tcp x i = refl
spot_more Udp x i = omega arith

pub along_twice : (e : End) (i j k : ℕ) → i + j ≡ k → end_along j (end_along i e) ≡ end_along k e
along_twice e i j k h =
    let ports : e.endpoint.port + i + j ≡ e.endpoint.port + k = omega (arith, h) in
    let externals : e.external + i + j ≡ e.external + k = omega (arith, h) in
    ap (λ (n : ℕ). record { endpoint = record e.endpoint { port = n }; external = e.external + i + j; end = e.end }) ports
    ∙ ap (λ (n : ℕ). record { endpoint = record e.endpoint { port = e.endpoint.port + k }; external = n; end = e.end }) externals

-- ---- runs

module _ {V : Type 0} (runs : List (Run V)) (apart : AreRuns runs) (a : ℕ) (r : Run V) (there : run_at runs a ≡ Some r) where
  run_is : IsRunAt runs a r
  run_is = if-some (IsRunAt runs a) (run_at runs a) r there (apart a)

  pub run_has : has_place a r ≡ true
  run_has = run_is.has

  pub run_whole : (at : ℕ) → has_place at r ≡ true → run_at runs at ≡ Some r
  run_whole at h = run_is.whole at h

  pub run_from : r.first ≤ a
  run_from = in_from r.first r.count a run_is.has

  pub run_to : a < r.first + r.count
  run_to = in_to r.first r.count a run_is.has

  pub run_first : run_at runs r.first ≡ Some r
  run_first = run_is.whole r.first (in_by r.first r.count r.first (omega arith) (omega (arith, run_from, run_to)))

-- runs that begin at one place are one
pub same_begin : {V : Type 0} (runs : List (Run V)) → AreRuns runs → (a b : ℕ) (q r : Run V) → run_at runs a ≡ Some q → run_at runs b ≡ Some r → q.first ≡ r.first → q ≡ r
same_begin runs apart a b q r there own same =
    let left = run_first runs apart a q there in
    let right = run_first runs apart b r own in
    let both : Some q ≡ Some r = sym left ∙ ap (run_at runs) same ∙ right in
    cc

pub but_keeps : {V : Type 0} (P : Run V → Type 0) (first : ℕ) (o : Option (Run V)) → IfSome o P → IfSome (but_from first o) P
but_keeps P first None h = tt
but_keeps P first (Some q) h = step (q.first == first)
  where
    step : (b : Bool) → IfSome (cond b None (Some q)) P
    step true = tt
    step false = h

-- ---- between two spots over which no run goes on

module _ (runs : List (Run End)) (apart : AreRuns runs) (from : ℕ) (begins : BeginsAt from runs) where
  -- what has a place from there on begins there or behind
  pub begins_from : (at : ℕ) (s : Run End) → run_at runs at ≡ Some s → from ≤ at → from ≤ s.first
  begins_from at s own past =
      let no_less : s.first < from → ⊥ = λ less.
      let has : has_place from s ≡ true = in_by s.first s.count from (omega (arith, less)) (omega (arith, past, run_to runs apart at s own)) in
      let first : s.first ≡ from = if-some (λ (q : Run End). q.first ≡ from) (run_at runs from) s (run_whole runs apart at s own from has) begins in
      absurd (omega (arith, first, less)) in
      grind (arith, no_less)

  pub none_between : (to : ℕ) → IsNextRun runs from to None → (at : ℕ) → from ≤ at → at < to → run_at runs at ≡ None
  none_between to none at past before = none_by (run_at runs at) (λ s e.
      let late = if-some (λ (q : Run End). from ≤ q.first → to ≤ q.first) (run_at runs at) s e (none at) in
      absurd (omega (arith, late (begins_from at s e past), run_from runs apart at s e, before)))

-- a run that begins before a spot ends there at the latest
pub ends_before : (runs : List (Run End)) → AreRuns runs → (to : ℕ) → BeginsAt to runs → (a : ℕ) (r : Run End) → run_at runs a ≡ Some r → r.first < to → r.first + r.count ≤ to
ends_before runs apart to begins a r there inside =
    let no_more : to < r.first + r.count → ⊥ = λ more.
    let has : has_place to r ≡ true = in_by r.first r.count to (omega (arith, inside)) more in
    let first : r.first ≡ to = if-some (λ (q : Run End). q.first ≡ to) (run_at runs to) r (run_whole runs apart a r there to has) begins in
    absurd (omega (arith, first, inside)) in
    grind (arith, no_more)
