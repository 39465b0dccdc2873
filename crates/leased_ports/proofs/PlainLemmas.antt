-- Picks by a pool that lags, and by last ends.
use Rattle.std.specs.Prelude.{◌⊎◌}
use Rattle.std.proofs.Common.{◌≡◌, ℕ, zero, suc, ◌+◌, ◌-◌, ◌<◌, ◌≤◌, ◌&&◌, ◌||◌, nat_lt, nat_le, min, not, Bool, true, false, cond, List, [], ◌∷◌, length, Option, Some, None, IfSome, IfOk, Result, Ok, Err, count_by, refl, sym, ap, ◌∙◌, subst, inl, inr, arith}
use Rattle.std.specs.Option.{option_map}
use Rattle.std.specs.List.{range_with_len}
use Rattle.std.specs.Ordering.{nat_cmp}
use Rattle.std.specs.FinMap.{FinMap, get}
use Rattle.std.proofs.lemmas.Bool.{and_parts, and_from, lt-ltb, le-leb, lt-leb, leb-true, ltb-true, ltb-false}
use Rattle.std.proofs.lemmas.List.{get_or-map, get_or_past}
use Rattle.std.proofs.lemmas.List.Sums.{sum_by-cons}
use Rattle.std.proofs.lemmas.List.FromFn.{get_or-range_with_len, length-range_with_len, length-map-range_with_len}
use Rattle.pcp_base.specs.declared.addresses.Address.{Address}
use Rattle.pcp_base.specs.declared.leases.Protocol.{Protocol}
use Rattle.pcp_base.specs.declared.leases.Protocol.TheVariants.{Tcp, Udp}
use Rattle.pcp_base.specs.declared.leases.Endpoint.{Endpoint}
use Rattle.pcp_base.specs.declared.leases.End.{End}
use Rattle.pcp_base.specs.Tables.{same_address, same_protocol}
use Rattle.pcp_base.specs.Owners.{owned}
use Rattle.pcp_base.specs.States.{State}
use Rattle.pcp_base.specs.Reached.{IsReached}
use Rattle.pcp_base.proofs.Same.{same_protocol-Decides}
use Rattle.port_runs.specs.Ports.{is_in_run}
use Rattle.ordered_index.proofs.Entries.{false_by}
use Rattle.expiry_wheel.proofs.Maps.{below_or_not}
use Rattle.external_pool.specs.declared.uses.Use.{Use}
use Rattle.external_pool.specs.declared.uses.Use.TheVariants.{Free}
use Rattle.external_pool.specs.declared.asks.PickAsk.{PickAsk}
use Rattle.external_pool.specs.declared.asks.Picked.{Picked}
use Rattle.external_pool.specs.declared.asks.PickRefused.{PickRefused}
use Rattle.external_pool.specs.declared.asks.PickRefused.TheVariants.{Quota, CannotProvide, NoPort}
use Rattle.external_pool.specs.PortUses.{PortUses, is_in_range, is_free_use, is_held_by, is_vacant, use_along, use_at}
use Rattle.external_pool.specs.Holdings.{Holdings, uses_of, use_of, ports_held}
use Rattle.external_pool.specs.Choosing.{IsVacantRun, IsLongest, IsPick}
use Rattle.external_pool.specs.Asking.{IsPickAnswer, answer_to, is_as_asked}
use Rattle.external_pool.specs.Calls.{IsAsk}
use Rattle.external_pool.proofs.OwnedPorts.{ports_held-owned}
use Rattle.lease_store.specs.declared.terms.Terms.{Terms}
use Rattle.lease_store.specs.Picks.{pick_answer}
use Rattle.port_spans.specs.declared.runs.Run.{Run}
use Rattle.port_spans.specs.Runs.{run_at}
use Rattle.port_spans.specs.Along.{end_along, end_told, spot}
use Rattle.port_spans.proofs.RunLemmas.{in_from}
use Rattle.port_spans.proofs.SpotLemmas.{some-if, if-some, run_has}
use Rattle.leased_ports.specs.declared.phases.Phase.{Phase}
use Rattle.leased_ports.specs.declared.phases.Phase.TheVariants.{Holds, Rests, Over}
use Rattle.leased_ports.specs.Leased.{Leased, leased, end_of, IsPortsOf, IsOnTerms}
use Rattle.leased_ports.specs.Kept.{port_run, end_by, since, until, phase_at, phase_by, use_in, use_by, use_told, IsOn, IsSet, AreInStep, HaveBegun, AreSettled}
use Rattle.leased_ports.specs.Falling.{NoneDue}
use Rattle.leased_ports.specs.Counts.{count_below, is_held_after, held_since}
use Rattle.leased_ports.specs.Frees.{IsFirst, is_over}
use Rattle.leased_ports.specs.Plain.{one_port, lesser, each_by, uses_by, pool_by, uses_now, held_now}
use Rattle.leased_ports.specs.Laws.{IsPoolOnTerms}
use Rattle.leased_ports.proofs.SpotLemmas.{in_spots, run_of_low, run_of_high}
use Rattle.leased_ports.proofs.PhaseLemmas.{at-holds, at-rests, at-over, run_waits}
use Rattle.leased_ports.proofs.PoolLemmas.{held-by}
use Rattle.leased_ports.proofs.PickLemmas.{picks-state}
use Rattle.leased_ports.proofs.CountLemmas.{count-same, count-split, count-some}
use Rattle.leased_ports.proofs.ViewLemmas.{by_high, used_by, used_pool}

-- ---- the first number that passes one of two tests

either : (a b : Bool) → (a || b) ≡ true → (a ≡ true) ⊎ (b ≡ true)
either true b h = inl refl
either false b h = inr h

module _ (p q r : ℕ → Bool) (is : (n : ℕ) → r n ≡ (p n || q n)) where
  by_left : (n : ℕ) → p n ≡ true → r n ≡ true
  by_left n h = is n ∙ ap (λ (t : Bool). t || q n) h

  by_right : (n : ℕ) → q n ≡ true → r n ≡ true
  by_right n h = is n ∙ or_true (p n) (q n) h
    where
      or_true : (a b : Bool) → b ≡ true → (a || b) ≡ true
      or_true true b e = refl
      or_true false b e = e

  by_none : (n : ℕ) → p n ≡ false → q n ≡ false → r n ≡ false
  by_none n h k = is n ∙ ap (λ (t : Bool). t || q n) h ∙ k

  either_from : (a b k : ℕ) → ((n : ℕ) → p n ≡ true → a ≤ n) → ((n : ℕ) → q n ≡ true → b ≤ n) → k ≤ a → k ≤ b → (n : ℕ) → r n ≡ true → k ≤ n
  either_from a b k left right low high n h = elim (either (p n) (q n) (sym (is n) ∙ h)) [
    | inl x ↦ (let least = left n x in omega (arith, least, low))
    | inr y ↦ (let least = right n y in omega (arith, least, high))
  ]

  lesser_step : (a b : ℕ) → (p a ≡ true) → ((n : ℕ) → p n ≡ true → a ≤ n) → (q b ≡ true) → ((n : ℕ) → q n ≡ true → b ≤ n) → (t : Bool) → nat_lt b a ≡ t → IsFirst r (cond t (Some b) (Some a))
  lesser_step a b pa left qb right true e = let less = ltb-true b a e in (by_right b qb, either_from a b b left right (omega (arith, less)) (omega arith))
  lesser_step a b pa left qb right false e = let past = ltb-false b a e in (by_left a pa, either_from a b a left right (omega arith) past)

  never : (f : ℕ → Bool) (n : ℕ) → f n ≡ false → f n ≡ true → ⊥
  never f n fails passes = let both : true ≡ false = sym passes ∙ fails in absurd cc

  pub lesser-first : (a b : Option ℕ) → IsFirst p a → IsFirst q b → IsFirst r (lesser a b)
  lesser-first None None h k = λ n. by_none n (h n) (k n)
  lesser-first None (Some b) h k = (
    by_right b k.0,
    λ n e. elim (either (p n) (q n) (sym (is n) ∙ e)) [
      | inl x ↦ absurd (never p n (h n) x)
      | inr y ↦ k.1 n y
    ],
  )
  lesser-first (Some a) None h k = (
    by_left a h.0,
    λ n e. elim (either (p n) (q n) (sym (is n) ∙ e)) [
      | inl x ↦ h.1 n x
      | inr y ↦ absurd (never q n (k n) y)
    ],
  )
  lesser-first (Some a) (Some b) h k = lesser_step a b h.0 h.1 k.0 k.1 (nat_lt b a) refl

-- ---- one vacant port is a longest run of one

one_vacant : (uses : PortUses) (n : ℕ) → is_vacant uses n ≡ true → IsVacantRun uses 1 None n
one_vacant uses n h = record {
  vacant = λ port low high. let same : n ≡ port = omega (arith, low, high) in subst (λ (k : ℕ). is_vacant uses k ≡ true) same h;
  remainder = tt;
}

pub longest-one : (uses : PortUses) (o : Option ℕ) → IsFirst (is_vacant uses) o → IsLongest uses None 1 (option_map one_port o)
longest-one uses None h = λ n some within run. let yes_ = run.1.vacant run.0 (omega arith) (omega (arith, some)) in absurd (let both : true ≡ false = sym yes_ ∙ h run.0 in cc)
longest-one uses (Some start) h = record {
  some = omega arith;
  within = omega arith;
  vacant = one_vacant uses start h.0;
  least = λ other run. h.1 other (run.vacant other (omega arith) (omega arith));
  greatest = λ n within run. within;
}

pub one-longest : (uses : PortUses) (c : Option Picked) → IsLongest uses None 1 c → IsFirst (is_vacant uses) (option_map (λ (run : Picked). run.start) c)
one-longest uses None h = λ n. false_by (is_vacant uses n) (λ t. absurd (h 1 (omega arith) (omega arith) (n, one_vacant uses n t)))
one-longest uses (Some run) h = (
  h.vacant.vacant run.start (omega arith) (omega (arith, h.some)),
  λ other t. h.least other (let one : 1 ≡ run.count = omega (arith, h.some, h.within) in subst (λ (k : ℕ). IsVacantRun uses k None other) one (one_vacant uses other t)),
)

-- ---- what ports are used for at a moment

module _ (m : ℕ) (runs : List (Run End)) (p : Protocol) where
  each_length : (count : ℕ) → length (each_by m runs p count) ≡ count
  unfolding each_by
  each_length count = length-map-range_with_len (λ port. use_by m (end_by runs p port)) 0 count

  each_low : (count port : ℕ) → port < count → use_at (each_by m runs p count) port ≡ use_by m (end_by runs p port)
  unfolding each_by
  each_low count port h =
      get_or-map (λ n. use_by m (end_by runs p n)) (range_with_len 0 count) port 0 Free (omega (arith, h, length-range_with_len 0 count))
      ∙ ap (λ n. use_by m (end_by runs p n)) (get_or-range_with_len 0 count port 0 h ∙ same)
    where
      same : 0 + port ≡ port
      same = omega arith

  pub each-at : (port : ℕ) → use_at (each_by m runs p 65536) port ≡ use_by m (end_by runs p port)
  each-at port = elim (below_or_not port 65536) [
    | inl low ↦ each_low 65536 port low
    | inr high ↦ get_or_past (each_by m runs p 65536) port Free (omega (arith, high, each_length 65536)) ∙ ap (use_by m) (by_high runs p port high)
  ]

module _ (low high quota m : ℕ) (runs : List (Run End)) where
  pub uses_same : (p : Protocol) → uses_of (pool_by low high quota m runs) p ≡ uses_by low high m runs p
  uses_same Tcp = refl
  uses_same Udp = refl

  pub use_same : (p : Protocol) (port : ℕ) → use_of (pool_by low high quota m runs) p port ≡ use_by m (end_by runs p port)
  use_same p port = ap (λ (u : PortUses). use_at u.each port) (uses_same p) ∙ each-at m runs p port

  pub by-terms : (seen : ℕ) (terms : Terms) → IsOnTerms (leased low high quota seen m runs) terms → IsPoolOnTerms (pool_by low high quota m runs) terms
  by-terms seen terms h = record {
    quota = h.quota;
    low = λ p. ap (λ (u : PortUses). u.low) (uses_same p) ∙ h.low;
    high = λ p. ap (λ (u : PortUses). u.high) (uses_same p) ∙ h.high;
  }

-- ---- a phase that lags

free_now : (m : ℕ) (e : End) → is_free_use (use_in (phase_at m e.end) e) ≡ nat_le (e.end + 120) m
free_now m e = elim (below_or_not m (e.end + 120)) [
  | inl late ↦ (let no : nat_le (e.end + 120) m ≡ false = false_by (nat_le (e.end + 120) m) (λ t. absurd (omega (arith, late, leb-true (e.end + 120) m t))) in
      elim (below_or_not m e.end) [
        | inl before ↦ ap (λ (f : Phase). is_free_use (use_in f e)) (at-holds m e.end before) ∙ sym no
        | inr came ↦ ap (λ (f : Phase). is_free_use (use_in f e)) (at-rests m e.end came late) ∙ sym no
      ])
  | inr over ↦ ap (λ (f : Phase). is_free_use (use_in f e)) (at-over m e.end over) ∙ sym (le-leb (e.end + 120) m over)
]

free_lags : (m i : ℕ) (v : End) (f : Phase) → since f v.end ≤ m → (is_free_use (use_along i (use_in f v)) || nat_le (v.end + 120) m) ≡ nat_le (v.end + 120) m
free_lags m i v Holds h = refl
free_lags m i v Rests h = refl
free_lags m i v Over h = sym (le-leb (v.end + 120) m h)

-- a port is free at a moment where it is so for the pool, or where its rest is over
free_step : (m at : ℕ) (waits : FinMap nat_cmp ℕ) (o : Option (Run End)) → IfSome o (λ r. since (phase_by waits r) r.value.end ≤ m)
    → is_free_use (use_by m (end_told at o)) ≡ (is_free_use (use_told waits at o) || is_over m o)
free_step m at waits None h = refl
free_step m at waits (Some r) h = free_now m (end_along (at - r.first) r.value) ∙ sym (free_lags m (at - r.first) r.value (phase_by waits r) h)

held_lags : (m i : ℕ) (who : Address) (v : End) (f : Phase) → since f v.end ≤ m → m < v.end → same_address v.endpoint.address who ≡ true → is_held_by who (use_along i (use_in f v)) ≡ true
held_lags m i who v Holds h late same = same
held_lags m i who v Rests h late same = absurd (omega (arith, h, late))
held_lags m i who v Over h late same = absurd (omega (arith, h, late))

-- who holds a port at a moment holds it for the pool
held_step : (m at : ℕ) (who : Address) (waits : FinMap nat_cmp ℕ) (o : Option (Run End)) → IfSome o (λ r. since (phase_by waits r) r.value.end ≤ m)
    → is_held_by who (use_by m (end_told at o)) ≡ true → is_held_by who (use_told waits at o) ≡ true
held_step m at who waits None h k = absurd (let no : false ≡ true = k in cc)
held_step m at who waits (Some r) h k =
    let e = held-by m who (Some (end_along (at - r.first) r.value)) k in
    let is : end_along (at - r.first) r.value ≡ e.0 = (let told : Some (end_along (at - r.first) r.value) ≡ Some e.0 = e.1 in cc) in
    let late : m < r.value.end = (let ends : r.value.end ≡ e.0.end = ap (λ (x : End). x.end) is in omega (arith, ends, e.2)) in
    held_lags m (at - r.first) who r.value (phase_by waits r) h late (ap (λ (x : End). same_address x.endpoint.address who) is ∙ e.3)

-- whoever holds a port for the pool does so until later than when all was seen to
after_lags : (seen i : ℕ) (who : Address) (v : End) (f : Phase) → ((expiry : ℕ) → until f v.end ≡ Some expiry → seen < expiry) → is_held_by who (use_along i (use_in f v)) ≡ true
    → (nat_lt seen v.end && same_address v.endpoint.address who) ≡ true
after_lags seen i who v Holds late h = and_from _ _ (lt-ltb seen v.end (late v.end refl)) h
after_lags seen i who v Rests late h = absurd (let no : false ≡ true = h in cc)
after_lags seen i who v Over late h = absurd (let no : false ≡ true = h in cc)

after_step : (seen at : ℕ) (who : Address) (waits : FinMap nat_cmp ℕ) (o : Option (Run End)) → IfSome o (λ r. (expiry : ℕ) → until (phase_by waits r) r.value.end ≡ Some expiry → seen < expiry)
    → is_held_by who (use_told waits at o) ≡ true → is_held_after seen who (end_told at o) ≡ true
after_step seen at who waits None h k = absurd (let no : false ≡ true = k in cc)
after_step seen at who waits (Some r) h k = after_lags seen (at - r.first) who r.value (phase_by waits r) h k

-- ---- how many ports an address holds

count_none : (f : ℕ → Bool) → count_below f zero ≡ 0
unfolding count_below
count_none f = refl

count_one : (f : ℕ → Bool) → count_below f (suc zero) ≡ cond {A = ℕ} (f zero) 1 0
unfolding count_below
count_one f = omega arith

count_first : (f : ℕ → Bool) (n : ℕ) → count_below f (suc n) ≡ cond {A = ℕ} (f zero) 1 0 + count_below (λ i. f (suc i)) n
count_first f n =
    let whole : count_below f (suc n) ≡ count_below f (suc zero + n) = (let same : suc n ≡ suc zero + n = omega arith in ap (count_below f) same) in
    let split = count-split f (suc zero) n in
    let behind = count-same (λ i. f (suc zero + i)) (λ i. f (suc i)) n (λ i less. let same : suc zero + i ≡ suc i = omega arith in ap f same) in
    let here = count_one f in
    omega (arith, whole, split, behind, here)

count-uses : (p : Use → Bool) (us : List Use) → count_by p us ≡ count_below (λ i. p (use_at us i)) (length us)
count-uses p [] = sym (count_none (λ i. p (use_at [] i)))
count-uses p (u ∷ us) =
    let first : count_by p (u ∷ us) ≡ cond {A = ℕ} (p u) 1 0 + count_by p us = sum_by-cons (λ (y : Use). cond (p y) 1 0) u us in
    let rest = count-uses p us in
    let all = count_first (λ i. p (use_at (u ∷ us) i)) (length us) in
    omega (arith, first, rest, all)

module _ (low high quota m : ℕ) (runs : List (Run End)) (pool : Holdings) (waits : FinMap nat_cmp ℕ)
    (is : AreInStep runs pool waits) (on : IsOn pool low high quota) (begun : HaveBegun m runs waits) where
  begun_of : (p : Protocol) (port : ℕ) → IfSome (port_run runs p port) (λ r. since (phase_by waits r) r.value.end ≤ m)
  begun_of p port = by (nat_lt port 65536)
    where
      by : (b : Bool) → IfSome (cond b (run_at runs (spot p port)) None) (λ r. since (phase_by waits r) r.value.end ≤ m)
      by true = begun (spot p port)
      by false = tt

  pub in_range_same : (p : Protocol) (port : ℕ) → is_in_range (uses_of pool p).low (uses_of pool p).high port ≡ is_in_range low high port
  in_range_same Tcp port = ap (λ (n : ℕ). is_in_range n pool.tcp.high port) on.tcp_low ∙ ap (λ (n : ℕ). is_in_range low n port) on.tcp_high
  in_range_same Udp port = ap (λ (n : ℕ). is_in_range n pool.udp.high port) on.udp_low ∙ ap (λ (n : ℕ). is_in_range low n port) on.udp_high

  either_way : (a b c : Bool) → (a && (b || c)) ≡ ((a && b) || (a && c))
  either_way true b c = refl
  either_way false b c = refl

  -- a port is vacant at the moment where the pool knows it, or where its rest is over
  pub vacant-now : (p : Protocol) (port : ℕ) → is_vacant (uses_by low high m runs p) port ≡ (is_vacant (uses_of pool p) port || (is_in_range low high port && is_over m (port_run runs p port)))
  vacant-now p port =
      ap (λ (u : Use). is_in_range low high port && is_free_use u) (each-at m runs p port)
      ∙ ap (λ (t : Bool). is_in_range low high port && t) (free_step m (spot p port) waits (port_run runs p port) (begun_of p port))
      ∙ either_way (is_in_range low high port) (is_free_use (use_told waits (spot p port) (port_run runs p port))) (is_over m (port_run runs p port))
      ∙ ap (λ (t : Bool). (t && is_free_use (use_told waits (spot p port) (port_run runs p port))) || (is_in_range low high port && is_over m (port_run runs p port))) (sym (in_range_same p port))
      ∙ ap (λ (u : Use). (is_in_range (uses_of pool p).low (uses_of pool p).high port && is_free_use u) || (is_in_range low high port && is_over m (port_run runs p port))) (sym (is.used p port))

  -- a run that has a port waits at that port or one below it
  begins_below : (p : Protocol) (port : ℕ) (r : Run End) → run_at runs (spot p port) ≡ Some r → port < 65536 → (q : ℕ) × (q ≤ port) × (r.first ≡ spot p q)
  begins_below p port r there low =
      let set = if-some IsSet (run_at runs (spot p port)) r there (is.scheduled.set (spot p port)) in
      let has : (same_protocol r.value.endpoint.protocol p && is_in_run r.value.external r.count port) ≡ true =
      sym (in_spots r set p port low) ∙ run_has runs is.scheduled.apart (spot p port) r there in
      let both = and_parts (same_protocol r.value.endpoint.protocol p) (is_in_run r.value.external r.count port) has in
      let same : r.value.endpoint.protocol ≡ p = (same_protocol-Decides r.value.endpoint.protocol p).0 both.0 in
      (r.value.external, in_from r.value.external r.count port both.1, set.first ∙ ap (λ (q : Protocol). spot q r.value.external) same)

  over_phase : (end : ℕ) (f : Phase) → end + 120 ≤ m → ((expiry : ℕ) → until f end ≡ Some expiry → m < expiry) → f ≡ Over
  over_phase end Holds over late = let less = late end refl in absurd (omega (arith, less, over))
  over_phase end Rests over late = let less = late (end + 120) refl in absurd (omega (arith, less, over))
  over_phase end Over over late = refl

  abbrev NoneUpTo : Protocol → ℕ → Type 0
  NoneUpTo p port = (q expiry : ℕ) → q ≤ port → get waits (spot p q) ≡ Some expiry → m < expiry

  over_free : (p : Protocol) (port : ℕ) → port < 65536 → NoneUpTo p port → (r : Run End) → port_run runs p port ≡ Some r → is_over m (Some r) ≡ true → is_free_use (use_of pool p port) ≡ true
  over_free p port low none r there over =
      let at : run_at runs (spot p port) ≡ Some r = sym (run_of_low runs p port low) ∙ there in
      let below = begins_below p port r at low in
      let phase : phase_by waits r ≡ Over = over_phase r.value.end (phase_by waits r) (leb-true (r.value.end + 120) m over)
      (λ expiry h. none below.0 expiry below.1 (ap (get waits) (sym below.2) ∙ run_waits runs waits is.scheduled (spot p port) r at ∙ h)) in
      ap is_free_use (is.used p port ∙ ap (use_told waits (spot p port)) there ∙ ap (λ (f : Phase). use_along (spot p port - r.first) (use_in f r.value)) phase)

  left_alone : (x r over : Bool) → (over ≡ true → x ≡ r) → (x || (r && over)) ≡ x
  left_alone true r over h = refl
  left_alone false r true h = let same : false ≡ r = h refl in ap (λ (t : Bool). t && true) (sym same)
  left_alone false true false h = refl
  left_alone false false false h = refl

  none_over : (p : Protocol) (port : ℕ) → NoneUpTo p port → (o : Option (Run End)) → port_run runs p port ≡ o → is_over m o ≡ true → is_free_use (use_of pool p port) ≡ true
  none_over p port none None there over = absurd (let no : false ≡ true = over in cc)
  none_over p port none (Some r) there over = elim (below_or_not port 65536) [
    | inl low ↦ over_free p port low none r there over
    | inr high ↦ absurd (let no : None ≡ Some r = sym (run_of_high runs p port high) ∙ there in cc)
  ]

  -- where none is due that begins up to a port, the pool knows whether the port is vacant
  pub vacant-known : (p : Protocol) (port : ℕ) → NoneUpTo p port → is_vacant (uses_by low high m runs p) port ≡ is_vacant (uses_of pool p) port
  vacant-known p port none =
      vacant-now p port ∙ left_alone (is_vacant (uses_of pool p) port) (is_in_range low high port) (is_over m (port_run runs p port)) (λ over.
      ap (λ (t : Bool). is_in_range (uses_of pool p).low (uses_of pool p).high port && t) (none_over p port none (port_run runs p port) refl over)
      ∙ and_true (is_in_range (uses_of pool p).low (uses_of pool p).high port) ∙ in_range_same p port)
    where
      and_true : (b : Bool) → (b && true) ≡ b
      and_true true = refl
      and_true false = refl

  -- the first vacant port, of which the pool or the ends know
  pub first-vacant : (p : Protocol) (known : Option Picked) (over : Option ℕ) → IsLongest (uses_of pool p) None 1 known → IsFirst (λ port. is_in_range low high port && is_over m (port_run runs p port)) over
      → IsLongest (uses_by low high m runs p) None 1 (option_map one_port (lesser (option_map (λ (run : Picked). run.start) known) over))
  first-vacant p known over first rested =
      longest-one (uses_by low high m runs p) (lesser (option_map (λ (run : Picked). run.start) known) over)
      (lesser-first (is_vacant (uses_of pool p)) (λ port. is_in_range low high port && is_over m (port_run runs p port)) (is_vacant (uses_by low high m runs p)) (vacant-now p)
      (option_map (λ (run : Picked). run.start) known) over (one-longest (uses_of pool p) known first) rested)

  held_fewer : (who : Address) (p : Protocol) (each : List Use) → length each ≡ 65536 → ((port : ℕ) → use_at each port ≡ use_told waits (spot p port) (port_run runs p port))
      → count_by (is_held_by who) (each_by m runs p 65536) ≤ count_by (is_held_by who) each
  held_fewer who p each whole used =
      let now = count-uses (is_held_by who) (each_by m runs p 65536) ∙ ap (count_below (λ i. is_held_by who (use_at (each_by m runs p 65536) i))) (each_length m runs p 65536) in
      let then_ = count-uses (is_held_by who) each ∙ ap (count_below (λ i. is_held_by who (use_at each i))) whole in
      let fewer = count-some (λ i. is_held_by who (use_at each i)) (λ i. is_held_by who (use_at (each_by m runs p 65536) i)) 65536 (λ i less h.
      ap (is_held_by who) (used i) ∙ held_step m (spot p i) who waits (port_run runs p i) (begun_of p i) (ap (is_held_by who) (sym (each-at m runs p i)) ∙ h)) in
      omega (arith, now, then_, fewer)

  -- at the moment no more ports are held than for the pool
  pub held-now : (who : Address) → ports_held (pool_by low high quota m runs) who ≤ ports_held pool who
  held-now who =
      let tcp = held_fewer who Tcp pool.tcp.each is.whole.tcp (is.used Tcp) in
      let udp = held_fewer who Udp pool.udp.each is.whole.udp (is.used Udp) in
      omega (arith, tcp, udp)

  -- and as many where all is seen to
  held_equal : AreSettled m runs waits → (who : Address) (p : Protocol) (each : List Use) → length each ≡ 65536 → ((port : ℕ) → use_at each port ≡ use_of pool p port)
      → count_by (is_held_by who) (each_by m runs p 65536) ≡ count_by (is_held_by who) each
  held_equal settled who p each whole same =
      let now = count-uses (is_held_by who) (each_by m runs p 65536) ∙ ap (count_below (λ i. is_held_by who (use_at (each_by m runs p 65536) i))) (each_length m runs p 65536) in
      let then_ = count-uses (is_held_by who) each ∙ ap (count_below (λ i. is_held_by who (use_at each i))) whole in
      let one = count-same (λ i. is_held_by who (use_at (each_by m runs p 65536) i)) (λ i. is_held_by who (use_at each i)) 65536 (λ i less.
      ap (is_held_by who) (each-at m runs p i ∙ sym (used_by m runs pool waits is settled p i) ∙ sym (same i))) in
      omega (arith, now, then_, one)

  pub held-settled : AreSettled m runs waits → (who : Address) → ports_held (pool_by low high quota m runs) who ≡ ports_held pool who
  held-settled settled who =
      let tcp = held_equal settled who Tcp pool.tcp.each is.whole.tcp (λ port. refl) in
      let udp = held_equal settled who Udp pool.udp.each is.whole.udp (λ port. refl) in
      omega (arith, tcp, udp)

  module _ (seen : ℕ) (late : NoneDue seen waits) where
    abbrev view : Leased
    view = leased low high quota seen m runs

    held_of : (who : Address) (p : Protocol) (each : List Use) → length each ≡ 65536 → ((port : ℕ) → use_at each port ≡ use_told waits (spot p port) (port_run runs p port))
        → count_by (is_held_by who) each ≤ count_below (λ port. is_held_after seen who (end_of view p port)) 65536
    held_of who p each whole used =
        let then_ = count-uses (is_held_by who) each ∙ ap (count_below (λ i. is_held_by who (use_at each i))) whole in
        let some = count-some (λ port. is_held_after seen who (end_of view p port)) (λ i. is_held_by who (use_at each i)) 65536 (λ i less h.
        after_step seen (spot p i) who waits (port_run runs p i) (waits_of i) (sym (ap (is_held_by who) (used i)) ∙ h)) in
        omega (arith, then_, some)
      where
        waits_of : (i : ℕ) → IfSome (port_run runs p i) (λ r. (expiry : ℕ) → until (phase_by waits r) r.value.end ≡ Some expiry → seen < expiry)
        waits_of i = by (nat_lt i 65536)
          where
            by : (b : Bool) → IfSome (cond b (run_at runs (spot p i)) None) (λ r. (expiry : ℕ) → until (phase_by waits r) r.value.end ≡ Some expiry → seen < expiry)
            by false = tt
            by true = some-if (λ (r : Run End). (expiry : ℕ) → until (phase_by waits r) r.value.end ≡ Some expiry → seen < expiry) (run_at runs (spot p i)) (λ r there expiry h. late r.first expiry (run_waits runs waits is.scheduled (spot p i) r there ∙ h))

    -- and for the pool no more than were held when all was seen to, or since
    pub held-since : (who : Address) → ports_held pool who ≤ held_since view who
    held-since who =
        let tcp = held_of who Tcp pool.tcp.each is.whole.tcp (is.used Tcp) in
        let udp = held_of who Udp pool.udp.each is.whole.udp (is.used Udp) in
        omega (arith, tcp, udp)

-- ---- what is answered by last ends

abbrev pool_now : Leased → Holdings
pool_now v = pool_by v.low v.high v.quota v.reached v.runs

-- an address holds what it owns
held-owned : (v : Leased) (who : Address) (s : State) → IsReached s → IsPortsOf v s → held_now v who ≡ owned s.table v.reached who
held-owned v who s reached ports =
    ports_held-owned (pool_now v) s v.reached who
    (used_pool v.low v.high v.quota v.settled v.reached v.runs (pool_now v) (λ p port. use_same v.low v.high v.quota v.reached v.runs p port) s reached (record { passed = ports.passed; same = ports.same }))

pub below-quota : (v : Leased) (who : Address) → held_now v who < v.quota → (terms : Terms) (s : State) → IsReached s → IsPortsOf v s → IsOnTerms v terms
    → false ≡ nat_le terms.quota (owned s.table v.reached who)
below-quota v who below terms s reached ports on =
    let owns = held-owned v who s reached ports in
    sym (lt-leb terms.quota (owned s.table v.reached who) (omega (arith, owns, below, on.quota)))

pub at-quota : (v : Leased) (who : Address) → v.quota ≤ held_now v who → (terms : Terms) (s : State) → IsReached s → IsPortsOf v s → IsOnTerms v terms
    → true ≡ nat_le terms.quota (owned s.table v.reached who)
at-quota v who full terms s reached ports on =
    let owns = held-owned v who s reached ports in
    sym (le-leb terms.quota (owned s.table v.reached who) (omega (arith, owns, full, on.quota)))

module _ (v : Leased) (e : Endpoint) (ask : PickAsk) (internal : ask.internal ≡ e.port) where
  answered : (answer : Result Picked PickRefused) → IsPickAnswer (pool_now v) e.address e.protocol ask answer → (terms : Terms) (s : State) → IsReached s → IsPortsOf v s → IsOnTerms v terms → IsAsk ask
      → answer ≡ pick_answer terms s v.reached e ask
  answered answer is terms s reached ports of_terms asks =
      picks-state (pool_now v) terms s v.reached e ask answer
      (used_pool v.low v.high v.quota v.settled v.reached v.runs (pool_now v) (λ p port. use_same v.low v.high v.quota v.reached v.runs p port) s reached (record { passed = ports.passed; same = ports.same }))
      (by-terms v.low v.high v.quota v.reached v.runs v.settled terms (record { low = of_terms.low; high = of_terms.high; quota = of_terms.quota })) asks internal is

  -- an address that has its quota is refused
  pub refused-now : (owned : ℕ) → owned ≡ held_now v e.address → v.quota ≤ owned → (terms : Terms) (s : State) → IsReached s → IsPortsOf v s → IsOnTerms v terms → IsAsk ask
      → Err (Quota owned) ≡ pick_answer terms s v.reached e ask
  refused-now owned same full =
      answered (Err (Quota owned)) (record {
        quota = λ more. ap (λ (n : ℕ). Err (Quota n)) same;
        pick = λ below. absurd (omega (arith, same, full, below));
      })

  -- another one gets the pick with the room that the quota leaves
  pub picked-now : (room : ℕ) (choice : Option Picked) → held_now v e.address < v.quota → room ≡ min ask.room (v.quota - held_now v e.address)
      → IsPick (uses_now v e.protocol) e.address e.port ask.suggested ask.parity room choice
      → (terms : Terms) (s : State) → IsReached s → IsPortsOf v s → IsOnTerms v terms → IsAsk ask → answer_to ask choice ≡ pick_answer terms s v.reached e ask
  picked-now room choice below fits is_pick =
      answered (answer_to ask choice) (record {
        quota = λ full. absurd (omega (arith, full, below));
        pick = λ less. record {
          choice = choice;
          is_pick = subst (λ (u : PortUses). IsPick u e.address ask.internal ask.suggested ask.parity (min ask.room (v.quota - held_now v e.address)) choice) (sym (uses_same v.low v.high v.quota v.reached v.runs e.protocol))
              (subst (λ (n : ℕ). IsPick (uses_now v e.protocol) e.address n ask.suggested ask.parity (min ask.room (v.quota - held_now v e.address)) choice) (sym internal)
              (subst (λ (n : ℕ). IsPick (uses_now v e.protocol) e.address e.port ask.suggested ask.parity n choice) fits is_pick));
          is_answer = refl;
        };
      })

-- what is answered tells the choice
pub answer-ok : (ask : PickAsk) (choice : Option Picked) (P : Picked → Type 0) → IfSome choice P → IfOk (answer_to ask choice) P
answer-ok ask None P h = by (ask.must && true)
  where
    by : (b : Bool) → IfOk (cond {A = Result Picked PickRefused} b (Err CannotProvide) (Err NoPort)) P
    by true = tt
    by false = tt
answer-ok ask (Some run) P h = by (ask.must && not (is_as_asked ask (Some run)))
  where
    by : (b : Bool) → IfOk (cond {A = Result Picked PickRefused} b (Err CannotProvide) (Ok run)) P
    by true = tt
    by false = h
