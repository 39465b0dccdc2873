-- How many runs there are among places, before and after one is parted or taken out.
use Rattle.std.specs.Prelude.{◌≢◌}
use Rattle.std.proofs.Common.{◌≡◌, ℕ, zero, suc, ◌+◌, ◌-◌, ◌<◌, ◌≤◌, ◌&&◌, ◌==◌, nat_lt, Bool, true, false, cond, List, Option, Some, None, is_some, refl, sym, ap, ◌∙◌, arith}
use Rattle.std.specs.Option.{option_map}
use Rattle.std.proofs.lemmas.Bool.{ltb-true, ltb-false, eqb-true, eq-eqb}
use Rattle.pcp_base.specs.declared.leases.End.{End}
use Rattle.ordered_index.proofs.Entries.{false_by}
use Rattle.port_spans.proofs.RunLemmas.{in_to}
use Rattle.port_spans.specs.declared.runs.Run.{Run}
use Rattle.port_spans.specs.Runs.{has_place, run_at, part_at, but_from, with_value}
use Rattle.port_spans.specs.Along.{end_told}
use Rattle.leased_ports.specs.Among.{starts_at, starts_among, runs_among}
use Rattle.leased_ports.proofs.CountLemmas.{one, one_le}

starts-zero : (runs : List (Run End)) (at : ℕ) → starts_among runs at 0 ≡ 0
unfolding starts_among
starts-zero runs at = refl

starts-suc : (runs : List (Run End)) (at n : ℕ) → starts_among runs at (suc n) ≡ one (starts_at at (run_at runs at)) + starts_among runs (at + 1) n
unfolding starts_among
starts-suc runs at n = refl

-- where runs begin at no more places there are no more of them
starts-fewer : (old new : List (Run End)) (at n : ℕ) → ((s : ℕ) → at ≤ s → s < at + n → starts_at s (run_at new s) ≡ true → starts_at s (run_at old s) ≡ true) → starts_among new at n ≤ starts_among old at n
starts-fewer old new at zero h = omega (arith, starts-zero old at, starts-zero new at)
starts-fewer old new at (suc n) h =
    let here = one_le (starts_at at (run_at new at)) (starts_at at (run_at old at)) (h at (omega arith) (omega arith)) in
    let rest = starts-fewer old new (at + 1) n (λ s a b. h s (omega (arith, a)) (omega (arith, b))) in
    omega (arith, here, rest, starts-suc old at n, starts-suc new at n)

starts-same : (old new : List (Run End)) (at n : ℕ) → ((s : ℕ) → at ≤ s → starts_at s (run_at new s) ≡ starts_at s (run_at old s)) → starts_among new at n ≡ starts_among old at n
starts-same old new at zero h = starts-zero new at ∙ sym (starts-zero old at)
starts-same old new at (suc n) h =
    let here : one (starts_at at (run_at new at)) ≡ one (starts_at at (run_at old at)) = ap one (h at (omega arith)) in
    let rest = starts-same old new (at + 1) n (λ s a. h s (omega (arith, a))) in
    omega (arith, here, rest, starts-suc old at n, starts-suc new at n)

-- where the first place has a run as before, and behind it runs begin where they did, there are as
-- many
pub among-same : (old new : List (Run End)) (at n : ℕ) → is_some (run_at new at) ≡ is_some (run_at old at) → ((s : ℕ) → at < s → starts_at s (run_at new s) ≡ starts_at s (run_at old s)) → runs_among new at n ≡ runs_among old at n
among-same old new at zero some behind = refl
among-same old new at (suc n) some behind =
    let here : one (is_some (run_at new at)) ≡ one (is_some (run_at old at)) = ap one some in
    let rest : starts_among new (at + 1) n ≡ starts_among old (at + 1) n = starts-same old new (at + 1) n (λ s a. behind s (omega (arith, a))) in
    omega (arith, here, rest)

-- of fewer places
starts-behind : (runs : List (Run End)) (at k n : ℕ) → starts_among runs (at + k) n ≤ starts_among runs at (k + n)
starts-behind runs at zero n =
    let here : at + 0 ≡ at = omega arith in
    let whole : 0 + n ≡ n = omega arith in
    omega (arith, ap (λ (a : ℕ). starts_among runs a n) here, ap (starts_among runs at) whole)
starts-behind runs at (suc k) n =
    let here : at + suc k ≡ (at + 1) + k = omega arith in
    let whole : suc k + n ≡ suc (k + n) = omega arith in
    omega (arith, starts-behind runs (at + 1) k n, ap (λ (a : ℕ). starts_among runs a n) here, ap (starts_among runs at) whole, starts-suc runs at (k + n))

-- ---- a run that is taken out

but-starts : (s first : ℕ) (o : Option (Run End)) → starts_at s (but_from first o) ≡ true → starts_at s o ≡ true
but-starts s first None h = h
but-starts s first (Some r) h = by (r.first == first) h
  where
    by : (b : Bool) → starts_at s (cond b None (Some r)) ≡ true → (r.first == s) ≡ true
    by true h = absurd (let no : false ≡ true = h in cc)
    by false h = h

pub taken-fewer : (old new : List (Run End)) (at to : ℕ) (r : Run End) → run_at old r.first ≡ Some r → at ≤ r.first → 1 ≤ r.count → r.first + r.count ≤ to → ((s : ℕ) → run_at new s ≡ but_from r.first (run_at old s))
    → starts_among new (r.first + r.count) (to - (r.first + r.count)) + 1 ≤ starts_among old at (to - at)
taken-fewer old new at to r there from some within left =
    let m : ℕ = to - (r.first + r.count) in
    let k : ℕ = r.first - at in
    let j : ℕ = r.count - 1 in
    let starts : starts_at r.first (run_at old r.first) ≡ true = ap (starts_at r.first) there ∙ eq-eqb r.first r.first refl in
    let own : one (starts_at r.first (run_at old r.first)) ≡ 1 = ap one starts in
    let fewer : starts_among new (r.first + r.count) m ≤ starts_among old (r.first + r.count) m = starts-fewer old new (r.first + r.count) m (λ s a b h. but-starts s r.first (run_at old s) (sym (ap (starts_at s) (left s)) ∙ h)) in
    let next : (r.first + 1) + j ≡ r.first + r.count = omega (arith, some) in
    let behind : starts_among old ((r.first + 1) + j) m ≤ starts_among old (r.first + 1) (j + m) = starts-behind old (r.first + 1) j m in
    let same : starts_among old ((r.first + 1) + j) m ≡ starts_among old (r.first + r.count) m = ap (λ (a : ℕ). starts_among old a m) next in
    let first : at + k ≡ r.first = omega (arith, from) in
    let all : k + suc (j + m) ≡ to - at = omega (arith, from, some, within) in
    let before : starts_among old (at + k) (suc (j + m)) ≤ starts_among old at (k + suc (j + m)) = starts-behind old at k (suc (j + m)) in
    let there_too : starts_among old (at + k) (suc (j + m)) ≡ starts_among old r.first (suc (j + m)) = ap (λ (a : ℕ). starts_among old a (suc (j + m))) first in
    let whole : starts_among old at (k + suc (j + m)) ≡ starts_among old at (to - at) = ap (starts_among old at) all in
    let one_more : starts_among old r.first (suc (j + m)) ≡ one (starts_at r.first (run_at old r.first)) + starts_among old (r.first + 1) (j + m) = starts-suc old r.first (j + m) in
    omega (arith, own, fewer, behind, same, before, there_too, whole, one_more)

-- ---- a run that comes, or gets another value

value-starts : (place s : ℕ) (v : End) (o : Option (Run End)) → starts_at s (option_map (with_value place v) o) ≡ starts_at s o
value-starts place s v None = refl
value-starts place s v (Some q) = step (q.first == place)
  where
    step : (b : Bool) → starts_at s (Some (cond b (record q { value = v }) q)) ≡ starts_at s (Some q)
    step true = refl
    step false = refl

value-some : (place : ℕ) (v : End) (o : Option (Run End)) → is_some (option_map (with_value place v) o) ≡ is_some o
value-some place v None = refl
value-some place v (Some q) = refl

pub renewed-among : (old new : List (Run End)) (first : ℕ) (v : End) → ((s : ℕ) → run_at new s ≡ option_map (with_value first v) (run_at old s)) → (at n : ℕ) → runs_among new at n ≡ runs_among old at n
renewed-among old new first v changed at n =
    among-same old new at n (ap is_some (changed at) ∙ value-some first v (run_at old at)) (λ s past. ap (starts_at s) (changed s) ∙ value-starts first s v (run_at old s))

pub inserted-behind : (old new : List (Run End)) (r : Run End) → ((s : ℕ) → run_at new s ≡ cond (has_place s r) (Some r) (run_at old s)) → (n : ℕ) → runs_among new (r.first + r.count) n ≡ runs_among old (r.first + r.count) n
inserted-behind old new r changed n = among-same old new (r.first + r.count) n (ap is_some (same (r.first + r.count) (omega arith))) (λ s past. ap (starts_at s) (same s (omega (arith, past))))
  where
    same : (s : ℕ) → r.first + r.count ≤ s → run_at new s ≡ run_at old s
    same s past = changed s ∙ ap (λ (b : Bool). cond b (Some r) (run_at old s)) (false_by (has_place s r) (λ t. absurd (omega (arith, past, in_to r.first r.count s t))))

-- ---- a run that is parted

-- at another place a run begins where one began
pub part-starts : (place s : ℕ) (v : End) (o : Option (Run End)) → s ≢ place → starts_at s (option_map (with_value place v) (option_map (part_at place s) o)) ≡ starts_at s o
part-starts place s v None other = refl
part-starts place s v (Some r) other = value-starts place s v (Some (part_at place s r)) ∙ by (nat_lt r.first place) refl (has_place place r) (nat_lt s place) refl
  where
    by : (a : Bool) → nat_lt r.first place ≡ a → (p b : Bool) → nat_lt s place ≡ b
        → starts_at s (Some (cond (a && p) (cond b (record { first = r.first; count = place - r.first; value = r.value }) (record { first = place; count = r.first + r.count - place; value = r.value })) r)) ≡ starts_at s (Some r)
    by false h p b k = refl
    by true h false b k = refl
    by true h true true k = refl
    by true h true false k =
        false_by (place == s) (λ t. absurd (other (sym (eqb-true place s t))))
        ∙ sym (false_by (r.first == s) (λ t. absurd (omega (arith, eqb-true r.first s t, ltb-true r.first place h, ltb-false s place k))))

told-some : (s : ℕ) (o : Option (Run End)) → is_some (end_told s o) ≡ is_some o
told-some s None = refl
told-some s (Some r) = refl

some-as : (s : ℕ) (o p : Option (Run End)) → end_told s o ≡ end_told s p → is_some o ≡ is_some p
some-as s o p told = sym (told-some s o) ∙ ap is_some told ∙ told-some s p

starts-some : (s : ℕ) (o : Option (Run End)) → starts_at s o ≡ true → is_some o ≡ true
starts-some s None h = h
starts-some s (Some r) h = refl

-- Where runs are parted so that one begins at the first of n places, and one behind the last, those
-- that begin there are those that had one of these places.
pub parted-among : (old mid new : List (Run End)) (from n : ℕ) → ((s : ℕ) → s ≢ from → starts_at s (run_at mid s) ≡ starts_at s (run_at old s)) → end_told from (run_at mid from) ≡ end_told from (run_at old from)
    → ((s : ℕ) → s ≢ from + n → starts_at s (run_at new s) ≡ starts_at s (run_at mid s)) → starts_among new from n ≤ runs_among old from n
parted-among old mid new from zero first told second = omega (arith, starts-zero new from)
parted-among old mid new from (suc n) first told second =
    let some : is_some (run_at mid from) ≡ is_some (run_at old from) = some-as from (run_at mid from) (run_at old from) told in
    let here : one (starts_at from (run_at new from)) ≤ one (is_some (run_at old from)) =
    one_le (starts_at from (run_at new from)) (is_some (run_at old from)) (λ h. sym some ∙ starts-some from (run_at mid from) (sym (second from (λ e. absurd (omega (arith, e)))) ∙ h)) in
    let rest : starts_among new (from + 1) n ≤ starts_among old (from + 1) n =
    starts-fewer old new (from + 1) n (λ s a b h. sym (first s (λ e. absurd (omega (arith, a, e)))) ∙ sym (second s (λ e. absurd (omega (arith, b, e)))) ∙ h) in
    omega (arith, here, rest, starts-suc new from n)

-- So it is behind these places, where one is taken out of them alone.
pub parted-behind : (old mid new left : List (Run End)) (from n : ℕ) → ((s : ℕ) → s ≢ from → starts_at s (run_at mid s) ≡ starts_at s (run_at old s)) → ((s : ℕ) → end_told s (run_at mid s) ≡ end_told s (run_at old s))
    → ((s : ℕ) → s ≢ from + n → starts_at s (run_at new s) ≡ starts_at s (run_at mid s)) → ((s : ℕ) → end_told s (run_at new s) ≡ end_told s (run_at mid s))
    → ((s : ℕ) → from + n ≤ s → run_at left s ≡ run_at new s) → (k : ℕ) → runs_among left (from + n) k ≡ runs_among old (from + n) k
parted-behind old mid new left from n first told second told_too above k =
    among-same old left (from + n) k
    (ap is_some (above (from + n) (omega arith)) ∙ some-as (from + n) (run_at new (from + n)) (run_at mid (from + n)) (told_too (from + n)) ∙ some-as (from + n) (run_at mid (from + n)) (run_at old (from + n)) (told (from + n)))
    (λ s past. ap (starts_at s) (above s (omega (arith, past))) ∙ second s (λ e. absurd (omega (arith, past, e))) ∙ first s (λ e. absurd (omega (arith, past, e))))

-- ---- places in pieces

starts-split : (runs : List (Run End)) (at k n : ℕ) → starts_among runs at (k + n) ≡ starts_among runs at k + starts_among runs (at + k) n
starts-split runs at zero n =
    let here : at + 0 ≡ at = omega arith in
    let whole : 0 + n ≡ n = omega arith in
    omega (arith, starts-zero runs at, ap (λ (a : ℕ). starts_among runs a n) here, ap (starts_among runs at) whole)
starts-split runs at (suc k) n =
    let here : at + suc k ≡ (at + 1) + k = omega arith in
    let whole : suc k + n ≡ suc (k + n) = omega arith in
    omega (arith, starts-split runs (at + 1) k n, ap (λ (a : ℕ). starts_among runs a n) here, ap (starts_among runs at) whole, starts-suc runs at (k + n), starts-suc runs at k)

-- a run that is of two pieces is counted twice
pub among-split : (runs : List (Run End)) (at k n : ℕ) → runs_among runs at k + runs_among runs (at + k) n ≤ runs_among runs at (k + n) + 1
among-split runs at zero n =
    let here : at + 0 ≡ at = omega arith in
    let whole : 0 + n ≡ n = omega arith in
    omega (arith, ap (λ (a : ℕ). runs_among runs a n) here, ap (runs_among runs at) whole)
among-split runs at (suc k) zero =
    let whole : suc k + 0 ≡ suc k = omega arith in
    omega (arith, ap (runs_among runs at) whole)
among-split runs at (suc k) (suc n) =
    let place : at + suc k ≡ (at + 1) + k = omega arith in
    let next : at + suc k + 1 ≡ (at + 1) + k + 1 = omega arith in
    let whole : suc k + suc n ≡ suc (k + suc n) = omega arith in
    let here : one (is_some (run_at runs (at + suc k))) ≤ 1 = one_le (is_some (run_at runs (at + suc k))) true (λ h. refl) in
    omega (arith, here, ap (runs_among runs at) whole, starts-split runs (at + 1) k (suc n), starts-suc runs (at + 1 + k) n, ap (λ (a : ℕ). starts_among runs a n) next)

-- one place is of at most one run
pub among_one : (runs : List (Run End)) (at : ℕ) → runs_among runs at 1 ≤ 1
among_one runs at = let here : one (is_some (run_at runs at)) ≤ 1 = one_le (is_some (run_at runs at)) true (λ h. refl) in omega (arith, here, starts-zero runs (at + 1))
