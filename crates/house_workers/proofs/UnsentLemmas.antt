-- Replies that weren't sent.
use Rattle.std.proofs.Common.{◌≡◌, ℕ, ◌+◌, ◌-◌, ◌^◌, ◌≤◌, List, [], ◌∷◌, ap, inl, inr, arith}
use Rattle.std.specs.List.{sum_by}
use Rattle.std.proofs.lemmas.List.Sums.{sum_by-append}
use Rattle.job_workers.specs.HouseCalls.{HouseCalls}
use Rattle.job_workers.specs.Sends.{HasRisenBy}
use Rattle.job_workers.specs.Works.{DoesCalls, WorkCall, WorkState, unsent_in}

risen_more : (n m a b c : ℕ) → HasRisenBy n a b → HasRisenBy m b c → b ≤ c → HasRisenBy (n + m) a c
risen_more n m a b c (inl e) (inl f) later = inl (omega (arith, e, f))
risen_more n m a b c (inl e) (inr f) later = inr f
risen_more n m a b c (inr e) f later = inr (omega (arith, e, later))

risen_same : (n m a b : ℕ) → n ≡ m → HasRisenBy n a b → HasRisenBy m a b
risen_same n m a b e (inl f) = inl (omega (arith, e, f))
risen_same n m a b e (inr f) = inr f

later_along : {P : Type 0} (house : HouseCalls P) (calls : List WorkCall) (a b : WorkState P) → DoesCalls house calls a b → a.faults ≤ b.faults
later_along {P} house [] a b does =
    let e : b.faults ≡ a.faults = ap (λ (s : WorkState P). s.faults) does in
    omega (arith, e)
later_along house (c ∷ cs) a b does =
    let first = does.1.later in
    let rest = later_along house cs does.0 b does.2 in
    omega (arith, first, rest)

pub unsent_along : {P : Type 0} (house : HouseCalls P) (calls : List WorkCall) (a b : WorkState P) → DoesCalls house calls a b
    → HasRisenBy (sum_by (λ c. unsent_in c.result) calls) a.faults b.faults
unsent_along {P} house [] a b does =
    let e : b.faults ≡ a.faults = ap (λ (s : WorkState P). s.faults) does in
    inl (omega (arith, e))
unsent_along house (c ∷ cs) a b does =
    let one : sum_by (λ (x : WorkCall). unsent_in x.result) (c ∷ []) ≡ unsent_in c.result = omega arith in
    let all = sum_by-append (λ (x : WorkCall). unsent_in x.result) (c ∷ []) cs in
    risen_same (unsent_in c.result + sum_by (λ (x : WorkCall). unsent_in x.result) cs) (sum_by (λ (x : WorkCall). unsent_in x.result) (c ∷ cs)) a.faults b.faults
    (omega (arith, one, all))
    (risen_more (unsent_in c.result) (sum_by (λ (x : WorkCall). unsent_in x.result) cs) a.faults does.0.faults b.faults
    does.1.faults (unsent_along house cs does.0 b does.2) (later_along house cs does.0 b does.2))
