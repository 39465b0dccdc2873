use Rattle.std.proofs.Common.{◌≡◌, ℕ, ◌<◌, ◌≤◌, true, Option, None, Some, List, length, IfSome, IfNone, sym, ap, subst, arith, ◌∙◌, inl, inr}
use Rattle.std.specs.Ordering.{nat_cmp}
use Rattle.std.specs.FinMap.{FinMap, get}
use Rattle.std.proofs.lemmas.Option.{slice_get_within}
use Rattle.std.proofs.lemmas.Grind.{common_steps}
use Rattle.expiry_wheel.specs.declared.pair.Pair.{Pair}
use Rattle.expiry_wheel.specs.Due.{IsFirstDue}
use Rattle.expiry_wheel.specs.Firsts.{AllFrom, HasDue, is_due_from}
use Rattle.expiry_wheel.specs.Pairs.{expiries_of, expiry_in, IdsDiffer}
use Rattle.expiry_wheel.proofs.Maps.{below_or_not}
use Rattle.expiry_wheel.proofs.Pairs.{at-expiry_in, expiry_in-at, get-expiries_of}
use Rattle.expiry_wheel.proofs.plain.PlainWheel.first_due.Goals as goal

-- what the test says
due_told : (from m : ℕ) (p : Pair) → is_due_from from m p ≡ true → (from ≤ p.id) × (p.expiry ≤ m)
due_told from m p due = grind (arith, common_steps)

told_due : (from m : ℕ) (p : Pair) → from ≤ p.id → p.expiry ≤ m → is_due_from from m p ≡ true
told_due from m p after due = grind (arith, common_steps)

-- the least id of the list is the first of its map
first_of : (pairs : List Pair) (view : FinMap nat_cmp ℕ) (from m : ℕ) (best : Option ℕ) → IdsDiffer pairs → expiries_of pairs ≡ view → IfSome best (λ (id : ℕ). HasDue pairs from m id) → AllFrom pairs from m best (length pairs) → IfSome best (IsFirstDue view from m)
first_of pairs view from m None differ seen found first = tt
first_of pairs view from m (Some id) differ seen found first =
    let p = found.pair in
    let told = due_told from m p found.due in
    record {
      expiry = p.expiry;
      expires = sym (ap (λ (v : FinMap nat_cmp ℕ). get v id) seen) ∙ get-expiries_of pairs id ∙ subst (λ (n : ℕ). expiry_in pairs n ≡ Some p.expiry) found.is (expiry_in-at pairs found.place p differ found.stands);
      due = told.1;
      from_on = omega (arith, told.0, found.is);
      first = λ other e there due after. let place = at-expiry_in pairs other e (sym (get-expiries_of pairs other) ∙ ap (λ (v : FinMap nat_cmp ℕ). get v other) seen ∙ there) in first place.0 (record { expiry = e; id = other }) (slice_get_within pairs place.0 _ place.1) place.1 (told_due from m (record { expiry = e; id = other }) after due);
    }

none_at : (pairs : List Pair) (view : FinMap nat_cmp ℕ) (from m : ℕ) → expiries_of pairs ≡ view → AllFrom pairs from m None (length pairs) → (id e : ℕ) → get view id ≡ Some e → from ≤ id → m < e
none_at pairs view from m seen first id e there after = elim (below_or_not m e) [
  | inl later ↦ later
  | inr due ↦
      let place = at-expiry_in pairs id e (sym (get-expiries_of pairs id) ∙ ap (λ (v : FinMap nat_cmp ℕ). get v id) seen ∙ there) in
      absurd (first place.0 (record { expiry = e; id = id }) (slice_get_within pairs place.0 _ place.1) place.1 (told_due from m (record { expiry = e; id = id }) after due))
]

none_of : (pairs : List Pair) (view : FinMap nat_cmp ℕ) (from m : ℕ) (best : Option ℕ) → expiries_of pairs ≡ view → AllFrom pairs from m best (length pairs) → IfNone best ((id e : ℕ) → get view id ≡ Some e → from ≤ id → m < e)
none_of pairs view from m None seen first = none_at pairs view from m seen first
none_of pairs view from m (Some best) seen first = tt

pub returns-clause-first : goal.returns-clause-first
returns-clause-first c =
    first_of c.self.inside.pairs.items c.args.self.now c.args.from c.args.m c.first_due.result c.self.invariant c.self.view_is
    (subst (λ (d : List Pair). IfSome c.first_due.result (λ (id : ℕ). HasDue d c.args.from c.args.m id)) c.deref.ensures.value c.first_due.ensures.found)
    (subst (λ (d : List Pair). AllFrom d c.args.from c.args.m c.first_due.result (length d)) c.deref.ensures.value c.first_due.ensures.first)

pub returns-clause-none : goal.returns-clause-none
returns-clause-none c =
    none_of c.self.inside.pairs.items c.args.self.now c.args.from c.args.m c.first_due.result c.self.view_is
    (subst (λ (d : List Pair). AllFrom d c.args.from c.args.m c.first_due.result (length d)) c.deref.ensures.value c.first_due.ensures.first)
