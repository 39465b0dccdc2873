-- How 'each two images of the sides since the start have P' goes on.
use Rattle.std.proofs.Common.{◌≡◌, inl, inr, ℕ, List, [], ◌∷◌, ◌++◌, ◌∙◌, OnOk, Result, refl, subst}
use Rattle.std.proofs.lemmas.Result.{on_ok_weaker}
use Rattle.lease_disk.specs.declared.disks.DiskPair.{DiskPair}
use Rattle.lease_disk.specs.Moments.{LeavesOnly}
use Rattle.lease_disk.specs.Pairs.{HoldsNow, OnOneSide, Leads, PairIsQuiet, PairLeavesOnly}
use Rattle.lease_disk.proofs.CallLemmas.{weaker}

module _ {D : Type 0} (moment : D → ℕ) (left_since : D → ℕ → List ℕ → Type 0) (may_leave : D → List ℕ → Type 0) where
  leads_on : (P : List ℕ → List ℕ → Type 0) (old : DiskPair D) (first : List (DiskPair D)) (mid : DiskPair D) (second : List (DiskPair D)) (new : DiskPair D)
      → Leads moment left_since may_leave P old first mid → Leads moment left_since may_leave P mid second new → Leads moment left_since may_leave P old (first ++ second) new
  leads_on P old [] mid second new is more = subst (λ (start : DiskPair D). Leads moment left_since may_leave P start second new) is more
  leads_on P old (next ∷ first) mid second new (here, rest) more = (here, leads_on P next first mid second new rest more)

  -- one run after another
  pub pair_goes_on : (old mid new : DiskPair D) (P : List ℕ → List ℕ → Type 0) → PairLeavesOnly moment left_since may_leave old mid P → PairLeavesOnly moment left_since may_leave mid new P
      → PairLeavesOnly moment left_since may_leave old new P
  pair_goes_on old mid new P one two = record { starts = one.starts; stretches = one.stretches ++ two.stretches; lead = leads_on P old one.stretches mid two.stretches new one.lead two.lead }

  -- a run on side a alone
  pub on_a : (old new : DiskPair D) (P : List ℕ → List ℕ → Type 0) → HoldsNow may_leave P old → new.b ≡ old.b
      → LeavesOnly moment left_since old.a new.a (λ x. (y : List ℕ) → may_leave old.b y → P x y) → PairLeavesOnly moment left_since may_leave old new P
  on_a old new P here same run = record { starts = here; stretches = new ∷ []; lead = (inl (run, same), refl) }

  -- a run on side b alone
  pub on_b : (old new : DiskPair D) (P : List ℕ → List ℕ → Type 0) → HoldsNow may_leave P old → new.a ≡ old.a
      → LeavesOnly moment left_since old.b new.b (λ y. (x : List ℕ) → may_leave old.a x → P x y) → PairLeavesOnly moment left_since may_leave old new P
  on_b old new P here same run = record { starts = here; stretches = new ∷ []; lead = (inr (run, same), refl) }

  -- no call
  pub pair_started : (pair : DiskPair D) (P : List ℕ → List ℕ → Type 0) → HoldsNow may_leave P pair → PairLeavesOnly moment left_since may_leave pair pair P
  pair_started pair P here = record { starts = here; stretches = []; lead = refl }

  -- what follows from P
  weaker_side : (P Q : List ℕ → List ℕ → Type 0) → ((x y : List ℕ) → P x y → Q x y) → (old new : DiskPair D) → OnOneSide moment left_since may_leave P old new → OnOneSide moment left_since may_leave Q old new
  weaker_side P Q gives old new (inl (run, same)) = inl (weaker moment left_since old.a new.a _ _ run (λ x has y left. gives x y (has y left)), same)
  weaker_side P Q gives old new (inr (run, same)) = inr (weaker moment left_since old.b new.b _ _ run (λ y has x left. gives x y (has x left)), same)

  weaker_leads : (P Q : List ℕ → List ℕ → Type 0) → ((x y : List ℕ) → P x y → Q x y) → (old : DiskPair D) (stretches : List (DiskPair D)) (new : DiskPair D)
      → Leads moment left_since may_leave P old stretches new → Leads moment left_since may_leave Q old stretches new
  weaker_leads P Q gives old [] new is = is
  weaker_leads P Q gives old (next ∷ more) new (here, rest) = (weaker_side P Q gives old next here, weaker_leads P Q gives next more new rest)

  pub pair_weaker : (old new : DiskPair D) (P Q : List ℕ → List ℕ → Type 0) → PairLeavesOnly moment left_since may_leave old new P → ((x y : List ℕ) → P x y → Q x y)
      → PairLeavesOnly moment left_since may_leave old new Q
  pair_weaker old new P Q run gives = record { starts = λ x y left_a left_b. gives x y (run.starts x y left_a left_b); stretches = run.stretches; lead = weaker_leads P Q gives old run.stretches new run.lead }

module _ {D : Type 0} (faults : D → ℕ) (old mid new : DiskPair D) (one : PairIsQuiet faults old mid) where
  -- the counts stand still in two calls
  pub quiet_on : PairIsQuiet faults mid new → PairIsQuiet faults old new
  quiet_on two = record { still_a = two.still_a ∙ one.still_a; still_b = two.still_b ∙ one.still_b }

  -- so they do where the second one ends well
  pub quiet_then : {T E : Type 0} (result : Result T E) → OnOk result (PairIsQuiet faults mid new) → OnOk result (PairIsQuiet faults old new)
  quiet_then result = on_ok_weaker result quiet_on
