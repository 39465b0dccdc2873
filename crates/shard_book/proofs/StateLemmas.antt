-- States and the records that lead to them.
use Rattle.std.proofs.Common.{◌≡◌, ℕ, Bool, true, false, List, [], ◌∷◌, ◌++◌, Option, refl, sym, ◌∙◌, ap, subst, append_assoc}
use Rattle.std.specs.Prelude.{◌||◌}
use Rattle.std.specs.List.{AllByRecursion}
use Rattle.pcp_base.specs.declared.addresses.Address.{Address}
use Rattle.pcp_base.specs.declared.records.Change.TheVariants.{Start, Mark}
use Rattle.pcp_base.specs.declared.records.Record.{Record}
use Rattle.pcp_base.specs.Apply.{apply, apply_all, is_start, state_of}
use Rattle.pcp_base.specs.Fits.{AllFit}
use Rattle.pcp_base.specs.Laws.{ReachedIsKept, SnapshotsStand}
use Rattle.pcp_base.specs.Reached.{IsReached}
use Rattle.pcp_base.specs.Records.{IsWellFormedRecord}
use Rattle.pcp_base.specs.Snapshots.{address_records, snapshot}
use Rattle.pcp_base.specs.States.{State}
use Rattle.lease_store.specs.HeldRecords.{held_records}

or-true : (b c : Bool) → c ≡ true → b || c ≡ true
or-true true c is = refl
or-true false c is = is

pub started_on : (s : State) (r : Record) → s.started ≡ true → (apply s r).started ≡ true
started_on s r is = or-true (is_start r.change) s.started is

pub started_all : (s : State) (rs : List Record) → s.started ≡ true → (apply_all s rs).started ≡ true
started_all s [] is = is
started_all s (r ∷ rs) is = started_all (apply s r) rs (started_on s r is)

pub reached_all : ReachedIsKept → (s : State) (rs : List Record) → IsReached s → AllFit s rs → IsReached (apply_all s rs)
reached_all kept s [] is fit = is
reached_all kept s (r ∷ rs) is fit = reached_all kept (apply s r) rs (kept s r is fit.0) fit.1

pub formed_all : (s : State) (rs : List Record) → AllFit s rs → AllByRecursion IsWellFormedRecord rs
formed_all s [] fit = tt
formed_all s (r ∷ rs) fit = (fit.0.formed, formed_all (apply s r) rs fit.1)

pub fit_append : (s : State) (rs qs : List Record) → AllFit s rs → AllFit (apply_all s rs) qs → AllFit s (rs ++ qs)
fit_append s [] qs one two = two
fit_append s (r ∷ rs) qs one two = (one.0, fit_append (apply s r) rs qs one.1 two)

-- states with equal snapshots are equal
pub same_snapshots : SnapshotsStand → (s t : State) → IsReached s → s.started ≡ true → IsReached t → t.started ≡ true → snapshot s ≡ snapshot t → s ≡ t
same_snapshots stand s t is_s start_s is_t start_t same =
    sym (stand s is_s start_s).1 ∙ ap state_of same ∙ (stand t is_t start_t).1

-- ---- the snapshot of a core

-- the parts of a snapshot, put one behind the other
pub snapshot_parts : (s : State) (base last : ℕ) (address : Option Address) (first start marked all : List Record)
    → base ≡ s.base → last ≡ s.last → address ≡ s.address → first ≡ []
    → start ≡ first ++ (record { moment = base; change = Start } ∷ address_records base address)
    → marked ≡ start ++ record { moment = last; change = Mark } ∷ []
    → all ≡ marked ++ held_records s
    → all ≡ snapshot s
snapshot_parts s base last address first start marked all base_is last_is address_is first_is a b c =
    let head : List Record = record { moment = s.base; change = Start } ∷ address_records s.base s.address in
    let mark : List Record = record { moment = s.last; change = Mark } ∷ [] in
    let a1 : start ≡ head = subst (λ (n : ℕ). start ≡ record { moment = n; change = Start } ∷ address_records n s.address) base_is (subst (λ (t : Option Address). start ≡ record { moment = base; change = Start } ∷ address_records base t) address_is (subst (λ (l : List Record). start ≡ l ++ (record { moment = base; change = Start } ∷ address_records base address)) first_is a)) in
    let b1 : marked ≡ start ++ mark = subst (λ (n : ℕ). marked ≡ start ++ record { moment = n; change = Mark } ∷ []) last_is b in
    c ∙ ap (λ (l : List Record). l ++ held_records s) (b1 ∙ ap (λ (l : List Record). l ++ mark) a1) ∙ append_assoc head mark (held_records s)
