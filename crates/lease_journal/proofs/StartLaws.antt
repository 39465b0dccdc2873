-- A start on side a, where both sides are closed.
use Rattle.std.proofs.Common.{◌≡◌, inl, inr, ℕ, ◌^◌, ◌<◌, ◌%◌, List, [], ◌∷◌, ◌++◌, length, drop, Bool, true, false, Result, Ok, refl, sym, ◌∙◌, ap, subst, arith, length-append, length-drop}
use Rattle.pcp_base.specs.declared.errors.Memory.{Memory}
use Rattle.pcp_base.specs.declared.records.Record.{Record}
use Rattle.pcp_base.specs.States.{State, empty_state}
use Rattle.pcp_base.specs.Apply.{apply, state_of}
use Rattle.pcp_base.specs.Fits.{AllFit, Fits}
use Rattle.lease_disk.specs.declared.disks.DiskPair.{DiskPair}
use Rattle.lease_disk.specs.Pairs.{HoldsNow}
use Rattle.journal_sides.specs.declared.formats.Format.TheVariants.{Second}
use Rattle.journal_sides.specs.declared.sides.Side.TheVariants.{A}
use Rattle.lease_journal.specs.Beginnings.{IsBegun, MayBegin}
use Rattle.journal_sides.specs.Journals.{IsBlank, IsStarting, StandsFor, fresh_state}
use Rattle.journal_sides.specs.Settled.{StandsBy}
use Rattle.journal_sides.specs.Shut.{IsHidden, hidden_text}
use Rattle.journal_sides.specs.Sides.{AreBatches, IsClosedSide, side_text}
use Rattle.journal_sides.specs.Writes.{AreDurable, ChangesSide}
use Rattle.lease_journal.proofs.PairLaws.{first_batches, start_at}
use Rattle.lease_journal.proofs.StandingLaws.{counts_a}

-- records that fit, as they stand behind a gate
pub are_hidden : (parity generation : ℕ) (records : List Record) (text : List ℕ) (is : IsHidden generation records text) → generation < 2 ^ 64 → generation % 2 ≡ parity → AllFit empty_state records → AreBatches Second parity generation is.batches
are_hidden parity generation records text is width of_side fit = record { width = width; next = tt; of_side = of_side; some = is.some; each = is.each; fit = subst (AllFit empty_state) (sym is.holds) fit }

as_long : (side text : List ℕ) → 0 < length side → text ≡ drop 1 side ++ 0 ∷ [] → length text ≡ length side
as_long side text some is = omega (arith, some, ap length is, length-append (drop 1 side) (0 ∷ []), length-drop 1 side)

pub hidden_place : (generation : ℕ) (batches : List (List Record)) (text : List ℕ) → text ≡ hidden_text generation batches ++ 0 ∷ [] → length text ≡ length (side_text Second generation batches)
hidden_place generation batches text is = as_long (side_text Second generation batches) text (omega arith) is

-- the start is taken by a replay that is empty
pub replayed_start : (m : ℕ) → m < 2 ^ 40 → (before now : State) (answer : Result Bool Memory) (fits : Bool) → answer ≡ Ok fits → before ≡ empty_state → (answer ≡ Ok true → now ≡ apply before (start_at m)) → (answer ≡ Ok false → ¬ (Fits before (start_at m))) → now ≡ fresh_state m
replayed_start m within before now answer true is empty applied refused = applied is ∙ ap (λ (s : State). apply s (start_at m)) empty
replayed_start m within before now answer false is empty applied refused = absurd (refused is (subst (λ (s : State). Fits s (start_at m)) (sym empty) (first_batches m within).fit.0))

pub blank_holds : {D : Type 0} (seen : D → List ℕ) (may_leave : D → List ℕ → Type 0) (m : ℕ) (pair : DiskPair D) → AreDurable seen may_leave pair → IsBlank (seen pair.a) (seen pair.b) → HoldsNow may_leave (IsStarting m) pair
blank_holds seen may_leave m pair durable blank x y left_a left_b = inl (subst IsClosedSide (sym (durable.a x left_a)) blank.0, subst IsClosedSide (sym (durable.b y left_b)) blank.1)

module _ (m : ℕ) (within : m < 2 ^ 40) (text : List ℕ) (is : IsHidden 0 (start_at m ∷ []) text) where
  pub start_batches : AreBatches Second 0 0 is.batches
  start_batches = are_hidden 0 0 (start_at m ∷ []) text is (omega arith) refl (first_batches m within).fit

  module _ (a b : List ℕ) (blank : IsBlank a b) where
    pub starts : (x y : List ℕ) → ChangesSide A (MayBegin 0 0 is.batches) a b x y → IsStarting m x y
    starts x y ch = begun ch.changed
      where
        still : IsClosedSide y
        still = subst IsClosedSide (sym ch.unchanged) blank.1

        begun : MayBegin 0 0 is.batches a x → IsStarting m x y
        begun (inl same) = inl (subst IsClosedSide (sym same) blank.0, still)
        begun (inr (inl closed)) = inl (closed, still)
        begun (inr (inr side)) = inr (subst (λ (s : State). StandsFor s x y) (ap state_of is.holds) (counts_a Second x y 0 is.batches side (inl still)))

    pub started_by : (size place : ℕ) (x y : List ℕ) → place ≡ length text → IsBegun A size 0 is.batches a b x y → StandsBy A (record { format = Second; generation = 0; end = place; length = size }) (fresh_state m) x y
    started_by size place x y at begun = record {
      counts = record { batches = is.batches; side = begun.opened; place = at ∙ hidden_place 0 is.batches text is.text; long = begun.long; stands = ap state_of is.holds };
      gives_way = inl (subst IsClosedSide (sym begun.unchanged) blank.1);
    }
