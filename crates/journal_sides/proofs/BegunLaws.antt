-- Once a record was taken a Start came.
use Rattle.std.proofs.Common.{◌≡◌, inl, inr, ℕ, ◌+◌, ◌<◌, ◌≤◌, Bool, true, false, ◌||◌, not, List, [], ◌∷◌, ◌++◌, length, refl, ◌∙◌, ap, arith, length-append}
use Rattle.std.specs.List.{AllByRecursion}
use Rattle.std.proofs.lemmas.Bool.{cases_lt}
use Rattle.pcp_base.specs.declared.records.Record.{Record}
use Rattle.pcp_base.specs.States.{State}
use Rattle.pcp_base.specs.Apply.{apply, apply_first, is_start}
use Rattle.journal_sides.specs.declared.formats.Format.{Format}
use Rattle.journal_sides.specs.declared.formats.Format.TheVariants.{First, Second}
use Rattle.journal_sides.specs.Formats.{AllFitBy, apply_all_by}
use Rattle.journal_sides.specs.Frames.{IsBatch, frames_text, records_of}
use Rattle.journal_sides.specs.Walks.{HasFrames}

first_or_started : (first started : Bool) → first ≡ not started → (first || started) ≡ true
first_or_started true started e = refl
first_or_started false true e = refl
first_or_started false false e = e

later_started : (first started : Bool) → started ≡ true → (first || started) ≡ true
later_started true started e = refl
later_started false started e = e

stays_begun : (f : Format) (s : State) (rs : List Record) → s.started ≡ true → (apply_all_by f s rs).started ≡ true
stays_begun First s [] begun = begun
stays_begun Second s [] begun = begun
stays_begun First s (r ∷ rs) begun = stays_begun First (apply_first s r) rs (later_started (is_start r.change) s.started begun)
stays_begun Second s (r ∷ rs) begun = stays_begun Second (apply s r) rs (later_started (is_start r.change) s.started begun)

pub all_begun : (f : Format) (s : State) (rs : List Record) → AllFitBy f s rs → 0 < length rs → (apply_all_by f s rs).started ≡ true
all_begun f s [] fit some = absurd (omega (arith, some))
all_begun First s (r ∷ rs) fit some = stays_begun First (apply_first s r) rs (first_or_started (is_start r.change) s.started fit.0.first)
all_begun Second s (r ∷ rs) fit some = stays_begun Second (apply s r) rs (first_or_started (is_start r.change) s.started fit.0.first)

batches_begun : (f : Format) (s : State) (batches : List (List Record)) → AllByRecursion IsBatch batches → AllFitBy f s (records_of batches) → 0 < length (frames_text batches) → (apply_all_by f s (records_of batches)).started ≡ true
batches_begun f s [] each fit some = absurd (omega (arith, some))
batches_begun f s (batch ∷ batches) each fit some = all_begun f s (batch ++ records_of batches) fit (omega (arith, each.0.some, length-append batch (records_of batches)))

-- at a place past the head of a side, behind frames that go on from an earlier place
pub walk_begun : (f : Format) (s mid : State) (octets : List ℕ) (place used : ℕ) → 14 ≤ place → (14 < place → s.started ≡ true) → HasFrames f s mid octets used → 14 < place + used → mid.started ≡ true
walk_begun f s mid octets place used past so_far frames further = elim (cases_lt 0 used) [
  | inl some ↦ ap (λ (t : State). t.started) frames.leads ∙ batches_begun f s frames.batches frames.each frames.fit (omega (arith, some, frames.size))
  | inr none ↦ ap (λ (t : State). t.started) frames.leads ∙ stays_begun f s (records_of frames.batches) (so_far (omega (arith, further, none)))
]
