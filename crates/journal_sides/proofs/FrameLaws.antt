-- Frames one behind the other.
use Rattle.std.proofs.Common.{◌≡◌, ℕ, ◌<◌, List, [], ◌∷◌, ◌++◌, length, drop, refl, sym, ◌∙◌, ap, arith, append_assoc}
use Rattle.std.proofs.lemmas.List.{append-nil}
use Rattle.std.specs.List.{AllByRecursion}
use Rattle.pcp_base.specs.declared.records.Record.{Record}
use Rattle.pcp_base.specs.States.{State}
use Rattle.pcp_base.specs.Apply.{apply, apply_all}
use Rattle.pcp_base.specs.Fits.{AllFit}
use Rattle.journal_sides.specs.Frames.{IsBatch, frame_text, frames_text, records_of}

-- one frame more
pub frames_text-push : (batches : List (List Record)) (batch : List Record) (rest : List ℕ) → frames_text (batches ++ batch ∷ []) ++ rest ≡ frames_text batches ++ 1 ∷ (frame_text batch ++ rest)
frames_text-push [] batch rest = ap (λ (l : List ℕ). 1 ∷ l) (ap (λ (l : List ℕ). l ++ rest) (append-nil (frame_text batch)))
frames_text-push (first ∷ batches) batch rest =
    ap (λ (l : List ℕ). 1 ∷ l) (append_assoc (frame_text first) (frames_text (batches ++ batch ∷ [])) rest ∙ ap (λ (l : List ℕ). frame_text first ++ l) (frames_text-push batches batch rest) ∙ sym (append_assoc (frame_text first) (frames_text batches) (1 ∷ (frame_text batch ++ rest))))

pub records_of-push : (batches : List (List Record)) (batch : List Record) → records_of (batches ++ batch ∷ []) ≡ records_of batches ++ batch
records_of-push [] batch = append-nil batch
records_of-push (first ∷ batches) batch = ap (λ (l : List Record). first ++ l) (records_of-push batches batch) ∙ sym (append_assoc first (records_of batches) batch)

-- frames behind others
pub frames_text-append : (batches more : List (List Record)) → frames_text (batches ++ more) ≡ frames_text batches ++ frames_text more
frames_text-append [] more = refl
frames_text-append (first ∷ batches) more =
    ap (λ (l : List ℕ). 1 ∷ (frame_text first ++ l)) (frames_text-append batches more) ∙ ap (λ (l : List ℕ). 1 ∷ l) (sym (append_assoc (frame_text first) (frames_text batches) (frames_text more)))

pub records_of-append : (batches more : List (List Record)) → records_of (batches ++ more) ≡ records_of batches ++ records_of more
records_of-append [] more = refl
records_of-append (first ∷ batches) more = ap (λ (l : List Record). first ++ l) (records_of-append batches more) ∙ sym (append_assoc first (records_of batches) (records_of more))

pub each-append : (batches more : List (List Record)) → AllByRecursion IsBatch batches → AllByRecursion IsBatch more → AllByRecursion IsBatch (batches ++ more)
each-append [] more all these = these
each-append (first ∷ batches) more all these = (all.0, each-append batches more all.1 these)

-- the first gate and what stands behind it
pub gate_and_rest : (batches : List (List Record)) → 0 < length batches → 1 ∷ drop 1 (frames_text batches) ≡ frames_text batches
gate_and_rest [] some = absurd (omega (arith, some))
gate_and_rest (first ∷ batches) some = refl

pub fit-append : (s : State) (first second : List Record) → AllFit s first → AllFit (apply_all s first) second → AllFit s (first ++ second)
fit-append s [] second one two = two
fit-append s (r ∷ first) second one two = (one.0, fit-append (apply s r) first second one.1 two)

pub each-push : (batches : List (List Record)) (batch : List Record) → AllByRecursion IsBatch batches → IsBatch batch → AllByRecursion IsBatch (batches ++ batch ∷ [])
each-push [] batch all this = (this, tt)
each-push (first ∷ batches) batch all this = (all.0, each-push batches batch all.1 this)
