-- Where the walk over a side stops short, the side isn't in the grammar.
use Rattle.std.proofs.Common.{◌≡◌, ◌≢◌, ℕ, ◌<◌, ◌^◌, List, [], ◌∷◌, ◌++◌, length, get_or, drop, refl, sym, ◌∙◌, ap, subst, arith, append_assoc, length-append}
use Rattle.std.specs.List.{AllByRecursion}
use Rattle.pcp_base.specs.declared.records.Record.{Record}
use Rattle.pcp_base.specs.States.{State, empty_state}
use Rattle.pcp_base.specs.Apply.{apply, apply_first}
use Rattle.lease_records.specs.RecordTexts.{record_text}
use Rattle.lease_records.specs.RecordReading.{record_at}
use Rattle.lease_records.specs.Values.{IsValue}
use Rattle.lease_records.proofs.FieldLaws.{some_is}
use Rattle.lease_records.proofs.RecordLaws.{record_again}
use Rattle.journal_sides.specs.Formats.{AllFitBy, apply_all_by, state_by}
use Rattle.journal_sides.specs.declared.formats.Format.{Format}
use Rattle.journal_sides.specs.declared.formats.Format.TheVariants.{First, Second}
use Rattle.journal_sides.specs.Frames.{IsBatch, records_text, frame_text, frames_text, records_of}
use Rattle.journal_sides.specs.Sides.{head_text, side_text, IsOpenSide}
use Rattle.journal_sides.specs.Appending.{MayFollow}
use Rattle.journal_sides.proofs.UniqueLaws.{same_w64, same_format, format_is, goes_past}

pub fit-front : (f : Format) (s : State) (first second : List Record) → AllFitBy f s (first ++ second) → AllFitBy f s first
fit-front First s [] second fit = tt
fit-front Second s [] second fit = tt
fit-front First s (r ∷ first) second fit = (fit.0, fit-front First (apply_first s r) first second fit.1)
fit-front Second s (r ∷ first) second fit = (fit.0, fit-front Second (apply s r) first second fit.1)

pub fit-back : (f : Format) (s : State) (first second : List Record) → AllFitBy f s (first ++ second) → AllFitBy f (apply_all_by f s first) second
fit-back First s [] second fit = fit
fit-back Second s [] second fit = fit
fit-back First s (r ∷ first) second fit = fit-back First (apply_first s r) first second fit.1
fit-back Second s (r ∷ first) second fit = fit-back Second (apply s r) first second fit.1

records_of-append : (a b : List (List Record)) → records_of (a ++ b) ≡ records_of a ++ records_of b
records_of-append [] b = refl
records_of-append (x ∷ a) b = ap (λ (l : List Record). x ++ l) (records_of-append a b) ∙ sym (append_assoc x (records_of a) (records_of b))

-- the walk over these batches of a side in this format can't end here, nor go on
pub record IsStuck (format : Format) (batches : List (List Record)) (rest : List ℕ) : Type 0 where
  pub not_ended : (gate : ℕ) (behind : List ℕ) → gate ≢ 1 → ¬ (rest ≡ gate ∷ behind)
  pub no_frame : (batch : List Record) (behind : List ℕ) → MayFollow format batches batch → ¬ (rest ≡ 1 ∷ (frame_text batch ++ behind))

stuck_at : (f : Format) (batches others more : List (List Record)) (rest : List ℕ) (gate : ℕ) (behind : List ℕ) → IsStuck f batches rest → gate ≢ 1 → others ≡ batches ++ more → AllByRecursion IsBatch more → AllFitBy f empty_state (records_of others) → ¬ (rest ≡ frames_text more ++ gate ∷ behind)
stuck_at f batches others [] rest gate behind stuck closed is each fit left = stuck.not_ended gate behind closed left
stuck_at f batches others (batch ∷ more) rest gate behind stuck closed is each fit left =
    let all : records_of others ≡ records_of batches ++ (batch ++ records_of more) = ap records_of is ∙ records_of-append batches (batch ∷ more) in
    let fits = fit-front f (state_by f (records_of batches)) batch (records_of more) (fit-back f empty_state (records_of batches) (batch ++ records_of more) (subst (AllFitBy f empty_state) all fit)) in
    stuck.no_frame batch (frames_text more ++ gate ∷ behind) (record { is = each.0; fit = fits })
    (left ∙ ap (λ (l : List ℕ). 1 ∷ l) (append_assoc (frame_text batch) (frames_text more) (gate ∷ behind)))

pub stuck_not_open : (f : Format) (parity : ℕ) (octets : List ℕ) (g : ℕ) (batches : List (List Record)) (rest : List ℕ) → g < 2 ^ 64 → AllByRecursion IsBatch batches → octets ≡ side_text f g batches ++ rest → IsStuck f batches rest
    → (k : Format) (h : ℕ) (others : List (List Record)) → ¬ (IsOpenSide k parity octets h others)
stuck_not_open f parity octets g batches rest width each text stuck k h others side =
    let y = frames_text others ++ side.gate ∷ side.behind in
    let whole : head_text f g ++ (frames_text batches ++ rest) ≡ head_text k h ++ y =
    sym (append_assoc (head_text f g) (frames_text batches) rest) ∙ sym text ∙ side.text ∙ append_assoc (head_text k h) (frames_text others) (side.gate ∷ side.behind) in
    let both = same_w64 g h (frames_text batches ++ rest) y width side.contents.width (ap (λ (l : List ℕ). drop 6 l) whole) in
    let same : k ≡ f = same_format k f (sym (ap (λ (l : List ℕ). get_or l 5 0) whole)) in
    let past = goes_past batches others rest side.gate side.behind each side.contents.each side.closed both.1 in
    stuck_at f batches others past.more rest side.gate side.behind stuck side.closed past.is past.each (subst (λ (x : Format). AllFitBy x empty_state (records_of others)) same side.contents.fit) past.left

-- an open side whose octet 5 names no format isn't in the grammar
pub no_format : (parity : ℕ) (octets : List ℕ) → get_or octets 5 0 ≢ 1 → get_or octets 5 0 ≢ 2 → (k : Format) (h : ℕ) (others : List (List Record)) → ¬ (IsOpenSide k parity octets h others)
no_format parity octets not_first not_second First h others side = not_first (format_is First parity octets h others side)
no_format parity octets not_first not_second Second h others side = not_second (format_is Second parity octets h others side)

-- the records of a frame that are known, and those that follow
pub record FollowOn (known all : List Record) (rest : List ℕ) : Type 0 where
  pub more : List Record
  pub is : all ≡ known ++ more
  pub values : AllByRecursion IsValue more
  pub left : rest ≡ records_text more

pub follow_on : (known all : List Record) (rest : List ℕ) → AllByRecursion IsValue known → AllByRecursion IsValue all → records_text known ++ rest ≡ records_text all → FollowOn known all rest
follow_on [] all rest vk va e = record { more = all; is = refl; values = va; left = e }
follow_on (r ∷ known) [] rest vk va e = absurd (omega (arith, ap length e, length-append (record_text r ++ records_text known) rest, length-append (record_text r) (records_text known)))
follow_on (r ∷ known) (s ∷ all) rest vk va e =
    let x : Record × List ℕ = (r, records_text known ++ rest) in
    let y : Record × List ℕ = (s, records_text all) in
    let whole : record_text r ++ (records_text known ++ rest) ≡ record_text s ++ records_text all = sym (append_assoc (record_text r) (records_text known) rest) ∙ e in
    let both : x ≡ y = some_is x y (sym (record_again r (records_text known ++ rest) vk.0) ∙ ap record_at whole ∙ record_again s (records_text all) va.0) in
    let on = follow_on known all rest vk.1 va.1 (ap (λ (z : Record × List ℕ). z.1) both) in
    record { more = on.more; is = ap (λ (z : Record × List ℕ). z.0 ∷ all) (sym both) ∙ ap (λ (l : List Record). r ∷ l) on.is; values = on.values; left = on.left }
