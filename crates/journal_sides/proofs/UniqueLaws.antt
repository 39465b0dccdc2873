-- A side has one reading, and so has a journal.
use Rattle.std.proofs.Common.{◌≡◌, ◌≢◌, inl, inr, ℕ, ◌^◌, ◌<◌, List, [], ◌∷◌, ◌++◌, length, get_or, take, drop, refl, sym, ◌∙◌, ap, arith, append_assoc, length-append}
use Rattle.std.specs.List.{AllByRecursion}
use Rattle.std.specs.Int.{to_be_bytes, from_be_bytes, w32, w64}
use Rattle.std.proofs.lemmas.Nat.{from_be_bytes-to_be_bytes_4, from_be_bytes-to_be_bytes_8}
use Rattle.std.proofs.lemmas.List.{take_at, drop_at}
use Rattle.pcp_base.specs.declared.records.Record.{Record}
use Rattle.pcp_base.specs.States.{State}
use Rattle.lease_records.specs.RecordTexts.{record_text}
use Rattle.lease_records.specs.RecordReading.{record_at}
use Rattle.lease_records.specs.Values.{IsValue}
use Rattle.lease_records.proofs.FieldLaws.{some_is}
use Rattle.lease_records.proofs.RecordLaws.{record_again}
use Rattle.journal_sides.specs.Formats.{format_octet, state_by}
use Rattle.journal_sides.specs.declared.formats.Format.{Format}
use Rattle.journal_sides.specs.declared.formats.Format.TheVariants.{First, Second}
use Rattle.journal_sides.specs.Frames.{records_text, IsBatch, frame_text, frames_text, records_of}
use Rattle.journal_sides.specs.Sides.{head_text, IsOpenSide, IsClosedSide, IsBadSide}
use Rattle.journal_sides.specs.Journals.{IsBlank, IsDamaged, GivesWay, Counts, Recovers, StandsFor}

-- fronts of one length
pub fronts : (xs ys a b : List ℕ) → length xs ≡ length ys → xs ++ a ≡ ys ++ b → (xs ≡ ys) × (a ≡ b)
fronts xs ys a b same e = (
  sym (take_at xs a (length xs) refl) ∙ ap (λ (l : List ℕ). take (length xs) l) e ∙ take_at ys b (length xs) (sym same),
  sym (drop_at xs a (length xs) refl) ∙ ap (λ (l : List ℕ). drop (length xs) l) e ∙ drop_at ys b (length xs) (sym same),
)

same_w32 : (m n : ℕ) (a b : List ℕ) → m < 2 ^ 32 → n < 2 ^ 32 → to_be_bytes w32 m ++ a ≡ to_be_bytes w32 n ++ b → (m ≡ n) × (a ≡ b)
same_w32 m n a b fits_m fits_n e =
    let both = fronts (to_be_bytes w32 m) (to_be_bytes w32 n) a b refl e in
    (sym (from_be_bytes-to_be_bytes_4 m fits_m) ∙ ap (from_be_bytes w32) both.0 ∙ from_be_bytes-to_be_bytes_4 n fits_n, both.1)

pub same_w64 : (m n : ℕ) (a b : List ℕ) → m < 2 ^ 64 → n < 2 ^ 64 → to_be_bytes w64 m ++ a ≡ to_be_bytes w64 n ++ b → (m ≡ n) × (a ≡ b)
same_w64 m n a b fits_m fits_n e =
    let both = fronts (to_be_bytes w64 m) (to_be_bytes w64 n) a b refl e in
    (sym (from_be_bytes-to_be_bytes_8 m fits_m) ∙ ap (from_be_bytes w64) both.0 ∙ from_be_bytes-to_be_bytes_8 n fits_n, both.1)

-- records with the same octets are the same
same_records : (a b : List Record) → AllByRecursion IsValue a → AllByRecursion IsValue b → records_text a ≡ records_text b → a ≡ b
same_records [] [] va vb e = refl
same_records [] (s ∷ b) va vb e = absurd (omega (arith, ap length e, length-append (record_text s) (records_text b)))
same_records (r ∷ a) [] va vb e = absurd (omega (arith, ap length e, length-append (record_text r) (records_text a)))
same_records (r ∷ a) (s ∷ b) va vb e =
    let x : Record × List ℕ = (r, records_text a) in
    let y : Record × List ℕ = (s, records_text b) in
    let both : x ≡ y = some_is x y (sym (record_again r (records_text a) va.0) ∙ ap record_at e ∙ record_again s (records_text b) vb.0) in
    let rest : a ≡ b = same_records a b va.1 vb.1 (ap (λ (z : Record × List ℕ). z.1) both) in
    ap (λ (z : Record × List ℕ). z.0 ∷ a) both ∙ ap (λ (l : List Record). s ∷ l) rest

-- one batch has one frame, and no frame begins another's
pub same_frame : (a b : List Record) (x y : List ℕ) → IsBatch a → IsBatch b → frame_text a ++ x ≡ frame_text b ++ y → (a ≡ b) × (x ≡ y)
same_frame a b x y ba bb e =
    let size = same_w32 (length (records_text a)) (length (records_text b)) (records_text a ++ x) (records_text b ++ y) (omega (arith, ba.short)) (omega (arith, bb.short)) e in
    let both = fronts (records_text a) (records_text b) x y size.0 size.1 in
    (same_records a b ba.values bb.values both.0, both.1)

-- the walk over frames that are known goes on where they end
pub record GoesPast (batches others : List (List Record)) (rest : List ℕ) (gate : ℕ) (behind : List ℕ) : Type 0 where
  pub more : List (List Record)
  pub is : others ≡ batches ++ more
  pub each : AllByRecursion IsBatch more
  pub left : rest ≡ frames_text more ++ gate ∷ behind

pub goes_past : (batches others : List (List Record)) (rest : List ℕ) (gate : ℕ) (behind : List ℕ) → AllByRecursion IsBatch batches → AllByRecursion IsBatch others → gate ≢ 1
    → frames_text batches ++ rest ≡ frames_text others ++ gate ∷ behind → GoesPast batches others rest gate behind
goes_past [] others rest gate behind bb bo closed e = record { more = others; is = refl; each = bo; left = e }
goes_past (b ∷ batches) [] rest gate behind bb bo closed e = absurd (closed (sym (ap (λ (l : List ℕ). get_or l 0 0) e)))
goes_past (b ∷ batches) (c ∷ others) rest gate behind bb bo closed e =
    let tail : frame_text b ++ (frames_text batches ++ rest) ≡ frame_text c ++ (frames_text others ++ gate ∷ behind) =
    sym (append_assoc (frame_text b) (frames_text batches) rest) ∙ ap (λ (l : List ℕ). drop 1 l) e ∙ append_assoc (frame_text c) (frames_text others) (gate ∷ behind) in
    let same = same_frame b c (frames_text batches ++ rest) (frames_text others ++ gate ∷ behind) bb.0 bo.0 tail in
    let on = goes_past batches others rest gate behind bb.1 bo.1 closed same.1 in
    record { more = on.more; is = ap (λ (x : List Record). x ∷ others) (sym same.0) ∙ ap (λ (l : List (List Record)). b ∷ l) on.is; each = on.each; left = on.left }

-- where no gate follows that is open, the batches are the same
pub same_frames : (batches others : List (List Record)) (gate : ℕ) (behind : List ℕ) (other_gate : ℕ) (other_behind : List ℕ) → AllByRecursion IsBatch batches → AllByRecursion IsBatch others → gate ≢ 1 → other_gate ≢ 1
    → frames_text batches ++ gate ∷ behind ≡ frames_text others ++ other_gate ∷ other_behind → batches ≡ others
same_frames [] [] gate behind og ob bb bo closed oc e = refl
same_frames [] (c ∷ others) gate behind og ob bb bo closed oc e = absurd (closed (ap (λ (l : List ℕ). get_or l 0 0) e))
same_frames (b ∷ batches) [] gate behind og ob bb bo closed oc e = absurd (oc (sym (ap (λ (l : List ℕ). get_or l 0 0) e)))
same_frames (b ∷ batches) (c ∷ others) gate behind og ob bb bo closed oc e =
    let tail : frame_text b ++ (frames_text batches ++ gate ∷ behind) ≡ frame_text c ++ (frames_text others ++ og ∷ ob) =
    sym (append_assoc (frame_text b) (frames_text batches) (gate ∷ behind)) ∙ ap (λ (l : List ℕ). drop 1 l) e ∙ append_assoc (frame_text c) (frames_text others) (og ∷ ob) in
    let same = same_frame b c (frames_text batches ++ gate ∷ behind) (frames_text others ++ og ∷ ob) bb.0 bo.0 tail in
    ap (λ (x : List Record). x ∷ batches) same.0 ∙ ap (λ (l : List (List Record)). c ∷ l) (same_frames batches others gate behind og ob bb.1 bo.1 closed oc same.1)

-- octet 5 tells the format
pub same_format : (f k : Format) → format_octet f ≡ format_octet k → f ≡ k
same_format First First e = refl
same_format First Second e = absurd (omega (arith, e))
same_format Second First e = absurd (omega (arith, e))
same_format Second Second e = refl

pub format_is : (f : Format) (parity : ℕ) (octets : List ℕ) (g : ℕ) (batches : List (List Record)) → IsOpenSide f parity octets g batches → get_or octets 5 0 ≡ format_octet f
format_is f parity octets g batches side = ap (λ (l : List ℕ). get_or l 5 0) (side.text ∙ append_assoc (head_text f g) (frames_text batches) (side.gate ∷ side.behind))

-- a side stands for one list of batches, of one generation and in one format
pub same_side : (f k : Format) (parity : ℕ) (octets : List ℕ) (g h : ℕ) (batches others : List (List Record)) → IsOpenSide f parity octets g batches → IsOpenSide k parity octets h others → (f ≡ k) × (g ≡ h) × (batches ≡ others)
same_side f k parity octets g h batches others a b =
    let x = frames_text batches ++ a.gate ∷ a.behind in
    let y = frames_text others ++ b.gate ∷ b.behind in
    let whole : head_text f g ++ x ≡ head_text k h ++ y =
    sym (append_assoc (head_text f g) (frames_text batches) (a.gate ∷ a.behind)) ∙ sym a.text ∙ b.text ∙ append_assoc (head_text k h) (frames_text others) (b.gate ∷ b.behind) in
    let behind_head : to_be_bytes w64 g ++ x ≡ to_be_bytes w64 h ++ y = ap (λ (l : List ℕ). drop 6 l) whole in
    let both = same_w64 g h x y a.contents.width b.contents.width behind_head in
    (same_format f k (sym (format_is f parity octets g batches a) ∙ format_is k parity octets h others b), both.0, same_frames batches others a.gate a.behind b.gate b.behind a.contents.each b.contents.each a.closed b.closed both.1)

-- an open side isn't closed
pub open_not_closed : (f : Format) (parity : ℕ) (octets : List ℕ) (g : ℕ) (batches : List (List Record)) → IsOpenSide f parity octets g batches → ¬ (IsClosedSide octets)
open_not_closed f parity octets g batches side (inl short) =
    let x = frames_text batches ++ side.gate ∷ side.behind in
    let whole : octets ≡ head_text f g ++ x = side.text ∙ append_assoc (head_text f g) (frames_text batches) (side.gate ∷ side.behind) in
    omega (arith, short, ap length whole, length-append (head_text f g) x, length-append (frames_text batches) (side.gate ∷ side.behind))
open_not_closed f parity octets g batches side (inr shut) =
    let x = frames_text batches ++ side.gate ∷ side.behind in
    let whole : octets ≡ head_text f g ++ x = side.text ∙ append_assoc (head_text f g) (frames_text batches) (side.gate ∷ side.behind) in
    shut (ap (λ (l : List ℕ). get_or l 0 0) whole)

one_generation : (f k : Format) (parity other : ℕ) (a b : List ℕ) (g h : ℕ) (batches others : List (List Record)) → IsOpenSide f parity a g batches → IsOpenSide k other b h others → GivesWay other b g → GivesWay parity a h → ⊥
one_generation f k parity other a b g h batches others side_a side_b (inl closed) way = open_not_closed k other b h others side_b closed
one_generation f k parity other a b g h batches others side_a side_b (inr (w, n, cs, is, less)) (inl closed) = open_not_closed f parity a g batches side_a closed
one_generation f k parity other a b g h batches others side_a side_b (inr (w, n, cs, is, less)) (inr (v, l, ds, js, more)) =
    let at_b = same_side k w other b h n others cs side_b is in
    let at_a = same_side f v parity a g l batches ds side_a js in
    omega (arith, at_b.1, at_a.1, less, more)

-- the same side counts, and stands for the same
one_side : (f k : Format) (parity other : ℕ) (here there : List ℕ) (r s : List Record) → Counts parity here other there f r → Counts parity here other there k s → (f ≡ k) × (r ≡ s)
one_side f k parity other here there r s p q =
    let same = same_side f k parity here p.generation q.generation p.batches q.batches p.is q.is in
    (same.0, p.holds ∙ ap records_of same.2 ∙ sym q.holds)

pub one_reading : (a b : List ℕ) (f k : Format) (r s : List Record) → Recovers a b f r → Recovers a b k s → (f ≡ k) × (r ≡ s)
one_reading a b f k r s (inl p) (inl q) = one_side f k 0 1 a b r s p q
one_reading a b f k r s (inr p) (inr q) = one_side f k 1 0 b a r s p q
one_reading a b f k r s (inl p) (inr q) = absurd (one_generation f k 0 1 a b p.generation q.generation p.batches q.batches p.is q.is p.other q.other)
one_reading a b f k r s (inr p) (inl q) = absurd (one_generation f k 1 0 b a p.generation q.generation p.batches q.batches p.is q.is p.other q.other)

-- so a journal stands for one state
pub one_state : (a b : List ℕ) (s t : State) → StandsFor s a b → StandsFor t a b → s ≡ t
one_state a b s t (f, r, p, is) (k, q, m, js) =
    let same = one_reading a b f k r q p m in
    sym is ∙ ap (λ (x : Format). state_by x r) same.0 ∙ ap (λ (x : List Record). state_by k x) same.1 ∙ js

gives_way_good : (parity : ℕ) (octets : List ℕ) (g : ℕ) → GivesWay parity octets g → ¬ (IsBadSide parity octets)
gives_way_good parity octets g (inl closed) bad = bad.0 closed
gives_way_good parity octets g (inr (f, h, batches, is, less)) bad = bad.1 f h batches is

pub not_blank : (a b : List ℕ) (f : Format) (r : List Record) → Recovers a b f r → ¬ (IsBlank a b)
not_blank a b f r (inl p) blank = open_not_closed f 0 a p.generation p.batches p.is blank.0
not_blank a b f r (inr p) blank = open_not_closed f 1 b p.generation p.batches p.is blank.1

pub not_damaged : (a b : List ℕ) (f : Format) (r : List Record) → Recovers a b f r → ¬ (IsDamaged a b)
not_damaged a b f r (inl p) (inl bad) = bad.1 f p.generation p.batches p.is
not_damaged a b f r (inl p) (inr bad) = gives_way_good 1 b p.generation p.other bad
not_damaged a b f r (inr p) (inl bad) = gives_way_good 0 a p.generation p.other bad
not_damaged a b f r (inr p) (inr bad) = bad.1 f p.generation p.batches p.is

pub blank_not_damaged : (a b : List ℕ) → IsBlank a b → ¬ (IsDamaged a b)
blank_not_damaged a b blank (inl bad) = bad.0 blank.0
blank_not_damaged a b blank (inr bad) = bad.0 blank.1
