-- Writing frames of records, batch by batch.
use Rattle.std.proofs.Common.{◌≡◌, ℕ, ◌+◌, ◌<◌, ◌≤◌, min, List, [], ◌∷◌, ◌++◌, length, drop, take, refl, sym, ◌∙◌, ap, subst, arith, append_assoc, append-nil, drop-drop, length-append, length-take, length-drop, take-append-drop}
use Rattle.std.specs.List.{AllByRecursion}
use Rattle.std.proofs.lemmas.List.{nil_from_length}
use Rattle.pcp_base.specs.declared.records.Record.{Record}
use Rattle.pcp_base.specs.Records.{IsWellFormedRecord}
use Rattle.journal_sides.specs.declared.formats.Format.TheVariants.{Second}
use Rattle.journal_sides.specs.Frames.{IsBatch, frame_text, frames_text, frames_octets, records_of, records_text}
use Rattle.journal_sides.specs.Shut.{AreAppended, AreFramed, AreFull, IsHidden}
use Rattle.journal_sides.specs.Sides.{head_text}
use Rattle.journal_sides.proofs.FrameLaws.{frames_text-push, records_of-push, each-push}
use Rattle.journal_sides.proofs.RecordTextLaws.{batch_first, none_left, records_text-append, texts_again, texts_in}
use Rattle.journal_sides.proofs.SizeLemmas.{record_some}
use Rattle.journal_sides.specs.Texts.{AreBehind, AreTexts, records_in}

-- as many records as a frame takes
abbrev pub IsFull : List Record → Type 0
IsFull batch = length batch ≡ 16

full-push : (batches : List (List Record)) (batch : List Record) → AllByRecursion IsFull batches → AreFull (batches ++ batch ∷ [])
full-push [] batch all = tt
full-push (first ∷ []) batch all = (all.0, tt)
full-push (first ∷ next ∷ batches) batch all = (all.0, full-push (next ∷ batches) batch all.1)

all_full-push : (batches : List (List Record)) (batch : List Record) → AllByRecursion IsFull batches → IsFull batch → AllByRecursion IsFull (batches ++ batch ∷ [])
all_full-push [] batch all this = (this, tt)
all_full-push (first ∷ batches) batch all this = (all.0, all_full-push batches batch all.1 this)

-- one batch in front
full-cons : (first : List Record) (batches : List (List Record)) → AllByRecursion IsBatch batches → AreFull batches → (0 < length (records_of batches) → length first ≡ 16) → AreFull (first ∷ batches)
full-cons first [] each full size = tt
full-cons first (next ∷ batches) each full size = (size (omega (arith, each.0.some, length-append next (records_of batches))), full)

some_batches : (batches : List (List Record)) → 0 < length (records_of batches) → 0 < length batches
some_batches [] some = absurd (omega (arith, some))
some_batches (first ∷ batches) some = omega arith

-- where a record is, its text is
pub texts_some : (octets : List ℕ) (rs : List Record) → AreTexts octets rs → 0 < length rs → 0 < length octets
texts_some octets [] is some = absurd (omega (arith, some))
texts_some octets (r ∷ rs) is some = omega (arith, record_some r, ap length is.text, length-append (records_text (r ∷ [])) (records_text rs), ap length (records_text-append (r ∷ []) rs))

-- the records before the rest are written behind what stood there
pub record HasFramed (records rest : List Record) (front text : List ℕ) : Type 0 where
  pub batches : List (List Record)
  pub each : AllByRecursion IsBatch batches
  pub full : AreFull batches
  pub all_full : 0 < length rest → AllByRecursion IsFull batches
  pub holds : records_of batches ++ rest ≡ records
  pub begun : text ≡ front ++ frames_text batches
  pub formed : AllByRecursion IsWellFormedRecord rest

frames_none : (records : List Record) (front text : List ℕ) → text ≡ front → AllByRecursion IsWellFormedRecord records → HasFramed records records front text
frames_none records front text is formed = record { batches = []; each = tt; full = tt; all_full = λ some. tt; holds = refl; begun = is ∙ sym (append-nil front); formed = formed }

formed_back : (front back : List Record) → AllByRecursion IsWellFormedRecord (front ++ back) → AllByRecursion IsWellFormedRecord back
formed_back [] back all = all
formed_back (r ∷ front) back all = formed_back front back all.1

frames_text-more : (batches : List (List Record)) (batch : List Record) → frames_text (batches ++ batch ∷ []) ≡ frames_text batches ++ 1 ∷ frame_text batch
frames_text-more batches batch =
    sym (append-nil (frames_text (batches ++ batch ∷ []))) ∙ frames_text-push batches batch [] ∙ ap (λ (l : List ℕ). frames_text batches ++ 1 ∷ l) (append-nil (frame_text batch))

frames_next : (records rest batch left : List Record) (front text new : List ℕ) → HasFramed records rest front text → rest ≡ batch ++ left → length batch ≡ min 16 (length rest) → 0 < length rest → IsBatch batch → new ≡ text ++ 1 ∷ frame_text batch → HasFramed records left front new
frames_next records rest batch left front text new so_far parts size some is wrote = record {
  batches = so_far.batches ++ batch ∷ [];
  each = each-push so_far.batches batch so_far.each is;
  full = full-push so_far.batches batch (so_far.all_full some);
  all_full = λ more. all_full-push so_far.batches batch (so_far.all_full some) (omega (arith, size, more, ap length parts, length-append batch left));
  holds = ap (λ (l : List Record). l ++ left) (records_of-push so_far.batches batch) ∙ append_assoc (records_of so_far.batches) batch left ∙ ap (λ (l : List Record). records_of so_far.batches ++ l) (sym parts) ∙ so_far.holds;
  begun = wrote ∙ ap (λ (l : List ℕ). l ++ 1 ∷ frame_text batch) so_far.begun ∙ append_assoc front (frames_text so_far.batches) (1 ∷ frame_text batch) ∙ ap (λ (l : List ℕ). front ++ l) (sym (frames_text-more so_far.batches batch));
  formed = formed_back batch left (subst (AllByRecursion IsWellFormedRecord) parts so_far.formed);
}

frames_all : (records rest : List Record) (front text : List ℕ) → HasFramed records rest front text → rest ≡ [] → AreFramed records front text
frames_all records rest front text so_far none = record {
  batches = so_far.batches;
  each = so_far.each;
  full = so_far.full;
  holds = sym (append-nil (records_of so_far.batches)) ∙ ap (λ (l : List Record). records_of so_far.batches ++ l) (sym none) ∙ so_far.holds;
  text = so_far.begun;
}

-- ---- the same over texts

-- those before this place of the texts are written
pub record HasFramedTo (texts : List ℕ) (at : ℕ) (front text : List ℕ) : Type 0 where
  pub rest : List Record
  pub left : AreTexts (drop at texts) rest
  pub framed : HasFramed (records_in texts) rest front text

pub framed_first : (texts front text : List ℕ) → text ≡ front → AreTexts texts (records_in texts) → HasFramedTo texts 0 front text
framed_first texts front text same is = record {
  rest = records_in texts;
  left = is;
  framed = frames_none (records_in texts) front text same is.formed;
}

module _ (texts : List ℕ) (at : ℕ) (front text : List ℕ) (so_far : HasFramedTo texts at front text) where
  module _ (slice : List ℕ) (same : slice ≡ drop at texts) where
    left : AreTexts slice so_far.rest
    left = subst (λ (l : List ℕ). AreTexts l so_far.rest) (sym same) so_far.left

    pub slice_texts : AreTexts slice (records_in slice)
    slice_texts = texts_again slice so_far.rest left

    pub framed_more : (size : ℕ) (new : List ℕ) → 0 < length slice → AreBehind slice (records_in slice) 16 size → new ≡ text ++ 1 ∷ frame_text (take 16 (records_in slice)) → HasFramedTo texts (at + size) front new
    framed_more size new some behind wrote =
        let rest = records_in slice in
        let told : rest ≡ so_far.rest = texts_in slice so_far.rest left in
        let batch = batch_first slice size slice_texts behind some in
        record {
          rest = drop 16 rest;
          left = subst (λ (l : List ℕ). AreTexts l (drop 16 rest)) (ap (drop size) same ∙ drop-drop size at texts) behind.left;
          framed = frames_next (records_in texts) rest (take 16 rest) (drop 16 rest) front text new
              (subst (λ (rs : List Record). HasFramed (records_in texts) rs front text) (sym told) so_far.framed)
              (sym (take-append-drop 16 rest)) (length-take 16 rest) (omega (arith, length-take 16 rest, batch.some)) batch wrote;
        }

  pub framed_last : length texts ≤ at → AreFramed (records_in texts) front text
  framed_last done = frames_all (records_in texts) so_far.rest front text so_far.framed (none_left texts at so_far.rest so_far.left done)

-- ---- whole texts

-- behind a head and before a closed gate
pub hidden_all : (generation : ℕ) (records : List Record) (head text new : List ℕ) → head ≡ drop 1 (head_text Second generation) → AreFramed records head text → 0 < length records → new ≡ text ++ 0 ∷ [] → IsHidden generation records new
hidden_all generation records head text new is framed some wrote = record {
  batches = framed.batches;
  some = some_batches framed.batches (omega (arith, some, ap length framed.holds));
  each = framed.each;
  full = framed.full;
  holds = framed.holds;
  text = wrote ∙ ap (λ (l : List ℕ). l ++ 0 ∷ []) (framed.text ∙ ap (λ (l : List ℕ). l ++ frames_text framed.batches) is);
}

-- what is behind a place of texts are texts
pub rest_texts : (octets : List ℕ) (size : ℕ) → AreBehind octets (records_in octets) 16 size → (slice : List ℕ) → slice ≡ drop size octets → AreTexts slice (records_in slice)
rest_texts octets size behind slice same = texts_again slice (drop 16 (records_in octets)) (subst (λ (l : List ℕ). AreTexts l (drop 16 (records_in octets))) (sym same) behind.left)

-- behind a first frame without its gate
pub appended_all : (octets : List ℕ) (size : ℕ) → AreTexts octets (records_in octets) → AreBehind octets (records_in octets) 16 size → 0 < length octets → (slice : List ℕ) → slice ≡ drop size octets
    → (one two three : List ℕ) → one ≡ frame_text (take 16 (records_in octets)) → AreFramed (records_in slice) one two → three ≡ two ++ 0 ∷ [] → AreAppended (records_in octets) three
appended_all octets size is behind some slice same one two three first framed wrote =
    let rs = records_in octets in
    let left : AreTexts slice (drop 16 rs) = subst (λ (l : List ℕ). AreTexts l (drop 16 rs)) (sym same) behind.left in
    let rest : records_of framed.batches ≡ drop 16 rs = framed.holds ∙ texts_in slice (drop 16 rs) left in
    record {
      batches = take 16 rs ∷ framed.batches;
      some = omega arith;
      each = (batch_first octets size is behind some, framed.each);
      full = full-cons (take 16 rs) framed.batches framed.each framed.full (λ more. omega (arith, more, ap length rest, length-drop 16 rs, length-take 16 rs));
      holds = ap (λ (l : List Record). take 16 rs ++ l) rest ∙ take-append-drop 16 rs;
      text = wrote ∙ ap (λ (l : List ℕ). l ++ 0 ∷ []) (framed.text ∙ ap (λ (l : List ℕ). l ++ frames_text framed.batches) first);
    }

-- ---- how long frames are

frame_long : (batch : List Record) → length (frame_text batch) ≡ 4 + length (records_text batch)
frame_long batch = omega arith

rest_full : (batch : List Record) (batches : List (List Record)) → AreFull (batch ∷ batches) → AreFull batches
rest_full batch [] full = tt
rest_full batch (next ∷ batches) full = full.1

one_longer : (batch : List Record) (batches : List (List Record)) → IsBatch batch → AreFull (batch ∷ batches) → length (frames_text batches) ≡ frames_octets (records_of batches) → length (frames_text (batch ∷ batches)) ≡ frames_octets (records_of (batch ∷ batches))
one_longer batch [] is full so_far = omega (arith, is.some, is.few, frame_long batch, length-append (frame_text batch) [], ap length (append-nil batch), ap (λ (l : List Record). length (records_text l)) (append-nil batch))
one_longer batch (next ∷ batches) is full so_far =
    let more = next ∷ batches in
    omega (arith, full.0, frame_long batch, length-append (frame_text batch) (frames_text more), length-append batch (records_of more), ap length (records_text-append batch (records_of more)), length-append (records_text batch) (records_text (records_of more)), so_far)

pub frames_long : (batches : List (List Record)) → AllByRecursion IsBatch batches → AreFull batches → length (frames_text batches) ≡ frames_octets (records_of batches)
frames_long [] each full = refl
frames_long (batch ∷ batches) each full = one_longer batch batches each.0 full (frames_long batches each.1 (rest_full batch batches full))
