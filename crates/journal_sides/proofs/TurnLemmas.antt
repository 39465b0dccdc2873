-- What stands in front of octets, frame by frame.
use Rattle.std.proofs.Common.{◌≡◌, ℕ, ◌+◌, ◌<◌, ◌≤◌, List, [], ◌∷◌, ◌++◌, length, take, drop, get_or, refl, sym, ◌∙◌, ap, subst, arith, append_assoc, length-append, length-take, take-append-drop, drop-drop}
use Rattle.std.specs.List.{AllByRecursion}
use Rattle.std.specs.Int.{to_be_bytes, from_be_bytes, w32}
use Rattle.std.proofs.lemmas.List.{append-nil, take_at, drop_at, take-append-le}
use Rattle.std.proofs.lemmas.Nat.{from_be_bytes-to_be_bytes_4, be_bytes_4}
use Rattle.pcp_base.specs.declared.records.Record.{Record}
use Rattle.pcp_base.specs.States.{State}
use Rattle.pcp_base.specs.Apply.{apply, apply_first}
use Rattle.lease_records.specs.RecordTexts.{record_text}
use Rattle.journal_sides.specs.declared.formats.Format.{Format}
use Rattle.journal_sides.specs.declared.formats.Format.TheVariants.{First, Second}
use Rattle.journal_sides.specs.Formats.{AllFitBy, apply_all_by}
use Rattle.journal_sides.specs.Frames.{IsBatch, records_text, frame_text, frames_text, records_of}
use Rattle.journal_sides.specs.Walks.{IsReadBatch, IsNoBatch, IsStuckAt, IsEnded, IsFramed, HasFrames}
use Rattle.journal_sides.proofs.UniqueLaws.{fronts}
use Rattle.journal_sides.proofs.SizeLemmas.{record_some}

pub stuck_nothing : (f : Format) (s : State) → IsStuckAt f s []
stuck_nothing f s = record { not_ended = λ gate behind closed e. omega (arith, ap length e); no_frame = λ batch behind is fit e. omega (arith, ap length e) }

pub ended_at : (octets rest : List ℕ) (gate : ℕ) → octets ≡ gate ∷ rest → (gate ≡ 1 → ⊥) → IsEnded octets
ended_at octets rest gate is closed = record { gate = gate; behind = rest; closed = closed; text = is }

frame_length : (batch : List Record) → length (frame_text batch) ≡ 4 + length (records_text batch)
frame_length batch =
    let four : length (to_be_bytes w32 (length (records_text batch))) ≡ 4 = refl in
    omega (arith, length-append (to_be_bytes w32 (length (records_text batch))) (records_text batch), four)

open_gate : (rest more : List ℕ) (gate : ℕ) (behind : List ℕ) → (gate ≡ 1 → ⊥) → 1 ∷ (rest ++ more) ≡ gate ∷ behind → ⊥
open_gate rest more gate behind closed e = closed (sym (ap (λ (l : List ℕ). get_or l 0 0) e))

pub cut_head : (f : Format) (s : State) (rest : List ℕ) → length rest < 4 → IsStuckAt f s (1 ∷ rest)
cut_head f s rest short = record {
  not_ended = λ gate behind closed e. closed (sym (ap (λ (l : List ℕ). get_or l 0 0) e));
  no_frame = λ batch behind is fit e. omega (arith, ap length e, length-append (frame_text batch) behind, frame_length batch, short);
}

-- the length that a frame tells, and the octets behind it
head_is : (rest more : List ℕ) (batch : List Record) (behind : List ℕ) → IsBatch batch → 4 ≤ length rest → 1 ∷ (rest ++ more) ≡ 1 ∷ (frame_text batch ++ behind)
    → (from_be_bytes w32 (take 4 rest) ≡ length (records_text batch)) × (drop 4 rest ++ more ≡ records_text batch ++ behind)
head_is rest more batch behind is enough e =
    let n = length (records_text batch) in
    let size = to_be_bytes w32 n in
    let whole : take 4 rest ++ (drop 4 rest ++ more) ≡ size ++ (records_text batch ++ behind) =
    sym (append_assoc (take 4 rest) (drop 4 rest) more) ∙ ap (λ (l : List ℕ). l ++ more) (take-append-drop 4 rest) ∙ ap (λ (l : List ℕ). drop 1 l) e ∙ append_assoc size (records_text batch) behind in
    let four : length size ≡ 4 = refl in
    let both = fronts (take 4 rest) size (drop 4 rest ++ more) (records_text batch ++ behind) (omega (arith, length-take 4 rest, enough, four)) whole in
    (ap (from_be_bytes w32) both.0 ∙ from_be_bytes-to_be_bytes_4 n (omega (arith, is.short)), both.1)

records_some : (batch : List Record) → 0 < length batch → 0 < length (records_text batch)
records_some [] some = absurd (omega (arith, some))
records_some (r ∷ batch) some = omega (arith, length-append (record_text r) (records_text batch), record_some r)

module _ (f : Format) (s : State) (rest : List ℕ) (size : ℕ) (enough : 4 ≤ length rest) (is_size : size ≡ from_be_bytes w32 (take 4 rest)) where
  -- no frame has this length
  pub bad_size : ((0 < size) → size ≤ 4096 → ⊥) → (more : List ℕ) → IsStuckAt f s (1 ∷ (rest ++ more))
  bad_size bad more = record {
    not_ended = λ gate behind closed e. open_gate rest more gate behind closed e;
    no_frame = λ batch behind is fit e.
        let n = (head_is rest more batch behind is enough e).0 in
        bad (omega (arith, is_size, n, records_some batch is.some)) (omega (arith, is_size, n, is.short));
  }

  -- the frame is longer than what is there
  pub cut_frame : length (drop 4 rest) < size → IsStuckAt f s (1 ∷ rest)
  cut_frame short = record {
    not_ended = λ gate behind closed e. closed (sym (ap (λ (l : List ℕ). get_or l 0 0) e));
    no_frame = λ batch behind is fit e.
        let whole : 1 ∷ (rest ++ []) ≡ 1 ∷ (frame_text batch ++ behind) = ap (λ (l : List ℕ). 1 ∷ l) (append-nil rest) ∙ e in
        let both = head_is rest [] batch behind is enough whole in
        omega (arith, is_size, both.0, ap length both.1, length-append (drop 4 rest) [], length-append (records_text batch) behind, short);
  }

  module _ (within : size ≤ length (drop 4 rest)) where
    -- its records can't be read, or don't fit
    pub no_records : IsNoBatch f s (take size (drop 4 rest)) → (more : List ℕ) → IsStuckAt f s (1 ∷ (rest ++ more))
    no_records none more = record {
      not_ended = λ gate behind closed e. open_gate rest more gate behind closed e;
      no_frame = λ batch behind is fit e.
          let both = head_is rest more batch behind is enough e in
          none batch is fit
          (sym (take-append-le size (drop 4 rest) more within) ∙ ap (λ (l : List ℕ). take size l) both.1 ∙ take_at (records_text batch) behind size (sym both.0 ∙ sym is_size));
    }

    pub framed : (now : State) → 0 < size → size ≤ 4096 → ((i : ℕ) → get_or (take 4 rest) i 0 < 256) → IsReadBatch f s now (take size (drop 4 rest)) → IsFramed f s now (1 ∷ rest) (5 + size)
    framed now some most bytes read =
        let long : length (records_text read.batch) ≡ size = ap length (sym read.text) ∙ omega (arith, length-take size (drop 4 rest), within) in
        let told : to_be_bytes w32 (length (records_text read.batch)) ≡ take 4 rest = be_bytes_4 (take 4 rest) (length (records_text read.batch)) (omega (arith, length-take 4 rest, enough)) bytes (long ∙ is_size) in
        let front : frame_text read.batch ≡ take 4 rest ++ take size (drop 4 rest) = ap (λ (l : List ℕ). l ++ records_text read.batch) told ∙ ap (λ (l : List ℕ). take 4 rest ++ l) (sym read.text) in
        let split : rest ≡ (take 4 rest ++ take size (drop 4 rest)) ++ drop size (drop 4 rest) =
        sym (append_assoc (take 4 rest) (take size (drop 4 rest)) (drop size (drop 4 rest)) ∙ ap (λ (l : List ℕ). take 4 rest ++ l) (take-append-drop size (drop 4 rest)) ∙ take-append-drop 4 rest) in
        record {
          batch = read.batch;
          is = record { values = read.values; some = nonempty read.batch long; few = read.few; short = omega (arith, long, most) };
          fit = read.fit;
          size = omega (arith, frame_length read.batch, long);
          text = ap (λ (l : List ℕ). 1 ∷ l) (split ∙ ap (λ (l : List ℕ). l ++ drop size (drop 4 rest)) (sym front) ∙ ap (λ (l : List ℕ). frame_text read.batch ++ l) (drop-drop size 4 rest)) ∙ ap (λ (l : List ℕ). (1 ∷ frame_text read.batch) ++ l) (drop-drop (4 + size) 1 (1 ∷ rest) ∙ ap (λ (k : ℕ). drop k (1 ∷ rest)) (omega arith));
          leads = read.leads;
        }
      where
        nonempty : (batch : List Record) → length (records_text batch) ≡ size → 0 < length batch
        nonempty [] is = absurd (omega (arith, is, some))
        nonempty (r ∷ batch) is = omega arith

-- whole frames
apply-join : (f : Format) (s : State) (first second : List Record) → apply_all_by f s (first ++ second) ≡ apply_all_by f (apply_all_by f s first) second
apply-join First s [] second = refl
apply-join Second s [] second = refl
apply-join First s (r ∷ first) second = apply-join First (apply_first s r) first second
apply-join Second s (r ∷ first) second = apply-join Second (apply s r) first second

fit-join : (f : Format) (s : State) (first second : List Record) → AllFitBy f s first → AllFitBy f (apply_all_by f s first) second → AllFitBy f s (first ++ second)
fit-join First s [] second one two = two
fit-join Second s [] second one two = two
fit-join First s (r ∷ first) second one two = (one.0, fit-join First (apply_first s r) first second one.1 two)
fit-join Second s (r ∷ first) second one two = (one.0, fit-join Second (apply s r) first second one.1 two)

each-join : (a b : List (List Record)) → AllByRecursion IsBatch a → AllByRecursion IsBatch b → AllByRecursion IsBatch (a ++ b)
each-join [] b one two = two
each-join (x ∷ a) b one two = (one.0, each-join a b one.1 two)

frames-join : (a b : List (List Record)) → frames_text (a ++ b) ≡ frames_text a ++ frames_text b
frames-join [] b = refl
frames-join (x ∷ a) b = ap (λ (l : List ℕ). 1 ∷ l) (ap (λ (l : List ℕ). frame_text x ++ l) (frames-join a b) ∙ sym (append_assoc (frame_text x) (frames_text a) (frames_text b)))

records-join : (a b : List (List Record)) → records_of (a ++ b) ≡ records_of a ++ records_of b
records-join [] b = refl
records-join (x ∷ a) b = ap (λ (l : List Record). x ++ l) (records-join a b) ∙ sym (append_assoc x (records_of a) (records_of b))

pub no_frames : (f : Format) (s : State) (octets : List ℕ) → HasFrames f s s octets 0
no_frames First s octets = record { batches = []; each = tt; fit = tt; size = refl; text = refl; leads = refl }
no_frames Second s octets = record { batches = []; each = tt; fit = tt; size = refl; text = refl; leads = refl }

pub frames_more : (f : Format) (s mid now : State) (octets : List ℕ) (n m : ℕ) → HasFrames f s mid octets n → HasFrames f mid now (drop n octets) m → HasFrames f s now octets (n + m)
frames_more f s mid now octets n m one two = record {
  batches = one.batches ++ two.batches;
  each = each-join one.batches two.batches one.each two.each;
  fit = subst (AllFitBy f s) (sym (records-join one.batches two.batches)) (fit-join f s (records_of one.batches) (records_of two.batches) one.fit (subst (λ (t : State). AllFitBy f t (records_of two.batches)) one.leads two.fit));
  size = omega (arith, one.size, two.size, ap length (frames-join one.batches two.batches), length-append (frames_text one.batches) (frames_text two.batches));
  text = one.text ∙ ap (λ (l : List ℕ). frames_text one.batches ++ l) (two.text ∙ ap (λ (l : List ℕ). frames_text two.batches ++ l) (drop-drop m n octets)) ∙ sym (append_assoc (frames_text one.batches) (frames_text two.batches) (drop (n + m) octets)) ∙ ap (λ (l : List ℕ). l ++ drop (n + m) octets) (sym (frames-join one.batches two.batches));
  leads = two.leads ∙ ap (λ (t : State). apply_all_by f t (records_of two.batches)) one.leads ∙ sym (apply-join f s (records_of one.batches) (records_of two.batches)) ∙ ap (apply_all_by f s) (sym (records-join one.batches two.batches));
}

-- one frame more
pub frame_more : (f : Format) (s mid now : State) (octets : List ℕ) (n m : ℕ) → HasFrames f s mid octets n → IsFramed f mid now (drop n octets) m → HasFrames f s now octets (n + m)
frame_more f s mid now octets n m one two = frames_more f s mid now octets n m one (record {
  batches = two.batch ∷ [];
  each = (two.is, tt);
  fit = subst (AllFitBy f mid) (sym (append-nil two.batch)) two.fit;
  size = omega (arith, two.size, length-append (frame_text two.batch) []);
  text = two.text ∙ ap (λ (l : List ℕ). (1 ∷ l) ++ drop m (drop n octets)) (sym (append-nil (frame_text two.batch)));
  leads = two.leads ∙ ap (apply_all_by f mid) (sym (append-nil two.batch));
})

-- frames in a piece are frames in the whole
pub frames_behind : (f : Format) (s now : State) (octets more : List ℕ) (n : ℕ) → n ≤ length octets → HasFrames f s now octets n → HasFrames f s now (octets ++ more) n
frames_behind f s now octets more n within one = record {
  batches = one.batches;
  each = one.each;
  fit = one.fit;
  size = one.size;
  text = ap (λ (l : List ℕ). l ++ more) one.text ∙ append_assoc (frames_text one.batches) (drop n octets) more ∙ ap (λ (l : List ℕ). frames_text one.batches ++ l) (sym (drop_front n octets more within));
  leads = one.leads;
}
  where
    drop_front : (n : ℕ) (octets more : List ℕ) → n ≤ length octets → drop n (octets ++ more) ≡ drop n octets ++ more
    drop_front n octets more within =
        ap (λ (l : List ℕ). drop n (l ++ more)) (sym (take-append-drop n octets)) ∙ ap (drop n) (append_assoc (take n octets) (drop n octets) more) ∙ drop_at (take n octets) (drop n octets ++ more) n (omega (arith, length-take n octets, within))
