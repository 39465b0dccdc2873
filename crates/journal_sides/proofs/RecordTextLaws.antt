-- Records and their texts.
use Rattle.std.proofs.Common.{◌≡◌, ℕ, zero, suc, ◌+◌, ◌-◌, ◌<◌, ◌≤◌, List, [], ◌∷◌, ◌++◌, length, take, drop, get_or, None, refl, sym, ◌∙◌, ap, subst, arith, append_assoc, drop-drop, length-append, length-drop, length-take, take-append-drop}
use Rattle.std.proofs.lemmas.List.{append-nil, drop_all, take_all, take_at, take_more}
use Rattle.std.specs.List.{AllByRecursion}
use Rattle.pcp_base.specs.declared.records.Record.{Record}
use Rattle.pcp_base.specs.Records.{IsWellFormedRecord}
use Rattle.lease_records.specs.RecordReading.{record_at}
use Rattle.lease_records.specs.RecordTexts.{record_text, IsRecordText}
use Rattle.lease_records.specs.Values.{IsValue}
use Rattle.lease_records.proofs.RecordLaws.{record_again}
use Rattle.journal_sides.specs.Frames.{IsBatch, records_text}
use Rattle.journal_sides.proofs.SizeLemmas.{is_batch}
use Rattle.journal_sides.specs.Texts.{AreBehind, AreTexts, records_at, records_in}

nothing : record_at [] ≡ None
unfolding record_at
nothing = refl

-- texts that are read one by one give their records
records_at-texts : (n : ℕ) (rs : List Record) → length (records_text rs) ≤ n → AllByRecursion IsValue rs → records_at n (records_text rs) ≡ rs
records_at-texts zero [] le all = refl
records_at-texts zero (r ∷ rs) le all = absurd (omega (arith, le, length-append (record_text r) (records_text rs)))
records_at-texts (suc n) [] le all = rw (nothing, records_at) refl
records_at-texts (suc n) (r ∷ rs) le all =
    rw (record_again r (records_text rs) all.0, records_at) (ap (λ (l : List Record). r ∷ l) (records_at-texts n rs (omega (arith, le, length-append (record_text r) (records_text rs))) all.1))

pub texts_in : (octets : List ℕ) (rs : List Record) → AreTexts octets rs → records_in octets ≡ rs
texts_in octets rs is = subst (λ (l : List ℕ). records_at (length l) l ≡ rs) (sym is.text) (records_at-texts (length (records_text rs)) rs (omega arith) is.values)

-- and so octets are the texts of the records that are in them
pub texts_again : (octets : List ℕ) (rs : List Record) → AreTexts octets rs → AreTexts octets (records_in octets)
texts_again octets rs is = subst (AreTexts octets) (sym (texts_in octets rs is)) is

pub no_texts : AreTexts [] []
no_texts = record { text = refl; values = tt; formed = tt }

pub records_text-append : (rs qs : List Record) → records_text (rs ++ qs) ≡ records_text rs ++ records_text qs
records_text-append [] qs = refl
records_text-append (r ∷ rs) qs = ap (λ (l : List ℕ). record_text r ++ l) (records_text-append rs qs) ∙ sym (append_assoc (record_text r) (records_text rs) (records_text qs))

all-append : (P : Record → Type 0) (rs qs : List Record) → AllByRecursion P rs → AllByRecursion P qs → AllByRecursion P (rs ++ qs)
all-append P [] qs one two = two
all-append P (r ∷ rs) qs one two = (one.0, all-append P rs qs one.1 two)

-- the texts of more records
pub texts_append : (a b : List ℕ) (rs qs : List Record) → AreTexts a rs → AreTexts b qs → AreTexts (a ++ b) (rs ++ qs)
texts_append a b rs qs one two = record {
  text = ap (λ (l : List ℕ). l ++ b) one.text ∙ ap (λ (l : List ℕ). records_text rs ++ l) two.text ∙ sym (records_text-append rs qs);
  values = all-append IsValue rs qs one.values two.values;
  formed = all-append IsWellFormedRecord rs qs one.formed two.formed;
}

-- each record of a list that is well formed is
pub formed_at : (rs : List Record) (i : ℕ) (r : Record) → AllByRecursion IsWellFormedRecord rs → i < length rs → r ≡ get_or rs i r → IsWellFormedRecord r
formed_at [] i r all less is = absurd (omega (arith, less))
formed_at (q ∷ rs) zero r all less is = subst IsWellFormedRecord (sym is) all.0
formed_at (q ∷ rs) (suc i) r all less is = formed_at rs i r all.1 (omega (arith, less)) is

-- the text of one record
pub one_text : (r : Record) → IsRecordText (record_text r) r → AreTexts (record_text r) (r ∷ [])
one_text r text = record { text = sym (append-nil (record_text r)); values = (text.value, tt); formed = (text.well_formed, tt) }

-- the text of one more
pub more_texts : (octets : List ℕ) (rs : List Record) (i : ℕ) (r : Record) → AreTexts octets (take i rs) → i < length rs → r ≡ get_or rs i r → IsRecordText (record_text r) r → AreTexts (octets ++ record_text r) (take (i + 1) rs)
more_texts octets rs i r so_far less is text =
    subst (AreTexts (octets ++ record_text r)) (ap (λ (x : Record). take i rs ++ x ∷ []) is ∙ sym (take_more rs i r less)) (texts_append octets (record_text r) (take i rs) (r ∷ []) so_far (one_text r text))

pub texts_before : (a : List ℕ) (r : Record) (rs : List Record) → AreTexts a (r ∷ rs) → a ≡ record_text r ++ records_text rs
texts_before a r rs is = is.text

-- equal records have equal texts, and the other way round
pub same_texts : (a b : List ℕ) → AreTexts a (records_in a) → AreTexts b (records_in b) → records_in a ≡ records_in b → a ≡ b
same_texts a b one two same = one.text ∙ ap records_text same ∙ sym two.text

-- while octets are left there is a next record
pub next_left : (octets : List ℕ) (at : ℕ) (left : List Record) → AreTexts (drop at octets) left → at < length octets → (r : Record) × (rs : List Record) × (left ≡ r ∷ rs)
next_left octets at [] texts less = absurd (omega (arith, ap length texts.text, length-drop at octets, less))
next_left octets at (r ∷ rs) texts less = (r, rs, refl)

-- none is left at the end
pub none_left : (octets : List ℕ) (at : ℕ) (left : List Record) → AreTexts (drop at octets) left → length octets ≤ at → left ≡ []
none_left octets at [] texts done = refl
none_left octets at (r ∷ rs) texts done = absurd (omega (arith, ap length (sym (drop_all at octets done) ∙ texts.text), length-append (record_text r) (records_text rs)))

pub slice_rest : (octets : List ℕ) (at : ℕ) → take (length octets - at) (drop at octets) ≡ drop at octets
slice_rest octets at = take_all (length octets - at) (drop at octets) (omega (arith, length-drop at octets))

-- ---- the texts of the first records

all-front : (P : Record → Type 0) (rs qs : List Record) → AllByRecursion P (rs ++ qs) → AllByRecursion P rs
all-front P [] qs all = tt
all-front P (r ∷ rs) qs all = (all.0, all-front P rs qs all.1)

some_records : (octets : List ℕ) (rs : List Record) → AreTexts octets rs → 0 < length octets → 0 < length rs
some_records octets [] is some = absurd (omega (arith, ap length is.text, some))
some_records octets (r ∷ rs) is some = omega arith

pub behind_none : (octets : List ℕ) (rs : List Record) → AreTexts octets rs → AreBehind octets rs 0 0
behind_none octets rs is = record { within = omega arith; left = is }

-- where no octets are, no record is behind
pub behind_nothing : (octets : List ℕ) → AreTexts octets (records_in octets) → length octets ≡ 0 → AreBehind octets (records_in octets) 1 0
behind_nothing octets is none =
    let empty : records_in octets ≡ [] = none_left octets 0 (records_in octets) is (omega (arith, none)) in
    record {
      within = omega arith;
      left = subst (AreTexts octets) (empty ∙ sym (ap (drop 1) empty)) is;
    }

-- one record more, in a slice from this place on
pub behind_more : (octets : List ℕ) (rs : List Record) (n at : ℕ) → AreBehind octets rs n at → (slice : List ℕ) → slice ≡ drop at octets → (size : ℕ) → AreBehind slice (records_in slice) 1 size → AreBehind octets rs (n + 1) (at + size)
behind_more octets rs n at is slice same size next =
    let told : records_in slice ≡ drop n rs = texts_in slice (drop n rs) (subst (λ (l : List ℕ). AreTexts l (drop n rs)) (sym same) is.left) in
    let left : AreTexts (drop size (drop at octets)) (drop 1 (drop n rs)) =
    subst (λ (l : List ℕ). AreTexts (drop size l) (drop 1 (drop n rs))) same (subst (λ (qs : List Record). AreTexts (drop size slice) (drop 1 qs)) told next.left) in
    record {
      within = omega (arith, next.within, is.within, ap length same, length-drop at octets);
      left = subst (AreTexts (drop (at + size) octets)) (drop-drop 1 n rs) (subst (λ (l : List ℕ). AreTexts l (drop 1 (drop n rs))) (drop-drop size at octets) left);
    }

module _ (octets : List ℕ) (rs : List Record) (is : AreTexts octets rs) (n at : ℕ) (behind : AreBehind octets rs n at) where
  parts : octets ≡ records_text (take n rs) ++ records_text (drop n rs)
  parts = is.text ∙ ap records_text (sym (take-append-drop n rs)) ∙ records_text-append (take n rs) (drop n rs)

  -- in front of the place stand the texts of the first n records
  pub front_texts : AreTexts (take at octets) (take n rs)
  front_texts =
      let size : length (records_text (take n rs)) ≡ at = omega (arith, behind.within, ap length parts, ap length behind.left.text, length-drop at octets, length-append (records_text (take n rs)) (records_text (drop n rs))) in
      let whole : take n rs ++ drop n rs ≡ rs = take-append-drop n rs in
      record {
        text = ap (take at) parts ∙ take_at (records_text (take n rs)) (records_text (drop n rs)) at size;
        values = all-front IsValue (take n rs) (drop n rs) (subst (AllByRecursion IsValue) (sym whole) is.values);
        formed = all-front IsWellFormedRecord (take n rs) (drop n rs) (subst (AllByRecursion IsWellFormedRecord) (sym whole) is.formed);
      }

-- where there are octets, they come at least one further
pub batch_some : (octets : List ℕ) (at : ℕ) → AreTexts octets (records_in octets) → AreBehind octets (records_in octets) 16 at → 0 < length octets → 0 < at
batch_some octets zero is behind some =
    let same : records_in octets ≡ drop 16 (records_in octets) = texts_in octets (drop 16 (records_in octets)) behind.left in
    absurd (omega (arith, ap length same, length-drop 16 (records_in octets), some_records octets (records_in octets) is some))
batch_some octets (suc at) is behind some = omega arith

-- the records of a batch
pub batch_first : (octets : List ℕ) (at : ℕ) → AreTexts octets (records_in octets) → AreBehind octets (records_in octets) 16 at → 0 < length octets → IsBatch (take 16 (records_in octets))
batch_first octets at is behind some =
    let rs = records_in octets in
    is_batch (take 16 rs) (front_texts octets rs is 16 at behind).values (omega (arith, length-take 16 rs, some_records octets rs is some)) (omega (arith, length-take 16 rs))

-- the others are behind the first
pub behind_first : (octets : List ℕ) (r : Record) (rs : List Record) → records_in octets ≡ r ∷ rs → (size : ℕ) → size ≤ length octets → AreTexts (drop size octets) rs → AreBehind octets (records_in octets) 1 size
behind_first octets r rs is size within left = record {
  within = within;
  left = subst (AreTexts (drop size octets)) (sym (ap (drop 1) is)) left;
}
