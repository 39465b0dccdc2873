use Rattle.std.proofs.Common.{◌≡◌, ℕ, List, ◌∷◌, Ok, drop, length, sym, ap, refl, ◌∙◌}
use Rattle.std.proofs.lemmas.List.{drop_at}
use Rattle.pcp_base.specs.declared.records.Record.{Record}
use Rattle.lease_records.specs.RecordTexts.{IsReadAgain, IsRecordText, record_text}
use Rattle.journal_sides.specs.Frames.{records_text}
use Rattle.journal_sides.specs.Texts.{AreTexts}
use Rattle.journal_sides.proofs.texts.read_first.Goals as goal

first_text : (texts : List ℕ) (r : Record) (rs : List Record) → AreTexts texts (r ∷ rs) → IsRecordText (record_text r) r
first_text texts r rs is = record { value = is.values.0; well_formed = is.formed.0; text = refl }

rest_texts : (texts : List ℕ) (r : Record) (rs : List Record) (n : ℕ) → AreTexts texts (r ∷ rs) → n ≡ length (record_text r) → AreTexts (drop n texts) rs
rest_texts texts r rs n is size = record {
  text = ap (λ (l : List ℕ). drop n l) is.text ∙ drop_at (record_text r) (records_text rs) n (sym size);
  values = is.values.1;
  formed = is.formed.1;
}

read_is : (octets : List ℕ) (x : Record × ℕ) (r : Record) (rs : List Record) → IsReadAgain octets (Ok x) → AreTexts octets (r ∷ rs) → (x.0 ≡ r) × (x.1 ≡ length (record_text r))
read_is octets x r rs again is =
    let told = again r (record_text r) (records_text rs) (first_text octets r rs is) is.text in
    let same : x ≡ (r, length (record_text r)) = cc in
    (ap (λ (y : Record × ℕ). y.0) same, ap (λ (y : Record × ℕ). y.1) same)

pub unreachable-requires : goal.unreachable-requires
unreachable-requires c =
    let r = c.requires.0 in
    let rs = c.requires.1 in
    let is = c.requires.2 in
    let again = c.read_record.ensures.again r (record_text r) (records_text rs) (first_text c.args.texts.now r rs is) is.text in
    cc

pub returns-clause-first : goal.returns-clause-first
returns-clause-first c r rs is =
    let both = read_is c.args.texts.now c.in-Ok.first r rs c.in-Ok.ensures.again is in
    (both.0, rest_texts c.args.texts.now r rs c.in-Ok.first.1 is both.1)
