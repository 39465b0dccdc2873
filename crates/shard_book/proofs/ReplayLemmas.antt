-- Handing the records of texts to a replay one by one.
use Rattle.std.proofs.Common.{◌≡◌, ℕ, ◌<◌, ◌≤◌, List, [], ◌∷◌, ◌++◌, length, drop, sym, ◌∙◌, ap, arith, length-drop, length-append}
use Rattle.std.proofs.lemmas.List.{drop_all}
use Rattle.pcp_base.specs.declared.records.Record.{Record}
use Rattle.pcp_base.specs.States.{State}
use Rattle.pcp_base.specs.Apply.{apply, apply_all}
use Rattle.pcp_base.specs.Fits.{AllFit, Fits}
use Rattle.lease_records.specs.RecordTexts.{record_text}
use Rattle.journal_sides.specs.Frames.{records_text}
use Rattle.journal_sides.specs.Texts.{AreTexts}

-- the octets from this place on are the texts of records that fit, with which the state becomes that
-- of all
pub record AreLeft (octets : List ℕ) (at : ℕ) (first now : State) (all : List Record) : Type 0 where
  pub left : List Record
  pub texts : AreTexts (drop at octets) left
  pub fit : AllFit now left
  pub leads : apply_all now left ≡ apply_all first all

-- while octets are left there is a next record
pub record HasNextRecord (octets : List ℕ) (at : ℕ) (first now : State) (all : List Record) : Type 0 where
  pub r : Record
  pub rs : List Record
  pub texts : AreTexts (drop at octets) (r ∷ rs)
  pub fits : Fits now r
  pub fit : AllFit (apply now r) rs
  pub leads : apply_all (apply now r) rs ≡ apply_all first all

pub has_next : (octets : List ℕ) (at : ℕ) (first now : State) (all : List Record) → AreLeft octets at first now all → at < length octets → HasNextRecord octets at first now all
has_next octets at first now all is less = by is.left is.texts is.fit is.leads
  where
    by : (left : List Record) → AreTexts (drop at octets) left → AllFit now left → apply_all now left ≡ apply_all first all → HasNextRecord octets at first now all
    by [] texts fit leads = absurd (omega (arith, ap length texts.text, length-drop at octets, less))
    by (r ∷ rs) texts fit leads = record { r = r; rs = rs; texts = texts; fits = fit.0; fit = fit.1; leads = leads }

-- none is left at the end
pub all_read : (octets : List ℕ) (at : ℕ) (first now : State) (all : List Record) → AreLeft octets at first now all → length octets ≤ at → now ≡ apply_all first all
all_read octets at first now all is done = by is.left is.texts is.leads
  where
    by : (left : List Record) → AreTexts (drop at octets) left → apply_all now left ≡ apply_all first all → now ≡ apply_all first all
    by [] texts leads = leads
    by (r ∷ rs) texts leads = absurd (omega (arith, ap length (sym (drop_all at octets done) ∙ texts.text), length-append (record_text r) (records_text rs)))

-- from this place on the octets are the texts of those records that weren't read yet
pub record AreRead (octets : List ℕ) (at : ℕ) (read all : List Record) : Type 0 where
  pub left : List Record
  pub texts : AreTexts (drop at octets) left
  pub whole : read ++ left ≡ all
