-- The records of a history, from the front.
use Rattle.std.specs.List.{cons_option, slice_get}
use Rattle.std.proofs.Common.{◌≡◌, ◌∙◌, ℕ, zero, suc, List, [], ◌∷◌, ◌++◌, take, Option, Some, None}
use Rattle.std.proofs.Common.{refl, ap, sym}
use Rattle.pcp_base.specs.declared.datagrams.Entry.{Entry}
use Rattle.pcp_base.specs.declared.records.Record.{Record}
use Rattle.pcp_base.specs.Apply.{apply, apply_all, table_changed}
use Rattle.pcp_base.specs.States.{State}
use Rattle.pcp_base.specs.Tables.{Table, live}
use Rattle.lease_histories.specs.Legal.{records_of}

-- ---- what records do to a table and to the last moment depends on these two alone

pub record AreAlike (a b : State) : Type 0 where
  pub table : a.table ≡ b.table
  pub last : a.last ≡ b.last

pub apply-alike : (r : Record) (a b : State) → AreAlike a b → AreAlike (apply a r) (apply b r)
apply-alike r a b same =
    record {
      table = ap (λ (x : Table). table_changed r.change (live x r.moment)) same.table;
      last = refl;
    }

pub all-alike : (rs : List Record) (a b : State) → AreAlike a b →
    AreAlike (apply_all a rs) (apply_all b rs)
all-alike [] a b same = same
all-alike (r ∷ rs) a b same = all-alike rs (apply a r) (apply b r) (apply-alike r a b same)

-- ---- lists

pub record IsAt {X : Type 0} (xs : List X) (k : ℕ) (x : X) : Type 0 where
  pub more : List X
  pub is : xs ≡ take k xs ++ x ∷ more

pub at-place : {X : Type 0} (xs : List X) (k : ℕ) (x : X) → slice_get xs k ≡ Some x → IsAt xs k x
at-place [] k x h = absurd cc
at-place (y ∷ xs) zero x h =
    let same : y ≡ x = cc in record { more = xs; is = ap (λ z. z ∷ xs) same }
at-place (y ∷ xs) (suc k) x h =
    let rest = at-place xs k x h in record { more = rest.more; is = ap (λ l. y ∷ l) rest.is }

-- ---- where a record stands

-- the entry of a record, and those before it
pub record IsEntryOf (log : List Entry) (before : List Record) (r : Record) : Type 0 where
  pub head : List Entry
  pub entry : Entry
  pub rest : List Entry
  pub log_is : log ≡ head ++ entry ∷ rest
  pub before_is : records_of head ≡ before
  pub kept_is : entry.kept ≡ Some r

later-entry : (e : Entry) (log : List Entry) (before all : List Record) (r : Record) →
    cons_option e.kept before ≡ all → IsEntryOf log before r → IsEntryOf (e ∷ log) all r
later-entry e log before all r same at =
    record {
      head = e ∷ at.head;
      entry = at.entry;
      rest = at.rest;
      log_is = ap (λ (l : List Entry). e ∷ l) at.log_is;
      before_is = ap (λ (l : List Record). cons_option e.kept l) at.before_is ∙ same;
      kept_is = at.kept_is;
    }

pub entry-of : (log : List Entry) (before : List Record) (r : Record) (more : List Record) →
    records_of log ≡ before ++ r ∷ more → IsEntryOf log before r
entry-of [] [] r more h = absurd cc
entry-of [] (x ∷ before) r more h = absurd cc
entry-of (e ∷ log) before r more h = by e.kept refl (entry-of log) before h
  where
    by : (kept : Option Record) → e.kept ≡ kept →
        ((b : List Record) (q : Record) (m : List Record) → records_of log ≡ b ++ q ∷ m →
        IsEntryOf log b q) →
        (b : List Record) → records_of (e ∷ log) ≡ b ++ r ∷ more → IsEntryOf (e ∷ log) b r
    by None is go b h =
        let same : records_of log ≡ b ++ r ∷ more =
        sym (ap (λ (o : Option Record). cons_option o (records_of log)) is) ∙ h in
        later-entry e log b b r (ap (λ (o : Option Record). cons_option o b) is) (go b r more same)
    by (Some q) is go [] h =
        let same : q ∷ records_of log ≡ r ∷ more =
        sym (ap (λ (o : Option Record). cons_option o (records_of log)) is) ∙ h in
        let one : q ≡ r = cc in
        record {
          head = [];
          entry = e;
          rest = log;
          log_is = refl;
          before_is = refl;
          kept_is = is
              ∙ ap Some one;
        }
    by (Some q) is go (x ∷ b) h =
        let same : q ∷ records_of log ≡ x ∷ (b ++ r ∷ more) =
        sym (ap (λ (o : Option Record). cons_option o (records_of log)) is) ∙ h in
        let one : q ≡ x = cc in
        let rest : records_of log ≡ b ++ r ∷ more = cc in
        later-entry e log b (x ∷ b) r
        (ap (λ (o : Option Record). cons_option o b) is ∙ ap (λ (y : Record). y ∷ b) one)
        (go b r more rest)

-- ---- first records are those of first entries

pub record AreFirst (log : List Entry) (before : List Record) : Type 0 where
  pub first : List Entry
  pub more : List Entry
  pub log_is : log ≡ first ++ more
  pub before_is : before ≡ records_of first

later-first : (e : Entry) (log : List Entry) (before all : List Record) →
    cons_option e.kept before ≡ all → AreFirst log before → AreFirst (e ∷ log) all
later-first e log before all same are =
    record {
      first = e ∷ are.first;
      more = are.more;
      log_is = ap (λ (l : List Entry). e ∷ l) are.log_is;
      before_is = sym same ∙ ap (λ (l : List Record). cons_option e.kept l) are.before_is;
    }

pub first-of : (log : List Entry) (before more : List Record) → records_of log ≡ before ++ more →
    AreFirst log before
first-of log [] more h = record { first = []; more = log; log_is = refl; before_is = refl }
first-of [] (x ∷ before) more h = absurd cc
first-of (e ∷ log) (x ∷ before) more h = by e.kept refl (first-of log)
  where
    by : (kept : Option Record) → e.kept ≡ kept →
        ((b m : List Record) → records_of log ≡ b ++ m → AreFirst log b) →
        AreFirst (e ∷ log) (x ∷ before)
    by None is go =
        let same : records_of log ≡ x ∷ (before ++ more) =
        sym (ap (λ (o : Option Record). cons_option o (records_of log)) is) ∙ h in
        later-first e log (x ∷ before) (x ∷ before)
        (ap (λ (o : Option Record). cons_option o (x ∷ before)) is) (go (x ∷ before) more same)
    by (Some q) is go =
        let same : q ∷ records_of log ≡ x ∷ (before ++ more) =
        sym (ap (λ (o : Option Record). cons_option o (records_of log)) is) ∙ h in
        let one : q ≡ x = cc in
        let rest : records_of log ≡ before ++ more = cc in
        later-first e log before (x ∷ before)
        (ap (λ (o : Option Record). cons_option o before) is
        ∙ ap (λ (y : Record). y ∷ before) one) (go before more rest)
