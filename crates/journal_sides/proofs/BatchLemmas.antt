-- Reading the records of a frame one by one.
use Rattle.std.proofs.Common.{◌≡◌, ℕ, ◌+◌, ◌<◌, ◌≤◌, List, [], ◌∷◌, ◌++◌, length, take, drop, Ok, refl, sym, ◌∙◌, ap, subst, arith, append_assoc, take-append-drop, drop-drop, length-append, length-drop}
use Rattle.std.proofs.lemmas.List.{append-nil, take_at, drop_all}
use Rattle.std.specs.List.{AllByRecursion}
use Rattle.pcp_base.specs.declared.records.Record.{Record}
use Rattle.pcp_base.specs.Records.{IsWellFormedRecord}
use Rattle.pcp_base.specs.States.{State}
use Rattle.pcp_base.specs.Apply.{apply, apply_first}
use Rattle.lease_records.specs.RecordTexts.{record_text, IsRecordText, IsReadAgain}
use Rattle.lease_records.specs.Values.{IsValue}
use Rattle.journal_sides.specs.declared.formats.Format.{Format}
use Rattle.journal_sides.specs.declared.formats.Format.TheVariants.{First, Second}
use Rattle.journal_sides.specs.Formats.{AllFitBy, FitsBy, apply_by, apply_all_by}
use Rattle.journal_sides.specs.Frames.{records_text}
use Rattle.journal_sides.specs.Walks.{IsReadBatch, IsNoBatch}
use Rattle.journal_sides.proofs.WalkLaws.{follow_on, fit-back}

records_text-push : (known : List Record) (r : Record) (rest : List ℕ) → records_text (known ++ r ∷ []) ++ rest ≡ records_text known ++ (record_text r ++ rest)
records_text-push [] r rest = ap (λ (l : List ℕ). l ++ rest) (append-nil (record_text r))
records_text-push (k ∷ known) r rest =
    append_assoc (record_text k) (records_text (known ++ r ∷ [])) rest ∙ ap (λ (l : List ℕ). record_text k ++ l) (records_text-push known r rest) ∙ sym (append_assoc (record_text k) (records_text known) (record_text r ++ rest))

values-push : (known : List Record) (r : Record) → AllByRecursion IsValue known → IsValue r → AllByRecursion IsValue (known ++ r ∷ [])
values-push [] r all v = (v, tt)
values-push (k ∷ known) r all v = (all.0, values-push known r all.1 v)

fit-push : (f : Format) (s : State) (known : List Record) (r : Record) → AllFitBy f s known → FitsBy f (apply_all_by f s known) r → AllFitBy f s (known ++ r ∷ [])
fit-push First s [] r all fits = (fits, tt)
fit-push Second s [] r all fits = (fits, tt)
fit-push First s (k ∷ known) r all fits = (all.0, fit-push First (apply_first s k) known r all.1 fits)
fit-push Second s (k ∷ known) r all fits = (all.0, fit-push Second (apply s k) known r all.1 fits)

apply-push : (f : Format) (s : State) (known : List Record) (r : Record) → apply_all_by f s (known ++ r ∷ []) ≡ apply_by f (apply_all_by f s known) r
apply-push First s [] r = refl
apply-push Second s [] r = refl
apply-push First s (k ∷ known) r = apply-push First (apply_first s k) known r
apply-push Second s (k ∷ known) r = apply-push Second (apply s k) known r

fit-head : (f : Format) (s : State) (r : Record) (more : List Record) → AllFitBy f s (r ∷ more) → FitsBy f s r
fit-head First s r more all = all.0
fit-head Second s r more all = all.0

fits_formed : (f : Format) (s : State) (r : Record) → FitsBy f s r → IsWellFormedRecord r
fits_formed First s r fits = fits.formed
fits_formed Second s r fits = fits.formed

-- so many records are read, of so many octets
pub record HasRead (format : Format) (s now : State) (octets : List ℕ) (at count : ℕ) : Type 0 where
  pub known : List Record
  pub values : AllByRecursion IsValue known
  pub fit : AllFitBy format s known
  pub text : octets ≡ records_text known ++ drop at octets
  pub counted : count ≡ length known
  pub few : count ≤ 16
  pub within : at ≤ length octets
  pub leads : now ≡ apply_all_by format s known

pub read_nothing : (f : Format) (s : State) (octets : List ℕ) → HasRead f s s octets 0 0
read_nothing First s octets = record { known = []; values = tt; fit = tt; text = refl; counted = refl; few = omega arith; within = omega arith; leads = refl }
read_nothing Second s octets = record { known = []; values = tt; fit = tt; text = refl; counted = refl; few = omega arith; within = omega arith; leads = refl }

length_more : (known : List Record) (r : Record) → length (known ++ r ∷ []) ≡ length known + 1
length_more known r = omega (arith, length-append known (r ∷ []))

pub read_one : (f : Format) (s mid now : State) (octets : List ℕ) (at count n : ℕ) (r : Record) → HasRead f s mid octets at count → (count ≡ 16 → ⊥) → n ≤ length (drop at octets) → IsRecordText (take n (drop at octets)) r
    → FitsBy f mid r → now ≡ apply_by f mid r → HasRead f s now octets (at + n) (count + 1)
read_one f s mid now octets at count n r so_far few within is fits leads =
    let rest : drop at octets ≡ record_text r ++ drop (at + n) octets =
    sym (take-append-drop n (drop at octets)) ∙ ap (λ (l : List ℕ). l ++ drop n (drop at octets)) is.text ∙ ap (λ (l : List ℕ). record_text r ++ l) (drop-drop n at octets) in
    record {
      known = so_far.known ++ r ∷ [];
      values = values-push so_far.known r so_far.values is.value;
      fit = fit-push f s so_far.known r so_far.fit (subst (λ (t : State). FitsBy f t r) so_far.leads fits);
      text = so_far.text ∙ ap (λ (l : List ℕ). records_text so_far.known ++ l) rest ∙ sym (records_text-push so_far.known r (drop (at + n) octets));
      counted = omega (arith, so_far.counted, length_more so_far.known r);
      few = omega (arith, so_far.few, few);
      within = omega (arith, within, so_far.within, length-drop at octets);
      leads = leads ∙ ap (λ (t : State). apply_by f t r) so_far.leads ∙ sym (apply-push f s so_far.known r);
    }

-- where nothing may come next, no batch that fits has these octets
pub no_batch : (f : Format) (s now : State) (octets : List ℕ) (at count : ℕ) → HasRead f s now octets at count → at < length octets
    → ((r : Record) (rest : List ℕ) → count < 16 → IsRecordText (record_text r) r → FitsBy f now r → drop at octets ≡ record_text r ++ rest → ⊥) → IsNoBatch f s octets
no_batch f s now octets at count so_far some none batch is fit text =
    let on = follow_on so_far.known batch (drop at octets) so_far.values is.values (sym so_far.text ∙ text) in
    next on.more on.is on.values on.left
  where
    next : (more : List Record) → batch ≡ so_far.known ++ more → AllByRecursion IsValue more → drop at octets ≡ records_text more → ⊥
    next [] whole values left = omega (arith, ap length left, length-drop at octets, some)
    next (r ∷ more) whole values left =
        let fits : FitsBy f now r = subst (λ (t : State). FitsBy f t r) (sym so_far.leads) (fit-head f (apply_all_by f s so_far.known) r more (fit-back f s so_far.known (r ∷ more) (subst (AllFitBy f s) whole fit))) in
        none r (records_text more) (omega (arith, ap length whole, length-append so_far.known (r ∷ more), is.few, so_far.counted)) (record { value = values.0; well_formed = fits_formed f now r fits; text = refl }) fits left

pub full : (f : Format) (s now : State) (octets : List ℕ) (at count : ℕ) → HasRead f s now octets at count → at < length octets → count ≡ 16 → IsNoBatch f s octets
full f s now octets at count so_far some is = no_batch f s now octets at count so_far some (λ r rest few text fits left. omega (arith, few, is))

pub unreadable : (f : Format) (s now : State) (octets : List ℕ) (at count : ℕ) → HasRead f s now octets at count → at < length octets → ((r : Record) (n : ℕ) → ¬ (IsRecordText (take n (drop at octets)) r)) → IsNoBatch f s octets
unreadable f s now octets at count so_far some none =
    no_batch f s now octets at count so_far some (λ r rest few text fits left.
    none r (length (record_text r)) (subst (λ (l : List ℕ). IsRecordText l r) (sym (ap (λ (l : List ℕ). take (length (record_text r)) l) left ∙ take_at (record_text r) rest (length (record_text r)) refl)) text))

pub unfit : (f : Format) (s now : State) (octets : List ℕ) (at count : ℕ) (found : Record × ℕ) → HasRead f s now octets at count → at < length octets → IsReadAgain (drop at octets) (Ok found) → ¬ (FitsBy f now found.0) → IsNoBatch f s octets
unfit f s now octets at count found so_far some again none =
    no_batch f s now octets at count so_far some (λ r rest few text fits left.
    let is = again r (record_text r) rest text left in
    let same : found ≡ (r, length (record_text r)) = cc in
    none (subst (FitsBy f now) (sym (ap (λ (x : Record × ℕ). x.0) same)) fits))

pub read_all : (f : Format) (s now : State) (octets : List ℕ) (at count : ℕ) → HasRead f s now octets at count → length octets ≤ at → IsReadBatch f s now octets
read_all f s now octets at count so_far «end» = record {
  batch = so_far.known;
  values = so_far.values;
  few = omega (arith, so_far.few, so_far.counted);
  fit = so_far.fit;
  text = so_far.text ∙ ap (λ (l : List ℕ). records_text so_far.known ++ l) (drop_all at octets «end») ∙ append-nil (records_text so_far.known);
  leads = so_far.leads;
}
