-- What a call on one book leaves of a house.
use Rattle.std.specs.Prelude.{slice_set, Result, Ok, Err}
use Rattle.std.specs.List.{slice_get}
use Rattle.std.specs.Option.{option_map}
use Rattle.std.proofs.Common.{◌≡◌, ◌∙◌, ℕ, ◌<◌, List, ◌⊎◌, length, map, Option, Some, None, refl, ap, sym, subst, inl, inr, arith}
use Rattle.pcp_base.specs.declared.addresses.Address.{Address}
use Rattle.pcp_base.specs.declared.asks.Ask.{Ask}
use Rattle.pcp_base.specs.declared.configs.Config.{Config}
use Rattle.pcp_base.specs.declared.configs.External.{External}
use Rattle.lease_store.specs.declared.terms.Terms.{Terms}
use Rattle.lease_store.specs.LeaseTerms.{terms_of}
use Rattle.lease_disk.specs.declared.disks.DiskPair.{DiskPair}
use Rattle.lease_disk.specs.Pairs.{PairHasCause}
use Rattle.lease_journal.proofs.ShutLaws.{cause_on}
use Rattle.journal_sides.specs.declared.errors.JournalFault.{JournalFault}
use Rattle.journal_sides.specs.declared.errors.JournalFault.TheVariants as Journals
use Rattle.shard_book.specs.declared.batches.DatedAnswer.{DatedAnswer}
use Rattle.shard_book.specs.Books.{BookView, IsBook}
use Rattle.lease_house.specs.declared.faults.HouseFault.TheVariants.{Disk}
use Rattle.lease_house.specs.BookCalls.{AnswersAsk, ChangesAt, IsSettledIn, StaysBook}
use Rattle.lease_house.specs.SoloCalls.{SettlesAt, fault_at, told_at}
use Rattle.lease_house.specs.SoloHouses.{ChangesBook, HaveCauses, HouseView, IsHouse}
use Rattle.lease_house.proofs.ListLemmas.{All-put, get-map, get-map-back, get-put, get-within, length-map, length-put, map-put-same, put-at, within-get}

abbrev pub house-of : {D : Type 0} → Config → List (BookView D) → List (DiskPair D) → HouseView D
house-of config books spare = record { config = config; books = books; spare = spare }

pub changes-of : {D : Type 0} (h : HouseView D) (config : Config) (books new : List (BookView D)) (spare : List (DiskPair D)) (place : ℕ) (b c : BookView D) →
    house-of config books spare ≡ h → slice_get books place ≡ Some b → new ≡ slice_set books place c → ChangesBook place b c h (house-of config new spare)
changes-of {D} h config books new spare place b c same there is =
    subst (λ (v : HouseView D). ChangesBook place b c v (house-of config new spare)) same
    (record { there = there; new_is = ap (λ (bs : List (BookView D)). house-of config bs spare) is })

pub house-stays : {D : Type 0} (tells : Type 0) (seen : D → List ℕ) (may_leave : D → List ℕ → Type 0) (old new : HouseView D) (place : ℕ) (b c : BookView D) →
    IsHouse tells seen may_leave old → ChangesBook place b c old new → c.terms ≡ b.terms → IsBook tells seen may_leave c → IsHouse tells seen may_leave new
house-stays {D} tells seen may_leave old new place b c is changes same book =
    subst (λ (v : HouseView D). IsHouse tells seen may_leave v) (sym changes.new_is) (record {
      config = is.config;
      terms = map-put-same (λ (x : BookView D). x.terms) old.books place b c changes.there same ∙ is.terms;
      books = All-put (IsBook tells seen may_leave) old.books place c is.books book;
    })

pub book-count : {D : Type 0} (tells : Type 0) (seen : D → List ℕ) (may_leave : D → List ℕ → Type 0) (h : HouseView D) →
    IsHouse tells seen may_leave h → length h.books ≡ length h.config.externals
book-count {D} tells seen may_leave h is =
    sym (length-map (λ (b : BookView D). b.terms) h.books) ∙ ap (λ (ts : List Terms). length ts) is.terms ∙ length-map (λ (x : External). terms_of x h.config) h.config.externals

-- the terms of each book are those of its external address
pub on-terms : {D : Type 0} (tells : Type 0) (seen : D → List ℕ) (may_leave : D → List ℕ → Type 0) (h : HouseView D) (place : ℕ) (b : BookView D) →
    IsHouse tells seen may_leave h → slice_get h.books place ≡ Some b → terms_of b.terms.external h.config ≡ b.terms
on-terms {D} tells seen may_leave h place b is there =
    let at : slice_get (map (λ (x : External). terms_of x h.config) h.config.externals) place ≡ Some b.terms =
    ap (λ (ts : List Terms). slice_get ts place) (sym is.terms) ∙ get-map (λ (x : BookView D). x.terms) h.books place b there in
    let found = get-map-back (λ (x : External). terms_of x h.config) h.config.externals place b.terms at in
    ap (λ (t : Terms). terms_of t.external h.config) (sym found.2) ∙ found.2

-- and so is its address
address-of : {D : Type 0} (tells : Type 0) (seen : D → List ℕ) (may_leave : D → List ℕ → Type 0) (h : HouseView D) (place : ℕ) (b : BookView D) (address : Address) →
    IsHouse tells seen may_leave h → slice_get h.books place ≡ Some b →
    option_map (λ (x : External). x.address) (slice_get h.config.externals place) ≡ Some address → address ≡ b.terms.external.address
address-of {D} tells seen may_leave h place b address is there told =
    let at : slice_get (map (λ (x : External). terms_of x h.config) h.config.externals) place ≡ Some b.terms =
    ap (λ (ts : List Terms). slice_get ts place) (sym is.terms) ∙ get-map (λ (x : BookView D). x.terms) h.books place b there in
    let found = get-map-back (λ (x : External). terms_of x h.config) h.config.externals place b.terms at in
    let known : Some found.0.address ≡ Some address = ap (λ (o : Option External). option_map (λ (x : External). x.address) o) (sym found.1) ∙ told in
    let same : found.0.address ≡ address = cc in
    sym same ∙ ap (λ (t : Terms). t.external.address) found.2

-- the external address to which a request goes is that of the book that answered it
pub answered-address : {D : Type 0} (tells : Type 0) (seen : D → List ℕ) (moment : D → ℕ) (left_since : D → ℕ → List ℕ → Type 0) (may_leave : D → List ℕ → Type 0)
    (now place : ℕ) (ask : Ask) (old new : HouseView D) (answer : DatedAnswer) (address : Address) →
    (a : AnswersAsk tells moment left_since may_leave now place ask old new answer) → IsHouse tells seen may_leave new →
    option_map (λ (x : External). x.address) (slice_get old.config.externals place) ≡ Some address → address ≡ a.book.terms.external.address
answered-address {D} tells seen moment left_since may_leave now place ask old new answer address a is told =
    let configured : new.config ≡ old.config = ap (λ (h : HouseView D). h.config) a.changes.new_is ∙ ap (λ (h : HouseView D). h.config) a.settles.changes.new_is in
    let there : slice_get new.books place ≡ Some a.kept_book =
    ap (λ (h : HouseView D). slice_get h.books place) a.changes.new_is ∙ put-at a.mid.books place a.book a.kept_book a.changes.there in
    address-of tells seen may_leave new place a.kept_book address is there
    (ap (λ (x : Config). option_map (λ (y : External). y.address) (slice_get x.externals place)) configured ∙ told)
    ∙ ap (λ (t : Terms). t.external.address) a.keeps.terms

-- ---- causes

weaker-cause : {D : Type 0} (faults : D → ℕ) (p q : DiskPair D) (A B : Type 0) → PairHasCause faults p q A → (B → A) → PairHasCause faults p q B
weaker-cause faults p q A B has gives = record { later_a = has.later_a; later_b = has.later_b; risen = λ b. has.risen (gives b) }

pub same-cause : {D : Type 0} (faults : D → ℕ) (p : DiskPair D) (A : Type 0) → (A → ⊥) → PairHasCause faults p p A
same-cause faults p A none = record { later_a = omega arith; later_b = omega arith; risen = λ a. absurd (none a) }

pub causes-at : {D : Type 0} (faults : D → ℕ) (fails : ℕ → Type 0) (cause : Type 0) (old new : HouseView D) (place : ℕ) (b c : BookView D) →
    ChangesBook place b c old new → PairHasCause faults b.journal.pair c.journal.pair cause → ((p : ℕ) → fails p → (p ≡ place) × cause) →
    HaveCauses faults old new fails
causes-at {D} faults fails cause old new place b c changes has each = λ p x y there now.
    let at : slice_get (slice_set old.books place c) p ≡ Some y = ap (λ (h : HouseView D). slice_get h.books p) (sym changes.new_is) ∙ now in
    by p x y there (get-put old.books place p b c y changes.there at)
  where
    by : (p : ℕ) (x y : BookView D) → slice_get old.books p ≡ Some x → ((p ≡ place) × (c ≡ y)) ⊎ ((¬ (p ≡ place)) × (slice_get old.books p ≡ Some y)) →
        PairHasCause faults x.journal.pair y.journal.pair (fails p)
    by p x y there (inl same) =
        let met : Some b ≡ Some x = sym changes.there ∙ ap (λ n. slice_get old.books n) (sym same.0) ∙ there in
        let here : b ≡ x = cc in
        subst (λ (v : BookView D). PairHasCause faults v.journal.pair y.journal.pair (fails p)) here
        (subst (λ (v : BookView D). PairHasCause faults b.journal.pair v.journal.pair (fails p)) same.1
        (weaker-cause faults b.journal.pair c.journal.pair cause (fails p) has (λ f. (each p f).1)))
    by p x y there (inr other) =
        let met : Some x ≡ Some y = sym there ∙ other.1 in
        let here : x ≡ y = cc in
        subst (λ (v : BookView D). PairHasCause faults x.journal.pair v.journal.pair (fails p)) here
        (same-cause faults x.journal.pair (fails p) (λ f. other.0 (each p f).0))

pub causes-on : {D : Type 0} (faults : D → ℕ) (F G : ℕ → Type 0) (old mid new : HouseView D) → length mid.books ≡ length old.books →
    HaveCauses faults old mid F → HaveCauses faults mid new G → HaveCauses faults old new G
causes-on faults F G old mid new long first second = λ p x y there now.
    let inside : p < length old.books = get-within old.books p x there in
    let z = within-get mid.books p (omega (arith, inside, long)) in
    cause_on faults x.journal.pair z.0.journal.pair y.journal.pair (F p) (G p) (first p x z.0 there z.1) (second p z.0 y z.1 now)

pub no-causes : {D : Type 0} (faults : D → ℕ) (fails : ℕ → Type 0) (old new : HouseView D) → new ≡ old → ((p : ℕ) → fails p → ⊥) → HaveCauses faults old new fails
no-causes {D} faults fails old new same none = λ p x y there now.
    let met : Some x ≡ Some y = sym there ∙ ap (λ (h : HouseView D). slice_get h.books p) (sym same) ∙ now in
    let here : x ≡ y = cc in
    subst (λ (v : BookView D). PairHasCause faults x.journal.pair v.journal.pair (fails p)) here
    (same-cause faults x.journal.pair (fails p) (none p))

pub weaker-causes : {D : Type 0} (faults : D → ℕ) (F G : ℕ → Type 0) (old new : HouseView D) → HaveCauses faults old new F → ((p : ℕ) → G p → F p) → HaveCauses faults old new G
weaker-causes faults F G old new has gives = λ p x y there now.
    weaker-cause faults x.journal.pair y.journal.pair (F p) (G p) (has p x y there now) (gives p)

pub fault-disk : (place p : ℕ) (fault : JournalFault) → fault_at place fault ≡ Disk p → (p ≡ place) × (fault ≡ Journals.Disk)
fault-disk place p Journals.Disk h = (cc, refl)
fault-disk place p Journals.Memory h = absurd cc

-- ---- a settled book

pub settled-count : {D : Type 0} (tells : Type 0) (moment : D → ℕ) (left_since : D → ℕ → List ℕ → Type 0) (may_leave : D → List ℕ → Type 0) (now place : ℕ) (old mid : HouseView D) →
    SettlesAt tells moment left_since may_leave now place old mid → length mid.books ≡ length old.books
settled-count {D} tells moment left_since may_leave now place old mid is =
    ap (λ (h : HouseView D). length h.books) is.changes.new_is ∙ length-put old.books place is.settled_book

pub settled-in : {D : Type 0} (tells : Type 0) (moment : D → ℕ) (left_since : D → ℕ → List ℕ → Type 0) (may_leave : D → List ℕ → Type 0) (now place : ℕ) (old mid : HouseView D) →
    SettlesAt tells moment left_since may_leave now place old mid → IsSettledIn place mid.books
settled-in {D} tells moment left_since may_leave now place old mid is = λ b there.
    let at : slice_get mid.books place ≡ Some is.settled_book =
    ap (λ (h : HouseView D). slice_get h.books place) is.changes.new_is ∙ put-at old.books place is.book is.settled_book is.changes.there in
    let met : Some is.settled_book ≡ Some b = sym at ∙ there in
    let here : is.settled_book ≡ b = cc in
    subst (λ (v : BookView D). v.fault ≡ None) here is.settles.fault

-- ---- a call on one book of a house

pub failed-at : {T : Type 0} (place p : ℕ) (told : Result T JournalFault) → told_at place told ≡ Err (Disk p) → (p ≡ place) × (told ≡ Err Journals.Disk)
failed-at place p (Ok x) h = absurd cc
failed-at {T} place p (Err fault) h =
    let e : fault_at place fault ≡ Disk p = cc in
    let found = fault-disk place p fault e in
    (found.0, ap (λ (f : JournalFault). Err f) found.1)

-- the house after a call that changed the book at this place alone, and how
pub record After {D T : Type 0} (tells : Type 0) (seen : D → List ℕ) (may_leave : D → List ℕ → Type 0) (faults : D → ℕ) (place : ℕ) (told : Result T JournalFault)
    (old new : HouseView D) (How : BookView D → BookView D → Type 0) : Type 0 where
  pub before : BookView D
  pub after : BookView D
  pub changes : ChangesBook place before after old new
  pub how : How before after
  pub house : IsHouse tells seen may_leave new
  pub cause : HaveCauses faults old new (λ p. told_at place told ≡ Err (Disk p))

pub after-call : {D T : Type 0} (tells : Type 0) (seen : D → List ℕ) (may_leave : D → List ℕ → Type 0) (faults : D → ℕ) (place : ℕ) (told : Result T JournalFault)
    (old : HouseView D) (config : Config) (books new : List (BookView D)) (spare : List (DiskPair D)) (How : BookView D → BookView D → Type 0) →
    house-of config books spare ≡ old → IsHouse tells seen may_leave (house-of config books spare) →
    ChangesAt place books new (λ b c. StaysBook tells seen may_leave faults (told ≡ Err Journals.Disk) b c × How b c) →
    After tells seen may_leave faults place told old (house-of config new spare) How
after-call {D} {T} tells seen may_leave faults place told old config books new spare How same is at =
    let changes : ChangesBook place at.before at.after old (house-of config new spare) = changes-of old config books new spare place at.before at.after same at.was at.is in
    let stays : StaysBook tells seen may_leave faults (told ≡ Err Journals.Disk) at.before at.after = at.how.0 in
    record {
      before = at.before;
      after = at.after;
      changes = changes;
      how = at.how.1;
      house = house-stays tells seen may_leave old (house-of config new spare) place at.before at.after
          (subst (λ (h : HouseView D). IsHouse tells seen may_leave h) same is) changes stays.terms stays.book;
      cause = causes-at faults (λ p. told_at place told ≡ Err (Disk p)) (told ≡ Err Journals.Disk) old (house-of config new spare) place at.before at.after changes stays.cause
          (λ p h. failed-at place p told h);
    }
