-- Books that are opened one after the other.
use Rattle.std.proofs.Common.{◌≡◌, ◌≤◌, ◌<◌, ◌+◌, ℕ, List, [], ◌∷◌, ◌++◌, inl, get_or, drop, length, map, refl, subst, sym, ap, ◌∙◌, arith, append_assoc}
use Rattle.std.proofs.Math.ListN.{drop_of_length-le}
use Rattle.std.proofs.lemmas.List.{append-nil, drop_more, length-append}
use Rattle.std.specs.List.{AllByRecursion, remove}
use Rattle.pcp_base.specs.declared.configs.Config.{Config}
use Rattle.pcp_base.specs.declared.configs.External.{External}
use Rattle.pcp_base.specs.Configs.{IsConfig}
use Rattle.lease_disk.specs.declared.disks.DiskPair.{DiskPair}
use Rattle.lease_store.specs.declared.terms.Terms.{Terms}
use Rattle.lease_store.specs.LeaseTerms.{terms_of}
use Rattle.lease_journal.specs.declared.errors.Found.{Found}
use Rattle.shard_book.specs.Books.{BookView, IsBook}
use Rattle.shard_book.specs.Openings.{IsOpened}
use Rattle.lease_house.specs.declared.faults.HouseFault.{HouseFault}
use Rattle.lease_house.specs.declared.faults.HouseFault.TheVariants.{Disk}
use Rattle.lease_house.specs.SoloCalls.{fault_at}
use Rattle.lease_house.specs.SoloHouses.{IsHouse}
use Rattle.lease_house.specs.SoloOpenings.{AreFound, HandsBackAll, HandsBackOne, OpensAll, OpensOne}
use Rattle.lease_house.specs.Turns.{OpensNext, RefusesNext}
use Rattle.lease_house.proofs.HandingBack.{IsFrom, fault_is_there, refused_one, untouched}

abbrev pub pairs_of : {D : Type 0} → List (BookView D) → List (DiskPair D)
pairs_of books = map (λ b. b.journal.pair) books

-- after books were opened for the external addresses before the rest
pub record IsUnderway {D : Type 0} (tells : Type 0) (seen : D → List ℕ) (moment : D → ℕ) (left_since : D → ℕ → List ℕ → Type 0) (may_leave : D → List ℕ → Type 0) (faults : D → ℕ)
    (config : Config) (m : ℕ) (xs : List External) (start : List (DiskPair D)) (rest : List External) (place : ℕ) (books : List (BookView D)) (founds : List Found) (pairs : List (DiskPair D)) : Type 0 where
  pub opens : (more : List (BookView D)) (spare : List (DiskPair D)) → OpensAll tells seen moment left_since may_leave faults config m rest pairs more spare
      → OpensAll tells seen moment left_since may_leave faults config m xs start (books ++ more) spare
  pub found : (more : List (BookView D)) (others : List Found) → AreFound tells seen config m rest pairs more others
      → AreFound tells seen config m xs start (books ++ more) (founds ++ others)
  pub hands : (fault : HouseFault) (new : List (DiskPair D)) → IsFrom place fault → HandsBackAll tells seen moment left_since may_leave faults m place fault rest pairs new
      → HandsBackAll tells seen moment left_since may_leave faults m 0 fault xs start (pairs_of books ++ new)
  pub are_books : AllByRecursion (IsBook tells seen may_leave) books

all-added : {X : Type 0} (P : X → Type 0) (xs : List X) (x : X) → AllByRecursion P xs → P x → AllByRecursion P (xs ++ x ∷ [])
all-added P [] x all here = (here, tt)
all-added P (y ∷ ys) x all here = (all.0, all-added P ys x all.1 here)

pairs-added : {D : Type 0} (books : List (BookView D)) (book : BookView D) (new : List (DiskPair D)) → pairs_of books ++ book.journal.pair ∷ new ≡ pairs_of (books ++ book ∷ []) ++ new
pairs-added [] book new = refl
pairs-added (b ∷ bs) book new = ap (λ (ps : List (DiskPair _)). b.journal.pair ∷ ps) (pairs-added bs book new)

module _ {D : Type 0} (tells : Type 0) (seen : D → List ℕ) (moment : D → ℕ) (left_since : D → ℕ → List ℕ → Type 0) (may_leave : D → List ℕ → Type 0) (faults : D → ℕ)
    (config : Config) (m : ℕ) (xs : List External) (start : List (DiskPair D)) where
  pub underway_start : IsUnderway tells seen moment left_since may_leave faults config m xs start xs 0 [] [] start
  underway_start = record {
    opens = λ more spare all. all;
    found = λ more others all. all;
    hands = λ fault new «from» all. all;
    are_books = tt;
  }

  opened_hands : (x : External) (pair : DiskPair D) (book : BookView D) (fails : Type 0) → (fails → ⊥) → OpensOne tells seen moment left_since may_leave faults config m x pair book
      → HandsBackOne tells seen moment left_since may_leave faults m x pair book.journal.pair fails
  opened_hands x pair book fails none one = record {
    moments = λ told. inl (one.moments told);
    cause = record { later_a = one.later.later_a; later_b = one.later.later_b; risen = λ fails. absurd (none fails) };
  }

  next_at : (x : External) (rest : List External) (place : ℕ) (books : List (BookView D)) (founds : List Found) (pair : DiskPair D) (pairs : List (DiskPair D)) (book : BookView D) (found : Found)
      → IsUnderway tells seen moment left_since may_leave faults config m xs start (x ∷ rest) place books founds (pair ∷ pairs)
      → OpensOne tells seen moment left_since may_leave faults config m x pair book → IsOpened tells seen pair (terms_of x config) m book found → IsBook tells seen may_leave book
      → IsUnderway tells seen moment left_since may_leave faults config m xs start rest (place + 1) (books ++ book ∷ []) (founds ++ found ∷ []) pairs
  next_at x rest place books founds pair pairs book found u one is_found is_book = record {
    found = λ more others all. subst (λ (bs : List (BookView D)). AreFound tells seen config m xs start bs ((founds ++ found ∷ []) ++ others)) (sym (append_assoc books (book ∷ []) more))
        (subst (λ (fs : List Found). AreFound tells seen config m xs start (books ++ book ∷ more) fs) (sym (append_assoc founds (found ∷ []) others)) (u.found (book ∷ more) (found ∷ others) (is_found, all)));
    opens = λ more spare all. subst (λ (bs : List (BookView D)). OpensAll tells seen moment left_since may_leave faults config m xs start bs spare) (sym (append_assoc books (book ∷ []) more)) (u.opens (book ∷ more) spare (one, all));
    hands = λ fault new «from» all. subst (λ (ps : List (DiskPair D)). HandsBackAll tells seen moment left_since may_leave faults m 0 fault xs start ps) (pairs-added books book new)
        (u.hands fault (book.journal.pair ∷ new) (λ j e. let less : place + 1 ≤ j = «from» j e in omega arith)
        (opened_hands x pair book (fault ≡ Disk place) (λ e. let less : place + 1 ≤ place = «from» place e in omega arith) one, all));
    are_books = all-added (IsBook tells seen may_leave) books book u.are_books is_book;
  }

  pub underway_next : (x : External) (rest : List External) (place : ℕ) (books new_books : List (BookView D)) (founds new_founds : List Found) (pairs new_pairs : List (DiskPair D))
      → IsUnderway tells seen moment left_since may_leave faults config m xs start (x ∷ rest) place books founds pairs
      → OpensNext tells seen moment left_since may_leave faults config m x books new_books founds new_founds pairs new_pairs
      → IsUnderway tells seen moment left_since may_leave faults config m xs start rest (place + 1) new_books new_founds new_pairs
  underway_next x rest place books new_books founds new_founds pairs new_pairs u n =
      subst (λ (bs : List (BookView D)). IsUnderway tells seen moment left_since may_leave faults config m xs start rest (place + 1) bs new_founds new_pairs) (sym n.added)
      (subst (λ (fs : List Found). IsUnderway tells seen moment left_since may_leave faults config m xs start rest (place + 1) (books ++ n.book ∷ []) fs new_pairs) (sym n.noted)
      (next_at x rest place books founds n.pair new_pairs n.book n.found (subst (λ (ps : List (DiskPair D)). IsUnderway tells seen moment left_since may_leave faults config m xs start (x ∷ rest) place books founds ps) n.taken u) n.opens n.is_found n.is_book))

  pub underway_found : (place : ℕ) (books : List (BookView D)) (founds : List Found) (pairs : List (DiskPair D)) → IsUnderway tells seen moment left_since may_leave faults config m xs start [] place books founds pairs
      → AreFound tells seen config m xs start books founds
  underway_found place books founds pairs u = subst (λ (bs : List (BookView D)). AreFound tells seen config m xs start bs founds) (append-nil books)
      (subst (λ (fs : List Found). AreFound tells seen config m xs start (books ++ []) fs) (append-nil founds) (u.found [] [] tt))

  pub underway_end : (place : ℕ) (books : List (BookView D)) (founds : List Found) (pairs : List (DiskPair D)) → IsUnderway tells seen moment left_since may_leave faults config m xs start [] place books founds pairs
      → OpensAll tells seen moment left_since may_leave faults config m xs start books pairs
  underway_end place books founds pairs u = subst (λ (bs : List (BookView D)). OpensAll tells seen moment left_since may_leave faults config m xs start bs pairs) (append-nil books) (u.opens [] pairs refl)

  pub underway_refused : (x : External) (rest : List External) (place : ℕ) (books new_books : List (BookView D)) (founds : List Found) (pairs new_pairs : List (DiskPair D)) (fault : HouseFault)
      → IsUnderway tells seen moment left_since may_leave faults config m xs start (x ∷ rest) place books founds pairs → length (x ∷ rest) ≤ length pairs
      → RefusesNext tells seen moment left_since may_leave faults m x place books new_books pairs new_pairs fault
      → HandsBackAll tells seen moment left_since may_leave faults m 0 fault xs start (pairs_of new_books ++ new_pairs)
  underway_refused x rest place books new_books founds pairs new_pairs fault u enough r =
      let count : length (x ∷ rest) ≤ length (r.pair ∷ r.rest) = subst (λ (ps : List (DiskPair D)). length (x ∷ rest) ≤ length ps) r.taken enough in
      let at : IsUnderway tells seen moment left_since may_leave faults config m xs start (x ∷ rest) place books founds (r.pair ∷ r.rest) = subst (λ (ps : List (DiskPair D)). IsUnderway tells seen moment left_since may_leave faults config m xs start (x ∷ rest) place books founds ps) r.taken u in
      let told = fault_at place r.cause in
      let all : HandsBackAll tells seen moment left_since may_leave faults m 0 told xs start (pairs_of books ++ r.handed ∷ r.rest) = at.hands told (r.handed ∷ r.rest)
      (λ j e. let same : place ≡ j = fault_is_there place r.cause j e in omega arith) (
        refused_one tells seen moment left_since may_leave faults m x r.pair r.handed place r.cause r.hands,
        untouched tells seen moment left_since may_leave faults m (place + 1) told rest r.rest (omega arith) (λ j e. let same : place ≡ j = fault_is_there place r.cause j e in omega arith),
      ) in
      subst (λ (f : HouseFault). HandsBackAll tells seen moment left_since may_leave faults m 0 f xs start (pairs_of new_books ++ new_pairs)) (sym r.told)
      (subst (λ (ps : List (DiskPair D)). HandsBackAll tells seen moment left_since may_leave faults m 0 told xs start (pairs_of new_books ++ ps)) (sym r.put)
      (subst (λ (bs : List (BookView D)). HandsBackAll tells seen moment left_since may_leave faults m 0 told xs start (pairs_of bs ++ r.handed ∷ r.rest)) (sym r.same) all))

-- the terms are those of the external addresses
pub opened_terms : {D : Type 0} (tells : Type 0) (seen : D → List ℕ) (moment : D → ℕ) (left_since : D → ℕ → List ℕ → Type 0) (may_leave : D → List ℕ → Type 0) (faults : D → ℕ)
    (config : Config) (m : ℕ) (xs : List External) (pairs : List (DiskPair D)) (books : List (BookView D)) (spare : List (DiskPair D))
    → OpensAll tells seen moment left_since may_leave faults config m xs pairs books spare → map (λ b. b.terms) books ≡ map (λ x. terms_of x config) xs
opened_terms tells seen moment left_since may_leave faults config m [] pairs [] spare all = refl
opened_terms tells seen moment left_since may_leave faults config m [] pairs (b ∷ bs) spare all = absurd all
opened_terms tells seen moment left_since may_leave faults config m (x ∷ xs) [] bs spare all = absurd all
opened_terms tells seen moment left_since may_leave faults config m (x ∷ xs) (pair ∷ pairs) [] spare all = absurd all
opened_terms tells seen moment left_since may_leave faults config m (x ∷ xs) (pair ∷ pairs) (b ∷ bs) spare all =
    ap (λ (t : Terms). t ∷ map (λ b. b.terms) bs) all.0.opened.on_terms ∙ ap (λ (ts : List Terms). terms_of x config ∷ ts) (opened_terms tells seen moment left_since may_leave faults config m xs pairs bs spare all.1)

-- ---- the vectors

pub all_on : {X : Type 0} (P : X → Type 0) (xs : List X) (i : ℕ) → i < length xs → AllByRecursion P (drop i xs) → AllByRecursion P (drop (i + 1) xs)
all_on P [] i within all = absurd (omega arith)
all_on P (x ∷ xs) i within all = (subst (AllByRecursion P) (drop_more (x ∷ xs) i x within) all).1

pub first_removed : {X : Type 0} (xs ys : List X) (x : X) → 0 < length xs → x ≡ get_or xs 0 x → ys ≡ remove xs 0 → xs ≡ x ∷ ys
first_removed [] ys x some is rest = absurd (omega arith)
first_removed (y ∷ rest) ys x some is left = cc

-- one pair more was handed back
pub back_one : {D : Type 0} (books left : List (BookView D)) (book : BookView D) (pairs new start : List (DiskPair D)) (pair : DiskPair D)
    → books ≡ left ++ book ∷ [] → pair ≡ book.journal.pair → new ≡ pair ∷ pairs → pairs_of books ++ pairs ≡ start → pairs_of left ++ new ≡ start
back_one books left book pairs new start pair books_are pair_is new_is all =
    ap (λ (ps : List (DiskPair _)). pairs_of left ++ ps) (new_is ∙ ap (λ (p : DiskPair _). p ∷ pairs) pair_is) ∙ pairs-added left book pairs
    ∙ ap (λ (bs : List (BookView _)). pairs_of bs ++ pairs) (sym books_are) ∙ all

pub same_count : {X Y : Type 0} (xs left : List X) (x : X) (ys new : List Y) (y : Y) → xs ≡ left ++ x ∷ [] → new ≡ y ∷ ys → length left + length new ≡ length xs + length ys
same_count xs left x ys new y xs_are new_is = omega (arith, ap length xs_are, ap length new_is, length-append left (x ∷ []))

module _ {D : Type 0} (tells : Type 0) (seen : D → List ℕ) (moment : D → ℕ) (left_since : D → ℕ → List ℕ → Type 0) (may_leave : D → List ℕ → Type 0) (faults : D → ℕ)
    (config : Config) (m : ℕ) (xs : List External) (start : List (DiskPair D)) where
  pub underway_begins : (rest : List External) (books : List (BookView D)) (founds : List Found) → rest ≡ xs → books ≡ [] → founds ≡ []
      → IsUnderway tells seen moment left_since may_leave faults config m xs start rest 0 books founds start
  underway_begins rest books founds rest_is none none_found =
      subst (λ (r : List External). IsUnderway tells seen moment left_since may_leave faults config m xs start r 0 books founds start) (sym rest_is)
      (subst (λ (bs : List (BookView D)). IsUnderway tells seen moment left_since may_leave faults config m xs start xs 0 bs founds start) (sym none)
      (subst (λ (fs : List Found). IsUnderway tells seen moment left_since may_leave faults config m xs start xs 0 [] fs start) (sym none_found) (underway_start tells seen moment left_since may_leave faults config m xs start)))

  -- at the external address with this index
  pub underway_on : (all : List External) (i : ℕ) (d : External) (books new_books : List (BookView D)) (founds new_founds : List Found) (pairs new_pairs : List (DiskPair D)) → i < length all
      → IsUnderway tells seen moment left_since may_leave faults config m xs start (drop i all) i books founds pairs
      → OpensNext tells seen moment left_since may_leave faults config m (get_or all i d) books new_books founds new_founds pairs new_pairs
      → IsUnderway tells seen moment left_since may_leave faults config m xs start (drop (i + 1) all) (i + 1) new_books new_founds new_pairs
  underway_on all i d books new_books founds new_founds pairs new_pairs within u next =
      underway_next tells seen moment left_since may_leave faults config m xs start (get_or all i d) (drop (i + 1) all) i books new_books founds new_founds pairs new_pairs
      (subst (λ (r : List External). IsUnderway tells seen moment left_since may_leave faults config m xs start r i books founds pairs) (drop_more all i d within) u) next

  pub underway_stops : (all : List External) (i place : ℕ) (d : External) (books new_books : List (BookView D)) (founds : List Found) (pairs new_pairs back : List (DiskPair D)) (fault : HouseFault) → i < length all → place ≡ i
      → length (drop i all) ≤ length pairs
      → IsUnderway tells seen moment left_since may_leave faults config m xs start (drop i all) i books founds pairs
      → RefusesNext tells seen moment left_since may_leave faults m (get_or all i d) place books new_books pairs new_pairs fault
      → back ≡ pairs_of new_books ++ new_pairs
      → HandsBackAll tells seen moment left_since may_leave faults m 0 fault xs start back
  underway_stops all i place d books new_books founds pairs new_pairs back fault within same enough u refused back_is =
      subst (λ (ps : List (DiskPair D)). HandsBackAll tells seen moment left_since may_leave faults m 0 fault xs start ps) (sym back_is)
      (underway_refused tells seen moment left_since may_leave faults config m xs start (get_or all i d) (drop (i + 1) all) i books new_books founds pairs new_pairs fault
      (subst (λ (r : List External). IsUnderway tells seen moment left_since may_leave faults config m xs start r i books founds pairs) (drop_more all i d within) u)
      (subst (λ (r : List External). length r ≤ length pairs) (drop_more all i d within) enough)
      (subst (λ (n : ℕ). RefusesNext tells seen moment left_since may_leave faults m (get_or all i d) n books new_books pairs new_pairs fault) same refused))

  pub underway_done : (all : List External) (i place : ℕ) (books : List (BookView D)) (founds : List Found) (pairs : List (DiskPair D)) → length all ≤ i
      → IsUnderway tells seen moment left_since may_leave faults config m xs start (drop i all) place books founds pairs
      → OpensAll tells seen moment left_since may_leave faults config m xs start books pairs × AreFound tells seen config m xs start books founds
  underway_done all i place books founds pairs past u =
      let last : IsUnderway tells seen moment left_since may_leave faults config m xs start [] place books founds pairs = subst (λ (r : List External). IsUnderway tells seen moment left_since may_leave faults config m xs start r place books founds pairs) (drop_of_length-le all past) u in
      (underway_end tells seen moment left_since may_leave faults config m xs start place books founds pairs last, underway_found tells seen moment left_since may_leave faults config m xs start place books founds pairs last)

-- the house of opened books
pub opened_house : {D : Type 0} (tells : Type 0) (seen : D → List ℕ) (moment : D → ℕ) (left_since : D → ℕ → List ℕ → Type 0) (may_leave : D → List ℕ → Type 0) (faults : D → ℕ)
    (config copy : Config) (m : ℕ) (pairs : List (DiskPair D)) (books : List (BookView D)) (spare : List (DiskPair D)) → copy ≡ config → IsConfig config
    → OpensAll tells seen moment left_since may_leave faults config m config.externals pairs books spare → AllByRecursion (IsBook tells seen may_leave) books
    → IsHouse tells seen may_leave (record { config = copy; books = books; spare = spare })
opened_house tells seen moment left_since may_leave faults config copy m pairs books spare same allowed all are_books = record {
  config = subst IsConfig (sym same) allowed;
  terms = subst (λ (c : Config). map (λ b. b.terms) books ≡ map (λ x. terms_of x c) c.externals) (sym same)
      (opened_terms tells seen moment left_since may_leave faults config m config.externals pairs books spare all);
  books = are_books;
}
