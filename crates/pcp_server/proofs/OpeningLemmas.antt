-- What opened books give.
use Rattle.std.proofs.Common.{◌≡◌, ◌∙◌, ℕ, zero, suc, ◌<◌, ◌+◌, true, List, [], ◌∷◌, ◌++◌, length, map, drop, None, refl, sym, ap, subst, arith}
use Rattle.std.specs.List.{AllByRecursion, AllZip}
use Rattle.pcp_base.specs.declared.configs.Config.{Config}
use Rattle.pcp_base.specs.declared.configs.External.{External}
use Rattle.pcp_base.specs.Configs.{IsConfig}
use Rattle.pcp_base.specs.Reached.{IsReached}
use Rattle.lease_disk.specs.declared.disks.DiskPair.{DiskPair}
use Rattle.shard_book.specs.Books.{BookView, IsBook}
use Rattle.lease_histories.specs.Laws.{AreOpenings}
use Rattle.lease_histories.specs.PlainHouses.{house_begun, shards_begun}
use Rattle.lease_house.specs.SoloHouses.{HouseView, plain_house, plain_shard}
use Rattle.lease_house.specs.SoloOpenings.{HandsBackAll, IsOfPlace, OpensAll}
use Rattle.lease_house.specs.declared.faults.HouseFault.{HouseFault}
use Rattle.lease_house.specs.declared.faults.HouseFault.TheVariants.{Disk}
use Rattle.journal_dump.specs.Dumps.{HasPairFault}
use Rattle.pcp_server.specs.Opened.{AreUnused, Opens, openings, pairs_of}
use Rattle.pcp_server.specs.Outsides.{DiskMeanings, HaveNotFallen}
use Rattle.pcp_server.proofs.PairLemmas.{cause_only, none_fell}

-- ---- an opening that is refused

abbrev Hands : {D : Type 0} → DiskMeanings D → ℕ → ℕ → HouseFault → List External → (old new : List (DiskPair D)) → Type 0
Hands disks m place fault xs old new =
    HandsBackAll disks.tells disks.seen disks.moment disks.left_since disks.may_leave disks.faults m place fault xs old new

pub hands-later : {D : Type 0} (disks : DiskMeanings D) (m place : ℕ) (fault : HouseFault) (xs : List External) (old new : List (DiskPair D)) →
    Hands disks m place fault xs old new → HaveNotFallen disks.faults old new
hands-later disks m place fault [] old new h = subst (HaveNotFallen disks.faults old) (sym h) (none_fell disks.faults old)
hands-later disks m place fault (x ∷ xs) [] [] h = absurd h
hands-later disks m place fault (x ∷ xs) [] (q ∷ qs) h = absurd h
hands-later disks m place fault (x ∷ xs) (p ∷ ps) [] h = absurd h
hands-later disks m place fault (x ∷ xs) (p ∷ ps) (q ∷ qs) h =
    (cause_only disks.faults p q (fault ≡ Disk place) h.0.cause, hands-later disks m (place + 1) fault xs ps qs h.1)

pub hands-fault : {D : Type 0} (disks : DiskMeanings D) (m place : ℕ) (fault : HouseFault) (xs : List External) (old new : List (DiskPair D)) (i : ℕ) →
    Hands disks m place fault xs old new → i < length xs → fault ≡ Disk (place + i) → HasPairFault disks.faults old new i
hands-fault disks m place fault [] old new i h less is = absurd (omega (arith, less))
hands-fault disks m place fault (x ∷ xs) [] [] i h less is = absurd h
hands-fault disks m place fault (x ∷ xs) [] (q ∷ qs) i h less is = absurd h
hands-fault disks m place fault (x ∷ xs) (p ∷ ps) [] i h less is = absurd h
hands-fault disks m place fault (x ∷ xs) (p ∷ ps) (q ∷ qs) zero h less is =
    let same : place + zero ≡ place = omega arith in
    record { before = p; after = q; was = refl; is = refl; risen = h.0.cause.risen (is ∙ ap (λ n. Disk n) same) }
hands-fault disks m place fault (x ∷ xs) (p ∷ ps) (q ∷ qs) (suc i) h less is =
    let same : place + suc i ≡ place + 1 + i = omega arith in
    let behind = hands-fault disks m (place + 1) fault xs ps qs i h.1 (omega (arith, less)) (is ∙ ap (λ n. Disk n) same) in
    record { before = behind.before; after = behind.after; was = behind.was; is = behind.is; risen = behind.risen }

-- the disk that is named is that of an external address
pub hands-named : {D : Type 0} (disks : DiskMeanings D) (m : ℕ) (fault : HouseFault) (xs : List External) (old new : List (DiskPair D)) (i : ℕ) →
    Hands disks m 0 fault xs old new → IsOfPlace (length xs) fault → fault ≡ Disk i → HasPairFault disks.faults old new i
hands-named disks m fault xs old new i h within is =
    let same : i ≡ 0 + i = omega arith in
    hands-fault disks m 0 fault xs old new i h (within i is) (is ∙ ap (λ n. Disk n) same)

-- ---- an opening

abbrev Opened : {D : Type 0} → DiskMeanings D → Config → ℕ → List External → List (DiskPair D) → List (BookView D) → List (DiskPair D) → Type 0
Opened disks config m xs pairs bs spare =
    OpensAll disks.tells disks.seen disks.moment disks.left_since disks.may_leave disks.faults config m xs pairs bs spare

-- the books, one by one
pub record IsOneOpened {D : Type 0} (config : Config) (x : External) (book : BookView D) : Type 0 where
  pub external : book.terms.external ≡ x
  pub last : book.last ≡ book.state.last
  pub settled : book.fault ≡ None

pub opens-each : {D : Type 0} (disks : DiskMeanings D) (config : Config) (m : ℕ) (xs : List External) (pairs : List (DiskPair D)) (bs : List (BookView D)) (spare : List (DiskPair D)) →
    Opened disks config m xs pairs bs spare → AllZip (IsOneOpened config) xs bs
opens-each disks config m [] pairs [] spare h = tt
opens-each disks config m [] [] (b ∷ bs) spare h = absurd h
opens-each disks config m [] (p ∷ ps) (b ∷ bs) spare h = absurd h
opens-each disks config m (x ∷ xs) [] [] spare h = absurd h
opens-each disks config m (x ∷ xs) [] (b ∷ bs) spare h = absurd h
opens-each disks config m (x ∷ xs) (p ∷ ps) [] spare h = absurd h
opens-each disks config m (x ∷ xs) (p ∷ ps) (b ∷ bs) spare h = (
  record { external = ap (λ t. t.external) h.0.opened.on_terms; last = h.0.opened.last; settled = h.0.opened.settled },
  opens-each disks config m xs ps bs spare h.1,
)

pub opens-later : {D : Type 0} (disks : DiskMeanings D) (config : Config) (m : ℕ) (xs : List External) (pairs : List (DiskPair D)) (bs : List (BookView D)) (spare : List (DiskPair D)) →
    Opened disks config m xs pairs bs spare → HaveNotFallen disks.faults pairs (map (λ b. b.journal.pair) bs ++ spare)
opens-later disks config m [] pairs [] spare h = subst (HaveNotFallen disks.faults pairs) (sym h) (none_fell disks.faults pairs)
opens-later disks config m [] [] (b ∷ bs) spare h = absurd h
opens-later disks config m [] (p ∷ ps) (b ∷ bs) spare h = absurd h
opens-later disks config m (x ∷ xs) [] [] spare h = absurd h
opens-later disks config m (x ∷ xs) [] (b ∷ bs) spare h = absurd h
opens-later disks config m (x ∷ xs) (p ∷ ps) [] spare h = absurd h
opens-later disks config m (x ∷ xs) (p ∷ ps) (b ∷ bs) spare h = (h.0.later, opens-later disks config m xs ps bs spare h.1)

each-settled : {D : Type 0} (config : Config) (xs : List External) (bs : List (BookView D)) → AllZip (IsOneOpened config) xs bs → AllByRecursion (λ b. b.fault ≡ None) bs
each-settled config [] [] h = tt
each-settled config [] (b ∷ bs) h = absurd h
each-settled config (x ∷ xs) [] h = absurd h
each-settled config (x ∷ xs) (b ∷ bs) h = (h.0.settled, each-settled config xs bs h.1)

each-begun : {D : Type 0} (config : Config) (xs : List External) (bs : List (BookView D)) → AllZip (IsOneOpened config) xs bs → map plain_shard bs ≡ shards_begun xs (map (λ b. b.state) bs)
each-begun config [] [] h = refl
each-begun config [] (b ∷ bs) h = absurd h
each-begun config (x ∷ xs) [] h = absurd h
each-begun config (x ∷ xs) (b ∷ bs) h =
    let one : plain_shard b ≡ record { external = x; state = b.state; last = b.state.last } =
    ap (λ e. record { external = e; state = b.state; last = b.last }) h.0.external ∙ ap (λ n. record { external = x; state = b.state; last = n }) h.0.last in
    ap (λ s. s ∷ map plain_shard bs) one ∙ ap (λ ss. record { external = x; state = b.state; last = b.state.last } ∷ ss) (each-begun config xs bs h.1)

each-counted : {D : Type 0} (config : Config) (xs : List External) (bs : List (BookView D)) → AllZip (IsOneOpened config) xs bs → length (map (λ b. b.state) bs) ≡ length xs
each-counted config [] [] h = refl
each-counted config [] (b ∷ bs) h = absurd h
each-counted config (x ∷ xs) [] h = absurd h
each-counted config (x ∷ xs) (b ∷ bs) h = ap (λ n. suc n) (each-counted config xs bs h.1)

books-reached : {D : Type 0} (tells : Type 0) (seen : D → List ℕ) (may_leave : D → List ℕ → Type 0) (bs : List (BookView D)) → AllByRecursion (IsBook tells seen may_leave) bs →
    AllByRecursion IsReached (map (λ b. b.state) bs)
books-reached tells seen may_leave [] h = tt
books-reached tells seen may_leave (b ∷ bs) h = (h.0.reached, books-reached tells seen may_leave bs h.1)

books-started : {D : Type 0} (tells : Type 0) (seen : D → List ℕ) (may_leave : D → List ℕ → Type 0) (bs : List (BookView D)) → AllByRecursion (IsBook tells seen may_leave) bs →
    AllByRecursion (λ s. s.started ≡ true) (map (λ b. b.state) bs)
books-started tells seen may_leave [] h = tt
books-started tells seen may_leave (b ∷ bs) h = (h.0.started, books-started tells seen may_leave bs h.1)

-- ---- a house that was opened

pub settled : {D : Type 0} (disks : DiskMeanings D) (config : Config) (m : ℕ) (pairs : List (DiskPair D)) (house : HouseView D) → Opens disks config m pairs house →
    AllByRecursion (λ b. b.fault ≡ None) house.books
settled disks config m pairs house o =
    each-settled config config.externals house.books (opens-each disks config m config.externals pairs house.books house.spare o.books)

pub begun : {D : Type 0} (disks : DiskMeanings D) (config : Config) (m : ℕ) (pairs : List (DiskPair D)) (house : HouseView D) → Opens disks config m pairs house →
    plain_house house ≡ house_begun config (openings house)
begun disks config m pairs house o =
    ap (λ c. record { config = c; shards = map plain_shard house.books }) o.config_is
    ∙ ap (λ ss. record { config = config; shards = ss }) (each-begun config config.externals house.books (opens-each disks config m config.externals pairs house.books house.spare o.books))

pub later : {D : Type 0} (disks : DiskMeanings D) (config : Config) (m : ℕ) (pairs : List (DiskPair D)) (house : HouseView D) → Opens disks config m pairs house →
    HaveNotFallen disks.faults pairs (pairs_of house)
later disks config m pairs house o = opens-later disks config m config.externals pairs house.books house.spare o.books

pub are_openings : {D : Type 0} (disks : DiskMeanings D) (config : Config) (m : ℕ) (pairs : List (DiskPair D)) (house : HouseView D) → IsConfig config → Opens disks config m pairs house →
    AreOpenings config (openings house)
are_openings disks config m pairs house is o = record {
  config_is = is;
  count = each-counted config config.externals house.books (opens-each disks config m config.externals pairs house.books house.spare o.books);
  reached = books-reached disks.tells disks.seen disks.may_leave house.books o.stands.books;
  started = books-started disks.tells disks.seen disks.may_leave house.books o.stands.books;
}

-- ---- pairs past those of the external addresses

opens-rest : {D : Type 0} (disks : DiskMeanings D) (config : Config) (m : ℕ) (xs : List External) (pairs : List (DiskPair D)) (bs : List (BookView D)) (spare : List (DiskPair D)) →
    Opened disks config m xs pairs bs spare → drop (length xs) pairs ≡ spare
opens-rest disks config m [] pairs [] spare h = sym h
opens-rest disks config m [] [] (b ∷ bs) spare h = absurd h
opens-rest disks config m [] (p ∷ ps) (b ∷ bs) spare h = absurd h
opens-rest disks config m (x ∷ xs) [] [] spare h = absurd h
opens-rest disks config m (x ∷ xs) [] (b ∷ bs) spare h = absurd h
opens-rest disks config m (x ∷ xs) (p ∷ ps) [] spare h = absurd h
opens-rest disks config m (x ∷ xs) (p ∷ ps) (b ∷ bs) spare h = opens-rest disks config m xs ps bs spare h.1

books-count : {D : Type 0} (config : Config) (xs : List External) (bs : List (BookView D)) → AllZip (IsOneOpened config) xs bs → length bs ≡ length xs
books-count config [] [] h = refl
books-count config [] (b ∷ bs) h = absurd h
books-count config (x ∷ xs) [] h = absurd h
books-count config (x ∷ xs) (b ∷ bs) h = ap (λ n. suc n) (books-count config xs bs h.1)

drop-books : {D : Type 0} (bs : List (BookView D)) (spare : List (DiskPair D)) (n : ℕ) → length bs ≡ n → drop n (map (λ b. b.journal.pair) bs ++ spare) ≡ spare
drop-books [] spare n h = subst (λ n. drop n spare ≡ spare) h refl
drop-books (b ∷ bs) spare n h = subst (λ n. drop n (b.journal.pair ∷ map (λ b. b.journal.pair) bs ++ spare) ≡ spare) h (drop-books bs spare (length bs) refl)

-- from a house that was opened to one with as many books and the same other pairs
pub unused : {D : Type 0} (disks : DiskMeanings D) (config : Config) (m : ℕ) (pairs : List (DiskPair D)) (house ended : HouseView D) → Opens disks config m pairs house →
    length ended.books ≡ length house.books → ended.spare ≡ house.spare → AreUnused config pairs (pairs_of ended)
unused disks config m pairs house ended o count spare =
    let each = opens-each disks config m config.externals pairs house.books house.spare o.books in
    drop-books ended.books ended.spare (length config.externals) (count ∙ books-count config config.externals house.books each)
    ∙ spare ∙ sym (opens-rest disks config m config.externals pairs house.books house.spare o.books)
