-- Opening the book of one more external address (our own; for private contracts).
use Rattle.std.specs.Prelude.{◌≡◌, ℕ, List, [], ◌∷◌, ◌++◌}
use Rattle.pcp_base.specs.declared.configs.Config.{Config}
use Rattle.pcp_base.specs.declared.configs.External.{External}
use Rattle.lease_disk.specs.declared.disks.DiskPair.{DiskPair}
use Rattle.journal_sides.specs.declared.errors.JournalFault.{JournalFault}
use Rattle.journal_sides.specs.declared.errors.JournalFault.TheVariants as Journals
use Rattle.lease_journal.specs.declared.errors.Found.{Found}
use Rattle.lease_store.specs.LeaseTerms.{terms_of}
use Rattle.shard_book.specs.Books.{BookView, IsBook}
use Rattle.shard_book.specs.Openings.{IsOpened}
use Rattle.lease_house.specs.declared.faults.HouseFault.{HouseFault}
use Rattle.lease_house.specs.SoloCalls.{fault_at}
use Rattle.lease_house.specs.SoloOpenings.{HandsBackOne, OpensOne}

-- one book more was opened, over the first of the pairs
pub record OpensNext {D : Type 0} (tells : Type 0) (seen : D → List ℕ) (moment : D → ℕ)
    (left_since : D → ℕ → List ℕ → Type 0) (may_leave : D → List ℕ → Type 0) (faults : D → ℕ)
    (config : Config) (m : ℕ) (x : External) (old_books new_books : List (BookView D))
    (old_founds new_founds : List Found) (old_pairs new_pairs : List (DiskPair D)) : Type 0 where
  pub pair : DiskPair D
  pub book : BookView D
  pub taken : old_pairs ≡ pair ∷ new_pairs
  pub added : new_books ≡ old_books ++ book ∷ []
  pub opens : OpensOne tells seen moment left_since may_leave faults config m x pair book
  pub found : Found
  pub noted : new_founds ≡ old_founds ++ found ∷ []
  pub is_found : IsOpened tells seen pair (terms_of x config) m book found
  pub is_book : IsBook tells seen may_leave book

-- the first of the pairs wasn't opened, and stands there again
pub record RefusesNext {D : Type 0} (tells : Type 0) (seen : D → List ℕ) (moment : D → ℕ)
    (left_since : D → ℕ → List ℕ → Type 0) (may_leave : D → List ℕ → Type 0) (faults : D → ℕ)
    (m : ℕ) (x : External) (place : ℕ) (old_books new_books : List (BookView D))
    (old_pairs new_pairs : List (DiskPair D)) (fault : HouseFault) : Type 0 where
  pub pair : DiskPair D
  pub handed : DiskPair D
  pub rest : List (DiskPair D)
  pub cause : JournalFault
  pub told : fault ≡ fault_at place cause
  pub taken : old_pairs ≡ pair ∷ rest
  pub put : new_pairs ≡ handed ∷ rest
  pub same : new_books ≡ old_books
  pub hands : HandsBackOne tells seen moment left_since may_leave faults m x pair handed
      (cause ≡ Journals.Disk)
