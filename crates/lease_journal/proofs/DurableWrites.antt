-- A change of a disk and the sync behind it.
use Rattle.std.proofs.Common.{inl, ℕ, ◌≤◌, List, sym, subst}
use Rattle.lease_disk.specs.ImageLaws.{torn-same}
use Rattle.lease_disk.specs.Images.{Torn, CutOrNot, Follows, NoMore, Only}
use Rattle.lease_disk.specs.Moments.{Elapses, LeavesOnly}
use Rattle.lease_disk.proofs.CallLemmas.{started, goes_on_still, goes_on_write, goes_on_cut}

module _ {D : Type 0} (seen : D → List ℕ) (may_leave : D → List ℕ → Type 0) (moment : D → ℕ) (left_since : D → ℕ → List ℕ → Type 0)
    (counts_now : (disk : D) (t : ℕ) (image : List ℕ) → t ≤ moment disk → may_leave disk image → left_since disk t image)
    (only_now : (disk : D) (image : List ℕ) → left_since disk (moment disk) image → may_leave disk image) where
  pub wrote : (place n : ℕ) (old new : D) → Elapses (moment old) (moment new) (left_since old) (left_since new) (may_leave new) → Follows (Torn place n) (may_leave old) (may_leave new)
      → Only (seen old) (may_leave old) → LeavesOnly moment left_since old new (Torn place n (seen old))
  wrote place n old new time follows only =
      let begins = started moment left_since may_leave counts_now only_now old (Torn place n (seen old)) (λ image left. subst (Torn place n (seen old)) (sym (only image left)) (torn-same place n (seen old))) in
      goes_on_write moment left_since may_leave counts_now only_now place n (seen old) old old new (Torn place n (seen old)) begins time follows only (λ image torn. torn)

  pub cut_off : (size : ℕ) (old new : D) → Elapses (moment old) (moment new) (left_since old) (left_since new) (may_leave new) → Follows (CutOrNot size) (may_leave old) (may_leave new)
      → Only (seen old) (may_leave old) → LeavesOnly moment left_since old new (CutOrNot size (seen old))
  cut_off size old new time follows only =
      let begins = started moment left_since may_leave counts_now only_now old (CutOrNot size (seen old)) (λ image left. inl (only image left)) in
      goes_on_cut moment left_since may_leave counts_now only_now size (seen old) old old new (CutOrNot size (seen old)) begins time follows only (λ image cut. cut)

  pub and_synced : (old mid new : D) (P : List ℕ → Type 0) → Elapses (moment mid) (moment new) (left_since mid) (left_since new) (may_leave new) → NoMore (may_leave mid) (may_leave new)
      → LeavesOnly moment left_since old mid P → LeavesOnly moment left_since old new P
  and_synced old mid new P time still so_far = goes_on_still moment left_since may_leave counts_now only_now old mid new P so_far time still
