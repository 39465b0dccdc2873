-- Reading a side part by part.
use Rattle.std.proofs.Common.{◌≡◌, ℕ, ◌+◌, ◌≤◌, List, ◌++◌, length, take, drop, refl, sym, ◌∙◌, ap, arith, take-add, take_all, drop-drop, length-take, length-drop}
use Rattle.std.proofs.lemmas.List.{take_at, drop_at}
use Rattle.lease_disk.specs.Images.{NoMore}
use Rattle.lease_disk.specs.Moments.{Elapses}
use Rattle.lease_disk.proofs.CallLemmas.{started, goes_on_still, goes_on_run, weaker, has_now}
use Rattle.journal_sides.specs.Reads.{IsRead}

module _ {D : Type 0} (may_leave : D → List ℕ → Type 0) (moment : D → ℕ) (left_since : D → ℕ → List ℕ → Type 0)
    (counts_now : (disk : D) (t : ℕ) (image : List ℕ) → t ≤ moment disk → may_leave disk image → left_since disk t image)
    (only_now : (disk : D) (image : List ℕ) → left_since disk (moment disk) image → may_leave disk image) where
  pub read_none : (disk : D) → IsRead moment left_since may_leave disk disk
  read_none disk = record { still = refl; run = started moment left_since may_leave counts_now only_now disk (may_leave disk) (λ image left. left); images = λ image left. left }

  pub read_more : (old mid new : D) → IsRead moment left_since may_leave old mid → moment new ≡ moment mid
      → Elapses (moment mid) (moment new) (left_since mid) (left_since new) (may_leave new) → NoMore (may_leave mid) (may_leave new) → NoMore (may_leave new) (may_leave mid)
      → IsRead moment left_since may_leave old new
  read_more old mid new so_far still time fewer images = record {
    still = still ∙ so_far.still;
    run = goes_on_still moment left_since may_leave counts_now only_now old mid new (may_leave old) so_far.run time fewer;
    images = λ image left. images image (so_far.images image left);
  }

  pub read_both : (old mid new : D) → IsRead moment left_since may_leave old mid → IsRead moment left_since may_leave mid new → IsRead moment left_since may_leave old new
  read_both old mid new one two = record {
    still = two.still ∙ one.still;
    run = goes_on_run moment left_since old mid new (may_leave old) one.run (weaker moment left_since mid new (may_leave mid) (may_leave old) two.run (λ image left. has_now moment left_since may_leave counts_now only_now old mid (may_leave old) one.run image left));
    images = λ image left. two.images image (one.images image left);
  }

-- so many octets of a piece are read, which is as long as before
pub record HasFilled {D : Type 0} (tells : Type 0) (seen : D → List ℕ) (may_leave : D → List ℕ → Type 0) (moment : D → ℕ) (left_since : D → ℕ → List ℕ → Type 0) (faults : D → ℕ) (old now : D) (place size : ℕ) (piece : List ℕ) (filled : ℕ) : Type 0 where
  pub within : filled ≤ length piece
  pub sized : length piece ≡ size
  pub octets : tells → take filled piece ≡ take filled (drop place (seen old))
  pub seen_still : tells → seen now ≡ seen old
  pub read : IsRead moment left_since may_leave old now
  pub quiet : faults now ≡ faults old

-- n octets more
pub filled_more : (octets piece slice : List ℕ) (place filled n : ℕ) → filled ≤ length piece → take filled piece ≡ take filled (drop place octets) → take n slice ≡ take n (drop (place + filled) octets)
    → take (filled + n) (take filled piece ++ slice) ≡ take (filled + n) (drop place octets)
filled_more octets piece slice place filled n within front more =
    let size : length (take filled piece) ≡ filled = omega (arith, length-take filled piece) in
    take-add filled n (take filled piece ++ slice)
    ∙ ap (λ (l : List ℕ). l ++ take n (drop filled (take filled piece ++ slice))) (take_at (take filled piece) slice filled size)
    ∙ ap (λ (l : List ℕ). take filled piece ++ take n l) (drop_at (take filled piece) slice filled size)
    ∙ ap (λ (l : List ℕ). l ++ take n slice) front
    ∙ ap (λ (l : List ℕ). take filled (drop place octets) ++ l) (more ∙ ap (λ (l : List ℕ). take n l) (sym (drop-drop filled place octets)))
    ∙ sym (take-add filled n (drop place octets))

-- none are left
pub filled_all : (octets piece : List ℕ) (place filled : ℕ) → filled ≤ length piece → take filled piece ≡ take filled (drop place octets) → length octets ≤ place + filled
    → take filled piece ≡ take (length piece) (drop place octets)
filled_all octets piece place filled within front «end» =
    front ∙ take_all filled (drop place octets) (omega (arith, length-drop place octets)) ∙ sym (take_all (length piece) (drop place octets) (omega (arith, length-drop place octets)))
