-- Laws of the steps of a disk: what a read gives is an image, and the images of one moment are those
-- since it.
use Rattle.std.proofs.Common.{◌≡◌, inl, inr, ℕ, ◌+◌, ◌-◌, ◌≤◌, min, max, List, [], ◌∷◌, ◌++◌, length, take, drop, refl, ◌∙◌, ap, arith, length-append, length-drop, length-take, replicate}
use Rattle.std.proofs.lemmas.List.{length-replicate, take_min, take-take, take-append-le, drop_at}
use Rattle.lease_disk.specs.Contents.{with_zeros, after_write}
use Rattle.lease_disk.specs.Images.{Torn}
use Rattle.lease_disk.specs.Steps.{DiskStep, octets_after, IsImage, WasImage}
use Rattle.lease_disk.specs.Steps.DiskStep.{Wrote, CutTo, Synced}

-- a write may leave all as it was
pub torn-same : (place n : ℕ) (octets : List ℕ) → Torn place n octets octets
torn-same place n octets = record {
  before = take_min place octets;
  after = refl;
  no_shorter = omega arith;
  no_longer = omega arith;
}

pub length-with_zeros : (octets : List ℕ) (place : ℕ) → length (with_zeros octets place) ≡ max place (length octets)
length-with_zeros octets place = omega (arith, length-append octets (replicate (place - length octets) 0), length-replicate {A = ℕ} (place - length octets) 0)

-- it may leave any octets in its range
pub torn-after_write : (place n : ℕ) (octets piece : List ℕ) → length piece ≡ n → Torn place n octets (after_write octets place piece)
torn-after_write place n octets [] is = torn-same place n octets
torn-after_write place n octets (x ∷ xs) is =
    let front = take place (with_zeros octets place) in
    let piece = x ∷ xs in
    let rest = drop (place + length piece) octets in
    let size : length front ≡ place = omega (arith, length-take place (with_zeros octets place), length-with_zeros octets place) in
    let sizes : length (front ++ piece) ≡ place + n = omega (arith, length-append front piece, size, is) in
    let zeros : List ℕ = replicate (place - length octets) 0 in
    let m = min place (length octets) in
    let whole : length (front ++ piece ++ rest) ≡ place + n + length rest = omega (arith, length-append (front ++ piece) rest, sizes) in
    let end : length rest ≡ length octets - (place + n) = omega (arith, length-drop (place + length piece) octets, is) in
    record {
      before = take-append-le m (front ++ piece) rest (omega (arith, sizes)) ∙ take-append-le m front piece (omega (arith, size)) ∙ take-take m place (with_zeros octets place) (omega arith) ∙ take-append-le m octets zeros (omega arith) ∙ take_min place octets;
      after = drop_at (front ++ piece) rest (place + n) sizes ∙ ap (λ (k : ℕ). drop (place + k) octets) is;
      no_shorter = omega (arith, whole, end);
      no_longer = omega (arith, whole, end);
    }

-- what a read gives is an image
pub image-now : (steps : List DiskStep) → IsImage steps (octets_after steps)
image-now [] = refl
image-now (Wrote place piece ∷ steps) = (octets_after steps, image-now steps, torn-after_write place (length piece) (octets_after steps) piece refl)
image-now (CutTo size ∷ steps) = (octets_after steps, image-now steps, inr refl)
image-now (Synced ∷ steps) = refl

-- the images of this moment are among those since an earlier one
pub image-counts : (steps : List DiskStep) (t : ℕ) (image : List ℕ) → IsImage steps image → WasImage steps t image
image-counts [] t image now = now
image-counts (step ∷ steps) t image now = inl now

-- what might have been left since a moment might have been left since an earlier one
pub image-earlier : (steps : List DiskStep) (t u : ℕ) (image : List ℕ) → t ≤ u → WasImage steps u image → WasImage steps t image
image-earlier [] t u image le was = was
image-earlier (step ∷ steps) t u image le (inl now) = inl now
image-earlier (step ∷ steps) t u image le (inr (so, was)) = inr (omega (arith, le, so), image-earlier steps t u image le was)

-- since this moment there are no others
pub image-only : (steps : List DiskStep) (image : List ℕ) → WasImage steps (length steps) image → IsImage steps image
image-only [] image was = was
image-only (step ∷ steps) image (inl now) = now
image-only (step ∷ steps) image (inr (le, was)) = absurd (omega arith)
