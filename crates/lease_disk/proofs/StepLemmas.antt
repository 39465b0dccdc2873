-- What the steps of a disk in memory leave.
use Rattle.std.proofs.Common.{◌≡◌, ℕ, List, ◌∷◌, sym, subst}
use Rattle.lease_disk.specs.ImageLaws.{image-now}
use Rattle.lease_disk.specs.Steps.{DiskStep, octets_after, IsImage}
use Rattle.lease_disk.specs.Steps.DiskStep.{Synced}

-- a sync adds no image
pub no_more_synced : (old new : List DiskStep) (image : List ℕ) → new ≡ Synced ∷ old → IsImage new image → IsImage old image
no_more_synced old new image is left =
    let synced : image ≡ octets_after old = subst (λ (steps : List DiskStep). IsImage steps image) is left in
    subst (IsImage old) (sym synced) (image-now old)
