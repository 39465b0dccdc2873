-- What a disk holds on which one piece was written.
use Rattle.std.proofs.Common.{◌≡◌, ℕ, ◌+◌, List, [], ◌∷◌, ◌++◌, length, refl, ap, ◌∙◌, arith}
use Rattle.std.proofs.lemmas.List.{append-nil, drop_all}
use Rattle.lease_disk.specs.Contents.{after_write}
use Rattle.lease_disk.specs.Steps.{DiskStep, octets_after}
use Rattle.lease_disk.specs.Steps.DiskStep.{Wrote}

written_new : (octets : List ℕ) → after_write [] 0 octets ≡ octets
written_new [] = refl
written_new (x ∷ xs) =
    ap (λ (l : List ℕ). (x ∷ xs) ++ l) (drop_all (0 + length (x ∷ xs)) [] (omega arith)) ∙ append-nil (x ∷ xs)

pub written_alone : (octets : List ℕ) (steps : List DiskStep) → steps ≡ Wrote 0 octets ∷ [] → octets_after steps ≡ octets
written_alone octets steps is = ap octets_after is ∙ written_new octets
