-- What waits.
use Rattle.std.specs.Prelude.{◌≡◌, ℕ, Some, None}
use Rattle.std.specs.Ordering.{nat_cmp}
use Rattle.std.specs.FinMap.{FinMap, get, insert, remove}
use Rattle.std.proofs.Common.{ap, ◌∙◌}
use Rattle.expiry_wheel.proofs.Maps.{get-inserted, get-removed}
use Rattle.leased_ports.specs.Steps.{Waits}

pub waits-inserted : (old new : FinMap nat_cmp ℕ) (id expiry : ℕ) → new ≡ insert old id expiry → Waits old id (Some expiry) new
waits-inserted old new id expiry e other = ap (λ (m : FinMap nat_cmp ℕ). get m other) e ∙ get-inserted old id expiry other

pub waits-removed : (old new : FinMap nat_cmp ℕ) (id : ℕ) → new ≡ remove old id → Waits old id None new
waits-removed old new id e other = ap (λ (m : FinMap nat_cmp ℕ). get m other) e ∙ get-removed old id other
