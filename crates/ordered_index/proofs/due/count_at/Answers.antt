use Rattle.std.proofs.Common.{ℕ, cond, ap}
use Rattle.ordered_index.proofs.due.count_at.Goals as goal

pub returns-in_default : goal.returns-in_default
returns-in_default g c = ap (λ b. cond {A = ℕ} b 1 0) c.in_default.ensures.tells

pub returns : goal.returns
returns g c = ap (λ b. cond {A = ℕ} b 1 0) c.in-Some.ensures.tells
