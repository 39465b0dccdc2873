-- A greater number has as many binary digits at least.
use Rattle.std.proofs.Common.{ℕ, zero, suc, ◌≤◌, ◌<◌, ◌^◌, inl, inr, arith}
use Rattle.std.specs.Int.Count.{leading_of_zero}
use Rattle.std.proofs.lemmas.Nat.{leading_top, leading_length}
use Rattle.std.proofs.lemmas.Bool.{cases_lt}
use Rattle.std.proofs.Math.Pow.{pow_mono}
use Rattle.step_count.specs.Levels.{levels}

pub shorter : (i j a b : ℕ) → 2 ^ i ≤ a → a ≤ b → b < 2 ^ j → i < j
shorter i j a b low within high =
    elim (cases_lt i j) [ inl less ↦ less | inr greater ↦ let steep : 2 ^ j ≤ 2 ^ i = pow_mono greater in omega (arith, steep, low, within, high) ]

pub levels-grow : (a b : ℕ) → a ≤ b → b < 2 ^ 64 → levels a ≤ levels b
levels-grow zero b within small = omega (arith, leading_of_zero 64)
levels-grow (suc a) b within small =
    let top = leading_top 64 (suc a) (omega arith) (omega (arith, within, small)) in
    let size = leading_length 64 b small in
    let less : top.0 < size.0 = shorter top.0 size.0 (suc a) b top.2 within size.2 in
    omega (arith, less, top.1, size.1)
