-- What it takes to look for the next port inside.
use Rattle.std.proofs.Common.{◌≡◌, ℕ, ◌+◌, ◌-◌, ◌*◌, ◌≤◌, ap, subst, arith}
use Rattle.std.proofs.Math.Nat.{mul_assoc, mul_left_comm}
use Rattle.std.proofs.lemmas.Nat.{mul-le}

-- in both tables, along so many ports: not more than a look-up for each
pub inside-steps : (most all maps peers : ℕ) → 1 ≤ most → maps ≤ all → peers ≤ all →
    (2 * most + 1) * maps + (18 * most + 1) * peers ≤ most * (35 * all)
inside-steps most all maps peers some few less =
    let a = mul-le (2 * most + 1) maps (3 * most) all (omega (arith, some)) few in
    let b = mul-le (18 * most + 1) peers (19 * most) all (omega (arith, some)) less in
    let c : 3 * most * all ≡ 3 * (most * all) = mul_assoc 3 most all in
    let d : 19 * most * all ≡ 19 * (most * all) = mul_assoc 19 most all in
    let e : most * (35 * all) ≡ 35 * (most * all) = mul_left_comm most 35 all in
    omega (arith, a, b, c, d, e)

-- where both walks begin at the port, and go as far
pub taken-is : (from port most : ℕ) → from ≡ port → (before between after maps peers : ℕ) →
    between ≤ before + (2 * (from + most - port) + 1) * maps → after ≤ between + (18 * (from + most - port) + 1) * peers →
    (all : ℕ) → 1 ≤ most → maps ≤ all → peers ≤ all → after ≤ before + most * (35 * all)
taken-is from port most same before between after maps peers first second all some few less =
    let far : from + most - port ≡ most = omega (arith, same) in
    let one = subst (λ n. between ≤ before + (2 * n + 1) * maps) far first in
    let two = subst (λ n. after ≤ between + (18 * n + 1) * peers) far second in
    let both = inside-steps most all maps peers some few less in
    omega (arith, one, two, both)
