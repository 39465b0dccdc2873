use Rattle.std.proofs.Common.{◌≢◌, ◌/◌, ◌*◌, ◌<◌, ◌≤◌, ℕ, ap, arith}
use Rattle.expiry_wheel.specs.Moments.{kept_at}
use Rattle.expiry_wheel.proofs.BlockMoments.{leasts_told, leasts_same, leasts_lower, leasts_stay}
use Rattle.leased_ports.specs.Frees.{free_at}
use Rattle.leased_ports.proofs.timed_ends.retell.Goals as goal

pub returns-then-block-ge-BLOCKS : goal.returns-then-block-ge-BLOCKS
returns-then-block-ge-BLOCKS c was are before same =
    leasts_same 16384 was c.args.frees.now are (free_at c.args.ends.now) (λ i low. same i (λ e. omega (arith, e, low, c.if-block-ge-BLOCKS.true)))

pub least_of-least-requires : goal.least_of-least-requires
least_of-least-requires c = omega (arith, c.requires.all, c.if-block-ge-BLOCKS.false)

pub set_uncounted-requires : goal.set_uncounted-requires
set_uncounted-requires c = omega (arith, c.requires.all, c.if-block-ge-BLOCKS.false)

pub returns-then-free-least : goal.returns-then-free-least
returns-then-free-least c was are before same =
    let g = free_at c.args.ends.now in
    let low : c.args.at < 8 * 16384 = omega (arith, c.if-block-ge-BLOCKS.false) in
    let some : g c.args.at ≤ 18446744073709551615 = omega (arith, c.requires.free) in
    let under : g c.args.at ≤ kept_at c.args.frees.now (c.args.at / 8) = omega (arith, c.requires.free, c.least_of-least.ensures, c.if-free-least.true) in
    rw (c.set_uncounted.ensures, c.requires.free) (leasts_lower 16384 was c.args.frees.now are g c.args.at low some same under)

pub set_uncounted-requires-then-before-least : goal.set_uncounted-requires-then-before-least
set_uncounted-requires-then-before-least c = omega (arith, c.requires.all, c.if-block-ge-BLOCKS.false)

pub returns-then-before-least : goal.returns-then-before-least
returns-then-before-least c was are before same =
    rw c.set_uncounted-then-before-least.ensures
    (leasts_told 16384 was c.args.frees.now are (free_at c.args.ends.now) (c.args.at / 8) c.least_in.result (omega (arith, c.if-block-ge-BLOCKS.false))
    (λ i apart. same i (λ e. apart (ap (λ (k : ℕ). k / 8) e))) c.least_in.ensures)

pub returns-else-before-least : goal.returns-else-before-least
returns-else-before-least c was are before same =
    let g = free_at c.args.ends.now in
    let low : c.args.at < 8 * 16384 = omega (arith, c.if-block-ge-BLOCKS.false) in
    let some : g c.args.at ≤ 18446744073709551615 = omega (arith, c.requires.free) in
    let other : was c.args.at ≢ kept_at c.args.frees.now (c.args.at / 8) = λ e. omega (arith, e, before, c.least_of-least.ensures, c.if-before-least.false) in
    leasts_stay 16384 was c.args.frees.now are g c.args.at low some same (omega (arith, c.requires.free, c.least_of-least.ensures, c.if-free-least.false)) other
