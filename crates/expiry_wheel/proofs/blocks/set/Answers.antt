use Rattle.std.proofs.Common.{ℕ, ◌*◌, ◌/◌, List, ap, ◌∙◌, arith}
use Rattle.expiry_wheel.specs.Moments.{kept_at}
use Rattle.expiry_wheel.specs.Blocks.{least_at}
use Rattle.expiry_wheel.proofs.BlockMoments.{wheel_written}
use Rattle.expiry_wheel.proofs.blocks.set.Goals as goal

pub set-requires : goal.set-requires
set-requires g c = omega (arith, c.requires.id, c.requires.wheel.blocks.all)

pub returns-clause-wheel : goal.returns-clause-wheel
returns-clause-wheel g c =
    let least = c.least_of-least.ensures.least ∙ ap (λ (xs : List ℕ). least_at (kept_at xs) (8 * (c.args.id / 8)) 8) c.deref.ensures.value in
    rw c.set.ensures.set (wheel_written c.args.moments.now.items c.args.leasts.now c.args.id c.args.moment c.least_of-least.result c.requires.wheel c.requires.id least)
