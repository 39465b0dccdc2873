-- Which command was asked for.
use Rattle.std.proofs.Common.{◌≡◌, ℕ, Some}
use Rattle.server_commands.specs.declared.commands.Command.{Command}
use Rattle.server_commands.specs.declared.commands.Command.TheVariants.{Play, Load}
use Rattle.server_commands.specs.declared.commands.LoadPlan.{LoadPlan}

pub play-once : (start other : ℕ) → Play start ≡ Play other → start ≡ other
play-once start other h = let same : start ≡ other = cc in same

pub load-once : (plan other : LoadPlan) → Load plan ≡ Load other → plan ≡ other
load-once plan other h = let same : plan ≡ other = cc in same

pub some-once : (command other : Command) → Some command ≡ Some other → command ≡ other
some-once command other h = let same : command ≡ other = cc in same
