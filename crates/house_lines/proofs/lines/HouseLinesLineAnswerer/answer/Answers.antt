use Rattle.house_lines.specs.HouseWays.{stays-with}
use Rattle.house_lines.proofs.lines.HouseLinesLineAnswerer.answer.Goals as goal

pub returns-in-Skip-clause-way : goal.returns-in-Skip-clause-way
returns-in-Skip-clause-way g c =
    let d = g.D.LeaseDisk in
    stays-with d.tells d.seen d.moment d.left_since d.may_leave c.args.self.now _ c.requires.rests

pub returns-in-Look-clause-way : goal.returns-in-Look-clause-way
returns-in-Look-clause-way g c =
    let d = g.D.LeaseDisk in
    stays-with d.tells d.seen d.moment d.left_since d.may_leave c.args.self.now _ c.requires.rests

pub returns-in_err-owners-in-Owners-clause-way : goal.returns-in_err-owners-in-Owners-clause-way
returns-in_err-owners-in-Owners-clause-way g c =
    let d = g.D.LeaseDisk in
    stays-with d.tells d.seen d.moment d.left_since d.may_leave c.args.self.now _ c.requires.rests

pub returns-in_ok-owners-in-Owners-clause-way : goal.returns-in_ok-owners-in-Owners-clause-way
returns-in_ok-owners-in-Owners-clause-way g c =
    let d = g.D.LeaseDisk in
    stays-with d.tells d.seen d.moment d.left_since d.may_leave c.args.self.now _ c.requires.rests
