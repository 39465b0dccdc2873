use Rattle.std.proofs.Common.{rules, ◌≡◌, ℕ, Result, Ok, Err, refl, subst}
use Rattle.lease_house.specs.declared.faults.HouseFault.{HouseFault}
use Rattle.lease_house.specs.declared.faults.HouseFault.TheVariants.{Disk}
use Rattle.lease_house.specs.SoloCalls.{IsLineRefused, LosesAt, loss_records}
use Rattle.lease_house.specs.SoloHouses.{HaveCauses, HouseView}
use Rattle.house_lines.proofs.CallLemmas.{lose-refused-way, lost-house, lost-rests, lost-told, lost-way}
use Rattle.house_lines.proofs.FaultLemmas.{house-later, line-fault}
use Rattle.house_lines.proofs.lines.HouseLines.lose.Goals as goal

pub returns : goal.returns
returns g c =
    let d = g.D.LeaseDisk in
    let old = c.args.self.now in
    let new = c.lose.new.self in
    let rests = c.requires.rests in
    let lost = subst (λ (h : HouseView _). LosesAt d.tells d.moment d.left_since d.may_leave c.args.now c.args.shard h new c.in-Ok.count) c.self.view_is c.in-Ok.ensures.lost in
    let causes = subst (λ (h : HouseView _). HaveCauses d.faults h new (λ place. Ok c.in-Ok.count ≡ Err (Disk place))) c.self.view_is c.in-Ok.ensures.cause in
    let way = lost-way d.tells d.seen d.moment d.left_since d.may_leave old rests c.args.now c.args.shard new c.in-Ok.count lost in
    record {
      told = lost-told d.tells d.seen d.moment d.left_since d.may_leave old rests c.args.now c.args.shard new c.in-Ok.count lost;
      house = lost-house d.tells d.seen d.moment d.left_since d.may_leave old rests c.args.now c.args.shard new c.in-Ok.count lost;
      rests = lost-rests d.tells d.seen d.moment d.left_since d.may_leave old rests c.args.now c.args.shard new c.in-Ok.count c.in-Ok.ensures.house lost;
      way = way;
      cause = λ shard bad. absurd cc;
      later = house-later d.faults old new (λ place. Ok c.in-Ok.count ≡ Err (Disk place)) causes way.count;
    }

abbrev told : HouseFault → Result ℕ HouseFault
told fault = Err fault

pub returns-in-Err : goal.returns-in-Err
returns-in-Err g c =
    let d = g.D.LeaseDisk in
    let old = c.args.self.now in
    let new = c.lose.new.self in
    let rests = c.requires.rests in
    let refused = subst (λ (h : HouseView _). IsLineRefused d.tells d.moment d.left_since d.may_leave c.args.now c.args.shard (loss_records c.args.now) h new c.in-Err.fault) c.self.view_is c.in-Err.ensures.refused in
    let causes = subst (λ (h : HouseView _). HaveCauses d.faults h new (λ place. told c.in-Err.fault ≡ Err (Disk place))) c.self.view_is c.in-Err.ensures.cause in
    let way = lose-refused-way d.tells d.seen d.moment d.left_since d.may_leave old rests c.args.now c.args.shard new c.in-Err.fault refused in
    record {
      told = tt;
      house = tt;
      rests = tt;
      way = way;
      cause = λ shard bad. line-fault d.tells d.moment d.left_since d.may_leave old new d.faults way.count c.args.now c.args.shard (loss_records c.args.now) c.in-Err.fault (told c.in-Err.fault) refl refused causes shard (search rules);
      later = house-later d.faults old new (λ place. told c.in-Err.fault ≡ Err (Disk place)) causes way.count;
    }
