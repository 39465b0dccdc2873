use Rattle.std.proofs.Common.{rules, ◌≡◌, ℕ, List, Option, Result, Some, Ok, Err, refl, subst}
use Rattle.lease_house.specs.declared.faults.HouseFault.{HouseFault}
use Rattle.lease_house.specs.declared.faults.HouseFault.TheVariants.{Disk}
use Rattle.lease_house.specs.SoloCalls.{AnswersPacket, RefusesPacket}
use Rattle.lease_house.specs.SoloHouses.{HaveCauses, HouseView}
use Rattle.house_lines.proofs.CallLemmas.{packet-refused-way, served-config, served-house, served-rests, served-told, served-way}
use Rattle.house_lines.proofs.FaultLemmas.{house-later, packet-fault}
use Rattle.house_lines.proofs.lines.HouseLines.reply_read.Goals as goal

abbrev read : List ℕ → Result (List ℕ) HouseFault
read reply = Ok reply

pub returns : goal.returns
returns g c =
    let d = g.D.LeaseDisk in
    let old = c.args.self.now in
    let new = c.serve_read.new.self in
    let rests = c.requires.rests in
    let reply : Option (List ℕ) = Some c.in-Ok.reply in
    let served = subst (λ (h : HouseView _). AnswersPacket d.tells d.moment d.left_since d.may_leave c.args.now c.args.from.now h new c.in-Ok.reply) c.self.view_is c.in-Ok.ensures.served in
    let causes = subst (λ (h : HouseView _). HaveCauses d.faults h new (λ place. read c.in-Ok.reply ≡ Err (Disk place))) c.self.view_is c.in-Ok.ensures.cause in
    let way = served-way d.tells d.seen d.moment d.left_since d.may_leave old rests c.args.now c.args.from.now new reply served in
    record {
      told = served-told d.tells d.seen d.moment d.left_since d.may_leave old rests c.args.now c.args.from.now new reply served;
      house = served-house d.tells d.seen d.moment d.left_since d.may_leave old rests c.args.now c.args.from.now new reply served;
      rests = served-rests d.tells d.seen d.moment d.left_since d.may_leave old rests c.args.now c.args.from.now new reply c.in-Ok.ensures.house served;
      config = served-config d.tells d.seen d.moment d.left_since d.may_leave old rests c.args.now c.args.from.now new reply served;
      way = way;
      cause = λ shard bad. absurd cc;
      later = house-later d.faults old new (λ place. read c.in-Ok.reply ≡ Err (Disk place)) causes way.count;
    }

abbrev told : HouseFault → Result (List ℕ) HouseFault
told fault = Err fault

pub returns-in-Err : goal.returns-in-Err
returns-in-Err g c =
    let d = g.D.LeaseDisk in
    let old = c.args.self.now in
    let new = c.serve_read.new.self in
    let rests = c.requires.rests in
    let refused = subst (λ (h : HouseView _). RefusesPacket d.tells d.moment d.left_since d.may_leave c.args.now c.args.from.now h new c.in-Err.fault) c.self.view_is c.in-Err.ensures.refused in
    let causes = subst (λ (h : HouseView _). HaveCauses d.faults h new (λ place. told c.in-Err.fault ≡ Err (Disk place))) c.self.view_is c.in-Err.ensures.cause in
    let way = packet-refused-way d.tells d.seen d.moment d.left_since d.may_leave old rests c.args.now c.args.from.now new c.in-Err.fault refused in
    record {
      told = tt;
      house = tt;
      rests = tt;
      config = tt;
      way = way;
      cause = λ shard bad. packet-fault d.tells d.moment d.left_since d.may_leave old new d.faults way.count c.args.now c.args.from.now c.in-Err.fault (told c.in-Err.fault) refl refused causes shard (search rules);
      later = house-later d.faults old new (λ place. told c.in-Err.fault ≡ Err (Disk place)) causes way.count;
    }
