use Rattle.std.proofs.Common.{◌≡◌, false, refl, rules}
use Rattle.pcp_announce.specs.Schedules.{is_due}
use Rattle.job_dispatch.proofs.AnnounceLemmas.{announces_none}
use Rattle.job_dispatch.proofs.announcements.announce.Goals as goal

pub returns-then-not-is_due : goal.returns-then-not-is_due
returns-then-not-is_due g c =
    let none : is_due c.seen.new.self c.now-time.result ≡ false = search rules in
    announces_none _ _ _ _ _ c.told-base.result c.now-time.result c.seen.new.self
    c.told-base.ensures c.now-time.ensures.time c.seen.ensures c.due-is_due.ensures.made none refl refl
