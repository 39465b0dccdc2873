use Rattle.std.proofs.Common.{rules}
use Rattle.lease_house.proofs.BookLemmas.{weaker-causes}
use Rattle.lease_house.proofs.solo.SoloHouse.serve.Goals as goal

pub returns-in_err-request-clause-house : goal.returns-in_err-request-clause-house
returns-in_err-request-clause-house g c = c.config.ensures.house

pub returns-in_default-clause-house : goal.returns-in_default-clause-house
returns-in_default-clause-house g c = c.config.ensures.house

pub returns-in_err-reply-clause-cause : goal.returns-in_err-reply-clause-cause
returns-in_err-reply-clause-cause g c =
    weaker-causes g.D.LeaseDisk.faults _ _ c.args.self.now c.serve_read.new.self c.in_err-reply.ensures.cause (λ p failed. search rules)

pub returns-clause-cause : goal.returns-clause-cause
returns-clause-cause g c =
    weaker-causes g.D.LeaseDisk.faults _ _ c.args.self.now c.serve_read.new.self c.in_ok-reply.ensures.cause (λ p failed. absurd (cc failed))
