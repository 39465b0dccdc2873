use Rattle.std.proofs.Common.{is_some, ap, ◌∙◌}
use Rattle.pcp_options.proofs.WalkLemmas.{third-stands, prefers-stands, set-stands}
use Rattle.pcp_options.proofs.options.Seen.has.Goals as goal

pub returns-in-1 : goal.returns-in-1
returns-in-1 c = λ before h. rw c.in-1.is (c.is_some.ensures ∙ ap (λ s. is_some s.third) h ∙ third-stands before)

pub returns-in-2 : goal.returns-in-2
returns-in-2 c = λ before h. rw c.in-2.is (ap (λ s. s.prefers) h ∙ prefers-stands before)

pub returns-in-130 : goal.returns-in-130
returns-in-130 c = λ before h. rw c.in-130.is (c.is_some-in-130.ensures ∙ ap (λ s. is_some s.set) h ∙ set-stands before)
