use Rattle.pcp_options.proofs.options.Seen.with.Goals as goal

pub returns-in-Some : goal.returns-in-Some
returns-in-Some c = λ items h. rw c.in-Some.is (c.with_item.ensures items h)
