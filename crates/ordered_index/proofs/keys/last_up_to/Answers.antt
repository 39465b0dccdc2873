use Rattle.ordered_index.proofs.keys.last_up_to.Goals as goal

pub returns : goal.returns
returns g c =
    let part = c.range.ensures.in_range tt in
    let entry = part.3 _ _ c.in-Some.ensures.steps in
    let last = part.4 _ _ c.in-Some.ensures.steps in
    (c.in-Some.field-0-0.now, record { found = entry.1; up_to = entry.0.1; greatest = λ q below some. last q (tt, below) some })
