use Rattle.std.proofs.Common.{◌∙◌, rules}
use Rattle.pcp_script.proofs.LoadLemmas.{request_of_draw}
use Rattle.pcp_script.proofs.load.Load.next_in.Goals as goal

pub returns-clause-request : goal.returns-clause-request
returns-clause-request c number i at =
    c.request_of.ensures
    ∙ request_of_draw number i c.args.self.now at _ _ _
    (search (rules, c.draw_of-draw.ensures.first))
    (search (rules, c.draw_of-draw.ensures.second))
    (search (rules, c.draw_of-draw.ensures.third))
