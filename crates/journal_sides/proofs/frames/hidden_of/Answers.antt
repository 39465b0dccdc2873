use Rattle.journal_sides.proofs.HiddenLaws.{hidden_all}
use Rattle.journal_sides.proofs.frames.hidden_of.Goals as goal

pub returns : goal.returns
returns c = hidden_all c.args.generation _ c.in_ok-text.text.items c.put_open_frames.new.out.items c.push.new.self.items c.in_ok-text.ensures c.in_ok-put_open_frames.ensures c.requires.some c.in_ok-push.ensures.items
