use Rattle.pcp_script.proofs.WordLemmas.{parted-last}
use Rattle.pcp_script.proofs.fields.fields_of.Goals as goal

pub returns : goal.returns
returns c =
    parted-last (λ f. f.now) c.args.text.now c.loop-field.fields.items c.push-2.new.self.items c.loop-field.rest c.in_ok-push-2.ensures.items c.loop-field.invariant c.in_default.ensures.none
