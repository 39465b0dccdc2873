use Rattle.std.proofs.Common.{◌≤◌, length, subst, sym}
use Rattle.pcp_options.proofs.VerdictLemmas.{frame-few, frame-room}
use Rattle.pcp_options.proofs.options.options_text.Goals as goal

pub octets_from-requires : goal.octets_from-requires
octets_from-requires c = frame-room c.args.frame.now c.args.octets.now c.requires

pub returns-clause-few : goal.returns-clause-few
returns-clause-few c = subst (λ text. length text ≤ 1076) (sym c.octets_from.ensures) (frame-few c.args.frame.now c.args.octets.now c.requires)
