use Rattle.std.proofs.Common.{◌∙◌}
use Rattle.program_links.proofs.RouteLemmas.{reads}
use Rattle.program_links.proofs.routes.number_in.Goals as goal

pub returns : goal.returns
returns c = c.ok.ensures.value ∙ reads c.args.base c.args.text.now c.from_str_radix.result c.from_str_radix.ensures.value
