use Rattle.std.proofs.Common.{drop, ap, ◌∙◌}
use Rattle.std.proofs.lemmas.List.{take_rest}
use Rattle.pcp_options.proofs.WalkLemmas.{drop-min}
use Rattle.pcp_options.proofs.responses.octets_behind.Goals as goal

pub returns : goal.returns
returns c =
    let xs = c.args.octets.now in
    take_rest xs c.min.result ∙ ap (λ k. drop k xs) c.min.ensures ∙ drop-min xs c.args.place
