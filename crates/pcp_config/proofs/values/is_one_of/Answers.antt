use Rattle.std.proofs.Common.{sym, ◌∙◌}
use Rattle.std.specs.Str.{bytes_eq}
use Rattle.pcp_config.proofs.ValueLemmas.{list_any-map}
use Rattle.pcp_config.proofs.values.is_one_of.Goals as goal

pub returns : goal.returns
returns c =
    c.contains.ensures.value ∙ sym (list_any-map (λ one. bytes_eq one c.args.key.now) (λ one. one.now) c.args.keys.now)
