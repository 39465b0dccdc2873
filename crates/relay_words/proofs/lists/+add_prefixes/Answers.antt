use Rattle.std.proofs.Common.{[], rules}
use Rattle.pcp_base.specs.AddressTexts.{IsPrefixText}
use Rattle.relay_words.proofs.TextLemmas.{adds_more_by, adds_not_by}
use Rattle.relay_words.proofs.lists.+add_prefixes.Goals as goal

pub returns-in_default-prefix_of : goal.returns-in_default-prefix_of
returns-in_default-prefix_of n c =
    adds_not_by IsPrefixText (λ s. s.now) c.args.texts.now _ c.as_bytes.result.now c.in-len1-up.len_at_least c.as_bytes.ensures.value c.prefix_of.result [] [] (search rules) c.prefix_of.ensures

pub returns : goal.returns
returns n c =
    adds_more_by IsPrefixText (λ s. s.now) c.args.texts.now _ c.as_bytes.result.now c.in-len1-up.len_at_least c.as_bytes.ensures.value c.prefix_of.result c.in-Some.prefix
    c.args.prefixes.now.items c.push.new.self.items c.add_prefixes.new.prefixes.items c.add_prefixes.result (search rules) c.prefix_of.ensures c.in_ok-push.ensures.items c.add_prefixes.ensures
