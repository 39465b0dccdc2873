use Rattle.std.proofs.Common.{[], rules}
use Rattle.client_words.proofs.FilterLemmas.{adds_more_by, adds_not_by}
use Rattle.client_words.proofs.filters.+add_filters.Goals as goal

pub returns-in_default-filter_of : goal.returns-in_default-filter_of
returns-in_default-filter_of n c =
    adds_not_by (λ s. s.now) c.args.texts.now _ c.as_bytes.result.now c.in-len1-up.len_at_least c.as_bytes.ensures.value c.filter_of.result [] [] (search rules) c.filter_of.ensures

pub returns : goal.returns
returns n c =
    adds_more_by (λ s. s.now) c.args.texts.now _ c.as_bytes.result.now c.in-len1-up.len_at_least c.as_bytes.ensures.value c.filter_of.result c.in-Some.filter
    c.args.filters.now.items c.push.new.self.items c.add_filters.new.filters.items c.add_filters.result (search rules) c.filter_of.ensures c.in_ok-push.ensures.items c.add_filters.ensures
