use Rattle.std.proofs.Common.{length, take, drop, ◌-◌, ◌∙◌, refl}
use Rattle.std.proofs.lemmas.List.{take_rest}
use Rattle.pcp_options.proofs.WalkLemmas.{split-found}
use Rattle.pcp_options.proofs.options.split_option.Goals as goal

pub returns-clause-found : goal.returns-clause-found
returns-clause-found c =
    let text = c.args.text.now in
    let behind = take (length text - 4) (drop 4 text) in
    let few = c.min.result in
    let start = c.min-2.result in
    split-found text behind (take few behind) (take (length behind - start) (drop start behind)) c.from-claimed.result few c.next_multiple_of-padded.result start
    c.in-len4-up.len_at_least (take_rest text 4) (c.from-claimed.ensures ∙ c.from_be_bytes.ensures) c.min.ensures c.next_multiple_of-padded.ensures.value c.min-2.ensures refl (take_rest behind start)
