use Rattle.std.proofs.Common.{◌/◌, ◌<◌, sym, ◌∙◌, arith}
use Rattle.ordered_index.proofs.MarkLemmas.{word_found, word_lacks, none_first, none_before, some_before, last_before}
use Rattle.ordered_index.proofs.marks.last_marked.Goals as goal

pub returns-then-is_some : goal.returns-then-is_some
returns-then-is_some c = word_found c.args.low.now c.args.n c.last_in_word-found.result (sym c.is_some.ensures ∙ c.if-is_some.true) c.last_in_word-found.ensures

pub returns-then-n-lt64 : goal.returns-then-n-lt64
returns-then-n-lt64 c =
    let own = word_lacks c.args.low.now c.args.n c.last_in_word-found.result (sym c.is_some.ensures ∙ c.if-is_some.false) c.last_in_word-found.ensures in
    none_first c.args.low.now c.args.high.now c.args.n c.requires.within c.requires.summed own c.if-n-lt64.true

pub returns-in_default : goal.returns-in_default
returns-in_default c =
    let own = word_lacks c.args.low.now c.args.n c.last_in_word-found.result (sym c.is_some.ensures ∙ c.if-is_some.false) c.last_in_word-found.ensures in
    let far : 0 < c.args.n / 64 = (let past = c.if-n-lt64.false in omega (arith, past)) in
    none_before c.args.low.now c.args.high.now c.args.n c.requires.within c.requires.summed own far c.in_default.ensures

pub top_bit-requires : goal.top_bit-requires
top_bit-requires c =
    let own = word_lacks c.args.low.now c.args.n c.last_in_word-found.result (sym c.is_some.ensures ∙ c.if-is_some.false) c.last_in_word-found.ensures in
    let far : 0 < c.args.n / 64 = (let past = c.if-n-lt64.false in omega (arith, past)) in
    some_before c.args.low.now c.args.high.now c.args.n c.requires.within c.requires.summed own far c.in-Some.before c.in-Some.ensures

pub returns : goal.returns
returns c =
    let own = word_lacks c.args.low.now c.args.n c.last_in_word-found.result (sym c.is_some.ensures ∙ c.if-is_some.false) c.last_in_word-found.ensures in
    let far : 0 < c.args.n / 64 = (let past = c.if-n-lt64.false in omega (arith, past)) in
    last_before c.args.low.now c.args.high.now c.args.n c.requires.within c.requires.summed own far c.in-Some.before c.in-Some.ensures c.top_bit.result c.top_bit.ensures
