use Rattle.std.proofs.Common.{◌≢◌, sym, ap, ◌∙◌, arith, [], codes, length, string_bytes}
use Rattle.std.proofs.lemmas.Bool.{eqb-false}
use Rattle.std.proofs.lemmas.Slice.Eq.{bytes_eq-Decides}
use Rattle.server_commands.proofs.WordLemmas.{same_true, six-texts, load-found, load-missed}
use Rattle.server_commands.proofs.commands.load_of.Goals as goal

pub returns-clause-value : goal.returns-clause-value
returns-clause-value c =
    let texts = six-texts string_bytes c.args.words.now c.load-item.result c.config-item.result c.journals-item.result c.start-item.result c.number-item.result c.count-item.result (omega arith) c.load-item.is c.config-item.is c.journals-item.is c.start-item.is c.number-item.is c.count-item.is in
    let load = same_true (bytes_eq-Decides c.as_str.result.now (codes "load")) c.if-ne.ensures in
    let config : string_bytes c.config-item.result ≢ [] = λ e. eqb-false _ 0 (sym c.is_empty.ensures ∙ c.if-is_empty.false) (c.config-item.result.bytes.ok.0 ∙ ap length e) in
    let journals : string_bytes c.journals-item.result ≢ [] = λ e. eqb-false _ 0 (sym c.is_empty-else-is_empty.ensures ∙ c.if-is_empty-2.false) (c.journals-item.result.bytes.ok.0 ∙ ap length e) in
    let found = rw (c.as_bytes.ensures.value, c.as_bytes-2.ensures.value, c.as_bytes-3.ensures.value) at c.plan_of.ensures.value in
    load-found _ _ _ _ _ _ c.plan_of.result found (rw (sym c.as_str.ensures.value ∙ load) at texts) config journals

pub returns-clause-none : goal.returns-clause-none
returns-clause-none c =
    let texts = six-texts string_bytes c.args.words.now c.load-item.result c.config-item.result c.journals-item.result c.start-item.result c.number-item.result c.count-item.result (omega arith) c.load-item.is c.config-item.is c.journals-item.is c.start-item.is c.number-item.is c.count-item.is in
    let missed = rw (c.as_bytes.ensures.value, c.as_bytes-2.ensures.value, c.as_bytes-3.ensures.value) at c.plan_of.ensures.none in
    load-missed _ _ _ _ _ _ _ c.plan_of.result missed texts
