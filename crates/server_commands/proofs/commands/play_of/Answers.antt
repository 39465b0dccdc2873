use Rattle.std.proofs.Common.{◌≢◌, sym, ap, ◌∙◌, arith, [], codes, length, string_bytes}
use Rattle.std.proofs.lemmas.Bool.{eqb-false}
use Rattle.std.proofs.lemmas.Slice.Eq.{bytes_eq-Decides}
use Rattle.server_commands.proofs.WordLemmas.{same_true, five-texts, play-found, play-missed}
use Rattle.server_commands.proofs.commands.play_of.Goals as goal

pub returns-clause-value : goal.returns-clause-value
returns-clause-value c =
    let texts = five-texts string_bytes c.args.words.now c.play-item.result c.config-item.result c.script-item.result c.journals-item.result c.start-item.result (omega arith) c.play-item.is c.config-item.is c.script-item.is c.journals-item.is c.start-item.is in
    let play = same_true (bytes_eq-Decides c.as_str.result.now (codes "play")) c.if-ne.ensures in
    let config : string_bytes c.config-item.result ≢ [] = λ e. eqb-false _ 0 (sym c.is_empty.ensures ∙ c.if-is_empty.false) (c.config-item.result.bytes.ok.0 ∙ ap length e) in
    let script : string_bytes c.script-item.result ≢ [] = λ e. eqb-false _ 0 (sym c.is_empty-else-is_empty.ensures ∙ c.if-is_empty-2.false) (c.script-item.result.bytes.ok.0 ∙ ap length e) in
    let journals : string_bytes c.journals-item.result ≢ [] = λ e. eqb-false _ 0 (sym c.is_empty-else-is_empty-2.ensures ∙ c.if-is_empty-3.false) (c.journals-item.result.bytes.ok.0 ∙ ap length e) in
    let found = rw c.as_bytes.ensures.value at c.read_moment.ensures.value in
    play-found _ _ _ _ _ c.read_moment.result found (rw (sym c.as_str.ensures.value ∙ play) at texts) config script journals

pub returns-clause-none : goal.returns-clause-none
returns-clause-none c =
    let texts = five-texts string_bytes c.args.words.now c.play-item.result c.config-item.result c.script-item.result c.journals-item.result c.start-item.result (omega arith) c.play-item.is c.config-item.is c.script-item.is c.journals-item.is c.start-item.is in
    let missed = rw c.as_bytes.ensures.value at c.read_moment.ensures.none in
    play-missed _ _ _ _ _ _ c.read_moment.result missed texts
