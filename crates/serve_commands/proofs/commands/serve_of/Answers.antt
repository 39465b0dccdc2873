use Rattle.std.proofs.Common.{◌≢◌, sym, ap, ◌∙◌, arith, [], codes, length, string_bytes}
use Rattle.std.proofs.lemmas.Bool.{eqb-false}
use Rattle.std.proofs.lemmas.Slice.Eq.{bytes_eq-Decides}
use Rattle.server_commands.proofs.WordLemmas.{same_true, five-texts}
use Rattle.serve_commands.proofs.WordLemmas.{serve-found, serve-only}
use Rattle.serve_commands.proofs.commands.serve_of.Goals as goal

pub returns-clause-value : goal.returns-clause-value
returns-clause-value c =
    let texts = five-texts string_bytes c.args.words.now c.serve-item.result c.config-item.result
    c.journals-item.result c.port-item.result c.lane_port-item.result (omega arith)
    c.serve-item.is c.config-item.is c.journals-item.is c.port-item.is c.lane_port-item.is in
    let serve = same_true (bytes_eq-Decides c.as_str.result.now (codes "serve")) c.if-ne.ensures in
    let config : string_bytes c.config-item.result ≢ [] = λ e. eqb-false _ 0
    (sym c.is_empty.ensures ∙ c.if-is_empty.false)
    (c.config-item.result.bytes.ok.0 ∙ ap length e) in
    let journals : string_bytes c.journals-item.result ≢ [] = λ e. eqb-false _ 0
    (sym c.is_empty-else-is_empty.ensures ∙ c.if-is_empty-2.false)
    (c.journals-item.result.bytes.ok.0 ∙ ap length e) in
    let found = rw (c.as_bytes.ensures.value, c.as_bytes-2.ensures.value)
    at c.ports_of.ensures.value in
    serve-found _ _ _ _ _ c.ports_of.result found
    (rw (sym c.as_str.ensures.value ∙ serve) at texts) config journals

pub returns-clause-only : goal.returns-clause-only
returns-clause-only c =
    let texts = five-texts string_bytes c.args.words.now c.serve-item.result c.config-item.result
    c.journals-item.result c.port-item.result c.lane_port-item.result (omega arith)
    c.serve-item.is c.config-item.is c.journals-item.is c.port-item.is c.lane_port-item.is in
    let some = rw (c.as_bytes.ensures.value, c.as_bytes-2.ensures.value)
    at c.ports_of.ensures.value in
    let none = rw (c.as_bytes.ensures.value, c.as_bytes-2.ensures.value)
    at c.ports_of.ensures.none in
    serve-only _ _ _ _ _ _ c.ports_of.result texts some none
