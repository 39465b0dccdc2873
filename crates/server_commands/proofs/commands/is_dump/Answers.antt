use Rattle.std.proofs.Common.{◌≢◌, sym, ap, ◌∙◌, arith, [], codes, length, string_bytes}
use Rattle.std.proofs.lemmas.Bool.{eqb-false}
use Rattle.std.proofs.lemmas.Slice.Eq.{bytes_eq-Decides}
use Rattle.server_commands.proofs.WordLemmas.{same_true, three-texts}
use Rattle.server_commands.proofs.commands.is_dump.Goals as goal

pub returns-clause-yes : goal.returns-clause-yes
returns-clause-yes c =
    let texts = three-texts string_bytes c.args.words.now c.dump-item.result c.config-item.result c.journals-item.result (omega arith) c.dump-item.is c.config-item.is c.journals-item.is in
    let dump = same_true (bytes_eq-Decides c.as_str.result.now (codes "dump")) c.if-ne.ensures in
    let config : string_bytes c.config-item.result ≢ [] = λ e. eqb-false _ 0 (sym c.is_empty.ensures ∙ c.if-is_empty.false) (c.config-item.result.bytes.ok.0 ∙ ap length e) in
    let journals : string_bytes c.journals-item.result ≢ [] = λ e. eqb-false _ 0 (sym c.is_empty-else-is_empty.ensures ∙ c.if-is_empty-2.false) (c.journals-item.result.bytes.ok.0 ∙ ap length e) in
    record {
      config = string_bytes c.config-item.result;
      journals = string_bytes c.journals-item.result;
      spelled = rw (sym c.as_str.ensures.value ∙ dump) at texts;
      filled = (config, journals);
    }
