use Rattle.std.proofs.Common.{◌≢◌, sym, ap, ◌∙◌, arith, [], length, string_bytes}
use Rattle.std.proofs.lemmas.Bool.{eqb-false, eqb-true}
use Rattle.std.proofs.lemmas.Slice.Eq.{bytes_eq-Decides}
use Rattle.order_commands.proofs.WordLemmas.{no_folder, other_command, same_false, same_true, two-texts}
use Rattle.order_commands.proofs.commands.is_plain.Goals as goal
use Rattle.order_commands.proofs.commands.is_plain.Goals.{then-ne-via-then-ne, then-ne-via-else-ne+then-is_empty}

pub returns-then-ne-clause-no : goal.returns-then-ne-clause-no
returns-then-ne-clause-no c =
    let texts = two-texts string_bytes c.args.words.now c.first-item.result c.journals-item.result (omega arith) c.first-item.is c.journals-item.is in
    elim c.then-ne.branch [
      | then-ne-via-then-ne w ↦ other_command _ _ _ _ texts (same_false (bytes_eq-Decides (string_bytes c.first-item.result) c.args.command.now) (rw c.as_str.ensures.value at (sym w.if-ne.true ∙ c.ne.ensures)))
      | then-ne-via-else-ne+then-is_empty w ↦ no_folder _ _ _ _ texts (sym c.journals-item.result.bytes.ok.0 ∙ eqb-true _ 0 (sym w.is_empty.ensures ∙ w.if-is_empty.true))
    ]

pub returns-clause-yes : goal.returns-clause-yes
returns-clause-yes c =
    let texts = two-texts string_bytes c.args.words.now c.first-item.result c.journals-item.result (omega arith) c.first-item.is c.journals-item.is in
    let first = same_true (bytes_eq-Decides c.as_str.result.now c.args.command.now) c.if-ne.ensures in
    let journals : string_bytes c.journals-item.result ≢ [] = λ e. eqb-false _ 0 (sym c.is_empty.ensures ∙ c.if-is_empty.false) (c.journals-item.result.bytes.ok.0 ∙ ap length e) in
    record {
      journals = string_bytes c.journals-item.result;
      spelled = rw (sym c.as_str.ensures.value ∙ first) at texts;
      filled = journals;
    }
