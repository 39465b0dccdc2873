use Rattle.std.proofs.Common.{map, string_bytes}
use Rattle.client_runs.proofs.CallLemmas.{found_can, is_told}
use Rattle.tool_commands.specs.declared.statuses.ToolStatus.TheVariants as Statuses
use Rattle.client_runs.proofs.calls.run_client.Goals as goal

pub answer_to-requires : goal.answer_to-requires
answer_to-requires g c = found_can (map string_bytes c.args.words.now) _ c.in-Ok.found c.in-Some.asked c.in-Some.is c.in-Ok.ensures

pub returns-in-Ok-answer_to-clause-words_refused : goal.returns-in-Ok-answer_to-clause-words_refused
returns-in-Ok-answer_to-clause-words_refused g c refused ask is =
    is_told c.in-Some.asked c.in-Ok-answer_to.response _ _ c.tell.result Statuses.WordsRefused c.tell.ensures.told refused tt
