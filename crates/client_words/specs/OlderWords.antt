-- Words of an older command go on saying what they said (our own).
use Rattle.std.specs.Prelude.{◌≡◌, false, List, [], ◌∷◌, None, codes}
use Rattle.std.specs.List.{list_any}
use Rattle.std.specs.Str.{bytes_eq}
use Rattle.clap.specs.Words.{Text}
use Rattle.client_commands.specs.Commands.{IsCommand}
use Rattle.client_commands.specs.declared.commands.ClientCommand.{ClientCommand}
use Rattle.client_words.specs.declared.more.More.{More}
use Rattle.client_words.specs.Asks.{IsAsk}
use Rattle.client_words.specs.Splits.{is_more}

abbrev pub nothing_more : More
nothing_more = record { nonce = None; third = None; filters = [] }

-- without the options that may stand among them
abbrev pub OlderWordsStay : Type 0
OlderWordsStay =
    (name : Text) (rest : List Text) (command : ClientCommand)
    → list_any is_more rest ≡ false → bytes_eq name (codes "unmap") ≡ false
    → IsCommand (name ∷ rest) command
    → IsAsk (name ∷ rest) None
    (record { command = command; deletes = false; more = nothing_more })
