-- Words of an older command go on saying what they said (our own).
use Rattle.std.specs.Prelude.{◌≡◌, ◌≤◌, false, List, [], ◌∷◌, length, None, codes}
use Rattle.std.specs.List.{list_any}
use Rattle.clap.specs.Words.{Text}
use Rattle.proxy_commands.specs.Commands.{IsCascadeCommand, IsCommand}
use Rattle.proxy_commands.specs.declared.commands.CascadeCommand.{CascadeCommand}
use Rattle.proxy_commands.specs.declared.commands.ProxyCommand.{ProxyCommand}
use Rattle.relay_words.specs.declared.more.RelayMore.{RelayMore}
use Rattle.relay_words.specs.Relaying.{IsCascade, IsProxy}
use Rattle.relay_words.specs.Splits.{is_more, values_in}

-- nobody's THIRD_PARTY, no further door, 20 requests a second
abbrev pub nothing_more : RelayMore
nothing_more = record { inner = []; third_party = []; rate = 20 }

-- none of the options stands among these words
pub record AreOlder (rest : List Text) : Type 0 where
  pub more : list_any is_more rest ≡ false
  pub inner : length (values_in (codes "--inner") rest) ≤ 1

abbrev pub OlderProxyStays : Type 0
OlderProxyStays = (name : Text) (rest : List Text) (command : ProxyCommand)
    → AreOlder rest → IsCommand (name ∷ rest) command
    → IsProxy (name ∷ rest) None (record { command = command; more = nothing_more })

abbrev pub OlderCascadeStays : Type 0
OlderCascadeStays = (name : Text) (rest : List Text) (command : CascadeCommand)
    → AreOlder rest → IsCascadeCommand (name ∷ rest) command
    → IsCascade (name ∷ rest) None (record { command = command; more = nothing_more })
