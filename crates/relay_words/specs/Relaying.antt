-- The words of `proxy` and `cascade` (our own): those of an older command, and options among them.
use Rattle.std.specs.Prelude.{◌≡◌, false, List, [], ◌∷◌, ◌++◌, drop, Option, Some, None, Bool, true, option_map, codes, if◌then◌else◌}
use Rattle.clap.specs.Words.{Text}
use Rattle.pcp_base.specs.declared.addresses.Prefix.{Prefix}
use Rattle.proxy_commands.specs.Commands.{IsCascadeCommand, IsCommand}
use Rattle.proxy_commands.specs.declared.commands.CascadeCommand.{CascadeCommand}
use Rattle.proxy_commands.specs.declared.commands.ProxyCommand.{ProxyCommand}
use Rattle.relay_words.specs.declared.asks.CascadeAsk.{CascadeAsk}
use Rattle.relay_words.specs.declared.asks.ProxyAsk.{ProxyAsk}
use Rattle.relay_words.specs.declared.more.RelayMore.{RelayMore}
use Rattle.relay_words.specs.Keys.{key_words}
use Rattle.relay_words.specs.Mores.{IsMore}
use Rattle.relay_words.specs.Splits.{plain_in, values_in}

-- the words of an older command, with the text of the file that they name
abbrev pub older_in : List Text → Option Text → Option (List Text)
older_in [] filed = None
older_in (name ∷ rest) filed = option_map (λ keys. name ∷ keys ++ plain_in false rest)
    (key_words (values_in (codes "--key-file") rest) filed)

-- the words are this command by those of the older one, and say this by the options among them
pub record IsRelay {C : Type 0} (IsSaid : List Text → C → Type 0) (words : List Text)
    (filed : Option Text) (command : C) (more : RelayMore) : Type 0 where
  pub older : List Text
  pub older_is : older_in words filed ≡ Some older
  pub said : IsSaid older command
  pub more_is : IsMore (drop 1 words) more

abbrev pub IsProxy : List Text → Option Text → ProxyAsk → Type 0
IsProxy words filed ask = IsRelay IsCommand words filed ask.command ask.more

-- a cascade passes nobody's THIRD_PARTY on
abbrev pub IsCascade : List Text → Option Text → CascadeAsk → Type 0
IsCascade words filed ask =
    IsRelay IsCascadeCommand words filed ask.command ask.more × (ask.more.third_party ≡ [])

abbrev pub proxy_with : Option ProxyCommand → Option RelayMore → Option ProxyAsk
proxy_with (Some command) (Some more) = Some (record { command = command; more = more })
proxy_with command more = None

abbrev pub has_none : List Prefix → Bool
has_none [] = true
has_none (prefix ∷ prefixes) = false

abbrev pub cascade_with : Option CascadeCommand → Option RelayMore → Option CascadeAsk
cascade_with (Some command) (Some more) = if has_none more.third_party
    then Some (record { command = command; more = more }) else None
cascade_with command more = None
