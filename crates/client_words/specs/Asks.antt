-- The words of `map`, `peer`, `announce`, `unmap` and `keep` (our own): those of an older command, and options among them.
use Rattle.std.specs.Prelude.{◌≡◌, ℕ, ◌&&◌, ◌||◌, not, nat_eq, Bool, true, false, List, [], ◌∷◌, drop, is_some, is_none, Option, Some, None, codes, if◌then◌else◌}
use Rattle.std.specs.List.{list_any, starts_with}
use Rattle.std.specs.Str.{bytes_eq}
use Rattle.clap.specs.Words.{Text}
use Rattle.pcp_base.specs.declared.leases.Filter.{Filter}
use Rattle.client_commands.specs.Commands.{IsCommand, IsNamed}
use Rattle.client_commands.specs.declared.commands.ClientCommand.{ClientCommand}
use Rattle.client_commands.specs.declared.commands.ClientCommand.TheVariants.{Map, Peer, Announce}
use Rattle.client_words.specs.declared.asks.ClientAsk.{ClientAsk}
use Rattle.client_words.specs.declared.keeps.KeepAsk.{KeepAsk}
use Rattle.client_words.specs.declared.more.More.{More}
use Rattle.client_words.specs.Mores.{IsMore}
use Rattle.client_words.specs.Splits.{plain_in}

-- a word that begins an option of this name
abbrev pub begins : Text → Text → Bool
begins name word = starts_with nat_eq word name

-- `unmap` has the words of `map`, or those of `peer` where a remote is among them
abbrev pub deleted_verb : List Text → Text
deleted_verb rest =
    if list_any (begins (codes "--remote")) rest then codes "peer" else codes "map"

abbrev pub is_deletion : List Text → Bool
is_deletion [] = false
is_deletion (name ∷ rest) = bytes_eq name (codes "unmap")

abbrev pub verb_of : List Text → Text
verb_of [] = []
verb_of (name ∷ rest) = if bytes_eq name (codes "unmap") then deleted_verb rest else name

-- PEER takes no filters, and ANNOUNCE nothing
abbrev pub has_none : List Filter → Bool
has_none [] = true
has_none (filter ∷ filters) = false

abbrev pub fits : ClientCommand → More → Bool
fits (Map target wanted) more = true
fits (Peer target wanted) more = has_none more.filters
fits (Announce target) more = is_none more.nonce && is_none more.third && has_none more.filters

-- the words behind the first one are this, as those of the command of this name, with this text in the file that they name; a
-- deletion needs the nonce
pub record IsAskAs (verb : Text) (rest : List Text) (filed : Option Text) (deletes : Bool)
    (ask : ClientAsk) : Type 0 where
  pub command : IsCommand (verb ∷ plain_in rest) ask.command
  pub deletes_is : ask.deletes ≡ deletes
  pub more : IsMore rest filed ask.more
  pub fit : fits ask.command ask.more ≡ true
  pub named : (not ask.deletes || is_some ask.more.nonce) ≡ true

abbrev pub IsAsk : List Text → Option Text → ClientAsk → Type 0
IsAsk words filed ask = IsAskAs (verb_of words) (drop 1 words) filed (is_deletion words) ask

abbrev pub ask_with : Bool → Option ClientCommand → Option More → Option ClientAsk
ask_with deletes (Some command) (Some more) =
    if fits command more && (not deletes || is_some more.nonce)
    then Some (record { command = command; deletes = deletes; more = more }) else None
ask_with deletes command more = None

-- the words are `keep`, with those of `map` but `--tries`
pub record IsKeep (words : List Text) (filed : Option Text) (keep : KeepAsk) : Type 0 where
  pub named : IsNamed (codes "keep") words
  pub command : IsCommand (codes "map" ∷ plain_in (drop 1 words)) (Map keep.target keep.wanted)
  pub more : IsMore (drop 1 words) filed keep.more
  pub tries : list_any (begins (codes "--tries")) (drop 1 words) ≡ false

abbrev pub keep_with : Option ClientCommand → Option More → Option KeepAsk
keep_with (Some (Map target wanted)) (Some more) =
    Some (record { target = target; wanted = wanted; more = more })
keep_with command more = None
