-- What ties the options that are read, and those that are written, to the grammar of options; and what holds of
-- requests that are asked.
use Rattle.std.specs.Prelude.{◌≡◌, ℕ, ◌%◌, List, length, map}
use Rattle.std.specs.List.{AllByRecursion}
use Rattle.pcp_base.specs.declared.addresses.Address.{Address}
use Rattle.pcp_base.specs.declared.asks.Ask.{Ask}
use Rattle.pcp_base.specs.declared.configs.Config.{Config}
use Rattle.pcp_base.specs.Asks.{IsWellFormedAsk}
use Rattle.pcp_options.specs.declared.options.Item.{Item}
use Rattle.pcp_options.specs.Options.{WholeOption, FoundOption, AreOptions, found_in, found_whole, items_of, option_of, options_text}
use Rattle.pcp_options.specs.declared.verdicts.Verdict.TheVariants.{Asked}
use Rattle.pcp_options.specs.Responses.{AreOctets, FitsItem}
use Rattle.pcp_options.specs.Verdicts.{verdict_of}

-- octets that the grammar spells as options have exactly these
abbrev pub OptionsAreFound : Type 0
OptionsAreFound =
    (text : List ℕ) (os : List WholeOption) → AreOptions text os → found_in text
    ≡ map found_whole os

-- the option that was found, where its data is there
abbrev pub without_claim : FoundOption → WholeOption
without_claim o = record { code = o.code; content = o.content }

-- octets in whole words, in which each option has the data that it claims, are spelled so by the grammar
abbrev pub FoundAreOptions : Type 0
FoundAreOptions =
    (text : List ℕ) → length text % 4 ≡ 0 → AreOctets text
    → AllByRecursion (λ o. length o.content ≡ o.claimed) (found_in text)
    → AreOptions text (map without_claim (found_in text))

-- items that are written are read again
abbrev pub ItemsAreRead : Type 0
ItemsAreRead =
    (items : List Item) → AllByRecursion FitsItem items
    → items_of (found_in (options_text (map option_of items))) ≡ items

-- what the verdict lets through is well formed
abbrev pub AsksAreWellFormed : Type 0
AsksAreWellFormed =
    (config : Config) (source : Address) (message : List ℕ) (place : ℕ) (ask : Ask) (items : List Item)
    → AreOctets message → verdict_of config source message ≡ Asked place ask items → IsWellFormedAsk ask
