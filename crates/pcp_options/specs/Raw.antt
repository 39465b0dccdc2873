-- An option as it is read.
use Rattle.pcp_options.specs.declared.options.RawOption.{RawOption}
use Rattle.pcp_options.specs.Options.{FoundOption}

abbrev pub found_of : RawOption → FoundOption
found_of o = record { code = o.code; claimed = o.claimed; content = o.content.now }
