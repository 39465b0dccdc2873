-- Words that a command takes (our own), by the parser's own definitions: `fault_of` is empty where it takes them, and
-- `matches_of` is then what it finds in them.
use Rattle.std.specs.Prelude.{◌≡◌, ◌≢◌, List, [], Option, Some, None}
use Rattle.clap.specs.Words.{App, Row, Text, fault_of, found_of, matches_of, rows_of}
use Rattle.clap.specs.declared.parser.matches.ArgMatches.{ArgMatches}

-- the command takes the words behind the first one, and finds this in them
abbrev pub Takes : App → List Text → List Row → Type 0
Takes app words rows = (fault_of app words ≡ []) × (rows ≡ matches_of app words)

-- what a parse found: nothing exactly where the words aren't taken
abbrev pub IsFound : App → List Text → Option ArgMatches → Type 0
IsFound app words None = fault_of app words ≢ []
IsFound app words (Some m) = Takes app words (rows_of (found_of m))
