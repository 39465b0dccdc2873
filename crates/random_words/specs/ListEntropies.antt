-- Random words in memory (our own).
use Rattle.std.specs.Prelude.{ℕ, List}
use Rattle.pcp_io.specs.CallLogs.{CallLog, no_calls}
use Rattle.random_words.specs.RandomWords.{RandomWords, listing}

pub record EntropyInMemory : Type 0 where
  -- the words that calls have yet to give
  pub words : RandomWords
  pub calls : CallLog

-- no call of which is named to fail
abbrev pub new_entropy : List ℕ → EntropyInMemory
new_entropy words = record { words = listing words; calls = no_calls }
