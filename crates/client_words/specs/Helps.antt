-- Which words ask for help (our own): a command's name, and `--help` or `-h` behind it.
use Rattle.std.specs.Prelude.{Bool, false, ◌||◌, ◌&&◌, List, [], ◌∷◌, codes}
use Rattle.std.specs.Str.{bytes_eq}
use Rattle.clap.specs.Words.{Text}
use Rattle.client_commands.specs.Helps.{has_text, is_help}

abbrev pub asks_help : List Text → Bool
asks_help (name ∷ word ∷ []) = is_help word && (bytes_eq name (codes "unmap") || has_text name)
asks_help words = false
