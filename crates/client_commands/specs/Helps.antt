-- Which words ask for help (our own): a command's name, and `--help` or `-h` behind it.
use Rattle.std.specs.Prelude.{Bool, false, ◌||◌, ◌&&◌, List, [], ◌∷◌, codes}
use Rattle.std.specs.Str.{bytes_eq}
use Rattle.clap.specs.Words.{Text}

abbrev pub is_help : Text → Bool
is_help word = bytes_eq word (codes "--help") || bytes_eq word (codes "-h")

abbrev pub has_text : Text → Bool
has_text name = bytes_eq name (codes "keep") || bytes_eq name (codes "map")
    || bytes_eq name (codes "peer") || bytes_eq name (codes "announce")

abbrev pub asks_help : List Text → Bool
asks_help (name ∷ word ∷ []) = is_help word && has_text name
asks_help words = false
