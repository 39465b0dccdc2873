-- Where the journals of a folder stand (our own).
use Rattle.std.specs.Prelude.{ℕ, List, ◌++◌, codes, decimal}

-- the path of a side: in the folder, the index of the external address and the letter of the side
abbrev pub side_path : List ℕ → ℕ → List ℕ → List ℕ
side_path folder place side = folder ++ codes "/" ++ decimal place ++ side
