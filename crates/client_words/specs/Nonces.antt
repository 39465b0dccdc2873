-- The nonce of a mapping in text (our own).
use Rattle.std.specs.Prelude.{ℕ, ◌+◌, ◌==◌, ◌&&◌, nat_lt, List, [], ◌∷◌, ◌++◌, length, take, slice_index, slice_get, Option, Some, None, option_map, option_and_then, Result, Ok, Err, if◌then◌else◌}
use Rattle.hex.specs.Hex.{decode_sized, encode_lower}
use Rattle.hex.specs.declared.error.FromHexError.{FromHexError}
use Rattle.clap.specs.Words.{Text}
use Rattle.pcp_base.specs.declared.addresses.Nonce.{Nonce}

-- exactly 24 hexadecimal digits, of either case
abbrev pub nonce_with : Result (List ℕ) FromHexError → Option Nonce
nonce_with (Ok octets) = Some (record { 0 = octets })
nonce_with (Err error) = None

abbrev pub nonce_of_digits : Text → Option Nonce
nonce_of_digits text = nonce_with (decode_sized text 12)

-- and, in a file, a line feed at most behind them
abbrev pub without_end : Text → Text
without_end text =
    if length text == 25 && slice_index text 24 == 10 then take 24 text else text

abbrev pub nonce_of_text : Text → Option Nonce
nonce_of_text text = nonce_of_digits (without_end text)

abbrev pub nonce_text : Nonce → Text
nonce_text nonce = encode_lower nonce.0 ++ 10 ∷ []

-- The nonce that is given: by `--nonce`, or by the text of the file of `--nonce-file`; none is drawn by the run. It is given once
-- at most.
abbrev pub nonce_first : Option Text → Option Text → Option Text → Option (Option Nonce)
nonce_first (Some digits) file filed = option_map (λ nonce. Some nonce) (nonce_of_digits digits)
nonce_first None (Some file) filed =
    option_map (λ nonce. Some nonce) (option_and_then nonce_of_text filed)
nonce_first None None filed = Some None

abbrev pub nonce_given : List Text → List Text → Option Text → Option (Option Nonce)
nonce_given digits files filed =
    if nat_lt 1 (length digits + length files) then None
    else nonce_first (slice_get digits 0) (slice_get files 0) filed
