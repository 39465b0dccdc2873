-- The words that name whom a client asks (our own).
use Rattle.std.specs.Prelude.{ℕ, Bool, ◌||◌, nat_eq, List, [], ◌∷◌, Option, Some, None, codes, if◌then◌else◌}
use Rattle.std.specs.List.{list_any, starts_with}
use Rattle.std.specs.Str.{bytes_eq}
use Rattle.pcp_base.specs.declared.addresses.Address.{Address}
use Rattle.pcp_base.specs.AddressTexts.{address_text}
use Rattle.program_texts.specs.declared.aims.Aim.{Aim}
use Rattle.program_texts.specs.declared.aims.Aim.TheVariants.{Server, Own}

abbrev pub option_of : Aim → List ℕ
option_of Server = codes "--server"
option_of Own = codes "--own"

-- how a word begins that has the option's value too
abbrev pub valued_of : Aim → List ℕ
valued_of Server = codes "--server="
valued_of Own = codes "--own="

abbrev pub names : Aim → List ℕ → Bool
names aim word = bytes_eq word (option_of aim) || starts_with nat_eq word (valued_of aim)

-- The option and this address come behind the command's name, unless some word names the option, or there is
-- no address.
abbrev pub with_aim : Aim → Option Address → List (List ℕ) → List (List ℕ)
with_aim aim (Some address) (command ∷ words) =
    if list_any (names aim) words then command ∷ words
    else command ∷ option_of aim ∷ address_text address ∷ words
with_aim aim (Some address) [] = []
with_aim aim None words = words
