-- What a line of the socket of orders says (our own).
use Rattle.std.specs.Prelude.{◌≡◌, ℕ, List, [], ◌∷◌, ◌++◌, codes}
use Rattle.pcp_base.specs.AddressTexts.{IsAddressText}
use Rattle.program_links.specs.declared.order_lines.OrderLine.{OrderLine}
use Rattle.program_links.specs.declared.order_lines.OrderLine.TheVariants as Lines

-- the text of an order
abbrev pub IsOrderText : List ℕ → OrderLine → Type 0
IsOrderText text Lines.Stop = text ≡ codes "stop"
IsOrderText text (Lines.Lose address) =
    (behind : List ℕ) × (text ≡ codes "lose " ++ behind) × IsAddressText behind address
IsOrderText text Lines.Status = text ≡ codes "status"

-- a line is the text of an order, and a line feed
abbrev pub IsOrderLine : List ℕ → OrderLine → Type 0
IsOrderLine octets order = (text : List ℕ) × (octets ≡ text ++ 10 ∷ []) × IsOrderText text order
