-- What the texts of orders say.
use Rattle.std.proofs.Common.{◌≡◌, ℕ, List, [], ◌∷◌, ◌++◌, Option, Some, None, codes, refl, ap, subst, sym, ◌∙◌, arith}
use Rattle.std.specs.Prelude.{IfSome, IfNone}
use Rattle.std.proofs.lemmas.List.{append_cancel_right}
use Rattle.pcp_base.specs.declared.addresses.Address.{Address}
use Rattle.pcp_base.specs.AddressTexts.{IsAddressText}
use Rattle.program_links.specs.declared.order_lines.OrderLine.{OrderLine}
use Rattle.program_links.specs.declared.order_lines.OrderLine.TheVariants.{Stop, Lose, Status}
use Rattle.program_links.specs.OrderLines.{IsOrderLine, IsOrderText}

-- a loss is of an address that stands behind `lose `
behind-writes : (text behind : List ℕ) (address : Address) → text ≡ codes "lose " ++ behind → IsOrderText text (Lose address) → IsAddressText behind address
behind-writes text behind address is says =
    let same : 108 ∷ 111 ∷ 115 ∷ 101 ∷ 32 ∷ says.0 ≡ 108 ∷ 111 ∷ 115 ∷ 101 ∷ 32 ∷ behind = sym says.1 ∙ is in
    let rest : says.0 ≡ behind = cc in subst (λ xs. IsAddressText xs address) rest says.2

pub lost-only : (text behind : List ℕ) (address : Address) → text ≡ codes "lose " ++ behind
    → ((other : Address) → IsAddressText behind other → other ≡ address)
    → (other : Address) → IsOrderText text (Lose other) → other ≡ address
lost-only text behind address is only other says = only other (behind-writes text behind other is says)

pub lost-none : (text behind : List ℕ) → text ≡ codes "lose " ++ behind → ((other : Address) → ¬ (IsAddressText behind other))
    → (other : Address) → ¬ (IsOrderText text (Lose other))
lost-none text behind is none other says = none other (behind-writes text behind other is says)

abbrev first : List ℕ → ℕ
first [] = 0
first (x ∷ xs) = x

-- what begins with an s is no loss
no-loss : (rest behind : List ℕ) → ¬ (115 ∷ rest ≡ codes "lose " ++ behind)
no-loss rest behind same = let e : 115 ≡ 108 = ap first same in omega (arith, e)

-- no text says two things
pub stop-only : (text : List ℕ) → text ≡ codes "stop" → (other : OrderLine) → IsOrderText text other → other ≡ Stop
stop-only text is Stop says = refl
stop-only text is (Lose address) says = absurd (no-loss (codes "top") says.0 (sym is ∙ says.1))
stop-only text is Status says = absurd (let e : codes "stop" ≡ codes "status" = sym is ∙ says in cc)

pub status-only : (text : List ℕ) → text ≡ codes "status" → (other : OrderLine) → IsOrderText text other → other ≡ Status
status-only text is Stop says = absurd (let e : codes "status" ≡ codes "stop" = sym is ∙ says in cc)
status-only text is (Lose address) says = absurd (no-loss (codes "tatus") says.0 (sym is ∙ says.1))
status-only text is Status says = refl

pub lose-only : (text : List ℕ) (address : Address) → IsOrderText text (Lose address)
    → ((other : Address) → IsOrderText text (Lose other) → other ≡ address)
    → (other : OrderLine) → IsOrderText text other → other ≡ Lose address
lose-only text address lost only Stop says = absurd (no-loss (codes "top") lost.0 (sym says ∙ lost.1))
lose-only text address lost only (Lose other) says = ap Lose (only other says)
lose-only text address lost only Status says = absurd (no-loss (codes "tatus") lost.0 (sym says ∙ lost.1))

pub none-says : (text : List ℕ) → ¬ (text ≡ codes "stop") → ¬ (text ≡ codes "status") → ((address : Address) → ¬ (IsOrderText text (Lose address)))
    → (order : OrderLine) → ¬ (IsOrderText text order)
none-says text stop status lost Stop says = stop says
none-says text stop status lost (Lose address) says = lost address says
none-says text stop status lost Status says = status says

-- a line has one text
text-is : (octets text other : List ℕ) → octets ≡ text ++ 10 ∷ [] → octets ≡ other ++ 10 ∷ [] → other ≡ text
text-is octets text other is was = append_cancel_right other text (10 ∷ []) (sym was ∙ is)

pub some_line : (octets text : List ℕ) (read : Option OrderLine) → octets ≡ text ++ 10 ∷ []
    → IfSome read (IsOrderText text) → IfSome read (IsOrderLine octets)
some_line octets text (Some order) is says = (text, is, says)
some_line octets text None is says = tt

pub only_line : (octets text : List ℕ) (read : Option OrderLine) → octets ≡ text ++ 10 ∷ []
    → IfSome read (λ order. (other : OrderLine) → IsOrderText text other → other ≡ order)
    → IfSome read (λ order. (other : OrderLine) → IsOrderLine octets other → other ≡ order)
only_line octets text (Some order) is only = λ other line. only other (subst (λ t. IsOrderText t other) (text-is octets text line.0 is line.1) line.2)
only_line octets text None is only = tt

pub none_line : (octets text : List ℕ) (read : Option OrderLine) → octets ≡ text ++ 10 ∷ []
    → IfNone read ((order : OrderLine) → ¬ (IsOrderText text order)) → IfNone read ((order : OrderLine) → ¬ (IsOrderLine octets order))
none_line octets text (Some order) is none = tt
none_line octets text None is none = λ order line. none order (subst (λ t. IsOrderText t order) (text-is octets text line.0 is line.1) line.2)
