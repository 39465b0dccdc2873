-- What the texts of orders say.
use Rattle.std.proofs.Common.{◌≡◌, ℕ, List, ◌∷◌, ◌++◌, codes, inl, inr, refl, ap, subst, sym, ◌∙◌, ap₂}
use Rattle.pcp_base.specs.declared.addresses.Address.{Address}
use Rattle.pcp_base.specs.AddressTexts.{IsAddressText}
use Rattle.pcp_io.specs.declared.inboxes.Incoming.{Incoming}
use Rattle.pcp_io.specs.declared.inboxes.Incoming.TheVariants.{Packet, Lose, Status, Quiet, Stop}
use Rattle.pcp_io.specs.Controls.{Says, IsSaid}

-- a loss is of an address that stands behind `lose `
behind-writes : (text behind : List ℕ) (address : Address) → text ≡ codes "lose " ++ behind → Says text (Lose 0 address) → IsAddressText behind address
behind-writes text behind address is says =
    let same : 108 ∷ 111 ∷ 115 ∷ 101 ∷ 32 ∷ says.1.0 ≡ 108 ∷ 111 ∷ 115 ∷ 101 ∷ 32 ∷ behind = sym says.1.1 ∙ is in
    let rest : says.1.0 ≡ behind = cc in subst (λ xs. IsAddressText xs address) rest says.1.2

pub lost-only : (text behind : List ℕ) (address : Address) → text ≡ codes "lose " ++ behind
    → ((other : Address) → IsAddressText behind other → other ≡ address)
    → (other : Address) → Says text (Lose 0 other) → other ≡ address
lost-only text behind address is only other says = only other (behind-writes text behind other is says)

pub lost-none : (text behind : List ℕ) → text ≡ codes "lose " ++ behind → ((other : Address) → ¬ (IsAddressText behind other))
    → (other : Address) → ¬ (Says text (Lose 0 other))
lost-none text behind is none other says = none other (behind-writes text behind other is says)

-- no text says two things
says-lose : (text : List ℕ) (address : Address) → Says text (Lose 0 address)
    → ((other : Address) → Says text (Lose 0 other) → other ≡ address)
    → (other : Incoming) → Says text other → other ≡ Lose 0 address
says-lose text address lost only (Packet peer port door n) says = absurd says
says-lose text address lost only (Lose order other) says = ap₂ Lose says.0 (only other (refl, says.1))
says-lose text address lost only (Status order) says = absurd says
says-lose text address lost only Quiet says = absurd says
says-lose text address lost only Stop says = absurd (let e : codes "stop" ≡ codes "lose " ++ lost.1.0 = sym says ∙ lost.1.1 in cc)

pub said-lose : (text : List ℕ) (address : Address) → Says text (Lose 0 address)
    → ((other : Address) → Says text (Lose 0 other) → other ≡ address) → IsSaid text (Lose 0 address)
said-lose text address lost only = record { said = inl lost; only = says-lose text address lost only }

says-nothing : (text : List ℕ) → ¬ (text ≡ codes "stop") → ((address : Address) → ¬ (Says text (Lose 0 address)))
    → (other : Incoming) → Says text other → other ≡ Quiet
says-nothing text stop lost (Packet peer port door n) says = absurd says
says-nothing text stop lost (Lose order other) says = absurd (lost other (refl, says.1))
says-nothing text stop lost (Status order) says = absurd says
says-nothing text stop lost Quiet says = absurd says
says-nothing text stop lost Stop says = absurd (stop says)

pub said-nothing : (text : List ℕ) → ¬ (text ≡ codes "stop") → ((address : Address) → ¬ (Says text (Lose 0 address)))
    → IsSaid text Quiet
said-nothing text stop lost = record { said = inr refl; only = says-nothing text stop lost }
