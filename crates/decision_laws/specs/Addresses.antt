-- Which external address an answer tells (RFC 6887, section 11.3).
use Rattle.std.specs.Prelude.{◌≡◌, ℕ, ⊤}
use Rattle.pcp_base.specs.declared.addresses.Address.{Address}
use Rattle.pcp_base.specs.declared.asks.Answer.{Answer}
use Rattle.pcp_base.specs.declared.asks.Answer.TheVariants.{Mapped, Peered}
use Rattle.pcp_base.specs.declared.asks.Ask.{Ask}
use Rattle.pcp_base.specs.States.{State}
use Rattle.lease_store.specs.declared.terms.Terms.{Terms}
use Rattle.lease_core.specs.Decide.{decide}

-- an answer that grants tells this address
abbrev pub TellsAddress : Address → Answer → Type 0
TellsAddress a (Mapped lifetime external address set) = address ≡ a
TellsAddress a (Peered lifetime external address) = address ≡ a
TellsAddress a answer = ⊤

-- that of the terms
abbrev pub AnswersTellTheAddress : Type 0
AnswersTellTheAddress = (terms : Terms) (s : State) (m : ℕ) (ask : Ask)
    → TellsAddress terms.external.address (decide terms s m ask).answer
