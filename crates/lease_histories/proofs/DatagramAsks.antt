-- What datagrams of either protocol ask for.
use Rattle.std.proofs.Common.{◌≡◌, ◌∙◌, ℕ, Bool, true, false, cond, List, refl, ap, sym}
use Rattle.pcp_base.specs.declared.asks.Ask.{Ask}
use Rattle.pcp_base.specs.Asks.{IsWellFormedAsk}
use Rattle.pcp_options.specs.declared.options.Item.{Item}
use Rattle.pcp_options.specs.declared.verdicts.Verdict.{Verdict}
use Rattle.pcp_options.specs.declared.verdicts.Verdict.TheVariants.{Asked}
use Rattle.pcp_options.specs.Laws.{AsksAreWellFormed}
use Rattle.pcp_options.specs.Verdicts.{verdict_of}
use Rattle.natpmp_front.specs.declared.requests.Front.{Front}
use Rattle.natpmp_front.specs.declared.requests.Front.TheVariants as Fronts
use Rattle.natpmp_front.specs.Laws.{FrontAsksAreWellFormed}
use Rattle.natpmp_front.specs.Requests.{is_front}
use Rattle.natpmp_front.specs.Verdicts.{front_of}
use Rattle.lease_histories.specs.DatagramAsks.{DatagramAsksAreWellFormed}
use Rattle.lease_histories.specs.Routes.{front_verdict, verdict_of_datagram}

asked-same : (p place : ℕ) (a ask : Ask) → p ≡ place → a ≡ ask → Fronts.Asked p a ≡ Fronts.Asked place ask
asked-same p place a ask e f = rw (e, f) refl

front-asked : (f : Front) (place : ℕ) (ask : Ask) (items : List Item) → front_verdict f ≡ Asked place ask items → f ≡ Fronts.Asked place ask
front-asked Fronts.Silent place ask items h = absurd cc
front-asked (Fronts.Asked p a) place ask items h =
    let e : p ≡ place = cc in
    let f : a ≡ ask = cc in
    asked-same p place a ask e f

pub both-formed : AsksAreWellFormed → FrontAsksAreWellFormed → DatagramAsksAreWellFormed
unfolding verdict_of_datagram
both-formed asks front-asks config source message place ask items octets h = by (is_front message) refl
  where
    front : Verdict
    front = front_verdict (front_of config source message)

    by : (b : Bool) → is_front message ≡ b → IsWellFormedAsk ask
    by true is =
        front-asks config source message place ask octets is
        (front-asked (front_of config source message) place ask items (ap (λ b. cond b front (verdict_of config source message)) (sym is) ∙ h))
    by false is = asks config source message place ask items octets (ap (λ b. cond b front (verdict_of config source message)) (sym is) ∙ h)
