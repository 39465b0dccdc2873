-- What the requests of a load do, one after the other (our own). A house is what they act on.
use Rattle.std.specs.Prelude.{ℕ, ◌+◌, ◌-◌, ◌/◌, ◌^◌, min, List, [], ◌∷◌, ◌++◌, map}
use Rattle.std.specs.List.{range_with_len}
use Rattle.pcp_base.specs.declared.datagrams.Datagram.{Datagram}
use Rattle.pcp_script.specs.Loads.{request_at}
use Rattle.server_commands.specs.declared.commands.LoadPlan.{LoadPlan}
use Rattle.load_summary.specs.declared.counts.LoadKind.{LoadKind}
use Rattle.load_summary.specs.Summaries.{summary_text}

-- ---- requests

-- a request, and the moment at which it comes
pub record TimedRequest : Type 0 where
  pub from : Datagram
  pub moment : ℕ

-- the moment of request i: a hundred come in a second, and past the last moment all at that
abbrev pub load_moment : (start i : ℕ) → ℕ
load_moment start i = min (start + i / 100) (2 ^ 40 - 1)

-- request i of a plan, counted from 0
abbrev pub planned : LoadPlan → ℕ → TimedRequest
planned plan i =
    record { from = request_at plan.number i; moment = load_moment plan.start i }

-- the first n requests of a plan
abbrev pub planned_to : LoadPlan → ℕ → List TimedRequest
planned_to plan n = map (planned plan) (range_with_len 0 n)

-- all of them
abbrev pub all_planned : LoadPlan → List TimedRequest
all_planned plan = planned_to plan plan.count

-- the moment of the last one, or where there is none the start
abbrev pub last_moment : LoadPlan → ℕ
last_moment plan = load_moment plan.start (plan.count - 1)

-- ---- what they do

-- what a request that comes at a moment does to a house
pub record LoadEffects (House : Type 0) : Type 0 where
  -- the house after it
  pub after : House → Datagram → ℕ → House
  -- the octets of the reply
  pub reply : House → Datagram → ℕ → List ℕ
  -- how it counts
  pub kind : House → Datagram → ℕ → LoadKind
  -- how many leases are live at a moment, and how many ports owned
  pub leases : House → ℕ → ℕ
  pub owned : House → ℕ → ℕ

-- the house after these requests
abbrev pub after_requests : {House : Type 0} → LoadEffects House → House → List TimedRequest →
    House
after_requests effects house [] = house
after_requests effects house (r ∷ rs) =
    after_requests effects (effects.after house r.from r.moment) rs

-- how they count
abbrev pub kinds_of : {House : Type 0} → LoadEffects House → House → List TimedRequest →
    List LoadKind
kinds_of effects house [] = []
kinds_of effects house (r ∷ rs) =
    effects.kind house r.from r.moment
    ∷ kinds_of effects (effects.after house r.from r.moment) rs

-- the octets of all replies to them
abbrev pub replies_of : {House : Type 0} → LoadEffects House → House → List TimedRequest → List ℕ
replies_of effects house [] = []
replies_of effects house (r ∷ rs) =
    effects.reply house r.from r.moment
    ++ replies_of effects (effects.after house r.from r.moment) rs

-- the house before the first of them, and after each of them
abbrev pub houses_past : {House : Type 0} → LoadEffects House → House → List TimedRequest →
    List House
houses_past effects house [] = house ∷ []
houses_past effects house (r ∷ rs) =
    house ∷ houses_past effects (effects.after house r.from r.moment) rs

-- ---- the summary

-- of all requests of a plan; leases and ports are counted at the moment of the last one
abbrev pub load_text : {House : Type 0} → LoadEffects House → House → LoadPlan → List ℕ
load_text effects house plan =
    let requests = all_planned plan in
    let done = after_requests effects house requests in
    summary_text (kinds_of effects house requests) (effects.leases done (last_moment plan))
    (effects.owned done (last_moment plan)) (replies_of effects house requests)
