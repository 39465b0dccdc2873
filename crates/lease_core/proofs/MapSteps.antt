-- What the steps of a decision on a MAP request know of one another.
use Rattle.std.proofs.Common.{◌≡◌, ◌≢◌, ◌∙◌, ℕ, ◌<◌, ◌≤◌, Bool, true, false, Option, Some, None, refl, ap, arith}
use Rattle.std.specs.Prelude.{◌&&◌, ◌==◌, not, nat_le, Ok, Err, Result}
use Rattle.std.proofs.lemmas.Bool.{cond_both, eqb-true}
use Rattle.pcp_base.specs.declared.codes.Code.{Code}
use Rattle.pcp_base.specs.declared.codes.Code.TheVariants.{NoResources, UserExQuota, CannotProvideExternal}
use Rattle.pcp_base.specs.declared.asks.MapAsk.{MapAsk}
use Rattle.pcp_base.specs.declared.leases.MapLease.{MapLease}
use Rattle.pcp_base.specs.Owners.{owned}
use Rattle.pcp_base.specs.Asks.{IsMapAsk}
use Rattle.pcp_base.specs.States.{State}
use Rattle.external_pool.specs.declared.asks.Picked.{Picked}
use Rattle.lease_store.specs.declared.terms.Terms.{Terms}
use Rattle.lease_store.specs.Lookups.{covering, named_port}
use Rattle.lease_store.specs.Picks.{pick}
use Rattle.lease_core.specs.DecideMap.{choice_by, decide_map, decide_map_by, is_wanted, parity_asked, room_inside, room_for}
use Rattle.lease_core.specs.Chosen.{chosen, chosen_by, judged}
use Rattle.lease_core.proofs.PickLemmas.{pick-within}
use Rattle.lease_core.proofs.RoomLemmas.{room-few}

false_unless : (b : Bool) → (b ≡ true → ⊥) → b ≡ false
false_unless true h = absurd (h refl)
false_unless false h = refl

pub not_zero : (n : ℕ) → n ≢ 0 → (n == 0) ≡ false
not_zero n h = false_unless (n == 0) (λ e. h (eqb-true n 0 e))

judged-choice : (terms : Terms) (ask : MapAsk) (choice : Option Picked) (run : Picked) →
    judged terms ask choice ≡ Ok run → choice ≡ Some run
judged-choice terms ask None run =
    cond_both (ask.prefer && not (is_wanted terms ask None)) (Err CannotProvideExternal) (Err NoResources)
    (λ (r : Result Picked Code). r ≡ Ok run → None ≡ Some run) (λ _ h. absurd cc) (λ _ h. absurd cc)
judged-choice terms ask (Some x) run =
    cond_both (ask.prefer && not (is_wanted terms ask (Some x))) (Err CannotProvideExternal) (Ok x)
    (λ (r : Result Picked Code). r ≡ Ok run → Some x ≡ Some run) (λ _ h. absurd cc) (λ _ h. cc)

-- chosen ports are the choice
pub chosen-choice : (named : Option ℕ) (terms : Terms) (s : State) (m : ℕ) (ask : MapAsk) (run : Picked) →
    chosen_by named terms s m ask ≡ Ok run → choice_by named terms s m ask ≡ Some run
chosen-choice (Some port) terms s m ask run h = judged-choice terms ask (Some (record { start = port; count = 1 })) run h
chosen-choice None terms s m ask run h =
    cond_both (nat_le terms.quota (owned s.table m ask.endpoint.address)) (Err UserExQuota)
    (judged terms ask (pick terms s m ask.endpoint ask.port (parity_asked ask) (room_for terms s m ask)))
    (λ (r : Result Picked Code). r ≡ Ok run →
    pick terms s m ask.endpoint ask.port (parity_asked ask) (room_for terms s m ask) ≡ Some run)
    (λ _ k. absurd cc)
    (λ _ k. judged-choice terms ask (pick terms s m ask.endpoint ask.port (parity_asked ask) (room_for terms s m ask)) run k) h

-- and they are few
pub choice-few : (named : Option ℕ) (terms : Terms) (s : State) (m : ℕ) (ask : MapAsk) (run : Picked) →
    IsMapAsk ask → choice_by named terms s m ask ≡ Some run → run.count ≤ 4096
choice-few (Some port) terms s m ask run formed h = let e : 1 ≡ run.count = cc in omega arith
choice-few None terms s m ask run formed h =
    let few = pick-within terms s m ask.endpoint ask.port (parity_asked ask) (room_for terms s m ask) run h in
    let room = (room-few s m ask formed).0 in
    let less : room_for terms s m ask ≤ room_inside s m ask = omega arith in omega arith

pub chosen-few : (terms : Terms) (s : State) (m : ℕ) (ask : MapAsk) (run : Picked) → IsMapAsk ask →
    chosen terms s m ask ≡ Ok run → run.count < 65536
chosen-few terms s m ask run formed h =
    let few = choice-few (named_port s.table m ask.endpoint) terms s m ask run formed
    (chosen-choice (named_port s.table m ask.endpoint) terms s m ask run h) in omega arith

-- by what is found at the moment reached
pub decided_by : (terms : Terms) (s : State) (n m : ℕ) (ask : MapAsk) (found : Option MapLease) → n ≡ m →
    found ≡ covering s.table n ask.endpoint → decide_map_by terms s m ask found ≡ decide_map terms s m ask
unfolding decide_map
decided_by terms s n m ask found same told =
    ap (decide_map_by terms s m ask) (told ∙ ap (λ k. covering s.table k ask.endpoint) same)

pub chosen_at : (terms : Terms) (s : State) (n m : ℕ) (ask : MapAsk) (named : Option ℕ) → n ≡ m →
    named ≡ named_port s.table n ask.endpoint → chosen_by named terms s m ask ≡ chosen terms s m ask
chosen_at terms s n m ask named same told =
    ap (λ found. chosen_by found terms s m ask) (told ∙ ap (λ k. named_port s.table k ask.endpoint) same)
