-- That choosing ports and then granting goes by the cases of a MAP request.
use Rattle.std.proofs.Common.{◌≡◌, ℕ, Bool, true, false, [], Option, Some, None, if◌then◌else◌, refl, sym, ◌∙◌}
use Rattle.std.specs.Prelude.{◌&&◌, ◌==◌, not, nat_le, is_none, unwrap_or, Result, Ok, Err}
use Rattle.std.proofs.lemmas.Bool.{cond_both}
use Rattle.pcp_base.specs.declared.codes.Code.{Code}
use Rattle.pcp_base.specs.declared.codes.Code.TheVariants.{NoResources, UserExQuota, CannotProvideExternal, ExcessiveRemotePeers}
use Rattle.pcp_base.specs.declared.asks.Answer.TheVariants.{Gone}
use Rattle.pcp_base.specs.declared.asks.MapAsk.{MapAsk}
use Rattle.pcp_base.specs.Owners.{owned}
use Rattle.pcp_base.specs.States.{State}
use Rattle.external_pool.specs.declared.asks.Picked.{Picked}
use Rattle.lease_store.specs.declared.terms.Terms.{Terms}
use Rattle.lease_store.specs.Picks.{pick}
use Rattle.lease_core.specs.Answers.{answered, refused, is_full}
use Rattle.lease_core.specs.DecideMap.{granted, has_excess, is_wanted, parity_asked, room_for, uncovered, uncovered_by}
use Rattle.lease_core.specs.Chosen.{judged, chosen_by, granted_by}

-- the first two cases don't apply
cases_from : {X : Type 0} (z q b n f e : Bool) (x0 x1 x2 x3 x4 x5 d : X) → z ≡ false → q ≡ false →
    unwrap_or (if z then Some x0 else if q then Some x1 else if b then Some x2 else if n then Some x3
    else if f then Some x4 else if e then Some x5 else None) d
    ≡ (if b then x2 else if n then x3 else if f then x4 else if e then x5 else d)
cases_from true q b n f e x0 x1 x2 x3 x4 x5 d zz qq = absurd cc
cases_from false true b n f e x0 x1 x2 x3 x4 x5 d zz qq = absurd cc
cases_from false false true n f e x0 x1 x2 x3 x4 x5 d zz qq = refl
cases_from false false false true f e x0 x1 x2 x3 x4 x5 d zz qq = refl
cases_from false false false false true e x0 x1 x2 x3 x4 x5 d zz qq = refl
cases_from false false false false false true x0 x1 x2 x3 x4 x5 d zz qq = refl
cases_from false false false false false false x0 x1 x2 x3 x4 x5 d zz qq = refl

granted_if : (terms : Terms) (s : State) (m : ℕ) (ask : MapAsk) (b : Bool) (code : Code) (r : Result Picked Code) →
    granted_by terms s m ask (if b then Err code else r)
    ≡ (if b then refused code else granted_by terms s m ask r)
granted_if terms s m ask true code r = refl
granted_if terms s m ask false code r = refl

-- where the first two cases don't apply
by_choice : (terms : Terms) (s : State) (m : ℕ) (ask : MapAsk) (named : Option ℕ) (choice : Option Picked) →
    (ask.lifetime == 0) ≡ false →
    (is_none named && nat_le terms.quota (owned s.table m ask.endpoint.address)) ≡ false →
    granted_by terms s m ask (judged terms ask choice) ≡ uncovered_by terms s m ask named choice
by_choice terms s m ask named None z q =
    granted_if terms s m ask (ask.prefer && not (is_wanted terms ask None)) CannotProvideExternal (Err NoResources)
    ∙ sym (cases_from (ask.lifetime == 0) (is_none named && nat_le terms.quota (owned s.table m ask.endpoint.address))
    (ask.prefer && not (is_wanted terms ask None)) true (is_full s.table m) (has_excess [] ask)
    (answered Gone) (refused UserExQuota) (refused CannotProvideExternal) (refused NoResources)
    (refused NoResources) (refused ExcessiveRemotePeers) (granted terms m ask None) z q)
by_choice terms s m ask named (Some run) z q =
    granted_if terms s m ask (ask.prefer && not (is_wanted terms ask (Some run))) CannotProvideExternal (Ok run)
    ∙ sym (cases_from (ask.lifetime == 0) (is_none named && nat_le terms.quota (owned s.table m ask.endpoint.address))
    (ask.prefer && not (is_wanted terms ask (Some run))) false (is_full s.table m) (has_excess [] ask)
    (answered Gone) (refused UserExQuota) (refused CannotProvideExternal) (refused NoResources)
    (refused NoResources) (refused ExcessiveRemotePeers) (granted terms m ask (Some run)) z q)

over_quota : {X : Type 0} (z q : Bool) (x0 x1 d : X) (rest : Option X) → z ≡ false → q ≡ true →
    x1 ≡ unwrap_or (if z then Some x0 else if q then Some x1 else rest) d
over_quota true q x0 x1 d rest zz qq = absurd cc
over_quota false true x0 x1 d rest zz qq = refl
over_quota false false x0 x1 d rest zz qq = absurd cc

pub tabled : (terms : Terms) (s : State) (m : ℕ) (ask : MapAsk) (named : Option ℕ) →
    (ask.lifetime == 0) ≡ false →
    granted_by terms s m ask (chosen_by named terms s m ask) ≡ uncovered terms s m ask named
tabled terms s m ask (Some port) z =
    by_choice terms s m ask (Some port) (Some (record { start = port; count = 1 })) z refl
tabled terms s m ask None z =
    cond_both (nat_le terms.quota (owned s.table m ask.endpoint.address)) (Err UserExQuota)
    (judged terms ask (pick terms s m ask.endpoint ask.port (parity_asked ask) (room_for terms s m ask)))
    (λ r. granted_by terms s m ask r ≡ uncovered terms s m ask None)
    (λ over. over_quota (ask.lifetime == 0) (nat_le terms.quota (owned s.table m ask.endpoint.address)) _ _ _ _ z over)
    (λ under. by_choice terms s m ask None
    (pick terms s m ask.endpoint ask.port (parity_asked ask) (room_for terms s m ask)) z under)
