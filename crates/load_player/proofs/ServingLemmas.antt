-- How a load goes on over one request, or ends at it.
use Rattle.std.proofs.Common.{◌≡◌, ℕ, ◌+◌, ◌<◌, List, [], ◌∷◌, ◌++◌, Result, Err, refl, sym, ap, subst, ◌∙◌}
use Rattle.sha2.specs.Hashers.{Holds256}
use Rattle.pcp_base.specs.declared.datagrams.Datagram.{Datagram}
use Rattle.pcp_script.specs.Loads.{load_at, request_at}
use Rattle.server_commands.specs.declared.commands.LoadPlan.{LoadPlan}
use Rattle.load_summary.specs.Counts.{AreCountsOf}
use Rattle.load_summary.specs.declared.counts.LoadKind.{LoadKind}
use Rattle.script_player.specs.Ways.{WayLaws}
use Rattle.script_player.specs.declared.answerers.AnswerFault.{AnswerFault}
use Rattle.load_player.specs.LoadEnds.{LoadCourse, StopsServing, load_course}
use Rattle.load_player.specs.LoadRuns.{LoadEffects, TimedRequest, after_requests, houses_past, kinds_of, load_moment, planned, planned_to, replies_of}
use Rattle.load_player.specs.Serving.{IsServedNext, IsServing}
use Rattle.load_player.specs.declared.player.Progress.{Progress}
use Rattle.load_player.proofs.RunLemmas.{after_requests-push, kinds_of-push, past_more, past_one, planned_to-push, replies_of-push}

module _ {A House : Type 0} (effects : LoadEffects House) (house : A → House) (way : A → A → List House → Type 0)
    (laws : WayLaws way) (first mid : A) (plan : LoadPlan) (n : ℕ) (progress : Progress)
    (u : IsServing (load_course effects house way first mid) plan n progress) where
  abbrev begun : House
  begun = house first

  abbrev requests : List TimedRequest
  requests = planned_to plan n

  -- the house after the requests so far, and after one more
  abbrev last : House
  last = after_requests effects begun requests

  abbrev next : House
  next = effects.after last (request_at plan.number n) (load_moment plan.start n)

  -- the way over one more request, as it is planned
  way_planned : (new : A) (from : Datagram) (now : ℕ) → from ≡ request_at plan.number n → now ≡ load_moment plan.start n →
      way mid new (house mid ∷ effects.after (house mid) from now ∷ []) → way mid new (last ∷ next ∷ [])
  way_planned new from now is_from is_now w =
      subst (λ h. way mid new (h ∷ effects.after h (request_at plan.number n) (load_moment plan.start n) ∷ [])) u.house
      (subst (λ m. way mid new (house mid ∷ effects.after (house mid) (request_at plan.number n) m ∷ [])) is_now
      (subst (λ d. way mid new (house mid ∷ effects.after (house mid) d now ∷ [])) is_from w))

  over_more : (new : A) → way mid new (last ∷ next ∷ []) → way first new (houses_past effects begun (planned_to plan (n + 1)))
  over_more new w =
      subst (λ rs. way first new (houses_past effects begun rs)) (sym (planned_to-push plan n))
      (laws.weaker first new (houses_past effects begun requests ++ last ∷ next ∷ []) (houses_past effects begun (requests ++ planned plan n ∷ []))
      (past_more effects begun requests (planned plan n))
      (laws.joins first mid new (houses_past effects begun requests) (last ∷ next ∷ []) u.over w))

  -- the next request may have been served
  pub stops : (new : A) (from : Datagram) (now : ℕ) → from ≡ request_at plan.number n → now ≡ load_moment plan.start n → n < plan.count →
      way mid new (house mid ∷ effects.after (house mid) from now ∷ []) → StopsServing (load_course effects house way first new) plan
  stops new from now is_from is_now more w =
      let planned_way = way_planned new from now is_from is_now w in
      record {
        n = n;
        more = more;
        over = over_more new planned_way;
        at_end = laws.ends mid new (last ∷ next ∷ []) planned_way;
      }

  -- it wasn't, and nothing was done
  pub stops_before : n < plan.count → way mid mid (house mid ∷ []) → StopsServing (load_course effects house way first mid) plan
  stops_before more w =
      stops mid (request_at plan.number n) (load_moment plan.start n) refl refl more
      (laws.weaker mid mid (house mid ∷ []) (house mid ∷ effects.after (house mid) (request_at plan.number n) (load_moment plan.start n) ∷ [])
      (past_one effects (house mid) (effects.after (house mid) (request_at plan.number n) (load_moment plan.start n))) w)

  -- it was served
  pub goes_on : (new : A) (progress' : Progress) (from : Datagram) (now : ℕ) (kind : LoadKind) (octets : List ℕ) →
      from ≡ request_at plan.number n → now ≡ load_moment plan.start n →
      progress'.load ≡ load_at plan.number (n + 1) →
      kind ≡ effects.kind (house mid) from now → octets ≡ effects.reply (house mid) from now →
      ((kinds : List LoadKind) → AreCountsOf progress.counts kinds → AreCountsOf progress'.counts (kinds ++ kind ∷ [])) →
      ((m : List ℕ) → Holds256 progress.digest m → Holds256 progress'.digest (m ++ octets)) →
      house new ≡ effects.after (house mid) from now →
      way mid new (house mid ∷ effects.after (house mid) from now ∷ []) →
      IsServing (load_course effects house way first new) plan (n + 1) progress'
  goes_on new progress' from now kind octets is_from is_now load kind_is octets_is counts digest after w = record {
    next = load;
    counts = subst (λ kinds. AreCountsOf progress'.counts kinds) kinds_more (counts (kinds_of effects begun requests) u.counts);
    digest = subst (λ m. Holds256 progress'.digest m) replies_more (digest (replies_of effects begun requests) u.digest);
    house = after ∙ after_planned ∙ sym (ap (λ rs. after_requests effects begun rs) (planned_to-push plan n) ∙ after_requests-push effects begun requests (planned plan n));
    over = over_more new (way_planned new from now is_from is_now w);
  } where
    kind_planned : kind ≡ effects.kind last (request_at plan.number n) (load_moment plan.start n)
    kind_planned = kind_is ∙ ap (λ h. effects.kind h from now) u.house ∙ ap (λ d. effects.kind last d now) is_from ∙ ap (λ m. effects.kind last (request_at plan.number n) m) is_now

    octets_planned : octets ≡ effects.reply last (request_at plan.number n) (load_moment plan.start n)
    octets_planned = octets_is ∙ ap (λ h. effects.reply h from now) u.house ∙ ap (λ d. effects.reply last d now) is_from ∙ ap (λ m. effects.reply last (request_at plan.number n) m) is_now

    after_planned : effects.after (house mid) from now ≡ next
    after_planned = ap (λ h. effects.after h from now) u.house ∙ ap (λ d. effects.after last d now) is_from ∙ ap (λ m. effects.after last (request_at plan.number n) m) is_now

    kinds_more : kinds_of effects begun requests ++ kind ∷ [] ≡ kinds_of effects begun (planned_to plan (n + 1))
    kinds_more = ap (λ k. kinds_of effects begun requests ++ k ∷ []) kind_planned
        ∙ sym (ap (λ rs. kinds_of effects begun rs) (planned_to-push plan n) ∙ kinds_of-push effects begun requests (planned plan n))

    replies_more : replies_of effects begun requests ++ octets ≡ replies_of effects begun (planned_to plan (n + 1))
    replies_more = ap (λ o. replies_of effects begun requests ++ o) octets_planned
        ∙ sym (ap (λ rs. replies_of effects begun rs) (planned_to-push plan n) ∙ replies_of-push effects begun requests (planned plan n))

-- a load that ends at a fault
pub fails_next : {House : Type 0} (course : LoadCourse House) (plan : LoadPlan) (n : ℕ) (progress : Progress) (result : Result Unit AnswerFault) (fault : AnswerFault) →
    result ≡ Err fault → StopsServing course plan → IsServedNext course plan n progress result
fails_next course plan n progress result fault same stops = rw same stops
