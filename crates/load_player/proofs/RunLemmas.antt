-- One more request: what it adds to what requests do.
use Rattle.std.proofs.Common.{◌≡◌, ℕ, ◌+◌, List, [], ◌∷◌, ◌++◌, length, suc, inl, inr, refl, sym, ap, subst, ◌∙◌, arith, append_assoc, append-nil}
use Rattle.std.specs.Prelude.{◌⊎◌, Contains}
use Rattle.std.proofs.lemmas.List.Elements.{Contains-append_cases, Contains-append_left, Contains-append_right, Contains-push, Contains-push_cases}
use Rattle.std.proofs.lemmas.List.FromFn.{length-map-range_with_len, map-range_with_len_more}
use Rattle.server_commands.specs.declared.commands.LoadPlan.{LoadPlan}
use Rattle.load_player.specs.LoadRuns.{LoadEffects, TimedRequest, after_requests, houses_past, kinds_of, planned, planned_to, replies_of}

pub planned_to-push : (plan : LoadPlan) (n : ℕ) → planned_to plan (n + 1) ≡ planned_to plan n ++ planned plan n ∷ []
planned_to-push plan n = map-range_with_len_more (planned plan) 0 n n (omega arith)

pub length-planned_to : (plan : LoadPlan) (n : ℕ) → length (planned_to plan n) ≡ n
length-planned_to plan n = length-map-range_with_len (planned plan) 0 n

module _ {House : Type 0} (effects : LoadEffects House) where
  pub after_requests-push : (house : House) (rs : List TimedRequest) (r : TimedRequest) →
      after_requests effects house (rs ++ r ∷ []) ≡ effects.after (after_requests effects house rs) r.from r.moment
  after_requests-push house [] r = refl
  after_requests-push house (q ∷ rs) r = after_requests-push (effects.after house q.from q.moment) rs r

  pub kinds_of-push : (house : House) (rs : List TimedRequest) (r : TimedRequest) →
      kinds_of effects house (rs ++ r ∷ []) ≡ kinds_of effects house rs ++ effects.kind (after_requests effects house rs) r.from r.moment ∷ []
  kinds_of-push house [] r = refl
  kinds_of-push house (q ∷ rs) r =
      ap (λ kinds. effects.kind house q.from q.moment ∷ kinds) (kinds_of-push (effects.after house q.from q.moment) rs r)

  pub length-kinds_of : (house : House) (rs : List TimedRequest) → length (kinds_of effects house rs) ≡ length rs
  length-kinds_of house [] = refl
  length-kinds_of house (q ∷ rs) = ap suc (length-kinds_of (effects.after house q.from q.moment) rs)

  pub replies_of-push : (house : House) (rs : List TimedRequest) (r : TimedRequest) →
      replies_of effects house (rs ++ r ∷ []) ≡ replies_of effects house rs ++ effects.reply (after_requests effects house rs) r.from r.moment
  replies_of-push house [] r = append-nil (effects.reply house r.from r.moment)
  replies_of-push house (q ∷ rs) r =
      let text = effects.reply house q.from q.moment in
      let next = effects.after house q.from q.moment in
      ap (λ more. text ++ more) (replies_of-push next rs r)
      ∙ sym (append_assoc text (replies_of effects next rs) (effects.reply (after_requests effects next rs) r.from r.moment))

  pub houses_past-push : (house : House) (rs : List TimedRequest) (r : TimedRequest) →
      houses_past effects house (rs ++ r ∷ [])
      ≡ houses_past effects house rs ++ effects.after (after_requests effects house rs) r.from r.moment ∷ []
  houses_past-push house [] r = refl
  houses_past-push house (q ∷ rs) r =
      ap (λ houses. house ∷ houses) (houses_past-push (effects.after house q.from q.moment) rs r)

  -- the house after the requests is the last of those past them
  last_past : (house : House) (rs : List TimedRequest) → Contains (houses_past effects house rs) (after_requests effects house rs)
  last_past house [] = Contains-push [] house
  last_past house (q ∷ rs) =
      let next = effects.after house q.from q.moment in
      Contains-append_right (house ∷ []) (houses_past effects next rs) (after_requests effects next rs) (last_past next rs)

  -- one of two houses
  of_two : (x y z : House) → Contains (x ∷ y ∷ []) z → (x ≡ z) ⊎ (y ≡ z)
  of_two x y z h =
      elim (Contains-push_cases (x ∷ []) y z h) [
        | inl c ↦ elim (Contains-push_cases [] x z c) [ inl none ↦ absurd (let low = none.1 in omega arith) | inr e ↦ inl e ]
        | inr e ↦ inr e
      ]

  -- those past the requests, and those before and after one more
  pub past_more : (house : House) (rs : List TimedRequest) (r : TimedRequest) (x : House) →
      Contains (houses_past effects house rs ++ after_requests effects house rs ∷ effects.after (after_requests effects house rs) r.from r.moment ∷ []) x →
      Contains (houses_past effects house (rs ++ r ∷ [])) x
  past_more house rs r x h =
      let houses = houses_past effects house rs in
      let last = after_requests effects house rs in
      let next = effects.after last r.from r.moment in
      let within : Contains (houses ++ next ∷ []) x =
      elim (Contains-append_cases houses (last ∷ next ∷ []) x h) [
        | inl c ↦ Contains-append_left houses (next ∷ []) x c
        | inr c ↦ elim (of_two last next x c) [
          | inl e ↦ Contains-append_left houses (next ∷ []) x (subst (λ (y : House). Contains houses y) e (last_past house rs))
          | inr e ↦ subst (λ (y : House). Contains (houses ++ next ∷ []) y) e (Contains-push houses next)
        ]
      ] in
      subst (λ (hs : List House). Contains hs x) (sym (houses_past-push house rs r)) within

  -- the house after the requests, and that after one more
  pub past_one : (x y z : House) → Contains (x ∷ []) z → Contains (x ∷ y ∷ []) z
  past_one x y z h = Contains-append_left (x ∷ []) (y ∷ []) z h
