-- The last ends of a state's ports, and which ports are owned and rest by them.
use Rattle.std.specs.Prelude.{◌≡◌, refl, ℕ, ◌+◌, ◌<◌, ◌≤◌, ◌⊎◌, ◌&&◌, nat_lt, not, true, false, filter, Option, Some, None, IsSome, Contains}
use Rattle.std.proofs.Common.{inl, inr, sym, ap, ◌∙◌, subst, arith}
use Rattle.std.proofs.lemmas.Bool.{and_parts, and_from, not_from_false, ltb-true, ltb-false, lt-ltb, eqb-true, eq-eqb, false_from_ne_true}
use Rattle.pcp_base.specs.declared.leases.Protocol.{Protocol}
use Rattle.pcp_base.specs.declared.leases.Endpoint.{Endpoint}
use Rattle.pcp_base.specs.declared.leases.Owner.{Owner}
use Rattle.pcp_base.specs.declared.leases.End.{End}
use Rattle.pcp_base.specs.Protocols.{protocol_number}
use Rattle.pcp_base.specs.Tables.{live, dead}
use Rattle.pcp_base.specs.Owners.{owners}
use Rattle.pcp_base.specs.Ends.{ends_at_expiry, is_owned_by, ends_by, HasEnded, is_recent, resting, is_end_of}
use Rattle.pcp_base.specs.States.{State}
use Rattle.pcp_base.specs.Records.{IsEndAt}
use Rattle.pcp_base.specs.Sound.{SoundState}
use Rattle.pcp_base.specs.Reached.{IsReached}
use Rattle.pcp_base.proofs.Members.{IsIn, Contains-from_IsIn, IsIn-from_Contains, All-IsIn, All-from_IsIn, IsIn-filter, filter-IsIn, find-some, find-IsIn}
use Rattle.pcp_base.proofs.EndOrder.{SamePort, SamePort-sym, SamePort-trans, InOrder, InOrder-one, with_ends-all, with_ends-ordered, with_ends-has, with_ends-keeps}
use Rattle.pcp_base.proofs.EndLemmas.{left-by_expiry, left-owned, owned-some, owner-protocol, owners-live}
use Rattle.pcp_base.proofs.RestLaws.{protocol_number-same, owned-same, end-same, left-one, resting-parts, ends_by-members}
use Rattle.pcp_base.proofs.StageLaws.{unlike, two_ways}
use Rattle.leased_ports.specs.LastEnds.{last_ends, last_end}
use Rattle.leased_ports.proofs.ExpiryLemmas.{later-live, sooner-dead, live-any, dead-any, live-later, owner-leaves}

pub later_or_not : (m n : ℕ) → (m < n) ⊎ (n ≤ m)
later_or_not m n = elim (two_ways (nat_lt m n)) [ inl a ↦ inl (ltb-true m n a) | inr b ↦ inr (ltb-false m n b) ]

module _ (s : State) (sound : SoundState s) where
  pub last_ends-ordered : InOrder (last_ends s)
  last_ends-ordered = with_ends-ordered (ends_at_expiry s.table) s.ends sound.ordered

  -- an end of a lease's port is one that leases leave, and the others are the state's
  last_ends-from : (e : End) → IsIn e (last_ends s) → IsIn e (ends_at_expiry s.table) ⊎ IsIn e s.ends
  last_ends-from e h =
      All-IsIn (λ e. IsIn e (ends_at_expiry s.table) ⊎ IsIn e s.ends) (last_ends s) e
      (with_ends-all (λ e. IsIn e (ends_at_expiry s.table) ⊎ IsIn e s.ends) (ends_at_expiry s.table) s.ends
      (All-from_IsIn (λ e. IsIn e (ends_at_expiry s.table) ⊎ IsIn e s.ends) (ends_at_expiry s.table) (λ e k. inl k))
      (All-from_IsIn (λ e. IsIn e (ends_at_expiry s.table) ⊎ IsIn e s.ends) s.ends (λ e k. inr k))) h

  -- no end of the state is of a port that a lease owns
  apart : (e f : End) → IsIn e (ends_at_expiry s.table) → IsIn f s.ends → SamePort e f → ⊥
  apart e f left old same =
      unlike (is_owned_by (owners s.table) f) (sym (owned-same (owners s.table) e f same) ∙ left-owned s.table e (left-by_expiry s.table e left))
      (All-IsIn (λ e. is_owned_by (owners s.table) e ≡ false) s.ends f sound.unowned old)

  -- what leases leave of a port is for one endpoint
  one-endpoint : (e f : End) → IsIn e (ends_at_expiry s.table) → IsIn f (ends_at_expiry s.table) → SamePort e f → e.endpoint ≡ f.endpoint
  one-endpoint e f a b same = left-one s.table e f sound.table.one_owner (left-by_expiry s.table e a) (left-by_expiry s.table f b) same

  -- the last end of a port
  module _ (m : ℕ) where
    pub last-some : (protocol : Protocol) (port : ℕ) (e : End) → last_end s m protocol port ≡ Some e
        → IsIn e (last_ends s) × (is_recent m e ≡ true) × (e.endpoint.protocol ≡ protocol) × (e.external ≡ port)
    last-some protocol port e h =
        let found = find-some (is_end_of protocol port) (filter (is_recent m) (last_ends s)) e h in
        let kept = IsIn-filter (is_recent m) (last_ends s) e found.0 in
        let parts = and_parts _ _ found.1 in
        (kept.0, kept.1, protocol_number-same e.endpoint.protocol protocol (eqb-true _ _ parts.0), eqb-true e.external port parts.1)

    pub found-is : (o : Option End) (e : End) → IsSome o → ((x : End) → o ≡ Some x → x ≡ e) → o ≡ Some e
    found-is None e some is = absurd cc
    found-is (Some x) e some is = ap Some (is x refl)

    pub last-is : (e : End) → IsIn e (last_ends s) → is_recent m e ≡ true → last_end s m e.endpoint.protocol e.external ≡ Some e
    last-is e there recent =
        found-is (last_end s m e.endpoint.protocol e.external) e
        (find-IsIn (is_end_of e.endpoint.protocol e.external) (filter (is_recent m) (last_ends s)) e (filter-IsIn (is_recent m) (last_ends s) e there recent)
        (and_from _ _ (eq-eqb _ _ refl) (eq-eqb e.external e.external refl)))
        (λ x is. let k = last-some e.endpoint.protocol e.external x is in
        InOrder-one (last_ends s) x e last_ends-ordered k.0 there (record { protocol = ap protocol_number k.2; external = k.3 }))

    -- by its protocol and number
    pub last-at : (protocol : Protocol) (port : ℕ) (e : End) → e.endpoint.protocol ≡ protocol → e.external ≡ port → IsIn e (last_ends s) → is_recent m e ≡ true → last_end s m protocol port ≡ Some e
    last-at protocol port e p n there recent =
        ap (λ (q : Protocol). last_end s m q port) (sym p) ∙ ap (λ (k : ℕ). last_end s m e.endpoint.protocol k) (sym n) ∙ last-is e there recent

    late-recent : (e : End) → m < e.end + 120 → is_recent m e ≡ true
    late-recent e late = lt-ltb m (e.end + 120) late

    -- the last end is one of the state, or the latest that leases leave
    pub last-from : (protocol : Protocol) (port : ℕ) (e : End) → last_end s m protocol port ≡ Some e
        → IsIn e s.ends ⊎ (IsIn e (ends_at_expiry s.table) × ((f : End) → IsIn f (ends_at_expiry s.table) → SamePort f e → f.end ≤ e.end))
    last-from protocol port e h =
        let k = last-some protocol port e h in
        elim (last_ends-from e k.0) [
          | inr old ↦ inl old
          | inl left ↦ inr (
            left,
            λ f there same.
                let r = with_ends-has (ends_at_expiry s.table) s.ends f there in
                let one : r.end ≡ e = InOrder-one (last_ends s) r.end e last_ends-ordered r.there k.0 (SamePort-trans r.end f e (SamePort-sym f r.end r.port) same) in
                subst (λ (x : End). f.end ≤ x.end) one r.as_late,
          )
        ]

    pub latest-last : (protocol : Protocol) (port : ℕ) (e : End) → e.endpoint.protocol ≡ protocol → e.external ≡ port → IsIn e (ends_at_expiry s.table)
        → ((f : End) → IsIn f (ends_at_expiry s.table) → SamePort f e → f.end ≤ e.end) → is_recent m e ≡ true → last_end s m protocol port ≡ Some e
    latest-last protocol port e p n left latest recent =
        let r = with_ends-has (ends_at_expiry s.table) s.ends e left in
        let back = SamePort-sym e r.end r.port in
        let from : IsIn r.end (ends_at_expiry s.table) = elim (last_ends-from r.end r.there) [ inl a ↦ a | inr b ↦ absurd (apart e r.end left b r.port) ] in
        let same : r.end ≡ e = end-same r.end e (one-endpoint r.end e from left back) back.external (omega (arith, r.as_late, latest r.end from back)) in
        last-at protocol port e p n (subst (λ (y : End). IsIn y (last_ends s)) same r.there) recent

    pub old-last : (protocol : Protocol) (port : ℕ) (e : End) → e.endpoint.protocol ≡ protocol → e.external ≡ port → IsIn e s.ends → is_recent m e ≡ true → last_end s m protocol port ≡ Some e
    old-last protocol port e p n old recent =
        let r = with_ends-keeps (ends_at_expiry s.table) s.ends e old in
        let back = SamePort-sym e r.end r.port in
        let from : IsIn r.end s.ends = elim (last_ends-from r.end r.there) [ inl a ↦ absurd (apart r.end e a old back) | inr b ↦ b ] in
        let same : r.end ≡ e = InOrder-one s.ends r.end e sound.ordered from old back in
        last-at protocol port e p n (subst (λ (y : End). IsIn y (last_ends s)) same r.there) recent

    -- a port that a live lease owns has an end to come, of the same endpoint
    pub owned-last : (o : Owner) → IsIn o (owners (live s.table m)) → (e : End) × (last_end s m o.protocol o.external ≡ Some e) × (m < e.end) × (e.endpoint ≡ o.endpoint)
    owned-last o h =
        let f = owner-leaves (live s.table m) o h in
        let left = live-any s.table m f.0 f.1 in
        let late = live-later s.table m f.0 f.1 in
        let r = with_ends-has (ends_at_expiry s.table) s.ends f.0 left in
        let later : m < r.end.end = omega (arith, late, r.as_late) in
        let from : IsIn r.end (ends_at_expiry s.table) = elim (last_ends-from r.end r.there) [ inl a ↦ a | inr b ↦ absurd (apart f.0 r.end left b r.port) ] in
        let endpoint : r.end.endpoint ≡ o.endpoint = one-endpoint r.end f.0 from left (SamePort-sym f.0 r.end r.port) ∙ sym (ap (λ (x : End). x.endpoint) f.2) in
        let protocol : r.end.endpoint.protocol ≡ o.protocol = ap (λ (x : Endpoint). x.protocol) endpoint ∙ sym (owner-protocol s.table o (owners-live s.table m o h)) in
        let external : r.end.external ≡ o.external = sym r.port.external ∙ sym (ap (λ (x : End). x.external) f.2) in
        (r.end, last-at o.protocol o.external r.end protocol external r.there (late-recent r.end (omega (arith, later))), later, endpoint)

    -- a port whose end came is owned by no live lease
    ended-unowned : (e : End) → IsIn e (last_ends s) → is_recent m e ≡ true → e.end ≤ m → is_owned_by (owners (live s.table m)) e ≡ false
    ended-unowned e there recent came = false_from_ne_true _ (λ owned.
        let o = owned-some e.endpoint.protocol e.external (owners (live s.table m)) owned in
        let k = owned-last o.0 o.1 in
        let at : last_end s m o.0.protocol o.0.external ≡ Some e = last-at o.0.protocol o.0.external e (sym o.2) (sym o.3) there recent in
        let same : k.0 ≡ e = some-same (sym k.1 ∙ at) in
        let late : m < e.end = subst (λ (x : End). m < x.end) same k.2 in
        absurd (omega (arith, late, came)))
      where
        some-same : {x y : End} → Some x ≡ Some y → x ≡ y
        some-same e = cc

module _ (s : State) (m : ℕ) (reached : IsReached s) (passed : s.last ≤ m) where
  abbrev sound : SoundState s
  sound = reached.sound

  pub old-ended : (e : End) → IsIn e s.ends → e.end ≤ m
  old-ended e h = let is = All-IsIn (IsEndAt s.last) s.ends e reached.ends h in omega (arith, is.ended, passed)

  -- a port whose end is to come is owned by a live lease of the same endpoint
  pub last-owned : (protocol : Protocol) (port : ℕ) (e : End) → last_end s m protocol port ≡ Some e → m < e.end
      → (o : Owner) × IsIn o (owners (live s.table m)) × (o.protocol ≡ protocol) × (o.external ≡ port) × (o.endpoint ≡ e.endpoint)
  last-owned protocol port e h late =
      let k = last-some s sound m protocol port e h in
      let left : IsIn e (ends_at_expiry s.table) = elim (last_ends-from s sound e k.0) [ inl a ↦ a | inr b ↦ absurd (let soon = old-ended e b in omega (arith, late, soon)) ] in
      let by = left-by_expiry (live s.table m) e (later-live s.table m e late left) in (
        by.owner,
        by.there,
        owner-protocol (live s.table m) by.owner by.there ∙ ap (λ (x : End). x.endpoint.protocol) by.same ∙ k.2,
        ap (λ (x : End). x.external) by.same ∙ k.3,
        ap (λ (x : End). x.endpoint) by.same,
      )

  -- a port whose end came rests by it
  pub last-rests : (protocol : Protocol) (port : ℕ) (e : End) → last_end s m protocol port ≡ Some e → e.end ≤ m → IsIn e (resting s m)
  last-rests protocol port e h came =
      let k = last-some s sound m protocol port e h in
      let free = ended-unowned s sound m e k.0 k.1 came in
      let there : Contains (ends_by s m) e = (ends_by-members s m e sound).1 (elim (last_ends-from s sound e k.0) [
        | inr old ↦ inr-first old
        | inl left ↦ inr (record {
          left = Contains-from_IsIn (ends_at_expiry (dead s.table m)) e (sooner-dead s.table m e came left);
          unowned = free;
          latest = λ f dead_f protocols externals.
              let r = with_ends-has (ends_at_expiry s.table) s.ends f (dead-any s.table m f (IsIn-from_Contains (ends_at_expiry (dead s.table m)) f dead_f)) in
              let same : r.end ≡ e = InOrder-one (last_ends s) r.end e (last_ends-ordered s sound) r.there k.0
              (SamePort-trans r.end f e (SamePort-sym f r.end r.port) (record { protocol = ap protocol_number protocols; external = externals })) in
              subst (λ (x : End). f.end ≤ x.end) same r.as_late;
        })
      ]) in
      filter-IsIn (λ x. is_recent m x && not (is_owned_by (owners (live s.table m)) x)) (ends_by s m) e (IsIn-from_Contains (ends_by s m) e there)
      (and_from _ _ k.1 (not_from_false _ free))
    where
      inr-first : IsIn e s.ends → Contains s.ends e ⊎ HasEnded s m e
      inr-first old = inl (Contains-from_IsIn s.ends e old)

  -- an end by which a port rests is the port's last
  pub rests-last : (x : End) → IsIn x (resting s m) → (last_end s m x.endpoint.protocol x.external ≡ Some x) × (x.end ≤ m)
  rests-last x h =
      let parts = resting-parts s m x h in
      elim ((ends_by-members s m x sound).0 (Contains-from_IsIn (ends_by s m) x parts.0)) [
        | inl old ↦ (let there = IsIn-from_Contains s.ends x old in
            let r = with_ends-keeps (ends_at_expiry s.table) s.ends x there in
            let from : IsIn r.end s.ends = elim (last_ends-from s sound r.end r.there) [ inl a ↦ absurd (apart s sound r.end x a there (SamePort-sym x r.end r.port)) | inr b ↦ b ] in
            let same : r.end ≡ x = InOrder-one s.ends r.end x sound.ordered from there (SamePort-sym x r.end r.port) in
            (last-is s sound m x (subst (λ (y : End). IsIn y (last_ends s)) same r.there) parts.1, old-ended x there))
        | inr ended ↦ (let there = IsIn-from_Contains (ends_at_expiry (dead s.table m)) x ended.left in
            let left = dead-any s.table m x there in
            let r = with_ends-has (ends_at_expiry s.table) s.ends x left in
            let back = SamePort-sym x r.end r.port in
            let from : IsIn r.end (ends_at_expiry s.table) = elim (last_ends-from s sound r.end r.there) [ inl a ↦ a | inr b ↦ absurd (apart s sound x r.end left b r.port) ] in
            let came : r.end.end ≤ m = elim (later_or_not m r.end.end) [
              | inr soon ↦ soon
              | inl late ↦ absurd (unlike (is_owned_by (owners (live s.table m)) x)
                  (owned-same (owners (live s.table m)) x r.end r.port ∙ left-owned (live s.table m) r.end (left-by_expiry (live s.table m) r.end (later-live s.table m r.end late from))) ended.unowned)
            ] in
            let latest = ended.latest r.end (Contains-from_IsIn (ends_at_expiry (dead s.table m)) r.end (sooner-dead s.table m r.end came from))
            (protocol_number-same r.end.endpoint.protocol x.endpoint.protocol back.protocol) back.external in
            let same : r.end ≡ x = end-same r.end x (one-endpoint s sound r.end x from left back) back.external (omega (arith, latest, r.as_late)) in
            (last-is s sound m x (subst (λ (y : End). IsIn y (last_ends s)) same r.there) parts.1, omega (arith, came, ap (λ (y : End). y.end) same)))
      ]
