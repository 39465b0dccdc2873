-- What the ends at a moment are, and which ports rest by them.
use Rattle.std.specs.Prelude.{◌≡◌, refl, ℕ, ◌≤◌, ◌⊎◌, ◌&&◌, ◌==◌, ◌↔◌, not, Bool, true, false, List, [], ◌∷◌, filter, Contains, if◌then◌else◌}
use Rattle.std.specs.List.{AllByRecursion}
use Rattle.std.proofs.Common.{inl, inr, sym, ap, ◌∙◌, subst, arith}
use Rattle.std.proofs.lemmas.Bool.{and_parts, and_from, not-true, not_from_false, eqb-true, eq-eqb}
use Rattle.std.proofs.lemmas.List.{append-nil}
use Rattle.pcp_base.specs.declared.leases.Protocol.{Protocol}
use Rattle.pcp_base.specs.declared.leases.Protocol.TheVariants.{Tcp, Udp}
use Rattle.pcp_base.specs.declared.leases.Endpoint.{Endpoint}
use Rattle.pcp_base.specs.declared.leases.Owner.{Owner}
use Rattle.pcp_base.specs.declared.leases.End.{End}
use Rattle.pcp_base.specs.declared.records.Change.TheVariants.{Mark}
use Rattle.pcp_base.specs.Protocols.{protocol_number}
use Rattle.pcp_base.specs.Tables.{Table, live, dead, same_endpoint}
use Rattle.pcp_base.specs.Owners.{owners, is_owned, OneOwner}
use Rattle.pcp_base.specs.States.{State}
use Rattle.pcp_base.specs.Ends.{ends_at_expiry, is_before, is_owned_by, with_left, ends_by, HasEnded, is_recent, resting, rests_for, rests, is_end_of}
use Rattle.pcp_base.specs.Apply.{apply}
use Rattle.pcp_base.specs.Sound.{SoundState}
use Rattle.pcp_base.proofs.Same.{same_endpoint-Decides}
use Rattle.pcp_base.proofs.Members.{IsIn, Contains-from_IsIn, IsIn-from_Contains, All-IsIn, All-from_IsIn, All-weaker, All-kept, IsIn-filter, filter-IsIn, EachTwo-filter, any-some, some-any}
use Rattle.pcp_base.proofs.EndOrder.{SamePort, SamePort-refl, SamePort-sym, SamePort-trans, InOrder, InOrder-one, with_ends-all, with_ends-ordered, with_ends-keeps, with_ends-has, before-trans, before-other}
use Rattle.pcp_base.proofs.EndLemmas.{IsLeftBy, left-by_expiry, left-owned, owners-dead, owners-live, unowned-fewer, owner-protocol}

-- ---- ports

pub protocol_number-same : (p q : Protocol) → protocol_number p ≡ protocol_number q → p ≡ q
protocol_number-same Tcp Tcp h = refl
protocol_number-same Udp Udp h = refl
protocol_number-same Tcp Udp h = absurd (omega arith)
protocol_number-same Udp Tcp h = absurd (omega arith)

-- ends of one port are owned alike
pub owned-same : (os : List Owner) (a b : End) → SamePort a b → is_owned_by os a ≡ is_owned_by os b
owned-same os a b h =
    ap (λ (p : Protocol). is_owned p a.external os) (protocol_number-same a.endpoint.protocol b.endpoint.protocol h.protocol)
    ∙ ap (λ (n : ℕ). is_owned b.endpoint.protocol n os) h.external

pub end-same : (a b : End) → a.endpoint ≡ b.endpoint → a.external ≡ b.external → a.end ≡ b.end → a ≡ b
end-same a b e f g =
    ap (λ (x : Endpoint). record { endpoint = x; external = a.external; end = a.end }) e
    ∙ ap (λ (x : ℕ). record { endpoint = b.endpoint; external = x; end = a.end }) f
    ∙ ap (λ (x : ℕ). record { endpoint = b.endpoint; external = b.external; end = x }) g

-- what leases of one table left of one port, they left for one endpoint
pub left-one : (t : Table) (a b : End) → OneOwner (owners t) → IsLeftBy t a → IsLeftBy t b → SamePort a b → a.endpoint ≡ b.endpoint
left-one t a b one left right same =
    let protocols : left.owner.protocol ≡ right.owner.protocol =
    owner-protocol t left.owner left.there ∙ ap (λ (x : End). x.endpoint.protocol) left.same
    ∙ protocol_number-same a.endpoint.protocol b.endpoint.protocol same.protocol
    ∙ sym (owner-protocol t right.owner right.there ∙ ap (λ (x : End). x.endpoint.protocol) right.same) in
    let ports : left.owner.external ≡ right.owner.external =
    ap (λ (x : End). x.external) left.same ∙ same.external ∙ sym (ap (λ (x : End). x.external) right.same) in
    let owners_same : left.owner.endpoint ≡ right.owner.endpoint =
    one left.owner right.owner (Contains-from_IsIn (owners t) left.owner left.there) (Contains-from_IsIn (owners t) right.owner right.there) protocols ports in
    sym (ap (λ (x : End). x.endpoint) left.same) ∙ owners_same ∙ ap (λ (x : End). x.endpoint) right.same

-- ---- ends that stand in the same order

-- lists in order with the same members are the same
pub InOrder-same : (xs ys : List End) → InOrder xs → InOrder ys → ((e : End) → IsIn e xs → IsIn e ys) → ((e : End) → IsIn e ys → IsIn e xs) → xs ≡ ys
InOrder-same [] [] h k f g = refl
InOrder-same [] (y ∷ ys) h k f g = absurd (g y (inl refl))
InOrder-same (x ∷ xs) [] h k f g = absurd (f x (inl refl))
InOrder-same (x ∷ xs) (y ∷ ys) h k f g =
    let same : x ≡ y = first x y xs ys h k (f x (inl refl)) (g y (inl refl)) in
    let rest : xs ≡ ys = InOrder-same xs ys h.1 k.1
    (λ e there. elim (f e (inr there)) [
      | inl new ↦ absurd (before-other x e (All-IsIn (λ z. is_before x z ≡ true) xs e h.0 there) (subst (λ (z : End). SamePort x z) (same ∙ new) (SamePort-refl x)))
      | inr old ↦ old
    ])
    (λ e there. elim (g e (inr there)) [
      | inl new ↦ absurd (before-other y e (All-IsIn (λ z. is_before y z ≡ true) ys e k.0 there) (subst (λ (z : End). SamePort y z) (sym same ∙ new) (SamePort-refl y)))
      | inr old ↦ old
    ]) in
    ap (λ (z : End). z ∷ xs) same ∙ ap (λ (zs : List End). y ∷ zs) rest
  where
    first : (x y : End) (xs ys : List End) → InOrder (x ∷ xs) → InOrder (y ∷ ys) → IsIn x (y ∷ ys) → IsIn y (x ∷ xs) → x ≡ y
    first x y xs ys h k (inl e) b = sym e
    first x y xs ys h k (inr a) (inl e) = e
    first x y xs ys h k (inr a) (inr b) =
        absurd (before-other x x (before-trans x y x (All-IsIn (λ z. is_before x z ≡ true) xs y h.0 b) (All-IsIn (λ z. is_before y z ≡ true) ys x k.0 a)) (SamePort-refl x))

-- ---- what leases left, beside ends that were there

-- of what leases left, the latest of its port, which no lease of the table owns
pub record IsLatestLeft (t : Table) (left : List End) (e : End) : Type 0 where
  pub there : IsIn e left
  pub unowned : is_owned_by (owners t) e ≡ false
  pub latest : (f : End) → IsIn f left → SamePort f e → f.end ≤ e.end

-- The leases of a table with one owner a port left these ends, and none of them owns a port of the other ends.
pub record AreLeft (t : Table) (left ends : List End) : Type 0 where
  pub one : OneOwner (owners t)
  pub by_lease : (e : End) → IsIn e left → IsLeftBy t e
  pub ordered : InOrder ends
  pub unowned : AllByRecursion (λ e. is_owned_by (owners t) e ≡ false) ends

not_both : (b : Bool) → b ≡ true → b ≡ false → ⊥
not_both b h k = cc

-- no end that was there is of a port that a lease left
apart : (t : Table) (left ends : List End) (e f : End) → AreLeft t left ends → IsIn e left → IsIn f ends → SamePort e f → ⊥
apart t left ends e f h there here same =
    not_both (is_owned_by (owners t) f) (sym (owned-same (owners t) e f same) ∙ left-owned t e (h.by_lease e there)) (All-IsIn (λ e. is_owned_by (owners t) e ≡ false) ends f h.unowned here)

-- those that remain of them
abbrev remaining : Table → List End → List End
remaining now left = filter (λ e. not (is_owned_by (owners now) e)) left

from_either : (now : Table) (left ends : List End) → AllByRecursion (λ e. IsIn e (remaining now left) ⊎ IsIn e ends) (with_left now left ends)
from_either now left ends =
    with_ends-all (λ e. IsIn e (remaining now left) ⊎ IsIn e ends) (remaining now left) ends
    (All-from_IsIn (λ e. IsIn e (remaining now left) ⊎ IsIn e ends) (remaining now left) (λ e h. inl h))
    (All-from_IsIn (λ e. IsIn e (remaining now left) ⊎ IsIn e ends) ends (λ e h. inr h))

-- an end is of those that were there, or the latest that leases left
pub with_left-parts : (t now : Table) (left ends : List End) (e : End) → AreLeft t left ends → IsIn e (with_left now left ends) → IsIn e ends ⊎ IsLatestLeft now left e
with_left-parts t now left ends e h there =
    elim (All-IsIn (λ e. IsIn e (remaining now left) ⊎ IsIn e ends) (with_left now left ends) e (from_either now left ends) there) [
      | inr old ↦ inl old
      | inl new ↦ inr (let kept = IsIn-filter (λ x. not (is_owned_by (owners now) x)) left e new in record {
        there = kept.0;
        unowned = not-true (is_owned_by (owners now) e) kept.1;
        latest = λ f k same.
            let free : not (is_owned_by (owners now) f) ≡ true = not_from_false (is_owned_by (owners now) f) (owned-same (owners now) f e same ∙ not-true (is_owned_by (owners now) e) kept.1) in
            let r = with_ends-has (remaining now left) ends f (filter-IsIn (λ x. not (is_owned_by (owners now) x)) left f k free) in
            let is : r.end ≡ e = InOrder-one (with_left now left ends) r.end e (with_ends-ordered (remaining now left) ends h.ordered) r.there there
            (SamePort-trans r.end f e (SamePort-sym f r.end r.port) same) in
            subst (λ (x : End). f.end ≤ x.end) is r.as_late;
      })
    ]

-- what was there is there
pub with_left-old : (t now : Table) (left ends : List End) (e : End) → AreLeft t left ends → IsIn e ends → IsIn e (with_left now left ends)
with_left-old t now left ends e h there =
    let r = with_ends-keeps (remaining now left) ends e there in
    elim (All-IsIn (λ e. IsIn e (remaining now left) ⊎ IsIn e ends) (with_left now left ends) r.end (from_either now left ends) r.there) [
      | inr old ↦ subst (λ (x : End). IsIn x (with_left now left ends)) (InOrder-one ends r.end e h.ordered old there (SamePort-sym e r.end r.port)) r.there
      | inl new ↦ absurd (apart t left ends r.end e h (IsIn-filter (λ x. not (is_owned_by (owners now) x)) left r.end new).0 there (SamePort-sym e r.end r.port))
    ]

-- and so is the latest that leases left
pub with_left-new : (t now : Table) (left ends : List End) (e : End) → AreLeft t left ends → IsLatestLeft now left e → IsIn e (with_left now left ends)
with_left-new t now left ends e h is =
    let r = with_ends-has (remaining now left) ends e (filter-IsIn (λ x. not (is_owned_by (owners now) x)) left e is.there (not_from_false (is_owned_by (owners now) e) is.unowned)) in
    elim (All-IsIn (λ e. IsIn e (remaining now left) ⊎ IsIn e ends) (with_left now left ends) r.end (from_either now left ends) r.there) [
      | inr old ↦ absurd (apart t left ends e r.end h is.there old r.port)
      | inl new ↦ (let there = (IsIn-filter (λ x. not (is_owned_by (owners now) x)) left r.end new).0 in
          let early = is.latest r.end there (SamePort-sym e r.end r.port) in
          let same : r.end ≡ e = end-same r.end e
          (left-one t r.end e h.one (h.by_lease r.end there) (h.by_lease e is.there) (SamePort-sym e r.end r.port)) (sym r.port.external) (omega (arith, r.as_late)) in
          subst (λ (x : End). IsIn x (with_left now left ends)) same r.there)
    ]

-- ---- the ends at a moment

expired_are_left : (s : State) (m : ℕ) → SoundState s → AreLeft s.table (ends_at_expiry (dead s.table m)) s.ends
expired_are_left s m h = record {
  one = h.table.one_owner;
  by_lease = λ e there. let left = left-by_expiry (dead s.table m) e there in record { owner = left.owner; there = owners-dead s.table m left.owner left.there; same = left.same };
  ordered = h.ordered;
  unowned = h.unowned;
}

has_ended : (s : State) (m : ℕ) (e : End) → IsLatestLeft (live s.table m) (ends_at_expiry (dead s.table m)) e → HasEnded s m e
has_ended s m e h = record {
  left = Contains-from_IsIn (ends_at_expiry (dead s.table m)) e h.there;
  unowned = h.unowned;
  latest = λ f there protocol external. h.latest f (IsIn-from_Contains (ends_at_expiry (dead s.table m)) f there) (record { protocol = ap protocol_number protocol; external = external });
}

latest_left : (s : State) (m : ℕ) (e : End) → HasEnded s m e → IsLatestLeft (live s.table m) (ends_at_expiry (dead s.table m)) e
latest_left s m e h = record {
  there = IsIn-from_Contains (ends_at_expiry (dead s.table m)) e h.left;
  unowned = h.unowned;
  latest = λ f there same. h.latest f (Contains-from_IsIn (ends_at_expiry (dead s.table m)) f there) (protocol_number-same f.endpoint.protocol e.endpoint.protocol same.protocol) same.external;
}

-- The ends at m are those of the state, and those that leases left which aren't live any more.
pub ends_by-members : (s : State) (m : ℕ) (e : End) → SoundState s → Contains (ends_by s m) e ↔ (Contains s.ends e ⊎ HasEnded s m e)
ends_by-members s m e h = (
  λ there. elim (with_left-parts s.table (live s.table m) (ends_at_expiry (dead s.table m)) s.ends e (expired_are_left s m h) (IsIn-from_Contains (ends_by s m) e there)) [
    | inl old ↦ inl (Contains-from_IsIn s.ends e old)
    | inr new ↦ inr (has_ended s m e new)
  ],
  λ either. Contains-from_IsIn (ends_by s m) e (elim either [
    | inl old ↦ with_left-old s.table (live s.table m) (ends_at_expiry (dead s.table m)) s.ends e (expired_are_left s m h) (IsIn-from_Contains s.ends e old)
    | inr new ↦ with_left-new s.table (live s.table m) (ends_at_expiry (dead s.table m)) s.ends e (expired_are_left s m h) (latest_left s m e new)
  ]),
)

-- ---- resting ports

-- what rests is recent, and no live lease owns its port
pub resting-parts : (s : State) (m : ℕ) (e : End) → IsIn e (resting s m) → IsIn e (ends_by s m) × (is_recent m e ≡ true) × (is_owned_by (owners (live s.table m)) e ≡ false)
resting-parts s m e h =
    let kept = IsIn-filter (λ x. is_recent m x && not (is_owned_by (owners (live s.table m)) x)) (ends_by s m) e h in
    let parts = and_parts (is_recent m e) (not (is_owned_by (owners (live s.table m)) e)) kept.1 in
    (kept.0, parts.0, not-true (is_owned_by (owners (live s.table m)) e) parts.1)

resting-ordered : (s : State) (m : ℕ) → SoundState s → InOrder (resting s m)
resting-ordered s m h =
    EachTwo-filter (λ a b. is_before a b ≡ true) (λ x. is_recent m x && not (is_owned_by (owners (live s.table m)) x)) (ends_by s m)
    (with_ends-ordered (remaining (live s.table m) (ends_at_expiry (dead s.table m))) s.ends h.ordered)

pub rests_for-some : (s : State) (m port : ℕ) (e : Endpoint) → rests_for s m port e ≡ true → (x : End) × IsIn x (resting s m) × (x.endpoint ≡ e) × (x.external ≡ port)
rests_for-some s m port e h =
    let r = any-some (λ x. same_endpoint x.endpoint e && x.external == port) (resting s m) h in
    let parts = and_parts (same_endpoint r.0.endpoint e) (r.0.external == port) r.2 in
    (r.0, r.1, (same_endpoint-Decides r.0.endpoint e).0 parts.0, eqb-true r.0.external port parts.1)

-- a port rests for one endpoint at most
pub rests_for-one : (s : State) (m port : ℕ) (e f : Endpoint) → SoundState s → rests_for s m port e ≡ true → rests_for s m port f ≡ true → e.protocol ≡ f.protocol → e ≡ f
rests_for-one s m port e f sound h k same =
    let a = rests_for-some s m port e h in
    let b = rests_for-some s m port f k in
    let protocols : a.0.endpoint.protocol ≡ b.0.endpoint.protocol = ap (λ (x : Endpoint). x.protocol) a.2 ∙ same ∙ sym (ap (λ (x : Endpoint). x.protocol) b.2) in
    let one : a.0 ≡ b.0 = InOrder-one (resting s m) a.0 b.0 (resting-ordered s m sound) a.1 b.1
    (record { protocol = ap protocol_number protocols; external = a.3 ∙ sym b.3 }) in
    sym a.2 ∙ ap (λ (x : End). x.endpoint) one ∙ b.2

-- no live lease owns a port that rests
pub rests_for-unowned : (s : State) (m port : ℕ) (e : Endpoint) → rests_for s m port e ≡ true → is_owned e.protocol port (owners (live s.table m)) ≡ false
rests_for-unowned s m port e h =
    let a = rests_for-some s m port e h in
    let unowned = (resting-parts s m a.0 a.1).2 in
    subst (λ (p : Protocol). is_owned p port (owners (live s.table m)) ≡ false) (ap (λ (x : Endpoint). x.protocol) a.2)
    (subst (λ (n : ℕ). is_owned a.0.endpoint.protocol n (owners (live s.table m)) ≡ false) a.3 unowned)

-- A port rests where it rests for some endpoint.
pub rests-some : (s : State) (m port : ℕ) (p : Protocol) → rests s m p port ≡ true → (e : Endpoint) × (e.protocol ≡ p) × (rests_for s m port e ≡ true)
rests-some s m port p h =
    let r = any-some (is_end_of p port) (resting s m) h in
    let parts = and_parts _ _ r.2 in (
      r.0.endpoint,
      protocol_number-same r.0.endpoint.protocol p (eqb-true _ _ parts.0),
      some-any (λ x. same_endpoint x.endpoint r.0.endpoint && x.external == port) (resting s m) r.0 r.1
          (and_from _ _ ((same_endpoint-Decides r.0.endpoint r.0.endpoint).1 refl) parts.1),
    )

pub some-rests : (s : State) (m port : ℕ) (e : Endpoint) → rests_for s m port e ≡ true → rests s m e.protocol port ≡ true
some-rests s m port e h =
    let a = rests_for-some s m port e h in
    some-any (is_end_of e.protocol port) (resting s m) a.0 a.1
    (and_from _ _ (eq-eqb _ _ (ap (λ (x : Endpoint). protocol_number x.protocol) a.2)) (eq-eqb a.0.external port a.3))

-- ---- what rests at m is what a Mark at m leaves

filter-fewer : {X : Type 0} (p q : X → Bool) (xs : List X) → AllByRecursion (λ x. q x ≡ true) xs → filter (λ x. p x && q x) xs ≡ filter p xs
filter-fewer p q [] h = refl
filter-fewer p q (x ∷ xs) h = by_test x (filter (λ x. p x && q x) xs) (filter p xs) (p x) (q x) h.0 (filter-fewer p q xs h.1)
  where
    by_test : {X : Type 0} (x : X) (ys zs : List X) (a b : Bool) → b ≡ true → ys ≡ zs → (if a && b then x ∷ ys else ys) ≡ (if a then x ∷ zs else zs)
    by_test x ys zs true true h e = ap (λ us. x ∷ us) e
    by_test x ys zs false true h e = e
    by_test x ys zs true false h e = absurd cc
    by_test x ys zs false false h e = e

pub resting-mark : (s : State) (m : ℕ) → SoundState s → resting s m ≡ (apply s (record { moment = m; change = Mark })).ends
resting-mark s m h =
    let free : AllByRecursion (λ e. not (is_owned_by (owners (live s.table m)) e) ≡ true) (ends_by s m) =
    with_ends-all (λ e. not (is_owned_by (owners (live s.table m)) e) ≡ true) (remaining (live s.table m) (ends_at_expiry (dead s.table m))) s.ends
    (All-kept (λ e. not (is_owned_by (owners (live s.table m)) e)) (ends_at_expiry (dead s.table m)))
    (All-weaker (λ e. is_owned_by (owners s.table) e ≡ false) (λ e. not (is_owned_by (owners (live s.table m)) e) ≡ true)
    (λ e u. not_from_false _ (unowned-fewer e.endpoint.protocol e.external (owners s.table) (owners (live s.table m)) (owners-live s.table m) u)) s.ends h.unowned) in
    filter-fewer (is_recent m) (λ e. not (is_owned_by (owners (live s.table m)) e)) (ends_by s m) free
    ∙ ap (λ (left : List End). filter (is_recent m) (with_left (live s.table m) left s.ends)) (sym (append-nil (ends_at_expiry (dead s.table m))))
