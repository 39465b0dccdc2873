-- How legal histories grow.
use Rattle.std.specs.Prelude.{IfSome}
use Rattle.std.specs.List.{AllByRecursion, last_or, cons_option}
use Rattle.std.specs.Option.{option_map_or}
use Rattle.std.proofs.Common.{◌≡◌, ◌∙◌, ℕ, ◌≤◌, List, [], ◌∷◌, ◌++◌, ◌⊎◌, Option, Some, None, refl, ap, sym, subst, inl, inr, append_assoc, arith}
use Rattle.std.proofs.lemmas.List.{append-nil}
use Rattle.std.proofs.lemmas.List.Elements.{filter_map-append}
use Rattle.std.proofs.lemmas.List.Sums.{fold-append}
use Rattle.pcp_base.specs.declared.datagrams.Entry.{Entry}
use Rattle.pcp_base.specs.declared.records.Record.{Record}
use Rattle.pcp_base.specs.Apply.{apply, apply_all}
use Rattle.pcp_base.specs.States.{State}
use Rattle.pcp_base.proofs.Members.{All-push, All-weaker}
use Rattle.lease_histories.specs.Entries.{Served}
use Rattle.lease_histories.specs.Legal.{IsNextEntry, IsLegal, records_of, state_after, moment_after, base_after}
use Rattle.lease_histories.specs.PlainHouses.{with_kept}
use Rattle.lease_histories.specs.Laws.{AreGreatest}

-- ---- one entry more

pub last-more : (o : Option Entry) (xs : List Entry) (e : Entry) → last_or o (xs ++ e ∷ []) ≡ Some e
last-more o [] e = refl
last-more o (x ∷ xs) e = last-more (Some x) xs e

pub moment-more : (s : State) (xs : List Entry) (e : Entry) → moment_after s (xs ++ e ∷ []) ≡ e.moment
moment-more s xs e = ap (λ l. option_map_or (λ p. p.moment) l s.last) (last-more None xs e)

pub base-more : (s : State) (xs : List Entry) (e : Entry) → base_after s (xs ++ e ∷ []) ≡ e.base
base-more s xs e = ap (λ l. option_map_or (λ p. p.base) l s.base) (last-more None xs e)

with_kept-one : (s : State) (kept : Option Record) → apply_all s (cons_option kept []) ≡ with_kept s kept
with_kept-one s None = refl
with_kept-one s (Some r) = refl

pub state-more : (s : State) (xs : List Entry) (e : Entry) → state_after s (xs ++ e ∷ []) ≡ with_kept (state_after s xs) e.kept
state-more s xs e =
    ap (apply_all s) (filter_map-append (λ p. p.kept) xs (e ∷ []))
    ∙ fold-append apply s (records_of xs) (cons_option e.kept [])
    ∙ with_kept-one (state_after s xs) e.kept

-- ---- where an entry stands

no-entry : {X : Type 0} (before : List X) (e : X) (more : List X) → [] ≡ before ++ e ∷ more → ⊥
no-entry [] e more h = absurd cc
no-entry (x ∷ before) e more h = absurd cc

pub nothing-legal : (x : Served) (opening : State) → IsLegal x opening []
nothing-legal x opening before e more h = absurd (no-entry before e more h)

-- the entry is the last one, or stands before it
pub record IsLast {X : Type 0} (xs : List X) (y : X) (before : List X) (e : X) (more : List X) : Type 0 where
  pub none : more ≡ []
  pub front : before ≡ xs
  pub same : e ≡ y

abbrev pub IsWithin : {X : Type 0} → List X → List X → X → Type 0
IsWithin {X = X} xs before e = (rest : List X) × (xs ≡ before ++ e ∷ rest)

deeper : {X : Type 0} (x b : X) (xs bs : List X) (y e : X) (more : List X) → x ≡ b →
    IsLast xs y bs e more ⊎ IsWithin xs bs e → IsLast (x ∷ xs) y (b ∷ bs) e more ⊎ IsWithin (x ∷ xs) (b ∷ bs) e
deeper x b xs bs y e more same (inl l) = inl (record { none = l.none; front = cc; same = l.same })
deeper x b xs bs y e more same (inr (rest, is)) = inr (rest, cc)

pub where-stands : {X : Type 0} (xs : List X) (y : X) (before : List X) (e : X) (more : List X) → xs ++ y ∷ [] ≡ before ++ e ∷ more →
    IsLast xs y before e more ⊎ IsWithin xs before e
where-stands [] y [] e more h = inl (record { none = cc; front = refl; same = cc })
where-stands (x ∷ xs) y [] e more h = inr (xs, cc)
where-stands [] y (b ∷ bs) e more h = let k : [] ≡ bs ++ e ∷ more = cc in absurd (no-entry bs e more k)
where-stands (x ∷ xs) y (b ∷ bs) e more h =
    let k : xs ++ y ∷ [] ≡ bs ++ e ∷ more = cc in
    let same : x ≡ b = cc in
    deeper x b xs bs y e more same (where-stands xs y bs e more k)

pub next-legal : (x : Served) (opening : State) (entries : List Entry) (e : Entry) →
    IsLegal x opening entries → IsNextEntry x opening entries e → IsLegal x opening (entries ++ e ∷ [])
next-legal x opening entries e legal next before d more h =
    elim (where-stands entries e before d more h) [
      | inl l ↦ subst (λ b. IsNextEntry x opening b d) (sym l.front) (subst (λ c. IsNextEntry x opening entries c) (sym l.same) next)
      | inr (rest, is) ↦ legal before d rest is
    ]

pub prefix-legal : (x : Served) (opening : State) (entries more : List Entry) →
    IsLegal x opening (entries ++ more) → IsLegal x opening entries
prefix-legal x opening entries more legal before e rest h =
    legal before e (rest ++ more) (ap (λ es. es ++ more) h ∙ append_assoc before (e ∷ rest) more)

-- ---- what each entry keeps

-- what each next entry keeps holds after all
pub along : (P : List Entry → Type 0) (x : Served) (opening : State) →
    ((before : List Entry) (e : Entry) → P before → IsNextEntry x opening before e → P (before ++ e ∷ [])) →
    (before more : List Entry) → IsLegal x opening (before ++ more) → P before → P (before ++ more)
along P x opening step before [] legal here = subst P (sym (append-nil before)) here
along P x opening step before (e ∷ more) legal here =
    let grouped = append_assoc before (e ∷ []) more in
    subst P grouped
    (along P x opening step (before ++ e ∷ []) more (subst (λ es. IsLegal x opening es) (sym grouped) legal)
    (step before e here (legal before e more refl)))

last-kept : (s : State) (kept : Option Record) (m : ℕ) → s.last ≤ m → ((r : Record) → kept ≡ Some r → r.moment ≡ m) → (with_kept s kept).last ≤ m
last-kept s None m before h = before
last-kept s (Some r) m before h = let e = h r refl in omega (arith, e)

pub if-some : {X : Type 0} (k : Option X) (P : X → Type 0) (x : X) → IfSome k P → k ≡ Some x → P x
if-some None P x h is = absurd cc
if-some (Some y) P x h is = let same : y ≡ x = cc in subst P same h

greatest-step : (x : Served) (opening : State) (before : List Entry) (e : Entry) → AreGreatest opening before →
    IsNextEntry x opening before e → AreGreatest opening (before ++ e ∷ [])
greatest-step x opening before e h next =
    let m = moment-more opening before e in
    let b = base-more opening before e in
    let later = next.later in
    record {
      moments = subst (λ n. AllByRecursion (λ p. p.moment ≤ n) (before ++ e ∷ [])) (sym m)
          (All-push (λ p. p.moment ≤ e.moment) before e
          (All-weaker (λ p. p.moment ≤ moment_after opening before) (λ p. p.moment ≤ e.moment) (λ p k. omega (arith, k, later)) before h.moments)
          (omega arith));
      last = subst (λ n. (state_after opening (before ++ e ∷ [])).last ≤ n) (sym m)
          (subst (λ s. s.last ≤ e.moment) (sym (state-more opening before e))
          (last-kept (state_after opening before) e.kept e.moment next.after_records
          (λ r is. if-some e.kept (λ r. r.moment ≡ e.moment) r next.recorded is)));
      bases = subst (λ n. AllByRecursion (λ p. p.base ≤ n) (before ++ e ∷ [])) (sym b)
          (All-push (λ p. p.base ≤ e.base) before e next.bases (omega arith));
      base = subst (λ n. (state_after opening (before ++ e ∷ [])).base ≤ n) (sym b) next.base;
    }

nothing-greatest : (opening : State) → AreGreatest opening []
nothing-greatest opening = record { moments = tt; last = omega arith; bases = tt; base = omega arith }

pub last-greatest : (x : Served) (opening : State) (entries : List Entry) → IsLegal x opening entries → AreGreatest opening entries
last-greatest x opening entries legal =
    along (AreGreatest opening) x opening (greatest-step x opening) [] entries legal (nothing-greatest opening)

-- from each entry on neither moments nor bases fall
abbrev IsNoEarlier : Entry → Entry → Type 0
IsNoEarlier e p = (e.moment ≤ p.moment) × (e.base ≤ p.base)

-- an entry stands among those before the last one
record HasEntry (opening : State) (before : List Entry) (e : Entry) : Type 0 where
  moment : e.moment ≤ moment_after opening before
  base : (b : ℕ) → AllByRecursion (λ p. p.base ≤ b) before → e.base ≤ b

pub no-earlier : (x : Served) (opening : State) (before : List Entry) (e : Entry) (more : List Entry) →
    IsLegal x opening (before ++ e ∷ more) → AllByRecursion (λ p. (e.moment ≤ p.moment) × (e.base ≤ p.base)) (e ∷ more)
no-earlier x opening before e more legal = (
  (omega arith, omega arith),
  go (before ++ e ∷ []) more (subst (λ es. IsLegal x opening es) (sym (append_assoc before (e ∷ []) more)) legal)
      (record {
        moment = let m = moment-more opening before e in omega (arith, m);
        base = λ b all. last-base before b all;
      }),
)
  where
    last-base : (xs : List Entry) (b : ℕ) → AllByRecursion (λ p. p.base ≤ b) (xs ++ e ∷ []) → e.base ≤ b
    last-base [] b all = all.0
    last-base (y ∷ xs) b all = last-base xs b all.1

    go : (front rest : List Entry) → IsLegal x opening (front ++ rest) → HasEntry opening front e →
        AllByRecursion (λ p. (e.moment ≤ p.moment) × (e.base ≤ p.base)) rest
    go front [] legal h = tt
    go front (p ∷ rest) legal h =
        let next = legal front p rest refl in
        let later = next.later in
        let there = h.moment in
        let based = h.base p.base next.bases in (
          (omega (arith, later, there), based),
          go (front ++ p ∷ []) rest (subst (λ es. IsLegal x opening es) (sym (append_assoc front (p ∷ []) rest)) legal)
              (record {
                moment = let m = moment-more opening front p in omega (arith, m, later, there);
                base = λ b all. in-front front p b all h;
              }),
        )
      where
        in-front : (xs : List Entry) (p : Entry) (b : ℕ) → AllByRecursion (λ q. q.base ≤ b) (xs ++ p ∷ []) → HasEntry opening xs e → e.base ≤ b
        in-front xs p b all h = h.base b (fewer xs all)
          where
            fewer : (ys : List Entry) → AllByRecursion (λ q. q.base ≤ b) (ys ++ p ∷ []) → AllByRecursion (λ q. q.base ≤ b) ys
            fewer [] all = tt
            fewer (y ∷ ys) all = (all.0, fewer ys all.1)
