-- What keeps the rule where one view changes, and where a view is added.
use Rattle.std.proofs.Common.{◌≡◌, ℕ, zero, suc, ◌+◌, ◌%◌, ◌<◌, ◌≤◌, ◌≢◌, ◌⊎◌, inl, inr, ⊎_elim, Bool, true, false, true≢false, List, [], ◌∷◌, ◌++◌, length, get_or, set, refl, ap, sym, subst, ◌∙◌, arith}
use mathlib.Core.Option.{some, none, some-injective, some-ne-none}
use mathlib.Core.Option as maybe
use mathlib.Core.Logic.{dite}
use native.Mathlib.Decide.{ℕ_discrete}
use lib.ListN.{get_elem?}
use Rattle.std.specs.Prelude.{Option}
use Rattle.atomic_table.specs.Table.{State}
use Rattle.atomic_table.proofs.Lists.{at_set, at_snoc, set_here, set_else, at_longer}
use Rattle.turn_lock.specs.declared.views.TurnView.{TurnView}
use Rattle.turn_lock.specs.Places.{one_if, total}
use Rattle.turn_lock.specs.Rule.{FitsHistory, HaveOwnTickets, IsKnown, IsOut, NoneIsOut, IsHomeFor, IsRuled}
use Rattle.turn_lock.specs.Views.{tickets_held, room_of, count_in_view}
use Rattle.turn_lock.proofs.Sums.{total_snoc, total_most}

pub at_within : {A : Type 0} (l : List A) (i : ℕ) (a : A) → get_elem? l i ≡ some a → i < length l
at_within [] i a e = absurd (some-ne-none a (sym e))
at_within (x ∷ xs) zero a e = omega arith
at_within (x ∷ xs) (suc i) a e = let r = at_within xs i a e in omega arith

pub set_swap : {A : Type 0} (l : List A) (i j : ℕ) (a b : A) → i ≢ j → set (set l i a) j b ≡ set (set l j b) i a
set_swap [] i j a b ne = refl
set_swap (x ∷ xs) zero zero a b ne = absurd (ne refl)
set_swap (x ∷ xs) zero (suc j) a b ne = refl
set_swap (x ∷ xs) (suc i) zero a b ne = refl
set_swap (x ∷ xs) (suc i) (suc j) a b ne = λ k. x ∷ set_swap xs i j a b (λ e. ne (ap suc e)) k

pub off : {A : Type 0} (b : Bool) → b ≡ false → b ≡ true → A
off b is_off is_on = absurd (true≢false (sym is_on ∙ is_off))

held_most : (b : Bool) (n : ℕ) → (b ≡ true → 0 < n) → one_if b ≤ n
held_most true n h = let p = h refl in omega arith
held_most false n h = omega arith

module _ {E : Type 0} where
  pub held_on : (v : TurnView E) → v.waits ≡ true → tickets_held v ≡ 1
  held_on v is_on = ap one_if is_on

  pub held_off : (v : TurnView E) → v.waits ≡ false → tickets_held v ≡ 0
  held_off v is_off = ap one_if is_off

  pub in_set : (views : List (TurnView E)) (id : ℕ) (w : TurnView E) → ((j : ℕ) (u : TurnView E) → j ≢ id → get_elem? views j ≡ some u → u.out ≡ false) → w.out ≡ false → NoneIsOut (set views id w)
  in_set views id w others home j u e = ⊎_elim (λ (t : (j ≡ id) × (w ≡ u)). subst (λ (z : TurnView E). z.out ≡ false) t.1 home) (λ (t : (j ≢ id) × (get_elem? views j ≡ some u)). others j u t.0 t.1) (at_set views id j w u e)

  pub away_set : (views : List (TurnView E)) (id : ℕ) (v w : TurnView E) → get_elem? views id ≡ some v → w.out ≡ v.out → IsOut views → IsOut (set views id w)
  away_set views id v w at same (o, u, there, out) = dite (ℕ_discrete o id)
      (λ e. let is : u ≡ v = some-injective u v (sym there ∙ (ap (get_elem? views) e ∙ at)) in (id, w, set_here views id w (at_within views id v at), same ∙ (ap (λ (z : TurnView E). z.out) (sym is) ∙ out)))
      (λ ne. (o, u, set_else views id o w ne ∙ there, out))

  -- whoever has seen all has so still, where the view that changes has seen as much, and has room where it had
  pub known_set : (log : List E) (views : List (TurnView E)) (id : ℕ) (v w : TurnView E) → get_elem? views id ≡ some v → w.seen ≡ v.seen → (0 < v.room → 0 < w.room) → IsKnown log views → IsKnown log (set views id w)
  known_set log views id v w at same roomy (k, u, there, room, all) = dite (ℕ_discrete k id)
      (λ e. let is : v ≡ u = some-injective v u (sym at ∙ (ap (get_elem? views) (sym e) ∙ there)) in (id, w, set_here views id w (at_within views id v at), roomy (subst (λ (z : TurnView E). 0 < z.room) (sym is) room), same ∙ (ap (λ (z : TurnView E). z.seen) is ∙ all)))
      (λ ne. (k, u, set_else views id k w ne ∙ there, room, all))

  -- each view with a ticket has room, so there are no more tickets out than rooms
  pub held_few : (views : List (TurnView E)) → ((j : ℕ) (v : TurnView E) → get_elem? views j ≡ some v → v.waits ≡ true → 0 < v.room) → total tickets_held views ≤ total room_of views
  held_few views h = total_most tickets_held room_of views (λ j v e. held_most v.waits v.room (h j v e))

module _ {X E : Type 0} (stands : X → List E → Type 0) (added : X → List E) where
  abbrev pub St : Type 0
  St = State (Option X) (TurnView E)

  -- the value is where it was, if the view that changes has it as before
  pub value_stays : (s : St) (r : IsRuled stands added s) (id : ℕ) (v w : TurnView E) → get_elem? s.views id ≡ some v → w.out ≡ v.out → (IsHomeFor stands added r.log s.homes × NoneIsOut (set s.views id w)) ⊎ IsOut (set s.views id w)
  value_stays s r id v w at same = ⊎_elim
      (λ (t : IsHomeFor stands added r.log s.homes × NoneIsOut s.views). inl (t.0, in_set s.views id w (λ j u _ e. t.1 j u e) (same ∙ t.1 id v at)))
      (λ (t : IsOut s.views). inr (away_set s.views id v w at same t))
      r.value

  -- one view changes from v to w
  unfoldable pub moved : (s : St) (r : IsRuled stands added s) (id : ℕ) (v w : TurnView E) (words : List ℕ) (homes : List (maybe.Option (Option X))) (log : List E) (served : ℕ)
      → get_elem? s.views id ≡ some v
      → length words ≡ 3
      → length homes ≡ 1
      → get_or words 0 0 ≡ length log % 18446744073709551616
      → get_or words 1 0 ≡ (served + total tickets_held (set s.views id w)) % 18446744073709551616
      → get_or words 2 0 ≡ served % 18446744073709551616
      → ((j : ℕ) (u : TurnView E) → j ≢ id → get_elem? s.views j ≡ some u → FitsHistory r.log r.served (r.served + total tickets_held s.views) u → FitsHistory log served (served + total tickets_held (set s.views id w)) u)
      → FitsHistory log served (served + total tickets_held (set s.views id w)) w
      → ((j : ℕ) (u : TurnView E) → j ≢ id → get_elem? s.views j ≡ some u → u.waits ≡ true → w.waits ≡ true → u.ticket ≢ w.ticket)
      → (IsHomeFor stands added log homes × NoneIsOut (set s.views id w)) ⊎ IsOut (set s.views id w)
      → IsKnown log (set s.views id w)
      → ((x : ℕ) → total (count_in_view x) (set s.views id w) ≤ 1)
      → total room_of (set s.views id w) < 18446744073709551616
      → IsRuled stands added record { words = words; homes = homes; views = set s.views id w }
  moved s r id v w words homes log served at wide single history ticket serving others mine lone value known once few =
      record { log = log; served = served; wide = wide; single = single; history_is = history; ticket_is = ticket; serving_is = serving; each = each; apart = apart; value = value; known = known; once = once; few = few }
    where
      each : (j : ℕ) (u : TurnView E) → get_elem? (set s.views id w) j ≡ some u → FitsHistory log served (served + total tickets_held (set s.views id w)) u
      each j u e = ⊎_elim (λ (t : (j ≡ id) × (w ≡ u)). subst (FitsHistory log served (served + total tickets_held (set s.views id w))) t.1 mine) (λ (t : (j ≢ id) × (get_elem? s.views j ≡ some u)). others j u t.0 t.1 (r.each j u t.1)) (at_set s.views id j w u e)

      apart : HaveOwnTickets (set s.views id w)
      apart i j a b ei ej wa wb same = ⊎_elim
          (λ (t : (i ≡ id) × (w ≡ a)). ⊎_elim
          (λ (q : (j ≡ id) × (w ≡ b)). t.0 ∙ sym q.0)
          (λ (q : (j ≢ id) × (get_elem? s.views j ≡ some b)). absurd (lone j b q.0 q.1 wb (ap (λ (z : TurnView E). z.waits) t.1 ∙ wa) (sym same ∙ ap (λ (z : TurnView E). z.ticket) (sym t.1))))
          (at_set s.views id j w b ej))
          (λ (t : (i ≢ id) × (get_elem? s.views i ≡ some a)). ⊎_elim
          (λ (q : (j ≡ id) × (w ≡ b)). absurd (lone i a t.0 t.1 wa (ap (λ (z : TurnView E). z.waits) q.1 ∙ wb) (same ∙ ap (λ (z : TurnView E). z.ticket) (sym q.1))))
          (λ (q : (j ≢ id) × (get_elem? s.views j ≡ some b)). r.apart i j a b t.1 q.1 wa wb same)
          (at_set s.views id j w b ej))
          (at_set s.views id i w a ei)

  -- an idle view without places is added
  pub entered : (s : St) (r : IsRuled stands added s) (u : TurnView E) → u.waits ≡ false → u.out ≡ false → FitsHistory r.log r.served (r.served + total tickets_held s.views) u → ((x : ℕ) → count_in_view x u ≡ 0) → total room_of s.views + u.room < 18446744073709551616
      → IsRuled stands added record { words = s.words; homes = s.homes; views = s.views ++ u ∷ [] }
  entered s r u idle home fits none_of few =
      record {
        log = r.log;
        served = r.served;
        wide = r.wide;
        single = r.single;
        history_is = r.history_is;
        ticket_is = r.ticket_is ∙ ap (λ (z : ℕ). (r.served + z) % 18446744073709551616) same;
        serving_is = r.serving_is;
        each = λ j v e. subst (λ (z : ℕ). FitsHistory r.log r.served (r.served + z) v) same (⊎_elim (λ (was : get_elem? s.views j ≡ some v). r.each j v was) (λ (is : u ≡ v). subst (FitsHistory r.log r.served (r.served + total tickets_held s.views)) is fits) (at_snoc s.views u v j e));
        apart = λ i j a b ei ej wa wb even. ⊎_elim
            (λ (p : get_elem? s.views i ≡ some a). ⊎_elim (λ (q : get_elem? s.views j ≡ some b). r.apart i j a b p q wa wb even) (λ (q : u ≡ b). off b.waits (ap (λ (z : TurnView E). z.waits) (sym q) ∙ idle) wb) (at_snoc s.views u b j ej))
            (λ (p : u ≡ a). off a.waits (ap (λ (z : TurnView E). z.waits) (sym p) ∙ idle) wa)
            (at_snoc s.views u a i ei);
        value = ⊎_elim
            (λ (t : IsHomeFor stands added r.log s.homes × NoneIsOut s.views). inl (t.0, λ j v e. ⊎_elim (λ (was : get_elem? s.views j ≡ some v). t.1 j v was) (λ (is : u ≡ v). ap (λ (z : TurnView E). z.out) (sym is) ∙ home) (at_snoc s.views u v j e)))
            (λ (t : IsOut s.views). inr (t.0, t.1, at_longer s.views (u ∷ []) t.0 t.1 t.2, t.3))
            r.value;
        known = let (k, v, there, room, all) = r.known in (k, v, at_longer s.views (u ∷ []) k v there, room, all);
        once = λ x. let a = total_snoc (count_in_view x) s.views u in let b = none_of x in let c = r.once x in omega arith;
        few = let a = total_snoc room_of s.views u in let c : total room_of s.views + u.room < 18446744073709551616 = few in omega arith;
      }
    where
      same : total tickets_held s.views ≡ total tickets_held (s.views ++ u ∷ [])
      same = let a = total_snoc tickets_held s.views u in let b = held_off u idle in omega arith
