-- The laws.
use Rattle.std.proofs.Common.{◌≡◌, ℕ, zero, suc, ◌+◌, ◌%◌, ◌<◌, ◌≤◌, ◌⊎◌, inl, inr, Bool, true, false, List, [], ◌∷◌, ◌++◌, length, Some, slice_get, refl, ap, sym, subst, ◌∙◌, arith, zero-le}
use Rattle.std.specs.Prelude.{if◌then◌else◌}
use Rattle.std.specs.List.{range_with_len}
use mathlib.Core.Option.{some}
use mathlib.Core.Logic.{dite}
use mathlib.Core.List.{IsPrefix}
use native.Mathlib.Decide.{dec_le, ℕ_discrete}
use lib.ListN.{get_elem?}
use Rattle.turn_lock.specs.declared.views.TurnView.{TurnView}
use Rattle.turn_lock.specs.Laws.{ViewsShareHistory, ViewsShareNoPlace, TicketsGoOnInTurn, NotedStandsOnce}
use Rattle.turn_lock.specs.Passes.{PassKnowledge}
use Rattle.turn_lock.specs.Places.{one_if, total, occurrences}
use Rattle.turn_lock.specs.Rule.{HaveOwnTickets}
use Rattle.turn_lock.specs.Views.{count_in_view, tickets_held, tickets}
use Rattle.turn_lock.proofs.Fronts.{prefix_shorter}
use Rattle.turn_lock.proofs.Numbers.{all_within}
use Rattle.turn_lock.proofs.Sums.{occurrences-append, total_two, one_hit, one_miss, from_has}

pub share_history : {X E : Type 0} (stands : X → List E → Type 0) (added : X → List E) → ViewsShareHistory X E stands added
share_history {X} {E} stands added s r i j v w at at' = in_line r.log (r.each i v at).begins (r.each j w at').begins
  where
    in_line : (log : List E) → IsPrefix v.seen log → IsPrefix w.seen log → IsPrefix v.seen w.seen ⊎ IsPrefix w.seen v.seen
    in_line log a b = dite (dec_le (length v.seen) (length w.seen))
        (λ le. inl (prefix_shorter v.seen w.seen log a b le))
        (λ gt. inr (prefix_shorter w.seen v.seen log b a (omega arith)))

pub share_no_place : {X E : Type 0} (stands : X → List E → Type 0) (added : X → List E) → ViewsShareNoPlace X E stands added
share_no_place stands added s r i j v w at at' ne x = let c = total_two (count_in_view x) s.views i j v w ne at at' in let d = r.once x in omega arith

module _ {E : Type 0} where
  tickets_length : (views : List (TurnView E)) → length (tickets views) ≡ total tickets_held views
  tickets_length [] = refl
  tickets_length (v ∷ vs) = go v.waits (tickets_length vs)
    where
      go : (b : Bool) → length (tickets vs) ≡ total tickets_held vs → length (if b then v.ticket ∷ tickets vs else tickets vs) ≡ one_if b + total tickets_held vs
      go true e = omega arith
      go false e = omega arith

  -- some view waits with this ticket
  Waits : ℕ → List (TurnView E) → Type 0
  Waits x views = (j : ℕ) × (v : TurnView E) × (get_elem? views j ≡ some v) × (v.waits ≡ true) × (v.ticket ≡ x)

  waits_behind : (x : ℕ) (v : TurnView E) (vs : List (TurnView E)) → Waits x vs → Waits x (v ∷ vs)
  unfolding Waits
  waits_behind x v vs (j, u, there, on, is) = (suc j, u, there, on, is)

  ticket_waits : (x : ℕ) (views : List (TurnView E)) → 0 < occurrences x (tickets views) → Waits x views
  unfolding Waits
  ticket_waits x [] p = absurd (omega arith)
  ticket_waits x (v ∷ vs) p = go (ticket_waits x vs) v.waits refl p
    where
      go : (0 < occurrences x (tickets vs) → Waits x vs) → (b : Bool) → v.waits ≡ b → 0 < occurrences x (if b then v.ticket ∷ tickets vs else tickets vs) → Waits x (v ∷ vs)
      go later true on q = dite (ℕ_discrete v.ticket x)
          (λ e. (0, v, refl, on, e))
          (λ ne. let m = one_miss v.ticket x ne in waits_behind x v vs (later (omega arith)))
      go later false off q = waits_behind x v vs (later q)

  tickets_once : (x : ℕ) (views : List (TurnView E)) → HaveOwnTickets views → occurrences x (tickets views) ≤ 1
  unfolding Waits
  tickets_once x [] own = zero-le
  tickets_once x (v ∷ vs) own = go (tickets_once x vs (λ i j a b ei ej wa wb e. let n : suc i ≡ suc j = own (suc i) (suc j) a b ei ej wa wb e in omega arith)) v.waits refl
    where
      lone : v.waits ≡ true → v.ticket ≡ x → Waits x vs → ⊥
      lone on is (j, u, there, wu, same) = let n : 0 ≡ suc j = own 0 (suc j) v u refl there on wu (is ∙ sym same) in absurd (omega arith)

      go : occurrences x (tickets vs) ≤ 1 → (b : Bool) → v.waits ≡ b → occurrences x (if b then v.ticket ∷ tickets vs else tickets vs) ≤ 1
      go later true on = dite (ℕ_discrete v.ticket x)
          (λ e. let m = one_hit v.ticket x e in dite (dec_le 1 (occurrences x (tickets vs))) (λ some_more. absurd (lone on e (ticket_waits x vs some_more))) (λ none. omega arith))
          (λ ne. let m = one_miss v.ticket x ne in omega arith)
      go later false off = later

pub go_on : {X E : Type 0} (stands : X → List E → Type 0) (added : X → List E) → TicketsGoOnInTurn X E stands added
unfolding Waits
go_on {X} {E} stands added s r = record {
  served = r.served;
  serving = r.serving_is;
  ticket = r.ticket_is ∙ ap (λ (z : ℕ). (r.served + z) % 18446744073709551616) (sym long);
  out = all_within r.served (length out) out record { once = λ x. tickets_once x s.views r.apart; low = low; high = high } refl;
}
  where
    out : List ℕ
    out = tickets s.views

    long : length out ≡ total tickets_held s.views
    long = tickets_length s.views

    low : (x : ℕ) → 0 < occurrences x out → r.served ≤ x
    low x p = let (j, v, there, on, is) = ticket_waits x s.views p in let h : r.served ≤ v.ticket = ((r.each j v there).waiting on).unserved in omega arith

    high : (x : ℕ) → 0 < occurrences x out → x < r.served + length out
    high x p = let (j, v, there, on, is) = ticket_waits x s.views p in let h : v.ticket < r.served + total tickets_held s.views = ((r.each j v there).waiting on).is_drawn in let l : length out ≡ total tickets_held s.views = long in omega arith

get_behind : {E : Type 0} (xs ys : List E) (k : ℕ) → slice_get (xs ++ ys) (length xs + k) ≡ slice_get ys k
get_behind [] ys k = ap (slice_get ys) (let e : zero + k ≡ k = omega arith in e)
get_behind (x ∷ xs) ys k = ap (slice_get (x ∷ xs ++ ys)) (let e : suc (length xs) + k ≡ suc (length xs + k) = omega arith in e) ∙ get_behind xs ys k

get_front : {E : Type 0} (xs ys : List E) (k : ℕ) (x : E) → slice_get xs k ≡ Some x → slice_get (xs ++ ys) k ≡ Some x
get_front [] ys k x e = absurd (cc)
get_front (y ∷ xs) ys zero x e = e
get_front (y ∷ xs) ys (suc k) x e = get_front xs ys k x e

get_within : {E : Type 0} (xs : List E) (k : ℕ) (x : E) → slice_get xs k ≡ Some x → k < length xs
get_within [] k x e = absurd (cc)
get_within (y ∷ xs) zero x e = omega arith
get_within (y ∷ xs) (suc k) x e = let r = get_within xs k x e in omega arith

stands_there : {E M : Type 0} (xs : List E) (old new : PassKnowledge E M) (k : ℕ) (x : E) → IsPrefix (old.seen ++ xs) new.seen → slice_get xs k ≡ Some x → slice_get new.seen (length old.seen + k) ≡ Some x
stands_there {E} {M} xs old new k x (more, is) e = subst (λ (l : List E). slice_get l (length old.seen + k) ≡ Some x) is (get_front (old.seen ++ xs) more (length old.seen + k) x (get_behind old.seen xs k ∙ e))

-- the place of a noted entry is added once
new_place : {E : Type 0} (front xs : List E) (k : ℕ) (x : E) (old : List ℕ) → slice_get xs k ≡ Some x → 0 < occurrences (length front + k) (old ++ range_with_len (length front) (length xs))
new_place front xs k x old e =
    let w = get_within xs k x e in
    let a = occurrences-append (length front + k) old (range_with_len (length front) (length xs)) in
    let b = from_has (length front + k) (length front) (length xs) (omega arith) (omega arith) in omega arith

pub stand_once : {E M : Type 0} → NotedStandsOnce E M
stand_once true xs mark old new k x more placed e =
    let p = new_place old.seen xs k x old.mine e in
    let m = more.mine (length old.seen + k) in
    let o = placed.0 (length old.seen + k) in
    record { there = stands_there xs old new k x more.seen e; mine = omega arith; settled = omega arith }
stand_once false xs mark old new k x more placed e =
    let p = new_place old.seen xs k x old.settled e in
    let m = more.settled (length old.seen + k) in
    let o = placed.0 (length old.seen + k) in
    record { there = stands_there xs old new k x more.seen e; mine = omega arith; settled = omega arith }
