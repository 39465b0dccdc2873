-- Each step keeps the rule.
use Rattle.std.proofs.Common.{nat_lt, ltb-true, if◌then◌else◌, ◌≡◌, ℕ, zero, suc, ◌+◌, ◌/◌, ◌%◌, ◌<◌, ◌≤◌, ◌≢◌, ◌⊎◌, inl, inr, ⊎_elim, Bool, true, false, List, [], ◌∷◌, ◌++◌, length, get_or, set, refl, ap, sym, subst, ◌∙◌, arith, length-set, length-append, get_or-set_same, get_or-set_other}
use Rattle.std.proofs.lemmas.List.{set-get_or, set-set}
use mathlib.Core.Option.{some, none, some-injective, some-ne-none}
use mathlib.Core.Logic.{dite}
use mathlib.Core.List.{IsPrefix}
use native.Mathlib.Decide.{dec_le, ℕ_discrete}
use native.Mathlib.Nat.{div-lt_self}
use lib.ListN.{get_elem?}
use Rattle.std.proofs.Math.Nat.{mod-add-mod, div-le_self}
use Rattle.std.specs.Prelude.{Option, Some, IfSome}
use Rattle.std.specs.List.{range_with_len}
use Rattle.atomic_table.specs.Table.{State, Step, Act, keeps, takes, gives, stepped, Valid, carried_after, Allows, Splits, Joins, opening, Final, Seen}
use Rattle.atomic_table.proofs.Lists.{set_here, set_else, one_turn}
use Rattle.turn_lock.specs.declared.layout.TheConstants.{FIRST_ROOM}
use Rattle.turn_lock.specs.declared.views.TurnView.{TurnView}
use Rattle.turn_lock.specs.Lengths.{longer, shorter}
use Rattle.turn_lock.specs.Places.{total, occurrences}
use Rattle.turn_lock.specs.Rule.{HasValue, FitsHistory, HaveOwnTickets, IsKnown, IsOut, NoneIsOut, IsHomeFor, IsRuled}
use Rattle.turn_lock.specs.Tellings.{TellsDraw, TellsLook, TellsNote, TellsGive, TellsLearn}
use Rattle.turn_lock.specs.Views.{SeatState, tickets_held, count_in_view, room_of, IsPlacedView, new_room, founding_view, waiting_view, out_view, noting_view, idle_view, keeper_view, newcomer_view, meeting_view, spent_view, looked_view}
use Rattle.turn_lock.proofs.Sums.{total_set, total_has, total_two, total_zero, occurrences-append, pos_sum, from_before, from_once, from_within}
use Rattle.turn_lock.proofs.Fronts.{prefix_self, prefix_nil, prefix_trans, prefix_more, prefix_length, longer_of, longer_whole, longer_length}
use Rattle.turn_lock.proofs.Moves.{at_within, set_swap, off, held_on, held_off, in_set, away_set, known_set, held_few, value_stays, moved, entered}

part_most : (n : ℕ) → new_room n ≤ n
part_most n = go (nat_lt 8589934592 n) refl
  where
    go : (b : Bool) → nat_lt 8589934592 n ≡ b → (if b then 4294967296 else n / 2) ≤ n
    go true e = let l : 8589934592 < n = ltb-true 8589934592 n e in omega arith
    go false e = div-le_self n 2

part_less : (n : ℕ) → 0 < n → new_room n < n
part_less n roomy = go (nat_lt 8589934592 n) refl
  where
    go : (b : Bool) → nat_lt 8589934592 n ≡ b → (if b then 4294967296 else n / 2) < n
    go true e = let l : 8589934592 < n = ltb-true 8589934592 n e in omega arith
    go false e = div-lt_self roomy (omega arith)

-- as v, but it has heard of what u has seen
abbrev hearing_view : {E : Type 0} → TurnView E → TurnView E → TurnView E
hearing_view v u = record {
  waits = v.waits;
  out = v.out;
  ticket = v.ticket;
  room = v.room;
  seen = longer v.seen u.seen;
  told = shorter v.seen u.seen;
  mine = v.mine;
  settled = v.settled;
}

module _ {X E : Type 0} (stands : X → List E → Type 0) (added : X → List E) where
  abbrev S : Type 0
  S = State (Option X) (TurnView E)

  abbrev R : S → Type 0
  R = IsRuled stands added

  -- the rule's sums, where the view that changes has as much as before
  once_stays : (s : S) (r : R s) (id : ℕ) (v w : TurnView E) → get_elem? s.views id ≡ some v → ((x : ℕ) → count_in_view x w ≡ count_in_view x v) → (x : ℕ) → total (count_in_view x) (set s.views id w) ≤ 1
  once_stays s r id v w at same x = let a = total_set (count_in_view x) s.views id v w at in let b = same x in let c = r.once x in omega arith

  few_stays : (s : S) (r : R s) (id : ℕ) (v w : TurnView E) → get_elem? s.views id ≡ some v → w.room ≤ v.room → total room_of (set s.views id w) < 18446744073709551616
  few_stays s r id v w at less = let a = total_set room_of s.views id v w at in let c : total room_of s.views < 18446744073709551616 = r.few in omega arith

  -- what the rule tells a view of its places
  pub placed : (s : S) (r : R s) (id : ℕ) (v : TurnView E) → get_elem? s.views id ≡ some v → IsPlacedView v
  placed s r id v at = ((λ x. let a = total_has (count_in_view x) s.views id v at in let b = r.once x in omega arith), λ x p. (r.each id v at).below x p)

  -- 1: a ticket is drawn
  pub draws : (slots id : ℕ) (me : SeatState (Option X) E) (st : Step (Option X)) → me.0.waits ≡ false → me.0.out ≡ false → 0 < me.0.room → Allows R slots id me 1 (λ n. (n + 1) % 18446744073709551616) (TellsDraw st me)
  draws slots id me st idle home roomy s r _ at _ =
      let v : TurnView E = me.0 in
      let t : ℕ = r.served + total tickets_held s.views in
      let w : TurnView E = waiting_view t v in
      let grows : t + 1 ≡ r.served + total tickets_held (set s.views id w) = (let a = total_set tickets_held s.views id v w at in let b = held_off v idle in omega arith) in
      let fits = r.each id v at in (
        w,
        keeps,
        tt,
        moved stands added s r id v w (set s.words 1 ((get_or s.words 1 0 + 1) % 18446744073709551616)) s.homes r.log r.served at
            (length-set s.words 1 _ ∙ r.wide)
            r.single
            (get_or-set_other s.words 1 0 _ 0 (λ e. omega arith) ∙ r.history_is)
            (get_or-set_same s.words 1 _ 0 (let l = r.wide in omega arith) ∙ (ap (λ (z : ℕ). (z + 1) % 18446744073709551616) r.ticket_is ∙ (mod-add-mod t 18446744073709551616 1 ∙ ap (λ (z : ℕ). z % 18446744073709551616) grows)))
            (get_or-set_other s.words 1 2 _ 0 (λ e. omega arith) ∙ r.serving_is)
            (λ j u ne there f. record { begins = f.begins; heard = f.heard; waiting = λ on. let h = f.waiting on in record { unserved = h.unserved; is_drawn = (let l : u.ticket < t = h.is_drawn in omega arith); some_room = h.some_room }; holding = f.holding; below = f.below })
            record { begins = fits.begins; heard = fits.heard; waiting = λ _. record { unserved = omega arith; is_drawn = omega arith; some_room = roomy }; holding = λ out. off false refl out; below = fits.below }
            (λ j u ne there wu _ same. let h = (r.each j u there).waiting wu in let l : u.ticket < t = h.is_drawn in let e : u.ticket ≡ t = same in omega arith)
            (value_stays stands added s r id v w at (sym home))
            (known_set r.log s.views id v w at refl (λ roomy. roomy) r.known)
            (once_stays s r id v w at (λ x. refl))
            (few_stays s r id v w at (omega arith)),
        (t, r.ticket_is, refl),
      )

  -- no two seats wait with one ticket
  alone : (s : S) (r : R s) (id : ℕ) (v w : TurnView E) → get_elem? s.views id ≡ some v → v.waits ≡ true → w.ticket ≡ v.ticket → (j : ℕ) (u : TurnView E) → j ≢ id → get_elem? s.views j ≡ some u → u.waits ≡ true → w.waits ≡ true → u.ticket ≢ w.ticket
  alone s r id v w at on same j u ne there wu _ even = ne (r.apart j id u v there at wu on (even ∙ same))

  -- 2: serving is read, and where it is the ticket the value is taken
  pub looks : (slots id : ℕ) (me : SeatState (Option X) E) (st : Step (Option X)) → me.0.waits ≡ true → me.0.out ≡ false → Allows R slots id me 2 (λ n. n) (TellsLook stands added st me)
  looks slots id me st on home s r _ at _ = dite (ℕ_discrete n (v.ticket % 18446744073709551616)) hit miss
    where
      v : TurnView E
      v = me.0

      n : ℕ
      n = get_or s.words 2 0

      fits : FitsHistory r.log r.served (r.served + total tickets_held s.views) v
      fits = r.each id v at

      Next : Type 0
      Next = (w : TurnView E) × (a : Act (Option X)) × Valid s.homes me.1 a × R (stepped s 2 n id me.1 w a) × TellsLook stands added st me n (w, carried_after me.1 a)

      words : List ℕ
      words = set s.words 2 n

      word_0 : get_or words 0 0 ≡ length r.log % 18446744073709551616
      word_0 = get_or-set_other s.words 2 0 n 0 (λ e. omega arith) ∙ r.history_is

      word_1 : get_or words 1 0 ≡ (r.served + total tickets_held s.views) % 18446744073709551616
      word_1 = get_or-set_other s.words 2 1 n 0 (λ e. omega arith) ∙ r.ticket_is

      word_2 : get_or words 2 0 ≡ r.served % 18446744073709551616
      word_2 = get_or-set_same s.words 2 n 0 (let l = r.wide in omega arith) ∙ r.serving_is

      as_many : (w : TurnView E) → w.waits ≡ true → total tickets_held s.views ≡ total tickets_held (set s.views id w)
      as_many w wo = let a = total_set tickets_held s.views id v w at in let b = held_on v on in let c = held_on w wo in omega arith

      served : n ≡ v.ticket % 18446744073709551616 → r.served ≡ v.ticket
      served e =
          let wt = fits.waiting on in
          let few : total room_of s.views < 18446744073709551616 = r.few in
          let most : total tickets_held s.views ≤ total room_of s.views = held_few s.views (λ j u there wu. ((r.each j u there).waiting wu).some_room) in
          let low : r.served ≤ v.ticket = wt.unserved in
          let high : v.ticket < r.served + total tickets_held s.views = wt.is_drawn in
          one_turn r.served v.ticket 18446744073709551616 low (omega arith) (sym r.serving_is ∙ e)

      miss : n ≢ v.ticket % 18446744073709551616 → Next
      miss ne = (
        v,
        keeps,
        tt,
        moved stands added s r id v v words s.homes r.log r.served at
            (length-set s.words 2 n ∙ r.wide)
            r.single
            word_0
            (word_1 ∙ ap (λ (z : ℕ). (r.served + z) % 18446744073709551616) (as_many v on))
            word_2
            (λ j u _ there f. subst (λ (z : ℕ). FitsHistory r.log r.served (r.served + z) u) (as_many v on) f)
            (subst (λ (z : ℕ). FitsHistory r.log r.served (r.served + z) v) (as_many v on) fits)
            (alone s r id v v at on refl)
            (value_stays stands added s r id v v at refl)
            (known_set r.log s.views id v v at refl (λ roomy. roomy) r.known)
            (once_stays s r id v v at (λ x. refl))
            (few_stays s r id v v at (omega arith)),
        ((λ e. absurd (ne e)), λ _. refl),
      )

      hit : n ≡ v.ticket % 18446744073709551616 → Next
      hit e = ⊎_elim at_home gone r.value
        where
          is : r.served ≡ v.ticket
          is = served e

          gone : IsOut s.views → Next
          gone (o, u, there, out) =
              let h = (r.each o u there).holding out in
              let same : o ≡ id = r.apart o id u v there at h.waits on (h.is_served ∙ is) in
              let u_is : u ≡ v = some-injective u v (sym there ∙ (ap (get_elem? s.views) same ∙ at)) in
              absurd (off u.out (ap (λ (z : TurnView E). z.out) u_is ∙ home) out)

          at_home : IsHomeFor stands added r.log s.homes × NoneIsOut s.views → Next
          at_home (h, _) =
              let w : TurnView E = out_view r.log v in
              let more = as_many w refl in
              let next = moved stands added s r id v w words (set s.homes 0 none) r.log r.served at
              (length-set s.words 2 n ∙ r.wide)
              (length-set s.homes 0 none ∙ r.single)
              word_0
              (word_1 ∙ ap (λ (z : ℕ). (r.served + z) % 18446744073709551616) more)
              word_2
              (λ j u _ there f. subst (λ (z : ℕ). FitsHistory r.log r.served (r.served + z) u) more f)
              (subst (λ (z : ℕ). FitsHistory r.log r.served (r.served + z) w) more
              record { begins = prefix_self r.log; heard = prefix_trans v.told v.seen r.log fits.heard fits.begins; waiting = λ _. fits.waiting on; holding = λ _. record { waits = refl; is_served = sym is; all = refl }; below = λ x p. let l = fits.below x p in let m = prefix_length v.seen r.log fits.begins in omega arith })
              (alone s r id v w at on refl)
              (inr (id, w, set_here s.views id w (at_within s.views id v at), refl))
              (id, w, set_here s.views id w (at_within s.views id v at), (fits.waiting on).some_room, refl)
              (once_stays s r id v w at (λ x. refl))
              (few_stays s r id v w at (omega arith)) in (
                w,
                takes 0 (Some h.0),
                h.1,
                next,
                ((λ _. record { seen = r.log; value = h.0; next = refl; begins = fits.begins; stands_for = h.2; clean = h.3; placed = placed _ next id w (set_here s.views id w (at_within s.views id v at)) }), λ ne. absurd (ne e)),
              )

  -- the places of the noted entries
  places_noted : (x : ℕ) (own : Bool) (xs : List E) (v : TurnView E) → count_in_view x (noting_view own xs v) ≡ count_in_view x v + occurrences x (range_with_len (length v.seen) (length xs))
  places_noted x true xs v = let a = occurrences-append x v.mine (range_with_len (length v.seen) (length xs)) in omega arith
  places_noted x false xs v = let a = occurrences-append x v.settled (range_with_len (length v.seen) (length xs)) in omega arith

  -- 4: the entries xs are noted
  pub notes : (slots id k : ℕ) (me : SeatState (Option X) E) (own : Bool) (xs : List E) (st : Step (Option X)) → length xs ≡ k → me.0.waits ≡ true → me.0.out ≡ true
      → Allows R slots id me 0 (λ n. (n + k) % 18446744073709551616) (TellsNote own xs st me)
  notes slots id k me own xs st long on out s r _ at _ = (w, keeps, tt, next, (refl, placed _ next id w (set_here s.views id w (at_within s.views id v at))))
    where
      v : TurnView E
      v = me.0

      w : TurnView E
      w = noting_view own xs v

      n : ℕ
      n = (get_or s.words 0 0 + k) % 18446744073709551616

      words : List ℕ
      words = set s.words 0 n

      log : List E
      log = r.log ++ xs

      fits : FitsHistory r.log r.served (r.served + total tickets_held s.views) v
      fits = r.each id v at

      holds : HasValue r.log r.served v
      holds = fits.holding out

      longer_is : length log ≡ length r.log + k
      longer_is = let a = length-append r.log xs in omega arith

      as_many : total tickets_held s.views ≡ total tickets_held (set s.views id w)
      as_many = let a = total_set tickets_held s.views id v w at in omega arith

      new : ℕ → ℕ
      new x = occurrences x (range_with_len (length v.seen) (length xs))

      below : (x : ℕ) → 0 < count_in_view x w → x < length (v.seen ++ xs)
      below x h =
          let a : length (v.seen ++ xs) ≡ length v.seen + length xs = length-append v.seen xs in
          ⊎_elim (λ (p : 0 < count_in_view x v). let b = fits.below x p in omega arith) (λ (p : 0 < new x). let b = from_within x (length v.seen) (length xs) p in omega arith)
          (pos_sum (count_in_view x v) (new x) (subst (λ (z : ℕ). 0 < z) (places_noted x own xs v) h))

      -- a place from the history's end on stands in no list
      unused : (x : ℕ) → length v.seen ≤ x → total (count_in_view x) s.views ≡ 0
      unused x far = total_zero (count_in_view x) s.views (λ j u there. none_of u j there (count_in_view x u) refl)
        where
          none_of : (u : TurnView E) (j : ℕ) → get_elem? s.views j ≡ some u → (p : ℕ) → count_in_view x u ≡ p → p ≡ 0
          none_of u j there zero e = refl
          none_of u j there (suc p) e =
              let f = r.each j u there in
              let b = f.below x (let g : count_in_view x u ≡ suc p = e in omega arith) in
              let m = prefix_length u.seen r.log f.begins in
              let l : length v.seen ≡ length r.log = ap length holds.all in absurd (omega arith)

      once : (x : ℕ) → total (count_in_view x) (set s.views id w) ≤ 1
      once x =
          let a = total_set (count_in_view x) s.views id v w at in
          let b = places_noted x own xs v in
          dite (dec_le (length v.seen) x)
          (λ far. let c = unused x far in let d = from_once x (length v.seen) (length xs) in omega arith)
          (λ near. let c = r.once x in let d = from_before x (length v.seen) (length xs) (omega arith) in omega arith)

      next : R (stepped s 0 n id me.1 w keeps)
      next =
          moved stands added s r id v w words s.homes log r.served at
          (length-set s.words 0 n ∙ r.wide)
          r.single
          (get_or-set_same s.words 0 n 0 (let l = r.wide in omega arith) ∙ (ap (λ (z : ℕ). (z + k) % 18446744073709551616) r.history_is ∙ (mod-add-mod (length r.log) 18446744073709551616 k ∙ ap (λ (z : ℕ). z % 18446744073709551616) (sym longer_is))))
          (get_or-set_other s.words 0 1 n 0 (λ e. omega arith) ∙ (r.ticket_is ∙ ap (λ (z : ℕ). (r.served + z) % 18446744073709551616) as_many))
          (get_or-set_other s.words 0 2 n 0 (λ e. omega arith) ∙ r.serving_is)
          (λ j u ne there f. subst (λ (z : ℕ). FitsHistory log r.served (r.served + z) u) as_many
          record { begins = prefix_more u.seen r.log xs f.begins; heard = f.heard; waiting = f.waiting; holding = λ uo. let h = f.holding uo in absurd (ne (r.apart j id u v there at h.waits on (h.is_served ∙ sym holds.is_served))); below = f.below })
          (subst (λ (z : ℕ). FitsHistory log r.served (r.served + z) w) as_many
          record { begins = subst (λ (z : List E). IsPrefix (v.seen ++ xs) (z ++ xs)) holds.all (prefix_self (v.seen ++ xs)); heard = prefix_more v.told v.seen xs fits.heard; waiting = fits.waiting; holding = λ _. record { waits = on; is_served = holds.is_served; all = ap (λ (z : List E). z ++ xs) holds.all }; below = below })
          (alone s r id v w at on refl)
          (⊎_elim (λ (t : IsHomeFor stands added r.log s.homes × NoneIsOut s.views). off v.out (t.1 id v at) out) (λ (t : IsOut s.views). inr (away_set s.views id v w at refl t)) r.value)
          (id, w, set_here s.views id w (at_within s.views id v at), (fits.waiting on).some_room, ap (λ (z : List E). z ++ xs) holds.all)
          once
          (few_stays s r id v w at (omega arith))

  -- 6: serving goes on, and the value is given back
  gives_one : (slots id : ℕ) (v : TurnView E) (x : X) (st : Step (Option X)) → v.waits ≡ true → v.out ≡ true → stands x v.seen → added x ≡ []
      → Allows R slots id (v, (0, Some x) ∷ []) 2 (λ n. (n + 1) % 18446744073709551616) (TellsGive st (v, (0, Some x) ∷ []))
  gives_one slots id v x st on out good clean s r _ at _ = (w, gives, tt, next, (refl, placed _ next id w (set_here s.views id w (at_within s.views id v at))))
    where
      w : TurnView E
      w = idle_view v

      n : ℕ
      n = (get_or s.words 2 0 + 1) % 18446744073709551616

      words : List ℕ
      words = set s.words 2 n

      fits : FitsHistory r.log r.served (r.served + total tickets_held s.views) v
      fits = r.each id v at

      holds : HasValue r.log r.served v
      holds = fits.holding out

      drawn : r.served + total tickets_held s.views ≡ suc r.served + total tickets_held (set s.views id w)
      drawn = let a = total_set tickets_held s.views id v w at in let b = held_on v on in omega arith

      later : (j : ℕ) (u : TurnView E) → j ≢ id → get_elem? s.views j ≡ some u → u.waits ≡ true → r.served ≤ u.ticket → suc r.served ≤ u.ticket
      later j u ne there wu low = dite (ℕ_discrete u.ticket r.served) (λ e. absurd (ne (r.apart j id u v there at wu on (e ∙ sym holds.is_served)))) (λ e. omega arith)

      others_in : (b : Bool) → b ≡ b → (u : TurnView E) (j : ℕ) → j ≢ id → get_elem? s.views j ≡ some u → u.out ≡ b → b ≡ false
      others_in false _ u j ne there e = refl
      others_in true _ u j ne there e = let h = (r.each j u there).holding e in absurd (ne (r.apart j id u v there at h.waits on (h.is_served ∙ sym holds.is_served)))

      next : R (stepped s 2 n id ((0, Some x) ∷ []) w gives)
      next =
          moved stands added s r id v w words (set s.homes 0 (some (Some x))) r.log (suc r.served) at
          (length-set s.words 2 n ∙ r.wide)
          (length-set s.homes 0 _ ∙ r.single)
          (get_or-set_other s.words 2 0 n 0 (λ e. omega arith) ∙ r.history_is)
          (get_or-set_other s.words 2 1 n 0 (λ e. omega arith) ∙ (r.ticket_is ∙ ap (λ (z : ℕ). z % 18446744073709551616) drawn))
          (get_or-set_same s.words 2 n 0 (let l = r.wide in omega arith) ∙ (ap (λ (z : ℕ). (z + 1) % 18446744073709551616) r.serving_is ∙ (mod-add-mod r.served 18446744073709551616 1 ∙ ap (λ (z : ℕ). z % 18446744073709551616) (omega arith))))
          (λ j u ne there f. subst (λ (z : ℕ). FitsHistory r.log (suc r.served) z u) drawn
          record { begins = f.begins; heard = f.heard; waiting = λ wu. let h = f.waiting wu in record { unserved = later j u ne there wu h.unserved; is_drawn = h.is_drawn; some_room = h.some_room }; holding = λ uo. let h = f.holding uo in absurd (ne (r.apart j id u v there at h.waits on (h.is_served ∙ sym holds.is_served))); below = f.below })
          record { begins = fits.begins; heard = fits.heard; waiting = λ wo. off false refl wo; holding = λ wo. off false refl wo; below = fits.below }
          (λ j u ne there wu wo _. off false refl wo)
          (inl ((x, set_here s.homes 0 (some (Some x)) (let l = r.single in omega arith), subst (stands x) holds.all good, clean), in_set s.views id w (λ j u ne there. others_in u.out refl u j ne there refl) refl))
          (known_set r.log s.views id v w at refl (λ roomy. roomy) r.known)
          (once_stays s r id v w at (λ y. refl))
          (few_stays s r id v w at (omega arith))

  pub gives_back : (slots id : ℕ) (me : SeatState (Option X) E) (x : X) (st : Step (Option X)) → me.1 ≡ (0, Some x) ∷ [] → me.0.waits ≡ true → me.0.out ≡ true → stands x me.0.seen → added x ≡ []
      → Allows R slots id me 2 (λ n. (n + 1) % 18446744073709551616) (TellsGive st me)
  gives_back slots id me x st is on out good clean = subst (λ (c : List (ℕ × Option X)). Allows R slots id (me.0, c) 2 (λ n. (n + 1) % 18446744073709551616) (TellsGive st (me.0, c))) (sym is) (gives_one slots id me.0 x st on out good clean)

  -- a step that changes no word and no ticket
  calm : (s : S) (r : R s) (id : ℕ) (v w : TurnView E) → get_elem? s.views id ≡ some v → v.waits ≡ false → w.waits ≡ false → v.out ≡ false → w.out ≡ false
      → IsPrefix w.seen r.log → IsPrefix w.told w.seen → ((x : ℕ) → 0 < count_in_view x w → x < length w.seen)
      → IsKnown r.log (set s.views id w)
      → ((x : ℕ) → total (count_in_view x) (set s.views id w) ≤ 1) → total room_of (set s.views id w) < 18446744073709551616
      → (q : R record { words = s.words; homes = s.homes; views = set s.views id w }) × (q.log ≡ r.log)
  unfolding moved
  calm s r id v w at idle idle' home home' begins heard below known once few = (
    moved stands added s r id v w s.words s.homes r.log r.served at r.wide r.single r.history_is
        (r.ticket_is ∙ ap (λ (z : ℕ). (r.served + z) % 18446744073709551616) as_many)
        r.serving_is
        (λ j u ne there f. subst (λ (z : ℕ). FitsHistory r.log r.served (r.served + z) u) as_many f)
        record { begins = begins; heard = heard; waiting = λ wo. off w.waits idle' wo; holding = λ wo. off w.out home' wo; below = below }
        (λ j u ne there wu wo _. off w.waits idle' wo)
        (value_stays stands added s r id v w at (home' ∙ sym home))
        known
        once
        few,
    refl,
  )
    where
      as_many : total tickets_held s.views ≡ total tickets_held (set s.views id w)
      as_many = let a = total_set tickets_held s.views id v w at in let b = held_off v idle in let c = held_off w idle' in omega arith

  no_places : (x : ℕ) (v : TurnView E) → v.mine ≡ [] → v.settled ≡ [] → count_in_view x v ≡ 0
  no_places x v a b = let p : occurrences x v.mine ≡ 0 = ap (occurrences x) a in let q : occurrences x v.settled ≡ 0 = ap (occurrences x) b in omega arith

  -- 7: a pass is split
  pub splits : (id : ℕ) (v : TurnView E) → v.waits ≡ false → v.out ≡ false → Splits R id v (keeper_view v) (newcomer_view v)
  splits id v idle home s r at =
      let w : TurnView E = keeper_view v in
      let u : TurnView E = newcomer_view v in
      let fits = r.each id v at in
      let half : new_room v.room ≤ v.room = part_most v.room in
      let rooms = total_set room_of s.views id v w at in
      let few : total room_of s.views < 18446744073709551616 = r.few in
      let kept = calm s r id v w at idle idle home home fits.begins fits.heard fits.below (known_set r.log s.views id v w at refl (λ roomy. let less : new_room v.room < v.room = part_less v.room roomy in omega arith) r.known) (once_stays s r id v w at (λ x. refl)) (few_stays s r id v w at (omega arith)) in
      let begun : IsPrefix v.seen kept.0.log = (kept.0.each id w (set_here s.views id w (at_within s.views id v at))).begins in
      entered stands added _ kept.0 u refl refl
      record { begins = begun; heard = prefix_nil v.seen; waiting = λ on. off false refl on; holding = λ on. off false refl on; below = λ x p. absurd (omega arith) }
      (λ x. refl)
      (omega arith)

  -- a view other than these two has seen all
  abbrev IsKnownElse : List E → List (TurnView E) → ℕ → ℕ → Type 0
  IsKnownElse log views id other = (k : ℕ) × (z : TurnView E) × (k ≢ id) × (k ≢ other) × (get_elem? views k ≡ some z) × (0 < z.room) × (z.seen ≡ log)

  knower : (log : List E) (views : List (TurnView E)) (id other : ℕ) (v u : TurnView E) → get_elem? views id ≡ some v → get_elem? views other ≡ some u → IsPrefix v.seen log → IsPrefix u.seen log → IsKnown log views → (longer v.seen u.seen ≡ log) ⊎ IsKnownElse log views id other
  knower log views id other v u at at_other p q (k, z, there, room, all) = dite (ℕ_discrete k id)
      (λ e. let is : v ≡ z = some-injective v z (sym at ∙ (ap (get_elem? views) (sym e) ∙ there)) in inl (longer_whole v.seen u.seen log p q (inl (ap (λ (t : TurnView E). t.seen) is ∙ all))))
      (λ ne. dite (ℕ_discrete k other)
      (λ e. let is : u ≡ z = some-injective u z (sym at_other ∙ (ap (get_elem? views) (sym e) ∙ there)) in inl (longer_whole v.seen u.seen log p q (inr (ap (λ (t : TurnView E). t.seen) is ∙ all))))
      (λ ne'. inr (k, z, ne, ne', there, room, all)))

  -- 8: a pass takes another in. First it hears of what the other has seen, then the other has nothing left, and
  -- then the places and the room are one's.
  pub joins : (id : ℕ) (v : TurnView E) (other : ℕ) (u : TurnView E) → v.waits ≡ false → v.out ≡ false → 0 < v.room → u.waits ≡ false → u.out ≡ false → Joins R id v other u (meeting_view v u) spent_view
  joins id v other u idle home roomy idle' home' s r at apart there =
      subst (λ (views : List (TurnView E)). R record { words = s.words; homes = s.homes; views = views })
      (set_swap (set s.views id h) other id spent_view w apart ∙ ap (λ (views : List (TurnView E)). set views other spent_view) (set-set s.views id h w))
      both
    where
      w : TurnView E
      w = meeting_view v u

      h : TurnView E
      h = hearing_view v u

      at_other : get_elem? s.views other ≡ some u
      at_other = sym (set_else s.views id other w apart) ∙ there

      fits : FitsHistory r.log r.served (r.served + total tickets_held s.views) v
      fits = r.each id v at

      theirs : FitsHistory r.log r.served (r.served + total tickets_held s.views) u
      theirs = r.each other u at_other

      begun : IsPrefix w.seen r.log × IsPrefix w.told w.seen
      begun = longer_of v.seen u.seen r.log fits.begins theirs.begins

      long : (length v.seen ≤ length w.seen) × (length u.seen ≤ length w.seen)
      long = longer_length v.seen u.seen

      who : (w.seen ≡ r.log) ⊎ IsKnownElse r.log s.views id other
      who = knower r.log s.views id other v u at at_other fits.begins theirs.begins r.known

      here : get_elem? (set s.views id h) id ≡ some h
      here = set_here s.views id h (at_within s.views id v at)

      heard : S
      heard = record { words = s.words; homes = s.homes; views = set s.views id h }

      first : (q : R heard) × (q.log ≡ r.log)
      first = calm s r id v h at idle idle home home begun.0 begun.1 (λ x p. let b = fits.below x p in let l = long.0 in omega arith)
          (⊎_elim (λ (e : w.seen ≡ r.log). (id, h, here, roomy, e)) (λ (t : IsKnownElse r.log s.views id other). (t.0, t.1, set_else s.views id t.0 h t.2 ∙ t.4, t.5, t.6)) who)
          (once_stays s r id v h at (λ x. refl))
          (few_stays s r id v h at (omega arith))

      other_still : get_elem? heard.views other ≡ some u
      other_still = set_else s.views id other h apart ∙ at_other

      after : S
      after = record { words = s.words; homes = s.homes; views = set heard.views other spent_view }

      still : get_elem? after.views id ≡ some h
      still = set_else heard.views other id spent_view (λ e. apart (sym e)) ∙ here

      gone : (q : R after) × (q.log ≡ first.0.log)
      gone = calm heard first.0 other u spent_view other_still idle' refl home' refl (prefix_nil first.0.log) (prefix_nil []) (λ x p. absurd (omega arith))
          (subst (λ (l : List E). IsKnown l after.views) (sym first.1)
          (⊎_elim (λ (e : w.seen ≡ r.log). (id, h, still, roomy, e)) (λ (t : IsKnownElse r.log s.views id other). (t.0, t.1, set_else heard.views other t.0 spent_view t.3 ∙ (set_else s.views id t.0 h t.2 ∙ t.4), t.5, t.6)) who))
          (λ x. let a = total_set (count_in_view x) heard.views other u spent_view other_still in let b = first.0.once x in omega arith)
          (few_stays heard first.0 other u spent_view other_still (omega arith))

      both_places : (x : ℕ) → count_in_view x w ≡ count_in_view x v + count_in_view x u
      both_places x = let a = occurrences-append x v.mine u.mine in let b = occurrences-append x v.settled u.settled in omega arith

      below : (x : ℕ) → 0 < count_in_view x w → x < length w.seen
      below x p =
          ⊎_elim (λ (q : 0 < count_in_view x v). let b = fits.below x q in let l = long.0 in omega arith) (λ (q : 0 < count_in_view x u). let b = theirs.below x q in let l = long.1 in omega arith)
          (pos_sum (count_in_view x v) (count_in_view x u) (subst (λ (z : ℕ). 0 < z) (both_places x) p))

      both : R record { words = s.words; homes = s.homes; views = set after.views id w }
      both = (calm after gone.0 id h w still idle idle home home (subst (λ (l : List E). IsPrefix w.seen l) (sym (gone.1 ∙ first.1)) begun.0) begun.1 below
          (known_set gone.0.log after.views id h w still refl (λ p. omega arith) gone.0.known)
          (λ x. let a = total_set (count_in_view x) s.views id v h at in let b = total_set (count_in_view x) heard.views other u spent_view other_still in let c = total_set (count_in_view x) after.views id h w still in let d = both_places x in let e = r.once x in omega arith)
          (let a = total_set room_of s.views id v h at in let b = total_set room_of heard.views other u spent_view other_still in let c = total_set room_of after.views id h w still in let d : total room_of s.views < 18446744073709551616 = r.few in omega arith)).0

  -- the look after that
  pub learns : (slots id : ℕ) (me : SeatState (Option X) E) (st : Step (Option X)) → me.0.waits ≡ false → me.0.out ≡ false → Allows R slots id me 0 (λ n. n) (TellsLearn st me)
  learns slots id me st idle home s r _ at _ =
      let v : TurnView E = me.0 in
      let w : TurnView E = looked_view v in
      let fits = r.each id v at in
      let next = calm s r id v w at idle idle home home fits.begins (prefix_nil v.seen) fits.below (known_set r.log s.views id v w at refl (λ roomy. roomy) r.known) (once_stays s r id v w at (λ x. refl)) (few_stays s r id v w at (omega arith)) in
      let few : total room_of s.views < 18446744073709551616 = r.few in
      let mine : v.room ≤ total room_of s.views = total_has room_of s.views id v at in (
        w,
        keeps,
        tt,
        subst (λ (ws : List ℕ). R record { words = ws; homes = s.homes; views = set s.views id w }) (sym (set-get_or s.words 0 0)) next.0,
        (refl, record { room = omega arith; begins = fits.heard; placed = placed s r id v at }),
      )

  -- the start
  pub starts : (x : X) (items : List (Option X)) → items ≡ Some x ∷ [] → stands x [] → added x ≡ [] → R (opening (0 ∷ 0 ∷ 0 ∷ []) items founding_view)
  starts x items is good clean = subst (λ (l : List (Option X)). R (opening (0 ∷ 0 ∷ 0 ∷ []) l founding_view)) (sym is) record {
    log = [];
    served = 0;
    wide = refl;
    single = refl;
    history_is = refl;
    ticket_is = refl;
    serving_is = refl;
    each = each;
    apart = apart;
    value = inl ((x, refl, good, clean), home);
    known = (0, founding_view, refl, omega arith, refl);
    once = λ y. omega arith;
    few = omega arith;
  }
    where
      views : List (TurnView E)
      views = founding_view ∷ []

      is_first : (j : ℕ) (v : TurnView E) → get_elem? views j ≡ some v → founding_view ≡ v
      is_first zero v e = some-injective founding_view v e
      is_first (suc j) v e = absurd (some-ne-none v (sym e))

      each : (j : ℕ) (v : TurnView E) → get_elem? views j ≡ some v → FitsHistory [] 0 0 v
      each j v e = subst (FitsHistory [] 0 0) (is_first j v e) record { begins = prefix_nil []; heard = prefix_nil []; waiting = λ on. off false refl on; holding = λ on. off false refl on; below = λ y p. absurd (omega arith) }

      home : NoneIsOut views
      home j v e = ap (λ (z : TurnView E). z.out) (sym (is_first j v e))

      apart : HaveOwnTickets views
      apart i j v w ei ej on _ _ = off v.waits (ap (λ (z : TurnView E). z.waits) (sym (is_first i v ei))) on

  -- where one view has all the room, no other has any
  lone : (s : S) (r : R s) (id : ℕ) (v : TurnView E) → get_elem? s.views id ≡ some v → v.room ≡ FIRST_ROOM → (j : ℕ) (u : TurnView E) → get_elem? s.views j ≡ some u → 0 < u.room → u ≡ v
  lone s r id v at whole j u there roomy = dite (ℕ_discrete j id)
      (λ e. some-injective u v (sym there ∙ (ap (get_elem? s.views) e ∙ at)))
      (λ ne. let two = total_two room_of s.views j id u v ne there at in let few : total room_of s.views < 18446744073709551616 = r.few in absurd (omega arith))

  -- so where the value isn't out with it, that is at home, and stands for all that it has seen
  at_home : (s : S) (r : R s) (id : ℕ) (v : TurnView E) → get_elem? s.views id ≡ some v → v.room ≡ FIRST_ROOM → v.out ≡ false → IsHomeFor stands added v.seen s.homes
  at_home s r id v at whole home = ⊎_elim
      (λ (t : IsHomeFor stands added r.log s.homes × NoneIsOut s.views). subst (λ (l : List E). IsHomeFor stands added l s.homes) (sym all) t.0)
      (λ (t : IsOut s.views). absurd (away t))
      r.value
    where
      all : v.seen ≡ r.log
      all = let (k, u, there, roomy, is) = r.known in ap (λ (z : TurnView E). z.seen) (sym (lone s r id v at whole k u there roomy)) ∙ is

      away : IsOut s.views → ⊥
      away (o, u, there, out) =
          let f = r.each o u there in
          let is = lone s r id v at whole o u there (f.waiting (f.holding out).waits).some_room in
          off u.out (ap (λ (z : TurnView E). z.out) is ∙ home) out

  -- the end: what was in the slot is the value, where one seat has all the room
  pub ends : (id : ℕ) (v : TurnView E) (words : List ℕ) (slots : List (Option X)) (last : Option X) → Final (Seen R id v) words slots → v.room ≡ FIRST_ROOM → v.out ≡ false → get_elem? slots 0 ≡ some last
      → (x : X) × (last ≡ Some x) × stands x v.seen × (added x ≡ [])
  ends id v words slots last (s, (r, at), _, _, kept) whole home is =
      let h = at_home s r id v at whole home in
      (h.0, some-injective last (Some h.0) (sym is ∙ kept 0 (Some h.0) h.1), h.2, h.3)

-- 2, where the step names the key of the turn
pub looks_named : {K X E : Type 0} (stands : K → X → List E → Type 0) (added : X → List E) (key : K) (named : Option K) (slots id : ℕ) (me : SeatState (Option X) E) (st : Step (Option X)) → named ≡ Some key → me.0.waits ≡ true → me.0.out ≡ false → Allows (IsRuled (stands key) added) slots id me 2 (λ n. n) (TellsLook (λ x log. IfSome named (λ k. stands k x log)) added st me)
looks_named {K} {X} {E} stands added key named slots id me st is on home =
    subst (λ (o : Option K). Allows (IsRuled (stands key) added) slots id me 2 (λ n. n) (TellsLook (λ x log. IfSome o (λ k. stands k x log)) added st me)) (sym is) (looks (stands key) added slots id me st on home)
