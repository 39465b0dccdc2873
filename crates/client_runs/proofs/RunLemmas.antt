-- Turns of a run, one more at its end.
use Rattle.std.proofs.Common.{◌≡◌, ℕ, ◌+◌, ◌≤◌, Bool, true, false, List, [], ◌∷◌, ◌++◌, length, Option, None, Some, Ok, Err, refl, sym, ap, subst, ◌∙◌, arith, append_assoc, length-append, eq-eqb}
use Rattle.std.specs.Prelude.{min, is_some, option_to_list, ◌==◌, ◌&&◌}
use Rattle.std.proofs.lemmas.Bool.{ne_eqb, and_right}
use Rattle.pcp_io.specs.declared.inboxes.InboxItem.{InboxItem}
use Rattle.pcp_io.specs.declared.inboxes.Incoming.{Incoming}
use Rattle.pcp_io.specs.declared.inboxes.Incoming.TheVariants as Incomings
use Rattle.pcp_io.specs.Takes.{item_of}
use Rattle.pcp_base.specs.declared.addresses.Address.{Address}
use Rattle.pcp_options.specs.declared.responses.Response.{Response}
use Rattle.client_runs.specs.declared.tries.Tries.{Tries}
use Rattle.client_runs.specs.declared.tries.Unanswered.TheVariants as Reasons
use Rattle.client_runs.specs.Links.{Drawing, Sending}
use Rattle.client_runs.specs.Runs.{Asked, Asking, GoesOn, Turn, after_item, after_turn, after_turns, answer_in, begun, end_of}
use Rattle.client_runs.specs.Ticks.{Ticked}

-- the tests of a silence
not_silent-none : (b : Bool) → (b && false) ≡ false
not_silent-none b = and_right b false refl

not_silent : (r : Option (List ℕ)) (requests : List (List ℕ)) (limit : ℕ) → length (requests ++ option_to_list r) ≤ limit → ((length requests == limit) && is_some r) ≡ false
not_silent None requests limit h = not_silent-none (length requests == limit)
not_silent (Some text) requests limit h =
    rw (ne_eqb (length requests) limit (λ e. omega (arith, e, h, length-append requests (text ∷ [])))) refl

silent : (r : Option (List ℕ)) (requests : List (List ℕ)) (limit : ℕ) → length requests ≡ limit → is_some r ≡ true → ((length requests == limit) && is_some r) ≡ true
silent r requests limit h k = rw (eq-eqb (length requests) limit h, k) refl

abbrev pub the_asked : {S : Type 0} → S → List (List ℕ) → ℕ → Asked S
the_asked state requests drawn = record { state = state; requests = requests; drawn = drawn }

module _ {S : Type 0} (a : Asking S) (limit : ℕ) (words : List ℕ) where
  pub turns-push : (t : Asked S) (turns : List Turn) (turn : Turn) → after_turns a limit words t (turns ++ turn ∷ []) ≡ after_turn a limit words (after_turns a limit words t turns) turn
  turns-push t [] turn = refl
  turns-push t (u ∷ us) turn = turns-push (after_turn a limit words t u) us turn

  pub goes_on-push : (t : Asked S) (turns : List Turn) (turn : Turn) → GoesOn a limit words t turns → end_of a limit words (after_turns a limit words t turns) turn ≡ None → GoesOn a limit words t (turns ++ turn ∷ [])
  goes_on-push t [] turn h e = (e, tt)
  goes_on-push t (u ∷ us) turn h e = (h.0, goes_on-push (after_turn a limit words t u) us turn h.1 e)

  -- how a turn ends a run that reached this
  pub ends-none : (t : Asked S) (s : S) (requests : List (List ℕ)) (drawn : ℕ) (turn : Turn) → t ≡ the_asked s requests drawn → answer_in a s turn.item turn.time ≡ None
      → length (requests ++ option_to_list (a.request (after_item a s turn.item turn.time) turn.time)) ≤ limit → end_of a limit words t turn ≡ None
  ends-none t s requests drawn turn is none few =
      rw (is, none, not_silent (a.request (after_item a s turn.item turn.time) turn.time) requests limit few) refl

  pub ends-answered : (t : Asked S) (s : S) (requests : List (List ℕ)) (drawn : ℕ) (turn : Turn) (response : Response) → t ≡ the_asked s requests drawn → answer_in a s turn.item turn.time ≡ Some response
      → end_of a limit words t turn ≡ Some (Ok response)
  ends-answered t s requests drawn turn response is answer = rw (is, answer) refl

  pub ends-silent : (t : Asked S) (s : S) (requests : List (List ℕ)) (drawn : ℕ) (turn : Turn) → t ≡ the_asked s requests drawn → answer_in a s turn.item turn.time ≡ None
      → length requests ≡ limit → is_some (a.request (after_item a s turn.item turn.time) turn.time) ≡ true → end_of a limit words t turn ≡ Some (Err Reasons.Silence)
  ends-silent t s requests drawn turn is none all due =
      rw (is, none, silent (a.request (after_item a s turn.item turn.time) turn.time) requests limit all due) refl

-- one more turn, with its words
module _ {S : Type 0} (a : Asking S) (limit : ℕ) (server : Address) (first : S) (time : ℕ) (words : List ℕ) (turns : List Turn) (requests : List (List ℕ)) (s : S)
    (reaches : (rest : List ℕ) → after_turns a limit (words ++ rest) (begun a limit (words ++ rest) first time) turns ≡ the_asked s requests (length words))
    (turn : Turn) (new : S) (tries : Tries) (d d' : Drawing) (o o' : Sending)
    (t : Ticked a limit server turn.time words requests (after_item a s turn.item turn.time) new tries d d' o o') where
  pub goes_on_more : ((rest : List ℕ) → GoesOn a limit (words ++ rest) (begun a limit (words ++ rest) first time) turns) → answer_in a s turn.item turn.time ≡ None
      → (rest : List ℕ) → GoesOn a limit ((words ++ t.more) ++ rest) (begun a limit ((words ++ t.more) ++ rest) first time) (turns ++ turn ∷ [])
  goes_on_more goes_on none rest =
      subst (λ (ws : List ℕ). GoesOn a limit ws (begun a limit ws first time) (turns ++ turn ∷ [])) (sym (append_assoc words t.more rest))
      (goes_on-push a limit (words ++ (t.more ++ rest)) (begun a limit (words ++ (t.more ++ rest)) first time) turns turn (goes_on (t.more ++ rest))
      (ends-none a limit (words ++ (t.more ++ rest)) _ s requests (length words) turn (reaches (t.more ++ rest)) none t.has.most))

  pub reaches_more : (rest : List ℕ) → after_turns a limit ((words ++ t.more) ++ rest) (begun a limit ((words ++ t.more) ++ rest) first time) (turns ++ turn ∷ [])
      ≡ the_asked new (requests ++ option_to_list (a.request (after_item a s turn.item turn.time) turn.time)) (length (words ++ t.more))
  reaches_more rest =
      let ws = (words ++ t.more) ++ rest in
      let before : after_turns a limit ws (begun a limit ws first time) turns ≡ the_asked s requests (length words) =
      subst (λ (vs : List ℕ). after_turns a limit vs (begun a limit vs first time) turns ≡ the_asked s requests (length words)) (sym (append_assoc words t.more rest)) (reaches (t.more ++ rest)) in
      turns-push a limit ws (begun a limit ws first time) turns turn
      ∙ ap (λ u. after_turn a limit ws u turn) before
      ∙ ap (λ n. the_asked n (requests ++ option_to_list (a.request (after_item a s turn.item turn.time) turn.time)) (min limit (length requests + 1))) (sym (t.state rest))
      ∙ ap (λ n. the_asked new (requests ++ option_to_list (a.request (after_item a s turn.item turn.time) turn.time)) n) (sym t.count)

-- the first request
pub reaches_first : {S : Type 0} (a : Asking S) (limit : ℕ) (server : Address) (time : ℕ) (first new : S) (tries : Tries) (d d' : Drawing) (o o' : Sending)
    (t : Ticked a limit server time [] [] first new tries d d' o o') (rest : List ℕ) → begun a limit (t.more ++ rest) first time ≡ the_asked new (option_to_list (a.request first time)) (length t.more)
reaches_first a limit server time first new tries d d' o o' t rest =
    ap (λ n. the_asked n (option_to_list (a.request first time)) (min limit 1)) (sym (t.state rest))
    ∙ ap (λ n. the_asked new (option_to_list (a.request first time)) n) (sym t.count)

-- what a take gives
pub is_item : (incoming : Incoming) (room : List ℕ) → ¬ (incoming ≡ Incomings.Stop) → (item : InboxItem) × (item_of incoming room ≡ Some item)
is_item (Incomings.Packet peer port door n) room on = (_, refl)
is_item (Incomings.Lose order address) room on = (_, refl)
is_item (Incomings.Status order) room on = (_, refl)
is_item Incomings.Quiet room on = (_, refl)
is_item Incomings.Stop room on = absurd (on refl)
