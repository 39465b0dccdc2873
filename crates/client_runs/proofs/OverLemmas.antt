-- How a run begins, goes on and ends.
use Rattle.std.proofs.Common.{◌≡◌, ℕ, ◌+◌, ◌<◌, ◌≤◌, ◌⊎◌, true, List, [], ◌∷◌, ◌++◌, length, Option, None, Some, Result, Ok, Err, refl, sym, ap, subst, ◌∙◌, inl, inr, arith, append-nil, length-append}
use Rattle.std.specs.Prelude.{map, is_some, option_to_list, IfSome}
use Rattle.std.proofs.lemmas.List.{map-append}
use Rattle.pcp_base.specs.declared.addresses.Address.{Address}
use Rattle.pcp_io.specs.declared.inboxes.InboxItem.{InboxItem}
use Rattle.pcp_io.specs.Faults.{HasRisen}
use Rattle.pcp_io.specs.Takes.{IsNextItem}
use Rattle.pcp_io.specs.Times.{IsTimeNow}
use Rattle.pcp_options.specs.declared.responses.Response.{Response}
use Rattle.client_commands.specs.declared.commands.Target.{Target}
use Rattle.client_runs.specs.declared.tries.Tries.{Tries}
use Rattle.client_runs.specs.declared.tries.Unanswered.{Unanswered}
use Rattle.client_runs.specs.declared.tries.Unanswered.TheVariants as Reasons
use Rattle.client_runs.specs.declared.turns.TheConstants.{MOST_TURNS}
use Rattle.client_runs.specs.Calls.{HasReason, HasRun, traffic_of}
use Rattle.client_runs.specs.Links.{ItemsCame, Links, Passed, RequestsWent, Traffic, WordsDrawn, no_traffic, with_traffic}
use Rattle.client_runs.specs.Runs.{Asked, Asking, Ends, Run, Turn, after_item, answer_in, reached}
use Rattle.client_runs.specs.Ticks.{IsTicked, Ticked}
use Rattle.client_runs.specs.Underway.{IsTurned, IsUnderway, NeverBegan}
use Rattle.client_runs.proofs.LinkLemmas.{item-came, items-none, passed-join, risen_after, drawn-none, requests-none}
use Rattle.client_runs.proofs.RunLemmas.{ends-answered, ends-silent, goes_on_more, reaches_first, reaches_more}

abbrev the_traffic : List InboxItem → List ℕ → List ℕ → List (List ℕ) → Traffic
the_traffic items times words requests = record { items = items; times = times; words = words; requests = requests }

-- an item with its time, and what a tick drew and sent
pub passed_turn : (server : Address) (item : InboxItem) (time : ℕ) (words : List ℕ) (requests : List (List ℕ)) (a b : Links) → IsNextItem a.left b.left (Some item) → a.faults ≤ b.faults
    → IsTimeNow a.times b.times time → WordsDrawn words a.drawing b.drawing → RequestsWent server requests a.sending b.sending → Passed server (the_traffic (item ∷ []) (time ∷ []) words requests) a b
passed_turn server item time words requests a b next later clock drawn went = record {
  items = item-came item a.left b.left next;
  later = later;
  times = (b.times, clock, refl);
  words = drawn;
  requests = went;
}

-- nothing came and went, but a call of the inbox
pub passed_inbox : (server : Address) (a b : Links) → ItemsCame a.left [] b.left → a.faults ≤ b.faults → b.times ≡ a.times → b.drawing ≡ a.drawing → b.sending ≡ a.sending → Passed server no_traffic a b
passed_inbox server a b items later times drawing sending = record {
  items = items;
  later = later;
  times = times;
  words = rw drawing (drawn-none a.drawing);
  requests = rw sending (requests-none server a.sending);
}

pub passed_none : (server : Address) (a : Links) → Passed server no_traffic a a
passed_none server a = passed_inbox server a a (items-none a.left) (omega arith) refl refl refl

pub at_stop : (a b : Option (List InboxItem)) → IsNextItem a b None → ItemsCame a [] b × IfSome b (λ rest. rest ≡ [])
at_stop None b h = rw h (refl, tt)
at_stop (Some []) b h = rw h.1 (refl, refl)
at_stop (Some (x ∷ xs)) b h = absurd (let e : None ≡ Some x = h.0 in cc)

abbrev no_memory : Result Response Unanswered
no_memory = Err Reasons.Memory

module _ {S : Type 0} (a : Asking S) (target : Target) (state : S) (time : ℕ) (old mid : Links) (count : ℕ) (s : S) (tries : Tries)
    (u : IsUnderway a target state time old count s tries mid) where
  abbrev the_run : List ℕ → List Turn → Run
  the_run more last = record { words = u.words ++ more; turns = u.turns; last = last }

  traffic_is : (more : List ℕ) (last : List Turn) → with_traffic
      (the_traffic (map (λ turn. turn.item) u.turns) (map (λ turn. turn.time) u.turns) u.words u.requests)
      (the_traffic (map (λ turn. turn.item) last) (map (λ turn. turn.time) last) more [])
      ≡ traffic_of a target state time (the_run more last)
  traffic_is more last =
      ap (λ is. the_traffic is (map (λ (t : Turn). t.time) u.turns ++ map (λ (t : Turn). t.time) last) (u.words ++ more) (u.requests ++ [])) (sym (map-append (λ (t : Turn). t.item) u.turns last))
      ∙ ap (λ ts. the_traffic (map (λ (t : Turn). t.item) (u.turns ++ last)) ts (u.words ++ more) (u.requests ++ [])) (sym (map-append (λ (t : Turn). t.time) u.turns last))
      ∙ ap (λ rs. the_traffic (map (λ (t : Turn). t.item) (u.turns ++ last)) (map (λ (t : Turn). t.time) (u.turns ++ last)) (u.words ++ more) rs)
      (append-nil u.requests ∙ sym (ap (λ (t : Asked S). t.requests) (u.reaches more)))

  over : (now : Links) (last : List Turn) (more : List ℕ) (how : Result Response Unanswered) → Ends a target.tries state time (the_run more last) how → length u.turns + length last ≤ MOST_TURNS
      → (length (u.words ++ more) ≡ length u.words) ⊎ ((how ≡ Err Reasons.Memory) × (length (u.words ++ more) ≡ length u.words + 1))
      → Passed target.server (the_traffic (map (λ turn. turn.item) last) (map (λ turn. turn.time) last) more []) mid now → HasReason old now how
      → HasRun a target state time no_traffic old now how
  over now last more how ends few drawn passed reason = record {
    run = the_run more last;
    is_run = record {
      goes_on = u.goes_on more;
      ends = ends;
      few = omega (arith, few, length-append u.turns last);
      drawn = subst (λ (t : Asked S). (length (u.words ++ more) ≡ t.drawn) ⊎ ((how ≡ Err Reasons.Memory) × (length (u.words ++ more) ≡ t.drawn + 1))) (sym (u.reaches more)) drawn;
    };
    passed = subst (λ (t : Traffic). Passed target.server t old now) (traffic_is more last)
        (passed-join target.server _ _ old mid now u.passed passed);
    reason = reason;
  }

  still : length (u.words ++ []) ≡ length u.words
  still = ap length (append-nil u.words)

  pub over_answered : (now : Links) (turn : Turn) (response : Response) → count < MOST_TURNS → answer_in a s turn.item turn.time ≡ Some response
      → Passed target.server (the_traffic (turn.item ∷ []) (turn.time ∷ []) [] []) mid now → HasRun a target state time no_traffic old now (Ok response)
  over_answered now turn response below answer passed =
      over now (turn ∷ []) [] (Ok response)
      (record { turn = turn; last = refl; ends = ends-answered a target.tries (u.words ++ []) _ s u.requests (length u.words) turn response (u.reaches []) answer })
      (omega (arith, below, u.count_is)) (inl still) passed tt

  pub over_silent : (now : Links) (turn : Turn) → count < MOST_TURNS → answer_in a s turn.item turn.time ≡ None → length u.requests ≡ target.tries
      → is_some (a.request (after_item a s turn.item turn.time) turn.time) ≡ true
      → Passed target.server (the_traffic (turn.item ∷ []) (turn.time ∷ []) [] []) mid now → HasRun a target state time no_traffic old now (Err Reasons.Silence)
  over_silent now turn below none all due passed =
      over now (turn ∷ []) [] (Err Reasons.Silence)
      (record { turn = turn; last = refl; ends = ends-silent a target.tries (u.words ++ []) _ s u.requests (length u.words) turn (u.reaches []) none all due })
      (omega (arith, below, u.count_is)) (inl still) passed tt

  pub over_stopped : (now : Links) → count < MOST_TURNS → Passed target.server no_traffic mid now → IfSome now.left (λ rest. rest ≡ []) → HasRun a target state time no_traffic old now (Err Reasons.Stopped)
  over_stopped now below passed stop =
      over now [] [] (Err Reasons.Stopped) (refl, omega (arith, below, u.count_is)) (omega (arith, below, u.count_is)) (inl still) passed stop

  pub over_link : (now : Links) → count < MOST_TURNS → Passed target.server no_traffic mid now → HasRisen mid.faults now.faults → HasRun a target state time no_traffic old now (Err Reasons.LinkFault)
  over_link now below passed fault =
      over now [] [] (Err Reasons.LinkFault) (refl, omega (arith, below, u.count_is)) (omega (arith, below, u.count_is)) (inl still) passed
      (risen_after old.faults mid.faults now.faults u.passed.later fault)

  pub over_turns : count ≡ MOST_TURNS → HasRun a target state time no_traffic old mid (Err Reasons.Turns)
  over_turns all =
      over mid [] [] (Err Reasons.Turns) (refl, sym u.count_is ∙ all) (omega (arith, all, u.count_is)) (inl still) (passed_none target.server mid) tt

  pub over_entropy : (now : Links) (turn : Turn) → count < MOST_TURNS → Passed target.server (the_traffic (turn.item ∷ []) (turn.time ∷ []) [] []) mid now
      → HasRisen mid.drawing.faults now.drawing.faults → HasRun a target state time no_traffic old now (Err Reasons.EntropyFault)
  over_entropy now turn below passed fault =
      over now (turn ∷ []) [] (Err Reasons.EntropyFault) (omega arith) (omega (arith, below, u.count_is)) (inl still) passed
      (risen_after old.drawing.faults mid.drawing.faults now.drawing.faults u.passed.words.later fault)

  one_at_most : (more : List ℕ) → length more ≤ 1 → (length (u.words ++ more) ≡ length u.words) ⊎ ((no_memory ≡ no_memory) × (length (u.words ++ more) ≡ length u.words + 1))
  one_at_most [] few = inl still
  one_at_most (w ∷ []) few = inr (refl, length-append u.words (w ∷ []))
  one_at_most (w ∷ x ∷ ws) few = absurd (omega (arith, few))

  pub over_memory : (now : Links) (turn : Turn) (more : List ℕ) → count < MOST_TURNS → length more ≤ 1 → Passed target.server (the_traffic (turn.item ∷ []) (turn.time ∷ []) more []) mid now
      → HasRun a target state time no_traffic old now (Err Reasons.Memory)
  over_memory now turn more below few passed =
      over now (turn ∷ []) more (Err Reasons.Memory) (omega arith) (omega (arith, below, u.count_is)) (one_at_most more few) passed tt

  -- the turn's tick went well
  pub goes_on_by : (now : Links) (turn : Turn) (new : S) (tries' : Tries) → answer_in a s turn.item turn.time ≡ None → IsNextItem mid.left now.left (Some turn.item) → mid.faults ≤ now.faults → IsTimeNow mid.times now.times turn.time
      → Ticked a target.tries target.server turn.time u.words u.requests (after_item a s turn.item turn.time) new tries' mid.drawing now.drawing mid.sending now.sending
      → IsUnderway a target state time old (count + 1) new tries' now
  goes_on_by now turn new tries' none next later clock t = record {
    words = u.words ++ t.more;
    turns = u.turns ++ turn ∷ [];
    requests = u.requests ++ option_to_list (a.request (after_item a s turn.item turn.time) turn.time);
    count_is = omega (arith, u.count_is, length-append u.turns (turn ∷ []));
    goes_on = goes_on_more a target.tries target.server state time u.words u.turns u.requests s u.reaches turn new tries' mid.drawing now.drawing mid.sending now.sending t u.goes_on none;
    reaches = reaches_more a target.tries target.server state time u.words u.turns u.requests s u.reaches turn new tries' mid.drawing now.drawing mid.sending now.sending t;
    has = t.has;
    passed = rw (map-append (λ (x : Turn). x.item) u.turns (turn ∷ []), map-append (λ (x : Turn). x.time) u.turns (turn ∷ []))
        (passed-join target.server _ _ old mid now u.passed
        (passed_turn target.server turn.item turn.time t.more (option_to_list (a.request (after_item a s turn.item turn.time) turn.time)) mid now next later clock t.came t.went));
  }

  -- the turn's tick ends the run
  pub tick_ends : (now : Links) (turn : Turn) (new : S) (tries' : Tries) (why : Unanswered) → count < MOST_TURNS → answer_in a s turn.item turn.time ≡ None → IsNextItem mid.left now.left (Some turn.item) → mid.faults ≤ now.faults
      → IsTimeNow mid.times now.times turn.time
      → IsTicked a target.tries target.server turn.time u.words u.requests (after_item a s turn.item turn.time) new tries' mid.drawing now.drawing mid.sending now.sending (Err why)
      → HasRun a target state time no_traffic old now (Err why)
  tick_ends now turn new tries' Reasons.Silence below none next later clock t =
      over_silent now turn below none t.all t.due (passed_turn target.server turn.item turn.time [] [] mid now next later clock t.came t.went)
  tick_ends now turn new tries' Reasons.EntropyFault below none next later clock t =
      over_entropy now turn below (passed_turn target.server turn.item turn.time [] [] mid now next later clock t.came t.went) t.fault
  tick_ends now turn new tries' Reasons.Memory below none next later clock t =
      over_memory now turn t.more below t.few (passed_turn target.server turn.item turn.time t.more [] mid now next later clock t.came t.went)
  tick_ends now turn new tries' Reasons.LinkFault below none next later clock t = absurd t
  tick_ends now turn new tries' Reasons.Turns below none next later clock t = absurd t
  tick_ends now turn new tries' Reasons.Stopped below none next later clock t = absurd t

-- the first request was sent
pub begins : {S : Type 0} (a : Asking S) (target : Target) (state : S) (time : ℕ) (old now : Links) (new : S) (tries : Tries) → now.left ≡ old.left → now.faults ≡ old.faults → now.times ≡ old.times
    → Ticked a target.tries target.server time [] [] state new tries old.drawing now.drawing old.sending now.sending → IsUnderway a target state time old 0 new tries now
begins a target state time old now new tries left faults times t = record {
  words = t.more;
  turns = [];
  requests = option_to_list (a.request state time);
  count_is = refl;
  goes_on = λ rest. tt;
  reaches = reaches_first a target.tries target.server time state new tries old.drawing now.drawing old.sending now.sending t;
  has = t.has;
  passed = record {
    items = rw left (items-none old.left);
    later = omega (arith, faults);
    times = times;
    words = t.came;
    requests = t.went;
  };
}

-- it wasn't
pub never_began : {S : Type 0} (a : Asking S) (target : Target) (state : S) (time : ℕ) (old now : Links) (new : S) (tries : Tries) (why : Unanswered) → 0 < target.tries → now.left ≡ old.left → now.faults ≡ old.faults → now.times ≡ old.times
    → IsTicked a target.tries target.server time [] [] state new tries old.drawing now.drawing old.sending now.sending (Err why) → NeverBegan a target state time old now (Err why)
never_began a target state time old now new tries Reasons.Silence some left faults times t = absurd (omega (arith, some, t.all))
never_began a target state time old now new tries Reasons.EntropyFault some left faults times t = record {
  early = inr refl;
  words = [];
  few = omega arith;
  passed = record { items = rw left (items-none old.left); later = omega (arith, faults); times = times; words = t.came; requests = t.went };
  reason = t.fault;
}
never_began a target state time old now new tries Reasons.Memory some left faults times t = record {
  early = inl refl;
  words = t.more;
  few = t.few;
  passed = record { items = rw left (items-none old.left); later = omega (arith, faults); times = times; words = t.came; requests = t.went };
  reason = tt;
}
never_began a target state time old now new tries Reasons.LinkFault some left faults times t = absurd t
never_began a target state time old now new tries Reasons.Turns some left faults times t = absurd t
never_began a target state time old now new tries Reasons.Stopped some left faults times t = absurd t

-- what a turn came to
pub turned_some : {S : Type 0} (a : Asking S) (target : Target) (state : S) (time : ℕ) (old : Links) (count : ℕ) (reached : S) (tries : Tries) (now : Links) (found : Option Response) (response : Response) → found ≡ Some response
    → IsTurned a target state time old count reached tries now (Ok found) → HasRun a target state time no_traffic old now (Ok response)
turned_some a target state time old count reached tries now found response is h = rw is at h

pub turned_none : {S : Type 0} (a : Asking S) (target : Target) (state : S) (time : ℕ) (old : Links) (count : ℕ) (reached : S) (tries : Tries) (now : Links) (found : Option Response) → found ≡ None
    → IsTurned a target state time old count reached tries now (Ok found) → IsUnderway a target state time old (count + 1) reached tries now
turned_none a target state time old count reached tries now found is h = rw is at h
