-- Calls put together of their parts.
use Rattle.std.proofs.Common.{◌≡◌, ℕ, ◌<◌, ◌≤◌, ◌⊎◌, Bool, true, false, cond, List, [], ◌∷◌, ◌++◌, length, Option, None, Some, Result, Ok, Err, refl, sym, ap, subst, ◌∙◌, inl, inr, arith, length-append}
use Rattle.std.specs.Prelude.{IfOk, IfSome, OnErr, drop}
use Rattle.pcp_base.specs.declared.addresses.Address.{Address}
use Rattle.pcp_base.specs.declared.addresses.Nonce.{Nonce}
use Rattle.pcp_base.specs.declared.asks.Ask.{Ask}
use Rattle.pcp_io.specs.Times.{IsTimeNow, Times}
use Rattle.pcp_io.specs.Faults.{HasRisen}
use Rattle.pcp_options.specs.declared.responses.Response.{Response}
use Rattle.client_core.specs.Clients.{ClientView}
use Rattle.client_core.specs.Wants.{CanBeWanted}
use Rattle.client_commands.specs.Commands.{IsCommand, IsOnly, lifetime_range, tries_range}
use Rattle.client_commands.specs.Values.{IsNumberAt, NumberRange}
use Rattle.client_commands.specs.declared.commands.ClientCommand.{ClientCommand}
use Rattle.client_commands.specs.declared.commands.ClientCommand.TheVariants.{Map, Peer, Announce}
use Rattle.client_commands.specs.declared.commands.Target.{Target}
use Rattle.client_words.specs.Asks.{IsAsk, verb_of}
use Rattle.client_words.specs.Mores.{IsMore}
use Rattle.client_words.specs.Splits.{plain_in}
use Rattle.client_words.specs.declared.asks.ClientAsk.{ClientAsk}
use Rattle.client_words.specs.declared.more.More.{More}
use Rattle.client_words.proofs.FilterLemmas.{as_many}
use Rattle.tool_commands.specs.declared.statuses.ToolStatus.{ToolStatus}
use Rattle.tool_commands.specs.declared.statuses.ToolStatus.TheVariants as Statuses
use Rattle.client_runs.specs.declared.tries.Unanswered.{Unanswered}
use Rattle.client_runs.specs.declared.tries.Unanswered.TheVariants as Reasons
use Rattle.client_runs.specs.Askers.{EpochAsker, announcing, ending_from, new_epoch_asker, started, wanting, wanting_from}
use Rattle.client_runs.specs.Asking.{CanBeAsked, asked_by, target_of}
use Rattle.client_runs.specs.Calls.{AsksEpoch, HasAsked, HasReason, HasRun, HasWanted, IsTold, NeverAsked, NonceBy, Runs, opening, status_without, traffic_of}
use Rattle.client_runs.specs.Lines.{does}
use Rattle.client_runs.specs.Links.{Drawing, Links, Passed, WordsDrawn, no_traffic}
use Rattle.client_runs.specs.Openings.{HasNonce, LacksWord, Wants}
use Rattle.client_runs.specs.Runs.{Asking}
use Rattle.client_runs.specs.Underway.{IsOver, NeverBegan}
use Rattle.client_runs.proofs.LinkLemmas.{drawn-none, items-none, passed-join, requests-none, risen_after}

-- what the words say can be asked for
number_above : (range : NumberRange) (n : ℕ) (low : ℕ) → range.low ≡ low → ((m : ℕ) → range.default ≡ Some m → low ≤ m) → (given : Option (List ℕ)) → IsNumberAt range given n → low ≤ n
number_above range n low is by_default None h = by_default n h
number_above range n low is by_default (Some text) h = omega (arith, is, h.1)

default_above : (d low : ℕ) → low ≤ d → (m : ℕ) → Some d ≡ Some m → low ≤ m
default_above d low h m e = let same : d ≡ m = cc in omega (arith, same, h)

tries_some : (given : Option (List ℕ)) (n : ℕ) → IsNumberAt tries_range given n → 0 < n
tries_some given n h = number_above tries_range n 1 refl (default_above 5 1 (omega arith)) given h

lifetime_some : (given : Option (List ℕ)) (n : ℕ) → IsNumberAt lifetime_range given n → 0 < n
lifetime_some given n h = number_above lifetime_range n 1 refl (default_above 7200 1 (omega arith)) given h

pub by_command : (words rest : List (List ℕ)) (filed : Option (List ℕ)) (more : More) → IsMore rest filed more → (command : ClientCommand) → IsCommand words command → CanBeAsked command more
by_command words rest filed more is (Map t w) h =
    (tries_some _ t.tries h.1.said.0.tries, lifetime_some _ w.mapping.lifetime h.1.said.1.mapping.lifetime, omega (arith, is.few, as_many _ more.filters is.filters))
by_command words rest filed more is (Peer t w) h = (tries_some _ t.tries h.1.said.0.tries, lifetime_some _ w.mapping.lifetime h.1.said.1.mapping.lifetime)
by_command words rest filed more is (Announce t) h = tries_some _ t.tries h.1.said.tries

pub can_be_asked : (words : List (List ℕ)) (filed : Option (List ℕ)) (ask : ClientAsk) → IsAsk words filed ask → CanBeAsked ask.command ask.more
can_be_asked words filed ask h = by_command (verb_of words ∷ plain_in (drop 1 words)) (drop 1 words) filed ask.more h.more ask.command h.command

pub map_wanted : (command : ClientCommand) (more : More) (t : Target) (w : _) → command ≡ Map t w → 0 < w.mapping.lifetime → length more.filters ≤ 8 → (nonce : Nonce) → CanBeWanted (asked_by command more nonce)
map_wanted command more t w is some few nonce = rw is (omega (arith, few), some)

pub peer_wanted : (command : ClientCommand) (more : More) (t : Target) (w : _) → command ≡ Peer t w → 0 < w.mapping.lifetime → (nonce : Nonce) → CanBeWanted (asked_by command more nonce)
peer_wanted command more t w is some nonce = rw is some

-- a run after what was drawn before it
module _ {S : Type 0} (a : Asking S) (target : Target) (state : S) (time : ℕ) (words : List ℕ) (old mid new : Links) (how : Result Response Unanswered)
    (first : Passed target.server (opening words time) old mid) where
  reason_by : (h : Result Response Unanswered) → HasReason mid new h → HasReason old new h
  reason_by (Ok response) r = r
  reason_by (Err Reasons.Silence) r = r
  reason_by (Err Reasons.Turns) r = r
  reason_by (Err Reasons.Stopped) r = r
  reason_by (Err Reasons.LinkFault) r = risen_after old.faults mid.faults new.faults first.later r
  reason_by (Err Reasons.EntropyFault) r = risen_after old.drawing.faults mid.drawing.faults new.drawing.faults first.words.later r
  reason_by (Err Reasons.Memory) r = r

  run_after : HasRun a target state time no_traffic mid new how → HasRun a target state time (opening words time) old new how
  run_after h = record {
    run = h.run;
    is_run = h.is_run;
    passed = passed-join target.server (opening words time) (traffic_of a target state time h.run) old mid new first h.passed;
    reason = reason_by how h.reason;
  }

  never_after : length words ≤ 3 → NeverBegan a target state time mid new how → NeverAsked target old new how
  never_after few n = record {
    early = n.early;
    words = words ++ n.words;
    times = time ∷ [];
    few = (omega (arith, few, n.few, length-append words n.words), omega arith);
    passed = passed-join target.server (opening words time) (record no_traffic { words = n.words }) old mid new first n.passed;
    reason = reason_by how n.reason;
  }

  pub over_after : length words ≤ 3 → IsOver a target state time mid new how → NeverAsked target old new how ⊎ HasRun a target state time (opening words time) old new how
  over_after few (inl n) = inl (never_after few n)
  over_after few (inr h) = inr (run_after h)

-- a want was asked for
pub wants_by : (ask : ClientAsk) (target : Target) (nonce : Nonce) (words : List ℕ) (time : ℕ) (client : ClientView) (old mid new : Links) (how : Result Response Unanswered)
    → target ≡ target_of ask.command → NonceBy ask.more.nonce words nonce → length words ≤ 3 → client ≡ started ask nonce time → Passed target.server (opening words time) old mid
    → IsOver wanting target client time mid new how → Wants ask old new how
wants_by ask target nonce words time client old mid new how is drawn few wants first over = by_over (over_after wanting target client time words old mid new how first few over)
  where
    by_over : NeverAsked target old new how ⊎ HasRun wanting target client time (opening words time) old new how → Wants ask old new how
    by_over (inl n) = inl (subst (λ (t : Target). NeverAsked t old new how) is n)
    by_over (inr h) = inr (record {
      words = words;
      nonce = nonce;
      drawn = drawn;
      time = time;
      ran = subst (λ (t : Target). HasRun wanting t (started ask nonce time) time (opening words time) old new how) is
          (subst (λ (v : ClientView). HasRun wanting target v time (opening words time) old new how) wants h);
    })

-- the epoch was
announced_by : (target : Target) (time : ℕ) (old new : Links) (how : Result Response Unanswered)
    → NeverAsked target old new how ⊎ HasRun announcing target (new_epoch_asker target) time (opening [] time) old new how → AsksEpoch target old new how
announced_by target time old new how (inl n) = inl n
announced_by target time old new how (inr h) = inr (record { time = time; ran = h })

pub announces_by : (target : Target) (time : ℕ) (asker : EpochAsker) (old mid new : Links) (how : Result Response Unanswered) → asker ≡ new_epoch_asker target → Passed target.server (opening [] time) old mid
    → IsOver announcing target asker time mid new how → AsksEpoch target old new how
announces_by target time asker old mid new how is first over =
    announced_by target time old new how (over_after announcing target (new_epoch_asker target) time [] old mid new how first (omega arith)
    (subst (λ (n : EpochAsker). IsOver announcing target n time mid new how) is over))

-- by what is asked
module _ (ask : ClientAsk) (old new : Links) (how : Result Response Unanswered) where
  abbrev RunsAs : ClientCommand → Type 0
  RunsAs command = NeverAsked (target_of command) old new how ⊎ HasAsked command ask old new how

  abbrev WantsAs : ClientCommand → Type 0
  WantsAs command = NeverAsked (target_of command) old new how ⊎ HasWanted ask old new how

  as_map : (t : Target) (w : _) → WantsAs (Map t w) → RunsAs (Map t w)
  as_map t w (inl n) = inl n
  as_map t w (inr h) = inr h

  as_peer : (t : Target) (w : _) → WantsAs (Peer t w) → RunsAs (Peer t w)
  as_peer t w (inl n) = inl n
  as_peer t w (inr h) = inr h

  as_announce : (t : Target) → AsksEpoch t old new how → RunsAs (Announce t)
  as_announce t (inl n) = inl n
  as_announce t (inr h) = inr h

  pub runs_map : (t : Target) (w : _) → ask.command ≡ Map t w → Wants ask old new how → Runs ask old new how
  runs_map t w is h = subst RunsAs (sym is) (as_map t w (subst WantsAs is h))

  pub runs_peer : (t : Target) (w : _) → ask.command ≡ Peer t w → Wants ask old new how → Runs ask old new how
  runs_peer t w is h = subst RunsAs (sym is) (as_peer t w (subst WantsAs is h))

  pub runs_announce : (t : Target) → ask.command ≡ Announce t → AsksEpoch t old new how → Runs ask old new how
  runs_announce t is h = subst RunsAs (sym is) (as_announce t h)

-- what was drawn before it
pub no_nonce : (target : Target) (old : Links) (d : Drawing) → LacksWord old.drawing d → NeverAsked target old (record old { drawing = d }) (Err Reasons.EntropyFault)
no_nonce target old d l = record {
  early = inr refl;
  words = l.words;
  times = [];
  few = (omega (arith, l.few), omega arith);
  passed = record { items = items-none old.left; later = omega arith; times = refl; words = l.drawn; requests = requests-none target.server old.sending };
  reason = l.fault;
}

pub no_client : (target : Target) (old : Links) (d : Drawing) (times : Option Times) (words : List ℕ) (time : ℕ) → WordsDrawn words old.drawing d → length words ≤ 3 → IsTimeNow old.times times time
    → NeverAsked target old (record old { times = times; drawing = d }) (Err Reasons.Memory)
no_client target old d times words time drawn few clock = record {
  early = inl refl;
  words = words;
  times = time ∷ [];
  few = (omega (arith, few), omega arith);
  passed = record { items = items-none old.left; later = omega arith; times = (times, clock, refl); words = drawn; requests = requests-none target.server old.sending };
  reason = tt;
}

pub opened : (server : Address) (old : Links) (d : Drawing) (times : Option Times) (words : List ℕ) (time : ℕ) → WordsDrawn words old.drawing d → IsTimeNow old.times times time
    → Passed server (opening words time) old (record old { times = times; drawing = d })
opened server old d times words time drawn clock =
    record { items = items-none old.left; later = omega arith; times = (times, clock, refl); words = drawn; requests = requests-none server old.sending }

pub on_err : {T E : Type 0} (r : Result T E) (P : Type 0) → P → OnErr r P
on_err (Ok x) P p = tt
on_err (Err e) P p = p

-- why no answer came
asked_reason : (command : ClientCommand) (ask : ClientAsk) (old new : Links) (how : Result Response Unanswered) → HasAsked command ask old new how → HasReason old new how
asked_reason (Map t w) ask old new how h = h.ran.reason
asked_reason (Peer t w) ask old new how h = h.ran.reason
asked_reason (Announce t) ask old new how h = h.ran.reason

runs_reason : (ask : ClientAsk) (old new : Links) (how : Result Response Unanswered) → Runs ask old new how → HasReason old new how
runs_reason ask old new how (inl n) = n.reason
runs_reason ask old new how (inr h) = asked_reason ask.command ask old new how h

link_reason : (why : Unanswered) (old new : Links) → status_without why ≡ Statuses.LinkFault → HasReason old new (Err why) → HasRisen old.faults new.faults
link_reason Reasons.LinkFault old new is r = r
link_reason Reasons.Memory old new is r = absurd cc
link_reason Reasons.EntropyFault old new is r = absurd cc
link_reason Reasons.Silence old new is r = absurd cc
link_reason Reasons.Turns old new is r = absurd cc
link_reason Reasons.Stopped old new is r = absurd cc

word_reason : (why : Unanswered) (old new : Links) → status_without why ≡ Statuses.EntropyFault → HasReason old new (Err why) → HasRisen old.drawing.faults new.drawing.faults
word_reason Reasons.EntropyFault old new is r = r
word_reason Reasons.Memory old new is r = absurd cc
word_reason Reasons.LinkFault old new is r = absurd cc
word_reason Reasons.Silence old new is r = absurd cc
word_reason Reasons.Turns old new is r = absurd cc
word_reason Reasons.Stopped old new is r = absurd cc

pub link_fault : (ask : ClientAsk) (why : Unanswered) (old new : Links) (status : ToolStatus) → Runs ask old new (Err why) → status ≡ status_without why → status ≡ Statuses.LinkFault → HasRisen old.faults new.faults
link_fault ask why old new status runs is bad = link_reason why old new (sym is ∙ bad) (runs_reason ask old new (Err why) runs)

pub word_fault : (ask : ClientAsk) (why : Unanswered) (old new : Links) (status : ToolStatus) → Runs ask old new (Err why) → status ≡ status_without why → status ≡ Statuses.EntropyFault → HasRisen old.drawing.faults new.drawing.faults
word_fault ask why old new status runs is bad = word_reason why old new (sym is ∙ bad) (runs_reason ask old new (Err why) runs)

-- no other status
never_refused : (why : Unanswered) → status_without why ≡ Statuses.WordsRefused → ⊥
never_refused Reasons.LinkFault is = cc
never_refused Reasons.Memory is = cc
never_refused Reasons.EntropyFault is = cc
never_refused Reasons.Silence is = cc
never_refused Reasons.Turns is = cc
never_refused Reasons.Stopped is = cc

never_unwritten : (why : Unanswered) → status_without why ≡ Statuses.WriteFault → ⊥
never_unwritten Reasons.LinkFault is = cc
never_unwritten Reasons.Memory is = cc
never_unwritten Reasons.EntropyFault is = cc
never_unwritten Reasons.Silence is = cc
never_unwritten Reasons.Turns is = cc
never_unwritten Reasons.Stopped is = cc

pub not_refused : (why : Unanswered) (status : ToolStatus) → status ≡ status_without why → status ≡ Statuses.WordsRefused → ⊥
not_refused why status is bad = never_refused why (sym is ∙ bad)

pub not_unwritten : (why : Unanswered) (status : ToolStatus) → status ≡ status_without why → status ≡ Statuses.WriteFault → ⊥
not_unwritten why status is bad = never_unwritten why (sym is ∙ bad)

-- the statuses where no answer is told
abbrev pub IsUntold : ToolStatus → Type 0
IsUntold Statuses.Done = ⊥
IsUntold (Statuses.Refused code) = ⊥
IsUntold Statuses.WriteFault = ⊥
IsUntold Statuses.Memory = ⊥
IsUntold Statuses.WordsRefused = Unit {0}
IsUntold Statuses.LinkFault = Unit {0}
IsUntold Statuses.EntropyFault = Unit {0}
IsUntold Statuses.Silence = Unit {0}
IsUntold Statuses.OrderRefused = Unit {0}
IsUntold Statuses.Turns = Unit {0}
IsUntold Statuses.Stopped = Unit {0}

granted_told : (b : Bool) (code : _) → IsUntold (cond b Statuses.Done (Statuses.Refused code)) → ⊥
granted_told true code h = h
granted_told false code h = h

told_not : (ask : ClientAsk) (response : Response) (before now : Option (List ℕ)) (status : ToolStatus) → IsTold ask (Ok response) before now status → IsUntold status → ⊥
told_not ask response before now status (inl t) bad = granted_told (does ask response) response.code (subst IsUntold t.0 bad)
told_not ask response before now status (inr (inl t)) bad = subst IsUntold t.0 bad
told_not ask response before now status (inr (inr t)) bad = subst IsUntold t.0 bad

pub is_told : (ask : ClientAsk) (response : Response) (before now : Option (List ℕ)) (status bad : ToolStatus) → IsTold ask (Ok response) before now status → status ≡ bad → IsUntold bad → ⊥
is_told ask response before now status bad t is h = told_not ask response before now status t (subst IsUntold (sym is) h)

-- the nonce that is given, and one that is drawn
pub given_nonce : (given : Option Nonce) (nonce : Nonce) (d : Drawing) → given ≡ Some nonce → HasNonce given d d nonce
given_nonce given nonce d is = rw is (record { words = []; is = (refl, refl); few = omega arith; drawn = drawn-none d })

pub drawn_nonce : (given : Option Nonce) (d d' : Drawing) (r : Result Nonce Unanswered) → given ≡ None → IfOk r (HasNonce None d d') → IfOk r (HasNonce given d d')
drawn_nonce given d d' r is h = rw is h

-- a client that wants what is asked for, and one that has it deleted
pub starts_ending : (ask : ClientAsk) (target : Target) (nonce : Nonce) (time : ℕ) (wanted : Ask) (r : Result ClientView Unanswered) → ask.deletes ≡ true → target ≡ target_of ask.command
    → wanted ≡ asked_by ask.command ask.more nonce → IfOk r (λ client. client ≡ ending_from target ask.more.third wanted time) → IfOk r (λ client. client ≡ started ask nonce time)
starts_ending ask target nonce time wanted r deletes is asks h = rw deletes (rw (is, asks) at h)

pub starts_wanting : (ask : ClientAsk) (target : Target) (nonce : Nonce) (time : ℕ) (wanted : Ask) (r : Result ClientView Unanswered) → ask.deletes ≡ false → target ≡ target_of ask.command
    → wanted ≡ asked_by ask.command ask.more nonce → IfOk r (λ client. client ≡ wanting_from target ask.more.third wanted time) → IfOk r (λ client. client ≡ started ask nonce time)
starts_wanting ask target nonce time wanted r deletes is asks h = rw deletes (rw (is, asks) at h)

-- what was found in the words
pub found_can : (words : List (List ℕ)) (filed : Option (List ℕ)) (found : Option ClientAsk) (ask : ClientAsk) → found ≡ Some ask → IsOnly (IsAsk words filed) found
    → CanBeAsked ask.command ask.more
found_can words filed found ask is only = can_be_asked words filed ask (subst (λ (f : Option ClientAsk). IfSome f (IsAsk words filed)) is only.value)
