-- Ticks of one that asks.
use Rattle.std.proofs.Common.{◌≡◌, ℕ, ◌+◌, ◌<◌, ◌≤◌, List, [], ◌∷◌, ◌++◌, length, Option, None, Some, Result, Ok, Err, refl, sym, ap, subst, ◌∙◌, arith, append-nil, length-append}
use Rattle.std.specs.Prelude.{OnOk, IfErr, OnErr}
use Rattle.pcp_base.specs.declared.addresses.Address.{Address}
use Rattle.pcp_base.specs.declared.datagrams.Datagram.{Datagram}
use Rattle.client_runs.specs.declared.tries.Tries.{Tries}
use Rattle.client_runs.specs.declared.tries.Unanswered.{Unanswered}
use Rattle.client_runs.specs.declared.tries.Unanswered.TheVariants as Reasons
use Rattle.client_runs.specs.Links.{Drawing, Sending, WordsDrawn}
use Rattle.client_runs.specs.Runs.{Asking, word_for}
use Rattle.client_runs.specs.Ticks.{HandsOver, IsTicked, TickFails, TickIsSilent, Ticked}
use Rattle.client_runs.proofs.LinkLemmas.{handed_over, requests-none}
use Rattle.client_runs.proofs.WordLemmas.{Draws}

abbrev the_sending : Option (List Datagram) → ℕ → Sending
the_sending sent faults = record { sent = sent; faults = faults }

same_sending : (a b : Sending) → a.sent ≡ b.sent → a.faults ≡ b.faults → a ≡ b
same_sending a b sent faults =
    ap (λ x. the_sending x a.faults) sent ∙ ap (λ n. the_sending b.sent n) faults

module _ {S : Type 0} (a : Asking S) (limit : ℕ) (server : Address) (time : ℕ) (words : List ℕ) (requests : List (List ℕ)) (old new : S)
    (mid : Tries) (drawing drawn : Drawing) (word : ℕ) (d : Draws limit words (length requests) mid drawing.words drawn.words word) (later : drawing.faults ≤ drawn.faults) where
  came : WordsDrawn d.more drawing drawn
  came = record { came = d.came; later = later }

  at_word : new ≡ a.ticked old time word → (rest : List ℕ) → new ≡ a.ticked old time (word_for limit ((words ++ d.more) ++ rest) (length requests))
  at_word is rest = is ∙ ap (λ w. a.ticked old time w) (sym (d.is rest))

  -- no request is due
  pub tick_none : (sending : Sending) → a.request old time ≡ None → new ≡ a.ticked old time word →
      Ticked a limit server time words requests old new mid drawing drawn sending sending
  tick_none sending due is = record {
    more = d.more;
    has = rw (due, append-nil) d.has;
    count = d.count;
    state = at_word is;
    came = came;
    went = rw due (requests-none server sending);
  }

  -- one is due, and is sent
  tick_some : (text : List ℕ) (tries : Tries) (sending sent : Sending) → a.request old time ≡ Some text → new ≡ a.ticked old time word →
      mid.given < mid.limit → tries ≡ record mid { given = mid.given + 1; word = None } → HandsOver server text sending sent →
      Ticked a limit server time words requests old new tries drawing drawn sending sent
  tick_some text tries sending sent due is more counted over =
      let long : length (requests ++ text ∷ []) ≡ length requests + 1 = length-append requests (text ∷ []) in
      let below : length requests < limit = omega (arith, more, d.has.limit_is, d.has.given_is) in
      record {
        more = d.more;
        has = rw (due, counted) (record {
          limit_is = d.has.limit_is;
          given_is = omega (arith, long, d.has.given_is);
          most = omega (arith, long, below);
          kept = d.count ∙ omega (arith, long, below);
        });
        count = d.count;
        state = at_word is;
        came = came;
        went = rw due (handed_over server text sending sent over);
      }

  -- one is due after the last try
  tick_silent : (text : List ℕ) (sending sent : Sending) → a.request old time ≡ Some text → mid.limit ≤ mid.given → sent ≡ sending →
      TickIsSilent a limit server time words requests old drawing drawn sending sent
  tick_silent text sending sent due spent same =
      let behind : limit ≤ length requests = omega (arith, spent, d.has.limit_is, d.has.given_is) in
      record {
        all = omega (arith, behind, d.has.most);
        due = rw due refl;
        came = subst (λ (ws : List ℕ). WordsDrawn ws drawing drawn) (d.none behind) came;
        went = rw same (requests-none server sending);
      }

  -- whether it can be sent or not
  pub tick_sends : (text : List ℕ) (tries : Tries) (sending sent : Sending) (result : Result (Unit {0}) Unanswered) → a.request old time ≡ Some text → new ≡ a.ticked old time word →
      OnOk result (mid.given < mid.limit) → OnOk result (tries ≡ record mid { given = mid.given + 1; word = None }) → OnOk result (HandsOver server text sending sent) →
      IfErr result (λ why. why ≡ Reasons.Silence) → OnErr result (mid.limit ≤ mid.given) → OnErr result (sent.sent ≡ sending.sent) → OnErr result (sent.faults ≡ sending.faults) →
      IsTicked a limit server time words requests old new tries drawing drawn sending sent result
  tick_sends text tries sending sent (Ok done) due is more counted over silence spent same none = tick_some text tries sending sent due is more counted over
  tick_sends text tries sending sent (Err why) due is more counted over silence spent same none =
      let still : sent ≡ sending = same_sending sent sending same none in
      rw silence (tick_silent text sending sent due spent still)

  -- no memory for it is found
  pub tick_fails : (sending : Sending) → TickFails a limit server time words requests old drawing drawn sending sending
  tick_fails sending = record { more = d.more; few = d.few; came = came; went = requests-none server sending }
