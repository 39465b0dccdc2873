-- Turns of `keep`, one after the other.
use Rattle.std.proofs.Common.{◌≡◌, ℕ, ◌+◌, ◌≤◌, true, List, [], ◌∷◌, ◌++◌, length, Option, Some, None, refl, sym, subst, ap, ◌∙◌, arith}
use Rattle.std.specs.Prelude.{IfSome, fold, map}
use Rattle.std.specs.Io.KnownBytes.{append_known}
use Rattle.std.proofs.lemmas.List.{map-append}
use Rattle.pcp_base.specs.declared.addresses.Address.{Address}
use Rattle.pcp_io.specs.declared.inboxes.InboxItem.{InboxItem}
use Rattle.pcp_io.specs.Faults.{HasRisen}
use Rattle.pcp_io.specs.Takes.{IsNextItem}
use Rattle.pcp_io.specs.Times.{IsTimeNow, Times}
use Rattle.pcp_io.specs.Writes.{WritesPart}
use Rattle.client_runs.specs.Links.{Drawing, ItemsCame, Links, Passed, RequestsWent, Sending, TimesCame, Traffic, WordsDrawn, with_traffic}
use Rattle.client_runs.proofs.LinkLemmas.{drawn-none, passed-join, requests-none, risen_after}
use Rattle.client_runs.proofs.OverLemmas.{passed_none, passed_turn}
use Rattle.tool_commands.specs.declared.statuses.ToolStatus.{ToolStatus}
use Rattle.tool_commands.specs.declared.statuses.ToolStatus.TheVariants as Statuses
use Rattle.keep_runs.specs.Ends.{EndsByEntropy, EndsByInbox, EndsByMemory, EndsBySink, EndsByStop, EndsKeep, Keeps, Outside, cut_short}
use Rattle.keep_runs.specs.Keeping.{Kept, Turn, after_turn, has_use, kept, lines_by, packet_of, requests_by, traffic_of, turned_by, words_by}
use Rattle.keep_runs.specs.Steps.{DoesTurn, IsDone, IsTurned, IsUnderway, LacksItsWord, LacksMemory, LacksSink, Sides}
use Rattle.keep_runs.specs.declared.keepers.Keeper.{Keeper}
use Rattle.keep_runs.proofs.StepLemmas.{known_join, known_none}

-- ---- folds and traffic

kept-push : (s : Kept) (turns : List Turn) (turn : Turn) → fold after_turn s (turns ++ turn ∷ []) ≡ after_turn (fold after_turn s turns) turn
kept-push s [] turn = refl
kept-push s (t ∷ ts) turn = kept-push (after_turn s t) ts turn

abbrev the_traffic : List InboxItem → List ℕ → List ℕ → List (List ℕ) → Traffic
the_traffic items times words requests = record { items = items; times = times; words = words; requests = requests }

same_traffic : (a a' : List InboxItem) (b b' c c' : List ℕ) (d d' : List (List ℕ)) → a ≡ a' → b ≡ b' → c ≡ c' → d ≡ d' → the_traffic a b c d ≡ the_traffic a' b' c' d'
same_traffic a a' b b' c c' d d' e f g h = rw (e, f, g, h) refl

items_same : (a b : Option (List InboxItem)) → ItemsCame a [] b → a ≡ b
items_same a None h = h
items_same a (Some items) h = h

-- nothing else came or went
passed_still : (server : Address) (t : Traffic) (a b c : Links) → Passed server t a b → ItemsCame b.left [] c.left → b.faults ≤ c.faults → c.times ≡ b.times
    → c.drawing ≡ b.drawing → c.sending ≡ b.sending → Passed server t a c
passed_still server t a b c h items later times drawing sending = record {
  items = subst (λ (l : Option (List InboxItem)). ItemsCame a.left t.items l) (items_same b.left c.left items) h.items;
  later = omega (arith, h.later, later);
  times = subst (λ (x : Option Times). TimesCame a.times t.times x) (sym times) h.times;
  words = subst (λ (d : Drawing). WordsDrawn t.words a.drawing d) (sym drawing) h.words;
  requests = subst (λ (s : Sending). RequestsWent server t.requests a.sending s) (sym sending) h.requests;
}

-- what entropy, outbox and sink tell
abbrev pub sides_of : Outside → Sides
sides_of o = record { drawing = o.links.drawing; sending = o.links.sending; held = o.held; faults = o.faults }

pub begins : (server : Address) (start : Keeper) (before : Outside) → IsUnderway server start before start before
begins server start before = record {
  turns = [];
  keeper_is = refl;
  keeps = record { passed = passed_none server before.links; told = known_none before.held };
  later = omega arith;
}

module _ (server : Address) (start : Keeper) (before : Outside) (k : Keeper) (mid now : Outside) (u : IsUnderway server start before k mid) where
  -- ---- before a turn

  keeps_still : ItemsCame mid.links.left [] now.links.left → mid.links.faults ≤ now.links.faults → now.links.times ≡ mid.links.times
      → now.links.drawing ≡ mid.links.drawing → now.links.sending ≡ mid.links.sending → now.held ≡ mid.held → Keeps server start before now u.turns
  keeps_still items later times drawing sending held = record {
    passed = passed_still server (traffic_of start u.turns) before.links mid.links now.links u.keeps.passed items later times drawing sending;
    told = held ∙ u.keeps.told;
  }

  pub over_stop : ItemsCame mid.links.left [] now.links.left → IfSome now.links.left (λ items. items ≡ []) → mid.links.faults ≤ now.links.faults → now.links.times ≡ mid.links.times
      → now.links.drawing ≡ mid.links.drawing → now.links.sending ≡ mid.links.sending → now.held ≡ mid.held → EndsKeep server start before now Statuses.Done
  over_stop items stop later times drawing sending held = record { turns = u.turns; keeps = keeps_still items later times drawing sending held; stop = stop }

  pub over_inbox : ItemsCame mid.links.left [] now.links.left → mid.links.faults ≤ now.links.faults → HasRisen mid.links.faults now.links.faults → now.links.times ≡ mid.links.times
      → now.links.drawing ≡ mid.links.drawing → now.links.sending ≡ mid.links.sending → now.held ≡ mid.held → EndsKeep server start before now Statuses.LinkFault
  over_inbox items later fault times drawing sending held = record {
    turns = u.turns;
    keeps = keeps_still items later times drawing sending held;
    fault = risen_after before.links.faults mid.links.faults now.links.faults u.keeps.passed.later fault;
  }

  -- ---- in a turn

  module _ (item : InboxItem) (time : ℕ) (next : IsNextItem mid.links.left now.links.left (Some item)) (later : mid.links.faults ≤ now.links.faults)
      (clock : IsTimeNow mid.links.times now.links.times time) where
    abbrev the_turn : ℕ → Turn
    the_turn word = record { item = item; time = time; word = word }

    passed_in : (words : List ℕ) (requests : List (List ℕ)) → WordsDrawn words mid.links.drawing now.links.drawing
        → RequestsWent server requests mid.links.sending now.links.sending
        → Passed server (with_traffic (traffic_of start u.turns) (the_traffic (item ∷ []) (time ∷ []) words requests)) before.links now.links
    passed_in words requests drawn went =
        passed-join server (traffic_of start u.turns) (the_traffic (item ∷ []) (time ∷ []) words requests) before.links mid.links now.links u.keeps.passed
        (passed_turn server item time words requests mid.links now.links next later clock drawn went)

    none_went : now.links.sending ≡ mid.links.sending → RequestsWent server [] mid.links.sending now.links.sending
    none_went sending = subst (λ (s : Sending). RequestsWent server [] mid.links.sending s) (sym sending) (requests-none server mid.links.sending)

    traffic_is : (word : ℕ) → with_traffic (traffic_of start u.turns)
        (the_traffic (item ∷ []) (time ∷ []) (words_by k (packet_of item) time word) (requests_by k (packet_of item) time word))
        ≡ traffic_of start (u.turns ++ the_turn word ∷ [])
    traffic_is word =
        let pushed = kept-push (kept start []) u.turns (the_turn word) in
        same_traffic _ _ _ _ _ _ _ _
        (sym (map-append (λ (t : Turn). t.item) u.turns (the_turn word ∷ [])))
        (sym (map-append (λ (t : Turn). t.time) u.turns (the_turn word ∷ [])))
        (ap (λ (q : Keeper). (kept start u.turns).words ++ words_by q (packet_of item) time word) (sym u.keeper_is) ∙ sym (ap (λ (t : Kept). t.words) pushed))
        (ap (λ (q : Keeper). (kept start u.turns).requests ++ requests_by q (packet_of item) time word) (sym u.keeper_is) ∙ sym (ap (λ (t : Kept). t.requests) pushed))

    went_on : (after : Keeper) → DoesTurn server k after (packet_of item) time (sides_of mid) (sides_of now) → IsUnderway server start before after now
    went_on after d =
        let pushed = kept-push (kept start []) u.turns (the_turn d.word) in
        record {
          turns = u.turns ++ the_turn d.word ∷ [];
          keeper_is = ap (λ (t : Kept). t.keeper) pushed ∙ ap (λ (q : Keeper). turned_by q (packet_of item) time d.word) u.keeper_is ∙ sym d.keeper;
          keeps = record {
            passed = subst (λ (t : Traffic). Passed server t before.links now.links) (traffic_is d.word)
                (passed_in (words_by k (packet_of item) time d.word) (requests_by k (packet_of item) time d.word) d.words d.requests);
            told = known_join before.held mid.held now.held (kept start u.turns).lines (lines_by k (packet_of item) time d.word) u.keeps.told d.lines
                ∙ ap (append_known before.held)
                (ap (λ (q : Keeper). (kept start u.turns).lines ++ lines_by q (packet_of item) time d.word) (sym u.keeper_is) ∙ sym (ap (λ (t : Kept). t.lines) pushed));
          };
          later = omega (arith, u.later, d.later);
        }

    over_entropy : (after : Keeper) → LacksItsWord server k after (packet_of item) time (sides_of mid) (sides_of now) → EndsByEntropy server start before now
    over_entropy after l = record {
      turns = u.turns;
      last = the_turn 0;
      needed = subst (λ (q : Keeper). has_use q (packet_of item) time ≡ true) (sym u.keeper_is) l.needed;
      ends = record { passed = passed_in [] [] l.words (none_went l.stays.0); told = l.stays.1 ∙ u.keeps.told };
      fault = risen_after before.links.drawing.faults mid.links.drawing.faults now.links.drawing.faults u.keeps.passed.words.later l.fault;
    }

    over_memory : (after : Keeper) → LacksMemory server k after (packet_of item) time (sides_of mid) (sides_of now) → EndsByMemory server start before now
    over_memory after l = record {
      turns = u.turns;
      last = the_turn 0;
      words = l.drawn;
      few = l.few;
      ends = record { passed = passed_in l.drawn [] l.words (none_went l.stays.0); told = l.stays.1 ∙ u.keeps.told };
    }

    -- no memory was found for the packet
    pub over_packet : now.links.drawing ≡ mid.links.drawing → now.links.sending ≡ mid.links.sending → now.held ≡ mid.held → EndsKeep server start before now Statuses.Memory
    over_packet drawing sending held = record {
      turns = u.turns;
      last = the_turn 0;
      words = [];
      few = omega arith;
      ends = record {
        passed = passed_in [] [] (subst (λ (d : Drawing). WordsDrawn [] mid.links.drawing d) (sym drawing) (drawn-none mid.links.drawing)) (none_went sending);
        told = held ∙ u.keeps.told;
      };
    }

    over_sink : (after : Keeper) → LacksSink server k after (packet_of item) time (sides_of mid) (sides_of now) → EndsBySink server start before now
    over_sink after l = record {
      turns = u.turns;
      last = the_turn l.word;
      passed = passed_in (l.word ∷ []) [] l.words (none_went l.sending);
      told = subst (λ (q : Keeper). WritesPart (append_known before.held (kept start u.turns).lines) now.held (lines_by q (packet_of item) time l.word)) (sym u.keeper_is)
          (subst (λ (h : Option (List ℕ)). WritesPart h now.held (lines_by k (packet_of item) time l.word)) u.keeps.told l.part);
      fault = risen_after before.faults mid.faults now.faults u.later l.fault;
    }

    pub turned : (after : Keeper) (result : Option ToolStatus) → IsDone server k after (packet_of item) time (sides_of mid) (sides_of now) result
        → IsTurned server start before after now result
    turned after None d = went_on after d
    turned after (Some Statuses.EntropyFault) d = over_entropy after d
    turned after (Some Statuses.Memory) d = over_memory after d
    turned after (Some Statuses.WriteFault) d = over_sink after d
    turned after (Some Statuses.Done) d = absurd d
    turned after (Some Statuses.WordsRefused) d = absurd d
    turned after (Some Statuses.LinkFault) d = absurd d
    turned after (Some Statuses.Silence) d = absurd d
    turned after (Some (Statuses.Refused code)) d = absurd d
    turned after (Some Statuses.OrderRefused) d = absurd d
    turned after (Some Statuses.Turns) d = absurd d
    turned after (Some Statuses.Stopped) d = absurd d

-- ---- the loop

pub goes_on : (server : Address) (start : Keeper) (before : Outside) (k : Keeper) (now : Outside) (ended : Option ToolStatus) → ended ≡ None
    → IsTurned server start before k now ended → IsUnderway server start before k now
goes_on server start before k now ended is h = rw is at h

pub has_ended : (server : Address) (start : Keeper) (before : Outside) (k : Keeper) (now : Outside) (ended : Option ToolStatus) (status : ToolStatus) → ended ≡ Some status
    → IsTurned server start before k now ended → EndsKeep server start before now status
has_ended server start before k now ended status is h = rw is at h
