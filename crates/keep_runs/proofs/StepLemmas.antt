-- What is done in a turn.
use Rattle.std.proofs.Common.{◌≡◌, ℕ, ◌+◌, ◌≤◌, true, false, List, [], ◌∷◌, ◌++◌, Option, Some, None, refl, sym, subst, ap, ◌∙◌, arith, append_assoc, append-nil}
use Rattle.std.specs.Prelude.{Bool, option_to_list}
use Rattle.std.specs.Io.KnownBytes.{append_known}
use Rattle.pcp_base.specs.declared.addresses.Address.{Address}
use Rattle.pcp_base.specs.declared.datagrams.Datagram.{Datagram}
use Rattle.pcp_io.specs.Faults.{HasRisen}
use Rattle.pcp_io.specs.Writes.{WritesPart}
use Rattle.random_words.specs.RandomWords.{IsNextWord}
use Rattle.client_runs.specs.Links.{Drawing, RequestsWent, Sending, WordsDrawn}
use Rattle.client_runs.proofs.LinkLemmas.{drawn-none, requests-none}
use Rattle.tool_commands.specs.declared.statuses.ToolStatus.{ToolStatus}
use Rattle.tool_commands.specs.declared.statuses.ToolStatus.TheVariants as Statuses
use Rattle.keep_runs.specs.Keeping.{has_use, lines_by, step_lines, step_request, stepped}
use Rattle.keep_runs.specs.Steps.{Acts, DoesTurn, IsDone, LacksItsWord, LacksMemory, Sides}
use Rattle.keep_runs.specs.declared.keepers.Keeper.{Keeper}

pub known_none : (held : Option (List ℕ)) → held ≡ append_known held []
known_none None = refl
known_none (Some octets) = ap Some (sym (append-nil octets))

pub known_join : (a b c : Option (List ℕ)) (xs ys : List ℕ) → b ≡ append_known a xs → c ≡ append_known b ys → c ≡ append_known a (xs ++ ys)
known_join None b c xs ys h k = k ∙ ap (λ (o : Option (List ℕ)). append_known o ys) h
known_join (Some octets) b c xs ys h k = k ∙ ap (λ (o : Option (List ℕ)). append_known o ys) h ∙ ap Some (append_assoc octets xs ys)

pub one_drawn : (word : ℕ) (old new : Drawing) → IsNextWord old.words new.words word → old.faults ≤ new.faults → WordsDrawn (word ∷ []) old new
one_drawn word old new next later = record { came = (new.words, next, refl); later = later }

pub none_drawn : (old new : Drawing) → new.words ≡ old.words → old.faults ≤ new.faults → WordsDrawn [] old new
none_drawn old new same later = record { came = same; later = later }

module _ (server : Address) (k : Keeper) (packet : Option Datagram) (time : ℕ) where
  -- nothing is to be done
  pub idles : (sides : Sides) → has_use k packet time ≡ false → DoesTurn server k k packet time sides sides
  idles sides idle = record {
    word = 0;
    keeper = rw idle refl;
    words = rw idle (drawn-none sides.drawing);
    requests = rw idle (requests-none server sides.sending);
    lines = rw idle (known_none sides.held);
    later = omega arith;
  }

  pub lacks_word : (old new : Sides) → has_use k packet time ≡ true → new.drawing.words ≡ old.drawing.words → old.drawing.faults ≤ new.drawing.faults
      → HasRisen old.drawing.faults new.drawing.faults → new.sending ≡ old.sending → new.held ≡ old.held → new.faults ≡ old.faults
      → LacksItsWord server k k packet time old new
  lacks_word old new needed same later fault sending held faults = record {
    needed = needed;
    words = none_drawn old.drawing new.drawing same later;
    fault = fault;
    stays = (sending, held, faults);
  }

  pub lacks_memory : (after : Keeper) (old new : Sides) (word : ℕ) → WordsDrawn (word ∷ []) old.drawing new.drawing
      → new.sending ≡ old.sending → new.held ≡ old.held → new.faults ≡ old.faults → LacksMemory server k after packet time old new
  lacks_memory after old new word drawn sending held faults = record {
    drawn = word ∷ [];
    few = omega arith;
    words = drawn;
    stays = (sending, held, faults);
  }

  -- a step was made, and what it gives was handed on
  module _ (after : Keeper) (word : ℕ) (lines : List ℕ) (request : Option (List ℕ)) (old new : Sides) (needed : has_use k packet time ≡ true)
      (after_is : after ≡ stepped k packet time word) (lines_are : lines ≡ step_lines k packet time word) (request_is : request ≡ step_request k packet time word)
      (drawn : WordsDrawn (word ∷ []) old.drawing new.drawing) where
    lines_needed : step_lines k packet time word ≡ lines_by k packet time word
    lines_needed = rw needed refl

    pub acted : (result : Option ToolStatus) → Acts server lines request result old.held new.held old.faults new.faults old.sending new.sending
        → IsDone server k after packet time old new result
    acted None did = record {
      word = word;
      keeper = rw needed after_is;
      words = rw needed drawn;
      requests = rw needed (subst (λ (r : Option (List ℕ)). RequestsWent server (option_to_list r) old.sending new.sending) request_is did.2);
      lines = rw needed (subst (λ (l : List ℕ). new.held ≡ append_known old.held l) lines_are did.0);
      later = did.1;
    }
    acted (Some Statuses.WriteFault) did = record {
      word = word;
      words = drawn;
      sending = did.2;
      part = subst (λ (l : List ℕ). WritesPart old.held new.held l) (lines_are ∙ lines_needed) did.0;
      fault = did.1;
    }
    acted (Some Statuses.Done) did = absurd did
    acted (Some Statuses.WordsRefused) did = absurd did
    acted (Some Statuses.LinkFault) did = absurd did
    acted (Some Statuses.Memory) did = absurd did
    acted (Some Statuses.EntropyFault) did = absurd did
    acted (Some Statuses.Silence) did = absurd did
    acted (Some (Statuses.Refused code)) did = absurd did
    acted (Some Statuses.OrderRefused) did = absurd did
    acted (Some Statuses.Turns) did = absurd did
    acted (Some Statuses.Stopped) did = absurd did
