-- What `keep` makes of what comes, what it asks and what it prints (our own; RFC 6887, sections 8.5, 11.2.1 and 14.1.3): a
-- fold over the client's machine. Times are in milliseconds.
use Rattle.std.specs.Prelude.{ℕ, ◌||◌, Bool, List, [], ◌∷◌, ◌++◌, map, fold, is_some, Option, Some, None, option_to_list, if◌then◌else◌}
use Rattle.pcp_base.specs.declared.addresses.Nonce.{Nonce}
use Rattle.pcp_base.specs.declared.datagrams.Datagram.{Datagram}
use Rattle.pcp_io.specs.declared.inboxes.InboxItem.{InboxItem}
use Rattle.pcp_io.specs.declared.inboxes.InboxItem.TheVariants as Items
use Rattle.pcp_options.specs.declared.responses.Response.{Response}
use Rattle.pcp_options.specs.ReadResponses.{response_of}
use Rattle.client_core.specs.Clients.{after_heard, after_tick, heard_of, held_by, request_due}
use Rattle.client_core.specs.Dues.{is_reached, next_due}
use Rattle.client_commands.specs.declared.commands.ClientCommand.{ClientCommand}
use Rattle.client_commands.specs.declared.commands.ClientCommand.TheVariants.{Map}
use Rattle.client_words.specs.declared.keeps.KeepAsk.{KeepAsk}
use Rattle.client_runs.specs.Askers.{wanting_from}
use Rattle.client_runs.specs.Asking.{asked_by}
use Rattle.client_runs.specs.Lines.{line_of}
use Rattle.client_runs.specs.Links.{Traffic}
use Rattle.keep_runs.specs.declared.keepers.Keeper.{Keeper}
use Rattle.keep_runs.specs.News.{epoch_line, is_lost, is_news, loss_line, nothing_told, told_after, told_with_epoch, told_with_loss}

-- one that wants this from a time on
abbrev pub keeper_of : KeepAsk → Nonce → ℕ → Keeper
keeper_of ask nonce time = record {
  command = Map ask.target ask.wanted;
  client = wanting_from ask.target ask.more.third
      (asked_by (Map ask.target ask.wanted) ask.more nonce) time;
  told = nothing_told;
}

-- the line that `map` prints for a response
abbrev pub response_line : ClientCommand → Option Response → List ℕ
response_line command None = []
response_line command (Some r) = line_of command r

-- a datagram is heard: an invalid epoch is told, and then what the response says
module _ (k : Keeper) (d : Datagram) (time word : ℕ) where
  abbrev pub after_packet : Keeper
  after_packet = record k {
    client = after_heard k.client d time word;
    told = told_after (told_with_epoch (heard_of k.client d time).epoch k.told)
        (held_by (after_heard k.client d time word) 0) (heard_of k.client d time).what;
  }

  abbrev pub packet_news : Bool
  packet_news = is_news (told_with_epoch (heard_of k.client d time).epoch k.told)
      (held_by (after_heard k.client d time word) 0) (heard_of k.client d time).what

  abbrev pub packet_lines : List ℕ
  packet_lines = epoch_line (heard_of k.client d time).epoch
      ++ (if packet_news then response_line k.command (response_of d.octets) else [])

-- any other item of the inbox says nothing
abbrev pub packet_of : InboxItem → Option Datagram
packet_of (Items.Packet d) = Some d
packet_of (Items.Lose order address) = None
packet_of (Items.Status order) = None
packet_of Items.Quiet = None

abbrev pub after_maybe : Keeper → Option Datagram → ℕ → ℕ → Keeper
after_maybe k None time word = k
after_maybe k (Some d) time word = after_packet k d time word

abbrev pub maybe_lines : Keeper → Option Datagram → ℕ → ℕ → List ℕ
maybe_lines k None time word = []
maybe_lines k (Some d) time word = packet_lines k d time word

-- a tick: a lease that it drops is told
abbrev pub loses : Keeper → ℕ → ℕ → Bool
loses k time word =
    is_lost (held_by k.client 0) (held_by (after_tick k.client time word) 0)

abbrev pub after_ticked : Keeper → ℕ → ℕ → Keeper
after_ticked k time word = record k {
  client = after_tick k.client time word;
  told = told_with_loss (loses k time word) k.told;
}

-- an item that the inbox gave, the time that the clock told for it, and the random word for it
pub record Turn : Type 0 where
  pub item : InboxItem
  pub time : ℕ
  pub word : ℕ

-- There is something to do, and a word is drawn, where a packet comes or something is due.
abbrev pub has_use : Keeper → Option Datagram → ℕ → Bool
has_use k packet time = is_some packet || is_reached (next_due k.client) time

-- the packet is heard, and then comes a tick
module _ (k : Keeper) (packet : Option Datagram) (time word : ℕ) where
  abbrev pub stepped : Keeper
  stepped = after_ticked (after_maybe k packet time word) time word

  abbrev pub step_lines : List ℕ
  step_lines = maybe_lines k packet time word
      ++ loss_line (loses (after_maybe k packet time word) time word)

  abbrev pub step_request : Option (List ℕ)
  step_request = request_due (after_maybe k packet time word).client time

-- what a turn makes of it, draws, asks and prints
module _ (k : Keeper) (packet : Option Datagram) (time word : ℕ) where
  abbrev pub turned_by : Keeper
  turned_by = if has_use k packet time then stepped k packet time word else k

  abbrev pub words_by : List ℕ
  words_by = if has_use k packet time then word ∷ [] else []

  abbrev pub requests_by : List (List ℕ)
  requests_by =
      if has_use k packet time then option_to_list (step_request k packet time word) else []

  abbrev pub lines_by : List ℕ
  lines_by = if has_use k packet time then step_lines k packet time word else []

-- one after turns, with all that was drawn, asked and printed in them
pub record Kept : Type 0 where
  pub keeper : Keeper
  pub words : List ℕ
  pub requests : List (List ℕ)
  pub lines : List ℕ

abbrev pub begun : Keeper → Kept
begun k = record { keeper = k; words = []; requests = []; lines = [] }

abbrev pub after_turn : Kept → Turn → Kept
after_turn t turn = record {
  keeper = turned_by t.keeper (packet_of turn.item) turn.time turn.word;
  words = t.words ++ words_by t.keeper (packet_of turn.item) turn.time turn.word;
  requests = t.requests ++ requests_by t.keeper (packet_of turn.item) turn.time turn.word;
  lines = t.lines ++ lines_by t.keeper (packet_of turn.item) turn.time turn.word;
}

abbrev pub kept : Keeper → List Turn → Kept
kept k turns = fold after_turn (begun k) turns

-- what comes and goes in turns
abbrev pub traffic_of : Keeper → List Turn → Traffic
traffic_of k turns = record {
  items = map (λ turn. turn.item) turns;
  times = map (λ turn. turn.time) turns;
  words = (kept k turns).words;
  requests = (kept k turns).requests;
}
