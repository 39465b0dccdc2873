-- What the links of a run gave and took, where they tell that (our own).
use Rattle.std.specs.Prelude.{◌≡◌, ℕ, ◌+◌, ◌-◌, ◌^◌, ◌≤◌, ◌⊎◌, Bool, List, [], ◌∷◌, ◌++◌, map, flat_map, count_by, Option, option_map, if◌then◌else◌}
use Rattle.pcp_base.specs.declared.addresses.Address.{Address}
use Rattle.pcp_base.specs.declared.datagrams.Datagram.{Datagram}
use Rattle.pcp_io.specs.declared.inboxes.InboxItem.{InboxItem}
use Rattle.pcp_io.specs.Sends.{sent_with}
use Rattle.pcp_io.specs.Times.{IsTimeNow, Times}
use Rattle.random_words.specs.RandomWords.{IsNextWord, RandomWords}

-- these items came in front of what is left now
abbrev pub ItemsCame : Option (List InboxItem) → List InboxItem → Option (List InboxItem) → Type 0
ItemsCame before items now = before ≡ option_map (λ rest. items ++ rest) now

-- these times came one after the other
abbrev pub TimesCame : Option Times → List ℕ → Option Times → Type 0
TimesCame before [] now = now ≡ before
TimesCame before (time ∷ times) now =
    (later : Option Times) × IsTimeNow before later time × TimesCame later times now

-- and these words
abbrev pub WordsCame : Option RandomWords → List ℕ → Option RandomWords → Type 0
WordsCame before [] now = now ≡ before
WordsCame before (word ∷ words) now =
    (later : Option RandomWords) × IsNextWord before later word × WordsCame later words now

-- a request that was handed to the outbox, and whether it is lost because its send failed
pub record Handed : Type 0 where
  pub text : List ℕ
  pub lost : Bool

-- what the outbox took of it
abbrev pub taken_of : Address → Handed → List Datagram
taken_of server h =
    if h.lost then []
    else record { peer = server; port = 5351; door = 0; octets = h.text } ∷ []

-- the outbox: what it took, where it tells that, and its count of faults
pub record Sending : Type 0 where
  pub sent : Option (List Datagram)
  pub faults : ℕ

-- These requests were handed to the outbox in order, each once. One that is lost counts a fault.
pub record RequestsWent (server : Address) (requests : List (List ℕ)) (old new : Sending)
    : Type 0 where
  pub handed : List Handed
  pub each : map (λ h. h.text) handed ≡ requests
  pub sent : new.sent ≡ sent_with old.sent (flat_map (taken_of server) handed)
  pub lost : (2 ^ 64 - 1 ≤ new.faults)
      ⊎ (old.faults + count_by (λ h. h.lost) handed ≤ new.faults)
  pub later : old.faults ≤ new.faults

-- the entropy: the words that are to come, where it tells them, and its count of faults
pub record Drawing : Type 0 where
  pub words : Option RandomWords
  pub faults : ℕ

-- the links of a run
pub record Links : Type 0 where
  -- the items that the inbox will give, and its count of faults
  pub left : Option (List InboxItem)
  pub faults : ℕ
  -- the times that the clock will give
  pub times : Option Times
  pub drawing : Drawing
  pub sending : Sending

-- what links give and take: items, times and words that come, and requests that go
pub record Traffic : Type 0 where
  pub items : List InboxItem
  pub times : List ℕ
  pub words : List ℕ
  pub requests : List (List ℕ)

abbrev pub no_traffic : Traffic
no_traffic = record { items = []; times = []; words = []; requests = [] }

abbrev pub with_traffic : Traffic → Traffic → Traffic
with_traffic a b = record {
  items = a.items ++ b.items;
  times = a.times ++ b.times;
  words = a.words ++ b.words;
  requests = a.requests ++ b.requests;
}

-- these words came, and no count of faults fell
pub record WordsDrawn (words : List ℕ) (old new : Drawing) : Type 0 where
  pub came : WordsCame old.words words new.words
  pub later : old.faults ≤ new.faults

-- this came and went, in order, and nothing else
pub record Passed (server : Address) (traffic : Traffic) (old new : Links) : Type 0 where
  pub items : ItemsCame old.left traffic.items new.left
  pub later : old.faults ≤ new.faults
  pub times : TimesCame old.times traffic.times new.times
  pub words : WordsDrawn traffic.words old.drawing new.drawing
  pub requests : RequestsWent server traffic.requests old.sending new.sending
