-- Who asks (our own): a client with its want, for `map` and `peer`; and one that asks for the epoch alone, for `announce`.
-- Times are in milliseconds.
use Rattle.std.specs.Prelude.{ℕ, ◌+◌, nat_le, max, bytes_eq, Bool, true, false, Option, Some, None, if◌then◌else◌}
use Rattle.pcp_base.specs.declared.addresses.Address.{Address}
use Rattle.pcp_base.specs.declared.addresses.Nonce.{Nonce}
use Rattle.pcp_base.specs.declared.asks.Ask.{Ask}
use Rattle.pcp_base.specs.declared.asks.Ask.TheVariants as Asks
use Rattle.pcp_codec.specs.declared.requests.Body.{Body}
use Rattle.pcp_codec.specs.declared.requests.Body.TheVariants as Bodies
use Rattle.pcp_options.specs.declared.responses.Response.{Response}
use Rattle.pcp_options.specs.ReadResponses.{response_of}
use Rattle.pcp_options.specs.Requests.{request_text}
use Rattle.client_core.specs.Waits.{wait_after}
use Rattle.client_core.specs.Clients.{ClientView, after_end, after_heard, after_tick, after_want, heard_of, idle, request_due}
use Rattle.client_core.specs.declared.meanings.What.{What}
use Rattle.client_core.specs.declared.meanings.What.TheVariants.{NotMine, Told, Taken, ErrorFor}
use Rattle.client_commands.specs.declared.commands.Target.{Target}
use Rattle.client_words.specs.declared.asks.ClientAsk.{ClientAsk}
use Rattle.client_runs.specs.Asking.{asked_by, target_of}
use Rattle.client_runs.specs.Runs.{Asking}

-- the response, where it was taken for the want, or refuses it
abbrev pub answer_by : What → Option Response → Option Response
answer_by NotMine r = None
answer_by Told r = None
answer_by (Taken id) r = r
answer_by (ErrorFor id code lifetime) r = r

-- a client with its want; the word is 0, since no renewal comes, and after an invalid epoch it asks at once
abbrev pub wanting : Asking ClientView
wanting = record {
  answer = λ c d time. answer_by (heard_of c d time).what (response_of d.octets);
  heard = λ c d time. after_heard c d time 0;
  request = request_due;
  ticked = after_tick;
}

-- a client that wants this from a time on, for a third host or for its own; or has it deleted
abbrev pub wanting_from : Target → Option Address → Ask → ℕ → ClientView
wanting_from t third ask time = after_want (idle t.server t.own) 0 third ask time

abbrev pub ending_from : Target → Option Address → Ask → ℕ → ClientView
ending_from t third ask time = after_end (wanting_from t third ask time) 0 time

abbrev pub started : ClientAsk → Nonce → ℕ → ClientView
started a nonce time =
    if a.deletes
    then ending_from (target_of a.command) a.more.third (asked_by a.command a.more nonce) time
    else wanting_from (target_of a.command) a.more.third (asked_by a.command a.more nonce) time

-- one that asks a server for its epoch
pub record EpochAsker : Type 0 where
  pub server : Address
  pub own : Address
  -- the last time handed in
  pub last : ℕ
  -- the wait that goes on, 0 before the first, and when it is over
  pub wait : ℕ
  pub due : ℕ

abbrev pub new_epoch_asker : Target → EpochAsker
new_epoch_asker t = record { server = t.server; own = t.own; last = 0; wait = 0; due = 0 }

-- a response, where it is one for ANNOUNCE
abbrev pub is_announced : Body → Bool
is_announced Bodies.Announce = true
is_announced (Bodies.Map c) = false
is_announced (Bodies.Peer c port remote) = false

abbrev pub announced : Option Response → Option Response
announced None = None
announced (Some r) = if is_announced r.body then Some r else None

-- a time that is smaller than the last one handed in counts as that one
abbrev pub counted_at : EpochAsker → ℕ → ℕ
counted_at n time = max n.last time

abbrev pub is_due : EpochAsker → ℕ → Bool
is_due n time = nat_le n.due (counted_at n time)

abbrev pub after_asking : EpochAsker → ℕ → ℕ → EpochAsker
after_asking n time word = record n {
  last = counted_at n time;
  wait = wait_after n.wait word;
  due = counted_at n time + wait_after n.wait word;
}

abbrev pub after_time : EpochAsker → ℕ → EpochAsker
after_time n time = record n { last = counted_at n time }

-- The first response for ANNOUNCE whose peer is the server is its answer. It asks at once, and then after each wait.
abbrev pub announcing : Asking EpochAsker
announcing = record {
  answer = λ n d time.
      if bytes_eq d.peer.0 n.server.0 then announced (response_of d.octets) else None;
  heard = λ n d time. after_time n time;
  request = λ n time.
      if is_due n time then Some (request_text n.own None Asks.Announce) else None;
  ticked = λ n time word. if is_due n time then after_asking n time word else after_time n time;
}
