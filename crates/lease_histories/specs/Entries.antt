-- The entries of the history of an external address (our own).
use Rattle.std.specs.Prelude.{ℕ, ◌==◌, ◌&&◌, Bool, false, List, [], length, Option, Some, None, if◌then◌else◌}
use Rattle.std.specs.List.{last_or}
use Rattle.std.specs.Option.{option_map_or}
use Rattle.pcp_base.specs.declared.addresses.Address.{Address}
use Rattle.pcp_base.specs.declared.asks.Answer.{Answer}
use Rattle.pcp_base.specs.declared.asks.Ask.{Ask}
use Rattle.pcp_base.specs.declared.asks.Ask.TheVariants.{Known}
use Rattle.pcp_base.specs.declared.configs.Config.{Config}
use Rattle.pcp_base.specs.declared.configs.External.{External}
use Rattle.pcp_base.specs.declared.datagrams.Datagram.{Datagram}
use Rattle.pcp_base.specs.declared.datagrams.Entry.{Entry}
use Rattle.pcp_base.specs.declared.records.Record.{Record}
use Rattle.pcp_base.specs.Apply.{empties}
use Rattle.pcp_base.specs.Epoch.{epoch_of}
use Rattle.pcp_base.specs.States.{State}
use Rattle.pcp_options.specs.declared.options.Item.{Item}
use Rattle.pcp_options.specs.declared.verdicts.Verdict.{Verdict}
use Rattle.pcp_options.specs.declared.verdicts.Verdict.TheVariants.{Silent, Refuse, Asked}
use Rattle.pcp_options.specs.Replies.{reply_text}
use Rattle.natpmp_front.specs.Requests.{is_front}
use Rattle.natpmp_front.specs.Replies.{front_text}
use Rattle.lease_store.specs.LeaseTerms.{terms_of}
use Rattle.lease_core.specs.declared.decided.Decided.{Decided}
use Rattle.lease_core.specs.Decide.{decide}
use Rattle.lease_histories.specs.Routes.{judged}

-- an external address of a configuration, and its index
pub record Served : Type 0 where
  pub config : Config
  pub place : ℕ
  pub external : External

-- ---- kinds of entries

pub data EntryKind : Type 0 where
  -- a request and its reply
  OfRequest : EntryKind
  -- what the server itself did: this record
  OfServer : Record → EntryKind
  -- a disk failed
  OfFault : EntryKind

abbrev pub kind_without_octets : Option Record → EntryKind
kind_without_octets (Some r) = OfServer r
kind_without_octets None = OfFault

-- A request has octets, and so has its reply.
abbrev pub entry_kind : Entry → EntryKind
entry_kind e =
    if length e.from.octets == 0 && length e.reply == 0 then kind_without_octets e.kept
    else OfRequest

-- whether the server itself began the table anew: by a Start or a Lose
abbrev pub begins_anew : EntryKind → Bool
begins_anew (OfServer r) = empties r.change
begins_anew OfRequest = false
begins_anew OfFault = false

-- whether the last of these entries began the table anew
abbrev pub has_just_begun : List Entry → Bool
has_just_begun entries =
    option_map_or (λ e. begins_anew (entry_kind e)) (last_or None entries) false

-- ---- what a request asks of the lease table

-- an ask, and the options that came with it
pub record Request : Type 0 where
  pub ask : Ask
  pub items : List Item

-- A refusal is known before the table is asked. A silent datagram asks nothing.
abbrev pub request_by : Verdict → Option Request
request_by Silent = None
request_by (Refuse refusal) = Some (record { ask = Known refusal; items = [] })
request_by (Asked place ask items) = Some (record { ask = ask; items = items })

abbrev pub request_of : Config → Datagram → Option Request
request_of config from = request_by (judged config from)

-- what the table of a state decides on a request at m
abbrev pub decided_on : Served → State → ℕ → Request → Decided
decided_on x s m request = decide (terms_of x.external x.config) s m request.ask

-- the text of an answer to octets that came: that of NAT-PMP where octet 0 is 0, else that of PCP
abbrev pub reply_text_of : List ℕ → Address → List Item → Answer → ℕ → List ℕ
reply_text_of octets address items answer epoch =
    if is_front octets then front_text octets address answer epoch
    else reply_text octets items answer epoch

-- the reply to a request that came in these octets to an external address
abbrev pub reply_to : List ℕ → Address → Request → Decided → ℕ → ℕ → List ℕ
reply_to octets address request decided m base =
    reply_text_of octets address request.items decided.answer (epoch_of m base)

-- the entry that a request makes at m, with the base told
abbrev pub request_entry : Served → State → ℕ → ℕ → Datagram → Request → Entry
request_entry x s m base from request = record {
  moment = m;
  from = from;
  reply = reply_to from.octets x.external.address request (decided_on x s m request) m base;
  kept = (decided_on x s m request).kept;
  base = base;
}
