-- The line that a client's command prints for a response, and the status of its call then (our own).
use Rattle.std.specs.Prelude.{ℕ, ◌==◌, ◌&&◌, not, nat_lt, Bool, List, [], ◌∷◌, ◌++◌, codes, decimal, if◌then◌else◌}
use Rattle.pcp_base.specs.AddressTexts.{address_text}
use Rattle.pcp_base.specs.Codes.{code_number}
use Rattle.pcp_codec.specs.declared.requests.Body.{Body}
use Rattle.pcp_codec.specs.declared.requests.Body.TheVariants as Bodies
use Rattle.pcp_codec.specs.declared.requests.Common.{Common}
use Rattle.pcp_options.specs.declared.responses.Response.{Response}
use Rattle.client_core.specs.Meanings.{set_size}
use Rattle.client_commands.specs.declared.commands.ClientCommand.{ClientCommand}
use Rattle.client_commands.specs.declared.commands.ClientCommand.TheVariants.{Map, Peer, Announce}
use Rattle.client_words.specs.declared.asks.ClientAsk.{ClientAsk}
use Rattle.tool_commands.specs.declared.statuses.ToolStatus.{ToolStatus}
use Rattle.tool_commands.specs.declared.statuses.ToolStatus.TheVariants.{Done, Refused}

-- a number after a space
abbrev pub spaced : ℕ → List ℕ
spaced n = codes " " ++ decimal n

-- The size stands last where more ports than one were asked for.
abbrev pub size_field : ClientCommand → Response → List ℕ
size_field (Map t w) r = if nat_lt 1 w.size then spaced (set_size r.items) else []
size_field (Peer t w) r = []
size_field (Announce t) r = []

abbrev pub granted_text : Response → Common → List ℕ
granted_text r c =
    codes "mapped " ++ address_text c.address ++ spaced c.external ++ spaced r.lifetime
    ++ spaced r.epoch

abbrev pub success_text : Response → Body → List ℕ
success_text r Bodies.Announce = codes "epoch" ++ spaced r.epoch
success_text r (Bodies.Map c) = granted_text r c
success_text r (Bodies.Peer c port remote) = granted_text r c

abbrev pub refusal_text : Response → List ℕ
refusal_text r = codes "refused" ++ spaced (code_number r.code) ++ spaced r.lifetime

-- whether a response grants what was asked: a success of MAP and PEER with lifetime 0 doesn't
abbrev pub is_success : Response → Bool
is_success r = code_number r.code == 0

abbrev pub grants : ClientCommand → Response → Bool
grants (Map t w) r = is_success r && not (r.lifetime == 0)
grants (Peer t w) r = is_success r && not (r.lifetime == 0)
grants (Announce t) r = is_success r

abbrev pub text_of : ClientCommand → Response → List ℕ
text_of command r =
    if grants command r then success_text r r.body ++ size_field command r else refusal_text r

-- the line
abbrev pub line_of : ClientCommand → Response → List ℕ
line_of command r = text_of command r ++ 10 ∷ []

-- where a mapping is to be deleted, a success says that it is
abbrev pub deletion_text : Response → List ℕ
deletion_text r = if is_success r then codes "deleted" ++ spaced r.epoch else refusal_text r

-- the line of what was asked, and the status once it is written
abbrev pub answer_line : ClientAsk → Response → List ℕ
answer_line ask r =
    if ask.deletes then deletion_text r ++ 10 ∷ [] else line_of ask.command r

abbrev pub does : ClientAsk → Response → Bool
does ask r = if ask.deletes then is_success r else grants ask.command r

abbrev pub status_of : ClientAsk → Response → ToolStatus
status_of ask r = if does ask r then Done else Refused r.code
