-- What a client gets of the upstream reply to its request (RFC 7648, sections 3 and 4, in role;
-- what is rewritten is our own).
use Rattle.std.specs.Prelude.{ℕ, Bool, true, false, not, List, filter, if◌then◌else◌}
use Rattle.pcp_base.specs.declared.addresses.Nonce.{Nonce}
use Rattle.pcp_base.specs.declared.codes.Code.{Code}
use Rattle.pcp_base.specs.declared.codes.Code.TheVariants.{Success, NotAuthorized, UnsuppOption}
use Rattle.pcp_base.specs.Codes.{lifetime_of}
use Rattle.pcp_codec.specs.declared.layout.TheConstants.{NONCE_PLACE}
use Rattle.pcp_codec.specs.declared.requests.Common.{Common}
use Rattle.pcp_codec.specs.declared.requests.Body.{Body}
use Rattle.pcp_codec.specs.declared.requests.Body.TheVariants.{Announce, Map, Peer}
use Rattle.pcp_codec.specs.Fields.{octets_at}
use Rattle.pcp_codec.specs.Replies.{refusal_text}
use Rattle.pcp_options.specs.declared.options.Item.{Item}
use Rattle.pcp_options.specs.declared.responses.Response.{Response}
use Rattle.pcp_options.specs.ReadResponses.{is_third}
use Rattle.pcp_options.specs.Replies.{success_text}

-- the error reply to a request that was read (RFC 6887, section 7.2)
abbrev pub relayed_text : List ℕ → Code → ℕ → ℕ → List ℕ
relayed_text request code lifetime epoch =
    refusal_text request (record { code = code; parsed = true; lifetime = lifetime }) epoch

-- the nonce of a MAP or PEER request
abbrev pub nonce_of : List ℕ → Nonce
nonce_of request = record { 0 = octets_at request NONCE_PLACE 12 }

abbrev pub with_nonce : Common → Nonce → Common
with_nonce c nonce = record c { nonce = nonce }

-- the data of the reply, with the client's nonce
abbrev pub down_body : Nonce → Body → Body
down_body nonce Announce = Announce
down_body nonce (Map c) = Map (with_nonce c nonce)
down_body nonce (Peer c port remote) = Peer (with_nonce c nonce) port remote

-- its options: without THIRD_PARTY where the relay added that
abbrev pub down_items : Bool → List Item → List Item
down_items added items = if added then filter (λ item. not (is_third item)) items else items

-- whether the upstream server refused the THIRD_PARTY that the relay added, which its client didn't
-- ask for
abbrev pub refuses_added : Bool → Code → Bool
refuses_added added UnsuppOption = added
refuses_added added code = false

-- an error: the upstream code and lifetime; but a client is only told that it isn't authorized
-- where the option that was refused isn't its own
abbrev pub down_error : List ℕ → Bool → Response → List ℕ
down_error request added r =
    if refuses_added added r.code
    then relayed_text request NotAuthorized (lifetime_of NotAuthorized) r.epoch
    else relayed_text request r.code r.lifetime r.epoch

abbrev pub down_success : List ℕ → Bool → Response → List ℕ
down_success request added r =
    success_text r.lifetime r.epoch (down_body (nonce_of request) r.body) (down_items added r.items)

abbrev pub is_success : Code → Bool
is_success Success = true
is_success code = false

-- Down: the octets for the client that asked this request; `added`: the relay added THIRD_PARTY to
-- it
abbrev pub down_text : List ℕ → Bool → Response → List ℕ
down_text request added r =
    if is_success r.code then down_success request added r else down_error request added r
