-- The epoch that is read is the one that was written.
use Rattle.std.specs.Int.{to_be_bytes, from_be_bytes, w32}
use Rattle.std.specs.Prelude.{nat_le, option_map, map, replicate, ◌-◌}
use Rattle.std.proofs.Common.{◌≡◌, ℕ, ◌/◌, ◌%◌, ◌^◌, ◌<◌, ◌≤◌, ◌==◌, ◌&&◌, Bool, true, false, cond, List, [], ◌∷◌, ◌++◌, Option, Some, None, refl, ap, sym, ◌∙◌, append_assoc, arith}
use Rattle.std.proofs.lemmas.Bool.{cond_both}
use Rattle.std.proofs.lemmas.Nat.{from_be_bytes-to_be_bytes_4}
use Rattle.pcp_base.specs.declared.asks.Answer.{Answer}
use Rattle.pcp_base.specs.declared.asks.Answer.TheVariants.{Refused, Announced, Gone, Mapped, Peered}
use Rattle.pcp_base.specs.declared.addresses.Address.{Address}
use Rattle.pcp_base.specs.declared.asks.Refusal.{Refusal}
use Rattle.pcp_base.specs.declared.codes.Code.{Code}
use Rattle.pcp_base.specs.declared.codes.Code.TheVariants.{NotAuthorized}
use Rattle.pcp_base.specs.declared.leases.MapLease.{MapLease}
use Rattle.pcp_base.specs.declared.leases.PeerLease.{PeerLease}
use Rattle.pcp_base.specs.Codes.{code_number, lifetime_of}
use Rattle.pcp_base.specs.Epoch.{epoch_of}
use Rattle.pcp_announce.specs.Updates.{left_of, map_body, map_items, map_update, peer_body, peer_update}
use Rattle.pcp_codec.specs.declared.requests.Body.{Body}
use Rattle.pcp_codec.specs.declared.requests.Body.TheVariants.{Announce, Map, Peer}
use Rattle.pcp_codec.specs.declared.responses.Head.{Head}
use Rattle.pcp_codec.specs.Fields.{octet, octets_at, u32_at}
use Rattle.pcp_codec.specs.Replies.{head, refusal_last, refusal_text, reply_length}
use Rattle.pcp_codec.specs.Requests.{body_of, opcode_of}
use Rattle.pcp_codec.specs.Responses.{code_of, head_of, head_with, is_framed}
use Rattle.pcp_base.specs.declared.asks.Ask.{Ask}
use Rattle.pcp_options.specs.declared.options.Item.{Item}
use Rattle.pcp_options.specs.Requests.{asked_body, asked_items, asked_lifetime, request_text}
use Rattle.pcp_options.specs.Requests.{request_with}
use Rattle.pcp_options.specs.declared.responses.Response.{Response}
use Rattle.pcp_options.specs.Options.{option_of, options_text}
use Rattle.pcp_options.specs.ReadResponses.{response_as, response_of, response_under}
use Rattle.pcp_options.specs.Replies.{assigned, body_text, opcode_of_body, reply_text, success_text, told_items}
use Rattle.natpmp_front.specs.declared.layout.TheConstants.{ADDRESS_OPERATION, INTERNAL_PLACE}
use Rattle.natpmp_front.specs.Fields.{u16_at}
use Rattle.natpmp_front.specs.Requests.{is_front, is_of_map, operation_of}
use Rattle.natpmp_front.specs.Replies.{address_reply, front_text, map_reply, result_told, head as head_front}
use Rattle.lease_histories.specs.Entries.{reply_text_of}
use Rattle.proxy_core.specs.Down.{down_body, down_error, down_items, down_success, down_text, is_success, nonce_of, refuses_added, relayed_text}

-- where there is a response it is this one
pub by-test : (b : Bool) (x r : Response) → cond b (Some x) None ≡ Some r → x ≡ r
by-test true x r h = cc
by-test false x r h = absurd cc

head-epoch : (b : Bool) (text : List ℕ) (c : Option Code) (x : Head) → cond b (option_map (head_with text) c) None ≡ Some x → x.epoch ≡ u32_at text 8
head-epoch true text None x h = absurd cc
head-epoch true text (Some c) x h =
    let same : head_with text c ≡ x = cc in
    sym (ap (λ (y : Head). y.epoch) same)
head-epoch false text c x h = absurd cc

under-epoch : (h : Option Head) (text : List ℕ) (r : Response) (e : ℕ) → ((x : Head) → h ≡ Some x → x.epoch ≡ e) → response_under h text ≡ Some r → r.epoch ≡ e
under-epoch None text r e f k = absurd cc
under-epoch (Some x) text r e f k =
    let same = by-test _ (response_as x _ _) r k in
    sym (ap (λ (y : Response). y.epoch) same) ∙ f x refl

-- what is read of octets has the epoch that stands in them
pub read-epoch : (text : List ℕ) (r : Response) → response_of text ≡ Some r → r.epoch ≡ u32_at text 8
read-epoch text r h = under-epoch (head_of text) text r (u32_at text 8) (λ x k. head-epoch (is_framed text) text (code_of (octet text 3)) x k) h

-- ---- what is written

no-more : (n : ℕ) → from_be_bytes w32 (to_be_bytes w32 n) ≤ n
no-more n =
    let cut : n % 2 ^ 32 < 2 ^ 32 = omega arith in
    let back = from_be_bytes-to_be_bytes_4 (n % 2 ^ 32) cut in
    let a : n % 2 ^ 32 % 256 ≡ n % 256 = omega arith in
    let b : n % 2 ^ 32 / 256 % 256 ≡ n / 256 % 256 = omega arith in
    let c : n % 2 ^ 32 / 65536 % 256 ≡ n / 65536 % 256 = omega arith in
    let d : n % 2 ^ 32 / 16777216 % 256 ≡ n / 16777216 % 256 = omega arith in
    omega (arith, back, a, b, c, d)

-- a text under a head with this epoch
pub record IsUnder (text : List ℕ) (epoch : ℕ) : Type 0 where
  pub opcode : ℕ
  pub code : ℕ
  pub lifetime : ℕ
  pub last : List ℕ
  pub behind : List ℕ
  pub spelled : text ≡ head opcode code lifetime epoch last ++ behind

stands : (opcode code lifetime epoch : ℕ) (last behind : List ℕ) → u32_at (head opcode code lifetime epoch last ++ behind) 8 ≡ from_be_bytes w32 (to_be_bytes w32 epoch)
stands opcode code lifetime epoch last behind = refl

pub told-most : (text : List ℕ) (epoch : ℕ) (r : Response) → IsUnder text epoch → response_of text ≡ Some r → r.epoch ≤ epoch
told-most text epoch r u h =
    let e = read-epoch text r h ∙ ap (λ t. u32_at t 8) u.spelled ∙ stands u.opcode u.code u.lifetime epoch u.last u.behind in
    let most = no-more epoch in
    omega (arith, e, most)

-- a text that tells no epoch above this one
abbrev pub TellsAtMost : List ℕ → ℕ → Type 0
TellsAtMost text epoch = (x : Response) → response_of text ≡ Some x → x.epoch ≤ epoch

pub success-under : (lifetime epoch : ℕ) (body : Body) (items : List Item) → IsUnder (success_text lifetime epoch body items) epoch
success-under lifetime epoch body items = record {
  opcode = opcode_of_body body;
  code = 0;
  lifetime = lifetime;
  last = replicate {A = ℕ} 12 0;
  behind = body_text body ++ options_text (map option_of items);
  spelled = append_assoc (head (opcode_of_body body) 0 lifetime epoch (replicate {A = ℕ} 12 0)) (body_text body) (options_text (map option_of items));
}

pub refusal-under : (request : List ℕ) (refusal : Refusal) (epoch : ℕ) → IsUnder (refusal_text request refusal epoch) epoch
refusal-under request refusal epoch = record {
  opcode = opcode_of request;
  code = code_number refusal.code;
  lifetime = refusal.lifetime;
  last = refusal_last request refusal;
  behind = octets_at request 24 (reply_length request - 24);
  spelled = refl;
}

pub reply-under : (octets : List ℕ) (items : List Item) (answer : Answer) (epoch : ℕ) → IsUnder (reply_text octets items answer epoch) epoch
reply-under octets items (Refused refusal) epoch = refusal-under octets refusal epoch
reply-under octets items Announced epoch = success-under 0 epoch Announce []
reply-under octets items Gone epoch = success-under 0 epoch (body_of octets) (told_items None items)
reply-under octets items (Mapped lifetime external address set) epoch =
    success-under lifetime epoch (assigned (body_of octets) external address) (told_items set items)
reply-under octets items (Peered lifetime external address) epoch =
    success-under lifetime epoch (assigned (body_of octets) external address) (told_items None items)

-- A reply of NAT-PMP, whose version is 0, is no response.
no-version : (a b c d e : Bool) → b ≡ false → (a && b && c && d && e) ≡ false
no-version true false c d e h = refl
no-version false false c d e h = refl
no-version a true c d e h = absurd cc

is-front : (text behind : List ℕ) → text ≡ 0 ∷ behind → response_of text ≡ None
is-front text behind spelled =
    let unframed : is_framed text ≡ false = no-version _ (octet text 0 == 2) _ _ _ (ap (λ t. octet t 0 == 2) spelled) in
    ap (λ b. response_under (cond b (option_map (head_with text) (code_of (octet text 3))) None) text) unframed

front-none : (octets : List ℕ) (address : Address) (answer : Answer) (epoch : ℕ) → response_of (front_text octets address answer epoch) ≡ None
front-none octets address answer epoch =
    let mapping = map_reply (operation_of octets) (u16_at octets INTERNAL_PLACE) answer epoch in
    let other = head_front (operation_of octets) (result_told answer) epoch in
    cond_both (operation_of octets == ADDRESS_OPERATION) (address_reply address answer epoch) (cond (is_of_map octets) mapping other)
    (λ t. response_of t ≡ None) (λ _. is-front (address_reply address answer epoch) _ refl)
    (λ _. cond_both (is_of_map octets) mapping other (λ t. response_of t ≡ None) (λ _. is-front mapping _ refl) (λ _. is-front other _ refl))

pub reply-most : (octets : List ℕ) (address : Address) (items : List Item) (answer : Answer) (epoch : ℕ) → TellsAtMost (reply_text_of octets address items answer epoch) epoch
reply-most octets address items answer epoch =
    cond_both (is_front octets) (front_text octets address answer epoch) (reply_text octets items answer epoch) (λ t. TellsAtMost t epoch)
    (λ _. λ x read. let none = front-none octets address answer epoch in absurd cc)
    (λ _. λ x read. told-most (reply_text octets items answer epoch) epoch x (reply-under octets items answer epoch) read)

-- what a relay sends down has the epoch of the reply that it heard
pub down-under : (request : List ℕ) (added : Bool) (r : Response) → IsUnder (down_text request added r) r.epoch
down-under request added r =
    cond_both (is_success r.code) (down_success request added r) (down_error request added r) (λ t. IsUnder t r.epoch)
    (λ _. success-under r.lifetime r.epoch (down_body (nonce_of request) r.body) (down_items added r.items))
    (λ _. cond_both (refuses_added added r.code) (relayed_text request NotAuthorized (lifetime_of NotAuthorized) r.epoch) (relayed_text request r.code r.lifetime r.epoch) (λ t. IsUnder t r.epoch)
    (λ _. refusal-under request (record { code = NotAuthorized; parsed = true; lifetime = lifetime_of NotAuthorized }) r.epoch)
    (λ _. refusal-under request (record { code = r.code; parsed = true; lifetime = r.lifetime }) r.epoch))

-- an update has its own
pub map-update-under : (l : MapLease) (a : Address) (m base : ℕ) → IsUnder (map_update l a m base) (epoch_of m base)
map-update-under l a m base = success-under (left_of l.expiry m) (epoch_of m base) (map_body l a) (map_items l)

pub peer-update-under : (l : PeerLease) (a : Address) (m base : ℕ) → IsUnder (peer_update l a m base) (epoch_of m base)
peer-update-under l a m base = success-under (left_of l.expiry m) (epoch_of m base) (peer_body l a) []

-- ---- requests are no responses

low-opcode : (body : Body) → nat_le 128 (opcode_of_body body) ≡ false
low-opcode Announce = refl
low-opcode (Map c) = refl
low-opcode (Peer c port remote) = refl

and-false : (a b c d : Bool) → b ≡ false → (a && b && c && d) ≡ false
and-false true false c d e = refl
and-false false false c d e = refl
and-false a true c d e = absurd cc

pub no-response : (body : Body) (behind : List ℕ) → response_of (2 ∷ opcode_of_body body ∷ behind) ≡ None
no-response body behind =
    let text = 2 ∷ opcode_of_body body ∷ behind in
    let unframed : is_framed text ≡ false = and-false _ (nat_le 128 (opcode_of_body body)) _ _ (low-opcode body) in
    ap (λ b. response_under (cond b (option_map (head_with text) (code_of (octet text 3))) None) text) unframed

pub request-no-response : (own : Address) (third : Option Address) (ask : Ask) → response_of (request_text own third ask) ≡ None
request-no-response own third ask = no-response (asked_body ask) (0 ∷ 0 ∷ (to_be_bytes w32 (asked_lifetime ask) ++ own.0 ++ body_text (asked_body ask) ++ options_text (map option_of (asked_items third ask))))

pub relayed-no-response : (client : Address) (lifetime : ℕ) (body : Body) (items : List Item) → response_of (request_with client lifetime body items) ≡ None
relayed-no-response client lifetime body items = no-response body (0 ∷ 0 ∷ (to_be_bytes w32 lifetime ++ client.0 ++ body_text body ++ options_text (map option_of items)))
