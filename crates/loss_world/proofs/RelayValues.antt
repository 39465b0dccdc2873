-- Messages are of octets, and of version 2: what a relay sends is so where what came to it is.
use Rattle.std.specs.Int.{to_be_bytes, w32}
use Rattle.std.specs.List.{AllByRecursion}
use Rattle.std.specs.Map.{lookup, remove_entry}
use Rattle.std.specs.Option.{option_map}
use Rattle.std.specs.Prelude.{⊤, length, max, nat_lt, not, slice_index, take}
use Rattle.std.proofs.Common.{◌≡◌, ℕ, zero, suc, ◌+◌, ◌<◌, ◌||◌, Bool, true, false, cond, List, [], ◌∷◌, ◌++◌, Option, Some, None, refl, subst, arith}
use Rattle.std.proofs.lemmas.Bool.{cond_both}
use Rattle.sha2.specs.Sha256.{digest_bytes, final_hash, initial_hash_256, sha256}
use Rattle.pcp_base.proofs.Members.{All-filter}
use Rattle.pcp_base.specs.declared.addresses.Address.{Address}
use Rattle.pcp_base.specs.declared.configs.Config.{Config}
use Rattle.pcp_base.specs.declared.addresses.Nonce.{Nonce}
use Rattle.pcp_base.specs.declared.asks.Answer.TheVariants.{Refused, Announced}
use Rattle.pcp_base.specs.declared.asks.Refusal.{Refusal}
use Rattle.pcp_base.specs.declared.codes.Code.TheVariants as Codes
use Rattle.pcp_base.specs.declared.datagrams.Datagram.{Datagram}
use Rattle.pcp_base.specs.Codes.{lifetime_of}
use Rattle.pcp_base.specs.Refusals.{parsed}
use Rattle.pcp_base.specs.Tables.{same_address}
use Rattle.pcp_codec.specs.declared.layout.TheConstants.{MESSAGE_OCTETS}
use Rattle.pcp_codec.specs.declared.requests.Body.{Body}
use Rattle.pcp_codec.specs.declared.requests.Body.TheVariants.{Announce, Map, Peer}
use Rattle.pcp_codec.specs.Fields.{octet, octets_at}
use Rattle.pcp_codec.specs.Replies.{refusal_text}
use Rattle.pcp_codec.specs.Requests.{body_of, frame_of}
use Rattle.pcp_options.specs.declared.options.Item.{Item}
use Rattle.pcp_options.specs.declared.responses.Response.{Response}
use Rattle.pcp_options.specs.declared.verdicts.Verdict.{Verdict}
use Rattle.pcp_options.specs.declared.verdicts.Verdict.TheVariants.{Silent, Refuse, Asked}
use Rattle.pcp_options.specs.Asking.{third_of}
use Rattle.pcp_options.specs.ReadResponses.{is_third, response_of}
use Rattle.pcp_options.specs.Replies.{success_text}
use Rattle.pcp_options.specs.Responses.{AreOctets}
use Rattle.pcp_options.specs.Verdicts.{verdict_of}
use Rattle.option_laws.specs.Octets.{OctetsAreAsked, OctetsAreRead, OctetsBody, OctetsItem, RefusalsAreOctets, RequestsAreOctets, SuccessesAreOctets}
use Rattle.proxy_core.specs.declared.epochs.Heard.{Heard}
use Rattle.proxy_core.specs.declared.keys.WaitingKey.{WaitingKey}
use Rattle.proxy_core.specs.declared.outs.ProxyOut.{ProxyOut}
use Rattle.proxy_core.specs.declared.outs.ProxyOut.TheVariants.{Nothing, Reply, Up}
use Rattle.proxy_core.specs.declared.waits.Waiting.{Waiting}
use Rattle.proxy_core.specs.Down.{down_body, down_error, down_items, down_success, down_text, is_success, nonce_of, refuses_added, relayed_text}
use Rattle.proxy_core.specs.Everyone.{judged_by}
use Rattle.proxy_core.specs.Keys.{is_key, key_of}
use Rattle.proxy_core.specs.Nonces.{upstream_nonce}
use Rattle.proxy_core.specs.Relays.{Relay, Step, answer_at, answered, asked, at, hearing, judged, matched, on_client, on_server, on_tick, own_answer, reply_to, response_from, told_epoch, waiting_of}
use Rattle.proxy_core.specs.Up.{up_body, up_items, up_key, up_text, with_third}
use Rattle.proxy_core.specs.Waits.{Waits, is_full, is_over, kept, waiting_at}
use Rattle.loss_world.proofs.RelayFacts.{read-here}

-- what the crate of options says of all messages
pub record OctetLaws : Type 0 where
  pub requests : RequestsAreOctets
  pub successes : SuccessesAreOctets
  pub refusals : RefusalsAreOctets
  pub read : OctetsAreRead
  pub asked : OctetsAreAsked

pub record IsMessage (text : List ℕ) : Type 0 where
  pub octets : AreOctets text
  pub version : octet text 0 ≡ 2

-- ---- the nonce of a relay

take-octets : (n : ℕ) (text : List ℕ) → AreOctets text → AreOctets (take n text)
take-octets zero text h i = omega arith
take-octets (suc n) [] h i = omega arith
take-octets (suc n) (x ∷ text) h zero = h zero
take-octets (suc n) (x ∷ text) h (suc i) = take-octets n text (λ j. h (suc j)) i

both : (xs ys : List ℕ) → AreOctets xs → AreOctets ys → AreOctets (xs ++ ys)
both [] ys h k i = k i
both (x ∷ xs) ys h k zero = h zero
both (x ∷ xs) ys h k (suc i) = both xs ys (λ j. h (suc j)) k i

word-octets : (a b c d : ℕ) → a < 256 → b < 256 → c < 256 → d < 256 → AreOctets (a ∷ b ∷ c ∷ d ∷ [])
word-octets a b c d w x y z zero = w
word-octets a b c d w x y z (suc zero) = x
word-octets a b c d w x y z (suc (suc zero)) = y
word-octets a b c d w x y z (suc (suc (suc zero))) = z
word-octets a b c d w x y z (suc (suc (suc (suc i)))) = omega arith

digest-octets : (h : List ℕ) (n : ℕ) → AreOctets (digest_bytes h n)
unfolding digest_bytes
digest-octets h zero i = omega arith
digest-octets h (suc n) i =
    both (digest_bytes h n) (to_be_bytes w32 (slice_index h n)) (digest-octets h n)
    (word-octets _ _ _ _ (omega arith) (omega arith) (omega arith) (omega arith)) i

sha-octets : (m : List ℕ) → AreOctets (sha256 m)
unfolding sha256
sha-octets m = digest-octets (final_hash initial_hash_256 m) 8

nonce-octets : (key : List ℕ) (client : Address) (nonce : Nonce) → AreOctets (upstream_nonce key client nonce).0
nonce-octets key client nonce = take-octets 12 (sha256 (key ++ client.0 ++ nonce.0)) (sha-octets (key ++ client.0 ++ nonce.0))

-- ---- texts

pub success-message : OctetLaws → (lifetime epoch : ℕ) (body : Body) (items : List Item) → OctetsBody body
    → AllByRecursion OctetsItem items → IsMessage (success_text lifetime epoch body items)
success-message laws lifetime epoch body items b is =
    record { octets = laws.successes lifetime epoch body items b is; version = refl }

pub refusal-message : OctetLaws → (request : List ℕ) (refusal : Refusal) (epoch : ℕ) → AreOctets request
    → IsMessage (refusal_text request refusal epoch)
refusal-message laws request refusal epoch h =
    record { octets = laws.refusals request refusal epoch h; version = refl }

-- ---- what waits

abbrev RequestIsValue : WaitingKey × Waiting → Type 0
RequestIsValue e = AreOctets e.1.request

pub record RelayIsValue (relay : Relay) : Type 0 where
  pub own : AreOctets relay.own.0
  pub waits : AllByRecursion RequestIsValue relay.waits

removed : (test : WaitingKey → Bool) (es : Waits) → AllByRecursion RequestIsValue es
    → AllByRecursion RequestIsValue (remove_entry test es)
removed test [] h = tt
removed test (e ∷ es) h =
    cond_both (test e.0) es (e ∷ remove_entry test es) (AllByRecursion RequestIsValue) (λ _. h.1) (λ _. (h.0, removed test es h.1))

found-by : (b : Bool) (e : WaitingKey × Waiting) (rest : Option Waiting) (w : Waiting) → RequestIsValue e
    → (rest ≡ Some w → AreOctets w.request) → cond b (Some e.1) rest ≡ Some w → AreOctets w.request
found-by true e rest w h f is = let same : e.1 ≡ w = cc in subst (λ (x : Waiting). AreOctets x.request) same h
found-by false e rest w h f is = f is

found : (test : WaitingKey → Bool) (es : Waits) (w : Waiting) → AllByRecursion RequestIsValue es
    → lookup test es ≡ Some w → AreOctets w.request
found test [] w h is = absurd cc
found test (e ∷ es) w h is = found-by (test e.0) e (lookup test es) w h.0 (λ k. found test es w h.1 k) is

-- ---- datagrams of clients

abbrev pub OutIsMessage : ProxyOut → Type 0
OutIsMessage Nothing = ⊤
OutIsMessage (Reply sent) = IsMessage sent.octets
OutIsMessage (Up octets) = IsMessage octets

abbrev IsClientStep : Step ProxyOut → Type 0
IsClientStep step = RelayIsValue step.relay × OutIsMessage step.out

refused-at : OctetLaws → (heard : Option Heard) (now : ℕ) (d : Datagram) (refusal : Refusal) → AreOctets d.octets
    → OutIsMessage (answer_at heard now d (Refused refusal))
refused-at laws None now d refusal h = tt
refused-at laws (Some x) now d refusal h = refusal-message laws d.octets refusal (told_epoch x now) h

announced-at : OctetLaws → (heard : Option Heard) (now : ℕ) (d : Datagram) → OutIsMessage (answer_at heard now d Announced)
announced-at laws None now d = tt
announced-at laws (Some x) now d = success-message laws 0 (told_epoch x now) Announce [] tt tt

up-octets : (key : List ℕ) (client : Address) (body : Body) → OctetsBody body → OctetsBody (up_body key client body)
up-octets key client Announce h = tt
up-octets key client (Map c) h = (nonce-octets key client c.nonce, h.1, h.2)
up-octets key client (Peer c port remote) h = ((nonce-octets key client c.nonce, h.0.1, h.0.2), h.1)

with-octets : (client : Address) (items : List Item) (third : Option Address) → AreOctets client.0
    → AllByRecursion OctetsItem items → AllByRecursion OctetsItem (with_third client items third)
with-octets client items None c h = (c, h)
with-octets client items (Some third) c h = h

up-message : OctetLaws → (relay : Relay) (d : Datagram) (items : List Item) → AreOctets relay.own.0 → AreOctets d.peer.0
    → OctetsBody (body_of d.octets) → AllByRecursion OctetsItem items → IsMessage (up_text relay.key relay.own d items)
up-message laws relay d items own peer b is = record {
  octets = laws.requests relay.own (frame_of d.octets).lifetime (up_body relay.key d.peer (body_of d.octets)) (up_items d.peer items) own
      (up-octets relay.key d.peer (body_of d.octets) b) (with-octets d.peer items (third_of items) peer is);
  version = refl;
}

asks : OctetLaws → (relay : Relay) (d : Datagram) (items : List Item) (key : Option WaitingKey) → RelayIsValue relay
    → AreOctets d.peer.0 → AreOctets d.octets → OctetsBody (body_of d.octets) → AllByRecursion OctetsItem items
    → IsClientStep (asked relay d items key)
asks laws relay d items None h peer are b is = (h, announced-at laws relay.heard relay.last d)
asks laws relay d items (Some key) h peer are b is =
    cond_both (is_full key relay.waits || nat_lt MESSAGE_OCTETS (length (up_text relay.key relay.own d items)))
    (record { relay = relay; out = own_answer relay d (Refused (parsed Codes.NoResources)) })
    (record { relay = record relay { waits = kept key (waiting_of d items relay.last) relay.waits }; out = Up (up_text relay.key relay.own d items) })
    IsClientStep
    (λ _. (h, refused-at laws relay.heard relay.last d (parsed Codes.NoResources) are))
    (λ _. (
      record { own = h.own; waits = (are, removed (is_key key) relay.waits h.waits) },
      up-message laws relay d items h.own peer b is,
    ))

judges : OctetLaws → (config : Config) (relay : Relay) (d : Datagram) (v : Verdict) → RelayIsValue relay → AreOctets d.peer.0
    → AreOctets d.octets → verdict_of config d.peer d.octets ≡ v → IsClientStep (judged relay d v)
judges laws config relay d Silent h peer are is = (h, tt)
judges laws config relay d (Refuse refusal) h peer are is = (h, refused-at laws relay.heard relay.last d refusal are)
judges laws config relay d (Asked place ask items) h peer are is =
    let octets = laws.asked config d.peer d.octets place ask items are is in
    asks laws relay d items (up_key relay.key d items) h peer are octets.0 octets.1

pub client-message : OctetLaws → (relay : Relay) (d : Datagram) (now : ℕ) → RelayIsValue relay → AreOctets d.peer.0
    → AreOctets d.octets → IsClientStep (on_client relay d now)
client-message laws relay d now h peer are =
    judges laws (judged_by relay.third_party) (at relay now) d (verdict_of (judged_by relay.third_party) d.peer d.octets) (record { own = h.own; waits = h.waits }) peer are refl

-- ---- datagrams of the server

slice : (message : List ℕ) → AreOctets message → (place n : ℕ) → AreOctets (octets_at message place n)
slice message h place zero i = omega arith
slice message h place (suc n) zero = h place
slice message h place (suc n) (suc i) = slice message h (place + 1) n i

down-octets : (request : List ℕ) (body : Body) → AreOctets request → OctetsBody body
    → OctetsBody (down_body (nonce_of request) body)
down-octets request Announce are h = tt
down-octets request (Map c) are h = (slice request are 24 12, h.1, h.2)
down-octets request (Peer c port remote) are h = ((slice request are 24 12, h.0.1, h.0.2), h.1)

left-octets : (added : Bool) (items : List Item) → AllByRecursion OctetsItem items → AllByRecursion OctetsItem (down_items added items)
left-octets true items h = All-filter OctetsItem (λ item. not (is_third item)) items h
left-octets false items h = h

down-message : OctetLaws → (octets request : List ℕ) (added : Bool) (r : Response) → AreOctets octets
    → response_of octets ≡ Some r → AreOctets request → IsMessage (down_text request added r)
down-message laws octets request added r are read h =
    let of = laws.read octets r are read in
    cond_both (is_success r.code) (down_success request added r) (down_error request added r) IsMessage
    (λ _. success-message laws r.lifetime r.epoch (down_body (nonce_of request) r.body) (down_items added r.items) (down-octets request r.body h of.0) (left-octets added r.items of.1))
    (λ _. cond_both (refuses_added added r.code) (relayed_text request Codes.NotAuthorized (lifetime_of Codes.NotAuthorized) r.epoch) (relayed_text request r.code r.lifetime r.epoch) IsMessage
    (λ _. refusal-message laws request (record { code = Codes.NotAuthorized; parsed = true; lifetime = lifetime_of Codes.NotAuthorized }) r.epoch h)
    (λ _. refusal-message laws request (record { code = r.code; parsed = true; lifetime = r.lifetime }) r.epoch h))

abbrev pub SentIsMessage : Option Datagram → Type 0
SentIsMessage None = ⊤
SentIsMessage (Some sent) = IsMessage sent.octets

abbrev IsServerStep : Step (Option Datagram) → Type 0
IsServerStep step = RelayIsValue step.relay × SentIsMessage step.out

told-message : OctetLaws → (octets : List ℕ) (r : Response) (w : Option Waiting) → AreOctets octets → response_of octets ≡ Some r
    → ((x : Waiting) → w ≡ Some x → AreOctets x.request) → SentIsMessage (option_map (reply_to r) w)
told-message laws octets r None are read f = tt
told-message laws octets r (Some w) are read f = down-message laws octets w.request w.added r are read (f w refl)

matches : OctetLaws → (relay : Relay) (d : Datagram) (r : Response) (key : Option WaitingKey) → RelayIsValue relay
    → IsMessage d.octets → response_of d.octets ≡ Some r → IsServerStep (matched relay d r key)
matches laws relay d r None h is read = (h, is)
matches laws relay d r (Some key) h is read = (
  record { own = h.own; waits = removed (is_key key) relay.waits h.waits },
  told-message laws d.octets r (waiting_at key relay.waits) is.octets read (λ w k. found (is_key key) relay.waits w h.waits k),
)

answering : OctetLaws → (relay : Relay) (d : Datagram) (read : Option Response) → RelayIsValue relay → IsMessage d.octets
    → ((r : Response) → read ≡ Some r → response_of d.octets ≡ Some r) → IsServerStep (answered relay d read)
answering laws relay d None h is f = (h, tt)
answering laws relay d (Some r) h is f =
    matches laws (hearing relay r.epoch) d r (key_of r.body (third_of r.items)) (record { own = h.own; waits = h.waits }) is (f r refl)

pub server-message : OctetLaws → (relay : Relay) (d : Datagram) (now : ℕ) → RelayIsValue relay → IsMessage d.octets
    → IsServerStep (on_server relay d now)
server-message laws relay d now h is =
    answering laws (at relay now) d (response_from relay.server d) (record { own = h.own; waits = h.waits }) is
    (λ r k. read-here (same_address d.peer relay.server) (response_of d.octets) r k)

pub tick-value : (relay : Relay) (now : ℕ) → RelayIsValue relay → RelayIsValue (on_tick relay now).relay
tick-value relay now h = record {
  own = h.own;
  waits = All-filter RequestIsValue (λ e. not (is_over (max relay.last now) e)) relay.waits h.waits;
}
