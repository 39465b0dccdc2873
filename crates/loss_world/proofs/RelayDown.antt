-- What a relay sends down is traced as what came up was, with this relay in front; by itself it grants nothing.
use Rattle.std.specs.Prelude.{Contains, nat_le, nat_lt, not, unwrap_or, length}
use Rattle.std.specs.List.{AllByRecursion}
use Rattle.std.specs.Map.{lookup}
use Rattle.std.specs.Option.{is_none, option_map}
use Rattle.std.proofs.Common.{◌≡◌, ◌≢◌, ◌∙◌, ◌⊎◌, inl, inr, ℕ, ◌<◌, ◌==◌, ◌||◌, Bool, true, false, cond, List, [], ◌∷◌, Option, Some, None, refl, ap, sym, subst}
use Rattle.std.proofs.lemmas.Bool.{cond_both, leb-true}
use Rattle.pcp_base.proofs.Members.{All-filter}
use Rattle.pcp_base.specs.declared.addresses.Address.{Address}
use Rattle.pcp_base.specs.declared.configs.Config.{Config}
use Rattle.pcp_base.specs.declared.addresses.Prefix.{Prefix}
use Rattle.pcp_base.specs.declared.addresses.Nonce.{Nonce}
use Rattle.pcp_base.specs.declared.asks.Answer.{Answer}
use Rattle.pcp_base.specs.declared.asks.Answer.TheVariants.{Refused, Announced}
use Rattle.pcp_base.specs.declared.codes.Code.{Code}
use Rattle.pcp_base.specs.declared.codes.Code.TheVariants as Codes
use Rattle.pcp_base.specs.declared.datagrams.Datagram.{Datagram}
use Rattle.pcp_base.specs.Codes.{lifetime_of}
use Rattle.pcp_base.specs.Refusals.{parsed}
use Rattle.pcp_base.specs.Tables.{same_address}
use Rattle.pcp_codec.specs.declared.layout.TheConstants.{MESSAGE_OCTETS}
use Rattle.pcp_codec.specs.declared.requests.Body.{Body}
use Rattle.pcp_codec.specs.declared.requests.Body.TheVariants.{Announce, Map, Peer}
use Rattle.pcp_codec.specs.declared.requests.Common.{Common}
use Rattle.pcp_codec.specs.Requests.{body_of, common_of, opcode_of}
use Rattle.pcp_options.specs.declared.options.Item.{Item}
use Rattle.pcp_options.specs.declared.responses.Response.{Response}
use Rattle.pcp_options.specs.declared.verdicts.Verdict.{Verdict}
use Rattle.pcp_options.specs.declared.verdicts.Verdict.TheVariants.{Silent, Refuse, Asked}
use Rattle.pcp_options.specs.Asking.{subject_of, third_of}
use Rattle.pcp_options.specs.ReadingLaws.{WrittenSuccessesAreRead, success_read}
use Rattle.pcp_options.specs.ReadResponses.{are_single, is_mapped, is_third, response_of}
use Rattle.pcp_options.specs.Replies.{opcode_of_body, reply_text, success_text}
use Rattle.pcp_options.specs.Responses.{AreOctets, FitsBody, FitsItem}
use Rattle.pcp_options.specs.Verdicts.{verdict_of}
use Rattle.option_laws.specs.Fitting.{ResponsesAreMapped, ResponsesFit}
use Rattle.option_laws.specs.Refusals.{RefusalsAreErrors}
use Rattle.proxy_core.specs.declared.keys.WaitingKey.{WaitingKey}
use Rattle.proxy_core.specs.declared.epochs.Heard.{Heard}
use Rattle.proxy_core.specs.declared.outs.ProxyOut.{ProxyOut}
use Rattle.proxy_core.specs.declared.outs.ProxyOut.TheVariants.{Reply, Up}
use Rattle.proxy_core.specs.declared.waits.Waiting.{Waiting}
use Rattle.proxy_core.specs.Down.{down_body, down_error, down_items, down_success, down_text, is_success, nonce_of, refuses_added, relayed_text, with_nonce}
use Rattle.proxy_core.specs.Everyone.{judged_by}
use Rattle.proxy_core.specs.Keys.{is_key, key_of}
use Rattle.proxy_core.specs.Nonces.{upstream_nonce}
use Rattle.proxy_core.specs.Relays.{Relay, Step, announced, answer_at, answered, asked, at, hearing, judged, matched, on_client, on_server, own_answer, reply_to, response_from, told_epoch, waiting_of}
use Rattle.proxy_core.specs.Runs as Runs
use Rattle.proxy_core.specs.Runs.{next}
use Rattle.proxy_core.specs.Up.{up_body, up_key, up_text}
use Rattle.proxy_core.specs.WaitLaws.{AllAreWaiting, IsWaiting, WaitsAreKept}
use Rattle.proxy_core.specs.Waits.{Waits, is_full, kept, waiting_at}
use Rattle.proxy_core.proofs.KeyLemmas.{equal-key}
use Rattle.lease_histories.specs.HouseHistories.{HouseEntry}
use Rattle.loss_world.specs.Disclosure.{Grants, HasCommon, IsRenumbered, rewritten}
use Rattle.loss_world.specs.Worlds.{Beginning, RelayTerms, Renumbering}
use Rattle.loss_world.proofs.CodeReads.{GrantsNothing, IsPlainAnswer, long-none, plain-grants, refusal-grants}
use Rattle.loss_world.proofs.Held.{AreTold}
use Rattle.loss_world.proofs.RelayFacts.{read-here}
use Rattle.loss_world.proofs.ItemFacts.{single-left, third-left}
use Rattle.loss_world.proofs.Traces.{IsTraced}

-- what the crates below say of all messages and relays
pub record RelayLaws : Type 0 where
  pub fit : ResponsesFit
  pub mapped : ResponsesAreMapped
  pub errors : RefusalsAreErrors
  pub written : WrittenSuccessesAreRead
  pub waits : WaitsAreKept

-- a relay of the beginning, and what waits there
pub record IsOurs (b : Beginning) (relay : Relay) : Type 0 where
  pub terms : RelayTerms
  pub among : Contains b.relays terms
  pub own : relay.own ≡ terms.own
  pub key : relay.key ≡ terms.key
  pub waits : AllAreWaiting relay

pub nothing-told : (T : Option Address → Common → Type 0) (text : List ℕ) → GrantsNothing text
    → AreTold T text
nothing-told T text none r c read success lasts has = absurd (none r c read success has)

-- ---- the relay's own replies

own-at : (relay : Relay) (heard : Option Heard) (d : Datagram) (answer : Answer) (sent : Datagram)
    → IsPlainAnswer answer → answer_at heard relay.last d answer ≡ Reply sent
    → GrantsNothing sent.octets
own-at relay None d answer sent plain e = absurd cc
own-at relay (Some x) d answer sent plain e =
    let same : reply_text d.octets [] answer (told_epoch x relay.last) ≡ sent.octets = cc in
    subst GrantsNothing same (plain-grants d.octets answer (told_epoch x relay.last) plain)

abbrev GrantsBy : ProxyOut → Type 0
GrantsBy out = (sent : Datagram) → out ≡ Reply sent → GrantsNothing sent.octets

asks : (relay : Relay) (d : Datagram) (items : List Item) (key : Option WaitingKey)
    → GrantsBy (asked relay d items key).out
asks relay d items None = λ sent e. own-at relay relay.heard d Announced sent tt e
asks relay d items (Some key) =
    cond_both (is_full key relay.waits || nat_lt MESSAGE_OCTETS (length (up_text relay.key relay.own d items)))
    (record { relay = relay; out = own_answer relay d (Refused (parsed Codes.NoResources)) })
    (record { relay = record relay { waits = kept key (waiting_of d items relay.last) relay.waits }; out = Up (up_text relay.key relay.own d items) })
    (λ (step : Step ProxyOut). GrantsBy step.out)
    (λ _. λ sent e. own-at relay relay.heard d (Refused (parsed Codes.NoResources)) sent (λ same. absurd cc) e)
    (λ _. λ sent e. absurd cc)

judges : RefusalsAreErrors → (config : Config) (relay : Relay) (d : Datagram) (v : Verdict)
    → verdict_of config d.peer d.octets ≡ v → GrantsBy (judged relay d v).out
judges law config relay d Silent is = λ sent e. absurd cc
judges law config relay d (Refuse refusal) is =
    λ sent e. own-at relay relay.heard d (Refused refusal) sent (law config d.peer d.octets refusal is) e
judges law config relay d (Asked place ask items) is = asks relay d items (up_key relay.key d items)

pub own-grants : RefusalsAreErrors → (relay : Relay) (d : Datagram) (now : ℕ) (sent : Datagram)
    → (on_client relay d now).out ≡ Reply sent → GrantsNothing sent.octets
own-grants law relay d now = judges law (judged_by relay.third_party) (at relay now) d (verdict_of (judged_by relay.third_party) d.peer d.octets) refl

-- ---- the request that waits

found-by : (trusts : List Prefix) (k : List ℕ) (key : WaitingKey) (e : WaitingKey × Waiting) (rest : Waits) (w : Waiting)
    (b : Bool) → is_key key e.0 ≡ b → IsWaiting trusts k e
    → (lookup (is_key key) rest ≡ Some w → IsWaiting trusts k (key, w))
    → cond b (Some e.1) (lookup (is_key key) rest) ≡ Some w → IsWaiting trusts k (key, w)
found-by trusts k key e rest w true is this f h =
    let same : e.1 ≡ w = cc in
    let keys = equal-key key e.0 is in
    subst (λ x. IsWaiting trusts k (key, x)) same (subst (λ x. IsWaiting trusts k (x, e.1)) (sym keys) this)
found-by trusts k key e rest w false is this f h = f h

found : (trusts : List Prefix) (k : List ℕ) (key : WaitingKey) (es : Waits) (w : Waiting)
    → AllByRecursion (IsWaiting trusts k) es → waiting_at key es ≡ Some w → IsWaiting trusts k (key, w)
found trusts k key [] w all h = absurd cc
found trusts k key (e ∷ es) w all h =
    found-by trusts k key e es w (is_key key e.0) refl all.0 (λ t. found trusts k key es w all.1 t) h

-- the nonce and the third party of a key
pub record IsKeyOf (key : WaitingKey) (asked : Nonce) (subject : Option Address) : Type 0 where
  pub nonce : key.nonce ≡ asked
  pub third : key.third ≡ subject

keyed : (body : Body) (third : Option Address) (key : WaitingKey) (c : Common)
    → key_of body third ≡ Some key → HasCommon body c → IsKeyOf key c.nonce third
keyed Announce third key c h has = absurd has
keyed (Map a) third key c h has =
    let of : a.nonce ≡ key.nonce = cc in
    let by : third ≡ key.third = cc in
    record { nonce = sym of ∙ ap (λ (x : Common). x.nonce) has; third = sym by }
keyed (Peer a port remote) third key c h has =
    let of : a.nonce ≡ key.nonce = cc in
    let by : third ≡ key.third = cc in
    record { nonce = sym of ∙ ap (λ (x : Common). x.nonce) has; third = sym by }

keyed-up : (k : List ℕ) (client : Address) (body : Body) (third : Option Address) (key : WaitingKey)
    (nonce : Nonce) → ((c : Common) → HasCommon body c → c.nonce ≡ nonce)
    → key_of (up_body k client body) third ≡ Some key
    → IsKeyOf key (upstream_nonce k client nonce) third
keyed-up k client Announce third key nonce f h = absurd cc
keyed-up k client (Map a) third key nonce f h =
    let of : upstream_nonce k client a.nonce ≡ key.nonce = cc in
    let by : third ≡ key.third = cc in
    record { nonce = sym of ∙ ap (upstream_nonce k client) (f a refl); third = sym by }
keyed-up k client (Peer a port remote) third key nonce f h =
    let of : upstream_nonce k client a.nonce ≡ key.nonce = cc in
    let by : third ≡ key.third = cc in
    record { nonce = sym of ∙ ap (upstream_nonce k client) (f a refl); third = sym by }

-- the nonce of a request
asked-nonce : (request : List ℕ) (c : Common) → HasCommon (body_of request) c
    → c.nonce ≡ nonce_of request
asked-nonce request c has = by (opcode_of request == 0) (opcode_of request == 1) _ _ has
  where
    by : (a b : Bool) (port : ℕ) (remote : Address)
        → HasCommon (cond a Announce (cond b (Map (common_of request)) (Peer (common_of request) port remote))) c
        → c.nonce ≡ nonce_of request
    by true b port remote h = absurd h
    by false true port remote h = sym (ap (λ (x : Common). x.nonce) h)
    by false false port remote h = sym (ap (λ (x : Common). x.nonce) h)

-- ---- a success goes down

-- the data that went down are those that came, with the client's nonce
pub record IsDown (body : Body) (nonce : Nonce) (c : Common) : Type 0 where
  pub came : Common
  pub has : HasCommon body came
  pub same : with_nonce came nonce ≡ c

gone-down : (nonce : Nonce) (body : Body) (c : Common) → HasCommon (down_body nonce body) c
    → IsDown body nonce c
gone-down nonce Announce c h = absurd h
gone-down nonce (Map a) c h = record { came = a; has = refl; same = h }
gone-down nonce (Peer a port remote) c h = record { came = a; has = refl; same = h }

-- the address for which a success is, where the relay added it and where it didn't
subject : (client own : Address) (items : List Item) (asked came : Option Address) (added : Bool)
    → third_of items ≡ came → came ≡ Some (subject_of client asked) → added ≡ is_none asked
    → unwrap_or (third_of (down_items added items)) client ≡ unwrap_or came own
subject client own items None came true there is by =
    ap (λ x. unwrap_or x client) (third-left items) ∙ sym (ap (λ x. unwrap_or x own) is)
subject client own items None came false there is by = absurd cc
subject client own items (Some a) came true there is by = absurd cc
subject client own items (Some a) came false there is by =
    ap (λ x. unwrap_or x client) (there ∙ is) ∙ sym (ap (λ x. unwrap_or x own) is)

told-address : (rs : List Renumbering) (h : HouseEntry) (told came after : Address) → came ≡ after
    → (told ≡ came) ⊎ IsRenumbered rs h came → (told ≡ after) ⊎ IsRenumbered rs h after
told-address rs h told came after same (inl e) = inl (e ∙ same)
told-address rs h told came after same (inr r) = inr (subst (IsRenumbered rs h) same r)

-- a success for the request that waits is traced, with this relay in front
traced-down : (b : Beginning) (history : List HouseEntry) (rs : List Renumbering) (relay : Relay)
    → IsOurs b relay → (w : Waiting) (r : Response) (key : WaitingKey) (c : Common)
    → key_of r.body (third_of r.items) ≡ Some key → IsWaiting relay.third_party relay.key (key, w)
    → ((a : Common) → HasCommon r.body a → IsTraced b history rs relay.own (third_of r.items) a)
    → HasCommon (down_body (nonce_of w.request) r.body) c
    → IsTraced b history rs w.client (third_of (down_items w.added r.items)) c
traced-down b history rs relay ours w r key c at is told has =
    let d = gone-down (nonce_of w.request) r.body c has in
    let t = told d.came d.has in
    let asked = third_of is.items in
    let up = keyed r.body (third_of r.items) key d.came at d.has in
    let by = keyed-up relay.key w.client (body_of w.request) (Some (subject_of w.client asked)) key (nonce_of w.request) (asked-nonce w.request) is.keyed in
    let third : third_of r.items ≡ Some (subject_of w.client asked) = sym up.third ∙ by.third in
    let nonce : d.came.nonce ≡ upstream_nonce relay.key w.client (nonce_of w.request) = sym up.nonce ∙ by.nonce in
    let front = ours.terms in
    let subject_is = subject w.client relay.own r.items asked (third_of r.items) w.added refl third is.added in
    record {
      entry = t.entry;
      among = t.among;
      told = t.told;
      grants = subst (Grants t.entry t.told) (sym subject_is) t.grants;
      relays = front ∷ t.relays;
      on_the_way = (ours.among, t.on_the_way);
      rewritten_to = t.rewritten_to
          ∙ (ap (λ a. rewritten t.relays a d.came.nonce) ours.own
          ∙ (ap (rewritten t.relays front.own) nonce
          ∙ (ap (λ k. rewritten t.relays front.own (upstream_nonce k w.client (nonce_of w.request))) ours.key
          ∙ ap (λ (x : Common). rewritten t.relays front.own (upstream_nonce front.key w.client x.nonce)) d.same)));
      protocol = t.protocol ∙ ap (λ (x : Common). x.protocol) d.same;
      internal = t.internal ∙ ap (λ (x : Common). x.internal) d.same;
      external = t.external ∙ ap (λ (x : Common). x.external) d.same;
      address = told-address rs t.entry t.told.address d.came.address c.address (ap (λ (x : Common). x.address) d.same) t.address;
    }

-- ---- what is written is read

fits-down : (request : List ℕ) (body : Body) → FitsBody body → FitsBody (down_body (nonce_of request) body)
fits-down request Announce h = tt
fits-down request (Map c) h = (refl, h.1, h.2, h.3)
fits-down request (Peer c port remote) h = ((refl, h.0.1, h.0.2, h.0.3), h.1, h.2)

mapped-down : (nonce : Nonce) (body : Body) → is_mapped body ≡ true → is_mapped (down_body nonce body) ≡ true
mapped-down nonce Announce h = refl
mapped-down nonce (Map c) h = h
mapped-down nonce (Peer c port remote) h = h

items-down : (added : Bool) (items : List Item) → AllByRecursion FitsItem items
    → AllByRecursion FitsItem (down_items added items)
items-down true items h = All-filter FitsItem (λ item. not (is_third item)) items h
items-down false items h = h

single-down : (added : Bool) (items : List Item) → are_single items ≡ true
    → are_single (down_items added items) ≡ true
single-down true items h = single-left (λ item. not (is_third item)) items h
single-down false items h = h

success-down : RelayLaws → (b : Beginning) (history : List HouseEntry) (rs : List Renumbering)
    (relay : Relay) → IsOurs b relay → (octets : List ℕ) (w : Waiting) (r : Response)
    (key : WaitingKey) → AreOctets octets → response_of octets ≡ Some r → r.code ≡ Codes.Success
    → key_of r.body (third_of r.items) ≡ Some key → IsWaiting relay.third_party relay.key (key, w)
    → AreTold (IsTraced b history rs relay.own) octets
    → AreTold (IsTraced b history rs w.client) (down_success w.request w.added r)
success-down laws b history rs relay ours octets w r key are read0 success0 at is told x c read success lasts has =
    by (nat_le (length text) 1100) refl
  where
    nonce : Nonce
    nonce = nonce_of w.request

    body : Body
    body = down_body nonce r.body

    items : List Item
    items = down_items w.added r.items

    text : List ℕ
    text = success_text r.lifetime r.epoch body items

    by : (short : Bool) → nat_le (length text) 1100 ≡ short
        → IsTraced b history rs w.client (third_of x.items) c
    by false h = let none = long-none text h in absurd cc
    by true h =
        let fits = laws.fit octets r are read0 in
        let mapped = laws.mapped octets r read0 in
        let written = laws.written r.lifetime r.epoch body items fits.lifetime fits.epoch (fits-down w.request r.body fits.body)
        (items-down w.added r.items fits.items) (mapped-down nonce r.body mapped.mapped)
        (single-down w.added r.items (mapped.single success0)) (leb-true (length text) 1100 h) in
        let same : success_read (opcode_of_body body) r.lifetime r.epoch body items ≡ x = cc in
        subst (λ (y : Response). 0 < y.lifetime → HasCommon y.body c → IsTraced b history rs w.client (third_of y.items) c) same
        (λ lasting there. traced-down b history rs relay ours w r key c at is (λ a k. told r a read0 success0 lasting k) there) lasts has

-- ---- and an error grants nothing

is-success : (code : Code) → is_success code ≡ true → code ≡ Codes.Success
is-success Codes.Success h = refl
is-success Codes.UnsuppVersion h = absurd cc
is-success Codes.NotAuthorized h = absurd cc
is-success Codes.MalformedRequest h = absurd cc
is-success Codes.UnsuppOpcode h = absurd cc
is-success Codes.UnsuppOption h = absurd cc
is-success Codes.MalformedOption h = absurd cc
is-success Codes.NetworkFailure h = absurd cc
is-success Codes.NoResources h = absurd cc
is-success Codes.UnsuppProtocol h = absurd cc
is-success Codes.UserExQuota h = absurd cc
is-success Codes.CannotProvideExternal h = absurd cc
is-success Codes.AddressMismatch h = absurd cc
is-success Codes.ExcessiveRemotePeers h = absurd cc

no-success : (code : Code) → is_success code ≡ false → code ≢ Codes.Success
no-success code h e = let bad : is_success Codes.Success ≡ false = subst (λ c. is_success c ≡ false) e h in absurd cc

error-down : (request : List ℕ) (added : Bool) (r : Response) → is_success r.code ≡ false
    → GrantsNothing (down_error request added r)
error-down request added r h =
    cond_both (refuses_added added r.code) (relayed_text request Codes.NotAuthorized (lifetime_of Codes.NotAuthorized) r.epoch) (relayed_text request r.code r.lifetime r.epoch) GrantsNothing
    (λ _. refusal-grants request (record { code = Codes.NotAuthorized; parsed = true; lifetime = lifetime_of Codes.NotAuthorized }) r.epoch (λ same. absurd cc))
    (λ _. refusal-grants request (record { code = r.code; parsed = true; lifetime = r.lifetime }) r.epoch (no-success r.code h))

down-told : RelayLaws → (b : Beginning) (history : List HouseEntry) (rs : List Renumbering)
    (relay : Relay) → IsOurs b relay → (octets : List ℕ) (w : Waiting) (r : Response)
    (key : WaitingKey) → AreOctets octets → response_of octets ≡ Some r
    → key_of r.body (third_of r.items) ≡ Some key → IsWaiting relay.third_party relay.key (key, w)
    → AreTold (IsTraced b history rs relay.own) octets
    → AreTold (IsTraced b history rs w.client) (down_text w.request w.added r)
down-told laws b history rs relay ours octets w r key are read at is told =
    cond_both (is_success r.code) (down_success w.request w.added r) (down_error w.request w.added r) (AreTold (IsTraced b history rs w.client))
    (λ yes. success-down laws b history rs relay ours octets w r key are read (is-success r.code yes) at is told)
    (λ fails. nothing-told (IsTraced b history rs w.client) (down_error w.request w.added r) (error-down w.request w.added r fails))

-- ---- datagrams of the server

keyless : (body : Body) (third : Option Address) (c : Common) → key_of body third ≡ None
    → HasCommon body c → ⊥
keyless Announce third c h has = has
keyless (Map a) third c h has = absurd cc
keyless (Peer a port remote) third c h has = absurd cc

announced-told : (d : Datagram) (r : Response) → response_of d.octets ≡ Some r
    → key_of r.body (third_of r.items) ≡ None → GrantsNothing d.octets
announced-told d r read none x c again success has =
    let same : x ≡ r = cc in
    keyless r.body (third_of r.items) c none (subst (λ (y : Response). HasCommon y.body c) same has)

module _ (laws : RelayLaws) (b : Beginning) (history : List HouseEntry) (rs : List Renumbering) (relay : Relay) (ours : IsOurs b relay) (d : Datagram) (are : AreOctets d.octets) (told : AreTold (IsTraced b history rs relay.own) d.octets) (sent : Datagram) where
  abbrev Told : Datagram → Type 0
  Told x = AreTold (IsTraced b history rs x.peer) x.octets

  waits-told : (r : Response) (key : WaitingKey) (w : Option Waiting) → response_of d.octets ≡ Some r
      → key_of r.body (third_of r.items) ≡ Some key → waiting_at key relay.waits ≡ w
      → option_map (reply_to r) w ≡ Some sent → Told sent
  waits-told r key None read at there h = absurd cc
  waits-told r key (Some w) read at there h =
      let same : reply_to r w ≡ sent = cc in
      subst Told same (down-told laws b history rs relay ours d.octets w r key are read at (found relay.third_party relay.key key relay.waits w ours.waits there) told)

  matched-told : (now : ℕ) (r : Response) (key : Option WaitingKey) → response_of d.octets ≡ Some r
      → key_of r.body (third_of r.items) ≡ key
      → (matched (hearing (at relay now) r.epoch) d r key).out ≡ Some sent → Told sent
  matched-told now r None read at h =
      let same : announced d ≡ sent = cc in
      subst Told same (nothing-told (IsTraced b history rs (announced d).peer) d.octets (announced-told d r read at))
  matched-told now r (Some key) read at h = waits-told r key (waiting_at key relay.waits) read at refl h

  read-told : (now : ℕ) (read : Option Response) → ((r : Response) → read ≡ Some r → response_of d.octets ≡ Some r)
      → (answered (at relay now) d read).out ≡ Some sent → Told sent
  read-told now None f h = absurd cc
  read-told now (Some r) f h = matched-told now r (key_of r.body (third_of r.items)) (f r refl) refl h

  pub server-told : (now : ℕ) → (on_server relay d now).out ≡ Some sent → Told sent
  server-told now h =
      read-told now (response_from relay.server d) (λ r e. read-here (same_address d.peer relay.server) (response_of d.octets) r e) h

-- ---- the relay stays one of the beginning

pub ours-next : WaitsAreKept → (b : Beginning) (relay : Relay) (event : Runs.Event) → IsOurs b relay
    → IsOurs b (next relay event)
ours-next law b relay event h =
    let k = law relay event h.waits in
    record { terms = h.terms; among = h.among; own = k.0.own ∙ h.own; key = k.0.key ∙ h.key; waits = k.1 }
