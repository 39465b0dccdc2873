-- What is asked is well formed.
use Rattle.std.specs.List.{AllByRecursion, cons_option}
use Rattle.std.specs.Prelude.{IfSome, ⊤}
use Rattle.std.proofs.Common.{◌≡◌, ℕ, ◌^◌, ◌<◌, ◌≤◌, ◌==◌, ◌||◌, nat_lt, not, Bool, true, false, cond, List, [], ◌∷◌, ◌++◌, length, Option, Some, None, Result, Ok, Err, refl, ap, sym, subst, arith}
use Rattle.std.proofs.lemmas.Bool.{not-false, eqb-true, eqb-false, ltb-false}
use Rattle.pcp_base.specs.declared.addresses.Address.{Address}
use Rattle.pcp_base.specs.declared.leases.Endpoint.{Endpoint}
use Rattle.pcp_base.specs.declared.leases.Filter as Filters
use Rattle.pcp_base.specs.declared.leases.Protocol.{Protocol}
use Rattle.pcp_base.specs.declared.codes.Code.{Code}
use Rattle.pcp_base.specs.declared.codes.Code.TheVariants.{MalformedRequest}
use Rattle.pcp_base.specs.declared.asks.PortSet as Sets
use Rattle.pcp_base.specs.declared.asks.Refusal.{Refusal}
use Rattle.pcp_base.specs.declared.asks.Ask.{Ask}
use Rattle.pcp_base.specs.declared.asks.Ask.TheVariants as Asks
use Rattle.pcp_base.specs.declared.configs.Config.{Config}
use Rattle.pcp_base.specs.Asks.{IsPort, IsWellFormedAsk}
use Rattle.pcp_base.specs.Cases.{first_case}
use Rattle.pcp_base.specs.Pairing.{place_of}
use Rattle.pcp_base.specs.Protocols.{protocol_of}
use Rattle.pcp_codec.specs.declared.requests.Common.{Common}
use Rattle.pcp_codec.specs.declared.requests.Body.{Body}
use Rattle.pcp_codec.specs.declared.requests.Body.TheVariants.{Announce, Map, Peer}
use Rattle.pcp_codec.specs.declared.requests.Frame.{Frame}
use Rattle.pcp_codec.specs.Fields.{octet, u16_at}
use Rattle.pcp_codec.specs.Requests.{frame_of}
use Rattle.pcp_codec.specs.Framing.{frame_steps, is_silent}
use Rattle.pcp_options.specs.declared.options.Item.{Item}
use Rattle.pcp_options.specs.declared.options.Item.TheVariants.{ThirdParty, PreferFailure, Filter, PortSet}
use Rattle.pcp_options.specs.declared.verdicts.Verdict.TheVariants.{Silent, Asked}
use Rattle.pcp_options.specs.Options.{FoundOption, item_of, items_of}
use Rattle.pcp_options.specs.Steps.{is_again, option_steps, steps_after, options_steps}
use Rattle.pcp_options.specs.Asking.{third_of, set_of, filters_of, seen_of, subject_of, endpoint_by, endpoint_of, map_ask, peer_ask, ask_by, ask_of}
use Rattle.pcp_options.specs.Laws.{AsksAreWellFormed}
use Rattle.pcp_options.specs.Responses.{FitsBody}
use Rattle.pcp_options.specs.Verdicts.{options_in, third_steps, later_steps, request_steps, asked_by, verdict_by, verdict_of}
use Rattle.pcp_options.proofs.WalkLemmas.{third_in, filter_in, set_in, item_by}
use Rattle.pcp_options.proofs.ReplyLaws.{first-none, body-fits, known}

-- ---- what an option of a MAP request says

abbrev IsGood : ℕ → ℕ → Item → Type 0
IsGood lifetime internal (Filter f) = (¬ (lifetime ≡ 0)) × (f.prefix ≤ 128)
IsGood lifetime internal (PortSet s) = (0 < s.size) × (s.first ≡ internal)
IsGood lifetime internal (ThirdParty a) = ⊤
IsGood lifetime internal PreferFailure = ⊤

abbrev IsGoodSome : ℕ → ℕ → Option Item → Type 0
IsGoodSome lifetime internal None = ⊤
IsGoodSome lifetime internal (Some item) = IsGood lifetime internal item

good-by : (lifetime internal : ℕ) (a b c d : Bool) (t : Address) (f : Filters.Filter) (s : Sets.PortSet) →
    (c ≡ true → IsGood lifetime internal (Filter f)) → (d ≡ true → IsGood lifetime internal (PortSet s)) →
    IsGoodSome lifetime internal (item_by a b c d t f s)
good-by lifetime internal true b c d t f s x y = tt
good-by lifetime internal false true c d t f s x y = tt
good-by lifetime internal false false true d t f s x y = x refl
good-by lifetime internal false false false true t f s x y = y refl
good-by lifetime internal false false false false t f s x y = tt

last-row : (p q r s : Bool) (x y z w : Refusal) (rest : Option Refusal) →
    cond p (Some x) (cond q (Some y) (cond r (Some z) (cond s (Some w) rest))) ≡ None → s ≡ false
last-row true q r s x y z w rest h = absurd cc
last-row false true r s x y z w rest h = absurd cc
last-row false false true s x y z w rest h = absurd cc
last-row false false false true x y z w rest h = absurd cc
last-row false false false false x y z w rest h = refl

or-parts : (a b : Bool) → (a || b) ≡ false → (a ≡ false) × (b ≡ false)
or-parts true b h = absurd cc
or-parts false b h = (refl, h)

abbrev found-of : ℕ → ℕ → List ℕ → FoundOption
found-of code claimed content = record { code = code; claimed = claimed; content = content }

filter-good : (lifetime : ℕ) (c : Common) (again : Bool) (n : ℕ) (content : List ℕ) →
    first_case (option_steps lifetime (Map c) again (found-of 3 n content)) ≡ None → IsGood lifetime c.internal (Filter (filter_in (found-of 3 n content)))
filter-good lifetime c again n content h =
    let parts = or-parts (lifetime == 0) (nat_lt 128 (octet content 1))
    (last-row (nat_lt (length content) n) again (not (n == 20)) (lifetime == 0 || nat_lt 128 (octet content 1)) _ _ _ _ None h) in
    (eqb-false lifetime 0 parts.0, ltb-false 128 (octet content 1) parts.1)

set-good : (lifetime : ℕ) (c : Common) (again : Bool) (n : ℕ) (content : List ℕ) →
    first_case (option_steps lifetime (Map c) again (found-of 130 n content)) ≡ None → IsGood lifetime c.internal (PortSet (set_in (found-of 130 n content)))
set-good lifetime c again n content h =
    let parts = or-parts (u16_at content 0 == 0) (not (u16_at content 2 == c.internal))
    (last-row (nat_lt (length content) n) again (not (n == 5)) (u16_at content 0 == 0 || not (u16_at content 2 == c.internal)) _ _ _ _ None h) in
    let some = eqb-false (u16_at content 0) 0 parts.0 in
    (omega (arith, some), eqb-true (u16_at content 2) c.internal (not-false (u16_at content 2 == c.internal) parts.1))

option-good : (lifetime : ℕ) (c : Common) (again : Bool) (o : FoundOption) →
    first_case (option_steps lifetime (Map c) again o) ≡ None → IsGoodSome lifetime c.internal (item_of o)
option-good lifetime c again o h =
    good-by lifetime c.internal (o.code == 1) (o.code == 2) (o.code == 3) (o.code == 130) (third_in o) (filter_in o) (set_in o)
    (λ e. filter-good lifetime c again o.claimed o.content (known lifetime (Map c) again o.code 3 o.claimed o.content (eqb-true o.code 3 e) h))
    (λ e. set-good lifetime c again o.claimed o.content (known lifetime (Map c) again o.code 130 o.claimed o.content (eqb-true o.code 130 e) h))

cons-good : (lifetime internal : ℕ) (item : Option Item) (items : List Item) → IsGoodSome lifetime internal item →
    AllByRecursion (IsGood lifetime internal) items → AllByRecursion (IsGood lifetime internal) (cons_option item items)
cons-good lifetime internal None items h all = all
cons-good lifetime internal (Some item) items h all = (h, all)

options-good : (lifetime : ℕ) (c : Common) (before os : List FoundOption) →
    first_case (steps_after lifetime (Map c) before os) ≡ None → AllByRecursion (IsGood lifetime c.internal) (items_of os)
options-good lifetime c before [] h = tt
options-good lifetime c before (o ∷ os) h =
    let both = first-none (option_steps lifetime (Map c) (is_again before o.code) o) (steps_after lifetime (Map c) (before ++ o ∷ []) os) h in
    cons-good lifetime c.internal (item_of o) (items_of os) (option-good lifetime c (is_again before o.code) o both.0)
    (options-good lifetime c (before ++ o ∷ []) os both.1)

-- ---- what the options of a MAP request say together

set-of-good : (lifetime internal : ℕ) (items : List Item) → AllByRecursion (IsGood lifetime internal) items →
    IfSome (set_of items) (λ s. (0 < s.size) × (s.first ≡ internal))
set-of-good lifetime internal [] h = tt
set-of-good lifetime internal (ThirdParty a ∷ items) h = set-of-good lifetime internal items h.1
set-of-good lifetime internal (PreferFailure ∷ items) h = set-of-good lifetime internal items h.1
set-of-good lifetime internal (Filter f ∷ items) h = set-of-good lifetime internal items h.1
set-of-good lifetime internal (PortSet s ∷ items) h = h.0

filters-good : (lifetime internal : ℕ) (items : List Item) → AllByRecursion (IsGood lifetime internal) items →
    AllByRecursion (λ f. f.prefix ≤ 128) (filters_of items)
filters-good lifetime internal [] h = tt
filters-good lifetime internal (ThirdParty a ∷ items) h = filters-good lifetime internal items h.1
filters-good lifetime internal (PreferFailure ∷ items) h = filters-good lifetime internal items h.1
filters-good lifetime internal (Filter f ∷ items) h = (h.0.1, filters-good lifetime internal items h.1)
filters-good lifetime internal (PortSet s ∷ items) h = filters-good lifetime internal items h.1

no-filters : (lifetime internal : ℕ) (items : List Item) → AllByRecursion (IsGood lifetime internal) items →
    lifetime ≡ 0 → filters_of items ≡ []
no-filters lifetime internal [] h e = refl
no-filters lifetime internal (ThirdParty a ∷ items) h e = no-filters lifetime internal items h.1 e
no-filters lifetime internal (PreferFailure ∷ items) h e = no-filters lifetime internal items h.1 e
no-filters lifetime internal (Filter f ∷ items) h e = absurd (h.0.0 e)
no-filters lifetime internal (PortSet s ∷ items) h e = no-filters lifetime internal items h.1 e

-- ---- what is asked

-- a port that isn't 0
endpoint-port : (address : Address) (port : ℕ) (p : Option Protocol) (b : Bool) (e : Endpoint) → (b ≡ (port == 0)) →
    endpoint_by address port p ≡ Some e → (e.port ≡ port) × (¬ (port ≡ 0))
endpoint-port address port None b e is h = absurd cc
endpoint-port address port (Some protocol) true e is h = absurd (subst (λ x. cond x None (Some (record { address = address; protocol = protocol; port = port })) ≡ Some e → ⊥) is (λ k. absurd cc) h)
endpoint-port address port (Some protocol) false e is h =
    let same : Some (record { address = address; protocol = protocol; port = port }) ≡ Some e =
    subst (λ x. cond x None (Some (record { address = address; protocol = protocol; port = port })) ≡ Some e) (sym is) h in
    let one : (record { address = address; protocol = protocol; port = port }) ≡ e = cc in
    (sym (ap (λ x. x.port) one), eqb-false port 0 (sym is))

is-port : (port n : ℕ) → port ≡ n → n < 2 ^ 16 → (¬ (n ≡ 0)) → IsPort port
is-port port n e h k = record { some = omega (arith, e, k); below = omega (arith, e, h) }

map-formed : (lifetime : ℕ) (c : Common) (items : List Item) (ask : Ask) (e : Option Endpoint) → c.internal < 2 ^ 16 → c.external < 2 ^ 16 →
    AllByRecursion (IsGood lifetime c.internal) items → ((x : Endpoint) → e ≡ Some x → (x.port ≡ c.internal) × (¬ (c.internal ≡ 0))) →
    map_ask lifetime c (seen_of items) (filters_of items) e ≡ Ok ask → IsWellFormedAsk ask
map-formed lifetime c items ask None i x good port h = absurd cc
map-formed lifetime c items ask (Some e) i x good port h =
    let p = port e refl in
    let made : Ask = Asks.Map (record {
      endpoint = e;
      nonce = c.nonce;
      lifetime = lifetime;
      port = c.external;
      address = c.address;
      prefer = (seen_of items).prefers;
      set = set_of items;
      filters = filters_of items;
    }) in
    let same : made ≡ ask = cc in
    subst IsWellFormedAsk same (record {
      internal = is-port e.port c.internal p.0 i p.1;
      suggested = omega (arith, x);
      set = subst (λ n. IfSome (set_of items) (λ s. (0 < s.size) × (s.first ≡ n))) (sym p.0) (set-of-good lifetime c.internal items good);
      prefixes = filters-good lifetime c.internal items good;
      deletion = no-filters lifetime c.internal items good;
    })

peer-formed-by : (lifetime : ℕ) (c : Common) (port : ℕ) (remote : Address) (ask : Ask) (e : Endpoint) (b : Bool) → b ≡ (port == 0) →
    c.internal < 2 ^ 16 → c.external < 2 ^ 16 → port < 2 ^ 16 → (e.port ≡ c.internal) × (¬ (c.internal ≡ 0)) →
    cond b (Err MalformedRequest) (Ok (Asks.Peer (record {
      endpoint = e;
      nonce = c.nonce;
      lifetime = lifetime;
      port = c.external;
      address = c.address;
      remote = remote;
      remote_port = port;
    }))) ≡ Ok ask → IsWellFormedAsk ask
peer-formed-by lifetime c port remote ask e true is i x r p h = absurd cc
peer-formed-by lifetime c port remote ask e false is i x r p h =
    let made : Ask = Asks.Peer (record {
      endpoint = e;
      nonce = c.nonce;
      lifetime = lifetime;
      port = c.external;
      address = c.address;
      remote = remote;
      remote_port = port;
    }) in
    let same : made ≡ ask = cc in
    subst IsWellFormedAsk same (record {
      internal = is-port e.port c.internal p.0 i p.1;
      suggested = omega (arith, x);
      remote = is-port port port refl r (eqb-false port 0 (sym is));
    })

peer-formed : (lifetime : ℕ) (c : Common) (port : ℕ) (remote : Address) (ask : Ask) (e : Option Endpoint) → c.internal < 2 ^ 16 → c.external < 2 ^ 16 →
    port < 2 ^ 16 → ((x : Endpoint) → e ≡ Some x → (x.port ≡ c.internal) × (¬ (c.internal ≡ 0))) →
    peer_ask lifetime c port remote e ≡ Ok ask → IsWellFormedAsk ask
peer-formed lifetime c port remote ask None i x r p h = absurd cc
peer-formed lifetime c port remote ask (Some e) i x r p h = peer-formed-by lifetime c port remote ask e (port == 0) refl i x r (p e refl) h

body-formed : (address : Address) (lifetime : ℕ) (body : Body) (os : List FoundOption) (ask : Ask) → FitsBody body →
    first_case (options_steps lifetime body os) ≡ None → ask_by address lifetime body (seen_of (items_of os)) (filters_of (items_of os)) ≡ Ok ask →
    IsWellFormedAsk ask
body-formed address lifetime Announce os ask fits steps h = let same : Asks.Announce ≡ ask = cc in subst IsWellFormedAsk same tt
body-formed address lifetime (Map c) os ask fits steps h =
    map-formed lifetime c (items_of os) ask (endpoint_of address c) fits.2 fits.3 (options-good lifetime c [] os steps)
    (λ e there. endpoint-port address c.internal (protocol_of c.protocol) (c.internal == 0) e refl there) h
body-formed address lifetime (Peer c port remote) os ask fits steps h =
    peer-formed lifetime c port remote ask (endpoint_of address c) fits.0.2 fits.0.3 fits.1
    (λ e there. endpoint-port address c.internal (protocol_of c.protocol) (c.internal == 0) e refl there) h

asked-of : (its : List Item) (r : Result Ask Code) (p : Option ℕ) (place : ℕ) (ask : Ask) (items : List Item) → asked_by its r p ≡ Asked place ask items → r ≡ Ok ask
asked-of its (Err code) p place ask items h = absurd cc
asked-of its (Ok a) None place ask items h = absurd cc
asked-of its (Ok a) (Some q) place ask items h = let same : a ≡ ask = cc in ap Ok same

asked-parts : (b : Bool) (first : Option Refusal) (config : Config) (source : Address) (frame : Frame) (its : List Item) (place : ℕ) (ask : Ask) (items : List Item) →
    cond b Silent (verdict_by config source frame its first) ≡ Asked place ask items → (first ≡ None) × (ask_of (subject_of source (third_of its)) frame its ≡ Ok ask)
asked-parts true first config source frame its place ask items h = absurd cc
asked-parts false (Some r) config source frame its place ask items h = absurd cc
asked-parts false None config source frame its place ask items h =
    (refl, asked-of its (ask_of (subject_of source (third_of its)) frame its) (place_of config.subscribers (subject_of source (third_of its))) place ask items h)

pub asks-formed : AsksAreWellFormed
unfolding verdict_of
asks-formed config source message place ask items octets h =
    let frame = frame_of message in
    let os = options_in frame message in
    let parts = asked-parts (is_silent message) (first_case (request_steps config source message)) config source frame (items_of os) place ask items h in
    let frames = first-none (frame_steps message source) (later_steps config source frame os) parts.0 in
    let later = first-none (options_steps frame.lifetime frame.body os) (third_steps config source (third_of (items_of os))) frames.1 in
    body-formed (subject_of source (third_of (items_of os))) frame.lifetime frame.body os ask (body-fits message octets) later.0 parts.1
