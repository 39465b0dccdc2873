-- A request that is asked asks what its data say, and has each option once that may stand once.
use Rattle.std.specs.List.{cons_option, list_any}
use Rattle.std.specs.Prelude.{count_by, Result, Ok, Err}
use Rattle.std.proofs.Common.{◌≡◌, ℕ, ◌+◌, ◌≤◌, ◌==◌, ◌&&◌, ◌||◌, nat_le, nat_lt, Bool, true, false, cond, List, [], ◌∷◌, ◌++◌, length, Option, Some, None, is_some, refl, ap, sym, ◌∙◌, subst, arith}
use Rattle.std.proofs.lemmas.Bool.{and_from, eqb-true, le-leb}
use Rattle.std.proofs.lemmas.Bool.Decides.{nat_tests}
use Rattle.std.proofs.lemmas.List.Sums.{sum_by-append}
use Rattle.pcp_base.specs.declared.addresses.Address.{Address}
use Rattle.pcp_base.specs.declared.asks.Ask.{Ask}
use Rattle.pcp_base.specs.declared.asks.Ask.TheVariants as Asks
use Rattle.pcp_base.specs.declared.asks.PortSet as Sets
use Rattle.pcp_base.specs.declared.asks.Refusal.{Refusal}
use Rattle.pcp_base.specs.declared.codes.Code.{Code}
use Rattle.pcp_base.specs.declared.codes.Code.TheVariants.{MalformedOption, MalformedRequest, UnsuppOption}
use Rattle.pcp_base.specs.declared.configs.Config.{Config}
use Rattle.pcp_base.specs.declared.leases.Endpoint.{Endpoint}
use Rattle.pcp_base.specs.declared.leases.Filter as Filters
use Rattle.pcp_base.specs.declared.leases.Protocol.{Protocol}
use Rattle.pcp_base.specs.declared.leases.Protocol.TheVariants.{Tcp, Udp}
use Rattle.pcp_base.specs.Cases.{first_case}
use Rattle.pcp_base.specs.Pairing.{place_of}
use Rattle.pcp_base.specs.Protocols.{protocol_number, protocol_of}
use Rattle.pcp_base.specs.Refusals.{unparsed}
use Rattle.pcp_codec.specs.declared.requests.Body.{Body}
use Rattle.pcp_codec.specs.declared.requests.Body.TheVariants.{Announce, Map, Peer}
use Rattle.pcp_codec.specs.declared.requests.Common.{Common}
use Rattle.pcp_codec.specs.declared.requests.Frame.{Frame}
use Rattle.pcp_codec.specs.Framing.{frame_steps, is_silent}
use Rattle.pcp_codec.specs.Requests.{frame_of}
use Rattle.pcp_options.specs.declared.options.Item.{Item}
use Rattle.pcp_options.specs.declared.options.Item.TheVariants.{ThirdParty, PreferFailure, Filter, PortSet}
use Rattle.pcp_options.specs.declared.verdicts.Verdict.TheVariants.{Silent, Asked}
use Rattle.pcp_options.specs.Asking.{ask_by, ask_of, endpoint_by, endpoint_of, filters_of, map_ask, peer_ask, prefers, seen_of, set_of, subject_of, third_of}
use Rattle.pcp_options.specs.Options.{FoundOption, item_of, items_of}
use Rattle.pcp_options.specs.ReadResponses.{are_single, is_mapped, is_preference, is_set, is_third}
use Rattle.pcp_options.specs.Steps.{has_another_length, is_again, is_ignored, is_of_another_opcode, is_unknown, is_wrong, option_steps, options_steps, steps_after}
use Rattle.pcp_options.specs.Verdicts.{asked_by, later_steps, options_in, request_steps, third_steps, verdict_by, verdict_of}
use Rattle.pcp_options.proofs.ReplyLaws.{first-none}
use Rattle.pcp_options.proofs.WalkLemmas.{filter_in, item_by, or-false, set_in, third_in}
use Rattle.option_laws.specs.Asked.{AsksAreOfRequests, AsksBody, AsksCommon, IsAskedSo}
use Rattle.option_laws.proofs.FitLemmas.{items-asked}

-- ---- how many there are of a kind

abbrev pub bit : Bool → ℕ
bit b = cond b 1 0

pub count-cons : (p : Item → Bool) (x : Item) (xs : List Item) → count_by p (x ∷ xs) ≡ bit (p x) + count_by p xs
count-cons p x xs = let e = sum_by-append (λ y. bit (p y)) (x ∷ []) xs in omega (arith, e)

not-both : (n : ℕ) → ((n == 1) && (n == 2)) ≡ false
not-both n = grind (arith, nat_tests)

not-these : (n : ℕ) → ((n == 1 || (n == 2 || n == 3)) && (n == 130)) ≡ false
not-these n = grind (arith, nat_tests)

third-by : (a b c d : Bool) (t : Address) (f : Filters.Filter) (s : Sets.PortSet) (items : List Item) → count_by is_third (cons_option (item_by a b c d t f s) items) ≡ bit a + count_by is_third items
third-by true b c d t f s items = count-cons is_third (ThirdParty t) items
third-by false true c d t f s items = count-cons is_third PreferFailure items
third-by false false true d t f s items = count-cons is_third (Filter f) items
third-by false false false true t f s items = count-cons is_third (PortSet s) items
third-by false false false false t f s items = omega arith

third-counts : (o : FoundOption) (items : List Item) → count_by is_third (cons_option (item_of o) items) ≡ bit (o.code == 1) + count_by is_third items
third-counts o items = third-by (o.code == 1) (o.code == 2) (o.code == 3) (o.code == 130) (third_in o) (filter_in o) (set_in o) items

preference-by : (a b c d : Bool) (t : Address) (f : Filters.Filter) (s : Sets.PortSet) (items : List Item) → (a && b) ≡ false → count_by is_preference (cons_option (item_by a b c d t f s) items) ≡ bit b + count_by is_preference items
preference-by true true c d t f s items h = absurd cc
preference-by true false c d t f s items h = count-cons is_preference (ThirdParty t) items
preference-by false true c d t f s items h = count-cons is_preference PreferFailure items
preference-by false false true d t f s items h = count-cons is_preference (Filter f) items
preference-by false false false true t f s items h = count-cons is_preference (PortSet s) items
preference-by false false false false t f s items h = omega arith

preference-counts : (o : FoundOption) (items : List Item) → count_by is_preference (cons_option (item_of o) items) ≡ bit (o.code == 2) + count_by is_preference items
preference-counts o items = preference-by (o.code == 1) (o.code == 2) (o.code == 3) (o.code == 130) (third_in o) (filter_in o) (set_in o) items (not-both o.code)

set-by : (a b c d : Bool) (t : Address) (f : Filters.Filter) (s : Sets.PortSet) (items : List Item) → ((a || (b || c)) && d) ≡ false → count_by is_set (cons_option (item_by a b c d t f s) items) ≡ bit d + count_by is_set items
set-by true b c true t f s items h = absurd cc
set-by true b c false t f s items h = count-cons is_set (ThirdParty t) items
set-by false true c true t f s items h = absurd cc
set-by false true c false t f s items h = count-cons is_set PreferFailure items
set-by false false true true t f s items h = absurd cc
set-by false false true false t f s items h = count-cons is_set (Filter f) items
set-by false false false true t f s items h = count-cons is_set (PortSet s) items
set-by false false false false t f s items h = omega arith

set-counts : (o : FoundOption) (items : List Item) → count_by is_set (cons_option (item_of o) items) ≡ bit (o.code == 130) + count_by is_set items
set-counts o items = set-by (o.code == 1) (o.code == 2) (o.code == 3) (o.code == 130) (third_in o) (filter_in o) (set_in o) items (not-these o.code)

or-left : (a b c : Bool) → (a || (b || c)) ≡ ((a || b) || c)
or-left true b c = refl
or-left false b c = refl

any-push : (f : FoundOption → Bool) (before : List FoundOption) (o : FoundOption) → list_any f (before ++ o ∷ []) ≡ (list_any f before || f o)
any-push f [] o = or-false (f o)
any-push f (x ∷ before) o = ap (λ b. f x || b) (any-push f before o) ∙ or-left (f x) (list_any f before) (f o)

few-bit : (b : Bool) → bit b + 0 ≤ 1
few-bit true = omega arith
few-bit false = omega arith

once-by : (c b more : Bool) (n m : ℕ) → more ≡ (b || c) → m ≡ bit c + n → bit more + n ≤ 1 → (c ≡ true → b ≡ false) → bit b + m ≤ 1
once-by true true more n m e f h k = absurd (let bad : true ≡ false = k refl in cc)
once-by true false more n m e f h k = let g : 1 + n ≤ 1 = subst (λ q. bit q + n ≤ 1) e h in omega (arith, f, g)
once-by false true more n m e f h k = let g : 1 + n ≤ 1 = subst (λ q. bit q + n ≤ 1) e h in omega (arith, f, g)
once-by false false more n m e f h k = let g : 0 + n ≤ 1 = subst (λ q. bit q + n ≤ 1) e h in omega (arith, f, g)

-- ---- what passes the steps

passed-by : (past unknown ignored again other opcode wrong : Bool) (r s : Refusal) → ignored ≡ false
    → cond past (Some r) (cond unknown (Some s) (first_case (cond ignored [] ((record { applies = again; result = r }) ∷ (record { applies = other; result = r }) ∷ (record { applies = opcode; result = r }) ∷ (record { applies = wrong; result = r }) ∷ [])))) ≡ None
    → again ≡ false
passed-by true unknown ignored again other opcode wrong r s e h = absurd cc
passed-by false true ignored again other opcode wrong r s e h = absurd cc
passed-by false false true again other opcode wrong r s e h = absurd cc
passed-by false false false true other opcode wrong r s e h = absurd cc
passed-by false false false false other opcode wrong r s e h = refl

passed-once : (lifetime : ℕ) (body : Body) (again : Bool) (o : FoundOption) → is_ignored o.code ≡ false
    → first_case (option_steps lifetime body again o) ≡ None → again ≡ false
passed-once lifetime body again o known h =
    passed-by (nat_lt (length o.content) o.claimed) (is_unknown o.code) (is_ignored o.code) again (has_another_length o) (is_of_another_opcode body o.code) (is_wrong lifetime body o) (unparsed MalformedOption) (unparsed UnsuppOption) known h

not-again : (before : List FoundOption) (n k : ℕ) → (n == k) ≡ true → is_again before n ≡ false → is_again before k ≡ false
not-again before n k e h = subst (λ m. is_again before m ≡ false) (eqb-true n k e) h

third-known : (n : ℕ) → (n == 1) ≡ true → is_ignored n ≡ false
third-known n e = grind (arith, nat_tests)

prefers-known : (n : ℕ) → (n == 2) ≡ true → is_ignored n ≡ false
prefers-known n e = grind (arith, nat_tests)

set-known : (n : ℕ) → (n == 130) ≡ true → is_ignored n ≡ false
set-known n e = grind (arith, nat_tests)

-- of a code that stands at most once there is one at most
once-after : (k : ℕ) (p : Item → Bool)
    → ((o : FoundOption) (items : List Item) → count_by p (cons_option (item_of o) items) ≡ bit (o.code == k) + count_by p items)
    → ((n : ℕ) → (n == k) ≡ true → is_ignored n ≡ false)
    → ((before : List FoundOption) → is_again before k ≡ false → list_any (λ o. o.code == k) before ≡ false)
    → (lifetime : ℕ) (body : Body) (before os : List FoundOption) → first_case (steps_after lifetime body before os) ≡ None
    → bit (list_any (λ o. o.code == k) before) + count_by p (items_of os) ≤ 1
once-after k p counts known again lifetime body before [] h = few-bit (list_any (λ o. o.code == k) before)
once-after k p counts known again lifetime body before (o ∷ os) h =
    let both = first-none (option_steps lifetime body (is_again before o.code) o) (steps_after lifetime body (before ++ o ∷ []) os) h in
    once-by (o.code == k) (list_any (λ x. x.code == k) before) (list_any (λ x. x.code == k) (before ++ o ∷ [])) (count_by p (items_of os)) (count_by p (items_of (o ∷ os)))
    (any-push (λ x. x.code == k) before o) (counts o (items_of os)) (once-after k p counts known again lifetime body (before ++ o ∷ []) os both.1)
    (λ e. again before (not-again before o.code k e (passed-once lifetime body (is_again before o.code) o (known o.code e) both.0)))

pub few-single : (items : List Item) → count_by is_third items ≤ 1 → count_by is_preference items ≤ 1 → count_by is_set items ≤ 1 → are_single items ≡ true
few-single items a b c =
    and_from (nat_le (count_by is_third items) 1 && nat_le (count_by is_preference items) 1) (nat_le (count_by is_set items) 1)
    (and_from (nat_le (count_by is_third items) 1) (nat_le (count_by is_preference items) 1) (le-leb (count_by is_third items) 1 a) (le-leb (count_by is_preference items) 1 b))
    (le-leb (count_by is_set items) 1 c)

options-single : (lifetime : ℕ) (body : Body) (os : List FoundOption) → first_case (options_steps lifetime body os) ≡ None → are_single (items_of os) ≡ true
options-single lifetime body os h =
    let a = once-after 1 is_third third-counts third-known (λ before k. k) lifetime body [] os h in
    let b = once-after 2 is_preference preference-counts prefers-known (λ before k. k) lifetime body [] os h in
    let c = once-after 130 is_set set-counts set-known (λ before k. k) lifetime body [] os h in
    few-single (items_of os) (omega (arith, a)) (omega (arith, b)) (omega (arith, c))

-- ---- what is asked

number-by : (a b : Bool) (n : ℕ) (p : Protocol) → (a ≡ true → n ≡ 6) → (b ≡ true → n ≡ 17) → cond a (Some Tcp) (cond b (Some Udp) None) ≡ Some p
    → protocol_number p ≡ n
number-by true b n p f g h = let same : Tcp ≡ p = cc in subst (λ q. protocol_number q ≡ n) same (sym (f refl))
number-by false true n p f g h = let same : Udp ≡ p = cc in subst (λ q. protocol_number q ≡ n) same (sym (g refl))
number-by false false n p f g h = absurd cc

numbered : (n : ℕ) (p : Protocol) → protocol_of n ≡ Some p → protocol_number p ≡ n
numbered n p h = number-by (n == 6) (n == 17) n p (λ e. eqb-true n 6 e) (λ e. eqb-true n 17 e) h

endpoint-at : (b : Bool) (address : Address) (port : ℕ) (p : Protocol) (e : Endpoint)
    → cond b None (Some (record { address = address; protocol = p; port = port })) ≡ Some e
    → (e.address ≡ address) × (e.protocol ≡ p) × (e.port ≡ port)
endpoint-at true address port p e h = absurd cc
endpoint-at false address port p e h =
    let made : Endpoint = record { address = address; protocol = p; port = port } in
    let same : made ≡ e = cc in
    (ap (λ (x : Endpoint). x.address) (sym same), ap (λ (x : Endpoint). x.protocol) (sym same), ap (λ (x : Endpoint). x.port) (sym same))

common-by : (address : Address) (c : Common) (p : Option Protocol) (e : Endpoint) → protocol_of c.protocol ≡ p
    → endpoint_by address c.internal p ≡ Some e → AsksCommon address c e c.nonce
common-by address c None e is h = absurd cc
common-by address c (Some p) e is h =
    let made = endpoint-at (c.internal == 0) address c.internal p e h in
    record {
      address_is = made.0;
      protocol = ap protocol_number made.1 ∙ numbered c.protocol p is;
      port = made.2;
      nonce_is = refl;
    }

map-by : (address : Address) (lifetime : ℕ) (c : Common) (its : List Item) (fs : List Filters.Filter) (e : Option Endpoint) (ask : Ask)
    → endpoint_of address c ≡ e → map_ask lifetime c (seen_of its) fs e ≡ Ok ask → AsksBody address (Map c) ask
map-by address lifetime c its fs None ask is h = absurd cc
map-by address lifetime c its fs (Some e) ask is h =
    let made : Ask = Asks.Map (record {
      endpoint = e;
      nonce = c.nonce;
      lifetime = lifetime;
      port = c.external;
      address = c.address;
      prefer = prefers its;
      set = set_of its;
      filters = fs;
    }) in
    let same : made ≡ ask = cc in
    subst (AsksBody address (Map c)) same (record { common = c; body_is = refl; asks = common-by address c (protocol_of c.protocol) e refl is })

peer-by : (address : Address) (lifetime : ℕ) (c : Common) (port : ℕ) (remote : Address) (e : Option Endpoint) (ask : Ask)
    → endpoint_of address c ≡ e → peer_ask lifetime c port remote e ≡ Ok ask → AsksBody address (Peer c port remote) ask
peer-by address lifetime c port remote None ask is h = absurd cc
peer-by address lifetime c port remote (Some e) ask is h = by (port == 0) h
  where
    made : Ask
    made = Asks.Peer (record {
      endpoint = e;
      nonce = c.nonce;
      lifetime = lifetime;
      port = c.external;
      address = c.address;
      remote = remote;
      remote_port = port;
    })

    by : (b : Bool) → cond {A = Result Ask Code} b (Err MalformedRequest) (Ok made) ≡ Ok ask → AsksBody address (Peer c port remote) ask
    by true h = absurd cc
    by false h =
        let same : made ≡ ask = cc in
        subst (AsksBody address (Peer c port remote)) same (record { common = c; body_is = refl; asks = common-by address c (protocol_of c.protocol) e refl is })

some-by : (p : Option Protocol) (address : Address) (port : ℕ) (e : Endpoint) → endpoint_by address port p ≡ Some e → is_some p ≡ true
some-by None address port e h = absurd cc
some-by (Some p) address port e h = refl

map-mapped : (address : Address) (lifetime : ℕ) (c : Common) (its : List Item) (fs : List Filters.Filter) (e : Option Endpoint) (ask : Ask)
    → endpoint_of address c ≡ e → map_ask lifetime c (seen_of its) fs e ≡ Ok ask → is_some (protocol_of c.protocol) ≡ true
map-mapped address lifetime c its fs None ask is h = absurd cc
map-mapped address lifetime c its fs (Some e) ask is h = some-by (protocol_of c.protocol) address c.internal e is

peer-mapped : (address : Address) (lifetime : ℕ) (c : Common) (port : ℕ) (remote : Address) (e : Option Endpoint) (ask : Ask)
    → endpoint_of address c ≡ e → peer_ask lifetime c port remote e ≡ Ok ask → is_some (protocol_of c.protocol) ≡ true
peer-mapped address lifetime c port remote None ask is h = absurd cc
peer-mapped address lifetime c port remote (Some e) ask is h = some-by (protocol_of c.protocol) address c.internal e is

body-asked : (address : Address) (lifetime : ℕ) (body : Body) (its : List Item) (fs : List Filters.Filter) (ask : Ask)
    → ask_by address lifetime body (seen_of its) fs ≡ Ok ask → AsksBody address body ask × (is_mapped body ≡ true)
body-asked address lifetime Announce its fs ask h =
    let same : Asks.Announce ≡ ask = cc in (subst (AsksBody address Announce) same tt, refl)
body-asked address lifetime (Map c) its fs ask h =
    (map-by address lifetime c its fs (endpoint_of address c) ask refl h, map-mapped address lifetime c its fs (endpoint_of address c) ask refl h)
body-asked address lifetime (Peer c port remote) its fs ask h =
    (peer-by address lifetime c port remote (endpoint_of address c) ask refl h, peer-mapped address lifetime c port remote (endpoint_of address c) ask refl h)

asked-of : (its : List Item) (r : Result Ask Code) (p : Option ℕ) (place : ℕ) (ask : Ask) (items : List Item) → asked_by its r p ≡ Asked place ask items → r ≡ Ok ask
asked-of its (Err code) p place ask items h = absurd cc
asked-of its (Ok a) None place ask items h = absurd cc
asked-of its (Ok a) (Some q) place ask items h = let same : a ≡ ask = cc in ap Ok same

asked-parts : (b : Bool) (first : Option Refusal) (config : Config) (source : Address) (frame : Frame) (its : List Item) (place : ℕ) (ask : Ask) (items : List Item)
    → cond b Silent (verdict_by config source frame its first) ≡ Asked place ask items → (first ≡ None) × (ask_of (subject_of source (third_of its)) frame its ≡ Ok ask)
asked-parts true first config source frame its place ask items h = absurd cc
asked-parts false (Some r) config source frame its place ask items h = absurd cc
asked-parts false None config source frame its place ask items h =
    (refl, asked-of its (ask_of (subject_of source (third_of its)) frame its) (place_of config.subscribers (subject_of source (third_of its))) place ask items h)

-- by the options that are found
asked-found : (config : Config) (source : Address) (message : List ℕ) (place : ℕ) (ask : Ask) (items : List Item)
    → verdict_of config source message ≡ Asked place ask items → IsAskedSo source message ask (items_of (options_in (frame_of message) message))
unfolding verdict_of
asked-found config source message place ask items h =
    let frame = frame_of message in
    let os = options_in frame message in
    let its = items_of os in
    let parts = asked-parts (is_silent message) (first_case (request_steps config source message)) config source frame its place ask items h in
    let frames = first-none (frame_steps message source) (later_steps config source frame os) parts.0 in
    let later = first-none (options_steps frame.lifetime frame.body os) (third_steps config source (third_of its)) frames.1 in
    let of = body-asked (subject_of source (third_of its)) frame.lifetime frame.body its (filters_of its) ask parts.1 in
    record { asks = of.0; mapped = of.1; single = options-single frame.lifetime frame.body os later.0 }

pub asks-of-requests : AsksAreOfRequests
asks-of-requests config source message place ask items h =
    subst (IsAskedSo source message ask) (sym (items-asked config source message place ask items h)) (asked-found config source message place ask items h)
