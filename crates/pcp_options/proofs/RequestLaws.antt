-- A request that is written is asked.
use Rattle.std.specs.Int.{to_be_bytes, w32}
use Rattle.std.specs.Prelude.{IfSome}
use Rattle.std.specs.List.{AllByRecursion}
use Rattle.std.proofs.Common.{◌≡◌, ℕ, ◌+◌, ◌*◌, ◌%◌, ◌^◌, ◌<◌, ◌≤◌, ◌==◌, nat_lt, Bool, true, false, cond, List, [], ◌∷◌, ◌++◌, length, map, drop, Option, Some, None, Result, Ok, refl, ap, sym, ◌∙◌, subst, arith, length-append}
use Rattle.std.proofs.lemmas.Bool.{eqb-true, eq-eqb}
use Rattle.std.proofs.lemmas.Bool.Decides.{nat_tests}
use Rattle.std.proofs.lemmas.Slice.Eq.{bytes_eq-Decides}
use Rattle.std.proofs.Math.Seq.{drop-append_seam}
use Rattle.pcp_base.specs.declared.addresses.Address.{Address}
use Rattle.pcp_base.specs.declared.leases.Endpoint.{Endpoint}
use Rattle.pcp_base.specs.declared.leases.Protocol.{Protocol}
use Rattle.pcp_base.specs.declared.leases.Protocol.TheVariants.{Tcp, Udp}
use Rattle.pcp_base.specs.declared.leases.Filter as Filters
use Rattle.pcp_base.specs.declared.asks.PortSet as Sets
use Rattle.pcp_base.specs.declared.asks.MapAsk.{MapAsk}
use Rattle.pcp_base.specs.declared.asks.PeerAsk.{PeerAsk}
use Rattle.pcp_base.specs.declared.asks.Ask.{Ask}
use Rattle.pcp_base.specs.declared.asks.Ask.TheVariants as Asks
use Rattle.pcp_base.specs.declared.asks.Refusal.{Refusal}
use Rattle.pcp_base.specs.declared.codes.Code.{Code}
use Rattle.pcp_base.specs.declared.configs.Config.{Config}
use Rattle.pcp_base.specs.Cases.{first_case}
use Rattle.pcp_base.specs.Pairing.{place_of}
use Rattle.pcp_base.specs.Protocols.{protocol_number, protocol_of}
use Rattle.pcp_codec.specs.declared.requests.Common.{Common}
use Rattle.pcp_codec.specs.declared.requests.Body.{Body}
use Rattle.pcp_codec.specs.declared.requests.Body.TheVariants.{Announce, Map, Peer}
use Rattle.pcp_codec.specs.declared.requests.Frame.{Frame}
use Rattle.pcp_codec.specs.Framing.{frame_steps, is_silent}
use Rattle.pcp_codec.specs.Packets.{IsRequest}
use Rattle.pcp_codec.specs.Requests.{frame_of}
use Rattle.pcp_codec.proofs.FramingLemmas.{first_case-None, framed_whole}
use Rattle.pcp_codec.proofs.PacketLemmas.{is-whole}
use Rattle.pcp_options.specs.declared.options.Item.{Item}
use Rattle.pcp_options.specs.declared.options.Item.TheVariants.{ThirdParty, PreferFailure, Filter}
use Rattle.pcp_options.specs.declared.options.Seen.{Seen}
use Rattle.pcp_options.specs.declared.verdicts.Verdict.TheVariants.{Silent, Asked}
use Rattle.pcp_options.specs.Options.{found_in, found_whole, items_of, option_of, option_text, options_text}
use Rattle.pcp_options.specs.Asking.{ask_of, endpoint_by, filters_of, map_ask, peer_ask, seen_of, subject_of, third_of}
use Rattle.pcp_options.specs.Replies.{body_text, opcode_of_body, remote_text}
use Rattle.pcp_options.specs.Requests.{asked_body, asked_common, asked_items, asked_third, request_text}
use Rattle.pcp_options.specs.RequestLaws.{CanBeAsked, MayAskFor, RequestsAreAsked}
use Rattle.pcp_options.specs.Responses.{FitsBody, FitsItem, FitsSet}
use Rattle.pcp_options.specs.Steps.{options_steps}
use Rattle.pcp_options.specs.Verdicts.{asked_by, asked_for, later_steps, options_in, request_steps, third_steps, verdict_by, verdict_of}
use Rattle.pcp_options.proofs.OptionLaws.{items-read, options-found}
use Rattle.pcp_options.proofs.RequestItems.{CanStand, SetFits, ThirdFits, map-filters, map-passes, map-seen, map_items, peer-third-passes, steps-more, tail_of}
use Rattle.pcp_options.proofs.ResponseLaws.{all-short, body-words, both-words, common-size, data-is, options-spelled, options-words}
use Rattle.pcp_options.proofs.TextLemmas.{filter-text, third-text}

-- a request with a body and options
abbrev text_with : Address → ℕ → Body → List ℕ → List ℕ
text_with own lifetime body text =
    2 ∷ opcode_of_body body ∷ 0 ∷ 0 ∷ to_be_bytes w32 lifetime ++ own.0 ++ body_text body ++ text

abbrev front_of : Address → ℕ → Body → List ℕ
front_of own lifetime body = 2 ∷ opcode_of_body body ∷ 0 ∷ 0 ∷ to_be_bytes w32 lifetime ++ own.0 ++ body_text body

abbrev frame_for : ℕ → Body → Frame
frame_for lifetime body = record {
  opcode = opcode_of_body body;
  lifetime = lifetime;
  body = body;
  options = 24 + length (body_text body);
}

front-size : (own : Address) (lifetime : ℕ) (body : Body) → length own.0 ≡ 16 → length (front_of own lifetime body) ≡ 24 + length (body_text body)
front-size own lifetime body e =
    let a = length-append own.0 (body_text body) in
    omega (arith, a, e)

request-size : (own : Address) (lifetime : ℕ) (body : Body) (text : List ℕ) → length own.0 ≡ 16 → length (text_with own lifetime body text) ≡ 24 + length (body_text body) + length text
request-size own lifetime body text e =
    let f = front-size own lifetime body e in
    let g = length-append (front_of own lifetime body) text in
    omega (arith, f, g)

is-request : (own : Address) (lifetime : ℕ) (body : Body) (items : List Item) → length own.0 ≡ 16 → lifetime < 2 ^ 32 → FitsBody body → length (text_with own lifetime body (options_text (map option_of items))) ≤ 1100 → IsRequest (text_with own lifetime body (options_text (map option_of items))) own (frame_for lifetime body) (options_text (map option_of items))
is-request own lifetime body items sixteen some fits most =
    let text = options_text (map option_of items) in
    let size = request-size own lifetime body text sixteen in
    record {
      reserved = 0 ∷ 0 ∷ [];
      two = refl;
      fields = body_text body;
      spelled = refl;
      body = data-is body fits;
      place = refl;
      sixteen = sixteen;
      lifetime_fits = some;
      words = subst (λ k. k % 4 ≡ 0) (sym size) (both-words (24 + length (body_text body)) (length text) (both-words 24 (length (body_text body)) refl (body-words body fits)) (options-words (map option_of items)));
      most = most;
    }

text-behind : (own : Address) (lifetime : ℕ) (body : Body) (text : List ℕ) → length own.0 ≡ 16 → drop (24 + length (body_text body)) (text_with own lifetime body text) ≡ text
text-behind own lifetime body text e =
    ap (λ k. drop k (text_with own lifetime body text)) (sym (front-size own lifetime body e))
    ∙ drop-append_seam (front_of own lifetime body) text

by-parts : (config : Config) (own : Address) (b : Bool) (first : Option Refusal) (f frame : Frame) (is items : List Item) → b ≡ false → first ≡ None → f ≡ frame → is ≡ items → cond b Silent (verdict_by config own f is first) ≡ asked_for config frame items (subject_of own (third_of items))
by-parts config own b first f frame is items w x y z = rw (w, x, y, z) refl

asked-with : (items : List Item) (ask : Ask) (place : ℕ) (r : Result Ask Code) (p : Option ℕ) → r ≡ Ok ask → p ≡ Some place → asked_by items r p ≡ Asked place ask items
asked-with items ask place r p x y = rw (x, y) refl

-- the verdict on a request whose options pass
verdict-is : (config : Config) (own : Address) (lifetime : ℕ) (body : Body) (items : List Item) (ask : Ask) (place : ℕ)
    → length own.0 ≡ 16 → lifetime < 2 ^ 32 → FitsBody body → AllByRecursion FitsItem items
    → length (text_with own lifetime body (options_text (map option_of items))) ≤ 1100
    → first_case (options_steps lifetime body (map found_whole (map option_of items))) ≡ None
    → first_case (third_steps config own (third_of items)) ≡ None
    → ask_of (subject_of own (third_of items)) (frame_for lifetime body) items ≡ Ok ask
    → place_of config.subscribers (subject_of own (third_of items)) ≡ Some place
    → verdict_of config own (text_with own lifetime body (options_text (map option_of items))) ≡ Asked place ask items
unfolding verdict_of
verdict-is config own lifetime body items ask place sixteen some fits all most pass third asks paired =
    let os = map option_of items in
    let text = options_text os in
    let m = text_with own lifetime body text in
    let frame = frame_for lifetime body in
    let found = framed_whole m own frame (is-whole m own frame text (is-request own lifetime body items sixteen some fits most)) in
    let there : found_in text ≡ map found_whole os = options-found text os (options-spelled os (all-short items all)) in
    let behind : options_in frame m ≡ found_in text = ap found_in (text-behind own lifetime body text sixteen) in
    let said : items_of (map found_whole os) ≡ items = ap items_of (sym there) ∙ items-read items all in
    let none : first_case (request_steps config own m) ≡ None =
    first_case-None (frame_steps m own) (later_steps config own (frame_of m) (options_in (frame_of m) m)) found.1
    ∙ ap (λ f. first_case (later_steps config own f (options_in f m))) found.2
    ∙ ap (λ xs. first_case (later_steps config own frame xs)) (behind ∙ there)
    ∙ first_case-None (options_steps lifetime body (map found_whole os)) (third_steps config own (third_of (items_of (map found_whole os)))) pass
    ∙ ap (λ is. first_case (third_steps config own (third_of is))) said ∙ third in
    by-parts config own (is_silent m) (first_case (request_steps config own m)) (frame_of m) frame (items_of (options_in (frame_of m) m)) items found.0 none found.2
    (ap (λ f. items_of (options_in f m)) found.2 ∙ ap items_of (behind ∙ there) ∙ said)
    ∙ asked-with items ask place (ask_of (subject_of own (third_of items)) frame items) (place_of config.subscribers (subject_of own (third_of items))) asks paired

-- THIRD_PARTY of a client that may ask for that host
third-none : (config : Config) (own : Address) (third : Option Address) → MayAskFor config own third → first_case (third_steps config own third) ≡ None
third-none config own None h = refl
third-none config own (Some a) h =
    let other = h.1 in
    let may = h.2 in
    rw (may, other) refl

pub third-fits : (config : Config) (own : Address) (third : Option Address) → MayAskFor config own third → ThirdFits third
third-fits config own None h = tt
third-fits config own (Some a) h = h.0

-- the endpoint of an ask
mapped : (p : Protocol) → protocol_of (protocol_number p) ≡ Some p
mapped Tcp = refl
mapped Udp = refl

abbrev endpoint_as : Address → ℕ → Protocol → Endpoint
endpoint_as address port protocol = record { address = address; protocol = protocol; port = port }

endpoint-by : (b : Bool) (e : Endpoint) → b ≡ false → cond b None (Some e) ≡ Some e
endpoint-by b e h = rw h refl

no-zero : (n : ℕ) → 0 < n → (n == 0) ≡ false
no-zero n h = grind (arith, nat_tests)

endpoint-is : (address : Address) (e : Endpoint) → address ≡ e.address → 0 < e.port → endpoint_by address e.port (protocol_of (protocol_number e.protocol)) ≡ Some e
endpoint-is address e same some =
    ap (endpoint_by address e.port) (mapped e.protocol)
    ∙ endpoint-by (e.port == 0) (endpoint_as address e.port e.protocol) (no-zero e.port some)
    ∙ ap (λ a. Some (endpoint_as a e.port e.protocol)) same

-- how long the options of a MAP request are
filter-size : (f : Filters.Filter) → length f.remote.0 ≡ 16 → length (option_text (option_of (Filter f))) ≡ 24
filter-size f e =
    let text = ap length (filter-text f e) in
    omega (arith, text, e)

third-size : (a : Address) → length a.0 ≡ 16 → length (option_text (option_of (ThirdParty a))) ≡ 20
third-size a e =
    let text = ap length (third-text a e) in
    omega (arith, text, e)

more-size : (item : Item) (items : List Item) → length (options_text (map option_of (item ∷ items))) ≡ length (option_text (option_of item)) + length (options_text (map option_of items))
more-size item items = length-append (option_text (option_of item)) (options_text (map option_of items))

tail-size : (fs : List Filters.Filter) (set : Option Sets.PortSet) → AllByRecursion (λ f. FitsItem (Filter f)) fs → length (options_text (map option_of (tail_of fs set))) ≤ 24 * length fs + 12
tail-size [] None h = omega arith
tail-size [] (Some s) h = omega arith
tail-size (f ∷ fs) set (first, more) =
    let one = filter-size f first.0 in
    let all = more-size (Filter f) (tail_of fs set) in
    let rest = tail-size fs set more in
    omega (arith, one, all, rest)

map-size : (third : Option Address) (prefer : Bool) (fs : List Filters.Filter) (set : Option Sets.PortSet) → ThirdFits third → AllByRecursion (λ f. FitsItem (Filter f)) fs → length (options_text (map option_of (map_items third prefer fs set))) ≤ 24 * length fs + 36
map-size None false fs set e h = let t = tail-size fs set h in omega (arith, t)
map-size None true fs set e h =
    let t = tail-size fs set h in
    let p = more-size PreferFailure (tail_of fs set) in
    omega (arith, t, p)
map-size (Some a) false fs set e h =
    let t = tail-size fs set h in
    let one = third-size a e in
    let all = more-size (ThirdParty a) (tail_of fs set) in
    omega (arith, t, one, all)
map-size (Some a) true fs set e h =
    let t = tail-size fs set h in
    let p = more-size PreferFailure (tail_of fs set) in
    let one = third-size a e in
    let all = more-size (ThirdParty a) (PreferFailure ∷ tail_of fs set) in
    omega (arith, t, p, one, all)

-- they are as their types hold them
tail-fits : (fs : List Filters.Filter) (set : Option Sets.PortSet) → AllByRecursion (λ f. FitsItem (Filter f)) fs → FitsSet set → AllByRecursion FitsItem (tail_of fs set)
tail-fits [] None h k = tt
tail-fits [] (Some s) h k = (k, tt)
tail-fits (f ∷ fs) set (first, more) k = (first, tail-fits fs set more k)

map-fits : (third : Option Address) (prefer : Bool) (fs : List Filters.Filter) (set : Option Sets.PortSet) → ThirdFits third → AllByRecursion (λ f. FitsItem (Filter f)) fs → FitsSet set → AllByRecursion FitsItem (map_items third prefer fs set)
map-fits None false fs set e h k = tail-fits fs set h k
map-fits None true fs set e h k = (tt, tail-fits fs set h k)
map-fits (Some a) false fs set e h k = (e, tail-fits fs set h k)
map-fits (Some a) true fs set e h k = (e, (tt, tail-fits fs set h k))

-- filters stand in what isn't a deletion
short : (n : ℕ) → n ≤ 128 → nat_lt 128 n ≡ false
short n h = grind (arith, nat_tests)

stand-all : (lifetime : ℕ) (fs : List Filters.Filter) → (lifetime == 0) ≡ false → AllByRecursion (λ f. f.prefix ≤ 128) fs → AllByRecursion (λ f. FitsItem (Filter f)) fs → AllByRecursion (CanStand lifetime) fs
stand-all lifetime [] lives prefixes fits = tt
stand-all lifetime (f ∷ fs) lives (p, ps) (x, xs) = (record { lives = lives; short = short f.prefix p; sixteen = x.0 }, stand-all lifetime fs lives ps xs)

filters-stand : (lifetime : ℕ) (fs : List Filters.Filter) → (lifetime ≡ 0 → fs ≡ []) → AllByRecursion (λ f. f.prefix ≤ 128) fs → AllByRecursion (λ f. FitsItem (Filter f)) fs → AllByRecursion (CanStand lifetime) fs
filters-stand lifetime fs deletion prefixes fits =
    elim (lifetime == 0) as (λ b. (lifetime == 0) ≡ b → AllByRecursion (CanStand lifetime) fs) [
      | true ↦ λ h. subst (AllByRecursion (CanStand lifetime)) (sym (deletion (eqb-true lifetime 0 h))) tt
      | false ↦ λ h. stand-all lifetime fs h prefixes fits
    ] refl

set-fits : (c : Common) (set : Option Sets.PortSet) → IfSome set (λ s. (0 < s.size) × (s.first ≡ c.internal)) → FitsSet set → SetFits c set
set-fits c None h k = tt
set-fits c (Some s) h k = record { some = no-zero s.size h.0; same = eq-eqb s.first c.internal h.1; fits = k }

-- the ask that a MAP request says
abbrev map_as : ℕ → Common → Seen → List Filters.Filter → Option Endpoint → Result Ask Code
map_as lifetime c seen filters endpoint = map_ask lifetime c seen filters endpoint

map-asked : (address : Address) (a : MapAsk) (third : Option Address) → address ≡ a.endpoint.address → 0 < a.endpoint.port → ask_of address (frame_for a.lifetime (asked_body (Asks.Map a))) (map_items third a.prefer a.filters a.set) ≡ Ok (Asks.Map a)
map-asked address a third same some =
    let c = asked_common a.endpoint a.nonce a.port a.address in
    let items = map_items third a.prefer a.filters a.set in
    ap (λ e. map_as a.lifetime c (seen_of items) (filters_of items) e) (endpoint-is address a.endpoint same some)
    ∙ ap (λ s. map_as a.lifetime c s (filters_of items) (Some a.endpoint)) (map-seen third a.prefer a.filters a.set)
    ∙ ap (λ fs. map_as a.lifetime c (record { third = third; prefers = a.prefer; set = a.set }) fs (Some a.endpoint)) (map-filters third a.prefer a.filters a.set)

map-third : (third : Option Address) (prefer : Bool) (fs : List Filters.Filter) (set : Option Sets.PortSet) → third_of (map_items third prefer fs set) ≡ third
map-third third prefer fs set = ap (λ (s : Seen). s.third) (map-seen third prefer fs set)

map-verdict : (config : Config) (own : Address) (third : Option Address) (a : MapAsk) (place : ℕ) → CanBeAsked config own third (Asks.Map a) place → verdict_of config own (request_text own third (Asks.Map a)) ≡ Asked place (Asks.Map a) (asked_items third (Asks.Map a))
map-verdict config own third a place h =
    let c = asked_common a.endpoint a.nonce a.port a.address in
    let items = map_items third a.prefer a.filters a.set in
    let formed = h.well_formed in
    let fits = h.fits in
    let port = formed.internal.below in
    let suggested = formed.suggested in
    let internal : a.endpoint.port < 2 ^ 16 = omega (arith, port) in
    let external : a.port < 2 ^ 16 = omega (arith, suggested) in
    let body : FitsBody (Map c) = (fits.0, fits.1, internal, external) in
    let e = third-fits config own third h.other in
    let options = map-size third a.prefer a.filters a.set e fits.3 in
    let few = h.written in
    let common = common-size c body in
    let size = request-size own a.lifetime (Map c) (options_text (map option_of items)) h.sixteen in
    let most : length (text_with own a.lifetime (Map c) (options_text (map option_of items))) ≤ 1100 = omega (arith, options, few, common, size) in
    let says = map-third third a.prefer a.filters a.set in
    verdict-is config own a.lifetime (Map c) items (Asks.Map a) place h.sixteen fits.2 body
    (map-fits third a.prefer a.filters a.set e fits.3 fits.4) most
    (map-passes a.lifetime c third a.prefer a.filters a.set e (filters-stand a.lifetime a.filters formed.deletion formed.prefixes fits.3) (set-fits c a.set formed.set fits.4))
    (ap (λ t. first_case (third_steps config own t)) says ∙ third-none config own third h.other)
    (map-asked (subject_of own (third_of items)) a third (ap (subject_of own) says ∙ sym h.address) formed.internal.some)
    (ap (λ t. place_of config.subscribers (subject_of own t)) says ∙ h.paired)

abbrev remote_part : PeerAsk → List ℕ
remote_part a = remote_text a.remote_port a.remote

remote-size : (a : PeerAsk) → length a.remote.0 ≡ 16 → length (remote_part a) ≡ 20
remote-size a e = omega (arith, e)

-- PEER has no options but THIRD_PARTY
third-says : (third : Option Address) → third_of (asked_third third) ≡ third
third-says None = refl
third-says (Some a) = refl

thirds-fit : (third : Option Address) → ThirdFits third → AllByRecursion FitsItem (asked_third third)
thirds-fit None e = tt
thirds-fit (Some a) e = (e, tt)

thirds-size : (third : Option Address) → ThirdFits third → length (options_text (map option_of (asked_third third))) ≤ 20
thirds-size None e = omega arith
thirds-size (Some a) e =
    let one = third-size a e in
    let all = more-size (ThirdParty a) [] in
    omega (arith, one, all)

thirds-pass : (lifetime : ℕ) (c : Common) (port : ℕ) (remote : Address) (third : Option Address) → ThirdFits third → first_case (options_steps lifetime (Peer c port remote) (map found_whole (map option_of (asked_third third)))) ≡ None
thirds-pass lifetime c port remote None e = refl
thirds-pass lifetime c port remote (Some a) e =
    steps-more lifetime (Peer c port remote) [] (found_whole (option_of (ThirdParty a))) [] (peer-third-passes lifetime c port remote a e) refl

peer-by : (b : Bool) (r s : Result Ask Code) → b ≡ false → cond b r s ≡ s
peer-by b r s h = rw h refl

peer-asked : (address : Address) (a : PeerAsk) (items : List Item) → address ≡ a.endpoint.address → 0 < a.endpoint.port → 0 < a.remote_port → ask_of address (frame_for a.lifetime (asked_body (Asks.Peer a))) items ≡ Ok (Asks.Peer a)
peer-asked address a items same some remote =
    let c = asked_common a.endpoint a.nonce a.port a.address in
    ap (λ e. peer_ask a.lifetime c a.remote_port a.remote e) (endpoint-is address a.endpoint same some)
    ∙ peer-by (a.remote_port == 0) _ (Ok (Asks.Peer a)) (no-zero a.remote_port remote)

peer-verdict : (config : Config) (own : Address) (third : Option Address) (a : PeerAsk) (place : ℕ) → CanBeAsked config own third (Asks.Peer a) place → verdict_of config own (request_text own third (Asks.Peer a)) ≡ Asked place (Asks.Peer a) (asked_items third (Asks.Peer a))
peer-verdict config own third a place h =
    let c = asked_common a.endpoint a.nonce a.port a.address in
    let b = Peer c a.remote_port a.remote in
    let items = asked_third third in
    let formed = h.well_formed in
    let fits = h.fits in
    let port = formed.internal.below in
    let suggested = formed.suggested in
    let far = formed.remote.below in
    let internal : a.endpoint.port < 2 ^ 16 = omega (arith, port) in
    let external : a.port < 2 ^ 16 = omega (arith, suggested) in
    let remote : a.remote_port < 2 ^ 16 = omega (arith, far) in
    let common : FitsBody (Map c) = (fits.0, fits.1, internal, external) in
    let body : FitsBody b = (common, remote, fits.3) in
    let e = third-fits config own third h.other in
    let options = thirds-size third e in
    let data_size = length-append (body_text (Map c)) (remote_part a) in
    let part = remote-size a fits.3 in
    let first = common-size c common in
    let size = request-size own a.lifetime b (options_text (map option_of items)) h.sixteen in
    let most : length (text_with own a.lifetime b (options_text (map option_of items))) ≤ 1100 = omega (arith, options, data_size, part, first, size) in
    let says = third-says third in
    verdict-is config own a.lifetime b items (Asks.Peer a) place h.sixteen fits.2 body
    (thirds-fit third e) most
    (thirds-pass a.lifetime c a.remote_port a.remote third e)
    (ap (λ t. first_case (third_steps config own t)) says ∙ third-none config own third h.other)
    (peer-asked (subject_of own (third_of items)) a items (ap (subject_of own) says ∙ sym h.address) formed.internal.some formed.remote.some)
    (ap (λ t. place_of config.subscribers (subject_of own t)) says ∙ h.paired)

-- ANNOUNCE is for the client itself
announce-verdict : (config : Config) (own : Address) (third : Option Address) (place : ℕ) → CanBeAsked config own third Asks.Announce place → verdict_of config own (request_text own third Asks.Announce) ≡ Asked place Asks.Announce []
announce-verdict config own None place h =
    let size = request-size own 0 Announce [] h.sixteen in
    let most : length (text_with own 0 Announce []) ≤ 1100 = omega (arith, size) in
    verdict-is config own 0 Announce [] Asks.Announce place h.sixteen (omega arith) tt tt most refl refl refl h.paired
announce-verdict config own (Some a) place h =
    let same : a.0 ≡ own.0 = ap (λ (x : Address). x.0) (sym h.address) in
    let equal = (bytes_eq-Decides a.0 own.0).1 same in
    let other = h.other.1 in
    absurd cc

pub requests-asked : RequestsAreAsked
requests-asked config own third (Asks.Known refusal) place h = absurd h.written
requests-asked config own third Asks.Announce place h = announce-verdict config own third place h
requests-asked config own third (Asks.Map a) place h = map-verdict config own third a place h
requests-asked config own third (Asks.Peer a) place h = peer-verdict config own third a place h
