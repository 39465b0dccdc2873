-- No step of a verdict refuses with the code of a success.
use Rattle.std.specs.List.{AllByRecursion}
use Rattle.std.proofs.Common.{◌≡◌, ◌≢◌, ℕ, ◌==◌, Bool, true, false, cond, List, [], ◌∷◌, ◌++◌, Option, Some, None, refl, subst}
use Rattle.std.specs.Prelude.{Result, Ok, Err}
use Rattle.pcp_base.specs.declared.addresses.Address.{Address}
use Rattle.pcp_base.specs.declared.asks.Ask.{Ask}
use Rattle.pcp_base.specs.declared.asks.Refusal.{Refusal}
use Rattle.pcp_base.specs.declared.codes.Code.{Code}
use Rattle.pcp_base.specs.declared.codes.Code.TheVariants.{Success, MalformedRequest, NotAuthorized}
use Rattle.pcp_base.specs.declared.configs.Config.{Config}
use Rattle.pcp_base.specs.declared.leases.Endpoint.{Endpoint}
use Rattle.pcp_base.specs.Cases.{Case, first_case}
use Rattle.pcp_base.specs.Pairing.{place_of}
use Rattle.pcp_codec.specs.declared.requests.Body.{Body}
use Rattle.pcp_codec.specs.declared.requests.Body.TheVariants.{Announce, Map, Peer}
use Rattle.pcp_codec.specs.declared.requests.Common.{Common}
use Rattle.pcp_codec.specs.declared.requests.Frame.{Frame}
use Rattle.pcp_codec.specs.Framing.{frame_steps, is_silent}
use Rattle.pcp_codec.specs.Requests.{frame_of}
use Rattle.pcp_options.specs.declared.options.Item.{Item}
use Rattle.pcp_options.specs.declared.verdicts.Verdict.{Verdict}
use Rattle.pcp_options.specs.declared.verdicts.Verdict.TheVariants.{Silent, Refuse}
use Rattle.pcp_options.specs.Asking.{ask_by, ask_of, endpoint_of, filters_of, map_ask, peer_ask, seen_of, subject_of, third_of}
use Rattle.pcp_options.specs.Options.{FoundOption, items_of}
use Rattle.pcp_options.specs.Steps.{is_again, is_ignored, known_steps, option_steps, options_steps, steps_after}
use Rattle.pcp_options.specs.Verdicts.{asked_by, later_steps, options_in, request_steps, third_steps, verdict_by, verdict_of}
use Rattle.option_laws.specs.Refusals.{RefusalsAreErrors}

-- a step that refuses, refuses with an error
abbrev IsErrorStep : Case Refusal → Type 0
IsErrorStep step = step.result.code ≢ Success

all-append : (xs ys : List (Case Refusal)) → AllByRecursion IsErrorStep xs → AllByRecursion IsErrorStep ys → AllByRecursion IsErrorStep (xs ++ ys)
all-append [] ys h k = k
all-append (x ∷ xs) ys h k = (h.0, all-append xs ys h.1 k)

error-by : (b : Bool) (step : Case Refusal) (rest : Option Refusal) (refusal : Refusal) → IsErrorStep step → (rest ≡ Some refusal → refusal.code ≢ Success)
    → cond {A = Option Refusal} b (Some step.result) rest ≡ Some refusal → refusal.code ≢ Success
error-by true step rest refusal error later h = let same : step.result ≡ refusal = cc in subst (λ (r : Refusal). r.code ≢ Success) same error
error-by false step rest refusal error later h = later h

first-error : (steps : List (Case Refusal)) (refusal : Refusal) → AllByRecursion IsErrorStep steps → first_case steps ≡ Some refusal → refusal.code ≢ Success
first-error [] refusal all h = absurd cc
first-error (step ∷ steps) refusal all h = error-by step.applies step (first_case steps) refusal all.0 (λ e. first-error steps refusal all.1 e) h

frame-errors : (message : List ℕ) (source : Address) → AllByRecursion IsErrorStep (frame_steps message source)
frame-errors message source = ((λ e. absurd cc), ((λ e. absurd cc), ((λ e. absurd cc), ((λ e. absurd cc), ((λ e. absurd cc), tt)))))

known-errors : (lifetime : ℕ) (body : Body) (again : Bool) (o : FoundOption) → AllByRecursion IsErrorStep (known_steps lifetime body again o)
known-errors lifetime body again o = ((λ e. absurd cc), ((λ e. absurd cc), ((λ e. absurd cc), ((λ e. absurd cc), tt))))

option-errors : (lifetime : ℕ) (body : Body) (again : Bool) (o : FoundOption) → AllByRecursion IsErrorStep (option_steps lifetime body again o)
option-errors lifetime body again o = ((λ e. absurd cc), ((λ e. absurd cc), either (is_ignored o.code)))
  where
    either : (b : Bool) → AllByRecursion IsErrorStep (cond b [] (known_steps lifetime body again o))
    either true = tt
    either false = known-errors lifetime body again o

after-errors : (lifetime : ℕ) (body : Body) (before os : List FoundOption) → AllByRecursion IsErrorStep (steps_after lifetime body before os)
after-errors lifetime body before [] = tt
after-errors lifetime body before (o ∷ os) =
    all-append (option_steps lifetime body (is_again before o.code) o) (steps_after lifetime body (before ++ o ∷ []) os)
    (option-errors lifetime body (is_again before o.code) o) (after-errors lifetime body (before ++ o ∷ []) os)

third-errors : (config : Config) (source : Address) (third : Option Address) → AllByRecursion IsErrorStep (third_steps config source third)
third-errors config source None = tt
third-errors config source (Some third) = ((λ e. absurd cc), ((λ e. absurd cc), tt))

request-errors : (config : Config) (source : Address) (message : List ℕ) → AllByRecursion IsErrorStep (request_steps config source message)
request-errors config source message =
    let frame = frame_of message in
    let os = options_in frame message in
    all-append (frame_steps message source) (later_steps config source frame os) (frame-errors message source)
    (all-append (options_steps frame.lifetime frame.body os) (third_steps config source (third_of (items_of os)))
    (after-errors frame.lifetime frame.body [] os) (third-errors config source (third_of (items_of os))))

-- what can't be asked for
map-error : (lifetime : ℕ) (c : Common) (items : List Item) (e : Option Endpoint) (code : Code) → map_ask lifetime c (seen_of items) (filters_of items) e ≡ Err code → code ≢ Success
map-error lifetime c items None code h = λ e. absurd cc
map-error lifetime c items (Some endpoint) code h = absurd cc

malformed-by : (b : Bool) (ask : Ask) (code : Code) → cond {A = Result Ask Code} b (Err MalformedRequest) (Ok ask) ≡ Err code → code ≢ Success
malformed-by true ask code h = let same : MalformedRequest ≡ code = cc in λ e. absurd cc
malformed-by false ask code h = absurd cc

peer-error : (lifetime : ℕ) (c : Common) (port : ℕ) (remote : Address) (e : Option Endpoint) (code : Code) → peer_ask lifetime c port remote e ≡ Err code → code ≢ Success
peer-error lifetime c port remote None code h = λ e. absurd cc
peer-error lifetime c port remote (Some endpoint) code h = malformed-by (port == 0) _ code h

ask-error : (address : Address) (lifetime : ℕ) (body : Body) (items : List Item) (code : Code) → ask_by address lifetime body (seen_of items) (filters_of items) ≡ Err code → code ≢ Success
ask-error address lifetime Announce items code h = absurd cc
ask-error address lifetime (Map c) items code h = map-error lifetime c items (endpoint_of address c) code h
ask-error address lifetime (Peer c port remote) items code h = peer-error lifetime c port remote (endpoint_of address c) code h

asked-error : (items : List Item) (r : Result Ask Code) (place : Option ℕ) (refusal : Refusal) → ((code : Code) → r ≡ Err code → code ≢ Success) → asked_by items r place ≡ Refuse refusal → refusal.code ≢ Success
asked-error items (Err code) place refusal errors h = let same : code ≡ refusal.code = cc in subst (λ (c : Code). c ≢ Success) same (errors code refl)
asked-error items (Ok ask) None refusal errors h = let same : NotAuthorized ≡ refusal.code = cc in λ e. absurd cc
asked-error items (Ok ask) (Some place) refusal errors h = absurd cc

verdict-error : (config : Config) (source : Address) (frame : Frame) (items : List Item) (o : Option Refusal) (refusal : Refusal)
    → ((r : Refusal) → o ≡ Some r → r.code ≢ Success) → verdict_by config source frame items o ≡ Refuse refusal → refusal.code ≢ Success
verdict-error config source frame items (Some r) refusal steps h = let same : r ≡ refusal = cc in subst (λ (x : Refusal). x.code ≢ Success) same (steps r refl)
verdict-error config source frame items None refusal steps h =
    let address = subject_of source (third_of items) in
    asked-error items (ask_of address frame items) (place_of config.subscribers address) refusal
    (λ code e. ask-error address frame.lifetime frame.body items code e) h

verdict-by-silence : (b : Bool) (config : Config) (source : Address) (frame : Frame) (items : List Item) (o : Option Refusal) (refusal : Refusal)
    → ((r : Refusal) → o ≡ Some r → r.code ≢ Success) → cond {A = Verdict} b Silent (verdict_by config source frame items o) ≡ Refuse refusal → refusal.code ≢ Success
verdict-by-silence true config source frame items o refusal steps h = absurd cc
verdict-by-silence false config source frame items o refusal steps h = verdict-error config source frame items o refusal steps h

pub refusals-are-errors : RefusalsAreErrors
unfolding verdict_of
refusals-are-errors config source message refusal h =
    verdict-by-silence (is_silent message) config source (frame_of message) (items_of (options_in (frame_of message) message)) (first_case (request_steps config source message)) refusal
    (λ r e. first-error (request_steps config source message) r (request-errors config source message) e) h
