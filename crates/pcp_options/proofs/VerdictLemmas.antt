-- The verdict by its parts.
use Rattle.std.proofs.Common.{◌≡◌, ℕ, ◌≤◌, true, cond, List, [], ◌++◌, length, drop, Option, Some, None, unwrap_or, refl, ap, sym, ◌∙◌, subst, arith}
use Rattle.std.proofs.lemmas.List.{length-drop}
use Rattle.pcp_base.specs.declared.addresses.Address.{Address}
use Rattle.pcp_base.specs.declared.codes.Code.{Code}
use Rattle.pcp_base.specs.declared.asks.Refusal.{Refusal}
use Rattle.pcp_base.specs.declared.configs.Config.{Config}
use Rattle.pcp_base.specs.Cases.{first_case}
use Rattle.pcp_codec.specs.declared.requests.Frame.{Frame}
use Rattle.pcp_codec.specs.declared.requests.Framed.TheVariants as Framed
use Rattle.pcp_codec.specs.Fields.{u32_at}
use Rattle.pcp_codec.specs.Requests.{common_of, frame_of}
use Rattle.pcp_base.specs.Refusals.{unparsed}
use Rattle.pcp_codec.specs.Framing.{frame_steps, is_plain_map, reading_of}
use Rattle.pcp_codec.proofs.FramingLemmas.{framed_silent, framed_refused, framed_whole, first_case-Some, first_case-None, passed, plain-body, plain-end, plain-whole}
use Rattle.pcp_options.specs.declared.options.Item.{Item}
use Rattle.pcp_options.specs.declared.options.Seen.{Seen}
use Rattle.pcp_options.specs.declared.verdicts.Verdict.{Verdict}
use Rattle.pcp_options.specs.declared.verdicts.Verdict.TheVariants.{Silent, Refuse}
use Rattle.pcp_options.specs.Options.{found_in, items_of}
use Rattle.pcp_options.specs.Steps.{options_steps}
use Rattle.pcp_options.specs.Asking.{third_of, seen_of, subject_of, endpoint_of, map_ask, ask_by}
use Rattle.pcp_base.specs.Pairing.{place_of}
use Rattle.pcp_base.specs.Refusals.{parsed}
use Rattle.pcp_options.specs.Verdicts.{IsFrameOf, options_in, third_steps, later_steps, asked_by, asked_for, verdict_by, verdict_of}

-- the data of the opcode is there
pub frame-room : (frame : Frame) (octets : List ℕ) → IsFrameOf frame octets → frame.options ≤ length octets
frame-room frame octets (source, h) =
    let p = passed octets source frame h in
    subst (λ f. f.options ≤ length octets) p.1 p.0.room

frame-head : (frame : Frame) (octets : List ℕ) → IsFrameOf frame octets → 24 ≤ frame.options
frame-head frame octets (source, h) =
    let p = passed octets source frame h in
    let all : 24 ≤ (frame_of octets).options = omega arith in
    subst (λ f. 24 ≤ f.options) p.1 all

-- so few octets stand behind it
pub frame-few : (frame : Frame) (octets : List ℕ) → IsFrameOf frame octets → length (drop frame.options octets) ≤ 1076
frame-few frame octets (source, h) =
    let most = (passed octets source frame h).0.most in
    let head = frame-head frame octets (source, h) in
    let rest = length-drop frame.options octets in
    omega (arith, most, head, rest)

-- the verdict by the octets behind the data
abbrev pub text_verdict : Config → Address → Frame → List ℕ → Verdict
text_verdict config source frame text =
    verdict_by config source frame (items_of (found_in text)) (first_case (later_steps config source frame (found_in text)))

pub judged-silent : (config : Config) (source : Address) (message : List ℕ) → Framed.Silent ≡ reading_of message source → Silent ≡ verdict_of config source message
unfolding verdict_of
judged-silent config source message h =
    let os = options_in (frame_of message) message in
    sym (ap (λ b. cond b Silent (verdict_by config source (frame_of message) (items_of os) (first_case (frame_steps message source ++ later_steps config source (frame_of message) os))))
    (framed_silent message source (sym h)))

pub judged-refused : (config : Config) (source : Address) (message : List ℕ) (r : Refusal) → Framed.Refuse r ≡ reading_of message source → Refuse r ≡ verdict_of config source message
unfolding verdict_of
judged-refused config source message r h =
    let os = options_in (frame_of message) message in
    let found = framed_refused message source r (sym h) in
    sym (ap (λ b. cond b Silent (verdict_by config source (frame_of message) (items_of os) (first_case (frame_steps message source ++ later_steps config source (frame_of message) os)))) found.0
    ∙ ap (verdict_by config source (frame_of message) (items_of os)) (first_case-Some (frame_steps message source) (later_steps config source (frame_of message) os) r found.1))

pub judged-whole : (config : Config) (source : Address) (message : List ℕ) (frame : Frame) → Framed.Whole frame ≡ reading_of message source → verdict_of config source message ≡ verdict_by config source frame (items_of (options_in frame message)) (first_case (later_steps config source frame (options_in frame message)))
unfolding verdict_of
judged-whole config source message frame h =
    let os = options_in (frame_of message) message in
    let found = framed_whole message source frame (sym h) in
    ap (λ b. cond b Silent (verdict_by config source (frame_of message) (items_of os) (first_case (frame_steps message source ++ later_steps config source (frame_of message) os)))) found.0
    ∙ ap (verdict_by config source (frame_of message) (items_of os)) (first_case-None (frame_steps message source) (later_steps config source (frame_of message) os) found.1)
    ∙ ap (λ f. verdict_by config source f (items_of (options_in f message)) (first_case (later_steps config source f (options_in f message)))) found.2

-- an option is refused
pub options-refused : (config : Config) (source : Address) (frame : Frame) (text : List ℕ) (code : Code) → first_case (options_steps frame.lifetime frame.body (found_in text)) ≡ Some (unparsed code) → Refuse (unparsed code) ≡ text_verdict config source frame text
options-refused config source frame text code h =
    sym (ap (verdict_by config source frame (items_of (found_in text)))
    (first_case-Some (options_steps frame.lifetime frame.body (found_in text)) (third_steps config source (third_of (items_of (found_in text)))) (unparsed code) h))

-- the options pass
pub options-pass : (config : Config) (source : Address) (frame : Frame) (text : List ℕ) (items : List Item) (seen : Seen) → first_case (options_steps frame.lifetime frame.body (found_in text)) ≡ None → seen ≡ seen_of (items_of (found_in text)) → items ≡ items_of (found_in text) → verdict_by config source frame items (first_case (third_steps config source seen.third)) ≡ text_verdict config source frame text
options-pass config source frame text items seen h s i =
    ap (λ xs. verdict_by config source frame xs (first_case (third_steps config source seen.third))) i
    ∙ sym (ap (verdict_by config source frame (items_of (found_in text)))
    (first_case-None (options_steps frame.lifetime frame.body (found_in text)) (third_steps config source (third_of (items_of (found_in text)))) h
    ∙ ap (λ x. first_case (third_steps config source x.third)) (sym s)))

-- there is no option
pub no-options : (config : Config) (source : Address) (frame : Frame) (text : List ℕ) (seen : Seen) → text ≡ [] → seen ≡ seen_of [] → verdict_by config source frame [] (first_case (third_steps config source seen.third)) ≡ text_verdict config source frame text
no-options config source frame text seen h s =
    subst (λ t. verdict_by config source frame [] (first_case (third_steps config source seen.third)) ≡ text_verdict config source frame t) (sym h)
    (options-pass config source frame [] [] seen refl s refl)

-- THIRD_PARTY is refused
pub third-refused : (config : Config) (source : Address) (frame : Frame) (items : List Item) (seen : Seen) (code : Code) → first_case (third_steps config source seen.third) ≡ Some (parsed code) → Refuse (parsed code) ≡ verdict_by config source frame items (first_case (third_steps config source seen.third))
third-refused config source frame items seen code t = sym (ap (verdict_by config source frame items) t)

subject-by : (source : Address) (third : Option Address) → subject_of source third ≡ unwrap_or third source
subject-by source None = refl
subject-by source (Some third) = refl

-- the steps before the ask pass
pub steps-pass : (config : Config) (source : Address) (frame : Frame) (items : List Item) (seen : Seen) (subject : Address) → seen ≡ seen_of items → first_case (third_steps config source seen.third) ≡ None → subject ≡ unwrap_or seen.third source → asked_for config frame items subject ≡ verdict_by config source frame items (first_case (third_steps config source seen.third))
steps-pass config source frame items seen subject s t u =
    sym (ap (verdict_by config source frame items) t
    ∙ ap (asked_for config frame items) (ap (λ x. subject_of source x.third) (sym s) ∙ subject-by source seen.third ∙ sym u))

-- a plain MAP request: it is for its source, and has no options
pub plain-verdict : (config : Config) (source : Address) (message : List ℕ) → is_plain_map message source ≡ true → verdict_of config source message ≡ asked_by [] (map_ask (u32_at message 4) (common_of message) (seen_of []) [] (endpoint_of source (common_of message))) (place_of config.subscribers source)
plain-verdict config source message h =
    judged-whole config source message (frame_of message) (sym (plain-whole message source h))
    ∙ sym (no-options config source (frame_of message) (drop (frame_of message).options message) (seen_of []) (plain-end message source h) refl)
    ∙ sym (steps-pass config source (frame_of message) [] (seen_of []) source refl refl refl)
    ∙ ap (λ body. asked_by [] (ask_by source (u32_at message 4) body (seen_of []) []) (place_of config.subscribers source)) (plain-body message source h)
