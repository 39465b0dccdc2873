-- What each answer of the first five steps says of them.
use Rattle.std.proofs.Common.{◌≡◌, ℕ, ◌+◌, ◌%◌, ◌<◌, ◌≤◌, ◌==◌, ◌&&◌, ◌||◌, nat_lt, Bool, true, false, cond, not, bytes_eq, List, [], ◌∷◌, ◌++◌, length, drop, Option, Some, None, refl, ap, ◌∙◌, arith}
use Rattle.std.proofs.lemmas.Bool.{not-false, eqb-true, ltb-false, le-ltb, eq-eqb}
use Rattle.std.proofs.lemmas.Bool.Decides.{nat_tests}
use Rattle.std.proofs.lemmas.Slice.Eq.{bytes_eq-Decides}
use Rattle.pcp_base.specs.declared.addresses.Address.{Address}
use Rattle.pcp_base.specs.declared.asks.Refusal.{Refusal}
use Rattle.pcp_base.specs.Cases.{Case, first_case}
use Rattle.pcp_codec.specs.declared.requests.Body.TheVariants.{Announce, Map, Peer}
use Rattle.pcp_codec.specs.declared.requests.Frame.{Frame}
use Rattle.pcp_codec.specs.declared.requests.Framed.TheVariants.{Silent, Refuse, Whole}
use Rattle.pcp_codec.specs.Fields.{octet, octets_at, u16_at}
use Rattle.pcp_codec.specs.Requests.{opcode_of, data_length, common_of, body_of, frame_of}
use Rattle.pcp_codec.specs.Framing.{is_silent, is_from_another, is_plain_map, frame_steps, framed_unless, reading_of}
use Rattle.pcp_codec.proofs.FieldLemmas.{drop-all}

silent_of : (b : Bool) (first : Option Refusal) (message : List ℕ) → cond b Silent (framed_unless first (frame_of message)) ≡ Silent → b ≡ true
silent_of true first message h = refl
silent_of false None message h = absurd cc
silent_of false (Some r) message h = absurd cc

refused_of : (b : Bool) (first : Option Refusal) (message : List ℕ) (r : Refusal) → cond b Silent (framed_unless first (frame_of message)) ≡ Refuse r → (b ≡ false) × (first ≡ Some r)
refused_of true first message r h = absurd cc
refused_of false None message r h = absurd cc
refused_of false (Some s) message r h = let same : s ≡ r = cc in (refl, ap Some same)

whole_of : (b : Bool) (first : Option Refusal) (message : List ℕ) (f : Frame) → cond b Silent (framed_unless first (frame_of message)) ≡ Whole f → (b ≡ false) × (first ≡ None) × (frame_of message ≡ f)
whole_of true first message f h = absurd cc
whole_of false None message f h = let same : frame_of message ≡ f = cc in (refl, refl, same)
whole_of false (Some r) message f h = absurd cc

pub framed_silent : (message : List ℕ) (source : Address) → reading_of message source ≡ Silent → is_silent message ≡ true
framed_silent message source h = silent_of (is_silent message) (first_case (frame_steps message source)) message h

pub framed_refused : (message : List ℕ) (source : Address) (r : Refusal) → reading_of message source ≡ Refuse r → (is_silent message ≡ false) × (first_case (frame_steps message source) ≡ Some r)
framed_refused message source r h = refused_of (is_silent message) (first_case (frame_steps message source)) message r h

pub framed_whole : (message : List ℕ) (source : Address) (f : Frame) → reading_of message source ≡ Whole f → (is_silent message ≡ false) × (first_case (frame_steps message source) ≡ None) × (frame_of message ≡ f)
framed_whole message source f h = whole_of (is_silent message) (first_case (frame_steps message source)) message f h

some_then : (b : Bool) (x r : Refusal) (p q : Option Refusal) → (p ≡ Some r → q ≡ Some r) → cond b (Some x) p ≡ Some r → cond b (Some x) q ≡ Some r
some_then true x r p q later h = h
some_then false x r p q later h = later h

none_then : (b : Bool) (x : Refusal) (p q t : Option Refusal) → (p ≡ None → q ≡ t) → cond b (Some x) p ≡ None → cond b (Some x) q ≡ t
none_then true x p q t later h = absurd cc
none_then false x p q t later h = later h

-- what fails first among steps, and then among others
pub first_case-Some : (xs ys : List (Case Refusal)) (r : Refusal) → first_case xs ≡ Some r → first_case (xs ++ ys) ≡ Some r
first_case-Some [] ys r h = absurd cc
first_case-Some (x ∷ xs) ys r h = some_then x.applies x.result r (first_case xs) (first_case (xs ++ ys)) (first_case-Some xs ys r) h

pub first_case-None : (xs ys : List (Case Refusal)) → first_case xs ≡ None → first_case (xs ++ ys) ≡ first_case ys
first_case-None [] ys h = refl
first_case-None (x ∷ xs) ys h = none_then x.applies x.result (first_case xs) (first_case (xs ++ ys)) (first_case ys) (first_case-None xs ys) h

-- what passing all steps says of the octets
pub record Passes (message : List ℕ) (source : Address) : Type 0 where
  pub version : octet message 0 ≡ 2
  pub opcode : octet message 1 ≤ 2
  pub room : 24 + data_length (opcode_of message) ≤ length message
  pub most : length message ≤ 1100
  pub words : length message % 4 ≡ 0
  pub client : octets_at message 8 16 ≡ source.0

-- no step of a list fails
abbrev AllPass : List (Case Refusal) → Type 0
AllPass [] = Unit {0}
AllPass (step ∷ steps) = (step.applies ≡ false) × AllPass steps

none_both : (b : Bool) (x : Refusal) (rest : Option Refusal) → cond b (Some x) rest ≡ None → (b ≡ false) × (rest ≡ None)
none_both true x rest h = absurd cc
none_both false x rest h = (refl, h)

first_case-all : (steps : List (Case Refusal)) → first_case steps ≡ None → AllPass steps
first_case-all [] h = tt
first_case-all (step ∷ steps) h =
    let both = none_both step.applies step.result (first_case steps) h in
    (both.0, first_case-all steps both.1)

all-first_case : (steps : List (Case Refusal)) → AllPass steps → first_case steps ≡ None
all-first_case [] h = refl
all-first_case (step ∷ steps) h = rw h.0 (all-first_case steps h.1)

size_of : (n : ℕ) → (nat_lt 1100 n || not (n % 4 == 0)) ≡ false → (n ≤ 1100) × (n % 4 ≡ 0)
size_of n h = grind (arith, nat_tests)

size_is : (n : ℕ) → n ≤ 1100 → n % 4 ≡ 0 → (nat_lt 1100 n || not (n % 4 == 0)) ≡ false
size_is n h e = grind (arith, nat_tests)

whole_by : (b : Bool) (first : Option Refusal) (message : List ℕ) → b ≡ false → first ≡ None → cond b Silent (framed_unless first (frame_of message)) ≡ Whole (frame_of message)
whole_by b first message h e = rw (h, e) refl

heard_is : (message : List ℕ) → 24 ≤ length message → octet message 1 < 128 → is_silent message ≡ false
heard_is message h o = grind (arith, nat_tests)

heard_of : (message : List ℕ) → is_silent message ≡ false → octet message 1 < 128
heard_of message h = grind (arith, nat_tests)

same_octets : (xs ys : List ℕ) → not (bytes_eq xs ys) ≡ false → xs ≡ ys
same_octets xs ys h = (bytes_eq-Decides xs ys).0 (not-false (bytes_eq xs ys) h)

pub passed : (message : List ℕ) (source : Address) (frame : Frame) → reading_of message source ≡ Whole frame → Passes message source × (frame_of message ≡ frame)
passed message source frame h =
    let found = framed_whole message source frame h in
    let heard = heard_of message found.0 in
    let all = first_case-all (frame_steps message source) found.1 in
    let size = size_of (length message) all.1.0 in
    let known = ltb-false 2 (opcode_of message) all.1.1.0 in (
      record {
        version = eqb-true (octet message 0) 2 (not-false (octet message 0 == 2) all.0);
        opcode = omega arith;
        room = ltb-false (length message) (24 + data_length (opcode_of message)) all.1.1.1.0;
        most = size.0;
        words = size.1;
        client = same_octets (octets_at message 8 16) source.0 all.1.1.1.1.0;
      },
      found.2,
    )

pub passes : (message : List ℕ) (source : Address) → Passes message source → reading_of message source ≡ Whole (frame_of message)
passes message source p =
    let opcode = p.opcode in
    let room = p.room in
    let version = ap not (eq-eqb (octet message 0) 2 p.version) in
    let size = size_is (length message) p.most p.words in
    let known = le-ltb 2 (opcode_of message) (omega arith) in
    let fits = le-ltb (length message) (24 + data_length (opcode_of message)) room in
    let client = ap not ((bytes_eq-Decides (octets_at message 8 16) source.0).1 p.client) in
    let heard = heard_is message (omega arith) (omega arith) in
    let none = all-first_case (frame_steps message source) (version, (size, (known, (fits, (client, tt))))) in
    whole_by (is_silent message) (first_case (frame_steps message source)) message heard none

-- what a plain MAP request is
plain_parts : (a b c d : Bool) → (a && b && c && not d) ≡ true → (a ≡ true) × (b ≡ true) × (c ≡ true) × (d ≡ false)
plain_parts true true true false h = (refl, refl, refl, refl)
plain_parts true true true true h = absurd cc
plain_parts true true false d h = absurd cc
plain_parts true false c d h = absurd cc
plain_parts false b c d h = absurd cc

plain_map : (message : List ℕ) (source : Address) → is_plain_map message source ≡ true → (length message ≡ 60) × (octet message 0 ≡ 2) × (octet message 1 ≡ 1) × (octets_at message 8 16 ≡ source.0)
plain_map message source h =
    let parts = plain_parts (length message == 60) (octet message 0 == 2) (octet message 1 == 1) (is_from_another message source) h in (
      eqb-true (length message) 60 parts.0,
      eqb-true (octet message 0) 2 parts.1,
      eqb-true (octet message 1) 1 parts.2,
      same_octets (octets_at message 8 16) source.0 parts.3,
    )

pub plain-opcode : (message : List ℕ) (source : Address) → is_plain_map message source ≡ true → opcode_of message ≡ 1
plain-opcode message source h = let one = (plain_map message source h).2 in omega (arith, one)

pub plain-whole : (message : List ℕ) (source : Address) → is_plain_map message source ≡ true → reading_of message source ≡ Whole (frame_of message)
plain-whole message source h =
    let plain = plain_map message source h in
    let size = plain.0 in
    let one = plain.2 in
    let behind : data_length (opcode_of message) ≡ 36 = ap data_length (plain-opcode message source h) in
    passes message source (record {
      version = plain.1;
      opcode = omega (arith, one);
      room = omega (arith, size, behind);
      most = omega (arith, size);
      words = omega (arith, size);
      client = plain.3;
    })

pub plain-body : (message : List ℕ) (source : Address) → is_plain_map message source ≡ true → body_of message ≡ Map (common_of message)
plain-body message source h =
    ap (λ k. cond (k == 0) Announce (cond (k == 1) (Map (common_of message)) (Peer (common_of message) (u16_at message 60) (record { 0 = octets_at message 64 16 }))))
    (plain-opcode message source h)

-- no octet stands behind its data
pub plain-end : (message : List ℕ) (source : Address) → is_plain_map message source ≡ true → drop (24 + data_length (opcode_of message)) message ≡ []
plain-end message source h =
    let size = (plain_map message source h).0 in
    ap (λ k. drop (24 + data_length k) message) (plain-opcode message source h) ∙ drop-all message 60 (omega (arith, size))
