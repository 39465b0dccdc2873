-- The grammar of response heads, by their fields at places.
use Rattle.std.specs.Int.{to_be_bytes, from_be_bytes, w32}
use Rattle.std.specs.Prelude.{option_map, slice_get, ⊤}
use Rattle.std.proofs.Common.{◌≡◌, ℕ, zero, suc, ◌+◌, ◌%◌, ◌<◌, ◌≤◌, ◌==◌, nat_le, Bool, true, false, cond, List, [], ◌∷◌, ◌++◌, length, drop, Option, Some, None, refl, ap, sym, ◌∙◌, subst, arith}
use Rattle.std.proofs.lemmas.Bool.{and_from, and_parts, eq-eqb, eqb-true, le-leb, leb-true}
use Rattle.std.proofs.lemmas.List.{length-drop}
use Rattle.std.proofs.lemmas.Nat.{from_be_bytes-to_be_bytes_4}
use Rattle.pcp_base.specs.declared.codes.Code.{Code}
use Rattle.pcp_base.specs.declared.codes.Code.TheVariants.{Success, UnsuppVersion, NotAuthorized, MalformedRequest, UnsuppOpcode, UnsuppOption, MalformedOption, NetworkFailure, NoResources, UnsuppProtocol, UserExQuota, CannotProvideExternal, AddressMismatch, ExcessiveRemotePeers}
use Rattle.pcp_base.specs.Codes.{code_number}
use Rattle.pcp_codec.specs.declared.responses.TheConstants.{CODES}
use Rattle.pcp_codec.specs.declared.responses.Head.{Head}
use Rattle.pcp_codec.specs.Fields.{octet, octets_at, u32_at}
use Rattle.pcp_codec.specs.Requests.{opcode_of, data_length}
use Rattle.pcp_codec.specs.Responses.{IsResponseHead, code_of, head_of, head_with, is_framed}
use Rattle.pcp_codec.proofs.FieldLemmas.{octets_at-all, octets_at-split, u32_at-fits, u32_at-spelled}

-- the codes stand in the order of their numbers
abbrev AreNumbered : ℕ → List Code → Type 0
AreNumbered k [] = ⊤
AreNumbered k (c ∷ cs) = (code_number c ≡ k) × AreNumbered (k + 1) cs

numbered : (cs : List Code) (k n : ℕ) (c : Code) → AreNumbered k cs → slice_get cs n ≡ Some c → code_number c ≡ k + n
numbered [] k n c h e = absurd cc
numbered (d ∷ cs) k zero c h e =
    let same : d ≡ c = cc in
    let plain : k + zero ≡ k = omega arith in
    ap code_number (sym same) ∙ h.0 ∙ sym plain
numbered (d ∷ cs) k (suc n) c h e =
    let more : k + 1 + n ≡ k + suc n = omega arith in
    numbered cs (k + 1) n c h.1 e ∙ more

pub code-numbered : (n : ℕ) (c : Code) → code_of n ≡ Some c → code_number c ≡ n
code-numbered n c e =
    let plain : 0 + n ≡ n = omega arith in
    numbered CODES 0 n c (refl, (refl, (refl, (refl, (refl, (refl, (refl, (refl, (refl, (refl, (refl, (refl, (refl, (refl, tt)))))))))))))) e ∙ plain

pub code-of-number : (c : Code) → code_of (code_number c) ≡ Some c
code-of-number Success = refl
code-of-number UnsuppVersion = refl
code-of-number NotAuthorized = refl
code-of-number MalformedRequest = refl
code-of-number UnsuppOpcode = refl
code-of-number UnsuppOption = refl
code-of-number MalformedOption = refl
code-of-number NetworkFailure = refl
code-of-number NoResources = refl
code-of-number UnsuppProtocol = refl
code-of-number UserExQuota = refl
code-of-number CannotProvideExternal = refl
code-of-number AddressMismatch = refl
code-of-number ExcessiveRemotePeers = refl

-- what the test of the frame says, and what passes it
pub record IsFramed (message : List ℕ) : Type 0 where
  pub least : 24 ≤ length message
  pub most : length message ≤ 1100
  pub words : length message % 4 ≡ 0
  pub version : octet message 0 ≡ 2
  pub response : 128 ≤ octet message 1
  pub opcode : opcode_of message ≤ 2
  pub room : 24 + data_length (opcode_of message) ≤ length message

pub framed-of : (message : List ℕ) → is_framed message ≡ true → IsFramed message
framed-of message h =
    let a = and_parts _ (nat_le (24 + data_length (opcode_of message)) (length message)) h in
    let b = and_parts _ (nat_le (opcode_of message) 2) a.0 in
    let c = and_parts _ (nat_le 128 (octet message 1)) b.0 in
    let d = and_parts _ (octet message 0 == 2) c.0 in
    let e = and_parts _ (length message % 4 == 0) d.0 in
    let f = and_parts (nat_le 24 (length message)) (nat_le (length message) 1100) e.0 in
    record {
      least = leb-true 24 (length message) f.0;
      most = leb-true (length message) 1100 f.1;
      words = eqb-true (length message % 4) 0 e.1;
      version = eqb-true (octet message 0) 2 d.1;
      response = leb-true 128 (octet message 1) c.1;
      opcode = leb-true (opcode_of message) 2 b.1;
      room = leb-true (24 + data_length (opcode_of message)) (length message) a.1;
    }

pub framed-is : (message : List ℕ) → IsFramed message → is_framed message ≡ true
framed-is message p =
    and_from _ _ (and_from _ _ (and_from _ _ (and_from _ _ (and_from _ _ (and_from _ _
    (le-leb 24 (length message) p.least) (le-leb (length message) 1100 p.most))
    (eq-eqb (length message % 4) 0 p.words)) (eq-eqb (octet message 0) 2 p.version))
    (le-leb 128 (octet message 1) p.response)) (le-leb (opcode_of message) 2 p.opcode))
    (le-leb (24 + data_length (opcode_of message)) (length message) p.room)

-- a head that stands there, by the test and the code
head-by : (b : Bool) (message : List ℕ) (code : Option Code) (head : Head) → cond b (option_map (head_with message) code) None ≡ Some head → (b ≡ true) × (c : Code) × (code ≡ Some c) × (head_with message c ≡ head)
head-by true message None head h = absurd cc
head-by true message (Some c) head h = let same : head_with message c ≡ head = cc in (refl, c, refl, same)
head-by false message code head h = absurd cc

head-text : (message : List ℕ) (v o code : ℕ) (lifetime epoch : List ℕ) → 24 ≤ length message → v ≡ octet message 0 → o ≡ octet message 1 → code ≡ octet message 3 → lifetime ≡ octets_at message 4 4 → epoch ≡ octets_at message 8 4 → message ≡ v ∷ o ∷ octet message 2 ∷ code ∷ lifetime ++ epoch ++ octets_at message 12 12 ++ drop 24 message
head-text message v o code lifetime epoch least a b c d e = rw (a, b, c, d, e) (sym (octets_at-split message 24 least))

-- what is read is spelled so
pub head-is : (message : List ℕ) (head : Head) → ((i : ℕ) → octet message i < 256) → head_of message ≡ Some head → IsResponseHead message head
head-is message head fits h =
    let found = head-by (is_framed message) message (code_of (octet message 3)) head h in
    let p = framed-of message found.0 in
    let low = p.response in
    let high = fits 1 in
    let opcode : 128 + opcode_of message ≡ octet message 1 = omega arith in
    let room : data_length (opcode_of message) ≤ length (drop 24 message) = omega (arith, p.room, length-drop 24 message) in
    subst (IsResponseHead message) found.3 (record {
      reserved = octet message 2;
      last = octets_at message 12 12;
      twelve = refl;
      behind = drop 24 message;
      spelled = head-text message 2 (128 + opcode_of message) (code_number found.1) (to_be_bytes w32 (u32_at message 4)) (to_be_bytes w32 (u32_at message 8)) p.least (sym p.version) opcode (code-numbered (octet message 3) found.1 found.2) (u32_at-spelled message fits 4) (u32_at-spelled message fits 8);
      opcode = p.opcode;
      room = room;
      numbers_fit = (u32_at-fits message fits 4, u32_at-fits message fits 8);
      words = p.words;
      most = p.most;
    })

abbrev cells : ℕ → ℕ → ℕ → ℕ → ℕ → List ℕ → List ℕ → List ℕ
cells opcode reserved code lifetime epoch last behind =
    2 ∷ (128 + opcode) ∷ reserved ∷ code ∷ to_be_bytes w32 lifetime ++ to_be_bytes w32 epoch ++ octets_at last 0 12 ++ behind

last-text : (opcode reserved code lifetime epoch : ℕ) (last l behind : List ℕ) → l ≡ last → 2 ∷ (128 + opcode) ∷ reserved ∷ code ∷ to_be_bytes w32 lifetime ++ to_be_bytes w32 epoch ++ last ++ behind ≡ 2 ∷ (128 + opcode) ∷ reserved ∷ code ∷ to_be_bytes w32 lifetime ++ to_be_bytes w32 epoch ++ l ++ behind
last-text opcode reserved code lifetime epoch last l behind e = rw e refl

abbrev head_by : ℕ → ℕ → ℕ → Code → Head
head_by opcode lifetime epoch code = record { opcode = opcode; code = code; lifetime = lifetime; epoch = epoch }

head-same : (head : Head) (o l e : ℕ) → o ≡ head.opcode → l ≡ head.lifetime → e ≡ head.epoch → head_by o l e head.code ≡ head
head-same head o l e x y z = rw (x, y, z) refl

head-found : (b : Bool) (message : List ℕ) (code : Option Code) (c : Code) → b ≡ true → code ≡ Some c → cond b (option_map (head_with message) code) None ≡ Some (head_with message c)
head-found b message code c h e = rw (h, e) refl

-- what is spelled so is read
pub is-head : (message : List ℕ) (head : Head) → IsResponseHead message head → head_of message ≡ Some head
is-head message head h =
    let text = cells head.opcode h.reserved (code_number head.code) head.lifetime head.epoch h.last h.behind in
    let same : message ≡ text =
    h.spelled ∙ last-text head.opcode h.reserved (code_number head.code) head.lifetime head.epoch h.last (octets_at h.last 0 12) h.behind (octets_at-all h.last 12 h.twelve) in
    let low = h.opcode in
    let opcode : (128 + head.opcode) % 128 ≡ head.opcode = omega arith in
    let room : 24 + data_length head.opcode ≤ length text = omega (arith, h.room) in
    let framed : IsFramed text = record {
      least = omega arith;
      most = subst (λ k. k ≤ 1100) (ap length same) h.most;
      words = subst (λ k. k % 4 ≡ 0) (ap length same) h.words;
      version = refl;
      response = omega arith;
      opcode = rw opcode low;
      room = rw opcode room;
    } in
    ap head_of same
    ∙ head-found (is_framed text) text (code_of (code_number head.code)) head.code (framed-is text framed) (code-of-number head.code)
    ∙ ap Some (head-same head ((128 + head.opcode) % 128) (from_be_bytes w32 (to_be_bytes w32 head.lifetime)) (from_be_bytes w32 (to_be_bytes w32 head.epoch)) opcode (from_be_bytes-to_be_bytes_4 head.lifetime h.numbers_fit.0) (from_be_bytes-to_be_bytes_4 head.epoch h.numbers_fit.1))

-- what stands there has a frame, and the opcode of the octets
pub head-framed : (message : List ℕ) (head : Head) → head_of message ≡ Some head → IsFramed message × (opcode_of message ≡ head.opcode)
head-framed message head h =
    let found = head-by (is_framed message) message (code_of (octet message 3)) head h in
    (framed-of message found.0, ap (λ (x : Head). x.opcode) found.3)
