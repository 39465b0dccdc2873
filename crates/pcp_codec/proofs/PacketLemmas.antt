-- The grammar of requests, by their fields at places.
use Rattle.std.specs.Int.{to_be_bytes, from_be_bytes, w16, w32}
use Rattle.std.proofs.Common.{◌≡◌, ℕ, zero, suc, ◌+◌, ◌%◌, ◌==◌, ◌<◌, ◌≤◌, List, ◌∷◌, ◌++◌, length, drop, if◌then◌else◌, refl, ap, sym, ◌∙◌, subst, arith, lit≤, length-append}
use Rattle.std.proofs.lemmas.Nat.{from_be_bytes-to_be_bytes_2, from_be_bytes-to_be_bytes_4}
use Rattle.pcp_base.specs.declared.addresses.Address.{Address}
use Rattle.pcp_codec.specs.declared.requests.Common.{Common}
use Rattle.pcp_codec.specs.declared.requests.Body.{Body}
use Rattle.pcp_codec.specs.declared.requests.Body.TheVariants.{Announce, Map, Peer}
use Rattle.pcp_codec.specs.declared.requests.Frame.{Frame}
use Rattle.pcp_codec.specs.declared.requests.Framed.TheVariants.{Whole}
use Rattle.pcp_codec.specs.Fields.{octet, octets_at, u16_at, u32_at}
use Rattle.pcp_codec.specs.Requests.{opcode_of, data_length, common_of}
use Rattle.pcp_codec.specs.Framing.{reading_of}
use Rattle.pcp_codec.specs.Packets.{IsCommon, IsPeerData, IsData, IsRequest}
use Rattle.pcp_codec.proofs.FieldLemmas.{octets_at-all, octets_at-append, octets_at-split, length-octets_at, u16_at-fits, u32_at-fits, u16_at-spelled, u32_at-spelled}
use Rattle.pcp_codec.proofs.FramingLemmas.{passed, passes}

abbrev IsOctets : List ℕ → Type 0
IsOctets message = (i : ℕ) → octet message i < 256

-- the body of a request with an opcode
abbrev pub body_with : ℕ → List ℕ → Body
body_with opcode message =
    if opcode == 0 then Announce
    else if opcode == 1 then Map (common_of message)
    else Peer (common_of message) (u16_at message 60) (record { 0 = octets_at message 64 16 })

-- a field in other words
put : (front a b back : List ℕ) → b ≡ a → front ++ a ++ back ≡ front ++ b ++ back
put front a b back e = rw e refl

common-spelled : (message : List ℕ) → IsOctets message → IsCommon (octets_at message 24 36) (common_of message)
common-spelled message fits = record {
  reserved = octets_at message 37 3;
  three = refl;
  spelled =
      put (octets_at message 24 16) (octets_at message 40 2) (to_be_bytes w16 (u16_at message 40)) (octets_at message 42 18) (u16_at-spelled message fits 40)
      ∙ put (octets_at message 24 16 ++ to_be_bytes w16 (u16_at message 40)) (octets_at message 42 2) (to_be_bytes w16 (u16_at message 42)) (octets_at message 44 16) (u16_at-spelled message fits 42);
  lengths = (refl, refl);
  ports_fit = (u16_at-fits message fits 40, u16_at-fits message fits 42);
}

peer-spelled : (message : List ℕ) → IsOctets message → IsPeerData (octets_at message 24 56) (common_of message) (u16_at message 60) (record { 0 = octets_at message 64 16 })
peer-spelled message fits = record {
  front = octets_at message 24 36;
  common = common-spelled message fits;
  reserved = octets_at message 62 2;
  two = refl;
  spelled = put (octets_at message 24 36) (octets_at message 60 2) (to_be_bytes w16 (u16_at message 60)) (octets_at message 62 18) (u16_at-spelled message fits 60);
  sixteen = refl;
  port_fits = u16_at-fits message fits 60;
}

pub data-spelled : (message : List ℕ) (opcode : ℕ) → IsOctets message → opcode ≤ 2 → IsData opcode (octets_at message 24 (data_length opcode)) (body_with opcode message)
data-spelled message zero fits h = (refl, refl)
data-spelled message (suc zero) fits h = (refl, common-spelled message fits)
data-spelled message (suc (suc zero)) fits h = (refl, peer-spelled message fits)
data-spelled message (suc (suc (suc n))) fits h = absurd (omega arith)

request-text : (message : List ℕ) (version opcode n : ℕ) (lifetime client : List ℕ) → 24 + n ≤ length message → version ≡ octet message 0 → opcode ≡ octet message 1 → lifetime ≡ octets_at message 4 4 → client ≡ octets_at message 8 16 → message ≡ version ∷ opcode ∷ octets_at message 2 2 ++ lifetime ++ client ++ octets_at message 24 n ++ drop (24 + n) message
request-text message version opcode n lifetime client room v o l c =
    rw (v, o, l, c) (sym (ap (λ front. front ++ drop (24 + n) message) (sym (octets_at-append message 0 24 n)) ∙ octets_at-split message (24 + n) room))

-- what is read is spelled so
pub whole-is : (message : List ℕ) (source : Address) (frame : Frame) → IsOctets message → reading_of message source ≡ Whole frame → IsRequest message source frame (drop frame.options message)
whole-is message source frame fits h =
    let found = passed message source frame h in
    let p = found.0 in
    let low = p.opcode in
    let opcode : opcode_of message ≡ octet message 1 = omega arith in
    let n = data_length (opcode_of message) in
    subst (λ f. IsRequest message source f (drop f.options message)) found.1 (record {
      reserved = octets_at message 2 2;
      two = refl;
      fields = octets_at message 24 n;
      spelled = request-text message 2 (opcode_of message) n (to_be_bytes w32 (u32_at message 4)) source.0 p.room (sym p.version) opcode (u32_at-spelled message fits 4) (sym p.client);
      body = data-spelled message (opcode_of message) fits (omega arith);
      place = ap (λ k. 24 + k) (sym (length-octets_at message 24 n));
      sixteen = ap length (sym p.client);
      lifetime_fits = u32_at-fits message fits 4;
      words = p.words;
      most = p.most;
    })

-- the same fields, octet by octet, so that they compute at their places
abbrev common_cells : Common → List ℕ → List ℕ
common_cells c reserved = octets_at c.nonce.0 0 12 ++ c.protocol ∷ octets_at reserved 0 3 ++ to_be_bytes w16 c.internal ++ to_be_bytes w16 c.external ++ octets_at c.address.0 0 16

abbrev head_cells : ℕ → List ℕ → ℕ → List ℕ → List ℕ
head_cells opcode reserved lifetime client = 2 ∷ opcode ∷ octets_at reserved 0 2 ++ to_be_bytes w32 lifetime ++ octets_at client 0 16

common-text : (p : ℕ) (i e n m r s a b : List ℕ) → m ≡ n → s ≡ r → b ≡ a → n ++ p ∷ r ++ i ++ e ++ a ≡ m ++ p ∷ s ++ i ++ e ++ b
common-text p i e n m r s a b x y z = rw (x, y, z) refl

common-cells : (fields : List ℕ) (c : Common) (h : IsCommon fields c) → fields ≡ common_cells c h.reserved
common-cells fields c h =
    h.spelled ∙ common-text c.protocol (to_be_bytes w16 c.internal) (to_be_bytes w16 c.external)
    c.nonce.0 (octets_at c.nonce.0 0 12) h.reserved (octets_at h.reserved 0 3) c.address.0 (octets_at c.address.0 0 16)
    (octets_at-all c.nonce.0 12 h.lengths.0) (octets_at-all h.reserved 3 h.three) (octets_at-all c.address.0 16 h.lengths.1)

abbrev common_with : List ℕ → ℕ → ℕ → ℕ → List ℕ → Common
common_with nonce protocol internal external address = record { nonce = record { 0 = nonce }; protocol = protocol; internal = internal; external = external; address = record { 0 = address } }

common-same : (c : Common) (n a : List ℕ) (i e : ℕ) → n ≡ c.nonce.0 → a ≡ c.address.0 → i ≡ c.internal → e ≡ c.external → common_with n c.protocol i e a ≡ c
common-same c n a i e x y z w = rw (x, y, z, w) refl

common-back : (front fields rest : List ℕ) (c : Common) → IsCommon fields c → common_of (octets_at front 0 24 ++ fields ++ rest) ≡ c
common-back front fields rest c h =
    ap (λ text. common_of (octets_at front 0 24 ++ text ++ rest)) (common-cells fields c h)
    ∙ common-same c (octets_at c.nonce.0 0 12) (octets_at c.address.0 0 16) (from_be_bytes w16 (to_be_bytes w16 c.internal)) (from_be_bytes w16 (to_be_bytes w16 c.external))
    (octets_at-all c.nonce.0 12 h.lengths.0) (octets_at-all c.address.0 16 h.lengths.1)
    (from_be_bytes-to_be_bytes_2 c.internal h.ports_fit.0) (from_be_bytes-to_be_bytes_2 c.external h.ports_fit.1)

abbrev peer_cells : Common → List ℕ → ℕ → List ℕ → List ℕ → List ℕ
peer_cells c reserved port between remote = common_cells c reserved ++ to_be_bytes w16 port ++ octets_at between 0 2 ++ octets_at remote 0 16

peer-text : (port n m r s a b : List ℕ) → m ≡ n → s ≡ r → b ≡ a → n ++ port ++ r ++ a ≡ m ++ port ++ s ++ b
peer-text port n m r s a b x y z = rw (x, y, z) refl

peer-cells : (fields : List ℕ) (c : Common) (port : ℕ) (remote : Address) (h : IsPeerData fields c port remote) → fields ≡ peer_cells c h.common.reserved port h.reserved remote.0
peer-cells fields c port remote h =
    h.spelled ∙ peer-text (to_be_bytes w16 port)
    h.front (common_cells c h.common.reserved) h.reserved (octets_at h.reserved 0 2) remote.0 (octets_at remote.0 0 16)
    (sym (common-cells h.front c h.common)) (octets_at-all h.reserved 2 h.two) (octets_at-all remote.0 16 h.sixteen)

abbrev peer_with : Common → ℕ → List ℕ → Body
peer_with c port remote = Peer c port (record { 0 = remote })

peer-same : (c d : Common) (i j : ℕ) (a : List ℕ) (remote : Address) → d ≡ c → j ≡ i → a ≡ remote.0 → peer_with d j a ≡ Peer c i remote
peer-same c d i j a remote x y z = rw (x, y, z) refl

peer-back : (front fields rest : List ℕ) (c : Common) (port : ℕ) (remote : Address) → IsPeerData fields c port remote → body_with 2 (octets_at front 0 24 ++ fields ++ rest) ≡ Peer c port remote
peer-back front fields rest c port remote h =
    let tail = to_be_bytes w16 port ++ octets_at h.reserved 0 2 ++ octets_at remote.0 0 16 ++ rest in
    ap (λ text. body_with 2 (octets_at front 0 24 ++ text ++ rest)) (peer-cells fields c port remote h)
    ∙ peer-same c (common_of (octets_at front 0 24 ++ common_cells c h.common.reserved ++ tail)) port (from_be_bytes w16 (to_be_bytes w16 port)) (octets_at remote.0 0 16) remote
    (ap (λ text. common_of (octets_at front 0 24 ++ text ++ tail)) (sym (common-cells h.front c h.common)) ∙ common-back front h.front tail c h.common)
    (from_be_bytes-to_be_bytes_2 port h.port_fits) (octets_at-all remote.0 16 h.sixteen)

pub data-size : (opcode : ℕ) (fields : List ℕ) (body : Body) → IsData opcode fields body → (opcode ≤ 2) × (length fields ≡ data_length opcode)
data-size opcode fields Announce h = rw (h.0, h.1) (lit≤ tt, refl)
data-size opcode fields (Map c) h = rw h.0 (lit≤ tt, ap length (common-cells fields c h.1))
data-size opcode fields (Peer c port remote) h = rw h.0 (lit≤ tt, ap length (peer-cells fields c port remote h.1))

pub data-back : (front fields options : List ℕ) (opcode : ℕ) (body : Body) → IsData opcode fields body → body_with opcode (octets_at front 0 24 ++ fields ++ options) ≡ body
data-back front fields options opcode Announce h = rw h.0 refl
data-back front fields options opcode (Map c) h = rw h.0 (ap Map (common-back front fields options c h.1))
data-back front fields options opcode (Peer c port remote) h = rw h.0 (peer-back front fields options c port remote h.1)

abbrev frame_with : ℕ → ℕ → Body → ℕ → Frame
frame_with opcode lifetime body options = record { opcode = opcode; lifetime = lifetime; body = body; options = options }

frame-same : (frame : Frame) (o l p : ℕ) (b : Body) → o ≡ frame.opcode → l ≡ frame.lifetime → b ≡ frame.body → p ≡ frame.options → frame_with o l b p ≡ frame
frame-same frame o l p b x y z w = rw (x, y, z, w) refl

head-text : (opcode : ℕ) (lifetime r s a b fields options : List ℕ) → s ≡ r → b ≡ a → 2 ∷ opcode ∷ r ++ lifetime ++ a ++ fields ++ options ≡ 2 ∷ opcode ∷ s ++ lifetime ++ b ++ fields ++ options
head-text opcode lifetime r s a b fields options x y = rw (x, y) refl

-- what is spelled so is read
pub is-whole : (message : List ℕ) (source : Address) (frame : Frame) (options : List ℕ) → IsRequest message source frame options → reading_of message source ≡ Whole frame
is-whole message source frame options h =
    let front = head_cells frame.opcode h.reserved frame.lifetime source.0 in
    let same : message ≡ front ++ h.fields ++ options =
    h.spelled ∙ head-text frame.opcode (to_be_bytes w32 frame.lifetime) h.reserved (octets_at h.reserved 0 2) source.0 (octets_at source.0 0 16) h.fields options
    (octets_at-all h.reserved 2 h.two) (octets_at-all source.0 16 h.sixteen) in
    let size = data-size frame.opcode h.fields frame.body h.body in
    let opcode : frame.opcode % 128 ≡ frame.opcode = omega (arith, size.0) in
    let room : 24 + data_length frame.opcode ≤ length (front ++ h.fields ++ options) = omega (arith, size.1, length-append h.fields options) in
    ap (λ m. reading_of m source) same
    ∙ passes (front ++ h.fields ++ options) source (record {
      version = refl;
      opcode = size.0;
      room = rw opcode room;
      most = subst (λ k. k ≤ 1100) (ap length same) h.most;
      words = subst (λ k. k % 4 ≡ 0) (ap length same) h.words;
      client = octets_at-all source.0 16 h.sixteen;
    })
    ∙ ap Whole (frame-same frame (frame.opcode % 128) (from_be_bytes w32 (to_be_bytes w32 frame.lifetime)) (24 + data_length (frame.opcode % 128)) (body_with (frame.opcode % 128) (front ++ h.fields ++ options))
    opcode
    (from_be_bytes-to_be_bytes_4 frame.lifetime h.lifetime_fits)
    (ap (λ o. body_with o (front ++ h.fields ++ options)) opcode ∙ data-back front h.fields options frame.opcode frame.body h.body)
    (ap (λ o. 24 + data_length o) opcode ∙ ap (λ k. 24 + k) (sym size.1) ∙ sym h.place))
