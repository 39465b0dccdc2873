-- The texts that are written are of octets, and so is what is read of octets.
use Rattle.std.specs.List.{AllByRecursion, cons_option}
use Rattle.std.specs.Int.{to_be_bytes, w16, w32}
use Rattle.std.specs.Prelude.{⊤, map, replicate}
use Rattle.std.proofs.Common.{ℕ, zero, suc, ◌+◌, ◌-◌, ◌%◌, ◌<◌, ◌==◌, Bool, true, false, cond, List, [], ◌∷◌, ◌++◌, length, Option, Some, None, sym, subst, arith}
use Rattle.pcp_base.proofs.Members.{All-append}
use Rattle.pcp_base.specs.declared.addresses.Address.{Address}
use Rattle.pcp_base.specs.declared.asks.PortSet as Sets
use Rattle.pcp_base.specs.declared.codes.Code.{Code}
use Rattle.pcp_base.specs.declared.codes.Code.TheVariants as Codes
use Rattle.pcp_base.specs.declared.leases.Filter as Filters
use Rattle.pcp_base.specs.Codes.{code_number}
use Rattle.pcp_codec.specs.declared.requests.Common.{Common}
use Rattle.pcp_codec.specs.declared.requests.Body.{Body}
use Rattle.pcp_codec.specs.declared.requests.Body.TheVariants.{Announce, Map, Peer}
use Rattle.pcp_codec.specs.Fields.{octets_at, u16_at}
use Rattle.pcp_codec.specs.Replies.{head, refusal_last, refusal_text, reply_length}
use Rattle.pcp_codec.specs.Requests.{body_of, common_of, data_length, frame_of, opcode_of}
use Rattle.pcp_options.specs.declared.options.Item.{Item}
use Rattle.pcp_options.specs.declared.options.Item.TheVariants.{ThirdParty, PreferFailure, Filter, PortSet}
use Rattle.pcp_options.specs.Options.{FoundOption, WholeOption, fill, found_in, item_of, items_of, option_of, option_text, options_text}
use Rattle.pcp_options.specs.ReadResponses.{text_behind, whole_front}
use Rattle.pcp_options.specs.Replies.{body_text, common_text, opcode_of_body, remote_text, success_text}
use Rattle.pcp_options.specs.Requests.{request_with}
use Rattle.pcp_options.specs.Responses.{AreOctets}
use Rattle.pcp_options.specs.Verdicts.{behind_data, options_in}
use Rattle.option_laws.specs.Octets.{OctetsAreAsked, OctetsAreRead, OctetsBody, OctetsCommon, OctetsItem, RefusalsAreOctets, RequestsAreOctets, SuccessesAreOctets}
use Rattle.option_laws.proofs.FitLemmas.{HasOctets, found-octets, front-octets, items-asked, octets-drop, parts-of}

abbrev pub AllOctets : List ℕ → Type 0
AllOctets xs = AllByRecursion (λ x. x < 256) xs

pub over : (xs : List ℕ) → AllOctets xs → AreOctets xs
over [] h i = omega arith
over (x ∷ xs) h zero = h.0
over (x ∷ xs) h (suc i) = over xs h.1 i

each : (xs : List ℕ) → AreOctets xs → AllOctets xs
each [] h = tt
each (x ∷ xs) h = (h zero, each xs (λ i. h (suc i)))

both : (xs ys : List ℕ) → AllOctets xs → AllOctets ys → AllOctets (xs ++ ys)
both xs ys h k = All-append (λ x. x < 256) xs ys h k

zeros : (n : ℕ) → AllOctets (replicate n 0)
zeros zero = tt
zeros (suc n) = (omega arith, zeros n)

two-bytes : (n : ℕ) → AllOctets (to_be_bytes w16 n)
two-bytes n = (omega arith, (omega arith, tt))

four-bytes : (n : ℕ) → AllOctets (to_be_bytes w32 n)
four-bytes n = (omega arith, (omega arith, (omega arith, (omega arith, tt))))

slice : (message : List ℕ) → AreOctets message → (place n : ℕ) → AllOctets (octets_at message place n)
slice message h place zero = tt
slice message h place (suc n) = (h place, slice message h (place + 1) n)

-- ---- bodies and options

common-octets : (c : Common) → OctetsCommon c → AllOctets (common_text c)
common-octets c h =
    let fields = c.protocol ∷ 0 ∷ 0 ∷ 0 ∷ to_be_bytes w16 c.internal in
    let front = c.nonce.0 ++ fields in
    both (front ++ to_be_bytes w16 c.external) c.address.0
    (both front (to_be_bytes w16 c.external)
    (both c.nonce.0 fields (each c.nonce.0 h.0) (h.1, (omega arith, (omega arith, (omega arith, two-bytes c.internal))))) (two-bytes c.external)) (each c.address.0 h.2)

remote-octets : (port : ℕ) (remote : Address) → AreOctets remote.0 → AllOctets (remote_text port remote)
remote-octets port remote h = both (to_be_bytes w16 port) (0 ∷ 0 ∷ remote.0) (two-bytes port) (omega arith, (omega arith, each remote.0 h))

body-octets : (body : Body) → OctetsBody body → AllOctets (body_text body)
body-octets Announce h = tt
body-octets (Map c) h = common-octets c h
body-octets (Peer c port remote) h = both (common_text c) (remote_text port remote) (common-octets c h.0) (remote-octets port remote h.1)

bit : (b : Bool) → cond b 1 0 < 256
bit true = omega arith
bit false = omega arith

content-octets : (item : Item) → OctetsItem item → AllOctets (option_of item).content
content-octets (ThirdParty a) h = each a.0 h
content-octets PreferFailure h = tt
content-octets (Filter f) h = both (0 ∷ f.prefix ∷ to_be_bytes w16 f.port) f.remote.0 (omega arith, (h.0, two-bytes f.port)) (each f.remote.0 h.1)
content-octets (PortSet set) h =
    both (to_be_bytes w16 set.size ++ to_be_bytes w16 set.first) (cond {A = ℕ} set.parity 1 0 ∷ [])
    (both (to_be_bytes w16 set.size) (to_be_bytes w16 set.first) (two-bytes set.size) (two-bytes set.first)) (bit set.parity, tt)

code-octet : (item : Item) → (option_of item).code < 256
code-octet (ThirdParty a) = omega arith
code-octet PreferFailure = omega arith
code-octet (Filter f) = omega arith
code-octet (PortSet set) = omega arith

option-octets : (o : WholeOption) → o.code < 256 → AllOctets o.content → AllOctets (option_text o)
option-octets o c h =
    let n : ℕ = length o.content in
    let front = o.code ∷ 0 ∷ to_be_bytes w16 n in
    both (front ++ o.content) (replicate (fill n) 0) (both front o.content (c, (omega arith, two-bytes n)) h) (zeros (fill n))

items-octets : (items : List Item) → AllByRecursion OctetsItem items → AllOctets (options_text (map option_of items))
items-octets [] h = tt
items-octets (item ∷ items) h =
    both (option_text (option_of item)) (options_text (map option_of items)) (option-octets (option_of item) (code-octet item) (content-octets item h.0)) (items-octets items h.1)

-- ---- texts

opcode-octet : (body : Body) → opcode_of_body body < 256
opcode-octet Announce = omega arith
opcode-octet (Map c) = omega arith
opcode-octet (Peer c port remote) = omega arith

number-octet : (code : Code) → code_number code < 256
number-octet Codes.Success = omega arith
number-octet Codes.UnsuppVersion = omega arith
number-octet Codes.NotAuthorized = omega arith
number-octet Codes.MalformedRequest = omega arith
number-octet Codes.UnsuppOpcode = omega arith
number-octet Codes.UnsuppOption = omega arith
number-octet Codes.MalformedOption = omega arith
number-octet Codes.NetworkFailure = omega arith
number-octet Codes.NoResources = omega arith
number-octet Codes.UnsuppProtocol = omega arith
number-octet Codes.UserExQuota = omega arith
number-octet Codes.CannotProvideExternal = omega arith
number-octet Codes.AddressMismatch = omega arith
number-octet Codes.ExcessiveRemotePeers = omega arith

head-octets : (opcode code lifetime epoch : ℕ) (last : List ℕ) → code < 256 → AllOctets last → AllOctets (head opcode code lifetime epoch last)
head-octets opcode code lifetime epoch last c h =
    let front = 2 ∷ (128 + opcode % 128) ∷ 0 ∷ code ∷ to_be_bytes w32 lifetime in
    both (front ++ to_be_bytes w32 epoch) last
    (both front (to_be_bytes w32 epoch) (omega arith, (omega arith, (omega arith, (c, four-bytes lifetime)))) (four-bytes epoch)) h

pub requests-octets : RequestsAreOctets
requests-octets own lifetime body items h b is =
    let front = 2 ∷ opcode_of_body body ∷ 0 ∷ 0 ∷ to_be_bytes w32 lifetime in
    over (request_with own lifetime body items)
    (both ((front ++ own.0) ++ body_text body) (options_text (map option_of items))
    (both (front ++ own.0) (body_text body)
    (both front own.0 (omega arith, (opcode-octet body, (omega arith, (omega arith, four-bytes lifetime)))) (each own.0 h))
    (body-octets body b)) (items-octets items is))

pub successes-octets : SuccessesAreOctets
successes-octets lifetime epoch body items b is =
    let front = head (opcode_of_body body) 0 lifetime epoch (replicate 12 0) in
    over (success_text lifetime epoch body items)
    (both (front ++ body_text body) (options_text (map option_of items))
    (both front (body_text body) (head-octets (opcode_of_body body) 0 lifetime epoch (replicate 12 0) (omega arith) (zeros 12)) (body-octets body b)) (items-octets items is))

last-octets : (b : Bool) (request : List ℕ) → AreOctets request → AllOctets (cond b (replicate 12 0) (octets_at request 12 12))
last-octets true request h = zeros 12
last-octets false request h = slice request h 12 12

pub refusals-octets : RefusalsAreOctets
refusals-octets request refusal epoch h =
    over (refusal_text request refusal epoch)
    (both (head (opcode_of request) (code_number refusal.code) refusal.lifetime epoch (refusal_last request refusal)) (octets_at request 24 (reply_length request - 24))
    (head-octets (opcode_of request) (code_number refusal.code) refusal.lifetime epoch (refusal_last request refusal) (number-octet refusal.code) (last-octets refusal.parsed request h))
    (slice request h 24 (reply_length request - 24)))

-- ---- what is read

body-by : (a b : Bool) (c : Common) (port : ℕ) (remote : Address) → OctetsCommon c → AreOctets remote.0 → OctetsBody (cond a Announce (cond b (Map c) (Peer c port remote)))
body-by true b c port remote h r = tt
body-by false true c port remote h r = h
body-by false false c port remote h r = (h, r)

read-octets : (message : List ℕ) → AreOctets message → OctetsBody (body_of message)
read-octets message h =
    body-by (opcode_of message == 0) (opcode_of message == 1) (common_of message) (u16_at message 60) (record { 0 = octets_at message 64 16 })
    (over (octets_at message 24 12) (slice message h 24 12), h 36, over (octets_at message 44 16) (slice message h 44 16)) (over (octets_at message 64 16) (slice message h 64 16))

abbrev OctetsSome : Option Item → Type 0
OctetsSome None = ⊤
OctetsSome (Some item) = OctetsItem item

item-by : (a b c d : Bool) (t : Address) (f : Filters.Filter) (s : Sets.PortSet) → OctetsItem (ThirdParty t) → OctetsItem (Filter f)
    → OctetsSome (cond a (Some (ThirdParty t)) (cond b (Some PreferFailure) (cond c (Some (Filter f)) (cond d (Some (PortSet s)) None))))
item-by true b c d t f s x y = x
item-by false true c d t f s x y = tt
item-by false false true d t f s x y = y
item-by false false false true t f s x y = tt
item-by false false false false t f s x y = tt

item-octets : (o : FoundOption) → HasOctets o → OctetsSome (item_of o)
item-octets o h = item-by (o.code == 1) (o.code == 2) (o.code == 3) (o.code == 130) _ _ _ (over (octets_at o.content 0 16) (slice o.content h 0 16)) (h 1, over (octets_at o.content 4 16) (slice o.content h 4 16))

cons-octets : (item : Option Item) (items : List Item) → OctetsSome item → AllByRecursion OctetsItem items → AllByRecursion OctetsItem (cons_option item items)
cons-octets None items h all = all
cons-octets (Some item) items h all = (h, all)

found-items : (os : List FoundOption) → AllByRecursion HasOctets os → AllByRecursion OctetsItem (items_of os)
found-items [] h = tt
found-items (o ∷ os) h = cons-octets (item_of o) (items_of os) (item-octets o h.0) (found-items os h.1)

pub octets-read : OctetsAreRead
octets-read message r h read =
    let parts = parts-of message r read in
    let behind = text_behind message (body_of message) in (
      subst OctetsBody (sym parts.body) (read-octets message h),
      subst (λ (items : List Item). AllByRecursion OctetsItem items) (sym parts.items)
          (found-items (whole_front (found_in behind)) (front-octets (found_in behind) (found-octets 0 behind (octets-drop (24 + data_length (opcode_of_body (body_of message))) message h)))),
    )

pub octets-asked : OctetsAreAsked
octets-asked config source message place ask items h is = (
  read-octets message h,
  subst (λ (xs : List Item). AllByRecursion OctetsItem xs) (sym (items-asked config source message place ask items is))
      (found-items (options_in (frame_of message) message) (found-octets 0 (behind_data (frame_of message) message) (octets-drop (frame_of message).options message h))),
)
