-- A text stands for one line.
use Rattle.std.proofs.Common.{◌≡◌, ◌≢◌, ℕ, zero, suc, ◌*◌, ◌<◌, ◌^◌, ◌⊎◌, inl, inr, List, [], ◌∷◌, length, codes, decimal, slice_get, Some, None, Ok, refl, sym, ap, ◌∙◌, subst, arith}
use Rattle.std.specs.List.{AllByRecursion}
use Rattle.std.proofs.lemmas.Fmt.{decimal_injective}
use Rattle.std.proofs.lemmas.Option.{same_Some}
use Rattle.hex.proofs.HexLemmas.{decode_of-ok}
use Rattle.pcp_base.specs.AddressTexts.{IsAddressText}
use Rattle.pcp_base.specs.Tables.{EachTwo}
use Rattle.pcp_base.specs.declared.addresses.Address.{Address}
use Rattle.pcp_base.specs.declared.configs.External.{External}
use Rattle.pcp_base.specs.declared.datagrams.Datagram.{Datagram}
use Rattle.pcp_base.specs.declared.leases.Protocol.{Protocol}
use Rattle.pcp_base.specs.declared.leases.Protocol.TheVariants.{Tcp, Udp}
use Rattle.pcp_base.proofs.AddressLemmas.{IsAddressText-unique}
use Rattle.pcp_script.specs.Fields.{IsMomentField, IsPortField, IsProtocolField, IsHexField, IsExternalField}
use Rattle.pcp_script.specs.Laws.{OneLine}
use Rattle.pcp_script.specs.Lines.{IsPacket, IsLook, IsEvent, IsTextOfLine, StandsFor}
use Rattle.pcp_script.specs.Words.{AreFields, spaced}
use Rattle.pcp_script.specs.declared.lines.Line.{Line}
use Rattle.pcp_script.specs.declared.lines.Line.TheVariants.{Skip, Packet, Look, Lose, Owners}
use Rattle.pcp_script.proofs.FieldLemmas.{port-unique}
use Rattle.pcp_script.proofs.LineLemmas.{IsPacket-parts, StandsFor-fields, event-moment, event-shard, some, words}

-- ---- fields

moment-unique : (text : List ℕ) (m n : ℕ) → IsMomentField text m → IsMomentField text n → m ≡ n
moment-unique text m n h k = decimal_injective m n (omega (arith, h.1)) (omega (arith, k.1)) (sym h.0 ∙ k.0)

other-protocols : (text : List ℕ) → IsProtocolField text Tcp → IsProtocolField text Udp → ⊥
other-protocols text h k =
    let same = decimal_injective 6 17 (omega arith) (omega arith) (sym h ∙ k) in omega (arith, same)

protocol-unique : (text : List ℕ) (p q : Protocol) → IsProtocolField text p → IsProtocolField text q → p ≡ q
protocol-unique text Tcp Tcp h k = refl
protocol-unique text Udp Udp h k = refl
protocol-unique text Tcp Udp h k = absurd (other-protocols text h k)
protocol-unique text Udp Tcp h k = absurd (other-protocols text k h)

-- a dash is no digits
no-digits : (text xs ys : List ℕ) → (text ≡ codes "-") × (xs ≡ []) → (0 < length ys) × (length text ≡ 2 * length ys) → ⊥
no-digits text xs ys h k = omega (arith, ap length h.0, k.0, k.1)

octets-unique : (text xs ys : List ℕ) → IsHexField text xs → IsHexField text ys → xs ≡ ys
octets-unique text xs ys (inl h) (inl k) = h.1 ∙ sym k.1
octets-unique text xs ys (inl h) (inr k) = absurd (no-digits text xs ys h (k.0, (decode_of-ok text ys k.2).2))
octets-unique text xs ys (inr h) (inl k) = absurd (no-digits text ys xs k (h.0, (decode_of-ok text xs h.2).2))
octets-unique text xs ys (inr h) (inr k) = let same : Ok xs ≡ Ok ys = sym h.2 ∙ k.2 in cc

-- the place of an address among different ones
other-place : (x : External) (xs : List External) (i : ℕ) (y : External) → AllByRecursion (λ z. x.address ≢ z.address) xs → slice_get xs i ≡ Some y
    → x.address ≢ y.address
other-place x [] i y h at = let bad : None ≡ Some y = at in absurd (cc)
other-place x (z ∷ xs) zero y h at = let same : z ≡ y = same_Some _ _ at in subst (λ (w : External). x.address ≢ w.address) same h.0
other-place x (z ∷ xs) (suc i) y h at = other-place x xs i y h.1 at

one-place : (xs : List External) (i j : ℕ) (x y : External) → EachTwo (λ x y. x.address ≢ y.address) xs → slice_get xs i ≡ Some x → slice_get xs j ≡ Some y
    → x.address ≡ y.address → i ≡ j
one-place [] i j x y h a b e = let bad : None ≡ Some x = a in absurd (cc)
one-place (z ∷ xs) zero zero x y h a b e = refl
one-place (z ∷ xs) zero (suc j) x y h a b e =
    let same : z ≡ x = same_Some _ _ a in
    absurd (other-place z xs j y h.0 b (ap (λ w. w.address) same ∙ e))
one-place (z ∷ xs) (suc i) zero x y h a b e =
    let same : z ≡ y = same_Some _ _ b in
    absurd (other-place z xs i x h.0 a (ap (λ w. w.address) same ∙ sym e))
one-place (z ∷ xs) (suc i) (suc j) x y h a b e = ap suc (one-place xs i j x y h.1 a b e)

external-unique : (externals : List External) (text : List ℕ) (i j : ℕ) → EachTwo (λ x y. x.address ≢ y.address) externals
    → IsExternalField externals text i → IsExternalField externals text j → i ≡ j
external-unique externals text i j different h k =
    one-place externals i j h.external k.external different h.place k.place
    (IsAddressText-unique text h.external.address k.external.address h.address k.address)

-- ---- lines of the same fields

packet-unique : (fields : List (List ℕ)) (m n : ℕ) (from other : Datagram) → IsPacket fields m from → IsPacket fields n other → Packet m from ≡ Packet n other
packet-unique fields m n from other h k =
    let same = IsPacket-parts (codes "packet") h.moment_text h.peer_text h.port_text h.hex_text n other
    (subst (λ (f : List (List ℕ)). IsPacket f n other) h.fields_are k) in
    let moment = moment-unique h.moment_text m n h.moment_is same.moment in
    let peer = IsAddressText-unique h.peer_text from.peer other.peer h.peer_is same.peer in
    let port = port-unique h.port_text from.port other.port h.port_is same.port in
    let octets = octets-unique h.hex_text from.octets other.octets h.octets_are same.octets in
    let door = h.door_is ∙ sym same.door in
    λ i. Packet (moment i) (record { peer = peer i; port = port i; door = door i; octets = octets i })

look-unique : (externals : List External) (fields : List (List ℕ)) (m m' s s' : ℕ) (p p' : Protocol) (n n' : ℕ) (r r' : Address) (q q' : ℕ) → EachTwo (λ x y. x.address ≢ y.address) externals
    → IsLook externals fields m s p n r q → IsLook externals fields m' s' p' n' r' q' → Look m s p n r q ≡ Look m' s' p' n' r' q'
look-unique externals fields m m' s s' p p' n n' r r' q q' different h k =
    let e : codes "look" ∷ h.moment_text ∷ h.external_text ∷ h.protocol_text ∷ h.port_text ∷ h.remote_text ∷ h.remote_port_text ∷ []
    ≡ codes "look" ∷ k.moment_text ∷ k.external_text ∷ k.protocol_text ∷ k.port_text ∷ k.remote_text ∷ k.remote_port_text ∷ [] = sym h.fields_are ∙ k.fields_are in
    let one : k.moment_text ≡ h.moment_text = cc in
    let two : k.external_text ≡ h.external_text = cc in
    let three : k.protocol_text ≡ h.protocol_text = cc in
    let four : k.port_text ≡ h.port_text = cc in
    let five : k.remote_text ≡ h.remote_text = cc in
    let six : k.remote_port_text ≡ h.remote_port_text = cc in
    let moment = moment-unique h.moment_text m m' h.moment_is (subst (λ (t : List ℕ). IsMomentField t m') one k.moment_is) in
    let shard = external-unique externals h.external_text s s' different h.shard_is (subst (λ (t : List ℕ). IsExternalField externals t s') two k.shard_is) in
    let protocol = protocol-unique h.protocol_text p p' h.protocol_is (subst (λ (t : List ℕ). IsProtocolField t p') three k.protocol_is) in
    let port = port-unique h.port_text n n' h.port_is.0 (subst (λ (t : List ℕ). IsPortField t n') four k.port_is.0) in
    let remote = IsAddressText-unique h.remote_text r r' h.remote_is (subst (λ (t : List ℕ). IsAddressText t r') five k.remote_is) in
    let remote_port = port-unique h.remote_port_text q q' h.remote_port_is (subst (λ (t : List ℕ). IsPortField t q') six k.remote_port_is) in
    λ i. Look (moment i) (shard i) (protocol i) (port i) (remote i) (remote_port i)

event-unique : (word : List ℕ) (externals : List External) (fields : List (List ℕ)) (m n s t : ℕ) → EachTwo (λ x y. x.address ≢ y.address) externals
    → IsEvent word externals fields m s → IsEvent word externals fields n t → (m ≡ n) × (s ≡ t)
event-unique word externals fields m n s t different h k =
    let same = subst (λ (f : List (List ℕ)). IsEvent word externals f n t) h.fields_are k in (
      moment-unique h.moment_text m n h.moment_is (event-moment externals word word h.moment_text h.external_text n t same),
      external-unique externals h.external_text s t different h.shard_is (event-shard externals word word h.moment_text h.external_text n t same),
    )

-- two words are one
event-words-differ : (externals : List External) (fields : List (List ℕ)) (m n s t : ℕ) → IsEvent (codes "lose") externals fields m s → IsEvent (codes "owners") externals fields n t → ⊥
event-words-differ externals fields m n s t h k =
    let e : codes "lose" ∷ h.moment_text ∷ h.external_text ∷ [] ≡ codes "owners" ∷ k.moment_text ∷ k.external_text ∷ [] = sym h.fields_are ∙ k.fields_are in
    let word : codes "lose" ≡ codes "owners" = cc in omega (arith, ap length word)

stands-unique : (externals : List External) (fields : List (List ℕ)) (a b : Line) → EachTwo (λ x y. x.address ≢ y.address) externals
    → StandsFor externals fields a → StandsFor externals fields b → a ≡ b
stands-unique externals fields Skip b different h k = absurd h
stands-unique externals fields (Packet m from) Skip different h k = absurd k
stands-unique externals fields (Packet m from) (Packet n other) different h k = packet-unique fields m n from other h k
stands-unique externals fields (Packet m from) (Look n t p port r q) different h k = absurd (omega (arith, ap length h.fields_are, ap length k.fields_are))
stands-unique externals fields (Packet m from) (Lose n t) different h k = absurd (omega (arith, ap length h.fields_are, ap length k.fields_are))
stands-unique externals fields (Packet m from) (Owners n t) different h k = absurd (omega (arith, ap length h.fields_are, ap length k.fields_are))
stands-unique externals fields (Look m s p port r q) Skip different h k = absurd k
stands-unique externals fields (Look m s p port r q) (Packet n other) different h k = absurd (omega (arith, ap length h.fields_are, ap length k.fields_are))
stands-unique externals fields (Look m s p port r q) (Look n t p' port' r' q') different h k = look-unique externals fields m n s t p p' port port' r r' q q' different h k
stands-unique externals fields (Look m s p port r q) (Lose n t) different h k = absurd (omega (arith, ap length h.fields_are, ap length k.fields_are))
stands-unique externals fields (Look m s p port r q) (Owners n t) different h k = absurd (omega (arith, ap length h.fields_are, ap length k.fields_are))
stands-unique externals fields (Lose m s) Skip different h k = absurd k
stands-unique externals fields (Lose m s) (Packet n other) different h k = absurd (omega (arith, ap length h.fields_are, ap length k.fields_are))
stands-unique externals fields (Lose m s) (Look n t p port r q) different h k = absurd (omega (arith, ap length h.fields_are, ap length k.fields_are))
stands-unique externals fields (Lose m s) (Lose n t) different h k = let e = event-unique (codes "lose") externals fields m n s t different h k in λ i. Lose (e.0 i) (e.1 i)
stands-unique externals fields (Lose m s) (Owners n t) different h k = absurd (event-words-differ externals fields m n s t h k)
stands-unique externals fields (Owners m s) Skip different h k = absurd k
stands-unique externals fields (Owners m s) (Packet n other) different h k = absurd (omega (arith, ap length h.fields_are, ap length k.fields_are))
stands-unique externals fields (Owners m s) (Look n t p port r q) different h k = absurd (omega (arith, ap length h.fields_are, ap length k.fields_are))
stands-unique externals fields (Owners m s) (Lose n t) different h k = absurd (event-words-differ externals fields n m t s k h)
stands-unique externals fields (Owners m s) (Owners n t) different h k = let e = event-unique (codes "owners") externals fields m n s t different h k in λ i. Owners (e.0 i) (e.1 i)

-- ---- texts

lettered : (text : List ℕ) (c : ℕ) → c ≢ 35 → slice_get text 0 ≡ Some c → (text ≡ []) ⊎ (slice_get text 0 ≡ Some 35) → ⊥
lettered [] c other first skipped = let bad : None ≡ Some c = first in absurd (cc)
lettered (x ∷ xs) c other first (inl none) = let bad : x ∷ xs ≡ [] = none in absurd (cc)
lettered (x ∷ xs) c other first (inr hash) = other (same_Some _ _ (sym first ∙ hash))

no-hash : (c : ℕ) → 35 < c → c ≢ 35
no-hash c h e = omega arith

-- a text with fields is neither empty nor a comment
not-skipped : (externals : List External) (text : List ℕ) (line : Line) → (fields : List (List ℕ)) × (text ≡ spaced fields) × StandsFor externals fields line
    → (text ≡ []) ⊎ (slice_get text 0 ≡ Some 35) → ⊥
not-skipped externals text Skip h skipped = absurd h.2
not-skipped externals text (Packet m from) h skipped = lettered text 112 (no-hash 112 (omega arith)) (ap (λ (t : List ℕ). slice_get t 0) (h.1 ∙ ap spaced h.2.fields_are)) skipped
not-skipped externals text (Look m s p n r q) h skipped = lettered text 108 (no-hash 108 (omega arith)) (ap (λ (t : List ℕ). slice_get t 0) (h.1 ∙ ap spaced h.2.fields_are)) skipped
not-skipped externals text (Lose m s) h skipped = lettered text 108 (no-hash 108 (omega arith)) (ap (λ (t : List ℕ). slice_get t 0) (h.1 ∙ ap spaced h.2.fields_are)) skipped
not-skipped externals text (Owners m s) h skipped = lettered text 111 (no-hash 111 (omega arith)) (ap (λ (t : List ℕ). slice_get t 0) (h.1 ∙ ap spaced h.2.fields_are)) skipped

-- how a text stands for a line
data Reading (externals : List External) (text : List ℕ) (line : Line) : Type 0 where
  skipped : line ≡ Skip → (text ≡ []) ⊎ (slice_get text 0 ≡ Some 35) → Reading externals text line
  fielded : (fields : List (List ℕ)) × (text ≡ spaced fields) × StandsFor externals fields line → Reading externals text line

reading : (externals : List External) (text : List ℕ) (line : Line) → IsTextOfLine externals text line → Reading externals text line
reading externals text Skip h = skipped refl h
reading externals text (Packet m from) h = fielded h
reading externals text (Look m s p n r q) h = fielded h
reading externals text (Lose m s) h = fielded h
reading externals text (Owners m s) h = fielded h

one-reading : (externals : List External) (text : List ℕ) (a b : Line) → EachTwo (λ x y. x.address ≢ y.address) externals
    → Reading externals text a → Reading externals text b → a ≡ b
one-reading externals text a b different (skipped p e) (skipped q f) = p ∙ sym q
one-reading externals text a b different (skipped p e) (fielded k) = absurd (not-skipped externals text b k e)
one-reading externals text a b different (fielded h) (skipped q f) = absurd (not-skipped externals text a h f)
one-reading externals text a b different (fielded h) (fielded k) =
    let are : AreFields text h.0 = record { spelled = h.1; words = words externals h.0 a h.2; some = some externals h.0 a h.2 } in
    stands-unique externals h.0 a b different h.2 (StandsFor-fields externals text h.0 k.0 b are k.1 k.2)

pub one-line : OneLine
one-line externals text a b different h k =
    one-reading externals text a b different (reading externals text a h.written) (reading externals text b k.written)
