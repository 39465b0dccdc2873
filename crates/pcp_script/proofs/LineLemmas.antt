-- What stands for a line has fields that hold no space, and the fields of a text stand for its line.
use Rattle.std.proofs.Common.{◌≡◌, ◌≢◌, ℕ, ◌<◌, ◌⊎◌, inl, inr, List, [], ◌∷◌, suc, map, Bool, true, false, ◌↔◌, IsTrue, Option, None, IfSome, IfNone, IfOk, codes, length, slice_get, Some, refl, sym, ap, ◌∙◌, subst, arith}
use Rattle.std.specs.List.{AllByRecursion}
use Rattle.std.specs.Option.{ok_or}
use Rattle.pcp_base.specs.declared.configs.External.{External}
use Rattle.pcp_base.specs.AddressTexts.{IsAddressText}
use Rattle.pcp_base.specs.declared.addresses.Address.{Address}
use Rattle.pcp_base.specs.declared.datagrams.Datagram.{Datagram}
use Rattle.pcp_base.specs.declared.leases.Protocol.{Protocol}
use Rattle.pcp_script.specs.Fields.{IsMomentField, IsPortField, IsProtocolField, IsHexField, IsExternalField}
use Rattle.pcp_script.specs.Words.{IsWord, AreFields, spaced}
use Rattle.pcp_script.specs.Lines.{IsPacket, IsLook, IsEvent, StandsFor, IsLine}
use Rattle.pcp_script.specs.declared.lines.Line.{Line}
use Rattle.pcp_script.specs.declared.lines.Line.TheVariants.{Skip, Packet, Look, Lose, Owners}
use Rattle.pcp_script.proofs.FieldLemmas.{address-word, moment-word, port-word, protocol-word, external-word, hex-word}
use Rattle.pcp_script.proofs.WordLemmas.{fields-unique}

letter : (c : ℕ) → 32 < c → ¬ (c ≡ 32)
letter c h e = omega arith

packet-word : IsWord (codes "packet")
packet-word = (letter _ (omega arith), (letter _ (omega arith), (letter _ (omega arith), (letter _ (omega arith), (letter _ (omega arith), (letter _ (omega arith), tt))))))

look-word : IsWord (codes "look")
look-word = (letter _ (omega arith), (letter _ (omega arith), (letter _ (omega arith), (letter _ (omega arith), tt))))

lose-word : IsWord (codes "lose")
lose-word = (letter _ (omega arith), (letter _ (omega arith), (letter _ (omega arith), (letter _ (omega arith), tt))))

owners-word : IsWord (codes "owners")
owners-word = (letter _ (omega arith), (letter _ (omega arith), (letter _ (omega arith), (letter _ (omega arith), (letter _ (omega arith), (letter _ (omega arith), tt))))))

event-words : (word : List ℕ) → IsWord word → (externals : List External) (fields : List (List ℕ)) (m s : ℕ) → IsEvent word externals fields m s
    → AllByRecursion IsWord fields
event-words word w externals fields m s h =
    rw h.fields_are (w, (moment-word _ m h.moment_is, (external-word externals _ s h.shard_is, tt)))

pub words : (externals : List External) (fields : List (List ℕ)) (line : Line) → StandsFor externals fields line → AllByRecursion IsWord fields
words externals fields Skip h = absurd h
words externals fields (Packet m from) h =
    rw h.fields_are (packet-word, (moment-word _ m h.moment_is, (address-word _ from.peer h.peer_is, (port-word _ from.port h.port_is, (hex-word _ from.octets h.octets_are, tt)))))
words externals fields (Look m s p port remote remote_port) h =
    rw h.fields_are (look-word, (moment-word _ m h.moment_is, (external-word externals _ s h.shard_is, (protocol-word _ p h.protocol_is, (port-word _ port h.port_is.0, (address-word _ remote h.remote_is, (port-word _ remote_port h.remote_port_is, tt)))))))
words externals fields (Lose m s) h = event-words (codes "lose") lose-word externals fields m s h
words externals fields (Owners m s) h = event-words (codes "owners") owners-word externals fields m s h

cons-some : (fields rest : List (List ℕ)) (first : List ℕ) → fields ≡ first ∷ rest → fields ≢ []
cons-some fields rest first e none = let bad : first ∷ rest ≡ [] = sym e ∙ none in absurd (cc)

pub some : (externals : List External) (fields : List (List ℕ)) (line : Line) → StandsFor externals fields line → fields ≢ []
some externals fields Skip h = absurd h
some externals fields (Packet m from) h = cons-some fields _ _ h.fields_are
some externals fields (Look m s p port remote remote_port) h = cons-some fields _ _ h.fields_are
some externals fields (Lose m s) h = cons-some fields _ _ h.fields_are
some externals fields (Owners m s) h = cons-some fields _ _ h.fields_are

-- what a text stands for, its fields stand for
pub StandsFor-fields : (externals : List External) (text : List ℕ) (fields others : List (List ℕ)) (line : Line) → AreFields text fields
    → text ≡ spaced others → StandsFor externals others line → StandsFor externals fields line
StandsFor-fields externals text fields others line are e h =
    subst (λ (f : List (List ℕ)). StandsFor externals f line) (fields-unique text fields others are e (words externals others line h) (some externals others line h)) h

-- how many fields a line has
pub lengths : (externals : List External) (fields : List (List ℕ)) (line : Line) → StandsFor externals fields line
    → length fields ≢ 3 → length fields ≢ 5 → length fields ≢ 7 → ⊥
lengths externals fields Skip h three five seven = absurd h
lengths externals fields (Packet m from) h three five seven = five (ap length h.fields_are)
lengths externals fields (Look m s p port remote remote_port) h three five seven = seven (ap length h.fields_are)
lengths externals fields (Lose m s) h three five seven = three (ap length h.fields_are)
lengths externals fields (Owners m s) h three five seven = three (ap length h.fields_are)

-- what three fields can stand for
pub record EventParts (externals : List External) (w a b : List ℕ) : Type 0 where
  pub m : ℕ
  pub s : ℕ
  pub word : (w ≡ codes "lose") ⊎ (w ≡ codes "owners")
  pub moment : IsMomentField a m
  pub shard : IsExternalField externals b s

pub event-moment : (externals : List External) (word w a b : List ℕ) (m s : ℕ) (h : IsEvent word externals (w ∷ a ∷ b ∷ []) m s) → IsMomentField a m
event-moment externals word w a b m s h =
    let e : w ∷ a ∷ b ∷ [] ≡ word ∷ h.moment_text ∷ h.external_text ∷ [] = h.fields_are in
    let same : h.moment_text ≡ a = cc in
    subst (λ (t : List ℕ). IsMomentField t m) same h.moment_is

pub event-shard : (externals : List External) (word w a b : List ℕ) (m s : ℕ) (h : IsEvent word externals (w ∷ a ∷ b ∷ []) m s) → IsExternalField externals b s
event-shard externals word w a b m s h =
    let e : w ∷ a ∷ b ∷ [] ≡ word ∷ h.moment_text ∷ h.external_text ∷ [] = h.fields_are in
    let same : h.external_text ≡ b = cc in
    subst (λ (t : List ℕ). IsExternalField externals t s) same h.shard_is

event-word : (externals : List External) (word w a b : List ℕ) (m s : ℕ) (h : IsEvent word externals (w ∷ a ∷ b ∷ []) m s) → w ≡ word
event-word externals word w a b m s h =
    let e : w ∷ a ∷ b ∷ [] ≡ word ∷ h.moment_text ∷ h.external_text ∷ [] = h.fields_are in cc

pub StandsFor-event : (externals : List External) (w a b : List ℕ) (line : Line) → StandsFor externals (w ∷ a ∷ b ∷ []) line → EventParts externals w a b
StandsFor-event externals w a b Skip h = absurd h
StandsFor-event externals w a b (Packet m from) h = absurd (omega (arith, ap length h.fields_are))
StandsFor-event externals w a b (Look m s p port remote remote_port) h = absurd (omega (arith, ap length h.fields_are))
StandsFor-event externals w a b (Lose m s) h =
    record { m = m; s = s; word = inl (event-word externals _ w a b m s h); moment = event-moment externals _ w a b m s h; shard = event-shard externals _ w a b m s h }
StandsFor-event externals w a b (Owners m s) h =
    record { m = m; s = s; word = inr (event-word externals _ w a b m s h); moment = event-moment externals _ w a b m s h; shard = event-shard externals _ w a b m s h }

pub IsEvent-from : (externals : List External) (word w a b : List ℕ) (m s : ℕ) → w ≡ word → IsMomentField a m → IsExternalField externals b s
    → IsEvent word externals (w ∷ a ∷ b ∷ []) m s
IsEvent-from externals word w a b m s e h k =
    record { moment_text = a; external_text = b; fields_are = ap (λ f. f ∷ a ∷ b ∷ []) e; moment_is = h; shard_is = k }

-- what five fields can stand for
pub record PacketParts (w a b c d : List ℕ) (m : ℕ) (from : Datagram) : Type 0 where
  pub word : w ≡ codes "packet"
  pub moment : IsMomentField a m
  pub peer : IsAddressText b from.peer
  pub port : IsPortField c from.port
  pub door : from.door ≡ 0
  pub octets : IsHexField d from.octets

pub IsPacket-parts : (w a b c d : List ℕ) (m : ℕ) (from : Datagram) → IsPacket (w ∷ a ∷ b ∷ c ∷ d ∷ []) m from → PacketParts w a b c d m from
IsPacket-parts w a b c d m from h =
    let e : w ∷ a ∷ b ∷ c ∷ d ∷ [] ≡ codes "packet" ∷ h.moment_text ∷ h.peer_text ∷ h.port_text ∷ h.hex_text ∷ [] = h.fields_are in
    let one : w ≡ codes "packet" = cc in
    let two : h.moment_text ≡ a = cc in
    let three : h.peer_text ≡ b = cc in
    let four : h.port_text ≡ c = cc in
    let five : h.hex_text ≡ d = cc in
    record {
      word = one;
      moment = subst (λ (t : List ℕ). IsMomentField t m) two h.moment_is;
      peer = subst (λ (t : List ℕ). IsAddressText t from.peer) three h.peer_is;
      port = subst (λ (t : List ℕ). IsPortField t from.port) four h.port_is;
      door = h.door_is;
      octets = subst (λ (t : List ℕ). IsHexField t from.octets) five h.octets_are;
    }

pub IsPacket-from : (w a b c d : List ℕ) (m : ℕ) (from : Datagram) → PacketParts w a b c d m from → IsPacket (w ∷ a ∷ b ∷ c ∷ d ∷ []) m from
IsPacket-from w a b c d m from h =
    record { moment_text = a; peer_text = b; port_text = c; hex_text = d; fields_are = ap (λ f. f ∷ a ∷ b ∷ c ∷ d ∷ []) h.word; moment_is = h.moment; peer_is = h.peer; port_is = h.port; door_is = h.door; octets_are = h.octets }

pub StandsFor-packet : (externals : List External) (w a b c d : List ℕ) (line : Line) → StandsFor externals (w ∷ a ∷ b ∷ c ∷ d ∷ []) line
    → (m : ℕ) × (from : Datagram) × IsPacket (w ∷ a ∷ b ∷ c ∷ d ∷ []) m from
StandsFor-packet externals w a b c d Skip h = absurd h
StandsFor-packet externals w a b c d (Packet m from) h = (m, from, h)
StandsFor-packet externals w a b c d (Look m s p port remote remote_port) h = absurd (omega (arith, ap length h.fields_are))
StandsFor-packet externals w a b c d (Lose m s) h = absurd (omega (arith, ap length h.fields_are))
StandsFor-packet externals w a b c d (Owners m s) h = absurd (omega (arith, ap length h.fields_are))

-- what seven fields can stand for
pub record LookParts (externals : List External) (w a b c d f g : List ℕ) : Type 0 where
  pub m : ℕ
  pub s : ℕ
  pub p : Protocol
  pub n : ℕ
  pub r : Address
  pub q : ℕ
  pub word : w ≡ codes "look"
  pub moment : IsMomentField a m
  pub shard : IsExternalField externals b s
  pub protocol : IsProtocolField c p
  pub port : IsPortField d n
  pub port_some : 0 < n
  pub remote : IsAddressText f r
  pub remote_port : IsPortField g q

look-parts : (externals : List External) (w a b c d f g : List ℕ) (m s : ℕ) (p : Protocol) (n : ℕ) (r : Address) (q : ℕ)
    → IsLook externals (w ∷ a ∷ b ∷ c ∷ d ∷ f ∷ g ∷ []) m s p n r q → LookParts externals w a b c d f g
look-parts externals w a b c d f g m s p n r q h =
    let e : w ∷ a ∷ b ∷ c ∷ d ∷ f ∷ g ∷ [] ≡ codes "look" ∷ h.moment_text ∷ h.external_text ∷ h.protocol_text ∷ h.port_text ∷ h.remote_text ∷ h.remote_port_text ∷ [] = h.fields_are in
    let one : w ≡ codes "look" = cc in
    let two : h.moment_text ≡ a = cc in
    let three : h.external_text ≡ b = cc in
    let four : h.protocol_text ≡ c = cc in
    let five : h.port_text ≡ d = cc in
    let six : h.remote_text ≡ f = cc in
    let seven : h.remote_port_text ≡ g = cc in
    record {
      m = m;
      s = s;
      p = p;
      n = n;
      r = r;
      q = q;
      word = one;
      moment = subst (λ (t : List ℕ). IsMomentField t m) two h.moment_is;
      shard = subst (λ (t : List ℕ). IsExternalField externals t s) three h.shard_is;
      protocol = subst (λ (t : List ℕ). IsProtocolField t p) four h.protocol_is;
      port = subst (λ (t : List ℕ). IsPortField t n) five h.port_is.0;
      port_some = h.port_is.1;
      remote = subst (λ (t : List ℕ). IsAddressText t r) six h.remote_is;
      remote_port = subst (λ (t : List ℕ). IsPortField t q) seven h.remote_port_is;
    }

pub StandsFor-look : (externals : List External) (w a b c d f g : List ℕ) (line : Line) → StandsFor externals (w ∷ a ∷ b ∷ c ∷ d ∷ f ∷ g ∷ []) line
    → LookParts externals w a b c d f g
StandsFor-look externals w a b c d f g Skip h = absurd h
StandsFor-look externals w a b c d f g (Packet m from) h = absurd (omega (arith, ap length h.fields_are))
StandsFor-look externals w a b c d f g (Look m s p n r q) h = look-parts externals w a b c d f g m s p n r q h
StandsFor-look externals w a b c d f g (Lose m s) h = absurd (omega (arith, ap length h.fields_are))
StandsFor-look externals w a b c d f g (Owners m s) h = absurd (omega (arith, ap length h.fields_are))

-- a text that isn't skipped, and whose fields stand for nothing, is no line
pub line-missed : (externals : List External) (text : List ℕ) (fields : List (List ℕ)) → AreFields text fields → ¬ ((text ≡ []) ⊎ (slice_get text 0 ≡ Some 35))
    → ((line : Line) → ¬ (StandsFor externals fields line)) → (line : Line) → ¬ (IsLine externals text line)
line-missed externals text fields are more none Skip h = more h.written
line-missed externals text fields are more none (Packet m from) h = none (Packet m from) (StandsFor-fields externals text fields h.written.0 (Packet m from) are h.written.1 h.written.2)
line-missed externals text fields are more none (Look m s p n r q) h = none (Look m s p n r q) (StandsFor-fields externals text fields h.written.0 (Look m s p n r q) are h.written.1 h.written.2)
line-missed externals text fields are more none (Lose m s) h = none (Lose m s) (StandsFor-fields externals text fields h.written.0 (Lose m s) are h.written.1 h.written.2)
line-missed externals text fields are more none (Owners m s) h = none (Owners m s) (StandsFor-fields externals text fields h.written.0 (Owners m s) are h.written.1 h.written.2)

length-texts : {X : Type 0} (now : X → List ℕ) (xs : List X) → length (map now xs) ≡ length xs
length-texts now [] = refl
length-texts now (x ∷ xs) = ap suc (length-texts now xs)

-- a number of fields that no line has
pub arity-missed : {X : Type 0} (now : X → List ℕ) (externals : List External) (xs : List X) (line : Line) → length xs ≢ 3 → length xs ≢ 5 → length xs ≢ 7
    → ¬ (StandsFor externals (map now xs) line)
arity-missed now externals xs line a b c h =
    lengths externals (map now xs) line h (λ e. a (sym (length-texts now xs) ∙ e)) (λ e. b (sym (length-texts now xs) ∙ e)) (λ e. c (sym (length-texts now xs) ∙ e))

pub untrue : (b : Bool) (A : Type 0) → (IsTrue b ↔ A) → b ≡ false → ¬ A
untrue true A h e a = absurd (cc)
untrue false A h e a = let bad : IsTrue false = h.1 a in absurd (cc)

pub IfOk-ok_or : {X E : Type 0} (P : X → Type 0) (o : Option X) (e : E) → IfSome o P → IfOk (ok_or o e) P
IfOk-ok_or P (Some x) e h = h
IfOk-ok_or P None e h = tt

-- where a premise is added
pub IfNone-late : {X : Type 0} (o : Option X) (P A : Type 0) → IfNone o A → IfNone o (P → A)
IfNone-late (Some x) P A h = tt
IfNone-late None P A h = λ _. h
