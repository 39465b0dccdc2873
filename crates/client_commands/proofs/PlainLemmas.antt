-- Plain words are read as the command that they say.
use Rattle.std.proofs.Common.{◌≡◌, ◌≢◌, ℕ, ◌<◌, ◌^◌, List, [], ◌∷◌, ◌++◌, map, length, Option, Some, None, inl, inr, arith, refl, sym, subst, ap, ◌∙◌, codes, true, false, decimal, All, ne_eqb, lit≤}
use Rattle.std.specs.List.{AllPass}
use Rattle.std.specs.Prelude.{Bool, IfSome, is_some}
use Rattle.std.proofs.lemmas.List.Elements.{All-contains, All-from_recursion, All-head, All-nil, All-tail}
use Rattle.std.specs.Net.Grammar.{IsColonHex}
use Rattle.std.specs.Net.Text.{dotted_text}
use Rattle.hex.specs.Hex.{is_hex_digit}
use Rattle.hex.proofs.HexLemmas.{decode_of-ok, decode_sized-ok, decode_sized-twice}
use Rattle.std.proofs.lemmas.Fmt.{decimal_is_IsNumeral}
use Rattle.std.proofs.lemmas.Str.Parse.{digit_from_value}
use Rattle.std.specs.Str.Parse.{AllDigits}
use Rattle.std.specs.Str.{bytes_eq}
use Rattle.clap.specs.Lexer.{long_of}
use Rattle.clap.specs.Simple.{Shape, built}
use Rattle.clap.specs.Faults.{check_fault}
use Rattle.clap.specs.Takes.{is_given}
use Rattle.clap.specs.Walk.{Row, Rule, Text, arg_by_id, arg_by_long, first_of}
use Rattle.pcp_base.specs.AddressTexts.{IsAddressText, IsLongText}
use Rattle.pcp_base.specs.declared.addresses.Address.{Address}
use Rattle.pcp_base.proofs.ColonLemmas.{IsColonOctet, All-colon_hex}
use Rattle.pcp_base.specs.declared.leases.Protocol.{Protocol}
use Rattle.pcp_base.specs.declared.leases.Protocol.TheVariants.{Tcp, Udp}
use Rattle.client_commands.specs.declared.commands.ClientCommand.{ClientCommand}
use Rattle.client_commands.specs.declared.commands.ClientCommand.TheVariants.{Map, Peer, Announce}
use Rattle.client_commands.specs.declared.commands.MapWanted.{MapWanted}
use Rattle.client_commands.specs.declared.commands.Mapping.{Mapping}
use Rattle.client_commands.specs.declared.commands.PeerWanted.{PeerWanted}
use Rattle.client_commands.specs.declared.commands.Target.{Target}
use Rattle.client_commands.specs.Commands.{IsCommand, IsMapWanted, IsMapping, IsPeerWanted, IsTarget, external_range, lifetime_range, port_range, size_range, tries_range, value_in}
use Rattle.client_commands.specs.Options.{announce_app, map_app, peer_app}
use Rattle.client_commands.specs.PlainWords.{AreGiven, ArePlainWords, Given, IsOneOf, flag, map_flags, map_options, option, peer_options, target_options, value_given}
use Rattle.client_commands.specs.Values.{IsAddressAt, IsNumberAt, IsProtocolAt, NumberRange, flag_at, protocol_text}
use Rattle.client_commands.proofs.PlainEnds.{AreFound, IsReadAs, all_found, built_help, flag_adds_one, flag_defaults_well, flag_says, help_adds_none, help_defaults_well, is_read, options_add_none, options_default_well, other_name, others_have, others_say, rows_have, rows_say, same_name, with_flag}
use Rattle.client_commands.proofs.PlainWalks.{AreGood, IsFlag, IsOption, IsValue, built_flag, built_option, row_of}

-- ---- values begin with no hyphen

abbrev HasNoHyphen : Text → Type 0
HasNoHyphen text = (rest : Text) → text ≡ 45 ∷ rest → ⊥

is_value : (text : Text) → HasNoHyphen text → IsValue text
is_value [] bare = record { long = refl; short = refl; more = refl }
is_value (x ∷ xs) bare =
    let other = ne_eqb x 45 (λ e. bare xs (ap (λ (y : ℕ). y ∷ xs) e)) in
    record {
      long = rw other refl;
      short = rw other refl;
      more = other_name (x ∷ xs) (45 ∷ 45 ∷ []) (λ e. bare (45 ∷ []) e);
    }

-- it begins with something else
abbrev BeginsWell : Text → Type 0
BeginsWell text = (x : ℕ) × (xs : Text) × (text ≡ x ∷ xs) × (x ≢ 45)

begins_more : (text after : Text) → BeginsWell text → BeginsWell (text ++ after)
begins_more text after well = (well.0, well.1 ++ after, ap (λ (t : Text). t ++ after) well.2, well.3)

begins_bare : (text : Text) → BeginsWell text → HasNoHyphen text
begins_bare text well rest e =
    let both : well.0 ∷ well.1 ≡ 45 ∷ rest = sym well.2 ∙ e in
    well.3 (cc)

begins_digits : (text : Text) → AllDigits 10 text → 0 < length text → BeginsWell text
begins_digits [] digits some = absurd (omega (arith, some))
begins_digits (x ∷ xs) digits some = (x, xs, refl, λ same. omega (arith, same, digit_from_value x digits.0))

begins_number : (n : ℕ) → n < 2 ^ 64 → BeginsWell (decimal n)
begins_number n fits = begins_digits (decimal n) (decimal_is_IsNumeral n fits).0.1 (decimal_is_IsNumeral n fits).0.0

begins_dotted : (a b c d : ℕ) → a < 256 → BeginsWell (dotted_text a b c d)
begins_dotted a b c d fits =
    let dot = codes "." in
    begins_more _ (decimal d) (begins_more _ dot (begins_more _ (decimal c) (begins_more _ dot (begins_more _ (decimal b) (begins_more _ dot (begins_number a (omega (arith, fits))))))))

bare_pairs : (text : Text) (a : Address) → IsLongText text a → HasNoHyphen text
bare_pairs text a long rest e =
    let whole = sym (decode_sized-twice text 16 (decode_sized-ok text 16 a.0 long)) ∙ long in
    let digits = subst (AllPass is_hex_digit) e (decode_of-ok text a.0 whole).1 in
    let first : false ≡ true = digits 0 45 (omega arith) in
    absurd (cc (first))

not_hyphen : ¬ (IsColonOctet 45)
not_hyphen (inl h) = omega (arith, h)
not_hyphen (inr (inl h)) = omega (arith, h)
not_hyphen (inr (inr (inl h))) = omega (arith, h)
not_hyphen (inr (inr (inr h))) = omega (arith, h)

bare_colon : (text groups : Text) → IsColonHex text groups → HasNoHyphen text
bare_colon text groups is rest e = not_hyphen (subst (All IsColonOctet) e (All-colon_hex text groups is) 0 45 (omega arith))

address_value : (given : Option Text) (a : Address) → IsAddressAt given a → IfSome given IsValue
address_value None a is = absurd is
address_value (Some text) a is = is_value text (either is)
  where
    either : IsAddressText text a → HasNoHyphen text
    either (inl dotted) =
        let d = dotted.1 in
        begins_bare text (subst BeginsWell (sym d.spelled) (begins_dotted d.a d.b d.c d.d d.fit.0))
    either (inr (inl long)) = bare_pairs text a long
    either (inr (inr colon)) = bare_colon text colon.0 colon.1

number_value : (range : NumberRange) (given : Option Text) (n : ℕ) → range.high < 2 ^ 64 → IsNumberAt range given n → IfSome given IsValue
number_value range None n bound is = tt
number_value range (Some text) n bound is =
    is_value text (begins_bare text (subst BeginsWell (sym is.0) (begins_number n (omega (arith, bound, is.2)))))

protocol_value : (given : Option Text) (p : Protocol) → IsProtocolAt given p → IfSome given IsValue
protocol_value given p is = subst (λ (o : Option Text). IfSome o IsValue) (sym is) (either p)
  where
    either : (p : Protocol) → IsValue (protocol_text p)
    either Tcp = record { long = refl; short = refl; more = refl }
    either Udp = record { long = refl; short = refl; more = refl }

-- ---- what must be there

address_there : (given : Option Text) (a : Address) → IsAddressAt given a → is_some given ≡ true
address_there None a is = absurd is
address_there (Some text) a is = refl

number_there : (range : NumberRange) (given : Option Text) (n : ℕ) → range.default ≡ None → IsNumberAt range given n → is_some given ≡ true
number_there range None n none is = absurd (cc)
number_there range (Some text) n none is = refl

protocol_there : (given : Option Text) (p : Protocol) → IsProtocolAt given p → is_some given ≡ true
protocol_there given p is = ap is_some is

-- ---- each word is good

-- an option of a command, and what is given for it
abbrev IsAllowed : List Rule → List Given → Text → Type 0
IsAllowed c all name = (needed : Bool) × IsOption c needed name × IfSome (value_given all name) IsValue

allowed : (c : List Rule) (all : List Given) (needed : Bool) (name : Text) → long_of (45 ∷ 45 ∷ name) ≡ Some (name, None)
    → bytes_eq (45 ∷ 45 ∷ name) (45 ∷ 45 ∷ []) ≡ false → arg_by_long c name ≡ Some (built_option needed name) → arg_by_id c name ≡ Some (built_option needed name)
    → IfSome (value_given all name) IsValue → IsAllowed c all name
allowed c all needed name word more long id value = (
  needed,
  record { word = record { long = word; more = more; same = same_name name }; long = long; id = id },
  value,
)

all_good : (c : List Rule) (options flags : List Text) (all gs : List Given) → All (IsAllowed c all) options → All (IsFlag c) flags
    → All (IsOneOf options flags) gs → AreFound all gs → AreGood c gs
all_good c options flags all [] allow flagged each found = tt
all_good c options flags all (option name value ∷ gs) allow flagged each found =
    let is = All-contains (IsAllowed c all) options name allow (All-head (IsOneOf options flags) (option name value) gs each) in (
      (is.0, is.1, subst (λ (o : Option Text). IfSome o IsValue) found.0 is.2),
      all_good c options flags all gs allow flagged (All-tail (IsOneOf options flags) (option name value) gs each) found.1,
    )
all_good c options flags all (flag name ∷ gs) allow flagged each found = (
  All-contains (IsFlag c) flags name flagged (All-head (IsOneOf options flags) (flag name) gs each),
  all_good c options flags all gs allow flagged (All-tail (IsOneOf options flags) (flag name) gs each) found.1,
)

-- ---- what the values say stays

module _ (v w : Text → Option Text) where
  target_moves : (t : Target) → v (codes "server") ≡ w (codes "server") → v (codes "own") ≡ w (codes "own") → v (codes "tries") ≡ w (codes "tries")
      → IsTarget w t → IsTarget v t
  target_moves t a b c is = record { server = rw a is.server; own = rw b is.own; tries = rw c is.tries }

  mapping_moves : (m : Mapping) → v (codes "protocol") ≡ w (codes "protocol") → v (codes "port") ≡ w (codes "port")
      → v (codes "lifetime") ≡ w (codes "lifetime") → v (codes "external-port") ≡ w (codes "external-port") → IsMapping w m → IsMapping v m
  mapping_moves m a b c d is = record { protocol = a ∙ is.protocol; port = rw b is.port; lifetime = rw c is.lifetime; external = rw d is.external }

-- ---- the options of each command

abbrev target_needs : List (Bool × Text)
target_needs = (false, codes "server") ∷ (false, codes "own") ∷ (false, codes "tries") ∷ []

abbrev mapping_needs : List (Bool × Text)
mapping_needs = target_needs
    ++ (true, codes "protocol") ∷ (true, codes "port") ∷ (false, codes "lifetime") ∷ (false, codes "external-port") ∷ []

abbrev map_needs : List (Bool × Text)
map_needs = mapping_needs ++ (false, codes "size") ∷ []

abbrev peer_needs : List (Bool × Text)
peer_needs = mapping_needs ++ (true, codes "remote") ∷ (true, codes "remote-port") ∷ []

abbrev announce_shape : Shape
announce_shape = (built announce_app).top

abbrev map_shape : Shape
map_shape = (built map_app).top

abbrev peer_shape : Shape
peer_shape = (built peer_app).top

-- nothing is missing where these are given
announce_has : (rows : List Row) → check_fault announce_shape rows false ≡ []
announce_has rows = refl

map_has : (rows : List Row) → is_given (codes "protocol") rows ≡ true → is_given (codes "port") rows ≡ true → check_fault map_shape rows false ≡ []
map_has rows a b = rw (a, b) refl

peer_has : (rows : List Row) → is_given (codes "protocol") rows ≡ true → is_given (codes "port") rows ≡ true
    → is_given (codes "remote") rows ≡ true → is_given (codes "remote-port") rows ≡ true → check_fault peer_shape rows false ≡ []
peer_has rows a b c d = rw (a, b, c, d) refl

-- ---- announce

announce_good : (gs : List Given) (words : List Text) (t : Target) → AreGiven (codes "announce") target_options [] words gs
    → IsTarget (value_given gs) t → AreGood announce_shape.rules gs
announce_good gs words t given is =
    let c = announce_shape.rules in
    all_good c target_options [] gs gs (All-from_recursion (IsAllowed c gs) target_options (
      allowed c gs false (codes "server") refl refl refl refl (address_value _ _ is.server),
      (
        allowed c gs false (codes "own") refl refl refl refl (address_value _ _ is.own),
        (
          allowed c gs false (codes "tries") refl refl refl refl (number_value tries_range _ _ (lit≤ tt) is.tries),
          tt,
        ),
      ),
    )) (All-nil (IsFlag c)) given.each (all_found gs given.once)

announce_read : (gs : List Given) (words : List Text) (t : Target) → AreGiven (codes "announce") target_options [] words gs
    → IsTarget (value_given gs) t → IsReadAs announce_shape gs (map row_of gs)
announce_read gs words t given is =
    let rows = map row_of gs in
    is_read announce_shape gs rows (announce_good gs words t given is) given.once
    (options_default_well target_needs (built_help ∷ []) rows ∙ help_defaults_well rows)
    (options_add_none target_needs (built_help ∷ []) rows ∙ help_adds_none rows)
    (announce_has rows)

pub announce_taken : (gs : List Given) (words : List Text) (t : Target) → AreGiven (codes "announce") target_options [] words gs
    → IsTarget (value_given gs) t → IsCommand words (Announce t)
announce_taken gs words t given is =
    let read = announce_read gs words t given is in
    let rows = map row_of gs in
    let said : IsTarget (value_in rows) t = target_moves (value_in rows) (value_given gs) t (rows_say gs (codes "server")) (rows_say gs (codes "own")) (rows_say gs (codes "tries")) is in
    subst (λ words. IsCommand words (Announce t)) (sym given.spelled) (refl, record { rows = rows; taken = (read.takes, sym read.finds); said = said })

-- ---- peer

module _ (gs : List Given) (words : List Text) (t : Target) (w : PeerWanted) (given : AreGiven (codes "peer") peer_options [] words gs)
    (target : IsTarget (value_given gs) t) (wanted : IsPeerWanted (value_given gs) w) where
  peer_good : AreGood peer_shape.rules gs
  peer_good =
      let c = peer_shape.rules in
      let mapping = wanted.mapping in
      all_good c peer_options [] gs gs (All-from_recursion (IsAllowed c gs) peer_options (
        allowed c gs false (codes "server") refl refl refl refl (address_value _ _ target.server),
        (
          allowed c gs false (codes "own") refl refl refl refl (address_value _ _ target.own),
          (
            allowed c gs false (codes "tries") refl refl refl refl (number_value tries_range _ _ (lit≤ tt) target.tries),
            (
              allowed c gs true (codes "protocol") refl refl refl refl (protocol_value _ _ mapping.protocol),
              (
                allowed c gs true (codes "port") refl refl refl refl (number_value port_range _ _ (lit≤ tt) mapping.port),
                (
                  allowed c gs false (codes "lifetime") refl refl refl refl (number_value lifetime_range _ _ (lit≤ tt) mapping.lifetime),
                  (
                    allowed c gs false (codes "external-port") refl refl refl refl (number_value external_range _ _ (lit≤ tt) mapping.external),
                    (
                      allowed c gs true (codes "remote") refl refl refl refl (address_value _ _ wanted.remote),
                      (
                        allowed c gs true (codes "remote-port") refl refl refl refl (number_value port_range _ _ (lit≤ tt) wanted.remote_port),
                        tt,
                      ),
                    ),
                  ),
                ),
              ),
            ),
          ),
        ),
      )) (All-nil (IsFlag c)) given.each (all_found gs given.once)

  peer_read : IsReadAs peer_shape gs (map row_of gs)
  peer_read =
      let rows = map row_of gs in
      is_read peer_shape gs rows peer_good given.once
      (options_default_well peer_needs (built_help ∷ []) rows ∙ help_defaults_well rows)
      (options_add_none peer_needs (built_help ∷ []) rows ∙ help_adds_none rows)
      (peer_has rows (rows_have gs (codes "protocol") ∙ protocol_there _ _ wanted.mapping.protocol) (rows_have gs (codes "port") ∙ number_there port_range _ _ refl wanted.mapping.port)
      (rows_have gs (codes "remote") ∙ address_there _ _ wanted.remote) (rows_have gs (codes "remote-port") ∙ number_there port_range _ _ refl wanted.remote_port))

  pub peer_taken : IsCommand words (Peer t w)
  peer_taken =
      let rows = map row_of gs in
      let v = value_in rows in
      let g = value_given gs in
      let says = rows_say gs in
      let asks : IsTarget v t = target_moves v g t (says (codes "server")) (says (codes "own")) (says (codes "tries")) target in
      let maps : IsMapping v w.mapping = mapping_moves v g w.mapping (says (codes "protocol")) (says (codes "port")) (says (codes "lifetime")) (says (codes "external-port")) wanted.mapping in
      let remote : IsAddressAt (v (codes "remote")) w.remote = rw (says (codes "remote")) wanted.remote in
      let port : IsNumberAt port_range (v (codes "remote-port")) w.remote_port = rw (says (codes "remote-port")) wanted.remote_port in
      let wants : IsPeerWanted v w = record { mapping = maps; remote = remote; remote_port = port } in
      subst (λ words. IsCommand words (Peer t w)) (sym given.spelled)
      (refl, record { rows = rows; taken = (peer_read.takes, sym peer_read.finds); said = (asks, wants) })

-- ---- map

abbrev prefer : Text
prefer = codes "prefer-failure"

module _ (gs : List Given) (words : List Text) (t : Target) (w : MapWanted) (given : AreGiven (codes "map") map_options map_flags words gs)
    (target : IsTarget (value_given gs) t) (wanted : IsMapWanted (value_given gs) w) where
  map_good : AreGood map_shape.rules gs
  map_good =
      let c = map_shape.rules in
      let mapping = wanted.mapping in
      all_good c map_options map_flags gs gs (All-from_recursion (IsAllowed c gs) map_options (
        allowed c gs false (codes "server") refl refl refl refl (address_value _ _ target.server),
        (
          allowed c gs false (codes "own") refl refl refl refl (address_value _ _ target.own),
          (
            allowed c gs false (codes "tries") refl refl refl refl (number_value tries_range _ _ (lit≤ tt) target.tries),
            (
              allowed c gs true (codes "protocol") refl refl refl refl (protocol_value _ _ mapping.protocol),
              (
                allowed c gs true (codes "port") refl refl refl refl (number_value port_range _ _ (lit≤ tt) mapping.port),
                (
                  allowed c gs false (codes "lifetime") refl refl refl refl (number_value lifetime_range _ _ (lit≤ tt) mapping.lifetime),
                  (
                    allowed c gs false (codes "external-port") refl refl refl refl (number_value external_range _ _ (lit≤ tt) mapping.external),
                    (
                      allowed c gs false (codes "size") refl refl refl refl (number_value size_range _ _ (lit≤ tt) wanted.size),
                      tt,
                    ),
                  ),
                ),
              ),
            ),
          ),
        ),
      )) (All-from_recursion (IsFlag c) map_flags (record { word = record { long = refl; more = refl; same = same_name prefer }; long = refl }, tt))
      given.each (all_found gs given.once)

  abbrev map_rows : List Row
  map_rows = with_flag prefer (map row_of gs)

  -- what an option has in them
  have : (name : Text) → bytes_eq prefer name ≡ false → is_given name map_rows ≡ is_some (value_given gs name)
  have name other = others_have prefer name (map row_of gs) other ∙ rows_have gs name

  says : (name : Text) → bytes_eq prefer name ≡ false → first_of name map_rows ≡ value_given gs name
  says name other = others_say prefer name (map row_of gs) other ∙ rows_say gs name

  map_read : IsReadAs map_shape gs map_rows
  map_read =
      let rows = map row_of gs in
      is_read map_shape gs map_rows map_good given.once
      (options_default_well map_needs (built_flag prefer ∷ built_help ∷ []) rows ∙ flag_defaults_well prefer rows)
      (options_add_none map_needs (built_flag prefer ∷ built_help ∷ []) rows ∙ flag_adds_one prefer rows)
      (map_has map_rows (have (codes "protocol") refl ∙ protocol_there _ _ wanted.mapping.protocol) (have (codes "port") refl ∙ number_there port_range _ _ refl wanted.mapping.port))

  pub map_taken : IsCommand words (Map t w)
  map_taken =
      let v = value_in map_rows in
      let g = value_given gs in
      let asks : IsTarget v t = target_moves v g t (says (codes "server") refl) (says (codes "own") refl) (says (codes "tries") refl) target in
      let maps : IsMapping v w.mapping = mapping_moves v g w.mapping (says (codes "protocol") refl) (says (codes "port") refl) (says (codes "lifetime") refl) (says (codes "external-port") refl) wanted.mapping in
      let size : IsNumberAt size_range (v (codes "size")) w.size = rw (says (codes "size") refl) wanted.size in
      let fails : w.prefer ≡ flag_at (v prefer) = wanted.prefer ∙ ap flag_at (sym (rows_say gs prefer)) ∙ sym (flag_says prefer (map row_of gs)) in
      let wants : IsMapWanted v w = record { mapping = maps; size = size; prefer = fails } in
      subst (λ words. IsCommand words (Map t w)) (sym given.spelled)
      (refl, record { rows = map_rows; taken = (map_read.takes, sym map_read.finds); said = (asks, wants) })

-- ---- all of them

pub plain_is_command : (words : List Text) (command : ClientCommand) → ArePlainWords words command → IsCommand words command
plain_is_command words (Map t w) plain = map_taken plain.0 words t w plain.1 plain.2 plain.3
plain_is_command words (Peer t w) plain = peer_taken plain.0 words t w plain.1 plain.2 plain.3
plain_is_command words (Announce t) plain = announce_taken plain.0 words t plain.1 plain.2
