-- Plain words are read as the command that they say.
use Rattle.std.proofs.Common.{◌≡◌, ◌≢◌, ℕ, ◌<◌, ◌^◌, List, [], ◌∷◌, ◌++◌, map, length, Option, Some, None, inl, inr, arith, refl, sym, subst, ap, ◌∙◌, codes, true, false, decimal, All, ne_eqb}
use Rattle.std.specs.List.{AllPass}
use Rattle.std.specs.Prelude.{Bool, IfSome, Ok, is_some}
use Rattle.std.proofs.lemmas.List.Elements.{All-contains, All-from_recursion, All-head, All-nil, All-tail}
use Rattle.std.specs.Net.Grammar.{IsColonHex}
use Rattle.std.specs.Net.Text.{dotted_text}
use Rattle.hex.specs.Hex.{decode_sized, is_hex_digit}
use Rattle.hex.proofs.HexLemmas.{decode_of-ok, decode_sized-ok, decode_sized-twice}
use Rattle.std.proofs.lemmas.Fmt.{decimal_is_IsNumeral}
use Rattle.std.proofs.lemmas.Str.Parse.{digit_from_value}
use Rattle.std.specs.Str.Parse.{AllDigits}
use Rattle.std.specs.Str.{bytes_eq}
use Rattle.clap.specs.Lexer.{long_of}
use Rattle.clap.specs.Simple.{Shape, built}
use Rattle.clap.specs.Faults.{check_fault}
use Rattle.clap.specs.Takes.{is_given}
use Rattle.clap.specs.Walk.{Row, Rule, Text, arg_by_id, arg_by_long}
use Rattle.pcp_base.specs.AddressTexts.{IsAddressText}
use Rattle.pcp_base.specs.declared.addresses.Address.{Address}
use Rattle.pcp_base.proofs.ColonLemmas.{IsColonOctet, All-colon_hex}
use Rattle.client_commands.specs.Commands.{port_range, value_in}
use Rattle.client_commands.specs.PlainWords.{AreGiven, Given, IsOneOf, flag, option, value_given}
use Rattle.client_commands.specs.Values.{IsAddressAt, IsNumberAt}
use Rattle.client_commands.proofs.PlainEnds.{AreFound, IsReadAs, all_found, built_help, help_adds_none, help_defaults_well, is_read, options_add_none, options_default_well, other_name, rows_have, rows_say, same_name}
use Rattle.client_commands.proofs.PlainWalks.{AreGood, IsOption, IsValue, built_option, row_of}
use Rattle.proxy_commands.specs.declared.commands.CascadeCommand.{CascadeCommand}
use Rattle.proxy_commands.specs.declared.commands.ProxyCommand.{ProxyCommand}
use Rattle.proxy_commands.specs.Commands.{IsCascadeCommand, IsCascadeIn, IsCommand, IsProxyIn, cascade_app, proxy_app}
use Rattle.proxy_commands.specs.Keys.{IsKeyAt}
use Rattle.proxy_commands.specs.PlainWords.{ArePlainCascadeWords, ArePlainWords, cascade_options, proxy_options}

-- ---- values begin with no hyphen

abbrev HasNoHyphen : Text → Type 0
HasNoHyphen text = (rest : Text) → text ≡ 45 ∷ rest → ⊥

is_value : (text : Text) → HasNoHyphen text → IsValue text
is_value [] bare = record { long = refl; short = refl; more = refl }
is_value (x ∷ xs) bare =
    let other = ne_eqb x 45 (λ e. bare xs (ap (λ (y : ℕ). y ∷ xs) e)) in
    record {
      long = rw other refl;
      short = rw other refl;
      more = other_name (x ∷ xs) (45 ∷ 45 ∷ []) (λ e. bare (45 ∷ []) e);
    }

-- a text of hexadecimal digits
bare_pairs : (n : ℕ) (text octets : Text) → decode_sized text n ≡ Ok octets → HasNoHyphen text
bare_pairs n text octets is rest e =
    let whole = sym (decode_sized-twice text n (decode_sized-ok text n octets is)) ∙ is in
    let digits = subst (AllPass is_hex_digit) e (decode_of-ok text octets whole).1 in
    let first : false ≡ true = digits 0 45 (omega arith) in
    absurd (cc (first))

-- it begins with something else
abbrev BeginsWell : Text → Type 0
BeginsWell text = (x : ℕ) × (xs : Text) × (text ≡ x ∷ xs) × (x ≢ 45)

begins_more : (text after : Text) → BeginsWell text → BeginsWell (text ++ after)
begins_more text after well = (well.0, well.1 ++ after, ap (λ (t : Text). t ++ after) well.2, well.3)

begins_bare : (text : Text) → BeginsWell text → HasNoHyphen text
begins_bare text well rest e =
    let both : well.0 ∷ well.1 ≡ 45 ∷ rest = sym well.2 ∙ e in
    well.3 (cc)

begins_digits : (text : Text) → AllDigits 10 text → 0 < length text → BeginsWell text
begins_digits [] digits some = absurd (omega (arith, some))
begins_digits (x ∷ xs) digits some = (x, xs, refl, λ same. omega (arith, same, digit_from_value x digits.0))

begins_number : (n : ℕ) → n < 2 ^ 64 → BeginsWell (decimal n)
begins_number n fits = begins_digits (decimal n) (decimal_is_IsNumeral n fits).0.1 (decimal_is_IsNumeral n fits).0.0

begins_dotted : (a b c d : ℕ) → a < 256 → BeginsWell (dotted_text a b c d)
begins_dotted a b c d fits =
    let dot = codes "." in
    begins_more _ (decimal d) (begins_more _ dot (begins_more _ (decimal c) (begins_more _ dot (begins_more _ (decimal b) (begins_more _ dot (begins_number a (omega (arith, fits))))))))

not_hyphen : ¬ (IsColonOctet 45)
not_hyphen (inl h) = omega (arith, h)
not_hyphen (inr (inl h)) = omega (arith, h)
not_hyphen (inr (inr (inl h))) = omega (arith, h)
not_hyphen (inr (inr (inr h))) = omega (arith, h)

bare_colon : (text groups : Text) → IsColonHex text groups → HasNoHyphen text
bare_colon text groups is rest e = not_hyphen (subst (All IsColonOctet) e (All-colon_hex text groups is) 0 45 (omega arith))

address_value : (given : Option Text) (a : Address) → IsAddressAt given a → IfSome given IsValue
address_value None a is = absurd is
address_value (Some text) a is = is_value text (either is)
  where
    either : IsAddressText text a → HasNoHyphen text
    either (inl dotted) =
        let d = dotted.1 in
        begins_bare text (subst BeginsWell (sym d.spelled) (begins_dotted d.a d.b d.c d.d d.fit.0))
    either (inr (inl long)) = bare_pairs 16 text a.0 long
    either (inr (inr colon)) = bare_colon text colon.0 colon.1

key_value : (given : Option Text) (key : List ℕ) → IsKeyAt given key → IfSome given IsValue
key_value None key is = absurd is
key_value (Some text) key is = is_value text (bare_pairs 32 text key is)

port_value : (given : Option Text) (port : ℕ) → IsNumberAt port_range given port → IfSome given IsValue
port_value None port is = tt
port_value (Some text) port is =
    is_value text (begins_bare text (subst BeginsWell (sym is.0) (begins_number port (omega (arith, is.2)))))

-- ---- what must be there

address_there : (given : Option Text) (a : Address) → IsAddressAt given a → is_some given ≡ true
address_there None a is = absurd is
address_there (Some text) a is = refl

port_there : (given : Option Text) (port : ℕ) → IsNumberAt port_range given port → is_some given ≡ true
port_there None port is = absurd (cc)
port_there (Some text) port is = refl

-- ---- each word is good

-- an option of the command, and what is given for it
abbrev IsAllowed : List Rule → List Given → Text → Type 0
IsAllowed c all name = (needed : Bool) × IsOption c needed name × IfSome (value_given all name) IsValue

allowed : (c : List Rule) (all : List Given) (needed : Bool) (name : Text) → long_of (45 ∷ 45 ∷ name) ≡ Some (name, None)
    → bytes_eq (45 ∷ 45 ∷ name) (45 ∷ 45 ∷ []) ≡ false → arg_by_long c name ≡ Some (built_option needed name) → arg_by_id c name ≡ Some (built_option needed name)
    → IfSome (value_given all name) IsValue → IsAllowed c all name
allowed c all needed name word more long id value =
    (needed, record { word = record { long = word; more = more; same = same_name name }; long = long; id = id }, value)

all_good : (c : List Rule) (options : List Text) (all gs : List Given) → All (IsAllowed c all) options
    → All (IsOneOf options []) gs → AreFound all gs → AreGood c gs
all_good c options all [] allow each found = tt
all_good c options all (option name value ∷ gs) allow each found =
    let is = All-contains (IsAllowed c all) options name allow (All-head (IsOneOf options []) (option name value) gs each) in (
      (is.0, is.1, subst (λ (o : Option Text). IfSome o IsValue) found.0 is.2),
      all_good c options all gs allow (All-tail (IsOneOf options []) (option name value) gs each) found.1,
    )
all_good c options all (flag name ∷ gs) allow each found =
    absurd (All-contains (λ (t : Text). ⊥) [] name (All-nil (λ (t : Text). ⊥)) (All-head (IsOneOf options []) (flag name) gs each))

-- ---- the options of each command

abbrev proxy_needs : List (Bool × Text)
proxy_needs = (true, codes "server") ∷ (true, codes "own") ∷ (true, codes "inner") ∷ (false, codes "key") ∷ []

abbrev cascade_needs : List (Bool × Text)
cascade_needs = proxy_needs ++ (true, codes "low") ∷ (true, codes "high") ∷ []

abbrev proxy_shape : Shape
proxy_shape = (built proxy_app).top

abbrev cascade_shape : Shape
cascade_shape = (built cascade_app).top

-- nothing is missing where these are given
proxy_has : (rows : List Row) → is_given (codes "server") rows ≡ true → is_given (codes "own") rows ≡ true → is_given (codes "inner") rows ≡ true
    → check_fault proxy_shape rows false ≡ []
proxy_has rows a b c = rw (a, b, c) refl

cascade_has : (rows : List Row) → is_given (codes "server") rows ≡ true → is_given (codes "own") rows ≡ true → is_given (codes "inner") rows ≡ true
    → is_given (codes "low") rows ≡ true → is_given (codes "high") rows ≡ true → check_fault cascade_shape rows false ≡ []
cascade_has rows a b c d e = rw (a, b, c, d, e) refl

-- what the values say stays
proxy_moves : (v w : Text → Option Text) (command : ProxyCommand) → v (codes "server") ≡ w (codes "server") → v (codes "own") ≡ w (codes "own")
    → v (codes "inner") ≡ w (codes "inner") → v (codes "key") ≡ w (codes "key") → IsProxyIn w command → IsProxyIn v command
proxy_moves v w command a b c d is = record { server = rw a is.server; own = rw b is.own; inner = rw c is.inner; key = rw d is.key }

-- ---- proxy

module _ (gs : List Given) (words : List Text) (command : ProxyCommand) (given : AreGiven (codes "proxy") proxy_options [] words gs)
    (is : IsProxyIn (value_given gs) command) where
  proxy_good : AreGood proxy_shape.rules gs
  proxy_good =
      let c = proxy_shape.rules in
      all_good c proxy_options gs gs (All-from_recursion (IsAllowed c gs) proxy_options (
        allowed c gs true (codes "server") refl refl refl refl (address_value _ _ is.server),
        (
          allowed c gs true (codes "own") refl refl refl refl (address_value _ _ is.own),
          (
            allowed c gs true (codes "inner") refl refl refl refl (address_value _ _ is.inner),
            (allowed c gs false (codes "key") refl refl refl refl (key_value _ _ is.key), tt),
          ),
        ),
      )) given.each (all_found gs given.once)

  proxy_read : IsReadAs proxy_shape gs (map row_of gs)
  proxy_read =
      let rows = map row_of gs in
      is_read proxy_shape gs rows proxy_good given.once
      (options_default_well proxy_needs (built_help ∷ []) rows ∙ help_defaults_well rows)
      (options_add_none proxy_needs (built_help ∷ []) rows ∙ help_adds_none rows)
      (proxy_has rows (rows_have gs (codes "server") ∙ address_there _ _ is.server) (rows_have gs (codes "own") ∙ address_there _ _ is.own)
      (rows_have gs (codes "inner") ∙ address_there _ _ is.inner))

  proxy_taken : IsCommand words command
  proxy_taken =
      let rows = map row_of gs in
      let says = rows_say gs in
      let said : IsProxyIn (value_in rows) command = proxy_moves (value_in rows) (value_given gs) command
      (says (codes "server")) (says (codes "own")) (says (codes "inner")) (says (codes "key")) is in
      subst (λ words. IsCommand words command) (sym given.spelled)
      (record { named = refl; behind = record { rows = rows; taken = (proxy_read.takes, sym proxy_read.finds); said = said } })

-- ---- cascade

module _ (gs : List Given) (words : List Text) (command : CascadeCommand) (given : AreGiven (codes "cascade") cascade_options [] words gs)
    (is : IsCascadeIn (value_given gs) command) where
  cascade_good : AreGood cascade_shape.rules gs
  cascade_good =
      let c = cascade_shape.rules in
      all_good c cascade_options gs gs (All-from_recursion (IsAllowed c gs) cascade_options (
        allowed c gs true (codes "server") refl refl refl refl (address_value _ _ is.relay.server),
        (
          allowed c gs true (codes "own") refl refl refl refl (address_value _ _ is.relay.own),
          (
            allowed c gs true (codes "inner") refl refl refl refl (address_value _ _ is.relay.inner),
            (
              allowed c gs false (codes "key") refl refl refl refl (key_value _ _ is.relay.key),
              (
                allowed c gs true (codes "low") refl refl refl refl (port_value _ _ is.low),
                (allowed c gs true (codes "high") refl refl refl refl (port_value _ _ is.high), tt),
              ),
            ),
          ),
        ),
      )) given.each (all_found gs given.once)

  cascade_read : IsReadAs cascade_shape gs (map row_of gs)
  cascade_read =
      let rows = map row_of gs in
      is_read cascade_shape gs rows cascade_good given.once
      (options_default_well cascade_needs (built_help ∷ []) rows ∙ help_defaults_well rows)
      (options_add_none cascade_needs (built_help ∷ []) rows ∙ help_adds_none rows)
      (cascade_has rows (rows_have gs (codes "server") ∙ address_there _ _ is.relay.server) (rows_have gs (codes "own") ∙ address_there _ _ is.relay.own)
      (rows_have gs (codes "inner") ∙ address_there _ _ is.relay.inner)
      (rows_have gs (codes "low") ∙ port_there _ _ is.low) (rows_have gs (codes "high") ∙ port_there _ _ is.high))

  cascade_taken : IsCascadeCommand words command
  cascade_taken =
      let rows = map row_of gs in
      let says = rows_say gs in
      let relay : IsProxyIn (value_in rows) command.relay = proxy_moves (value_in rows) (value_given gs) command.relay
      (says (codes "server")) (says (codes "own")) (says (codes "inner")) (says (codes "key")) is.relay in
      let low : IsNumberAt port_range (value_in rows (codes "low")) command.low = rw (says (codes "low")) is.low in
      let high : IsNumberAt port_range (value_in rows (codes "high")) command.high = rw (says (codes "high")) is.high in
      let said : IsCascadeIn (value_in rows) command = record { relay = relay; low = low; high = high; order = is.order } in
      subst (λ words. IsCascadeCommand words command) (sym given.spelled)
      (record { named = refl; behind = record { rows = rows; taken = (cascade_read.takes, sym cascade_read.finds); said = said } })

-- ---- both

pub plain_is_command : (words : List Text) (command : ProxyCommand) → ArePlainWords words command → IsCommand words command
plain_is_command words command plain = proxy_taken plain.0 words command plain.1 plain.2

pub plain_is_cascade : (words : List Text) (command : CascadeCommand) → ArePlainCascadeWords words command → IsCascadeCommand words command
plain_is_cascade words command plain = cascade_taken plain.0 words command plain.1 plain.2
