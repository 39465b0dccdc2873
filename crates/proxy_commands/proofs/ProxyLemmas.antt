-- The command that is found is said, and that alone.
use Rattle.std.proofs.Common.{◌≡◌, ℕ, ◌≤◌, ◌<◌, nat_lt, true, false, List, Option, Some, None, refl, sym, subst, ◌∙◌, arith, codes}
use Rattle.std.specs.Prelude.{Bool, Result, Ok, Err, IsErr, IfSome, if◌then◌else◌}
use Rattle.std.proofs.lemmas.Bool.Decides.{nat_tests}
use Rattle.hex.specs.Hex.{decode_sized}
use Rattle.hex.specs.declared.error.FromHexError.{FromHexError}
use Rattle.clap.specs.Words.{App, Row, Text, found_of, rows_of}
use Rattle.clap.specs.declared.parser.matches.ArgMatches.{ArgMatches}
use Rattle.pcp_base.specs.declared.addresses.Address.{Address}
use Rattle.client_commands.specs.Commands.{IsNamed, IsOnly, port_range, value_in}
use Rattle.client_commands.specs.Parses.{IsFound}
use Rattle.client_commands.specs.Values.{IsAddressAt, IsNumberAt, IsNumberText}
use Rattle.proxy_commands.specs.declared.commands.ProxyCommand.{ProxyCommand}
use Rattle.proxy_commands.specs.Commands.{IsCascadeIn, IsNamedCommand, IsProxyIn, IsTakenBy}
use Rattle.proxy_commands.specs.Keys.{IsKeyAt, IsKeyText}
use Rattle.proxy_commands.specs.Parts.{cascade_with, proxy_with}

-- what is found is what is such
the_one : {X : Type 0} {Is : X → Type 0} (x y : X) → IsOnly Is (Some x) → Is y → x ≡ y
the_one x y h is = cc (h.only y is)

-- where nothing is found nothing is such
none_is : {X A : Type 0} {Is : X → Type 0} (y : X) → IsOnly Is None → Is y → A
none_is y h is = absurd (cc (h.only y is))

-- ---- keys

pub key_found : (text key : List ℕ) (r : Result (List ℕ) FromHexError) → r ≡ Ok key → r ≡ decode_sized text 32 → IsOnly (IsKeyText text) (Some key)
key_found text key r same is = record {
  value = sym is ∙ same;
  only = λ other h. cc (sym same ∙ is ∙ h);
}

pub key_missed : (text : List ℕ) (r : Result (List ℕ) FromHexError) → IsErr r → r ≡ decode_sized text 32 → IsOnly (IsKeyText text) None
key_missed text (Ok key) wrong is = absurd cc
key_missed text (Err e) wrong is = record {
  value = tt;
  only = λ other h. absurd (let both : Err e ≡ Ok other = is ∙ h in cc);
}

pub key_given : (given : Option (List ℕ)) (text : List ℕ) (r : Option (List ℕ)) → given ≡ Some text → IsOnly (IsKeyText text) r → IsOnly (IsKeyAt given) r
key_given given text r same is =
    subst (λ (g : Option (List ℕ)). IsOnly (IsKeyAt g) r) (sym same) (record { value = value r is.value; only = is.only })
  where
    value : (r : Option (List ℕ)) → IfSome r (IsKeyText text) → IfSome r (IsKeyAt (Some text))
    value None is = tt
    value (Some key) is = is

-- ---- ports

pub port_given : (given : Option (List ℕ)) (text : List ℕ) (r : Option ℕ) → given ≡ Some text → IsOnly (IsNumberText 1 65535 text) r → IsOnly (IsNumberAt port_range given) r
port_given given text r same is =
    subst (λ (g : Option (List ℕ)). IsOnly (IsNumberAt port_range g) r) (sym same) (record { value = value r is.value; only = is.only })
  where
    value : (r : Option ℕ) → IfSome r (IsNumberText 1 65535 text) → IfSome r (IsNumberAt port_range (Some text))
    value None is = tt
    value (Some n) is = is

-- ---- the options

below : (a b : ℕ) → nat_lt a b ≡ true → a < b
below a b h = grind (arith, nat_tests)

within_all : (a b : ℕ) → nat_lt a b ≡ false → b ≤ a
within_all a b h = grind (arith, nat_tests)

module _ (values : Text → Option Text) where
  pub proxy_only : (s o i : Option Address) (k : Option (List ℕ)) → IsOnly (IsAddressAt (values (codes "server"))) s
      → IsOnly (IsAddressAt (values (codes "own"))) o → IsOnly (IsAddressAt (values (codes "inner"))) i
      → IsOnly (IsKeyAt (values (codes "key"))) k → IsOnly (IsProxyIn values) (proxy_with s o i k)
  proxy_only None o i k hs ho hi hk = record { value = tt; only = λ x is. none_is x.server hs is.server }
  proxy_only (Some s) None i k hs ho hi hk = record { value = tt; only = λ x is. none_is x.own ho is.own }
  proxy_only (Some s) (Some o) None k hs ho hi hk = record { value = tt; only = λ x is. none_is x.inner hi is.inner }
  proxy_only (Some s) (Some o) (Some i) None hs ho hi hk = record { value = tt; only = λ x is. none_is x.key hk is.key }
  proxy_only (Some s) (Some o) (Some i) (Some k) hs ho hi hk = record {
    value = record { server = hs.value; own = ho.value; inner = hi.value; key = hk.value };
    only = λ x is. rw (the_one s x.server hs is.server, the_one o x.own ho is.own, the_one i x.inner hi is.inner, the_one k x.key hk is.key) refl;
  }

  pub cascade_only : (r : Option ProxyCommand) (l h : Option ℕ) → IsOnly (IsProxyIn values) r → IsOnly (IsNumberAt port_range (values (codes "low"))) l
      → IsOnly (IsNumberAt port_range (values (codes "high"))) h → IsOnly (IsCascadeIn values) (cascade_with r l h)
  cascade_only None l h hr hl hh = record { value = tt; only = λ x is. none_is x.relay hr is.relay }
  cascade_only (Some r) None h hr hl hh = record { value = tt; only = λ x is. none_is x.low hl is.low }
  cascade_only (Some r) (Some l) None hr hl hh = record { value = tt; only = λ x is. none_is x.high hh is.high }
  cascade_only (Some r) (Some l) (Some h) hr hl hh = either (nat_lt h l) refl
    where
      either : (b : Bool) → nat_lt h l ≡ b → IsOnly (IsCascadeIn values) (if b then None else Some (record { relay = r; low = l; high = h }))
      either true above = record {
        value = tt;
        only = λ x is.
            let low : l ≡ x.low = the_one l x.low hl is.low in
            let high : h ≡ x.high = the_one h x.high hh is.high in
            absurd (omega (arith, below h l above, low, high, is.order));
      }
      either false within = record {
        value = record { relay = hr.value; low = hl.value; high = hh.value; order = within_all h l within };
        only = λ x is. rw (the_one r x.relay hr is.relay, the_one l x.low hl is.low, the_one h x.high hh is.high) refl;
      }

-- ---- the words

module _ {C : Type 0} (app : App) (IsIn : (Text → Option Text) → C → Type 0) (words : List Text) where
  pub taken_some : (made : App) (found : Option ArgMatches) (m : ArgMatches) (read : Option C) → made ≡ app → IsFound made words found → found ≡ Some m
      → IsOnly (IsIn (value_in (rows_of (found_of m)))) read → IsOnly (IsTakenBy app IsIn words) read
  taken_some made found m read same is some only =
      let taken = subst (λ (a : App). IsFound a words (Some m)) same (subst (λ f. IsFound made words f) some is) in
      record {
        value = said read only.value taken;
        only = λ c other. only.only c (subst (λ (rows : List Row). IsIn (value_in rows) c) (other.taken.1 ∙ sym taken.1) other.said);
      }
    where
      said : (read : Option C) → IfSome read (IsIn (value_in (rows_of (found_of m)))) → IsFound app words (Some m) → IfSome read (IsTakenBy app IsIn words)
      said None is taken = tt
      said (Some c) is taken = record { rows = rows_of (found_of m); taken = taken; said = is }

  pub taken_none : (made : App) (found : Option ArgMatches) → made ≡ app → IsFound made words found → found ≡ None → IsOnly (IsTakenBy app IsIn words) None
  taken_none made found same is none =
      let no = subst (λ (a : App). IsFound a words None) same (subst (λ f. IsFound made words f) none is) in
      record { value = tt; only = λ c other. absurd (no other.taken.0) }

  pub named_so : (name : Text) (read : Option C) → IsNamed name words → IsOnly (IsTakenBy app IsIn words) read → IsOnly (IsNamedCommand name app IsIn words) read
  named_so name read named only = record { value = said read only.value; only = λ c is. only.only c is.behind }
    where
      said : (read : Option C) → IfSome read (IsTakenBy app IsIn words) → IfSome read (IsNamedCommand name app IsIn words)
      said None is = tt
      said (Some c) is = record { named = named; behind = is }

  pub not_named : (name : Text) → ¬ (IsNamed name words) → IsOnly (IsNamedCommand name app IsIn words) None
  not_named name other = record { value = tt; only = λ c is. absurd (other is.named) }

-- ---- what the words say

pub none_said : {C : Type 0} (Is : C → Type 0) (found : Option C) → found ≡ None → IsOnly Is found → (command : C) → ¬ (Is command)
none_said Is found none only command is = let some : found ≡ Some command = only.only command is in absurd cc
