-- What is found is such, and that alone.
use Rattle.std.proofs.Common.{◌≡◌, ℕ, ◌^◌, ◌<◌, ◌≤◌, List, Option, Some, None, sym, subst, ap, ◌∙◌, arith, codes, true, decimal}
use Rattle.std.specs.Prelude.{Bool, Result, Ok, Err, IfOk, IfSome, IsTrue, OnErr, map, option_map, slice_get, ◌↔◌}
use Rattle.std.specs.Str.{bytes_eq}
use Rattle.std.proofs.lemmas.Option.{slice_get-map}
use Rattle.std.proofs.lemmas.Slice.Eq.{bytes_eq-Decides}
use Rattle.std.proofs.lemmas.Fmt.{decimal_injective}
use Rattle.clap.specs.Words.{App, HasMatchesOf, FailsBy, Row, Text, fault_of, found_of, is_simple_and_free, rows_of}
use Rattle.clap.specs.declared.error.Error.{Error}
use Rattle.clap.specs.declared.parser.matches.ArgMatches.{ArgMatches}
use Rattle.clap.proofs.WalkLemmas.{both}
use Rattle.pcp_base.specs.AddressTexts.{IsAddressText}
use Rattle.pcp_base.specs.declared.addresses.Address.{Address}
use Rattle.pcp_base.specs.declared.addresses.NotAddress.{NotAddress}
use Rattle.client_commands.specs.declared.commands.ClientCommand.{ClientCommand}
use Rattle.client_commands.specs.declared.commands.ClientCommand.TheVariants.{Map, Peer, Announce}
use Rattle.client_commands.specs.Commands.{IsAnnounceIn, IsCommand, IsMapIn, IsNamed, IsOnly, IsPeerIn, IsTakenBy}
use Rattle.client_commands.specs.Options.{announce_app, map_app, peer_app}
use Rattle.client_commands.specs.Parses.{IsFound}
use Rattle.client_commands.specs.Values.{IsAddressAt, IsNumberText}

-- ---- values

pub address_found : (text : List ℕ) (r : Result Address NotAddress) (a : Address) → r ≡ Ok a → IfOk r (IsAddressText text)
    → IfOk r (λ a. (b : Address) → IsAddressText text b → b ≡ a) → IsOnly (IsAddressText text) (Some a)
address_found text r a same is only = record {
  value = subst (λ r. IfOk r (IsAddressText text)) same is;
  only = λ b other. ap Some (sym (subst (λ r. IfOk r (λ a. (b : Address) → IsAddressText text b → b ≡ a)) same only b other));
}

pub address_missed : (text : List ℕ) (r : Result Address NotAddress) (e : NotAddress) → r ≡ Err e → OnErr r ((a : Address) → ¬ (IsAddressText text a))
    → IsOnly (IsAddressText text) None
address_missed text r e same none = record {
  value = tt;
  only = λ b other. absurd (subst (λ r. OnErr r ((a : Address) → ¬ (IsAddressText text a))) same none b other);
}

pub number_found : (low high : ℕ) (text : List ℕ) (k : ℕ) → text ≡ decimal k → low ≤ k → k ≤ high → high < 2 ^ 64 → IsOnly (IsNumberText low high text) (Some k)
number_found low high text k is least most bound = record {
  value = (is, least, most);
  only = λ n other. ap Some (decimal_injective k n (omega (arith, most, bound)) (omega (arith, other.2, bound)) (sym is ∙ other.0));
}

pub number_low : (low high : ℕ) (text : List ℕ) (k : ℕ) → text ≡ decimal k → k < low → k ≤ high → high < 2 ^ 64 → IsOnly (IsNumberText low high text) None
number_low low high text k is small most bound = record {
  value = tt;
  only = λ n other.
      let same : k ≡ n = decimal_injective k n (omega (arith, most, bound)) (omega (arith, other.2, bound)) (sym is ∙ other.0) in
      absurd (omega (arith, same, other.1, small));
}

pub address_given : (given : Option (List ℕ)) (text : List ℕ) (r : Option Address) → given ≡ Some text → IsOnly (IsAddressText text) r
    → IsOnly (IsAddressAt given) r
address_given given text r same is =
    subst (λ (g : Option (List ℕ)). IsOnly (IsAddressAt g) r) (sym same) (record { value = value r is.value; only = is.only })
  where
    value : (r : Option Address) → IfSome r (IsAddressText text) → IfSome r (IsAddressAt (Some text))
    value None is = tt
    value (Some a) is = is

-- ---- parses

pub found_ok : (app : App) (words : List Text) (r : Result ArgMatches Error) (m : ArgMatches) → r ≡ Ok m → is_simple_and_free app ≡ true
    → (is_simple_and_free app ≡ true → FailsBy (fault_of app words) r) → IfOk r (HasMatchesOf app words) → IsFound app words (Some m)
found_ok app words r m same free kinds matches =
    (subst (λ r. FailsBy (fault_of app words) r) same (kinds free), (subst (λ r. IfOk r (HasMatchesOf app words)) same matches (both _ _ free).0).0)

module _ (app : App) (IsIn : List Row → ClientCommand → Type 0) (words : List Text) where
  pub taken_some : (made : App) (found : Option ArgMatches) (m : ArgMatches) (read : Option ClientCommand) → made ≡ app → IsFound made words found → found ≡ Some m
      → IsOnly (IsIn (rows_of (found_of m))) read → IsOnly (IsTakenBy app IsIn words) read
  taken_some made found m read same is some only =
      let taken = subst (λ (a : App). IsFound a words (Some m)) same (subst (λ f. IsFound made words f) some is) in
      record {
        value = said read only.value taken;
        only = λ c other. only.only c (subst (λ rows. IsIn rows c) (other.taken.1 ∙ sym taken.1) other.said);
      }
    where
      said : (read : Option ClientCommand) → IfSome read (IsIn (rows_of (found_of m))) → IsFound app words (Some m) → IfSome read (IsTakenBy app IsIn words)
      said None is taken = tt
      said (Some c) is taken = record { rows = rows_of (found_of m); taken = taken; said = is }

  pub taken_none : (made : App) (found : Option ArgMatches) → made ≡ app → IsFound made words found → found ≡ None → IsOnly (IsTakenBy app IsIn words) None
  taken_none made found same is none =
      let no = subst (λ (a : App). IsFound a words None) same (subst (λ f. IsFound made words f) none is) in
      record { value = tt; only = λ c other. absurd (no other.taken.0) }

-- ---- names

pub first_named : {A : Type 0} (view : A → Text) (words : List A) (first : A) (text name : Text) (b : Bool) → slice_get words 0 ≡ Some first
    → text ≡ view first → b ≡ bytes_eq text name → IsTrue b ↔ IsNamed name (map view words)
first_named view words first text name b at is same =
    let named : slice_get (map view words) 0 ≡ Some text = slice_get-map view words 0 ∙ ap (option_map view) at ∙ ap Some (sym is) in (
      (λ yes. named ∙ ap Some ((bytes_eq-Decides text name).0 (sym same ∙ yes))),
      (λ first_is. same ∙ (bytes_eq-Decides text name).1 (some_same text name (sym named ∙ first_is))),
    )
  where
    some_same : (x y : Text) → Some x ≡ Some y → x ≡ y
    some_same x y h = cc

two_names : {A : Type 0} (words : List Text) (a b : Text) → IsNamed a words → IsNamed b words → (a ≡ b → ⊥) → A
two_names words a b h k differ = absurd (differ (cc (sym h ∙ k)))

module _ (words : List Text) where
  pub named_map : (read : Option ClientCommand) → IsNamed (codes "map") words → IsOnly (IsTakenBy map_app IsMapIn words) read → IsOnly (IsCommand words) read
  named_map read named only = record { value = said read only.value; only = one }
    where
      said : (read : Option ClientCommand) → IfSome read (IsTakenBy map_app IsMapIn words) → IfSome read (IsCommand words)
      said None is = tt
      said (Some (Map t w)) is = (named, is)
      said (Some (Peer t w)) is = absurd is.said
      said (Some (Announce t)) is = absurd is.said

      one : (c : ClientCommand) → IsCommand words c → read ≡ Some c
      one (Map t w) is = only.only (Map t w) is.1
      one (Peer t w) is = two_names words (codes "map") (codes "peer") named is.0 (λ e. absurd (cc))
      one (Announce t) is = two_names words (codes "map") (codes "announce") named is.0 (λ e. absurd (cc))

  pub named_peer : (read : Option ClientCommand) → IsNamed (codes "peer") words → IsOnly (IsTakenBy peer_app IsPeerIn words) read → IsOnly (IsCommand words) read
  named_peer read named only = record { value = said read only.value; only = one }
    where
      said : (read : Option ClientCommand) → IfSome read (IsTakenBy peer_app IsPeerIn words) → IfSome read (IsCommand words)
      said None is = tt
      said (Some (Map t w)) is = absurd is.said
      said (Some (Peer t w)) is = (named, is)
      said (Some (Announce t)) is = absurd is.said

      one : (c : ClientCommand) → IsCommand words c → read ≡ Some c
      one (Map t w) is = two_names words (codes "peer") (codes "map") named is.0 (λ e. absurd (cc))
      one (Peer t w) is = only.only (Peer t w) is.1
      one (Announce t) is = two_names words (codes "peer") (codes "announce") named is.0 (λ e. absurd (cc))

  pub named_announce : (read : Option ClientCommand) → IsNamed (codes "announce") words → IsOnly (IsTakenBy announce_app IsAnnounceIn words) read
      → IsOnly (IsCommand words) read
  named_announce read named only = record { value = said read only.value; only = one }
    where
      said : (read : Option ClientCommand) → IfSome read (IsTakenBy announce_app IsAnnounceIn words) → IfSome read (IsCommand words)
      said None is = tt
      said (Some (Map t w)) is = absurd is.said
      said (Some (Peer t w)) is = absurd is.said
      said (Some (Announce t)) is = (named, is)

      one : (c : ClientCommand) → IsCommand words c → read ≡ Some c
      one (Map t w) is = two_names words (codes "announce") (codes "map") named is.0 (λ e. absurd (cc))
      one (Peer t w) is = two_names words (codes "announce") (codes "peer") named is.0 (λ e. absurd (cc))
      one (Announce t) is = only.only (Announce t) is.1

  pub not_named : ¬ (IsNamed (codes "map") words) → ¬ (IsNamed (codes "peer") words) → ¬ (IsNamed (codes "announce") words) → IsOnly (IsCommand words) None
  not_named m p a = record { value = tt; only = one }
    where
      one : (c : ClientCommand) → IsCommand words c → None ≡ Some c
      one (Map t w) is = absurd (m is.0)
      one (Peer t w) is = absurd (p is.0)
      one (Announce t) is = absurd (a is.0)
