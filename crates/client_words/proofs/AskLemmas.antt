-- What the words ask for, and that alone.
use Rattle.std.proofs.Common.{◌≡◌, ◌≤◌, true, false, List, [], ◌∷◌, map, length, get_or, Option, Some, None, refl, sym, subst, ap, ◌∙◌, codes}
use Rattle.std.specs.Prelude.{Bool, ◌&&◌, ◌||◌, not, is_some, if◌then◌else◌}
use Rattle.std.specs.List.{list_any}
use Rattle.clap.specs.Words.{Text}
use Rattle.clap.proofs.WalkLemmas.{both}
use Rattle.client_commands.specs.Commands.{IsCommand, IsOnly}
use Rattle.client_commands.specs.declared.commands.ClientCommand.{ClientCommand}
use Rattle.client_commands.specs.declared.commands.ClientCommand.TheVariants.{Map, Peer, Announce}
use Rattle.client_words.specs.declared.asks.ClientAsk.{ClientAsk}
use Rattle.client_words.specs.declared.keeps.KeepAsk.{KeepAsk}
use Rattle.client_words.specs.declared.more.More.{More}
use Rattle.client_words.specs.Asks.{IsAsk, IsAskAs, IsKeep, ask_with, begins, fits, keep_with}
use Rattle.client_words.specs.Mores.{IsMore}
use Rattle.client_words.specs.Splits.{plain_in}
use Rattle.client_words.proofs.FilterLemmas.{none_is, the_one}
use Rattle.client_words.proofs.ListLemmas.{rest_of, shape_by}

abbrev may : Bool → ClientCommand → More → Bool
may deletes command more = fits command more && (not deletes || is_some more.nonce)

module _ (verb : Text) (rest : List Text) (filed : Option Text) (deletes : Bool) where
  may_so : (k : ClientAsk) → IsAskAs verb rest filed deletes k → may deletes k.command k.more ≡ true
  may_so k is =
      let named : (not deletes || is_some k.more.nonce) ≡ true = subst (λ d. (not d || is_some k.more.nonce) ≡ true) is.deletes_is is.named in
      rw (is.fit, named) refl

  pub ask_only : (c : Option ClientCommand) (m : Option More) → IsOnly (IsCommand (verb ∷ plain_in rest)) c → IsOnly (IsMore rest filed) m
      → IsOnly (IsAskAs verb rest filed deletes) (ask_with deletes c m)
  ask_only None m hc hm = record { value = tt; only = λ k is. none_is k.command hc is.command }
  ask_only (Some c) None hc hm = record { value = tt; only = λ k is. none_is k.more hm is.more }
  ask_only (Some c) (Some m) hc hm = either (may deletes c m) refl
    where
      found : ClientAsk
      found = record { command = c; deletes = deletes; more = m }

      same : (k : ClientAsk) → IsAskAs verb rest filed deletes k → found ≡ k
      same k is = rw (the_one c k.command hc is.command, the_one m k.more hm is.more, sym is.deletes_is) refl

      either : (b : Bool) → may deletes c m ≡ b → IsOnly (IsAskAs verb rest filed deletes) (if b then Some found else None)
      either true may_be = record {
        value = record {
          command = hc.value;
          deletes_is = refl;
          more = hm.value;
          fit = (both _ _ may_be).0;
          named = (both _ _ may_be).1;
        };
        only = λ k is. ap Some (same k is);
      }
      either false never = record {
        value = tt;
        only = λ k is. absurd (cc (sym never ∙ ap (λ (a : ClientAsk). may deletes a.command a.more) (same k is) ∙ may_so k is));
      }

pub no_words : (filed : Option Text) → IsOnly (IsAsk [] filed) None
no_words filed = record { value = tt; only = λ k is. absurd (nameless k.command is.command) }
  where
    nameless : (c : ClientCommand) → IsCommand ([] ∷ []) c → ⊥
    nameless (Map t w) h = cc h.0
    nameless (Peer t w) h = cc h.0
    nameless (Announce t) h = cc h.0

-- ---- keep

module _ (name : Text) (rest : List Text) (filed : Option Text) where
  pub keep_only : (c : Option ClientCommand) (m : Option More) → name ≡ codes "keep" → list_any (begins (codes "--tries")) rest ≡ false
      → IsOnly (IsCommand (codes "map" ∷ plain_in rest)) c → IsOnly (IsMore rest filed) m → IsOnly (IsKeep (name ∷ rest) filed) (keep_with c m)
  keep_only None m named free hc hm = record { value = tt; only = λ k is. none_is (Map k.target k.wanted) hc is.command }
  keep_only (Some (Peer t w)) m named free hc hm = record { value = tt; only = λ k is. absurd (cc (the_one (Peer t w) (Map k.target k.wanted) hc is.command)) }
  keep_only (Some (Announce t)) m named free hc hm = record { value = tt; only = λ k is. absurd (cc (the_one (Announce t) (Map k.target k.wanted) hc is.command)) }
  keep_only (Some (Map t w)) None named free hc hm = record { value = tt; only = λ k is. none_is k.more hm is.more }
  keep_only (Some (Map t w)) (Some m) named free hc hm = record {
    value = record { named = ap Some named; command = hc.value; more = hm.value; tries = free };
    only = λ k is.
        let command : Map t w ≡ Map k.target k.wanted = the_one (Map t w) (Map k.target k.wanted) hc is.command in
        let target : t ≡ k.target = cc in
        let wanted : w ≡ k.wanted = cc in
        rw (target, wanted, the_one m k.more hm is.more) refl;
  }

  pub other_name : (name ≡ codes "keep" → ⊥) → IsOnly (IsKeep (name ∷ rest) filed) None
  other_name other = record { value = tt; only = λ k is. absurd (other (let same : Some name ≡ Some (codes "keep") = is.named in cc)) }

  pub has_tries : list_any (begins (codes "--tries")) rest ≡ true → IsOnly (IsKeep (name ∷ rest) filed) None
  has_tries has = record { value = tt; only = λ k is. absurd (cc (sym has ∙ is.tries)) }

pub no_keep : (filed : Option Text) → IsOnly (IsKeep [] filed) None
no_keep filed = record { value = tt; only = λ k is. absurd (let none : None ≡ Some (codes "keep") = is.named in cc) }

pub keep_by : {A : Type 0} (f : A → Text) (xs : List A) (x : A) (filed : Option Text) (c : Option ClientCommand) (m : Option More) (found : Option KeepAsk)
    → 1 ≤ length xs → x ≡ get_or xs 0 x → f x ≡ codes "keep" → list_any (begins (codes "--tries")) (map f (rest_of xs)) ≡ false
    → IsOnly (IsCommand (codes "map" ∷ plain_in (map f (rest_of xs)))) c → IsOnly (IsMore (map f (rest_of xs)) filed) m → found ≡ keep_with c m
    → IsOnly (IsKeep (map f xs) filed) found
keep_by f xs x filed c m found some first named free hc hm is =
    rw (is, shape_by f xs x (f x) some (ap f first)) (keep_only (f x) (map f (rest_of xs)) filed c m named free hc hm)
