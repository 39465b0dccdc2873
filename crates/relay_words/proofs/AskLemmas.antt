-- What the words say, and that alone.
use Rattle.std.proofs.Common.{◌≡◌, ◌≤◌, true, false, List, [], ◌∷◌, ◌++◌, map, drop, length, get_or, Option, Some, None, refl, sym, subst, ap, ◌∙◌, arith, codes}
use Rattle.std.specs.Prelude.{Bool, option_map, if◌then◌else◌}
use Rattle.clap.specs.Words.{Text}
use Rattle.pcp_base.specs.declared.addresses.Prefix.{Prefix}
use Rattle.client_commands.specs.Commands.{IsOnly}
use Rattle.proxy_commands.specs.Commands.{IsCascadeCommand, IsCommand}
use Rattle.proxy_commands.specs.declared.commands.CascadeCommand.{CascadeCommand}
use Rattle.proxy_commands.specs.declared.commands.ProxyCommand.{ProxyCommand}
use Rattle.relay_words.specs.declared.asks.CascadeAsk.{CascadeAsk}
use Rattle.relay_words.specs.declared.asks.ProxyAsk.{ProxyAsk}
use Rattle.relay_words.specs.declared.more.RelayMore.{RelayMore}
use Rattle.relay_words.specs.Mores.{IsMore}
use Rattle.relay_words.specs.Relaying.{IsCascade, IsProxy, IsRelay, cascade_with, has_none, older_in, proxy_with}
use Rattle.relay_words.specs.Keys.{IsKeyed, key_words}
use Rattle.relay_words.specs.Splits.{plain_in, values_in}
use Rattle.relay_words.proofs.ListLemmas.{rest_of, shape_by}
use Rattle.relay_words.proofs.TextLemmas.{none_is, the_one}

module _ {C : Type 0} (IsSaid : List Text → C → Type 0) (words : List Text) (filed : Option Text) where
  -- the command of the older words
  said_of : (older : List Text) (c : C) (m : RelayMore) → older_in words filed ≡ Some older → IsRelay IsSaid words filed c m → IsSaid older c
  said_of older c m here is =
      let same : Some is.older ≡ Some older = sym is.older_is ∙ here in
      let one : is.older ≡ older = cc in
      subst (λ (ws : List Text). IsSaid ws c) one is.said

  unsaid : {A : Type 0} (c : C) (m : RelayMore) → older_in words filed ≡ None → IsRelay IsSaid words filed c m → A
  unsaid c m none is = absurd (cc (sym none ∙ is.older_is))

module _ (words : List Text) (filed : Option Text) where
  pub no_proxy : older_in words filed ≡ None → IsOnly (IsProxy words filed) None
  no_proxy none = record { value = tt; only = λ k is. unsaid IsCommand words filed k.command k.more none is }

  pub no_cascade : older_in words filed ≡ None → IsOnly (IsCascade words filed) None
  no_cascade none = record { value = tt; only = λ k is. unsaid IsCascadeCommand words filed k.command k.more none is.0 }

  pub proxy_only : (older : List Text) (c : Option ProxyCommand) (m : Option RelayMore) → older_in words filed ≡ Some older
      → IsOnly (IsCommand older) c → IsOnly (IsMore (drop 1 words)) m → IsOnly (IsProxy words filed) (proxy_with c m)
  proxy_only older None m here hc hm = record { value = tt; only = λ k is. none_is k.command hc (said_of IsCommand words filed older k.command k.more here is) }
  proxy_only older (Some c) None here hc hm = record { value = tt; only = λ k is. none_is k.more hm is.more_is }
  proxy_only older (Some c) (Some m) here hc hm = record {
    value = record { older = older; older_is = here; said = hc.value; more_is = hm.value };
    only = λ k is. rw (the_one c k.command hc (said_of IsCommand words filed older k.command k.more here is), the_one m k.more hm is.more_is) refl;
  }

  pub cascade_only : (older : List Text) (c : Option CascadeCommand) (m : Option RelayMore) → older_in words filed ≡ Some older
      → IsOnly (IsCascadeCommand older) c → IsOnly (IsMore (drop 1 words)) m → IsOnly (IsCascade words filed) (cascade_with c m)
  cascade_only older None m here hc hm = record { value = tt; only = λ k is. none_is k.command hc (said_of IsCascadeCommand words filed older k.command k.more here is.0) }
  cascade_only older (Some c) None here hc hm = record { value = tt; only = λ k is. none_is k.more hm is.0.more_is }
  cascade_only older (Some c) (Some m) here hc hm = either m.third_party refl
    where
      found : CascadeAsk
      found = record { command = c; more = m }

      same : (k : CascadeAsk) → IsCascade words filed k → found ≡ k
      same k is = rw (the_one c k.command hc (said_of IsCascadeCommand words filed older k.command k.more here is.0), the_one m k.more hm is.0.more_is) refl

      either : (prefixes : List Prefix) → m.third_party ≡ prefixes → IsOnly (IsCascade words filed) (if has_none prefixes then Some found else None)
      either [] none = record {
        value = (record { older = older; older_is = here; said = hc.value; more_is = hm.value }, none);
        only = λ k is. ap Some (same k is);
      }
      either (p ∷ ps) some = record {
        value = tt;
        only = λ k is. absurd (cc (sym some ∙ ap (λ (a : CascadeAsk). a.more.third_party) (same k is) ∙ is.1));
      }

  pub proxy_by : {A : Type 0} (f : A → List Text) (o : Option A) (a : A) (c : Option ProxyCommand) (m : Option RelayMore) (found : Option ProxyAsk) → o ≡ Some a
      → option_map f o ≡ older_in words filed → IsOnly (IsCommand (f a)) c → IsOnly (IsMore (drop 1 words)) m → found ≡ proxy_with c m
      → IsOnly (IsProxy words filed) found
  proxy_by f o a c m found some is hc hm made = rw made (proxy_only (f a) c m (sym is ∙ ap (option_map f) some) hc hm)

  pub cascade_by : {A : Type 0} (f : A → List Text) (o : Option A) (a : A) (c : Option CascadeCommand) (m : Option RelayMore) (found : Option CascadeAsk) → o ≡ Some a
      → option_map f o ≡ older_in words filed → IsOnly (IsCascadeCommand (f a)) c → IsOnly (IsMore (drop 1 words)) m → found ≡ cascade_with c m
      → IsOnly (IsCascade words filed) found
  cascade_by f o a c m found some is hc hm made = rw made (cascade_only (f a) c m (sym is ∙ ap (option_map f) some) hc hm)

-- ---- the words of the older command

module _ {A : Type 0} (f : A → Text) (xs : List A) (filed : Option Text) where
  abbrev pub files : List Text
  files = values_in (codes "--key-file") (map f (rest_of xs))

  pub older_none : length xs ≡ 0 → None ≡ older_in (map f xs) filed
  older_none none = by xs none
    where
      by : (ys : List A) → length ys ≡ 0 → None ≡ older_in (map f ys) filed
      by [] none = refl
      by (y ∷ ys) none = absurd (omega (arith, none))

  module _ (d : A) (name : Text) (some : 1 ≤ length xs) (first : name ≡ f (get_or xs 0 d)) where
    older_first : older_in (map f xs) filed ≡ option_map (λ keys. name ∷ keys ++ plain_in false (map f (rest_of xs))) (key_words files filed)
    older_first = ap (λ (ws : List Text). older_in ws filed) (shape_by f xs d name some first)

    pub older_unkeyed : (old new : List Text) (there : Bool) → there ≡ false → IsKeyed (key_words files filed) old new there → None ≡ older_in (map f xs) filed
    older_unkeyed old new there unless is = by (key_words files filed) refl is ∙ sym older_first
      where
        by : (keys : Option (List Text)) → key_words files filed ≡ keys → IsKeyed keys old new there
            → None ≡ option_map (λ keys. name ∷ keys ++ plain_in false (map f (rest_of xs))) (key_words files filed)
        by None same is = rw same refl
        by (Some keys) same is = absurd (cc (sym unless ∙ is.0))

    pub older_keyed : (old new all : List Text) (there : Bool) → there ≡ true → old ≡ name ∷ [] → IsKeyed (key_words files filed) old new there
        → all ≡ new ++ plain_in false (map f (rest_of xs)) → Some all ≡ older_in (map f xs) filed
    older_keyed old new all there has one is behind = by (key_words files filed) refl is ∙ sym older_first
      where
        by : (keys : Option (List Text)) → key_words files filed ≡ keys → IsKeyed keys old new there
            → Some all ≡ option_map (λ keys. name ∷ keys ++ plain_in false (map f (rest_of xs))) (key_words files filed)
        by None same is = absurd (cc (sym has ∙ is))
        by (Some keys) same is = rw (same, behind, is.1, one) refl
