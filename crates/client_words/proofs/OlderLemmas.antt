-- Words of an older command go on saying what they said.
use Rattle.std.proofs.Common.{◌≡◌, true, false, List, [], ◌∷◌, None, refl, sym, subst, ap, arith, codes}
use Rattle.std.specs.Prelude.{Bool, ◌||◌}
use Rattle.std.specs.List.{list_any}
use Rattle.clap.specs.Words.{Text}
use Rattle.client_commands.specs.Commands.{IsCommand}
use Rattle.client_commands.specs.declared.commands.ClientCommand.{ClientCommand}
use Rattle.client_commands.specs.declared.commands.ClientCommand.TheVariants.{Map, Peer, Announce}
use Rattle.client_words.specs.Asks.{fits}
use Rattle.client_words.specs.Mores.{IsMore}
use Rattle.client_words.specs.OlderWords.{OlderWordsStay, nothing_more}
use Rattle.client_words.specs.Splits.{is_more, plain_in, values_in}

neither : (a b : Bool) → (a || b) ≡ false → (a ≡ false) × (b ≡ false)
neither true b h = absurd cc
neither false b h = (refl, h)

plain_same : (rest : List Text) → list_any is_more rest ≡ false → plain_in rest ≡ rest
plain_same [] none = refl
plain_same (word ∷ []) none = refl
plain_same (word ∷ value ∷ rest) none =
    let parts = neither (is_more word) (list_any is_more (value ∷ rest)) none in
    rw parts.0 (ap (λ (words : List Text). word ∷ words) (plain_same (value ∷ rest) parts.1))

no_values : (name : Text) (rest : List Text) → list_any is_more rest ≡ false → values_in name rest ≡ []
no_values name [] none = refl
no_values name (word ∷ []) none = refl
no_values name (word ∷ value ∷ rest) none =
    let parts = neither (is_more word) (list_any is_more (value ∷ rest)) none in
    rw parts.0 (no_values name (value ∷ rest) parts.1)

nothing_fits : (command : ClientCommand) → fits command nothing_more ≡ true
nothing_fits (Map target wanted) = refl
nothing_fits (Peer target wanted) = refl
nothing_fits (Announce target) = refl

says_nothing : (rest : List Text) → list_any is_more rest ≡ false → IsMore rest None nothing_more
says_nothing rest none = record {
  nonce = rw (no_values (codes "--nonce") rest none, no_values (codes "--nonce-file") rest none) refl;
  third = rw (no_values (codes "--third-party") rest none) refl;
  once = rw (no_values (codes "--third-party") rest none) (omega arith);
  filters = rw (no_values (codes "--filter") rest none) tt;
  few = rw (no_values (codes "--filter") rest none) (omega arith);
}

pub older_words : OlderWordsStay
older_words name rest command none other is = record {
  command = rw (other, plain_same rest none) is;
  deletes_is = sym other;
  more = says_nothing rest none;
  fit = nothing_fits command;
  named = refl;
}
