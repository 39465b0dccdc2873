use Rattle.std.proofs.Common.{◌≡◌, ◌∷◌, [], List, ℕ, get_or, refl, sym, ◌∙◌, ap, rules}
use Rattle.std.specs.Int.{from_be_bytes, w64}
use Rattle.std.proofs.lemmas.Nat.{from_be_bytes-to_be_bytes_8}
use Rattle.journal_sides.specs.declared.formats.Format.{Format}
use Rattle.journal_sides.specs.Formats.{format_octet}
use Rattle.journal_sides.specs.Sides.{head_text}
use Rattle.journal_sides.proofs.UniqueLaws.{same_format}
use Rattle.journal_sides.proofs.heads.read_head.Goals as goal

pub returns-then-not-is_same-clause-none : goal.returns-then-not-is_same-clause-none
returns-then-not-is_same-clause-none c = λ k h is.
    let five : format_octet c.in_ok-format.format ≡ format_octet k = c.in_ok-format.ensures.some ∙ ap (λ (l : List ℕ). get_or l 5 0) is.text in
    let same : k ≡ c.in_ok-format.format = same_format k c.in_ok-format.format (sym five) in
    let number : c.from_be_bytes-generation.result ≡ h =
    c.from_be_bytes-generation.ensures
    ∙ ap (λ (l : List ℕ). from_be_bytes w64 (get_or l 6 0 ∷ get_or l 7 0 ∷ get_or l 8 0 ∷ get_or l 9 0 ∷ get_or l 10 0 ∷ get_or l 11 0 ∷ get_or l 12 0 ∷ get_or l 13 0 ∷ [])) is.text
    ∙ from_be_bytes-to_be_bytes_8 h is.width in
    let whole : c.head_of.result ≡ c.args.head.now =
    c.head_of.ensures ∙ ap (λ (n : ℕ). head_text c.in_ok-format.format n) number ∙ ap (λ (f : Format). head_text f h) (sym same) ∙ sym is.text in
    let equal = c.if-not-is_same.ensures.1 whole in
    absurd (cc equal)

pub returns-clause-found : goal.returns-clause-found
returns-clause-found c =
    record {
      width = search rules;
      next = c.if-not-has_next.ensures.0 refl;
      of_side = search rules;
      text = sym (c.if-not-is_same.ensures.0 refl) ∙ c.head_of.ensures;
    }
