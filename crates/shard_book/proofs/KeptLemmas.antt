-- Records that are kept by their texts, up to a place and from there on.
use Rattle.std.proofs.Common.{◌≡◌, ℕ, ◌≤◌, List, [], ◌++◌, length, take, drop, sym, ◌∙◌, ap, subst, arith, length-append, length-take, take-append-drop}
use Rattle.std.proofs.lemmas.List.{append-nil, take_all, take-append-le, drop-append-le, drop_all}
use Rattle.pcp_base.specs.declared.records.Record.{Record}
use Rattle.journal_sides.specs.Frames.{records_text}
use Rattle.journal_sides.specs.Texts.{AreTexts, records_in}
use Rattle.shard_book.specs.KeptTexts.{AreKeptAt, KeptRecords}
use Rattle.journal_sides.proofs.RecordTextLaws.{no_texts, same_texts, texts_again, texts_append, texts_in}

-- as contracts see them
abbrev pub shown : List ℕ → ℕ → KeptRecords
shown octets place = record {
  sure = records_in (take place octets);
  added = records_in (drop place octets);
}

pub record Shows (octets : List ℕ) (place : ℕ) (kept : KeptRecords) : Type 0 where
  pub stands : AreKeptAt octets place
  pub view : shown octets place ≡ kept

pub shows : (octets : List ℕ) (place : ℕ) (sure added : List Record) → place ≤ length octets → AreTexts (take place octets) sure → AreTexts (drop place octets) added → Shows octets place (record { sure = sure; added = added })
shows octets place sure added within first second = record {
  stands = record { within = within; sure = texts_again (take place octets) sure first; added = texts_again (drop place octets) added second };
  view = ap (λ (rs : List Record). record { sure = rs; added = records_in (drop place octets) }) (texts_in (take place octets) sure first)
      ∙ ap (λ (rs : List Record). record { sure = sure; added = rs }) (texts_in (drop place octets) added second);
}

pub shows_whole : (octets : List ℕ) (place : ℕ) (rs : List Record) → AreTexts octets rs → place ≡ length octets → Shows octets place (record { sure = rs; added = [] })
shows_whole octets place rs is whole =
    shows octets place rs [] (omega (arith, whole)) (subst (λ (l : List ℕ). AreTexts l rs) (sym (take_all place octets (omega (arith, whole)))) is) (subst (λ (l : List ℕ). AreTexts l []) (sym (drop_all place octets (omega (arith, whole)))) no_texts)

module _ (octets : List ℕ) (place : ℕ) (kept : AreKeptAt octets place) where
  pub shows_more : (more : List ℕ) (rs : List Record) → AreTexts more rs → Shows (octets ++ more) place (record { sure = (shown octets place).sure; added = (shown octets place).added ++ rs })
  shows_more more rs is =
      shows (octets ++ more) place _ _ (omega (arith, kept.within, length-append octets more))
      (subst (λ (l : List ℕ). AreTexts l (records_in (take place octets))) (sym (take-append-le place octets more kept.within)) kept.sure)
      (subst (λ (l : List ℕ). AreTexts l (records_in (drop place octets) ++ rs)) (sym (drop-append-le place octets more kept.within)) (texts_append (drop place octets) more _ rs kept.added is))

  pub shows_all : (end : ℕ) → end ≡ length octets → Shows octets end (record { sure = (shown octets place).sure ++ (shown octets place).added; added = [] })
  shows_all end whole =
      shows_whole octets end _ (subst (λ (l : List ℕ). AreTexts l (records_in (take place octets) ++ records_in (drop place octets))) (take-append-drop place octets) (texts_append (take place octets) (drop place octets) _ _ kept.sure kept.added)) whole

  pub shows_less : Shows (take place octets) place (record { sure = (shown octets place).sure; added = [] })
  shows_less =
      shows_whole (take place octets) place _ kept.sure (omega (arith, length-take place octets, kept.within))

-- where nothing was added, the octets tell what is kept
pub whole_texts : (octets : List ℕ) (place : ℕ) → AreKeptAt octets place → records_in (drop place octets) ≡ [] → octets ≡ take place octets
whole_texts octets place kept none =
    let empty : drop place octets ≡ [] = kept.added.text ∙ ap records_text none in
    sym (take-append-drop place octets) ∙ ap (λ (l : List ℕ). take place octets ++ l) empty ∙ append-nil (take place octets)

pub kept_same : (a b : List ℕ) (i j : ℕ) → AreKeptAt a i → AreKeptAt b j → records_in (drop i a) ≡ [] → records_in (drop j b) ≡ [] → records_in (take i a) ≡ records_in (take j b) → a ≡ b
kept_same a b i j one two none_a none_b same =
    whole_texts a i one none_a ∙ same_texts (take i a) (take j b) one.sure two.sure same ∙ sym (whole_texts b j two none_b)

pub same_kept : (a b : List ℕ) (i j : ℕ) → AreKeptAt a i → AreKeptAt b j → records_in (drop i a) ≡ [] → records_in (drop j b) ≡ [] → a ≡ b → records_in (take i a) ≡ records_in (take j b)
same_kept a b i j one two none_a none_b same =
    ap records_in (sym (whole_texts a i one none_a) ∙ same ∙ whole_texts b j two none_b)
