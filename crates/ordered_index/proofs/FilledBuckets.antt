-- The buckets that places fall on are those that are marked.
use Rattle.std.proofs.Common.{◌≡◌, ℕ, ◌==◌, Bool, false, not, List, length, sym, ap, ◌∙◌}
use Rattle.std.specs.Prelude.{slice_index}
use Rattle.ordered_index.specs.Marks.{is_marked}
use Rattle.ordered_index.specs.Sieves.{AreFilled, no_places}
use Rattle.ordered_index.proofs.PlaceCounts.{no_places-all, no_places-none}

abbrev is_filled : ℕ → Bool
is_filled count = not (count == 0)

pub none_filled : (counts marks : List ℕ) → counts ≡ no_places → ((b : ℕ) → is_marked marks b ≡ false) → AreFilled counts marks
none_filled counts marks counts_are blank = record {
  all = ap length counts_are ∙ no_places-all;
  tells = λ b _. blank b ∙ sym (ap (λ (xs : List ℕ). is_filled (slice_index xs b)) counts_are ∙ ap is_filled (no_places-none b));
}
