use Rattle.std.proofs.Common.{◌≡◌, ℕ, slice_index_or, replicate, inl, inr, arith}
use Rattle.std.proofs.lemmas.Bool.{cases_lt}
use Rattle.std.proofs.lemmas.List.{get_or_past, get_or-replicate, length-replicate}
use Rattle.port_runs.proofs.WordFlags.{clear_words}
use Rattle.port_runs.proofs.words.cleared.Goals as goal

all_alike : (n i d : ℕ) → slice_index_or (replicate n d) i d ≡ d
all_alike n i d = elim (cases_lt i n) [
  | inl within ↦ get_or-replicate n i d d within
  | inr past ↦ get_or_past (replicate n d) i d (omega (arith, length-replicate n d))
]

pub returns-clause-clear : goal.returns-clause-clear
returns-clause-clear c =
    rw (c.in_ok-words.ensures.items_if_clones_equal (λ y h. h)) (clear_words (replicate c.args.count 0) (λ i. all_alike c.args.count i 0))
