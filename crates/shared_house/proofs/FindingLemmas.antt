-- What the opening of a house found.
use Rattle.std.specs.Prelude.{replicate}
use Rattle.std.proofs.Common.{◌≡◌, ◌∙◌, ℕ, ◌+◌, ◌<◌, ◌≤◌, List, ◌∷◌, ◌++◌, drop, get_or, length, ap}
use Rattle.std.proofs.Common.{sym, append_assoc}
use Rattle.std.proofs.Math.ListN.{drop_of_length-le}
use Rattle.std.proofs.lemmas.List.{append-nil, drop_more}
use Rattle.shard_book.specs.Books.{BookView}
use Rattle.lease_house.specs.SoloOpenings.{book_updates}
use Rattle.shared_house.specs.Findings.{update_places}

module _ {D : Type 0} (base : ℕ) where
  -- one book more
  pub places-on : (books : List (BookView D)) (i place n : ℕ) (b : BookView D)
      (shards new whole : List ℕ) → i < length books → b ≡ get_or books i b →
      n ≡ length (book_updates base b) → new ≡ shards ++ replicate n place →
      shards ++ update_places base place (drop i books) ≡ whole →
      new ++ update_places base (place + 1) (drop (i + 1) books) ≡ whole
  places-on books i place n b shards new whole within is count added so_far =
      let rest : List ℕ = update_places base (place + 1) (drop (i + 1) books) in
      let next : drop i books ≡ b ∷ drop (i + 1) books = drop_more books i b within
      ∙ ap (λ (x : BookView D). x ∷ drop (i + 1) books) (sym is) in
      ap (λ (l : List ℕ). l ++ rest) added ∙ append_assoc shards (replicate n place) rest
      ∙ ap (λ (k : ℕ). shards ++ (replicate k place ++ rest)) count
      ∙ ap (λ (bs : List (BookView D)). shards ++ update_places base place bs) (sym next) ∙ so_far

  pub places-end : (books : List (BookView D)) (i place : ℕ) (shards whole : List ℕ) →
      length books ≤ i → shards ++ update_places base place (drop i books) ≡ whole → shards ≡ whole
  places-end books i place shards whole past so_far =
      sym (append-nil shards)
      ∙ ap (λ (bs : List (BookView D)). shards ++ update_places base place bs)
      (sym (drop_of_length-le books past)) ∙ so_far
