-- The words of requests.
use Rattle.std.proofs.Common.{◌≡◌, ℕ, ◌+◌, ◌<◌, ◌≤◌, List, [], ◌∷◌, ◌++◌, length, get_or, Option, Some, refl, sym, subst, ◌∙◌, inl, inr, arith, append-nil, length-append, lt-ltb}
use Rattle.std.specs.Prelude.{min}
use Rattle.std.proofs.lemmas.Bool.{le-ltb}
use Rattle.std.proofs.Math.ListN.{get_or-append}
use Rattle.std.proofs.Math.Seq.{get_or-append_seam}
use Rattle.random_words.specs.RandomWords.{RandomWords}
use Rattle.client_runs.specs.declared.tries.Tries.{Tries}
use Rattle.client_runs.specs.Links.{WordsCame}
use Rattle.client_runs.specs.Runs.{word_for}
use Rattle.client_runs.specs.Ticks.{DrawsWord, GivesWord, HasDrawn, HasNoWord, IsKept, KeepsWord}

-- the word for the n-th request, and what was drawn for it
pub record Draws (limit : ℕ) (words : List ℕ) (n : ℕ) (new : Tries) (before now : Option RandomWords) (word : ℕ) : Type 0 where
  pub more : List ℕ
  pub few : length more ≤ 1
  pub came : WordsCame before more now
  pub has : HasDrawn limit (words ++ more) n new
  pub count : length (words ++ more) ≡ min limit (n + 1)
  pub is : (rest : List ℕ) → word_for limit ((words ++ more) ++ rest) n ≡ word
  -- after the last try none is drawn
  pub none : limit ≤ n → more ≡ []

word-below : (limit : ℕ) (ws : List ℕ) (n : ℕ) → n < limit → word_for limit ws n ≡ get_or ws n 0
word-below limit ws n h = rw (lt-ltb n limit h) refl

word-behind : (limit : ℕ) (ws : List ℕ) (n : ℕ) → limit ≤ n → word_for limit ws n ≡ 0
word-behind limit ws n h = rw (le-ltb n limit h) refl

keeps : (limit : ℕ) (words : List ℕ) (n : ℕ) (old new : Tries) (before now : Option RandomWords) (word : ℕ) → HasDrawn limit words n old → KeepsWord old new before now word → Draws limit words n new before now word
keeps limit words n old new before now word h k =
    let kept : IsKept (Some word) limit words n = subst (λ (w : Option ℕ). IsKept w limit words n) k.kept h.kept in
    let nil = append-nil words in
    record {
      more = [];
      few = omega arith;
      came = k.same.1;
      has = rw (k.same.0, nil) h;
      count = rw nil (kept.0 ∙ omega (arith, kept.1));
      is = λ rest. rw nil (word-below limit (words ++ rest) n kept.1 ∙ get_or-append words rest 0 n (omega (arith, kept.0)) ∙ kept.2);
      none = λ _. refl;
    }

has_none : (limit : ℕ) (words : List ℕ) (n : ℕ) (old new : Tries) (before now : Option RandomWords) (word : ℕ) → HasDrawn limit words n old → HasNoWord old new before now word → Draws limit words n new before now word
has_none limit words n old new before now word h k =
    let kept : length words ≡ n = subst (λ (w : Option ℕ). IsKept w limit words n) k.none h.kept in
    let nil = append-nil words in
    let spent : limit ≤ n = omega (arith, k.spent, h.limit_is, h.given_is) in
    record {
      more = [];
      few = omega arith;
      came = k.same.1;
      has = rw (k.same.0, nil) h;
      count = rw nil (kept ∙ omega (arith, spent, h.most));
      is = λ rest. rw nil (word-behind limit (words ++ rest) n spent ∙ sym k.zero);
      none = λ _. refl;
    }

draws : (limit : ℕ) (words : List ℕ) (n : ℕ) (old new : Tries) (before now : Option RandomWords) (word : ℕ) → HasDrawn limit words n old → DrawsWord old new before now word → Draws limit words n new before now word
draws limit words n old new before now word h k =
    let kept : length words ≡ n = subst (λ (w : Option ℕ). IsKept w limit words n) k.none h.kept in
    let more : n < limit = omega (arith, k.more, h.limit_is, h.given_is) in
    let long : length (words ++ word ∷ []) ≡ n + 1 = length-append words (word ∷ []) ∙ omega (arith, kept) in
    let at_end : get_or (words ++ word ∷ []) n 0 ≡ word =
    subst (λ i. get_or (words ++ word ∷ []) i 0 ≡ word) kept (get_or-append_seam words word [] 0) in
    record {
      more = word ∷ [];
      few = omega arith;
      came = (now, k.next, refl);
      has = rw k.kept (record {
        limit_is = h.limit_is;
        given_is = h.given_is;
        most = h.most;
        kept = (long, more, at_end);
      });
      count = long ∙ omega (arith, more);
      is = λ rest.
          word-below limit ((words ++ word ∷ []) ++ rest) n more
          ∙ get_or-append (words ++ word ∷ []) rest 0 n (omega (arith, long)) ∙ at_end;
      none = λ spent. absurd (omega (arith, spent, more));
    }

pub draws_by : (limit : ℕ) (words : List ℕ) (n : ℕ) (old new : Tries) (before now : Option RandomWords) (word : ℕ) → HasDrawn limit words n old → GivesWord old new before now word → Draws limit words n new before now word
draws_by limit words n old new before now word h (inl k) = keeps limit words n old new before now word h k
draws_by limit words n old new before now word h (inr (inl k)) = has_none limit words n old new before now word h k
draws_by limit words n old new before now word h (inr (inr k)) = draws limit words n old new before now word h k
