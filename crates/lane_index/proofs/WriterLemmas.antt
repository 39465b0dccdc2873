-- What a writer is before and after it publishes.
use Rattle.std.proofs.Common.{◌≡◌, true, false, List, [], ◌∷◌, ◌++◌, ◌≤◌, length, drop, fold, Option, Some, None, IsSome, IfSome, refl, sym, subst, ap, ◌∙◌, arith, append_assoc}
use Rattle.std.proofs.lemmas.List.{append-nil}
use mathlib.Core.List.{IsPrefix}
use Rattle.logbook.specs.Pages.{Book}
use Rattle.lane_index.specs.declared.history.HistoryEntry.{HistoryEntry}
use Rattle.pcp_base.specs.declared.records.Record.{Record}
use Rattle.pcp_base.specs.Apply.{apply, apply_all}
use Rattle.pcp_base.specs.States.{State}
use Rattle.pcp_base.specs.Sound.{Sound}
use Rattle.lane_index.specs.declared.history.HistoryEntry.TheVariants.{Added}
use Rattle.lane_index.specs.declared.cells.Cell.{Cell}
use Rattle.lane_index.specs.declared.operations.Operation.{Operation}
use Rattle.lane_index.specs.declared.replicas.Replica.{Replica}
use Rattle.lane_index.specs.Applying.{fitted}
use Rattle.lane_index.specs.LeaseCells.{AreCellsOf}
use Rattle.lane_index.specs.Keeping.{IsBehind}
use Rattle.lane_index.specs.Operations.{absorbed}
use Rattle.lane_index.specs.Replicas.{IsReplica}
use Rattle.lane_index.specs.Histories.{IndexHistory, HasBeginning, opening_in, added_in, state_left}
use Rattle.lane_index.specs.Lanes.{WriterKnowledge, writer_of, told_records}
use Rattle.lane_index.proofs.HistoryLemmas.{records-prefix, records-append, opening-append, begins-append, prefix_trans}
use Rattle.lane_index.proofs.PublishLemmas.{all-append}
use Rattle.lane_index.proofs.RecordLemmas.{leases-applied}
use Rattle.lane_index.proofs.OperationLemmas.{fits_whole}

drop_all : {A : Type 0} (xs : List A) → drop (length xs) xs ≡ []
drop_all [] = refl
drop_all (x ∷ xs) = drop_all xs

drop_prefix : {A : Type 0} (xs zs : List A) → drop (length xs) (xs ++ zs) ≡ zs
drop_prefix [] zs = refl
drop_prefix (x ∷ xs) zs = drop_prefix xs zs

prefix_rest : {A : Type 0} (xs ys : List A) → IsPrefix xs ys → xs ++ drop (length xs) ys ≡ ys
prefix_rest xs ys p = ap (λ zs. xs ++ drop (length xs) zs) (sym p.1) ∙ (ap (λ zs. xs ++ zs) (drop_prefix xs p.0) ∙ p.1)

pub if_some : {X : Type 0} (P : X → Type 0) (o : Option X) (x : X) → o ≡ Some x → IfSome o P → P x
if_some {X = X} P o x is h = subst (λ (z : Option X). IfSome z P) is h

abbrev view_of : IndexHistory → List HistoryEntry → WriterKnowledge
view_of h log = writer_of h.index (opening_in h.log) (added_in log) (drop (length (added_in log)) (added_in h.log))

-- all is published
pub whole-view : (h : IndexHistory) (shown log : List HistoryEntry) (w : WriterKnowledge) → view_of h shown ≡ w → IsPrefix shown h.log → log ≡ h.log
    → view_of h log ≡ record w { published = w.published ++ w.pending; pending = [] }
whole-view h shown log w is pre whole =
    ap (view_of h) whole
    ∙ (ap (λ p. writer_of h.index (opening_in h.log) (added_in h.log) p) (drop_all (added_in h.log))
    ∙ (ap (λ p. writer_of h.index (opening_in h.log) p []) (sym (prefix_rest (added_in shown) (added_in h.log) (records-prefix shown h.log pre)))
    ∙ ap (λ (k : WriterKnowledge). writer_of k.index k.opening (k.published ++ k.pending) []) is))

pub told-whole : (h : IndexHistory) (shown : List HistoryEntry) (book : Book) (log : List HistoryEntry) (w : WriterKnowledge) → view_of h shown ≡ w → IsPrefix shown h.log → book ≡ h.index → log ≡ h.log
    → told_records book (added_in log) ≡ told_records w.index (w.published ++ w.pending)
told-whole h shown book log w is pre mine whole =
    ap (λ b. told_records b (added_in log)) mine
    ∙ (ap (λ l. told_records h.index (added_in l)) whole
    ∙ ap (λ (k : WriterKnowledge). told_records k.index k.published) (whole-view h shown h.log w is pre refl))

-- all that was pushed
pub pushed-of : (h : IndexHistory) (shown : List HistoryEntry) (w : WriterKnowledge) → view_of h shown ≡ w → IsPrefix shown h.log → added_in h.log ≡ w.published ++ w.pending
pushed-of h shown w is pre = ap (λ (k : WriterKnowledge). k.published) (whole-view h shown h.log w is pre refl)

pub same-copy : (x y : Replica) → x.index ≡ y.index → x.last ≡ y.last → x.seen ≡ y.seen → x.count ≡ y.count → x ≡ y
same-copy x y i l f c =
    ap (λ z. record x { index = z }) i
    ∙ (ap (λ z. record x { index = y.index; last = z }) l
    ∙ (ap (λ z. record x { index = y.index; last = y.last; seen = z }) f
    ∙ ap (λ z. record x { index = y.index; last = y.last; seen = y.seen; count = z }) c))

-- before anything was pushed
pub behind-first : (h : IndexHistory) (log : List HistoryEntry) (copy first : Replica) (ops waiting : List Operation) → copy ≡ first → ops ≡ [] → waiting ≡ []
    → IsReplica h.index first → first.seen.log ≡ h.log → log ≡ h.log → IsBehind h log copy (ops ++ waiting)
behind-first h log copy first ops waiting is none empty replica whole l =
    rw (is, none, empty, l) (record { copy_is = replica; published_is = whole; begins = ([], append-nil h.log); next_is = replica; whole = whole })

-- ---- one more record

fold_more : {A B : Type 0} (f : A → B → A) (a : A) (xs : List B) (x : B) → fold f a (xs ++ x ∷ []) ≡ f (fold f a xs) x
fold_more f a [] x = refl
fold_more f a (y ∷ ys) x = fold_more f (f a y) ys x

drop_more : {A : Type 0} (xs zs es : List A) → drop (length xs) ((xs ++ zs) ++ es) ≡ drop (length xs) (xs ++ zs) ++ es
drop_more [] zs es = refl
drop_more (x ∷ xs) zs es = drop_more xs zs es

pub state-of-view : (h : IndexHistory) (shown : List HistoryEntry) (w : WriterKnowledge) → view_of h shown ≡ w → IsPrefix shown h.log → apply_all w.opening (w.published ++ w.pending) ≡ state_left h.log
state-of-view h shown w is pre = ap (λ (k : WriterKnowledge). apply_all k.opening (k.published ++ k.pending)) (sym is)
    ∙ ap (apply_all (opening_in h.log)) (prefix_rest (added_in shown) (added_in h.log) (records-prefix shown h.log pre))

module _ (h : IndexHistory) (r : Record) where
  abbrev longer : IndexHistory
  longer = record h { log = h.log ++ Added r ∷ [] }

  state-one : HasBeginning h.log → state_left longer.log ≡ apply (state_left h.log) r
  state-one begins = ap (λ (s : State). apply_all s (added_in longer.log)) (opening-append h.log (Added r ∷ []) begins)
      ∙ (ap (apply_all (opening_in h.log)) (records-append h.log (Added r ∷ [])) ∙ all-append (opening_in h.log) (added_in h.log) (r ∷ []))

  pub view-more : (shown : List HistoryEntry) (w : WriterKnowledge) → view_of h shown ≡ w → IsPrefix shown h.log → HasBeginning h.log
      → view_of longer shown ≡ record w { pending = w.pending ++ r ∷ [] }
  view-more shown w is pre begins =
      let p = records-prefix shown h.log pre in
      let rest : drop (length (added_in shown)) (added_in h.log ++ r ∷ []) ≡ drop (length (added_in shown)) (added_in h.log) ++ r ∷ [] =
      subst (λ ys. drop (length (added_in shown)) (ys ++ r ∷ []) ≡ drop (length (added_in shown)) ys ++ r ∷ []) p.1 (drop_more (added_in shown) p.0 (r ∷ [])) in
      ap (λ (s : State). writer_of h.index s (added_in shown) (drop (length (added_in shown)) (added_in longer.log))) (opening-append h.log (Added r ∷ []) begins)
      ∙ (ap (λ rs. writer_of h.index (opening_in h.log) (added_in shown) (drop (length (added_in shown)) rs)) (records-append h.log (Added r ∷ []))
      ∙ (ap (λ rs. writer_of h.index (opening_in h.log) (added_in shown) rs) rest
      ∙ ap (λ (k : WriterKnowledge). record k { pending = k.pending ++ r ∷ [] }) is))

  pub behind-more : (published : List HistoryEntry) (copy : Replica) (ops : List Operation) (op : Operation) → IsBehind h published copy ops
      → op.pushed.kept ≡ r → op.seen.book ≡ h.index → op.seen.log ≡ longer.log → op.count ≡ length longer.log
      → (state_left h.log).last ≤ r.moment → Sound (apply (state_left h.log) r).table
      → IsBehind longer published copy (ops ++ op ∷ [])
  behind-more published copy ops op behind is book log count le sound =
      let end = fold absorbed copy ops in
      let last : fold absorbed copy (ops ++ op ∷ []) ≡ absorbed end op = fold_more absorbed copy ops op in
      let begins : HasBeginning h.log = subst HasBeginning behind.whole behind.next_is.begins in
      let before : AreCellsOf (state_left h.log).table (state_left h.log).last end.index =
      subst (λ (l : List HistoryEntry). AreCellsOf (state_left l).table (state_left l).last end.index) behind.whole
      (subst (λ n. AreCellsOf (state_left end.seen.log).table n end.index) behind.next_is.last_is behind.next_is.leases) in
      let step = leases-applied (state_left h.log) r end.index before le sound in
      let st : state_left op.seen.log ≡ apply (state_left h.log) r = ap state_left log ∙ state-one begins in
      let new : IsReplica h.index (absorbed end op) = record {
        book_is = book;
        counted = count ∙ ap length (sym log);
        begins = subst HasBeginning (sym log) (begins-append h.log (Added r ∷ []) begins);
        last_is = ap (λ (k : Record). k.moment) is ∙ ap (λ (s : State). s.last) (sym st);
        leases = subst (λ (k : Record). AreCellsOf (state_left op.seen.log).table k.moment (fitted k end.index)) (sym is)
            (subst (λ (s : State). AreCellsOf s.table r.moment (fitted r end.index)) (sym st)
            (subst (λ (cs : List Cell). AreCellsOf (apply (state_left h.log) r).table r.moment cs) (sym (fits_whole r.moment r.change end.index step.0)) step.1));
      } in
      record {
        copy_is = behind.copy_is;
        published_is = behind.published_is;
        begins = prefix_trans published h.log longer.log behind.begins (Added r ∷ [], refl);
        next_is = subst (IsReplica h.index) (sym last) new;
        whole = ap (λ (c : Replica). c.seen.log) last ∙ log;
      }

  -- the same, where the operation waits behind others
  pub behind-waits : (new : IndexHistory) (published : List HistoryEntry) (copy : Replica) (own waiting : List Operation) (op : Operation) → IsBehind h published copy (own ++ waiting)
      → new ≡ longer → op.pushed.kept ≡ r → op.seen.book ≡ h.index → op.seen.log ≡ longer.log → op.count ≡ length longer.log
      → (state_left h.log).last ≤ r.moment → Sound (apply (state_left h.log) r).table
      → IsBehind new published copy (own ++ (waiting ++ op ∷ []))
  behind-waits new published copy own waiting op behind fresh is book log count le sound =
      rw (fresh, ← append_assoc own waiting (op ∷ [])) (behind-more published copy (own ++ waiting) op behind is book log count le sound)

  -- the same, where none waits
  pub behind-own : (new : IndexHistory) (published : List HistoryEntry) (copy : Replica) (own waiting : List Operation) (op : Operation) → IsBehind h published copy (own ++ waiting) → waiting ≡ []
      → new ≡ longer → op.pushed.kept ≡ r → op.seen.book ≡ h.index → op.seen.log ≡ longer.log → op.count ≡ length longer.log
      → (state_left h.log).last ≤ r.moment → Sound (apply (state_left h.log) r).table
      → IsBehind new published copy ((own ++ op ∷ []) ++ [])
  behind-own new published copy own waiting op behind none fresh is book log count le sound =
      let whole : IsBehind h published copy own = subst (λ ops. IsBehind h published copy ops) (ap (λ ws. own ++ ws) none ∙ append-nil own) behind in
      rw (fresh, append-nil (own ++ op ∷ [])) (behind-more published copy own op whole is book log count le sound)

pub empty_of : {A : Type 0} (xs : List A) → length xs ≡ 0 → xs ≡ []
empty_of [] e = refl
empty_of (x ∷ xs) e = absurd (omega (arith, e))

pub some_map : {X : Type 0} (P Q : X → Type 0) (o : Option X) → ((x : X) → P x → Q x) → IfSome o P → IfSome o Q
some_map P Q None f h = tt
some_map P Q (Some x) f h = f x h

pub some_gives : {X : Type 0} (P : X → Type 0) (Q : Type 0) (o : Option X) → ((x : X) → P x → Q) → IsSome o → IfSome o P → Q
some_gives P Q None f s h = absurd (let never : false ≡ true = s in cc)
some_gives P Q (Some x) f s h = f x h

pub begins-behind : (h : IndexHistory) (published : List HistoryEntry) (copy : Replica) (ops : List Operation) → IsBehind h published copy ops → IsPrefix published h.log × HasBeginning h.log
begins-behind h published copy ops b = (b.begins, subst HasBeginning b.whole b.next_is.begins)
