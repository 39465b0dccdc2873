-- Each step keeps the rule of a queue of jobs.
use Rattle.std.proofs.Common.{◌≡◌, ◌≢◌, ℕ, zero, suc, true, false, true≢false, List, [], ◌∷◌, ◌++◌, length, set, sym, refl, ap, ◌∙◌, subst, ⊎_elim, append_assoc, Option, None}
use Rattle.std.specs.List.{AllByRecursion}
use Rattle.std.proofs.lemmas.List.{append-nil, nil_from_length}
use mathlib.Core.Option.{some, some-ne-none}
use mathlib.Core.List.{IsPrefix}
use lib.ListN.{get_elem?}
use Rattle.crossbeam_queue.specs.Fifo.{Pushes, Pops, Forks, Merges, Learns, Held}
use Rattle.crossbeam_queue.proofs.Lists.{at_set, at_snoc}
use Rattle.job_queue.specs.declared.jobs.Job.{Job}
use Rattle.job_queue.specs.declared.jobs.JobsRoute.{JobsRoute}
use Rattle.job_queue.specs.declared.jobs.JobsView.{JobsView}
use Rattle.job_queue.specs.Queues.{jobs_view, told_view, hearing, FitsEnd, AreInOrder, IsJobFor, IsLastOf, IsRestOf, WasFull}
use Rattle.job_queue.specs.declared.jobs.TheConstants.{MOST_JOBS}

at_end : (l : List JobsView) (a b : JobsView) (j : ℕ) → get_elem? l j ≢ some b → get_elem? (l ++ a ∷ []) j ≡ some b → j ≡ length l
at_end [] a b zero n e = refl
at_end [] a b (suc j) n e = absurd (some-ne-none b (sym e))
at_end (x ∷ xs) a b zero n e = absurd (n e)
at_end (x ∷ xs) a b (suc j) n e = ap suc (at_end xs a b j n e)

abbrev Each : (ℕ → JobsView → Type 0) → List JobsView → Type 0
Each F views = (seat : ℕ) (v : JobsView) → get_elem? views seat ≡ some v → F seat v

each_set : (F : ℕ → JobsView → Type 0) (views : List JobsView) (seat : ℕ) (w : JobsView) → F seat w → ((j : ℕ) (u : JobsView) → j ≢ seat → get_elem? views j ≡ some u → F j u) → Each F (set views seat w)
each_set F views seat w mine others j u e = ⊎_elim (λ (x : (j ≡ seat) × (w ≡ u)). subst (λ (y : ℕ × JobsView). F y.0 y.1) (λ i. (sym x.0 i, x.1 i)) mine)
    (λ (x : (j ≢ seat) × (get_elem? views j ≡ some u)). others j u x.0 x.1) (at_set views seat j w u e)

prefix_none : (xs : List Job) → IsPrefix [] xs
prefix_none xs = (xs, refl)

prefix_is : (xs ys : List Job) → xs ≡ ys → IsPrefix xs ys
prefix_is xs ys e = ([], append-nil xs ∙ e)

prefix_more : (xs ys zs : List Job) → IsPrefix xs ys → IsPrefix xs (ys ++ zs)
prefix_more xs ys zs p = (p.0 ++ zs, sym (append_assoc xs p.0 zs) ∙ ap (λ (l : List Job). l ++ zs) p.1)

all_push : (P : Job → Type 0) (xs : List Job) (x : Job) → AllByRecursion P xs → P x → AllByRecursion P (xs ++ x ∷ [])
all_push P [] x h p = (p, tt)
all_push P (y ∷ ys) x h p = (h.0, all_push P ys x h.1 p)

-- a pass that neither puts nor takes
idle : (putter taker : ℕ) (route : Option JobsRoute) (put taken : List Job) (seat : ℕ) (told_put told_taken : List Job) → IsPrefix told_put put → IsPrefix told_taken taken
    → FitsEnd putter taker route put taken seat (told_view told_put told_taken)
idle putter taker route put taken seat told_put told_taken p t = record {
  puts = λ x. absurd (true≢false (sym x));
  takes = λ x. absurd (true≢false (sym x));
  told_put = p;
  told_taken = t;
}

pub begins : AreInOrder [] (jobs_view true true None [] [] ∷ [])
begins = record {
  putter = 0;
  taker = 0;
  route = None;
  put = [];
  taken = [];
  order = refl;
  jobs = tt;
  ends = each_set (FitsEnd 0 0 None [] []) (jobs_view true true None [] [] ∷ []) 0 (jobs_view true true None [] [])
      (record {
        puts = λ _. (refl, refl, refl);
        takes = λ _. (refl, refl, refl);
        told_put = prefix_none [];
        told_taken = prefix_none [];
      })
      (λ j u other e. absurd (other (at_end [] _ u j (λ x. some-ne-none u (sym x)) e)));
}

pub puts : (n seat : ℕ) (v : JobsView) (x : Job) → v.puts ≡ true → IsJobFor v.route x → Pushes AreInOrder n seat v x (λ w. w ≡ record v { put = v.put ++ x ∷ [] })
puts n seat v x may job items views _ h at =
    let w : JobsView = record v { put = v.put ++ x ∷ [] } in
    let mine = h.ends seat v at in
    let put : List Job = h.put ++ x ∷ [] in
    let for_it : IsJobFor h.route x = subst (λ (r : Option JobsRoute). IsJobFor r x) (mine.puts may).1 job in (
      w,
      record {
        putter = h.putter;
        taker = h.taker;
        route = h.route;
        put = put;
        taken = h.taken;
        order = ap (λ l. l ++ x ∷ []) h.order ∙ append_assoc h.taken items (x ∷ []);
        jobs = all_push (IsJobFor h.route) items x h.jobs for_it;
        ends = each_set (FitsEnd h.putter h.taker h.route put h.taken) views seat w
            (record {
              puts = λ _. ((mine.puts may).0, (mine.puts may).1, ap (λ l. l ++ x ∷ []) (mine.puts may).2);
              takes = mine.takes;
              told_put = prefix_more v.told_put h.put (x ∷ []) mine.told_put;
              told_taken = mine.told_taken;
            })
            (λ j u other e. record {
              puts = λ p. absurd (other (((h.ends j u e).puts p).0 ∙ sym (mine.puts may).0));
              takes = (h.ends j u e).takes;
              told_put = prefix_more u.told_put h.put (x ∷ []) (h.ends j u e).told_put;
              told_taken = (h.ends j u e).told_taken;
            });
      },
      refl,
    )

pub takes : (seat : ℕ) (v : JobsView) → v.takes ≡ true → Pops AreInOrder seat v (λ x w. (w ≡ record v { taken = v.taken ++ x ∷ [] }) × IsJobFor v.route x)
takes seat v may x items views h at =
    let w : JobsView = record v { taken = v.taken ++ x ∷ [] } in
    let mine = h.ends seat v at in
    let taken : List Job = h.taken ++ x ∷ [] in
    let for_it : IsJobFor v.route x = subst (λ (r : Option JobsRoute). IsJobFor r x) (sym (mine.takes may).1) h.jobs.0 in (
      w,
      record {
        putter = h.putter;
        taker = h.taker;
        route = h.route;
        put = h.put;
        taken = taken;
        order = h.order ∙ sym (append_assoc h.taken (x ∷ []) items);
        jobs = h.jobs.1;
        ends = each_set (FitsEnd h.putter h.taker h.route h.put taken) views seat w
            (record {
              puts = mine.puts;
              takes = λ _. ((mine.takes may).0, (mine.takes may).1, ap (λ l. l ++ x ∷ []) (mine.takes may).2);
              told_put = mine.told_put;
              told_taken = prefix_more v.told_taken h.taken (x ∷ []) mine.told_taken;
            })
            (λ j u other e. record {
              puts = (h.ends j u e).puts;
              takes = λ p. absurd (other (((h.ends j u e).takes p).0 ∙ sym (mine.takes may).0));
              told_put = (h.ends j u e).told_put;
              told_taken = prefix_more u.told_taken h.taken (x ∷ []) (h.ends j u e).told_taken;
            });
      },
      (refl, for_it),
    )

-- the ends part before anything is put, and may then be for any external address
pub parts : (seat : ℕ) (v : JobsView) (route : Option JobsRoute) → v.puts ≡ true → v.takes ≡ true → v.put ≡ [] → v.taken ≡ []
    → Forks AreInOrder seat v (jobs_view true false route v.put []) (jobs_view false true route [] v.taken)
parts seat v route a b none_put none_taken items views h at =
    let l : JobsView = jobs_view true false route v.put [] in
    let r : JobsView = jobs_view false true route [] v.taken in
    let mine = h.ends seat v at in
    let vs : List JobsView = set views seat l in
    let no_put : h.put ≡ [] = sym (mine.puts a).2 ∙ none_put in
    let no_taken : h.taken ≡ [] = sym (mine.takes b).2 ∙ none_taken in
    let empty : items ≡ [] = ap (λ (xs : List Job). xs ++ items) (sym no_taken) ∙ (sym h.order ∙ no_put) in
    let Old : ℕ → JobsView → Type 0 = λ j u. (u.puts ≡ true → (j ≡ h.putter) × (u.route ≡ route) × (u.put ≡ h.put)) × (u.takes ≢ true) × IsPrefix u.told_put h.put × IsPrefix u.told_taken h.taken in
    let old : Each Old vs = each_set Old views seat l ((λ _. ((mine.puts a).0, refl, (mine.puts a).2)), (λ p. true≢false (sym p)), prefix_none h.put, prefix_none h.taken)
    (λ j u other e. (
      (λ p. absurd (other (((h.ends j u e).puts p).0 ∙ sym (mine.puts a).0))),
      (λ p. other (((h.ends j u e).takes p).0 ∙ sym (mine.takes b).0)),
      (h.ends j u e).told_put,
      (h.ends j u e).told_taken,
    )) in
    record {
      putter = h.putter;
      taker = length vs;
      route = route;
      put = h.put;
      taken = h.taken;
      order = h.order;
      jobs = subst (λ (xs : List Job). AllByRecursion (IsJobFor route) xs) (sym empty) tt;
      ends = λ j u e. ⊎_elim
          (λ x. record {
            puts = (old j u x).0;
            takes = λ p. absurd ((old j u x).1 p);
            told_put = (old j u x).2;
            told_taken = (old j u x).3;
          })
          (λ (is : r ≡ u). record {
            puts = λ p. absurd (true≢false (sym (ap (λ (y : JobsView). y.puts) is ∙ p)));
            takes = λ p. (at_end vs r u j (λ x. (old j u x).1 p) e, ap (λ (y : JobsView). y.route) (sym is), ap (λ (y : JobsView). y.taken) (sym is) ∙ (mine.takes b).2);
            told_put = subst (λ (y : JobsView). IsPrefix y.told_put h.put) is (prefix_none h.put);
            told_taken = subst (λ (y : JobsView). IsPrefix y.told_taken h.taken) is (prefix_none h.taken);
          })
          (at_snoc vs r u j e);
    }

pub meets : (seat : ℕ) (v : JobsView) (other : ℕ) (u : JobsView) → v.puts ≡ true → u.takes ≡ true
    → Merges AreInOrder seat v other u (jobs_view true true v.route v.put u.taken) (jobs_view false false None [] [])
meets seat v other u a b items views h at two at' =
    let both : JobsView = jobs_view true true v.route v.put u.taken in
    let mine = h.ends seat v at in
    let vs : List JobsView = set views seat both in
    let was : get_elem? views other ≡ some u = ⊎_elim (λ x. absurd (two x.0)) (λ x. x.1) (at_set views seat other both u at') in
    let theirs = (h.ends other u was).takes b in
    let Now : ℕ → JobsView → Type 0 = λ j y. j ≢ other → FitsEnd h.putter seat h.route h.put h.taken j y in
    let now : Each Now vs = each_set Now views seat both (λ _. record { puts = λ _. mine.puts a; takes = λ _. (refl, (mine.puts a).1, theirs.2); told_put = prefix_none h.put; told_taken = prefix_none h.taken })
    (λ j y _ e apart. record {
      puts = (h.ends j y e).puts;
      takes = λ p. absurd (apart (((h.ends j y e).takes p).0 ∙ sym theirs.0));
      told_put = (h.ends j y e).told_put;
      told_taken = (h.ends j y e).told_taken;
    }) in
    record {
      putter = h.putter;
      taker = seat;
      route = h.route;
      put = h.put;
      taken = h.taken;
      order = h.order;
      jobs = h.jobs;
      ends = each_set (FitsEnd h.putter seat h.route h.put h.taken) vs other (jobs_view false false None [] [])
          (idle h.putter seat h.route h.put h.taken other [] [] (prefix_none h.put) (prefix_none h.taken))
          (λ j y apart e. now j y e apart);
    }

-- ---- news

-- another pass is told first parts that this one knows
tells : (seat : ℕ) (v : JobsView) (told_put told_taken : List Job)
    → ((putter taker : ℕ) (route : Option JobsRoute) (put taken : List Job) → FitsEnd putter taker route put taken seat v → IsPrefix told_put put × IsPrefix told_taken taken)
    → Forks AreInOrder seat v v (told_view told_put told_taken)
tells seat v told_put told_taken known items views h at =
    let new : JobsView = told_view told_put told_taken in
    let vs : List JobsView = set views seat v in
    let Fits : ℕ → JobsView → Type 0 = FitsEnd h.putter h.taker h.route h.put h.taken in
    let mine : Fits seat v = h.ends seat v at in
    let firsts = known h.putter h.taker h.route h.put h.taken mine in
    let old : Each Fits vs = each_set Fits views seat v mine (λ j u _ e. h.ends j u e) in
    record {
      putter = h.putter;
      taker = h.taker;
      route = h.route;
      put = h.put;
      taken = h.taken;
      order = h.order;
      jobs = h.jobs;
      ends = λ j u e. ⊎_elim (old j u)
          (λ (is : new ≡ u). subst (Fits j) is (idle h.putter h.taker h.route h.put h.taken j told_put told_taken firsts.0 firsts.1))
          (at_snoc vs new u j e);
    }

pub tells_put : (seat : ℕ) (v : JobsView) → v.puts ≡ true → Forks AreInOrder seat v v (told_view v.put [])
tells_put seat v a = tells seat v v.put [] (λ putter taker route put taken f. (prefix_is v.put put (f.puts a).2, prefix_none taken))

pub tells_taken : (seat : ℕ) (v : JobsView) → v.takes ≡ true → Forks AreInOrder seat v v (told_view [] v.taken)
tells_taken seat v a = tells seat v [] v.taken (λ putter taker route put taken f. (prefix_none put, prefix_is v.taken taken (f.takes a).2))

pub hears : (seat : ℕ) (v : JobsView) (other : ℕ) (u : JobsView) → Merges AreInOrder seat v other u (hearing v u.told_put u.told_taken) (told_view [] [])
hears seat v other u items views h at two at' =
    let heard : JobsView = hearing v u.told_put u.told_taken in
    let vs : List JobsView = set views seat heard in
    let Fits : ℕ → JobsView → Type 0 = FitsEnd h.putter h.taker h.route h.put h.taken in
    let mine : Fits seat v = h.ends seat v at in
    let was : get_elem? views other ≡ some u = ⊎_elim (λ x. absurd (two x.0)) (λ x. x.1) (at_set views seat other heard u at') in
    let theirs : Fits other u = h.ends other u was in
    let now : Each Fits vs = each_set Fits views seat heard
    (record { puts = mine.puts; takes = mine.takes; told_put = theirs.told_put; told_taken = theirs.told_taken })
    (λ j y _ e. h.ends j y e) in
    record {
      putter = h.putter;
      taker = h.taker;
      route = h.route;
      put = h.put;
      taken = h.taken;
      order = h.order;
      jobs = h.jobs;
      ends = each_set Fits vs other (told_view [] []) (idle h.putter h.taker h.route h.put h.taken other [] [] (prefix_none h.put) (prefix_none h.taken)) (λ j y _ e. now j y e);
    }

-- ---- what is learned

-- what the putter learns: the queue holds the last of what it has put
pub learns_last : (seat : ℕ) (v : JobsView) → v.puts ≡ true → Learns AreInOrder seat v (λ items. IsLastOf v.told_taken items v.put)
learns_last seat v a items views h at =
    let mine = h.ends seat v at in
    record { before = h.taken; parted = (mine.puts a).2 ∙ h.order; behind = mine.told_taken }

-- what the taker learns
pub learns_rest : (seat : ℕ) (v : JobsView) → v.takes ≡ true → Learns AreInOrder seat v (λ items. IsRestOf v items)
learns_rest seat v b items views h at =
    let mine = h.ends seat v at in
    let all : h.put ≡ v.taken ++ items = h.order ∙ ap (λ (l : List Job). l ++ items) (sym (mine.takes b).2) in
    record {
      all = λ a. (mine.puts a).2 ∙ all;
      told = subst (IsPrefix v.told_put) all mine.told_put;
    }

-- at an empty queue
at_none : (v : JobsView) → Held 0 (λ (items : List Job). IsRestOf v items) → IsRestOf v []
at_none v h = subst (IsRestOf v) (nil_from_length h.0 h.1) h.2

pub none_left : (v : JobsView) → Held 0 (λ (items : List Job). IsRestOf v items) → v.puts ≡ true → v.put ≡ v.taken
none_left v h a = (at_none v h).all a ∙ append-nil v.taken

pub none_told : (v : JobsView) → Held 0 (λ (items : List Job). IsRestOf v items) → IsPrefix v.told_put v.taken
none_told v h = subst (IsPrefix v.told_put) (append-nil v.taken) (at_none v h).told

-- at a full one
pub was_full : (taken put : List Job) → Held MOST_JOBS (λ items. IsLastOf taken items put) → WasFull taken put
was_full taken put h = record { items = h.0; full = h.1; last = h.2 }
