-- The last of a list, and which of the last jobs are noise.
use Rattle.std.proofs.Common.{◌≡◌, ℕ, suc, ◌+◌, ◌-◌, ◌<◌, ◌≤◌, Bool, true, false, cond, List, [], ◌∷◌, ◌++◌, length, map, drop, filter, count_by, Option, refl, sym, ap, ◌∙◌, arith, length-append}
use Rattle.std.proofs.lemmas.List.{drop-append-le, drop-drop, drop_at, length-drop, length-map, map-append}
use Rattle.std.proofs.lemmas.List.Sums.{length-filter}
use Rattle.job_queue.specs.declared.jobs.Job.{Job}
use Rattle.job_queue.specs.declared.jobs.JobsRoute.{JobsRoute}
use Rattle.job_queue.specs.declared.jobs.TheConstants.{MOST_JOBS}
use Rattle.job_queue.specs.Queues.{HeldNoise, IsLastOf, is_noise_job, last_of, noise_marks}

module _ {X : Type 0} where
  one_more : (xs : List X) (x : X) → length (xs ++ x ∷ []) ≡ length xs + 1
  one_more xs x = length-append xs (x ∷ [])

  -- one more, where there is room
  pub last-room : (n : ℕ) (xs : List X) (x : X) → length xs < n → xs ++ x ∷ [] ≡ last_of n (xs ++ x ∷ [])
  last-room n xs x room =
      let none : length (xs ++ x ∷ []) - n ≡ 0 = omega (arith, one_more xs x, room) in
      sym (ap (λ k. drop k (xs ++ x ∷ [])) none)

  -- and where the first gives way
  pub last-full : (n : ℕ) (xs : List X) (x : X) → length xs ≡ n → 0 < n → drop 1 xs ++ x ∷ [] ≡ last_of n (xs ++ x ∷ [])
  last-full n xs x full some =
      let one : length (xs ++ x ∷ []) - n ≡ 1 = omega (arith, one_more xs x, full) in
      sym (ap (λ k. drop k (xs ++ x ∷ [])) one ∙ drop-append-le 1 xs (x ∷ []) (omega (arith, full, some)))

  last-length : (n : ℕ) (xs : List X) → length (last_of n xs) ≡ length xs - (length xs - n)
  last-length n xs = length-drop (length xs - n) xs

  -- what stood before the last doesn't count
  pub last-more : (n : ℕ) (xs : List X) (x : X) → last_of n (last_of n xs ++ x ∷ []) ≡ last_of n (xs ++ x ∷ [])
  last-more n xs x =
      let before : ℕ = length xs - n in
      let whole : last_of n xs ++ x ∷ [] ≡ drop before (xs ++ x ∷ []) = sym (drop-append-le before xs (x ∷ []) (omega arith)) in
      let again : last_of n (drop before (xs ++ x ∷ [])) ≡ drop (before + (length (drop before (xs ++ x ∷ [])) - n)) (xs ++ x ∷ []) =
      drop-drop (length (drop before (xs ++ x ∷ [])) - n) before (xs ++ x ∷ []) in
      let same : before + (length (drop before (xs ++ x ∷ [])) - n) ≡ length (xs ++ x ∷ []) - n =
      omega (arith, length-drop before (xs ++ x ∷ []), one_more xs x) in
      ap (last_of n) whole ∙ (again ∙ ap (λ k. drop k (xs ++ x ∷ [])) same)

  -- the last few of the last
  last-fewer : (k n : ℕ) (xs : List X) → k ≤ n → last_of k (last_of n xs) ≡ last_of k xs
  last-fewer k n xs few =
      let before : ℕ = length xs - n in
      let same : before + (length (drop before xs) - k) ≡ length xs - k = omega (arith, length-drop before xs, few) in
      drop-drop (length (drop before xs) - k) before xs ∙ ap (λ i. drop i xs) same

  last-behind : (k : ℕ) (xs ys : List X) → length ys ≡ k → last_of k (xs ++ ys) ≡ ys
  last-behind k xs ys is = drop_at xs ys (length (xs ++ ys) - k) (omega (arith, length-append xs ys, is))

-- one job more is marked
pub marks_more : (route : Option JobsRoute) (put : List Job) (job : Job) (mark : Bool) → mark ≡ is_noise_job route job
    → last_of MOST_JOBS (noise_marks route put ++ mark ∷ []) ≡ noise_marks route (put ++ job ∷ [])
marks_more route put job mark is =
    ap (λ (b : Bool). last_of MOST_JOBS (noise_marks route put ++ b ∷ [])) is
    ∙ (last-more MOST_JOBS (map (is_noise_job route) put) (is_noise_job route job)
    ∙ ap (last_of MOST_JOBS) (sym (map-append (is_noise_job route) put (job ∷ []))))

kept_both : (b m : Bool) (x : Job) (ms : List Bool) (xs : List Job) → length ms ≡ length xs → length (cond b (m ∷ ms) ms) ≡ length (cond b (x ∷ xs) xs)
kept_both true m x ms xs e = ap (λ n. suc n) e
kept_both false m x ms xs e = e

kept_marks : (f : Job → Bool) (xs : List Job) → length (filter (λ (b : Bool). b) (map f xs)) ≡ length (filter f xs)
kept_marks f [] = refl
kept_marks f (x ∷ xs) = kept_both (f x) (f x) x (filter (λ (b : Bool). b) (map f xs)) (filter f xs) (kept_marks f xs)

count_marks : (f : Job → Bool) (xs : List Job) → count_by (λ (b : Bool). b) (map f xs) ≡ length (filter f xs)
count_marks f xs = sym (length-filter (λ (b : Bool). b) (map f xs)) ∙ kept_marks f xs

-- so many of the last marks are those of what the queue held
pub held_noise : (taken : List Job) (route : Option JobsRoute) (put items : List Job) (held count : ℕ) → length items ≡ held → held ≤ MOST_JOBS → IsLastOf taken items put
    → count ≡ count_by (λ (m : Bool). m) (last_of held (noise_marks route put)) → HeldNoise taken route put count
held_noise taken route put items held count size few last is =
    let f : Job → Bool = is_noise_job route in
    let parts : map f put ≡ map f last.before ++ map f items = ap (map f) last.parted ∙ map-append f last.before items in
    let marks : last_of held (noise_marks route put) ≡ map f items =
    last-fewer held MOST_JOBS (map f put) few
    ∙ (ap (last_of held) parts ∙ last-behind held (map f last.before) (map f items) (length-map items f ∙ size)) in
    record {
      items = items;
      few = omega (arith, size, few);
      last = last;
      noise = sym (is ∙ (ap (count_by (λ (m : Bool). m)) marks ∙ count_marks f items));
    }
