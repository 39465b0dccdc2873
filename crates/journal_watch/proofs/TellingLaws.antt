-- What is told makes of what was shown what is shown then.
use Rattle.std.proofs.Common.{◌≡◌, ℕ, Bool, true, false, cond, List, [], ◌∷◌, ◌++◌, refl, ap, sym, ◌∙◌, subst, arith, ◌+◌}
use Rattle.std.specs.Prelude.{drop, fold, length}
use Rattle.std.proofs.lemmas.List.Sums.{fold-append}
use Rattle.std.proofs.lemmas.List.{append-nil, append_assoc, length-append}
use Rattle.std.proofs.Math.Seq.{drop-append_seam}
use Rattle.pcp_base.specs.declared.records.Record.{Record}
use Rattle.pcp_base.specs.Tables.{Table, live}
use Rattle.pcp_base.specs.States.{State, empty_state}
use Rattle.journal_watch.specs.Happenings.{ended_by, told_of, shown_after, shown_by}
use Rattle.journal_watch.specs.declared.happenings.Happening.{Happening}
use Rattle.journal_watch.specs.declared.happenings.Happening.TheVariants.{Begins}
use Rattle.journal_watch.specs.Readings.{Life, Holding, Reading, Watch, Telling, same_life, with_told, with_record, told_all, found_in, told_anew, by_time, moment_of, followed, begun, on_holding, on_reading}
use Rattle.journal_watch.specs.Readings.Holding.{Counts, Doubt, Goes}
use Rattle.journal_watch.specs.Laws.{FollowsRecords, StaysAsItIs}

abbrev ComesTo : Table → Telling → Type 0
ComesTo shown t = t.watch.shown ≡ shown_by shown t.happenings

more : (shown : Table) (t : Telling) (hs : List Happening) → ComesTo shown t → shown_by t.watch.shown hs ≡ shown_by shown (t.happenings ++ hs)
more shown t hs h = ap (λ x. shown_by x hs) h ∙ sym (fold-append shown_after shown t.happenings hs)

records : (step : State → Record → State) (shown : Table) (rs : List Record) (t : Telling) → ComesTo shown t → ComesTo shown (fold (with_record step) t rs)
records step shown [] t h = h
records step shown (r ∷ rs) t h = records step shown rs (with_record step t r) (more shown t (told_of t.watch.shown t.watch.state r) h)

anew : (step : State → Record → State) (w : Watch) (time : ℕ) (life : Life) (gap : Bool) (rs : List Record) → ComesTo w.shown (begun step w time life gap rs)
anew step w time life gap rs =
    more w.shown (followed step w life gap rs) (told_anew w.shown (live (fold step empty_state rs).table (moment_of time (fold step empty_state rs)))) refl

holding : (step : State → Record → State) (w : Watch) (time : ℕ) (holds : Holding) → ComesTo w.shown (on_holding step w time holds)
holding step w time (Counts life gap rs) =
    elim (same_life life w.life) as (λ b. ComesTo w.shown (cond b (fold (with_record step) (record { watch = w; happenings = [] }) (drop w.count rs)) (begun step w time life gap rs)))
    [ true ↦ records step w.shown (drop w.count rs) (record { watch = w; happenings = [] }) refl | false ↦ anew step w time life gap rs ]
holding step w time (Goes life snapshot rs) = records step w.shown rs (followed step w life false snapshot) refl
holding step w time Doubt = refl

timed : (shown : Table) (m : ℕ) (t : Telling) → ComesTo shown t → ComesTo shown (by_time m t)
timed shown m t h =
    more shown (with_told t (ended_by t.watch.shown m)) (found_in (live t.watch.shown m) (live t.watch.state.table m))
    (more shown t (ended_by t.watch.shown m) h)

pub lines-come_to_shown : (step : State → Record → State) (w : Watch) (r : Reading) → (on_reading step w r).watch.shown ≡ shown_by w.shown (on_reading step w r).happenings
lines-come_to_shown step w r =
    timed w.shown (moment_of r.time (on_holding step w r.time r.holds).watch.state) (on_holding step w r.time r.holds)
    (holding step w r.time r.holds)

pub doubt-stays : (step : State → Record → State) (w : Watch) (time : ℕ) → StaysAsItIs w (on_reading step w (record { time = time; holds = Doubt })).watch
doubt-stays step w time = record { life = refl; count = refl; state = refl }

stated : (step : State → Record → State) (rs : List Record) (t : Telling) → (fold (with_record step) t rs).watch.state ≡ fold step t.watch.state rs
stated step [] t = refl
stated step (r ∷ rs) t = stated step rs (with_record step t r)

counted : (step : State → Record → State) (rs : List Record) (t : Telling) → (fold (with_record step) t rs).watch.count ≡ t.watch.count + length rs
counted step [] t = omega arith
counted step (r ∷ rs) t = omega (arith, counted step rs (with_record step t r))

told_once : (step : State → Record → State) (rs : List Record) (t : Telling) → (fold (with_record step) t rs).happenings ≡ t.happenings ++ told_all step t.watch.shown t.watch.state rs
told_once step [] t = sym (append-nil t.happenings)
told_once step (r ∷ rs) t =
    told_once step rs (with_record step t r)
    ∙ append_assoc t.happenings (told_of t.watch.shown t.watch.state r) (told_all step (shown_by t.watch.shown (told_of t.watch.shown t.watch.state r)) (step t.watch.state r) rs)

abbrev bare : Watch → Telling
bare w = record { watch = w; happenings = [] }

behind_told : (step : State → Record → State) (w : Watch) (before behind : List Record) → FollowsRecords step w before → drop w.count (before ++ behind) ≡ behind
behind_told step w before behind h = ap (λ n. drop n (before ++ behind)) h.count ∙ drop-append_seam before behind

followed_on : (step : State → Record → State) (w : Watch) (before behind : List Record) → FollowsRecords step w before → FollowsRecords step (fold (with_record step) (bare w) behind).watch (before ++ behind)
followed_on step w before behind h = record {
  state = stated step behind (bare w) ∙ (ap (λ s. fold step s behind) h.state ∙ sym (fold-append step empty_state before behind));
  count = omega (arith, counted step behind (bare w), h.count, length-append before behind);
}

pub records-are_followed : (step : State → Record → State) (w : Watch) (life : Life) (time : ℕ) (gap : Bool) (before behind : List Record) → FollowsRecords step w before → FollowsRecords step (on_reading step w (record { time = time; holds = Counts life gap (before ++ behind) })).watch (before ++ behind)
records-are_followed step w life time gap before behind h =
    let on : FollowsRecords step (on_holding step w time (Counts life gap (before ++ behind))).watch (before ++ behind) =
    elim (same_life life w.life) as (λ b. FollowsRecords step (cond b (fold (with_record step) (bare w) (drop w.count (before ++ behind))) (begun step w time life gap (before ++ behind))).watch (before ++ behind)) [
      | true ↦ subst (λ rs. FollowsRecords step (fold (with_record step) (bare w) rs).watch (before ++ behind)) (sym (behind_told step w before behind h)) (followed_on step w before behind h)
      | false ↦ record { state = refl; count = refl }
    ] in
    record { state = on.state; count = on.count }

pub each-record_once : (step : State → Record → State) (w : Watch) (life : Life) (time : ℕ) (gap : Bool) (before behind : List Record) → FollowsRecords step w before → same_life life w.life ≡ true → (on_holding step w time (Counts life gap (before ++ behind))).happenings ≡ told_all step w.shown w.state behind
each-record_once step w life time gap before behind h same =
    rw same (ap (λ rs. (fold (with_record step) (bare w) rs).happenings) (behind_told step w before behind h) ∙ told_once step behind (bare w))

pub lives-whole : (step : State → Record → State) (w : Watch) (life : Life) (time : ℕ) (gap : Bool) (rs : List Record) → same_life life w.life ≡ false → FollowsRecords step (on_reading step w (record { time = time; holds = Counts life gap rs })).watch rs
lives-whole step w life time gap rs other = record { state = rw other refl; count = rw other refl }

goes : (step : State → Record → State) (w : Watch) (life : Life) (before behind : List Record) → FollowsRecords step (fold (with_record step) (followed step w life false before) behind).watch (before ++ behind)
goes step w life before behind = record {
  state = stated step behind (followed step w life false before) ∙ sym (fold-append step empty_state before behind);
  count = omega (arith, counted step behind (followed step w life false before), length-append before behind);
}

pub lives-go_on : (step : State → Record → State) (w : Watch) (life : Life) (time : ℕ) (before behind : List Record) → FollowsRecords step (on_reading step w (record { time = time; holds = Goes life before behind })).watch (before ++ behind)
lives-go_on step w life time before behind =
    let on = goes step w life before behind in
    record { state = on.state; count = on.count }

pub lives-told : (step : State → Record → State) (w : Watch) (life : Life) (time : ℕ) (before behind : List Record) → w.state ≡ fold step empty_state before → (on_holding step w time (Goes life before behind)).happenings ≡ Begins life.generation false ∷ told_all step w.shown w.state behind
lives-told step w life time before behind h =
    told_once step behind (followed step w life false before)
    ∙ ap (λ s. Begins life.generation false ∷ told_all step w.shown s behind) (sym h)
