-- The epoch told is at most the age of a lease that was given up early.
use Rattle.std.specs.Prelude.{IfSome}
use Rattle.std.specs.List.{AllByRecursion}
use Rattle.std.proofs.Common.{◌≡◌, ◌∙◌, ℕ, ◌+◌, ◌≤◌, Bool, true, false, cond, List, [], ◌∷◌, ◌++◌, map, Option, Some, None, refl, ap, sym, subst, inl, inr, arith, append_assoc}
use Rattle.std.proofs.lemmas.List.Sums.{fold-append}
use Rattle.pcp_base.specs.declared.datagrams.Entry.{Entry}
use Rattle.pcp_base.specs.declared.leases.MapLease.{MapLease}
use Rattle.pcp_base.specs.declared.leases.PeerLease.{PeerLease}
use Rattle.pcp_base.specs.declared.records.Record.{Record}
use Rattle.pcp_base.specs.Tables.{live}
use Rattle.pcp_base.specs.Apply.{apply, apply_all, rebases, state_of}
use Rattle.pcp_base.specs.Epoch.{epoch_of}
use Rattle.pcp_base.specs.Fits.{AllFit}
use Rattle.pcp_base.specs.Laws.{ReachedIsKept, RecordsReach}
use Rattle.pcp_base.specs.Reached.{IsReached}
use Rattle.pcp_base.specs.Records.{IsTermAt}
use Rattle.pcp_base.specs.States.{State, empty_state}
use Rattle.pcp_base.proofs.Members.{IsIn, All-IsIn, All-push, All-weaker, IsIn-append, IsIn-filter, IsIn-from_Contains, IsIn-map}
use Rattle.lease_histories.specs.DatagramAsks.{DatagramAsksAreWellFormed}
use Rattle.lease_core.specs.Laws.{DecisionsFit}
use Rattle.lease_histories.specs.Entries.{Served}
use Rattle.lease_histories.specs.Legal.{IsLegal, IsNextEntry, IsOpening, state_after}
use Rattle.lease_histories.specs.Laws.{BasesDisclose, BasesRise, EpochsDisclose, GivesUp, IsWithinAge, OpeningsDisclose, StartsDisclose, WasGranted}
use Rattle.lease_histories.specs.PlainHouses.{with_kept}
use Rattle.lease_histories.proofs.Growing.{along, if-some, no-earlier, prefix-legal, state-more}
use Rattle.lease_histories.proofs.EntryKinds.{IsWell, well-after, well-step}

within-age : (g m base : ℕ) → g ≤ m → g ≤ base → g + epoch_of m base ≤ m
within-age g m base h k = omega (arith, h, k)

-- ---- what was granted

granted-by : (s : State) (m g : ℕ) → IsReached s → WasGranted (live s.table m) g → g ≤ s.last
granted-by s m g reached h =
    elim (IsIn-append (map (λ l. l.granted) (live s.table m).maps) (map (λ l. l.granted) (live s.table m).peers) g
    (IsIn-from_Contains (map (λ l. l.granted) (live s.table m).maps ++ map (λ l. l.granted) (live s.table m).peers) g h)) [
      | inl k ↦ of-maps (IsIn-map (λ (l : MapLease). l.granted) (live s.table m).maps g k)
      | inr k ↦ of-peers (IsIn-map (λ (l : PeerLease). l.granted) (live s.table m).peers g k)
    ]
  where
    of-maps : (l : MapLease) × IsIn l (live s.table m).maps × (l.granted ≡ g) → g ≤ s.last
    of-maps (l, there, is) =
        let term = All-IsIn (λ (l : MapLease). IsTermAt s.last l.granted l.expiry) s.table.maps l reached.maps (IsIn-filter _ s.table.maps l there).0 in
        let come = term.come in omega (arith, come, is)

    of-peers : (l : PeerLease) × IsIn l (live s.table m).peers × (l.granted ≡ g) → g ≤ s.last
    of-peers (l, there, is) =
        let term = All-IsIn (λ (l : PeerLease). IsTermAt s.last l.granted l.expiry) s.table.peers l reached.peers (IsIn-filter _ s.table.peers l there).0 in
        let come = term.come in omega (arith, come, is)

-- what gives a lease up has a base no earlier than the lease
base-given : (s : State) (r : Record) (g : ℕ) → IsReached s → s.last ≤ r.moment → GivesUp s r g → g ≤ (apply s r).base
base-given s r g reached later gives =
    let granted = granted-by s r.moment g reached gives.live_lease in
    subst (λ b. g ≤ cond b r.moment s.base) (sym gives.how) (omega (arith, granted, later))

-- ---- entries

last-within : (s : State) (kept : Option Record) (m : ℕ) → s.last ≤ m → ((r : Record) → kept ≡ Some r → r.moment ≡ m) → (with_kept s kept).last ≤ m
last-within s None m later at = later
last-within s (Some r) m later at = let same = at r refl in omega (arith, same)

-- the bases told from an entry on are no earlier than that of the state after it
pub bases-disclose : DatagramAsksAreWellFormed → DecisionsFit → BasesDisclose
bases-disclose formed fit x opening before e more g opens legal granted =
    let next = legal before e more refl in
    let well = well-after formed fit x opening (before ++ e ∷ []) opens
    (prefix-legal x opening (before ++ e ∷ []) more (subst (λ es. IsLegal x opening es) (sym (append_assoc before (e ∷ []) more)) legal)) in
    let last : (state_after opening (before ++ e ∷ [])).last ≤ e.moment =
    subst (λ (t : State). t.last ≤ e.moment) (sym (state-more opening before e))
    (last-within (state_after opening before) e.kept e.moment next.after_records (λ r is. if-some e.kept (λ r. r.moment ≡ e.moment) r next.recorded is)) in
    let base = well.reached.base in
    let told = next.base in
    All-weaker (λ p. (e.moment ≤ p.moment) × (e.base ≤ p.base)) (IsWithinAge g)
    (λ p h. within-age g p.moment p.base (omega (arith, granted, base, last, h.0)) (omega (arith, granted, told, h.1)))
    (e ∷ more) (no-earlier x opening before e more legal)

base-rises : (b : Bool) (m base : ℕ) → base ≤ m → base ≤ cond b m base
base-rises true m base h = h
base-rises false m base h = omega arith

pub bases-rise : BasesRise
bases-rise s r reached later =
    let base = reached.base in
    (base-rises (rebases r.change s.address) r.moment s.base (omega (arith, later, base)), λ g gives. base-given s r g reached later gives)

pub epochs-disclose : DatagramAsksAreWellFormed → DecisionsFit → EpochsDisclose
epochs-disclose formed fit x opening before e more opens legal =
    by e.kept refl
  where
    by : (k : Option Record) → e.kept ≡ k → IfSome k (λ r. (g : ℕ) → GivesUp (state_after opening before) r g → AllByRecursion (IsWithinAge g) (e ∷ more))
    by None is = tt
    by (Some r) is = λ g gives.
        let s = state_after opening before in
        let next = legal before e more refl in
        let well = well-after formed fit x opening before opens (prefix-legal x opening before (e ∷ more) legal) in
        let moment = if-some e.kept (λ r. r.moment ≡ e.moment) r next.recorded is in
        let later = next.after_records in
        let given = base-given s r g well.reached (omega (arith, moment, later)) gives in
        bases-disclose formed fit x opening before e more g opens legal
        (subst (λ (t : State). g ≤ t.base) (sym (state-more opening before e ∙ ap (with_kept s) is)) given)

-- ---- the opening state

-- what holds of the entries so far, and of the state
record Risen (opening : State) (before : List Entry) : Type 0 where
  well : IsWell (state_after opening before)
  base : opening.base ≤ (state_after opening before).base
  last : opening.last ≤ (state_after opening before).last
  entries : AllByRecursion (λ p. (opening.last ≤ p.moment) × (opening.base ≤ p.base)) before

kept-rises : (s : State) (kept : Option Record) → IsReached s → ((r : Record) → kept ≡ Some r → s.last ≤ r.moment) →
    (s.base ≤ (with_kept s kept).base) × (s.last ≤ (with_kept s kept).last)
kept-rises s None reached h = (omega arith, omega arith)
kept-rises s (Some r) reached h =
    let later = h r refl in
    let base = reached.base in
    (base-rises (rebases r.change s.address) r.moment s.base (omega (arith, later, base)), later)

risen-step : DatagramAsksAreWellFormed → DecisionsFit → (x : Served) (opening : State) → IsOpening x opening → (before : List Entry) (e : Entry) →
    Risen opening before → IsNextEntry x opening before e → Risen opening (before ++ e ∷ [])
risen-step formed fit x opening opens before e h next =
    let s = state_after opening before in
    let later = next.after_records in
    let rises = kept-rises s e.kept h.well.reached
    (λ r is. let moment = if-some e.kept (λ r. r.moment ≡ e.moment) r next.recorded is in omega (arith, moment, later)) in
    let same = state-more opening before e in
    let rises_base : s.base ≤ (state_after opening (before ++ e ∷ [])).base = subst (λ (t : State). s.base ≤ t.base) (sym same) rises.0 in
    let rises_last : s.last ≤ (state_after opening (before ++ e ∷ [])).last = subst (λ (t : State). s.last ≤ t.last) (sym same) rises.1 in
    let told = next.base in
    let base = h.base in
    let last = h.last in
    record {
      well = well-step formed fit x opening opens before e h.well next;
      base = omega (arith, base, rises_base);
      last = omega (arith, last, rises_last);
      entries = All-push (λ p. (opening.last ≤ p.moment) × (opening.base ≤ p.base)) before e h.entries
          (omega (arith, last, later), omega (arith, base, rises_base, told));
    }

pub starts-disclose : DatagramAsksAreWellFormed → DecisionsFit → StartsDisclose
starts-disclose formed fit x opening entries g opens legal granted =
    let risen = along (Risen opening) x opening (risen-step formed fit x opening opens) [] entries legal
    (record {
      well = record { reached = opens.reached; started = opens.started };
      base = omega arith;
      last = omega arith;
      entries = tt;
    }) in
    let base = opens.reached.base in
    All-weaker (λ p. (opening.last ≤ p.moment) × (opening.base ≤ p.base)) (IsWithinAge g)
    (λ p h. within-age g p.moment p.base (omega (arith, granted, base, h.0)) (omega (arith, granted, h.1))) entries risen.entries

-- ---- the records of the opening state

base-along : (s : State) (rs : List Record) → IsReached s → AllFit s rs → ReachedIsKept → s.base ≤ (apply_all s rs).base
base-along s [] reached fit law = omega arith
base-along s (r ∷ rs) reached fit law =
    let later = fit.0.later in
    let base = reached.base in
    let first = base-rises (rebases r.change s.address) r.moment s.base (omega (arith, later, base)) in
    let rest = base-along (apply s r) rs (law s r reached fit.0) fit.1 law in
    omega (arith, first, rest)

fit-front : (s : State) (xs ys : List Record) → AllFit s (xs ++ ys) → AllFit s xs × AllFit (apply_all s xs) ys
fit-front s [] ys h = (tt, h)
fit-front s (x ∷ xs) ys h = let rest = fit-front (apply s x) xs ys h.1 in ((h.0, rest.0), rest.1)

pub openings-disclose : DatagramAsksAreWellFormed → DecisionsFit → RecordsReach → ReachedIsKept → OpeningsDisclose
openings-disclose formed fit reach law x before r more entries g fits opens legal gives =
    let parts = fit-front empty_state before (r ∷ more) fits in
    let s = state_of before in
    let reached = reach before parts.0 in
    let one = parts.1.0 in
    let given = base-given s r g reached one.later gives in
    let rest = base-along (apply s r) more (law s r reached one) parts.1.1 law in
    let whole : (apply_all (apply s r) more).base ≡ (state_of (before ++ r ∷ more)).base =
    ap (λ (t : State). t.base) (sym (fold-append apply empty_state before (r ∷ more))) in
    starts-disclose formed fit x (state_of (before ++ r ∷ more)) entries g opens legal (omega (arith, given, rest, whole))
