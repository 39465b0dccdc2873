-- Entries that are decided one after the other.
use Rattle.std.specs.Prelude.{count_by}
use Rattle.std.specs.List.{AllByRecursion, cons_option, sum_by}
use Rattle.std.proofs.lemmas.List.Sums.{sum_by-append}
use Rattle.std.proofs.lemmas.Bool.Decides.{nat_tests}
use Rattle.std.proofs.Common.{Bool, true, false, cond, eqb, ◌&&◌, if◌then◌else◌, ◌≡◌, ◌∙◌, ℕ, ◌≤◌}
use Rattle.std.proofs.Common.{List, [], ◌∷◌, ◌++◌, length, map, Option, Some, None, refl, ap, sym}
use Rattle.std.proofs.Common.{subst, append_assoc, arith}
use Rattle.std.proofs.lemmas.List.{append-nil}
use Rattle.pcp_base.specs.declared.datagrams.Entry.{Entry}
use Rattle.pcp_base.specs.declared.records.Record.{Record}
use Rattle.pcp_base.specs.Apply.{apply_all}
use Rattle.pcp_base.specs.States.{State}
use Rattle.lease_store.specs.declared.terms.Terms.{Terms}
use Rattle.lease_store.specs.LeaseTerms.{terms_of}
use Rattle.lease_core.specs.declared.decided.Decided.{Decided}
use Rattle.lease_core.specs.Decide.{decide}
use Rattle.shard_book.specs.Batches.{answers_at, decide_all, kept_before, records_kept}
use Rattle.shard_book.specs.Batches as book
use Rattle.lease_histories.specs.Entries.{Served, OfRequest, entry_kind, kind_without_octets}
use Rattle.lease_histories.specs.Entries.{request_entry}
use Rattle.lease_histories.specs.Legal.{IsLegal, IsNextEntry, records_of, state_after, moment_after}
use Rattle.lease_histories.specs.Legal.{base_after}
use Rattle.lease_histories.specs.PlainHouses.{with_kept}
use Rattle.lease_histories.specs.Laws.{Comes, DecisionsComeNext, IsNoLess, NextIsLegal}
use Rattle.pcp_base.specs.declared.datagrams.Datagram.{Datagram}
use Rattle.turned_shards.specs.BatchEntries.{Asked, entry_of, entries_along, reply_in}
use Rattle.turned_shards.specs.FaultCounts.{fault_count, is_of_fault}
use Rattle.turned_shards.specs.Reading.{replies_to}
use Rattle.turned_shards.proofs.Histories.{after-one, state-append}

kept-one : (s : State) (kept : Option Record) → apply_all s (cons_option kept []) ≡ with_kept s kept
kept-one s None = refl
kept-one s (Some r) = refl

same-kept : (s : State) (kept : Option Record) → with_kept s kept ≡ book.with_kept s kept
same-kept s None = refl
same-kept s (Some r) = refl

-- what each of them needs to come next
abbrev pub AreComing : Served → List Asked → Type 0
AreComing x asked = AllByRecursion (λ (a : Asked). Comes x a.from a.request) asked

-- decided on the state to which a legal history leads, they may come behind it
pub along-legal : NextIsLegal → DecisionsComeNext → (x : Served) (opening : State) (terms : Terms) →
    terms ≡ terms_of x.external x.config →
    (asked : List Asked) (log : List Entry) (s : State) (m base : ℕ) → IsLegal x opening log →
    state_after opening log ≡ s → IsNoLess opening log m base → AreComing x asked →
    IsLegal x opening (log ++ entries_along terms s m base asked)
along-legal next decisions x opening terms on [] log s m base legal state less coming =
    subst (IsLegal x opening) (sym (append-nil log)) legal
along-legal next decisions x opening terms on (a ∷ asked) log s m base legal state less coming =
    let d : Decided = decide terms s m a.request.ask in
    let e : Entry = entry_of terms.external.address m base a d in
    let is : request_entry x (state_after opening log) m base a.from a.request ≡ e =
    ap (λ (t : State). request_entry x t m base a.from a.request) state
    ∙ ap (λ (t : Terms). entry_of t.external.address m base a (decide t s m a.request.ask))
    (sym on) in
    let more : IsLegal x opening (log ++ e ∷ []) = next x opening log e legal
    (subst (λ (f : Entry). IsNextEntry x opening log f) is
    (decisions x opening log m base a.from a.request legal less coming.0)) in
    let after = after-one opening log e in
    let leads : state_after opening (log ++ e ∷ []) ≡ with_kept s d.kept =
    state-append opening log (e ∷ [])
    ∙ ap (λ (t : State). apply_all t (cons_option d.kept [])) state ∙ kept-one s d.kept in
    let p : moment_after opening (log ++ e ∷ []) ≡ m = after.0 in
    let q : base_after opening (log ++ e ∷ []) ≡ base = after.1 in
    let again : IsNoLess opening (log ++ e ∷ []) m base =
    record { in_range = less.in_range; later = omega arith; told = omega arith } in
    subst (IsLegal x opening)
    (append_assoc log (e ∷ []) (entries_along terms (with_kept s d.kept) m base asked))
    (along-legal next decisions x opening terms on asked (log ++ e ∷ [])
    (with_kept s d.kept) m base more leads again coming.1)

-- all have the moment, and tell the base
pub along-at : (terms : Terms) (asked : List Asked) (s : State) (m base : ℕ) →
    AllByRecursion (λ (e : Entry). (e.moment ≡ m) × (e.base ≡ base))
    (entries_along terms s m base asked)
along-at terms [] s m base = tt
along-at terms (a ∷ asked) s m base =
    ((refl, refl), along-at terms asked (with_kept s (decide terms s m a.request.ask).kept) m base)

pub along-length : (terms : Terms) (asked : List Asked) (s : State) (m base : ℕ) →
    length (entries_along terms s m base asked) ≡ length asked
along-length terms [] s m base = refl
along-length terms (a ∷ asked) s m base =
    let e = along-length terms asked (with_kept s (decide terms s m a.request.ask).kept) m base in
    omega (arith, e)

records-cons : (kept : Option Record) (more : List Record) →
    cons_option kept more ≡ kept_before kept more
records-cons None more = refl
records-cons (Some r) more = refl

-- their records are those that the book keeps
pub along-records : (terms : Terms) (asked : List Asked) (s : State) (m base : ℕ) →
    records_of (entries_along terms s m base asked)
    ≡ records_kept (decide_all terms s m (map (λ (a : Asked). a.request.ask) asked))
along-records terms [] s m base = refl
along-records terms (a ∷ asked) s m base =
    let d : Decided = decide terms s m a.request.ask in
    records-cons d.kept (records_of (entries_along terms (with_kept s d.kept) m base asked))
    ∙ ap (λ (rs : List Record). kept_before d.kept rs)
    (along-records terms asked (with_kept s d.kept) m base
    ∙ ap (λ (t : State). records_kept
    (decide_all terms t m (map (λ (b : Asked). b.request.ask) asked))) (same-kept s d.kept))

-- the replies are theirs
pub along-replies : (terms : Terms) (asked : List Asked) (s : State) (m base : ℕ) →
    replies_to terms.external.address asked
    (answers_at m base (decide_all terms s m (map (λ (a : Asked). a.request.ask) asked)))
    ≡ map reply_in (entries_along terms s m base asked)
along-replies terms [] s m base = refl
along-replies terms (a ∷ asked) s m base =
    let d : Decided = decide terms s m a.request.ask in
    ap (λ (rs : List Datagram). reply_in (entry_of terms.external.address m base a d) ∷ rs)
    (ap (λ (t : State). replies_to terms.external.address asked
    (answers_at m base (decide_all terms t m (map (λ (b : Asked). b.request.ask) asked))))
    (sym (same-kept s d.kept))
    ∙ along-replies terms asked (with_kept s d.kept) m base)

-- ---- none is a fault

count-none : {X : Type 0} (p : X → Bool) (x : X) (xs : List X) → p x ≡ false →
    count_by p (x ∷ xs) ≡ count_by p xs
count-none p x xs h =
    let a = sum_by-append (λ y. cond {A = ℕ} (p y) 1 0) (x ∷ []) xs in
    let k : cond {A = ℕ} (p x) 1 0 ≡ 0 = ap (λ (b : Bool). cond {A = ℕ} b 1 0) h in
    let o : sum_by (λ y. cond {A = ℕ} (p y) 1 0) (x ∷ []) ≡ cond {A = ℕ} (p x) 1 0 = omega arith in
    a ∙ (let z : sum_by (λ y. cond {A = ℕ} (p y) 1 0) (x ∷ []) ≡ 0 = o ∙ k in omega (arith, z))

kind-by : (b c : Bool) (kept : Option Record) → b ≡ false →
    (if b && c then kind_without_octets kept else OfRequest) ≡ OfRequest
kind-by false c kept h = refl
kind-by true c kept h = absurd cc

pub kind-of-request : (e : Entry) → 2 ≤ length e.from.octets → entry_kind e ≡ OfRequest
kind-of-request e long =
    let some : eqb (length e.from.octets) 0 ≡ false = grind (arith, nat_tests) in
    kind-by (eqb (length e.from.octets) 0) (eqb (length e.reply) 0) e.kept some

pub along-no-faults : (terms : Terms) (asked : List Asked) (s : State) (m base : ℕ) →
    AllByRecursion (λ (a : Asked). 2 ≤ length a.from.octets) asked →
    fault_count (entries_along terms s m base asked) ≡ 0
along-no-faults terms [] s m base long = refl
along-no-faults terms (a ∷ asked) s m base long =
    let d : Decided = decide terms s m a.request.ask in
    count-none (λ (e : Entry). is_of_fault (entry_kind e))
    (entry_of terms.external.address m base a d)
    (entries_along terms (with_kept s d.kept) m base asked)
    (ap is_of_fault (kind-of-request (entry_of terms.external.address m base a d) long.0))
    ∙ along-no-faults terms asked (with_kept s d.kept) m base long.1
