-- Decisions one after the other, and what is kept of them.
use Rattle.std.proofs.Common.{◌≡◌, ℕ, ◌+◌, ◌≤◌, List, [], ◌∷◌, ◌++◌, length, length-append, Option, Some, None, refl, ◌∙◌, ap, subst, append_assoc, arith}
use Rattle.std.specs.Prelude.{IfSome, MatchOption}
use Rattle.pcp_base.specs.declared.asks.Ask.{Ask}
use Rattle.pcp_base.specs.declared.asks.Ask.TheVariants as Asks
use Rattle.pcp_base.specs.declared.asks.MapAsk.{MapAsk}
use Rattle.pcp_base.specs.declared.asks.PeerAsk.{PeerAsk}
use Rattle.pcp_base.specs.declared.records.Record.{Record}
use Rattle.pcp_base.specs.Apply.{apply, apply_all}
use Rattle.pcp_base.specs.Fits.{AllFit, Fits}
use Rattle.pcp_base.specs.States.{State}
use Rattle.lease_store.specs.declared.terms.Terms.{Terms}
use Rattle.lease_core.specs.Decide.{decide}
use Rattle.journal_sides.specs.declared.layout.TheConstants.{MOST_APPENDED}
use Rattle.lease_core.proofs.Deeds.{MapDeed, drop, renew, grant, map_deed, PeerDeed, drop_peer, renew_peer, grant_peer, peer_deed}
use Rattle.lease_journal.proofs.StandingLaws.{apply_all-append}
use Rattle.lease_core.specs.declared.decided.Decided.{Decided}
use Rattle.shard_book.specs.declared.batches.Answered.{Answered}
use Rattle.shard_book.specs.Batches.{answer_at, answers_at, decide_all, kept_before, records_kept, with_kept}
use Rattle.shard_book.proofs.StateLemmas.{fit_append}

-- ---- no decision tells another address

map_address : (terms : Terms) (s : State) (m : ℕ) (ask : MapAsk) (r : Record) → MapDeed terms s m ask r → (apply s r).address ≡ s.address
map_address terms s m ask r (drop lease found nonce is) = subst (λ (x : Record). (apply s x).address ≡ s.address) is refl
map_address terms s m ask r (renew lease found is) = subst (λ (x : Record). (apply s x).address ≡ s.address) is refl
map_address terms s m ask r (grant run found is) = subst (λ (x : Record). (apply s x).address ≡ s.address) is refl

peer_address : (terms : Terms) (s : State) (m : ℕ) (ask : PeerAsk) (r : Record) → PeerDeed terms s m ask r → (apply s r).address ≡ s.address
peer_address terms s m ask r (drop_peer lease found is) = subst (λ (x : Record). (apply s x).address ≡ s.address) is refl
peer_address terms s m ask r (renew_peer lease found is) = subst (λ (x : Record). (apply s x).address ≡ s.address) is refl
peer_address terms s m ask r (grant_peer port found is) = subst (λ (x : Record). (apply s x).address ≡ s.address) is refl

kept_address : (terms : Terms) (s : State) (m : ℕ) (ask : Ask) (r : Record) → (decide terms s m ask).kept ≡ Some r → (apply s r).address ≡ s.address
kept_address terms s m (Asks.Known refusal) r h = absurd cc
kept_address terms s m Asks.Announce r h = absurd cc
kept_address terms s m (Asks.Map ask) r h = map_address terms s m ask r (map_deed terms s m ask r h)
kept_address terms s m (Asks.Peer ask) r h = peer_address terms s m ask r (peer_deed terms s m ask r h)

by_kept : (s : State) (kept : Option Record) → ((r : Record) → kept ≡ Some r → (apply s r).address ≡ s.address) → (with_kept s kept).address ≡ s.address
by_kept s None each = refl
by_kept s (Some r) each = each r refl

pub decided_address : (terms : Terms) (s : State) (m : ℕ) (ask : Ask) → (with_kept s (decide terms s m ask).kept).address ≡ s.address
decided_address terms s m ask = by_kept s (decide terms s m ask).kept (kept_address terms s m ask)

-- ---- one ask

-- the slice of what is kept
pub kept_slice : (kept told : Option Record) (rs : List Record) → MatchOption kept (rs ≡ []) (λ r. rs ≡ r ∷ []) → kept ≡ told → rs ≡ kept_before told []
kept_slice None told rs is same = is ∙ ap (λ (k : Option Record). kept_before k []) same
kept_slice (Some r) told rs is same = is ∙ ap (λ (k : Option Record). kept_before k []) same

pub few_one : (kept : Option Record) → length (kept_before kept []) ≤ MOST_APPENDED
few_one None = let none : length {A = Record} [] ≡ 0 = refl in omega (arith, none)
few_one (Some r) = let one : length (r ∷ []) ≡ 1 = refl in omega (arith, one)

-- ---- one turn

pub more_kept : (rs : List Record) (kept : Option Record) (more : List Record) → (rs ++ kept_before kept []) ++ more ≡ rs ++ kept_before kept more
more_kept rs None more = append_assoc rs [] more
more_kept rs (Some r) more = append_assoc rs (r ∷ []) more

pub apply_kept : (s : State) (rs : List Record) (kept : Option Record) → apply_all s (rs ++ kept_before kept []) ≡ with_kept (apply_all s rs) kept
apply_kept s rs None = apply_all-append s rs []
apply_kept s rs (Some r) = apply_all-append s rs (r ∷ [])

pub kept_state : (later s : State) (kept : Option Record) → later ≡ with_kept s kept → later ≡ apply_all s (kept_before kept [])
kept_state later s None is = is
kept_state later s (Some r) is = is

pub fit_kept : (s : State) (rs : List Record) (kept : Option Record) → AllFit s rs → IfSome kept (Fits (apply_all s rs)) → AllFit s (rs ++ kept_before kept [])
fit_kept s rs None fit fits = fit_append s rs [] fit tt
fit_kept s rs (Some r) fit fits = fit_append s rs (r ∷ []) fit (fits, tt)

pub turn_answers : (terms later_terms : Terms) (s later : State) (m base : ℕ) (ask : Ask) (rest asks : List Ask) (d : Decided) (answers more all : List Answered) → asks ≡ ask ∷ rest → d ≡ decide terms s m ask → later ≡ with_kept s d.kept → later_terms ≡ terms → more ≡ answers ++ answer_at m base d ∷ []
    → answers ++ answers_at m base (decide_all terms s m asks) ≡ all → more ++ answers_at m base (decide_all later_terms later m rest) ≡ all
turn_answers terms later_terms s later m base ask rest asks d answers more all asks_is d_is later_is terms_is more_is so_far =
    let dd = decide terms s m ask in
    let F : Decided → State → Terms → List Answered = λ x u t. answers ++ (answer_at m base x ∷ answers_at m base (decide_all t u m rest)) in
    let whole : F dd (with_kept s dd.kept) terms ≡ all = subst (λ (l : List Ask). answers ++ answers_at m base (decide_all terms s m l) ≡ all) asks_is so_far in
    let there : later ≡ with_kept s dd.kept = later_is ∙ ap (λ (x : Decided). with_kept s x.kept) d_is in
    ap (λ (l : List Answered). l ++ answers_at m base (decide_all later_terms later m rest)) more_is
    ∙ append_assoc answers (answer_at m base d ∷ []) (answers_at m base (decide_all later_terms later m rest))
    ∙ ap (λ (x : Decided). F x later later_terms) d_is ∙ ap (λ (u : State). F dd u later_terms) there ∙ ap (λ (t : Terms). F dd (with_kept s dd.kept) t) terms_is ∙ whole

pub turn_records : (terms later_terms : Terms) (s later : State) (m : ℕ) (ask : Ask) (rest asks : List Ask) (d : Decided) (records more all : List Record) → asks ≡ ask ∷ rest → d ≡ decide terms s m ask → later ≡ with_kept s d.kept → later_terms ≡ terms → more ≡ records ++ kept_before d.kept []
    → records ++ records_kept (decide_all terms s m asks) ≡ all → more ++ records_kept (decide_all later_terms later m rest) ≡ all
turn_records terms later_terms s later m ask rest asks d records more all asks_is d_is later_is terms_is more_is so_far =
    let dd = decide terms s m ask in
    let F : Decided → State → Terms → List Record = λ x u t. records ++ kept_before x.kept (records_kept (decide_all t u m rest)) in
    let whole : F dd (with_kept s dd.kept) terms ≡ all = subst (λ (l : List Ask). records ++ records_kept (decide_all terms s m l) ≡ all) asks_is so_far in
    let there : later ≡ with_kept s dd.kept = later_is ∙ ap (λ (x : Decided). with_kept s x.kept) d_is in
    ap (λ (l : List Record). l ++ records_kept (decide_all later_terms later m rest)) more_is
    ∙ more_kept records d.kept (records_kept (decide_all later_terms later m rest))
    ∙ ap (λ (x : Decided). F x later later_terms) d_is ∙ ap (λ (u : State). F dd u later_terms) there ∙ ap (λ (t : Terms). F dd (with_kept s dd.kept) t) terms_is ∙ whole

pub few_kept : (rs : List Record) (kept : Option Record) (i : ℕ) → length rs ≤ i → length (rs ++ kept_before kept []) ≤ i + 1
few_kept rs None i few = omega (arith, few, length-append rs [])
few_kept rs (Some r) i few = omega (arith, few, length-append rs (r ∷ []))
