-- The lines of a script as calls of a house.
use Rattle.std.proofs.Common.{◌≡◌, ◌∙◌, ℕ, zero, suc, ◌==◌, Bool, true, false, cond, List, [], ◌∷◌, ◌++◌, length, map, filter, Option, Some, None, refl, sym, ap, subst, inl, inr, arith}
use Rattle.std.specs.Prelude.{slice_get, slice_set}
use Rattle.std.specs.List.{AllByRecursion, cons_option}
use Rattle.std.proofs.lemmas.Bool.{eq-eqb, eqb-true}
use Rattle.std.proofs.lemmas.Option.{slice_get_within}
use Rattle.hex.proofs.HexLemmas.{decode_of-ok}
use Rattle.pcp_base.specs.declared.configs.Config.{Config}
use Rattle.pcp_base.specs.declared.configs.External.{External}
use Rattle.pcp_base.specs.declared.datagrams.Entry.{Entry}
use Rattle.pcp_base.specs.declared.records.Record.{Record}
use Rattle.pcp_base.specs.Apply.{apply_all}
use Rattle.pcp_base.specs.States.{State}
use Rattle.pcp_base.proofs.Members.{IsIn, IsIn-from_Contains}
use Rattle.pcp_options.specs.Responses.{AreOctets}
use Rattle.pcp_script.specs.Fields.{IsHexField}
use Rattle.pcp_script.specs.Lines.{IsEvent, IsPacket}
use Rattle.pcp_script.specs.declared.lines.Line.{Line}
use Rattle.pcp_script.specs.declared.lines.Line.TheVariants as Lines
use Rattle.script_player.specs.Houses.{after_lines, houses_along}
use Rattle.script_player.specs.Scripts.{AreLines}
use Rattle.lease_histories.specs.HouseHistories.{HouseEntry, entries_at}
use Rattle.lease_histories.specs.Laws.{CallsMakeHistories, IsCallValue}
use Rattle.lease_histories.specs.Legal.{records_of, state_after}
use Rattle.lease_histories.specs.PlainHouses.{HouseCall, Loss, PlainHouse, PlainShard, add_by, call_after, call_entry, call_place, entries_along, house_begun, placed, shard_after, shards_begun, with_kept}
use Rattle.house_lines.specs.HouseEffects.{house_effects}
use Rattle.house_lines.specs.HouseWays.{also-there}
use Rattle.house_lines.specs.LineLaws.{HousesAreOfEntries, LinesAreCalls, LinesMakeHistories, after_calls, line_calls}
use Rattle.house_lines.proofs.CallLemmas.{length-set}
use Rattle.house_lines.proofs.StateLemmas.{get-set-same}

pub lines-are-calls : LinesAreCalls
lines-are-calls house [] = refl
lines-are-calls house (Lines.Skip ∷ lines) = lines-are-calls house lines
lines-are-calls house (Lines.Packet now from ∷ lines) = lines-are-calls (house_effects.after house (Lines.Packet now from)) lines
lines-are-calls house (Lines.Look m shard protocol port remote remote_port ∷ lines) = lines-are-calls house lines
lines-are-calls house (Lines.Lose now shard ∷ lines) = lines-are-calls (house_effects.after house (Lines.Lose now shard)) lines
lines-are-calls house (Lines.Owners m shard ∷ lines) = lines-are-calls house lines

hex-octets : (text octets : List ℕ) → IsHexField text octets → AreOctets octets
hex-octets text octets (inl (dash, none)) = rw none (λ i. omega arith)
hex-octets text octets (inr (some, few, decoded)) = (decode_of-ok text octets decoded).3

module _ (config : Config) where
  event-value : (word text : List ℕ) (fields : List (List ℕ)) (now shard : ℕ) → IsEvent word config.externals fields now shard → IsCallValue config (Loss now shard)
  event-value word text fields now shard e = (e.moment_is.1, slice_get_within config.externals shard e.shard_is.external e.shard_is.place)

  calls-have : (texts : List (List ℕ)) (lines : List Line) → AreLines config.externals texts lines → AllByRecursion (IsCallValue config) (line_calls lines)
  calls-have [] [] all = tt
  calls-have [] (line ∷ lines) all = absurd all
  calls-have (text ∷ texts) [] all = absurd all
  calls-have (text ∷ texts) (Lines.Skip ∷ lines) all = calls-have texts lines all.1
  calls-have (text ∷ texts) (Lines.Packet now from ∷ lines) all =
      let p : IsPacket all.0.written.0 now from = all.0.written.2 in
      ((p.moment_is.1, hex-octets p.hex_text from.octets p.octets_are), calls-have texts lines all.1)
  calls-have (text ∷ texts) (Lines.Look m shard protocol port remote remote_port ∷ lines) all = calls-have texts lines all.1
  calls-have (text ∷ texts) (Lines.Lose now shard ∷ lines) all =
      (event-value _ text all.0.written.0 now shard all.0.written.2, calls-have texts lines all.1)
  calls-have (text ∷ texts) (Lines.Owners m shard ∷ lines) all = calls-have texts lines all.1

pub lines-make-histories : CallsMakeHistories → LinesMakeHistories
lines-make-histories law config openings texts lines opened all = law config openings (line_calls lines) opened (calls-have config texts lines all)

-- ---- the states of houses along the lines

-- what a call adds to the entries of an external address, and to its state
with-kept-more : (s : State) (k : Option Record) (rs : List Record) → apply_all (with_kept s k) rs ≡ apply_all s (cons_option k rs)
with-kept-more s None rs = refl
with-kept-more s (Some r) rs = refl

state-first : (s : State) (e : Entry) (es : List Entry) → state_after (with_kept s e.kept) es ≡ state_after s (e ∷ es)
state-first s e es = with-kept-more s e.kept (records_of es)

-- where the states of a house stand after calls
abbrev IsOfEntries : PlainHouse → List HouseCall → Type 0
IsOfEntries house calls = (place : ℕ) (s z : PlainShard) → slice_get house.shards place ≡ Some s → slice_get (after_calls house calls).shards place ≡ Some z →
    z.state ≡ state_after s.state (entries_at place (entries_along house calls))

-- of an entry of another external address nothing is added
entries-elsewhere : (at place : ℕ) (e : Entry) (hs : List HouseEntry) → (at == place) ≡ false → entries_at place (record { place = at; entry = e } ∷ hs) ≡ entries_at place hs
entries-elsewhere at place e hs is =
    let kept = filter (λ h. h.place == place) hs in
    ap (λ b. map (λ h. h.entry) (cond b (record { place = at; entry = e } ∷ kept) kept)) is

entries-here : (at place : ℕ) (e : Entry) (hs : List HouseEntry) → (at == place) ≡ true → entries_at place (record { place = at; entry = e } ∷ hs) ≡ e ∷ entries_at place hs
entries-here at place e hs is =
    let kept = filter (λ h. h.place == place) hs in
    ap (λ b. map (λ h. h.entry) (cond b (record { place = at; entry = e } ∷ kept) kept)) is

get-set-other : {X : Type 0} (xs : List X) (i j : ℕ) (y z : X) → ¬ (i ≡ j) → slice_get xs j ≡ Some z → slice_get (slice_set xs i y) j ≡ Some z
get-set-other [] i j y z other h = absurd cc
get-set-other (x ∷ xs) zero zero y z other h = absurd (other refl)
get-set-other (x ∷ xs) zero (suc j) y z other h = h
get-set-other (x ∷ xs) (suc i) zero y z other h = h
get-set-other (x ∷ xs) (suc i) (suc j) y z other h = get-set-other xs i j y z (λ e. other (ap (λ n. suc n) e)) h

by-found : (house : PlainHouse) (at : ℕ) (found : Option PlainShard) (e : Option Entry) (calls : List HouseCall) → slice_get house.shards at ≡ found →
    IsOfEntries (add_by house at found e) calls → (place : ℕ) (s z : PlainShard) → slice_get house.shards place ≡ Some s →
    slice_get (after_calls (add_by house at found e) calls).shards place ≡ Some z →
    z.state ≡ state_after s.state (entries_at place (cons_option (placed at e) (entries_along (add_by house at found e) calls)))
by-found house at None None calls is along place s z hs hz = along place s z hs hz
by-found house at (Some f) None calls is along place s z hs hz = along place s z hs hz
by-found house at None (Some e) calls is along place s z hs hz = go (at == place) refl
  where
    go : (b : Bool) → (at == place) ≡ b → z.state ≡ state_after s.state (entries_at place (record { place = at; entry = e } ∷ entries_along house calls))
    go true same =
        let there : slice_get house.shards at ≡ Some s = subst (λ p. slice_get house.shards p ≡ Some s) (sym (eqb-true at place same)) hs in
        absurd (let bad : None ≡ Some s = sym is ∙ there in cc)
    go false other = along place s z hs hz ∙ ap (λ es. state_after s.state es) (sym (entries-elsewhere at place e (entries_along house calls) other))
by-found house at (Some f) (Some e) calls is along place s z hs hz = go (at == place) refl
  where
    next : PlainHouse
    next = record house { shards = slice_set house.shards at (shard_after f e) }

    go : (b : Bool) → (at == place) ≡ b → z.state ≡ state_after s.state (entries_at place (record { place = at; entry = e } ∷ entries_along next calls))
    go true same =
        let at_is = eqb-true at place same in
        let there : slice_get house.shards place ≡ Some f = subst (λ p. slice_get house.shards p ≡ Some f) at_is is in
        let both : f ≡ s = (let same_item : Some f ≡ Some s = sym there ∙ hs in cc) in
        let after : slice_get next.shards place ≡ Some (shard_after f e) =
        subst (λ p. slice_get (slice_set house.shards p (shard_after f e)) place ≡ Some (shard_after f e)) (sym at_is) (get-set-same house.shards place f (shard_after f e) there) in
        along place (shard_after f e) z after hz
        ∙ ap (λ (t : PlainShard). state_after (with_kept t.state e.kept) (entries_at place (entries_along next calls))) both
        ∙ state-first s.state e (entries_at place (entries_along next calls))
        ∙ ap (λ es. state_after s.state es) (sym (entries-here at place e (entries_along next calls) same))
    go false other =
        let differs : ¬ (at ≡ place) = λ at_is. absurd (let true_is = eq-eqb at place at_is in let bad : true ≡ false = sym true_is ∙ other in cc) in
        along place s z (get-set-other house.shards at place (shard_after f e) s differs hs) hz
        ∙ ap (λ es. state_after s.state es) (sym (entries-elsewhere at place e (entries_along next calls) other))

states-along : (house : PlainHouse) (calls : List HouseCall) → IsOfEntries house calls
states-along house [] place s z hs hz = let same : z ≡ s = (let both : Some z ≡ Some s = sym hz ∙ hs in cc) in ap (λ (t : PlainShard). t.state) same
states-along house (call ∷ calls) place s z hs hz =
    by-found house (call_place house call) (slice_get house.shards (call_place house call)) (call_entry house call) calls refl (states-along (call_after house call) calls) place s z hs hz

-- a house along the lines is that after some first ones
record IsFront (house : PlainHouse) (lines : List Line) (x : PlainHouse) : Type 0 where
  front : List Line
  back : List Line
  lines_are : lines ≡ front ++ back
  house_is : x ≡ after_lines house_effects house front

along-front : (house : PlainHouse) (lines : List Line) (x : PlainHouse) → IsIn x (houses_along house_effects house lines) → IsFront house lines x
along-front house [] x (inl e) = record { front = []; back = []; lines_are = refl; house_is = sym e }
along-front house [] x (inr h) = absurd h
along-front house (line ∷ lines) x (inl e) = record { front = []; back = line ∷ lines; lines_are = refl; house_is = sym e }
along-front house (line ∷ lines) x (inr h) =
    let f = along-front (house_effects.after house line) lines x h in
    record { front = line ∷ f.front; back = f.back; lines_are = ap (λ ls. line ∷ ls) f.lines_are; house_is = f.house_is }

begun-there : (xs : List External) (ss : List State) (place : ℕ) (opening : State) (z : PlainShard) (zs : List PlainShard) → length zs ≡ length (shards_begun xs ss) →
    slice_get zs place ≡ Some z → slice_get ss place ≡ Some opening → (s : PlainShard) × (slice_get (shards_begun xs ss) place ≡ Some s) × (s.state ≡ opening)
begun-there xs ss place opening z zs same hz ho = go (also-there (shards_begun xs ss) zs place z same hz)
  where
    states : (xs : List External) (ss : List State) (place : ℕ) (s : PlainShard) → slice_get (shards_begun xs ss) place ≡ Some s → slice_get ss place ≡ Some s.state
    states [] ss place s h = absurd cc
    states (x ∷ xs) [] place s h = absurd cc
    states (x ∷ xs) (t ∷ ts) zero s h =
        let made : PlainShard = record { external = x; state = t; last = t.last } in
        let same : made ≡ s = cc in
        ap (λ (u : PlainShard). Some u.state) same
    states (x ∷ xs) (t ∷ ts) (suc place) s h = states xs ts place s h

    go : (s : PlainShard) × (slice_get (shards_begun xs ss) place ≡ Some s) → (s : PlainShard) × (slice_get (shards_begun xs ss) place ≡ Some s) × (s.state ≡ opening)
    go (s, there) = (s, there, (let both : Some s.state ≡ Some opening = sym (states xs ss place s there) ∙ ho in cc))

-- calls change no number of external addresses
add-count : (house : PlainHouse) (at : ℕ) (found : Option PlainShard) (e : Option Entry) → length (add_by house at found e).shards ≡ length house.shards
add-count house at None e = refl
add-count house at (Some f) None = refl
add-count house at (Some f) (Some e) = length-set house.shards at (shard_after f e)

calls-count : (house : PlainHouse) (calls : List HouseCall) → length (after_calls house calls).shards ≡ length house.shards
calls-count house [] = refl
calls-count house (call ∷ calls) =
    calls-count (call_after house call) calls ∙ add-count house (call_place house call) (slice_get house.shards (call_place house call)) (call_entry house call)

pub houses-are-of-entries : HousesAreOfEntries
houses-are-of-entries config openings lines house along =
    let begun = house_begun config openings in
    let f = along-front begun lines house (IsIn-from_Contains (houses_along house_effects begun lines) house along) in
    let calls = line_calls f.front in
    let after : house ≡ after_calls begun calls = f.house_is ∙ lines-are-calls begun f.front in
    record {
      front = f.front;
      back = f.back;
      lines_are = f.lines_are;
      house_is = f.house_is;
      states = λ place opening shard ho hs.
          let there : slice_get (after_calls begun calls).shards place ≡ Some shard = subst (λ (h : PlainHouse). slice_get h.shards place ≡ Some shard) after hs in
          let s = begun-there config.externals openings place opening shard (after_calls begun calls).shards (calls-count begun calls) there ho in
          states-along begun calls place s.0 shard s.1 there ∙ ap (λ state. state_after state (entries_at place (entries_along begun calls))) s.2;
    }
