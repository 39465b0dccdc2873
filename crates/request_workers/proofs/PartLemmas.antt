-- Parts of outboxes, links and clocks.
use Rattle.std.proofs.Common.{◌≡◌, ℕ, ◌+◌, Bool, Result, List, [], ◌∷◌, ◌++◌, length, map, slice_set, get_or, Option, refl, sym, ap, ◌∙◌, subst, arith}
use Rattle.std.proofs.lemmas.List.{length-map, map-append}
use Rattle.pcp_base.specs.declared.configs.TheConstants.{MOST_EXTERNALS}
use Rattle.pcp_io.specs.declared.inboxes.InboxItem.{InboxItem}
use Rattle.pcp_io.specs.Times.{Times}
use Rattle.pcp_base.specs.declared.configs.Config.{Config}
use Rattle.pcp_announce.specs.declared.doors.Group.{Group}
use Rattle.lane_index.specs.Lanes.{LaneKnowledge}
use Rattle.lane_loops.specs.LaneRuns.{LaneState}
use Rattle.lane_loops.specs.LaneSets.{LinkState}
use Rattle.job_workers.specs.declared.tallies.TallyRow.{TallyRow}
use Rattle.job_workers.specs.HouseCalls.{HouseCalls}
use Rattle.job_workers.specs.Stations.{OutState}
use Rattle.request_workers.specs.declared.faults.RunFault.{RunFault}
use Rattle.request_workers.specs.Parts.{ArePartsOf}
use Rattle.request_workers.specs.Served.{ServesAll}

-- ---- the last one, in a list of its own

only_one : {X : Type 0} (xs : List X) (x : X) → length xs ≡ 1 → x ≡ get_or xs 0 x → xs ≡ x ∷ []
only_one [] x one read = absurd (omega (arith, one))
only_one {X} (y ∷ []) x one read = ap (λ (z : X). z ∷ []) (sym read)
only_one (y ∷ (z ∷ xs)) x one read = absurd (omega (arith, one))

set_only : {X : Type 0} (xs : List X) (y : X) → length xs ≡ 1 → slice_set xs 0 y ≡ y ∷ []
set_only [] y one = absurd (omega (arith, one))
set_only (x ∷ []) y one = refl
set_only (x ∷ (z ∷ xs)) y one = absurd (omega (arith, one))

pub with_last : {X : Type 0} (all front last : List X) (x : X) → all ≡ front ++ last → length last ≡ 1
    → x ≡ get_or last 0 x → all ≡ front ++ x ∷ []
with_last {X} all front last x e one read = e ∙ ap (λ (l : List X). front ++ l) (only_one last x one read)

pub with_other_last : {X : Type 0} (front last : List X) (y : X) → length last ≡ 1
    → front ++ slice_set last 0 y ≡ front ++ y ∷ []
with_other_last {X} front last y one = ap (λ (l : List X). front ++ l) (set_only last y one)

-- ---- what they tell, in parts

two_parts : {X Y : Type 0} (f : X → Y) (all a b : List X) → all ≡ a ++ b
    → map f all ≡ map f a ++ map f b
two_parts f all a b e = ap (map f) e ∙ map-append f a b

and_last : {X Y : Type 0} (f : X → Y) (all front : List X) (x : X) (parts : List Y)
    → all ≡ front ++ x ∷ [] → map f front ≡ parts → map f all ≡ parts ++ f x ∷ []
and_last {X} {Y} f all front x parts e d =
    two_parts f all front (x ∷ []) e ∙ ap (λ (l : List Y). l ++ f x ∷ []) d

told-length : {X Y : Type 0} (f : X → Y) (xs : List X) (count : ℕ) → length xs ≡ count
    → length (map f xs) ≡ count
told-length f xs count e = length-map xs f ∙ e

rest-length : {X Y : Type 0} (f : X → Y) (xs : List X) (count most : ℕ) → count + length xs ≡ most
    → count + length (map f xs) ≡ most
rest-length f xs count most e = ap (λ n. count + n) (length-map xs f) ∙ e

pub parts_of : {P O L T : Type 0} (f : O → OutState) (g : L → LinkState) (h : T → Option Times)
    (count : ℕ) (passes : List P) (lanes : List LaneKnowledge)
    (left : Option (List InboxItem)) (faults : ℕ)
    (outs front_outs outs1 outs2 : List O) (out : O) (links links1 links2 : List L)
    (clocks front_clocks first later clocks1 clocks2 lane1 lane2 : List T) (clock : T)
    → outs ≡ front_outs ++ out ∷ [] → front_outs ≡ outs1 ++ outs2 → links ≡ links1 ++ links2
    → clocks ≡ front_clocks ++ clock ∷ [] → front_clocks ≡ first ++ later
    → first ≡ clocks1 ++ clocks2 → later ≡ lane1 ++ lane2
    → length outs1 ≡ count → length clocks1 ≡ count → length links1 ≡ count
    → length lane1 ≡ count
    → count + length outs2 ≡ MOST_EXTERNALS → count + length clocks2 ≡ MOST_EXTERNALS
    → count + length links2 ≡ MOST_EXTERNALS → count + length lane2 ≡ MOST_EXTERNALS
    → ArePartsOf {P = P} count
    (record {
      outs = map f outs1;
      clocks = map h clocks1;
      links = map g links1;
      lane_clocks = map h lane1;
      out = f out;
      clock = h clock;
    })
    (record {
      outs = map f outs2;
      clocks = map h clocks2;
      links = map g links2;
      lane_clocks = map h lane2;
    })
    (record {
      passes = passes;
      lanes = lanes;
      left = left;
      faults = faults;
      outs = map f outs;
      links = map g links;
      clocks = map h clocks;
    })
parts_of f g h count passes lanes left faults outs front_outs outs1 outs2 out links links1 links2 clocks front_clocks first later clocks1 clocks2 lane1 lane2 clock
    o1 o2 l1 c1 c2 c3 c4 n1 n2 n3 n4 m1 m2 m3 m4 = record {
      outs = and_last f outs front_outs out _ o1 (two_parts f front_outs outs1 outs2 o2);
      links = two_parts g links links1 links2 l1;
      clocks = and_last h clocks front_clocks clock _ c1
          (two_parts h front_clocks first later c2
          ∙ (ap (λ (l : List (Option Times)). l ++ map h later) (two_parts h first clocks1 clocks2 c3)
          ∙ ap (λ (l : List (Option Times)). (map h clocks1 ++ map h clocks2) ++ l) (two_parts h later lane1 lane2 c4)));
      out_count = told-length f outs1 count n1;
      clock_count = told-length h clocks1 count n2;
      link_count = told-length g links1 count n3;
      lane_clock_count = told-length h lane1 count n4;
      all_outs_count = rest-length f outs2 count MOST_EXTERNALS m1;
      all_clocks_count = rest-length h clocks2 count MOST_EXTERNALS m2;
      all_links_count = rest-length g links2 count MOST_EXTERNALS m3;
      all_lane_clocks_count = rest-length h lane2 count MOST_EXTERNALS m4;
    }

-- ---- what was read of the dispatcher's outbox and clock

pub serves_with : {P : Type 0} (house : HouseCalls P) (config : Config) (groups : List Group) (port : ℕ)
    (fresh : Bool) (asking asked : P) (out out_read out_new : OutState)
    (clock clock_read clock_new : Option Times) (left left' : Option (List InboxItem))
    (faults faults' : ℕ) (read : Result (Unit {0}) RunFault) (outs outs' : List OutState)
    (times times' : List (Option Times)) (lanes lanes' : List LaneState) (passes passes' : List P)
    (rows : List TallyRow) → out ≡ out_read → clock ≡ clock_read
    → ServesAll house config groups port fresh asking asked out_read out_new clock_read clock_new
    left left' faults faults' read outs outs' times times' lanes lanes' passes passes' rows
    → ServesAll house config groups port fresh asking asked out out_new clock clock_new
    left left' faults faults' read outs outs' times times' lanes lanes' passes passes' rows
serves_with house config groups port fresh asking asked out out_read out_new clock clock_read clock_new left left' faults faults' read outs outs' times times' lanes lanes' passes passes' rows e d s =
    subst (λ (o : OutState). ServesAll house config groups port fresh asking asked o out_new clock clock_new left left' faults faults' read outs outs' times times' lanes lanes' passes passes' rows) (sym e)
    (subst (λ (t : Option Times). ServesAll house config groups port fresh asking asked out_read out_new t clock_new left left' faults faults' read outs outs' times times' lanes lanes' passes passes' rows) (sym d) s)
