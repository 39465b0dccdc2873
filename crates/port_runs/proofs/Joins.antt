-- Nodes and flags that change, and which nodes stay those of their children.
use Rattle.std.proofs.Common.{◌≡◌, ◌≢◌, ℕ, ◌+◌, ◌-◌, ◌*◌, ◌/◌, ◌<◌, ◌≤◌, Bool, true, false, List, length, slice_index_or, slice_set, refl, sym, ◌∙◌, ap, subst, arith, inl, inr, get_or-set_other, get_or-set_same}
use Rattle.std.proofs.lemmas.Bool.{cases_lt, cases_eq}
use Rattle.std.proofs.lemmas.List.{length-set}
use Rattle.std.specs.Bool.{OnFalse}
use Rattle.port_runs.specs.declared.node.Node.{Node}
use Rattle.port_runs.specs.Flags.{IsMarked, IsSetBetween}
use Rattle.port_runs.specs.Nodes.{IsLongest, IsSummary, empty_node, join, node_at, IsLeaf, AreLeaves, AreLeavesBut, HaveSameLeaves, IsJoined, AreJoined, AreJoinedBut, IsTreeOf}
use Rattle.port_runs.proofs.Summary.{empty_summary}

IsJoined-set_other : (nodes : List Node) (i : ℕ) (node : Node) (place : ℕ) → place ≢ i → 2 * place ≢ i → 2 * place + 1 ≢ i → IsJoined nodes place → IsJoined (slice_set nodes i node) place
IsJoined-set_other nodes i node place here left right h =
    get_or-set_other nodes i place node empty_node here
    ∙ (h
    ∙ sym (ap (λ (l : Node). join l (node_at (slice_set nodes i node) (2 * place + 1))) (get_or-set_other nodes i (2 * place) node empty_node left)
    ∙ ap (λ (r : Node). join (node_at nodes (2 * place)) r) (get_or-set_other nodes i (2 * place + 1) node empty_node right)))

IsJoined-set_same : (nodes : List Node) (place : ℕ) → 1 ≤ place → place < length nodes → IsJoined (slice_set nodes place (join (node_at nodes (2 * place)) (node_at nodes (2 * place + 1)))) place
IsJoined-set_same nodes place some within =
    let node = join (node_at nodes (2 * place)) (node_at nodes (2 * place + 1)) in
    get_or-set_same nodes place node empty_node within
    ∙ sym (ap (λ (l : Node). join l (node_at (slice_set nodes place node) (2 * place + 1))) (get_or-set_other nodes place (2 * place) node empty_node (omega arith))
    ∙ ap (λ (r : Node). join (node_at nodes (2 * place)) r) (get_or-set_other nodes place (2 * place + 1) node empty_node (omega arith)))

-- while the nodes from low to high are made anew, those before a place are done
pub record Rejoining (low high place : ℕ) (nodes : List Node) : Type 0 where
  pub all : length nodes ≡ 2048
  pub below : (j : ℕ) → 1 ≤ j → j < place → j < low / 2 → j < 1024 → IsJoined nodes j
  pub between : (j : ℕ) → 1 ≤ j → j < place → high / 2 < j → j < 1024 → IsJoined nodes j
  pub above : (j : ℕ) → high < j → j < 1024 → IsJoined nodes j

pub rejoining_begins : (low high : ℕ) (nodes : List Node) → AreJoinedBut low high nodes → Rejoining low high low nodes
rejoining_begins low high nodes h = record {
  all = h.all;
  below = λ j some before out small. h.below j some before small;
  between = λ j some before out small. h.below j some before small;
  above = λ j past small. h.above j past small;
}

pub rejoining_ends : (low high place : ℕ) (nodes : List Node) → high < place → Rejoining low high place nodes → AreJoinedBut (low / 2) (high / 2) nodes
rejoining_ends low high place nodes done h = record {
  all = h.all;
  below = λ j some out small. elim (cases_lt j place) [ inl before ↦ h.below j some before out small | inr past ↦ h.above j (omega arith) small ];
  above = λ j out small. elim (cases_lt j place) [ inl before ↦ h.between j (omega arith) before out small | inr past ↦ h.above j (omega arith) small ];
}

pub rejoining_more : (low high place : ℕ) (nodes : List Node) → low ≤ place → place ≤ high → high < 1024 → Rejoining low high place nodes
    → Rejoining low high (place + 1) (slice_set nodes place (join (node_at nodes (2 * place)) (node_at nodes (2 * place + 1))))
rejoining_more low high place nodes from to small h =
    let node = join (node_at nodes (2 * place)) (node_at nodes (2 * place + 1)) in
    record {
      all = length-set nodes place node ∙ h.all;
      below = λ j some before out fits. elim (cases_eq j place) [
        | inl here ↦ subst (λ (i : ℕ). IsJoined (slice_set nodes place node) i) (sym here) (IsJoined-set_same nodes place (omega arith) (omega (arith, h.all)))
        | inr other ↦ IsJoined-set_other nodes place node j other (omega arith) (omega arith) (h.below j some (omega arith) out fits)
      ];
      between = λ j some before out fits. elim (cases_eq j place) [
        | inl here ↦ subst (λ (i : ℕ). IsJoined (slice_set nodes place node) i) (sym here) (IsJoined-set_same nodes place (omega arith) (omega (arith, h.all)))
        | inr other ↦ IsJoined-set_other nodes place node j other (omega arith) (omega arith) (h.between j some (omega arith) out fits)
      ];
      above = λ j past fits. IsJoined-set_other nodes place node j (omega arith) (omega arith) (omega arith) (h.above j past fits);
    }

-- and where no node is another than before, those before the place are all joined
pub record Rejoined (low high place : ℕ) (old nodes : List Node) (changed : Bool) : Type 0 where
  pub way : Rejoining low high place nodes
  pub leaves : HaveSameLeaves old nodes
  pub still : changed ≡ false → AreJoinedBut place high nodes

-- a node above the leaves that is written anew
pub rejoined_more : (low high place : ℕ) (old nodes : List Node) (changed : Bool) → low ≤ place → place ≤ high → high < 1024 → Rejoined low high place old nodes changed
    → Rejoined low high (place + 1) old (slice_set nodes place (join (node_at nodes (2 * place)) (node_at nodes (2 * place + 1)))) true
rejoined_more low high place old nodes changed from to small h = record {
  way = rejoining_more low high place nodes from to small h.way;
  leaves = λ leaf past. get_or-set_other nodes place leaf (join (node_at nodes (2 * place)) (node_at nodes (2 * place + 1))) empty_node (omega arith) ∙ h.leaves leaf past;
  still = λ same. (cc);
}

-- a node that is right already needs no write
pub rejoined_still : (low high place : ℕ) (old nodes : List Node) (changed : Bool) → IsJoined nodes place → Rejoined low high place old nodes changed → Rejoined low high (place + 1) old nodes changed
rejoined_still low high place old nodes changed right h = record {
  way = record {
    all = h.way.all;
    below = λ j some before out fits. elim (cases_eq j place) [
      | inl here ↦ subst (λ (i : ℕ). IsJoined nodes i) (sym here) right
      | inr other ↦ h.way.below j some (omega arith) out fits
    ];
    between = λ j some before out fits. elim (cases_eq j place) [
      | inl here ↦ subst (λ (i : ℕ). IsJoined nodes i) (sym here) right
      | inr other ↦ h.way.between j some (omega arith) out fits
    ];
    above = h.way.above;
  };
  leaves = h.leaves;
  still = λ same. record {
    all = h.way.all;
    below = λ j some before fits. elim (cases_eq j place) [
      | inl here ↦ subst (λ (i : ℕ). IsJoined nodes i) (sym here) right
      | inr other ↦ (h.still same).below j some (omega arith) fits
    ];
    above = h.way.above;
  };
}

pub rejoined_all : (low high place : ℕ) (old nodes : List Node) (changed : Bool) → high < place → Rejoined low high place old nodes changed → OnFalse changed (AreJoined nodes)
rejoined_all low high place old nodes true done h = tt
rejoined_all low high place old nodes false done h =
    let but = h.still refl in
    record { all = but.all; each = λ j some small. elim (cases_lt j place) [ inl before ↦ but.below j some before small | inr past ↦ but.above j (omega arith) small ] }

-- what holds where a test fails
pub when_not : {P : Type 0} (test : Bool) → test ≡ false → OnFalse test P → P
when_not true isnt h = (cc)
when_not false isnt h = h

pub joined_from_none : (low high : ℕ) (nodes : List Node) → high ≡ 0 → AreJoinedBut low high nodes → AreJoined nodes
joined_from_none low high nodes none h = record { all = h.all; each = λ j some small. h.above j (omega arith) small }

-- while the leaves from low to high are made anew, those before an index are done
pub record Renewed (flags : List Bool) (low high index : ℕ) (nodes : List Node) (changed : Bool) : Type 0 where
  pub leaves : AreLeavesBut index high flags nodes
  pub joined : AreJoinedBut ((1024 + low) / 2) ((1024 + high) / 2) nodes
  pub still : changed ≡ false → AreJoined nodes

module _ (flags : List Bool) (low high : ℕ) where
  pub renewed_begins : (nodes : List Node) (changed : Bool) → AreLeavesBut low high flags nodes → AreJoined nodes → Renewed flags low high low nodes changed
  renewed_begins nodes changed leaves joined = record {
    leaves = leaves;
    joined = record { all = joined.all; below = λ j some out small. joined.each j some small; above = λ j out small. joined.each j (omega arith) small };
    still = λ _. joined;
  }

  module _ (index : ℕ) (nodes : List Node) (changed : Bool) (from : low ≤ index) (to : index ≤ high) (small : high < 1024) (h : Renewed flags low high index nodes changed) where
    leaf_kept : (node : Node) (other : ℕ) → other ≢ index → IsLeaf flags nodes other → IsLeaf flags (slice_set nodes (1024 + index) node) other
    leaf_kept node other apart leaf =
        subst (λ (n : Node). IsSummary flags (64 * other) (64 * other + 64) n) (sym (get_or-set_other nodes (1024 + index) (1024 + other) node empty_node (omega arith))) leaf

    leaf_here : (node : Node) → IsSummary flags (64 * index) (64 * index + 64) node → IsLeaf flags (slice_set nodes (1024 + index) node) index
    leaf_here node is =
        subst (λ (n : Node). IsSummary flags (64 * index) (64 * index + 64) n) (sym (get_or-set_same nodes (1024 + index) node empty_node (omega (arith, h.joined.all)))) is

    pub renewed_more : (node : Node) → IsSummary flags (64 * index) (64 * index + 64) node → Renewed flags low high (index + 1) (slice_set nodes (1024 + index) node) true
    renewed_more node is = record {
      leaves = record {
        below = λ j before fits. elim (cases_eq j index) [
          | inl here ↦ subst (λ (i : ℕ). IsLeaf flags (slice_set nodes (1024 + index) node) i) (sym here) (leaf_here node is)
          | inr other ↦ leaf_kept node j other (h.leaves.below j (omega arith) fits)
        ];
        above = λ j past fits. leaf_kept node j (omega arith) (h.leaves.above j past fits);
      };
      joined = record {
        all = length-set nodes (1024 + index) node ∙ h.joined.all;
        below = λ j some out fits. IsJoined-set_other nodes (1024 + index) node j (omega arith) (omega arith) (omega arith) (h.joined.below j some out fits);
        above = λ j out fits. IsJoined-set_other nodes (1024 + index) node j (omega arith) (omega arith) (omega arith) (h.joined.above j out fits);
      };
      still = λ same. (cc);
    }

    pub renewed_still : IsLeaf flags nodes index → Renewed flags low high (index + 1) nodes changed
    renewed_still is = record {
      leaves = record {
        below = λ j before fits. elim (cases_eq j index) [
          | inl here ↦ subst (λ (i : ℕ). IsLeaf flags nodes i) (sym here) is
          | inr other ↦ h.leaves.below j (omega arith) fits
        ];
        above = h.leaves.above;
      };
      joined = h.joined;
      still = h.still;
    }

pub all_leaves : (flags : List Bool) (low high : ℕ) (nodes : List Node) → high < low → AreLeavesBut low high flags nodes → AreLeaves flags nodes
all_leaves flags low high nodes done h = record {
  each = λ j fits. elim (cases_lt j low) [ inl before ↦ h.below j before fits | inr past ↦ h.above j (omega arith) fits ];
}

-- leaves that are as before
pub leaves_kept : (flags : List Bool) (old new : List Node) → HaveSameLeaves old new → AreLeaves flags old → AreLeaves flags new
leaves_kept flags old new same h = record {
  each = λ j fits. subst (λ (n : Node). IsSummary flags (64 * j) (64 * j + 64) n) (sym (same (1024 + j) (omega arith))) (h.each j fits);
}

-- a block whose flags are as before is told by the same node
module _ (old new : List Bool) (a b : ℕ) (same : (i : ℕ) → a ≤ i → i < b → slice_index_or new i false ≡ slice_index_or old i false) where
  set_still : (s k : ℕ) → a ≤ s → s + k ≤ b → IsSetBetween old s (s + k) → IsSetBetween new s (s + k)
  set_still s k from to set i low high = same i (omega arith) (omega arith) ∙ set i low high

  set_before : (s k : ℕ) → a ≤ s → s + k ≤ b → IsSetBetween new s (s + k) → IsSetBetween old s (s + k)
  set_before s k from to set i low high = sym (same i (omega arith) (omega arith)) ∙ set i low high

  longest_still : (r n : ℕ) → IsLongest old a b r n → IsLongest new a b r n
  longest_still r n h = record {
    most = λ s k has from to set. h.most s k has from to (set_before s k from to set);
    met = λ some. (let run = h.met some in record { start = run.start; from = run.from; to = run.to; has = run.has; set = set_still run.start n run.from run.to run.set });
  }

  pub summary_still : (node : Node) → IsSummary old a b node → IsSummary new a b node
  summary_still node h = record {
    prefix = record {
      within = h.prefix.within;
      set = set_still a node.prefix (omega arith) h.prefix.within h.prefix.set;
      ends = λ i here small. same i (omega arith) small ∙ h.prefix.ends i here small;
    };
    suffix = record {
      within = h.suffix.within;
      set = λ i low high. same i (omega (arith, h.suffix.within)) high ∙ h.suffix.set i low high;
      ends = λ i here large. same i large (omega arith) ∙ h.suffix.ends i here large;
    };
    even = longest_still 0 node.even h.even;
    odd = longest_still 1 node.odd h.odd;
    filled = h.filled;
    open_ended = h.open_ended;
  }

-- flags that were marked leave each leaf but for those of their words
pub leaves_but_marked : (from to : ℕ) (value : Bool) (old new : List Bool) (nodes : List Node) → from < to → IsMarked from to value old new → AreLeaves old nodes → AreLeavesBut (from / 64) ((to - 1) / 64) new nodes
leaves_but_marked from to value old new nodes some m h = record {
  below = λ j out fits. summary_still old new (64 * j) (64 * j + 64) (λ i low high. m.below i (omega arith)) (node_at nodes (1024 + j)) (h.each j fits);
  above = λ j out fits. summary_still old new (64 * j) (64 * j + 64) (λ i low high. m.above i (omega arith)) (node_at nodes (1024 + j)) (h.each j fits);
}

-- with no flag set and no node that tells of one
module _ (flags : List Bool) (nodes : List Node) (whole : length flags ≡ 65536) (all : length nodes ≡ 2048) (clear : (i : ℕ) → slice_index_or flags i false ≡ false) (none : (i : ℕ) → slice_index_or nodes i empty_node ≡ empty_node) where
  join_of_none : join empty_node empty_node ≡ empty_node
  unfolding join empty_node
  join_of_none = refl

  leaf_of_none : (index : ℕ) → IsLeaf flags nodes index
  leaf_of_none index =
      subst (λ (n : Node). IsSummary flags (64 * index) (64 * index + 64) n) (sym (none (1024 + index))) (empty_summary flags (64 * index) (64 * index + 64) (omega arith) clear)

  pub tree_of_none : IsTreeOf flags nodes
  tree_of_none = record {
    whole = whole;
    leaves = record { each = λ index fits. leaf_of_none index };
    joined = record {
      all = all;
      each = λ place some small. none place ∙ sym (ap (λ (l : Node). join l (node_at nodes (2 * place + 1))) (none (2 * place)) ∙ (ap (λ (r : Node). join empty_node r) (none (2 * place + 1)) ∙ join_of_none));
    };
  }
