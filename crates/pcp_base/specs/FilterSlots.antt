-- Filters in slots, of which those that hold none are blank, so that the slots follow from the list.
use Rattle.std.specs.Prelude.{◌≡◌, ℕ, ◌-◌, ◌≤◌, List, ◌++◌, length, take, drop, replicate}
use Rattle.std.proofs.Common.{◌∙◌, ap, arith}
use Rattle.std.proofs.lemmas.List.{length-take-le, take-append-drop}
use Rattle.pcp_base.specs.declared.leases.TheConstants.{MOST_FILTERS}
use Rattle.pcp_base.specs.declared.leases.Filter.{Filter}
use Rattle.pcp_base.specs.declared.leases.Filters.TheInside.{Inside}

-- what stands where there is no filter
abbrev pub blank : Filter
blank = record { prefix = 0; port = 0; remote = record { 0 = replicate 16 0 } }

-- n blank slots behind the filters
abbrev pub padded : List Filter → ℕ → List Filter
padded filters n = filters ++ replicate n blank

-- all the slots are there, and blank behind the filters
pub record IsPadded (a : Inside) : Type 0 where
  pub few : a.count ≤ MOST_FILTERS
  pub all : length a.slots ≡ MOST_FILTERS
  pub blank_behind : drop a.count a.slots ≡ replicate (MOST_FILTERS - a.count) blank

-- the slots that hold these filters
abbrev pub slots_of : List Filter → Inside
slots_of filters = record { slots = padded filters (MOST_FILTERS - length filters); count = length filters }

joined : (front slots : List Filter) (n count : ℕ) → n ≡ count → front ++ drop count slots ≡ slots → drop count slots ≡ replicate (MOST_FILTERS - count) blank → padded front (MOST_FILTERS - n) ≡ slots
joined front slots n count same whole behind = rw (same, ← behind) whole

pub slots_of-view : (a : Inside) → IsPadded a → slots_of (take a.count a.slots) ≡ a
slots_of-view a h =
    let few : a.count ≤ length a.slots = omega (arith, h.few, h.all) in
    let same : length (take a.count a.slots) ≡ a.count = length-take-le a.count a.slots few in
    let slots = joined (take a.count a.slots) a.slots (length (take a.count a.slots)) a.count same (take-append-drop a.count a.slots) h.blank_behind in
    ap (λ (s : List Filter). record { slots = s; count = length (take a.count a.slots) }) slots
    ∙ ap (λ n. record { slots = a.slots; count = n }) same
