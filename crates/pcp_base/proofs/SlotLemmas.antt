-- Filters in slots.
use Rattle.std.specs.Prelude.{◌≡◌, ◌+◌, ◌-◌, ◌<◌, drop, replicate, slice_set}
use Rattle.std.proofs.Common.{sym, ◌∙◌, ap, arith}
use Rattle.std.proofs.lemmas.List.{length-set, drop-drop, drop-set-lt, drop-replicate}
use Rattle.pcp_base.specs.declared.leases.TheConstants.{MOST_FILTERS}
use Rattle.pcp_base.specs.declared.leases.Filter.{Filter}
use Rattle.pcp_base.specs.declared.leases.Filters.TheInside.{Inside}
use Rattle.pcp_base.specs.FilterSlots.{blank, IsPadded}

-- one more filter
pub IsPadded-push : (a : Inside) (f : Filter) → IsPadded a → a.count < MOST_FILTERS → IsPadded (record { slots = slice_set a.slots a.count f; count = a.count + 1 })
IsPadded-push a f h room =
    let next : a.count < a.count + 1 = omega arith in
    record {
      few = omega arith;
      all = length-set a.slots a.count f ∙ h.all;
      blank_behind = drop-set-lt (a.count + 1) a.slots a.count f next ∙ sym (drop-drop 1 a.count a.slots)
          ∙ ap (drop 1) h.blank_behind ∙ drop-replicate 1 (MOST_FILTERS - a.count) blank
          ∙ ap (λ n. replicate n blank) (let e : MOST_FILTERS - a.count - 1 ≡ MOST_FILTERS - (a.count + 1) = omega arith in e);
    }
