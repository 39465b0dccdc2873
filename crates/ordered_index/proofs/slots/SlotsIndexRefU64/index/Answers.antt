use Rattle.std.proofs.Common.{◌≡◌, ℕ, true, false, Option, Some, None, IsSome, refl, sym, ap, ◌∙◌}
use Rattle.std.specs.Prelude.{is_some}
use Rattle.std.specs.Borrow.{Bor}
use Rattle.std.specs.Option.{option_copied}
use Rattle.std.specs.Ordering.{nat_cmp}
use Rattle.std.specs.BTreeMap.{BTreeMap, get}
use Rattle.ordered_index.proofs.SlotLaws.{lease-get}
use Rattle.ordered_index.proofs.slots.SlotsIndexRefU64.index.Goals as goal

copied_some : {L : Type 0} (r : Option (Bor L)) (o : Option L) → option_copied r ≡ o → IsSome o → IsSome r
copied_some None o h some = absurd (let no : false ≡ true = ap is_some h ∙ some in cc)
copied_some (Some x) o h some = refl

pub unwrap-requires : goal.unwrap-requires
unwrap-requires g c =
    copied_some c.find.result (get nat_cmp c.args.self.now c.args.number.now)
    (c.find.ensures ∙ lease-get c.self.inside.slots c.self.inside.order c.self.invariant.are c.args.number.now
    ∙ ap (λ (m : BTreeMap ℕ g.row.L.Denot). get nat_cmp m c.args.number.now) c.self.view_is)
    c.requires

pub returns : goal.returns
returns g c =
    sym (c.find.ensures ∙ lease-get c.self.inside.slots c.self.inside.order c.self.invariant.are c.args.number.now
    ∙ ap (λ (m : BTreeMap ℕ g.row.L.Denot). get nat_cmp m c.args.number.now) c.self.view_is)
    ∙ ap option_copied c.unwrap.ensures
