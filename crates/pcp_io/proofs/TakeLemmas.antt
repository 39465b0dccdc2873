-- A take out of a list.
use Rattle.std.proofs.Common.{◌≡◌, ℕ, ◌+◌, ◌<◌, ◌≤◌, suc, min, List, ◌∷◌, ◌++◌, length, get_or, take, drop, map, Some, refl, sym, ap, ◌∙◌, subst, arith}
use Rattle.std.proofs.lemmas.List.{take_min, length-take}
use Rattle.std.proofs.Math.Seq.{take-append_seam, drop-cons}
use Rattle.pcp_io.specs.declared.inboxes.Incoming.{Incoming}
use Rattle.pcp_io.specs.declared.inboxes.InboxItem.{InboxItem}
use Rattle.pcp_io.specs.declared.inboxes.TheConstants.{LONGEST_DATAGRAM}
use Rattle.pcp_io.specs.Takes.{Takes, IsNextItem, cut_item, filled, item_of}

-- the first octets, up to the most, stand in the front of the room
pub front_of_room : (octets room front : List ℕ) (n most : ℕ) → n ≡ min (length octets) most → front ≡ take n octets → take n (front ++ drop n room) ≡ take most octets
front_of_room octets room front n most count is =
    let all : length (take n octets) ≡ min n (length octets) = length-take n octets in
    let shown : length front ≡ length (take n octets) = ap length is in
    let len : n ≡ length front = omega (arith, all, shown, count) in
    let whole : n ≡ min most (length octets) = omega (arith, count) in
    let fills : take n (front ++ drop n room) ≡ front = rw (len, take-append_seam front (drop (length front) room)) refl in
    fills ∙ is ∙ (ap (λ k. take k octets) whole ∙ take_min most octets)

-- the item at this place is given
pub Takes-next : (items left : List InboxItem) (at : ℕ) (room : List ℕ) (incoming : Incoming) (item : InboxItem)
    → left ≡ map cut_item (drop at items) → at < length items → item ≡ get_or items at item
    → item_of incoming room ≡ Some (cut_item item) → filled incoming ≤ LONGEST_DATAGRAM → LONGEST_DATAGRAM ≤ length room
    → Takes (Some left) (Some (map cut_item (drop (at + 1) items))) room incoming
Takes-next items left at room incoming item is within is_item given most has_room =
    let next : suc at ≡ at + 1 = omega arith in
    let parted : drop at items ≡ item ∷ drop (at + 1) items = drop-cons items at item within ∙ (ap (λ (x : InboxItem). x ∷ drop (suc at) items) (sym is_item) ∙ ap (λ k. item ∷ drop k items) next) in
    let P : List InboxItem → Type 0 = λ xs. IsNextItem (Some xs) (Some (map cut_item (drop (at + 1) items))) (item_of incoming room) in
    record {
      bound = omega (arith, most, has_room);
      most = most;
      next = subst P (sym (is ∙ ap (map cut_item) parted)) (given, refl);
    }

-- what is within the first octets is no more than these
pub within_first : (k n most : ℕ) (octets : List ℕ) → k ≤ length (take n octets) → n ≤ most → k ≤ most
within_first k n most octets within few = omega (arith, length-take n octets, within, few)
