-- How many processed options there is room for: each option but the first of its code takes 24 octets.
use Rattle.std.proofs.Common.{◌≡◌, ℕ, suc, ◌+◌, ◌*◌, ◌≤◌, ◌<◌, ◌==◌, ◌||◌, nat_lt, not, Bool, true, false, cond, List, [], ◌∷◌, ◌++◌, length, Option, Some, None, IfSome, is_some, refl, ap, sym, ◌∙◌, subst, arith}
use Rattle.std.specs.Option.{option_or, option_to_list}
use Rattle.std.proofs.lemmas.List.{length-append}
use Rattle.std.proofs.lemmas.Bool.{ltb-false, eqb-true, not-false}
use Rattle.std.proofs.lemmas.Bool.Decides.{nat_tests}
use Rattle.pcp_base.specs.declared.addresses.Address.{Address}
use Rattle.pcp_base.specs.declared.leases.Filter as Filters
use Rattle.pcp_base.specs.declared.asks.PortSet as Sets
use Rattle.pcp_base.specs.declared.asks.Refusal.{Refusal}
use Rattle.pcp_base.specs.declared.codes.Code.TheVariants.{MalformedOption, UnsuppOption}
use Rattle.pcp_base.specs.Cases.{first_case}
use Rattle.pcp_base.specs.Refusals.{unparsed}
use Rattle.pcp_codec.specs.declared.requests.Body.{Body}
use Rattle.pcp_options.specs.declared.options.Item.{Item}
use Rattle.pcp_options.specs.declared.options.Item.TheVariants.{ThirdParty, PreferFailure, Filter, PortSet}
use Rattle.pcp_options.specs.declared.options.Seen.{Seen}
use Rattle.pcp_options.specs.Options.{FoundOption, item_of, items_of}
use Rattle.pcp_options.specs.Steps.{is_again, is_ignored, is_of_another_opcode, is_unknown, is_wrong, has_another_length, option_steps}
use Rattle.pcp_options.specs.Asking.{third_of, prefers, set_of, seen_of}
use Rattle.pcp_options.proofs.WalkLemmas.{item_by, third_in, filter_in, set_in, seen_with, seen-more, third-stands, prefers-stands, set-stands, or-none, or-false, or-true, append-none}

abbrev bit : Bool → ℕ
bit b = cond b 1 0

-- how many of the options that stand at most once were seen
abbrev pub singles : Seen → ℕ
singles s = bit (is_some s.third) + (bit s.prefers + bit (is_some s.set))

few-bits : (a b c : Bool) → bit a + (bit b + bit c) ≤ 3
few-bits true true true = omega arith
few-bits true true false = omega arith
few-bits true false true = omega arith
few-bits true false false = omega arith
few-bits false true true = omega arith
few-bits false true false = omega arith
few-bits false false true = omega arith
few-bits false false false = omega arith

pub singles-few : (s : Seen) → singles s ≤ 3
singles-few s = few-bits (is_some s.third) s.prefers (is_some s.set)

-- one that wasn't seen counts one more, and a FILTER none
third-by : (t : Option Address) (p : Bool) (s : Option Sets.PortSet) (a : Address) → is_some t ≡ false → singles (seen_with (option_or t (Some a)) p s) ≡ suc (singles (seen_with t p s))
third-by None p s a h = omega arith
third-by (Some x) p s a h = absurd cc

third-counts : (items : List Item) (a : Address) → is_some (third_of items) ≡ false → singles (seen_of (items ++ ThirdParty a ∷ [])) ≡ suc (singles (seen_of items))
third-counts items a h =
    let t = option_or (third_of items) (Some a) in
    ap singles (seen-more items (ThirdParty a) ∙ ap (λ p. seen_with t p (option_or (set_of items) None)) (or-false (prefers items)) ∙ ap (λ s. seen_with t (prefers items) s) (or-none (set_of items)))
    ∙ third-by (third_of items) (prefers items) (set_of items) a h

prefers-by : (t : Option Address) (p : Bool) (s : Option Sets.PortSet) → p ≡ false → singles (seen_with t true s) ≡ suc (singles (seen_with t p s))
prefers-by t true s h = absurd cc
prefers-by t false s h = omega arith

prefers-counts : (items : List Item) → prefers items ≡ false → singles (seen_of (items ++ PreferFailure ∷ [])) ≡ suc (singles (seen_of items))
prefers-counts items h =
    ap singles (seen-more items PreferFailure ∙ ap (λ t. seen_with t (prefers items || true) (option_or (set_of items) None)) (or-none (third_of items)) ∙ ap (λ p. seen_with (third_of items) p (option_or (set_of items) None)) (or-true (prefers items)) ∙ ap (λ s. seen_with (third_of items) true s) (or-none (set_of items)))
    ∙ prefers-by (third_of items) (prefers items) (set_of items) h

set-by : (t : Option Address) (p : Bool) (s : Option Sets.PortSet) (x : Sets.PortSet) → is_some s ≡ false → singles (seen_with t p (option_or s (Some x))) ≡ suc (singles (seen_with t p s))
set-by t p None x h = omega arith
set-by t p (Some y) x h = absurd cc

set-counts : (items : List Item) (x : Sets.PortSet) → is_some (set_of items) ≡ false → singles (seen_of (items ++ PortSet x ∷ [])) ≡ suc (singles (seen_of items))
set-counts items x h =
    let s = option_or (set_of items) (Some x) in
    ap singles (seen-more items (PortSet x) ∙ ap (λ t. seen_with t (prefers items || false) s) (or-none (third_of items)) ∙ ap (λ p. seen_with (third_of items) p s) (or-false (prefers items)))
    ∙ set-by (third_of items) (prefers items) (set_of items) x h

filter-counts : (items : List Item) (f : Filters.Filter) → singles (seen_of (items ++ Filter f ∷ [])) ≡ singles (seen_of items)
filter-counts items f =
    ap singles (seen-more items (Filter f) ∙ ap (λ t. seen_with t (prefers items || false) (option_or (set_of items) None)) (or-none (third_of items)) ∙ ap (λ p. seen_with (third_of items) p (option_or (set_of items) None)) (or-false (prefers items)) ∙ ap (λ s. seen_with (third_of items) (prefers items) s) (or-none (set_of items)))

-- what passing the checks says of an option that is known
record HasPassed (again : Bool) (o : FoundOption) : Type 0 where
  first : again ≡ false
  whole : o.claimed ≤ length o.content
  same : has_another_length o ≡ false

passed-by : (past unknown ignored again other opcode wrong : Bool) (r s : Refusal) → ignored ≡ false → cond past (Some r) (cond unknown (Some s) (first_case (cond ignored [] ((record { applies = again; result = r }) ∷ (record { applies = other; result = r }) ∷ (record { applies = opcode; result = r }) ∷ (record { applies = wrong; result = r }) ∷ [])))) ≡ None → (past ≡ false) × (again ≡ false) × (other ≡ false)
passed-by true unknown ignored again other opcode wrong r s e h = absurd cc
passed-by false true ignored again other opcode wrong r s e h = absurd cc
passed-by false false true again other opcode wrong r s e h = absurd cc
passed-by false false false true other opcode wrong r s e h = absurd cc
passed-by false false false false true opcode wrong r s e h = absurd cc
passed-by false false false false false opcode wrong r s e h = (refl, refl, refl)

has-passed : (lifetime : ℕ) (body : Body) (again : Bool) (o : FoundOption) → is_ignored o.code ≡ false → first_case (option_steps lifetime body again o) ≡ None → HasPassed again o
has-passed lifetime body again o known h =
    let p = passed-by (nat_lt (length o.content) o.claimed) (is_unknown o.code) (is_ignored o.code) again (has_another_length o) (is_of_another_opcode body o.code) (is_wrong lifetime body o) (unparsed MalformedOption) (unparsed UnsuppOption) known h in
    record { first = p.1; whole = ltb-false (length o.content) o.claimed p.0; same = p.2 }

-- one of each code
not-again : (before : List FoundOption) (n k : ℕ) → (n == k) ≡ true → is_again before n ≡ false → is_again before k ≡ false
not-again before n k e h = subst (λ m. is_again before m ≡ false) (eqb-true n k e) h

third-known : (n : ℕ) → (n == 1) ≡ true → is_ignored n ≡ false
third-known n e = grind (arith, nat_tests)

prefers-known : (n : ℕ) → (n == 2) ≡ true → is_ignored n ≡ false
prefers-known n e = grind (arith, nat_tests)

filter-known : (n : ℕ) → (n == 3) ≡ true → is_ignored n ≡ false
filter-known n e = grind (arith, nat_tests)

set-known : (n : ℕ) → (n == 130) ≡ true → is_ignored n ≡ false
set-known n e = grind (arith, nat_tests)

filter-length : (n claimed : ℕ) → (n == 3) ≡ true → not (claimed == cond (n == 1) 16 (cond (n == 2) 0 (cond (n == 3) 20 5))) ≡ false → claimed ≡ 20
filter-length n claimed e h =
    let same : not (claimed == 20) ≡ false = subst (λ m. not (claimed == cond (m == 1) 16 (cond (m == 2) 0 (cond (m == 3) 20 5))) ≡ false) (eqb-true n 3 e) h in
    eqb-true claimed 20 (not-false (claimed == 20) same)

-- what an option takes, by what it is
room-by : (a b c d : Bool) (t : Address) (f : Filters.Filter) (s : Sets.PortSet) (items : List Item) (behind rest : ℕ) → (a ≡ true → is_some (third_of items) ≡ false) → (b ≡ true → prefers items ≡ false) → (c ≡ true → behind + 24 ≤ rest) → (d ≡ true → is_some (set_of items) ≡ false) → behind ≤ rest → 24 * length (option_to_list (item_by a b c d t f s)) + behind + 24 * singles (seen_of items) ≤ rest + 24 * singles (seen_of (items ++ option_to_list (item_by a b c d t f s)))
room-by true b c d t f s items behind rest ha hb hc hd less = let e = third-counts items t (ha refl) in omega (arith, e, less)
room-by false true c d t f s items behind rest ha hb hc hd less = let e = prefers-counts items (hb refl) in omega (arith, e, less)
room-by false false true d t f s items behind rest ha hb hc hd less = let e = filter-counts items f in let l = hc refl in omega (arith, e, l)
room-by false false false true t f s items behind rest ha hb hc hd less = let e = set-counts items s (hd refl) in omega (arith, e, less)
room-by false false false false t f s items behind rest ha hb hc hd less = rw (append-none items) (omega (arith, less))

-- an option that passes takes 24 octets, or wasn't seen
pub room-more : (lifetime : ℕ) (body : Body) (before : List FoundOption) (o : FoundOption) (behind rest : ℕ) → first_case (option_steps lifetime body (is_again before o.code) o) ≡ None → behind + (4 + length o.content) ≤ rest → 24 * length (option_to_list (item_of o)) + behind + 24 * singles (seen_of (items_of before)) ≤ rest + 24 * singles (seen_of (items_of before ++ option_to_list (item_of o)))
room-more lifetime body before o behind rest pass shorter =
    room-by (o.code == 1) (o.code == 2) (o.code == 3) (o.code == 130) (third_in o) (filter_in o) (set_in o) (items_of before) behind rest
    (λ e. third-stands before ∙ not-again before o.code 1 e (has-passed lifetime body (is_again before o.code) o (third-known o.code e) pass).first)
    (λ e. prefers-stands before ∙ not-again before o.code 2 e (has-passed lifetime body (is_again before o.code) o (prefers-known o.code e) pass).first)
    (λ e.
    let p = has-passed lifetime body (is_again before o.code) o (filter-known o.code e) pass in
    let w = p.whole in
    let l = filter-length o.code o.claimed e p.same in
    omega (arith, w, l, shorter))
    (λ e. set-stands before ∙ not-again before o.code 130 e (has-passed lifetime body (is_again before o.code) o (set-known o.code e) pass).first)
    (omega (arith, shorter))

-- so there is a slot for what it says
slot-by : (item : Option Item) (count text rest behind old new : ℕ) → text ≤ 1076 → 24 * count + rest ≤ text + 24 * old → 24 * length (option_to_list item) + behind + 24 * old ≤ rest + 24 * new → new ≤ 3 → IfSome item (λ _. count < 47)
slot-by None count text rest behind old new few room more most = tt
slot-by (Some item) count text rest behind old new few room more most = omega (arith, few, room, more, most)

pub slot-left : (item : Option Item) (items : List Item) (before : List FoundOption) (seen : Seen) (o : FoundOption) (lifetime : ℕ) (body : Body) (text rest behind : ℕ) → text ≤ 1076 → seen ≡ seen_of (items_of before) → 24 * length items + rest ≤ text + 24 * singles seen → item ≡ item_of o → first_case (option_steps lifetime body (is_again before o.code) o) ≡ None → behind + (4 + length o.content) ≤ rest → IfSome item (λ _. length items < 47)
slot-left item items before seen o lifetime body text rest behind few s room i pass shorter =
    slot-by item (length items) text rest behind (singles (seen_of (items_of before))) (singles (seen_of (items_of before ++ option_to_list (item_of o)))) few
    (subst (λ x. 24 * length items + rest ≤ text + 24 * singles x) s room)
    (subst (λ x. 24 * length (option_to_list x) + behind + 24 * singles (seen_of (items_of before)) ≤ rest + 24 * singles (seen_of (items_of before ++ option_to_list (item_of o)))) (sym i) (room-more lifetime body before o behind rest pass shorter))
    (singles-few (seen_of (items_of before ++ option_to_list (item_of o))))

-- the room after one option more
pub room-left : (more : Seen) (items noted : List Item) (before : List FoundOption) (seen : Seen) (o : FoundOption) (lifetime : ℕ) (body : Body) (text rest behind : ℕ) → seen ≡ seen_of (items_of before) → 24 * length items + rest ≤ text + 24 * singles seen → more ≡ seen_of (items_of before ++ option_to_list (item_of o)) → noted ≡ items ++ option_to_list (item_of o) → first_case (option_steps lifetime body (is_again before o.code) o) ≡ None → behind + (4 + length o.content) ≤ rest → 24 * length noted + behind ≤ text + 24 * singles more
room-left more items noted before seen o lifetime body text rest behind s room m n pass shorter =
    let step = room-more lifetime body before o behind rest pass shorter in
    let count : length noted ≡ length items + length (option_to_list (item_of o)) = ap length n ∙ length-append items (option_to_list (item_of o)) in
    let old : singles seen ≡ singles (seen_of (items_of before)) = ap singles s in
    let new : singles more ≡ singles (seen_of (items_of before ++ option_to_list (item_of o))) = ap singles m in
    omega (arith, room, step, count, old, new)
