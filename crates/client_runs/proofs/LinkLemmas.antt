-- What links give and take, one after the other.
use Rattle.std.proofs.Common.{◌≡◌, ℕ, ◌+◌, ◌-◌, ◌^◌, ◌≤◌, ◌⊎◌, true, false, cond, List, [], ◌∷◌, ◌++◌, Option, None, Some, refl, sym, ap, subst, ◌∙◌, inl, inr, arith, append_assoc, append-nil}
use Rattle.std.specs.Prelude.{map, flat_map, count_by, option_map}
use Rattle.std.proofs.lemmas.List.{map-append}
use Rattle.std.proofs.lemmas.List.Sums.{sum_by-append}
use Rattle.std.proofs.lemmas.Grind.{flat_map-append}
use Rattle.pcp_base.specs.declared.addresses.Address.{Address}
use Rattle.pcp_base.specs.declared.datagrams.Datagram.{Datagram}
use Rattle.pcp_io.specs.declared.inboxes.InboxItem.{InboxItem}
use Rattle.pcp_io.specs.Faults.{HasRisen}
use Rattle.pcp_io.specs.Sends.{sent_after, sent_with}
use Rattle.pcp_io.specs.Takes.{IsNextItem}
use Rattle.pcp_io.specs.Times.{Times}
use Rattle.random_words.specs.RandomWords.{RandomWords}
use Rattle.client_runs.specs.Links.{Drawing, Handed, ItemsCame, Links, Passed, RequestsWent, Sending, TimesCame, Traffic, WordsCame, WordsDrawn, taken_of, with_traffic}
use Rattle.client_runs.specs.Ticks.{HandsOver}

-- a count of faults that rose in the later of two parts
pub risen_after : (before mid now : ℕ) → before ≤ mid → HasRisen mid now → HasRisen before now
risen_after before mid now later (inl a) = inl (omega (arith, later, a))
risen_after before mid now later (inr b) = inr b

pub items-none : (left : Option (List InboxItem)) → ItemsCame left [] left
items-none None = refl
items-none (Some items) = refl

pub items-join : (xs ys : List InboxItem) (a b c : Option (List InboxItem)) → ItemsCame a xs b → ItemsCame b ys c → ItemsCame a (xs ++ ys) c
items-join xs ys a b None h k = h ∙ ap (option_map (λ rest. xs ++ rest)) k
items-join xs ys a b (Some rest) h k =
    h ∙ ap (option_map (λ rest. xs ++ rest)) k ∙ ap Some (sym (append_assoc xs ys rest))

pub item-came : (item : InboxItem) (a b : Option (List InboxItem)) → IsNextItem a b (Some item) → ItemsCame a (item ∷ []) b
item-came item None b h = rw h refl
item-came item (Some []) b h = absurd (let e : Some item ≡ None = h.0 in cc)
item-came item (Some (x ∷ xs)) b h = rw h.1 (ap (λ (y : InboxItem). Some (y ∷ xs)) (let e : Some item ≡ Some x = h.0 in cc))

pub times-join : (xs ys : List ℕ) (a b c : Option Times) → TimesCame a xs b → TimesCame b ys c → TimesCame a (xs ++ ys) c
times-join [] ys a b c h k = subst (λ (t : Option Times). TimesCame t ys c) h k
times-join (x ∷ xs) ys a b c h k = (h.0, h.1, times-join xs ys h.0 b c h.2 k)

pub words-join : (xs ys : List ℕ) (a b c : Option RandomWords) → WordsCame a xs b → WordsCame b ys c → WordsCame a (xs ++ ys) c
words-join [] ys a b c h k = subst (λ (t : Option RandomWords). WordsCame t ys c) h k
words-join (x ∷ xs) ys a b c h k = (h.0, h.1, words-join xs ys h.0 b c h.2 k)

pub drawn-join : (xs ys : List ℕ) (a b c : Drawing) → WordsDrawn xs a b → WordsDrawn ys b c → WordsDrawn (xs ++ ys) a c
drawn-join xs ys a b c h k = record {
  came = words-join xs ys a.words b.words c.words h.came k.came;
  later = omega (arith, h.later, k.later);
}

pub drawn-none : (a : Drawing) → WordsDrawn [] a a
drawn-none a = record { came = refl; later = omega arith }

sent-join : (xs ys : List Datagram) (a b c : Option (List Datagram)) → b ≡ sent_with a xs → c ≡ sent_with b ys → c ≡ sent_with a (xs ++ ys)
sent-join xs ys None b c h k = k ∙ ap (λ (s : Option (List Datagram)). sent_with s ys) h
sent-join xs ys (Some ds) b c h k =
    k ∙ ap (λ (s : Option (List Datagram)). sent_with s ys) h ∙ ap Some (append_assoc ds xs ys)

lost_count : List Handed → ℕ
lost_count hs = count_by (λ h. h.lost) hs

count-join : (hs ks : List Handed) → count_by (λ h. h.lost) (hs ++ ks) ≡ count_by (λ h. h.lost) hs + count_by (λ h. h.lost) ks
count-join hs ks = sum_by-append (λ (h : Handed). cond h.lost 1 0) hs ks

lost-join : (a b c n m k : ℕ) → k ≡ n + m → a ≤ b → b ≤ c → (2 ^ 64 - 1 ≤ b) ⊎ (a + n ≤ b) → (2 ^ 64 - 1 ≤ c) ⊎ (b + m ≤ c) → (2 ^ 64 - 1 ≤ c) ⊎ (a + k ≤ c)
lost-join a b c n m k e p q (inl x) y = inl (omega arith)
lost-join a b c n m k e p q (inr x) (inl y) = inl y
lost-join a b c n m k e p q (inr x) (inr y) = inr (omega arith)

pub requests-join : (server : Address) (xs ys : List (List ℕ)) (a b c : Sending) → RequestsWent server xs a b → RequestsWent server ys b c → RequestsWent server (xs ++ ys) a c
requests-join server xs ys a b c h k = record {
  handed = h.handed ++ k.handed;
  each = map-append (λ (x : Handed). x.text) h.handed k.handed ∙ ap (λ (l : List (List ℕ)). l ++ map (λ (x : Handed). x.text) k.handed) h.each ∙ ap (λ (l : List (List ℕ)). xs ++ l) k.each;
  sent = rw flat_map-append (sent-join (flat_map (taken_of server) h.handed) (flat_map (taken_of server) k.handed) a.sent b.sent c.sent h.sent k.sent);
  lost = lost-join a.faults b.faults c.faults _ _ _ (count-join h.handed k.handed) h.later k.later h.lost k.lost;
  later = omega (arith, h.later, k.later);
}

sent-none : (s : Option (List Datagram)) → s ≡ sent_with s []
sent-none None = refl
sent-none (Some ds) = ap Some (sym (append-nil ds))

pub requests-none : (server : Address) (a : Sending) → RequestsWent server [] a a
requests-none server a = record {
  handed = [];
  each = refl;
  sent = sent-none a.sent;
  lost = inr (omega arith);
  later = omega arith;
}

-- a request that was handed over
went-sent : (server : Address) (text : List ℕ) (a b : Sending) → b.sent ≡ sent_after a.sent 0 server 5351 text → a.faults ≤ b.faults → RequestsWent server (text ∷ []) a b
went-sent server text a b sent later = record {
  handed = record { text = text; lost = false } ∷ [];
  each = refl;
  sent = sent;
  lost = inr (omega arith);
  later = later;
}

lost-one : (a b : ℕ) → HasRisen a b → (2 ^ 64 - 1 ≤ b) ⊎ (a + 1 ≤ b)
lost-one a b (inl x) = inr (omega arith)
lost-one a b (inr y) = inl y

went-lost : (server : Address) (text : List ℕ) (a b : Sending) → b.sent ≡ a.sent → HasRisen a.faults b.faults → a.faults ≤ b.faults → RequestsWent server (text ∷ []) a b
went-lost server text a b same risen later = record {
  handed = record { text = text; lost = true } ∷ [];
  each = refl;
  sent = same ∙ sent-none a.sent;
  lost = lost-one a.faults b.faults risen;
  later = later;
}

went-by : (server : Address) (text : List ℕ) (a b : Sending) → (b.sent ≡ sent_after a.sent 0 server 5351 text) ⊎ ((b.sent ≡ a.sent) × HasRisen a.faults b.faults) → a.faults ≤ b.faults → RequestsWent server (text ∷ []) a b
went-by server text a b (inl sent) later = went-sent server text a b sent later
went-by server text a b (inr lost) later = went-lost server text a b lost.0 lost.1 later

pub handed_over : (server : Address) (text : List ℕ) (a b : Sending) → HandsOver server text a b → RequestsWent server (text ∷ []) a b
handed_over server text a b h = went-by server text a b h.sent h.later

pub passed-join : (server : Address) (x y : Traffic) (a b c : Links) → Passed server x a b → Passed server y b c → Passed server (with_traffic x y) a c
passed-join server x y a b c h k = record {
  items = items-join x.items y.items a.left b.left c.left h.items k.items;
  later = omega (arith, h.later, k.later);
  times = times-join x.times y.times a.times b.times c.times h.times k.times;
  words = drawn-join x.words y.words a.drawing b.drawing c.drawing h.words k.words;
  requests = requests-join server x.requests y.requests a.sending b.sending c.sending h.requests k.requests;
}
