-- The ends of a state, told by its ports.
use Rattle.std.proofs.Common.{◌≡◌, ℕ, zero, suc, ◌+◌, ◌<◌, ◌≤◌, ◌&&◌, ◌||◌, ◌==◌, nat_lt, nat_le, Bool, true, false, cond, List, [], ◌∷◌, ◌++◌, filter, find, Option, Some, None, IsSome, option_to_list, refl, sym, ap, ◌∙◌, subst, inl, inr, arith}
use Rattle.std.proofs.lemmas.Bool.{lt-ltb}
use Rattle.std.proofs.lemmas.List.Elements.{filter-append}
use Rattle.pcp_base.specs.declared.leases.Protocol.{Protocol}
use Rattle.pcp_base.specs.declared.leases.Protocol.TheVariants.{Tcp, Udp}
use Rattle.pcp_base.specs.declared.leases.End.{End}
use Rattle.pcp_base.specs.Protocols.{protocol_number}
use Rattle.pcp_base.specs.Ends.{is_before, is_end_of, is_recent}
use Rattle.pcp_base.specs.States.{State}
use Rattle.pcp_base.specs.Reached.{IsReached}
use Rattle.pcp_base.proofs.Members.{IsIn, All-from_IsIn, All-append, IsIn-append, IsIn-left, IsIn-right, find-some, find-IsIn}
use Rattle.pcp_base.proofs.EndOrder.{InOrder, InOrder-one}
use Rattle.pcp_base.proofs.RestLaws.{InOrder-same}
use Rattle.expiry_wheel.proofs.Maps.{below_or_not}
use Rattle.leased_ports.specs.LastEnds.{come}
use Rattle.leased_ports.specs.Leased.{Leased, end_of, while_recent, IsPortsOf}
use Rattle.leased_ports.specs.Listed.{listed, has_come, ends_come}
use Rattle.port_spans.specs.Along.{spot, end_told}
use Rattle.leased_ports.proofs.SpotLemmas.{run_of_high}
use Rattle.leased_ports.proofs.RecordLemmas.{of-port, port-of}
use Rattle.leased_ports.proofs.CameLemmas.{ends-last}
use Rattle.leased_ports.proofs.ListedLemmas.{listed-nil, listed-cons, listed-same, listed-filter, listed-IsIn, IsIn-listed, if_passing}

-- ---- the order of ports

abbrev before : Protocol → ℕ → Protocol → ℕ → Bool
before p i q k = nat_lt (protocol_number p) (protocol_number q) || (protocol_number p == protocol_number q && nat_lt i k)

before_own : (p : Protocol) (i k : ℕ) → i < k → before p i p k ≡ true
before_own Tcp i k h = lt-ltb i k h
before_own Udp i k h = lt-ltb i k h

before_by : (p q : Protocol) (i k : ℕ) (e x : End) → (e.endpoint.protocol ≡ p) × (e.external ≡ i) → (x.endpoint.protocol ≡ q) × (x.external ≡ k) → before p i q k ≡ true → is_before e x ≡ true
before_by p q i k e x a b h =
    ap (λ (r : Protocol). before r e.external x.endpoint.protocol x.external) a.0
    ∙ ap (λ (n : ℕ). before p n x.endpoint.protocol x.external) a.1
    ∙ ap (λ (r : Protocol). before p i r x.external) b.0
    ∙ ap (λ (n : ℕ). before p i q n) b.1 ∙ h

append-ordered : (xs ys : List End) → InOrder xs → InOrder ys → ((e x : End) → IsIn e xs → IsIn x ys → is_before e x ≡ true) → InOrder (xs ++ ys)
append-ordered [] ys h k all = k
append-ordered (e ∷ xs) ys h k all = (
  All-append (λ x. is_before e x ≡ true) xs ys h.0 (All-from_IsIn (λ x. is_before e x ≡ true) ys (λ x there. all e x (inl refl) there)),
  append-ordered xs ys h.1 k (λ y x a b. all y x (inr a) b),
)

some-is : (o : Option End) (e : End) → IsSome o → ((x : End) → o ≡ Some x → x ≡ e) → o ≡ Some e
some-is None e some is = absurd cc
some-is (Some x) e some is = ap Some (is x refl)

-- ---- ends in their order, and those found of ports in a row

module _ (xs : List End) (ordered : InOrder xs) (n : ℕ) (low : (e : End) → IsIn e xs → e.external < n) where
  abbrev found : Protocol → ℕ → Option End
  found p i = find (is_end_of p i) xs

  found-port : (p : Protocol) (i : ℕ) (e : End) → found p i ≡ Some e → (e.endpoint.protocol ≡ p) × (e.external ≡ i)
  found-port p i e h = port-of p i e (find-some (is_end_of p i) xs e h).1

  found-own : (e : End) → IsIn e xs → found e.endpoint.protocol e.external ≡ Some e
  found-own e there =
      some-is (found e.endpoint.protocol e.external) e
      (find-IsIn (is_end_of e.endpoint.protocol e.external) xs e there (of-port e.endpoint.protocol e.external e refl refl))
      (λ x is.
      let at = found-port e.endpoint.protocol e.external x is in
      InOrder-one xs x e ordered (find-some (is_end_of e.endpoint.protocol e.external) xs x is).0 there (record { protocol = ap protocol_number at.0; external = at.1 }))

  row_step : (p : Protocol) (at k : ℕ) (o : Option End) → found p at ≡ o → InOrder (listed (found p) (at + 1) k) → InOrder (option_to_list o ++ listed (found p) (at + 1) k)
  row_step p at k None e rest = rest
  row_step p at k (Some x) e rest = (
    All-from_IsIn (λ y. is_before x y ≡ true) (listed (found p) (at + 1) k) (λ y there.
        let w = listed-IsIn (found p) (at + 1) k y there in
        before_by p p at w.0 x y (found-port p at x e) (found-port p w.0 y w.2) (before_own p at w.0 (omega (arith, w.1)))),
    rest,
  )

  row-ordered : (p : Protocol) (at k : ℕ) → InOrder (listed (found p) at k)
  row-ordered p at zero = subst InOrder (sym (listed-nil (found p) at)) tt
  row-ordered p at (suc k) = subst InOrder (sym (listed-cons (found p) at k)) (row_step p at k (found p at) refl (row-ordered p (at + 1) k))

  abbrev row : Protocol → List End
  row p = listed (found p) 0 n

  both-ordered : InOrder (row Tcp ++ row Udp)
  both-ordered = append-ordered (row Tcp) (row Udp) (row-ordered Tcp 0 n) (row-ordered Udp 0 n) (λ e x a b.
      let l = listed-IsIn (found Tcp) 0 n e a in
      let r = listed-IsIn (found Udp) 0 n x b in
      before_by Tcp Udp l.0 r.0 e x (found-port Tcp l.0 e l.2) (found-port Udp r.0 x r.2) refl)

  in_row : (e : End) → IsIn e xs → (p : Protocol) → e.endpoint.protocol ≡ p → IsIn e (row p)
  in_row e there p same =
      IsIn-listed (found p) 0 n e.external e (omega arith) (omega (arith, low e there))
      (ap (λ (q : Protocol). found q e.external) (sym same) ∙ found-own e there)

  into : (e : End) → IsIn e xs → (p : Protocol) → e.endpoint.protocol ≡ p → IsIn e (row Tcp ++ row Udp)
  into e there Tcp same = IsIn-left (row Tcp) (row Udp) e (in_row e there Tcp same)
  into e there Udp same = IsIn-right (row Tcp) (row Udp) e (in_row e there Udp same)

  out : (p : Protocol) (e : End) → IsIn e (row p) → IsIn e xs
  out p e h = let w = listed-IsIn (found p) 0 n e h in (find-some (is_end_of p w.0) xs e w.2).0

  pub rows-told : xs ≡ row Tcp ++ row Udp
  rows-told = InOrder-same xs (row Tcp ++ row Udp) ordered both-ordered (λ e there. into e there e.endpoint.protocol refl)
      (λ e h. elim (IsIn-append (row Tcp) (row Udp) e h) [ inl a ↦ out Tcp e a | inr b ↦ out Udp e b ])

-- ---- the ports of a state

both_step : (m : ℕ) (e : End) (a b : Bool) → nat_le e.end m ≡ a → cond (a && b) (Some e) None ≡ come m (cond b (Some e) None)
both_step m e true true h = sym (ap (λ (t : Bool). cond t (Some e) None) h)
both_step m e true false h = refl
both_step m e false true h = sym (ap (λ (t : Bool). cond t (Some e) None) h)
both_step m e false false h = refl

come-recent : (m : ℕ) (o : Option End) → if_passing (has_come m) o ≡ come m (while_recent m o)
come-recent m None = refl
come-recent m (Some e) = both_step m e (nat_le e.end m) (is_recent m e) refl

module _ (v : Leased) (s : State) (reached : IsReached s) (ports : IsPortsOf v s) where
  come_at : (p : Protocol) (i : ℕ) → if_passing (has_come s.last) (end_of v p i) ≡ find (is_end_of p i) s.ends
  come_at p i = come-recent s.last (end_of v p i) ∙ ap (come s.last) (ports.same p i) ∙ sym (ends-last s reached p i)

  none_past : (p : Protocol) (i : ℕ) → 65536 ≤ i → find (is_end_of p i) s.ends ≡ None
  none_past p i h = sym (come_at p i) ∙ ap (if_passing (has_come s.last)) (ap (end_told (spot p i)) (run_of_high v.runs p i h))

  low_port : (e : End) → IsIn e s.ends → e.external < 65536
  low_port e there = elim (below_or_not e.external 65536) [
    | inl low ↦ low
    | inr high ↦ absurd (
        let own : find (is_end_of e.endpoint.protocol e.external) s.ends ≡ Some e =
        some-is (find (is_end_of e.endpoint.protocol e.external) s.ends) e
        (find-IsIn (is_end_of e.endpoint.protocol e.external) s.ends e there (of-port e.endpoint.protocol e.external e refl refl))
        (λ x is.
        let k = find-some (is_end_of e.endpoint.protocol e.external) s.ends x is in
        let at = port-of e.endpoint.protocol e.external x k.1 in
        InOrder-one s.ends x e reached.sound.ordered k.0 there (record { protocol = ap protocol_number at.0; external = at.1 })) in
        let no : None ≡ Some e = sym (none_past e.endpoint.protocol e.external high) ∙ own in cc)
  ]

  row_told : (p : Protocol) (n : ℕ) → filter (has_come s.last) (listed (end_of v p) 0 n) ≡ listed (λ i. find (is_end_of p i) s.ends) 0 n
  row_told p n =
      listed-filter (has_come s.last) (end_of v p) 0 n
      ∙ listed-same (λ i. if_passing (has_come s.last) (end_of v p i)) (λ i. find (is_end_of p i) s.ends) 0 n (λ i a b. come_at p i)

  pub ends-told : s.ends ≡ ends_come s.last v
  ends-told =
      let n : ℕ = 65536 in
      rows-told s.ends reached.sound.ordered n low_port
      ∙ ap (λ (zs : List End). zs ++ listed (λ i. find (is_end_of Udp i) s.ends) 0 n) (sym (row_told Tcp n))
      ∙ ap (λ (zs : List End). filter (has_come s.last) (listed (end_of v Tcp) 0 n) ++ zs) (sym (row_told Udp n))
      ∙ sym (filter-append (has_come s.last) (listed (end_of v Tcp) 0 n) (listed (end_of v Udp) 0 n))
