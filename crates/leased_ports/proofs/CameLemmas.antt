-- The ends of a state, by the last ends of its ports.
use Rattle.std.specs.Prelude.{◌≡◌, refl, ℕ, ◌+◌, ◌≤◌, nat_le, Bool, true, false, find, Option, Some, None}
use Rattle.std.proofs.Common.{inl, inr, sym, ap, ◌∙◌, arith, cond}
use Rattle.std.proofs.lemmas.Bool.{leb-true, le-leb, lt-ltb}
use Rattle.pcp_base.specs.declared.leases.Protocol.{Protocol}
use Rattle.pcp_base.specs.declared.leases.End.{End}
use Rattle.pcp_base.specs.Protocols.{protocol_number}
use Rattle.pcp_base.specs.States.{State}
use Rattle.pcp_base.specs.Ends.{is_end_of}
use Rattle.pcp_base.specs.Records.{IsEndAt}
use Rattle.pcp_base.specs.Reached.{IsReached}
use Rattle.pcp_base.proofs.Members.{All-IsIn, find-some, find-IsIn}
use Rattle.pcp_base.proofs.EndOrder.{InOrder-one}
use Rattle.leased_ports.specs.LastEnds.{last_end, come}
use Rattle.leased_ports.proofs.LastEndLemmas.{found-is, last-some, last-from, old-last}
use Rattle.leased_ports.proofs.RecordLemmas.{ends-late, of-port, port-of, same-options}

came-some : (m : ℕ) (o : Option End) (e : End) → come m o ≡ Some e → (o ≡ Some e) × (e.end ≤ m)
came-some m None e h = absurd (let no : None ≡ Some e = h in cc)
came-some m (Some x) e h = by_test (nat_le x.end m) refl h
  where
    by_test : (b : Bool) → nat_le x.end m ≡ b → cond b (Some x) None ≡ Some e → (Some x ≡ Some e) × (e.end ≤ m)
    by_test true t k = let same : x ≡ e = (cc) in (k, rw (← same) (leb-true x.end m t))
    by_test false t k = absurd (let no : None ≡ Some e = k in cc)

some-came : (m : ℕ) (e : End) → e.end ≤ m → come m (Some e) ≡ Some e
some-came m e h = ap (λ b. cond b (Some e) None) (le-leb e.end m h)

module _ (s : State) (reached : IsReached s) (protocol : Protocol) (port : ℕ) where
  from_ends : (e : End) → find (is_end_of protocol port) s.ends ≡ Some e → come s.last (last_end s s.last protocol port) ≡ Some e
  from_ends e h =
      let k = find-some (is_end_of protocol port) s.ends e h in
      let at = port-of protocol port e k.1 in
      let is = All-IsIn (IsEndAt s.last) s.ends e reached.ends k.0 in
      ap (come s.last) (old-last s reached.sound s.last protocol port e at.0 at.1 k.0 (lt-ltb s.last (e.end + 120) is.recent)) ∙ some-came s.last e is.ended

  to_ends : (e : End) → come s.last (last_end s s.last protocol port) ≡ Some e → find (is_end_of protocol port) s.ends ≡ Some e
  to_ends e h =
      let k = came-some s.last (last_end s s.last protocol port) e h in
      let at = last-some s reached.sound s.last protocol port e k.0 in
      elim (last-from s reached.sound s.last protocol port e k.0) [
        | inl old ↦ found-is s reached.sound s.last (find (is_end_of protocol port) s.ends) e
            (find-IsIn (is_end_of protocol port) s.ends e old (of-port protocol port e at.2 at.3))
            (λ x is. let f = find-some (is_end_of protocol port) s.ends x is in
            let by = port-of protocol port x f.1 in
            InOrder-one s.ends x e reached.sound.ordered f.0 old (record { protocol = ap protocol_number (by.0 ∙ sym at.2); external = by.1 ∙ sym at.3 }))
        | inr left ↦ absurd (let late = ends-late s.table s.last e reached.maps reached.peers left.0 in let came = k.1 in omega (arith, late, came))
      ]

  pub ends-last : find (is_end_of protocol port) s.ends ≡ come s.last (last_end s s.last protocol port)
  ends-last = same-options (find (is_end_of protocol port) s.ends) (come s.last (last_end s s.last protocol port)) from_ends to_ends
