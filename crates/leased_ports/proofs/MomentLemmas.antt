-- Last ends at a later moment.
use Rattle.std.specs.Prelude.{◌≡◌, refl, ℕ, ◌+◌, ◌<◌, ◌≤◌, nat_lt, Bool, true, false, Option, Some, None}
use Rattle.std.proofs.Common.{sym, ap, ◌∙◌, arith, cond}
use Rattle.std.proofs.lemmas.Bool.{ltb-true, ltb-false, lt-ltb, le-ltb}
use Rattle.pcp_base.specs.declared.leases.Protocol.{Protocol}
use Rattle.pcp_base.specs.declared.leases.End.{End}
use Rattle.pcp_base.specs.Ends.{is_recent}
use Rattle.pcp_base.specs.States.{State, empty_state}
use Rattle.pcp_base.specs.Sound.{SoundState}
use Rattle.leased_ports.specs.LastEnds.{last_end}
use Rattle.leased_ports.specs.Leased.{Leased, IsPortsOf, end_of, while_recent, at_moment, fresh_ports}
use Rattle.leased_ports.proofs.SpotLemmas.{empty_by}
use Rattle.leased_ports.proofs.LastEndLemmas.{last-some, last-at}

module _ (s : State) (sound : SoundState s) (n m : ℕ) (later : n ≤ m) (protocol : Protocol) (port : ℕ) where
  earlier : (e : End) → last_end s m protocol port ≡ Some e → last_end s n protocol port ≡ Some e
  earlier e h =
      let k = last-some s sound m protocol port e h in
      let recent : m < e.end + 120 = ltb-true m (e.end + 120) k.1 in
      last-at s sound n protocol port e k.2 k.3 k.0 (lt-ltb n (e.end + 120) (omega (arith, recent, later)))

  still : (o : Option End) → last_end s n protocol port ≡ o → (x : Option End) → last_end s m protocol port ≡ x → x ≡ while_recent m o
  still None h None k = refl
  still None h (Some e) k = absurd (let there = earlier e k in let both : None ≡ Some e = sym h ∙ there in cc)
  still (Some e) h (Some f) k =
      let there = earlier f k in
      let same : Some e ≡ Some f = sym h ∙ there in
      let one : e ≡ f = cc in
      let recent = (last-some s sound m protocol port f k).1 in
      ap Some (sym one) ∙ sym (ap (λ (b : Bool). cond b (Some e) None) (ap (is_recent m) one ∙ recent))
  still (Some e) h None k =
      elim (is_recent m e) as (λ b. is_recent m e ≡ b → None ≡ while_recent m (Some e)) [
        | true ↦ λ recent.
            let a = last-some s sound n protocol port e h in
            let there = last-at s sound m protocol port e a.2 a.3 a.0 recent in
            absurd (let both : None ≡ Some e = sym k ∙ there in cc)
        | false ↦ λ over. sym (ap (λ (b : Bool). cond b (Some e) None) over)
      ] refl

  pub last_end-later : last_end s m protocol port ≡ while_recent m (last_end s n protocol port)
  last_end-later = still (last_end s n protocol port) refl (last_end s m protocol port) refl

pub ports-later : (v : Leased) (s : State) (m : ℕ) → v.reached ≤ m → IsPortsOf v s → IsPortsOf (at_moment m v) s
ports-later v s m later is = let passed : s.last ≤ m = omega (arith, is.passed, later) in record { passed = passed; same = is.same }

twice-recent : (n m : ℕ) → n ≤ m → (o : Option End) → while_recent m o ≡ while_recent m (while_recent n o)
twice-recent n m later None = refl
twice-recent n m later (Some e) = by (nat_lt n (e.end + 120)) refl
  where
    by : (b : Bool) → nat_lt n (e.end + 120) ≡ b → while_recent m (Some e) ≡ while_recent m (cond b (Some e) None)
    by true h = refl
    by false h = ap (λ (b : Bool). cond b (Some e) None) (le-ltb m (e.end + 120) (let over = ltb-false n (e.end + 120) h in omega (arith, over, later)))

pub ports-told : (v : Leased) (s : State) (m : ℕ) (protocol : Protocol) (port : ℕ) → SoundState s → IsPortsOf v s → s.last ≤ m → while_recent m (end_of v protocol port) ≡ last_end s m protocol port
ports-told v s m protocol port sound is later =
    twice-recent s.last m later (end_of v protocol port) ∙ ap (while_recent m) (is.same protocol port) ∙ sym (last_end-later s sound s.last m later protocol port)

pub ports-new : (low high quota : ℕ) → IsPortsOf (fresh_ports low high quota) empty_state
ports-new low high quota = record { passed = omega arith; same = λ protocol port. ap (while_recent 0) (empty_by protocol port) }
