-- The uses of ports in a row, after all of them got one.
use Rattle.std.proofs.Common.{◌≡◌, ℕ, ◌+◌, ◌-◌, ◌<◌, ◌≤◌, cond, refl, sym, ap, ◌∙◌, subst}
use Rattle.std.proofs.lemmas.Bool.{and_from}
use Rattle.pcp_base.specs.declared.leases.Protocol.{Protocol}
use Rattle.pcp_base.proofs.Same.{same_protocol-Decides}
use Rattle.port_spans.proofs.RunLemmas.{in_by}
use Rattle.external_pool.specs.declared.uses.Use.{Use}
use Rattle.external_pool.specs.PortUses.{use_along}
use Rattle.external_pool.specs.Holdings.{Holdings, IsWhole, use_of, with_use}
use Rattle.external_pool.proofs.Counted.{with_use-whole, use_of-with_use}

module _ (old new : Holdings) (protocol : Protocol) (start n : ℕ) (value : Use) (whole : IsWhole old) (below : start + n ≤ 65536) (is : new ≡ with_use protocol start n value old) where
  pub still-whole : IsWhole new
  still-whole = subst IsWhole (sym is) (with_use-whole old protocol start n value whole below)

  pub used : (port : ℕ) → start ≤ port → port < start + n → use_of new protocol port ≡ use_along (port - start) value
  used port from to =
      ap (λ (p : Holdings). use_of p protocol port) is ∙ use_of-with_use old protocol start n value whole below protocol port
      ∙ ap (λ b. cond b (use_along (port - start) value) (use_of old protocol port)) (and_from _ _ ((same_protocol-Decides protocol protocol).1 refl) (in_by start n port from to))
