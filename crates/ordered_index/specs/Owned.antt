-- How leases that own external ports are stored (our own; for proofs alone).
use Rattle.std.specs.Prelude.{ℕ, refl}
use Rattle.std.specs.BTreeMap.{BTreeMap}
use Rattle.std.specs.Coded.{Coded, code_by, coded×, coded_ℕ}
use Rattle.std_collections.specs.Layout.BTreeMap.{btree_map_code}
use Rattle.ordered_index.specs.declared.numbered.Numbered.{Numbered}
use Rattle.ordered_index.specs.PortSlots.{port_map_code}

-- the parts of the record, one after the other
abbrev pub owned_code : {L K : Type 0} → Coded L → Coded K → Coded (Numbered L K (ℕ × ℕ))
owned_code {L} {K} lease key =
    code_by
    (ℕ × (BTreeMap ℕ L × (BTreeMap K ℕ × BTreeMap (ℕ × ℕ) ℕ)))
    (coded× coded_ℕ
    (coded× (btree_map_code coded_ℕ lease) (coded× (btree_map_code key coded_ℕ) port_map_code)))
    (λ o. (o.next, (o.leases, (o.keys, o.ports))))
    (λ p. record { next = p.0; leases = p.1.0; keys = p.1.1.0; ports = p.1.1.1 })
    (λ _. refl)
