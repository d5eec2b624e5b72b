-- A wired response port is the port whose wire a response takes.
use Rattle.std.proofs.Common.{◌≡◌, ℕ, zero, suc, Bool, true, false, cond, not, ◌||◌, ◌+◌, nat_lt, List, [], ◌∷◌, length, Option, Some, None, option_map, option_and_then, is_some, unwrap_or, refl, sym, ap, ◌∙◌, slice_get, arith}
use Rattle.std.specs.List.{list_any, filter_map, position, position_or_len}
use Rattle.fp_base.proofs.Lists.{told_within}
use Rattle.fp_tables.specs.Components.{same_special}
use Rattle.fp_base.proofs.Options.{then_some, same_some}
use Rattle.fp_base.proofs.Bools.{both}
use Rattle.fp_tables.specs.Acts.{has_role}
use Rattle.fp_tables.specs.Components as components
use Rattle.fp_tables.specs.Lists.{apart}
use Rattle.fp_tables.specs.Lookup.{Described, wire_from}
use Rattle.fp_tables.specs.Positions.{component_of, port_of}
use Rattle.fp_tables.specs.Sound.{IsSoundFor}
use Rattle.fp_tables.specs.declared.component.Component.{Component}
use Rattle.fp_tables.specs.declared.component.Port.{Port as PortOf}
use Rattle.fp_tables.specs.declared.component.Role.{Role}
use Rattle.fp_tables.specs.declared.component.Role.TheVariants as role
use Rattle.fp_tables.specs.declared.component.Special.{Special}
use Rattle.fp_tables.specs.declared.topology.End.{End}
use Rattle.fp_tables.specs.Specials.{component, no_parts, is_special, special_wire}
use Rattle.fp_run_laws.proofs.Parts.{of_component}
use Rattle.fp_tables.proofs.Optional.{some_and_of}
use Rattle.fp_tables.proofs.SpecialPorts.{one_special, special_is, special_itself}

specials : List PortOf → List Special
specials ps = filter_map (λ (p : PortOf). components.special_in p.role) ps

module _ (s : Special) where
  -- it stands among the special ports
  among : (ps : List PortOf) (k : ℕ) (p : PortOf) → slice_get ps k ≡ Some p → p.role ≡ role.Special s → list_any (same_special s) (specials ps) ≡ true
  unfolding specials
  among [] k p h is = absurd (cc)
  among (q ∷ ps) zero p h is =
      let e : q.role ≡ role.Special s = ap (λ (p : PortOf). p.role) (same_some h) ∙ is in
      ap (λ (r : Role). list_any (same_special s) (specials (record q { role = r } ∷ ps))) e ∙ ap (λ (b : Bool). b || list_any (same_special s) (specials ps)) (special_itself s)
  among (q ∷ ps) (suc k) p h is = go q.role refl (among ps k p h is)
    where
      go : (r : Role) → q.role ≡ r → list_any (same_special s) (specials ps) ≡ true → list_any (same_special s) (specials (q ∷ ps)) ≡ true
      go (role.Special c) e rest = ap (λ (r : Role). list_any (same_special s) (specials (record q { role = r } ∷ ps))) e ∙ ap (λ (b : Bool). same_special s c || b) rest ∙ one (same_special s c)
        where
          one : (b : Bool) → (b || true) ≡ true
          one true = refl
          one false = refl
      go role.Output e rest = ap (λ (r : Role). list_any (same_special s) (specials (record q { role = r } ∷ ps))) e ∙ rest
      go (role.Input way) e rest = ap (λ (r : Role). list_any (same_special s) (specials (record q { role = r } ∷ ps))) e ∙ rest
      go (role.Internal way) e rest = ap (λ (r : Role). list_any (same_special s) (specials (record q { role = r } ∷ ps))) e ∙ rest

  one_more : (k : ℕ) → 1 + k ≡ suc k
  one_more k = grind (arith)

  -- it is the first of its kind
  first_is : (ps : List PortOf) (k : ℕ) (p : PortOf) → apart same_special (specials ps) ≡ true → slice_get ps k ≡ Some p → p.role ≡ role.Special s → position_or_len (λ (p : PortOf). is_special s p.role) ps ≡ k
  unfolding specials
  first_is [] k p differ h is = absurd (cc)
  first_is (q ∷ ps) zero p differ h is =
      let e : q.role ≡ role.Special s = ap (λ (p : PortOf). p.role) (same_some h) ∙ is in
      let b : is_special s q.role ≡ true = ap (is_special s) e ∙ special_itself s in
      ap (λ (b : Bool). cond (not b) (1 + position_or_len (λ (p : PortOf). is_special s p.role) ps) 0) b
  first_is (q ∷ ps) (suc k) p differ h is = go q.role refl (λ d. ap (λ (n : ℕ). 1 + n) (first_is ps k p d h is) ∙ one_more k)
    where
      rest : (r : Role) → q.role ≡ r → apart same_special (specials (record q { role = r } ∷ ps)) ≡ true
      rest r e = ap (λ (r : Role). apart same_special (specials (record q { role = r } ∷ ps))) (sym e) ∙ differ

      step : (b : Bool) → is_special s q.role ≡ b → cond (not b) (1 + position_or_len (λ (p : PortOf). is_special s p.role) ps) 0 ≡ suc k → position_or_len (λ (p : PortOf). is_special s p.role) (q ∷ ps) ≡ suc k
      step b e h = ap (λ (b : Bool). cond (not b) (1 + position_or_len (λ (p : PortOf). is_special s p.role) ps) 0) e ∙ h

      go : (r : Role) → q.role ≡ r → (apart same_special (specials ps) ≡ true → cond (not false) (1 + position_or_len (λ (p : PortOf). is_special s p.role) ps) 0 ≡ suc k) → position_or_len (λ (p : PortOf). is_special s p.role) (q ∷ ps) ≡ suc k
      go role.Output e later = step false (ap (is_special s) e) (later (rest role.Output e))
      go (role.Input way) e later = step false (ap (is_special s) e) (later (rest (role.Input way) e))
      go (role.Internal way) e later = step false (ap (is_special s) e) (later (rest (role.Internal way) e))
      go (role.Special c) e later = of_special (same_special s c) refl (both (not (list_any (same_special c) (specials ps))) (apart same_special (specials ps)) (rest (role.Special c) e))
        where
          clash : (b : Bool) → b ≡ true → not b ≡ true → ⊥
          clash true e h = cc
          clash false e h = cc

          of_special : (b : Bool) → same_special s c ≡ b → (not (list_any (same_special c) (specials ps)) ≡ true) × (apart same_special (specials ps) ≡ true)
              → position_or_len (λ (p : PortOf). is_special s p.role) (q ∷ ps) ≡ suc k
          of_special true f d =
              let one : s ≡ c = one_special s c f in
              absurd (clash (list_any (same_special c) (specials ps)) (ap (λ (x : Special). list_any (same_special x) (specials ps)) (sym one) ∙ among ps k p h is) d.0)
          of_special false f d = step false (ap (is_special s) e ∙ f) (later d.1)

module _ (t : Described) (sound : IsSoundFor t.model (Some t.topology)) where
  pub special_wired : (s : Special) (e : End) → has_role t (is_special s) e ≡ true → e.number ≡ 0 → is_some (wire_from t e) ≡ true → is_some (special_wire t e.instance s) ≡ true
  unfolding specials
  special_wired s e h first wired =
      let p = some_and_of (λ (p : PortOf). is_special s p.role) (port_of t.model e.instance e.port) h in
      let c = then_some (λ (c : Component). slice_get c.ports e.port) (component_of t.model e.instance) p.0 p.1 in
      let parts : component t e.instance ≡ c.0 = ap (λ (o : Option Component). unwrap_or o no_parts) c.1 in
      let differ = of_component t.model components.special_ports_differ e.instance c.0 sound.0.ports.special_ports_differ c.1 in
      let place : position_or_len (λ (p : PortOf). is_special s p.role) c.0.ports ≡ e.port = first_is s c.0.ports e.port p.0 differ c.2 (special_is s p.0.role p.2) in
      let below : nat_lt (position_or_len (λ (p : PortOf). is_special s p.role) c.0.ports) (length c.0.ports) ≡ true = ap (λ (n : ℕ). nat_lt n (length c.0.ports)) place ∙ told_within c.0.ports e.port p.0 c.2 in
      let found : position (λ (p : PortOf). is_special s p.role) c.0.ports ≡ Some e.port =
      ap (λ (b : Bool). cond b (Some (position_or_len (λ (p : PortOf). is_special s p.role) c.0.ports)) None) below ∙ ap Some place in
      let here : position (λ (p : PortOf). is_special s p.role) (component t e.instance).ports ≡ Some e.port = ap (λ (c : Component). position (λ (p : PortOf). is_special s p.role) c.ports) parts ∙ found in
      ap (λ (o : Option ℕ). is_some (wire_at o)) here ∙ mapped (wire_from t (record { instance = e.instance; port = e.port; number = 0 }))
      ∙ ap (λ (n : ℕ). is_some (wire_from t (record { instance = e.instance; port = e.port; number = n }))) (sym first) ∙ wired
    where
      wire_at : Option ℕ → Option (End × End)
      wire_at o = option_and_then (λ port. let from : End = record { instance = e.instance; port = port; number = 0 } in option_map (λ to. (from, to)) (wire_from t from)) o

      mapped : (o : Option End) → is_some (option_map {U = End × End} (λ to. (record { instance = e.instance; port = e.port; number = 0 }, to)) o) ≡ is_some o
      mapped None = refl
      mapped (Some to) = refl
