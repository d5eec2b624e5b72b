-- The topology of a name, as the code looks for it.
use Rattle.std.proofs.Common.{◌≡◌, ℕ, zero, suc, ◌<◌, ◌^◌, Bool, true, false, cond, List, [], ◌∷◌, length, Option, Some, None, option_map, slice_get, refl, sym, subst, arith}
use Rattle.std.specs.Prelude.{position, MatchOption}
use Rattle.std.specs.List.{list_all}
use Rattle.std.specs.Str.{bytes_eq}
use Rattle.std.proofs.lemmas.Bool.Decides.{nat_tests}
use Rattle.std.proofs.lemmas.Slice.Eq.{bytes_eq-Decides}
use Rattle.fp_base.proofs.Bools.{both}
use Rattle.fp_tables.proofs.Firsts.{position_cons}
use Rattle.fp_tables.specs.Positions.{component_is_short, is_short, lists_are_short, machine_is_short}
use Rattle.fp_tables.specs.declared.model.Model.{Model}
use Rattle.fp_tables.specs.declared.topology.Topology.{Topology}
use Rattle.fp_main.specs.Topologies.{IsTopology, LacksTopology}

-- a position of the list is one that 32 bits number
below : (ts : List Topology) → is_short ts ≡ true → length ts < 2 ^ 32
below ts h = grind (arith, nat_tests)

pub fits : (m : Model) (at : ℕ) → lists_are_short m ≡ true → at < length m.topologies → at < 2 ^ 32
fits m at short within =
    let instances = both _ (list_all (λ (t : Topology). is_short t.instances) m.topologies) short in
    let machines = both _ (list_all machine_is_short m.machines) instances.0 in
    let components = both _ (list_all component_is_short m.components) machines.0 in
    let topologies = both _ (is_short m.topologies) components.0 in
    let few = below m.topologies topologies.1 in
    omega (arith, few, within)

module _ (name : List ℕ) where
  abbrev is_named : Topology → Bool
  is_named t = bytes_eq t.name name

  abbrev IsNamedAt : List Topology → ℕ → Type 0
  IsNamedAt ts at = (t : Topology) × (slice_get ts at ≡ Some t) × (t.name ≡ name)

  abbrev Finds : List Topology → Option ℕ → Type 0
  Finds ts None = (at : ℕ) × IsNamedAt ts at → ⊥
  Finds ts (Some at) = IsNamedAt ts at

  finds_later : (t : Topology) (ts : List Topology) (b : Bool) (o : Option ℕ) → is_named t ≡ b → Finds ts o → Finds (t ∷ ts) (cond b (Some 0) (option_map suc o))
  finds_later t ts true o is rest = (t, refl, (bytes_eq-Decides t.name name).0 is)
  finds_later t ts false (Some at) is rest = rest
  finds_later t ts false None is rest = λ there. never there.0 there.1
    where
      never : (at : ℕ) → IsNamedAt (t ∷ ts) at → ⊥
      never zero there = other there.0 there.1 there.2
        where
          other : (u : Topology) → Some t ≡ Some u → u.name ≡ name → ⊥
          other u same named =
              let yes' : bytes_eq u.name name ≡ true = (bytes_eq-Decides u.name name).1 named in
              cc
      never (suc at) there = rest (at, there)

  finds : (ts : List Topology) → Finds ts (position is_named ts)
  finds [] = λ there. none there.1.0 there.1.1
    where
      none : (t : Topology) → None ≡ Some t → ⊥
      none t e = cc
  finds (t ∷ ts) = subst (Finds (t ∷ ts)) (sym (position_cons is_named t ts)) (finds_later t ts (is_named t) (position is_named ts) refl (finds ts))

  pub found_at : (m : Model) (ts : List Topology) (o : Option ℕ) → ts ≡ m.topologies → o ≡ position is_named ts → MatchOption o (LacksTopology m name) (IsTopology m name)
  found_at m ts o same e = matched o (subst (λ (us : List Topology). Finds us o) same (subst (Finds ts) (sym e) (finds ts)))
    where
      matched : (o : Option ℕ) → Finds m.topologies o → MatchOption o (LacksTopology m name) (IsTopology m name)
      matched None h = h
      matched (Some at) h = h
