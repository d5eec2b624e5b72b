-- The port definitions of special ports, by their names.
use Rattle.std.proofs.Common.{◌≡◌, Bool, true, false, cond, ℕ, zero, suc, ◌+◌, ◌<◌, List, [], ◌∷◌, map, slice_get, Option, Some, None, refl, sym, ap, ◌∙◌, subst, arith, bytes_eq}
use Rattle.std.specs.Prelude.{codes}
use Rattle.std.specs.List.{position, position_from}
use Rattle.std.proofs.lemmas.Iterator.Adapters.{position_from-zero}
use Rattle.std.proofs.lemmas.Slice.Eq.{bytes_eq-Decides}
use Rattle.fp_base.proofs.Options.{same_some}
use Rattle.fp_tree.specs.declared.source.Source.{Source}
use Rattle.fp_tree.specs.declared.definition.Port.{Port}
use Rattle.fp_tables.specs.declared.component.Special.TheVariants as kind
use Rattle.fp_type_forms.specs.Written.{AllAt}
use Rattle.fp_written_parts.specs.declared.port.WrittenPortDef.{WrittenPortDef}
use Rattle.fp_component_forms.specs.declared.specials.SpecialTypes.{SpecialTypes}
use Rattle.fp_component_forms.specs.Positions.{SpecialTypesAre, names_in}
use Rattle.fp_component_forms.specs.Written.{FirstOf, PortDefIs, PortDefsAre, Scoped, port_definitions, port_names, qualified}

-- ---- the first of a name

module _ (name : List ℕ) where
  abbrev is_named : WrittenPortDef → Bool
  is_named d = bytes_eq d.name name

  -- where the list begins at a number
  abbrev FirstFrom : ℕ → List WrittenPortDef → Option ℕ → Type 0
  FirstFrom i ds None = (k : ℕ) → slice_get (names_in ds) k ≡ Some name → ⊥
  FirstFrom i ds (Some n) =
      (at : ℕ) × (n ≡ i + at) × (slice_get (names_in ds) at ≡ Some name) × ((k : ℕ) → k < at → slice_get (names_in ds) k ≡ Some name → ⊥)

  other_name : (d : WrittenPortDef) → is_named d ≡ false → Some d.name ≡ Some name → ⊥
  other_name d off at = let same : is_named d ≡ true = (bytes_eq-Decides d.name name).1 (same_some at) in absurd (cc)

  first_later : (i : ℕ) (d : WrittenPortDef) (ds : List WrittenPortDef) (o : Option ℕ) → is_named d ≡ false → FirstFrom (i + 1) ds o → FirstFrom i (d ∷ ds) o
  first_later i d ds None off h = never
    where
      never : (k : ℕ) → slice_get (names_in (d ∷ ds)) k ≡ Some name → ⊥
      never zero at = other_name d off at
      never (suc k) at = h k at
  first_later i d ds (Some n) off h = (suc h.0, (let same = h.1 in omega arith), h.2, earlier)
    where
      earlier : (k : ℕ) → k < suc h.0 → slice_get (names_in (d ∷ ds)) k ≡ Some name → ⊥
      earlier zero low at = other_name d off at
      earlier (suc k) low at = h.3 k (omega arith) at

  first_step : (i : ℕ) (d : WrittenPortDef) (ds : List WrittenPortDef) → FirstFrom (i + 1) ds (position_from is_named (i + 1) ds) → (b : Bool) → is_named d ≡ b
      → FirstFrom i (d ∷ ds) (cond b (Some i) (position_from is_named (i + 1) ds))
  first_step i d ds rest true on = (0, omega arith, ap (λ (n : List ℕ). Some n) ((bytes_eq-Decides d.name name).0 on), λ k low at. absurd (omega arith))
  first_step i d ds rest false off = first_later i d ds (position_from is_named (i + 1) ds) off rest

  first_from : (i : ℕ) (ds : List WrittenPortDef) → FirstFrom i ds (position_from is_named i ds)
  first_from i [] = λ k at. absurd (cc)
  first_from i (d ∷ ds) = first_step i d ds (first_from (i + 1) ds) (is_named d) refl

  first_whole : (ds : List WrittenPortDef) (o : Option ℕ) → FirstFrom 0 ds o → FirstOf (names_in ds) name o
  first_whole ds None h = h
  first_whole ds (Some n) h =
      let far = h.1 in
      let same : n ≡ h.0 = omega arith in
      (subst (λ (k : ℕ). slice_get (names_in ds) k ≡ Some name) (sym same) h.2, λ k low at. h.3 k (omega arith) at)

  pub first_found : (ds : List WrittenPortDef) (o : Option ℕ) → o ≡ position is_named ds → FirstOf (names_in ds) name o
  first_found ds o is = subst (λ (q : Option ℕ). FirstOf (names_in ds) name q) (sym (is ∙ position_from-zero is_named ds)) (first_whole ds _ (first_from 0 ds))

-- ---- of each kind

pub each_kind : (names : List (List ℕ)) (t : SpecialTypes) → FirstOf names (codes "Fw.Cmd") t.cmd_recv → FirstOf names (codes "Fw.CmdReg") t.cmd_reg
    → FirstOf names (codes "Fw.CmdResponse") t.cmd_resp → FirstOf names (codes "Fw.Log") t.event → FirstOf names (codes "Fw.LogText") t.text_event
    → FirstOf names (codes "Fw.Tlm") t.tlm → FirstOf names (codes "Fw.Time") t.time → FirstOf names (codes "Fw.PrmGet") t.prm_get
    → FirstOf names (codes "Fw.PrmSet") t.prm_set → SpecialTypesAre names t
each_kind names t a b c d e f g h i kind.CmdRecv = a
each_kind names t a b c d e f g h i kind.CmdReg = b
each_kind names t a b c d e f g h i kind.CmdResp = c
each_kind names t a b c d e f g h i kind.Event = d
each_kind names t a b c d e f g h i kind.TextEvent = e
each_kind names t a b c d e f g h i kind.Tlm = f
each_kind names t a b c d e f g h i kind.Time = g
each_kind names t a b c d e f g h i kind.PrmGet = h
each_kind names t a b c d e f g h i kind.PrmSet = i

-- ---- the names of what is written

names_same : (source : Source) (k : ℕ) (ps : List (Scoped Port)) (ws : List WrittenPortDef) → AllAt (λ position. PortDefIs source) k ps ws
    → names_in ws ≡ map (λ (p : Scoped Port). qualified p.scope p.node.name) ps
names_same source k [] [] h = refl
names_same source k [] (w ∷ ws) h = absurd h
names_same source k (p ∷ ps) [] h = absurd h
names_same source k (p ∷ ps) (w ∷ ws) h =
    ap (λ (n : List ℕ). n ∷ names_in ws) h.0.name ∙ ap (λ (l : List (List ℕ)). qualified p.scope p.node.name ∷ l) (names_same source (suc k) ps ws h.1)

pub written_names : (source : Source) (ws : List WrittenPortDef) → PortDefsAre source ws → names_in ws ≡ port_names source
written_names source ws h = names_same source 0 (port_definitions source) ws h
