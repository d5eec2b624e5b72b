-- What both ends of a wire of a sound topology are.
use Rattle.std.proofs.Common.{◌≡◌, ℕ, Bool, true, false, ◌&&◌, ◌||◌, ◌==◌, nat_lt, nat_le, List, [], ◌∷◌, length, find, Option, Some, None, option_map, option_and_then, unwrap_or, is_some, refl, sym, ap, ap₂, ◌∙◌, subst, slice_get, arith}
use Rattle.std.proofs.lemmas.Bool.Decides.{nat_tests}
use Rattle.std.specs.List.{list_all}
use Rattle.fp_base.proofs.Options.{then_some, mapped_some, some_of}
use Rattle.fp_base.specs.Same.{same_option, same_list}
use Rattle.fp_base.proofs.Sameness.{nat_same, option_same}
use Rattle.fp_base.proofs.Bools.{both}
use Rattle.fp_tables.specs.Arguments.{kinds_of}
use Rattle.fp_tables.specs.Components as components
use Rattle.fp_tables.specs.Instances as instances
use Rattle.fp_tables.specs.Lists.{if_some, some_and, is_in}
use Rattle.fp_tables.specs.Lookup.{Described, placed, wire_from, same_end, is_input, is_output}
use Rattle.fp_tables.specs.Positions.{component_of, port_of, port_lies}
use Rattle.fp_tables.specs.Sound.{IsSoundWith, IsSoundAt, IsSoundFor, each_port}
use Rattle.fp_tables.specs.declared.kind.Formal.{Formal}
use Rattle.fp_tables.specs.declared.kind.Kind.{Kind}
use Rattle.fp_tables.specs.declared.kind.Kind.TheVariants as kind
use Rattle.fp_tables.specs.declared.kind.PortDef.{PortDef}
use Rattle.fp_tables.specs.declared.component.Component.{Component}
use Rattle.fp_tables.specs.declared.component.Port.{Port as PortOf}
use Rattle.fp_tables.specs.declared.component.Role.{Role}
use Rattle.fp_tables.specs.declared.component.Role.TheVariants as role
use Rattle.fp_tables.specs.declared.topology.End.{End}
use Rattle.fp_tables.specs.declared.topology.Topology.{Topology}
use Rattle.fp_tables.specs.declared.topology.Wire.{Wire}
use Rattle.fp_tables.specs.declared.model.Model.{Model}
use Rattle.fp_tables.specs.declared.program.Program.{Program}
use Rattle.fp_tables.specs.Acts.{is_placed}
use Rattle.fp_base.proofs.Lists.{all_get, get_below}
use Rattle.fp_run_laws.proofs.Lists.{find_passes}
use Rattle.fp_run_laws.proofs.Parts.{of_component, component_lies_at}
use Rattle.fp_tables.proofs.Optional.{some_and_of}

pub port_sound : (m : Model) (test : PortOf → Bool) (i k : ℕ) (p : PortOf) → each_port test m ≡ true → port_of m i k ≡ Some p → test p ≡ true
port_sound m test i k p h e =
    let c = then_some (λ (c : Component). slice_get c.ports k) (component_of m i) p e in
    all_get test c.0.ports k p (of_component m (λ (c : Component). list_all test c.ports) i c.0 h c.1) c.2

-- a general output or input
unfoldable pub is_general : Role → Bool
is_general role.Output = true
is_general (role.Input way) = true
is_general _ = false

-- both ends of a wire
pub record Joins (t : Described) (program : Program) (from to : End) : Type 0 where
  pub from_placed : is_placed t from.instance ≡ true
  pub to_placed : is_placed t to.instance ≡ true
  pub output : PortOf
  pub input : PortOf
  pub from_port : port_of t.model from.instance from.port ≡ Some output
  pub to_port : port_of t.model to.instance to.port ≡ Some input
  pub is_output : is_output output.role ≡ true
  pub is_input : is_input input.role ≡ true
  pub from_below : nat_lt from.number output.size ≡ true
  pub to_below : nat_lt to.number input.size ≡ true
  pub of : output.of ≡ input.of

module _ (t : Described) (program : Program) (sound : IsSoundFor t.model (Some t.topology)) where
  pub joins : (e to : End) → wire_from t e ≡ Some to → Joins t program e to
  joins e to h = go (slice_get t.model.topologies t.topology) refl sound.1 h
    where
      at_wire : (o : Topology) → slice_get t.model.topologies t.topology ≡ Some o → IsSoundWith t.model o → (w : Wire) → find (λ (w : Wire). same_end w.from e) o.wires ≡ Some w → Joins t program w.from w.to
      at_wire o is good w found =
          let members = both (instances.is_member t.model o w.from.instance) (instances.is_member t.model o w.to.instance) (find_passes (λ (w : Wire). same_end w.from e) (instances.joins_members t.model o) o.wires w good.wires_join_members found).1 in
          let roles = both (instances.is_port t.model o (λ p. is_output p.role) w.from) (instances.is_port t.model o (λ p. is_input p.role) w.to)
          (find_passes (λ (w : Wire). same_end w.from e) (instances.goes_from_output_to_input t.model o) o.wires w good.wires_go_from_outputs_to_inputs found).1 in
          let below = both (instances.is_port t.model o (λ p. nat_lt w.from.number p.size) w.from) (instances.is_port t.model o (λ p. nat_lt w.to.number p.size) w.to)
          (find_passes (λ (w : Wire). same_end w.from e) (instances.is_numbered_below_sizes t.model o) o.wires w good.wires_are_numbered_below_sizes found).1 in
          let def = (find_passes (λ (w : Wire). same_end w.from e) (instances.joins_one_definition t.model o) o.wires w good.wires_join_one_definition found).1 in
          let placed_is : placed t ≡ o.instances = ap (λ (q : Option Topology). unwrap_or (option_map (λ (o : Topology). o.instances) q) []) is in
          let p = some_and_of (λ (p : PortOf). is_output p.role) (port_of t.model w.from.instance w.from.port) roles.0 in
          let q = some_and_of (λ (p : PortOf). is_input p.role) (port_of t.model w.to.instance w.to.port) roles.1 in
          record {
            from_placed = ap (λ (l : List ℕ). is_in w.from.instance l) placed_is ∙ members.0;
            to_placed = ap (λ (l : List ℕ). is_in w.to.instance l) placed_is ∙ members.1;
            output = p.0;
            input = q.0;
            from_port = p.1;
            to_port = q.1;
            is_output = p.2;
            is_input = q.2;
            from_below = ap (some_and (λ (x : PortOf). nat_lt w.from.number x.size)) (sym p.1) ∙ below.0;
            to_below = ap (some_and (λ (x : PortOf). nat_lt w.to.number x.size)) (sym q.1) ∙ below.1;
            of = (option_same (λ j k. j == k) nat_same).equal p.0.of q.0.of
                (ap (some_and (λ (x : PortOf). same_option (λ j k. j == k) p.0.of x.of)) (sym q.1)
                ∙ ap (some_and (λ (x : PortOf). instances.is_port t.model o (λ (y : PortOf). same_option (λ j k. j == k) x.of y.of) w.to)) (sym p.1) ∙ def);
          }

      same_ends : (a b : End) → same_end a b ≡ true → a ≡ b
      same_ends a b h =
          let x = both ((a.instance == b.instance) && (a.port == b.port)) (a.number == b.number) h in
          let y = both (a.instance == b.instance) (a.port == b.port) x.0 in
          let p : a.instance ≡ b.instance = nat_same.equal _ _ y.0 in
          let q : a.port ≡ b.port = nat_same.equal _ _ y.1 in
          let r : a.number ≡ b.number = nat_same.equal _ _ x.1 in
          λ j. record { instance = p j; port = q j; number = r j }

      go : (o : Option Topology) → slice_get t.model.topologies t.topology ≡ o → IsSoundAt t.model o
          → option_map (λ (w : Wire). w.to) (find (λ (w : Wire). same_end w.from e) (unwrap_or (option_map (λ (o : Topology). o.wires) o) [])) ≡ Some to
          → Joins t program e to
      go None is good h = absurd good
      go (Some o) is good h =
          let w = mapped_some (λ (w : Wire). w.to) (find (λ (w : Wire). same_end w.from e) o.wires) to h in
          let f = find_passes (λ (w : Wire). same_end w.from e) (instances.joins_members t.model o) o.wires w.0 good.wires_join_members w.1 in
          let here : w.0.from ≡ e = same_ends w.0.from e f.0 in
          subst (λ (x : End). Joins t program x to) here (subst (λ (x : End). Joins t program w.0.from x) w.2 (at_wire o is good w.0 w.1))

  -- ---- formals of ports of one definition

  differs : {X : Type 0} (x : X) → Some x ≡ None → ⊥
  differs x h = cc

  pub port_lies_at : (i k : ℕ) (p : PortOf) → port_of t.model i k ≡ Some p → port_lies (length t.model.types) (length t.model.ports) p ≡ true
  port_lies_at i k p found =
      let c = then_some (λ (c : Component). slice_get c.ports k) (component_of t.model i) p found in
      let lies = component_lies_at t.model sound.0 i c.0 c.1 in
      all_get (port_lies (length t.model.types) (length t.model.ports)) c.0.ports k p (both _ _ (both _ _ (both _ _ (both _ _ (both _ _ (both _ _ lies).0).0).0).0).0).0 c.2

  same_kinds : (a b : Kind) → components.same_kind a b ≡ true → a ≡ b
  same_kinds kind.U8 kind.U8 h = refl
  same_kinds kind.U16 kind.U16 h = refl
  same_kinds kind.U32 kind.U32 h = refl
  same_kinds kind.U64 kind.U64 h = refl
  same_kinds kind.I8 kind.I8 h = refl
  same_kinds kind.I16 kind.I16 h = refl
  same_kinds kind.I32 kind.I32 h = refl
  same_kinds kind.I64 kind.I64 h = refl
  same_kinds kind.Bool kind.Bool h = refl
  same_kinds (kind.Str m) (kind.Str n) h = ap kind.Str (nat_same.equal m n h)
  same_kinds (kind.Named m) (kind.Named n) h = ap kind.Named (nat_same.equal m n h)
  same_kinds _ _ h = absurd (cc)

  same_formals : (fs gs : List Formal) → same_list components.same_formal fs gs ≡ true → kinds_of fs ≡ kinds_of gs
  same_formals [] [] h = refl
  same_formals [] (g ∷ gs) h = absurd (cc)
  same_formals (f ∷ fs) [] h = absurd (cc)
  same_formals (f ∷ fs) (g ∷ gs) h =
      let b = both (components.same_formal f g) (same_list components.same_formal fs gs) h in
      let k : f.kind ≡ g.kind = same_kinds f.kind g.kind (both _ _ (both _ _ (both _ _ b.0).0).0).1 in
      ap₂ (λ (x : Kind) (l : List Kind). x ∷ l) k (same_formals fs gs b.1)

  no_formals : (fs : List Formal) → nat_le (length fs) 0 ≡ true → kinds_of fs ≡ []
  no_formals [] h = refl
  no_formals (f ∷ fs) h = absurd (grind (arith, nat_tests))

  -- the kinds of the formals of a definition, none where there is none
  kinds_by : Option PortDef → List Kind
  kinds_by None = []
  kinds_by (Some d) = kinds_of d.formals

  general_kinds : (i k : ℕ) (p : PortOf) → port_of t.model i k ≡ Some p → is_general p.role ≡ true → kinds_of p.formals ≡ kinds_by (components.definition t.model.ports p)
  unfolding is_general kinds_by
  general_kinds i k p found general =
      go (components.definition t.model.ports p) refl (port_sound t.model (components.has_its_formals t.model.ports) i k p sound.0.ports.ports_have_their_formals found)
    where
      suits : components.suits_its_role t.model.ports p ≡ true
      suits = port_sound t.model (components.suits_its_role t.model.ports) i k p sound.0.ports.ports_suit_their_roles found

      by_role : (r : Role) → p.role ≡ r → is_general r ≡ true → (is_some p.of || nat_le (length p.formals) 0) ≡ true
      by_role role.Output is g = ap (λ (r : Role). components.suits_its_role t.model.ports (record p { role = r })) (sym is) ∙ suits
      by_role (role.Input way) is g = ap (λ (r : Role). components.suits_its_role t.model.ports (record p { role = r })) (sym is) ∙ suits
      by_role (role.Special s) is g = absurd (cc)
      by_role (role.Internal way) is g = absurd (cc)

      go : (o : Option PortDef) → components.definition t.model.ports p ≡ o → if_some (λ (d : PortDef). same_list components.same_formal p.formals d.formals) o ≡ true → kinds_of p.formals ≡ kinds_by o
      go (Some d) is h = same_formals p.formals d.formals h
      go None is h = by_of p.of refl (by_role p.role refl general)
        where
          by_of : (o : Option ℕ) → p.of ≡ o → (is_some p.of || nat_le (length p.formals) 0) ≡ true → kinds_of p.formals ≡ []
          by_of None e g = no_formals p.formals (ap (λ (o : Option ℕ). is_some o || nat_le (length p.formals) 0) (sym e) ∙ g)
          by_of (Some d) e g =
              let lies : nat_lt d (length t.model.ports) ≡ true = ap (if_some (λ k. nat_lt k (length t.model.ports))) (sym e) ∙ (both _ _ (port_lies_at i k p found)).1 in
              let there = some_of (slice_get t.model.ports d) (get_below t.model.ports d lies) in
              let none : slice_get t.model.ports d ≡ None = ap (λ (o : Option ℕ). option_and_then (slice_get t.model.ports) o) (sym e) ∙ is in
              absurd (differs there.0 (sym there.1 ∙ none))

  pub one_kinds : (i k j n : ℕ) (p q : PortOf) → port_of t.model i k ≡ Some p → port_of t.model j n ≡ Some q → is_general p.role ≡ true → is_general q.role ≡ true → p.of ≡ q.of → kinds_of p.formals ≡ kinds_of q.formals
  one_kinds i k j n p q f g gp gq of =
      general_kinds i k p f gp ∙ ap (λ (o : Option ℕ). kinds_by (option_and_then (slice_get t.model.ports) o)) of ∙ sym (general_kinds j n q g gq)
