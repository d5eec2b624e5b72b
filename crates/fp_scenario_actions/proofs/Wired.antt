-- What the ends of wires, ports and names are that an action finds.
use Rattle.std.proofs.Common.{◌≡◌, ℕ, Bool, true, false, not, cond, List, [], Option, Some, None, option_map, refl, sym, ap, ◌∙◌}
use Rattle.std.specs.Prelude.{nat_lt, ◌^◌, find, unwrap_or, slice_get}
use Rattle.fp_base.proofs.Bools.{both}
use Rattle.fp_base.proofs.Options.{same_some, mapped_some, then_some, some_if}
use Rattle.fp_tables.specs.Acts.{has_role}
use Rattle.fp_tables.specs.Instances.{is_port, goes_from_output_to_input}
use Rattle.fp_tables.specs.Lists.{if_some, some_and}
use Rattle.fp_tables.specs.Lookup.{Described, is_input, is_output, same_end, wire_from}
use Rattle.fp_tables.specs.Positions.{port_of}
use Rattle.fp_tables.specs.Programs.{is_general_input}
use Rattle.fp_tables.specs.Sound.{IsSoundAt, IsSoundFor, IsSoundWith}
use Rattle.fp_tables.specs.Specials.{is_special}
use Rattle.fp_tables.specs.declared.component.Port.{Port}
use Rattle.fp_tables.specs.declared.component.Role.{Role}
use Rattle.fp_tables.specs.declared.component.Role.TheVariants as role
use Rattle.fp_tables.specs.declared.component.Special.TheVariants as special
use Rattle.fp_tables.specs.declared.topology.End.{End}
use Rattle.fp_tables.specs.declared.topology.Topology.{Topology}
use Rattle.fp_tables.specs.declared.topology.Wire.{Wire}
use Rattle.fp_tables.proofs.Optional.{some_and_of, some_and_at}
use Rattle.fp_scenario_actions.proofs.MeantKinds.{found_passes}
use Rattle.fp_scenario_actions.specs.Acting.{end_at, is_recv, small, wire_at}
use Rattle.fp_scenario_actions.specs.Named.{port_named, port_where}

pub tested_if : {A : Type 0} (p : A → Bool) (o : Option A) (x : A) → o ≡ Some x → if_some p o ≡ true → p x ≡ true
tested_if p o x is h = ap (if_some p) (sym is) ∙ h

-- ---- what is found by a test

kept_is : (test : Port → Bool) (ports : List Port) (n p : ℕ) (b : Bool) → some_and test (slice_get ports n) ≡ b → cond b (Some n) None ≡ Some p → (x : Port) × (slice_get ports p ≡ Some x) × (test x ≡ true)
kept_is test ports n p true is e = let r = some_and_of test (slice_get ports n) is in (r.0, ap (slice_get ports) (sym (same_some e)) ∙ r.1, r.2)
kept_is test ports n p false is e = absurd (cc)

pub where_is : (test : Port → Bool) (ports : List Port) (name : List ℕ) (p : ℕ) → port_where test ports name ≡ Some p → (x : Port) × (slice_get ports p ≡ Some x) × (test x ≡ true)
where_is test ports name p e = let q = then_some (λ (n : ℕ). cond (some_and test (slice_get ports n)) (Some n) None) (port_named ports name) p e in kept_is test ports q.0 p (some_and test (slice_get ports q.0)) refl q.2

-- ---- wires

pub wire_is : (t : Described) (e to : End) → wire_at t e ≡ Some to → wire_from t e ≡ Some to
wire_is t e to is =
    let n = then_some (λ (k : ℕ). wire_from t (end_at e.instance e.port k)) (small e.number) to is in
    ap (λ (k : ℕ). wire_from t (end_at e.instance e.port k)) (some_if e.number n.0 (nat_lt e.number (2 ^ 32)) n.1) ∙ n.2

input_of_role : (r : Role) → is_input r ≡ true → is_special special.CmdRecv r ≡ false → is_general_input r ≡ true
input_of_role (role.Input way) is not = refl
input_of_role role.Output is not = absurd (cc)
input_of_role (role.Internal way) is not = absurd (cc)
input_of_role (role.Special special.CmdRecv) is not = absurd (cc)
input_of_role (role.Special _) is not = absurd (cc)

module _ (t : Described) (sound : IsSoundFor t.model (Some t.topology)) where
  pub wire_to_input : (e to : End) → wire_from t e ≡ Some to → (y : Port) × (port_of t.model to.instance to.port ≡ Some y) × (is_input y.role ≡ true)
  wire_to_input e to is = go (slice_get t.model.topologies t.topology) sound.1 is
    where
      ends : (o : Topology) → IsSoundWith t.model o → (w : Wire) → find (λ (w : Wire). same_end w.from e) o.wires ≡ Some w → w.to ≡ to → (y : Port) × (port_of t.model to.instance to.port ≡ Some y) × (is_input y.role ≡ true)
      ends o good w found same =
          let roles = both (is_port t.model o (λ p. is_output p.role) w.from) (is_port t.model o (λ p. is_input p.role) w.to)
          (found_passes (λ (w : Wire). same_end w.from e) (goes_from_output_to_input t.model o) o.wires w found good.wires_go_from_outputs_to_inputs) in
          let y = some_and_of (λ (p : Port). is_input p.role) (port_of t.model w.to.instance w.to.port) roles.1 in
          (y.0, ap (λ (x : End). port_of t.model x.instance x.port) (sym same) ∙ y.1, y.2)

      go : (o : Option Topology) → IsSoundAt t.model o → option_map (λ (w : Wire). w.to) (find (λ (w : Wire). same_end w.from e) (unwrap_or (option_map (λ (x : Topology). x.wires) o) [])) ≡ Some to
          → (y : Port) × (port_of t.model to.instance to.port ≡ Some y) × (is_input y.role ≡ true)
      go None good h = absurd good
      go (Some o) good h = let w = mapped_some (λ (w : Wire). w.to) (find (λ (w : Wire). same_end w.from e) o.wires) to h in ends o good w.0 w.1 w.2

  -- a wire that leads to no port for commands leads to a general input
  pub wire_to_general : (e to : End) → wire_from t e ≡ Some to → not (is_recv t to) ≡ true → has_role t is_general_input to ≡ true
  wire_to_general e to is not_recv =
      let y = wire_to_input e to is in
      some_and_at (λ (x : Port). is_general_input x.role) (port_of t.model to.instance to.port) y.0 y.1
      (input_of_role y.0.role y.2 (not_of (is_special special.CmdRecv y.0.role) (ap not (sym (ap (some_and (λ (x : Port). is_special special.CmdRecv x.role)) y.1)) ∙ not_recv)))
    where
      not_of : (b : Bool) → not b ≡ true → b ≡ false
      not_of false h = refl
      not_of true h = absurd (cc)
