-- Connections that go from an output to an input of one definition: what patterns join, and what is written.
use Rattle.std.proofs.Common.{◌≡◌, ◌∙◌, ap, refl, sym, subst, ℕ, Bool, true, false, cond, List, [], length, Option, None, Some, slice_get}
use Rattle.std.specs.Prelude.{◌==◌, option_and_then, option_map, position, unwrap_or}
use Rattle.std.specs.List.{AllByRecursion, filter, list_all}
use Rattle.std.specs.Str.{bytes_eq}
use Rattle.std.proofs.lemmas.Slice.Eq.{bytes_eq-Decides}
use Rattle.fp_base.specs.declared.place.Place.{Place}
use Rattle.fp_base.proofs.Bools.{both}
use Rattle.fp_base.proofs.Lists.{all_get}
use Rattle.fp_base.proofs.Options.{then_some}
use Rattle.fp_base.proofs.Passing.{position_passes}
use Rattle.fp_tree.specs.declared.topology.Pattern.{Pattern}
use Rattle.fp_tree.specs.declared.topology.Pattern.TheVariants as pattern
use Rattle.fp_tables.specs.Components.{definition_of, suits_its_role}
use Rattle.fp_tables.specs.Lists.{some_and}
use Rattle.fp_tables.specs.Lookup.{is_input, is_output}
use Rattle.fp_tables.specs.Positions.{component_of, port_of}
use Rattle.fp_tables.specs.Programs.{is_general_input, is_general_output}
use Rattle.fp_tables.specs.Sound.{each_port}
use Rattle.fp_tables.specs.Specials.{is_special}
use Rattle.fp_tables.specs.declared.component.Component.{Component}
use Rattle.fp_tables.specs.declared.component.Port.{Port}
use Rattle.fp_tables.specs.declared.component.Role.{Role}
use Rattle.fp_tables.specs.declared.component.Role.TheVariants as role
use Rattle.fp_tables.specs.declared.component.Special.{Special}
use Rattle.fp_tables.specs.declared.component.Special.TheVariants as special
use Rattle.fp_tables.specs.declared.kind.PortDef.{PortDef}
use Rattle.fp_tables.specs.declared.model.Model.{Model}
use Rattle.fp_tables.specs.declared.topology.Instance.{Instance}
use Rattle.fp_tables.specs.declared.topology.Link.{Link}
use Rattle.fp_tables.proofs.Optional.{some_and_of}
use Rattle.fp_tables.proofs.SpecialPorts.{special_is}
use Rattle.fp_topologies.specs.declared.sorts.Definition.TheVariants.{Of, Ping}
use Rattle.fp_topologies.specs.declared.sorts.Join.{Join}
use Rattle.fp_topologies.specs.declared.sorts.Join.TheVariants.{BackFrom, OutTo, PingOut, PingBack}
use Rattle.fp_topologies.specs.declared.sorts.Sort.{Sort}
use Rattle.fp_topologies.specs.Patterns.{definition_name, is_of, is_sort, joined, joins_of, leaves, one, only_port, only_position, other}
use Rattle.fp_topologies.specs.Ports.{ports_at}
use Rattle.fp_sound_parts.specs.Premises.{DefinitionsDiffer, HasSuitingPorts}

pub record Goes (m : Model) (l : Link) : Type 0 where
  pub begins : Port
  pub ends : Port
  pub from : port_of m l.from l.from_port ≡ Some begins
  pub to : port_of m l.to l.to_port ≡ Some ends
  pub output : is_output begins.role ≡ true
  pub input : is_input ends.role ≡ true
  pub of_one : begins.of ≡ ends.of

-- ---- ports that are found

only_at : {A : Type 0} (test : A → Bool) (xs : List A) (k : ℕ) → only_position test xs ≡ Some k → (x : A) × (slice_get xs k ≡ Some x) × (test x ≡ true)
only_at {A = A} test xs k e = by (length (filter test xs) == 1) e
  where
    by : (b : Bool) → cond b (position test xs) None ≡ Some k → (x : A) × (slice_get xs k ≡ Some x) × (test x ≡ true)
    by true f = position_passes test xs k f
    by false f = absurd (cc)

module _ (m : Model) where
  pub port_there : (i p : ℕ) (q : Port) → slice_get (ports_at m.components m.instances i) p ≡ Some q → port_of m i p ≡ Some q
  port_there i p q e = by (component_of m i) e
    where
      by : (o : Option Component) → slice_get (unwrap_or (option_map (λ (c : Component). c.ports) o) []) p ≡ Some q → option_and_then (λ (c : Component). slice_get c.ports p) o ≡ Some q
      by None f = absurd (cc)
      by (Some c) f = f

  -- what holds of each port holds of an instance's
  port_passes : (test : Port → Bool) → each_port test m ≡ true → (i p : ℕ) (q : Port) → port_of m i p ≡ Some q → test q ≡ true
  port_passes test h i p q e =
      let c = then_some (λ (d : Component). slice_get d.ports p) (component_of m i) q e in
      let x = then_some (λ (y : Instance). slice_get m.components y.component) (slice_get m.instances i) c.0 c.1 in
      all_get test c.0.ports p q (all_get (λ (d : Component). list_all test d.ports) m.components x.0.component c.0 h x.2) c.2

-- ---- definitions by their names

record Named (ds : List PortDef) (name : List ℕ) (of : Option ℕ) : Type 0 where
  at : ℕ
  definition : PortDef
  is : of ≡ Some at
  there : slice_get ds at ≡ Some definition
  has : definition.name ≡ name

named_by : (ds : List PortDef) (name : List ℕ) (of : Option ℕ) → some_and (λ (d : PortDef). bytes_eq d.name name) (option_and_then (slice_get ds) of) ≡ true → Named ds name of
named_by ds name of h =
    let d = some_and_of (λ (e : PortDef). bytes_eq e.name name) (option_and_then (slice_get ds) of) h in
    let k = then_some (slice_get ds) of d.0 d.1 in
    record { at = k.0; definition = d.0; is = k.1; there = k.2; has = (bytes_eq-Decides d.0.name name).0 d.2 }

named_so : (ds : List PortDef) (name : List ℕ) (of : Option ℕ) → some_and (λ (d : PortDef). bytes_eq name d.name) (option_and_then (slice_get ds) of) ≡ true → Named ds name of
named_so ds name of h =
    let d = some_and_of (λ (e : PortDef). bytes_eq name e.name) (option_and_then (slice_get ds) of) h in
    let k = then_some (slice_get ds) of d.0 d.1 in
    record { at = k.0; definition = d.0; is = k.1; there = k.2; has = sym ((bytes_eq-Decides name d.0.name).0 d.2) }

one_named : (ds : List PortDef) → DefinitionsDiffer ds → (name : List ℕ) (a b : Option ℕ) → Named ds name a → Named ds name b → a ≡ b
one_named ds differ name a b p q = p.is ∙ ap (λ (k : ℕ). Some k) (differ p.at q.at p.definition q.definition p.there q.there (p.has ∙ sym q.has)) ∙ sym q.is

-- ---- roles

general_input : (r : Role) → is_general_input r ≡ true → is_input r ≡ true
general_input (role.Input way) h = refl
general_input r h = absurd (cc)

general_output : (r : Role) → is_general_output r ≡ true → is_output r ≡ true
general_output role.Output h = refl
general_output r h = absurd (cc)

-- ---- what patterns join

-- the special port of what is joined has the direction in which it is joined
abbrev pub Fits : Join → Type 0
Fits (BackFrom s) = is_output (role.Special s) ≡ true
Fits (OutTo s) = is_input (role.Special s) ≡ true
Fits PingOut = Unit {0}
Fits PingBack = Unit {0}

pub joins_fit : (kind : Pattern) → AllByRecursion Fits (joins_of kind)
joins_fit pattern.Command = (refl, (refl, (refl, tt)))
joins_fit pattern.Event = (refl, tt)
joins_fit pattern.TextEvent = (refl, tt)
joins_fit pattern.Telemetry = (refl, tt)
joins_fit pattern.Time = (refl, tt)
joins_fit pattern.Param = (refl, (refl, tt))
joins_fit pattern.Health = (tt, (tt, tt))

module _ (m : Model) (ports : HasSuitingPorts m) where
  special_named : (s : Special) (i p : ℕ) (q : Port) → port_of m i p ≡ Some q → is_special s q.role ≡ true → Named m.ports (definition_of s) q.of
  special_named s i p q at h = named_by m.ports (definition_of s) q.of suits
    where
      suits : some_and (λ (d : PortDef). bytes_eq d.name (definition_of s)) (option_and_then (slice_get m.ports) q.of) ≡ true
      suits =
          subst (λ (r : Role). suits_its_role m.ports (record { name = q.name; role = r; size = q.size; of = q.of; formals = q.formals }) ≡ true) (special_is s q.role h)
          (port_passes m (suits_its_role m.ports) ports.suit_their_roles i p q at)

  module _ (at : Place) (i a target b : ℕ) (p q : Port) (mine : port_of m i a ≡ Some p) (theirs : port_of m target b ≡ Some q) where
    pub goes_joined : (j : Join) → Fits j → is_sort m.ports (one j) p ≡ true → is_sort m.ports (other j) q ≡ true → Goes m (joined at (leaves j) i a target b)
    goes_joined (BackFrom s) fit h k =
        let g = both (is_general_input p.role) (is_of m.ports (Of s) p) h in
        record {
          begins = q;
          ends = p;
          from = theirs;
          to = mine;
          output = ap is_output (special_is s q.role k) ∙ fit;
          input = general_input p.role g.0;
          of_one = one_named m.ports ports.definitions_differ (definition_of s) q.of p.of (special_named s target b q theirs k) (named_so m.ports (definition_of s) p.of g.1);
        }
    goes_joined (OutTo s) fit h k =
        let g = both (is_general_output p.role) (is_of m.ports (Of s) p) h in
        record {
          begins = p;
          ends = q;
          from = mine;
          to = theirs;
          output = general_output p.role g.0;
          input = ap is_input (special_is s q.role k) ∙ fit;
          of_one = one_named m.ports ports.definitions_differ (definition_of s) p.of q.of (named_so m.ports (definition_of s) p.of g.1) (special_named s target b q theirs k);
        }
    goes_joined PingOut fit h k =
        let g = both (is_general_output p.role) (is_of m.ports Ping p) h in
        let e = both (is_general_input q.role) (is_of m.ports Ping q) k in
        record {
          begins = p;
          ends = q;
          from = mine;
          to = theirs;
          output = general_output p.role g.0;
          input = general_input q.role e.0;
          of_one = one_named m.ports ports.definitions_differ (definition_name Ping) p.of q.of (named_so m.ports (definition_name Ping) p.of g.1) (named_so m.ports (definition_name Ping) q.of e.1);
        }
    goes_joined PingBack fit h k =
        let g = both (is_general_input p.role) (is_of m.ports Ping p) h in
        let e = both (is_general_output q.role) (is_of m.ports Ping q) k in
        record {
          begins = q;
          ends = p;
          from = theirs;
          to = mine;
          output = general_output q.role e.0;
          input = general_input p.role g.0;
          of_one = one_named m.ports ports.definitions_differ (definition_name Ping) q.of p.of (named_so m.ports (definition_name Ping) q.of e.1) (named_so m.ports (definition_name Ping) p.of g.1);
        }

  -- the one port of a sort
  pub sort_at : (s : Sort) (i k : ℕ) → only_port m.ports m.components m.instances s i ≡ Some k → (p : Port) × (port_of m i k ≡ Some p) × (is_sort m.ports s p ≡ true)
  sort_at s i k e =
      let h = only_at (is_sort m.ports s) (ports_at m.components m.instances i) k e in
      (h.0, port_there m i k h.0 h.1, h.2)
