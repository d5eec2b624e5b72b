-- What the places of a sound model return, and what their handlers do.
use Rattle.std.proofs.Common.{◌≡◌, ℕ, true, List, [], ◌∷◌, map, length, Option, Some, None, option_map, option_and_then, unwrap_or, is_none, refl, sym, ap, ◌∙◌, slice_get, pos}
use Rattle.std.specs.List.{list_all}
use Rattle.fp_tables.specs.Specials.{component}
use Rattle.fp_base.proofs.Options.{then_some, same_some, some_of}
use Rattle.fp_base.proofs.Lists.{all_get, get_below}
use Rattle.fp_base.specs.declared.value.Value.{Int}
use Rattle.fp_base.proofs.Bools.{both, join}
use Rattle.fp_tables.specs.Components as components
use Rattle.fp_tables.specs.Lists.{if_some}
use Rattle.fp_tables.specs.Lookup.{Described, wire_from}
use Rattle.fp_tables.specs.Positions.{port_of, port_def_lies, kind_lies, formals_lie}
use Rattle.fp_tables.specs.Acts.{definition_at, result_at}
use Rattle.fp_tables.specs.Sound.{IsSoundFor}
use Rattle.fp_tables.specs.Types.{Shape, form_at, shape, has, has_kind, have_kinds, type_has_values}
use Rattle.fp_tables.specs.declared.kind.Kind.{Kind}
use Rattle.fp_tables.specs.declared.kind.Kind.TheVariants as kind
use Rattle.fp_tables.specs.declared.kind.PortDef.{PortDef}
use Rattle.fp_tables.specs.declared.kind.Formal.{Formal}
use Rattle.fp_tables.specs.Arguments.{kinds_of}
use Rattle.fp_tables.specs.declared.kind.TypeDef.{TypeDef}
use Rattle.fp_tables.specs.declared.component.Full.{Full}
use Rattle.fp_tables.specs.declared.component.Port.{Port as PortOf}
use Rattle.fp_tables.specs.declared.component.Role.{Role}
use Rattle.fp_tables.specs.declared.component.Role.TheVariants as role
use Rattle.fp_tables.specs.declared.component.Way.{Way}
use Rattle.fp_tables.specs.declared.component.Way.TheVariants.{Later}
use Rattle.fp_tables.specs.declared.topology.End.{End}
use Rattle.fp_tables.specs.declared.program.Program.{Program}
use Rattle.fp_events.specs.Follows.{returned}
use Rattle.fp_events.specs.Lookup.{default_of}
use Rattle.fp_events.specs.Manners.{by, manner, input_manner, internal_manner}
use Rattle.fp_events.specs.declared.event.Point.{Point}
use Rattle.fp_events.specs.declared.event.Point.TheVariants.{Port, Command as OfCommand, Post, Signal}
use Rattle.fp_run_laws.specs.Suits.{result_of_point}
use Rattle.fp_run_laws.proofs.Parts.{port_in}
use Rattle.fp_tables.proofs.Aliases.{shape_of_form}
use Rattle.fp_run_laws.proofs.Wires.{joins, port_sound}

module _ (t : Described) (sound : IsSoundFor t.model (Some t.topology)) where
  -- ---- the results of places

  input_way : (r : Role) (way : Way) → input_manner r ≡ Some (by way) → r ≡ role.Input way
  input_way (role.Input w) way h = let s : by w ≡ by way = same_some h in cc
  input_way role.Output way h = absurd (cc)
  input_way (role.Special s) way h = absurd (cc)
  input_way (role.Internal w) way h = absurd (cc)

  internal_way : (r : Role) (way : Way) → internal_manner r ≡ Some (by way) → r ≡ role.Internal way
  internal_way (role.Internal w) way h = let s : by w ≡ by way = same_some h in cc
  internal_way role.Output way h = absurd (cc)
  internal_way (role.Special s) way h = absurd (cc)
  internal_way (role.Input w) way h = absurd (cc)

  no_result : (o : Option PortDef) → if_some (λ (d : PortDef). is_none d.result) o ≡ true → option_and_then (λ (d : PortDef). d.result) o ≡ None
  no_result None h = refl
  no_result (Some d) h = go d.result h
    where
      go : (o : Option Kind) → is_none o ≡ true → o ≡ None
      go None h = refl
      go (Some k) h = absurd (cc)

  -- an asynchronous place returns nothing
  pub later_returns_nothing : (i : ℕ) (point : Point) (priority : _) (policy : Full) → manner t i point ≡ Some (by (Later priority policy)) → result_of_point t i point ≡ None
  later_returns_nothing i (Port k number) priority policy h =
      let p = then_some (λ (p : PortOf). input_manner p.role) (slice_get (component t i).ports k) (by (Later priority policy)) h in
      let found : port_of t.model i k ≡ Some p.0 = sym (port_in t i k) ∙ p.1 in
      let is : p.0.role ≡ role.Input (Later priority policy) = input_way p.0.role (Later priority policy) p.2 in
      let waits : components.waits_for_no_result t.model.ports p.0 ≡ true = port_sound t.model (components.waits_for_no_result t.model.ports) i k p.0 sound.0.ports.waiting_ports_have_no_result found in
      let none : if_some (λ (d : PortDef). is_none d.result) (components.definition t.model.ports p.0) ≡ true =
      ap (λ (r : Role). components.waits_for_no_result t.model.ports (record p.0 { role = r })) (sym is) ∙ waits in
      ap (λ (o : Option PortOf). option_and_then (λ (d : PortDef). d.result) (option_and_then (slice_get t.model.ports) (option_and_then (λ (x : PortOf). x.of) o))) found
      ∙ no_result (components.definition t.model.ports p.0) none
  later_returns_nothing i (OfCommand k) priority policy h = refl
  later_returns_nothing i (Post k) priority policy h = refl
  later_returns_nothing i (Signal running signal) priority policy h = refl

  -- an internal port isn't called at once
  pub post_is_later : (i k : ℕ) (way : Way) → manner t i (Post k) ≡ Some (by way) → components.is_later way ≡ true
  post_is_later i k way h =
      let p = then_some (λ (p : PortOf). internal_manner p.role) (slice_get (component t i).ports k) (by way) h in
      let found : port_of t.model i k ≡ Some p.0 = sym (port_in t i k) ∙ p.1 in
      let is : p.0.role ≡ role.Internal way = internal_way p.0.role way p.2 in
      ap components.internal_is_later (sym is) ∙ port_sound t.model (λ p. components.internal_is_later p.role) i k p.0 sound.0.ports.internal_ports_are_later found

  -- both ends of a wire return the same
  pub wire_results : (program : Program) (e to : End) → wire_from t e ≡ Some to → result_at t e.instance e.port ≡ result_at t to.instance to.port
  wire_results program e to h =
      let j = joins t program sound e to h in
      let result : Option ℕ → Option Kind = λ o. option_and_then (λ (d : PortDef). d.result) (option_and_then (slice_get t.model.ports) o) in
      ap (λ (o : Option PortOf). result (option_and_then (λ (x : PortOf). x.of) o)) j.from_port ∙ ap result j.of
      ∙ ap (λ (o : Option PortOf). result (option_and_then (λ (x : PortOf). x.of) o)) (sym j.to_port)

  -- ---- defaults

  pub default_is : (program : Program) (i : ℕ) (point : Point) → returned t program i point ≡ option_map (default_of t) (result_of_point t i point)
  default_is program i (Port k number) =
      ap (λ (o : Option PortOf). option_map (default_of t) (option_and_then (λ (d : PortDef). d.result) (option_and_then (slice_get t.model.ports) (option_and_then (λ (x : PortOf). x.of) o)))) (port_in t i k)
  default_is program i (OfCommand k) = refl
  default_is program i (Post k) = refl
  default_is program i (Signal running signal) = refl

  pub default_fits : (k : Kind) → kind_lies (length t.model.types) k ≡ true → has_kind t.model.types k (default_of t k) ≡ true
  default_fits kind.U8 h = refl
  default_fits kind.U16 h = refl
  default_fits kind.U32 h = refl
  default_fits kind.U64 h = refl
  default_fits kind.I8 h = refl
  default_fits kind.I16 h = refl
  default_fits kind.I32 h = refl
  default_fits kind.I64 h = refl
  default_fits kind.Bool h = refl
  default_fits (kind.Str size) h = refl
  default_fits (kind.Named j) h =
      let d = some_of (slice_get t.model.types j) (get_below t.model.types j h) in
      let values = all_get (type_has_values t.model.types) t.model.types j d.0 sound.0.types.types_have_their_values d.1 in
      let form : form_at t.model.types j ≡ Some d.0.form = ap (option_map (λ (d : TypeDef). d.form)) d.1 in
      ap (λ (o : Option TypeDef). has t.model.types (shape t.model.types (kind.Named j)) (unwrap_or (option_map (λ (d : TypeDef). d.default) o) (Int (pos 0)))) d.1
      ∙ ap (λ (s : Shape). has t.model.types s d.0.default) (shape_of_form t.model.types sound.0.types.no_type_uses_itself j d.0.form form) ∙ (both _ _ values).1

  defs_lie : list_all (port_def_lies (length t.model.types)) t.model.ports ≡ true
  defs_lie = (both _ _ (both _ _ (both _ _ (both _ _ (both _ _ (both _ _ sound.0.lists.positions_lie).0).0).0).0).0).1

  pub default_of_result : (i : ℕ) (point : Point) (k : Kind) → result_of_point t i point ≡ Some k → has_kind t.model.types k (default_of t k) ≡ true
  default_of_result i (Port n number) k h =
      let d = then_some (λ (d : PortDef). d.result) (definition_at t i n) k h in
      let at = then_some (slice_get t.model.ports) (option_and_then (λ (x : PortOf). x.of) (port_of t.model i n)) d.0 d.1 in
      let lies = (both _ _ (all_get (port_def_lies (length t.model.types)) t.model.ports at.0 d.0 defs_lie at.2)).1 in
      default_fits k (ap (if_some (kind_lies (length t.model.types))) (sym d.2) ∙ lies)
  default_of_result i (OfCommand n) k h = absurd (cc)
  default_of_result i (Post n) k h = absurd (cc)
  default_of_result i (Signal running signal) k h = absurd (cc)

  -- the defaults of formals
  pub defaults_fit : (fs : List Formal) → formals_lie (length t.model.types) fs ≡ true → have_kinds t.model.types (kinds_of fs) (map (λ f. default_of t f.kind) fs) ≡ true
  defaults_fit [] h = refl
  defaults_fit (f ∷ fs) h =
      let b = both (kind_lies (length t.model.types) f.kind) (formals_lie (length t.model.types) fs) h in
      join (has_kind t.model.types f.kind (default_of t f.kind)) (have_kinds t.model.types (kinds_of fs) (map (λ f. default_of t f.kind) fs))
      (default_fits f.kind b.0) (defaults_fit fs b.1)
