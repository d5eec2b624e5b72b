-- Where neither names nor values nor what is written break a rule, the components of a source are whole.
use Rattle.std.proofs.Common.{◌≡◌, ℕ, zero, suc, ◌<◌, ℤ, List, flat_map, length, map, slice_get, Option, Some, None, subst, inl, inr}
use Rattle.std.proofs.lemmas.List.{length-map}
use Rattle.std.proofs.lemmas.Option.{slice_get_within}
use Rattle.fp_topology_forms.proofs.Places.{as_long}
use Rattle.fp_base.specs.declared.value.Value.{Value}
use Rattle.fp_base.specs.declared.format.FormatPiece.{FormatPiece}
use Rattle.fp_base.specs.Least.{IsUnbroken}
use Rattle.fp_base.proofs.Options.{same_some}
use Rattle.fp_formats.specs.Spelling.{IsFormat}
use Rattle.fp_tree.specs.declared.source.Source.{Source}
use Rattle.fp_tree.specs.declared.name.Qual.{Qual}
use Rattle.fp_tree.specs.declared.definition.Port.{Port}
use Rattle.fp_tree.specs.declared.expression.Expr.{Expr}
use Rattle.fp_tree.specs.declared.component.Part.{Part}
use Rattle.fp_tree.specs.declared.component.Part.TheVariants as part
use Rattle.fp_tree.specs.declared.dictionary.Channel.{Channel}
use Rattle.fp_tree.specs.declared.dictionary.Event.{Event}
use Rattle.fp_tree.specs.declared.dictionary.Limit.{Limit}
use Rattle.fp_tree.specs.declared.dictionary.ParamDef.{ParamDef}
use Rattle.fp_tables.specs.declared.kind.Kind.{Kind}
use Rattle.fp_tables.specs.declared.kind.Kind.TheVariants as kind
use Rattle.fp_tables.specs.declared.kind.TypeDef.{TypeDef}
use Rattle.fp_meaning.specs.declared.group.Group.TheVariants as group
use Rattle.fp_meaning.specs.declared.item.Item.{Item}
use Rattle.fp_meaning.specs.declared.item.Item.TheVariants as item
use Rattle.fp_meaning.specs.Layout.{items}
use Rattle.fp_meaning.specs.Names.{Path}
use Rattle.fp_meaning.specs.Sites.{Declaration, component, declaration}
use Rattle.fp_meaning.specs.Values.{Val, number_in, opened}
use Rattle.fp_type_sizes.specs.declared.written.WrittenType.{WrittenType}
use Rattle.fp_type_sizes.specs.Sizes.{IsOfSize}
use Rattle.fp_types.specs.Converting.{Converts, DefaultIs}
use Rattle.fp_types.specs.Given.{AreTypesGiven}
use Rattle.fp_type_forms.specs.declared.resolving.Resolution.{Resolution}
use Rattle.fp_type_forms.specs.Resolved.{AreResolved}
use Rattle.fp_type_forms.specs.Written.{AreWritten, KindIs}
use Rattle.fp_type_forms.proofs.OneForm.{one_list}
use Rattle.fp_source_types.specs.Typed.{AreTypesOf}
use Rattle.fp_type_formats.specs.Readable.{AreReadable}
use Rattle.fp_part_values.specs.FormStanding.{AreValued, NumbersStand}
use Rattle.fp_part_values.specs.Standing.{HasLimit, IsPart}
use Rattle.fp_written_parts.specs.declared.port.WrittenPort.{WrittenPort}
use Rattle.fp_written_parts.specs.declared.member.WrittenComponent.{WrittenComponent}
use Rattle.fp_written_parts.specs.declared.member.WrittenInterface.{WrittenInterface}
use Rattle.fp_written_parts.specs.declared.member.WrittenMember.{WrittenMember}
use Rattle.fp_written_parts.specs.declared.member.WrittenMember.TheVariants as member
use Rattle.fp_component_rules.proofs.Listed.{in_given}
use Rattle.fp_dictdefs.specs.declared.listed.Listed.{Listed}
use Rattle.fp_dictdefs.specs.Listed.{channels_in, commands_in, events_in, params_in}
use Rattle.fp_component_rules.specs.Consistent.{AreConsistent}
use Rattle.fp_component_forms.specs.declared.writing.WrittenSource.{WrittenSource}
use Rattle.fp_component_forms.specs.Written.{BothOrNeither, FirstOf, IsWrittenSource, MemberIs, PortDefIs, PositionIs, Scoped, part_of, port_definitions, port_names, qualified}
use Rattle.fp_components.specs.Whole.{AreWhole, AreWholeMembers, IsWhole, LiesWithin}
use Rattle.fp_source_parts.specs.Broken.{BrokenBy}
use Rattle.fp_source_parts.proofs.Ids.{AreGiven, GivenThere, have_ids}
use Rattle.fp_source_parts.proofs.Sized.{kind_has_default, kind_has_size}
use Rattle.fp_source_parts.proofs.Members.{comes, interface_member_known, member_known}
use Rattle.fp_source_parts.proofs.Numbered.{MemberNumbered, interface_member_numbered, member_numbered}
use Rattle.fp_source_parts.proofs.Positions.{port_lies}
use Rattle.fp_source_parts.proofs.Whole.{MemberOk, OfPorts, PortOk, given_whole, member_whole, named_there}

-- ---- what is listed has the ids that are written

there_at : {x y : Listed} → GivenThere x.id → Some x ≡ Some y → GivenThere y.id
there_at h e = subst (λ (l : Listed). GivenThere l.id) (same_some e) h

of_commands : (m : WrittenMember) → MemberNumbered m → (j : ℕ) (x : Listed) → slice_get (commands_in m) j ≡ Some x → GivenThere x.id
of_commands (member.Command c) h zero x e = there_at h.opcode e
of_commands (member.Command c) h (suc j) x e = absurd (cc)
of_commands (member.Param p) h zero x e = there_at h.set e
of_commands (member.Param p) h (suc zero) x e = there_at h.save e
of_commands (member.Param p) h (suc (suc j)) x e = absurd (cc)
of_commands (member.Port p) h j x e = absurd (cc)
of_commands (member.Import i) h j x e = absurd (cc)
of_commands (member.Event i) h j x e = absurd (cc)
of_commands (member.Channel i) h j x e = absurd (cc)
of_commands (member.Match i) h j x e = absurd (cc)
of_commands (member.Running i) h j x e = absurd (cc)

of_events : (m : WrittenMember) → MemberNumbered m → (j : ℕ) (x : Listed) → slice_get (events_in m) j ≡ Some x → GivenThere x.id
of_events (member.Event v) h zero x e = there_at h.id e
of_events (member.Event v) h (suc j) x e = absurd (cc)
of_events (member.Command c) h j x e = absurd (cc)
of_events (member.Param p) h j x e = absurd (cc)
of_events (member.Port p) h j x e = absurd (cc)
of_events (member.Import i) h j x e = absurd (cc)
of_events (member.Channel i) h j x e = absurd (cc)
of_events (member.Match i) h j x e = absurd (cc)
of_events (member.Running i) h j x e = absurd (cc)

of_channels : (m : WrittenMember) → MemberNumbered m → (j : ℕ) (x : Listed) → slice_get (channels_in m) j ≡ Some x → GivenThere x.id
of_channels (member.Channel v) h zero x e = there_at h.id e
of_channels (member.Channel v) h (suc j) x e = absurd (cc)
of_channels (member.Command c) h j x e = absurd (cc)
of_channels (member.Param p) h j x e = absurd (cc)
of_channels (member.Port p) h j x e = absurd (cc)
of_channels (member.Import i) h j x e = absurd (cc)
of_channels (member.Event i) h j x e = absurd (cc)
of_channels (member.Match i) h j x e = absurd (cc)
of_channels (member.Running i) h j x e = absurd (cc)

of_params : (m : WrittenMember) → MemberNumbered m → (j : ℕ) (x : Listed) → slice_get (params_in m) j ≡ Some x → GivenThere x.id
of_params (member.Param v) h zero x e = there_at h.id e
of_params (member.Param v) h (suc j) x e = absurd (cc)
of_params (member.Command c) h j x e = absurd (cc)
of_params (member.Channel p) h j x e = absurd (cc)
of_params (member.Port p) h j x e = absurd (cc)
of_params (member.Import i) h j x e = absurd (cc)
of_params (member.Event i) h j x e = absurd (cc)
of_params (member.Match i) h j x e = absurd (cc)
of_params (member.Running i) h j x e = absurd (cc)

listed_given : (f : WrittenMember → List Listed) → ((m : WrittenMember) → MemberNumbered m → (j : ℕ) (x : Listed) → slice_get (f m) j ≡ Some x → GivenThere x.id)
    → (members : List WrittenMember) → ((k : ℕ) (m : WrittenMember) → slice_get members k ≡ Some m → MemberNumbered m) → AreGiven (flat_map f members)
listed_given f each members numbered k x at = let c = comes f members k x at in each c.x (numbered c.k c.x c.here) c.j x c.there

-- ---- components

module _ (source : Source) (ws : List WrittenType) (types : List TypeDef) (w : WrittenSource) (are : IsWrittenSource source w) where
  ports_long : length (port_definitions source) ≡ length w.definitions
  ports_long = as_long (PortDefIs source) 0 (port_definitions source) w.definitions are.definitions

  below : (n : ℕ) → n < length (port_definitions source) → n < length w.definitions
  below n low = subst (λ (m : ℕ). n < m) ports_long low

  of_lies : (scope : Path) (o : Option Qual) (of : Option ℕ) → BothOrNeither (PositionIs source scope group.Port) o of → LiesWithin w.definitions of
  of_lies scope None None h = tt
  of_lies scope None (Some n) h = absurd h
  of_lies scope (Some q) None h = absurd h
  of_lies scope (Some q) (Some n) h = below n (port_lies source scope q n h)

  abbrev name_of : Scoped Port → List ℕ
  name_of p = qualified p.scope p.node.name

  first_lies : (name : List ℕ) (of : Option ℕ) → FirstOf (port_names source) name of → LiesWithin w.definitions of
  first_lies name None h = tt
  first_lies name (Some n) h = below n (subst (λ (m : ℕ). n < m) (length-map (port_definitions source) name_of) (slice_get_within (port_names source) n name h.0))

  nothing_lies : (of : Option ℕ) → of ≡ None → LiesWithin w.definitions of
  nothing_lies None e = tt
  nothing_lies (Some n) e = absurd (cc)

  port_lies_within : (scope : Path) (p : Part) (v : WrittenPort) → MemberIs source scope p (member.Port v) → LiesWithin w.definitions v.of
  port_lies_within scope (part.General p) v h = of_lies scope p.of v.of h.of
  port_lies_within scope (part.Special p) v h = first_lies _ v.of h.of
  port_lies_within scope (part.Internal p) v h = nothing_lies v.of h.of
  port_lies_within scope (part.Import p) v h = absurd h
  port_lies_within scope (part.Command p) v h = absurd h
  port_lies_within scope (part.Event p) v h = absurd h
  port_lies_within scope (part.Channel p) v h = absurd h
  port_lies_within scope (part.Param p) v h = absurd h
  port_lies_within scope (part.Match p) v h = absurd h
  port_lies_within scope (part.Running p) v h = absurd h
  port_lies_within scope (part.Def p) v h = absurd h
  port_lies_within scope (part.Machine p) v h = absurd h
  port_lies_within scope (part.Include p) v h = absurd h

  module _ (written : AreWritten source ws) (given : AreTypesOf source (map (λ (d : TypeDef). Some d) types)) (unbroken : IsUnbroken (BrokenBy types w))
      (marks : List (Option Value)) (rs : List Resolution) (resolved : AreResolved source marks rs (items source) 0) (valued : AreValued source)
      (numbers : (k : ℕ) (d : Declaration) → slice_get (items source) k ≡ Some (item.Declared d) → NumbersStand source d.scope d.definition)
      (readable : (k : ℕ) (i : Item) → slice_get (items source) k ≡ Some i → AreReadable (items source) i)
      (limits : (scope : Path) (c : Channel) (l : Limit) (v : Value) → IsPart source scope (part.Channel c) → HasLimit c l → Val source scope (opened l.value) v → (n : ℤ) × (number_in v ≡ Some n))
      (converts : (scope : Path) (p : ParamDef) (e : Expr) (v : Value) (k : Kind) → AreTypesGiven ws (map (λ (d : TypeDef). Some d) types) → IsPart source scope (part.Param p) → p.default ≡ Some e
      → Val source scope (opened e) v → KindIs source scope p.of.form k → IsOfSize ws k → (made : Value) × Converts ws v k made)
      (size_of_default : (ws : List WrittenType) (i : ℕ) (v : Value) → DefaultIs ws (kind.Named i) v → IsOfSize ws (kind.Named i))
      (consistent : AreConsistent w.interfaces w.components) where
    all_given : AreTypesGiven ws (map (λ (d : TypeDef). Some d) types)
    all_given = subst (λ (l : List WrittenType). AreTypesGiven l (map (λ (d : TypeDef). Some d) types)) (one_list source given.written ws given.are written) given.types

    event_reads : (scope : Path) (e : Event) → IsPart source scope (part.Event e) → (parts : List FormatPiece) × IsFormat e.format.text parts
    event_reads scope e h =
        let r = readable h.at (item.Declared (declaration h.outside (component h.whole))) h.here h.place (part.Event e) h.there in
        (r.parts, r.format)

    has_default : (scope : Path) (p : ParamDef) (k : Kind) → KindIs source scope p.of.form k → (v : Value) × DefaultIs ws k v
    has_default scope p k h = kind_has_default source ws types written all_given size_of_default scope p.of.form k h

    becomes : (scope : Path) (p : ParamDef) (e : Expr) (v : Value) (k : Kind) → IsPart source scope (part.Param p) → p.default ≡ Some e → Val source scope (opened e) v → KindIs source scope p.of.form k
        → (made : Value) × Converts ws v k made
    becomes scope p e v k of same val is = converts scope p e v k all_given of same val is (kind_has_size source ws types written all_given size_of_default scope p.of.form k is)

    inner_ports : (v k : ℕ) (f : WrittenInterface) (m : WrittenMember) → slice_get w.interfaces v ≡ Some f → slice_get f.members k ≡ Some m → OfPorts (PortOk w.definitions) m
    inner_ports v k f (member.Port p) at there =
        let known = interface_member_known source w are marks rs resolved valued numbers v k f (member.Port p) at there in
        record {
          numbered = interface_member_numbered source (member.Port p) known;
          of = port_lies_within known.scope (part_of known.of) p known.is;
          unbroken = λ g b. unbroken g (inl (inr (inl (v, f, at, (k, member.Port p, there, b)))));
        }
    inner_ports v k f (member.Import i) at there = tt
    inner_ports v k f (member.Command i) at there = tt
    inner_ports v k f (member.Event i) at there = tt
    inner_ports v k f (member.Channel i) at there = tt
    inner_ports v k f (member.Param i) at there = tt
    inner_ports v k f (member.Match i) at there = tt
    inner_ports v k f (member.Running i) at there = tt

    module _ (v : ℕ) (c : WrittenComponent) (at : slice_get w.components v ≡ Some c) where
      member_ok : (k : ℕ) (m : WrittenMember) → slice_get c.members k ≡ Some m → MemberOk source ws types w.definitions m
      member_ok k m there =
          let known = member_known source w are marks rs resolved valued numbers v k c m at there in
          record {
            known = known;
            numbered = member_numbered source limits m known;
            by_ports = λ g b. unbroken g (inl (inr (inr (v, c, at, (k, m, there, b)))));
            by_dictionary = λ g b. unbroken g (inr (inl (v, c, at, inr (k, m, there, b))));
          }

      own_ports : (k : ℕ) (m : WrittenMember) → slice_get c.members k ≡ Some m → OfPorts (PortOk w.definitions) m
      own_ports k (member.Port p) there =
          let ok = member_ok k (member.Port p) there in
          record { numbered = ok.numbered; of = port_lies_within ok.known.scope ok.known.of p ok.known.is; unbroken = ok.by_ports }
      own_ports k (member.Import i) there = tt
      own_ports k (member.Command i) there = tt
      own_ports k (member.Event i) there = tt
      own_ports k (member.Channel i) there = tt
      own_ports k (member.Param i) there = tt
      own_ports k (member.Match i) there = tt
      own_ports k (member.Running i) there = tt

      numbered : (k : ℕ) (m : WrittenMember) → slice_get c.members k ≡ Some m → MemberNumbered m
      numbered k m there = (member_ok k m there).numbered

      members_whole : AreWholeMembers ws c.members
      members_whole = record {
        each = λ k m there. member_whole source ws types w.definitions event_reads has_default becomes m (member_ok k m there);
        commands = have_ids (flat_map commands_in c.members) (listed_given commands_in of_commands c.members numbered) (λ g b. unbroken g (inr (inl (v, c, at, inl (inl (inl b))))));
        events = have_ids (flat_map events_in c.members) (listed_given events_in of_events c.members numbered) (λ g b. unbroken g (inr (inl (v, c, at, inl (inl (inr b))))));
        channels = have_ids (flat_map channels_in c.members) (listed_given channels_in of_channels c.members numbered) (λ g b. unbroken g (inr (inl (v, c, at, inl (inr (inl b))))));
        params = have_ids (flat_map params_in c.members) (listed_given params_in of_params c.members numbered) (λ g b. unbroken g (inr (inl (v, c, at, inl (inr (inr b))))));
      }

      component_whole : IsWhole w.interfaces w.definitions ws c
      component_whole = record {
        members = members_whole;
        ports = λ all k p gives here. given_whole w.definitions w.interfaces c.members inner_ports own_ports p (in_given w.interfaces gives k p here);
        matches = λ all k m gives here.
            let pair = (consistent.each v c at).pairs all gives k m here in
            (named_there m.first all pair.one pair.first, named_there m.second all pair.other pair.second);
      }

    pub components_whole : AreWhole w.interfaces w.definitions ws w.components
    components_whole = record { named_once = consistent.named; each = component_whole }
