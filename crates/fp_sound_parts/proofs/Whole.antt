-- Each component, and all of them.
use Rattle.std.proofs.Common.{◌≡◌, inl, inr, ℕ, zero, ◌+◌, ◌<◌, Bool, true, not, ◌&&◌, ◌||◌, List, [], ◌∷◌, length, map, flat_map, slice_get, Option, Some, None, refl, sym, ap, ◌∙◌, subst, arith}
use Rattle.std.specs.Prelude.{nat_le, nat_lt}
use Rattle.std.specs.List.{filter, filter_map, list_all}
use Rattle.std.specs.Str.{bytes_eq}
use Rattle.std.proofs.lemmas.List.Folds.{list_all-map}
use Rattle.fp_base.specs.Least.{IsUnbroken, InSome}
use Rattle.fp_base.specs.Names.{is_name}
use Rattle.fp_base.specs.declared.value.Value.{Value}
use Rattle.fp_base.proofs.Bools.{both, join}
use Rattle.fp_base.proofs.Lists.{all_get, get_within}
use Rattle.fp_base.proofs.Passing.{all_items, position_below}
use Rattle.fp_base.proofs.Bytes.{same_bytes}
use Rattle.fp_base.proofs.Numbers.{below_told}
use Rattle.fp_base.specs.Numbers.{numbers_from}
use Rattle.fp_tables.specs.Components as components
use Rattle.fp_tables.specs.Names.{is_qualified, numbers_differ, texts_differ}
use Rattle.fp_tables.specs.Positions as positions
use Rattle.fp_tables.specs.Sound as sound
use Rattle.fp_tables.specs.Lists.{if_some, some_and}
use Rattle.fp_tables.specs.Types.{has_kind, is_integer, is_of_size}
use Rattle.fp_tables.specs.declared.kind.Kind.{Kind}
use Rattle.fp_tables.specs.declared.kind.TypeDef.{TypeDef}
use Rattle.fp_tables.specs.declared.kind.PortDef.{PortDef}
use Rattle.fp_tables.specs.declared.component.Port.{Port}
use Rattle.fp_tables.specs.declared.component.Command.{Command}
use Rattle.fp_tables.specs.declared.component.Event.{Event}
use Rattle.fp_tables.specs.declared.component.Limit.{Limit}
use Rattle.fp_tables.specs.declared.component.Channel.{Channel}
use Rattle.fp_tables.specs.declared.component.Param.{Param}
use Rattle.fp_tables.specs.declared.component.Running.{Running}
use Rattle.fp_tables.specs.declared.component.Queueing.{Queueing}
use Rattle.fp_tables.specs.declared.component.Queueing.TheVariants.{Active, Passive, Queued}
use Rattle.fp_tables.specs.declared.component.Component.{Component}
use Rattle.fp_tables.specs.declared.machine.Machine.{Machine}
use Rattle.fp_tables.proofs.SpecialPorts.{one_special}
use Rattle.fp_tables.proofs.Indexed.{mapped_apart}
use Rattle.fp_type_sizes.specs.declared.written.WrittenType.{WrittenType}
use Rattle.fp_written_parts.specs.declared.port.WrittenPort.{WrittenPort}
use Rattle.fp_written_parts.specs.declared.port.WrittenPortDef.{WrittenPortDef}
use Rattle.fp_written_parts.specs.declared.port.WrittenRole.{WrittenRole}
use Rattle.fp_written_parts.specs.declared.dictionary.WrittenChannel.{WrittenChannel}
use Rattle.fp_written_parts.specs.declared.dictionary.WrittenEvent.{WrittenEvent}
use Rattle.fp_written_parts.specs.declared.dictionary.WrittenParam.{WrittenParam}
use Rattle.fp_written_parts.specs.declared.member.WrittenComponent.{WrittenComponent}
use Rattle.fp_written_parts.specs.declared.member.WrittenInterface.{WrittenInterface}
use Rattle.fp_written_parts.specs.declared.member.WrittenRunning.{WrittenRunning}
use Rattle.fp_written_parts.specs.declared.member.WrittenMember.{WrittenMember}
use Rattle.fp_written_parts.specs.declared.member.WrittenMember.TheVariants as member
use Rattle.fp_dictdefs.specs.Broken.{DictionaryBroken}
use Rattle.fp_dictdefs.specs.Broken as parts
use Rattle.fp_dictdefs.specs.Listed.{channels_in, commands_in, events_in, params_in}
use Rattle.fp_component_rules.specs.Firsts.{is_named}
use Rattle.fp_component_rules.proofs.Listed.{in_given}
use Rattle.fp_component_rules.specs.PortBroken.{BrokenFormals, PortsBroken}
use Rattle.fp_component_rules.specs.PortBroken as ports
use Rattle.fp_component_rules.specs.Broken.{AreOfOneKind, ComponentsBroken, HaveOneName, QueueBroken, UseAt, waits_itself}
use Rattle.fp_components.specs.Resolved.{AreComponents, AreEach, CommandHere, written, sets, saves, IsChannel, IsCommand, IsComponent, IsDefault, IsEvent, IsMatch, IsParam, IsRunning, PortIs, channel_in, commands_from, event_in, formals_of, match_in, param_in, port_def_of, running_in}
use Rattle.fp_sound_parts.specs.Ready.{AreReady, HasAgreeingFormat, HasFittingLimits, IsGood, OfEachMember, RunsFitting, definition_lies, formals_have_names, formals_lie, instances_differ, member_has_names, member_lies}
use Rattle.fp_sound_parts.specs.ComponentSound.{AreSound, HaveSoundLists, HaveSoundNames, HaveSoundParts, HaveSoundPorts, HaveSoundValues}
use Rattle.fp_sound_parts.proofs.Channels.{colors_apart, limits_have_kind, limits_lie, no_limit_or_integer, other_colors_apart}
use Rattle.fp_sound_parts.proofs.Commands.{HasItsParam, HasParam, chosen_through, command_apart, command_lies, command_name, command_names, command_part, command_quiet, command_takes, one_each, saved_same, set_same}
use Rattle.fp_sound_parts.proofs.ComponentEach.{across, all_beside, apart_beside, mapped_each}
use Rattle.fp_sound_parts.proofs.Entries.{ids_apart, names_apart}
use Rattle.fp_sound_parts.proofs.Events.{event_agrees, event_apart, event_lies, event_names, event_reads}
use Rattle.fp_sound_parts.proofs.Formals.{formals_apart, formals_lying, formals_named}
use Rattle.fp_sound_parts.proofs.Given.{given_apart, given_with}
use Rattle.fp_sound_parts.proofs.ComponentListed.{ParamHere, channel_listed, channels_alike, channels_have, command_listed, commands_alike, commands_have, event_listed, events_alike, events_have, none_running, param_at, param_listed, params_alike, params_have, part_here, runnings_have, saved_by, saves_in_order, set_by, sets_in_order}
use Rattle.fp_sound_parts.proofs.Lists.{AreApart, both_and, both_back, chosen_apart}
use Rattle.fp_sound_parts.proofs.Ports.{defined, has_formals, later_inside, later_is, of_lies, quiet, size_good, special_back, suits_role, waits_without, with_formals}
use Rattle.fp_sound_parts.proofs.Rules.{component_queue, component_repeats, definition_rules, interface_repeats, kinds_once, list_rules, member_rules, names_once, no_running, none_waits, port_rules}

empty_beside : {A B : Type 0} (is : ℕ → A → B → Type 0) (xs : List A) (ys : List B) → AreEach is xs ys → xs ≡ [] → ys ≡ []
empty_beside is [] [] h e = refl
empty_beside is [] (y ∷ ys) h e = absurd (omega (arith, h.each))
empty_beside is (x ∷ xs) ys h e = absurd (cc)

-- nothing that these rules are on is broken
pub record AreRuled (types : List TypeDef) (machines : List Machine) (ws : List WrittenType) (definitions : List WrittenPortDef) (interfaces : List WrittenInterface) (written : List WrittenComponent) (cs : List Component) : Type 0 where
  pub ready : AreReady types machines ws definitions interfaces written cs
  pub of_ports : IsUnbroken (PortsBroken definitions interfaces written)
  pub of_parts : IsUnbroken (InSome (λ (k : ℕ). DictionaryBroken types) written)
  pub of_wholes : IsUnbroken (ComponentsBroken interfaces written)

module _ (types : List TypeDef) (machines : List Machine) (ws : List WrittenType) (definitions : List WrittenPortDef) (interfaces : List WrittenInterface) (all_written : List WrittenComponent) (cs : List Component)
    (h : AreRuled types machines ws definitions interfaces all_written cs) where
  module _ (v : ℕ) (w : WrittenComponent) (c : Component) (here : slice_get all_written v ≡ Some w) (is : IsComponent interfaces definitions ws w c) where
    -- ---- what holds of its members and of the ports that they give

    members : {P : WrittenMember → Type 0} → OfEachMember interfaces all_written P → (k : ℕ) (m : WrittenMember) → slice_get w.members k ≡ Some m → P m
    members each k m e = each.of_components v k w m here e

    given : {P : WrittenMember → Type 0} → OfEachMember interfaces all_written P → (k : ℕ) (p : WrittenPort) → slice_get is.all k ≡ Some p → P (member.Port p)
    given {P = P} each k p e = given_with interfaces P each.of_interfaces w.members is.all is.given (members each) k p e

    -- ---- ports

    every_port : (test : Port → Bool) → ((k : ℕ) (p : WrittenPort) (q : Port) → slice_get is.all k ≡ Some p → PortIs definitions p q → test q ≡ true) → list_all test c.ports ≡ true
    every_port test good = all_beside (λ k. PortIs definitions) is.all c.ports is.ports test good

    unbroken_port : (k : ℕ) (p : WrittenPort) → slice_get is.all k ≡ Some p → IsUnbroken (ports.BrokenPort definitions p)
    unbroken_port k p e = given (port_rules definitions interfaces all_written h.of_ports) k p e

    ports_named : list_all (λ (q : Port). is_name q.name && sound.formals_have_names q.formals) c.ports ≡ true
    ports_named =
        every_port (λ (q : Port). is_name q.name && sound.formals_have_names q.formals)
        (λ k p q e i.
        let t = both (is_name p.name) (formals_have_names p.formals) (given h.ready.members_have_names k p e) in
        let f =
        with_formals definitions p q i (λ fs. formals_have_names fs ≡ true) refl (λ inside. t.1)
        (λ j d g. all_get (λ (x : WrittenPortDef). formals_have_names x.formals) definitions j d h.ready.definitions_have_names g) in
        join (is_name q.name) (sound.formals_have_names q.formals) (ap is_name i.name ∙ t.0) (ap sound.formals_have_names f.1 ∙ formals_named f.0 f.2))

    ports_lie : list_all (positions.port_lies (length types) (length (defined definitions))) c.ports ≡ true
    ports_lie =
        every_port (positions.port_lies (length types) (length (defined definitions)))
        (λ k p q e i.
        let f =
        with_formals definitions p q i (λ fs. formals_lie (length types) fs ≡ true) refl (λ inside. given h.ready.members_lie k p e)
        (λ j d g.
        (both (formals_lie (length types) d.formals) (if_some (positions.kind_lies (length types)) d.result)
        (all_get (definition_lies (length types)) definitions j d h.ready.definitions_lie g)).0) in
        join (positions.formals_lie (length types) q.formals) (if_some (λ k. nat_lt k (length (defined definitions))) q.of)
        (ap (positions.formals_lie (length types)) f.1 ∙ formals_lying (length types) f.0 f.2) (of_lies definitions p q i (given h.ready.ports_have_their_definitions k p e)))

    ports_apart : list_all (λ (q : Port). texts_differ (components.names_of q.formals)) c.ports ≡ true
    ports_apart =
        every_port (λ (q : Port). texts_differ (components.names_of q.formals))
        (λ k p q e i.
        let f =
        with_formals definitions p q i (λ fs. texts_differ (components.names_of (formals_of fs)) ≡ true) refl
        (λ inside. formals_apart p.formals (λ r b. unbroken_port k p e r (inl (inl (subst (λ (role : WrittenRole). BrokenFormals role p.formals r) (sym inside) b)))))
        (λ j d g. formals_apart d.formals (definition_rules definitions interfaces all_written h.of_ports j d g)) in
        ap (λ fs. texts_differ (components.names_of fs)) f.1 ∙ f.2)

    own_formals : list_all (components.has_its_formals (defined definitions)) c.ports ≡ true
    own_formals =
        every_port (components.has_its_formals (defined definitions)) (λ k p q e i. has_formals definitions p q i (given h.ready.ports_have_their_definitions k p e))

    suited_roles : list_all (components.suits_its_role (defined definitions)) c.ports ≡ true
    suited_roles =
        every_port (components.suits_its_role (defined definitions))
        (λ k p q e i. suits_role definitions p q i (given h.ready.ports_have_their_definitions k p e) (λ r b. unbroken_port k p e r (inl (inr b))))

    later_internals : list_all (λ (q : Port). components.internal_is_later q.role) c.ports ≡ true
    later_internals = every_port (λ (q : Port). components.internal_is_later q.role) (λ k p q e i. later_inside p.role p.queue q.role i.role)

    without_results : list_all (components.waits_for_no_result (defined definitions)) c.ports ≡ true
    without_results =
        every_port (components.waits_for_no_result (defined definitions)) (λ k p q e i. waits_without definitions p q i (λ r b. unbroken_port k p e r (inl (inr b))))

    good_sizes : list_all (λ (q : Port). components.is_from_1_to 1024 q.size) c.ports ≡ true
    good_sizes = every_port (λ (q : Port). components.is_from_1_to 1024 q.size) (λ k p q e i. size_good definitions p q i (λ r b. unbroken_port k p e r (inr (inr b))))

    names_given : AreApart HaveOneName is.all
    names_given =
        given_apart interfaces HaveOneName (λ u i e. names_once interfaces i.members (interface_repeats interfaces all_written h.of_wholes u i e)) w.members is.all is.given
        (names_once interfaces w.members (component_repeats interfaces all_written h.of_wholes v w here))

    kinds_given : AreApart AreOfOneKind is.all
    kinds_given =
        given_apart interfaces AreOfOneKind (λ u i e. kinds_once interfaces i.members (interface_repeats interfaces all_written h.of_wholes u i e)) w.members is.all is.given
        (kinds_once interfaces w.members (component_repeats interfaces all_written h.of_wholes v w here))

    port_names : texts_differ (map (λ (q : Port). q.name) c.ports) ≡ true
    port_names =
        mapped_apart bytes_eq (λ (q : Port). q.name) c.ports
        (apart_beside (λ k. PortIs definitions) is.all c.ports is.ports (λ x y. bytes_eq x.name y.name ≡ true)
        (λ j k a b x y low d e i l same. names_given j k a b low d e (sym i.name ∙ same_bytes x.name y.name same ∙ l.name)))

    specials_apart : components.special_ports_differ c ≡ true
    specials_apart =
        chosen_apart components.same_special (λ (q : Port). components.special_in q.role) c.ports
        (apart_beside (λ k. PortIs definitions) is.all c.ports is.ports
        (λ x y. both_and components.same_special (components.special_in x.role) (components.special_in y.role) ≡ true)
        (λ j k a b x y low d e i l same.
        let s = both_back components.same_special (components.special_in x.role) (components.special_in y.role) same in
        kinds_given j k a b low d e (
          s.0,
          special_back a.role a.queue x.role i.role s.0 s.2,
          special_back b.role b.queue y.role l.role s.0 (s.3 ∙ ap Some (sym (one_special s.0 s.1 s.4))),
        )))

    matches_lie : list_all (λ (p : ℕ × ℕ). nat_lt p.0 (length c.ports) && nat_lt p.1 (length c.ports)) c.matches ≡ true
    matches_lie =
        all_beside (λ k. IsMatch is.all) (flat_map match_in w.members) c.matches is.matches (λ (p : ℕ × ℕ). nat_lt p.0 (length c.ports) && nat_lt p.1 (length c.ports))
        (λ k m p e i.
        join (nat_lt p.0 (length c.ports)) (nat_lt p.1 (length c.ports)) (lies p.0 (position_below (is_named m.first) is.all p.0 i.first)) (lies p.1 (position_below (is_named m.second) is.all p.1 i.second)))
      where
        lies : (n : ℕ) → n < length is.all → nat_lt n (length c.ports) ≡ true
        lies n low = below_told n (length c.ports) (omega (arith, is.ports.each))

    -- ---- parameters

    every_param : (test : Param → Bool) → ((k : ℕ) (p : WrittenParam) (d : Param) → slice_get (flat_map param_in w.members) k ≡ Some p → IsParam ws (flat_map params_in w.members) k p d → test d ≡ true)
        → list_all test c.params ≡ true
    every_param test good = all_beside (IsParam ws (flat_map params_in w.members)) (flat_map param_in w.members) c.params is.params test good

    params_named : list_all (λ (p : Param). is_name p.name) c.params ≡ true
    params_named =
        every_param (λ (p : Param). is_name p.name)
        (λ k p d e i. ap is_name i.name ∙ params_have (λ m. member_has_names m ≡ true) w.members (members h.ready.members_have_names) k p e)

    params_lie : list_all (λ (p : Param). positions.kind_lies (length types) p.kind) c.params ≡ true
    params_lie =
        every_param (λ (p : Param). positions.kind_lies (length types) p.kind)
        (λ k p d e i. ap (positions.kind_lies (length types)) i.kind ∙ params_have (λ m. member_lies (length types) m ≡ true) w.members (members h.ready.members_lie) k p e)

    good_default : (k : Kind) (o : Option Value) (d : Value) → IsDefault ws k o d → IsGood types k d
    good_default k None d i = h.ready.defaults_are_good k d i
    good_default k (Some x) d i = h.ready.converted_values_are_good x k d i

    params_have_kind : list_all (λ (p : Param). has_kind types p.kind p.default) c.params ≡ true
    params_have_kind =
        every_param (λ (p : Param). has_kind types p.kind p.default)
        (λ k p d e i. ap (λ (x : Kind). has_kind types x d.default) i.kind ∙ (good_default p.kind p.default d.default i.default).0)

    defaults_of_size : list_all (λ (p : Param). is_of_size p.default) c.params ≡ true
    defaults_of_size = every_param (λ (p : Param). is_of_size p.default) (λ k p d e i. (good_default p.kind p.default d.default i.default).1)

    -- ---- commands

    every_command : (test : Command → Bool) → ((k : ℕ) (x : CommandHere) (d : Command) → slice_get (commands_from 0 w.members) k ≡ Some x → IsCommand (flat_map commands_in w.members) k x d → test d ≡ true)
        → list_all test c.commands ≡ true
    every_command test good = all_beside (IsCommand (flat_map commands_in w.members)) (commands_from 0 w.members) c.commands is.commands test good

    commands_named : list_all (λ (x : Command). is_name x.name && sound.formals_have_names x.formals) c.commands ≡ true
    commands_named =
        every_command (λ (x : Command). is_name x.name && sound.formals_have_names x.formals)
        (λ k x d e i. command_names x d i.is (commands_have (λ m. member_has_names m ≡ true) w.members (members h.ready.members_have_names) k x e))

    commands_apart : list_all (λ (x : Command). texts_differ (components.names_of x.formals)) c.commands ≡ true
    commands_apart =
        every_command (λ (x : Command). texts_differ (components.names_of x.formals))
        (λ k x d e i. command_apart types x d i.is (commands_have (λ m. IsUnbroken (parts.BrokenMember types m)) w.members (member_rules types all_written h.of_parts v w here) k x e))

    its_param : (n : ℕ) (p : WrittenParam) (i : ℕ) → n ≡ zero + i → slice_get (flat_map param_in w.members) i ≡ Some p → HasParam c.params p n
    its_param n p i same e =
        let y = across (IsParam ws (flat_map params_in w.members)) (flat_map param_in w.members) c.params is.params i p e in
        let back : i ≡ n = omega arith in
        (y.0, subst (λ (j : ℕ). slice_get c.params j ≡ Some y.0) back y.1, y.2.kind)

    command_param : (x : CommandHere) → ParamHere zero (flat_map param_in w.members) x → HasItsParam c.params x
    command_param (written d) here = tt
    command_param (sets n p) (i, same, e) = its_param n p i same e
    command_param (saves n p) (i, same, e) = its_param n p i same e

    commands_lie : list_all (positions.command_lies (length types) (length c.params)) c.commands ≡ true
    commands_lie =
        every_command (positions.command_lies (length types) (length c.params))
        (λ k x d e i.
        command_lies c.params (length types) x d i.is (commands_have (λ m. member_lies (length types) m ≡ true) w.members (members h.ready.members_lie) k x e)
        (command_param x (param_at w.members k x e)))

    commands_take : list_all (components.takes_its_value c.params) c.commands ≡ true
    commands_take = every_command (components.takes_its_value c.params) (λ k x d e i. command_takes c.params x d i.is (command_param x (param_at w.members k x e)))

    parts_alike : map (λ (d : Command). d.part) c.commands ≡ map part_here (commands_from 0 w.members)
    parts_alike =
        mapped_each (IsCommand (flat_map commands_in w.members)) part_here (λ (d : Command). d.part) (commands_from 0 w.members) c.commands is.commands (λ k x d i. command_part x d i.is)

    one_set : components.are_one_each components.set_parameter c.commands c.params ≡ true
    one_set =
        one_each components.set_parameter c.commands c.params
        (chosen_through components.set_parameter set_by (λ (d : Command). d.part) set_same c.commands ∙ ap (filter_map set_by) parts_alike ∙ sets_in_order 0 w.members
        ∙ ap (numbers_from 0) (sym is.params.each))

    one_save : components.are_one_each components.saved_parameter c.commands c.params ≡ true
    one_save =
        one_each components.saved_parameter c.commands c.params
        (chosen_through components.saved_parameter saved_by (λ (d : Command). d.part) saved_same c.commands ∙ ap (filter_map saved_by) parts_alike ∙ saves_in_order 0 w.members
        ∙ ap (numbers_from 0) (sym is.params.each))

    -- ---- events

    every_event : (test : Event → Bool) → ((k : ℕ) (x : WrittenEvent) (d : Event) → slice_get (flat_map event_in w.members) k ≡ Some x → IsEvent (flat_map events_in w.members) k x d → test d ≡ true)
        → list_all test c.events ≡ true
    every_event test good = all_beside (IsEvent (flat_map events_in w.members)) (flat_map event_in w.members) c.events is.events test good

    events_named : list_all (λ (e : Event). is_name e.name && sound.formals_have_names e.formals) c.events ≡ true
    events_named =
        every_event (λ (e : Event). is_name e.name && sound.formals_have_names e.formals)
        (λ k x d e i. event_names (flat_map events_in w.members) k x d i (events_have (λ m. member_has_names m ≡ true) w.members (members h.ready.members_have_names) k x e))

    events_apart : list_all (λ (e : Event). texts_differ (components.names_of e.formals)) c.events ≡ true
    events_apart =
        every_event (λ (e : Event). texts_differ (components.names_of e.formals))
        (λ k x d e i. event_apart (flat_map events_in w.members) k x d i (events_have (λ m. IsUnbroken (parts.BrokenMember types m)) w.members (member_rules types all_written h.of_parts v w here) k x e))

    events_lie : list_all (positions.event_lies (length types)) c.events ≡ true
    events_lie =
        every_event (positions.event_lies (length types))
        (λ k x d e i. event_lies (flat_map events_in w.members) k x d i (length types) (events_have (λ m. member_lies (length types) m ≡ true) w.members (members h.ready.members_lie) k x e))

    events_read : list_all components.reads_its_format c.events ≡ true
    events_read = every_event components.reads_its_format (λ k x d e i. event_reads (flat_map events_in w.members) k x d i)

    events_agree : list_all (components.agrees_with_formals types) c.events ≡ true
    events_agree =
        every_event (components.agrees_with_formals types)
        (λ k x d e i. event_agrees (flat_map events_in w.members) k x d i types (events_have (HasAgreeingFormat types) w.members (members h.ready.formats_agree) k x e))

    -- ---- channels

    every_channel : (test : Channel → Bool) → ((k : ℕ) (x : WrittenChannel) (d : Channel) → slice_get (flat_map channel_in w.members) k ≡ Some x → IsChannel (flat_map channels_in w.members) k x d → test d ≡ true)
        → list_all test c.channels ≡ true
    every_channel test good = all_beside (IsChannel (flat_map channels_in w.members)) (flat_map channel_in w.members) c.channels is.channels test good

    channels_named : list_all (λ (x : Channel). is_name x.name) c.channels ≡ true
    channels_named =
        every_channel (λ (x : Channel). is_name x.name)
        (λ k x d e i. ap is_name i.name ∙ channels_have (λ m. member_has_names m ≡ true) w.members (members h.ready.members_have_names) k x e)

    channels_lie : list_all (positions.channel_lies (length types)) c.channels ≡ true
    channels_lie =
        every_channel (positions.channel_lies (length types))
        (λ k x d e i.
        join (positions.kind_lies (length types) d.kind) (list_all (λ (l : Limit). nat_lt l.color 3) d.limits)
        (ap (positions.kind_lies (length types)) i.kind ∙ channels_have (λ m. member_lies (length types) m ≡ true) w.members (members h.ready.members_lie) k x e)
        (limits_lie types x d.limits i.limits))

    limits_of_kind : list_all (λ (x : Channel). list_all (λ (l : Limit). has_kind types x.kind l.value) x.limits) c.channels ≡ true
    limits_of_kind =
        every_channel (λ (x : Channel). list_all (λ (l : Limit). has_kind types x.kind l.value) x.limits)
        (λ k x d e i.
        ap (λ (z : Kind). list_all (λ (l : Limit). has_kind types z l.value) d.limits) i.kind
        ∙ limits_have_kind types x d.limits i.limits (channels_have (HasFittingLimits types) w.members (members h.ready.limits_fit) k x e))

    good_limits : list_all (components.has_good_limits types) c.channels ≡ true
    good_limits =
        every_channel (components.has_good_limits types)
        (λ k x d e i.
        let u : IsUnbroken (parts.BrokenLimits types x.kind x.limits) =
        channels_have (λ m. IsUnbroken (parts.BrokenMember types m)) w.members (member_rules types all_written h.of_parts v w here) k x e in
        join ((nat_le (length d.limits) 0 || is_integer types d.kind) && numbers_differ (map (λ (l : Limit). l.color) (filter (λ (l : Limit). l.high) d.limits)))
        (numbers_differ (map (λ (l : Limit). l.color) (filter (λ (l : Limit). not l.high) d.limits)))
        (join (nat_le (length d.limits) 0 || is_integer types d.kind) (numbers_differ (map (λ (l : Limit). l.color) (filter (λ (l : Limit). l.high) d.limits)))
        (ap (λ (z : Kind). nat_le (length d.limits) 0 || is_integer types z) i.kind ∙ no_limit_or_integer types x d.limits i.limits u) (colors_apart types x d.limits i.limits u))
        (other_colors_apart types x d.limits i.limits u))

    -- ---- instances of state machines

    every_running : (test : Running → Bool) → ((k : ℕ) (r : WrittenRunning) (d : Running) → slice_get (flat_map running_in w.members) k ≡ Some r → IsRunning r d → test d ≡ true)
        → list_all test c.machines ≡ true
    every_running test good = all_beside (λ k. IsRunning) (flat_map running_in w.members) c.machines is.machines test good

    fitting : (k : ℕ) (r : WrittenRunning) → slice_get (flat_map running_in w.members) k ≡ Some r → RunsFitting machines (member.Running r)
    fitting k r e = runnings_have (RunsFitting machines) w.members (members h.ready.running_fit) k r e

    running_lie : list_all (λ (r : Running). nat_lt r.machine (length machines)) c.machines ≡ true
    running_lie =
        every_running (λ (r : Running). nat_lt r.machine (length machines))
        (λ k r d e i.
        let t = fitting k r e in
        ap (λ (n : ℕ). nat_lt n (length machines)) i.machine ∙ below_told r.machine (length machines) (get_within machines r.machine t.0 t.1))

    running_named : list_all (λ (r : Running). is_name r.name) c.machines ≡ true
    running_named =
        every_running (λ (r : Running). is_name r.name)
        (λ k r d e i. ap is_name i.name ∙ runnings_have (λ m. member_has_names m ≡ true) w.members (members h.ready.members_have_names) k r e)

    all_later : list_all (λ (r : Running). components.is_later r.way) c.machines ≡ true
    all_later = every_running (λ (r : Running). components.is_later r.way) (λ k r d e i. later_is r.queue d.way i.way)

    none_external : components.runs_no_external machines c ≡ true
    none_external =
        every_running (λ (r : Running). some_and (λ (m : Machine). not m.external) (slice_get machines r.machine))
        (λ k r d e i.
        let t = fitting k r e in
        ap (λ (n : ℕ). some_and (λ (m : Machine). not m.external) (slice_get machines n)) i.machine ∙ ap (some_and (λ (m : Machine). not m.external)) t.1 ∙ ap not t.2)

    running_names_apart : texts_differ (map (λ (r : Running). r.name) c.machines) ≡ true
    running_names_apart =
        ap texts_differ
        (mapped_each (λ k. IsRunning) (λ (r : WrittenRunning). r.name) (λ (r : Running). r.name) (flat_map running_in w.members) c.machines is.machines (λ k r d i. i.name))
        ∙ all_get instances_differ all_written v w h.ready.running_differ here

    -- ---- a passive component has no queue

    module _ (u : IsUnbroken (InSome (UseAt interfaces) w.members)) where
      ports_quiet : list_all (λ (q : Port). not (components.waits q.role)) c.ports ≡ true
      ports_quiet =
          every_port (λ (q : Port). not (components.waits q.role))
          (λ k p q e i.
          quiet p.role p.queue q.role i.role
          (λ async.
          let g = in_given interfaces is.given k p e in
          none_waits interfaces w.members u g.k g.member g.here (inr (p, g.gives, async))))

      commands_quiet : list_all (λ (x : Command). not (components.is_later x.way)) c.commands ≡ true
      commands_quiet =
          every_command (λ (x : Command). not (components.is_later x.way))
          (λ k x d e i. command_quiet x d i.is (commands_have (λ m. waits_itself m ≡ true → ⊥) w.members (λ j m f wait. none_waits interfaces w.members u j m f (inl wait)) k x e))

      no_machines : c.machines ≡ []
      no_machines =
          empty_beside (λ k. IsRunning) (flat_map running_in w.members) c.machines is.machines
          (none_running (λ m. waits_itself m ≡ true → ⊥) no_running w.members (λ j m f wait. none_waits interfaces w.members u j m f (inl wait)))

      waits_for_nothing : components.waits_for_nothing c ≡ true
      waits_for_nothing =
          join (list_all (λ (q : Port). not (components.waits q.role)) c.ports && list_all (λ (x : Command). not (components.is_later x.way)) c.commands) (nat_le (length c.machines) 0)
          (join (list_all (λ (q : Port). not (components.waits q.role)) c.ports) (list_all (λ (x : Command). not (components.is_later x.way)) c.commands) ports_quiet commands_quiet)
          (ap (λ (rs : List Running). nat_le (length rs) 0) no_machines)

    passive_is_quiet : (not (components.is_passive c.queueing) || components.waits_for_nothing c) ≡ true
    passive_is_quiet =
        ap (λ (q : Queueing). not (components.is_passive q) || components.waits_for_nothing c) is.queueing ∙ by_queue w.queueing (component_queue interfaces all_written h.of_wholes v w here)
      where
        by_queue : (q : Queueing) → IsUnbroken (QueueBroken interfaces q w.at w.members) → (not (components.is_passive q) || components.waits_for_nothing c) ≡ true
        by_queue Passive u = waits_for_nothing u
        by_queue Active u = refl
        by_queue Queued u = refl

    -- ---- the whole component

    component_lies : positions.component_lies (length types) (length (defined definitions)) (length machines) c ≡ true
    component_lies = rw (ports_lie, commands_lie, events_lie, channels_lie, params_lie, matches_lie) running_lie

    component_names : sound.component_has_names c ≡ true
    component_names = rw (ports_named, commands_named, events_named, channels_named, params_named) running_named

    qualified : is_qualified c.name ≡ true
    qualified = ap is_qualified is.name ∙ all_get (λ (x : WrittenComponent). is_qualified x.name) all_written v w h.ready.components_are_qualified here

    has_values : components.component_has_values types c ≡ true
    has_values =
        join (list_all (λ (x : Channel). list_all (λ (l : Limit). has_kind types x.kind l.value) x.limits) c.channels) (list_all (λ (p : Param). has_kind types p.kind p.default) c.params)
        limits_of_kind params_have_kind

    unbroken_lists : IsUnbroken (parts.BrokenLists w.members)
    unbroken_lists = list_rules types all_written h.of_parts v w here

    command_names_apart : texts_differ (map (λ (x : Command). x.name) c.commands) ≡ true
    command_names_apart =
        names_apart (IsCommand (flat_map commands_in w.members)) (commands_from 0 w.members) c.commands is.commands (flat_map commands_in w.members) (λ f b. unbroken_lists f (inl (inl b)))
        command_listed (commands_alike 0 w.members) (λ (x : Command). x.name) (λ k x d i. command_name x d i.is)

    command_ids_apart : numbers_differ (map (λ (x : Command). x.opcode) c.commands) ≡ true
    command_ids_apart =
        ids_apart (IsCommand (flat_map commands_in w.members)) (commands_from 0 w.members) c.commands is.commands (flat_map commands_in w.members) (λ f b. unbroken_lists f (inl (inl b)))
        command_listed (commands_alike 0 w.members) (λ (x : Command). x.opcode) (λ k x d i. i.opcode)

    event_names_apart : texts_differ (map (λ (e : Event). e.name) c.events) ≡ true
    event_names_apart =
        names_apart (IsEvent (flat_map events_in w.members)) (flat_map event_in w.members) c.events is.events (flat_map events_in w.members) (λ f b. unbroken_lists f (inl (inr b)))
        event_listed (events_alike w.members) (λ (e : Event). e.name) (λ k x d i. i.name)

    event_ids_apart : numbers_differ (map (λ (e : Event). e.id) c.events) ≡ true
    event_ids_apart =
        ids_apart (IsEvent (flat_map events_in w.members)) (flat_map event_in w.members) c.events is.events (flat_map events_in w.members) (λ f b. unbroken_lists f (inl (inr b)))
        event_listed (events_alike w.members) (λ (e : Event). e.id) (λ k x d i. i.id)

    channel_names_apart : texts_differ (map (λ (x : Channel). x.name) c.channels) ≡ true
    channel_names_apart =
        names_apart (IsChannel (flat_map channels_in w.members)) (flat_map channel_in w.members) c.channels is.channels (flat_map channels_in w.members) (λ f b. unbroken_lists f (inr (inl b)))
        channel_listed (channels_alike w.members) (λ (x : Channel). x.name) (λ k x d i. i.name)

    channel_ids_apart : numbers_differ (map (λ (x : Channel). x.id) c.channels) ≡ true
    channel_ids_apart =
        ids_apart (IsChannel (flat_map channels_in w.members)) (flat_map channel_in w.members) c.channels is.channels (flat_map channels_in w.members) (λ f b. unbroken_lists f (inr (inl b)))
        channel_listed (channels_alike w.members) (λ (x : Channel). x.id) (λ k x d i. i.id)

    param_names_apart : texts_differ (map (λ (p : Param). p.name) c.params) ≡ true
    param_names_apart =
        names_apart (IsParam ws (flat_map params_in w.members)) (flat_map param_in w.members) c.params is.params (flat_map params_in w.members) (λ f b. unbroken_lists f (inr (inr b)))
        param_listed (params_alike w.members) (λ (p : Param). p.name) (λ k x d i. i.name)

    param_ids_apart : numbers_differ (map (λ (p : Param). p.id) c.params) ≡ true
    param_ids_apart =
        ids_apart (IsParam ws (flat_map params_in w.members)) (flat_map param_in w.members) c.params is.params (flat_map params_in w.members) (λ f b. unbroken_lists f (inr (inr b)))
        param_listed (params_alike w.members) (λ (p : Param). p.id) (λ k x d i. i.id)

    all_names_apart : components.names_differ c ≡ true
    all_names_apart =
        rw (port_names, command_names_apart, event_names_apart, channel_names_apart, param_names_apart) running_names_apart

    all_ids_apart : components.ids_differ c ≡ true
    all_ids_apart = rw (command_ids_apart, event_ids_apart, channel_ids_apart) param_ids_apart

    all_formals_apart : components.formals_differ c ≡ true
    all_formals_apart = rw (ports_apart, commands_apart) events_apart

  -- ---- all components

  module _ (resolved : AreComponents interfaces definitions ws all_written cs) where
    every : (test : Component → Bool)
        → ((v : ℕ) (w : WrittenComponent) (c : Component) → slice_get all_written v ≡ Some w → IsComponent interfaces definitions ws w c → test c ≡ true) → list_all test cs ≡ true
    every test good = all_beside (λ k. IsComponent interfaces definitions ws) all_written cs resolved test good

    lists_sound : HaveSoundLists types machines (defined definitions) cs
    lists_sound = record {
      definitions_lie = list_all-map (positions.port_def_lies (length types)) port_def_of definitions ∙ all_items (λ (d : WrittenPortDef). positions.port_def_lies (length types) (port_def_of d)) definitions (λ k d e. definition_good d (all_get (definition_lies (length types)) definitions k d h.ready.definitions_lie e));
      components_lie = every (positions.component_lies (length types) (length (defined definitions)) (length machines)) component_lies;
      components_are_short = h.ready.components_are_short;
    }
      where
        definition_good : (d : WrittenPortDef) → definition_lies (length types) d ≡ true → positions.port_def_lies (length types) (port_def_of d) ≡ true
        definition_good d l =
            let t = both (formals_lie (length types) d.formals) (if_some (positions.kind_lies (length types)) d.result) l in
            join (positions.formals_lie (length types) (formals_of d.formals)) (if_some (positions.kind_lies (length types)) d.result) (formals_lying (length types) d.formals t.0) t.1

    names_sound : HaveSoundNames types machines (defined definitions) cs
    names_sound = record {
      definitions_have_names =
          list_all-map (λ (p : PortDef). sound.formals_have_names p.formals) port_def_of definitions
          ∙ all_items (λ (d : WrittenPortDef). sound.formals_have_names (formals_of d.formals)) definitions
          (λ k d e. formals_named d.formals (all_get (λ (x : WrittenPortDef). formals_have_names x.formals) definitions k d h.ready.definitions_have_names e));
      components_have_names = every sound.component_has_names component_names;
      definitions_are_qualified = list_all-map (λ (p : PortDef). is_qualified p.name) port_def_of definitions ∙ h.ready.definitions_are_qualified;
      components_are_qualified = every (λ (c : Component). is_qualified c.name) qualified;
    }

    values_sound : HaveSoundValues types machines (defined definitions) cs
    values_sound = record {
      parts_have_their_values = every (components.component_has_values types) has_values;
      defaults_are_of_size = every (λ (c : Component). list_all (λ (p : Param). is_of_size p.default) c.params) defaults_of_size;
    }

    ports_sound : HaveSoundPorts types machines (defined definitions) cs
    ports_sound = record {
      ports_have_their_formals = every (λ (c : Component). list_all (components.has_its_formals (defined definitions)) c.ports) own_formals;
      ports_suit_their_roles = every (λ (c : Component). list_all (components.suits_its_role (defined definitions)) c.ports) suited_roles;
      internal_ports_are_later = every (λ (c : Component). list_all (λ (q : Port). components.internal_is_later q.role) c.ports) later_internals;
      waiting_ports_have_no_result = every (λ (c : Component). list_all (components.waits_for_no_result (defined definitions)) c.ports) without_results;
      formals_of_ports_differ =
          list_all-map (λ (p : PortDef). texts_differ (components.names_of p.formals)) port_def_of definitions
          ∙ all_items (λ (d : WrittenPortDef). texts_differ (components.names_of (formals_of d.formals))) definitions
          (λ k d e. formals_apart d.formals (definition_rules definitions interfaces all_written h.of_ports k d e));
      special_ports_differ = every components.special_ports_differ specials_apart;
      ports_are_of_size = every (λ (c : Component). list_all (λ (q : Port). components.is_from_1_to 1024 q.size) c.ports) good_sizes;
    }

    parts_sound : HaveSoundParts types machines (defined definitions) cs
    parts_sound = record {
      names_differ = every components.names_differ all_names_apart;
      ids_differ = every components.ids_differ all_ids_apart;
      formals_differ = every components.formals_differ all_formals_apart;
      each_has_one_set_command = every (λ (c : Component). components.are_one_each components.set_parameter c.commands c.params) one_set;
      each_has_one_save_command = every (λ (c : Component). components.are_one_each components.saved_parameter c.commands c.params) one_save;
      commands_take_their_values = every (λ (c : Component). list_all (components.takes_its_value c.params) c.commands) commands_take;
      fields_are_those_of_formats = every (λ (c : Component). list_all components.reads_its_format c.events) events_read;
      fields_agree_with_formals = every (λ (c : Component). list_all (components.agrees_with_formals types) c.events) events_agree;
      limits_are_good = every (λ (c : Component). list_all (components.has_good_limits types) c.channels) good_limits;
      running_machines_are_later = every (λ (c : Component). list_all (λ (r : Running). components.is_later r.way) c.machines) all_later;
      no_external_machine_runs = every (components.runs_no_external machines) none_external;
      passive_ones_wait_for_nothing = every (λ (c : Component). not (components.is_passive c.queueing) || components.waits_for_nothing c) passive_is_quiet;
    }

    pub components_sound : AreSound types machines (defined definitions) cs
    components_sound = record {
      lists = lists_sound;
      names = names_sound;
      values = values_sound;
      ports = ports_sound;
      parts = parts_sound;
    }
