-- What is written of the ports, interfaces and components of a source is one thing.
use Rattle.std.proofs.Common.{◌≡◌, ℕ, Bool, true, false, List, ◌++◌, Option, Some, None, flat_map, refl, sym, ap, ◌∙◌}
use Rattle.fp_topology_forms.proofs.Once.{one_of_both, one_given, one_optional, one_place}
use Rattle.fp_base.specs.declared.place.Span.{Span}
use Rattle.fp_base.specs.declared.value.Value.{Value}
use Rattle.fp_tree.specs.declared.source.Source.{Source}
use Rattle.fp_tree.specs.declared.expression.Expr.{Expr}
use Rattle.fp_tree.specs.declared.type_name.TypeName.{TypeName}
use Rattle.fp_tree.specs.declared.part.Formal.{Formal}
use Rattle.fp_tree.specs.declared.component.Full.{Full}
use Rattle.fp_tree.specs.declared.component.General.{General}
use Rattle.fp_tree.specs.declared.component.Special.{Special}
use Rattle.fp_tree.specs.declared.component.Internal.{Internal}
use Rattle.fp_tree.specs.declared.component.Import.{Import}
use Rattle.fp_tree.specs.declared.component.InterfacePart.{InterfacePart}
use Rattle.fp_tree.specs.declared.component.Match.{Match}
use Rattle.fp_tree.specs.declared.component.Part.{Part}
use Rattle.fp_tree.specs.declared.component.Part.TheVariants as part
use Rattle.fp_tree.specs.declared.component.Running.{Running}
use Rattle.fp_tree.specs.declared.definition.Port.{Port}
use Rattle.fp_tree.specs.declared.component.Component.{Component}
use Rattle.fp_tree.specs.declared.component.Interface.{Interface}
use Rattle.fp_tree.specs.declared.dictionary.Command.{Command}
use Rattle.fp_tree.specs.declared.dictionary.Event.{Event}
use Rattle.fp_tree.specs.declared.dictionary.Channel.{Channel}
use Rattle.fp_tree.specs.declared.dictionary.Limit.{Limit}
use Rattle.fp_tree.specs.declared.dictionary.Limits.{Limits}
use Rattle.fp_tree.specs.declared.dictionary.ParamDef.{ParamDef}
use Rattle.fp_tables.specs.declared.component.Special.{Special as Kind}
use Rattle.fp_tables.specs.declared.kind.Kind.{Kind as Type_}
use Rattle.fp_meaning.specs.Names.{Path, definitions}
use Rattle.fp_meaning.specs.Layout.{component_scope}
use Rattle.fp_meaning.specs.Values.{Val, opened}
use Rattle.fp_meaning.proofs.Meanings.{neither_less}
use Rattle.fp_meaning.proofs.OneValue.{one_value}
use Rattle.fp_type_forms.proofs.OneForm.{one_kind, same_answer}
use Rattle.fp_type_forms.proofs.Only.{all_one}
use Rattle.fp_written_parts.specs.declared.port.QueueWords.{QueueWords}
use Rattle.fp_written_parts.specs.declared.port.WrittenFormal.{WrittenFormal}
use Rattle.fp_written_parts.specs.declared.port.WrittenPortDef.{WrittenPortDef}
use Rattle.fp_written_parts.specs.declared.port.WrittenPort.{WrittenPort}
use Rattle.fp_written_parts.specs.declared.port.WrittenImport.{WrittenImport}
use Rattle.fp_written_parts.specs.declared.dictionary.WrittenCommand.{WrittenCommand}
use Rattle.fp_written_parts.specs.declared.dictionary.WrittenEvent.{WrittenEvent}
use Rattle.fp_written_parts.specs.declared.dictionary.WrittenLimit.{WrittenLimit}
use Rattle.fp_written_parts.specs.declared.dictionary.WrittenChannel.{WrittenChannel}
use Rattle.fp_written_parts.specs.declared.dictionary.WrittenParam.{WrittenParam}
use Rattle.fp_written_parts.specs.declared.member.WrittenMatch.{WrittenMatch}
use Rattle.fp_written_parts.specs.declared.member.WrittenRunning.{WrittenRunning}
use Rattle.fp_written_parts.specs.declared.member.WrittenMember.{WrittenMember}
use Rattle.fp_written_parts.specs.declared.member.WrittenMember.TheVariants as member
use Rattle.fp_written_parts.specs.declared.member.WrittenInterface.{WrittenInterface}
use Rattle.fp_written_parts.specs.declared.member.WrittenComponent.{WrittenComponent}
use Rattle.fp_component_forms.specs.declared.writing.WrittenSource.{WrittenSource}
use Rattle.fp_component_forms.specs.Written.{CommandIs, ComponentIs, DefaultIs, EventIs, ChannelIs, FormalIs, FormalsAre, GeneralIs, ImportIs, InterfaceIs, InternalIs, IsWrittenSource, LimitIs, LimitsAre, MatchIs, MemberIs, ParamIs, PortDefIs, PositionIs, QueueIs, RunningIs, Scoped, SideIs, SpecialIs, SpecialTypeIs, TypeNameIs, components, interfaces, limits_in, member_part, part_of, port_definitions, port_names}

-- the first position of a name
one_position : (names : List (List ℕ)) (special : Kind) (p q : Option ℕ) → SpecialTypeIs names special p → SpecialTypeIs names special q → p ≡ q
one_position names special None None h g = refl
one_position names special None (Some k) h g = absurd (h k g.0)
one_position names special (Some j) None h g = absurd (g j h.0)
one_position names special (Some j) (Some k) h g = ap (λ n. Some n) (neither_less j k (λ l. h.1 k l g.0) (λ l. g.1 j l h.0))

module _ (source : Source) (scope : Path) where
  one_type : (t : TypeName) (k l : Type_) → TypeNameIs source scope t k → TypeNameIs source scope t l → k ≡ l
  one_type t k l h g = one_kind source scope t.form k l h g

  one_default : (e : Option Expr) (u v : Option Value) → DefaultIs source scope e u → DefaultIs source scope e v → u ≡ v
  one_default None u v h g = h ∙ sym g
  one_default (Some e) u v h g = same_answer (Val source scope (opened e)) u v (λ x y a b. one_value a b) h g

  one_queue : (e : Option Expr) (f : Option Full) (s : Option Span) (p q : QueueWords) → QueueIs source scope e f s p → QueueIs source scope e f s q → p ≡ q
  one_queue e f s p q h g = same (one_optional source scope e p.priority q.priority h.priority g.priority) (h.full ∙ sym g.full) (h.word ∙ sym g.word)
    where
      same : p.priority ≡ q.priority → p.full ≡ q.full → p.word ≡ q.word → p ≡ q
      same a b c =
          let whole : p ≡ record { priority = p.priority; full = p.full; word = p.word } = refl in
          let other : q ≡ record { priority = q.priority; full = q.full; word = q.word } = refl in
          cc

  one_formal : (f : Formal) (v w : WrittenFormal) → FormalIs source scope f v → FormalIs source scope f w → v ≡ w
  one_formal f v w h g = same (h.name ∙ sym g.name) (h.at ∙ sym g.at) (one_type f.of v.kind w.kind h.kind g.kind) (h.by_ref ∙ sym g.by_ref) (h.note ∙ sym g.note)
    where
      same : v.name ≡ w.name → v.at ≡ w.at → v.kind ≡ w.kind → v.by_ref ≡ w.by_ref → v.note ≡ w.note → v ≡ w
      same a b c d e =
          let whole : v ≡ record { name = v.name; at = v.at; kind = v.kind; by_ref = v.by_ref; note = v.note } = refl in
          let other : w ≡ record { name = w.name; at = w.at; kind = w.kind; by_ref = w.by_ref; note = w.note } = refl in
          cc

  one_formals : (fs : List Formal) (vs ws : List WrittenFormal) → FormalsAre source scope fs vs → FormalsAre source scope fs ws → vs ≡ ws
  one_formals fs vs ws h g = all_one (λ position. FormalIs source scope) (λ position. one_formal) 0 fs vs ws h g

  -- ---- ports

  same_port : (v w : WrittenPort) → v.name ≡ w.name → v.at ≡ w.at → v.begins ≡ w.begins → v.role ≡ w.role → v.size ≡ w.size → v.of ≡ w.of → v.formals ≡ w.formals → v.queue ≡ w.queue → v ≡ w
  same_port v w a b c d e f g h =
      let whole : v ≡ record { name = v.name; at = v.at; begins = v.begins; role = v.role; size = v.size; of = v.of; formals = v.formals; queue = v.queue } = refl in
      let other : w ≡ record { name = w.name; at = w.at; begins = w.begins; role = w.role; size = w.size; of = w.of; formals = w.formals; queue = w.queue } = refl in
      cc

  one_general : (p : General) (v w : WrittenPort) → GeneralIs source scope p v → GeneralIs source scope p w → v ≡ w
  one_general p v w h g =
      same_port v w (h.name ∙ sym g.name) (h.at ∙ sym g.at) (h.begins ∙ sym g.begins) (h.role ∙ sym g.role) (one_optional source scope p.size v.size w.size h.size g.size)
      (one_of_both (PositionIs source scope _) (one_place source scope _) p.of v.of w.of h.of g.of) (h.formals ∙ sym g.formals) (one_queue p.priority p.full p.queue_word v.queue w.queue h.queue g.queue)

  one_special : (p : Special) (v w : WrittenPort) → SpecialIs source scope p v → SpecialIs source scope p w → v ≡ w
  one_special p v w h g =
      same_port v w (h.name ∙ sym g.name) (h.at ∙ sym g.at) (h.begins ∙ sym g.begins) (h.role ∙ sym g.role) (h.size ∙ sym g.size)
      (one_position (port_names source) _ v.of w.of h.of g.of) (h.formals ∙ sym g.formals) (h.queue ∙ sym g.queue)

  one_internal : (p : Internal) (v w : WrittenPort) → InternalIs source scope p v → InternalIs source scope p w → v ≡ w
  one_internal p v w h g =
      same_port v w (h.name ∙ sym g.name) (h.at ∙ sym g.at) (h.begins ∙ sym g.begins) (h.role ∙ sym g.role) (h.size ∙ sym g.size) (h.of ∙ sym g.of)
      (one_formals p.formals v.formals w.formals h.formals g.formals) (one_queue p.priority p.full p.queue_word v.queue w.queue h.queue g.queue)

  one_import : (i : Import) (v w : WrittenImport) → ImportIs source scope i v → ImportIs source scope i w → v ≡ w
  one_import i v w h g = same (one_place source scope _ i.of v.interface w.interface h.interface g.interface) (h.at ∙ sym g.at)
    where
      same : v.interface ≡ w.interface → v.at ≡ w.at → v ≡ w
      same a b =
          let whole : v ≡ record { interface = v.interface; at = v.at } = refl in
          let other : w ≡ record { interface = w.interface; at = w.at } = refl in
          cc

  -- ---- what a dictionary lists

  one_command : (c : Command) (v w : WrittenCommand) → CommandIs source scope c v → CommandIs source scope c w → v ≡ w
  one_command c v w h g =
      same (h.name ∙ sym g.name) (h.at ∙ sym g.at) (h.begins ∙ sym g.begins) (h.kind ∙ sym g.kind) (one_formals c.formals v.formals w.formals h.formals g.formals)
      (one_optional source scope c.opcode v.opcode w.opcode h.opcode g.opcode) (one_queue c.priority c.full c.queue_word v.queue w.queue h.queue g.queue) (h.note ∙ sym g.note)
    where
      same : v.name ≡ w.name → v.at ≡ w.at → v.begins ≡ w.begins → v.kind ≡ w.kind → v.formals ≡ w.formals → v.opcode ≡ w.opcode → v.queue ≡ w.queue → v.note ≡ w.note → v ≡ w
      same a b c d e f g h =
          let whole : v ≡ record { name = v.name; at = v.at; begins = v.begins; kind = v.kind; formals = v.formals; opcode = v.opcode; queue = v.queue; note = v.note } = refl in
          let other : w ≡ record { name = w.name; at = w.at; begins = w.begins; kind = w.kind; formals = w.formals; opcode = w.opcode; queue = w.queue; note = w.note } = refl in
          cc

  one_event : (e : Event) (v w : WrittenEvent) → EventIs source scope e v → EventIs source scope e w → v ≡ w
  one_event e v w h g =
      same (h.name ∙ sym g.name) (h.at ∙ sym g.at) (one_formals e.formals v.formals w.formals h.formals g.formals) (h.severity ∙ sym g.severity) (one_optional source scope e.id v.id w.id h.id g.id)
      (h.format ∙ sym g.format) (h.format_at ∙ sym g.format_at) (one_optional source scope e.throttle v.throttle w.throttle h.throttle g.throttle) (h.note ∙ sym g.note)
    where
      same : v.name ≡ w.name → v.at ≡ w.at → v.formals ≡ w.formals → v.severity ≡ w.severity → v.id ≡ w.id → v.format ≡ w.format → v.format_at ≡ w.format_at → v.throttle ≡ w.throttle
          → v.note ≡ w.note → v ≡ w
      same a b c d e f g h i =
          let whole : v ≡ record { name = v.name; at = v.at; formals = v.formals; severity = v.severity; id = v.id; format = v.format; format_at = v.format_at; throttle = v.throttle; note = v.note } = refl in
          let other : w ≡ record { name = w.name; at = w.at; formals = w.formals; severity = w.severity; id = w.id; format = w.format; format_at = w.format_at; throttle = w.throttle; note = w.note } = refl in
          cc

  one_limit : (high : Bool) (l : Limit) (v w : WrittenLimit) → LimitIs source scope high l v → LimitIs source scope high l w → v ≡ w
  one_limit high l v w h g = same (h.side ∙ sym g.side) (h.color ∙ sym g.color) (h.at ∙ sym g.at) (one_given source scope l.value v.value w.value h.value g.value)
    where
      same : v.high ≡ w.high → v.color ≡ w.color → v.at ≡ w.at → v.value ≡ w.value → v ≡ w
      same a b c d =
          let whole : v ≡ record { high = v.high; color = v.color; at = v.at; value = v.value } = refl in
          let other : w ≡ record { high = w.high; color = w.color; at = w.at; value = w.value } = refl in
          cc

  one_side : (high : Bool) (side : Option Limits) (vs ws : List WrittenLimit) → SideIs source scope high side vs → SideIs source scope high side ws → vs ≡ ws
  one_side high side vs ws h g = all_one (λ position. LimitIs source scope high) (λ position. one_limit high) 0 (limits_in side) vs ws h g

  one_limits : (low high : Option Limits) (vs ws : List WrittenLimit) → LimitsAre source scope low high vs → LimitsAre source scope low high ws → vs ≡ ws
  one_limits low high vs ws h g =
      h.4 ∙ ap (λ (xs : List WrittenLimit). xs ++ h.1) (one_side false low h.0 g.0 h.2 g.2) ∙ ap (λ (xs : List WrittenLimit). g.0 ++ xs) (one_side true high h.1 g.1 h.3 g.3) ∙ sym g.4

  one_channel : (t : Channel) (v w : WrittenChannel) → ChannelIs source scope t v → ChannelIs source scope t w → v ≡ w
  one_channel t v w h g =
      same (h.name ∙ sym g.name) (h.at ∙ sym g.at) (one_type t.of v.kind w.kind h.kind g.kind) (one_optional source scope t.id v.id w.id h.id g.id) (h.update ∙ sym g.update) (h.format ∙ sym g.format)
      (one_limits t.low t.high v.limits w.limits h.limits g.limits) (h.note ∙ sym g.note)
    where
      same : v.name ≡ w.name → v.at ≡ w.at → v.kind ≡ w.kind → v.id ≡ w.id → v.update ≡ w.update → v.format ≡ w.format → v.limits ≡ w.limits → v.note ≡ w.note → v ≡ w
      same a b c d e f g h =
          let whole : v ≡ record { name = v.name; at = v.at; kind = v.kind; id = v.id; update = v.update; format = v.format; limits = v.limits; note = v.note } = refl in
          let other : w ≡ record { name = w.name; at = w.at; kind = w.kind; id = w.id; update = w.update; format = w.format; limits = w.limits; note = w.note } = refl in
          cc

  one_param : (p : ParamDef) (v w : WrittenParam) → ParamIs source scope p v → ParamIs source scope p w → v ≡ w
  one_param p v w h g =
      same (h.name ∙ sym g.name) (h.at ∙ sym g.at) (one_type p.of v.kind w.kind h.kind g.kind) (one_default p.default v.default w.default h.default g.default)
      (one_optional source scope p.id v.id w.id h.id g.id) (one_optional source scope p.set v.set w.set h.set g.set) (one_optional source scope p.save v.save w.save h.save g.save) (h.note ∙ sym g.note)
    where
      same : v.name ≡ w.name → v.at ≡ w.at → v.kind ≡ w.kind → v.default ≡ w.default → v.id ≡ w.id → v.set ≡ w.set → v.save ≡ w.save → v.note ≡ w.note → v ≡ w
      same a b c d e f g h =
          let whole : v ≡ record { name = v.name; at = v.at; kind = v.kind; default = v.default; id = v.id; set = v.set; save = v.save; note = v.note } = refl in
          let other : w ≡ record { name = w.name; at = w.at; kind = w.kind; default = w.default; id = w.id; set = w.set; save = w.save; note = w.note } = refl in
          cc

  -- ---- members

  one_match : (m : Match) (v w : WrittenMatch) → MatchIs source scope m v → MatchIs source scope m w → v ≡ w
  one_match m v w h g = same (h.first ∙ sym g.first) (h.second ∙ sym g.second) (h.at ∙ sym g.at)
    where
      same : v.first ≡ w.first → v.second ≡ w.second → v.at ≡ w.at → v ≡ w
      same a b c =
          let whole : v ≡ record { first = v.first; second = v.second; at = v.at } = refl in
          let other : w ≡ record { first = w.first; second = w.second; at = w.at } = refl in
          cc

  one_running : (r : Running) (v w : WrittenRunning) → RunningIs source scope r v → RunningIs source scope r w → v ≡ w
  one_running r v w h g =
      same (h.name ∙ sym g.name) (h.at ∙ sym g.at) (h.begins ∙ sym g.begins) (one_place source scope _ r.of v.machine w.machine h.machine g.machine)
      (one_queue r.priority r.full r.queue_word v.queue w.queue h.queue g.queue)
    where
      same : v.name ≡ w.name → v.at ≡ w.at → v.begins ≡ w.begins → v.machine ≡ w.machine → v.queue ≡ w.queue → v ≡ w
      same a b c d e =
          let whole : v ≡ record { name = v.name; at = v.at; begins = v.begins; machine = v.machine; queue = v.queue } = refl in
          let other : w ≡ record { name = w.name; at = w.at; begins = w.begins; machine = w.machine; queue = w.queue } = refl in
          cc

  -- a part that is a port is written as one, and so on
  one_member : (p : Part) (v w : WrittenMember) → MemberIs source scope p v → MemberIs source scope p w → v ≡ w
  one_member (part.General p) (member.Port v) (member.Port w) h g = ap (λ (x : WrittenPort). member.Port x) (one_general p v w h g)
  one_member (part.General p) (member.Port v) (member.Import w) h g = absurd g
  one_member (part.General p) (member.Port v) (member.Command w) h g = absurd g
  one_member (part.General p) (member.Port v) (member.Event w) h g = absurd g
  one_member (part.General p) (member.Port v) (member.Channel w) h g = absurd g
  one_member (part.General p) (member.Port v) (member.Param w) h g = absurd g
  one_member (part.General p) (member.Port v) (member.Match w) h g = absurd g
  one_member (part.General p) (member.Port v) (member.Running w) h g = absurd g
  one_member (part.General p) (member.Import v) w h g = absurd h
  one_member (part.General p) (member.Command v) w h g = absurd h
  one_member (part.General p) (member.Event v) w h g = absurd h
  one_member (part.General p) (member.Channel v) w h g = absurd h
  one_member (part.General p) (member.Param v) w h g = absurd h
  one_member (part.General p) (member.Match v) w h g = absurd h
  one_member (part.General p) (member.Running v) w h g = absurd h
  one_member (part.Special p) (member.Port v) (member.Port w) h g = ap (λ (x : WrittenPort). member.Port x) (one_special p v w h g)
  one_member (part.Special p) (member.Port v) (member.Import w) h g = absurd g
  one_member (part.Special p) (member.Port v) (member.Command w) h g = absurd g
  one_member (part.Special p) (member.Port v) (member.Event w) h g = absurd g
  one_member (part.Special p) (member.Port v) (member.Channel w) h g = absurd g
  one_member (part.Special p) (member.Port v) (member.Param w) h g = absurd g
  one_member (part.Special p) (member.Port v) (member.Match w) h g = absurd g
  one_member (part.Special p) (member.Port v) (member.Running w) h g = absurd g
  one_member (part.Special p) (member.Import v) w h g = absurd h
  one_member (part.Special p) (member.Command v) w h g = absurd h
  one_member (part.Special p) (member.Event v) w h g = absurd h
  one_member (part.Special p) (member.Channel v) w h g = absurd h
  one_member (part.Special p) (member.Param v) w h g = absurd h
  one_member (part.Special p) (member.Match v) w h g = absurd h
  one_member (part.Special p) (member.Running v) w h g = absurd h
  one_member (part.Internal p) (member.Port v) (member.Port w) h g = ap (λ (x : WrittenPort). member.Port x) (one_internal p v w h g)
  one_member (part.Internal p) (member.Port v) (member.Import w) h g = absurd g
  one_member (part.Internal p) (member.Port v) (member.Command w) h g = absurd g
  one_member (part.Internal p) (member.Port v) (member.Event w) h g = absurd g
  one_member (part.Internal p) (member.Port v) (member.Channel w) h g = absurd g
  one_member (part.Internal p) (member.Port v) (member.Param w) h g = absurd g
  one_member (part.Internal p) (member.Port v) (member.Match w) h g = absurd g
  one_member (part.Internal p) (member.Port v) (member.Running w) h g = absurd g
  one_member (part.Internal p) (member.Import v) w h g = absurd h
  one_member (part.Internal p) (member.Command v) w h g = absurd h
  one_member (part.Internal p) (member.Event v) w h g = absurd h
  one_member (part.Internal p) (member.Channel v) w h g = absurd h
  one_member (part.Internal p) (member.Param v) w h g = absurd h
  one_member (part.Internal p) (member.Match v) w h g = absurd h
  one_member (part.Internal p) (member.Running v) w h g = absurd h
  one_member (part.Import p) (member.Import v) (member.Import w) h g = ap (λ (x : WrittenImport). member.Import x) (one_import p v w h g)
  one_member (part.Import p) (member.Import v) (member.Port w) h g = absurd g
  one_member (part.Import p) (member.Import v) (member.Command w) h g = absurd g
  one_member (part.Import p) (member.Import v) (member.Event w) h g = absurd g
  one_member (part.Import p) (member.Import v) (member.Channel w) h g = absurd g
  one_member (part.Import p) (member.Import v) (member.Param w) h g = absurd g
  one_member (part.Import p) (member.Import v) (member.Match w) h g = absurd g
  one_member (part.Import p) (member.Import v) (member.Running w) h g = absurd g
  one_member (part.Import p) (member.Port v) w h g = absurd h
  one_member (part.Import p) (member.Command v) w h g = absurd h
  one_member (part.Import p) (member.Event v) w h g = absurd h
  one_member (part.Import p) (member.Channel v) w h g = absurd h
  one_member (part.Import p) (member.Param v) w h g = absurd h
  one_member (part.Import p) (member.Match v) w h g = absurd h
  one_member (part.Import p) (member.Running v) w h g = absurd h
  one_member (part.Command p) (member.Command v) (member.Command w) h g = ap (λ (x : WrittenCommand). member.Command x) (one_command p v w h g)
  one_member (part.Command p) (member.Command v) (member.Port w) h g = absurd g
  one_member (part.Command p) (member.Command v) (member.Import w) h g = absurd g
  one_member (part.Command p) (member.Command v) (member.Event w) h g = absurd g
  one_member (part.Command p) (member.Command v) (member.Channel w) h g = absurd g
  one_member (part.Command p) (member.Command v) (member.Param w) h g = absurd g
  one_member (part.Command p) (member.Command v) (member.Match w) h g = absurd g
  one_member (part.Command p) (member.Command v) (member.Running w) h g = absurd g
  one_member (part.Command p) (member.Port v) w h g = absurd h
  one_member (part.Command p) (member.Import v) w h g = absurd h
  one_member (part.Command p) (member.Event v) w h g = absurd h
  one_member (part.Command p) (member.Channel v) w h g = absurd h
  one_member (part.Command p) (member.Param v) w h g = absurd h
  one_member (part.Command p) (member.Match v) w h g = absurd h
  one_member (part.Command p) (member.Running v) w h g = absurd h
  one_member (part.Event p) (member.Event v) (member.Event w) h g = ap (λ (x : WrittenEvent). member.Event x) (one_event p v w h g)
  one_member (part.Event p) (member.Event v) (member.Port w) h g = absurd g
  one_member (part.Event p) (member.Event v) (member.Import w) h g = absurd g
  one_member (part.Event p) (member.Event v) (member.Command w) h g = absurd g
  one_member (part.Event p) (member.Event v) (member.Channel w) h g = absurd g
  one_member (part.Event p) (member.Event v) (member.Param w) h g = absurd g
  one_member (part.Event p) (member.Event v) (member.Match w) h g = absurd g
  one_member (part.Event p) (member.Event v) (member.Running w) h g = absurd g
  one_member (part.Event p) (member.Port v) w h g = absurd h
  one_member (part.Event p) (member.Import v) w h g = absurd h
  one_member (part.Event p) (member.Command v) w h g = absurd h
  one_member (part.Event p) (member.Channel v) w h g = absurd h
  one_member (part.Event p) (member.Param v) w h g = absurd h
  one_member (part.Event p) (member.Match v) w h g = absurd h
  one_member (part.Event p) (member.Running v) w h g = absurd h
  one_member (part.Channel p) (member.Channel v) (member.Channel w) h g = ap (λ (x : WrittenChannel). member.Channel x) (one_channel p v w h g)
  one_member (part.Channel p) (member.Channel v) (member.Port w) h g = absurd g
  one_member (part.Channel p) (member.Channel v) (member.Import w) h g = absurd g
  one_member (part.Channel p) (member.Channel v) (member.Command w) h g = absurd g
  one_member (part.Channel p) (member.Channel v) (member.Event w) h g = absurd g
  one_member (part.Channel p) (member.Channel v) (member.Param w) h g = absurd g
  one_member (part.Channel p) (member.Channel v) (member.Match w) h g = absurd g
  one_member (part.Channel p) (member.Channel v) (member.Running w) h g = absurd g
  one_member (part.Channel p) (member.Port v) w h g = absurd h
  one_member (part.Channel p) (member.Import v) w h g = absurd h
  one_member (part.Channel p) (member.Command v) w h g = absurd h
  one_member (part.Channel p) (member.Event v) w h g = absurd h
  one_member (part.Channel p) (member.Param v) w h g = absurd h
  one_member (part.Channel p) (member.Match v) w h g = absurd h
  one_member (part.Channel p) (member.Running v) w h g = absurd h
  one_member (part.Param p) (member.Param v) (member.Param w) h g = ap (λ (x : WrittenParam). member.Param x) (one_param p v w h g)
  one_member (part.Param p) (member.Param v) (member.Port w) h g = absurd g
  one_member (part.Param p) (member.Param v) (member.Import w) h g = absurd g
  one_member (part.Param p) (member.Param v) (member.Command w) h g = absurd g
  one_member (part.Param p) (member.Param v) (member.Event w) h g = absurd g
  one_member (part.Param p) (member.Param v) (member.Channel w) h g = absurd g
  one_member (part.Param p) (member.Param v) (member.Match w) h g = absurd g
  one_member (part.Param p) (member.Param v) (member.Running w) h g = absurd g
  one_member (part.Param p) (member.Port v) w h g = absurd h
  one_member (part.Param p) (member.Import v) w h g = absurd h
  one_member (part.Param p) (member.Command v) w h g = absurd h
  one_member (part.Param p) (member.Event v) w h g = absurd h
  one_member (part.Param p) (member.Channel v) w h g = absurd h
  one_member (part.Param p) (member.Match v) w h g = absurd h
  one_member (part.Param p) (member.Running v) w h g = absurd h
  one_member (part.Match p) (member.Match v) (member.Match w) h g = ap (λ (x : WrittenMatch). member.Match x) (one_match p v w h g)
  one_member (part.Match p) (member.Match v) (member.Port w) h g = absurd g
  one_member (part.Match p) (member.Match v) (member.Import w) h g = absurd g
  one_member (part.Match p) (member.Match v) (member.Command w) h g = absurd g
  one_member (part.Match p) (member.Match v) (member.Event w) h g = absurd g
  one_member (part.Match p) (member.Match v) (member.Channel w) h g = absurd g
  one_member (part.Match p) (member.Match v) (member.Param w) h g = absurd g
  one_member (part.Match p) (member.Match v) (member.Running w) h g = absurd g
  one_member (part.Match p) (member.Port v) w h g = absurd h
  one_member (part.Match p) (member.Import v) w h g = absurd h
  one_member (part.Match p) (member.Command v) w h g = absurd h
  one_member (part.Match p) (member.Event v) w h g = absurd h
  one_member (part.Match p) (member.Channel v) w h g = absurd h
  one_member (part.Match p) (member.Param v) w h g = absurd h
  one_member (part.Match p) (member.Running v) w h g = absurd h
  one_member (part.Running p) (member.Running v) (member.Running w) h g = ap (λ (x : WrittenRunning). member.Running x) (one_running p v w h g)
  one_member (part.Running p) (member.Running v) (member.Port w) h g = absurd g
  one_member (part.Running p) (member.Running v) (member.Import w) h g = absurd g
  one_member (part.Running p) (member.Running v) (member.Command w) h g = absurd g
  one_member (part.Running p) (member.Running v) (member.Event w) h g = absurd g
  one_member (part.Running p) (member.Running v) (member.Channel w) h g = absurd g
  one_member (part.Running p) (member.Running v) (member.Param w) h g = absurd g
  one_member (part.Running p) (member.Running v) (member.Match w) h g = absurd g
  one_member (part.Running p) (member.Port v) w h g = absurd h
  one_member (part.Running p) (member.Import v) w h g = absurd h
  one_member (part.Running p) (member.Command v) w h g = absurd h
  one_member (part.Running p) (member.Event v) w h g = absurd h
  one_member (part.Running p) (member.Channel v) w h g = absurd h
  one_member (part.Running p) (member.Param v) w h g = absurd h
  one_member (part.Running p) (member.Match v) w h g = absurd h
  one_member (part.Def d) v w h g = absurd h
  one_member (part.Machine m) v w h g = absurd h
  one_member (part.Include i) v w h g = absurd h

-- ---- definitions

module _ (source : Source) where
  one_definition : (p : Scoped Port) (v w : WrittenPortDef) → PortDefIs source p v → PortDefIs source p w → v ≡ w
  one_definition p v w h g =
      same (h.name ∙ sym g.name) (one_formals source p.scope p.node.formals v.formals w.formals h.formals g.formals)
      (one_of_both (TypeNameIs source p.scope) (one_type source p.scope) p.node.result v.result w.result h.result g.result)
    where
      same : v.name ≡ w.name → v.formals ≡ w.formals → v.result ≡ w.result → v ≡ w
      same a b c =
          let whole : v ≡ record { name = v.name; formals = v.formals; result = v.result } = refl in
          let other : w ≡ record { name = w.name; formals = w.formals; result = w.result } = refl in
          cc

  one_interface : (i : Scoped Interface) (v w : WrittenInterface) → InterfaceIs source i v → InterfaceIs source i w → v ≡ w
  one_interface i v w h g = same (all_one (λ position (p : InterfacePart). MemberIs source i.scope (part_of p)) (λ position p. one_member source i.scope (part_of p)) 0 i.node.parts v.members w.members h g)
    where
      same : v.members ≡ w.members → v ≡ w
      same a =
          let whole : v ≡ record { members = v.members } = refl in
          let other : w ≡ record { members = w.members } = refl in
          cc

  one_component : (c : Scoped Component) (v w : WrittenComponent) → ComponentIs source c v → ComponentIs source c w → v ≡ w
  one_component c v w h g =
      same (h.name ∙ sym g.name) (h.at ∙ sym g.at) (h.queueing ∙ sym g.queueing)
      (all_one (λ position. MemberIs source (component_scope c.scope c.node)) (λ position. one_member source (component_scope c.scope c.node)) 0 (flat_map member_part c.node.parts) v.members w.members
      h.members g.members)
    where
      same : v.name ≡ w.name → v.at ≡ w.at → v.queueing ≡ w.queueing → v.members ≡ w.members → v ≡ w
      same a b c d =
          let whole : v ≡ record { name = v.name; at = v.at; queueing = v.queueing; members = v.members } = refl in
          let other : w ≡ record { name = w.name; at = w.at; queueing = w.queueing; members = w.members } = refl in
          cc

  pub one_source : (v w : WrittenSource) → IsWrittenSource source v → IsWrittenSource source w → v ≡ w
  one_source v w h g =
      same (all_one (λ position. PortDefIs source) (λ position. one_definition) 0 (port_definitions source) v.definitions w.definitions h.definitions g.definitions)
      (all_one (λ position. InterfaceIs source) (λ position. one_interface) 0 (interfaces source) v.interfaces w.interfaces h.interfaces g.interfaces)
      (all_one (λ position. ComponentIs source) (λ position. one_component) 0 (components source) v.components w.components h.components g.components)
    where
      same : v.definitions ≡ w.definitions → v.interfaces ≡ w.interfaces → v.components ≡ w.components → v ≡ w
      same a b c =
          let whole : v ≡ record { definitions = v.definitions; interfaces = v.interfaces; components = v.components } = refl in
          let other : w ≡ record { definitions = w.definitions; interfaces = w.interfaces; components = w.components } = refl in
          cc
