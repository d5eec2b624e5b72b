-- The places of what belongs to components and interfaces are such where tokens begin.
use Rattle.std.proofs.Common.{ℕ, List, [], ◌∷◌, ◌++◌, Option, Some, None}
use Rattle.std.specs.List.{AllByRecursion as Each}
use Rattle.fp_base.specs.declared.place.Place.{Place}
use Rattle.fp_base.specs.declared.place.Span.{Span}
use Rattle.fp_lexer.specs.Words.{mark}
use Rattle.fp_lexer.specs.declared.token.Token.{Token}
use Rattle.fp_tree.specs.declared.name.Name.{Name}
use Rattle.fp_tree.specs.declared.name.Qual.{Qual}
use Rattle.fp_tree.specs.declared.name.Str.{Str}
use Rattle.fp_tree.specs.declared.expression.Expr.{Expr}
use Rattle.fp_tree.specs.declared.type_name.TypeName.{TypeName}
use Rattle.fp_tree.specs.declared.part.Formal.{Formal}
use Rattle.fp_tree.specs.declared.definition.Def.{Def}
use Rattle.fp_tree.specs.declared.dictionary.CommandKind.{CommandKind}
use Rattle.fp_tree.specs.declared.dictionary.Severity.{Severity}
use Rattle.fp_tree.specs.declared.dictionary.Update.{Update}
use Rattle.fp_tree.specs.declared.dictionary.Color.{Color}
use Rattle.fp_tree.specs.declared.dictionary.Limit.{Limit}
use Rattle.fp_tree.specs.declared.dictionary.Limits.{Limits}
use Rattle.fp_tree.specs.declared.machine.Machine.{Machine}
use Rattle.fp_tree.specs.declared.component.Component.{Component}
use Rattle.fp_tree.specs.declared.component.ComponentKind.{ComponentKind}
use Rattle.fp_tree.specs.declared.component.Full.{Full}
use Rattle.fp_tree.specs.declared.component.General.{General}
use Rattle.fp_tree.specs.declared.component.GeneralKind.{GeneralKind}
use Rattle.fp_tree.specs.declared.component.Special.{Special}
use Rattle.fp_tree.specs.declared.component.SpecialKind.{SpecialKind}
use Rattle.fp_tree.specs.declared.component.Import.{Import}
use Rattle.fp_tree.specs.declared.member.Include.{Include}
use Rattle.fp_tree.specs.declared.component.Part.{Part}
use Rattle.fp_tree.specs.declared.component.Part.TheVariants as part
use Rattle.fp_tree.specs.declared.component.Interface.{Interface}
use Rattle.fp_tree.specs.declared.component.InterfacePart.{InterfacePart}
use Rattle.fp_meaning.specs.Sites.{in_optional, component as component_def, interface as interface_def}
use Rattle.fp_grammar.specs.Grammar.{Grammar, after}
use Rattle.fp_grammar.specs.Grammar.Grammar.{map, one_of, optional, seq}
use Rattle.fp_parse_pieces.specs.Kinds.{k_close_bracket, k_open, k_open_brace, k_open_bracket}
use Rattle.fp_parse_pieces.specs.Words.{at}
use Rattle.fp_parse_pieces.specs.Lists.{commas, or_none}
use Rattle.fp_parse_defs.specs.Language.{expression}
use Rattle.fp_parse_defs.specs.Definitions.{k_colon, k_default, k_format, format_part, size_part, made_formal, formal, with_formal, formal_list}
use Rattle.fp_parse_defs.specs.Specifiers.{k_import, made_import, imported, k_include, made_include, included}
use Rattle.fp_parse_components.specs.declared.queue.QueueWords.{QueueWords}
use Rattle.fp_parse_components.specs.declared.queue.FormalList.{FormalList}
use Rattle.fp_parse_components.specs.declared.noting.NotedPart.{NotedPart}
use Rattle.fp_parse_components.specs.declared.noting.NotedInterfacePart.{NotedInterfacePart}
use Rattle.fp_parse_components.specs.Kinds.{k_word, full_word, general_kind, input_kind, special_kind}
use Rattle.fp_parse_components.specs.Ports.{made_queue_words, queue_words, made_formals, maybe_formals, made_general, general, made_special, special, made_internal, internal, made_match, matching, made_running, running}
use Rattle.fp_parse_components.specs.Dictionary.{made_command, command, made_event, event, made_limit, limit_with_note, made_limits, limits, limits_part, made_channel, channel, opcode_part, made_param, param}
use Rattle.fp_parse_components.specs.Noted.{noted_part, noted_parts, bare_part, part_with_note, with_its_note, noted_interface_part, noted_interface_parts, bare_interface_part, interface_part_with_note, with_inner_note}
use Rattle.fp_parse_components.specs.Parts.{made_definition, machine_or_running, stated_goes_on, made_general_part, made_special_part, made_import_part, made_include_part, port_part, other_part, part_body, part_begins, part_goes_on, part_of, parts, made_inner_general, made_inner_special, made_inner_import, interface_part, interface_parts}
use Rattle.fp_parse_components.specs.Components.{made_component, component, made_interface, interface}
use Rattle.fp_base.proofs.Lists.{InOption, each_append, each_flat, each_mapped, each_push, each_weaker}
use Rattle.fp_places.proofs.Preserving.{gives_anything, gives_less, gives_map, gives_seq, gives_alt, gives_optional, gives_seal, gives_after, gives_before}
use Rattle.fp_places.proofs.Lists.{each_or_none, gives_any_noted, gives_some_of}
use Rattle.fp_places.specs.Places.{places_in_expression, places_in_format, places_in_formal, places_in_formals, places_in_general, places_in_interface_part, places_in_limit, places_in_limits, places_in_part, places_in_special, places_in_type, places_in_value, places_of_model, places_of_word}
use Rattle.fp_places.proofs.Tokens.{Yields, one_of_yields, at_yields, name_yields, string_yields, optional_stands}
use Rattle.fp_places.proofs.Expressions.{StandIn, expression_yields}
use Rattle.fp_places.proofs.Definitions.{StandInType, type_yields}

module _ (G : Place → Type 0) (depth : ℕ) where
  -- ---- words, and what is written of queues

  -- what a word says, and where it stands
  abbrev Begun : {A : Type 0} → Span × A → Type 0
  Begun p = G p.0.first

  word_yields : {A : Type 0} (of : Token → A) (ks : List ℕ) → Yields G {X = Span × A} (map (λ (t : Token). (t.at, of t)) (one_of ks)) (λ p. G p.0.first)
  word_yields of ks = gives_map (λ p. G p.0.first) (λ (t : Token). (t.at, of t)) (λ t h. h) (one_of_yields G ks)

  full_yields : Yields G full_word (λ p. G p.0.first)
  full_yields = word_yields _ _

  -- an expression that may be left out
  abbrev ValueStands : Option Expr → Type 0
  ValueStands o = Each G (places_in_value o)

  maybe_yields : {a : Grammar Token Expr} → Yields G a (StandIn G) → Yields G (optional a) ValueStands
  maybe_yields given = gives_less ValueStands (optional_stands G places_in_expression) (gives_optional given)

  value_yields : (k : ℕ) → Yields G (optional (after k (expression depth))) ValueStands
  value_yields k = maybe_yields (gives_after k (expression_yields G depth))

  -- the priority, and where the first word of a queue stands
  abbrev QueueStands : QueueWords → Type 0
  QueueStands q = ValueStands q.priority × Each G (places_of_word q.first)

  queue_stands : (p : Option (Span × Expr) × Option (Span × Full)) → InOption (λ (q : Span × Expr). G q.0.first × StandIn G q.1) p.0 × InOption (λ (q : Span × Full). G q.0.first) p.1
      → QueueStands (made_queue_words p)
  queue_stands (None, None) h = (tt, tt)
  queue_stands (Some (word, e), None) h = (h.0.1, (h.0.0, tt))
  queue_stands (None, Some (at, f)) h = (tt, (h.1, tt))
  queue_stands (Some (word, e), Some (at, f)) h = (h.0.1, (h.0.0, tt))

  queue_yields : Yields G (queue_words depth) QueueStands
  queue_yields = gives_map QueueStands made_queue_words queue_stands
      (gives_seq (gives_optional (gives_seq (at_yields G (k_word "priority")) (expression_yields G depth))) (gives_optional full_yields))

  -- ---- formals

  abbrev FormalStands : Formal → Type 0
  FormalStands f = Each G (places_in_formal f)

  formal_stands : (p : Option Span × (Name × TypeName)) → Unit {0} × (G p.1.0.at.first × StandInType G p.1.1) → FormalStands (made_formal p)
  formal_stands (None, (n, of)) h = h.1
  formal_stands (Some ref, (n, of)) h = h.1

  formal_yields : Yields G (formal depth) FormalStands
  formal_yields = gives_map FormalStands made_formal formal_stands (gives_seq gives_anything (gives_seq (name_yields G) (gives_after k_colon (type_yields G depth))))

  formal_list_yields : Yields G (formal_list depth) (Each FormalStands)
  formal_list_yields = gives_map (Each FormalStands) or_none (each_or_none FormalStands)
      (gives_optional (gives_some_of FormalStands (Each FormalStands) with_formal (λ fs f lines h k. each_push FormalStands fs _ h k) commas [] tt formal_yields))

  abbrev FormalsStand : FormalList → Type 0
  FormalsStand fs = Each G (places_in_formals fs.row)

  formals_stand : (o : Option (List Formal × Span)) → InOption (λ (p : List Formal × Span). Each FormalStands p.0 × Unit {0}) o → FormalsStand (made_formals o)
  formals_stand None h = tt
  formals_stand (Some (fs, closing)) h = each_flat G places_in_formal fs h.0

  formals_yields : Yields G (maybe_formals depth) FormalsStand
  formals_yields = gives_map FormalsStand made_formals formals_stand (gives_optional (gives_after k_open (gives_seq formal_list_yields gives_anything)))

  -- ---- ports

  input_yields : Yields G input_kind (λ p. G p.0.first)
  input_yields = gives_map (λ p. G p.0.first) _ (λ p h. h.0) (gives_seq (word_yields _ _) gives_anything)

  general_kind_yields : Yields G general_kind (λ p. G p.0.first)
  general_kind_yields = gives_alt input_yields (word_yields _ _)

  abbrev GeneralStands : General → Type 0
  GeneralStands p = Each G (places_in_general p)

  size_yields : Yields G (size_part depth) ValueStands
  size_yields = maybe_yields (gives_after k_open_bracket (gives_before k_close_bracket (expression_yields G depth)))

  general_stands : (p : (Span × GeneralKind) × (Name × (Option Expr × (Qual × QueueWords)))) → G p.0.0.first × (G p.1.0.at.first × (ValueStands p.1.1.0 × (Unit {0} × QueueStands p.1.1.1.1)))
      → GeneralStands (made_general p)
  general_stands ((word, k), (n, (size, (of, q)))) h = (h.0, (h.1.0, each_append G _ _ (each_append G _ _ h.1.1.0 h.1.1.1.1.0) h.1.1.1.1.1))

  general_yields : Yields G (general depth) GeneralStands
  general_yields = gives_map GeneralStands made_general general_stands
      (gives_seq general_kind_yields (gives_after (k_word "port") (gives_seq (name_yields G) (gives_after k_colon (gives_seq size_yields (gives_seq gives_anything queue_yields))))))

  -- two words
  pair_yields : {A : Type 0} {b : Grammar Token A} (k : ℕ) → Yields G (seq (at k) b) (λ p. G p.0.first)
  pair_yields k = gives_less (λ p. G p.0.first) (λ p h. h.0) (gives_seq (at_yields G k) gives_anything)

  special_kind_yields : Yields G special_kind (λ p. G p.0.first)
  special_kind_yields = gives_alt (pair_yields _) (gives_alt (pair_yields _) (gives_alt (pair_yields _) (gives_alt (pair_yields _) (word_yields _ _))))

  abbrev SpecialStands : Special → Type 0
  SpecialStands p = Each G (places_in_special p)

  special_stands : (p : (Span × SpecialKind) × Name) → G p.0.0.first × G p.1.at.first → SpecialStands (made_special p)
  special_stands ((word, k), n) h = (h.0, (h.1, tt))

  special_yields : Yields G special SpecialStands
  special_yields = gives_map SpecialStands made_special special_stands (gives_seq special_kind_yields (gives_after (k_word "port") (name_yields G)))

  -- of a part of a component, in any annotation
  abbrev pub PartStands : Part → Type 0
  PartStands p = Each G (places_in_part p)

  abbrev PartNoted : Part → Type 0
  PartNoted p = (note : List ℕ) → PartStands (noted_part p note)

  internal_stands : (p : Span × (Name × (FormalList × QueueWords))) → G p.0.first × (G p.1.0.at.first × (FormalsStand p.1.1.0 × QueueStands p.1.1.1)) → PartNoted (made_internal p)
  internal_stands (word, (n, (fs, q))) h note = (h.0, (h.1.0, each_append G _ _ (each_append G _ _ h.1.1.0 h.1.1.1.0) h.1.1.1.1))

  internal_yields : Yields G (internal depth) PartNoted
  internal_yields = gives_map PartNoted made_internal internal_stands
      (gives_seq (at_yields G (k_word "internal")) (gives_after (k_word "port") (gives_seq (name_yields G) (gives_seq formals_yields queue_yields))))

  match_stands : (p : Span × (Name × Name)) → G p.0.first × Unit {0} → PartNoted (made_match p)
  match_stands (word, (n, m)) h note = (h.0, tt)

  match_yields : Yields G matching PartNoted
  match_yields = gives_map PartNoted made_match match_stands (gives_seq (at_yields G (k_word "match")) gives_anything)

  running_stands : (p : Span × (Name × (Qual × QueueWords))) → G p.0.first × (G p.1.0.at.first × (Unit {0} × QueueStands p.1.1.1)) → PartNoted (part.Running (made_running p))
  running_stands (word, (n, (of, q))) h note = (h.0, (h.1.0, each_append G _ _ h.1.1.1.0 h.1.1.1.1))

  running_yields : Yields G (running depth) (λ r. PartNoted (part.Running r))
  running_yields = gives_map (λ r. PartNoted (part.Running r)) made_running running_stands
      (gives_seq (at_yields G (k_word "state")) (gives_after (k_word "machine") (gives_after (k_word "instance")
      (gives_seq (name_yields G) (gives_after k_colon (gives_seq gives_anything queue_yields))))))

  -- ---- what is in the dictionary

  command_stands : (p : (Span × CommandKind) × (Name × (FormalList × (Option Expr × QueueWords)))) → G p.0.0.first × (G p.1.0.at.first × (FormalsStand p.1.1.0 × (ValueStands p.1.1.1.0 × QueueStands p.1.1.1.1)))
      → PartNoted (made_command p)
  command_stands ((word, k), (n, (fs, (opcode, q)))) h note =
      (h.0, (h.1.0, each_append G _ _ (each_append G _ _ (each_append G _ _ h.1.1.0 h.1.1.1.0) h.1.1.1.1.0) h.1.1.1.1.1))

  command_yields : Yields G (command depth) PartNoted
  command_yields = gives_map PartNoted made_command command_stands
      (gives_seq (word_yields _ _) (gives_after (k_word "command") (gives_seq (name_yields G) (gives_seq formals_yields (gives_seq (value_yields (k_word "opcode")) queue_yields)))))

  event_stands : (p : Span × (Name × (FormalList × (Severity × (Option Expr × (Str × Option Expr))))))
      → Unit {0} × (G p.1.0.at.first × (FormalsStand p.1.1.0 × (Unit {0} × (ValueStands p.1.1.1.1.0 × (G p.1.1.1.1.1.0.at.first × ValueStands p.1.1.1.1.1.1))))) → PartNoted (made_event p)
  event_stands (word, (n, (fs, (severity, (id, (format, throttle)))))) h note =
      (h.1.0, (h.1.1.1.1.1.0, each_append G _ _ (each_append G _ _ h.1.1.0 h.1.1.1.1.0) h.1.1.1.1.1.1))

  event_yields : Yields G (event depth) PartNoted
  event_yields = gives_map PartNoted made_event event_stands
      (gives_seq gives_anything (gives_seq (name_yields G) (gives_seq formals_yields (gives_after (k_word "severity")
      (gives_seq gives_anything (gives_seq (value_yields (k_word "id")) (gives_after (k_word "format") (gives_seq (string_yields G) (value_yields (k_word "throttle"))))))))))

  abbrev LimitStands : Limit → Type 0
  LimitStands l = Each G (places_in_limit l)

  limit_stands : (p : (Span × Color) × Expr) → G p.0.0.first × StandIn G p.1 → LimitStands (made_limit p)
  limit_stands ((word, c), e) h = h

  abbrev LimitsStand : Limits → Type 0
  LimitsStand ls = Each G (places_in_limits ls)

  limits_stand : (p : Span × (List Limit × Span)) → Unit {0} × (Each LimitStands p.1.0 × Unit {0}) → LimitsStand (made_limits p)
  limits_stand (opening, (ls, closing)) h = each_flat G places_in_limit ls h.1.0

  limits_yield : Yields G (limits depth) LimitsStand
  limits_yield = gives_map LimitsStand made_limits limits_stand
      (gives_seq gives_anything (gives_seq (gives_any_noted LimitStands (mark ",") limit_with_note (λ l note h. h)
      (gives_map LimitStands made_limit limit_stands (gives_seq (word_yields _ _) (expression_yields G depth)))) gives_anything))

  abbrev MaybeLimits : Option Limits → Type 0
  MaybeLimits o = Each G (in_optional places_in_limits o)

  maybe_limits : (k : ℕ) → Yields G (limits_part k depth) MaybeLimits
  maybe_limits k = gives_less MaybeLimits (optional_stands G places_in_limits) (gives_optional (gives_after k limits_yield))

  abbrev MaybeFormat : Option Str → Type 0
  MaybeFormat o = Each G (in_optional places_in_format o)

  maybe_format : (o : Option Str) → InOption (λ (s : Str). G s.at.first) o → MaybeFormat o
  maybe_format None h = tt
  maybe_format (Some s) h = (h, tt)

  format_yields : Yields G format_part MaybeFormat
  format_yields = gives_less MaybeFormat maybe_format (gives_optional (gives_after k_format (string_yields G)))

  channel_stands : (p : Span × (Name × (TypeName × (Option Expr × (Option (Span × Update) × (Option Str × (Option Limits × Option Limits)))))))
      → Unit {0} × (G p.1.0.at.first × (StandInType G p.1.1.0 × (ValueStands p.1.1.1.0 × (Unit {0} × (MaybeFormat p.1.1.1.1.1.0 × (MaybeLimits p.1.1.1.1.1.1.0 × MaybeLimits p.1.1.1.1.1.1.1))))))
      → PartNoted (made_channel p)
  channel_stands (word, (n, (of, (id, (u, (format, (low, high))))))) h note =
      let kind = places_in_type of in
      let id_ = places_in_value id in
      let text = in_optional places_in_format format in
      let lows = in_optional places_in_limits low in
      let highs = in_optional places_in_limits high in (
        h.1.0,
        each_append G (kind ++ id_ ++ text ++ lows) highs (each_append G (kind ++ id_ ++ text) lows (each_append G (kind ++ id_) text (each_append G kind id_ h.1.1.0 h.1.1.1.0) h.1.1.1.1.1.0) h.1.1.1.1.1.1.0)
            h.1.1.1.1.1.1.1,
      )

  channel_yields : Yields G (channel depth) PartNoted
  channel_yields = gives_map PartNoted made_channel channel_stands
      (gives_seq gives_anything (gives_seq (name_yields G) (gives_after k_colon (gives_seq (type_yields G depth) (gives_seq (value_yields (k_word "id"))
      (gives_seq gives_anything (gives_seq format_yields (gives_seq (maybe_limits (k_word "low")) (maybe_limits (k_word "high"))))))))))

  coded : (k : ℕ) → Yields G (opcode_part k depth) ValueStands
  coded k = maybe_yields (gives_after k (gives_after (k_word "opcode") (expression_yields G depth)))

  param_stands : (p : Span × (Name × (TypeName × (Option Expr × (Option Expr × (Option Expr × Option Expr))))))
      → Unit {0} × (G p.1.0.at.first × (StandInType G p.1.1.0 × (ValueStands p.1.1.1.0 × (ValueStands p.1.1.1.1.0 × (ValueStands p.1.1.1.1.1.0 × ValueStands p.1.1.1.1.1.1))))) → PartNoted (made_param p)
  param_stands (word, (n, (of, (default, (id, (set, save)))))) h note =
      let kind = places_in_type of in
      let by_default = places_in_value default in
      let ids = places_in_value id in
      let sets = places_in_value set in
      let saves = places_in_value save in (
        h.1.0,
        each_append G (kind ++ by_default ++ ids ++ sets) saves
            (each_append G (kind ++ by_default ++ ids) sets (each_append G (kind ++ by_default) ids (each_append G kind by_default h.1.1.0 h.1.1.1.0) h.1.1.1.1.0) h.1.1.1.1.1.0) h.1.1.1.1.1.1,
      )

  param_yields : Yields G (param depth) PartNoted
  param_yields = gives_map PartNoted made_param param_stands
      (gives_seq gives_anything (gives_seq (name_yields G) (gives_after k_colon (gives_seq (type_yields G depth) (gives_seq (value_yields k_default)
      (gives_seq (value_yields (k_word "id")) (gives_seq (coded (k_word "set")) (coded (k_word "save")))))))))

  -- ---- parts

  stated_yields : Yields G (machine_or_running depth) PartNoted
  stated_yields = gives_alt (gives_map PartNoted (λ m. part.Machine m) (λ (m : Machine) h note. tt) gives_anything) (gives_map PartNoted (λ r. part.Running r) (λ r h. h) running_yields)

  port_yields : Yields G (port_part depth) PartNoted
  port_yields = gives_alt (gives_map PartNoted made_general_part (λ p h note. h) general_yields)
      (gives_alt (gives_map PartNoted made_special_part (λ p h note. h) special_yields) internal_yields)

  pub import_yields : Yields G imported (λ (i : Import). G i.at.first)
  import_yields = gives_map (λ (i : Import). G i.at.first) made_import (λ p h. h.0) (gives_seq (at_yields G k_import) gives_anything)

  pub include_yields : Yields G included (λ (i : Include). G i.at.first)
  include_yields = gives_map (λ (i : Include). G i.at.first) made_include (λ p h. h.0) (gives_seq (at_yields G k_include) gives_anything)

  other_yields : Yields G other_part PartNoted
  other_yields = gives_alt match_yields (gives_alt (gives_map PartNoted made_import_part (λ i h note. (h, tt)) import_yields)
      (gives_map PartNoted made_include_part (λ i h note. (h, tt)) include_yields))

  part_yields : Yields G (part_of depth) PartNoted
  part_yields = gives_seal {a = part_body depth} part_begins part_goes_on
      (gives_alt (gives_map PartNoted made_definition (λ (d : Def) h note. tt) gives_anything)
      (gives_alt (gives_seal {a = machine_or_running depth} (k_word "state" ∷ []) stated_goes_on stated_yields) (gives_alt port_yields
      (gives_alt (gives_alt command_yields (gives_alt event_yields (gives_alt channel_yields param_yields))) other_yields))))

  abbrev BareStands : NotedPart → Type 0
  BareStands p = PartNoted p.bare

  pub parts_yield : Yields G (parts depth) (Each PartStands)
  parts_yield = gives_map (Each PartStands) noted_parts
      (λ ps hs. each_mapped PartStands with_its_note ps (each_weaker BareStands (λ p. PartStands (with_its_note p)) (λ p h. h p.note) ps hs))
      (gives_any_noted BareStands (mark ";") part_with_note (λ p note h. h) (gives_map BareStands bare_part (λ p h. h) part_yields))

  -- ---- components and interfaces

  -- in any annotation
  abbrev pub ComponentStands : Component → Type 0
  ComponentStands c = (note : List ℕ) → Each G (places_of_model (component_def (record c { note = note })))

  component_stands : (p : (Span × ComponentKind) × (Name × (List Part × Span))) → Unit {0} × (Unit {0} × (Each PartStands p.1.1.0 × Unit {0})) → ComponentStands (made_component p)
  component_stands ((word, k), (n, (ps, closing))) h note = each_flat G places_in_part ps h.1.1.0

  pub component_yields : Yields G (component depth) ComponentStands
  component_yields = gives_map ComponentStands made_component component_stands
      (gives_seq gives_anything (gives_after (k_word "component") (gives_seq gives_anything (gives_after k_open_brace (gives_seq parts_yield gives_anything)))))

  abbrev InnerStands : InterfacePart → Type 0
  InnerStands p = Each G (places_in_interface_part p)

  -- in any annotation
  abbrev InnerNoted : InterfacePart → Type 0
  InnerNoted p = (note : List ℕ) → InnerStands (noted_interface_part p note)

  abbrev BareInner : NotedInterfacePart → Type 0
  BareInner p = InnerNoted p.bare

  inner_yields : Yields G (interface_part depth) InnerNoted
  inner_yields =
      gives_alt (gives_map InnerNoted made_inner_general (λ p h note. h) general_yields) (gives_alt
      (gives_map InnerNoted made_inner_special (λ p h note. h) special_yields) (gives_map InnerNoted made_inner_import (λ i h note. (h, tt)) import_yields))

  inners_yield : Yields G (interface_parts depth) (Each InnerStands)
  inners_yield = gives_map (Each InnerStands) noted_interface_parts
      (λ ps hs. each_mapped InnerStands with_inner_note ps (each_weaker BareInner (λ p. InnerStands (with_inner_note p)) (λ p h. h p.note) ps hs))
      (gives_any_noted BareInner (mark ";") interface_part_with_note (λ p note h. h) (gives_map BareInner bare_interface_part (λ p h. h) inner_yields))

  -- in any annotation
  abbrev pub InterfaceStands : Interface → Type 0
  InterfaceStands i = (note : List ℕ) → Each G (places_of_model (interface_def (record i { note = note })))

  interface_stands : (p : Span × (Name × (List InterfacePart × Span))) → Unit {0} × (Unit {0} × (Each InnerStands p.1.1.0 × Unit {0})) → InterfaceStands (made_interface p)
  interface_stands (word, (n, (ps, closing))) h note = each_flat G places_in_interface_part ps h.1.1.0

  pub interface_yields : Yields G (interface depth) InterfaceStands
  interface_yields = gives_map InterfaceStands made_interface interface_stands
      (gives_seq gives_anything (gives_seq gives_anything (gives_after k_open_brace (gives_seq inners_yield gives_anything))))
