-- What a law says of the pieces of a file it says of the items and the names of components and interfaces.
use Rattle.std.proofs.Common.{ℕ, List, [], ◌∷◌, ◌++◌, flat_map, Option, Some, None, inl, inr}
use Rattle.std.specs.List.{AllByRecursion as Each}
use Rattle.fp_base.specs.declared.place.Span.{Span}
use Rattle.fp_lexer.specs.Words.{mark}
use Rattle.fp_tree.specs.declared.name.Name.{Name}
use Rattle.fp_tree.specs.declared.name.Qual.{Qual}
use Rattle.fp_tree.specs.declared.name.Str.{Str}
use Rattle.fp_tree.specs.declared.expression.Expr.{Expr}
use Rattle.fp_tree.specs.declared.type_name.TypeName.{TypeName}
use Rattle.fp_tree.specs.declared.part.Formal.{Formal}
use Rattle.fp_tree.specs.declared.definition.Def.{Def}
use Rattle.fp_tree.specs.declared.dictionary.CommandKind.{CommandKind}
use Rattle.fp_tree.specs.declared.dictionary.Severity.{Severity}
use Rattle.fp_tree.specs.declared.dictionary.Update.{Update}
use Rattle.fp_tree.specs.declared.dictionary.Color.{Color}
use Rattle.fp_tree.specs.declared.dictionary.Limit.{Limit}
use Rattle.fp_tree.specs.declared.dictionary.Limits.{Limits}
use Rattle.fp_tree.specs.declared.machine.Machine.{Machine}
use Rattle.fp_tree.specs.declared.component.Component.{Component}
use Rattle.fp_tree.specs.declared.component.ComponentKind.{ComponentKind}
use Rattle.fp_tree.specs.declared.component.Full.{Full}
use Rattle.fp_tree.specs.declared.component.General.{General}
use Rattle.fp_tree.specs.declared.component.GeneralKind.{GeneralKind}
use Rattle.fp_tree.specs.declared.component.SpecialKind.{SpecialKind}
use Rattle.fp_tree.specs.declared.component.Part.{Part}
use Rattle.fp_tree.specs.declared.component.Part.TheVariants as part
use Rattle.fp_tree.specs.declared.component.Interface.{Interface}
use Rattle.fp_tree.specs.declared.component.InterfacePart.{InterfacePart}
use Rattle.fp_meaning.specs.declared.group.Group.TheVariants.{Interface as InterfaceGroup, Machine as MachineGroup, Port}
use Rattle.fp_meaning.specs.Sites.{Path, component as component_def, interface as interface_def}
use Rattle.fp_meaning.specs.Layout.{items_in, formal_items, formals_items, general_items, limit_items, limits_items, own_items, inner_items, component_items, interface_part_items, interface_items}
use Rattle.fp_grammar.specs.Grammar.{Spells}
use Rattle.fp_parse_pieces.specs.Kinds.{kind, k_open, k_open_brace, k_open_bracket, k_close_bracket}
use Rattle.fp_parse_pieces.specs.Lists.{commas, or_none}
use Rattle.fp_parse_defs.specs.Definitions.{k_colon, k_default, definition, noted_definition, size_part, made_formal, formal, with_formal, formal_list}
use Rattle.fp_parse_components.specs.declared.queue.QueueWords.{QueueWords}
use Rattle.fp_parse_components.specs.declared.queue.FormalList.{FormalList}
use Rattle.fp_parse_components.specs.declared.noting.NotedPart.{NotedPart}
use Rattle.fp_parse_components.specs.declared.noting.NotedInterfacePart.{NotedInterfacePart}
use Rattle.fp_parse_components.specs.Kinds.{k_word}
use Rattle.fp_parse_components.specs.Ports.{made_queue_words, queue_words, made_formals, maybe_formals, made_general, general, made_special, special, made_internal, internal, made_match, matching, made_running, running}
use Rattle.fp_parse_components.specs.Dictionary.{made_command, command, made_event, event, made_limit, limit_with_note, made_limits, limits, limits_part, made_channel, channel, opcode_part, made_param, param}
use Rattle.fp_parse_components.specs.Noted.{noted_part, noted_parts, bare_part, part_with_note, with_its_note, noted_interface_part, noted_interface_parts, bare_interface_part, interface_part_with_note, with_inner_note}
use Rattle.fp_parse_components.specs.Parts.{definition_body, definition_begins, definition_goes_on, definition_sealed, made_definition, machine_or_running, stated_goes_on, made_general_part, made_special_part, made_import_part, made_include_part, port_part, other_part, part_body, part_begins, part_goes_on, part_of, parts, made_inner_general, made_inner_special, made_inner_import, interface_part, interface_parts}
use Rattle.fp_parse_components.specs.Components.{made_component, component, made_interface, interface}
use Rattle.fp_meaning.specs.Names.{in_optional}
use Rattle.fp_base.proofs.Lists.{InOption, each_append, each_flat, each_mapped, each_push, each_weaker}
use Rattle.fp_places.specs.Parts.{names_in_definition, names_in_expression, names_in_formal}
use Rattle.fp_places.specs.Sites.{in_parts}
use Rattle.fp_places.specs.Components.{names_in_general, names_in_limits, names_in_part, names_in_component, names_in_interface_part, names_in_interface}
use Rattle.fp_places.proofs.Preserving.{LanguageGives, gives_anything, gives_both, gives_less, gives_map, gives_seq, gives_alt, gives_optional, gives_seal, gives_after, gives_before}
use Rattle.fp_places.proofs.Lists.{each_or_none, gives_any_noted, gives_some_of}
use Rattle.fp_places.proofs.Held.{held_names, held_both, held_named, held_option, held_list}
use Rattle.fp_places.proofs.Known.{Known, Yields, Says, ValueSaid, MaybeSaid, TypeSaid, declares, uses, maybe_given, value_given}
use Rattle.fp_places.proofs.SiteMachines.{MachineSaid, machine_yields}
use Rattle.fp_places.proofs.SiteTopologies.{import_yields}

module _ {depth : ℕ} (law : Known depth) where
  -- ---- queues and formals

  abbrev QueueSaid : QueueWords → Type 0
  QueueSaid q = MaybeSaid law q.priority

  queue_said : (p : Option (Span × Expr) × Option (Span × Full)) → InOption (λ (q : Span × Expr). Unit {0} × ValueSaid law q.1) p.0 × Unit {0} → QueueSaid (made_queue_words p)
  queue_said (None, None) h = held_names tt
  queue_said (Some (word, e), None) h = h.0.1
  queue_said (None, Some (at, f)) h = held_names tt
  queue_said (Some (word, e), Some (at, f)) h = h.0.1

  queue_yields : Yields law (queue_words depth) QueueSaid
  queue_yields = gives_map QueueSaid made_queue_words queue_said (gives_seq (gives_optional (gives_seq gives_anything law.expressions_given)) gives_anything)

  abbrev FormalSaid : Formal → Type 0
  FormalSaid f = Says law (λ scope. formal_items scope f) (names_in_formal f)

  formal_said : (p : Option Span × (Name × TypeName)) → Unit {0} × (law.Naming p.1.0 × TypeSaid law p.1.1) → FormalSaid (made_formal p)
  formal_said (None, (n, of)) h = held_named (law.named n h.1.0) h.1.1
  formal_said (Some ref, (n, of)) h = held_named (law.named n h.1.0) h.1.1

  formal_yields : Yields law (formal depth) FormalSaid
  formal_yields = gives_map FormalSaid made_formal formal_said (gives_seq gives_anything (gives_seq law.naming_given (gives_after k_colon law.types_given)))

  formal_list_yields : Yields law (formal_list depth) (Each FormalSaid)
  formal_list_yields = gives_map (Each FormalSaid) or_none (each_or_none FormalSaid)
      (gives_optional (gives_some_of FormalSaid (Each FormalSaid) with_formal (λ fs f lines h k. each_push FormalSaid fs _ h k) commas [] tt formal_yields))

  abbrev FormalsSaid : FormalList → Type 0
  FormalsSaid fs = Says law (λ scope. formals_items scope fs.row) (flat_map names_in_formal fs.row)

  formals_said : (o : Option (List Formal × Span)) → InOption (λ (p : List Formal × Span). Each FormalSaid p.0 × Unit {0}) o → FormalsSaid (made_formals o)
  formals_said None h = held_names tt
  formals_said (Some (fs, closing)) h = held_list formal_items names_in_formal fs h.0

  formals_yields : Yields law (maybe_formals depth) FormalsSaid
  formals_yields = gives_map FormalsSaid made_formals formals_said (gives_optional (gives_after k_open (gives_seq formal_list_yields gives_anything)))

  -- ---- ports

  size_yields : Yields law (size_part depth) (MaybeSaid law)
  size_yields = maybe_given law (gives_after k_open_bracket (gives_before k_close_bracket law.expressions_given))

  abbrev GeneralSaid : General → Type 0
  GeneralSaid p = Says law (λ scope. general_items scope p) (names_in_general p)

  general_said : (p : (Span × GeneralKind) × (Name × (Option Expr × (Qual × QueueWords)))) → Unit {0} × (law.Naming p.1.0 × (MaybeSaid law p.1.1.0 × (law.Using p.1.1.1.0 × QueueSaid p.1.1.1.1))) → GeneralSaid (made_general p)
  general_said ((word, k), (n, (size, (of, q)))) h = held_named (law.named n h.1.0) (held_both (held_both h.1.1.0 (uses law Port of h.1.1.1.0)) h.1.1.1.1)

  general_yields : Yields law (general depth) GeneralSaid
  general_yields = gives_map GeneralSaid made_general general_said
      (gives_seq gives_anything (gives_after (k_word "port") (gives_seq law.naming_given (gives_after k_colon (gives_seq size_yields (gives_seq law.using_given queue_yields))))))

  special_named : (p : (Span × SpecialKind) × Name) → Unit {0} × law.Naming p.1 → law.OfName (made_special p).name
  special_named ((word, k), n) h = law.named n h.1

  special_yields : Yields law special (λ p. law.OfName p.name)
  special_yields = gives_map (λ p. law.OfName p.name) made_special special_named (gives_seq gives_anything (gives_after (k_word "port") law.naming_given))

  -- of a part of a component: its own items, and those of what is defined in it
  record PartSaid (p : Part) : Type 0 where
    own : Says law (λ scope. own_items scope p) (names_in_part p)
    inner : (scope : Path) → Each law.OfItem (inner_items scope p)

  -- in any annotation
  abbrev PartNoted : Part → Type 0
  PartNoted p = (note : List ℕ) → PartSaid (noted_part p note)

  internal_said : (p : Span × (Name × (FormalList × QueueWords))) → Unit {0} × (law.Naming p.1.0 × (FormalsSaid p.1.1.0 × QueueSaid p.1.1.1)) → PartNoted (made_internal p)
  internal_said (word, (n, (fs, q))) h note = record { own = held_named (law.named n h.1.0) (held_both h.1.1.0 h.1.1.1); inner = λ scope. tt }

  internal_yields : Yields law (internal depth) PartNoted
  internal_yields = gives_map PartNoted made_internal internal_said
      (gives_seq gives_anything (gives_after (k_word "port") (gives_seq law.naming_given (gives_seq formals_yields queue_yields))))

  match_said : (p : Span × (Name × Name)) → Unit {0} × (law.Naming p.1.0 × law.Naming p.1.1) → PartNoted (made_match p)
  match_said (word, (n, m)) h note = record { own = held_names (law.named n h.1.0, (law.named m h.1.1, tt)); inner = λ scope. tt }

  match_yields : Yields law matching PartNoted
  match_yields = gives_map PartNoted made_match match_said (gives_seq gives_anything (gives_seq law.naming_given (gives_after (k_word "with") law.naming_given)))

  running_said : (p : Span × (Name × (Qual × QueueWords))) → Unit {0} × (law.Naming p.1.0 × (law.Using p.1.1.0 × QueueSaid p.1.1.1)) → PartNoted (part.Running (made_running p))
  running_said (word, (n, (of, q))) h note = record { own = held_named (law.named n h.1.0) (held_both (uses law MachineGroup of h.1.1.0) h.1.1.1); inner = λ scope. tt }

  running_yields : Yields law (running depth) (λ r. PartNoted (part.Running r))
  running_yields = gives_map (λ r. PartNoted (part.Running r)) made_running running_said
      (gives_seq gives_anything (gives_after (k_word "machine") (gives_after (k_word "instance")
      (gives_seq law.naming_given (gives_after k_colon (gives_seq law.using_given queue_yields))))))

  -- ---- what is in the dictionary

  command_said : (p : (Span × CommandKind) × (Name × (FormalList × (Option Expr × QueueWords)))) → Unit {0} × (law.Naming p.1.0 × (FormalsSaid p.1.1.0 × (MaybeSaid law p.1.1.1.0 × QueueSaid p.1.1.1.1))) → PartNoted (made_command p)
  command_said ((word, k), (n, (fs, (opcode, q)))) h note = record { own = held_named (law.named n h.1.0) (held_both (held_both h.1.1.0 h.1.1.1.0) h.1.1.1.1); inner = λ scope. tt }

  command_yields : Yields law (command depth) PartNoted
  command_yields = gives_map PartNoted made_command command_said
      (gives_seq gives_anything (gives_after (k_word "command") (gives_seq law.naming_given (gives_seq formals_yields (gives_seq (value_given law (k_word "opcode")) queue_yields)))))

  event_said : (p : Span × (Name × (FormalList × (Severity × (Option Expr × (Str × Option Expr)))))) → Unit {0} × (law.Naming p.1.0 × (FormalsSaid p.1.1.0 × (Unit {0} × (MaybeSaid law p.1.1.1.1.0 × (Unit {0} × MaybeSaid law p.1.1.1.1.1.1))))) → PartNoted (made_event p)
  event_said (word, (n, (fs, (severity, (id, (format, throttle)))))) h note = record { own = held_named (law.named n h.1.0) (held_both (held_both h.1.1.0 h.1.1.1.1.0) h.1.1.1.1.1.1); inner = λ scope. tt }

  event_yields : Yields law (event depth) PartNoted
  event_yields = gives_map PartNoted made_event event_said
      (gives_seq gives_anything (gives_seq law.naming_given (gives_seq formals_yields (gives_after (k_word "severity")
      (gives_seq gives_anything (gives_seq (value_given law (k_word "id")) (gives_after (k_word "format") (gives_seq gives_anything (value_given law (k_word "throttle"))))))))))

  abbrev LimitSaid : Limit → Type 0
  LimitSaid l = Says law (λ scope. limit_items scope l) (names_in_expression l.value)

  abbrev LimitsSaid : Limits → Type 0
  LimitsSaid ls = Says law (λ scope. limits_items scope ls) (names_in_limits ls)

  limit_said : (p : (Span × Color) × Expr) → Unit {0} × ValueSaid law p.1 → LimitSaid (made_limit p)
  limit_said ((word, c), e) h = h.1

  limits_said : (p : Span × (List Limit × Span)) → Unit {0} × (Each LimitSaid p.1.0 × Unit {0}) → LimitsSaid (made_limits p)
  limits_said (opening, (ls, closing)) h = held_list limit_items (λ (l : Limit). names_in_expression l.value) ls h.1.0

  limits_yield : Yields law (limits depth) LimitsSaid
  limits_yield = gives_map LimitsSaid made_limits limits_said
      (gives_seq gives_anything (gives_seq (gives_any_noted LimitSaid (mark ",") limit_with_note (λ l note h. h)
      (gives_map LimitSaid made_limit limit_said (gives_seq gives_anything law.expressions_given))) gives_anything))

  abbrev MaybeLimits : Option Limits → Type 0
  MaybeLimits o = Says law (λ scope. in_optional (limits_items scope) o) (in_optional names_in_limits o)

  maybe_limits : (k : ℕ) → Yields law (limits_part k depth) MaybeLimits
  maybe_limits k = gives_less MaybeLimits (held_option limits_items names_in_limits) (gives_optional (gives_after k limits_yield))

  channel_said : (p : Span × (Name × (TypeName × (Option Expr × (Option (Span × Update) × (Option Str × (Option Limits × Option Limits)))))))
      → Unit {0} × (law.Naming p.1.0 × (TypeSaid law p.1.1.0 × (MaybeSaid law p.1.1.1.0 × (Unit {0} × (Unit {0} × (MaybeLimits p.1.1.1.1.1.1.0 × MaybeLimits p.1.1.1.1.1.1.1)))))) → PartNoted (made_channel p)
  channel_said (word, (n, (of, (id, (u, (format, (low, high))))))) h note =
      record { own = held_named (law.named n h.1.0) (held_both (held_both (held_both h.1.1.0 h.1.1.1.0) h.1.1.1.1.1.1.0) h.1.1.1.1.1.1.1); inner = λ scope. tt }

  channel_yields : Yields law (channel depth) PartNoted
  channel_yields = gives_map PartNoted made_channel channel_said
      (gives_seq gives_anything (gives_seq law.naming_given (gives_after k_colon (gives_seq law.types_given (gives_seq (value_given law (k_word "id"))
      (gives_seq gives_anything (gives_seq gives_anything (gives_seq (maybe_limits (k_word "low")) (maybe_limits (k_word "high"))))))))))

  coded : (k : ℕ) → Yields law (opcode_part k depth) (MaybeSaid law)
  coded k = maybe_given law (gives_after k (gives_after (k_word "opcode") law.expressions_given))

  param_said : (p : Span × (Name × (TypeName × (Option Expr × (Option Expr × (Option Expr × Option Expr))))))
      → Unit {0} × (law.Naming p.1.0 × (TypeSaid law p.1.1.0 × (MaybeSaid law p.1.1.1.0 × (MaybeSaid law p.1.1.1.1.0 × (MaybeSaid law p.1.1.1.1.1.0 × MaybeSaid law p.1.1.1.1.1.1))))) → PartNoted (made_param p)
  param_said (word, (n, (of, (default, (id, (set, save)))))) h note =
      record { own = held_named (law.named n h.1.0) (held_both (held_both (held_both (held_both h.1.1.0 h.1.1.1.0) h.1.1.1.1.0) h.1.1.1.1.1.0) h.1.1.1.1.1.1); inner = λ scope. tt }

  param_yields : Yields law (param depth) PartNoted
  param_yields = gives_map PartNoted made_param param_said
      (gives_seq gives_anything (gives_seq law.naming_given (gives_after k_colon (gives_seq law.types_given (gives_seq (value_given law k_default)
      (gives_seq (value_given law (k_word "id")) (gives_seq (coded (k_word "set")) (coded (k_word "save")))))))))

  -- ---- parts

  -- of a definition, in any annotation
  abbrev DefinitionSaid : Def → Type 0
  DefinitionSaid d = (note : List ℕ) → Says law (λ scope. items_in scope (noted_definition d note)) (names_in_definition (noted_definition d note))

  definition_said : (d : Def) → DefinitionSaid d → PartNoted (made_definition d)
  definition_said d h note = record { own = held_names (h note).names; inner = (h note).items }

  machine_said : (m : Machine) → MachineSaid law m → PartNoted (part.Machine m)
  machine_said m h note = record { own = held_names (h note).names; inner = (h note).items }

  -- the definitions of components are definitions
  definition_yields : Yields law (definition_sealed depth) DefinitionSaid
  definition_yields = gives_seal {a = definition_body depth} definition_begins definition_goes_on
      (gives_alt (record { given = λ w d s. all w d (inl s) }) (gives_alt (record { given = λ w d s. all w d (inr (inl s)) }) (gives_alt (record { given = λ w d s. all w d (inr (inr (inl s))) })
      (gives_alt (record { given = λ w d s. all w d (inr (inr (inr (inl s)))) }) (record { given = λ w d s. all w d (inr (inr (inr (inr (inl s))))) })))))
    where
      all : LanguageGives law.OfToken (Spells kind (definition depth)) DefinitionSaid
      all = law.definitions_given.given

  stated_yields : Yields law (machine_or_running depth) PartNoted
  stated_yields = gives_alt (gives_map PartNoted (λ m. part.Machine m) machine_said (machine_yields law)) (gives_map PartNoted (λ r. part.Running r) (λ r h. h) running_yields)

  port_yields : Yields law (port_part depth) PartNoted
  port_yields = gives_alt (gives_map PartNoted made_general_part (λ p h note. record { own = h; inner = λ scope. tt }) general_yields)
      (gives_alt (gives_map PartNoted made_special_part (λ p h note. record { own = held_names (h, tt); inner = λ scope. tt }) special_yields) internal_yields)

  other_yields : Yields law other_part PartNoted
  other_yields = gives_alt match_yields (gives_alt (gives_map PartNoted made_import_part (λ i h note. record { own = uses law InterfaceGroup i.of h; inner = λ scope. tt }) (import_yields law))
      (gives_map PartNoted made_include_part (λ i h note. record { own = held_names tt; inner = λ scope. tt }) gives_anything))

  part_yields : Yields law (part_of depth) PartNoted
  part_yields = gives_seal {a = part_body depth} part_begins part_goes_on
      (gives_alt (gives_map PartNoted made_definition definition_said definition_yields)
      (gives_alt (gives_seal {a = machine_or_running depth} (k_word "state" ∷ []) stated_goes_on stated_yields) (gives_alt port_yields
      (gives_alt (gives_alt command_yields (gives_alt event_yields (gives_alt channel_yields param_yields))) other_yields))))

  abbrev BareSaid : NotedPart → Type 0
  BareSaid p = PartNoted p.bare

  parts_yield : Yields law (parts depth) (Each PartSaid)
  parts_yield = gives_map (Each PartSaid) noted_parts
      (λ ps hs. each_mapped PartSaid with_its_note ps (each_weaker BareSaid (λ p. PartSaid (with_its_note p)) (λ p h. h p.note) ps hs))
      (gives_any_noted BareSaid (mark ";") part_with_note (λ p note h. h) (gives_map BareSaid bare_part (λ p h. h) part_yields))

  -- ---- components and interfaces

  own_said : (scope : Path) (ps : List Part) → Each PartSaid ps → Each law.OfItem (flat_map (own_items scope) ps)
  own_said scope ps hs = each_flat law.OfItem (own_items scope) ps (each_weaker PartSaid (λ p. Each law.OfItem (own_items scope p)) (λ p h. h.own.items scope) ps hs)

  inner_said : (scope : Path) (ps : List Part) → Each PartSaid ps → Each law.OfItem (flat_map (inner_items scope) ps)
  inner_said scope ps hs = each_flat law.OfItem (inner_items scope) ps (each_weaker PartSaid (λ p. Each law.OfItem (inner_items scope p)) (λ p h. h.inner scope) ps hs)

  -- what is said of parts, in their component's scope
  abbrev pub PartsGiven : List Part → Type 0
  PartsGiven ps = Says law (λ scope. in_parts scope ps) (flat_map names_in_part ps)

  parts_held : (ps : List Part) → Each PartSaid ps → PartsGiven ps
  parts_held ps hs = record {
    items = λ scope. each_append law.OfItem _ _ (own_said scope ps hs) (inner_said scope ps hs);
    names = each_flat law.OfName names_in_part ps (each_weaker PartSaid (λ p. Each law.OfName (names_in_part p)) (λ p h. h.own.names) ps hs);
  }

  pub parts_given : Yields law (parts depth) PartsGiven
  parts_given = gives_less PartsGiven parts_held parts_yield

  -- behind a component's name
  parts_said : (text : List ℕ) (ps : List Part) → Each PartSaid ps
      → Says law (λ scope. flat_map (own_items (scope ++ text ∷ [])) ps ++ flat_map (inner_items (scope ++ text ∷ [])) ps) (flat_map names_in_part ps)
  parts_said text ps hs = record { items = λ scope. (parts_held ps hs).items (scope ++ text ∷ []); names = (parts_held ps hs).names }

  -- in any annotation
  abbrev pub ComponentSaid : Component → Type 0
  ComponentSaid c = (note : List ℕ) → Says law (λ scope. component_items scope (record c { note = note })) (names_in_component (record c { note = note }))

  -- its name, and its parts
  abbrev PartsSaid : Component → Type 0
  PartsSaid c = law.Naming c.name × Each PartSaid c.parts

  parts_of_component : (p : (Span × ComponentKind) × (Name × (List Part × Span))) → Unit {0} × (law.Naming p.1.0 × (Each PartSaid p.1.1.0 × Unit {0})) → PartsSaid (made_component p)
  parts_of_component ((word, k), (n, (ps, closing))) h = (h.1.0, h.1.1.0)

  component_said : (c : Component) → PartsSaid c × ((note : List ℕ) → law.OfComponent (record c { note = note })) → ComponentSaid c
  component_said c h note = declares law (component_def (record c { note = note })) h.0.0 (h.1 note) (parts_said c.name.text c.parts h.0.1)

  pub component_yields : Yields law (component depth) ComponentSaid
  component_yields = gives_less ComponentSaid component_said (gives_both (gives_map PartsSaid made_component parts_of_component
      (gives_seq gives_anything (gives_after (k_word "component") (gives_seq law.naming_given (gives_after k_open_brace (gives_seq parts_yield gives_anything))))))
      law.components_given)

  abbrev InnerSaid : InterfacePart → Type 0
  InnerSaid p = Says law (λ scope. interface_part_items scope p) (names_in_interface_part p)

  -- in any annotation
  abbrev InnerNoted : InterfacePart → Type 0
  InnerNoted p = (note : List ℕ) → InnerSaid (noted_interface_part p note)

  abbrev BareInner : NotedInterfacePart → Type 0
  BareInner p = InnerNoted p.bare

  inner_yields : Yields law (interface_part depth) InnerNoted
  inner_yields =
      gives_alt (gives_map InnerNoted made_inner_general (λ p h note. h) general_yields) (gives_alt
      (gives_map InnerNoted made_inner_special (λ p h note. held_names (h, tt)) special_yields) (gives_map InnerNoted made_inner_import (λ i h note. uses law InterfaceGroup i.of h) (import_yields law)))

  inners_yield : Yields law (interface_parts depth) (Each InnerSaid)
  inners_yield = gives_map (Each InnerSaid) noted_interface_parts
      (λ ps hs. each_mapped InnerSaid with_inner_note ps (each_weaker BareInner (λ p. InnerSaid (with_inner_note p)) (λ p h. h p.note) ps hs))
      (gives_any_noted BareInner (mark ";") interface_part_with_note (λ p note h. h) (gives_map BareInner bare_interface_part (λ p h. h) inner_yields))

  -- in any annotation
  abbrev pub InterfaceSaid : Interface → Type 0
  InterfaceSaid i = (note : List ℕ) → Says law (λ scope. interface_items scope (record i { note = note })) (names_in_interface (record i { note = note }))

  abbrev InnersSaid : Interface → Type 0
  InnersSaid i = law.Naming i.name × Each InnerSaid i.parts

  parts_of_interface : (p : Span × (Name × (List InterfacePart × Span))) → Unit {0} × (law.Naming p.1.0 × (Each InnerSaid p.1.1.0 × Unit {0})) → InnersSaid (made_interface p)
  parts_of_interface (word, (n, (ps, closing))) h = (h.1.0, h.1.1.0)

  interface_said : (i : Interface) → InnersSaid i × ((note : List ℕ) → law.OfInterface (record i { note = note })) → InterfaceSaid i
  interface_said i h note =
      declares law (interface_def (record i { note = note })) h.0.0 (h.1 note) (held_list interface_part_items names_in_interface_part i.parts h.0.1)

  pub interface_yields : Yields law (interface depth) InterfaceSaid
  interface_yields = gives_less InterfaceSaid interface_said (gives_both (gives_map InnersSaid made_interface parts_of_interface
      (gives_seq gives_anything (gives_seq law.naming_given (gives_after k_open_brace (gives_seq inners_yield gives_anything)))))
      law.interfaces_given)
