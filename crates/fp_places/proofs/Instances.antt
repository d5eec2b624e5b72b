-- The places of the phases of instances are such where tokens begin.
use Rattle.std.proofs.Common.{ℕ, List, flat_map, Option, Some, None}
use Rattle.std.specs.List.{AllByRecursion as Each}
use Rattle.fp_base.specs.declared.place.Place.{Place}
use Rattle.fp_base.specs.declared.place.Span.{Span}
use Rattle.fp_lexer.specs.Words.{mark}
use Rattle.fp_tree.specs.declared.name.Name.{Name}
use Rattle.fp_tree.specs.declared.name.Qual.{Qual}
use Rattle.fp_tree.specs.declared.name.Str.{Str}
use Rattle.fp_tree.specs.declared.expression.Expr.{Expr}
use Rattle.fp_tree.specs.declared.instance.Instance.{Instance}
use Rattle.fp_tree.specs.declared.instance.Phase.{Phase}
use Rattle.fp_meaning.specs.Sites.{instance as instance_def}
use Rattle.fp_parse_pieces.specs.Kinds.{k_open_brace}
use Rattle.fp_parse_defs.specs.Definitions.{k_colon}
use Rattle.fp_parse_topologies.specs.Instances.{k_base, k_id, made_phase, phase_with_note, phases, phases_part, phases_behind, Settings, settings, made_instance, component_instance}
use Rattle.fp_base.proofs.Lists.{InOption, each_flat}
use Rattle.fp_places.proofs.Preserving.{gives_anything, gives_map, gives_seq, gives_optional, gives_after}
use Rattle.fp_places.proofs.Lists.{gives_any_noted}
use Rattle.fp_places.specs.Places.{places_in_phase, places_of_model}
use Rattle.fp_places.proofs.Tokens.{Yields}
use Rattle.fp_places.proofs.Expressions.{StandIn, expression_yields}

module _ (G : Place → Type 0) (depth : ℕ) where
  abbrev PhaseStands : Phase → Type 0
  PhaseStands p = Each G (places_in_phase p)

  phase_stands : (p : Span × (Expr × Str)) → Unit {0} × (StandIn G p.1.0 × Unit {0}) → PhaseStands (made_phase p)
  phase_stands (word, (e, code)) h = h.1.0

  phases_yield : Yields G (phases depth) (Each PhaseStands)
  phases_yield = gives_any_noted PhaseStands (mark ";") phase_with_note (λ p note h. h)
      (gives_map PhaseStands made_phase phase_stands (gives_seq gives_anything (gives_seq (expression_yields G depth) gives_anything)))

  -- what stands between braces
  abbrev PhasesStand : List Phase × Span → Type 0
  PhasesStand p = Each PhaseStands p.0 × Unit {0}

  phases_part_yields : Yields G (phases_part depth) (InOption PhasesStand)
  phases_part_yields = gives_optional (gives_after k_open_brace (gives_seq phases_yield gives_anything))

  phases_stand : (end : Span) (o : Option (List Phase × Span)) → InOption PhasesStand o → Each G (flat_map places_in_phase (phases_behind end o).0)
  phases_stand end None h = tt
  phases_stand end (Some (ps, closing)) h = each_flat G places_in_phase ps h.0

  -- of what may be absent
  abbrev SettingsStand : Settings → Type 0
  SettingsStand s = Unit {0} × (Unit {0} × (Unit {0} × InOption PhasesStand s.1.1.1))

  settings_yield : Yields G (settings depth) SettingsStand
  settings_yield = gives_seq gives_anything (gives_seq gives_anything (gives_seq gives_anything phases_part_yields))

  -- in any annotation
  abbrev pub InstanceStands : Instance → Type 0
  InstanceStands i = (note : List ℕ) → Each G (places_of_model (instance_def (record i { note = note })))

  instance_stands : (p : Span × (Name × (Qual × (Expr × Settings)))) → Unit {0} × (Unit {0} × (Unit {0} × (Unit {0} × SettingsStand p.1.1.1.1))) → InstanceStands (made_instance p)
  instance_stands (word, (n, (of, (base, ((kind, file), ((queue, stack), ((priority, cpu), found))))))) h note = phases_stand _ found h.1.1.1.1.1.1.1

  pub instance_yields : Yields G (component_instance depth) InstanceStands
  instance_yields = gives_map InstanceStands made_instance instance_stands
      (gives_seq gives_anything (gives_seq gives_anything (gives_after k_colon (gives_seq gives_anything
      (gives_after k_base (gives_after k_id (gives_seq gives_anything settings_yield)))))))
