-- An event that is resolved from one which breaks no rule: its parameters, its severity and its format.
use Rattle.std.proofs.Common.{◌≡◌, inl, ℕ, true, false, ◌&&◌, List, refl, sym, ap, ap₂, ◌∙◌, flat_map}
use Rattle.std.specs.Prelude.{nat_lt}
use Rattle.std.specs.Str.{bytes_eq}
use Rattle.fp_base.specs.Formats.{are_whole, spelled}
use Rattle.fp_base.specs.Least.{IsUnbroken}
use Rattle.fp_base.specs.Names.{is_name}
use Rattle.fp_base.proofs.Bools.{both, join}
use Rattle.fp_base.proofs.Bytes.{bytes_same}
use Rattle.fp_tables.specs.Components.{agrees_with_formals, names_of, reads_its_format}
use Rattle.fp_tables.specs.Formats.{agree}
use Rattle.fp_tables.specs.Names.{texts_differ}
use Rattle.fp_tables.specs.Positions as positions
use Rattle.fp_tables.specs.Sound as sound
use Rattle.fp_tables.specs.declared.kind.Formal.{Formal}
use Rattle.fp_tables.specs.declared.kind.TypeDef.{TypeDef}
use Rattle.fp_tables.specs.declared.component.Event.{Event}
use Rattle.fp_tree.specs.declared.dictionary.Severity.{Severity}
use Rattle.fp_tree.specs.declared.dictionary.Severity.TheVariants.{ActivityHigh, ActivityLow, Command, Diagnostic, Fatal, WarningHigh, WarningLow}
use Rattle.fp_written_parts.specs.declared.dictionary.WrittenEvent.{WrittenEvent}
use Rattle.fp_dictdefs.specs.Broken.{BrokenEvent}
use Rattle.fp_dictdefs.specs.declared.listed.Listed.{Listed}
use Rattle.fp_components.specs.Resolved.{IsEvent, formals_of, severity_code}
use Rattle.fp_sound_parts.specs.Ready.{FormatAgrees, formals_have_names, formals_lie}
use Rattle.fp_sound_parts.proofs.Formals.{formals_apart, formals_lying, formals_named}

severity_within : (s : Severity) → nat_lt (severity_code s) 7 ≡ true
severity_within ActivityHigh = refl
severity_within ActivityLow = refl
severity_within Command = refl
severity_within Diagnostic = refl
severity_within Fatal = refl
severity_within WarningHigh = refl
severity_within WarningLow = refl

module _ (listed : List Listed) (k : ℕ) (e : WrittenEvent) (d : Event) (is : IsEvent listed k e d) where
  pub event_names : (is_name e.name && formals_have_names e.formals) ≡ true → (is_name d.name && sound.formals_have_names d.formals) ≡ true
  event_names h =
      let t = both (is_name e.name) (formals_have_names e.formals) h in
      ap₂ (λ (name : List ℕ) (fs : List Formal). is_name name && sound.formals_have_names fs) is.name is.formals
      ∙ join (is_name e.name) (sound.formals_have_names (formals_of e.formals)) t.0 (formals_named e.formals t.1)

  pub event_lies : (types : ℕ) → formals_lie types e.formals ≡ true → positions.event_lies types d ≡ true
  event_lies types h =
      ap₂ (λ (fs : List Formal) (n : ℕ). positions.formals_lie types fs && nat_lt n 7) is.formals is.severity
      ∙ join (positions.formals_lie types (formals_of e.formals)) (nat_lt (severity_code e.severity) 7) (formals_lying types e.formals h) (severity_within e.severity)

  pub event_apart : IsUnbroken (BrokenEvent e) → texts_differ (names_of d.formals) ≡ true
  event_apart u = ap (λ (fs : List Formal). texts_differ (names_of fs)) is.formals ∙ formals_apart e.formals (λ f h. u f (inl (inl h)))

  pub event_reads : reads_its_format d ≡ true
  event_reads =
      join (bytes_eq (flat_map spelled d.fields.parts) d.format) (are_whole false d.fields.parts)
      (bytes_same (flat_map spelled d.fields.parts) d.format (sym is.fields.spells ∙ sym is.format)) is.fields.whole

  pub event_agrees : (types : List TypeDef) → FormatAgrees types e → agrees_with_formals types d ≡ true
  event_agrees types h = ap (agree types d.fields.parts) is.formals ∙ h d.fields.parts is.fields
