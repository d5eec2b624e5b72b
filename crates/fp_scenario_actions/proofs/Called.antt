-- Actions of callers from what they name and their arguments.
use Rattle.std.proofs.Common.{◌≡◌, List, Some, refl, ap, ◌∙◌, subst}
use Rattle.std.proofs.lemmas.Bool.{and_right}
use Rattle.std.specs.Prelude.{Result, Ok, Err, IfErr, option_map, option_and_then}
use Rattle.fp_base.specs.declared.rule.Rule.{Rule}
use Rattle.fp_base.specs.declared.rule.Rule.TheVariants.{UnknownName, BadArgument}
use Rattle.fp_tables.specs.Lookup.{Described}
use Rattle.fp_tables.specs.Positions.{port_of}
use Rattle.fp_tables.specs.Arguments.{Scope, kinds_of}
use Rattle.fp_tables.specs.declared.kind.Kind.{Kind}
use Rattle.fp_tables.specs.declared.kind.TypeDef.{TypeDef}
use Rattle.fp_tables.specs.declared.component.Port.{Port}
use Rattle.fp_tables.specs.declared.topology.End.{End}
use Rattle.fp_tables.specs.declared.program.Act.{Act}
use Rattle.fp_scenario.specs.declared.scenario.ActText.{ActText}
use Rattle.fp_scenario.specs.declared.first_key.FirstKey.TheVariants as key
use Rattle.fp_scenario_actions.specs.Halts.{IsHalt}
use Rattle.fp_scenario_actions.specs.declared.halt.Halt.{Halt}
use Rattle.fp_scenario_actions.specs.declared.halt.Halt.TheVariants as halt
use Rattle.fp_scenario_actions.specs.Acting.{names_are_bound, ArgumentsBreak}
use Rattle.fp_scenario_actions.specs.Calling.{input_named, kinds_in, is_known, Breaks}

module _ (t : Described) (scope : Scope) (a : ActText) where
  lifted : (kinds : List Kind) (rule : Rule) → kinds_in t key.Call a ≡ Some kinds → ArgumentsBreak t.model.types scope kinds a rule → Breaks t rule key.Call scope a
  lifted kinds UnknownName is h = (refl, and_right (is_known t key.Call a) (names_are_bound scope a) h)
  lifted kinds BadArgument is h = (kinds, is, h)
  lifted kinds _ is h = absurd h

  pub called_halted : (types : List TypeDef) (kinds ks : List Kind) (r : Result Act Halt) → types ≡ t.model.types → ks ≡ kinds → kinds_in t key.Call a ≡ Some kinds
      → IfErr r (IsHalt (ArgumentsBreak types scope ks a)) → IfErr r (IsHalt (λ rule. Breaks t rule key.Call scope a))
  called_halted types kinds ks (Ok act) e d is h = h
  called_halted types kinds ks (Err halt.NoMemory) e d is h = tt
  called_halted types kinds ks (Err (halt.Broken rule)) e d is h = lifted kinds rule is (subst (λ xs. ArgumentsBreak t.model.types scope xs a rule) d (subst (λ ts. ArgumentsBreak ts scope ks a rule) e h))

  pub called_kinds : (e : End) (x : Port) → input_named t a.first ≡ Some e → port_of t.model e.instance e.port ≡ Some x → kinds_in t key.Call a ≡ Some (kinds_of x.formals)
  called_kinds e x is found = ap (λ o. option_map (λ (y : Port). kinds_of y.formals) (option_and_then (λ (f : End). port_of t.model f.instance f.port) o)) is ∙ ap (option_map (λ (y : Port). kinds_of y.formals)) found
