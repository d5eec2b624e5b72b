use Rattle.std.proofs.Common.{refl, sym, ◌∙◌, ap, Some, [], ◌∷◌, is_some, option_map}
use Rattle.fp_tables.specs.Bound.{scope_of}
use Rattle.fp_scenario.specs.declared.first_key.FirstKey.TheVariants as key
use Rattle.fp_scenario_actions.specs.Named.{running_named, name_of}
use Rattle.std.specs.Prelude.{option_to_list}
use Rattle.fp_base.proofs.Lists.{get_along}
use Rattle.fp_scenario_actions.specs.Acting.{end_at}
use Rattle.fp_scenario_actions.proofs.Halting.{halted, planned, signal_kinds, signal_name, signals_short}
use Rattle.fp_scenario_actions.proofs.acting.signals.Goals as goal

pub name_of-requires : goal.name_of-requires
name_of-requires c = rw c.as_slice-in-Some-machine_in.ensures (signals_short c.args.tables.now c.args.component.now c.in-Some.running c.in-Some-machine_in.machine.now c.requires.all (sym c.in-Some-machine_in.ensures))

pub returns-in-Some-kind-clause-broken : goal.returns-in-Some-kind-clause-broken
returns-in-Some-kind-clause-broken c =
    let d = c.args.component.now in
    let m = c.in-Some-machine_in.machine.now in
    let x = c.name_at.result.now in
    let is = sym (c.in-Some.ensures ∙ ap (λ xs. running_named xs c.as_bytes.result.now) c.as_slice.ensures ∙ ap (running_named d.machines) c.as_bytes.ensures.value) in
    let named = sym (c.in-Some-name_of.ensures ∙ ap (λ xs. name_of xs c.as_bytes-in-Some-machine_in.result.now) c.as_slice-in-Some-machine_in.ensures ∙ ap (name_of m.signals) c.as_bytes-in-Some-machine_in.ensures.value) in
    let found = get_along c.in-Some-name_of.name x c.as_slice-in-Some-name_of.ensures c.name_at.ensures in
    halted c.args.tables.now c.args.instance c.args.component.now c.args.place key.Signal (scope_of c.args.bound.now) c.args.last c.args.text.now c.as_slice-in-Some-kind.result.now (option_to_list x.kind) (c.in-Some-kind.kind ∷ []) c.plan.result
    (c.as_slice-in-Some-kind.ensures ∙ ap (λ m. m.types) c.model.ensures) (ap option_to_list (sym c.in-Some-kind.is))
    (signal_kinds c.args.tables.now c.args.instance c.args.component.now c.args.place c.args.text.now c.in-Some.running c.in-Some-name_of.name m x is (sym c.in-Some-machine_in.ensures) named found) c.plan.ensures.broken

pub returns-in-Some-kind-clause-made : goal.returns-in-Some-kind-clause-made
returns-in-Some-kind-clause-made c =
    let d = c.args.component.now in
    let m = c.in-Some-machine_in.machine.now in
    let x = c.name_at.result.now in
    let is = sym (c.in-Some.ensures ∙ ap (λ xs. running_named xs c.as_bytes.result.now) c.as_slice.ensures ∙ ap (running_named d.machines) c.as_bytes.ensures.value) in
    let named = sym (c.in-Some-name_of.ensures ∙ ap (λ xs. name_of xs c.as_bytes-in-Some-machine_in.result.now) c.as_slice-in-Some-machine_in.ensures ∙ ap (name_of m.signals) c.as_bytes-in-Some-machine_in.ensures.value) in
    let found = get_along c.in-Some-name_of.name x c.as_slice-in-Some-name_of.ensures c.name_at.ensures in
    let whole = signal_name c.args.tables.now c.args.instance c.args.component.now c.args.place c.args.text.now c.in-Some.running c.in-Some-name_of.name m is (sym c.in-Some-machine_in.ensures) named in
    planned c.args.tables.now c.args.instance c.args.component.now c.args.place key.Signal (scope_of c.args.bound.now) c.args.last c.args.text.now c.as_slice-in-Some-kind.result.now (option_to_list x.kind) (c.in-Some-kind.kind ∷ []) _ c.end_at-subject.result c.in-Some-name_of.name _ c.plan.result
    (c.as_slice-in-Some-kind.ensures ∙ ap (λ m. m.types) c.model.ensures) (ap option_to_list (sym c.in-Some-kind.is))
    (signal_kinds c.args.tables.now c.args.instance c.args.component.now c.args.place c.args.text.now c.in-Some.running c.in-Some-name_of.name m x is (sym c.in-Some-machine_in.ensures) named found)
    refl (ap (option_map (λ r. end_at c.args.instance r 0)) is ∙ ap Some (sym c.end_at-subject.ensures)) whole refl (ap is_some whole) refl refl refl refl c.plan.ensures.made
