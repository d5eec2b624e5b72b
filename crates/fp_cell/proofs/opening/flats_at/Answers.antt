use Rattle.std.proofs.Common.{List, map, sym, ap, ap₂, subst, slice_get, ◌∙◌}
use Rattle.fp_tables.specs.declared.machine.Machine.{Machine}
use Rattle.fp_tables.specs.declared.component.Running.{Running}
use Rattle.fp_tables.specs.declared.model.Model.{Model}
use Rattle.fp_cell.specs.Settled.{IsRunnable}
use Rattle.fp_cell.proofs.FlatFound.{found_at, runnable_at}
use Rattle.fp_base.proofs.Options.{if_ok_then}
use Rattle.fp_cell.proofs.opening.flats_at.Goals as goal

pub flats_of-requires : goal.flats_of-requires
flats_of-requires c =
    λ k r at.
    subst (λ (ms : List Machine). IsRunnable ms r) (sym (c.as_slice.ensures ∙ ap (λ (m : Model). m.machines) c.model.ensures))
    (runnable_at c.args.tables.now c.args.instance c.in-Some.component.now c.requires.0 c.in-Some.ensures k r (ap (λ (rs : List Running). slice_get rs k) (sym c.as_slice-in-Some.ensures) ∙ at))

pub returns-in-Some : goal.returns-in-Some
returns-in-Some c =
    if_ok_then c.flats_of.result _ _
    (λ flats h.
    found_at c.args.tables.now c.args.instance c.in-Some.component.now flats.items c.in-Some.ensures
    (h
    ∙ ap₂ (λ (ms : List Machine) (rs : List Running). map (λ (r : Running). slice_get ms r.machine) rs) (c.as_slice.ensures ∙ ap (λ (m : Model). m.machines) c.model.ensures) c.as_slice-in-Some.ensures))
    c.flats_of.ensures
