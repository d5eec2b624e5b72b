-- The flat machines of an instance, by their numbers.
use Rattle.std.proofs.Common.{◌≡◌, ℕ, zero, suc, List, [], ◌∷◌, map, Option, Some, None, option_map, option_and_then, unwrap_or, slice_get, refl, sym, ap, ◌∙◌}
use Rattle.fp_tables.specs.Specials.{no_parts}
use Rattle.fp_tables.specs.Lookup.{Described}
use Rattle.fp_tables.specs.Positions.{component_of}
use Rattle.fp_tables.specs.Sound.{IsSound}
use Rattle.fp_tables.specs.declared.component.Component.{Component}
use Rattle.fp_tables.specs.declared.component.Running.{Running}
use Rattle.fp_tables.specs.declared.machine.Machine.{Machine}
use Rattle.fp_tables.specs.declared.topology.Instance.{Instance}
use Rattle.fp_base.proofs.Options.{then_some}
use Rattle.fp_events.specs.Lookup.{machine}
use Rattle.fp_machine_flat.specs.Flat.{Flat}
use Rattle.fp_cell.specs.Settled.{IsRunnable}
use Rattle.fp_cell.proofs.Machines.{runnable}

found : (ms : List Machine) (fs : List Flat) (rs : List Running) → map (λ (f : Flat). Some f.machine) fs ≡ map (λ (r : Running). slice_get ms r.machine) rs → (k : ℕ)
    → option_and_then (λ (r : Running). slice_get ms r.machine) (slice_get rs k) ≡ option_map (λ (f : Flat). f.machine) (slice_get fs k)
found ms [] [] h k = refl
found ms [] (r ∷ rs) h k = absurd (cc)
found ms (f ∷ fs) [] h k = absurd (cc)
found ms (f ∷ fs) (r ∷ rs) h zero = cc
found ms (f ∷ fs) (r ∷ rs) h (suc k) =
    let rest : map (λ (f : Flat). Some f.machine) fs ≡ map (λ (r : Running). slice_get ms r.machine) rs = cc in
    found ms fs rs rest k

pub found_at : (t : Described) (i : ℕ) (c : Component) (fs : List Flat) → Some c ≡ component_of t.model i
    → map (λ (f : Flat). Some f.machine) fs ≡ map (λ (r : Running). slice_get t.model.machines r.machine) c.machines
    → (running : ℕ) → machine t i running ≡ option_map (λ (f : Flat). f.machine) (slice_get fs running)
found_at t i c fs is h running =
    ap (λ (o : Option Component). option_and_then (λ (r : Running). slice_get t.model.machines r.machine) (slice_get (unwrap_or o no_parts).machines running)) (sym is)
    ∙ found t.model.machines fs c.machines h running

pub none_at : (t : Described) (i : ℕ) → None ≡ component_of t.model i → (running : ℕ) → machine t i running ≡ None
none_at t i is running =
    ap (λ (o : Option Component). option_and_then (λ (r : Running). slice_get t.model.machines r.machine) (slice_get (unwrap_or o no_parts).machines running)) (sym is)

pub runnable_at : (t : Described) (i : ℕ) (c : Component) → IsSound t.model → Some c ≡ component_of t.model i → (k : ℕ) (r : Running) → slice_get c.machines k ≡ Some r → IsRunnable t.model.machines r
runnable_at t i c sound is k r at =
    let x = then_some (λ (x : Instance). slice_get t.model.components x.component) (slice_get t.model.instances i) c (sym is) in
    runnable t.model x.0.component c sound x.2 k r at
