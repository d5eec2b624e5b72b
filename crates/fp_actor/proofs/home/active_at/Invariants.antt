use Rattle.std.proofs.Common.{◌≡◌, ℕ, Bool, drop}
use Rattle.std.specs.List.{filter, slice_get}
use Rattle.fp_tables.specs.Specials.{component}
use Rattle.fp_events.specs.Lookup.{is_active}
use Rattle.fp_actor.proofs.home.active_at.Given as goal

abbrev pub invariant-loop-instance : goal.invariant-loop-instance
invariant-loop-instance l =
    let active : ℕ → Bool = λ i. is_active (component l.tables i).queueing in
    slice_get (filter active l.instances) l.fn.number ≡ slice_get (filter active (drop l.instance-index l.instances)) l.before
