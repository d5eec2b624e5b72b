-- What is found in the tables of a run, beside what fp_tables looks up, and in its program.
use Rattle.std.specs.Prelude.{ℕ, Bool, true, false, cond, ◌&&◌, ◌==◌, ◌-◌, nat_lt, pos, List, [], map, filter, find, length, Option, None, option_map, option_and_then, unwrap_or, slice_get}
use Rattle.fp_base.specs.declared.value.Value.{Value, Int, Bool as Truth, Text}
use Rattle.fp_tables.specs.Lookup.{Described, placed}
use Rattle.fp_tables.specs.SoundPrograms.{same_spot}
use Rattle.fp_tables.specs.Specials.{component}
use Rattle.fp_tables.specs.declared.topology.Instance.{Instance}
use Rattle.fp_tables.specs.declared.machine.Machine.{Machine}
use Rattle.fp_tables.specs.declared.kind.Kind.{Kind}
use Rattle.fp_tables.specs.declared.kind.Kind.TheVariants as kind
use Rattle.fp_tables.specs.declared.kind.Formal.{Formal}
use Rattle.fp_tables.specs.declared.component.Queueing.{Queueing}
use Rattle.fp_tables.specs.declared.component.Queueing.TheVariants.{Active}
use Rattle.fp_tables.specs.declared.program.Program.{Program}
use Rattle.fp_tables.specs.declared.program.Act.{Act}
use Rattle.fp_tables.specs.declared.program.Spot.{Spot}

abbrev pub queue_size : Described → ℕ → ℕ
queue_size t i = unwrap_or (option_and_then (λ (x : Instance). x.queue) (slice_get t.model.instances i)) 0

-- the machine that an instance's machine instance runs
abbrev pub machine : Described → ℕ → ℕ → Option Machine
machine t i running = option_and_then (λ r. slice_get t.model.machines r.machine) (slice_get (component t i).machines running)

abbrev pub is_active : Queueing → Bool
is_active Active = true
is_active _ = false

abbrev pub actives : Described → List ℕ
actives t = filter (λ i. is_active (component t i).queueing) (placed t)

abbrev pub default_of : Described → Kind → Value
default_of t kind.Bool = Truth false
default_of t (kind.Str size) = Text []
default_of t (kind.Named k) = unwrap_or (option_map (λ d. d.default) (slice_get t.model.types k)) (Int (pos 0))
default_of t _ = Int (pos 0)

-- of a port with a result the default of that
abbrev pub result_of : Described → ℕ → ℕ → Option Value
result_of t i port =
    option_map (default_of t) (option_and_then (λ d. d.result) (option_and_then (slice_get t.model.ports) (option_and_then (λ p. p.of) (slice_get (component t i).ports port))))

abbrev pub names : List Formal → List (List ℕ)
names fs = map (λ f. f.name) fs

-- the actions of the handler at a place, none where there is none
abbrev pub handler : Program → ℕ → Spot → List Act
handler p i place = unwrap_or (option_map (λ h. h.acts) (find (λ h. (h.instance == i) && same_spot h.place place) p.handlers)) []

abbrev pub answers_of : Program → ℕ → ℕ → ℕ → List Bool
answers_of p i running guard =
    unwrap_or (option_map (λ a. a.given) (find (λ a. (a.instance == i) && (a.running == running) && (a.guard == guard)) p.answers)) []

-- how many callers there are, and the instance whose dispatcher an actor is
abbrev pub callers : Program → ℕ
callers p = length p.callers

abbrev pub home : Described → Program → ℕ → Option ℕ
home t p a = cond (nat_lt a (callers p)) None (slice_get (actives t) (a - callers p))
