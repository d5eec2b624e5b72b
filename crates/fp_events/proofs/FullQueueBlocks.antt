-- An arrival at a full queue under block has no step.
use Rattle.std.specs.Prelude.{ℕ, false, List, [], ◌∷◌, codes, Some, None, pos, refl}
use Rattle.fp_base.specs.declared.value.Value as value
use Rattle.fp_tables.specs.declared.kind.Kind.TheVariants as kind
use Rattle.fp_tables.specs.declared.component.Full.TheVariants as full
use Rattle.fp_tables.specs.declared.component.Way.TheVariants as way
use Rattle.fp_tables.specs.declared.component.Role.TheVariants as role
use Rattle.fp_tables.specs.declared.component.Queueing.TheVariants as queueing
use Rattle.fp_tables.specs.declared.program.Arg.TheVariants as arg
use Rattle.fp_tables.specs.declared.program.Verb.TheVariants as verb
use Rattle.fp_events.specs.declared.event.Point.TheVariants as point
use Rattle.fp_events.specs.declared.event.Origin.TheVariants as origin
use Rattle.fp_events.specs.declared.event.What.TheVariants as what
use Rattle.fp_events.specs.declared.event.Finish.TheVariants as finish
use Rattle.fp_tables.specs.Lookup.{Described}
use Rattle.fp_tables.specs.declared.program.Program.{Program}
use Rattle.fp_events.specs.declared.event.Entry.{Entry}
use Rattle.fp_events.specs.Due.{due}
use Rattle.fp_events.specs.Follows.{follows}
use Rattle.fp_events.specs.Tells.{tells}
use Rattle.fp_events.specs.Leaves.{leaves}
use Rattle.fp_events.specs.Answers.{answers}
use Rattle.fp_events.specs.Fits.{fits, what_fits}
use Rattle.fp_events.specs.Step.{instance_part, actor_part}
use Rattle.fp_events.specs.Worked.{Makes}

abbrev tables : Described
tables = record {
  model = record {
    constants = [];
    types = [];
    ports =
        (record {
          name = codes "P";
          formals = (record { name = codes "a"; kind = kind.U8; by_ref = false; note = [] }) ∷ [];
          result = None;
        }) ∷
        [];
    components =
        (record {
          name = codes "Q";
          queueing = queueing.Queued;
          ports =
              (record {
                name = codes "i";
                role = role.Input (way.Later (pos 0) full.Block);
                size = 1;
                of = Some 0;
                formals = (record { name = codes "a"; kind = kind.U8; by_ref = false; note = [] }) ∷ [];
              }) ∷
              [];
          commands = [];
          events = [];
          channels = [];
          params = [];
          matches = [];
          machines = [];
        }) ∷
        [];
    machines = [];
    instances = (record { name = codes "q"; component = 0; base = 0; queue = Some 1; stack = None; priority = None; cpu = None }) ∷ [];
    topologies = (record { name = codes "T"; instances = 0 ∷ []; links = []; wires = [] }) ∷ [];
    order = [];
  };
  topology = 0;
}

abbrev program : Program
program = record {
  steps = 10000;
  callers =
      (record {
        name = codes "k";
        acts =
            (record {
              verb = verb.Call;
              subject = record { instance = 0; port = 0; number = 0 };
              name = 0;
              with = arg.Given (value.Int (pos 1)) ∷ [];
              bind = None;
            }) ∷
            (record {
              verb = verb.Call;
              subject = record { instance = 0; port = 0; number = 0 };
              name = 0;
              with = arg.Given (value.Int (pos 2)) ∷ [];
              bind = None;
            }) ∷
            [];
      }) ∷
      [];
  handlers = [];
  answers = [];
}

-- the actors, in the order of their steps
abbrev order : List ℕ
order = 0 ∷ []

abbrev entries : List Entry
entries =
    (record {
      stamp = 1;
      actor = 0;
      instance = 0;
      what = what.Put 1 (record { point = point.Port 0 0; origin = origin.Caller; with = value.Int (pos 1) ∷ [] });
    }) ∷
    []

-- after so many entries these actors have no step
abbrev idle : List (ℕ × List ℕ)
idle =
    (1, 0 ∷ []) ∷
    []

computed : Makes tables program order entries finish.Stuck idle
unfolding due follows tells leaves answers fits what_fits instance_part actor_part
computed = record { entries = refl; ending = refl; waiting = refl }
