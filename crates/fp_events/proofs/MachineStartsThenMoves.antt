-- A machine that is started by the first signal and then moved by it.
use Rattle.std.specs.Prelude.{ℕ, false, List, [], ◌∷◌, codes, Some, None, pos, refl}
use Rattle.fp_tables.specs.declared.component.Full.TheVariants as full
use Rattle.fp_tables.specs.declared.component.Way.TheVariants as way
use Rattle.fp_tables.specs.declared.component.Role.TheVariants as role
use Rattle.fp_tables.specs.declared.component.Queueing.TheVariants as queueing
use Rattle.fp_tables.specs.declared.machine.Node.TheVariants as node
use Rattle.fp_tables.specs.declared.program.Spot.TheVariants as spot
use Rattle.fp_tables.specs.declared.program.Verb.TheVariants as verb
use Rattle.fp_events.specs.declared.event.Point.TheVariants as point
use Rattle.fp_events.specs.declared.event.Origin.TheVariants as origin
use Rattle.fp_events.specs.declared.event.What.TheVariants as what
use Rattle.fp_events.specs.declared.event.Finish.TheVariants as finish
use Rattle.fp_tables.specs.Lookup.{Described}
use Rattle.fp_tables.specs.declared.program.Program.{Program}
use Rattle.fp_events.specs.declared.event.Entry.{Entry}
use Rattle.fp_events.specs.Due.{due}
use Rattle.fp_events.specs.Follows.{follows}
use Rattle.fp_events.specs.Tells.{tells}
use Rattle.fp_events.specs.Leaves.{leaves}
use Rattle.fp_events.specs.Answers.{answers}
use Rattle.fp_events.specs.Fits.{fits, what_fits}
use Rattle.fp_events.specs.Step.{instance_part, actor_part}
use Rattle.fp_events.specs.Worked.{Makes}

abbrev tables : Described
tables = record {
  model = record {
    constants = [];
    types = [];
    ports = (record { name = codes "P"; formals = []; result = None }) ∷ [];
    components =
        (record {
          name = codes "C";
          queueing = queueing.Active;
          ports = (record { name = codes "go"; role = role.Input way.Sync; size = 1; of = Some 0; formals = [] }) ∷ [];
          commands = [];
          events = [];
          channels = [];
          params = [];
          matches = [];
          machines = (record { name = codes "m"; machine = 0; way = way.Later (pos 0) full.Assert }) ∷ [];
        }) ∷
        [];
    machines =
        (record {
          name = codes "M";
          external = false;
          signals = (record { name = codes "s"; kind = None }) ∷ [];
          actions =
              (record { name = codes "xa"; kind = None }) ∷
              (record { name = codes "xb"; kind = None }) ∷
              (record { name = codes "ea"; kind = None }) ∷
              (record { name = codes "t"; kind = None }) ∷
              (record { name = codes "ia"; kind = None }) ∷
              [];
          guards = [];
          initial = Some (record { actions = []; target = Some 0 });
          vertices =
              (record {
                name = codes "A";
                parent = None;
                node = node.State (Some (record { actions = 4 ∷ []; target = Some 1 })) (2 ∷ []) (0 ∷ []) (
                    (record { signal = 0; guard = None; step = record { actions = 3 ∷ []; target = Some 0 } }) ∷
                    []);
              }) ∷
              (record { name = codes "B"; parent = Some 0; node = node.State None [] (1 ∷ []) [] }) ∷
              [];
        }) ∷
        [];
    instances = (record { name = codes "c"; component = 0; base = 0; queue = Some 4; stack = None; priority = None; cpu = None }) ∷ [];
    topologies = (record { name = codes "T"; instances = 0 ∷ []; links = []; wires = [] }) ∷ [];
    order = [];
  };
  topology = 0;
}

abbrev program : Program
program = record {
  steps = 10000;
  callers =
      (record {
        name = codes "k";
        acts = (record { verb = verb.Call; subject = record { instance = 0; port = 0; number = 0 }; name = 0; with = []; bind = None }) ∷ [];
      }) ∷
      [];
  handlers =
      (record {
        instance = 0;
        place = spot.Port 0;
        acts =
            (record { verb = verb.Signal; subject = record { instance = 0; port = 0; number = 0 }; name = 0; with = []; bind = None }) ∷
            [];
      }) ∷
      [];
  answers = [];
}

-- the actors, in the order of their steps
abbrev order : List ℕ
order = 0 ∷ 0 ∷ 0 ∷ 1 ∷ 1 ∷ 1 ∷ 1 ∷ []

abbrev entries : List Entry
entries =
    (record {
      stamp = 1;
      actor = 0;
      instance = 0;
      what = what.Enter (record { point = point.Port 0 0; origin = origin.Caller; with = [] });
    }) ∷
    (record {
      stamp = 2;
      actor = 0;
      instance = 0;
      what = what.Put 1 (record { point = point.Signal 0 0; origin = origin.Own; with = [] });
    }) ∷
    (record { stamp = 3; actor = 0; instance = 0; what = what.Leave None }) ∷
    (record { stamp = 4; actor = 1; instance = 0; what = what.Take 1 (point.Signal 0 0) [] }) ∷
    (record { stamp = 5; actor = 1; instance = 0; what = what.Start 0 (2 ∷ 4 ∷ []) 1 }) ∷
    (record { stamp = 6; actor = 1; instance = 0; what = what.Move 0 0 (1 ∷ 0 ∷ 3 ∷ 2 ∷ 4 ∷ []) 1 }) ∷
    (record { stamp = 7; actor = 1; instance = 0; what = what.Done }) ∷
    []

-- after so many entries these actors have no step
abbrev idle : List (ℕ × List ℕ)
idle =
    (0, 1 ∷ []) ∷
    (1, 1 ∷ []) ∷
    (3, 0 ∷ []) ∷
    (4, 0 ∷ []) ∷
    (5, 0 ∷ []) ∷
    (6, 0 ∷ []) ∷
    (7, 0 ∷ 1 ∷ []) ∷
    []

computed : Makes tables program order entries finish.Complete idle
unfolding due follows tells leaves answers fits what_fits instance_part actor_part
computed = record { entries = refl; ending = refl; waiting = refl }
