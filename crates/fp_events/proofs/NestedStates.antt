-- A machine of three levels with a choice between levels and a guard that is asked past its answers.
use Rattle.std.specs.Prelude.{ℕ, true, false, List, [], ◌∷◌, codes, Some, None, pos, refl}
use Rattle.fp_tables.specs.declared.component.Full.TheVariants as full
use Rattle.fp_tables.specs.declared.component.Way.TheVariants as way
use Rattle.fp_tables.specs.declared.component.Role.TheVariants as role
use Rattle.fp_tables.specs.declared.component.Queueing.TheVariants as queueing
use Rattle.fp_tables.specs.declared.machine.Node.TheVariants as node
use Rattle.fp_tables.specs.declared.program.Spot.TheVariants as spot
use Rattle.fp_tables.specs.declared.program.Verb.TheVariants as verb
use Rattle.fp_events.specs.declared.event.Point.TheVariants as point
use Rattle.fp_events.specs.declared.event.Origin.TheVariants as origin
use Rattle.fp_events.specs.declared.event.What.TheVariants as what
use Rattle.fp_events.specs.declared.event.Finish.TheVariants as finish
use Rattle.fp_tables.specs.Lookup.{Described}
use Rattle.fp_tables.specs.declared.program.Program.{Program}
use Rattle.fp_events.specs.declared.event.Entry.{Entry}
use Rattle.fp_events.specs.Due.{due}
use Rattle.fp_events.specs.Follows.{follows}
use Rattle.fp_events.specs.Tells.{tells}
use Rattle.fp_events.specs.Leaves.{leaves}
use Rattle.fp_events.specs.Answers.{answers}
use Rattle.fp_events.specs.Fits.{fits, what_fits}
use Rattle.fp_events.specs.Step.{instance_part, actor_part}
use Rattle.fp_events.specs.Worked.{Makes}

abbrev tables : Described
tables = record {
  model = record {
    constants = [];
    types = [];
    ports = (record { name = codes "P"; formals = []; result = None }) ∷ [];
    components =
        (record {
          name = codes "C";
          queueing = queueing.Active;
          ports =
              (record { name = codes "go"; role = role.Input way.Sync; size = 1; of = Some 0; formals = [] }) ∷
              (record { name = codes "up"; role = role.Input way.Sync; size = 1; of = Some 0; formals = [] }) ∷
              [];
          commands = [];
          events = [];
          channels = [];
          params = [];
          matches = [];
          machines = (record { name = codes "m"; machine = 0; way = way.Later (pos 0) full.Assert }) ∷ [];
        }) ∷
        [];
    machines =
        (record {
          name = codes "M";
          external = false;
          signals = (record { name = codes "s"; kind = None }) ∷ (record { name = codes "u"; kind = None }) ∷ [];
          actions =
              (record { name = codes "ea"; kind = None }) ∷
              (record { name = codes "eb"; kind = None }) ∷
              (record { name = codes "ec"; kind = None }) ∷
              (record { name = codes "xa"; kind = None }) ∷
              (record { name = codes "xb"; kind = None }) ∷
              (record { name = codes "xc"; kind = None }) ∷
              (record { name = codes "ed"; kind = None }) ∷
              (record { name = codes "ee"; kind = None }) ∷
              (record { name = codes "t"; kind = None }) ∷
              (record { name = codes "i"; kind = None }) ∷
              [];
          guards = (record { name = codes "g"; kind = None }) ∷ [];
          initial = Some (record { actions = 9 ∷ []; target = Some 2 });
          vertices =
              (record {
                name = codes "A";
                parent = None;
                node = node.State (Some (record { actions = []; target = Some 1 })) (0 ∷ []) (3 ∷ []) (
                    (record { signal = 1; guard = None; step = record { actions = 8 ∷ []; target = Some 3 } }) ∷
                    []);
              }) ∷
              (record {
                name = codes "B";
                parent = Some 0;
                node = node.State (Some (record { actions = []; target = Some 2 })) (1 ∷ []) (4 ∷ []) [];
              }) ∷
              (record {
                name = codes "C";
                parent = Some 1;
                node = node.State None (2 ∷ []) (5 ∷ []) (
                    (record { signal = 0; guard = None; step = record { actions = []; target = Some 5 } }) ∷
                    []);
              }) ∷
              (record {
                name = codes "D";
                parent = None;
                node = node.State (Some (record { actions = []; target = Some 4 })) (6 ∷ []) [] [];
              }) ∷
              (record {
                name = codes "E";
                parent = Some 3;
                node = node.State None (7 ∷ []) [] (
                    (record { signal = 0; guard = None; step = record { actions = 8 ∷ []; target = Some 2 } }) ∷
                    []);
              }) ∷
              (record {
                name = codes "Z";
                parent = None;
                node = node.Choice 0 (record { actions = 8 ∷ []; target = Some 4 }) (record { actions = []; target = Some 0 });
              }) ∷
              [];
        }) ∷
        [];
    instances = (record { name = codes "c"; component = 0; base = 0; queue = Some 9; stack = None; priority = None; cpu = None }) ∷ [];
    topologies = (record { name = codes "T"; instances = 0 ∷ []; links = []; wires = [] }) ∷ [];
    order = [];
  };
  topology = 0;
}

abbrev program : Program
program = record {
  steps = 10000;
  callers =
      (record {
        name = codes "k";
        acts =
            (record { verb = verb.Call; subject = record { instance = 0; port = 0; number = 0 }; name = 0; with = []; bind = None }) ∷
            (record { verb = verb.Call; subject = record { instance = 0; port = 0; number = 0 }; name = 0; with = []; bind = None }) ∷
            (record { verb = verb.Call; subject = record { instance = 0; port = 0; number = 0 }; name = 0; with = []; bind = None }) ∷
            (record { verb = verb.Call; subject = record { instance = 0; port = 0; number = 0 }; name = 0; with = []; bind = None }) ∷
            (record { verb = verb.Call; subject = record { instance = 0; port = 1; number = 0 }; name = 0; with = []; bind = None }) ∷
            [];
      }) ∷
      [];
  handlers =
      (record {
        instance = 0;
        place = spot.Port 0;
        acts =
            (record { verb = verb.Signal; subject = record { instance = 0; port = 0; number = 0 }; name = 0; with = []; bind = None }) ∷
            [];
      }) ∷
      (record {
        instance = 0;
        place = spot.Port 1;
        acts =
            (record { verb = verb.Signal; subject = record { instance = 0; port = 0; number = 0 }; name = 1; with = []; bind = None }) ∷
            [];
      }) ∷
      [];
  answers = (record { instance = 0; running = 0; guard = 0; given = true ∷ false ∷ [] }) ∷ [];
}

-- the actors, in the order of their steps
abbrev order : List ℕ
order = 0 ∷ 0 ∷ 0 ∷ 0 ∷ 0 ∷ 0 ∷ 0 ∷ 0 ∷ 0 ∷ 0 ∷ 0 ∷ 0 ∷ 0 ∷ 0 ∷ 0 ∷ 1 ∷ 1 ∷ 1 ∷ 1 ∷ 1 ∷ 1 ∷ 1 ∷ 1 ∷ 1 ∷ 1 ∷ 1 ∷ 1 ∷ 1 ∷ 1 ∷ 1 ∷ 1 ∷
    []

abbrev entries : List Entry
entries =
    (record {
      stamp = 1;
      actor = 0;
      instance = 0;
      what = what.Enter (record { point = point.Port 0 0; origin = origin.Caller; with = [] });
    }) ∷
    (record {
      stamp = 2;
      actor = 0;
      instance = 0;
      what = what.Put 1 (record { point = point.Signal 0 0; origin = origin.Own; with = [] });
    }) ∷
    (record { stamp = 3; actor = 0; instance = 0; what = what.Leave None }) ∷
    (record {
      stamp = 4;
      actor = 0;
      instance = 0;
      what = what.Enter (record { point = point.Port 0 0; origin = origin.Caller; with = [] });
    }) ∷
    (record {
      stamp = 5;
      actor = 0;
      instance = 0;
      what = what.Put 2 (record { point = point.Signal 0 0; origin = origin.Own; with = [] });
    }) ∷
    (record { stamp = 6; actor = 0; instance = 0; what = what.Leave None }) ∷
    (record {
      stamp = 7;
      actor = 0;
      instance = 0;
      what = what.Enter (record { point = point.Port 0 0; origin = origin.Caller; with = [] });
    }) ∷
    (record {
      stamp = 8;
      actor = 0;
      instance = 0;
      what = what.Put 3 (record { point = point.Signal 0 0; origin = origin.Own; with = [] });
    }) ∷
    (record { stamp = 9; actor = 0; instance = 0; what = what.Leave None }) ∷
    (record {
      stamp = 10;
      actor = 0;
      instance = 0;
      what = what.Enter (record { point = point.Port 0 0; origin = origin.Caller; with = [] });
    }) ∷
    (record {
      stamp = 11;
      actor = 0;
      instance = 0;
      what = what.Put 4 (record { point = point.Signal 0 0; origin = origin.Own; with = [] });
    }) ∷
    (record { stamp = 12; actor = 0; instance = 0; what = what.Leave None }) ∷
    (record {
      stamp = 13;
      actor = 0;
      instance = 0;
      what = what.Enter (record { point = point.Port 1 0; origin = origin.Caller; with = [] });
    }) ∷
    (record {
      stamp = 14;
      actor = 0;
      instance = 0;
      what = what.Put 5 (record { point = point.Signal 0 1; origin = origin.Own; with = [] });
    }) ∷
    (record { stamp = 15; actor = 0; instance = 0; what = what.Leave None }) ∷
    (record { stamp = 16; actor = 1; instance = 0; what = what.Take 1 (point.Signal 0 0) [] }) ∷
    (record { stamp = 17; actor = 1; instance = 0; what = what.Start 0 (9 ∷ 0 ∷ 1 ∷ 2 ∷ []) 2 }) ∷
    (record { stamp = 18; actor = 1; instance = 0; what = what.Move 0 0 (5 ∷ 4 ∷ 3 ∷ 8 ∷ 6 ∷ 7 ∷ []) 4 }) ∷
    (record { stamp = 19; actor = 1; instance = 0; what = what.Done }) ∷
    (record { stamp = 20; actor = 1; instance = 0; what = what.Take 2 (point.Signal 0 0) [] }) ∷
    (record { stamp = 21; actor = 1; instance = 0; what = what.Move 0 0 (8 ∷ 0 ∷ 1 ∷ 2 ∷ []) 2 }) ∷
    (record { stamp = 22; actor = 1; instance = 0; what = what.Done }) ∷
    (record { stamp = 23; actor = 1; instance = 0; what = what.Take 3 (point.Signal 0 0) [] }) ∷
    (record { stamp = 24; actor = 1; instance = 0; what = what.Move 0 0 (5 ∷ 4 ∷ 3 ∷ 0 ∷ 1 ∷ 2 ∷ []) 2 }) ∷
    (record { stamp = 25; actor = 1; instance = 0; what = what.Done }) ∷
    (record { stamp = 26; actor = 1; instance = 0; what = what.Take 4 (point.Signal 0 0) [] }) ∷
    (record { stamp = 27; actor = 1; instance = 0; what = what.Move 0 0 (5 ∷ 4 ∷ 3 ∷ 0 ∷ 1 ∷ 2 ∷ []) 2 }) ∷
    (record { stamp = 28; actor = 1; instance = 0; what = what.Done }) ∷
    (record { stamp = 29; actor = 1; instance = 0; what = what.Take 5 (point.Signal 0 1) [] }) ∷
    (record { stamp = 30; actor = 1; instance = 0; what = what.Move 0 1 (5 ∷ 4 ∷ 3 ∷ 8 ∷ 6 ∷ 7 ∷ []) 4 }) ∷
    (record { stamp = 31; actor = 1; instance = 0; what = what.Done }) ∷
    []

-- after so many entries these actors have no step
abbrev idle : List (ℕ × List ℕ)
idle =
    (0, 1 ∷ []) ∷
    (1, 1 ∷ []) ∷
    (15, 0 ∷ []) ∷
    (16, 0 ∷ []) ∷
    (17, 0 ∷ []) ∷
    (18, 0 ∷ []) ∷
    (19, 0 ∷ []) ∷
    (20, 0 ∷ []) ∷
    (21, 0 ∷ []) ∷
    (22, 0 ∷ []) ∷
    (23, 0 ∷ []) ∷
    (24, 0 ∷ []) ∷
    (25, 0 ∷ []) ∷
    (26, 0 ∷ []) ∷
    (27, 0 ∷ []) ∷
    (28, 0 ∷ []) ∷
    (29, 0 ∷ []) ∷
    (30, 0 ∷ []) ∷
    (31, 0 ∷ 1 ∷ []) ∷
    []

computed : Makes tables program order entries finish.Complete idle
unfolding due follows tells leaves answers fits what_fits instance_part actor_part
computed = record { entries = refl; ending = refl; waiting = refl }
