-- Two instances that call each other until the steps are spent.
use Rattle.std.specs.Prelude.{ℕ, List, [], ◌∷◌, codes, Some, None, pos, refl}
use Rattle.fp_tables.specs.declared.component.Full.TheVariants as full
use Rattle.fp_tables.specs.declared.component.Way.TheVariants as way
use Rattle.fp_tables.specs.declared.component.Role.TheVariants as role
use Rattle.fp_tables.specs.declared.component.Queueing.TheVariants as queueing
use Rattle.fp_tables.specs.declared.program.Spot.TheVariants as spot
use Rattle.fp_tables.specs.declared.program.Verb.TheVariants as verb
use Rattle.fp_events.specs.declared.event.Point.TheVariants as point
use Rattle.fp_events.specs.declared.event.Origin.TheVariants as origin
use Rattle.fp_events.specs.declared.event.What.TheVariants as what
use Rattle.fp_events.specs.declared.event.Finish.TheVariants as finish
use Rattle.fp_tables.specs.Lookup.{Described}
use Rattle.fp_tables.specs.declared.program.Program.{Program}
use Rattle.fp_events.specs.declared.event.Entry.{Entry}
use Rattle.fp_events.specs.Due.{due}
use Rattle.fp_events.specs.Follows.{follows}
use Rattle.fp_events.specs.Tells.{tells}
use Rattle.fp_events.specs.Leaves.{leaves}
use Rattle.fp_events.specs.Answers.{answers}
use Rattle.fp_events.specs.Fits.{fits, what_fits}
use Rattle.fp_events.specs.Step.{instance_part, actor_part}
use Rattle.fp_events.specs.Worked.{Makes}

abbrev tables : Described
tables = record {
  model = record {
    constants = [];
    types = [];
    ports = (record { name = codes "P"; formals = []; result = None }) ∷ [];
    components =
        (record {
          name = codes "A";
          queueing = queueing.Active;
          ports =
              (record { name = codes "i"; role = role.Input (way.Later (pos 0) full.Assert); size = 1; of = Some 0; formals = [] }) ∷
              (record { name = codes "o"; role = role.Output; size = 1; of = Some 0; formals = [] }) ∷
              [];
          commands = [];
          events = [];
          channels = [];
          params = [];
          matches = [];
          machines = [];
        }) ∷
        [];
    machines = [];
    instances =
        (record { name = codes "a"; component = 0; base = 0; queue = Some 2; stack = None; priority = None; cpu = None }) ∷
        (record { name = codes "b"; component = 0; base = 1; queue = Some 2; stack = None; priority = None; cpu = None }) ∷
        [];
    topologies =
        (record {
          name = codes "T";
          instances = 0 ∷ 1 ∷ [];
          links = [];
          wires =
              (record { from = record { instance = 0; port = 1; number = 0 }; to = record { instance = 1; port = 0; number = 0 } }) ∷
              (record { from = record { instance = 1; port = 1; number = 0 }; to = record { instance = 0; port = 0; number = 0 } }) ∷
              [];
        }) ∷
        [];
    order = [];
  };
  topology = 0;
}

abbrev program : Program
program = record {
  steps = 20;
  callers =
      (record {
        name = codes "k";
        acts = (record { verb = verb.Call; subject = record { instance = 0; port = 0; number = 0 }; name = 0; with = []; bind = None }) ∷ [];
      }) ∷
      [];
  handlers =
      (record {
        instance = 0;
        place = spot.Port 0;
        acts = (record { verb = verb.Call; subject = record { instance = 0; port = 1; number = 0 }; name = 0; with = []; bind = None }) ∷ [];
      }) ∷
      (record {
        instance = 1;
        place = spot.Port 0;
        acts = (record { verb = verb.Call; subject = record { instance = 1; port = 1; number = 0 }; name = 0; with = []; bind = None }) ∷ [];
      }) ∷
      [];
  answers = [];
}

-- the actors, in the order of their steps
abbrev order : List ℕ
order = 0 ∷ 1 ∷ 1 ∷ 1 ∷ 2 ∷ 2 ∷ 1 ∷ 2 ∷ 1 ∷ 1 ∷ 2 ∷ 2 ∷ 1 ∷ 2 ∷ 1 ∷ 1 ∷ 2 ∷ 2 ∷ 1 ∷ 2 ∷ 1 ∷ 1 ∷ 2 ∷ 2 ∷ 1 ∷ 2 ∷ 1 ∷ 1 ∷ 2 ∷ []

abbrev entries : List Entry
entries =
    (record {
      stamp = 1;
      actor = 0;
      instance = 0;
      what = what.Put 1 (record { point = point.Port 0 0; origin = origin.Caller; with = [] });
    }) ∷
    (record { stamp = 2; actor = 1; instance = 0; what = what.Take 1 (point.Port 0 0) [] }) ∷
    (record {
      stamp = 3;
      actor = 1;
      instance = 1;
      what = what.Put 1 (record {
        point = point.Port 0 0;
        origin = origin.Wire (record { instance = 0; port = 1; number = 0 }) None;
        with = [];
      });
    }) ∷
    (record { stamp = 4; actor = 1; instance = 0; what = what.Done }) ∷
    (record { stamp = 4; actor = 2; instance = 1; what = what.Take 1 (point.Port 0 0) [] }) ∷
    (record {
      stamp = 5;
      actor = 2;
      instance = 0;
      what = what.Put 2 (record {
        point = point.Port 0 0;
        origin = origin.Wire (record { instance = 1; port = 1; number = 0 }) None;
        with = [];
      });
    }) ∷
    (record { stamp = 6; actor = 1; instance = 0; what = what.Take 2 (point.Port 0 0) [] }) ∷
    (record { stamp = 6; actor = 2; instance = 1; what = what.Done }) ∷
    (record {
      stamp = 7;
      actor = 1;
      instance = 1;
      what = what.Put 2 (record {
        point = point.Port 0 0;
        origin = origin.Wire (record { instance = 0; port = 1; number = 0 }) None;
        with = [];
      });
    }) ∷
    (record { stamp = 8; actor = 1; instance = 0; what = what.Done }) ∷
    (record { stamp = 8; actor = 2; instance = 1; what = what.Take 2 (point.Port 0 0) [] }) ∷
    (record {
      stamp = 9;
      actor = 2;
      instance = 0;
      what = what.Put 3 (record {
        point = point.Port 0 0;
        origin = origin.Wire (record { instance = 1; port = 1; number = 0 }) None;
        with = [];
      });
    }) ∷
    (record { stamp = 10; actor = 1; instance = 0; what = what.Take 3 (point.Port 0 0) [] }) ∷
    (record { stamp = 10; actor = 2; instance = 1; what = what.Done }) ∷
    (record {
      stamp = 11;
      actor = 1;
      instance = 1;
      what = what.Put 3 (record {
        point = point.Port 0 0;
        origin = origin.Wire (record { instance = 0; port = 1; number = 0 }) None;
        with = [];
      });
    }) ∷
    (record { stamp = 12; actor = 1; instance = 0; what = what.Done }) ∷
    (record { stamp = 12; actor = 2; instance = 1; what = what.Take 3 (point.Port 0 0) [] }) ∷
    (record {
      stamp = 13;
      actor = 2;
      instance = 0;
      what = what.Put 4 (record {
        point = point.Port 0 0;
        origin = origin.Wire (record { instance = 1; port = 1; number = 0 }) None;
        with = [];
      });
    }) ∷
    (record { stamp = 14; actor = 1; instance = 0; what = what.Take 4 (point.Port 0 0) [] }) ∷
    (record { stamp = 14; actor = 2; instance = 1; what = what.Done }) ∷
    (record {
      stamp = 15;
      actor = 1;
      instance = 1;
      what = what.Put 4 (record {
        point = point.Port 0 0;
        origin = origin.Wire (record { instance = 0; port = 1; number = 0 }) None;
        with = [];
      });
    }) ∷
    (record { stamp = 16; actor = 1; instance = 0; what = what.Done }) ∷
    (record { stamp = 16; actor = 2; instance = 1; what = what.Take 4 (point.Port 0 0) [] }) ∷
    (record {
      stamp = 17;
      actor = 2;
      instance = 0;
      what = what.Put 5 (record {
        point = point.Port 0 0;
        origin = origin.Wire (record { instance = 1; port = 1; number = 0 }) None;
        with = [];
      });
    }) ∷
    (record { stamp = 18; actor = 1; instance = 0; what = what.Take 5 (point.Port 0 0) [] }) ∷
    (record { stamp = 18; actor = 2; instance = 1; what = what.Done }) ∷
    (record {
      stamp = 19;
      actor = 1;
      instance = 1;
      what = what.Put 5 (record {
        point = point.Port 0 0;
        origin = origin.Wire (record { instance = 0; port = 1; number = 0 }) None;
        with = [];
      });
    }) ∷
    (record { stamp = 20; actor = 1; instance = 0; what = what.Done }) ∷
    (record { stamp = 20; actor = 2; instance = 1; what = what.Take 5 (point.Port 0 0) [] }) ∷
    []

-- after so many entries these actors have no step
abbrev idle : List (ℕ × List ℕ)
idle =
    (0, 1 ∷ 2 ∷ []) ∷
    (1, 0 ∷ 2 ∷ []) ∷
    (2, 0 ∷ 2 ∷ []) ∷
    (3, 0 ∷ []) ∷
    (4, 0 ∷ 1 ∷ []) ∷
    (5, 0 ∷ 1 ∷ []) ∷
    (6, 0 ∷ []) ∷
    (7, 0 ∷ []) ∷
    (8, 0 ∷ 2 ∷ []) ∷
    (9, 0 ∷ []) ∷
    (10, 0 ∷ 1 ∷ []) ∷
    (11, 0 ∷ 1 ∷ []) ∷
    (12, 0 ∷ []) ∷
    (13, 0 ∷ []) ∷
    (14, 0 ∷ 2 ∷ []) ∷
    (15, 0 ∷ []) ∷
    (16, 0 ∷ 1 ∷ []) ∷
    (17, 0 ∷ 1 ∷ []) ∷
    (18, 0 ∷ []) ∷
    (19, 0 ∷ []) ∷
    (20, 0 ∷ 2 ∷ []) ∷
    (21, 0 ∷ []) ∷
    (22, 0 ∷ 1 ∷ []) ∷
    (23, 0 ∷ 1 ∷ []) ∷
    (24, 0 ∷ []) ∷
    (25, 0 ∷ []) ∷
    (26, 0 ∷ 2 ∷ []) ∷
    (27, 0 ∷ []) ∷
    (28, 0 ∷ 1 ∷ []) ∷
    (29, 0 ∷ 1 ∷ 2 ∷ []) ∷
    []

computed : Makes tables program order entries finish.Spent idle
unfolding due follows tells leaves answers fits what_fits instance_part actor_part
computed = record { entries = refl; ending = refl; waiting = refl }
