-- A guard is kept over the sync frames that its holder opens.
use Rattle.std.specs.Prelude.{ℕ, List, [], ◌∷◌, codes, Some, None, refl}
use Rattle.fp_tables.specs.declared.component.Way.TheVariants as way
use Rattle.fp_tables.specs.declared.component.Role.TheVariants as role
use Rattle.fp_tables.specs.declared.component.Queueing.TheVariants as queueing
use Rattle.fp_tables.specs.declared.program.Spot.TheVariants as spot
use Rattle.fp_tables.specs.declared.program.Verb.TheVariants as verb
use Rattle.fp_events.specs.declared.event.Point.TheVariants as point
use Rattle.fp_events.specs.declared.event.Origin.TheVariants as origin
use Rattle.fp_events.specs.declared.event.What.TheVariants as what
use Rattle.fp_events.specs.declared.event.Finish.TheVariants as finish
use Rattle.fp_tables.specs.Lookup.{Described}
use Rattle.fp_tables.specs.declared.program.Program.{Program}
use Rattle.fp_events.specs.declared.event.Entry.{Entry}
use Rattle.fp_events.specs.Due.{due}
use Rattle.fp_events.specs.Follows.{follows}
use Rattle.fp_events.specs.Tells.{tells}
use Rattle.fp_events.specs.Leaves.{leaves}
use Rattle.fp_events.specs.Answers.{answers}
use Rattle.fp_events.specs.Fits.{fits, what_fits}
use Rattle.fp_events.specs.Step.{instance_part, actor_part}
use Rattle.fp_events.specs.Worked.{Makes}

abbrev tables : Described
tables = record {
  model = record {
    constants = [];
    types = [];
    ports = (record { name = codes "P"; formals = []; result = None }) ∷ [];
    components =
        (record {
          name = codes "A";
          queueing = queueing.Passive;
          ports =
              (record { name = codes "g"; role = role.Input way.Guarded; size = 1; of = Some 0; formals = [] }) ∷
              (record { name = codes "s"; role = role.Input way.Sync; size = 1; of = Some 0; formals = [] }) ∷
              (record { name = codes "o"; role = role.Output; size = 1; of = Some 0; formals = [] }) ∷
              [];
          commands = [];
          events = [];
          channels = [];
          params = [];
          matches = [];
          machines = [];
        }) ∷
        (record {
          name = codes "B";
          queueing = queueing.Passive;
          ports =
              (record { name = codes "i"; role = role.Input way.Sync; size = 1; of = Some 0; formals = [] }) ∷
              (record { name = codes "o"; role = role.Output; size = 1; of = Some 0; formals = [] }) ∷
              [];
          commands = [];
          events = [];
          channels = [];
          params = [];
          matches = [];
          machines = [];
        }) ∷
        [];
    machines = [];
    instances =
        (record { name = codes "a"; component = 0; base = 0; queue = None; stack = None; priority = None; cpu = None }) ∷
        (record { name = codes "b"; component = 1; base = 1; queue = None; stack = None; priority = None; cpu = None }) ∷
        [];
    topologies =
        (record {
          name = codes "T";
          instances = 0 ∷ 1 ∷ [];
          links = [];
          wires =
              (record { from = record { instance = 0; port = 2; number = 0 }; to = record { instance = 1; port = 0; number = 0 } }) ∷
              (record { from = record { instance = 1; port = 1; number = 0 }; to = record { instance = 0; port = 1; number = 0 } }) ∷
              [];
        }) ∷
        [];
    order = [];
  };
  topology = 0;
}

abbrev program : Program
program = record {
  steps = 10000;
  callers =
      (record {
        name = codes "k0";
        acts =
            (record { verb = verb.Call; subject = record { instance = 0; port = 0; number = 0 }; name = 0; with = []; bind = None }) ∷
            (record { verb = verb.Call; subject = record { instance = 0; port = 1; number = 0 }; name = 0; with = []; bind = None }) ∷
            [];
      }) ∷
      (record {
        name = codes "k1";
        acts = (record { verb = verb.Call; subject = record { instance = 0; port = 0; number = 0 }; name = 0; with = []; bind = None }) ∷ [];
      }) ∷
      [];
  handlers =
      (record {
        instance = 0;
        place = spot.Port 0;
        acts = (record { verb = verb.Call; subject = record { instance = 0; port = 2; number = 0 }; name = 0; with = []; bind = None }) ∷ [];
      }) ∷
      (record {
        instance = 1;
        place = spot.Port 0;
        acts = (record { verb = verb.Call; subject = record { instance = 1; port = 1; number = 0 }; name = 0; with = []; bind = None }) ∷ [];
      }) ∷
      [];
  answers = [];
}

-- the actors, in the order of their steps
abbrev order : List ℕ
order = 0 ∷ 0 ∷ 0 ∷ 0 ∷ 0 ∷ 0 ∷ 0 ∷ 1 ∷ 0 ∷ 1 ∷ 1 ∷ 1 ∷ 1 ∷ 1 ∷ []

abbrev entries : List Entry
entries =
    (record {
      stamp = 1;
      actor = 0;
      instance = 0;
      what = what.Guard (record { point = point.Port 0 0; origin = origin.Caller; with = [] });
    }) ∷
    (record {
      stamp = 2;
      actor = 0;
      instance = 1;
      what = what.Enter (record {
        point = point.Port 0 0;
        origin = origin.Wire (record { instance = 0; port = 2; number = 0 }) None;
        with = [];
      });
    }) ∷
    (record {
      stamp = 3;
      actor = 0;
      instance = 0;
      what = what.Enter (record {
        point = point.Port 1 0;
        origin = origin.Wire (record { instance = 1; port = 1; number = 0 }) None;
        with = [];
      });
    }) ∷
    (record { stamp = 4; actor = 0; instance = 0; what = what.Leave None }) ∷
    (record { stamp = 5; actor = 0; instance = 1; what = what.Leave None }) ∷
    (record { stamp = 6; actor = 0; instance = 0; what = what.Leave None }) ∷
    (record {
      stamp = 7;
      actor = 0;
      instance = 0;
      what = what.Enter (record { point = point.Port 1 0; origin = origin.Caller; with = [] });
    }) ∷
    (record {
      stamp = 8;
      actor = 1;
      instance = 0;
      what = what.Guard (record { point = point.Port 0 0; origin = origin.Caller; with = [] });
    }) ∷
    (record { stamp = 9; actor = 0; instance = 0; what = what.Leave None }) ∷
    (record {
      stamp = 9;
      actor = 1;
      instance = 1;
      what = what.Enter (record {
        point = point.Port 0 0;
        origin = origin.Wire (record { instance = 0; port = 2; number = 0 }) None;
        with = [];
      });
    }) ∷
    (record {
      stamp = 10;
      actor = 1;
      instance = 0;
      what = what.Enter (record {
        point = point.Port 1 0;
        origin = origin.Wire (record { instance = 1; port = 1; number = 0 }) None;
        with = [];
      });
    }) ∷
    (record { stamp = 11; actor = 1; instance = 0; what = what.Leave None }) ∷
    (record { stamp = 12; actor = 1; instance = 1; what = what.Leave None }) ∷
    (record { stamp = 13; actor = 1; instance = 0; what = what.Leave None }) ∷
    []

-- after so many entries these actors have no step
abbrev idle : List (ℕ × List ℕ)
idle =
    (1, 1 ∷ []) ∷
    (2, 1 ∷ []) ∷
    (3, 1 ∷ []) ∷
    (4, 1 ∷ []) ∷
    (5, 1 ∷ []) ∷
    (9, 0 ∷ []) ∷
    (10, 0 ∷ []) ∷
    (11, 0 ∷ []) ∷
    (12, 0 ∷ []) ∷
    (13, 0 ∷ []) ∷
    (14, 0 ∷ 1 ∷ []) ∷
    []

computed : Makes tables program order entries finish.Complete idle
unfolding due follows tells leaves answers fits what_fits instance_part actor_part
computed = record { entries = refl; ending = refl; waiting = refl }
