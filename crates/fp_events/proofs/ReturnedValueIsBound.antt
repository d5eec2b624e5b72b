-- A value that a handler returns is bound where the call has a name for it, and a handler without actions returns the default of its result.
use Rattle.std.specs.Prelude.{ℕ, false, List, [], ◌∷◌, codes, Some, None, pos, refl}
use Rattle.fp_base.specs.declared.value.Value as value
use Rattle.fp_tables.specs.declared.kind.Kind.TheVariants as kind
use Rattle.fp_tables.specs.declared.component.Way.TheVariants as way
use Rattle.fp_tables.specs.declared.component.Role.TheVariants as role
use Rattle.fp_tables.specs.declared.component.Queueing.TheVariants as queueing
use Rattle.fp_tables.specs.declared.program.Arg.TheVariants as arg
use Rattle.fp_tables.specs.declared.program.Spot.TheVariants as spot
use Rattle.fp_tables.specs.declared.program.Verb.TheVariants as verb
use Rattle.fp_events.specs.declared.event.Point.TheVariants as point
use Rattle.fp_events.specs.declared.event.Origin.TheVariants as origin
use Rattle.fp_events.specs.declared.event.Fate.TheVariants as fate
use Rattle.fp_events.specs.declared.event.What.TheVariants as what
use Rattle.fp_events.specs.declared.event.Finish.TheVariants as finish
use Rattle.fp_tables.specs.Lookup.{Described}
use Rattle.fp_tables.specs.declared.program.Program.{Program}
use Rattle.fp_events.specs.declared.event.Entry.{Entry}
use Rattle.fp_events.specs.Due.{due}
use Rattle.fp_events.specs.Follows.{follows}
use Rattle.fp_events.specs.Tells.{tells}
use Rattle.fp_events.specs.Leaves.{leaves}
use Rattle.fp_events.specs.Answers.{answers}
use Rattle.fp_events.specs.Fits.{fits, what_fits}
use Rattle.fp_events.specs.Step.{instance_part, actor_part}
use Rattle.fp_events.specs.Worked.{Makes}

abbrev tables : Described
tables = record {
  model = record {
    constants = [];
    types = [];
    ports =
        (record {
          name = codes "Get";
          formals = (record { name = codes "a"; kind = kind.U8; by_ref = false; note = [] }) ∷ [];
          result = Some kind.U8;
        }) ∷
        (record { name = codes "Go"; formals = []; result = None }) ∷
        [];
    components =
        (record {
          name = codes "C";
          queueing = queueing.Passive;
          ports =
              (record { name = codes "go"; role = role.Input way.Sync; size = 1; of = Some 1; formals = [] }) ∷
              (record {
                name = codes "o";
                role = role.Output;
                size = 2;
                of = Some 0;
                formals = (record { name = codes "a"; kind = kind.U8; by_ref = false; note = [] }) ∷ [];
              }) ∷
              [];
          commands = [];
          events = [];
          channels = (record { name = codes "t"; id = 0; kind = kind.U8; on_change = false; format = None; limits = []; note = [] }) ∷ [];
          params = [];
          matches = [];
          machines = [];
        }) ∷
        (record {
          name = codes "D";
          queueing = queueing.Passive;
          ports =
              (record {
                name = codes "i";
                role = role.Input way.Sync;
                size = 1;
                of = Some 0;
                formals = (record { name = codes "a"; kind = kind.U8; by_ref = false; note = [] }) ∷ [];
              }) ∷
              [];
          commands = [];
          events = [];
          channels = [];
          params = [];
          matches = [];
          machines = [];
        }) ∷
        [];
    machines = [];
    instances =
        (record { name = codes "c"; component = 0; base = 0; queue = None; stack = None; priority = None; cpu = None }) ∷
        (record { name = codes "d"; component = 1; base = 16; queue = None; stack = None; priority = None; cpu = None }) ∷
        (record { name = codes "e"; component = 1; base = 32; queue = None; stack = None; priority = None; cpu = None }) ∷
        [];
    topologies =
        (record {
          name = codes "T";
          instances = 0 ∷ 1 ∷ 2 ∷ [];
          links = [];
          wires =
              (record { from = record { instance = 0; port = 1; number = 0 }; to = record { instance = 1; port = 0; number = 0 } }) ∷
              (record { from = record { instance = 0; port = 1; number = 1 }; to = record { instance = 2; port = 0; number = 0 } }) ∷
              [];
        }) ∷
        [];
    order = [];
  };
  topology = 0;
}

abbrev program : Program
program = record {
  steps = 10000;
  callers =
      (record {
        name = codes "k";
        acts = (record { verb = verb.Call; subject = record { instance = 0; port = 0; number = 0 }; name = 0; with = []; bind = None }) ∷ [];
      }) ∷
      [];
  handlers =
      (record {
        instance = 0;
        place = spot.Port 0;
        acts =
            (record {
              verb = verb.Call;
              subject = record { instance = 0; port = 1; number = 0 };
              name = 0;
              with = arg.Given (value.Int (pos 5)) ∷ [];
              bind = Some (codes "x");
            }) ∷
            (record {
              verb = verb.Write;
              subject = record { instance = 0; port = 0; number = 0 };
              name = 0;
              with = arg.Bound (codes "x") ∷ [];
              bind = None;
            }) ∷
            (record {
              verb = verb.Call;
              subject = record { instance = 0; port = 1; number = 1 };
              name = 0;
              with = arg.Given (value.Int (pos 6)) ∷ [];
              bind = Some (codes "x");
            }) ∷
            (record {
              verb = verb.Write;
              subject = record { instance = 0; port = 0; number = 0 };
              name = 0;
              with = arg.Bound (codes "x") ∷ [];
              bind = None;
            }) ∷
            [];
      }) ∷
      (record {
        instance = 1;
        place = spot.Port 0;
        acts =
            (record {
              verb = verb.Return;
              subject = record { instance = 1; port = 0; number = 0 };
              name = 0;
              with = arg.Given (value.Int (pos 9)) ∷ [];
              bind = None;
            }) ∷
            [];
      }) ∷
      [];
  answers = [];
}

-- the actors, in the order of their steps
abbrev order : List ℕ
order = 0 ∷ 0 ∷ 0 ∷ 0 ∷ 0 ∷ 0 ∷ 0 ∷ 0 ∷ []

abbrev entries : List Entry
entries =
    (record {
      stamp = 1;
      actor = 0;
      instance = 0;
      what = what.Enter (record { point = point.Port 0 0; origin = origin.Caller; with = [] });
    }) ∷
    (record {
      stamp = 2;
      actor = 0;
      instance = 1;
      what = what.Enter (record {
        point = point.Port 0 0;
        origin = origin.Wire (record { instance = 0; port = 1; number = 0 }) None;
        with = value.Int (pos 5) ∷ [];
      });
    }) ∷
    (record { stamp = 3; actor = 0; instance = 1; what = what.Leave (Some (value.Int (pos 9))) }) ∷
    (record { stamp = 4; actor = 0; instance = 0; what = what.Write 0 fate.Unwired (value.Int (pos 9)) }) ∷
    (record {
      stamp = 5;
      actor = 0;
      instance = 2;
      what = what.Enter (record {
        point = point.Port 0 0;
        origin = origin.Wire (record { instance = 0; port = 1; number = 1 }) None;
        with = value.Int (pos 6) ∷ [];
      });
    }) ∷
    (record { stamp = 6; actor = 0; instance = 2; what = what.Leave (Some (value.Int (pos 0))) }) ∷
    (record { stamp = 7; actor = 0; instance = 0; what = what.Write 0 fate.Unwired (value.Int (pos 0)) }) ∷
    (record { stamp = 8; actor = 0; instance = 0; what = what.Leave None }) ∷
    []

-- after so many entries these actors have no step
abbrev idle : List (ℕ × List ℕ)
idle =
    (8, 0 ∷ []) ∷
    []

computed : Makes tables program order entries finish.Complete idle
unfolding due follows tells leaves answers fits what_fits instance_part actor_part
computed = record { entries = refl; ending = refl; waiting = refl }
