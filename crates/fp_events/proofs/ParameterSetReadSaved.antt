-- A parameter that is set, read and saved.
use Rattle.std.specs.Prelude.{ℕ, true, false, List, [], ◌∷◌, codes, Some, None, pos, refl}
use Rattle.fp_base.specs.declared.value.Value as value
use Rattle.fp_tables.specs.declared.kind.Kind.TheVariants as kind
use Rattle.fp_tables.specs.declared.component.Way.TheVariants as way
use Rattle.fp_tables.specs.declared.component.Role.TheVariants as role
use Rattle.fp_tables.specs.declared.component.Special.TheVariants as special
use Rattle.fp_tables.specs.declared.component.CommandPart.TheVariants as part
use Rattle.fp_tables.specs.declared.component.Queueing.TheVariants as queueing
use Rattle.fp_tables.specs.declared.program.Arg.TheVariants as arg
use Rattle.fp_tables.specs.declared.program.Spot.TheVariants as spot
use Rattle.fp_tables.specs.declared.program.Verb.TheVariants as verb
use Rattle.fp_events.specs.declared.event.Point.TheVariants as point
use Rattle.fp_events.specs.declared.event.Origin.TheVariants as origin
use Rattle.fp_events.specs.declared.event.What.TheVariants as what
use Rattle.fp_events.specs.declared.event.Finish.TheVariants as finish
use Rattle.fp_tables.specs.Lookup.{Described}
use Rattle.fp_tables.specs.declared.program.Program.{Program}
use Rattle.fp_events.specs.declared.event.Entry.{Entry}
use Rattle.fp_events.specs.Due.{due}
use Rattle.fp_events.specs.Follows.{follows}
use Rattle.fp_events.specs.Tells.{tells}
use Rattle.fp_events.specs.Leaves.{leaves}
use Rattle.fp_events.specs.Answers.{answers}
use Rattle.fp_events.specs.Fits.{fits, what_fits}
use Rattle.fp_events.specs.Step.{instance_part, actor_part}
use Rattle.fp_events.specs.Worked.{Makes}

abbrev tables : Described
tables = record {
  model = record {
    constants = [];
    types = [];
    ports =
        (record { name = codes "Fw.Cmd"; formals = []; result = None }) ∷
        (record { name = codes "Fw.CmdReg"; formals = []; result = None }) ∷
        (record { name = codes "Fw.CmdResponse"; formals = []; result = None }) ∷
        (record { name = codes "Fw.PrmGet"; formals = []; result = None }) ∷
        (record { name = codes "Fw.PrmSet"; formals = []; result = None }) ∷
        (record { name = codes "G"; formals = []; result = None }) ∷
        [];
    components =
        (record {
          name = codes "C";
          queueing = queueing.Passive;
          ports =
              (record { name = codes "r"; role = role.Special special.CmdRecv; size = 1; of = Some 0; formals = [] }) ∷
              (record { name = codes "g"; role = role.Special special.CmdReg; size = 1; of = Some 1; formals = [] }) ∷
              (record { name = codes "s"; role = role.Special special.CmdResp; size = 1; of = Some 2; formals = [] }) ∷
              (record { name = codes "pg"; role = role.Special special.PrmGet; size = 1; of = Some 3; formals = [] }) ∷
              (record { name = codes "ps"; role = role.Special special.PrmSet; size = 1; of = Some 4; formals = [] }) ∷
              (record { name = codes "go"; role = role.Input way.Sync; size = 1; of = Some 5; formals = [] }) ∷
              [];
          commands =
              (record {
                name = codes "P_PRM_SET";
                part = part.SetParam 0;
                way = way.Sync;
                opcode = 0;
                formals = (record { name = codes "val"; kind = kind.U8; by_ref = false; note = [] }) ∷ [];
                note = [];
              }) ∷
              (record { name = codes "P_PRM_SAVE"; part = part.SaveParam 0; way = way.Sync; opcode = 1; formals = []; note = [] }) ∷
              [];
          events = [];
          channels = [];
          params = (record { name = codes "P"; id = 0; kind = kind.U8; default = value.Int (pos 3); written = true; note = [] }) ∷ [];
          matches = [];
          machines = [];
        }) ∷
        [];
    machines = [];
    instances = (record { name = codes "c"; component = 0; base = 0; queue = None; stack = None; priority = None; cpu = None }) ∷ [];
    topologies = (record { name = codes "T"; instances = 0 ∷ []; links = []; wires = [] }) ∷ [];
    order = [];
  };
  topology = 0;
}

abbrev program : Program
program = record {
  steps = 10000;
  callers =
      (record {
        name = codes "k";
        acts =
            (record {
              verb = verb.Command;
              subject = record { instance = 0; port = 0; number = 0 };
              name = 0;
              with = arg.Given (value.Int (pos 9)) ∷ [];
              bind = None;
            }) ∷
            (record { verb = verb.Call; subject = record { instance = 0; port = 5; number = 0 }; name = 0; with = []; bind = None }) ∷
            (record { verb = verb.Command; subject = record { instance = 0; port = 0; number = 0 }; name = 1; with = []; bind = None }) ∷
            [];
      }) ∷
      [];
  handlers =
      (record {
        instance = 0;
        place = spot.Port 5;
        acts =
            (record {
              verb = verb.Read;
              subject = record { instance = 0; port = 0; number = 0 };
              name = 0;
              with = [];
              bind = Some (codes "x");
            }) ∷
            [];
      }) ∷
      [];
  answers = [];
}

-- the actors, in the order of their steps
abbrev order : List ℕ
order = 0 ∷ 0 ∷ 0 ∷ 0 ∷ 0 ∷ 0 ∷ 0 ∷ []

abbrev entries : List Entry
entries =
    (record {
      stamp = 1;
      actor = 0;
      instance = 0;
      what = what.Set (record { point = point.Command 0; origin = origin.Caller; with = value.Int (pos 9) ∷ [] });
    }) ∷
    (record { stamp = 2; actor = 0; instance = 0; what = what.Leave None }) ∷
    (record {
      stamp = 3;
      actor = 0;
      instance = 0;
      what = what.Enter (record { point = point.Port 5 0; origin = origin.Caller; with = [] });
    }) ∷
    (record { stamp = 4; actor = 0; instance = 0; what = what.Read 0 (value.Int (pos 9)) }) ∷
    (record { stamp = 5; actor = 0; instance = 0; what = what.Leave None }) ∷
    (record {
      stamp = 6;
      actor = 0;
      instance = 0;
      what = what.Save (record { point = point.Command 1; origin = origin.Caller; with = [] }) (value.Int (pos 9));
    }) ∷
    (record { stamp = 7; actor = 0; instance = 0; what = what.Leave None }) ∷
    []

-- after so many entries these actors have no step
abbrev idle : List (ℕ × List ℕ)
idle =
    (7, 0 ∷ []) ∷
    []

computed : Makes tables program order entries finish.Complete idle
unfolding due follows tells leaves answers fits what_fits instance_part actor_part
computed = record { entries = refl; ending = refl; waiting = refl }
