-- An event that its throttle holds, and a channel that is updated on change.
use Rattle.std.specs.Prelude.{ℕ, true, false, List, [], ◌∷◌, codes, Some, None, pos, refl}
use Rattle.std.specs.Fmt.{digits}
use Rattle.fp_base.specs.declared.value.Value as value
use Rattle.fp_base.specs.declared.format.FormatPiece.TheVariants as piece
use Rattle.fp_tables.specs.declared.kind.Kind.TheVariants as kind
use Rattle.fp_tables.specs.declared.component.Way.TheVariants as way
use Rattle.fp_tables.specs.declared.component.Role.TheVariants as role
use Rattle.fp_tables.specs.declared.component.Special.TheVariants as special
use Rattle.fp_tables.specs.declared.component.Queueing.TheVariants as queueing
use Rattle.fp_tables.specs.declared.program.Arg.TheVariants as arg
use Rattle.fp_tables.specs.declared.program.Spot.TheVariants as spot
use Rattle.fp_tables.specs.declared.program.Verb.TheVariants as verb
use Rattle.fp_events.specs.declared.event.Point.TheVariants as point
use Rattle.fp_events.specs.declared.event.Origin.TheVariants as origin
use Rattle.fp_events.specs.declared.event.Fate.TheVariants as fate
use Rattle.fp_events.specs.declared.event.What.TheVariants as what
use Rattle.fp_events.specs.declared.event.Finish.TheVariants as finish
use Rattle.fp_tables.specs.Lookup.{Described}
use Rattle.fp_tables.specs.declared.program.Program.{Program}
use Rattle.fp_events.specs.declared.event.Entry.{Entry}
use Rattle.fp_events.specs.Due.{due}
use Rattle.fp_events.specs.Follows.{follows}
use Rattle.fp_events.specs.Tells.{tells}
use Rattle.fp_events.specs.Leaves.{leaves}
use Rattle.fp_events.specs.Answers.{answers}
use Rattle.fp_events.specs.Fits.{fits, what_fits}
use Rattle.fp_events.specs.Step.{instance_part, actor_part}
use Rattle.fp_events.specs.Worked.{Makes}

abbrev tables : Described
tables = record {
  model = record {
    constants = [];
    types = [];
    ports =
        (record { name = codes "Fw.Log"; formals = []; result = None }) ∷
        (record { name = codes "Fw.LogText"; formals = []; result = None }) ∷
        (record { name = codes "Fw.Time"; formals = []; result = None }) ∷
        (record { name = codes "Fw.Tlm"; formals = []; result = None }) ∷
        (record { name = codes "G"; formals = []; result = None }) ∷
        [];
    components =
        (record {
          name = codes "C";
          queueing = queueing.Passive;
          ports =
              (record { name = codes "l"; role = role.Special special.Event; size = 1; of = Some 0; formals = [] }) ∷
              (record { name = codes "lt"; role = role.Special special.TextEvent; size = 1; of = Some 1; formals = [] }) ∷
              (record { name = codes "tg"; role = role.Special special.Time; size = 1; of = Some 2; formals = [] }) ∷
              (record { name = codes "tl"; role = role.Special special.Tlm; size = 1; of = Some 3; formals = [] }) ∷
              (record { name = codes "go"; role = role.Input way.Sync; size = 1; of = Some 4; formals = [] }) ∷
              [];
          commands = [];
          events =
              (record {
                name = codes "E";
                id = 0;
                severity = 0;
                formals = (record { name = codes "n"; kind = kind.U8; by_ref = false; note = [] }) ∷ [];
                format = codes "v {x}";
                fields = record { parts = piece.Plain (codes "v ") ∷ piece.Hex ∷ [] };
                throttle = Some 1;
                note = [];
              }) ∷
              [];
          channels = (record { name = codes "t"; id = 0; kind = kind.U8; on_change = true; format = None; limits = []; note = [] }) ∷ [];
          params = [];
          matches = [];
          machines = [];
        }) ∷
        [];
    machines = [];
    instances = (record { name = codes "c"; component = 0; base = 0; queue = None; stack = None; priority = None; cpu = None }) ∷ [];
    topologies = (record { name = codes "T"; instances = 0 ∷ []; links = []; wires = [] }) ∷ [];
    order = [];
  };
  topology = 0;
}

abbrev program : Program
program = record {
  steps = 10000;
  callers =
      (record {
        name = codes "k";
        acts = (record { verb = verb.Call; subject = record { instance = 0; port = 4; number = 0 }; name = 0; with = []; bind = None }) ∷ [];
      }) ∷
      [];
  handlers =
      (record {
        instance = 0;
        place = spot.Port 4;
        acts =
            (record {
              verb = verb.Emit;
              subject = record { instance = 0; port = 0; number = 0 };
              name = 0;
              with = arg.Given (value.Int (pos 10)) ∷ [];
              bind = None;
            }) ∷
            (record {
              verb = verb.Emit;
              subject = record { instance = 0; port = 0; number = 0 };
              name = 0;
              with = arg.Given (value.Int (pos 10)) ∷ [];
              bind = None;
            }) ∷
            (record {
              verb = verb.Write;
              subject = record { instance = 0; port = 0; number = 0 };
              name = 0;
              with = arg.Given (value.Int (pos 1)) ∷ [];
              bind = None;
            }) ∷
            (record {
              verb = verb.Write;
              subject = record { instance = 0; port = 0; number = 0 };
              name = 0;
              with = arg.Given (value.Int (pos 1)) ∷ [];
              bind = None;
            }) ∷
            [];
      }) ∷
      [];
  answers = [];
}

-- the actors, in the order of their steps
abbrev order : List ℕ
order = 0 ∷ 0 ∷ 0 ∷ 0 ∷ 0 ∷ 0 ∷ []

abbrev entries : List Entry
entries =
    (record {
      stamp = 1;
      actor = 0;
      instance = 0;
      what = what.Enter (record { point = point.Port 4 0; origin = origin.Caller; with = [] });
    }) ∷
    (record { stamp = 2; actor = 0; instance = 0; what = what.Emit 0 fate.Unwired (codes "v a") }) ∷
    (record { stamp = 3; actor = 0; instance = 0; what = what.Emit 0 fate.Held (codes "v a") }) ∷
    (record { stamp = 4; actor = 0; instance = 0; what = what.Write 0 fate.Unwired (value.Int (pos 1)) }) ∷
    (record { stamp = 5; actor = 0; instance = 0; what = what.Write 0 fate.Same (value.Int (pos 1)) }) ∷
    (record { stamp = 6; actor = 0; instance = 0; what = what.Leave None }) ∷
    []

-- after so many entries these actors have no step
abbrev idle : List (ℕ × List ℕ)
idle =
    (6, 0 ∷ []) ∷
    []

computed : Makes tables program order entries finish.Complete idle
unfolding due follows tells leaves answers fits what_fits instance_part actor_part digits
computed = record { entries = refl; ending = refl; waiting = refl }
