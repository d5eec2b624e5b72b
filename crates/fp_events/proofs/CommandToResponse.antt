-- A command that a dispatcher sends, with its event, its telemetry and its response.
use Rattle.std.specs.Prelude.{ℕ, true, false, List, [], ◌∷◌, codes, Some, None, pos, refl}
use Rattle.std.specs.Fmt.{digits}
use Rattle.fp_base.specs.declared.value.Value as value
use Rattle.fp_base.specs.declared.format.FormatPiece.TheVariants as piece
use Rattle.fp_tables.specs.declared.kind.Kind.TheVariants as kind
use Rattle.fp_tables.specs.declared.kind.Form.TheVariants as form
use Rattle.fp_tables.specs.declared.component.Full.TheVariants as full
use Rattle.fp_tables.specs.declared.component.Way.TheVariants as way
use Rattle.fp_tables.specs.declared.component.Role.TheVariants as role
use Rattle.fp_tables.specs.declared.component.Special.TheVariants as special
use Rattle.fp_tables.specs.declared.component.CommandPart.TheVariants as part
use Rattle.fp_tables.specs.declared.component.Queueing.TheVariants as queueing
use Rattle.fp_tables.specs.declared.program.Arg.TheVariants as arg
use Rattle.fp_tables.specs.declared.program.Spot.TheVariants as spot
use Rattle.fp_tables.specs.declared.program.Verb.TheVariants as verb
use Rattle.fp_events.specs.declared.event.Point.TheVariants as point
use Rattle.fp_events.specs.declared.event.Origin.TheVariants as origin
use Rattle.fp_events.specs.declared.event.Fate.TheVariants as fate
use Rattle.fp_events.specs.declared.event.What.TheVariants as what
use Rattle.fp_events.specs.declared.event.Finish.TheVariants as finish
use Rattle.fp_tables.specs.Lookup.{Described}
use Rattle.fp_tables.specs.declared.program.Program.{Program}
use Rattle.fp_events.specs.declared.event.Entry.{Entry}
use Rattle.fp_events.specs.Due.{due}
use Rattle.fp_events.specs.Follows.{follows}
use Rattle.fp_events.specs.Tells.{tells}
use Rattle.fp_events.specs.Leaves.{leaves}
use Rattle.fp_events.specs.Answers.{answers}
use Rattle.fp_events.specs.Fits.{fits, what_fits}
use Rattle.fp_events.specs.Step.{instance_part, actor_part}
use Rattle.fp_events.specs.Worked.{Makes}

abbrev tables : Described
tables = record {
  model = record {
    constants = [];
    types =
        (record { name = codes "Fw.CmdArgs"; form = form.Abstract; default = value.Opaque; note = [] }) ∷
        (record {
          name = codes "Fw.Response";
          form = form.Enum kind.I32 (
              (record { name = codes "OK"; value = value.Enumerated (codes "Fw.Response") (codes "OK") (pos 0); note = [] }) ∷
              (record { name = codes "FAIL"; value = value.Enumerated (codes "Fw.Response") (codes "FAIL") (pos 1); note = [] }) ∷
              []);
          default = value.Enumerated (codes "Fw.Response") (codes "OK") (pos 0);
          note = [];
        }) ∷
        [];
    ports =
        (record {
          name = codes "Fw.Cmd";
          formals =
              (record { name = codes "opCode"; kind = kind.U32; by_ref = false; note = [] }) ∷
              (record { name = codes "args"; kind = kind.Named 0; by_ref = true; note = [] }) ∷
              [];
          result = None;
        }) ∷
        (record {
          name = codes "Fw.CmdReg";
          formals = (record { name = codes "opCode"; kind = kind.U32; by_ref = false; note = [] }) ∷ [];
          result = None;
        }) ∷
        (record {
          name = codes "Fw.CmdResponse";
          formals =
              (record { name = codes "opCode"; kind = kind.U32; by_ref = false; note = [] }) ∷
              (record { name = codes "response"; kind = kind.Named 1; by_ref = false; note = [] }) ∷
              [];
          result = None;
        }) ∷
        (record {
          name = codes "Fw.Log";
          formals = (record { name = codes "n"; kind = kind.U32; by_ref = false; note = [] }) ∷ [];
          result = None;
        }) ∷
        (record {
          name = codes "Fw.LogText";
          formals = (record { name = codes "n"; kind = kind.U32; by_ref = false; note = [] }) ∷ [];
          result = None;
        }) ∷
        (record { name = codes "Fw.Time"; formals = []; result = None }) ∷
        (record {
          name = codes "Fw.Tlm";
          formals = (record { name = codes "n"; kind = kind.U32; by_ref = false; note = [] }) ∷ [];
          result = None;
        }) ∷
        (record { name = codes "D.G"; formals = []; result = None }) ∷
        [];
    components =
        (record {
          name = codes "D.Dispatcher";
          queueing = queueing.Active;
          ports =
              (record {
                name = codes "regIn";
                role = role.Input way.Sync;
                size = 2;
                of = Some 1;
                formals = (record { name = codes "opCode"; kind = kind.U32; by_ref = false; note = [] }) ∷ [];
              }) ∷
              (record {
                name = codes "cmdOut";
                role = role.Output;
                size = 2;
                of = Some 0;
                formals =
                    (record { name = codes "opCode"; kind = kind.U32; by_ref = false; note = [] }) ∷
                    (record { name = codes "args"; kind = kind.Named 0; by_ref = true; note = [] }) ∷
                    [];
              }) ∷
              (record {
                name = codes "status";
                role = role.Input (way.Later (pos 0) full.Assert);
                size = 2;
                of = Some 2;
                formals =
                    (record { name = codes "opCode"; kind = kind.U32; by_ref = false; note = [] }) ∷
                    (record { name = codes "response"; kind = kind.Named 1; by_ref = false; note = [] }) ∷
                    [];
              }) ∷
              (record { name = codes "go"; role = role.Input (way.Later (pos 0) full.Assert); size = 1; of = Some 7; formals = [] }) ∷
              [];
          commands = [];
          events = [];
          channels = [];
          params = [];
          matches = [];
          machines = [];
        }) ∷
        (record {
          name = codes "D.Sinks";
          queueing = queueing.Passive;
          ports =
              (record {
                name = codes "logIn";
                role = role.Input way.Sync;
                size = 1;
                of = Some 3;
                formals = (record { name = codes "n"; kind = kind.U32; by_ref = false; note = [] }) ∷ [];
              }) ∷
              (record {
                name = codes "textIn";
                role = role.Input way.Sync;
                size = 1;
                of = Some 4;
                formals = (record { name = codes "n"; kind = kind.U32; by_ref = false; note = [] }) ∷ [];
              }) ∷
              (record {
                name = codes "tlmIn";
                role = role.Input way.Sync;
                size = 1;
                of = Some 6;
                formals = (record { name = codes "n"; kind = kind.U32; by_ref = false; note = [] }) ∷ [];
              }) ∷
              (record { name = codes "timeIn"; role = role.Input way.Sync; size = 1; of = Some 5; formals = [] }) ∷
              [];
          commands = [];
          events = [];
          channels = [];
          params = [];
          matches = [];
          machines = [];
        }) ∷
        (record {
          name = codes "D.Worker";
          queueing = queueing.Active;
          ports =
              (record {
                name = codes "cmdIn";
                role = role.Special special.CmdRecv;
                size = 1;
                of = Some 0;
                formals =
                    (record { name = codes "opCode"; kind = kind.U32; by_ref = false; note = [] }) ∷
                    (record { name = codes "args"; kind = kind.Named 0; by_ref = true; note = [] }) ∷
                    [];
              }) ∷
              (record {
                name = codes "cmdReg";
                role = role.Special special.CmdReg;
                size = 1;
                of = Some 1;
                formals = (record { name = codes "opCode"; kind = kind.U32; by_ref = false; note = [] }) ∷ [];
              }) ∷
              (record {
                name = codes "cmdResp";
                role = role.Special special.CmdResp;
                size = 1;
                of = Some 2;
                formals =
                    (record { name = codes "opCode"; kind = kind.U32; by_ref = false; note = [] }) ∷
                    (record { name = codes "response"; kind = kind.Named 1; by_ref = false; note = [] }) ∷
                    [];
              }) ∷
              (record {
                name = codes "log";
                role = role.Special special.Event;
                size = 1;
                of = Some 3;
                formals = (record { name = codes "n"; kind = kind.U32; by_ref = false; note = [] }) ∷ [];
              }) ∷
              (record {
                name = codes "logText";
                role = role.Special special.TextEvent;
                size = 1;
                of = Some 4;
                formals = (record { name = codes "n"; kind = kind.U32; by_ref = false; note = [] }) ∷ [];
              }) ∷
              (record {
                name = codes "tlm";
                role = role.Special special.Tlm;
                size = 1;
                of = Some 6;
                formals = (record { name = codes "n"; kind = kind.U32; by_ref = false; note = [] }) ∷ [];
              }) ∷
              (record { name = codes "clock"; role = role.Special special.Time; size = 1; of = Some 5; formals = [] }) ∷
              [];
          commands =
              (record {
                name = codes "RUN";
                part = part.Plain;
                way = way.Later (pos 0) full.Assert;
                opcode = 0;
                formals = (record { name = codes "n"; kind = kind.U8; by_ref = false; note = [] }) ∷ [];
                note = [];
              }) ∷
              [];
          events =
              (record {
                name = codes "Ran";
                id = 0;
                severity = 0;
                formals = (record { name = codes "n"; kind = kind.U8; by_ref = false; note = [] }) ∷ [];
                format = codes "ran {}";
                fields = record { parts = piece.Plain (codes "ran ") ∷ piece.Any ∷ [] };
                throttle = None;
                note = [];
              }) ∷
              [];
          channels = (record { name = codes "Count"; id = 0; kind = kind.U32; on_change = true; format = None; limits = []; note = [] }) ∷ [];
          params = [];
          matches = [];
          machines = [];
        }) ∷
        [];
    machines = [];
    instances =
        (record { name = codes "D.disp"; component = 0; base = 256; queue = Some 10; stack = None; priority = None; cpu = None }) ∷
        (record { name = codes "D.sinks"; component = 1; base = 512; queue = None; stack = None; priority = None; cpu = None }) ∷
        (record { name = codes "D.w1"; component = 2; base = 768; queue = Some 5; stack = None; priority = None; cpu = None }) ∷
        (record { name = codes "D.w2"; component = 2; base = 1024; queue = Some 5; stack = None; priority = None; cpu = None }) ∷
        [];
    topologies =
        (record {
          name = codes "D.Main";
          instances = 0 ∷ 1 ∷ 2 ∷ 3 ∷ [];
          links = [];
          wires =
              (record { from = record { instance = 0; port = 1; number = 0 }; to = record { instance = 2; port = 0; number = 0 } }) ∷
              (record { from = record { instance = 0; port = 1; number = 1 }; to = record { instance = 3; port = 0; number = 0 } }) ∷
              (record { from = record { instance = 2; port = 6; number = 0 }; to = record { instance = 1; port = 3; number = 0 } }) ∷
              (record { from = record { instance = 2; port = 1; number = 0 }; to = record { instance = 0; port = 0; number = 0 } }) ∷
              (record { from = record { instance = 2; port = 2; number = 0 }; to = record { instance = 0; port = 2; number = 0 } }) ∷
              (record { from = record { instance = 2; port = 3; number = 0 }; to = record { instance = 1; port = 0; number = 0 } }) ∷
              (record { from = record { instance = 2; port = 4; number = 0 }; to = record { instance = 1; port = 1; number = 0 } }) ∷
              (record { from = record { instance = 2; port = 5; number = 0 }; to = record { instance = 1; port = 2; number = 0 } }) ∷
              (record { from = record { instance = 3; port = 6; number = 0 }; to = record { instance = 1; port = 3; number = 0 } }) ∷
              (record { from = record { instance = 3; port = 1; number = 0 }; to = record { instance = 0; port = 0; number = 1 } }) ∷
              (record { from = record { instance = 3; port = 2; number = 0 }; to = record { instance = 0; port = 2; number = 0 } }) ∷
              (record { from = record { instance = 3; port = 3; number = 0 }; to = record { instance = 1; port = 0; number = 0 } }) ∷
              (record { from = record { instance = 3; port = 4; number = 0 }; to = record { instance = 1; port = 1; number = 0 } }) ∷
              (record { from = record { instance = 3; port = 5; number = 0 }; to = record { instance = 1; port = 2; number = 0 } }) ∷
              [];
        }) ∷
        [];
    order = [];
  };
  topology = 0;
}

abbrev program : Program
program = record {
  steps = 10000;
  callers =
      (record {
        name = codes "k";
        acts = (record { verb = verb.Call; subject = record { instance = 0; port = 3; number = 0 }; name = 0; with = []; bind = None }) ∷ [];
      }) ∷
      [];
  handlers =
      (record {
        instance = 0;
        place = spot.Port 3;
        acts =
            (record {
              verb = verb.Command;
              subject = record { instance = 0; port = 1; number = 0 };
              name = 0;
              with = arg.Given (value.Int (pos 7)) ∷ [];
              bind = None;
            }) ∷
            [];
      }) ∷
      (record {
        instance = 2;
        place = spot.Command 0;
        acts =
            (record {
              verb = verb.Emit;
              subject = record { instance = 2; port = 0; number = 0 };
              name = 0;
              with = arg.Bound (codes "n") ∷ [];
              bind = None;
            }) ∷
            (record {
              verb = verb.Write;
              subject = record { instance = 2; port = 0; number = 0 };
              name = 0;
              with = arg.Given (value.Int (pos 1)) ∷ [];
              bind = None;
            }) ∷
            (record {
              verb = verb.Respond;
              subject = record { instance = 2; port = 2; number = 0 };
              name = 0;
              with = [];
              bind = Some (codes "OK");
            }) ∷
            [];
      }) ∷
      (record {
        instance = 3;
        place = spot.Command 0;
        acts =
            (record {
              verb = verb.Emit;
              subject = record { instance = 3; port = 0; number = 0 };
              name = 0;
              with = arg.Bound (codes "n") ∷ [];
              bind = None;
            }) ∷
            (record {
              verb = verb.Write;
              subject = record { instance = 3; port = 0; number = 0 };
              name = 0;
              with = arg.Given (value.Int (pos 1)) ∷ [];
              bind = None;
            }) ∷
            (record {
              verb = verb.Respond;
              subject = record { instance = 3; port = 2; number = 0 };
              name = 0;
              with = [];
              bind = Some (codes "OK");
            }) ∷
            [];
      }) ∷
      [];
  answers = [];
}

-- the actors, in the order of their steps
abbrev order : List ℕ
order = 0 ∷ 1 ∷ 1 ∷ 1 ∷ 2 ∷ 2 ∷ 2 ∷ 2 ∷ 2 ∷ 2 ∷ 2 ∷ 2 ∷ 1 ∷ 2 ∷ 1 ∷ []

abbrev entries : List Entry
entries =
    (record {
      stamp = 1;
      actor = 0;
      instance = 0;
      what = what.Put 1 (record { point = point.Port 3 0; origin = origin.Caller; with = [] });
    }) ∷
    (record { stamp = 2; actor = 1; instance = 0; what = what.Take 1 (point.Port 3 0) [] }) ∷
    (record {
      stamp = 3;
      actor = 1;
      instance = 2;
      what = what.Put 1 (record {
        point = point.Command 0;
        origin = origin.Wire (record { instance = 0; port = 1; number = 0 }) None;
        with = value.Int (pos 7) ∷ [];
      });
    }) ∷
    (record { stamp = 4; actor = 1; instance = 0; what = what.Done }) ∷
    (record { stamp = 4; actor = 2; instance = 2; what = what.Take 1 (point.Command 0) (value.Int (pos 7) ∷ []) }) ∷
    (record { stamp = 5; actor = 2; instance = 2; what = what.Emit 0 fate.Sent (codes "ran 7") }) ∷
    (record {
      stamp = 6;
      actor = 2;
      instance = 1;
      what = what.Enter (record {
        point = point.Port 0 0;
        origin = origin.Wire (record { instance = 2; port = 3; number = 0 }) (Some (codes "Ran"));
        with = value.Int (pos 0) ∷ [];
      });
    }) ∷
    (record { stamp = 7; actor = 2; instance = 1; what = what.Leave None }) ∷
    (record { stamp = 8; actor = 2; instance = 2; what = what.Write 0 fate.Sent (value.Int (pos 1)) }) ∷
    (record {
      stamp = 9;
      actor = 2;
      instance = 1;
      what = what.Enter (record {
        point = point.Port 2 0;
        origin = origin.Wire (record { instance = 2; port = 5; number = 0 }) (Some (codes "Count"));
        with = value.Int (pos 0) ∷ [];
      });
    }) ∷
    (record { stamp = 10; actor = 2; instance = 1; what = what.Leave None }) ∷
    (record {
      stamp = 11;
      actor = 2;
      instance = 0;
      what = what.Put 2 (record {
        point = point.Port 2 0;
        origin = origin.Wire (record { instance = 2; port = 2; number = 0 }) (Some (codes "OK"));
        with = value.Int (pos 0) ∷ value.Enumerated (codes "Fw.Response") (codes "OK") (pos 0) ∷ [];
      });
    }) ∷
    (record {
      stamp = 12;
      actor = 1;
      instance = 0;
      what = what.Take 2 (point.Port 2 0) (value.Int (pos 0) ∷ value.Enumerated (codes "Fw.Response") (codes "OK") (pos 0) ∷ []);
    }) ∷
    (record { stamp = 12; actor = 2; instance = 2; what = what.Done }) ∷
    (record { stamp = 13; actor = 1; instance = 0; what = what.Done }) ∷
    []

-- after so many entries these actors have no step
abbrev idle : List (ℕ × List ℕ)
idle =
    (0, 1 ∷ 2 ∷ 3 ∷ []) ∷
    (1, 0 ∷ 2 ∷ 3 ∷ []) ∷
    (2, 0 ∷ 2 ∷ 3 ∷ []) ∷
    (3, 0 ∷ 3 ∷ []) ∷
    (4, 0 ∷ 1 ∷ 3 ∷ []) ∷
    (5, 0 ∷ 1 ∷ 3 ∷ []) ∷
    (6, 0 ∷ 1 ∷ 3 ∷ []) ∷
    (7, 0 ∷ 1 ∷ 3 ∷ []) ∷
    (8, 0 ∷ 1 ∷ 3 ∷ []) ∷
    (9, 0 ∷ 1 ∷ 3 ∷ []) ∷
    (10, 0 ∷ 1 ∷ 3 ∷ []) ∷
    (11, 0 ∷ 1 ∷ 3 ∷ []) ∷
    (12, 0 ∷ 3 ∷ []) ∷
    (13, 0 ∷ 3 ∷ []) ∷
    (14, 0 ∷ 2 ∷ 3 ∷ []) ∷
    (15, 0 ∷ 1 ∷ 2 ∷ 3 ∷ []) ∷
    []

computed : Makes tables program order entries finish.Complete idle
unfolding due follows tells leaves answers fits what_fits instance_part actor_part digits
computed = record { entries = refl; ending = refl; waiting = refl }
