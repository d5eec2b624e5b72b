-- What an actor's fields keep.
use Rattle.std.specs.Prelude.{◌≡◌, Bool, true, ◌&&◌, nat_lt, vec_len, vec_capacity}
use Rattle.fp_tables.specs.Positions.{lists_are_short}
use Rattle.fp_events.specs.Lookup.{home}
use Rattle.fp_actor.specs.Stacked.{frames}
use Rattle.fp_actor.specs.Placed.{AreKept}
use Rattle.fp_actor.specs.Acting.{Acting, IsToldOf}
use Rattle.fp_actor.specs.declared.actor.Actor.TheInside.{Inside}

-- room for an entry, a level and a binding
abbrev pub has_room : Inside → Bool
has_room a =
    nat_lt (vec_len a.trace) (vec_capacity a.trace) && nat_lt (vec_len a.levels) (vec_capacity a.levels)
    && nat_lt (vec_len a.bindings) (vec_capacity a.bindings)

-- the actor that these fields are
abbrev pub acting : Inside → Acting
acting a = record {
  tables = a.tables.now;
  program = a.program.now;
  number = a.number;
  state = record {
    thread = record { frames = frames a.tables.now a.program.now a.number a.trace.items a.bindings.items a.levels.items; halted = a.halted };
    last = a.last;
  };
  trace = a.trace.items;
  has_room = has_room a;
}

pub record IsKept (a : Inside) : Type 0 where
  pub handlers : a.handlers ≡ a.program.now.handlers
  pub home : a.home ≡ home a.tables.now a.program.now a.number
  pub short : lists_are_short a.tables.now.model ≡ true
  pub stack : AreKept a.tables.now a.program.now a.number a.trace.items a.bindings.items a.levels.items
  pub told : IsToldOf (acting a)
