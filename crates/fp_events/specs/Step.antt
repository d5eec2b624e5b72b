-- The step: what an instance makes of an ask, and what an actor makes of an entry.
use Rattle.std.specs.Prelude.{ℕ, suc, max, Bool, cond, ◌&&◌, ◌==◌, Option, Some, None, option_map, option_and_then}
use Rattle.fp_events.specs.System.{System}
use Rattle.fp_tables.specs.Lookup.{Described}
use Rattle.fp_tables.specs.declared.program.Program.{Program}
use Rattle.fp_events.specs.declared.event.Ask.{Ask}
use Rattle.fp_events.specs.declared.event.What.{What}
use Rattle.fp_events.specs.declared.event.Entry.{Entry}
use Rattle.fp_events.specs.Instance.{Inside, InstanceState, opened_instance}
use Rattle.fp_events.specs.Actor.{ActorState, opened_actor}
use Rattle.fp_events.specs.Tells.{tells}
use Rattle.fp_events.specs.Leaves.{leaves}
use Rattle.fp_events.specs.Due.{due}
use Rattle.fp_events.specs.Follows.{follows}
use Rattle.fp_events.specs.Answers.{answers}
use Rattle.fp_events.specs.Fits.{fits}

module _ (t : Described) (program : Program) where
  abbrev pub fitting : ℕ → ℕ → What → Option What
  fitting a i w = cond (fits t program a i w) (Some w) None

  -- an entry with its stamp, and the instance after it
  abbrev pub stamped : ℕ → ℕ → ℕ → Inside → What → Entry × InstanceState
  stamped n a i s w = (record { stamp = n; actor = a; instance = i; what = w }, record { inside = leaves t program i s a w; last = n })

  -- what the instance makes of an ask of this actor, whose last stamp was seen: the entry that it tells, if that fits, with a stamp that is one more
  -- than the greater of the two last ones
  unfoldable pub instance_part : ℕ → InstanceState → ℕ → Ask → ℕ → Option (Entry × InstanceState)
  instance_part i s a ask seen = option_map (stamped (suc (max s.last seen)) a i s.inside) (option_and_then (fitting a i) (tells t program i s.inside ask))

  -- whether the entry answers the due ask, has its actor and its instance, and fits
  abbrev pub answers_due : ℕ → Entry → ℕ × Ask → Bool
  answers_due a e d = (e.actor == a) && (e.instance == d.0) && answers t d.0 e.what d.1 && fits t program a d.0 e.what

  abbrev pub taken_by : ℕ → ActorState → Entry → Option (ℕ × Ask) → Option ActorState
  taken_by a x e None = None
  taken_by a x e (Some d) = cond (answers_due a e d) (Some (record { thread = follows t program d.0 x.thread e.what; last = e.stamp })) None

  -- what the actor makes of an entry: it takes only one that answers its due ask
  unfoldable pub actor_part : ℕ → ActorState → Entry → Option ActorState
  actor_part a x e = taken_by a x e (due t program a x.thread)

  -- the system of the topology's instances and the program's actors
  abbrev pub core : System InstanceState ActorState Ask Entry
  core = record {
    stamp = λ e. e.stamp;
    actor = λ e. e.actor;
    instance = λ e. e.instance;
    first_instance = λ i. record { inside = opened_instance t i; last = 0 };
    first_actor = λ a. record { thread = opened_actor program a; last = 0 };
    instance_stamp = λ s. s.last;
    actor_stamp = λ x. x.last;
    due = λ a x. due t program a x.thread;
    instance_part = instance_part;
    actor_part = actor_part;
    steps = program.steps;
  }
