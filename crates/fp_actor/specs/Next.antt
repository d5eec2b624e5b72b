-- What comes next of an actor.
use Rattle.std.specs.Prelude.{ℕ, Bool, true, false, Option, Some, None}
use Rattle.fp_events.specs.declared.event.Ask.{Ask as AskOf}
use Rattle.fp_actor.specs.declared.actor.Next.{Next}
use Rattle.fp_actor.specs.declared.actor.Next.TheVariants.{Ask, AtEnd, Halted}

-- of one that has halted or not, with this due ask
abbrev pub next_of : Bool → Option (ℕ × AskOf) → Next
next_of true d = Halted
next_of false None = AtEnd
next_of false (Some p) = Ask p.0 p.1
