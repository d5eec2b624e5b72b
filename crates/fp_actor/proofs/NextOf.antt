-- What comes next, by the due ask.
use Rattle.std.proofs.Common.{◌≡◌, ℕ, Bool, true, false, cond, Option, None, ap}
use Rattle.fp_tables.specs.Lookup.{Described}
use Rattle.fp_tables.specs.declared.program.Program.{Program}
use Rattle.fp_events.specs.declared.event.Ask.{Ask}
use Rattle.fp_events.specs.Actor.{Thread}
use Rattle.fp_events.specs.Due.{due, due_of}
use Rattle.fp_actor.specs.Next.{next_of}

pub next_going : (t : Described) (program : Program) (n : ℕ) (x : Thread) (d : Option (ℕ × Ask)) → x.halted ≡ false → d ≡ due_of t program n x.frames → next_of false d ≡ next_of x.halted (due t program n x)
unfolding due
next_going t program n x d h e = go x.halted h
  where
    go : (b : Bool) → b ≡ false → next_of false d ≡ next_of b (cond b None (due_of t program n x.frames))
    go false h = ap (next_of false) e
    go true h = absurd (cc)
