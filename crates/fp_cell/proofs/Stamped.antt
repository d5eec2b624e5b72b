-- A step of an instance with its stamp, and the history that goes on by it.
use Rattle.std.proofs.Common.{◌≡◌, ◌≤◌, ◌<◌, ℕ, suc, max, true, nat_lt, ◌&&◌, List, [], ◌∷◌, ◌++◌, Some, refl, arith}
use Rattle.std.proofs.lemmas.Bool.Decides.{nat_tests}
use Rattle.fp_events.specs.SystemRun as system
use Rattle.fp_events.proofs.Turns.{InTurn-more}
use Rattle.fp_tables.specs.Lookup.{Described}
use Rattle.fp_tables.specs.declared.program.Program.{Program}
use Rattle.fp_events.specs.Fits.{actor_count, what_fits, fits}
use Rattle.fp_tables.specs.Acts.{is_placed}
use Rattle.fp_events.specs.Instance.{InstanceState, opened_instance}
use Rattle.fp_events.specs.Step.{core, instance_part, stamped}
use Rattle.fp_events.specs.Tells.{tells}
use Rattle.fp_events.specs.declared.event.Ask.{Ask}
use Rattle.fp_events.specs.declared.event.Entry.{Entry}
use Rattle.fp_events.specs.declared.event.What.{What}
use Rattle.fp_base.proofs.Bools.{join}

module _ (t : Described) (program : Program) (i : ℕ) where
  pub fits_of : (a : ℕ) (w : What) → a < actor_count t program → is_placed t i ≡ true → what_fits t program i w ≡ true → fits t program a i w ≡ true
  unfolding fits
  fits_of a w actor placed fit =
      let below : nat_lt a (actor_count t program) ≡ true = grind (arith, nat_tests) in
      join (nat_lt a (actor_count t program) && is_placed t i) (what_fits t program i w) (join (nat_lt a (actor_count t program)) (is_placed t i) below placed) fit

  pub part_of : (s : InstanceState) (a seen : ℕ) (q : Ask) (w : What) → tells t program i s.inside q ≡ Some w → fits t program a i w ≡ true
      → instance_part t program i s a q seen ≡ Some (stamped t program (suc (max s.last seen)) a i s.inside w)
  unfolding instance_part
  part_of s a seen q w told fit = rw (told, fit) refl

  -- one step more
  pub goes_on : (es : List Entry) (s u : InstanceState) (e : Entry) (q : Ask) (seen : ℕ) → system.Kept (core t program) i es s
      → instance_part t program i s e.actor q seen ≡ Some (e, u) → e.stamp ≤ program.steps → system.Kept (core t program) i (es ++ e ∷ []) u
  goes_on es s u e q seen kept part within =
      InTurn-more (system.InstanceStep (core t program) i) es (record { inside = opened_instance t i; last = 0 }) s u e kept (record { ask = q; seen = seen; part = part; within = within })
