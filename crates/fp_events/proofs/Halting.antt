-- Who has halted.
use Rattle.std.proofs.Common.{◌≡◌, ℕ, false, refl}
use Rattle.fp_tables.specs.Lookup.{Described}
use Rattle.fp_tables.specs.declared.program.Program.{Program}
use Rattle.fp_events.specs.declared.event.What.{What}
use Rattle.fp_events.specs.declared.event.What.TheVariants as what
use Rattle.fp_events.specs.Actor.{Thread}
use Rattle.fp_events.specs.Follows.{follows}
use Rattle.fp_events.specs.Ends.{is_asserted}

module _ (t : Described) (program : Program) where
  pub follows_halted : (i : ℕ) (x : Thread) (w : What) → x.halted ≡ false → (follows t program i x w).halted ≡ is_asserted w
  unfolding follows
  follows_halted i x (what.Asserted r) h = refl
  follows_halted i x (what.Enter r) h = h
  follows_halted i x (what.Guard r) h = h
  follows_halted i x (what.Set r) h = h
  follows_halted i x (what.Save r v) h = h
  follows_halted i x (what.Put number r) h = h
  follows_halted i x (what.Dropped r) h = h
  follows_halted i x (what.Hooked r) h = h
  follows_halted i x (what.Leave v) h = h
  follows_halted i x what.Done h = h
  follows_halted i x (what.Take number point vs) h = h
  follows_halted i x what.Empty h = h
  follows_halted i x (what.Emit event became text) h = h
  follows_halted i x (what.Write channel became v) h = h
  follows_halted i x (what.Read param v) h = h
  follows_halted i x (what.Start running actions leaf) h = h
  follows_halted i x (what.Move running signal actions leaf) h = h
