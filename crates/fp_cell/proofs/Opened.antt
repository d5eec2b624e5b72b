-- A cell at the opening.
use Rattle.std.proofs.lemmas.List.{replicate-append-replicate}
use Rattle.std.proofs.Common.{◌≡◌, ℕ, zero, suc, ◌+◌, ◌++◌, ◌∷◌, [], length, get_or, replicate, Some, None, refl}
use Rattle.fp_tables.specs.Lookup.{Described}
use Rattle.fp_tables.specs.Sound.{IsSound}
use Rattle.fp_tables.specs.declared.program.Program.{Program}
use Rattle.fp_events.specs.Instance.{opened_instance}
use Rattle.fp_tables.specs.Specials.{component}
use Rattle.fp_cell.specs.Kinded.{IsKinded}
use Rattle.fp_cell.proofs.Parts.{good_parts, defaults_have_kinds}

nothing_at : {X : Type 0} (n k : ℕ) (x : X) → get_or (replicate n None) k None ≡ Some x → ⊥
nothing_at zero k x h = absurd (cc)
nothing_at (suc n) zero x h = absurd (cc)
nothing_at (suc n) (suc k) x h = nothing_at n k x h

pub opened_kinded : (t : Described) (program : Program) (i : ℕ) → IsSound t.model → IsKinded t program i (opened_instance t i)
opened_kinded t program i sound =
    record {
      pending = refl;
      params = defaults_have_kinds t.model.types (component t i).params (good_parts t i sound).defaults;
      leaves = λ running m c found started. absurd (nothing_at (length (component t i).machines) running c started);
    }

pub one_more : {X : Type 0} (n : ℕ) (x : X) → replicate n x ++ (x ∷ []) ≡ replicate (n + 1) x
one_more n x = replicate-append-replicate n 1 x
