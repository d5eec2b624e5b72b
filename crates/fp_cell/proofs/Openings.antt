-- What the fields of a cell keep at the opening.
use Rattle.std.proofs.Common.{◌≡◌, ◌<◌, ℕ, ℤ, true, List, [], Some, sym, ap, subst, ◌∙◌}
use Rattle.fp_events.specs.SystemRun.{Kept}
use Rattle.fp_tables.specs.Lookup.{Described}
use Rattle.fp_tables.specs.Sound.{IsSoundFor}
use Rattle.fp_tables.specs.declared.program.Program.{Program}
use Rattle.fp_tables.specs.Acts.{is_placed}
use Rattle.fp_events.specs.Instance.{Inside as Left, InstanceState, opened_instance}
use Rattle.fp_events.specs.Lookup.{queue_size}
use Rattle.fp_events.specs.Step.{core}
use Rattle.fp_events.specs.declared.event.Entry.{Entry}
use Rattle.fp_cell.specs.Kept.{IsKept}
use Rattle.fp_cell.specs.Kinded.{IsKinded}
use Rattle.fp_cell.specs.Settled.{AreKnown, IsSet}
use Rattle.fp_cell.specs.Stepping.{inside}
use Rattle.fp_cell.specs.Waiting.{Waiting}
use Rattle.fp_cell.specs.declared.setting.Setting.{Setting}
use Rattle.fp_cell.specs.declared.state.State.{State}
use Rattle.fp_cell.proofs.Opened.{opened_kinded}

pub known_opened : (t : Described) (i : ℕ) (calls : Waiting) (size : ℕ) (ps qs : List ℤ) → calls.size ≡ size → (0 < size → calls.priorities ≡ ps) → ps ≡ qs → AreKnown t i qs
    → (w : Waiting) → w ≡ calls → 0 < w.size → AreKnown t i w.priorities
known_opened t i calls size ps qs of_size of_priorities same known w is some =
    let sized : w.size ≡ size = ap (λ (x : Waiting). x.size) is ∙ of_size in
    subst (λ (xs : List ℤ). AreKnown t i xs) (sym (ap (λ (x : Waiting). x.priorities) is ∙ of_priorities (subst (λ (n : ℕ). 0 < n) sized some) ∙ same)) known

-- what is known of a state at the opening
pub record IsOpening (x : State) (t : Described) (program : Program) (i : ℕ) : Type 0 where
  pub sound : IsSoundFor t.model (Some t.topology)
  pub placed : is_placed t i ≡ true
  pub opened : inside x ≡ opened_instance t i
  pub size : queue_size t i ≡ x.calls.size
  pub known : 0 < x.calls.size → AreKnown t i x.calls.priorities

kept_first : (s : Setting) (x : State) (es : List Entry) → IsSet s → IsOpening x s.tables.now s.program.now s.instance → es ≡ [] → IsKept (record { setting = s; state = x; last = 0; history = es })
kept_first s x es set h none =
    record {
      ready = record {
        sound = h.sound;
        set = set;
        size = h.size;
        known = h.known;
        kinded = subst (λ (y : Left). IsKinded s.tables.now s.program.now s.instance y) (sym h.opened) (opened_kinded s.tables.now s.program.now s.instance h.sound.0);
      };
      placed = h.placed;
      kept = subst (λ (l : List Entry). Kept (core s.tables.now s.program.now) s.instance l (record { inside = inside x; last = 0 })) (sym none) (ap at_first h.opened);
    }
  where
    at_first : Left → InstanceState
    at_first y = record { inside = y; last = 0 }

pub kept_opened : (s : Setting) (x : State) (es : List Entry) (t : Described) (program : Program) (i : ℕ) → s.tables.now ≡ t → s.program.now ≡ program → s.instance ≡ i
    → IsSet s → IsOpening x t program i → es ≡ [] → IsKept (record { setting = s; state = x; last = 0; history = es })
kept_opened s x es t program i tables of_program instance set h none =
    kept_first s x es set
    (subst (λ (q : ℕ). IsOpening x s.tables.now s.program.now q) (sym instance)
    (subst (λ (q : Program). IsOpening x s.tables.now q i) (sym of_program) (subst (λ (q : Described). IsOpening x q program i) (sym tables) h))) none
