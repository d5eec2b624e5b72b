-- The due ask of frames.
use Rattle.std.proofs.Common.{◌≡◌, ℕ, ◌≤◌, Bool, true, false, cond, eqb, List, [], ◌∷◌, Option, Some, option_map, refl, sym, ap, ◌∙◌, subst, arith}
use Rattle.std.specs.List.{slice_get}
use Rattle.fp_tables.specs.Lookup.{Described}
use Rattle.fp_tables.specs.declared.program.Program.{Program}
use Rattle.fp_events.specs.Actor.{Action, Bindings, Frame}
use Rattle.fp_events.specs.Due.{first_action, asks, asks_in, due_in, due_of}
use Rattle.fp_events.specs.Follows.{doing}
use Rattle.fp_actor.specs.declared.level.Position.{Position}
use Rattle.fp_actor.specs.declared.level.Level.{Level}
use Rattle.fp_actor.specs.Levels.{settled, IsWithin, AreWithin}
use Rattle.fp_actor.specs.Stacked.{opened_in}
use Rattle.fp_actor.specs.declared.level.Source.{Source}
use Rattle.fp_actor.specs.declared.level.Base.{Base}
use Rattle.fp_actor.specs.declared.level.Base.TheVariants as base
use Rattle.fp_base.specs.declared.value.Value.{Value}
use Rattle.fp_tables.specs.declared.program.Act.{Act}
use Rattle.fp_events.specs.declared.event.Entry.{Entry}
use Rattle.fp_events.specs.declared.event.Ask.TheVariants as ask
use Rattle.fp_events.specs.Lookup.{home}

pub due_from : (t : Described) (program : Program) (a : ℕ) (fs : List Frame) (f : Frame) (rest : List Frame) (o : Option (Action × Bindings)) →
    fs ≡ f ∷ rest → first_action (doing fs) ≡ o → due_in t program f o ≡ due_of t program a fs
due_from t program a fs f rest o e h =
    ap (due_in t program f) (sym h ∙ ap (λ (gs : List Frame). first_action (doing gs)) e) ∙ ap (due_of t program a) (sym e)

pub settled_within : (n : ℕ) (m : Level) (p : Position) → IsWithin n m → IsWithin n (settled m p)
settled_within n m p h = (go (eqb p.list m.next.list), h.1)
  where
    go : (b : Bool) → cond b m.first m.past ≤ m.past
    go true = h.0
    go false = omega arith

pub first_within : (n : ℕ) (ls : List Level) (k : ℕ) (m l : Level) → AreWithin n ls → slice_get ls k ≡ Some m → l ≡ settled m l.next → IsWithin n l
first_within n ls k m l all there e = subst (λ (z : Level). IsWithin n z) (sym e) (settled_within n m l.next (all k m there))

pub due_none : (t : Described) (program : Program) (a : ℕ) (fs : List Frame) (h : Option ℕ) → fs ≡ [] → h ≡ home t program a → option_map (λ (i : ℕ). (i, ask.Take)) h ≡ due_of t program a fs
due_none t program a fs h e f = ap (λ (o : Option ℕ). option_map (λ (i : ℕ). (i, ask.Take)) o) f ∙ ap (due_of t program a) (sym e)

pub asks_handler : (t : Described) (program : Program) (n : ℕ) (trace : List Entry) (b : Base) (from : Source) (i j : ℕ) (x : Act) (with : List Value) → i ≡ j → (b ≡ base.Inside → ⊥) → (b ≡ base.Own → ⊥) →
    asks_in t program (opened_in t program n trace b from) i x with x.verb ≡ asks t program (opened_in t program n trace b from) j x with
asks_handler t program n trace base.Inside from i j x with e p q = absurd (p refl)
asks_handler t program n trace base.Own from i j x with e p q = absurd (q refl)
asks_handler t program n trace (base.Arrived c) from i j x with e p q = ap (λ k. asks_in t program (opened_in t program n trace (base.Arrived c) from) k x with x.verb) e
asks_handler t program n trace base.Taken from i j x with e p q = ap (λ k. asks_in t program (opened_in t program n trace base.Taken from) k x with x.verb) e
