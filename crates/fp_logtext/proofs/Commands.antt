-- The points of sets and saves are set and save commands.
use Rattle.std.proofs.Common.{◌≡◌, ℕ, true, length, Option, Some, None, option_map, is_some, refl, ap, subst, slice_get, nat_lt}
use Rattle.fp_base.proofs.Options.{then_some}
use Rattle.fp_base.proofs.Lists.{all_get, get_below}
use Rattle.fp_base.proofs.Bools.{both}
use Rattle.fp_tables.specs.Components.{set_parameter, saved_parameter}
use Rattle.fp_tables.specs.Lookup.{Described}
use Rattle.fp_tables.specs.Positions.{component_of, command_lies, part_lies}
use Rattle.fp_tables.specs.Sound.{IsSound}
use Rattle.fp_tables.specs.declared.component.Command.{Command}
use Rattle.fp_tables.specs.declared.component.Component.{Component}
use Rattle.fp_tables.specs.declared.component.Param.{Param}
use Rattle.fp_tables.specs.declared.component.CommandPart.{CommandPart}
use Rattle.fp_tables.specs.declared.component.CommandPart.TheVariants as part
use Rattle.fp_tables.specs.declared.component.Way.TheVariants.{Later, Sync, Guarded}
use Rattle.fp_events.specs.Answers.{suits}
use Rattle.fp_events.specs.Manners.{Manner, by, sets, saves, manner}
use Rattle.fp_events.specs.declared.event.Point.{Point}
use Rattle.fp_events.specs.declared.event.Arrival.{Arrival}
use Rattle.fp_events.specs.declared.event.What.TheVariants as what
use Rattle.fp_logtext.specs.Names.{param_name, set_name, saved_name}
use Rattle.fp_run_laws.proofs.Parts.{commands_lie_at}
use Rattle.fp_run_laws.proofs.Commands.{implied, of_set, of_save, sets_part, saves_part}

-- ---- what an entry with an arrival answers

pub set_manner : (m : Option Manner) (r : Arrival) → suits m (what.Set r) ≡ true → (k : ℕ) × (m ≡ Some (sets k))
set_manner None r h = absurd (cc)
set_manner (Some (by Sync)) r h = absurd (cc)
set_manner (Some (by Guarded)) r h = absurd (cc)
set_manner (Some (by (Later priority policy))) r h = absurd (cc)
set_manner (Some (sets k)) r h = (k, refl)
set_manner (Some (saves k)) r h = absurd (cc)

pub save_manner : (m : Option Manner) (r : Arrival) (v : _) → suits m (what.Save r v) ≡ true → (k : ℕ) × (m ≡ Some (saves k))
save_manner None r v h = absurd (cc)
save_manner (Some (by Sync)) r v h = absurd (cc)
save_manner (Some (by Guarded)) r v h = absurd (cc)
save_manner (Some (by (Later priority policy))) r v h = absurd (cc)
save_manner (Some (sets k)) r v h = absurd (cc)
save_manner (Some (saves k)) r v h = (k, refl)

-- ---- their parameters

module _ (t : Described) (sound : IsSound t.model) (i : ℕ) where
  part_lies_at : (c : Component) (n : ℕ) (x : Command) → component_of t.model i ≡ Some c → slice_get c.commands n ≡ Some x → part_lies (length c.params) x.part ≡ true
  part_lies_at c n x e f = (both _ _ (all_get (command_lies (length t.model.types) (length c.params)) c.commands n x (commands_lie_at t.model sound i c e) f)).1

  param_named : (c : Component) (k : ℕ) → component_of t.model i ≡ Some c → nat_lt k (length c.params) ≡ true → is_some (param_name t.model i k) ≡ true
  param_named c k e below = rw e (named (slice_get c.params k) (get_below c.params k below))
    where
      named : (o : Option Param) → is_some o ≡ true → is_some (option_map (λ (p : Param). p.name) o) ≡ true
      named None h = h
      named (Some p) h = refl

  pub set_is_named : (point : Point) (k : ℕ) → manner t i point ≡ Some (sets k) → is_some (set_name t.model i point) ≡ true
  set_is_named point k h =
      let m = implied t i point (sets k) (of_set k) h in
      let c = then_some (λ (c : Component). slice_get c.commands m.number) (component_of t.model i) m.command m.found in
      let p : m.command.part ≡ part.SetParam k = sets_part m.command.way m.command.part k m.treated in
      let lies : part_lies (length c.0.params) (part.SetParam k) ≡ true = subst (λ q. part_lies (length c.0.params) q ≡ true) p (part_lies_at c.0 m.number m.command c.1 c.2) in
      let named : is_some (param_name t.model i k) ≡ true = param_named c.0 k c.1 lies in
      let parameter : set_parameter m.command ≡ Some k = ap (λ (q : CommandPart). set_parameter (record m.command { part = q })) p in
      rw (m.is, m.found, parameter) named

  pub save_is_named : (point : Point) (k : ℕ) → manner t i point ≡ Some (saves k) → is_some (saved_name t.model i point) ≡ true
  save_is_named point k h =
      let m = implied t i point (saves k) (of_save k) h in
      let c = then_some (λ (c : Component). slice_get c.commands m.number) (component_of t.model i) m.command m.found in
      let p : m.command.part ≡ part.SaveParam k = saves_part m.command.way m.command.part k m.treated in
      let lies : part_lies (length c.0.params) (part.SaveParam k) ≡ true = subst (λ q. part_lies (length c.0.params) q ≡ true) p (part_lies_at c.0 m.number m.command c.1 c.2) in
      let named : is_some (param_name t.model i k) ≡ true = param_named c.0 k c.1 lies in
      let parameter : saved_parameter m.command ≡ Some k = ap (λ (q : CommandPart). saved_parameter (record m.command { part = q })) p in
      rw (m.is, m.found, parameter) named
