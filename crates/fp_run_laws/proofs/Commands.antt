-- The commands that set and save parameters.
use Rattle.std.proofs.Common.{◌≡◌, ℕ, Some, refl, sym, ◌∙◌, slice_get}
use Rattle.fp_base.proofs.Options.{mapped_some, then_some, same_some}
use Rattle.fp_tables.specs.Acts.{command_of}
use Rattle.fp_tables.specs.Lookup.{Described}
use Rattle.fp_tables.specs.Specials.{component}
use Rattle.fp_tables.specs.declared.component.Command.{Command}
use Rattle.fp_tables.specs.declared.component.CommandPart.{CommandPart}
use Rattle.fp_tables.specs.declared.component.CommandPart.TheVariants as part
use Rattle.fp_tables.specs.declared.component.Port.{Port as PortOf}
use Rattle.fp_tables.specs.declared.component.Running.{Running}
use Rattle.fp_tables.specs.declared.component.Role.{Role}
use Rattle.fp_tables.specs.declared.component.Role.TheVariants as role
use Rattle.fp_tables.specs.declared.component.Way.{Way}
use Rattle.fp_events.specs.Manners.{Manner, by, sets, saves, manner, input_manner, internal_manner, command_manner}
use Rattle.fp_events.specs.declared.event.Point.{Point}
use Rattle.fp_events.specs.declared.event.Point.TheVariants.{Port, Command as OfCommand, Post, Signal}
use Rattle.fp_run_laws.proofs.Parts.{command_in}

-- a manner that isn't a way
pub data IsImplied : Manner → Type 0 where
  of_set : (k : ℕ) → IsImplied (sets k)
  of_save : (k : ℕ) → IsImplied (saves k)

no_way : (way : Way) (m : Manner) → IsImplied m → by way ≡ m → ⊥
no_way way (by other) h e = elim h [ ]
no_way way (sets k) h e = cc
no_way way (saves k) h e = cc

no_input : (ro : Role) (m : Manner) → IsImplied m → input_manner ro ≡ Some m → ⊥
no_input (role.Input way) m h e = no_way way m h (same_some e)
no_input _ m h e = cc

no_internal : (ro : Role) (m : Manner) → IsImplied m → internal_manner ro ≡ Some m → ⊥
no_internal (role.Internal way) m h e = no_way way m h (same_some e)
no_internal _ m h e = cc

pub sets_part : (way : Way) (p : CommandPart) (k : ℕ) → command_manner way p ≡ sets k → p ≡ part.SetParam k
sets_part way part.Plain k h = absurd (cc)
sets_part way (part.SetParam j) k h = cc
sets_part way (part.SaveParam j) k h = absurd (cc)

pub saves_part : (way : Way) (p : CommandPart) (k : ℕ) → command_manner way p ≡ saves k → p ≡ part.SaveParam k
saves_part way part.Plain k h = absurd (cc)
saves_part way (part.SetParam j) k h = absurd (cc)
saves_part way (part.SaveParam j) k h = cc

-- a command that sets or saves a parameter
pub record Implied (t : Described) (i : ℕ) (point : Point) (m : Manner) : Type 0 where
  pub number : ℕ
  pub command : Command
  pub is : point ≡ OfCommand number
  pub found : command_of t i number ≡ Some command
  pub treated : command_manner command.way command.part ≡ m

pub implied : (t : Described) (i : ℕ) (point : Point) (m : Manner) → IsImplied m → manner t i point ≡ Some m → Implied t i point m
implied t i (Port n number) m h e = let p = then_some (λ (p : PortOf). input_manner p.role) (slice_get (component t i).ports n) m e in absurd (no_input p.0.role m h p.2)
implied t i (OfCommand n) m h e =
    let c = mapped_some (λ (c : Command). command_manner c.way c.part) (slice_get (component t i).commands n) m e in
    record { number = n; command = c.0; is = refl; found = sym (command_in t i n) ∙ c.1; treated = c.2 }
implied t i (Post n) m h e = let p = then_some (λ (p : PortOf). internal_manner p.role) (slice_get (component t i).ports n) m e in absurd (no_internal p.0.role m h p.2)
implied t i (Signal running signal) m h e =
    let r = mapped_some (λ (r : Running). by r.way) (slice_get (component t i).machines running) m e in
    absurd (no_way r.0.way m h r.2)
