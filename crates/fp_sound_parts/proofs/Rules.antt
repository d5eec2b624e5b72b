-- What it says of members that a rule isn't broken.
use Rattle.std.proofs.Common.{◌≡◌, inl, inr, ℕ, true, List, [], Some, refl}
use Rattle.std.specs.Prelude.{slice_get}
use Rattle.fp_base.specs.Least.{IsUnbroken, InSome, broken_at}
use Rattle.fp_base.specs.declared.refusal.Refusal.{Refusal}
use Rattle.fp_base.specs.declared.rule.Rule.{Rule}
use Rattle.fp_base.specs.declared.rule.Rule.TheVariants.{PassiveWithQueueUse, PortNameRepeated, SpecialPort}
use Rattle.fp_tables.specs.declared.kind.TypeDef.{TypeDef}
use Rattle.fp_written_parts.specs.declared.port.WrittenPort.{WrittenPort}
use Rattle.fp_written_parts.specs.declared.port.WrittenPortDef.{WrittenPortDef}
use Rattle.fp_written_parts.specs.declared.member.WrittenComponent.{WrittenComponent}
use Rattle.fp_written_parts.specs.declared.member.WrittenInterface.{WrittenInterface}
use Rattle.fp_written_parts.specs.declared.member.WrittenMember.{WrittenMember}
use Rattle.fp_written_parts.specs.declared.member.WrittenMember.TheVariants.{Port, Import, Command, Event, Channel, Param, Match, Running}
use Rattle.fp_component_rules.proofs.Listed.{gives_by}
use Rattle.fp_component_rules.specs.PortBroken.{PortsBroken, RepeatedFormals}
use Rattle.fp_component_rules.specs.PortBroken as ports
use Rattle.fp_dictdefs.specs.Broken.{BrokenLists, DictionaryBroken}
use Rattle.fp_dictdefs.specs.Broken as parts
use Rattle.fp_component_rules.specs.Broken.{AreOfOneKind, ClashAt, ComponentsBroken, GivesAgain, HaveOneName, QueueBroken, RepeatsBroken, UseAt, Waits, waits_itself}
use Rattle.fp_components.specs.Resolved.{running_in}
use Rattle.fp_sound_parts.specs.Ready.{OfEachMember}
use Rattle.fp_sound_parts.proofs.Given.{GiveApart}

-- ---- ports

pub port_rules : (definitions : List WrittenPortDef) (interfaces : List WrittenInterface) (written : List WrittenComponent) → IsUnbroken (PortsBroken definitions interfaces written)
    → OfEachMember interfaces written (λ m. IsUnbroken (ports.BrokenMember definitions m))
port_rules definitions interfaces written u = record {
  of_interfaces = λ v k i m here at f h. u f (inr (inl (v, i, here, (k, m, at, h))));
  of_components = λ v k w m here at f h. u f (inr (inr (v, w, here, (k, m, at, h))));
}

pub definition_rules : (definitions : List WrittenPortDef) (interfaces : List WrittenInterface) (written : List WrittenComponent) → IsUnbroken (PortsBroken definitions interfaces written)
    → (k : ℕ) (d : WrittenPortDef) → slice_get definitions k ≡ Some d → IsUnbroken (RepeatedFormals d.formals)
definition_rules definitions interfaces written u k d at f h = u f (inl (k, d, at, h))

-- ---- commands, events, channels and parameters

module _ (types : List TypeDef) (written : List WrittenComponent) (u : IsUnbroken (InSome (λ (k : ℕ). DictionaryBroken types) written)) (v : ℕ) (w : WrittenComponent) (here : slice_get written v ≡ Some w) where
  pub list_rules : IsUnbroken (BrokenLists w.members)
  list_rules f h = u f (v, w, here, inl h)

  pub member_rules : (k : ℕ) (m : WrittenMember) → slice_get w.members k ≡ Some m → IsUnbroken (parts.BrokenMember types m)
  member_rules k m at f h = u f (v, w, here, inr (k, m, at, h))

-- ---- what members give together

module _ (interfaces : List WrittenInterface) where
  clash_broken : (rule : Rule) (Clash : WrittenPort → WrittenPort → Type 0) (ms : List WrittenMember) (k : ℕ) (m : WrittenMember) → GivesAgain interfaces Clash ms k m
      → (f : Refusal) × ClashAt interfaces rule Clash ms k m f
  clash_broken rule Clash ms k (Port p) g = (broken_at rule p.at, (refl, g))
  clash_broken rule Clash ms k (Import i) g = (broken_at rule i.at, (refl, g))
  clash_broken rule Clash ms k (Command c) g = absurd (gives_by interfaces g.gives)
  clash_broken rule Clash ms k (Event e) g = absurd (gives_by interfaces g.gives)
  clash_broken rule Clash ms k (Channel t) g = absurd (gives_by interfaces g.gives)
  clash_broken rule Clash ms k (Param p) g = absurd (gives_by interfaces g.gives)
  clash_broken rule Clash ms k (Match d) g = absurd (gives_by interfaces g.gives)
  clash_broken rule Clash ms k (Running r) g = absurd (gives_by interfaces g.gives)

  pub names_once : (ms : List WrittenMember) → IsUnbroken (RepeatsBroken interfaces ms) → GiveApart interfaces HaveOneName ms
  names_once ms u k m at again = let t = clash_broken PortNameRepeated HaveOneName ms k m again in u t.0 (k, m, at, inl t.1)

  pub kinds_once : (ms : List WrittenMember) → IsUnbroken (RepeatsBroken interfaces ms) → GiveApart interfaces AreOfOneKind ms
  kinds_once ms u k m at again = let t = clash_broken SpecialPort AreOfOneKind ms k m again in u t.0 (k, m, at, inr t.1)

  use_broken : (k : ℕ) (m : WrittenMember) → Waits interfaces m → (f : Refusal) × UseAt interfaces k m f
  use_broken k (Port p) w = (broken_at PassiveWithQueueUse p.begins, (refl, w))
  use_broken k (Import i) w = (broken_at PassiveWithQueueUse i.at, (refl, w))
  use_broken k (Command c) w = (broken_at PassiveWithQueueUse c.begins, (refl, w))
  use_broken k (Running r) w = (broken_at PassiveWithQueueUse r.begins, (refl, w))
  use_broken k (Event e) (inl h) = absurd (cc)
  use_broken k (Event e) (inr (p, g, h)) = absurd (gives_by interfaces g)
  use_broken k (Channel t) (inl h) = absurd (cc)
  use_broken k (Channel t) (inr (p, g, h)) = absurd (gives_by interfaces g)
  use_broken k (Param d) (inl h) = absurd (cc)
  use_broken k (Param d) (inr (p, g, h)) = absurd (gives_by interfaces g)
  use_broken k (Match d) (inl h) = absurd (cc)
  use_broken k (Match d) (inr (p, g, h)) = absurd (gives_by interfaces g)

  -- in a passive component no member waits
  pub none_waits : (ms : List WrittenMember) → IsUnbroken (InSome (UseAt interfaces) ms) → (k : ℕ) (m : WrittenMember) → slice_get ms k ≡ Some m → Waits interfaces m → ⊥
  none_waits ms u k m at w = let t = use_broken k m w in u t.0 (k, m, at, t.1)

  module _ (written : List WrittenComponent) (u : IsUnbroken (ComponentsBroken interfaces written)) where
    pub interface_repeats : (v : ℕ) (i : WrittenInterface) → slice_get interfaces v ≡ Some i → IsUnbroken (RepeatsBroken interfaces i.members)
    interface_repeats v i here f h = u f (inr (inl (v, i, here, h)))

    pub component_repeats : (v : ℕ) (w : WrittenComponent) → slice_get written v ≡ Some w → IsUnbroken (RepeatsBroken interfaces w.members)
    component_repeats v w here f h = u f (inr (inr (v, w, here, inl (inl h))))

    pub component_queue : (v : ℕ) (w : WrittenComponent) → slice_get written v ≡ Some w → IsUnbroken (QueueBroken interfaces w.queueing w.at w.members)
    component_queue v w here f h = u f (inr (inr (v, w, here, inl (inr h))))

-- ---- instances of state machines

-- what doesn't wait is none
pub no_running : (m : WrittenMember) → (waits_itself m ≡ true → ⊥) → running_in m ≡ []
no_running (Port p) h = refl
no_running (Import i) h = refl
no_running (Command c) h = refl
no_running (Event e) h = refl
no_running (Channel t) h = refl
no_running (Param p) h = refl
no_running (Match d) h = refl
no_running (Running r) h = absurd (h refl)
