-- What components and interfaces break as wholes is broken at places in what is written of them.
use Rattle.std.proofs.Common.{ℕ, List, Option, Some, None, inl, inr}
use Rattle.std.specs.List.{AllByRecursion as Each}
use Rattle.fp_base.specs.declared.place.Place.{Place}
use Rattle.fp_base.specs.declared.refusal.Refusal.{Refusal}
use Rattle.fp_base.specs.declared.rule.Rule.{Rule}
use Rattle.fp_base.specs.declared.rule.Rule.TheVariants.{PassiveWithQueueUse, PortNameRepeated, SpecialPort}
use Rattle.fp_base.specs.Least.{BrokenAt, ByOptional}
use Rattle.fp_base.proofs.Lists.{InOption, of_item}
use Rattle.fp_tables.specs.declared.component.Queueing.{Queueing}
use Rattle.fp_tables.specs.declared.component.Queueing.TheVariants as queueing
use Rattle.fp_written_parts.specs.declared.member.WrittenComponent.{WrittenComponent}
use Rattle.fp_written_parts.specs.declared.member.WrittenInterface.{WrittenInterface}
use Rattle.fp_written_parts.specs.declared.member.WrittenMember.{WrittenMember}
use Rattle.fp_written_parts.specs.declared.member.WrittenMember.TheVariants as member
use Rattle.fp_component_rules.specs.Cycles.{IsCycleBroken}
use Rattle.fp_component_rules.specs.Broken.{AreOfOneKind, ComponentBroken, ComponentsBroken, GivesAgain, HaveOneName, MatchAt, QueueBroken, RepeatsBroken, UseAt, Waits, bringer_at, giver_at}
use Rattle.fp_source_laws.proofs.Parted.{same_place}
use Rattle.fp_source_laws.proofs.Written.{MemberStands}
use Rattle.fp_source_laws.proofs.WrittenSource.{ComponentStands, InterfaceStands}

module _ (G : Place → Type 0) where
  at_optional : (rule : Rule) (Q : Type 0) (o : Option Place) (f : Refusal) → InOption G o → ByOptional (λ (place : Place). BrokenAt rule place Q) o f → G f.place
  at_optional rule Q None f h b = absurd b
  at_optional rule Q (Some place) f h b = same_place G f _ b.0 h

  giver_stands : (m : WrittenMember) → MemberStands G m → InOption G (giver_at m)
  giver_stands (member.Port p) h = h.here
  giver_stands (member.Import i) h = h
  giver_stands m h = tt

  bringer_stands : (m : WrittenMember) → MemberStands G m → InOption G (bringer_at m)
  bringer_stands (member.Port p) h = h.first
  bringer_stands (member.Import i) h = h
  bringer_stands (member.Command c) h = h.first
  bringer_stands (member.Running r) h = h.first
  bringer_stands m h = tt

  module _ (interfaces : List WrittenInterface) where
    repeats_placed : (ms : List WrittenMember) (f : Refusal) → Each (MemberStands G) ms → RepeatsBroken interfaces ms f → G f.place
    repeats_placed ms f h (k, m, at, inl b) =
        at_optional PortNameRepeated (GivesAgain interfaces HaveOneName ms k m) (giver_at m) f (giver_stands m (of_item (MemberStands G) ms k m h at)) b
    repeats_placed ms f h (k, m, at, inr b) =
        at_optional SpecialPort (GivesAgain interfaces AreOfOneKind ms k m) (giver_at m) f (giver_stands m (of_item (MemberStands G) ms k m h at)) b

    use_placed : (k : ℕ) (m : WrittenMember) (f : Refusal) → MemberStands G m → UseAt interfaces k m f → G f.place
    use_placed k m f h b = at_optional PassiveWithQueueUse (Waits interfaces m) (bringer_at m) f (bringer_stands m h) b

    queue_placed : (q : Queueing) (place : Place) (ms : List WrittenMember) (f : Refusal) → G place → Each (MemberStands G) ms → QueueBroken interfaces q place ms f → G f.place
    queue_placed queueing.Passive place ms f g h (k, m, at, b) = use_placed k m f (of_item (MemberStands G) ms k m h at) b
    queue_placed queueing.Active place ms f g h b = same_place G f _ b.0 g
    queue_placed queueing.Queued place ms f g h b = same_place G f _ b.0 g

    match_placed : (ms : List WrittenMember) (m : WrittenMember) (f : Refusal) → MemberStands G m → MatchAt interfaces ms m f → G f.place
    match_placed ms (member.Match d) f h b = same_place G f _ b.0 h
    match_placed ms m f h b = absurd b

    component_placed : (k : ℕ) (c : WrittenComponent) (f : Refusal) → ComponentStands G c → ComponentBroken interfaces k c f → G f.place
    component_placed k c f h (inl (inl b)) = repeats_placed c.members f h.of_members b
    component_placed k c f h (inl (inr b)) = queue_placed c.queueing c.at c.members f h.here h.of_members b
    component_placed k c f h (inr (inl b)) = same_place G f _ b.0 h.here
    component_placed k c f h (inr (inr (n, m, at, b))) = match_placed c.members m f (of_item (MemberStands G) c.members n m h.of_members at) b

    cycle_placed : (rule : Rule) (f : Refusal) → Each (InterfaceStands G) interfaces → IsCycleBroken interfaces rule f → G f.place
    cycle_placed rule f is b =
        let members = of_item (InterfaceStands G) interfaces b.importer b.written is b.here in
        same_place G f _ b.is (of_item (MemberStands G) b.written.members b.k (member.Import b.import_) members b.member)

    pub wholes_placed : (components : List WrittenComponent) (f : Refusal) → Each (InterfaceStands G) interfaces → Each (ComponentStands G) components → ComponentsBroken interfaces components f → G f.place
    wholes_placed components f is cs (inl b) = cycle_placed _ f is b
    wholes_placed components f is cs (inr (inl (k, i, at, b))) = repeats_placed i.members f (of_item (InterfaceStands G) interfaces k i is at) b
    wholes_placed components f is cs (inr (inr (k, c, at, b))) = component_placed k c f (of_item (ComponentStands G) components k c cs at) b
