-- What definitions of ports, ports and instances of state machines break is broken at places in what is written of them.
use Rattle.std.proofs.Common.{ℕ, List, Option, Some, None, inl, inr}
use Rattle.std.specs.List.{AllByRecursion as Each}
use Rattle.fp_base.specs.declared.place.Place.{Place}
use Rattle.fp_base.specs.declared.refusal.Refusal.{Refusal}
use Rattle.fp_base.proofs.Lists.{InOption, of_item}
use Rattle.fp_written_parts.specs.declared.port.Given.{Given}
use Rattle.fp_written_parts.specs.declared.port.QueueWords.{QueueWords}
use Rattle.fp_written_parts.specs.declared.port.WrittenFormal.{WrittenFormal}
use Rattle.fp_written_parts.specs.declared.port.WrittenPort.{WrittenPort}
use Rattle.fp_written_parts.specs.declared.port.WrittenPortDef.{WrittenPortDef}
use Rattle.fp_written_parts.specs.declared.port.WrittenRole.{WrittenRole}
use Rattle.fp_written_parts.specs.declared.port.WrittenRole.TheVariants as role
use Rattle.fp_written_parts.specs.declared.member.WrittenComponent.{WrittenComponent}
use Rattle.fp_written_parts.specs.declared.member.WrittenInterface.{WrittenInterface}
use Rattle.fp_written_parts.specs.declared.member.WrittenMember.{WrittenMember}
use Rattle.fp_written_parts.specs.declared.member.WrittenMember.TheVariants as member
use Rattle.fp_component_rules.specs.PortBroken.{BrokenDefinition, BrokenFormals, BrokenMember, BrokenMembers, BrokenPort, BrokenPriority, BrokenQueue, BrokenSize, BrokenWord, PortsBroken, RepeatedFormals}
use Rattle.fp_source_laws.proofs.Parted.{same_place}
use Rattle.fp_source_laws.proofs.Written.{FormalStands, GivenStands, MemberStands, PortStands, QueueStands}
use Rattle.fp_source_laws.proofs.WrittenSource.{ComponentStands, DefStands, InterfaceStands}

module _ (G : Place → Type 0) where
  repeated_placed : (ps : List WrittenFormal) (f : Refusal) → Each (FormalStands G) ps → RepeatedFormals ps f → G f.place
  repeated_placed ps f h (k, p, at, b) = same_place G f _ b.0 (of_item (FormalStands G) ps k p h at)

  formals_placed : (r : WrittenRole) (ps : List WrittenFormal) (f : Refusal) → Each (FormalStands G) ps → BrokenFormals r ps f → G f.place
  formals_placed role.Internal ps f h b = repeated_placed ps f h b
  formals_placed r ps f h b = absurd b

  definition_placed : (definitions : List WrittenPortDef) (r : WrittenRole) (of : Option ℕ) (place : Place) (f : Refusal) → G place → BrokenDefinition definitions r of place f → G f.place
  definition_placed definitions role.AsyncInput of place f g b = same_place G f _ b.0 g
  definition_placed definitions (role.Special kind) of place f g b = same_place G f _ b.0 g
  definition_placed definitions r of place f g b = absurd b

  priority_placed : (o : Option Given) (f : Refusal) → InOption (GivenStands G) o → BrokenPriority o f → G f.place
  priority_placed None f h b = absurd b
  priority_placed (Some g) f h b = same_place G f _ b.0 h

  size_placed : (o : Option Given) (f : Refusal) → InOption (GivenStands G) o → BrokenSize o f → G f.place
  size_placed None f h b = absurd b
  size_placed (Some g) f h b = same_place G f _ b.0 h

  word_placed : (o : Option Place) (f : Refusal) → InOption G o → BrokenWord o f → G f.place
  word_placed None f h b = absurd b
  word_placed (Some place) f h b = same_place G f _ b h

  queue_placed : (r : WrittenRole) (q : QueueWords) (f : Refusal) → QueueStands G q → BrokenQueue r q f → G f.place
  queue_placed role.AsyncInput q f h b = priority_placed q.priority f h.of_priority b
  queue_placed role.Internal q f h b = priority_placed q.priority f h.of_priority b
  queue_placed role.SyncInput q f h b = word_placed q.word f h.of_word b
  queue_placed role.GuardedInput q f h b = word_placed q.word f h.of_word b
  queue_placed role.Output q f h b = word_placed q.word f h.of_word b
  queue_placed (role.Special kind) q f h b = word_placed q.word f h.of_word b

  port_placed : (definitions : List WrittenPortDef) (p : WrittenPort) (f : Refusal) → PortStands G p → BrokenPort definitions p f → G f.place
  port_placed definitions p f h (inl (inl b)) = formals_placed p.role p.formals f h.of_formals b
  port_placed definitions p f h (inl (inr b)) = definition_placed definitions p.role p.of p.at f h.here b
  port_placed definitions p f h (inr (inl b)) = queue_placed p.role p.queue f h.of_queue b
  port_placed definitions p f h (inr (inr b)) = size_placed p.size f h.of_size b

  member_placed : (definitions : List WrittenPortDef) (m : WrittenMember) (f : Refusal) → MemberStands G m → BrokenMember definitions m f → G f.place
  member_placed definitions (member.Port p) f h b = port_placed definitions p f h b
  member_placed definitions (member.Running r) f h b = priority_placed r.queue.priority f h.of_queue.of_priority b
  member_placed definitions m f h b = absurd b

  members_placed : (definitions : List WrittenPortDef) (ms : List WrittenMember) (f : Refusal) → Each (MemberStands G) ms → BrokenMembers definitions ms f → G f.place
  members_placed definitions ms f h (k, m, at, b) = member_placed definitions m f (of_item (MemberStands G) ms k m h at) b

  pub ports_placed : (definitions : List WrittenPortDef) (interfaces : List WrittenInterface) (components : List WrittenComponent) (f : Refusal)
      → Each (DefStands G) definitions → Each (InterfaceStands G) interfaces → Each (ComponentStands G) components → PortsBroken definitions interfaces components f → G f.place
  ports_placed definitions interfaces components f ds is cs (inl (k, d, at, b)) = repeated_placed d.formals f (of_item (DefStands G) definitions k d ds at) b
  ports_placed definitions interfaces components f ds is cs (inr (inl (k, i, at, b))) = members_placed definitions i.members f (of_item (InterfaceStands G) interfaces k i is at) b
  ports_placed definitions interfaces components f ds is cs (inr (inr (k, c, at, b))) =
      members_placed definitions c.members f (of_item (ComponentStands G) components k c cs at).of_members b
