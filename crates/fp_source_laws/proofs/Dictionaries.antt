-- What commands, events, channels and parameters break is broken at places in what is written of them.
use Rattle.std.proofs.Common.{◌≡◌, ℤ, List, flat_map, Option, Some, None, inl, inr}
use Rattle.std.specs.Prelude.{◌^◌, ◌-◌, pos, negsuc}
use Rattle.std.specs.List.{AllByRecursion as Each}
use Rattle.fp_base.specs.declared.place.Place.{Place}
use Rattle.fp_base.specs.declared.refusal.Refusal.{Refusal}
use Rattle.fp_base.specs.declared.rule.Rule.{Rule}
use Rattle.fp_base.specs.Least.{ByOptional, broken_at}
use Rattle.fp_base.proofs.Lists.{InOption, each_flat, each_weaker, of_item}
use Rattle.fp_tree.specs.declared.dictionary.CommandKind.{CommandKind}
use Rattle.fp_tree.specs.declared.dictionary.CommandKind.TheVariants as command
use Rattle.fp_tables.specs.declared.kind.Kind.{Kind}
use Rattle.fp_tables.specs.declared.kind.TypeDef.{TypeDef}
use Rattle.fp_written_parts.specs.declared.port.Given.{Given}
use Rattle.fp_written_parts.specs.declared.port.QueueWords.{QueueWords}
use Rattle.fp_written_parts.specs.declared.port.WrittenFormal.{WrittenFormal}
use Rattle.fp_written_parts.specs.declared.port.WrittenRole.{WrittenRole}
use Rattle.fp_written_parts.specs.declared.port.WrittenRole.TheVariants as role
use Rattle.fp_written_parts.specs.declared.dictionary.WrittenCommand.{WrittenCommand}
use Rattle.fp_written_parts.specs.declared.dictionary.WrittenEvent.{WrittenEvent}
use Rattle.fp_written_parts.specs.declared.dictionary.WrittenLimit.{WrittenLimit}
use Rattle.fp_written_parts.specs.declared.member.WrittenComponent.{WrittenComponent}
use Rattle.fp_written_parts.specs.declared.member.WrittenMember.{WrittenMember}
use Rattle.fp_written_parts.specs.declared.member.WrittenMember.TheVariants as member
use Rattle.fp_dictdefs.specs.declared.listed.Listed.{Listed}
use Rattle.fp_dictdefs.specs.Broken.{BrokenCommand, BrokenEvent, BrokenFormals, BrokenLimits, BrokenList, BrokenLists, BrokenMember, BrokenQueue, DictionaryBroken, OutsideAt, RefByRole, RefFormals}
use Rattle.fp_dictdefs.specs.Listed.{channels_in, commands_in, events_in, params_in}
use Rattle.fp_source_laws.proofs.Parted.{same_place}
use Rattle.fp_source_laws.proofs.Written.{CommandStands, EventStands, FormalStands, GivenStands, LimitStands, MemberStands, QueueStands}
use Rattle.fp_source_laws.proofs.WrittenSource.{ComponentStands}

module _ (G : Place → Type 0) where
  -- ---- names and ids

  abbrev ListedStands : Listed → Type 0
  ListedStands x = G x.at

  commands_stand : (m : WrittenMember) → MemberStands G m → Each ListedStands (commands_in m)
  commands_stand (member.Command c) h = (h.here, tt)
  commands_stand (member.Param p) h = (h, (h, tt))
  commands_stand m h = tt

  events_stand : (m : WrittenMember) → MemberStands G m → Each ListedStands (events_in m)
  events_stand (member.Event e) h = (h.here, tt)
  events_stand m h = tt

  channels_stand : (m : WrittenMember) → MemberStands G m → Each ListedStands (channels_in m)
  channels_stand (member.Channel t) h = (h.here, tt)
  channels_stand m h = tt

  params_stand : (m : WrittenMember) → MemberStands G m → Each ListedStands (params_in m)
  params_stand (member.Param p) h = (h, tt)
  params_stand m h = tt

  listed : (found : WrittenMember → List Listed) → ((m : WrittenMember) → MemberStands G m → Each ListedStands (found m)) → (ms : List WrittenMember) → Each (MemberStands G) ms → Each ListedStands (flat_map found ms)
  listed found one ms h = each_flat ListedStands found ms (each_weaker (MemberStands G) (λ (m : WrittenMember). Each ListedStands (found m)) one ms h)

  list_placed : (xs : List Listed) (f : Refusal) → Each ListedStands xs → BrokenList xs f → G f.place
  list_placed xs f h (inl (k, x, at, b)) = same_place G f _ b.0 (of_item ListedStands xs k x h at)
  list_placed xs f h (inr (k, x, at, inl b)) = same_place G f _ b.0 (of_item ListedStands xs k x h at)
  list_placed xs f h (inr (k, x, at, inr b)) = same_place G f _ b.0 (of_item ListedStands xs k x h at)

  lists_placed : (ms : List WrittenMember) (f : Refusal) → Each (MemberStands G) ms → BrokenLists ms f → G f.place
  lists_placed ms f h (inl (inl b)) = list_placed (flat_map commands_in ms) f (listed commands_in commands_stand ms h) b
  lists_placed ms f h (inl (inr b)) = list_placed (flat_map events_in ms) f (listed events_in events_stand ms h) b
  lists_placed ms f h (inr (inl b)) = list_placed (flat_map channels_in ms) f (listed channels_in channels_stand ms h) b
  lists_placed ms f h (inr (inr b)) = list_placed (flat_map params_in ms) f (listed params_in params_stand ms h) b

  -- ---- members

  refs_placed : (ps : List WrittenFormal) (f : Refusal) → Each (FormalStands G) ps → RefFormals ps f → G f.place
  refs_placed ps f h (k, p, at, b) = same_place G f _ b.0 (of_item (FormalStands G) ps k p h at)

  role_placed : (r : WrittenRole) (ps : List WrittenFormal) (f : Refusal) → Each (FormalStands G) ps → RefByRole r ps f → G f.place
  role_placed role.Internal ps f h b = refs_placed ps f h b
  role_placed r ps f h b = absurd b

  formals_placed : (ps : List WrittenFormal) (f : Refusal) → Each (FormalStands G) ps → BrokenFormals ps f → G f.place
  formals_placed ps f h (inl (k, p, at, b)) = same_place G f _ b.0 (of_item (FormalStands G) ps k p h at)
  formals_placed ps f h (inr b) = refs_placed ps f h b

  outside_placed : (rule : Rule) (low high : ℤ) (o : Option Given) (f : Refusal) → InOption (GivenStands G) o → ByOptional (OutsideAt rule low high) o f → G f.place
  outside_placed rule low high None f h b = absurd b
  outside_placed rule low high (Some g) f h b = same_place G f _ b.0 h

  word_placed : (rule : Rule) (o : Option Place) (f : Refusal) → InOption G o → ByOptional (λ (place : Place) (x : Refusal). x ≡ broken_at rule place) o f → G f.place
  word_placed rule None f h b = absurd b
  word_placed rule (Some place) f h b = same_place G f _ b h

  queue_placed : (kind : CommandKind) (q : QueueWords) (f : Refusal) → QueueStands G q → BrokenQueue kind q f → G f.place
  queue_placed command.Async q f h b = outside_placed _ (negsuc (2 ^ 31 - 1)) (pos (2 ^ 31 - 1)) q.priority f h.of_priority b
  queue_placed command.Guarded q f h b = word_placed _ q.word f h.of_word b
  queue_placed command.Sync q f h b = word_placed _ q.word f h.of_word b

  command_placed : (c : WrittenCommand) (f : Refusal) → CommandStands G c → BrokenCommand c f → G f.place
  command_placed c f h (inl b) = formals_placed c.formals f h.of_formals b
  command_placed c f h (inr b) = queue_placed c.kind c.queue f h.of_queue b

  event_placed : (e : WrittenEvent) (f : Refusal) → EventStands G e → BrokenEvent e f → G f.place
  event_placed e f h (inl b) = formals_placed e.formals f h.of_formals b
  event_placed e f h (inr b) = outside_placed _ (pos 1) (pos (2 ^ 32 - 1)) e.throttle f h.of_throttle b

  limits_placed : (types : List TypeDef) (kind : Kind) (ls : List WrittenLimit) (f : Refusal) → Each (LimitStands G) ls → BrokenLimits types kind ls f → G f.place
  limits_placed types kind ls f h (k, l, at, b) = same_place G f _ b.0 (of_item (LimitStands G) ls k l h at)

  member_placed : (types : List TypeDef) (m : WrittenMember) (f : Refusal) → MemberStands G m → BrokenMember types m f → G f.place
  member_placed types (member.Port p) f h b = role_placed p.role p.formals f h.of_formals b
  member_placed types (member.Command c) f h b = command_placed c f h b
  member_placed types (member.Event e) f h b = event_placed e f h b
  member_placed types (member.Channel t) f h b = limits_placed types t.kind t.limits f h.of_limits b
  member_placed types m f h b = absurd b

  pub dictionary_placed : (types : List TypeDef) (c : WrittenComponent) (f : Refusal) → ComponentStands G c → DictionaryBroken types c f → G f.place
  dictionary_placed types c f h (inl b) = lists_placed c.members f h.of_members b
  dictionary_placed types c f h (inr (k, m, at, b)) = member_placed types m f (of_item (MemberStands G) c.members k m h.of_members at) b
