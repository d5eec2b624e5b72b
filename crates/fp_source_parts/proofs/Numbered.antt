-- Where expressions have values, and numbers where numbers are wanted, each number that a written member has is there.
use Rattle.std.proofs.Common.{◌≡◌, ℕ, zero, suc, ℤ, List, [], ◌∷◌, ◌++◌, flat_map, slice_get, Option, Some, None, refl, sym, ap, subst, inl, inr}
use Rattle.std.specs.List.{AllByRecursion as Each}
use Rattle.fp_topology_forms.proofs.Places.{second_read}
use Rattle.fp_base.proofs.Lists.{each_before, each_behind, of_item}
use Rattle.fp_base.specs.declared.place.Span.{Span}
use Rattle.fp_base.specs.declared.value.Value.{Value}
use Rattle.fp_tree.specs.declared.source.Source.{Source}
use Rattle.fp_tree.specs.declared.expression.Expr.{Expr}
use Rattle.fp_tree.specs.declared.component.Full.{Full}
use Rattle.fp_tree.specs.declared.component.General.{General}
use Rattle.fp_tree.specs.declared.component.InterfacePart.{InterfacePart}
use Rattle.fp_tree.specs.declared.component.InterfacePart.TheVariants as interface_part
use Rattle.fp_tree.specs.declared.component.Part.{Part}
use Rattle.fp_tree.specs.declared.component.Part.TheVariants as part
use Rattle.fp_tree.specs.declared.dictionary.Channel.{Channel}
use Rattle.fp_tree.specs.declared.dictionary.Limit.{Limit}
use Rattle.fp_tree.specs.declared.dictionary.Limits.{Limits}
use Rattle.fp_meaning.specs.Layout.{limit_items, limits_items, type_items, value_items}
use Rattle.fp_meaning.specs.Names.{Path}
use Rattle.fp_meaning.specs.Sites.{in_optional}
use Rattle.fp_meaning.specs.Values.{Val, number_in, opened}
use Rattle.fp_type_forms.specs.Written.{AllAt}
use Rattle.fp_part_values.specs.Names.{written}
use Rattle.fp_part_values.specs.Numbers.{general_numbers}
use Rattle.fp_part_values.specs.Standing.{HasLimit, IsPart}
use Rattle.fp_written_parts.specs.declared.port.Given.{Given}
use Rattle.fp_written_parts.specs.declared.port.QueueWords.{QueueWords}
use Rattle.fp_written_parts.specs.declared.port.WrittenPort.{WrittenPort}
use Rattle.fp_written_parts.specs.declared.dictionary.WrittenCommand.{WrittenCommand}
use Rattle.fp_written_parts.specs.declared.dictionary.WrittenEvent.{WrittenEvent}
use Rattle.fp_written_parts.specs.declared.dictionary.WrittenLimit.{WrittenLimit}
use Rattle.fp_written_parts.specs.declared.dictionary.WrittenChannel.{WrittenChannel}
use Rattle.fp_written_parts.specs.declared.dictionary.WrittenParam.{WrittenParam}
use Rattle.fp_written_parts.specs.declared.member.WrittenMember.{WrittenMember}
use Rattle.fp_written_parts.specs.declared.member.WrittenMember.TheVariants as member
use Rattle.fp_written_parts.specs.Numbered.{HasNumber}
use Rattle.fp_component_forms.specs.Written.{BothOrNeither, ChannelIs, GeneralIs, GivenIs, LimitIs, MemberIs, QueueIs, SideIs, part_of}
use Rattle.fp_components.specs.Whole.{AreWholeLimits}
use Rattle.fp_source_parts.proofs.Ids.{GivenThere}
use Rattle.fp_source_parts.proofs.Members.{InterfaceMemberKnown, MemberKnown}
use Rattle.fp_part_values.proofs.Standing.{Stands}
use Rattle.fp_source_parts.proofs.Values.{InnerKnown, Numbered, PartKnown}

-- the numbers of a port, and of a member, that are written
pub record PortNumbered (p : WrittenPort) : Type 0 where
  pub size : GivenThere p.size
  pub priority : GivenThere p.queue.priority

pub record CommandNumbered (c : WrittenCommand) : Type 0 where
  pub opcode : GivenThere c.opcode
  pub priority : GivenThere c.queue.priority

pub record EventNumbered (e : WrittenEvent) : Type 0 where
  pub id : GivenThere e.id
  pub throttle : GivenThere e.throttle

pub record ChannelNumbered (t : WrittenChannel) : Type 0 where
  pub id : GivenThere t.id
  pub limits : AreWholeLimits t.limits

pub record ParamNumbered (p : WrittenParam) : Type 0 where
  pub id : GivenThere p.id
  pub set : GivenThere p.set
  pub save : GivenThere p.save

abbrev pub MemberNumbered : WrittenMember → Type 0
MemberNumbered (member.Port p) = PortNumbered p
MemberNumbered (member.Command c) = CommandNumbered c
MemberNumbered (member.Event e) = EventNumbered e
MemberNumbered (member.Channel t) = ChannelNumbered t
MemberNumbered (member.Param p) = ParamNumbered p
MemberNumbered (member.Running r) = GivenThere r.queue.priority
MemberNumbered _ = Unit {0}

module _ (source : Source) (scope : Path) where
  there : (o : Option Expr) (g : Option Given) → BothOrNeither (GivenIs source scope) o g → Each (Numbered source scope) (written o) → GivenThere g
  there None None h n = tt
  there None (Some g) h n = absurd h
  there (Some e) None h n = absurd h
  there (Some e) (Some g) h n = (n.0.0, h.number.only n.0.0 n.0.1)

  prioritized : (e : Option Expr) (f : Option Full) (s : Option Span) (q : QueueWords) → QueueIs source scope e f s q → Each (Numbered source scope) (written e) → GivenThere q.priority
  prioritized e f s q h n = there e q.priority h.priority n

  general_numbered : (p : General) (v : WrittenPort) → GeneralIs source scope p v → Each (Numbered source scope) (general_numbers p) → PortNumbered v
  general_numbered p v h n = record {
    size = there p.size v.size h.size (each_before (Numbered source scope) (written p.size) (written p.priority) n);
    priority = prioritized p.priority p.full p.queue_word v.queue h.queue (each_behind (Numbered source scope) (written p.size) (written p.priority) n);
  }

  nothing_there : (g : Option Given) → g ≡ None → GivenThere g
  nothing_there None e = tt
  nothing_there (Some g) e = absurd (cc)

  no_priority : (q : QueueWords) (e : q ≡ record { priority = None; full = None; word = None }) → GivenThere q.priority
  no_priority q e = nothing_there q.priority (ap (λ (x : QueueWords). x.priority) e)

  -- ---- limits

  module _ (limit_number : (c : Channel) (l : Limit) (v : Value) → IsPart source scope (part.Channel c) → HasLimit c l → Val source scope (opened l.value) v → (n : ℤ) × (number_in v ≡ Some n)) where
    limit_there : (c : Channel) (high : _) (l : Limit) (g : WrittenLimit) → IsPart source scope (part.Channel c) → HasLimit c l → Each (Stands source) (limit_items scope l) → LimitIs source scope high l g
        → HasNumber g.value
    limit_there c high l g of in_channel h is =
        let n = limit_number c l h.0.0 of in_channel h.0.1 in
        (n.0, is.value.number.only n.0 (h.0.0, h.0.1, n.1))

    side_there : (c : Channel) (high : _) (ls : List Limit) (gs : List WrittenLimit) → IsPart source scope (part.Channel c)
        → ((k : ℕ) (l : Limit) → slice_get ls k ≡ Some l → HasLimit c l) → Each (Stands source) (flat_map (limit_items scope) ls) → AllAt (λ position. LimitIs source scope high) 0 ls gs → AreWholeLimits gs
    side_there c high ls gs of each h are k g at =
        let l = second_read (LimitIs source scope high) 0 ls gs k g are at in
        limit_there c high l.one g of (each k l.one l.here)
        (of_item (λ (x : Limit). Each (Stands source) (limit_items scope x)) ls k l.one (split ls h) l.here) l.related
      where
        split : (ls : List Limit) → Each (Stands source) (flat_map (limit_items scope) ls) → Each (λ (x : Limit). Each (Stands source) (limit_items scope x)) ls
        split [] h = tt
        split (x ∷ xs) h = (each_before (Stands source) (limit_items scope x) (flat_map (limit_items scope) xs) h, split xs (each_behind (Stands source) (limit_items scope x) (flat_map (limit_items scope) xs) h))

    both_sides : (xs ys : List WrittenLimit) → AreWholeLimits xs → AreWholeLimits ys → AreWholeLimits (xs ++ ys)
    both_sides [] ys h g k l at = g k l at
    both_sides (x ∷ xs) ys h g zero l at = h 0 l at
    both_sides (x ∷ xs) ys h g (suc k) l at = both_sides xs ys (λ j. h (suc j)) g k l at

    of_side : (c : Channel) (high : _) (side : Option Limits) (gs : List WrittenLimit) → IsPart source scope (part.Channel c) → ((ls : Limits) → side ≡ Some ls → (k : ℕ) (l : Limit) → slice_get ls.limits k ≡ Some l → HasLimit c l)
        → Each (Stands source) (in_optional (limits_items scope) side) → SideIs source scope high side gs → AreWholeLimits gs
    of_side c high None gs of each h are = side_there c high [] gs of (λ k l e. absurd (cc)) tt are
    of_side c high (Some ls) gs of each h are = side_there c high ls.limits gs of (each ls refl) h are

    channel_numbered : (t : Channel) (v : WrittenChannel) → IsPart source scope (part.Channel t) → PartKnown source scope (part.Channel t) → ChannelIs source scope t v → ChannelNumbered v
    channel_numbered t v of known is =
        let own = known.values in
        let three = each_before (Stands source) (type_items 0 scope t.of ++ value_items scope t.id ++ in_optional (limits_items scope) t.low) (in_optional (limits_items scope) t.high) own in
        let high = each_behind (Stands source) (type_items 0 scope t.of ++ value_items scope t.id ++ in_optional (limits_items scope) t.low) (in_optional (limits_items scope) t.high) own in
        let low = each_behind (Stands source) (type_items 0 scope t.of ++ value_items scope t.id) (in_optional (limits_items scope) t.low) three in
        let lows = of_side t _ t.low is.limits.0 of (λ ls e k l a. (ls, k, inl e, a)) low is.limits.2 in
        let highs = of_side t _ t.high is.limits.1 of (λ ls e k l a. (ls, k, inr e, a)) high is.limits.3 in
        record {
          id = there t.id v.id is.id known.numbers;
          limits = subst AreWholeLimits (sym is.limits.4) (both_sides is.limits.0 is.limits.1 lows highs);
        }

    -- ---- members

    part_numbered : (p : Part) (m : WrittenMember) → IsPart source scope p → PartKnown source scope p → MemberIs source scope p m → MemberNumbered m
    part_numbered (part.General p) (member.Port v) of known is = general_numbered p v is known.numbers
    part_numbered (part.Special p) (member.Port v) of known is = record { size = nothing_there v.size is.size; priority = no_priority v.queue is.queue }
    part_numbered (part.Internal p) (member.Port v) of known is =
        record { size = nothing_there v.size is.size; priority = prioritized p.priority p.full p.queue_word v.queue is.queue known.numbers }
    part_numbered (part.Command c) (member.Command v) of known is = record {
      opcode = there c.opcode v.opcode is.opcode (each_before (Numbered source scope) (written c.opcode) (written c.priority) known.numbers);
      priority = prioritized c.priority c.full c.queue_word v.queue is.queue (each_behind (Numbered source scope) (written c.opcode) (written c.priority) known.numbers);
    }
    part_numbered (part.Event e) (member.Event v) of known is = record {
      id = there e.id v.id is.id (each_before (Numbered source scope) (written e.id) (written e.throttle) known.numbers);
      throttle = there e.throttle v.throttle is.throttle (each_behind (Numbered source scope) (written e.id) (written e.throttle) known.numbers);
    }
    part_numbered (part.Channel t) (member.Channel v) of known is = channel_numbered t v of known is
    part_numbered (part.Param p) (member.Param v) of known is =
        let two = each_before (Numbered source scope) (written p.id ++ written p.set) (written p.save) known.numbers in
        record {
          id = there p.id v.id is.id (each_before (Numbered source scope) (written p.id) (written p.set) two);
          set = there p.set v.set is.set (each_behind (Numbered source scope) (written p.id) (written p.set) two);
          save = there p.save v.save is.save (each_behind (Numbered source scope) (written p.id ++ written p.set) (written p.save) known.numbers);
        }
    part_numbered (part.Running r) (member.Running v) of known is = prioritized r.priority r.full r.queue_word v.queue is.queue known.numbers
    part_numbered (part.Import i) (member.Import v) of known is = tt
    part_numbered (part.Match m) (member.Match v) of known is = tt
    part_numbered (part.General p) (member.Import x) of known is = absurd is
    part_numbered (part.General p) (member.Command x) of known is = absurd is
    part_numbered (part.General p) (member.Event x) of known is = absurd is
    part_numbered (part.General p) (member.Channel x) of known is = absurd is
    part_numbered (part.General p) (member.Param x) of known is = absurd is
    part_numbered (part.General p) (member.Match x) of known is = absurd is
    part_numbered (part.General p) (member.Running x) of known is = absurd is
    part_numbered (part.Special p) (member.Import x) of known is = absurd is
    part_numbered (part.Special p) (member.Command x) of known is = absurd is
    part_numbered (part.Special p) (member.Event x) of known is = absurd is
    part_numbered (part.Special p) (member.Channel x) of known is = absurd is
    part_numbered (part.Special p) (member.Param x) of known is = absurd is
    part_numbered (part.Special p) (member.Match x) of known is = absurd is
    part_numbered (part.Special p) (member.Running x) of known is = absurd is
    part_numbered (part.Internal p) (member.Import x) of known is = absurd is
    part_numbered (part.Internal p) (member.Command x) of known is = absurd is
    part_numbered (part.Internal p) (member.Event x) of known is = absurd is
    part_numbered (part.Internal p) (member.Channel x) of known is = absurd is
    part_numbered (part.Internal p) (member.Param x) of known is = absurd is
    part_numbered (part.Internal p) (member.Match x) of known is = absurd is
    part_numbered (part.Internal p) (member.Running x) of known is = absurd is
    part_numbered (part.Import i) (member.Port x) of known is = absurd is
    part_numbered (part.Import i) (member.Command x) of known is = absurd is
    part_numbered (part.Import i) (member.Event x) of known is = absurd is
    part_numbered (part.Import i) (member.Channel x) of known is = absurd is
    part_numbered (part.Import i) (member.Param x) of known is = absurd is
    part_numbered (part.Import i) (member.Match x) of known is = absurd is
    part_numbered (part.Import i) (member.Running x) of known is = absurd is
    part_numbered (part.Command c) (member.Port x) of known is = absurd is
    part_numbered (part.Command c) (member.Import x) of known is = absurd is
    part_numbered (part.Command c) (member.Event x) of known is = absurd is
    part_numbered (part.Command c) (member.Channel x) of known is = absurd is
    part_numbered (part.Command c) (member.Param x) of known is = absurd is
    part_numbered (part.Command c) (member.Match x) of known is = absurd is
    part_numbered (part.Command c) (member.Running x) of known is = absurd is
    part_numbered (part.Event e) (member.Port x) of known is = absurd is
    part_numbered (part.Event e) (member.Import x) of known is = absurd is
    part_numbered (part.Event e) (member.Command x) of known is = absurd is
    part_numbered (part.Event e) (member.Channel x) of known is = absurd is
    part_numbered (part.Event e) (member.Param x) of known is = absurd is
    part_numbered (part.Event e) (member.Match x) of known is = absurd is
    part_numbered (part.Event e) (member.Running x) of known is = absurd is
    part_numbered (part.Channel t) (member.Port x) of known is = absurd is
    part_numbered (part.Channel t) (member.Import x) of known is = absurd is
    part_numbered (part.Channel t) (member.Command x) of known is = absurd is
    part_numbered (part.Channel t) (member.Event x) of known is = absurd is
    part_numbered (part.Channel t) (member.Param x) of known is = absurd is
    part_numbered (part.Channel t) (member.Match x) of known is = absurd is
    part_numbered (part.Channel t) (member.Running x) of known is = absurd is
    part_numbered (part.Param p) (member.Port x) of known is = absurd is
    part_numbered (part.Param p) (member.Import x) of known is = absurd is
    part_numbered (part.Param p) (member.Command x) of known is = absurd is
    part_numbered (part.Param p) (member.Event x) of known is = absurd is
    part_numbered (part.Param p) (member.Channel x) of known is = absurd is
    part_numbered (part.Param p) (member.Match x) of known is = absurd is
    part_numbered (part.Param p) (member.Running x) of known is = absurd is
    part_numbered (part.Match m) (member.Port x) of known is = absurd is
    part_numbered (part.Match m) (member.Import x) of known is = absurd is
    part_numbered (part.Match m) (member.Command x) of known is = absurd is
    part_numbered (part.Match m) (member.Event x) of known is = absurd is
    part_numbered (part.Match m) (member.Channel x) of known is = absurd is
    part_numbered (part.Match m) (member.Param x) of known is = absurd is
    part_numbered (part.Match m) (member.Running x) of known is = absurd is
    part_numbered (part.Running r) (member.Port x) of known is = absurd is
    part_numbered (part.Running r) (member.Import x) of known is = absurd is
    part_numbered (part.Running r) (member.Command x) of known is = absurd is
    part_numbered (part.Running r) (member.Event x) of known is = absurd is
    part_numbered (part.Running r) (member.Channel x) of known is = absurd is
    part_numbered (part.Running r) (member.Param x) of known is = absurd is
    part_numbered (part.Running r) (member.Match x) of known is = absurd is
    part_numbered (part.Def d) x of known is = absurd is
    part_numbered (part.Machine m) x of known is = absurd is
    part_numbered (part.Include i) x of known is = absurd is

  inner_numbered : (p : InterfacePart) (m : WrittenMember) → InnerKnown source scope p → MemberIs source scope (part_of p) m → MemberNumbered m
  inner_numbered (interface_part.General p) (member.Port v) known is = general_numbered p v is known.numbers
  inner_numbered (interface_part.Special p) (member.Port v) known is = record { size = nothing_there v.size is.size; priority = no_priority v.queue is.queue }
  inner_numbered (interface_part.Import i) (member.Import v) known is = tt
  inner_numbered (interface_part.General p) (member.Import x) known is = absurd is
  inner_numbered (interface_part.General p) (member.Command x) known is = absurd is
  inner_numbered (interface_part.General p) (member.Event x) known is = absurd is
  inner_numbered (interface_part.General p) (member.Channel x) known is = absurd is
  inner_numbered (interface_part.General p) (member.Param x) known is = absurd is
  inner_numbered (interface_part.General p) (member.Match x) known is = absurd is
  inner_numbered (interface_part.General p) (member.Running x) known is = absurd is
  inner_numbered (interface_part.Special p) (member.Import x) known is = absurd is
  inner_numbered (interface_part.Special p) (member.Command x) known is = absurd is
  inner_numbered (interface_part.Special p) (member.Event x) known is = absurd is
  inner_numbered (interface_part.Special p) (member.Channel x) known is = absurd is
  inner_numbered (interface_part.Special p) (member.Param x) known is = absurd is
  inner_numbered (interface_part.Special p) (member.Match x) known is = absurd is
  inner_numbered (interface_part.Special p) (member.Running x) known is = absurd is
  inner_numbered (interface_part.Import i) (member.Port x) known is = absurd is
  inner_numbered (interface_part.Import i) (member.Command x) known is = absurd is
  inner_numbered (interface_part.Import i) (member.Event x) known is = absurd is
  inner_numbered (interface_part.Import i) (member.Channel x) known is = absurd is
  inner_numbered (interface_part.Import i) (member.Param x) known is = absurd is
  inner_numbered (interface_part.Import i) (member.Match x) known is = absurd is
  inner_numbered (interface_part.Import i) (member.Running x) known is = absurd is

pub member_numbered : (source : Source)
    → ((scope : Path) (c : Channel) (l : Limit) (v : Value) → IsPart source scope (part.Channel c) → HasLimit c l → Val source scope (opened l.value) v → (n : ℤ) × (number_in v ≡ Some n))
    → (m : WrittenMember) → MemberKnown source m → MemberNumbered m
member_numbered source limits m h = part_numbered source h.scope (limits h.scope) h.of m h.part_of h.known h.is

pub interface_member_numbered : (source : Source) (m : WrittenMember) → InterfaceMemberKnown source m → MemberNumbered m
interface_member_numbered source m h = inner_numbered source h.scope h.of m h.known h.is
