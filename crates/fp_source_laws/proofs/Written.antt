-- The places in what is written of ports and components are places of the parts that it is written of.
use Rattle.std.proofs.Common.{◌≡◌, ℕ, suc, Bool, true, false, List, [], ◌∷◌, Option, Some, None, sym, subst}
use Rattle.std.specs.Option.{option_map}
use Rattle.std.specs.List.{AllByRecursion as Each}
use Rattle.fp_base.specs.declared.place.Place.{Place}
use Rattle.fp_base.specs.declared.place.Span.{Span}
use Rattle.fp_base.proofs.Lists.{InOption, each_append, each_before, each_behind}
use Rattle.fp_tree.specs.declared.source.Source.{Source}
use Rattle.fp_tree.specs.declared.expression.Expr.{Expr}
use Rattle.fp_tree.specs.declared.part.Formal.{Formal}
use Rattle.fp_tree.specs.declared.component.Full.{Full}
use Rattle.fp_tree.specs.declared.component.General.{General}
use Rattle.fp_tree.specs.declared.component.Internal.{Internal}
use Rattle.fp_tree.specs.declared.component.Part.{Part}
use Rattle.fp_tree.specs.declared.component.Part.TheVariants as part
use Rattle.fp_tree.specs.declared.component.Running.{Running}
use Rattle.fp_tree.specs.declared.component.Special.{Special}
use Rattle.fp_tree.specs.declared.dictionary.Channel.{Channel}
use Rattle.fp_tree.specs.declared.dictionary.Command.{Command}
use Rattle.fp_tree.specs.declared.dictionary.Event.{Event}
use Rattle.fp_tree.specs.declared.dictionary.Limit.{Limit}
use Rattle.fp_tree.specs.declared.dictionary.Limits.{Limits}
use Rattle.fp_meaning.specs.Names.{Path}
use Rattle.fp_meaning.specs.Sites.{in_optional}
use Rattle.fp_type_forms.specs.Written.{AllAt}
use Rattle.fp_written_parts.specs.declared.port.Given.{Given}
use Rattle.fp_written_parts.specs.declared.port.QueueWords.{QueueWords}
use Rattle.fp_written_parts.specs.declared.port.WrittenFormal.{WrittenFormal}
use Rattle.fp_written_parts.specs.declared.port.WrittenPort.{WrittenPort}
use Rattle.fp_written_parts.specs.declared.dictionary.WrittenChannel.{WrittenChannel}
use Rattle.fp_written_parts.specs.declared.dictionary.WrittenCommand.{WrittenCommand}
use Rattle.fp_written_parts.specs.declared.dictionary.WrittenEvent.{WrittenEvent}
use Rattle.fp_written_parts.specs.declared.dictionary.WrittenLimit.{WrittenLimit}
use Rattle.fp_written_parts.specs.declared.member.WrittenMember.{WrittenMember}
use Rattle.fp_written_parts.specs.declared.member.WrittenMember.TheVariants as member
use Rattle.fp_written_parts.specs.declared.member.WrittenRunning.{WrittenRunning}
use Rattle.fp_component_forms.specs.Written.{BothOrNeither, ChannelIs, CommandIs, EventIs, FormalIs, FormalsAre, GeneralIs, GivenIs, InternalIs, LimitIs, LimitsAre, MemberIs, QueueIs, RunningIs, SideIs, SpecialIs, limits_in}
use Rattle.fp_places.specs.Places.{places_in_formal, places_in_formals, places_in_general, places_in_limit, places_in_limits, places_in_special, places_in_value, places_of_word}
use Rattle.fp_source_laws.proofs.Expressions.{first_of}
use Rattle.fp_source_laws.proofs.Parted.{PartStands, channel_places, command_places, event_places, general_places, internal_places, split}

-- what is read of a list, element by element
pub each_read : {A B : Type 0} (R : A → B → Type 0) (P : A → Type 0) (Q : B → Type 0) → ((x : A) (y : B) → P x → R x y → Q y) → (k : ℕ) (xs : List A) (ys : List B)
    → Each P xs → AllAt (λ position. R) k xs ys → Each Q ys
each_read R P Q one k [] [] h r = tt
each_read R P Q one k [] (y ∷ ys) h r = absurd r
each_read R P Q one k (x ∷ xs) [] h r = absurd r
each_read R P Q one k (x ∷ xs) (y ∷ ys) h r = (one x y h.0 r.0, each_read R P Q one (suc k) xs ys h.1 r.1)

module _ (G : Place → Type 0) where
  -- ---- the places at which rules can be broken

  abbrev pub GivenStands : Given → Type 0
  GivenStands g = G g.at

  abbrev pub FormalStands : WrittenFormal → Type 0
  FormalStands w = G w.at

  abbrev pub LimitStands : WrittenLimit → Type 0
  LimitStands w = G w.at

  pub record QueueStands (q : QueueWords) : Type 0 where
    pub of_priority : InOption GivenStands q.priority
    pub of_word : InOption G q.word

  pub record PortStands (w : WrittenPort) : Type 0 where
    pub here : G w.at
    pub first : G w.begins
    pub of_size : InOption GivenStands w.size
    pub of_formals : Each FormalStands w.formals
    pub of_queue : QueueStands w.queue

  pub record CommandStands (w : WrittenCommand) : Type 0 where
    pub here : G w.at
    pub first : G w.begins
    pub of_formals : Each FormalStands w.formals
    pub of_queue : QueueStands w.queue

  pub record EventStands (w : WrittenEvent) : Type 0 where
    pub here : G w.at
    pub of_formals : Each FormalStands w.formals
    pub of_throttle : InOption GivenStands w.throttle

  pub record ChannelStands (w : WrittenChannel) : Type 0 where
    pub here : G w.at
    pub of_limits : Each LimitStands w.limits

  pub record RunningStands (w : WrittenRunning) : Type 0 where
    pub here : G w.at
    pub first : G w.begins
    pub of_queue : QueueStands w.queue

  abbrev pub MemberStands : WrittenMember → Type 0
  MemberStands (member.Port w) = PortStands w
  MemberStands (member.Import w) = G w.at
  MemberStands (member.Command w) = CommandStands w
  MemberStands (member.Event w) = EventStands w
  MemberStands (member.Channel w) = ChannelStands w
  MemberStands (member.Param w) = G w.at
  MemberStands (member.Match w) = G w.at
  MemberStands (member.Running w) = RunningStands w

  -- ---- from the tree

  word_stands : (o : Option Span) (w : Option Place) → Each G (places_of_word o) → w ≡ option_map (λ (s : Span). s.first) o → InOption G w
  word_stands None w h e = subst (InOption G) (sym e) tt
  word_stands (Some s) w h e = subst (InOption G) (sym e) h.0

  side_places : (o : Option Limits) → Each G (in_optional places_in_limits o) → Each (λ (l : Limit). Each G (places_in_limit l)) (limits_in o)
  side_places None h = tt
  side_places (Some ls) h = split G places_in_limit ls.limits h

  module _ (source : Source) (scope : Path) where
    pub given_stands : (o : Option Expr) (g : Option Given) → Each G (places_in_value o) → BothOrNeither (GivenIs source scope) o g → InOption GivenStands g
    given_stands None None h is = tt
    given_stands None (Some g) h is = absurd is
    given_stands (Some e) None h is = absurd is
    given_stands (Some e) (Some g) h is = subst G (sym is.at) (first_of G e h)

    pub formals_stand : (fs : List Formal) (ws : List WrittenFormal) → Each G (places_in_formals fs) → FormalsAre source scope fs ws → Each FormalStands ws
    formals_stand fs ws h are =
        each_read (FormalIs source scope) (λ (f : Formal). Each G (places_in_formal f)) FormalStands (λ f w k is. subst G (sym is.at) k.0) 0 fs ws (split G places_in_formal fs h) are

    queue_stands : (number : Option Expr) (behavior : Option Full) (place : Option Span) (q : QueueWords)
        → Each G (places_in_value number) → Each G (places_of_word place) → QueueIs source scope number behavior place q → QueueStands q
    queue_stands number behavior place q h k is = record { of_priority = given_stands number q.priority h is.priority; of_word = word_stands place q.word k is.word }

    general_stands : (p : General) (w : WrittenPort) → Each G (places_in_general p) → GeneralIs source scope p w → PortStands w
    general_stands p w h is =
        let fields = general_places G p h in
        record {
          here = subst G (sym is.at) h.1.0;
          first = subst G (sym is.begins) h.0;
          of_size = given_stands p.size w.size fields.0 is.size;
          of_formals = subst (Each FormalStands) (sym is.formals) tt;
          of_queue = queue_stands p.priority p.full p.queue_word w.queue fields.1.0 fields.1.1 is.queue;
        }

    special_stands : (p : Special) (w : WrittenPort) → Each G (places_in_special p) → SpecialIs source scope p w → PortStands w
    special_stands p w h is = record {
      here = subst G (sym is.at) h.1.0;
      first = subst G (sym is.begins) h.0;
      of_size = subst (InOption GivenStands) (sym is.size) tt;
      of_formals = subst (Each FormalStands) (sym is.formals) tt;
      of_queue = subst QueueStands (sym is.queue) (record { of_priority = tt; of_word = tt });
    }

    internal_stands : (p : Internal) (w : WrittenPort) → PartStands G (part.Internal p) → InternalIs source scope p w → PortStands w
    internal_stands p w h is =
        let fields = internal_places G p h in
        record {
          here = subst G (sym is.at) h.1.0;
          first = subst G (sym is.begins) h.0;
          of_size = subst (InOption GivenStands) (sym is.size) tt;
          of_formals = formals_stand p.formals w.formals fields.0 is.formals;
          of_queue = queue_stands p.priority p.full p.queue_word w.queue fields.1.0 fields.1.1 is.queue;
        }

    command_stands : (c : Command) (w : WrittenCommand) → PartStands G (part.Command c) → CommandIs source scope c w → CommandStands w
    command_stands c w h is =
        let fields = command_places G c h in
        record {
          here = subst G (sym is.at) h.1.0;
          first = subst G (sym is.begins) h.0;
          of_formals = formals_stand c.formals w.formals fields.0 is.formals;
          of_queue = queue_stands c.priority c.full c.queue_word w.queue fields.1.1.0 fields.1.1.1 is.queue;
        }

    event_stands : (e : Event) (w : WrittenEvent) → PartStands G (part.Event e) → EventIs source scope e w → EventStands w
    event_stands e w h is =
        let fields = event_places G e h in
        record {
          here = subst G (sym is.at) h.0;
          of_formals = formals_stand e.formals w.formals fields.0 is.formals;
          of_throttle = given_stands e.throttle w.throttle fields.1.1 is.throttle;
        }

    side_stands : (high : Bool) (o : Option Limits) (ws : List WrittenLimit) → Each G (in_optional places_in_limits o) → SideIs source scope high o ws → Each LimitStands ws
    side_stands high o ws h are =
        each_read (LimitIs source scope high) (λ (l : Limit). Each G (places_in_limit l)) LimitStands (λ l w k is. subst G (sym is.at) k.0) 0 (limits_in o) ws (side_places o h) are

    limits_stand : (low high : Option Limits) (ws : List WrittenLimit)
        → Each G (in_optional places_in_limits low) → Each G (in_optional places_in_limits high) → LimitsAre source scope low high ws → Each LimitStands ws
    limits_stand low high ws h k (lows, highs, a, b, e) =
        subst (Each LimitStands) (sym e) (each_append LimitStands lows highs (side_stands false low lows h a) (side_stands true high highs k b))

    channel_stands : (t : Channel) (w : WrittenChannel) → PartStands G (part.Channel t) → ChannelIs source scope t w → ChannelStands w
    channel_stands t w h is =
        let fields = channel_places G t h in
        record { here = subst G (sym is.at) h.0; of_limits = limits_stand t.low t.high w.limits fields.1.1.1.0 fields.1.1.1.1 is.limits }

    running_stands : (r : Running) (w : WrittenRunning) → PartStands G (part.Running r) → RunningIs source scope r w → RunningStands w
    running_stands r w h is = record {
      here = subst G (sym is.at) h.1.0;
      first = subst G (sym is.begins) h.0;
      of_queue = queue_stands r.priority r.full r.queue_word w.queue (each_before G (places_in_value r.priority) (places_of_word r.queue_word) h.1.1)
          (each_behind G (places_in_value r.priority) (places_of_word r.queue_word) h.1.1) is.queue;
    }

    pub member_stands : (p : Part) (w : WrittenMember) → PartStands G p → MemberIs source scope p w → MemberStands w
    member_stands (part.General p) (member.Port w) h is = general_stands p w h is
    member_stands (part.Special p) (member.Port w) h is = special_stands p w h is
    member_stands (part.Internal p) (member.Port w) h is = internal_stands p w h is
    member_stands (part.Import i) (member.Import w) h is = subst G (sym is.at) h.0
    member_stands (part.Command c) (member.Command w) h is = command_stands c w h is
    member_stands (part.Event e) (member.Event w) h is = event_stands e w h is
    member_stands (part.Channel t) (member.Channel w) h is = channel_stands t w h is
    member_stands (part.Param p) (member.Param w) h is = subst G (sym is.at) h.0
    member_stands (part.Match m) (member.Match w) h is = subst G (sym is.at) h.0
    member_stands (part.Running r) (member.Running w) h is = running_stands r w h is
    member_stands p w h is = absurd is
