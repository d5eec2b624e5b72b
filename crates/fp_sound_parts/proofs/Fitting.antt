-- The limits of channels have the types of their channels, where neither values nor what is written of components break a rule.
use Rattle.std.proofs.Common.{◌≡◌, ℕ, zero, suc, Bool, true, false, ℤ, List, [], ◌∷◌, ◌++◌, length, slice_get, Option, Some, None, refl, inl, inr, subst}
use Rattle.std.specs.Prelude.{option_map}
use Rattle.fp_topology_forms.proofs.Places.{second_read}
use Rattle.fp_base.specs.declared.value.Value.{Value, Int}
use Rattle.fp_base.specs.Least.{IsUnbroken}
use Rattle.fp_tree.specs.declared.source.Source.{Source}
use Rattle.fp_tree.specs.declared.component.InterfacePart.{InterfacePart}
use Rattle.fp_tree.specs.declared.component.InterfacePart.TheVariants as interface_part
use Rattle.fp_tree.specs.declared.component.Part.{Part}
use Rattle.fp_tree.specs.declared.component.Part.TheVariants as part
use Rattle.fp_tree.specs.declared.dictionary.Channel.{Channel}
use Rattle.fp_tree.specs.declared.dictionary.Limit.{Limit}
use Rattle.fp_tree.specs.declared.dictionary.Limits.{Limits}
use Rattle.fp_tables.specs.Machines.{follow, target, target_by}
use Rattle.fp_tables.specs.declared.kind.Kind.{Kind}
use Rattle.fp_tables.specs.declared.kind.Kind.TheVariants as kind
use Rattle.fp_tables.specs.declared.kind.Form.{Form}
use Rattle.fp_tables.specs.declared.kind.Form.TheVariants as form
use Rattle.fp_tables.specs.declared.kind.TypeDef.{TypeDef}
use Rattle.fp_meaning.specs.declared.item.Item.TheVariants as item
use Rattle.fp_meaning.specs.Layout.{items}
use Rattle.fp_meaning.specs.Names.{Path}
use Rattle.fp_meaning.specs.Sites.{Declaration}
use Rattle.fp_meaning.specs.Values.{Val, number_in, opened}
use Rattle.fp_type_sizes.specs.declared.written.WrittenType.{WrittenType}
use Rattle.fp_type_sizes.specs.Sizes.{HasForm, IsInteger, at_plain, behind_alias}
use Rattle.fp_types.specs.Converting.{Converts, IsWithin}
use Rattle.fp_types.specs.WellWritten.{AllGiven, AreSoundTypes}
use Rattle.fp_types.proofs.AllGiven.{given_at}
use Rattle.fp_type_forms.specs.declared.resolving.Resolution.{Resolution}
use Rattle.fp_type_forms.specs.Written.{KindIs}
use Rattle.fp_part_values.specs.FormBroken.{PartFormsBroken}
use Rattle.fp_part_values.specs.FormStanding.{NumbersStand}
use Rattle.fp_part_values.specs.Broken.{PartValuesBroken, IsIntegerType}
use Rattle.fp_part_values.specs.Standing.{HasLimit, IsPart}
use Rattle.fp_written_parts.specs.declared.dictionary.WrittenChannel.{WrittenChannel}
use Rattle.fp_written_parts.specs.declared.dictionary.WrittenLimit.{WrittenLimit}
use Rattle.fp_written_parts.specs.declared.member.WrittenComponent.{WrittenComponent}
use Rattle.fp_written_parts.specs.declared.member.WrittenInterface.{WrittenInterface}
use Rattle.fp_written_parts.specs.declared.member.WrittenMember.{WrittenMember}
use Rattle.fp_written_parts.specs.declared.member.WrittenMember.TheVariants as member
use Rattle.fp_tables.specs.Types.{is_integer_kind}
use Rattle.fp_dictdefs.specs.Broken.{BrokenLimits}
use Rattle.fp_component_forms.specs.declared.writing.WrittenSource.{WrittenSource}
use Rattle.fp_component_forms.specs.Written.{ChannelIs, IsWrittenSource, LimitIs, MemberIs, SideIs, part_of}
use Rattle.fp_source_parts.specs.Broken.{BrokenBy}
use Rattle.fp_source_parts.specs.Valued.{IsValued}
use Rattle.fp_source_parts.proofs.Members.{interface_member_known, member_known}
use Rattle.fp_sound_parts.specs.Ready.{HasFittingLimits, LimitsFit, OfEachMember}
use Rattle.fp_sound_parts.proofs.Good.{ConvertedHasKind, all_given}
use Rattle.fp_sound_parts.proofs.Well.{sound_well}

-- the laws on parts that are cited here
abbrev pub PartNumbersStand : Type 0
PartNumbersStand =
    (source : Source) → IsUnbroken (PartFormsBroken source) → (k : ℕ) (d : Declaration) → slice_get (items source) k ≡ Some (item.Declared d) → NumbersStand source d.scope d.definition

abbrev pub LimitsConvert : Type 0
LimitsConvert =
    (source : Source) (ws : List WrittenType) (scope : Path) (c : Channel) (l : Limit) (v : Value) (n : ℤ) (k : Kind) (low high : ℤ) → IsUnbroken (PartValuesBroken source ws)
    → IsPart source scope (part.Channel c) → HasLimit c l → Val source scope (opened l.value) v → number_in v ≡ Some n → KindIs source scope c.of.form k → IsInteger ws k low high
    → IsWithin low high n × Converts ws v k (Int n)

-- ---- integer types

plain_integer : (ws : List WrittenType) (k : Kind) → is_integer_kind k ≡ true → IsIntegerType ws k
plain_integer ws kind.U8 e = (_, _, (kind.U8, at_plain tt, refl))
plain_integer ws kind.U16 e = (_, _, (kind.U16, at_plain tt, refl))
plain_integer ws kind.U32 e = (_, _, (kind.U32, at_plain tt, refl))
plain_integer ws kind.U64 e = (_, _, (kind.U64, at_plain tt, refl))
plain_integer ws kind.I8 e = (_, _, (kind.I8, at_plain tt, refl))
plain_integer ws kind.I16 e = (_, _, (kind.I16, at_plain tt, refl))
plain_integer ws kind.I32 e = (_, _, (kind.I32, at_plain tt, refl))
plain_integer ws kind.I64 e = (_, _, (kind.I64, at_plain tt, refl))
plain_integer ws kind.Bool e = absurd (cc)
plain_integer ws (kind.Str size) e = absurd (cc)
plain_integer ws (kind.Named i) e = absurd (cc)

aliased : (ws : List WrittenType) (i : ℕ) (k : Kind) → HasForm ws i (form.Alias k) → IsIntegerType ws k → IsIntegerType ws (kind.Named i)
aliased ws i k h (low, high, (e, ends, is)) = (low, high, (e, behind_alias h ends, is))

module _ (ws : List WrittenType) (types : List TypeDef) (given : AllGiven ws types) where
  -- by the form that is given of a type
  of_form : (onward : Kind → Kind) → ((k : Kind) → is_integer_kind (onward k) ≡ true → IsIntegerType ws k) → (i : ℕ) (o : Option TypeDef) → slice_get types i ≡ o
      → is_integer_kind (follow onward (kind.Named i) (option_map (λ (d : TypeDef). d.form) o)) ≡ true → IsIntegerType ws (kind.Named i)
  of_form onward rest i None at e = absurd (cc)
  of_form onward rest i (Some d) at e = go d.form refl e
    where
      go : (f : Form) → d.form ≡ f → is_integer_kind (follow onward (kind.Named i) (Some f)) ≡ true → IsIntegerType ws (kind.Named i)
      go (form.Alias k) is e = aliased ws i k (subst (λ (f : Form). HasForm ws i f) is (given_at ws types given i d at).0) (rest k e)
      go form.Abstract is e = absurd (cc)
      go (form.Array size element format) is e = absurd (cc)
      go (form.Struct fields) is e = absurd (cc)
      go (form.Enum repr constants) is e = absurd (cc)

  integer_by : (n : ℕ) (k : Kind) → is_integer_kind (target_by types n k) ≡ true → IsIntegerType ws k
  unfolding target_by
  integer_by zero k e = plain_integer ws k e
  integer_by (suc n) (kind.Named i) e = of_form (target_by types n) (integer_by n) i (slice_get types i) refl e
  integer_by (suc n) kind.U8 e = plain_integer ws kind.U8 refl
  integer_by (suc n) kind.U16 e = plain_integer ws kind.U16 refl
  integer_by (suc n) kind.U32 e = plain_integer ws kind.U32 refl
  integer_by (suc n) kind.U64 e = plain_integer ws kind.U64 refl
  integer_by (suc n) kind.I8 e = plain_integer ws kind.I8 refl
  integer_by (suc n) kind.I16 e = plain_integer ws kind.I16 refl
  integer_by (suc n) kind.I32 e = plain_integer ws kind.I32 refl
  integer_by (suc n) kind.I64 e = plain_integer ws kind.I64 refl
  integer_by (suc n) kind.Bool e = absurd (cc)
  integer_by (suc n) (kind.Str size) e = absurd (cc)

-- ---- limits

-- a written limit comes of one of the channel's
pub record LimitKnown (source : Source) (scope : Path) (c : Channel) (w : WrittenLimit) : Type 0 where
  pub limit : Limit
  pub of : HasLimit c limit
  pub high : Bool
  pub is : LimitIs source scope high limit w

joined : {A : Type 0} (xs ys : List A) (P : A → Type 0) → ((k : ℕ) (x : A) → slice_get xs k ≡ Some x → P x) → ((k : ℕ) (y : A) → slice_get ys k ≡ Some y → P y)
    → (k : ℕ) (z : A) → slice_get (xs ++ ys) k ≡ Some z → P z
joined [] ys P front behind k z at = behind k z at
joined (x ∷ xs) ys P front behind zero z at = front 0 z at
joined (x ∷ xs) ys P front behind (suc k) z at = joined xs ys P (λ j. front (suc j)) behind k z at

module _ (source : Source) (scope : Path) where
  of_side : (c : Channel) (high : Bool) (side : Option Limits) (ws : List WrittenLimit)
      → ((ls : Limits) (n : ℕ) (l : Limit) → side ≡ Some ls → slice_get ls.limits n ≡ Some l → HasLimit c l) → SideIs source scope high side ws → (k : ℕ) (w : WrittenLimit) → slice_get ws k ≡ Some w → LimitKnown source scope c w
  of_side c high None ws has are k w at = let l = second_read (LimitIs source scope high) 0 [] ws k w are at in let none = l.here in absurd (cc)
  of_side c high (Some ls) ws has are k w at =
      let l = second_read (LimitIs source scope high) 0 ls.limits ws k w are at in
      record { limit = l.one; of = has ls k l.one refl l.here; high = high; is = l.related }

  limit_known : (c : Channel) (t : WrittenChannel) → ChannelIs source scope c t → (k : ℕ) (w : WrittenLimit) → slice_get t.limits k ≡ Some w → LimitKnown source scope c w
  limit_known c t is k w at =
      let lows = is.limits.0 in
      let highs = is.limits.1 in
      joined lows highs (LimitKnown source scope c) (of_side c false c.low lows (λ ls n l e there. (ls, n, inl e, there)) is.limits.2)
      (of_side c true c.high highs (λ ls n l e there. (ls, n, inr e, there)) is.limits.3) k w (subst (λ (l : List WrittenLimit). slice_get l k ≡ Some w) is.limits.4 at)

-- ---- a channel

-- a limit of a channel whose limits break no rule is of an integer type
limited : (types : List TypeDef) (k : Kind) (ls : List WrittenLimit) → IsUnbroken (BrokenLimits types k ls) → (j : ℕ) (l : WrittenLimit) → slice_get ls j ≡ Some l
    → is_integer_kind (target types k) ≡ true
limited types k ls quiet j l at = go (is_integer_kind (target types k)) refl
  where
    go : (b : Bool) → is_integer_kind (target types k) ≡ b → is_integer_kind (target types k) ≡ true
    go true e = e
    go false e = absurd (quiet _ (j, l, at, (refl, inl e)))

-- a part that a written channel comes of is a channel
pub record ChannelKnown (source : Source) (t : WrittenChannel) : Type 0 where
  pub scope : Path
  pub of : Channel
  pub part_of : IsPart source scope (part.Channel of)
  pub is : ChannelIs source scope of t

channel_of : (source : Source) (scope : Path) (p : Part) (t : WrittenChannel) → IsPart source scope p → MemberIs source scope p (member.Channel t) → ChannelKnown source t
channel_of source scope (part.Channel c) t stands is = record { scope = scope; of = c; part_of = stands; is = is }
channel_of source scope (part.General p) t stands is = absurd is
channel_of source scope (part.Special p) t stands is = absurd is
channel_of source scope (part.Internal p) t stands is = absurd is
channel_of source scope (part.Import p) t stands is = absurd is
channel_of source scope (part.Command p) t stands is = absurd is
channel_of source scope (part.Event p) t stands is = absurd is
channel_of source scope (part.Param p) t stands is = absurd is
channel_of source scope (part.Match p) t stands is = absurd is
channel_of source scope (part.Running p) t stands is = absurd is
channel_of source scope (part.Def p) t stands is = absurd is
channel_of source scope (part.Machine p) t stands is = absurd is
channel_of source scope (part.Include p) t stands is = absurd is

-- what an interface has is no channel
no_channel : (source : Source) (scope : Path) (p : InterfacePart) (t : WrittenChannel) → MemberIs source scope (part_of p) (member.Channel t) → ⊥
no_channel source scope (interface_part.General p) t is = is
no_channel source scope (interface_part.Special p) t is = is
no_channel source scope (interface_part.Import p) t is = is

module _ (source : Source) (ws : List WrittenType) (types : List TypeDef) (given : AllGiven ws types) (sound : AreSoundTypes types) (quiet : IsUnbroken (PartValuesBroken source ws))
    (convert : LimitsConvert) (has_its_kind : ConvertedHasKind) where
  channel_fits : (t : WrittenChannel) → ChannelKnown source t → IsUnbroken (BrokenLimits types t.kind t.limits) → LimitsFit types t
  channel_fits t known unbroken k w n at number =
      let l = limit_known source known.scope known.of t known.is k w at in
      let value = l.is.value.number.holds n number in
      let range = integer_by ws types given (length types) t.kind (limited types t.kind t.limits unbroken k w at) in
      let made = convert source ws known.scope known.of l.limit value.0 n t.kind range.0 range.1 quiet known.part_of l.of value.1 value.2 known.is.kind range.2 in
      has_its_kind ws types value.0 t.kind (Int n) (sound_well ws types given sound) given made.1

-- ---- all of them

module _ (source : Source) (values : List (Option Value)) (resolutions : List Resolution) (ws : List WrittenType) (types : List TypeDef) (w : WrittenSource)
    (valued : IsValued source values resolutions ws types) (are : IsWrittenSource source w) (unbroken : IsUnbroken (BrokenBy types w)) (sound : AreSoundTypes types)
    (stand : PartNumbersStand) (convert : LimitsConvert) (has_its_kind : ConvertedHasKind) where
  numbers : (k : ℕ) (d : Declaration) → slice_get (items source) k ≡ Some (item.Declared d) → NumbersStand source d.scope d.definition
  numbers k d at = stand source valued.forms_unbroken k d at

  of_interface : (v k : ℕ) (f : WrittenInterface) (m : WrittenMember) → slice_get w.interfaces v ≡ Some f → slice_get f.members k ≡ Some m → HasFittingLimits types m
  of_interface v k f (member.Channel t) at there =
      let known = interface_member_known source w are values resolutions valued.resolved valued.valued numbers v k f (member.Channel t) at there in
      absurd (no_channel source known.scope known.of t known.is)
  of_interface v k f (member.Port p) at there = tt
  of_interface v k f (member.Import p) at there = tt
  of_interface v k f (member.Command p) at there = tt
  of_interface v k f (member.Event p) at there = tt
  of_interface v k f (member.Param p) at there = tt
  of_interface v k f (member.Match p) at there = tt
  of_interface v k f (member.Running p) at there = tt

  of_component : (v k : ℕ) (c : WrittenComponent) (m : WrittenMember) → slice_get w.components v ≡ Some c → slice_get c.members k ≡ Some m → HasFittingLimits types m
  of_component v k c (member.Channel t) at there =
      let known = member_known source w are values resolutions valued.resolved valued.valued numbers v k c (member.Channel t) at there in
      let channel = channel_of source known.scope known.of t known.part_of known.is in
      channel_fits source ws types (all_given source values resolutions ws types valued) sound valued.conversions_unbroken convert has_its_kind t channel
      (λ g broken. unbroken g (inr (inl (v, c, at, inr (k, member.Channel t, there, broken)))))
  of_component v k c (member.Port p) at there = tt
  of_component v k c (member.Import p) at there = tt
  of_component v k c (member.Command p) at there = tt
  of_component v k c (member.Event p) at there = tt
  of_component v k c (member.Param p) at there = tt
  of_component v k c (member.Match p) at there = tt
  of_component v k c (member.Running p) at there = tt

  pub limits_fit : OfEachMember w.interfaces w.components (HasFittingLimits types)
  limits_fit = record { of_interfaces = of_interface; of_components = of_component }
