-- Where neither values nor what is written of components break a rule, components are whole.
use Rattle.std.proofs.Common.{◌≡◌, ℕ, ◌<◌, ◌^◌, ◌-◌, Bool, true, false, ℤ, pos, negsuc, ◌<ℤ◌, ◌⊎◌, List, [], ◌∷◌, ◌++◌, slice_get, Option, Some, None, inl, inr, refl, sym, subst, ◌∙◌, arith}
use Rattle.std.specs.Prelude.{find, int_le}
use Rattle.std.proofs.lemmas.Int.{ints}
use Rattle.std.specs.List.{AllByRecursion as Each}
use Rattle.fp_base.proofs.Bools.{join}
use Rattle.fp_base.proofs.Lists.{each_before, each_behind}
use Rattle.fp_base.specs.declared.format.FormatPiece.{FormatPiece}
use Rattle.fp_base.specs.declared.rule.Rule.{Rule}
use Rattle.fp_base.specs.declared.value.Value.{Value}
use Rattle.fp_base.specs.Least.{ByOptional, IsUnbroken}
use Rattle.fp_tree.specs.declared.source.Source.{Source}
use Rattle.fp_tree.specs.declared.component.General.{General}
use Rattle.fp_tree.specs.declared.component.Part.{Part}
use Rattle.fp_tree.specs.declared.component.Part.TheVariants as part
use Rattle.fp_tree.specs.declared.dictionary.CommandKind.{CommandKind}
use Rattle.fp_tree.specs.declared.dictionary.CommandKind.TheVariants as command_kind
use Rattle.fp_tree.specs.declared.dictionary.Event.{Event}
use Rattle.fp_tree.specs.declared.dictionary.ParamDef.{ParamDef}
use Rattle.fp_tree.specs.declared.expression.Expr.{Expr}
use Rattle.fp_tables.specs.declared.kind.Kind.{Kind}
use Rattle.fp_tables.specs.declared.kind.Kind.TheVariants as kind
use Rattle.fp_tables.specs.declared.kind.TypeDef.{TypeDef}
use Rattle.fp_meaning.specs.Layout.{own_items, type_items, value_items}
use Rattle.fp_meaning.specs.Names.{Path}
use Rattle.fp_meaning.specs.Values.{Val, opened}
use Rattle.fp_formats.specs.Spelling.{IsFormat}
use Rattle.fp_type_sizes.specs.declared.written.WrittenType.{WrittenType}
use Rattle.fp_types.specs.Converting.{Converts, DefaultIs}
use Rattle.fp_type_forms.specs.Written.{KindIs}
use Rattle.fp_part_values.specs.Standing.{IsPart}
use Rattle.fp_written_parts.specs.declared.port.Given.{Given}
use Rattle.fp_written_parts.specs.declared.port.QueueWords.{QueueWords}
use Rattle.fp_written_parts.specs.declared.port.WrittenPort.{WrittenPort}
use Rattle.fp_written_parts.specs.declared.port.WrittenPortDef.{WrittenPortDef}
use Rattle.fp_written_parts.specs.declared.port.WrittenRole.{WrittenRole}
use Rattle.fp_written_parts.specs.declared.port.WrittenRole.TheVariants as role
use Rattle.fp_written_parts.specs.declared.dictionary.WrittenEvent.{WrittenEvent}
use Rattle.fp_written_parts.specs.declared.dictionary.WrittenParam.{WrittenParam}
use Rattle.fp_written_parts.specs.declared.member.WrittenInterface.{WrittenInterface}
use Rattle.fp_written_parts.specs.declared.member.WrittenMember.{WrittenMember}
use Rattle.fp_written_parts.specs.declared.member.WrittenMember.TheVariants as member
use Rattle.fp_written_parts.specs.Giving.{Gives, imported, own}
use Rattle.fp_component_rules.specs.Firsts.{has_port, is_named}
use Rattle.fp_component_rules.specs.Gifts.{GivenAmong}
use Rattle.fp_component_rules.specs.PortBroken as port_rules
use Rattle.fp_dictdefs.specs.Broken as dictionary
use Rattle.fp_dictdefs.specs.Broken.{OutsideAt, is_within}
use Rattle.fp_components.specs.Resolved.{IsDefault}
use Rattle.fp_components.specs.Whole.{IsGivenWithin, IsWholeCommand, IsWholeEvent, IsWholeMember, IsWholeParam, IsWholePort, IsWholeRole, LiesWithin}
use Rattle.fp_component_forms.specs.Written.{DefaultIs as WrittenDefaultIs, EventIs, MemberIs, ParamIs}
use Rattle.fp_source_parts.proofs.Ids.{GivenThere}
use Rattle.fp_source_parts.proofs.Members.{MemberKnown}
use Rattle.fp_source_parts.proofs.Numbered.{MemberNumbered, PortNumbered}
use Rattle.fp_part_values.proofs.Standing.{Stands}
use Rattle.fp_source_types.proofs.Expressed.{Valued as HasValue}
use Rattle.fp_source_parts.proofs.Values.{PartKnown}

-- ---- numbers that are in their ranges

within_by : (low high n : ℤ) → (is_within low high n ≡ false → ⊥) → is_within low high n ≡ true
within_by low high n quiet = go (is_within low high n) refl
  where
    go : (b : Bool) → is_within low high n ≡ b → is_within low high n ≡ true
    go true e = e
    go false e = absurd (quiet e)

-- the same of the rule that is stated by less and greater
within_bounds : (low high n : ℤ) → ((n <ℤ low) ⊎ (high <ℤ n) → ⊥) → is_within low high n ≡ true
within_bounds low high n quiet = join (int_le low n) (int_le n high) (first (int_le low n) refl) (second (int_le n high) refl)
  where
    first : (b : Bool) → int_le low n ≡ b → int_le low n ≡ true
    first true e = e
    first false e = absurd (quiet (inl (omega (arith, ints, e))))

    second : (b : Bool) → int_le n high ≡ b → int_le n high ≡ true
    second true e = e
    second false e = absurd (quiet (inr (omega (arith, ints, e))))

given_within : (rule : Rule) (low high : ℤ) (o : Option Given) → GivenThere o → IsUnbroken (ByOptional (OutsideAt rule low high) o) → IsGivenWithin low high o
given_within rule low high None h quiet = tt
given_within rule low high (Some g) h quiet = (h.0, h.1, within_by low high h.0 (λ e. quiet _ (refl, (h.0, h.1, e))))

given_between : (rule : Rule) (low high : ℤ) (o : Option Given) → GivenThere o → IsUnbroken (ByOptional (port_rules.OutsideAt rule low high) o) → IsGivenWithin low high o
given_between rule low high None h quiet = tt
given_between rule low high (Some g) h quiet = (h.0, h.1, within_bounds low high h.0 (λ out. quiet _ (refl, (h.0, h.1, out))))

-- ---- ports

-- what is written of a port has its numbers, and its definition lies among them
pub record PortOk (definitions : List WrittenPortDef) (p : WrittenPort) : Type 0 where
  pub numbered : PortNumbered p
  pub of : LiesWithin definitions p.of
  pub unbroken : IsUnbroken (port_rules.BrokenPort definitions p)

role_whole : (r : WrittenRole) (q : QueueWords) → GivenThere q.priority → IsUnbroken (port_rules.BrokenQueue r q) → IsWholeRole r q
role_whole role.AsyncInput q h quiet = given_between _ _ _ q.priority h quiet
role_whole role.Internal q h quiet = given_between _ _ _ q.priority h quiet
role_whole role.SyncInput q h quiet = tt
role_whole role.GuardedInput q h quiet = tt
role_whole role.Output q h quiet = tt
role_whole (role.Special s) q h quiet = tt

port_whole : (definitions : List WrittenPortDef) (p : WrittenPort) → PortOk definitions p → IsWholePort definitions p
port_whole definitions p h = record {
  queue = role_whole p.role p.queue h.numbered.priority (λ f b. h.unbroken f (inr (inl b)));
  size = given_between _ _ _ p.size h.numbered.size (λ f b. h.unbroken f (inr (inr b)));
  of = h.of;
}

-- each port that a member gives has what each port member has
abbrev pub OfPorts : (WrittenPort → Type 0) → WrittenMember → Type 0
OfPorts P (member.Port p) = P p
OfPorts P _ = Unit {0}

gives_ok : (P : WrittenPort → Type 0) (interfaces : List WrittenInterface)
    → ((v k : ℕ) (f : WrittenInterface) (m : WrittenMember) → slice_get interfaces v ≡ Some f → slice_get f.members k ≡ Some m → OfPorts P m)
    → {m : WrittenMember} {p : WrittenPort} → Gives interfaces m p → OfPorts P m → P p
gives_ok P interfaces all own h = h
gives_ok P interfaces all (imported {i = i} {f = f} k {m = m} at acyclic there g) h = gives_ok P interfaces all g (all i.interface k f m at there)

pub given_whole : (definitions : List WrittenPortDef) (interfaces : List WrittenInterface) (members : List WrittenMember)
    → ((v k : ℕ) (f : WrittenInterface) (m : WrittenMember) → slice_get interfaces v ≡ Some f → slice_get f.members k ≡ Some m → OfPorts (PortOk definitions) m)
    → ((k : ℕ) (m : WrittenMember) → slice_get members k ≡ Some m → OfPorts (PortOk definitions) m)
    → (p : WrittenPort) → GivenAmong interfaces members p → IsWholePort definitions p
given_whole definitions interfaces members all here p g =
    port_whole definitions p (gives_ok (PortOk definitions) interfaces all g.gives (here g.k g.member g.here))

-- ---- matches

named_of : (name : List ℕ) (x : WrittenPort) (xs : List WrittenPort) (p : WrittenPort) → (find (is_named name) xs ≡ Some p → has_port name xs ≡ true) → (b : Bool) → is_named name x ≡ b
    → find (is_named name) (x ∷ xs) ≡ Some p → has_port name (x ∷ xs) ≡ true
named_of name x xs p rest true t f = rw t refl
named_of name x xs p rest false t f = let behind : find (is_named name) xs ≡ Some p = sym (rw t refl) ∙ f in rw t (rest behind)

pub named_there : (name : List ℕ) (ports : List WrittenPort) (p : WrittenPort) → find (is_named name) ports ≡ Some p → has_port name ports ≡ true
named_there name [] p e = absurd (cc)
named_there name (x ∷ xs) p e = named_of name x xs p (named_there name xs p) (is_named name x) refl e

-- ---- members

command_whole : (k : CommandKind) (q : QueueWords) → GivenThere q.priority → IsUnbroken (dictionary.BrokenQueue k q) → IsWholeCommand k q
command_whole command_kind.Async q h quiet = given_within _ (negsuc (2 ^ 31 - 1)) (pos (2 ^ 31 - 1)) q.priority h quiet
command_whole command_kind.Sync q h quiet = tt
command_whole command_kind.Guarded q h quiet = tt

-- what is asked of the source for each member of a component
pub record MemberOk (source : Source) (ws : List WrittenType) (types : List TypeDef) (definitions : List WrittenPortDef) (m : WrittenMember) : Type 0 where
  pub known : MemberKnown source m
  pub numbered : MemberNumbered m
  pub by_ports : IsUnbroken (port_rules.BrokenMember definitions m)
  pub by_dictionary : IsUnbroken (dictionary.BrokenMember types m)

-- the expression behind `default` among the items of a parameter
default_stands : (source : Source) (scope : Path) (p : ParamDef) → Each (Stands source) (own_items scope (part.Param p)) → Each (Stands source) (value_items scope p.default)
default_stands source scope p h =
    each_behind (Stands source) (type_items 0 scope p.of) (value_items scope p.default)
    (each_before (Stands source) (type_items 0 scope p.of ++ value_items scope p.default) (value_items scope p.id)
    (each_before (Stands source) (type_items 0 scope p.of ++ value_items scope p.default ++ value_items scope p.id) (value_items scope p.set)
    (each_before (Stands source) (type_items 0 scope p.of ++ value_items scope p.default ++ value_items scope p.id ++ value_items scope p.set) (value_items scope p.save) h)))

module _ (source : Source) (ws : List WrittenType) (types : List TypeDef) (definitions : List WrittenPortDef)
    (event_reads : (scope : Path) (e : Event) → IsPart source scope (part.Event e) → (parts : List FormatPiece) × IsFormat e.format.text parts)
    (kind_default : (scope : Path) (p : ParamDef) (k : Kind) → KindIs source scope p.of.form k → (v : Value) × DefaultIs ws k v)
    (converts : (scope : Path) (p : ParamDef) (e : Expr) (v : Value) (k : Kind) → IsPart source scope (part.Param p) → p.default ≡ Some e → Val source scope (opened e) v → KindIs source scope p.of.form k
    → (made : Value) × Converts ws v k made) where
  param_whole : (scope : Path) (p : ParamDef) (w : WrittenParam) → IsPart source scope (part.Param p) → PartKnown source scope (part.Param p) → ParamIs source scope p w → IsWholeParam ws w
  param_whole scope p w of known is = go p.default refl is.default
    where
      -- the default that is written has a value
      value_of : (e : Expr) → p.default ≡ Some e → HasValue source scope e
      value_of e same = first (subst (λ (o : Option Expr). Each (Stands source) (value_items scope o)) same (default_stands source scope p known.values))
        where
          first : Each (Stands source) (value_items scope (Some e)) → HasValue source scope e
          first h = h.0

      go : (o : Option Expr) → p.default ≡ o → WrittenDefaultIs source scope o w.default → IsWholeParam ws w
      go None same h = let d = kind_default scope p w.kind is.kind in (d.0, subst (λ (x : Option Value). IsDefault ws w.kind x d.0) (sym h) d.1)
      go (Some e) same h =
          let v = value_of e same in
          let made = converts scope p e v.0 w.kind of same v.1 is.kind in
          (made.0, subst (λ (x : Option Value). IsDefault ws w.kind x made.0) (sym (h.only v.0 v.1)) made.1)

  event_whole : (scope : Path) (e : Event) (w : WrittenEvent) → IsPart source scope (part.Event e) → EventIs source scope e w → GivenThere w.throttle → IsUnbroken (dictionary.BrokenEvent w) → IsWholeEvent w
  event_whole scope e w of is there quiet =
      let reads = event_reads scope e of in
      record {
        format = (reads.0, subst (λ (text : List ℕ). IsFormat text reads.0) (sym is.format) reads.1);
        throttle = given_within _ (pos 1) (pos (2 ^ 32 - 1)) w.throttle there (λ f b. quiet f (inr b));
      }

  pub member_whole : (m : WrittenMember) → MemberOk source ws types definitions m → IsWholeMember ws m
  member_whole (member.Command c) h = command_whole c.kind c.queue h.numbered.priority (λ f b. h.by_dictionary f (inr b))
  member_whole (member.Event w) h = by_part h.known.of h.known.is h.known.part_of
    where
      by_part : (p : Part) → MemberIs source h.known.scope p (member.Event w) → IsPart source h.known.scope p → IsWholeEvent w
      by_part (part.Event e) is of = event_whole h.known.scope e w of is h.numbered.throttle h.by_dictionary
      by_part (part.Def d) is of = absurd is
      by_part (part.Machine m) is of = absurd is
      by_part (part.General p) is of = absurd is
      by_part (part.Special p) is of = absurd is
      by_part (part.Internal p) is of = absurd is
      by_part (part.Command c) is of = absurd is
      by_part (part.Channel t) is of = absurd is
      by_part (part.Param p) is of = absurd is
      by_part (part.Match m) is of = absurd is
      by_part (part.Running r) is of = absurd is
      by_part (part.Import i) is of = absurd is
      by_part (part.Include i) is of = absurd is
  member_whole (member.Channel t) h = h.numbered.limits
  member_whole (member.Param w) h = by_part h.known.of h.known.is h.known.part_of h.known.known
    where
      by_part : (p : Part) → MemberIs source h.known.scope p (member.Param w) → IsPart source h.known.scope p → PartKnown source h.known.scope p → IsWholeParam ws w
      by_part (part.Param p) is of known = param_whole h.known.scope p w of known is
      by_part (part.Event e) is of known = absurd is
      by_part (part.Def d) is of known = absurd is
      by_part (part.Machine m) is of known = absurd is
      by_part (part.General p) is of known = absurd is
      by_part (part.Special p) is of known = absurd is
      by_part (part.Internal p) is of known = absurd is
      by_part (part.Command c) is of known = absurd is
      by_part (part.Channel t) is of known = absurd is
      by_part (part.Match m) is of known = absurd is
      by_part (part.Running r) is of known = absurd is
      by_part (part.Import i) is of known = absurd is
      by_part (part.Include i) is of known = absurd is
  member_whole (member.Running r) h = given_between _ (negsuc (2 ^ 31 - 1)) (pos (2 ^ 31 - 1)) r.queue.priority h.numbered h.by_ports
  member_whole (member.Port p) h = tt
  member_whole (member.Import i) h = tt
  member_whole (member.Match d) h = tt
