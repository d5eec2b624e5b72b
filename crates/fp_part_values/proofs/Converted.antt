-- What converts where no rule is broken.
use Rattle.std.proofs.Common.{◌≡◌, ◌⊎◌, inl, inr, ℕ, Bool, true, false, not, ◌&&◌, ℤ, List, [], Option, Some, None, refl, sym, ap, ◌∙◌, subst, arith}
use Rattle.std.specs.Prelude.{int_le}
use Rattle.fp_base.proofs.Options.{same_some, no_some}
use Rattle.fp_base.proofs.Bools.{not_both}
use Rattle.fp_base.specs.declared.refusal.Refusal.{Refusal}
use Rattle.fp_base.specs.declared.rule.Rule.TheVariants.{BadConversion, OutsideType}
use Rattle.fp_base.specs.declared.value.Value.{Value, Int, Enumerated, out-Value, out-roll-Value}
use Rattle.fp_base.specs.declared.value.Value.TheVariants.{rolls-Int, rolls-Enumerated}
use Rattle.fp_base.specs.declared.value.Value.TheOpen as value
use Rattle.fp_base.specs.Least.{broken_at, ByOptional, IsUnbroken}
use Rattle.fp_tree.specs.declared.source.Source.{Source}
use Rattle.fp_tree.specs.declared.component.Part.{Part}
use Rattle.fp_tree.specs.declared.component.Part.TheVariants as part
use Rattle.fp_tree.specs.declared.dictionary.Channel.{Channel}
use Rattle.fp_tree.specs.declared.dictionary.Limit.{Limit}
use Rattle.fp_tree.specs.declared.dictionary.Limits.{Limits}
use Rattle.fp_tree.specs.declared.dictionary.ParamDef.{ParamDef}
use Rattle.fp_tree.specs.declared.expression.Expr.{Expr}
use Rattle.fp_tables.specs.Types as types
use Rattle.fp_tables.specs.declared.kind.Kind.{Kind}
use Rattle.fp_tables.specs.declared.kind.Kind.TheVariants as kind
use Rattle.fp_tables.specs.declared.kind.Form.TheVariants as form
use Rattle.fp_meaning.specs.declared.item.Item.TheVariants as item
use Rattle.fp_meaning.specs.Names.{Path}
use Rattle.fp_meaning.specs.Sites.{component, declaration}
use Rattle.fp_meaning.specs.Values.{Val, number_in, opened}
use Rattle.fp_type_sizes.specs.declared.written.WrittenType.{WrittenType}
use Rattle.fp_type_sizes.specs.Sizes.{HasForm, IsPlain, EndsAs, at_plain, at_form, behind_alias, IsInteger, IsOfSize, named, alias}
use Rattle.fp_type_forms.specs.Written.{KindIs}
use Rattle.fp_type_forms.proofs.Represented.{measured}
use Rattle.fp_types.specs.Converting.{Becomes, Converts, IsWithin, Opened, Target, integer, of_kind, plain_target, number, numbered}
use Rattle.fp_types.specs.Converting as converting
use Rattle.fp_types.specs.Faults.{Meets, Misfits, is_number, is_outside, lacks_member, by_range}
use Rattle.fp_types.specs.Faults as faults
use Rattle.fp_part_values.specs.Broken.{BrokenByChannel, BrokenByLimit, BrokenByLimits, BrokenByPart, IsUnfit, PartValuesBroken}
use Rattle.fp_part_values.specs.Standing.{HasLimit, IsPart}
use Rattle.fp_part_values.proofs.Fits.{integer_plain}

-- ---- what is broken in a part

part_broken : (source : Source) (ws : List WrittenType) (scope : Path) (x : Part) → IsPart source scope x → (f : Refusal) → BrokenByPart source ws scope x f → PartValuesBroken source ws f
part_broken source ws scope x h f b =
    (h.at, item.Declared (declaration h.outside (component h.whole)), h.here, (h.place, x, h.there, subst (λ (s : Path). BrokenByPart source ws s x f) h.inside b))

limit_broken : (source : Source) (ws : List WrittenType) (scope : Path) (c : Channel) (l : Limit) → HasLimit c l → (f : Refusal) → BrokenByLimit source ws scope c.of.form l f
    → BrokenByChannel source ws scope c f
limit_broken source ws scope c l h f b = go h.2
  where
    there : (o : Option Limits) → o ≡ Some h.0 → ByOptional (BrokenByLimits source ws scope c.of.form) o f
    there o is = subst (λ (x : Option Limits). ByOptional (BrokenByLimits source ws scope c.of.form) x f) (sym is) (h.1, l, h.3, b)

    go : (c.low ≡ Some h.0) ⊎ (c.high ≡ Some h.0) → BrokenByChannel source ws scope c f
    go (inl is) = inl (there c.low is)
    go (inr is) = inr (there c.high is)

-- ---- defaults

pub default_unbroken : (source : Source) (ws : List WrittenType) (scope : Path) (p : ParamDef) (e : Expr) (v : Value) (k : Kind) → IsUnbroken (PartValuesBroken source ws)
    → IsPart source scope (part.Param p) → p.default ≡ Some e → Val source scope (opened e) v → KindIs source scope p.of.form k
    → IsUnbroken (Misfits ws e.at.first (converting.opened v) (of_kind k))
default_unbroken source ws scope p e v k unbroken at is val kinded f m =
    unbroken f (part_broken source ws scope (part.Param p) at f (subst (λ (x : Option Expr). ByOptional (IsUnfit source ws scope (KindIs source scope p.of.form)) x f) (sym is) (v, k, val, kinded, m)))

-- ---- a number and an integer type

opens_int : (n : ℤ) → converting.opened (Int n) ≡ value.Int n
opens_int n = ap out-Value (sym (rolls-Int n)) ∙ out-roll-Value (value.Int n)

opens_enumerated : (of name : List ℕ) (n : ℤ) → converting.opened (Enumerated of name n) ≡ value.Enumerated of name n
opens_enumerated of name n = ap out-Value (sym (rolls-Enumerated of name n)) ∙ out-roll-Value (value.Enumerated of name n)

-- either form of a number
with_number : (P : Opened → Type 0) (v : Value) (n : ℤ) → number_in v ≡ Some n → P (value.Int n) → ((of name : List ℕ) → P (value.Enumerated of name n)) → P (converting.opened v)
with_number P (Int m) n is int enumerated = subst P (sym (opens_int m)) (subst (λ (x : ℤ). P (value.Int x)) (sym (same_some is)) int)
with_number P (Enumerated of name m) n is int enumerated =
    subst P (sym (opens_enumerated of name m)) (subst (λ (x : ℤ). P (value.Enumerated of name x)) (sym (same_some is)) (enumerated of name))
with_number P v n is int enumerated = no_some is

lacks_none : (o : Opened) (t : Target) → is_number o ≡ true → lacks_member o t ≡ true → ⊥
lacks_none (value.Int n) t h e = not_both e refl
lacks_none (value.Enumerated of name n) t h e = not_both e refl
lacks_none o t h e = not_both h refl

no_member : {ws : List WrittenType} {o : Opened} {t : Target} → is_number o ≡ true → Meets ws lacks_member o t → ⊥
no_member {o = o} {t = t} h (faults.here e) = lacks_none o t h e
no_member h (faults.in_part i long at m) = not_both h refl
no_member h (faults.in_member i at is m) = not_both h refl
no_member h (faults.single_in_part s m) = no_member h m
no_member h (faults.single_in_member i s at m) = no_member h m
no_member h (faults.in_plain p m) = no_member h m
no_member h (faults.in_named f s m) = no_member h m

abbrev shape_target : types.Shape → Target
shape_target (types.integer low high) = integer low high
shape_target s = converting.opaque

plain_range : (k : Kind) (low high : ℤ) → types.shape [] k ≡ types.integer low high → plain_target k ≡ integer low high
plain_range kind.U8 low high e = ap shape_target e
plain_range kind.U16 low high e = ap shape_target e
plain_range kind.U32 low high e = ap shape_target e
plain_range kind.U64 low high e = ap shape_target e
plain_range kind.I8 low high e = ap shape_target e
plain_range kind.I16 low high e = ap shape_target e
plain_range kind.I32 low high e = ap shape_target e
plain_range kind.I64 low high e = ap shape_target e
plain_range kind.Bool low high e = absurd (cc)
plain_range (kind.Str size) low high e = absurd (cc)
plain_range (kind.Named i) low high e = absurd (cc)

alias_size : {ws : List WrittenType} {i : ℕ} {k e : Kind} → HasForm ws i (form.Alias k) → EndsAs ws k e → IsPlain e → IsOfSize ws (kind.Named i)
alias_size f r p = (1, 1, named f (alias (measured r p)), omega arith, omega arith)

met_through : {ws : List WrittenType} {k e : Kind} {test : Opened → Target → Bool} {o : Opened} → EndsAs ws k e → IsPlain e → Meets ws test o (plain_target e) → Meets ws test o (of_kind k)
met_through (at_plain p) h m = faults.in_plain p m
met_through (at_form f n) h m = absurd h
met_through (behind_alias f r) h m = faults.in_named f (alias_size f r h) (met_through r h m)

made_through : {ws : List WrittenType} {k e : Kind} {o : Opened} {w : Value} → EndsAs ws k e → IsPlain e → Becomes ws o (plain_target e) w → Becomes ws o (of_kind k) w
made_through (at_plain p) h m = converting.in_plain p m
made_through (at_form f n) h m = absurd h
made_through (behind_alias f r) h m = converting.in_named f (alias_size f r h) (made_through r h m)

module _ (ws : List WrittenType) (v : Value) (n : ℤ) (is : number_in v ≡ Some n) (k : Kind) (low high : ℤ) (t : IsInteger ws k low high) where
  range : plain_target t.0 ≡ integer low high
  range = plain_range t.0 low high t.2

  here_plain : IsPlain t.0
  here_plain = integer_plain t.0 low high t.2

  numbered_value : is_number (converting.opened v) ≡ true
  numbered_value = with_number (λ (o : Opened). is_number o ≡ true) v n is refl (λ of name. refl)

  converts_within : IsWithin low high n → Converts ws v k (Int n)
  converts_within h =
      made_through t.1 here_plain
      (subst (λ (x : Target). Becomes ws (converting.opened v) x (Int n)) (sym range)
      (with_number (λ (o : Opened). Becomes ws o (integer low high) (Int n)) v n is (number h) (λ of name. numbered h)))

  outside : (int_le low n && int_le n high) ≡ false → Meets ws is_outside (converting.opened v) (of_kind k)
  outside h =
      met_through t.1 here_plain
      (subst (λ (x : Target). Meets ws is_outside (converting.opened v) x) (sym range)
      (with_number (λ (o : Opened). Meets ws is_outside o (integer low high)) v n is (faults.here (ap not h)) (λ of name. faults.here (ap not h))))

-- ---- limits

module _ (source : Source) (ws : List WrittenType) (scope : Path) (c : Channel) (l : Limit) (v : Value) (unbroken : IsUnbroken (PartValuesBroken source ws))
    (at : IsPart source scope (part.Channel c)) (there : HasLimit c l) (val : Val source scope (opened l.value) v) where
  never : (f : Refusal) → BrokenByLimit source ws scope c.of.form l f → ⊥
  never f b = unbroken f (part_broken source ws scope (part.Channel c) at f (limit_broken source ws scope c l there f b))

  pub limit_number : (n : ℤ) × (number_in v ≡ Some n)
  limit_number = go (number_in v) refl
    where
      go : (o : Option ℤ) → number_in v ≡ o → (n : ℤ) × (number_in v ≡ Some n)
      go None is = absurd (never (broken_at BadConversion l.value.at.first) (inl (refl, v, val, is)))
      go (Some n) is = (n, is)

  pub limit_converts : (n : ℤ) (k : Kind) (low high : ℤ) → number_in v ≡ Some n → KindIs source scope c.of.form k → IsInteger ws k low high → IsWithin low high n × Converts ws v k (Int n)
  limit_converts n k low high is kinded t = go (int_le low n && int_le n high) refl
    where
      go : (b : Bool) → (int_le low n && int_le n high) ≡ b → IsWithin low high n × Converts ws v k (Int n)
      go true h = (h, converts_within ws v n is k low high t h)
      go false h =
          absurd (never (broken_at OutsideType l.value.at.first)
          (inr (v, k, val, (kinded, (low, high, t)), by_range (no_member (numbered_value ws v n is k low high t)) (outside ws v n is k low high t h))))
