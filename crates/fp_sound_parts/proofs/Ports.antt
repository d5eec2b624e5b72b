-- A port that is resolved from one which breaks no rule: its formals, its role, its definition and its size.
use Rattle.std.proofs.Common.{◌≡◌, ℕ, ◌⊎◌, inl, inr, pos, Bool, true, not, ◌||◌, List, [], length, map, Option, Some, None, refl, sym, ap, ◌∙◌, subst}
use Rattle.std.specs.Prelude.{is_none, is_some, nat_le, nat_lt, option_and_then, option_map, slice_get}
use Rattle.std.specs.Str.{bytes_eq}
use Rattle.std.proofs.lemmas.Option.{slice_get-map, slice_get_within}
use Rattle.fp_base.specs.Least.{IsUnbroken, broken_at}
use Rattle.fp_base.specs.Same.{same_list}
use Rattle.fp_base.specs.declared.rule.Rule.TheVariants.{AsyncWithReturn, PortSize, SpecialPort}
use Rattle.fp_base.proofs.Bytes.{bytes_same}
use Rattle.fp_base.proofs.Numbers.{below_told}
use Rattle.fp_tables.specs.Components.{definition_of, has_its_formals, internal_is_later, is_from_1_to, is_later, same_formal, special_in, suits_its_role, waits, waits_for_no_result}
use Rattle.fp_tables.specs.Lists.{if_some, some_and}
use Rattle.fp_tables.specs.declared.kind.Formal.{Formal}
use Rattle.fp_tables.specs.declared.kind.Kind.{Kind}
use Rattle.fp_tables.specs.declared.kind.PortDef.{PortDef}
use Rattle.fp_tables.specs.declared.component.Way.{Way}
use Rattle.fp_tables.specs.declared.component.Way.TheVariants.{Later, Sync, Guarded}
use Rattle.fp_tables.specs.declared.component.Special as special
use Rattle.fp_tables.specs.declared.component.Role.{Role}
use Rattle.fp_tables.specs.declared.component.Role.TheVariants as role
use Rattle.fp_tables.specs.declared.component.Port.{Port}
use Rattle.fp_written_parts.specs.declared.port.Given.{Given}
use Rattle.fp_written_parts.specs.declared.port.QueueWords.{QueueWords}
use Rattle.fp_written_parts.specs.declared.port.WrittenFormal.{WrittenFormal}
use Rattle.fp_written_parts.specs.declared.port.WrittenPort.{WrittenPort}
use Rattle.fp_written_parts.specs.declared.port.WrittenPortDef.{WrittenPortDef}
use Rattle.fp_written_parts.specs.declared.port.WrittenRole.{WrittenRole}
use Rattle.fp_written_parts.specs.declared.port.WrittenRole.TheVariants.{AsyncInput, SyncInput, GuardedInput, Output, Special, Internal}
use Rattle.fp_component_rules.specs.Firsts.{is_asynchronous}
use Rattle.fp_component_rules.specs.PortBroken.{BrokenDefinition, BrokenSize, HasResult}
use Rattle.fp_components.specs.Resolved.{AreDefined, ArePortFormals, IsLater, IsNumber, IsRole, PortIs, formals_of, port_def_of}
use Rattle.fp_sound_parts.specs.Ready.{DefinitionSuits}
use Rattle.fp_sound_parts.proofs.Single.{formals_itself, size_from_1}

-- ---- roles

pub later_is : (q : QueueWords) (way : Way) → IsLater q way → is_later way ≡ true
later_is q (Later priority full) h = refl
later_is q Sync h = absurd h
later_is q Guarded h = absurd h

pub later_inside : (r : WrittenRole) (q : QueueWords) (to : Role) → IsRole r q to → internal_is_later to ≡ true
later_inside AsyncInput q to (way, same, later) = ap internal_is_later same
later_inside SyncInput q to same = ap internal_is_later same
later_inside GuardedInput q to same = ap internal_is_later same
later_inside Output q to same = ap internal_is_later same
later_inside (Special s) q to same = ap internal_is_later same
later_inside Internal q to (way, same, later) = ap internal_is_later same ∙ later_is q way later

-- what isn't asynchronous doesn't wait
pub quiet : (r : WrittenRole) (q : QueueWords) (to : Role) → IsRole r q to → (is_asynchronous r ≡ true → ⊥) → not (waits to) ≡ true
quiet AsyncInput q to h none = absurd (none refl)
quiet SyncInput q to same none = ap (λ (x : Role). not (waits x)) same
quiet GuardedInput q to same none = ap (λ (x : Role). not (waits x)) same
quiet Output q to same none = ap (λ (x : Role). not (waits x)) same
quiet (Special s) q to same none = ap (λ (x : Role). not (waits x)) same
quiet Internal q to h none = absurd (none refl)

not_special : {P : Type 0} (to from : Role) (s : special.Special) → to ≡ from → special_in from ≡ None → special_in to ≡ Some s → P
not_special to from s same none e = let h : special_in to ≡ None = ap special_in same ∙ none in absurd (cc)

pub special_back : (r : WrittenRole) (q : QueueWords) (to : Role) → IsRole r q to → (s : special.Special) → special_in to ≡ Some s → r ≡ Special s
special_back AsyncInput q to (way, same, later) s e = not_special to (role.Input way) s same refl e
special_back SyncInput q to same s e = not_special to (role.Input Sync) s same refl e
special_back GuardedInput q to same s e = not_special to (role.Input Guarded) s same refl e
special_back Output q to same s e = not_special to role.Output s same refl e
special_back (Special t) q to same s e = let h : special_in to ≡ Some t = ap special_in same in let k : t ≡ s = cc in ap Special k
special_back Internal q to (way, same, later) s e = not_special to (role.Internal way) s same refl e

-- ---- a port

module _ (definitions : List WrittenPortDef) where
  abbrev pub defined : List PortDef
  defined = map port_def_of definitions

  definition_at : (k : ℕ) (d : WrittenPortDef) → slice_get definitions k ≡ Some d → slice_get defined k ≡ Some (port_def_of d)
  definition_at k d e = slice_get-map port_def_of definitions k ∙ ap (option_map port_def_of) e

  -- the definition of a port, where it has one
  abbrev of_port : Option ℕ → Option PortDef
  of_port o = option_and_then (slice_get defined) o

  same_formals : (o : Option ℕ) (fs : List Formal) → AreDefined definitions o fs → if_some (λ (d : PortDef). same_list same_formal fs d.formals) (of_port o) ≡ true
  same_formals None fs h = refl
  same_formals (Some k) fs (d, at, same) =
      ap (if_some (λ (x : PortDef). same_list same_formal fs x.formals)) (definition_at k d at)
      ∙ ap (λ (gs : List Formal). same_list same_formal gs (formals_of d.formals)) same ∙ formals_itself (formals_of d.formals)

  some_or_no_formals : (o : Option ℕ) (fs : List Formal) → AreDefined definitions o fs → (is_some o || nat_le (length fs) 0) ≡ true
  some_or_no_formals None fs h = ap (λ (gs : List Formal). nat_le (length gs) 0) h
  some_or_no_formals (Some k) fs h = refl

  of_its_kind : (s : special.Special) (o : Option ℕ) (fs : List Formal) → AreDefined definitions o fs → (o ≡ None → ⊥) → DefinitionSuits definitions (Special s) o
      → some_and (λ (d : PortDef). bytes_eq d.name (definition_of s)) (of_port o) ≡ true
  of_its_kind s None fs h there suits = absurd (there refl)
  of_its_kind s (Some k) fs (d, at, same) there suits =
      ap (some_and (λ (x : PortDef). bytes_eq x.name (definition_of s))) (definition_at k d at) ∙ bytes_same d.name (definition_of s) (suits k d refl at)

  no_result : (o : Option Kind) → (is_some o ≡ true → ⊥) → is_none o ≡ true
  no_result None h = refl
  no_result (Some k) h = absurd (h refl)

  without_result : (o : Option ℕ) (fs : List Formal) → AreDefined definitions o fs → (HasResult definitions o → ⊥) → if_some (λ (d : PortDef). is_none d.result) (of_port o) ≡ true
  without_result None fs h none = refl
  without_result (Some k) fs (d, at, same) none =
      ap (if_some (λ (x : PortDef). is_none x.result)) (definition_at k d at) ∙ no_result d.result (λ is. none (k, d, refl, at, is))

  definition_lies : (o : Option ℕ) (fs : List Formal) → AreDefined definitions o fs → if_some (λ k. nat_lt k (length defined)) o ≡ true
  definition_lies None fs h = refl
  definition_lies (Some k) fs (d, at, same) = below_told k (length defined) (slice_get_within defined k (port_def_of d) (definition_at k d at))

  module _ (p : WrittenPort) (q : Port) (is : PortIs definitions p q) where
    from_definition : (r : WrittenRole) (fs : List Formal) → ArePortFormals definitions r p fs → ((r ≡ Internal) × (fs ≡ formals_of p.formals)) ⊎ AreDefined definitions p.of fs
    from_definition AsyncInput fs h = inr h
    from_definition SyncInput fs h = inr h
    from_definition GuardedInput fs h = inr h
    from_definition Output fs h = inr h
    from_definition (Special s) fs h = inr h
    from_definition Internal fs h = inl (refl, h)

    abbrev Formed : Type 0
    Formed = ((p.role ≡ Internal) × (q.formals ≡ formals_of p.formals)) ⊎ AreDefined definitions p.of q.formals

    formed : Formed
    formed = from_definition p.role q.formals is.formals

    -- its parameters are its own where it is internal, and else those of a definition, if there are any
    pub with_formals : (Q : List WrittenFormal → Type 0) → Q [] → (p.role ≡ Internal → Q p.formals) → ((k : ℕ) (d : WrittenPortDef) → slice_get definitions k ≡ Some d → Q d.formals)
        → (fs : List WrittenFormal) × (q.formals ≡ formals_of fs) × Q fs
    with_formals Q empty inside given = go formed
      where
        of_definition : (o : Option ℕ) → AreDefined definitions o q.formals → (fs : List WrittenFormal) × (q.formals ≡ formals_of fs) × Q fs
        of_definition None h = ([], h, empty)
        of_definition (Some k) (d, at, same) = (d.formals, same, given k d at)

        go : Formed → (fs : List WrittenFormal) × (q.formals ≡ formals_of fs) × Q fs
        go (inl (internal, same)) = (p.formals, same, inside internal)
        go (inr h) = of_definition p.of h

    there : AreDefined definitions p.of q.formals → AreDefined definitions q.of q.formals
    there h = subst (λ (o : Option ℕ). AreDefined definitions o q.formals) (sym is.of) h

    pub size_good : IsUnbroken (BrokenSize p.size) → is_from_1_to 1024 q.size ≡ true
    size_good unbroken = go p.size is.size unbroken
      where
        go : (g : Option Given) → IsNumber (pos 1) g (pos q.size) → IsUnbroken (BrokenSize g) → is_from_1_to 1024 q.size ≡ true
        go None h u = let same : q.size ≡ 1 = cc in ap (is_from_1_to 1024) same
        go (Some g) h u = size_from_1 q.size (λ out. u (broken_at PortSize g.at) (refl, (pos q.size, h, out)))

    -- ---- where its definition suits it

    module _ (suits : DefinitionSuits definitions p.role p.of) where
      no_definition : p.role ≡ Internal → q.of ≡ None
      no_definition internal = is.of ∙ subst (λ (r : WrittenRole). DefinitionSuits definitions r p.of) internal suits

      pub has_formals : has_its_formals defined q ≡ true
      has_formals = go formed
        where
          go : Formed → has_its_formals defined q ≡ true
          go (inl (internal, same)) = ap (λ (o : Option ℕ). if_some (λ (d : PortDef). same_list same_formal q.formals d.formals) (of_port o)) (no_definition internal)
          go (inr h) = same_formals q.of q.formals (there h)

      pub of_lies : if_some (λ k. nat_lt k (length defined)) q.of ≡ true
      of_lies = go formed
        where
          go : Formed → if_some (λ k. nat_lt k (length defined)) q.of ≡ true
          go (inl (internal, same)) = ap (if_some (λ k. nat_lt k (length defined))) (no_definition internal)
          go (inr h) = definition_lies q.of q.formals (there h)

    abbrev suits_as : Role → Bool
    suits_as r = suits_its_role defined (record q { role = r })

    abbrev waits_as : Role → Bool
    waits_as r = waits_for_no_result defined (record q { role = r })

    suits_by : (r : WrittenRole) → IsRole r p.queue q.role → ArePortFormals definitions r p q.formals → DefinitionSuits definitions r p.of
        → IsUnbroken (BrokenDefinition definitions r p.of p.at) → suits_its_role defined q ≡ true
    suits_by AsyncInput (way, same, later) h suits u = ap suits_as same ∙ some_or_no_formals q.of q.formals (there h)
    suits_by SyncInput same h suits u = ap suits_as same ∙ some_or_no_formals q.of q.formals (there h)
    suits_by GuardedInput same h suits u = ap suits_as same ∙ some_or_no_formals q.of q.formals (there h)
    suits_by Output same h suits u = ap suits_as same ∙ some_or_no_formals q.of q.formals (there h)
    suits_by (Special s) same h suits u =
        ap suits_as same
        ∙ of_its_kind s q.of q.formals (there h) (λ none. u (broken_at SpecialPort p.at) (refl, sym is.of ∙ none))
        (subst (λ (o : Option ℕ). DefinitionSuits definitions (Special s) o) (sym is.of) suits)
    suits_by Internal (way, same, later) h suits u = ap suits_as same

    pub suits_role : DefinitionSuits definitions p.role p.of → IsUnbroken (BrokenDefinition definitions p.role p.of p.at) → suits_its_role defined q ≡ true
    suits_role suits u = suits_by p.role is.role is.formals suits u

    later_without : (way : Way) → q.role ≡ role.Input way → IsLater p.queue way → AreDefined definitions p.of q.formals → (HasResult definitions p.of → ⊥) → waits_for_no_result defined q ≡ true
    later_without (Later priority full) same later h none =
        ap waits_as same ∙ without_result q.of q.formals (there h) (λ has. none (subst (HasResult definitions) is.of has))
    later_without Sync same later h none = absurd later
    later_without Guarded same later h none = absurd later

    waits_by : (r : WrittenRole) → IsRole r p.queue q.role → ArePortFormals definitions r p q.formals → IsUnbroken (BrokenDefinition definitions r p.of p.at) → waits_for_no_result defined q ≡ true
    waits_by AsyncInput (way, same, later) h u = later_without way same later h (λ has. u (broken_at AsyncWithReturn p.at) (refl, has))
    waits_by SyncInput same h u = ap waits_as same
    waits_by GuardedInput same h u = ap waits_as same
    waits_by Output same h u = ap waits_as same
    waits_by (Special s) same h u = ap waits_as same
    waits_by Internal (way, same, later) h u = ap waits_as same

    pub waits_without : IsUnbroken (BrokenDefinition definitions p.role p.of p.at) → waits_for_no_result defined q ≡ true
    waits_without u = waits_by p.role is.role is.formals u
