-- No state has two transitions on one signal.
use Rattle.std.proofs.Common.{◌≡◌, ℕ, ◌<◌, true, List, map, slice_get, Option, Some, None, is_some, refl, sym, ap, ◌∙◌}
use Rattle.std.specs.Option.{option_map, unwrap_or}
use Rattle.std.proofs.lemmas.Option.{slice_get-map}
use Rattle.fp_base.proofs.Options.{mapped_some, one_some, then_some}
use Rattle.fp_tree.specs.declared.name.Name.{Name}
use Rattle.fp_tree.specs.declared.machine.BehaviorElement.{BehaviorElement}
use Rattle.fp_tree.specs.declared.machine.ElementForm.{ElementForm}
use Rattle.fp_tree.specs.declared.machine.ElementForm.TheVariants as element
use Rattle.fp_tree.specs.declared.machine.OnSignal.{OnSignal}
use Rattle.fp_tree.specs.declared.machine.TypedName.{TypedName}
use Rattle.fp_tables.specs.Names.{numbers_differ}
use Rattle.fp_tables.specs.declared.machine.On.{On}
use Rattle.fp_machine_rules.specs.Members.{same_place}
use Rattle.fp_machine_rules.specs.Repeated.{Key, Repeats, declared_signal, in_parent, key_by, signal_of}
use Rattle.fp_machines.specs.Outline.{number, outline, outlined, own_number}
use Rattle.fp_machines.specs.Scopes as scopes
use Rattle.fp_machines.specs.Scopes.{signal_named}
use Rattle.fp_machines.specs.Steps.{laid_form}
use Rattle.fp_machines.specs.Made.{is_signal, on_in, on_with, signal_in, signal_meant, signal_number, transitions_of}
use Rattle.fp_sound_parts.proofs.Corresponding.{items}
use Rattle.fp_sound_parts.proofs.Counts.{same_parents}
use Rattle.fp_sound_parts.proofs.Declaring.{signal_same}
use Rattle.fp_sound_parts.proofs.Meant.{found_at, signal_is}
use Rattle.fp_sound_parts.proofs.Parts.{parts_differ}
use Rattle.fp_sound_parts.proofs.Vertices.{item_here, number_once}

-- the element of a transition of a state, and the position of the signal that it is on
pub record IsOnAt (es : List BehaviorElement) (p : Option ℕ) (e : BehaviorElement) (y : On) : Type 0 where
  pub on : OnSignal
  pub form : e.form ≡ element.On on
  pub signal : ℕ
  pub meant : signal_named es (outline es) on.signal ≡ Some signal
  pub is : on_with es p on (signal_number es signal) ≡ y

module _ (es : List BehaviorElement) where
  pub on_at : (p : Option ℕ) (e : BehaviorElement) (y : On) → on_in es p e.form ≡ Some y → IsOnAt es p e y
  on_at p e y h = go e.form refl h
    where
      go : (f : ElementForm) → e.form ≡ f → on_in es p f ≡ Some y → IsOnAt es p e y
      go (element.On o) is h =
          let m = mapped_some (on_with es p o) (signal_meant es o.signal) y h in
          let s = mapped_some (signal_number es) (signal_named es (outline es) o.signal) m.0 m.1 in
          record { on = o; form = is; signal = s.0; meant = s.1; is = ap (on_with es p o) s.2 ∙ m.2 }
      go (element.State n) is h = absurd cc
      go (element.Choice n) is h = absurd cc
      go (element.Initial n) is h = absurd cc
      go (element.Signal n) is h = absurd cc
      go (element.Action n) is h = absurd cc
      go (element.Guard n) is h = absurd cc
      go (element.Entry n) is h = absurd cc
      go (element.Exit n) is h = absurd cc

  -- names of one signal are one name
  one_name : (a b : Name) (v : ℕ) → signal_named es (outline es) a ≡ Some v → signal_named es (outline es) b ≡ Some v → own_number es a.text ≡ own_number es b.text
  one_name a b v h k =
      let s = then_some (scopes.signal_meant (outline es)) (number es a.text) v h in
      let t = then_some (scopes.signal_meant (outline es)) (number es b.text) v k in
      let f = found_at es declared_signal None s.0 v s.2 in
      let g = found_at es declared_signal None t.0 v t.2 in
      let same : f.element ≡ g.element = one_some (slice_get es v) f.element g.element f.here g.here in
      let one : s.0 ≡ t.0 =
      one_some (declared_signal (outlined es g.element.form)) s.0 t.0 (ap (λ (e : BehaviorElement). declared_signal (outlined es e.form)) (sym same) ∙ f.has) g.has in
      ap (λ (o : Option ℕ). unwrap_or o 0) s.1 ∙ (one ∙ sym (ap (λ (o : Option ℕ). unwrap_or o 0) t.1))

  signal_passes : (f : ElementForm) (t : TypedName) → signal_in f ≡ Some t → is_signal f ≡ true
  signal_passes f t e = sym (signal_same f) ∙ ap (λ (o : Option TypedName). is_some o) e

  one_signal : (a b : Name) (v w : ℕ) → signal_named es (outline es) a ≡ Some v → signal_named es (outline es) b ≡ Some w → signal_number es v ≡ signal_number es w → v ≡ w
  one_signal a b v w h k e =
      let d = signal_is es a v h in let f = signal_is es b w k in
      number_once is_signal es v w d.element f.element d.here (signal_passes d.element.form d.of d.has) f.here (signal_passes f.element.form f.of f.has) e

  on_key : (v : ℕ) (p : Option ℕ) (e : BehaviorElement) (o : OnSignal) → slice_get es v ≡ Some e → e.form ≡ element.On o → e.parent ≡ p
      → slice_get (map (key_by signal_of) (items es)) v ≡ Some (Some (p, own_number es o.signal.text))
  on_key v p e o h f q =
      slice_get-map (key_by signal_of) (items es) v
      ∙ (ap (option_map (key_by signal_of)) (item_here es v e h)
      ∙ ap Some (ap (λ (g : ElementForm). in_parent e.parent (signal_of (laid_form es (outline es) e.parent g))) f ∙ ap (λ (q : Option ℕ). in_parent q (Some (own_number es o.signal.text))) q))

  pub signals_apart : ((v : ℕ) → Repeats signal_of (items es) v → ⊥) → (p : Option ℕ) → numbers_differ (map (λ (o : On). o.signal) (transitions_of es p)) ≡ true
  signals_apart never p =
      parts_differ (λ (e : BehaviorElement). same_place p e.parent) (λ (e : BehaviorElement). on_in es p e.form) (λ (o : On). o.signal) es each
    where
      each : (i j : ℕ) (d e : BehaviorElement) (y z : On) → i < j → slice_get es i ≡ Some d → slice_get es j ≡ Some e → same_place p d.parent ≡ true → same_place p e.parent ≡ true
          → on_in es p d.form ≡ Some y → on_in es p e.form ≡ Some z → y.signal ≡ z.signal → ⊥
      each i j d e y z less h k s t f g same =
          let a = on_at p d y f in
          let b = on_at p e z g in
          let numbers : signal_number es a.signal ≡ signal_number es b.signal = ap (λ (o : On). o.signal) a.is ∙ (same ∙ ap (λ (o : On). o.signal) (sym b.is)) in
          let one : a.signal ≡ b.signal = one_signal a.on.signal b.on.signal a.signal b.signal a.meant b.meant numbers in
          let names : own_number es a.on.signal.text ≡ own_number es b.on.signal.text = one_name a.on.signal b.on.signal a.signal a.meant (b.meant ∙ ap Some (sym one)) in
          never j (record {
            earlier = i;
            before = less;
            same = (p, own_number es b.on.signal.text);
            there = on_key i p d a.on h a.form (same_parents p d.parent s) ∙ ap (λ (n : ℕ). keyed p n) names;
            here = on_key j p e b.on k b.form (same_parents p e.parent t);
          })
        where
          keyed : Option ℕ → ℕ → Option (Option Key)
          keyed p n = Some (Some (p, n))
