-- In a machine that breaks no rule no two signals, actions or guards have one name, nor two vertices of one state.
use Rattle.std.proofs.Common.{◌≡◌, ℕ, suc, ◌<◌, ◌≤◌, ◌⊎◌, ◌&&◌, ◌==◌, not, Bool, true, List, [], ◌∷◌, map, slice_get, Option, Some, None, is_some, refl, sym, ap, ◌∙◌, inl, inr, arith}
use Rattle.std.specs.Prelude.{option_map}
use Rattle.std.specs.List.{list_any}
use Rattle.std.specs.Str.{bytes_eq}
use Rattle.std.proofs.lemmas.Option.{slice_get-map}
use Rattle.fp_base.proofs.Bools.{both, join, or_cases, not_so}
use Rattle.fp_base.proofs.Options.{mapped_some, same_some}
use Rattle.fp_base.proofs.Sameness.{nat_same, option_same}
use Rattle.fp_base.proofs.Spots.{before_or_not}
use Rattle.fp_base.proofs.Bytes.{same_bytes}
use Rattle.fp_base.specs.Same.{same_option}
use Rattle.fp_tree.specs.declared.machine.BehaviorElement.{BehaviorElement}
use Rattle.fp_tree.specs.declared.machine.ElementForm.{ElementForm}
use Rattle.fp_tree.specs.declared.machine.ElementForm.TheVariants as element
use Rattle.fp_tree.specs.declared.machine.TypedName.{TypedName}
use Rattle.fp_tables.specs.Lists.{apart}
use Rattle.fp_tables.specs.Machines.{siblings_differ}
use Rattle.fp_tables.specs.Names.{texts_differ}
use Rattle.fp_tables.specs.declared.kind.Kind.{Kind}
use Rattle.fp_tables.specs.declared.machine.Named.{Named}
use Rattle.fp_tables.specs.declared.machine.Vertex.{Vertex}
use Rattle.fp_machine_rules.specs.declared.item.Form.{Form}
use Rattle.fp_machine_rules.specs.declared.item.Item.{Item}
use Rattle.fp_machine_rules.specs.Repeated.{Key, Repeats, in_parent, key_by, name_of}
use Rattle.fp_machines.specs.Outline.{outline, own_number}
use Rattle.fp_machines.specs.Steps.{laid_form, laid_item, laid_items}
use Rattle.fp_machines.specs.Made.{declared_from, is_vertex, number_among, vertex_in, vertex_number, vertices_from}
use Rattle.fp_machines.specs.Ordered.{AreInOrder}
use Rattle.fp_sound_parts.proofs.Around.{behind, state_at, state_passes, vertex_parent}
use Rattle.fp_sound_parts.proofs.Vertices.{declared_back, item_here, number_once, number_rises, vertex_back}

-- ---- lists whose items differ

none_any : {A : Type 0} (test : A → Bool) (xs : List A) → ((k : ℕ) (x : A) → slice_get xs k ≡ Some x → test x ≡ true → ⊥) → list_any test xs ≡ true → ⊥
none_any test [] each h = absurd cc
none_any test (x ∷ xs) each h = go (or_cases (test x) (list_any test xs) h) (none_any test xs (λ k y. each (suc k) y))
  where
    go : (test x ≡ true) ⊎ (list_any test xs ≡ true) → (list_any test xs ≡ true → ⊥) → ⊥
    go (inl e) rest = each 0 x refl e
    go (inr e) rest = rest e

pub apart_each : {A : Type 0} (test : A → A → Bool) (xs : List A)
    → ((i j : ℕ) (x y : A) → i < j → slice_get xs i ≡ Some x → slice_get xs j ≡ Some y → test x y ≡ true → ⊥) → apart test xs ≡ true
apart_each test [] each = refl
apart_each test (x ∷ xs) each =
    join (not (list_any (test x) xs)) (apart test xs) (not_so (list_any (test x) xs) (none_any (test x) xs (λ k y. each 0 (suc k) x y (omega arith) refl)))
    (apart_each test xs (λ i j y z l. each (suc i) (suc j) y z (omega arith)))

-- ---- what stands a second time

module _ (es : List BehaviorElement) where
  abbrev items : List Item
  items = laid_items es (outline es)

  -- nothing has by this part what an earlier element of its state has
  abbrev pub NeverTwice : (Form → Option ℕ) → Type 0
  NeverTwice part = (k : ℕ) (x : Item) → slice_get items k ≡ Some x → Repeats part items k → ⊥

  key_at : (part : Form → Option ℕ) (v : ℕ) (e : BehaviorElement) (key : Key) → slice_get es v ≡ Some e → key_by part (laid_item es (outline es) e) ≡ Some key
      → slice_get (map (key_by part) items) v ≡ Some (Some key)
  key_at part v e key h k = slice_get-map (key_by part) items v ∙ (ap (option_map (key_by part)) (item_here es v e h) ∙ ap Some k)

  not_twice : (part : Form → Option ℕ) → NeverTwice part → (a b : ℕ) (d e : BehaviorElement) (key : Key) → a < b → slice_get es a ≡ Some d → slice_get es b ≡ Some e
      → key_by part (laid_item es (outline es) d) ≡ Some key → key_by part (laid_item es (outline es) e) ≡ Some key → ⊥
  not_twice part never a b d e key l g h p q =
      never b (laid_item es (outline es) e) (item_here es b e h)
      (record { earlier = a; before = l; same = key; there = key_at part a d key g p; here = key_at part b e key h q })

  earlier : (test : ElementForm → Bool) (a b i j : ℕ) → i ≡ number_among test es a → j ≡ number_among test es b → i < j → a < b
  earlier test a b i j p q l = go (before_or_not a b)
    where
      go : (a < b) ⊎ (b ≤ a) → a < b
      go (inl k) = k
      go (inr k) = let r = number_rises test es b a k in absurd (omega (arith, r, p, q, l))

  -- ---- signals, actions and guards

  module _ (part : ElementForm → Option TypedName) (test : ElementForm → Bool) (same : (f : ElementForm) → is_some (part f) ≡ test f) (of : Form → Option ℕ) where
    -- the number of its name is that of the name that is declared
    abbrev pub IsSpelledBy : Type 0
    IsSpelledBy = (p : Option ℕ) (f : ElementForm) (t : TypedName) → part f ≡ Some t → of (laid_form es (outline es) p f) ≡ Some (own_number es t.name.text)

    abbrev pub AreOutside : Type 0
    AreOutside = (v : ℕ) (e : BehaviorElement) → slice_get es v ≡ Some e → test e.form ≡ true → e.parent ≡ None

    key_of : IsSpelledBy → AreOutside → (v : ℕ) (e : BehaviorElement) (t : TypedName) → slice_get es v ≡ Some e → test e.form ≡ true → part e.form ≡ Some t
        → key_by of (laid_item es (outline es) e) ≡ Some (None, own_number es t.name.text)
    key_of spelled outside v e t h k p =
        ap (in_parent e.parent) (spelled e.parent e.form t p) ∙ ap (λ (q : Option ℕ). in_parent q (Some (own_number es t.name.text))) (outside v e h k)

    pub declared_differ : IsSpelledBy → AreOutside → NeverTwice of → (kinds : List (Option Kind)) → texts_differ (map (λ (x : Named). x.name) (declared_from part kinds 0 es)) ≡ true
    declared_differ spelled outside never kinds = apart_each bytes_eq (map (λ (x : Named). x.name) (declared_from part kinds 0 es)) twice
      where
        twice : (i j : ℕ) (s t : List ℕ) → i < j → slice_get (map (λ (x : Named). x.name) (declared_from part kinds 0 es)) i ≡ Some s
            → slice_get (map (λ (x : Named). x.name) (declared_from part kinds 0 es)) j ≡ Some t → bytes_eq s t ≡ true → ⊥
        twice i j s t l g h e =
            let m = mapped_some (λ (x : Named). x.name) (slice_get (declared_from part kinds 0 es) i) s (sym (slice_get-map (λ (x : Named). x.name) (declared_from part kinds 0 es) i) ∙ g) in
            let n = mapped_some (λ (x : Named). x.name) (slice_get (declared_from part kinds 0 es) j) t (sym (slice_get-map (λ (x : Named). x.name) (declared_from part kinds 0 es) j) ∙ h) in
            let a = declared_back part test same kinds es i m.0 m.1 in
            let b = declared_back part test same kinds es j n.0 n.1 in
            let first : a.of.name.text ≡ s = ap (λ (x : Named). x.name) a.is ∙ m.2 in
            let second : b.of.name.text ≡ t = ap (λ (x : Named). x.name) b.is ∙ n.2 in
            let one : b.of.name.text ≡ a.of.name.text = second ∙ (sym (same_bytes s t e) ∙ sym first) in
            not_twice of never a.at b.at a.element b.element (None, own_number es a.of.name.text) (earlier test a.at b.at i j a.number b.number l) a.here b.here
            (key_of spelled outside a.at a.element a.of a.here a.passes a.has)
            (key_of spelled outside b.at b.element b.of b.here b.passes b.has ∙ ap (λ (u : List ℕ). Some (None, own_number es u)) one)

-- ---- states and choices

module _ (es : List BehaviorElement) (in_order : AreInOrder (outline es)) where
  -- of one number are the states round two elements only where they are one
  same_parent : (v w : ℕ) (d e : BehaviorElement) → slice_get es v ≡ Some d → slice_get es w ≡ Some e → (p q : Option ℕ) → d.parent ≡ p → e.parent ≡ q
      → option_map (vertex_number es) p ≡ option_map (vertex_number es) q → p ≡ q
  same_parent v w d e g h None None r s k = refl
  same_parent v w d e g h None (Some q) r s k = absurd cc
  same_parent v w d e g h (Some p) None r s k = absurd cc
  same_parent v w d e g h (Some p) (Some q) r s k =
      let a = state_at es p (behind es in_order v p d g r).is_state in
      let b = state_at es q (behind es in_order w q e h s).is_state in
      ap Some (number_once is_vertex es p q a.element b.element a.here (state_passes es p a) b.here (state_passes es q b) (same_some k))

  vertex_key : (v : ℕ) (p : Option ℕ) (f : ElementForm) (x : Vertex) → vertex_in es v p f ≡ Some x → name_of (laid_form es (outline es) p f) ≡ Some (own_number es x.name)
  vertex_key v p (element.State n) x e = ap (λ (y : Vertex). Some (own_number es y.name)) (same_some e)
  vertex_key v p (element.Choice c) x e = ap (λ (y : Vertex). Some (own_number es y.name)) (same_some e)
  vertex_key v p (element.Initial g) x e = absurd cc
  vertex_key v p (element.Signal t) x e = absurd cc
  vertex_key v p (element.Action t) x e = absurd cc
  vertex_key v p (element.Guard t) x e = absurd cc
  vertex_key v p (element.On o) x e = absurd cc
  vertex_key v p (element.Entry d) x e = absurd cc
  vertex_key v p (element.Exit d) x e = absurd cc

  abbrev alike : Vertex → Vertex → Bool
  alike v w = same_option (λ p q. p == q) v.parent w.parent && bytes_eq v.name w.name

  pub vertices_differ : NeverTwice es name_of → siblings_differ (vertices_from es 0 es) ≡ true
  vertices_differ never = apart_each alike (vertices_from es 0 es) twice
    where
      twice : (i j : ℕ) (x y : Vertex) → i < j → slice_get (vertices_from es 0 es) i ≡ Some x → slice_get (vertices_from es 0 es) j ≡ Some y → alike x y ≡ true → ⊥
      twice i j x y l g h e =
          let t = both (same_option (λ p q. p == q) x.parent y.parent) (bytes_eq x.name y.name) e in
          let a = vertex_back es i x g in
          let b = vertex_back es j y h in
          let first = vertex_parent es a.at a.element.parent a.element.form x a.is in
          let second = vertex_parent es b.at b.element.parent b.element.form y b.is in
          let parents : x.parent ≡ y.parent = (option_same (λ m n. m == n) nat_same).equal x.parent y.parent t.0 in
          let one : a.element.parent ≡ b.element.parent =
          same_parent a.at b.at a.element b.element a.here b.here a.element.parent b.element.parent refl refl (sym first ∙ (parents ∙ second)) in
          not_twice es name_of never a.at b.at a.element b.element (a.element.parent, own_number es x.name) (earlier es is_vertex a.at b.at i j a.number b.number l) a.here b.here
          (ap (in_parent a.element.parent) (vertex_key a.at a.element.parent a.element.form x a.is))
          (ap (in_parent b.element.parent) (vertex_key b.at b.element.parent b.element.form y b.is)
          ∙ (ap (λ (q : Option ℕ). in_parent q (Some (own_number es y.name))) (sym one) ∙ ap (λ (u : List ℕ). in_parent a.element.parent (Some (own_number es u))) (sym (same_bytes x.name y.name t.1))))
