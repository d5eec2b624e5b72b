-- Initial transitions: one in the machine, and one in each state in which states or choices stand.
use Rattle.std.proofs.Common.{◌≡◌, ℕ, zero, suc, ◌==◌, ◌⊎◌, ◌||◌, Bool, true, false, cond, List, [], ◌∷◌, ◌++◌, length, map, flat_map, filter, slice_get, Option, Some, None, is_some, refl, sym, ap, ◌∙◌, inl, inr, arith}
use Rattle.std.specs.List.{cons_option, filter_map, list_any}
use Rattle.std.specs.Option.{option_map}
use Rattle.fp_base.proofs.Options.{one_some, same_some}
use Rattle.fp_base.proofs.Spots.{same_or_other}
use Rattle.fp_base.proofs.Numbers.{same_number, number_itself}
use Rattle.fp_base.proofs.Passing.{any_at}
use Rattle.fp_base.proofs.Bools.{not_both}
use Rattle.fp_tree.specs.declared.machine.BehaviorElement.{BehaviorElement}
use Rattle.fp_tree.specs.declared.machine.ElementForm.{ElementForm}
use Rattle.fp_tree.specs.declared.machine.ElementForm.TheVariants as element
use Rattle.fp_tables.specs.Lists.{some_and}
use Rattle.fp_tables.specs.Machines.{has_its_initial}
use Rattle.fp_tables.specs.declared.machine.Node.TheVariants as node
use Rattle.fp_tables.specs.declared.machine.On.{On}
use Rattle.fp_tables.specs.declared.machine.Step.{Step}
use Rattle.fp_tables.specs.declared.machine.Vertex.{Vertex}
use Rattle.fp_machine_rules.specs.declared.item.Form.{Form}
use Rattle.fp_machine_rules.specs.declared.item.Form.TheVariants as form
use Rattle.fp_machine_rules.specs.declared.item.Item.{Item}
use Rattle.fp_machine_rules.specs.declared.item.Target.{Target}
use Rattle.fp_machine_rules.specs.Forms.{IsState, IsVertex, is_vertex}
use Rattle.fp_machine_rules.specs.Members as members
use Rattle.fp_machine_rules.specs.Members.{StateCountsWrong, initials, names, name_in, same_place, wanted_beside}
use Rattle.fp_machines.specs.Outline.{outline}
use Rattle.fp_machines.specs.Steps.{laid_form, laid_item}
use Rattle.fp_machines.specs.Made as made
use Rattle.fp_machines.specs.Made.{initial_in, initial_of, vertex_number}
use Rattle.fp_machines.specs.Ordered.{AreInOrder}
use Rattle.fp_sound_parts.proofs.Corresponding.{corresponds, items, item_of_vertex, there, vertex_of_item, vertices}
use Rattle.fp_sound_parts.proofs.Parts.{parts}
use Rattle.fp_sound_parts.proofs.Rings.{state_is_vertex}
use Rattle.fp_sound_parts.proofs.Vertices.{item_here, vertex_back}

-- ---- as many among the items as among the elements

module _ (es : List BehaviorElement) (p : Option ℕ) where
  one_counted : (q : Option ℕ) (f : ElementForm) (ts : List Target) (ss : List Step) → length ts ≡ length ss
      → length (members.initial_in (laid_form es (outline es) q f) ++ ts) ≡ length (cons_option (initial_in es p f) ss)
  one_counted q (element.State n) ts ss h = h
  one_counted q (element.Choice n) ts ss h = h
  one_counted q (element.Initial n) ts ss h = ap suc h
  one_counted q (element.Signal n) ts ss h = h
  one_counted q (element.Action n) ts ss h = h
  one_counted q (element.Guard n) ts ss h = h
  one_counted q (element.On n) ts ss h = h
  one_counted q (element.Entry n) ts ss h = h
  one_counted q (element.Exit n) ts ss h = h

  abbrev steps_in : List BehaviorElement → List Step
  steps_in xs = parts (λ (e : BehaviorElement). same_place p e.parent) (λ (e : BehaviorElement). initial_in es p e.form) xs

  all_counted : (xs : List BehaviorElement) → length (initials (map (laid_item es (outline es)) xs) p) ≡ length (steps_in xs)
  all_counted [] = refl
  all_counted (x ∷ xs) = go (same_place p x.parent) (all_counted xs)
    where
      go : (b : Bool) → length (initials (map (laid_item es (outline es)) xs) p) ≡ length (steps_in xs)
          → length (flat_map (λ (y : Item). members.initial_in y.form)
          (cond b (laid_item es (outline es) x ∷ members.members (map (laid_item es (outline es)) xs) p) (members.members (map (laid_item es (outline es)) xs) p)))
          ≡ length (filter_map (λ (e : BehaviorElement). initial_in es p e.form)
          (cond b (x ∷ filter (λ (e : BehaviorElement). same_place p e.parent) xs) (filter (λ (e : BehaviorElement). same_place p e.parent) xs)))
      go true h = one_counted x.parent x.form (initials (map (laid_item es (outline es)) xs) p) (steps_in xs) h
      go false h = h

  first_there : (ys : List Step) → length ys ≡ 1 → is_some (slice_get ys 0) ≡ true
  first_there [] h = absurd (omega (arith, h))
  first_there (y ∷ ys) h = refl

  first_absent : (ys : List Step) → length ys ≡ 0 → is_some (slice_get ys 0) ≡ false
  first_absent [] h = refl
  first_absent (y ∷ ys) h = absurd (omega (arith, h))

  pub begins_where_one : length (initials (items es) p) ≡ 1 → is_some (initial_of es p) ≡ true
  begins_where_one h = first_there (steps_in es) (sym (all_counted es) ∙ h)

  pub begins_where_none : length (initials (items es) p) ≡ 0 → is_some (initial_of es p) ≡ false
  begins_where_none h = first_absent (steps_in es) (sym (all_counted es) ∙ h)

pub surely_equal : (m n : ℕ) → ((m ≡ n → ⊥) → ⊥) → m ≡ n
surely_equal m n h = go (same_or_other m n)
  where
    go : (m ≡ n) ⊎ (m ≡ n → ⊥) → m ≡ n
    go (inl e) = e
    go (inr d) = absurd (h d)

-- ---- names of what stands in a state

-- an item in a state, or in the machine, that has a name there
record NamedIn (xs : List Item) (p : Option ℕ) : Type 0 where
  at : ℕ
  item : Item
  here : slice_get xs at ≡ Some item
  parent : same_place p item.parent ≡ true
  vertex : is_vertex item.form ≡ true

module _ (p : Option ℕ) where
  further : (x : Item) (xs : List Item) → NamedIn xs p → NamedIn (x ∷ xs) p
  further x xs n = record { at = suc n.at; item = n.item; here = n.here; parent = n.parent; vertex = n.vertex }

  by_form : (f : Form) (ns ms : List ℕ) (m : ℕ) → name_in f ++ ns ≡ m ∷ ms → (is_vertex f ≡ true) ⊎ (ns ≡ m ∷ ms)
  by_form (form.State n) ns ms m e = inl refl
  by_form (form.Choice n a b) ns ms m e = inl refl
  by_form (form.Initial t) ns ms m e = inr e
  by_form (form.On a b t) ns ms m e = inr e
  by_form form.Entry ns ms m e = inr e
  by_form form.Exit ns ms m e = inr e
  by_form (form.Declares d) ns ms m e = inr e

  named_in : (xs : List Item) (m : ℕ) (ms : List ℕ) → names xs p ≡ m ∷ ms → NamedIn xs p
  named_in [] m ms e = absurd cc
  named_in (x ∷ xs) m ms e = go (same_place p x.parent) refl e (λ h. further x xs (named_in xs m ms h))
    where
      go : (b : Bool) → same_place p x.parent ≡ b
          → flat_map (λ (y : Item). name_in y.form) (cond b (x ∷ members.members xs p) (members.members xs p)) ≡ m ∷ ms → (names xs p ≡ m ∷ ms → NamedIn (x ∷ xs) p) → NamedIn (x ∷ xs) p
      go false is e rest = rest e
      go true is e rest = by (by_form x.form (names xs p) ms m e)
        where
          by : (is_vertex x.form ≡ true) ⊎ (names xs p ≡ m ∷ ms) → NamedIn (x ∷ xs) p
          by (inl v) = record { at = 0; item = x; here = refl; parent = is; vertex = v }
          by (inr h) = rest h

  not_empty : (f : Form) (ns : List ℕ) → name_in f ++ ns ≡ [] → is_vertex f ≡ true → ⊥
  not_empty (form.State n) ns e h = absurd cc
  not_empty (form.Choice n a b) ns e h = absurd cc
  not_empty (form.Initial t) ns e h = absurd cc
  not_empty (form.On a b t) ns e h = absurd cc
  not_empty form.Entry ns e h = absurd cc
  not_empty form.Exit ns e h = absurd cc
  not_empty (form.Declares d) ns e h = absurd cc

  rest_empty : (f : Form) (ns : List ℕ) → name_in f ++ ns ≡ [] → ns ≡ []
  rest_empty (form.State n) ns e = absurd cc
  rest_empty (form.Choice n a b) ns e = absurd cc
  rest_empty (form.Initial t) ns e = e
  rest_empty (form.On a b t) ns e = e
  rest_empty form.Entry ns e = e
  rest_empty form.Exit ns e = e
  rest_empty (form.Declares d) ns e = e

  none_named : (xs : List Item) → names xs p ≡ [] → (u : ℕ) (y : Item) → slice_get xs u ≡ Some y → same_place p y.parent ≡ true → is_vertex y.form ≡ true → ⊥
  none_named [] e u y h s v = absurd cc
  none_named (x ∷ xs) e u y h s v = go (same_place p x.parent) refl e u h (λ f w k. none_named xs f w y k s v)
    where
      go : (b : Bool) → same_place p x.parent ≡ b → flat_map (λ (y : Item). name_in y.form) (cond b (x ∷ members.members xs p) (members.members xs p)) ≡ [] → (u : ℕ)
          → slice_get (x ∷ xs) u ≡ Some y → (names xs p ≡ [] → (w : ℕ) → slice_get xs w ≡ Some y → ⊥) → ⊥
      go false is e zero h rest = not_both s (ap (λ (z : Item). same_place p z.parent) (sym (same_some h)) ∙ is)
      go false is e (suc u) h rest = rest e u h
      go true is e zero h rest = not_empty x.form (names xs p) e (ap (λ (z : Item). is_vertex z.form) (same_some h) ∙ v)
      go true is e (suc u) h rest = rest (rest_empty x.form (names xs p) e) u h

-- ---- what stands in a state of the vertices

any_none : {A : Type 0} (test : A → Bool) (xs : List A) → ((k : ℕ) (x : A) → slice_get xs k ≡ Some x → test x ≡ true → ⊥) → list_any test xs ≡ false
any_none test [] h = refl
any_none test (x ∷ xs) h = neither_so (test x) (list_any test xs) (h 0 x refl) (any_none test xs (λ k y e. h (suc k) y e))
  where
    neither_so : (a b : Bool) → (a ≡ true → ⊥) → b ≡ false → (a || b) ≡ false
    neither_so true b f e = absurd (f refl)
    neither_so false b f e = e

same_placed : (v : ℕ) (q : Option ℕ) → same_place (Some v) q ≡ true → q ≡ Some v
same_placed v None e = absurd cc
same_placed v (Some q) e = ap Some (sym (same_number v q e))

pub same_parents : (p q : Option ℕ) → same_place p q ≡ true → q ≡ p
same_parents None None e = refl
same_parents None (Some q) e = absurd cc
same_parents (Some v) q e = same_placed v q e

placed_same : (v : ℕ) (q : Option ℕ) → q ≡ Some v → same_place (Some v) q ≡ true
placed_same v q e = ap (same_place (Some v)) e ∙ number_itself v

module _ (es : List BehaviorElement) (order : AreInOrder (outline es)) (v : ℕ) (is : IsState (items es) v) where
  abbrev holds_some : Bool
  holds_some = list_any (λ (w : Vertex). some_and (λ p. p == vertex_number es v) w.parent) (vertices es)

  inside_there : (m : ℕ) (ms : List ℕ) → names (items es) (Some v) ≡ m ∷ ms → holds_some ≡ true
  inside_there m ms e =
      let i = named_in (Some v) (items es) m ms e in
      let a = vertex_of_item es i.at (record { item = i.item; here = i.here; holds = i.vertex }) in
      let t = there es i.at a.element a.here a.is in
      let q : a.element.parent ≡ Some v =
      ap (λ (x : Item). x.parent) (one_some (slice_get (items es) i.at) (laid_item es (outline es) a.element) i.item (item_here es i.at a.element a.here) i.here) ∙ same_placed v i.item.parent i.parent in
      any_at (λ (w : Vertex). some_and (λ p. p == vertex_number es v) w.parent) (vertices es) (vertex_number es i.at) t.vertex t.here
      (ap (some_and (λ p. p == vertex_number es v)) (t.parent ∙ ap (option_map (vertex_number es)) q) ∙ number_itself (vertex_number es v))

  one_form : {u : ℕ} (y : Item) (w : IsVertex (items es) u) → slice_get (items es) u ≡ Some y → is_vertex y.form ≡ true
  one_form {u = u} y w h = ap (λ (z : Item). is_vertex z.form) (one_some (slice_get (items es) u) y w.item h w.here) ∙ w.holds

  inside_none : names (items es) (Some v) ≡ [] → holds_some ≡ false
  inside_none e = any_none (λ (w : Vertex). some_and (λ p. p == vertex_number es v) w.parent) (vertices es) each
    where
      each : (k : ℕ) (x : Vertex) → slice_get (vertices es) k ≡ Some x → some_and (λ p. p == vertex_number es v) x.parent ≡ true → ⊥
      each k x h t =
          let b = vertex_back es k x h in
          let y = there es b.at b.element b.here b.passes in
          let same : y.vertex ≡ x = one_some (slice_get (vertices es) k) y.vertex x (ap (λ (m : ℕ). slice_get (vertices es) m) b.number ∙ y.here) h in
          go b.at b.element b.here b.passes b.element.parent refl
          (ap (λ (o : Option ℕ). some_and (λ p. p == vertex_number es v) o) (sym y.parent ∙ ap (λ (x : Vertex). x.parent) same) ∙ t)
        where
          go : (u : ℕ) (d : BehaviorElement) → slice_get es u ≡ Some d → made.is_vertex d.form ≡ true → (o : Option ℕ) → d.parent ≡ o
              → some_and (λ p. p == vertex_number es v) (option_map (vertex_number es) d.parent) ≡ true → ⊥
          go u d h f None q t = not_both t (ap (λ (o : Option ℕ). some_and (λ p. p == vertex_number es v) (option_map (vertex_number es) o)) q)
          go u d h f (Some p) q t =
              let vertex = item_of_vertex es u (record { element = d; here = h; is = f }) in
              let at = corresponds es order in
              let here = item_here es u d h in
              let outer = at.parent u p vertex (record { item = laid_item es (outline es) d; here = here; parent = q }) in
              let same : p ≡ v =
              at.same p v (state_is_vertex (items es) p outer.state) (state_is_vertex (items es) v is)
              (same_number (vertex_number es p) (vertex_number es v) (ap (λ (o : Option ℕ). some_and (λ p. p == vertex_number es v) (option_map (vertex_number es) o)) (sym q) ∙ t)) in
              none_named (Some v) (items es) e u (laid_item es (outline es) d) here (placed_same v d.parent (q ∙ ap Some same))
              (one_form (laid_item es (outline es) d) vertex here)

  pub begins_where_held : (StateCountsWrong (items es) v → ⊥) → is_some (initial_of es (Some v)) ≡ holds_some
  begins_where_held right = go (names (items es) (Some v)) refl (surely_equal (length (initials (items es) (Some v))) (wanted_beside (names (items es) (Some v))) (λ d. right (is, d)))
    where
      go : (ns : List ℕ) → names (items es) (Some v) ≡ ns → length (initials (items es) (Some v)) ≡ wanted_beside (names (items es) (Some v))
          → is_some (initial_of es (Some v)) ≡ holds_some
      go [] e count = begins_where_none es (Some v) (count ∙ ap wanted_beside e) ∙ sym (inside_none e)
      go (m ∷ ms) e count = begins_where_one es (Some v) (count ∙ ap wanted_beside e) ∙ sym (inside_there m ms e)

-- as the test on a vertex says it
pub held_fits : (vs : List Vertex) (n : ℕ) (x : Vertex) (initial : Option Step) (entry exit : List ℕ) (on : List On) → x.node ≡ node.State initial entry exit on
    → is_some initial ≡ list_any (λ (w : Vertex). some_and (λ p. p == n) w.parent) vs → has_its_initial vs n x ≡ true
held_fits vs n x None entry exit on is h = rw (is, sym h) refl
held_fits vs n x (Some s) entry exit on is h = rw is (sym h)
