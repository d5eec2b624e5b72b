-- In a machine that breaks no rule each initial transition and each branch leads somewhere.
use Rattle.std.proofs.Common.{◌≡◌, ℕ, ◌&&◌, true, List, slice_get, Option, Some, None, is_some, refl, sym, ap, subst, ◌∙◌, arith}
use Rattle.std.specs.Prelude.{option_map}
use Rattle.std.specs.List.{list_all}
use Rattle.std.proofs.lemmas.Bool.Decides.{nat_tests}
use Rattle.fp_base.proofs.Bools.{join}
use Rattle.fp_base.proofs.Options.{same_some}
use Rattle.fp_base.proofs.Passing.{all_items}
use Rattle.fp_tree.specs.declared.machine.BehaviorElement.{BehaviorElement}
use Rattle.fp_tree.specs.declared.machine.ElementForm.{ElementForm}
use Rattle.fp_tree.specs.declared.machine.ElementForm.TheVariants as form
use Rattle.fp_tree.specs.declared.machine.Goto.{Goto}
use Rattle.fp_tables.specs.Lists.{if_some}
use Rattle.fp_tables.specs.Machines.{leads_somewhere}
use Rattle.fp_tables.specs.declared.machine.Step.{Step}
use Rattle.fp_tables.specs.declared.machine.Vertex.{Vertex}
use Rattle.fp_machine_rules.specs.Members.{same_place}
use Rattle.fp_machines.specs.Outline.{outline}
use Rattle.fp_machines.specs.Scopes.{vertex_meant}
use Rattle.fp_machines.specs.Made.{initial_in, initial_of, step_of, vertex_in, vertex_number, vertices_from}
use Rattle.fp_sound_parts.proofs.Known.{KnownGoto, KnownIn}
use Rattle.fp_sound_parts.proofs.Parts.{part_there}
use Rattle.fp_sound_parts.proofs.Vertices.{vertex_back}

pub same_place_is : (p q : Option ℕ) → same_place p q ≡ true → p ≡ q
same_place_is None None h = refl
same_place_is None (Some q) h = absurd cc
same_place_is (Some p) None h = absurd cc
same_place_is (Some p) (Some q) h = let e : p ≡ q = grind (arith, nat_tests) in ap Some e

module _ (es : List BehaviorElement) where
  -- an initial transition in a state, or in the machine, and the element that it comes of
  pub record IsInitialOf (p : Option ℕ) (s : Step) : Type 0 where
    pub at : ℕ
    pub element : BehaviorElement
    pub here : slice_get es at ≡ Some element
    pub parent : element.parent ≡ p
    pub goto : Goto
    pub form : element.form ≡ form.Initial goto
    pub is : step_of es p goto ≡ s

  initial_form : (p : Option ℕ) (f : ElementForm) (s : Step) → initial_in es p f ≡ Some s → (g : Goto) × (f ≡ form.Initial g) × (step_of es p g ≡ s)
  initial_form p (form.Initial g) s e = (g, refl, same_some e)
  initial_form p (form.State n) s e = absurd cc
  initial_form p (form.Choice c) s e = absurd cc
  initial_form p (form.Signal t) s e = absurd cc
  initial_form p (form.Action t) s e = absurd cc
  initial_form p (form.Guard t) s e = absurd cc
  initial_form p (form.On o) s e = absurd cc
  initial_form p (form.Entry d) s e = absurd cc
  initial_form p (form.Exit d) s e = absurd cc

  pub initial_there : (p : Option ℕ) (s : Step) → initial_of es p ≡ Some s → IsInitialOf p s
  initial_there p s h =
      let t = part_there (λ (e : BehaviorElement). same_place p e.parent) (λ (e : BehaviorElement). initial_in es p e.form) es 0 s h in
      let f = initial_form p t.element.form s t.gives in
      record { at = t.at; element = t.element; here = t.here; parent = sym (same_place_is p t.element.parent t.passes); goto = f.0; form = f.1; is = f.2 }

module _ (es : List BehaviorElement) (known : (v : ℕ) (e : BehaviorElement) → slice_get es v ≡ Some e → KnownIn es e.parent e.form) where
  mapped_there : (o : Option ℕ) → is_some o ≡ true → is_some (option_map (vertex_number es) o) ≡ true
  mapped_there None h = absurd cc
  mapped_there (Some v) h = refl

  goto_leads : (p : Option ℕ) (g : Goto) → KnownGoto es p g → is_some (step_of es p g).target ≡ true
  goto_leads p g k = mapped_there (vertex_meant es (outline es) p g.target.names) k.1

  initial_leads : (p : Option ℕ) (s : Step) → initial_of es p ≡ Some s → is_some s.target ≡ true
  initial_leads p s h =
      let i = initial_there es p s h in
      let k : KnownIn es p (form.Initial i.goto) = subst (λ (f : ElementForm). KnownIn es p f) i.form (subst (λ (q : Option ℕ). KnownIn es q i.element.form) i.parent (known i.at i.element i.here)) in
      sym (ap (λ (s : Step). is_some s.target) i.is) ∙ goto_leads p i.goto k

  pub each_initial_leads : (p : Option ℕ) → if_some (λ (s : Step). is_some s.target) (initial_of es p) ≡ true
  each_initial_leads p = go (initial_of es p) refl
    where
      go : (o : Option Step) → initial_of es p ≡ o → if_some (λ (s : Step). is_some s.target) o ≡ true
      go None e = refl
      go (Some s) e = initial_leads p s e

  form_leads : (v : ℕ) (p : Option ℕ) (f : ElementForm) (x : Vertex) → KnownIn es p f → vertex_in es v p f ≡ Some x → leads_somewhere x ≡ true
  form_leads v p (form.State n) x k e =
      sym (ap leads_somewhere (same_some e)) ∙ join (if_some (λ (s : Step). is_some s.target) (initial_of es (Some v))) true (each_initial_leads (Some v)) refl
  form_leads v p (form.Choice c) x k e =
      sym (ap leads_somewhere (same_some e))
      ∙ join (is_some (step_of es p c.met).target) (is_some (step_of es p c.unmet).target && true) (goto_leads p c.met k.1)
      (join (is_some (step_of es p c.unmet).target) true (goto_leads p c.unmet k.2) refl)
  form_leads v p (form.Initial g) x k e = absurd cc
  form_leads v p (form.Signal t) x k e = absurd cc
  form_leads v p (form.Action t) x k e = absurd cc
  form_leads v p (form.Guard t) x k e = absurd cc
  form_leads v p (form.On o) x k e = absurd cc
  form_leads v p (form.Entry d) x k e = absurd cc
  form_leads v p (form.Exit d) x k e = absurd cc

  pub vertices_lead : list_all leads_somewhere (vertices_from es 0 es) ≡ true
  vertices_lead =
      all_items leads_somewhere (vertices_from es 0 es)
      (λ n x h. let b = vertex_back es n x h in form_leads b.at b.element.parent b.element.form x (known b.at b.element b.here) b.is)
