-- What is read in steps is spelled by the productions that nest, and gives the same rows.
use Rattle.std.proofs.Common.{◌≡◌, ℕ, ◌+◌, List, [], ◌∷◌, ◌++◌, ◌⊎◌, Bool, true, false, Some, length, refl, sym, ◌∙◌, ap, subst, inl, inr, append_assoc, append-nil}
use Rattle.fp_lexer.specs.declared.token.Token.{Token}
use Rattle.fp_grammar.specs.Grammar.{Spells, Among}
use Rattle.fp_tree.specs.declared.machine.ElementForm.{ElementForm}
use Rattle.fp_tree.specs.declared.machine.ElementForm.TheVariants as form
use Rattle.fp_tree.specs.declared.machine.BehaviorElement.{BehaviorElement}
use Rattle.fp_tree.specs.declared.machine.NoteLine.{NoteLine}
use Rattle.fp_tree.specs.declared.machine.Behavior.{Behavior}
use Rattle.fp_parse_states.specs.declared.head.Head.{Head}
use Rattle.fp_parse_states.specs.declared.head.BodyPiece.{BodyPiece}
use Rattle.fp_parse_states.specs.declared.head.BodyPiece.TheVariants as piece
use Rattle.fp_parse_states.specs.declared.head.LastRead.{LastRead}
use Rattle.fp_parse_states.specs.declared.head.LastRead.TheVariants as read
use Rattle.fp_parse_pieces.specs.Kinds.{kind, k_before, k_after, k_open_brace, k_close_brace}
use Rattle.fp_grammar.specs.Steps.{Next, SpellsFrom}
use Rattle.fp_grammar.specs.Steps.Next.{on, ends}
use Rattle.fp_grammar.specs.Steps.SpellsFrom.{last, more}
use Rattle.fp_tree.specs.declared.name.Name.{Name}
use Rattle.fp_parse_pieces.specs.Lists.{after_lines, note_text}
use Rattle.fp_parse_states.specs.Elements.{element, state_head}
use Rattle.fp_parse_states.specs.Bodies.{BodySoFar, read_of, body_steps, element_piece, innermost, is_inside, leads, next_piece, single_piece}
use Rattle.fp_parse_states.specs.Nested.{Lines, NestedElements, SpellsBehind, SpellsElements, standing, elements_of, note_lines, notes_of, semicolons, size}
use Rattle.fp_parse_states.specs.Nested.NestedElements.{none, without_body, with_body}
use Rattle.fp_parse_states.proofs.Singles.{after_piece, before_piece, close_piece, open_piece, separator_piece}
use Rattle.fp_parse_states.proofs.Rows.{elements_grow, notes_grow, sized, elements_grow_within, notes_grow_within}

module _ (depth : ℕ) where
  -- the rows grow by these elements
  abbrev Added : List ℕ → List BehaviorElement → List NoteLine → NestedElements → List BehaviorElement → List NoteLine → Type 0
  Added op it ns ms is js = (is ≡ it ++ elements_of (innermost op) ms (length it)) × (js ≡ ns ++ notes_of ms (length it))

  -- up to the closing brace of where we are: lines and elements behind one that is whole
  abbrev WholeLevel : List ℕ → ℕ → List BehaviorElement → List NoteLine → List Token → List BehaviorElement → List NoteLine → Type 0
  WholeLevel op la it ns u is js = (a : Lines) × (ms : NestedElements) × SpellsBehind (SpellsElements depth (is_inside op) ms) ms a u × Added op it (ns ++ note_lines la a) ms is js

  -- a body, and then these
  abbrev NamedLevel : List ℕ → ℕ → List BehaviorElement → List NoteLine → List Token → List BehaviorElement → List NoteLine → Type 0
  NamedLevel op la it ns u is js =
      (l r : Token) × (y z : List Token) × (inner ms : NestedElements) × (a : Lines) × (u ≡ l ∷ (y ++ r ∷ z)) × (kind l ≡ k_open_brace) × SpellsElements depth true inner y × (kind r ≡ k_close_brace) ×
      SpellsBehind (SpellsElements depth (is_inside op) ms) ms a z × Added op (it ++ elements_of (Some la) inner (length it)) ((ns ++ notes_of inner (length it)) ++ note_lines la a) ms is js

  -- elements that are some
  abbrev NotedLevel : List ℕ → List BehaviorElement → List NoteLine → List Token → List BehaviorElement → List NoteLine → Type 0
  NotedLevel op it ns u is js = (ms : NestedElements) × (ms ≡ none → ⊥) × SpellsElements depth (is_inside op) ms u × Added op it ns ms is js

  abbrev Level : LastRead → List ℕ → ℕ → List BehaviorElement → List NoteLine → List Token → List BehaviorElement → List NoteLine → Type 0
  Level read.Opening op la it ns u is js = (ms : NestedElements) × SpellsElements depth (is_inside op) ms u × Added op it ns ms is js
  Level read.Separator op la it ns u is js =
      (b : Lines) × (ms : NestedElements) × (v z : List Token) × (u ≡ v ++ z) × Spells kind after_lines v b × SpellsElements depth (is_inside op) ms z × Added op it (ns ++ note_lines la b) ms is js
  Level read.NoteBefore op la it ns u is js = NotedLevel op it ns u is js
  Level read.StateName op la it ns u is js = WholeLevel op la it ns u is js ⊎ NamedLevel op la it ns u is js
  Level read.Whole op la it ns u is js = WholeLevel op la it ns u is js

  -- the rest of the body, level by level
  abbrev pub Rest : List ℕ → LastRead → ℕ → List BehaviorElement → List NoteLine → List Token → Behavior → Type 0
  Rest [] ph la it ns w x =
      (u : List Token) × (t : Token) × (is : List BehaviorElement) × (js : List NoteLine) × (w ≡ u ++ t ∷ []) × (kind t ≡ k_close_brace) × Level ph [] la it ns u is js × (x ≡ record { elements = is; lines = js; closing = t.at })
  Rest (position ∷ op) ph la it ns w x =
      (u v : List Token) × (t : Token) × (is : List BehaviorElement) × (js : List NoteLine) × (w ≡ u ++ t ∷ v) × (kind t ≡ k_close_brace) × Level ph (position ∷ op) la it ns u is js × Rest op read.Whole position is js v x

  abbrev AfterRest : Next BodySoFar Behavior → List Token → Behavior → Type 0
  AfterRest (on s) v x = Rest s.opened s.last s.latest s.elements s.lines v x
  AfterRest (ends b) v x = (v ≡ []) × (x ≡ b)

  -- more at the beginning of this level
  lift : (op : List ℕ) (ph ph' : LastRead) (la la' : ℕ) (it it' : List BehaviorElement) (ns ns' : List NoteLine) (u : List Token) →
      ((v : List Token) (is : List BehaviorElement) (js : List NoteLine) → Level ph' op la' it' ns' v is js → Level ph op la it ns (u ++ v) is js) → (w : List Token) (x : Behavior) → Rest op ph' la' it' ns' w x → Rest op ph la it ns (u ++ w) x
  lift [] ph ph' la la' it it' ns ns' u f w x (v, t, is, js, e, k, h, g) = (u ++ v, t, is, js, ap (λ l. u ++ l) e ∙ sym (append_assoc u v (t ∷ [])), k, f v is js h, g)
  lift (position ∷ op) ph ph' la la' it it' ns ns' u f w x (v, z, t, is, js, e, k, h, g) = (u ++ v, z, t, is, js, ap (λ l. u ++ l) e ∙ sym (append_assoc u v (t ∷ z)), k, f v is js h, g)

  noted_opened : (op : List ℕ) (la : ℕ) (it : List BehaviorElement) (ns : List NoteLine) (u : List Token) (is : List BehaviorElement) (js : List NoteLine) → NotedLevel op it ns u is js → Level read.Opening op la it ns u is js
  noted_opened op la it ns u is js (ms, n, s, a) = (ms, s, a)

  noted_separated : (op : List ℕ) (la : ℕ) (it : List BehaviorElement) (ns : List NoteLine) (u : List Token) (is : List BehaviorElement) (js : List NoteLine) → NotedLevel op it ns u is js → Level read.Separator op la it ns u is js
  noted_separated op la it ns u is js (ms, n, s, (i, j)) = ([], ms, [], u, refl, refl, s, (i, j ∙ ap (λ l. l ++ notes_of ms (length it)) (sym (append-nil ns))))

  -- a line before an element
  add_before : (op : List ℕ) (it : List BehaviorElement) (ns : List NoteLine) (t : Token) (u : List Token) (is : List BehaviorElement) (js : List NoteLine) → kind t ≡ k_before → NotedLevel op it (ns ++ record { of = length it; line = note_text t.what } ∷ []) u is js → NotedLevel op it ns (t ∷ u) is js
  add_before op it ns t u is js k (none, n, s, a) = absurd (n refl)
  add_before op it ns t u is js k (without_body b e a ms, n, (v, y, z, i, s, m, h), (f, g)) =
      (without_body (note_text t.what ∷ b) e a ms, (λ q. cc), (t ∷ v, y, z, ap (λ l. t ∷ l) i, (t ∷ [], v, refl, (t, refl, (refl, k)), s), m, h), (f, g ∙ append_assoc ns (record { of = length it; line = note_text t.what } ∷ []) (notes_of (without_body b e a ms) (length it))))
  add_before op it ns t u is js k (with_body b e inner a ms, n, (v, y, q, z, l, r, i, s, m, kl, c, kr, h), (f, g)) =
      (with_body (note_text t.what ∷ b) e inner a ms, (λ q. cc), (t ∷ v, y, q, z, l, r, ap (λ l. t ∷ l) i, (t ∷ [], v, refl, (t, refl, (refl, k)), s), m, kl, c, kr, h), (f, g ∙ append_assoc ns (record { of = length it; line = note_text t.what } ∷ []) (notes_of (with_body b e inner a ms) (length it))))

  -- a line behind a separator
  add_separated : (op : List ℕ) (la : ℕ) (it : List BehaviorElement) (ns : List NoteLine) (t : Token) (u : List Token) (is : List BehaviorElement) (js : List NoteLine) → kind t ≡ k_after → Level read.Separator op la it (ns ++ record { of = la; line = note_text t.what } ∷ []) u is js → Level read.Separator op la it ns (t ∷ u) is js
  add_separated op la it ns t u is js k (b, ms, v, z, e, s, m, (f, g)) =
      (note_text t.what ∷ b, ms, t ∷ v, z, ap (λ l. t ∷ l) e, (t ∷ [], v, refl, (t, refl, (refl, k)), s), m, (f, g ∙ ap (λ l. l ++ notes_of ms (length it)) (append_assoc ns (record { of = la; line = note_text t.what } ∷ []) (note_lines la b))))

  -- a line behind an element
  add_behind : (op : List ℕ) (la : ℕ) (it : List BehaviorElement) (ns : List NoteLine) (t : Token) (u : List Token) (is : List BehaviorElement) (js : List NoteLine) → kind t ≡ k_after → WholeLevel op la it (ns ++ record { of = la; line = note_text t.what } ∷ []) u is js → WholeLevel op la it ns (t ∷ u) is js
  add_behind op la it ns t u is js k (lines, ms, (v, z, a, b, e, i, s, tail), (f, g)) =
      (note_text t.what ∷ lines, ms, (t ∷ v, z, note_text t.what ∷ a, b, ap (λ l. t ∷ l) e, ap (λ l. note_text t.what ∷ l) i, (t ∷ [], v, refl, (t, refl, (refl, k)), s), tail), (f, g ∙ ap (λ l. l ++ notes_of ms (length it)) (append_assoc ns (record { of = la; line = note_text t.what } ∷ []) (note_lines la lines))))

  -- a separator
  add_separator : (op : List ℕ) (la : ℕ) (it : List BehaviorElement) (ns : List NoteLine) (t : Token) (u : List Token) (is : List BehaviorElement) (js : List NoteLine) → Among (kind t) semicolons → Level read.Separator op la it ns u is js → WholeLevel op la it ns (t ∷ u) is js
  add_separator op la it ns t u is js k (b, ms, v, z, e, s, m, h) = (b, ms, ([], t ∷ u, [], b, refl, refl, refl, inr (t, v, z, ap (λ l. t ∷ l) e, k, s, m)), h)

  -- nothing more
  whole_end : (op : List ℕ) (la : ℕ) (it : List BehaviorElement) (ns : List NoteLine) → WholeLevel op la it ns [] it ns
  whole_end op la it ns = ([], none, ([], [], [], [], refl, refl, refl, inl (refl, refl, refl)), (sym (append-nil it), sym (append-nil (ns ++ []) ∙ append-nil ns)))

  opened_end : (op : List ℕ) (la : ℕ) (it : List BehaviorElement) (ns : List NoteLine) → Level read.Opening op la it ns [] it ns
  opened_end op la it ns = (none, refl, (sym (append-nil it), sym (append-nil ns)))

  separated_end : (op : List ℕ) (la : ℕ) (it : List BehaviorElement) (ns : List NoteLine) → Level read.Separator op la it ns [] it ns
  separated_end op la it ns = ([], none, [], [], refl, refl, refl, (sym (append-nil it), sym (append-nil (ns ++ []) ∙ append-nil ns)))

  -- an element
  whole_element : (op : List ℕ) (it : List BehaviorElement) (ns : List NoteLine) (e : Head) (u v : List Token) (is : List BehaviorElement) (js : List NoteLine) → Spells kind (element depth (is_inside op)) u e → WholeLevel op (length it) (it ++ standing (innermost op) e ∷ []) ns v is js → NotedLevel op it ns (u ++ v) is js
  whole_element op it ns e u v is js s (a, ms, h, (f, g)) =
      (without_body [] e a ms, (λ q. cc), ([], u, v, refl, refl, s, h), (f ∙ elements_grow it (standing (innermost op) e) (elements_of (innermost op) ms), g ∙ notes_grow it (standing (innermost op) e) ns (note_lines (length it) a) (notes_of ms)))

  named_element : (op : List ℕ) (it : List BehaviorElement) (ns : List NoteLine) (e : Head) (u v : List Token) (is : List BehaviorElement) (js : List NoteLine) → Spells kind state_head u e → NamedLevel op (length it) (it ++ standing (innermost op) e ∷ []) ns v is js → NotedLevel op it ns (u ++ v) is js
  named_element op it ns e u v is js s (l, r, y, z, inner, ms, a, i, kl, c, kr, h, (f, g)) = (
    with_body [] e inner a ms,
    (λ q. cc),
    ([], u, y, z, l, r, ap (λ j. u ++ j) i, refl, s, kl, c, kr, h),
    (
      f ∙ elements_grow_within it (standing (innermost op) e) (elements_of (Some (length it)) inner) (elements_of (innermost op) ms) (size inner) (sized inner (Some (length it)) (length it + 1)),
      g ∙ notes_grow_within it (standing (innermost op) e) (elements_of (Some (length it)) inner) ns (note_lines (length it) a) (notes_of inner) (notes_of ms) (size inner) (sized inner (Some (length it)) (length it + 1)),
    ),
  )

  -- what has the form of a state is spelled as one
  state_of_form : (i : Bool) (u : List Token) (e : Head) (n : Name) → e.form ≡ form.State n → Spells kind (element depth i) u e → Spells kind state_head u e
  state_of_form i u e n f (inl s) = s
  state_of_form i u e n f (inr (inl (p, is, s))) = let g = ap (λ e. e.form) is in absurd (cc)
  state_of_form i u e n f (inr (inr (inl (p, is, s)))) = let g = ap (λ e. e.form) is in absurd (cc)
  state_of_form true u e n f (inr (inr (inr (inl (p, is, s))))) = let g = ap (λ e. e.form) is in absurd (cc)
  state_of_form true u e n f (inr (inr (inr (inr (inl (p, is, s)))))) = let g = ap (λ e. e.form) is in absurd (cc)
  state_of_form true u e n f (inr (inr (inr (inr (inr (p, is, s)))))) = let g = ap (λ e. e.form) is in absurd (cc)
  state_of_form false u e n f (inr (inr (inr (inl (p, is, s))))) = let g = ap (λ e. e.form) is in absurd (cc)
  state_of_form false u e n f (inr (inr (inr (inr (inl (p, is, s)))))) = let g = ap (λ e. e.form) is in absurd (cc)
  state_of_form false u e n f (inr (inr (inr (inr (inr (p, is, s)))))) = let g = ap (λ e. e.form) is in absurd (cc)

  add_element : (op : List ℕ) (it : List BehaviorElement) (ns : List NoteLine) (e : Head) (u v : List Token) (is : List BehaviorElement) (js : List NoteLine) → Spells kind (element depth (is_inside op)) u e → (f : ElementForm) → e.form ≡ f → Level (read_of f) op (length it) (it ++ standing (innermost op) e ∷ []) ns v is js → NotedLevel op it ns (u ++ v) is js
  add_element op it ns e u v is js s (form.State n) i (inl h) = whole_element op it ns e u v is js s h
  add_element op it ns e u v is js s (form.State n) i (inr h) = named_element op it ns e u v is js (state_of_form (is_inside op) u e n i s) h
  add_element op it ns e u v is js s (form.Choice n) i h = whole_element op it ns e u v is js s h
  add_element op it ns e u v is js s (form.Initial n) i h = whole_element op it ns e u v is js s h
  add_element op it ns e u v is js s (form.Signal n) i h = whole_element op it ns e u v is js s h
  add_element op it ns e u v is js s (form.Action n) i h = whole_element op it ns e u v is js s h
  add_element op it ns e u v is js s (form.Guard n) i h = whole_element op it ns e u v is js s h
  add_element op it ns e u v is js s (form.On n) i h = whole_element op it ns e u v is js s h
  add_element op it ns e u v is js s (form.Entry n) i h = whole_element op it ns e u v is js s h
  add_element op it ns e u v is js s (form.Exit n) i h = whole_element op it ns e u v is js s h

  -- the pieces
  step_close : (op : List ℕ) (ph : LastRead) (la : ℕ) (it : List BehaviorElement) (ns : List NoteLine) (t : Token) (v : List Token) (x : Behavior) → kind t ≡ k_close_brace → Level ph op la it ns [] it ns → AfterRest (leads (record { last = ph; opened = op; latest = la; elements = it; lines = ns }) (piece.Close t.at)) v x → Rest op ph la it ns (t ∷ v) x
  step_close [] ph la it ns t v x k h (f, g) = ([], t, it, ns, ap (λ l. t ∷ l) f, k, h, g)
  step_close (position ∷ op) ph la it ns t v x k h m = ([], v, t, it, ns, refl, k, h, m)

  step_open : (op : List ℕ) (la : ℕ) (it : List BehaviorElement) (ns : List NoteLine) (t : Token) (v : List Token) (x : Behavior) → kind t ≡ k_open_brace → Rest (la ∷ op) read.Opening la it ns v x → Rest op read.StateName la it ns (t ∷ v) x
  step_open op la it ns t v x k (u, z, r, is, js, e, kr, (inner, c, (i, j)), m) =
      subst (λ l. Rest op read.StateName la it ns l x) (ap (λ l. t ∷ l) (append_assoc u (r ∷ []) z ∙ sym e)) (lift op read.StateName read.Whole la la it is ns js (t ∷ (u ++ r ∷ [])) under z x m)
    where
      under : (w : List Token) (is' : List BehaviorElement) (js' : List NoteLine) → WholeLevel op la is js w is' js' → Level read.StateName op la it ns ((t ∷ (u ++ r ∷ [])) ++ w) is' js'
      under w is' js' (a, ms, h, added) =
          inr (
            t,
            r,
            u,
            w,
            inner,
            ms,
            a,
            ap (λ l. t ∷ l) (append_assoc u (r ∷ []) w),
            k,
            c,
            kr,
            h,
            subst (λ l. Added op l ((ns ++ notes_of inner (length it)) ++ note_lines la a) ms is' js') i (subst (λ l. Added op is (l ++ note_lines la a) ms is' js') j added),
          )

  step_before : (op : List ℕ) (ph : LastRead) (la : ℕ) (it : List BehaviorElement) (ns : List NoteLine) (t : Token) (v : List Token) (x : Behavior) → ((u : List Token) (is : List BehaviorElement) (js : List NoteLine) → NotedLevel op it ns u is js → Level ph op la it ns u is js) → kind t ≡ k_before → Rest op read.NoteBefore la it (ns ++ record { of = length it; line = note_text t.what } ∷ []) v x → Rest op ph la it ns (t ∷ v) x
  step_before op ph la it ns t v x c k m = lift op ph read.NoteBefore la la it it ns (ns ++ record { of = length it; line = note_text t.what } ∷ []) (t ∷ []) (λ u is js h. c (t ∷ u) is js (add_before op it ns t u is js k h)) v x m

  step_element : (op : List ℕ) (ph : LastRead) (la : ℕ) (it : List BehaviorElement) (ns : List NoteLine) (u v : List Token) (y : BodyPiece) (x : Behavior) → ((u : List Token) (is : List BehaviorElement) (js : List NoteLine) → NotedLevel op it ns u is js → Level ph op la it ns u is js) → Spells kind (element_piece depth (is_inside op)) u y → AfterRest (leads (record { last = ph; opened = op; latest = la; elements = it; lines = ns }) y) v x → Rest op ph la it ns (u ++ v) x
  step_element op ph la it ns u v y x c (e, is, s) m =
      lift op ph (read_of e.form) la (length it) it (it ++ standing (innermost op) e ∷ []) ns ns u (λ w is js h. c (u ++ w) is js (add_element op it ns e u w is js s e.form refl h)) v x
      (subst (λ q. AfterRest (leads (record { last = ph; opened = op; latest = la; elements = it; lines = ns }) q) v x) is m)

  -- a single token is this piece
  as_piece : (s : BodySoFar) (u v : List Token) (t : Token) (y c : BodyPiece) (x : Behavior) → single_piece t ≡ c → y ≡ single_piece t → u ≡ t ∷ [] → (AfterRest (leads s c) v x → Rest s.opened s.last s.latest s.elements s.lines (t ∷ v) x) → AfterRest (leads s y) v x → Rest s.opened s.last s.latest s.elements s.lines (u ++ v) x
  as_piece s u v t y c x e is one f m =
      subst (λ l. Rest s.opened s.last s.latest s.elements s.lines (l ++ v) x) (sym one) (f (subst (λ q. AfterRest (leads s q) v x) (is ∙ e) m))

  step : (ph : LastRead) (op : List ℕ) (la : ℕ) (it : List BehaviorElement) (ns : List NoteLine) (u v : List Token) (y : BodyPiece) (x : Behavior) → Spells kind (next_piece depth ph (is_inside op)) u y → AfterRest (leads (record { last = ph; opened = op; latest = la; elements = it; lines = ns }) y) v x → Rest op ph la it ns (u ++ v) x
  step read.Opening op la it ns u v y x (inl (t, is, (one, inl k))) m = as_piece _ u v t y _ x (before_piece t k) is one (step_before op read.Opening la it ns t v x (noted_opened op la it ns) k) m
  step read.Opening op la it ns u v y x (inl (t, is, (one, inr (inl k)))) m = as_piece _ u v t y _ x (close_piece t k) is one (step_close op read.Opening la it ns t v x k (opened_end op la it ns)) m
  step read.Opening op la it ns u v y x (inl (t, is, (one, inr (inr k)))) m = absurd k
  step read.Opening op la it ns u v y x (inr s) m = step_element op read.Opening la it ns u v y x (noted_opened op la it ns) s m
  step read.Separator op la it ns u v y x (inl (t, is, (one, inl k))) m =
      as_piece _ u v t y _ x (after_piece t k) is one (λ m. lift op read.Separator read.Separator la la it it ns _ (t ∷ []) (λ w i j h. add_separated op la it ns t w i j k h) v x m) m
  step read.Separator op la it ns u v y x (inl (t, is, (one, inr (inl k)))) m = as_piece _ u v t y _ x (before_piece t k) is one (step_before op read.Separator la it ns t v x (noted_separated op la it ns) k) m
  step read.Separator op la it ns u v y x (inl (t, is, (one, inr (inr (inl k))))) m = as_piece _ u v t y _ x (close_piece t k) is one (step_close op read.Separator la it ns t v x k (separated_end op la it ns)) m
  step read.Separator op la it ns u v y x (inl (t, is, (one, inr (inr (inr k))))) m = absurd k
  step read.Separator op la it ns u v y x (inr s) m = step_element op read.Separator la it ns u v y x (noted_separated op la it ns) s m
  step read.NoteBefore op la it ns u v y x (inl (t, is, (one, inl k))) m = as_piece _ u v t y _ x (before_piece t k) is one (step_before op read.NoteBefore la it ns t v x (λ u i j h. h) k) m
  step read.NoteBefore op la it ns u v y x (inl (t, is, (one, inr k))) m = absurd k
  step read.NoteBefore op la it ns u v y x (inr s) m = step_element op read.NoteBefore la it ns u v y x (λ u i j h. h) s m
  step read.StateName op la it ns u v y x (t, is, (one, inl k)) m = as_piece _ u v t y _ x (open_piece t k) is one (step_open op la it ns t v x k) m
  step read.StateName op la it ns u v y x (t, is, (one, inr (inl k))) m =
      as_piece _ u v t y _ x (after_piece t k) is one (λ m. lift op read.StateName read.Whole la la it it ns _ (t ∷ []) (λ w i j h. inl (add_behind op la it ns t w i j k h)) v x m) m
  step read.StateName op la it ns u v y x (t, is, (one, inr (inr (inl k)))) m =
      as_piece _ u v t y _ x (separator_piece t (inl k)) is one (λ m. lift op read.StateName read.Separator la la it it ns ns (t ∷ []) (λ w i j h. inl (add_separator op la it ns t w i j (inl k) h)) v x m) m
  step read.StateName op la it ns u v y x (t, is, (one, inr (inr (inr (inl k))))) m =
      as_piece _ u v t y _ x (separator_piece t (inr (inl k))) is one (λ m. lift op read.StateName read.Separator la la it it ns ns (t ∷ []) (λ w i j h. inl (add_separator op la it ns t w i j (inr (inl k)) h)) v x m) m
  step read.StateName op la it ns u v y x (t, is, (one, inr (inr (inr (inr (inl k)))))) m = as_piece _ u v t y _ x (close_piece t k) is one (step_close op read.StateName la it ns t v x k (inl (whole_end op la it ns))) m
  step read.StateName op la it ns u v y x (t, is, (one, inr (inr (inr (inr (inr k)))))) m = absurd k
  step read.Whole op la it ns u v y x (t, is, (one, inl k)) m =
      as_piece _ u v t y _ x (after_piece t k) is one (λ m. lift op read.Whole read.Whole la la it it ns _ (t ∷ []) (λ w i j h. add_behind op la it ns t w i j k h) v x m) m
  step read.Whole op la it ns u v y x (t, is, (one, inr (inl k))) m =
      as_piece _ u v t y _ x (separator_piece t (inl k)) is one (λ m. lift op read.Whole read.Separator la la it it ns ns (t ∷ []) (λ w i j h. add_separator op la it ns t w i j (inl k) h) v x m) m
  step read.Whole op la it ns u v y x (t, is, (one, inr (inr (inl k)))) m =
      as_piece _ u v t y _ x (separator_piece t (inr (inl k))) is one (λ m. lift op read.Whole read.Separator la la it it ns ns (t ∷ []) (λ w i j h. add_separator op la it ns t w i j (inr (inl k)) h) v x m) m
  step read.Whole op la it ns u v y x (t, is, (one, inr (inr (inr (inl k))))) m = as_piece _ u v t y _ x (close_piece t k) is one (step_close op read.Whole la it ns t v x k (whole_end op la it ns)) m
  step read.Whole op la it ns u v y x (t, is, (one, inr (inr (inr (inr k))))) m = absurd k

  pub rest_of : (s : BodySoFar) (w : List Token) (x : Behavior) → SpellsFrom kind (body_steps depth) s w x → Rest s.opened s.last s.latest s.elements s.lines w x
  rest_of s w x (last _ _ y _ h e) =
      subst (λ l. Rest s.opened s.last s.latest s.elements s.lines l x) (append-nil w) (step s.last s.opened s.latest s.elements s.lines w [] y x h (subst (λ n. AfterRest n [] x) (sym e) (refl, refl)))
  rest_of s w x (more _ s' _ u v y _ f h e m) =
      subst (λ l. Rest s.opened s.last s.latest s.elements s.lines l x) (sym f) (step s.last s.opened s.latest s.elements s.lines u v y x h (subst (λ n. AfterRest n v x) (sym e) (rest_of s' v x m)))
