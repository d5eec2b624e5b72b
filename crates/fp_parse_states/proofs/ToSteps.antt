-- What the productions that nest spell is read in steps, and gives the same rows.
use Rattle.std.proofs.Common.{◌≡◌, ℕ, ◌+◌, List, [], ◌∷◌, ◌++◌, ◌⊎◌, Bool, true, false, Some, length, refl, sym, ◌∙◌, ap, subst, inl, inr, append_assoc, append-nil}
use Rattle.fp_base.specs.declared.place.Span.{Span}
use Rattle.fp_lexer.specs.declared.token.Token.{Token}
use Rattle.fp_grammar.specs.Grammar.{Spells, Among}
use Rattle.fp_tree.specs.declared.machine.ElementForm.{ElementForm}
use Rattle.fp_tree.specs.declared.machine.ElementForm.TheVariants as form
use Rattle.fp_tree.specs.declared.machine.BehaviorElement.{BehaviorElement}
use Rattle.fp_tree.specs.declared.machine.NoteLine.{NoteLine}
use Rattle.fp_tree.specs.declared.machine.Behavior.{Behavior}
use Rattle.fp_parse_states.specs.declared.head.Head.{Head}
use Rattle.fp_parse_states.specs.declared.head.BodyPiece.{BodyPiece}
use Rattle.fp_parse_states.specs.declared.head.BodyPiece.TheVariants as piece
use Rattle.fp_parse_states.specs.declared.head.LastRead.{LastRead}
use Rattle.fp_parse_states.specs.declared.head.LastRead.TheVariants as read
use Rattle.fp_parse_pieces.specs.Kinds.{kind, k_newline, k_before, k_after, k_open_brace, k_close_brace}
use Rattle.fp_grammar.specs.Steps.{Next, SpellsFrom}
use Rattle.fp_grammar.specs.Steps.Next.{on, ends}
use Rattle.fp_grammar.specs.Steps.SpellsFrom.{last, more}
use Rattle.fp_parse_pieces.specs.Lists.{after_lines, before_lines}
use Rattle.fp_parse_states.specs.Elements.{element, state_head}
use Rattle.fp_parse_states.specs.Bodies.{BodySoFar, read_of, behind_note, body_steps, element_piece, innermost, is_inside, leads, next_piece, single_piece, k_semicolon}
use Rattle.fp_parse_states.specs.Nested.{Lines, NestedElements, SpellsBehind, SpellsElements, standing, elements_of, note_lines, notes_of, semicolons, size}
use Rattle.fp_parse_states.specs.Nested.NestedElements.{none, without_body, with_body}
use Rattle.fp_parse_states.proofs.Singles.{after_piece, before_piece, close_piece, open_piece, separator_piece}
use Rattle.fp_parse_states.proofs.Rows.{elements_grow, notes_grow, sized, elements_grow_within, notes_grow_within}

module _ (depth : ℕ) where
  -- the body goes on from here to these tokens' end
  abbrev pub GoesOn : LastRead → List ℕ → ℕ → List BehaviorElement → List NoteLine → List Token → Behavior → Type 0
  GoesOn ph op la it ns w x = SpellsFrom kind (body_steps depth) (record { last = ph; opened = op; latest = la; elements = it; lines = ns }) w x

  abbrev pub Led : Next BodySoFar Behavior → List Token → Behavior → Type 0
  Led (on s) v x = SpellsFrom kind (body_steps depth) s v x
  Led (ends b) v x = (v ≡ []) × (x ≡ b)

  pub along : (s : BodySoFar) (u v : List Token) (y : BodyPiece) (x : Behavior) (n : Next BodySoFar Behavior) → leads s y ≡ n → Spells kind (next_piece depth s.last (is_inside s.opened)) u y → Led n v x → SpellsFrom kind (body_steps depth) s (u ++ v) x
  along s u v y x (on s') e h m = more s s' (u ++ v) u v y x refl h e m
  along s u v y x (ends b) e h (f, g) =
      last s (u ++ v) y x (subst (λ l. Spells kind (next_piece depth s.last (is_inside s.opened)) l y) (sym (ap (λ l. u ++ l) f ∙ append-nil u)) h) (e ∙ ap (λ b. ends b) (sym g))

  -- what a closing brace leaves to read, where these are the rows
  abbrev pub Ended : List ℕ → List BehaviorElement → List NoteLine → Span → List Token → Behavior → Type 0
  Ended [] it ns at v x = (v ≡ []) × (x ≡ record { elements = it; lines = ns; closing = at })
  Ended (position ∷ op) it ns at v x = GoesOn read.Whole op position it ns v x

  abbrev pub Takes : LastRead → ℕ → Type 0
  Takes ph k = (i : Bool) (t : Token) → kind t ≡ k → Spells kind (next_piece depth ph i) (t ∷ []) (single_piece t)

  -- an element may begin
  pub record Begins (ph : LastRead) : Type 0 where
    pub begins : (i : Bool) (u : List Token) (y : BodyPiece) → Spells kind (element_piece depth i) u y → Spells kind (next_piece depth ph i) u y
    pub line : Takes ph k_before

  pub opened_begins : Begins read.Opening
  opened_begins = record { begins = λ i u y s. inr s; line = λ i t e. inl (t, refl, (refl, inl e)) }

  separated_begins : Begins read.Separator
  separated_begins = record { begins = λ i u y s. inr s; line = λ i t e. inl (t, refl, (refl, inr (inl e))) }

  noted_begins : Begins read.NoteBefore
  noted_begins = record { begins = λ i u y s. inr s; line = λ i t e. inl (t, refl, (refl, inl e)) }

  pub opened_closes : Takes read.Opening k_close_brace
  opened_closes i t e = inl (t, refl, (refl, inr (inl e)))

  separated_closes : Takes read.Separator k_close_brace
  separated_closes i t e = inl (t, refl, (refl, inr (inr (inl e))))

  -- an element stands before
  pub record Stays (ph : LastRead) : Type 0 where
    pub line : Takes ph k_after
    pub separator : (i : Bool) (t : Token) → Among (kind t) semicolons → Spells kind (next_piece depth ph i) (t ∷ []) (single_piece t)
    pub closes : Takes ph k_close_brace
    pub whole : behind_note ph ≡ read.Whole

  whole_stays : Stays read.Whole
  whole_stays = record {
    line = λ i t e. (t, refl, (refl, inl e));
    separator = λ i t m. (t, refl, (refl, among (kind t) m));
    closes = λ i t e. (t, refl, (refl, inr (inr (inr (inl e)))));
    whole = refl;
  }
    where
      among : (k : ℕ) → Among k semicolons → Among k (k_after ∷ k_semicolon ∷ k_newline ∷ k_close_brace ∷ [])
      among k (inl e) = inr (inl e)
      among k (inr (inl e)) = inr (inr (inl e))
      among k (inr (inr e)) = absurd e

  named_stays : Stays read.StateName
  named_stays = record {
    line = λ i t e. (t, refl, (refl, inr (inl e)));
    separator = λ i t m. (t, refl, (refl, among (kind t) m));
    closes = λ i t e. (t, refl, (refl, inr (inr (inr (inr (inl e))))));
    whole = refl;
  }
    where
      among : (k : ℕ) → Among k semicolons → Among k (k_open_brace ∷ k_after ∷ k_semicolon ∷ k_newline ∷ k_close_brace ∷ [])
      among k (inl e) = inr (inr (inl e))
      among k (inr (inl e)) = inr (inr (inr (inl e)))
      among k (inr (inr e)) = absurd e

  behind_stays : (f : ElementForm) → Stays (read_of f)
  behind_stays (form.State n) = named_stays
  behind_stays (form.Choice n) = whole_stays
  behind_stays (form.Initial n) = whole_stays
  behind_stays (form.Signal n) = whole_stays
  behind_stays (form.Action n) = whole_stays
  behind_stays (form.Guard n) = whole_stays
  behind_stays (form.On n) = whole_stays
  behind_stays (form.Entry n) = whole_stays
  behind_stays (form.Exit n) = whole_stays

  -- a single token, and then what it leads to
  single_along : (ph : LastRead) (op : List ℕ) (la : ℕ) (it : List BehaviorElement) (ns : List NoteLine) (t : Token) (v : List Token) (y : BodyPiece) (x : Behavior) → Spells kind (next_piece depth ph (is_inside op)) (t ∷ []) (single_piece t) → single_piece t ≡ y → Led (leads (record { last = ph; opened = op; latest = la; elements = it; lines = ns }) y) v x → GoesOn ph op la it ns (t ∷ v) x
  single_along ph op la it ns t v y x h e m =
      along (record { last = ph; opened = op; latest = la; elements = it; lines = ns }) (t ∷ []) v y x _ refl (subst (λ z. Spells kind (next_piece depth ph (is_inside op)) (t ∷ []) z) e h) m

  close_from : (ph : LastRead) → Takes ph k_close_brace → (op : List ℕ) (la : ℕ) (it : List BehaviorElement) (ns : List NoteLine) (r : Token) (v : List Token) (x : Behavior) → kind r ≡ k_close_brace → Ended op it ns r.at v x → GoesOn ph op la it ns (r ∷ v) x
  close_from ph c [] la it ns r v x k m = single_along ph [] la it ns r v (piece.Close r.at) x (c false r k) (close_piece r k) m
  close_from ph c (position ∷ op) la it ns r v x k m = single_along ph (position ∷ op) la it ns r v (piece.Close r.at) x (c true r k) (close_piece r k) m

  -- lines before an element
  lines_before : (b : Lines) (ph : LastRead) → Begins ph → (op : List ℕ) (la : ℕ) (it : List BehaviorElement) (ns : List NoteLine) (u z : List Token) (x : Behavior) → Spells kind before_lines u b → ((p : LastRead) → Begins p → GoesOn p op la it (ns ++ note_lines (length it) b) z x) → GoesOn ph op la it ns (u ++ z) x
  lines_before [] ph g op la it ns u z x s f =
      subst (λ l. GoesOn ph op la it ns (l ++ z) x) (sym s) (subst (λ l. GoesOn ph op la it l z x) (append-nil ns) (f ph g))
  lines_before (line ∷ b) ph g op la it ns u z x (u1, u2, e, (t, is, (one, k)), s) f =
      subst (λ l. GoesOn ph op la it ns l x) (sym (ap (λ l. l ++ z) (e ∙ ap (λ l. l ++ u2) one)))
      (single_along ph op la it ns t (u2 ++ z) (piece.Before line) x (g.line (is_inside op) t k) (before_piece t k ∙ ap (λ l. piece.Before l) (sym is))
      (lines_before b read.NoteBefore noted_begins op la it (ns ++ record { of = length it; line = line } ∷ []) u2 z x s (λ p h. subst (λ l. GoesOn p op la it l z x) (sym (append_assoc ns (record { of = length it; line = line } ∷ []) (note_lines (length it) b))) (f p h))))

  module _ (r : Token) (k : kind r ≡ k_close_brace) where
    -- lines behind a separator
    lines_separated : (ms : NestedElements) (op : List ℕ) →
        ((la : ℕ) (it : List BehaviorElement) (ns : List NoteLine) (w v : List Token) (x : Behavior) → SpellsElements depth (is_inside op) ms w → Ended op (it ++ elements_of (innermost op) ms (length it)) (ns ++ notes_of ms (length it)) r.at v x → GoesOn read.Separator op la it ns (w ++ r ∷ v) x) →
        (b : Lines) (la : ℕ) (it : List BehaviorElement) (ns : List NoteLine) (u w v : List Token) (x : Behavior) → Spells kind after_lines u b → SpellsElements depth (is_inside op) ms w →
        Ended op (it ++ elements_of (innermost op) ms (length it)) ((ns ++ note_lines la b) ++ notes_of ms (length it)) r.at v x → GoesOn read.Separator op la it ns ((u ++ w) ++ r ∷ v) x
    lines_separated ms op rec [] la it ns u w v x s m h =
        subst (λ l. GoesOn read.Separator op la it ns ((l ++ w) ++ r ∷ v) x) (sym s)
        (rec la it ns w v x m (subst (λ l. Ended op (it ++ elements_of (innermost op) ms (length it)) (l ++ notes_of ms (length it)) r.at v x) (append-nil ns) h))
    lines_separated ms op rec (line ∷ b) la it ns u w v x (u1, u2, e, (t, is, (one, j)), s) m h =
        subst (λ l. GoesOn read.Separator op la it ns ((l ++ w) ++ r ∷ v) x) (sym (e ∙ ap (λ l. l ++ u2) one))
        (single_along read.Separator op la it ns t ((u2 ++ w) ++ r ∷ v) (piece.After line) x (inl (t, refl, (refl, inl j))) (after_piece t j ∙ ap (λ l. piece.After l) (sym is))
        (lines_separated ms op rec b la it (ns ++ record { of = la; line = line } ∷ []) u2 w v x s m
        (subst (λ l. Ended op (it ++ elements_of (innermost op) ms (length it)) (l ++ notes_of ms (length it)) r.at v x) (sym (append_assoc ns (record { of = la; line = line } ∷ []) (note_lines la b))) h)))

    -- what stands behind an element
    behind_from : (ms : NestedElements) (op : List ℕ) →
        ((la : ℕ) (it : List BehaviorElement) (ns : List NoteLine) (w v : List Token) (x : Behavior) → SpellsElements depth (is_inside op) ms w → Ended op (it ++ elements_of (innermost op) ms (length it)) (ns ++ notes_of ms (length it)) r.at v x → GoesOn read.Separator op la it ns (w ++ r ∷ v) x) →
        (ph : LastRead) → Stays ph → (lines : Lines) (la : ℕ) (it : List BehaviorElement) (ns : List NoteLine) (w v : List Token) (x : Behavior) → SpellsBehind (SpellsElements depth (is_inside op) ms) ms lines w →
        Ended op (it ++ elements_of (innermost op) ms (length it)) ((ns ++ note_lines la lines) ++ notes_of ms (length it)) r.at v x → GoesOn ph op la it ns (w ++ r ∷ v) x
    behind_from ms op rec ph g lines la it ns w v x (u, z, a, b, e, f, s, tail) h =
        subst (λ l. GoesOn ph op la it ns (l ++ r ∷ v) x) (sym e) (go a ph g ns u s (subst (λ l. Ended op (it ++ elements_of (innermost op) ms (length it)) ((ns ++ note_lines la l) ++ notes_of ms (length it)) r.at v x) f h))
      where
        ending : (ph : LastRead) → Stays ph → (ns : List NoteLine) → Ended op (it ++ elements_of (innermost op) ms (length it)) ((ns ++ note_lines la b) ++ notes_of ms (length it)) r.at v x →
            (((z ≡ []) × (b ≡ []) × (ms ≡ none)) ⊎ ((t : Token) × (y s : List Token) × (z ≡ t ∷ (y ++ s)) × Among (kind t) semicolons × Spells kind after_lines y b × SpellsElements depth (is_inside op) ms s)) → GoesOn ph op la it ns (z ++ r ∷ v) x
        ending ph g ns h (inl (i, j, n)) =
            subst (λ l. GoesOn ph op la it ns (l ++ r ∷ v) x) (sym i)
            (close_from ph g.closes op la it ns r v x k
            (subst (λ l. Ended op it l r.at v x) (append-nil (ns ++ []) ∙ append-nil ns) (subst (λ l. Ended op l ((ns ++ []) ++ []) r.at v x) (append-nil it)
            (subst (λ m. Ended op (it ++ elements_of (innermost op) m (length it)) ((ns ++ []) ++ notes_of m (length it)) r.at v x) n (subst (λ l. Ended op (it ++ elements_of (innermost op) ms (length it)) ((ns ++ note_lines la l) ++ notes_of ms (length it)) r.at v x) j h)))))
        ending ph g ns h (inr (t, y, q, i, m, s, c)) =
            subst (λ l. GoesOn ph op la it ns (l ++ r ∷ v) x) (sym i)
            (single_along ph op la it ns t ((y ++ q) ++ r ∷ v) piece.Separator x (g.separator (is_inside op) t m) (separator_piece t m) (lines_separated ms op rec b la it ns y q v x s c h))

        go : (a : Lines) (ph : LastRead) → Stays ph → (ns : List NoteLine) (u : List Token) → Spells kind after_lines u a → Ended op (it ++ elements_of (innermost op) ms (length it)) ((ns ++ note_lines la (a ++ b)) ++ notes_of ms (length it)) r.at v x → GoesOn ph op la it ns ((u ++ z) ++ r ∷ v) x
        go [] ph g ns u s h = subst (λ l. GoesOn ph op la it ns ((l ++ z) ++ r ∷ v) x) (sym s) (ending ph g ns h tail)
        go (line ∷ a) ph g ns u (u1, u2, e, (t, is, (one, j)), s) h =
            subst (λ l. GoesOn ph op la it ns ((l ++ z) ++ r ∷ v) x) (sym (e ∙ ap (λ l. l ++ u2) one))
            (single_along ph op la it ns t ((u2 ++ z) ++ r ∷ v) (piece.After line) x (g.line (is_inside op) t j) (after_piece t j ∙ ap (λ l. piece.After l) (sym is))
            (subst (λ p. GoesOn p op la it (ns ++ record { of = la; line = line } ∷ []) ((u2 ++ z) ++ r ∷ v) x) (sym g.whole)
            (go a read.Whole whole_stays (ns ++ record { of = la; line = line } ∷ []) u2 s
            (subst (λ l. Ended op (it ++ elements_of (innermost op) ms (length it)) (l ++ notes_of ms (length it)) r.at v x) (sym (append_assoc ns (record { of = la; line = line } ∷ []) (note_lines la (a ++ b)))) h))))

  -- an element, and then what follows
  element_from : (ph : LastRead) → Begins ph → (op : List ℕ) (la : ℕ) (it : List BehaviorElement) (ns : List NoteLine) (e : Head) (u z : List Token) (x : Behavior) → Spells kind (element depth (is_inside op)) u e → GoesOn (read_of e.form) op (length it) (it ++ standing (innermost op) e ∷ []) ns z x → GoesOn ph op la it ns (u ++ z) x
  element_from ph g op la it ns e u z x s m =
      along (record { last = ph; opened = op; latest = la; elements = it; lines = ns }) u z (piece.Element e) x _ refl (g.begins (is_inside op) u (piece.Element e) (e, refl, s)) m

  head_named : (w : List Token) (e : Head) → Spells kind state_head w e → read_of e.form ≡ read.StateName
  head_named w e (p, is, s) = ap (λ e. read_of e.form) is

  pub elements_from : (ms : NestedElements) (ph : LastRead) → Begins ph → Takes ph k_close_brace → (op : List ℕ) (la : ℕ) (it : List BehaviorElement) (ns : List NoteLine) (w : List Token) (r : Token) (v : List Token) (x : Behavior) → kind r ≡ k_close_brace → SpellsElements depth (is_inside op) ms w →
      Ended op (it ++ elements_of (innermost op) ms (length it)) (ns ++ notes_of ms (length it)) r.at v x → GoesOn ph op la it ns (w ++ r ∷ v) x
  elements_from none ph g c op la it ns w r v x k s h =
      subst (λ l. GoesOn ph op la it ns (l ++ r ∷ v) x) (sym s) (close_from ph c op la it ns r v x k (subst (λ l. Ended op it l r.at v x) (append-nil ns) (subst (λ l. Ended op l (ns ++ []) r.at v x) (append-nil it) h)))
  elements_from (without_body b e a ms) ph g c op la it ns w r v x k (u, y, z, i, s, m, t) h =
      subst (λ l. GoesOn ph op la it ns l x) (sym (ap (λ l. l ++ r ∷ v) i ∙ append_assoc u (y ++ z) (r ∷ v) ∙ ap (λ l. u ++ l) (append_assoc y z (r ∷ v))))
      (lines_before b ph g op la it ns u (y ++ (z ++ r ∷ v)) x s (λ p q.
      element_from p q op la it (ns ++ note_lines (length it) b) e y (z ++ r ∷ v) x m
      (behind_from r k ms op (λ la it ns w v x s h. elements_from ms read.Separator separated_begins separated_closes op la it ns w r v x k s h) (read_of e.form) (behind_stays e.form) a (length it) (it ++ standing (innermost op) e ∷ []) (ns ++ note_lines (length it) b) z v x t
      (subst (λ l. Ended op l (((ns ++ note_lines (length it) b) ++ note_lines (length it) a) ++ notes_of ms (length (it ++ standing (innermost op) e ∷ []))) r.at v x) (sym (elements_grow it (standing (innermost op) e) (elements_of (innermost op) ms)))
      (subst (λ l. Ended op (it ++ elements_of (innermost op) (without_body b e a ms) (length it)) l r.at v x)
      (sym (notes_grow it (standing (innermost op) e) (ns ++ note_lines (length it) b) (note_lines (length it) a) (notes_of ms) ∙ append_assoc ns (note_lines (length it) b) (note_lines (length it) a ++ notes_of ms (length it + 1)))) h)))))
  elements_from (with_body b e inner a ms) ph g c op la it ns w r v x k (u, y, q, z, l, rr, i, s, m, kl, inn, kr, t) h =
      subst (λ l. GoesOn ph op la it ns l x) (sym (ap (λ l. l ++ r ∷ v) i ∙ append_assoc u (y ++ l ∷ (q ++ rr ∷ z)) (r ∷ v) ∙ ap (λ l. u ++ l) (append_assoc y (l ∷ (q ++ rr ∷ z)) (r ∷ v) ∙ ap (λ j. y ++ l ∷ j) (append_assoc q (rr ∷ z) (r ∷ v)))))
      (lines_before b ph g op la it ns u (y ++ l ∷ (q ++ rr ∷ (z ++ r ∷ v))) x s (λ p begins.
      element_from p begins op la it (ns ++ note_lines (length it) b) e y (l ∷ (q ++ rr ∷ (z ++ r ∷ v))) x (inl m)
      (subst (λ f. GoesOn f op (length it) (it ++ standing (innermost op) e ∷ []) (ns ++ note_lines (length it) b) (l ∷ (q ++ rr ∷ (z ++ r ∷ v))) x) (sym (head_named y e m))
      (single_along read.StateName op (length it) (it ++ standing (innermost op) e ∷ []) (ns ++ note_lines (length it) b) l (q ++ rr ∷ (z ++ r ∷ v)) piece.Open x (l, refl, (refl, inl kl)) (open_piece l kl)
      (elements_from inner read.Opening opened_begins opened_closes (length it ∷ op) (length it) (it ++ standing (innermost op) e ∷ []) (ns ++ note_lines (length it) b) q rr (z ++ r ∷ v) x kr inn
      (behind_from r k ms op (λ la it ns w v x s h. elements_from ms read.Separator separated_begins separated_closes op la it ns w r v x k s h) read.Whole whole_stays a (length it)
      ((it ++ standing (innermost op) e ∷ []) ++ elements_of (Some (length it)) inner (length (it ++ standing (innermost op) e ∷ [])))
      ((ns ++ note_lines (length it) b) ++ notes_of inner (length (it ++ standing (innermost op) e ∷ []))) z v x t
      (subst (λ l. Ended op l ((((ns ++ note_lines (length it) b) ++ notes_of inner (length (it ++ standing (innermost op) e ∷ []))) ++ note_lines (length it) a) ++ notes_of ms (length ((it ++ standing (innermost op) e ∷ []) ++ elements_of (Some (length it)) inner (length (it ++ standing (innermost op) e ∷ []))))) r.at v x)
      (sym (elements_grow_within it (standing (innermost op) e) (elements_of (Some (length it)) inner) (elements_of (innermost op) ms) (size inner) (sized inner (Some (length it)) (length it + 1))))
      (subst (λ l. Ended op (it ++ elements_of (innermost op) (with_body b e inner a ms) (length it)) l r.at v x)
      (sym (notes_grow_within it (standing (innermost op) e) (elements_of (Some (length it)) inner) (ns ++ note_lines (length it) b) (note_lines (length it) a) (notes_of inner) (notes_of ms) (size inner) (sized inner (Some (length it)) (length it + 1)) ∙
      append_assoc ns (note_lines (length it) b) (notes_of inner (length it + 1) ++ (note_lines (length it) a ++ notes_of ms ((length it + 1) + size inner))))) h))))))))
