-- The grammar of machines passes the test for the tokens of lookahead, behind whatever was read of a body, and each body can be ended.
use Rattle.std.proofs.Common.{◌≡◌, ℕ, true, false, not, Bool, List, [], ◌∷◌, ◌++◌, length, refl, inl, inr}
use Rattle.fp_lexer.specs.Words.{mark}
use Rattle.fp_lexer.specs.declared.token.Word.TheVariants as word
use Rattle.fp_lexer.specs.declared.token.Token.{Token}
use Rattle.fp_tree.specs.declared.machine.ElementForm.{ElementForm}
use Rattle.fp_tree.specs.declared.machine.ElementForm.TheVariants as form
use Rattle.fp_tree.specs.declared.machine.BehaviorElement.{BehaviorElement}
use Rattle.fp_tree.specs.declared.machine.NoteLine.{NoteLine}
use Rattle.fp_tree.specs.declared.machine.Behavior.{Behavior}
use Rattle.fp_grammar.specs.Grammar.{Spells}
use Rattle.fp_grammar.specs.Sets.{nullable, first, extends, disjoint, subset, is_predictive}
use Rattle.fp_grammar.specs.Promises.{Fits}
use Rattle.fp_grammar.specs.Throughout.{each_productive, FitsThroughout}
use Rattle.fp_grammar.specs.Steps.{Driven, SpellsFrom}
use Rattle.fp_grammar.specs.Steps.SpellsFrom.{last, more}
use Rattle.fp_grammar.proofs.Fits.{good_of}
use Rattle.fp_grammar.proofs.Throughout.{fits_whole}
use Rattle.fp_parse_pieces.specs.Kinds.{kind}
use Rattle.fp_parse_pieces.proofs.WordsFit.{each_kind, somewhere}
use Rattle.fp_parse_defs.proofs.DefinitionsFit.{type_good}
use Rattle.fp_parse_states.specs.declared.head.BodyPiece.TheVariants as piece
use Rattle.fp_parse_states.specs.declared.head.LastRead.{LastRead}
use Rattle.fp_parse_states.specs.declared.head.LastRead.TheVariants as read
use Rattle.fp_parse_states.specs.Elements.{element}
use Rattle.fp_parse_states.specs.Nested.{elements_go_on}
use Rattle.fp_parse_states.specs.Bodies.{BodySoFar, body_steps, element_or, element_piece, innermost, is_inside, next_piece, read_of, singles}
use Rattle.fp_parse_states.proofs.TransitionsFit.{do_good, goto_good, transition_good}

module _ (depth : ℕ) where
  pub element_fits : (i : Bool) → FitsThroughout kind (element depth i)
  element_fits true = let d = do_good in let g = goto_good in let t = transition_good in record { predictive = refl; each = refl; refs = assumption (each_kind, d, g, t) }
  element_fits false = let g = goto_good in let t = type_good depth in record { predictive = refl; each = refl; refs = assumption (each_kind, g, t) }

  pub element_predictive : (i : Bool) → is_predictive (element_piece depth i) ≡ true
  element_predictive i = (element_fits i).predictive

  pub element_filled : (i : Bool) → not (nullable (element_piece depth i)) ≡ true
  element_filled true = refl
  element_filled false = refl

  pub beside_element : (p : LastRead) (i : Bool) → disjoint (singles p) (first (element_piece depth i)) ≡ true
  beside_element read.Opening true = refl
  beside_element read.Opening false = refl
  beside_element read.Separator true = refl
  beside_element read.Separator false = refl
  beside_element read.NoteBefore true = refl
  beside_element read.NoteBefore false = refl
  beside_element read.StateName true = refl
  beside_element read.StateName false = refl
  beside_element read.Whole true = refl
  beside_element read.Whole false = refl

  or_predictive : (p : LastRead) (i : Bool) → is_predictive (element_or (singles p) depth i) ≡ true
  or_predictive read.Opening true = refl
  or_predictive read.Opening false = refl
  or_predictive read.Separator true = refl
  or_predictive read.Separator false = refl
  or_predictive read.NoteBefore true = refl
  or_predictive read.NoteBefore false = refl
  or_predictive read.StateName true = refl
  or_predictive read.StateName false = refl
  or_predictive read.Whole true = refl
  or_predictive read.Whole false = refl

  element_each : (p : LastRead) (i : Bool) → each_productive (element_or (singles p) depth i) ≡ true
  element_each read.Opening true = refl
  element_each read.Opening false = refl
  element_each read.Separator true = refl
  element_each read.Separator false = refl
  element_each read.NoteBefore true = refl
  element_each read.NoteBefore false = refl
  element_each read.StateName true = refl
  element_each read.StateName false = refl
  element_each read.Whole true = refl
  element_each read.Whole false = refl

  pub element_or_fits : (p : LastRead) (i : Bool) → FitsThroughout kind (element_or (singles p) depth i)
  element_or_fits p i = record { predictive = or_predictive p i; each = element_each p i; refs = (each_kind, (element_fits i).refs) }

  piece_fits : (p : LastRead) (i : Bool) → Fits kind (next_piece depth p i)
  piece_fits read.Opening i = fits_whole (element_or_fits read.Opening i)
  piece_fits read.Separator i = fits_whole (element_or_fits read.Separator i)
  piece_fits read.NoteBefore i = fits_whole (element_or_fits read.NoteBefore i)
  piece_fits read.StateName i = record { predictive = refl; some = refl; refs = each_kind }
  piece_fits read.Whole i = record { predictive = refl; some = refl; refs = each_kind }

  piece_filled : (p : LastRead) (i : Bool) → not (nullable (next_piece depth p i)) ≡ true
  piece_filled read.Opening true = refl
  piece_filled read.Opening false = refl
  piece_filled read.Separator true = refl
  piece_filled read.Separator false = refl
  piece_filled read.NoteBefore true = refl
  piece_filled read.NoteBefore false = refl
  piece_filled read.StateName true = refl
  piece_filled read.StateName false = refl
  piece_filled read.Whole true = refl
  piece_filled read.Whole false = refl

  piece_extended : (p : LastRead) (i : Bool) → subset (extends (next_piece depth p i)) elements_go_on ≡ true
  piece_extended read.Opening true = refl
  piece_extended read.Opening false = refl
  piece_extended read.Separator true = refl
  piece_extended read.Separator false = refl
  piece_extended read.NoteBefore true = refl
  piece_extended read.NoteBefore false = refl
  piece_extended read.StateName true = refl
  piece_extended read.StateName false = refl
  piece_extended read.Whole true = refl
  piece_extended read.Whole false = refl

  piece_apart : (p : LastRead) (i : Bool) → disjoint elements_go_on (first (next_piece depth p i)) ≡ true
  piece_apart read.Opening true = refl
  piece_apart read.Opening false = refl
  piece_apart read.Separator true = refl
  piece_apart read.Separator false = refl
  piece_apart read.NoteBefore true = refl
  piece_apart read.NoteBefore false = refl
  piece_apart read.StateName true = refl
  piece_apart read.StateName false = refl
  piece_apart read.Whole true = refl
  piece_apart read.Whole false = refl

  -- a closing brace
  abbrev closing : Token
  closing = record { what = word.Mark (mark "}"); at = somewhere }

  abbrev Ending : BodySoFar → Type 0
  Ending s = (w : List Token) × (x : Behavior) × SpellsFrom kind (body_steps depth) s w x

  -- what is whole ends by closing braces
  whole_ends : (opened : List ℕ) (latest : ℕ) (elements : List BehaviorElement) (lines : List NoteLine) → Ending (record { last = read.Whole; opened = opened; latest = latest; elements = elements; lines = lines })
  whole_ends [] latest elements lines = (closing ∷ [], record { elements = elements; lines = lines; closing = somewhere }, last _ _ (piece.Close somewhere) _ (closing, refl, (refl, inr (inr (inr (inl refl))))) refl)
  whole_ends (position ∷ opened) latest elements lines =
      let q = whole_ends opened position elements lines in
      (closing ∷ q.0, q.1, more _ _ _ (closing ∷ []) q.0 (piece.Close somewhere) q.1 refl (closing, refl, (refl, inr (inr (inr (inl refl))))) refl q.2)

  -- so does what may be closed
  closable_ends : (p : LastRead) → ((i : Bool) → Spells kind (next_piece depth p i) (closing ∷ []) (piece.Close somewhere)) → (opened : List ℕ) (latest : ℕ) (elements : List BehaviorElement) (lines : List NoteLine) → Ending (record { last = p; opened = opened; latest = latest; elements = elements; lines = lines })
  closable_ends p s [] latest elements lines = (closing ∷ [], record { elements = elements; lines = lines; closing = somewhere }, last _ _ (piece.Close somewhere) _ (s false) refl)
  closable_ends p s (position ∷ opened) latest elements lines =
      let q = whole_ends opened position elements lines in
      (closing ∷ q.0, q.1, more _ _ _ (closing ∷ []) q.0 (piece.Close somewhere) q.1 refl (s true) refl q.2)

  read_ends : (f : ElementForm) (opened : List ℕ) (latest : ℕ) (elements : List BehaviorElement) (lines : List NoteLine) → Ending (record { last = read_of f; opened = opened; latest = latest; elements = elements; lines = lines })
  read_ends (form.State n) = closable_ends read.StateName (λ i. (closing, refl, (refl, inr (inr (inr (inr (inl refl)))))))
  read_ends (form.Choice n) = whole_ends
  read_ends (form.Initial n) = whole_ends
  read_ends (form.Signal n) = whole_ends
  read_ends (form.Action n) = whole_ends
  read_ends (form.Guard n) = whole_ends
  read_ends (form.On n) = whole_ends
  read_ends (form.Entry n) = whole_ends
  read_ends (form.Exit n) = whole_ends

  last_ends : (p : LastRead) (opened : List ℕ) (latest : ℕ) (elements : List BehaviorElement) (lines : List NoteLine) → Ending (record { last = p; opened = opened; latest = latest; elements = elements; lines = lines })
  last_ends read.Opening = closable_ends read.Opening (λ i. inl (closing, refl, (refl, inr (inl refl))))
  last_ends read.Separator = closable_ends read.Separator (λ i. inl (closing, refl, (refl, inr (inr (inl refl)))))
  last_ends read.NoteBefore = noted
    where
      noted : (opened : List ℕ) (latest : ℕ) (elements : List BehaviorElement) (lines : List NoteLine) → Ending (record { last = read.NoteBefore; opened = opened; latest = latest; elements = elements; lines = lines })
      noted opened latest elements lines =
          let fits = fits_whole (element_fits (is_inside opened)) in
          let e = (good_of (element depth (is_inside opened)) fits.predictive fits.refs).spelling fits.some in
          let q = read_ends e.1.form opened (length elements) (elements ++ record { form = e.1.form; parent = innermost opened; at = e.1.at } ∷ []) lines in
          (e.0 ++ q.0, q.1, more _ _ _ e.0 q.0 (piece.Element e.1) q.1 refl (inr (e.1, refl, e.2)) refl q.2)
  last_ends read.StateName = closable_ends read.StateName (λ i. (closing, refl, (refl, inr (inr (inr (inr (inl refl)))))))
  last_ends read.Whole = whole_ends

  pub driven : Driven kind (body_steps depth) elements_go_on
  driven = record {
    fits = λ s. piece_fits s.last (is_inside s.opened);
    filled = λ s. piece_filled s.last (is_inside s.opened);
    extended = λ s. piece_extended s.last (is_inside s.opened);
    apart = λ s. piece_apart s.last (is_inside s.opened);
    spelling = λ s. last_ends s.last s.opened s.latest s.elements s.lines;
  }
