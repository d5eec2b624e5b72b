-- The values of expressions, one after another, and the least of what is broken in them.
use Rattle.std.proofs.Common.{◌≡◌, ℕ, zero, suc, ◌+◌, ◌≤◌, ◌⊎◌, List, [], ◌∷◌, ◌++◌, length, flat_map, slice_get, take, Option, Some, None, refl, inl, inr, sym, ap, subst, ◌∙◌, arith, length-append}
use Rattle.std.proofs.lemmas.List.{append-nil, take_all}
use Rattle.std.proofs.lemmas.Grind.{flat_map-append}
use Rattle.std.proofs.lemmas.Option.{slice_get_within}
use Rattle.fp_base.proofs.Spots.{get_push}
use Rattle.fp_base.proofs.Lists.{get_last, take_next}
use Rattle.fp_base.specs.declared.value.Value.{Value}
use Rattle.fp_base.specs.declared.refusal.Refusal.{Refusal}
use Rattle.fp_tree.specs.declared.source.Source.{Source}
use Rattle.fp_tree.specs.declared.expression.Expr.{Expr}
use Rattle.fp_meaning.specs.declared.names.Mention.{Mention}
use Rattle.fp_base.specs.Least.{IsLeast, Either, lesser_of}
use Rattle.fp_meaning.specs.Names.{Path, in_expression, uses_of}
use Rattle.fp_meaning.specs.Origins.{Placed, placed, expressions_of}
use Rattle.fp_meaning.specs.Values.{opened, IsValue}
use Rattle.fp_meaning.specs.ConstantFaults.{BrokenIn}
use Rattle.fp_base.proofs.Calculus.{least_none, least_same, least_along, least_either}
use Rattle.fp_consts.specs.declared.measured.Measured.{Measured}
use Rattle.fp_consts.specs.declared.found.Examination.{Examination}
use Rattle.fp_meaning.specs.declared.item.Item.{Item}
use Rattle.fp_consts.specs.declared.marking.Marking.{Marking}
use Rattle.fp_consts.specs.Examined.{AreGiven, IsFound, Examines, plain}
use Rattle.fp_consts.specs.Marked.{AreValues, SomeBroken, AddsMarks, MarksExpression, MarksItem, AddsFound, Counts, IsMarked, Marks}
use Rattle.fp_consts.proofs.Given.{given_split}
use Rattle.fp_consts.proofs.Gathering.{stays}

module _ (source : Source) where
  values_more : (ps : List Placed) (p : Placed) (os : List (Option Value)) (o : Option Value) → AreValues source ps os → IsValue source p.scope (opened p.expression) o
      → AreValues source (ps ++ p ∷ []) (os ++ o ∷ [])
  values_more ps p os o before is = record {
    each =
        let one : length (os ++ o ∷ []) ≡ length os + 1 = length-append os (o ∷ []) in
        let other : length (ps ++ p ∷ []) ≡ length ps + 1 = length-append ps (p ∷ []) in
        let same = before.each in omega arith;
    exact = λ k q r at there. go k q r (get_push ps p q k at) (get_push os o r k there);
  }
    where
      go : (k : ℕ) (q : Placed) (r : Option Value) → (slice_get ps k ≡ Some q) ⊎ ((k ≡ length ps) × (p ≡ q)) → (slice_get os k ≡ Some r) ⊎ ((k ≡ length os) × (o ≡ r))
          → IsValue source q.scope (opened q.expression) r
      go k q r (inl a) (inl b) = before.exact k q r a b
      go k q r (inl a) (inr b) = let low = slice_get_within ps k q a in let here = b.0 in let same = before.each in absurd (omega arith)
      go k q r (inr a) (inl b) = let low = slice_get_within os k r b in let here = a.0 in let same = before.each in absurd (omega arith)
      go k q r (inr a) (inr b) =
          subst (λ (x : Placed). IsValue source x.scope (opened x.expression) r) a.1 (subst (λ (x : Option Value). IsValue source p.scope (opened p.expression) x) b.1 is)

  broken_more : (ps : List Placed) (p : Placed) (o q : Option Refusal) → IsLeast (SomeBroken source ps) o → IsLeast (BrokenIn source p.scope p.expression) q
      → IsLeast (SomeBroken source (ps ++ p ∷ [])) (lesser_of o q)
  broken_more ps p o q l m = least_same to back (least_either o q l m)
    where
      to : (f : Refusal) → Either (SomeBroken source ps) (BrokenIn source p.scope p.expression) f → SomeBroken source (ps ++ p ∷ []) f
      to f (inl t) = (t.0, t.1, stays ps p t.0 t.1 t.2, t.3)
      to f (inr h) = (length ps, p, get_last ps p, h)

      split : (f : Refusal) (t : SomeBroken source (ps ++ p ∷ []) f) → (slice_get ps t.0 ≡ Some t.1) ⊎ ((t.0 ≡ length ps) × (p ≡ t.1))
          → Either (SomeBroken source ps) (BrokenIn source p.scope p.expression) f
      split f t (inl at) = inl (t.0, t.1, at, t.3)
      split f t (inr same) = inr (subst (λ (x : Placed). BrokenIn source x.scope x.expression f) (sym same.1) t.3)

      back : (f : Refusal) → SomeBroken source (ps ++ p ∷ []) f → Either (SomeBroken source ps) (BrokenIn source p.scope p.expression) f
      back f t = split f t (get_push ps p t.1 t.0 t.2)

  -- nothing more
  adds_none : (before after : Marking) → after.at ≡ before.at → after.first ≡ before.first → (ms : List Mention) → after.next ≡ before.next + length ms
      → AddsMarks source [] ms before after
  adds_none before after at first ms next = record {
    values = λ qs is. subst (λ (xs : List Placed). AreValues source xs after.at) (sym (append-nil qs)) (subst (λ (os : List (Option Value)). AreValues source qs os) (sym at) is);
    first = λ qs is. subst (λ (xs : List Placed). IsLeast (SomeBroken source xs) after.first) (sym (append-nil qs)) (least_along (sym first) is);
    next = next;
  }

  -- one expression more
  adds_one : (scope : Path) (e : Expr) (before : Marking) (found : Examination) (after : Marking) → IsFound source scope e before.next found → AddsFound before found after
      → AddsMarks source (placed scope e ∷ []) (in_expression scope e) before after
  adds_one scope e before found after f a = record {
    values = λ qs is. subst (λ (os : List (Option Value)). AreValues source (qs ++ placed scope e ∷ []) os) (sym a.at) (values_more qs (placed scope e) before.at (plain found.value) is f.value);
    first = λ qs is. least_along (sym a.first) (broken_more qs (placed scope e) before.first found.first is f.first);
    next = a.next ∙ f.next;
  }

  marked_none : (m : Marking) → m ≡ record { at = []; first = None; next = 0 } → IsMarked source [] m
  marked_none m is = subst (λ (x : Marking). IsMarked source [] x) (sym is) (record {
    values = record { each = refl; exact = λ k p o at there. cc };
    first = least_none (λ f t. cc);
    next = refl;
  })

  marked_more : (ps : List Item) (p : Item) (before after : Marking) → IsMarked source ps before → AddsMarks source (expressions_of p) (uses_of p) before after
      → IsMarked source (ps ++ p ∷ []) after
  marked_more ps p before after is adds =
      let expressions : flat_map expressions_of (ps ++ p ∷ []) ≡ flat_map expressions_of ps ++ expressions_of p =
      flat_map-append expressions_of ps (p ∷ []) ∙ ap (λ (xs : List Placed). flat_map expressions_of ps ++ xs) (append-nil (expressions_of p)) in
      let uses : flat_map uses_of (ps ++ p ∷ []) ≡ flat_map uses_of ps ++ uses_of p =
      flat_map-append uses_of ps (p ∷ []) ∙ ap (λ (xs : List Mention). flat_map uses_of ps ++ xs) (append-nil (uses_of p)) in
      record {
        values = subst (λ (xs : List Placed). AreValues source xs after.at) (sym expressions) (adds.values (flat_map expressions_of ps) is.values);
        first = subst (λ (xs : List Placed). IsLeast (SomeBroken source xs) after.first) (sym expressions) (adds.first (flat_map expressions_of ps) is.first);
        next =
            let long = length-append (flat_map uses_of ps) (uses_of p) in
            let whole : length (flat_map uses_of (ps ++ p ∷ [])) ≡ length (flat_map uses_of ps ++ uses_of p) = ap length uses in
            let one = adds.next in let other = is.next in omega arith;
      }

  -- the uses of one of the items are given where those of all are
  pub item_given : (table : List (Option Measured)) (numbers : List ℕ) (ps : List Item) (k : ℕ) (p : Item) (from : ℕ) → slice_get ps k ≡ Some p
      → AreGiven source table numbers (flat_map uses_of ps) from → AreGiven source table numbers (uses_of p) (from + length (flat_map uses_of (take k ps)))
  item_given table numbers [] k p from at given = cc
  item_given table numbers (x ∷ ps) zero p from at given =
      let same : x ≡ p = cc in
      subst (λ (y : Item). AreGiven source table numbers (uses_of y) (from + 0)) same
      (subst (λ (n : ℕ). AreGiven source table numbers (uses_of x) n) (omega arith) (given_split source table numbers (uses_of x) (flat_map uses_of ps) from given).0)
  item_given table numbers (x ∷ ps) (suc k) p from at given =
      let rest = item_given table numbers ps k p (from + length (uses_of x)) at (given_split source table numbers (uses_of x) (flat_map uses_of ps) from given).1 in
      let long = length-append (uses_of x) (flat_map uses_of (take k ps)) in
      let same : from + length (uses_of x) + length (flat_map uses_of (take k ps)) ≡ from + length (uses_of x ++ flat_map uses_of (take k ps)) = omega arith in
      subst (λ (n : ℕ). AreGiven source table numbers (uses_of p) n) same rest

-- so many of the items
abbrev pub MarksFirst : List (Option Measured) → List ℕ → List Item → ℕ → Marking → Type 0
MarksFirst table numbers items k marking = (source : Source) → AreGiven source table numbers (flat_map uses_of items) 0 → IsMarked source (take k items) marking

module _ (table : List (Option Measured)) (numbers : List ℕ) (items : List Item) where
  pub marks_none : (m : Marking) → m ≡ record { at = []; first = None; next = 0 } → MarksFirst table numbers items 0 m
  marks_none m is source given = marked_none source m is

  pub marks_next : (k : ℕ) (p : Item) (before after : Marking) → slice_get items k ≡ Some p → MarksFirst table numbers items k before → MarksItem table numbers p before after
      → MarksFirst table numbers items (k + 1) after
  marks_next k p before after at is adds source given =
      let so_far = is source given in
      let here : AreGiven source table numbers (uses_of p) (0 + length (flat_map uses_of (take k items))) = item_given source table numbers items k p 0 at given in
      let same : 0 + length (flat_map uses_of (take k items)) ≡ before.next = let n = so_far.next in omega arith in
      subst (λ (xs : List Item). IsMarked source xs after) (sym (take_next items k p at))
      (marked_more source (take k items) p before after so_far (adds source (subst (λ (n : ℕ). AreGiven source table numbers (uses_of p) n) same here)))

  pub marks_all : (k : ℕ) (m : Marking) → length items ≤ k → MarksFirst table numbers items k m → Marks table numbers items m
  marks_all k m past is source given = subst (λ (xs : List Item). IsMarked source xs m) (take_all k items past) (is source given)

pub one_expression : (table : List (Option Measured)) (numbers : List ℕ) (e : Expr) (before : Marking) (found : Examination) (after : Marking)
    → Examines table numbers e before.next found → AddsFound before found after → MarksExpression table numbers e before after
one_expression table numbers e before found after examined adds source scope given = adds_one source scope e before found after (examined source scope given) adds

-- past a use of a type
pub past_type : (source : Source) (table : List (Option Measured)) (numbers : List ℕ) (m : Mention) (before after : Marking) → AreGiven source table numbers (m ∷ []) before.next
    → after.at ≡ before.at → after.first ≡ before.first → Counts numbers before.next after.next → AddsMarks source [] (m ∷ []) before after
past_type source table numbers m before after given at first counts =
    adds_none source before after at first (m ∷ []) (counts (slice_get_within numbers before.next given.0.0 given.0.1))

pub nothing_more : (source : Source) (before : Marking) → AddsMarks source [] [] before before
nothing_more source before = adds_none source before before refl refl [] (omega arith)
