-- Where the states and choices among the elements of a machine stand among its vertices, and back; and so of what is declared.
use Rattle.std.proofs.Common.{◌≡◌, ℕ, ◌+◌, ◌<◌, ◌≤◌, Bool, true, false, List, [], ◌∷◌, ◌++◌, length, filter, map, slice_get, Option, Some, None, is_some, refl, sym, ap, ◌∙◌, arith}
use Rattle.std.specs.Prelude.{option_map}
use Rattle.std.proofs.lemmas.Option.{slice_get-map}
use Rattle.std.specs.Option.{option_to_list}
use Rattle.fp_base.proofs.Options.{mapped_some}
use Rattle.fp_tree.specs.declared.machine.BehaviorElement.{BehaviorElement}
use Rattle.fp_tree.specs.declared.machine.ElementForm.{ElementForm}
use Rattle.fp_tree.specs.declared.machine.ElementForm.TheVariants as element
use Rattle.fp_tree.specs.declared.machine.TypedName.{TypedName}
use Rattle.fp_tables.specs.declared.kind.Kind.{Kind}
use Rattle.fp_tables.specs.declared.machine.Named.{Named}
use Rattle.fp_tables.specs.declared.machine.Vertex.{Vertex}
use Rattle.fp_machine_rules.specs.declared.item.Item.{Item}
use Rattle.fp_machines.specs.Outline.{outline, outline_of}
use Rattle.fp_machines.specs.Steps.{laid_item, laid_items}
use Rattle.fp_machines.specs.Made.{is_vertex, kind_at, named, declared_from, number_among, vertex_in, vertex_number, vertices_from}
use Rattle.fp_sound_parts.proofs.Listed.{count_below, count_grows, count_once, count_past, count_rises, count_stays, from_zero, given_back, given_here, listed, listed_length}

-- ---- elements and items

module _ (es : List BehaviorElement) where
  pub item_here : (v : ℕ) (e : BehaviorElement) → slice_get es v ≡ Some e → slice_get (laid_items es (outline es)) v ≡ Some (laid_item es (outline es) e)
  item_here v e h = slice_get-map (laid_item es (outline es)) es v ∙ ap (option_map (laid_item es (outline es))) h

  pub outline_here : (v : ℕ) (e : BehaviorElement) → slice_get es v ≡ Some e → slice_get (outline es) v ≡ Some (outline_of es e)
  outline_here v e h = slice_get-map (outline_of es) es v ∙ ap (option_map (outline_of es)) h

-- the element of an item
pub record IsItemOf (es : List BehaviorElement) (make : BehaviorElement → Item) (v : ℕ) (x : Item) : Type 0 where
  pub element : BehaviorElement
  pub here : slice_get es v ≡ Some element
  pub is : make element ≡ x

made_back : (make : BehaviorElement → Item) (es : List BehaviorElement) (v : ℕ) (x : Item) → slice_get (map make es) v ≡ Some x → IsItemOf es make v x
made_back make es v x h =
    let m = mapped_some make (slice_get es v) x (sym (slice_get-map make es v) ∙ h) in
    record { element = m.0; here = m.1; is = m.2 }

pub item_back : (es : List BehaviorElement) (v : ℕ) (x : Item) → slice_get (laid_items es (outline es)) v ≡ Some x → IsItemOf es (laid_item es (outline es)) v x
item_back es v x h = made_back (laid_item es (outline es)) es v x h

pub outline_back : (es : List BehaviorElement) (v : ℕ) (x : Item) → slice_get (outline es) v ≡ Some x → IsItemOf es (outline_of es) v x
outline_back es v x h = made_back (outline_of es) es v x h

-- ---- numbers of elements of a kind

module _ (test : ElementForm → Bool) (es : List BehaviorElement) where
  abbrev passes : BehaviorElement → Bool
  passes e = test e.form

  pub number_below : (v : ℕ) (e : BehaviorElement) → slice_get es v ≡ Some e → test e.form ≡ true → number_among test es v < length (filter (λ (e : BehaviorElement). test e.form) es)
  number_below v e h t = count_below passes es v e h t

  pub number_rises : (v w : ℕ) → v ≤ w → number_among test es v ≤ number_among test es w
  number_rises v w l = count_rises passes es v w l

  pub number_grows : (v w : ℕ) (e : BehaviorElement) → slice_get es v ≡ Some e → test e.form ≡ true → v < w → number_among test es v < number_among test es w
  number_grows v w e h t l = count_grows passes es v w e h t l

  pub number_past : (v : ℕ) (e : BehaviorElement) → slice_get es v ≡ Some e → test e.form ≡ true → number_among test es (v + 1) ≡ number_among test es v + 1
  number_past v e h t =
      let a = count_past passes es v e h t in
      let on : v + 1 ≡ Prim.Native.Nat.suc v = omega arith in
      ap (number_among test es) on ∙ omega (arith, a)

  pub number_stays : (v : ℕ) (e : BehaviorElement) → slice_get es v ≡ Some e → test e.form ≡ false → number_among test es (v + 1) ≡ number_among test es v
  number_stays v e h t =
      let on : v + 1 ≡ Prim.Native.Nat.suc v = omega arith in
      ap (number_among test es) on ∙ count_stays passes es v e h t

  pub number_once : (v w : ℕ) (d e : BehaviorElement) → slice_get es v ≡ Some d → test d.form ≡ true → slice_get es w ≡ Some e → test e.form ≡ true
      → number_among test es v ≡ number_among test es w → v ≡ w
  number_once v w d e h t k s same = count_once passes es v w d e h t k s same

-- ---- vertices

module _ (es : List BehaviorElement) where
  abbrev vertex_part : ℕ → BehaviorElement → Option Vertex
  vertex_part at e = vertex_in es at e.parent e.form

  vertex_is : (at : ℕ) (e : BehaviorElement) → is_some (vertex_in es at e.parent e.form) ≡ is_vertex e.form
  vertex_is at e = go e.form
    where
      go : (f : ElementForm) → is_some (vertex_in es at e.parent f) ≡ is_vertex f
      go (element.State n) = refl
      go (element.Choice c) = refl
      go (element.Initial g) = refl
      go (element.Signal t) = refl
      go (element.Action t) = refl
      go (element.Guard t) = refl
      go (element.On o) = refl
      go (element.Entry d) = refl
      go (element.Exit d) = refl

  as_listed : (more : List BehaviorElement) (at : ℕ) → vertices_from es at more ≡ listed vertex_part at more
  as_listed [] at = refl
  as_listed (e ∷ more) at = ap (λ (vs : List Vertex). option_to_list (vertex_in es at e.parent e.form) ++ vs) (as_listed more (at + 1))

  pub vertex_here : (v : ℕ) (e : BehaviorElement) (x : Vertex) → slice_get es v ≡ Some e → vertex_in es v e.parent e.form ≡ Some x
      → slice_get (vertices_from es 0 es) (vertex_number es v) ≡ Some x
  vertex_here v e x h g =
      ap (λ (vs : List Vertex). slice_get vs (vertex_number es v)) (as_listed es 0)
      ∙ given_here vertex_part (λ (e : BehaviorElement). is_vertex e.form) vertex_is es 0 v v e x h (omega arith) g

  pub vertices_length : length (vertices_from es 0 es) ≡ length (filter (λ (e : BehaviorElement). is_vertex e.form) es)
  vertices_length =
      ap (λ (vs : List Vertex). length vs) (as_listed es 0) ∙ listed_length vertex_part (λ (e : BehaviorElement). is_vertex e.form) vertex_is es 0

-- the element of a vertex
pub record IsVertexOf (es : List BehaviorElement) (n : ℕ) (x : Vertex) : Type 0 where
  pub at : ℕ
  pub element : BehaviorElement
  pub here : slice_get es at ≡ Some element
  pub is : vertex_in es at element.parent element.form ≡ Some x
  pub passes : is_vertex element.form ≡ true
  pub number : n ≡ vertex_number es at

pub vertex_back : (es : List BehaviorElement) (n : ℕ) (x : Vertex) → slice_get (vertices_from es 0 es) n ≡ Some x → IsVertexOf es n x
vertex_back es n x h =
    let g = given_back (vertex_part es) (λ (e : BehaviorElement). is_vertex e.form) (vertex_is es) es 0 n x (sym (ap (λ (vs : List Vertex). slice_get vs n) (as_listed es es 0)) ∙ h) in
    let is : vertex_in es g.at g.element.parent g.element.form ≡ Some x = from_zero (vertex_part es) g.at g.element x g.gives in
    record { at = g.at; element = g.element; here = g.here; is = is; passes = sym (vertex_is es g.at g.element) ∙ ap is_some is; number = g.number }

-- ---- signals, actions and guards

module _ (part : ElementForm → Option TypedName) (test : ElementForm → Bool) (same : (f : ElementForm) → is_some (part f) ≡ test f) (kinds : List (Option Kind)) where
  abbrev named_part : ℕ → BehaviorElement → Option Named
  named_part at e = option_map (named (kind_at kinds at)) (part e.form)

  mapped_is : (k : Option Kind) (o : Option TypedName) → is_some (option_map (named k) o) ≡ is_some o
  mapped_is k None = refl
  mapped_is k (Some t) = refl

  named_is : (at : ℕ) (e : BehaviorElement) → is_some (named_part at e) ≡ test e.form
  named_is at e = mapped_is (kind_at kinds at) (part e.form) ∙ same e.form

  declared_listed : (es : List BehaviorElement) (at : ℕ) → declared_from part kinds at es ≡ listed named_part at es
  declared_listed [] at = refl
  declared_listed (e ∷ more) at = ap (λ (ns : List Named). option_to_list (option_map (named (kind_at kinds at)) (part e.form)) ++ ns) (declared_listed more (at + 1))

  has_passes : (f : ElementForm) (t : TypedName) → part f ≡ Some t → test f ≡ true
  has_passes f t h = sym (same f) ∙ ap is_some h

  -- the element of what is declared
  pub record IsDeclaredBy (es : List BehaviorElement) (n : ℕ) (x : Named) : Type 0 where
    pub at : ℕ
    pub element : BehaviorElement
    pub here : slice_get es at ≡ Some element
    pub of : TypedName
    pub has : part element.form ≡ Some of
    pub is : named (kind_at kinds at) of ≡ x
    pub passes : test element.form ≡ true
    pub number : n ≡ number_among test es at

  module _ (es : List BehaviorElement) where
    pub declared_here : (v : ℕ) (e : BehaviorElement) (t : TypedName) → slice_get es v ≡ Some e → part e.form ≡ Some t
        → slice_get (declared_from part kinds 0 es) (number_among test es v) ≡ Some (named (kind_at kinds v) t)
    declared_here v e t h g =
        ap (λ (ns : List Named). slice_get ns (number_among test es v)) (declared_listed es 0)
        ∙ given_here named_part (λ (e : BehaviorElement). test e.form) named_is es 0 v v e (named (kind_at kinds v) t) h (omega arith)
        (ap (option_map (named (kind_at kinds v))) g)

    pub declared_length : length (declared_from part kinds 0 es) ≡ length (filter (λ (e : BehaviorElement). test e.form) es)
    declared_length =
        ap (λ (ns : List Named). length ns) (declared_listed es 0) ∙ listed_length named_part (λ (e : BehaviorElement). test e.form) named_is es 0

    pub declared_back : (n : ℕ) (x : Named) → slice_get (declared_from part kinds 0 es) n ≡ Some x → IsDeclaredBy es n x
    declared_back n x h =
        let g = given_back named_part (λ (e : BehaviorElement). test e.form) named_is es 0 n x (sym (ap (λ (ns : List Named). slice_get ns n) (declared_listed es 0)) ∙ h) in
        let m = mapped_some (named (kind_at kinds g.at)) (part g.element.form) x (from_zero named_part g.at g.element x g.gives) in
        record {
          at = g.at;
          element = g.element;
          here = g.here;
          of = m.0;
          has = m.1;
          is = m.2;
          passes = has_passes g.element.form m.0 m.1;
          number = g.number;
        }
