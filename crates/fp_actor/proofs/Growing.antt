-- An entry more in the trace changes no frames whose places are before it.
use Rattle.std.proofs.Common.{◌≡◌, ℕ, suc, ◌<◌, List, [], ◌∷◌, ◌++◌, length, map, reverse, drop, take, Option, Some, None, option_map, unwrap_or, refl, sym, ap, ◌∙◌}
use Rattle.std.specs.List.{slice_get}
use Rattle.std.specs.Option.{option_and_then}
use Rattle.std.proofs.lemmas.List.{reverse-append, map-append, take-map, drop-map}
use Rattle.fp_base.specs.declared.value.Value.{Opaque}
use Rattle.fp_base.proofs.Lists.{get_before}
use Rattle.fp_tables.specs.Lookup.{Described}
use Rattle.fp_tables.specs.declared.program.Program.{Program}
use Rattle.fp_events.specs.declared.event.Entry.{Entry}
use Rattle.fp_events.specs.Actor.{Action, Doing, arrived, Frame}
use Rattle.fp_events.specs.Follows.{name_for, bound_name}
use Rattle.fp_actor.specs.declared.level.Source.{Source}
use Rattle.fp_actor.specs.declared.level.Source.TheVariants as source
use Rattle.fp_actor.specs.declared.level.Position.{Position}
use Rattle.fp_actor.specs.declared.level.Base.{Base}
use Rattle.fp_actor.specs.declared.level.Base.TheVariants as base
use Rattle.fp_actor.specs.declared.level.Level.{Level}
use Rattle.fp_actor.specs.declared.level.Binding.{Binding}
use Rattle.fp_actor.specs.Levels.{begun}
use Rattle.fp_actor.specs.Entries.{lists_of, signal_value, value_given, default_of}
use Rattle.fp_actor.specs.Stacked.{lists_in, value_at, default_in, instance_of, opened_in, called, action_at, given_at, binding, made, left, over, framed, frames, stacked}
use Rattle.fp_actor.specs.Placed.{IsBefore, IsBaseBefore, AreBefore, AreBoundBefore}

module _ {A B : Type 0} (f g : A → B) where
  all_same : (xs : List A) → ((k : ℕ) (x : A) → slice_get xs k ≡ Some x → f x ≡ g x) → map f xs ≡ map g xs
  all_same [] h = refl
  all_same (x ∷ xs) h = λ j. h 0 x refl j ∷ all_same xs (λ k y e. h (suc k) y e) j

  same_reversed : (xs : List A) → map f xs ≡ map g xs → map f (reverse xs) ≡ map g (reverse xs)
  same_reversed [] e = refl
  same_reversed (x ∷ xs) e =
      let head : f x ≡ g x = cc in
      let tail : map f xs ≡ map g xs = cc in
      ap (map f) (reverse-append (x ∷ []) xs) ∙ map-append f (reverse xs) (x ∷ [])
      ∙ (λ j. same_reversed xs tail j ++ head j ∷ []) ∙ sym (map-append g (reverse xs) (x ∷ [])) ∙ ap (map g) (sym (reverse-append (x ∷ []) xs))

  same_part : (a b : ℕ) (xs : List A) → map f xs ≡ map g xs → map f (reverse (drop a (take b xs))) ≡ map g (reverse (drop a (take b xs)))
  same_part a b xs e =
      same_reversed (drop a (take b xs))
      (sym (drop-map f a (take b xs)) ∙ ap (drop a) (sym (take-map f b xs) ∙ ap (take b) e ∙ take-map g b xs) ∙ drop-map g a (take b xs))

module _ (t : Described) (program : Program) (number : ℕ) (trace more : List Entry) where
  abbrev grown : List Entry
  grown = trace ++ more

  value_grown : (m : ℕ) → m < length trace → value_at t program number grown m ≡ value_at t program number trace m
  value_grown m lt = ap (option_and_then (λ (e : Entry). signal_value e.what)) (get_before trace more m lt)

  pub lists_grown : (s : Source) → IsBefore (length trace) s → lists_in t program number grown s ≡ lists_in t program number trace s
  lists_grown source.Own h = refl
  lists_grown (source.Entry n m) h = λ j. unwrap_or (option_map (λ (e : Entry). lists_of t program (value_grown m h.1 j) e.instance e.what) (get_before trace more n h.0 j)) []

  instance_grown : (s : Source) → IsBefore (length trace) s → instance_of t program number grown s ≡ instance_of t program number trace s
  instance_grown source.Own h = refl
  instance_grown (source.Entry n m) h = ap (λ (o : Option Entry). unwrap_or (option_map (λ (e : Entry). e.instance) o) 0) (get_before trace more n h.0)

  default_grown : (s : Source) → IsBefore (length trace) s → default_in t program number grown s ≡ default_in t program number trace s
  default_grown source.Own h = refl
  default_grown (source.Entry n m) h = ap (option_and_then (λ (e : Entry). default_of t program e.instance e.what)) (get_before trace more n h.0)

  action_grown : (p : Position) → IsBefore (length trace) p.source → action_at t program number grown p ≡ action_at t program number trace p
  action_grown p h = ap (λ (ls : List Doing). option_and_then (λ (d : Doing). slice_get d.actions p.action) (slice_get ls p.list)) (lists_grown p.source h)

  called_grown : (p : Position) → IsBefore (length trace) p.source → called t program number grown (Some p) ≡ called t program number trace (Some p)
  called_grown p h = ap (λ (o : Option Action). name_for (option_map (λ (x : Action). (x, [])) o)) (action_grown p h)

  opened_grown : (b : Base) (s : Source) → IsBaseBefore (length trace) b → IsBefore (length trace) s → opened_in t program number grown b s ≡ opened_in t program number trace b s
  opened_grown base.Inside s h i = refl
  opened_grown base.Own s h i = refl
  opened_grown (base.Arrived None) s h i = λ j. arrived (default_grown s i j) None
  opened_grown (base.Arrived (Some p)) s h i = λ j. arrived (default_grown s i j) (called_grown p h j)
  opened_grown base.Taken s h i = refl

  given_grown : (n : ℕ) → n < length trace → given_at t program number grown n ≡ given_at t program number trace n
  given_grown n lt = ap (λ (o : Option Entry). unwrap_or (option_map (λ (e : Entry). value_given e.what) o) Opaque) (get_before trace more n lt)

  binding_grown : (b : Binding) → IsBefore (length trace) b.name.source → b.value < length trace → binding t program number grown b ≡ binding t program number trace b
  binding_grown b h lt = λ j. (bound_name t program (option_map (λ (x : Action). (x, [])) (action_grown b.name h j)), given_grown b.value lt j)

  module _ (bindings : List Binding) (bound : AreBoundBefore (length trace) bindings) where
    made_grown : (l : Level) → made t program number grown bindings l ≡ made t program number trace bindings l
    made_grown l =
        same_part (binding t program number grown) (binding t program number trace) l.first l.past bindings
        (all_same (binding t program number grown) (binding t program number trace) bindings (λ k b e. binding_grown b (bound k b e).0 (bound k b e).1))

    left_grown : (l : Level) → IsBefore (length trace) l.next.source → left t program number grown bindings l ≡ left t program number trace bindings l
    left_grown l h = λ j. begun l.next.action (made_grown l j) (drop l.next.list (lists_grown l.next.source h j))

    frame_grown : (l : Level) → IsBaseBefore (length trace) l.base → IsBefore (length trace) l.next.source →
        framed t program number grown l (left t program number grown bindings l) ≡ framed t program number trace l (left t program number trace bindings l)
    frame_grown l h i = λ j. record { instance = instance_grown l.next.source i j; doing = left_grown l i j; opened = opened_grown l.base l.next.source h i j }

    over_grown : (b : Base) (l : Level) (fs : List Frame) → IsBaseBefore (length trace) l.base → IsBefore (length trace) l.next.source →
        over t program number grown bindings b l fs ≡ over t program number trace bindings b l fs
    over_grown base.Inside l [] h i = ap (λ (f : Frame). f ∷ []) (frame_grown l h i)
    over_grown base.Inside l (f ∷ fs) h i = ap (λ (ds : List Doing). record f { doing = ds ++ f.doing } ∷ fs) (left_grown l i)
    over_grown base.Own l fs h i = ap (λ (f : Frame). f ∷ fs) (frame_grown l h i)
    over_grown (base.Arrived p) l fs h i = ap (λ (f : Frame). f ∷ fs) (frame_grown l h i)
    over_grown base.Taken l fs h i = ap (λ (f : Frame). f ∷ fs) (frame_grown l h i)

    stacked_grown : (fs : List Frame) (ls : List Level) → AreBefore (length trace) ls → stacked t program number grown bindings fs ls ≡ stacked t program number trace bindings fs ls
    stacked_grown fs [] h = refl
    stacked_grown fs (l ∷ ls) h =
        ap (λ (gs : List Frame). stacked t program number grown bindings gs ls) (over_grown l.base l fs (h 0 l refl).0 (h 0 l refl).1)
        ∙ stacked_grown (over t program number trace bindings l.base l fs) ls (λ k m e. h (suc k) m e)

    pub frames_grown : (ls : List Level) → AreBefore (length trace) ls → frames t program number grown bindings ls ≡ frames t program number trace bindings ls
    frames_grown ls h = stacked_grown [] ls h
