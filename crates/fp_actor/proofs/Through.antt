-- When levels are no frame but a caller's own list, of which no action is left.
use Rattle.std.proofs.Common.{◌≡◌, ◌≢◌, ℕ, zero, suc, Bool, true, false, not, ◌&&◌, List, [], ◌∷◌, take, Option, Some, None, is_some, refl, sym, ap, ap₂, ◌∙◌, arith, eqb, ne_eqb}
use Rattle.std.specs.Prelude.{is_none}
use Rattle.std.specs.List.{slice_get}
use Rattle.std.specs.Option.{MatchOption}
use Rattle.fp_base.proofs.Lists.{take_none}
use Rattle.fp_tables.specs.Lookup.{Described}
use Rattle.fp_tables.specs.declared.program.Program.{Program}
use Rattle.fp_events.specs.declared.event.Entry.{Entry}
use Rattle.fp_events.specs.Actor.{Frame}
use Rattle.fp_events.specs.Due.{first_action}
use Rattle.fp_events.specs.Ends.{is_own, is_through}
use Rattle.fp_events.specs.Follows.{doing}
use Rattle.fp_actor.specs.declared.level.Base.{Base}
use Rattle.fp_actor.specs.declared.level.Base.TheVariants as base
use Rattle.fp_actor.specs.declared.level.Level.{Level}
use Rattle.fp_actor.specs.declared.level.Binding.{Binding}
use Rattle.fp_actor.specs.declared.stack.Bottom.{Bottom}
use Rattle.fp_actor.specs.declared.stack.First.{First}
use Rattle.fp_actor.specs.Stacked.{frames, framed, opened_in, over, stacked, IsBottom, IsFirst}

some_there : {B : Type 0} (x : Option B) → is_some x ≡ true → false ≡ is_none x
some_there None h = absurd (cc)
some_there (Some b) h = refl

-- an option is none where what is searched for isn't there
none_found : {A B : Type 0} (o : Option A) (x : Option B) (P : A → Type 0) → ((a : A) → P a → is_some x ≡ true) → MatchOption o (x ≡ None) P
    → (r : Bool) → is_some o ≡ not r → r ≡ is_none x
none_found None x P some h true is = ap is_none (sym h)
none_found None x P some h false is = absurd (cc)
none_found (Some a) x P some h true is = absurd (cc)
none_found (Some a) x P some h false is = some_there x (some a h)

not_first : (n : ℕ) → suc n ≢ 0
not_first n e = omega (arith, e)

module _ (t : Described) (program : Program) (number : ℕ) (trace : List Entry) (bindings : List Binding) where
  abbrev of : List Level → List Frame
  of ls = frames t program number trace bindings ls

  -- a level is a frame, or stands in one
  over_some : (b : Base) (l : Level) (fs : List Frame) → (g : Frame) × (gs : List Frame) × (over t program number trace bindings b l fs ≡ g ∷ gs)
  over_some base.Inside l [] = (_, [], refl)
  over_some base.Inside l (f ∷ fs) = (_, fs, refl)
  over_some base.Own l fs = (_, fs, refl)
  over_some (base.Arrived p) l fs = (_, fs, refl)
  over_some base.Taken l fs = (_, fs, refl)

  some_over : (ls : List Level) (f : Frame) (fs : List Frame) → (g : Frame) × (gs : List Frame) × (stacked t program number trace bindings (f ∷ fs) ls ≡ g ∷ gs)
  some_over [] f fs = (f, fs, refl)
  some_over (l ∷ ls) f fs =
      let o = over_some l.base l (f ∷ fs) in
      let r = some_over ls o.0 o.1 in
      (r.0, r.1, ap (λ (gs : List Frame). stacked t program number trace bindings gs ls) o.2 ∙ r.2)

  some_frame : (l : Level) (ls : List Level) → (g : Frame) × (gs : List Frame) × (of (l ∷ ls) ≡ g ∷ gs)
  some_frame l ls =
      let o = over_some l.base l [] in
      let r = some_over ls o.0 o.1 in
      (r.0, r.1, ap (λ (gs : List Frame). stacked t program number trace bindings gs ls) o.2 ∙ r.2)

  some_below : (n : ℕ) (ls : List Level) (l : Level) → slice_get ls (suc n) ≡ Some l → (g : Frame) × (gs : List Frame) × (of (take (suc n) ls) ≡ g ∷ gs)
  some_below n [] l h = absurd (cc)
  some_below n (m ∷ ls) l h = some_frame m (take n ls)

  -- no action is left in the innermost frame
  pub none_left : (ls : List Level) (o : Option First) → MatchOption o (first_action (doing (of ls)) ≡ None) (IsFirst t program number trace bindings ls)
      → (done : Bool) → is_some o ≡ not done → done ≡ is_none (first_action (doing (of ls)))
  none_left ls o h done is = none_found o (first_action (doing (of ls))) (IsFirst t program number trace bindings ls) (λ f k. ap is_some k.first) h done is

  module _ (ls : List Level) (b : Bottom) (h : IsBottom t program number trace bindings ls b) (own done : Bool)
      (own_is : own ≡ is_own (opened_in t program number trace b.level.base b.level.next.source)) (done_is : done ≡ is_none (first_action (doing (of ls)))) where
    at_level : (n : ℕ) → slice_get ls n ≡ Some b.level → of ls ≡ framed t program number trace b.level h.doing ∷ of (take n ls) → (eqb n 0 && own && done) ≡ is_through (of ls)
    at_level zero there is =
        let one : of ls ≡ framed t program number trace b.level h.doing ∷ [] =
        is ∙ ap (λ (ms : List Level). framed t program number trace b.level h.doing ∷ of ms) (take_none ls) in
        ap₂ (λ (x : Bool) (y : Bool). x && y) own_is (done_is ∙ ap (λ (fs : List Frame). is_none (first_action (doing fs))) one) ∙ sym (ap is_through one)
    at_level (suc n) there is =
        let below = some_below n ls b.level there in
        let two : of ls ≡ framed t program number trace b.level h.doing ∷ below.0 ∷ below.1 =
        is ∙ ap (λ (gs : List Frame). framed t program number trace b.level h.doing ∷ gs) below.2 in
        ap (λ (x : Bool). x && own && done) (ne_eqb (suc n) 0 (not_first n)) ∙ sym (ap is_through two)

    pub through : (eqb b.below 0 && own && done) ≡ is_through (of ls)
    through = at_level b.below h.there h.is
