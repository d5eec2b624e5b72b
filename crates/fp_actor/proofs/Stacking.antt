-- The frames of levels, one level at a time.
use Rattle.std.proofs.Common.{◌≡◌, ◌^◌, ℕ, zero, suc, ◌+◌, ◌≤◌, ◌<◌, Bool, true, false, cond, eqb, List, [], ◌∷◌, ◌++◌, length, map, reverse, drop, take, Option, Some, None, option_map, unwrap_or, refl, sym, ap, ◌∙◌, subst, arith}
use Rattle.std.specs.List.{slice_get}
use Rattle.std.specs.Option.{option_and_then, MatchOption}
use Rattle.std.proofs.lemmas.List.{append-nil, take-append-le}
use Rattle.std.proofs.Math.Seq.{take-append_seam}
use Rattle.std.proofs.lemmas.Option.{slice_get_within}
use Rattle.fp_tables.specs.Lookup.{Described}
use Rattle.fp_tables.specs.declared.program.Program.{Program}
use Rattle.fp_events.specs.declared.event.Entry.{Entry}
use Rattle.fp_events.specs.Actor.{Action, Bindings, Doing, Frame}
use Rattle.fp_events.specs.Due.{first_action}
use Rattle.fp_events.specs.Follows.{doing, removed, without_first}
use Rattle.fp_actor.specs.declared.level.Position.{Position}
use Rattle.fp_actor.specs.declared.level.Base.{Base}
use Rattle.fp_actor.specs.declared.level.Base.TheVariants as base
use Rattle.fp_actor.specs.declared.level.Level.{Level}
use Rattle.fp_actor.specs.declared.level.Binding.{Binding}
use Rattle.fp_actor.specs.declared.lists.Deed.{Deed}
use Rattle.fp_actor.specs.declared.stack.First.{First}
use Rattle.fp_actor.specs.declared.stack.Bottom.{Bottom}
use Rattle.fp_actor.specs.Levels.{reached, begun, settled, advanced}
use Rattle.fp_actor.specs.Stacked.{lists_in, action_at, action_of, bound_in, binding, made, left, over, stacked, frames, framed, IsFirst, IsBottom}
use Rattle.fp_actor.proofs.Settling.{Settled, settle, spent}
use Rattle.fp_base.proofs.Lists.{get_last, get_front}

pub drop_all : {A : Type 0} (n : ℕ) (xs : List A) → drop n (take n xs) ≡ []
drop_all zero [] = refl
drop_all zero (x ∷ xs) = refl
drop_all (suc n) [] = refl
drop_all (suc n) (x ∷ xs) = drop_all n xs

module _ (t : Described) (program : Program) (number : ℕ) (trace : List Entry) (bindings : List Binding) where
  abbrev lists : Level → List Doing
  lists l = lists_in t program number trace l.next.source

  abbrev on : Base → Level → List Frame → List Frame
  on = over t program number trace bindings

  abbrev made_by : Level → Bindings
  made_by = made t program number trace bindings

  pub snoc : (fs : List Frame) (ls : List Level) (l : Level) → stacked t program number trace bindings fs (ls ++ l ∷ []) ≡ on l.base l (stacked t program number trace bindings fs ls)
  snoc fs [] l = refl
  snoc fs (m ∷ ls) l = snoc (on m.base m fs) ls l

  made_settled : (l : Level) (p : Position) → cond (eqb p.list l.next.list) (made_by l) [] ≡ made_by (settled l p)
  made_settled l p = go (eqb p.list l.next.list)
    where
      go : (b : Bool) → cond b (made_by l) [] ≡ map (binding t program number trace) (reverse (drop (cond b l.first l.past) (take l.past bindings)))
      go true = refl
      go false = ap (λ (bs : List Binding). map (binding t program number trace) (reverse bs)) (sym (drop_all l.past bindings))

  -- the first action is one of this level
  pub record Top (b : Base) (l : Level) (p : Position) (x : Action) (fs : List Frame) : Type 0 where
    pub place : action_at t program number trace p ≡ Some x
    pub first : first_action (doing (on b l fs)) ≡ Some (x, made_by (settled l p) ++ bound_in t program number trace p)
    pub rest : on b (advanced (settled l p)) fs ≡ removed (on b l fs)

  module _ (l : Level) (m a : ℕ) (x : Action) where
    abbrev at : Position
    at = record { source = l.next.source; list = m; action = a }

    abbrev SettledOver : List Doing → List Doing → Type 0
    SettledOver old now = Settled (lists l) old l.next.list (made_by l) m a x now

    place_of : (old now : List Doing) → SettledOver old now → action_at t program number trace at ≡ Some x
    place_of old now s = ap (option_and_then (λ (d : Doing). slice_get d.actions a)) s.there ∙ s.action

    bound_of : (old now : List Doing) (s : SettledOver old now) → bound_in t program number trace at ≡ s.d.bound
    bound_of old now s = ap (λ (o : Option Doing). unwrap_or (option_map (λ (d : Doing). d.bound) o) []) s.there

    first_of : (old now : List Doing) (s : SettledOver old now) → first_action now ≡ Some (x, made_by (settled l at) ++ bound_in t program number trace at)
    first_of old now s =
        s.first ∙ ap (λ (bs : Bindings). Some (x, bs ++ s.d.bound)) (made_settled l at) ∙ ap (λ (bs : Bindings). Some (x, made_by (settled l at) ++ bs)) (sym (bound_of old now s))

    rest_of : (old now : List Doing) (s : SettledOver old now) → left t program number trace bindings (advanced (settled l at)) ++ old ≡ without_first now
    rest_of old now s = sym (s.rest ∙ ap (λ (bs : Bindings). begun (a + 1) bs (drop m (lists l)) ++ old) (made_settled l at))

    alone : SettledOver [] (left t program number trace bindings l ++ []) → SettledOver [] (left t program number trace bindings l)
    alone s = subst (λ now. SettledOver [] now) (append-nil (left t program number trace bindings l)) s

    module _ (e : reached (drop l.next.list (lists l)) l.next.list l.next.action ≡ Some (m, a, x)) where
      settles : (old : List Doing) → SettledOver old (left t program number trace bindings l ++ old)
      settles old = settle (lists l) old m a x (drop l.next.list (lists l)) l.next.list l.next.action (made_by l) refl e

      by_itself : SettledOver [] (left t program number trace bindings l)
      by_itself = alone (settles [])

      rest_alone : left t program number trace bindings (advanced (settled l at)) ≡ without_first (left t program number trace bindings l)
      rest_alone = sym (append-nil (left t program number trace bindings (advanced (settled l at)))) ∙ rest_of [] (left t program number trace bindings l) by_itself

      new_frame : (f : Frame) (fs : List Frame) → (f.doing ≡ left t program number trace bindings l) → first_action (doing (f ∷ fs)) ≡ Some (x, made_by (settled l at) ++ bound_in t program number trace at)
      new_frame f fs h = ap first_action h ∙ first_of [] (left t program number trace bindings l) by_itself

      pub top : (b : Base) (fs : List Frame) → l.base ≡ b → Top b l at x fs
      top base.Own fs h = record {
        place = place_of [] (left t program number trace bindings l) by_itself;
        first = first_of [] (left t program number trace bindings l) by_itself;
        rest = ap (λ (ds : List Doing). framed t program number trace l ds ∷ fs) rest_alone;
      }
      top base.Taken fs h = record {
        place = place_of [] (left t program number trace bindings l) by_itself;
        first = first_of [] (left t program number trace bindings l) by_itself;
        rest = ap (λ (ds : List Doing). framed t program number trace l ds ∷ fs) rest_alone;
      }
      top (base.Arrived q) fs h = record {
        place = place_of [] (left t program number trace bindings l) by_itself;
        first = first_of [] (left t program number trace bindings l) by_itself;
        rest = ap (λ (ds : List Doing). framed t program number trace l ds ∷ fs) rest_alone;
      }
      top base.Inside [] h = record {
        place = place_of [] (left t program number trace bindings l) by_itself;
        first = first_of [] (left t program number trace bindings l) by_itself;
        rest = ap (λ (ds : List Doing). framed t program number trace l ds ∷ []) rest_alone;
      }
      top base.Inside (f ∷ fs) h = record {
        place = place_of f.doing _ (settles f.doing);
        first = first_of f.doing _ (settles f.doing);
        rest = ap (λ (ds : List Doing). record f { doing = ds } ∷ fs) (rest_of f.doing _ (settles f.doing));
      }

  -- the level above some gives the first action
  pub first_here : (xs : List Level) (l : Level) (p : Position) (d : Deed) → p.action + 1 < 2 ^ 64 → p.source ≡ l.next.source →
      reached (drop l.next.list (lists l)) l.next.list l.next.action ≡ Some (p.list, p.action, action_of t program number trace d) →
      IsFirst t program number trace bindings (xs ++ l ∷ []) (record { below = length xs; level = settled l p; deed = d })
  first_here xs l p d few s e =
      let q : Position = record { source = l.next.source; list = p.list; action = p.action } in
      let same : q ≡ p = λ j. record { source = sym s j; list = p.list; action = p.action } in
      subst (λ (z : Position). IsFirst t program number trace bindings (xs ++ l ∷ []) (record { below = length xs; level = settled l z; deed = d })) same
      (let x = action_of t program number trace d in
      let fs = stacked t program number trace bindings [] xs in
      let here = top l p.list p.action x e l.base fs refl in
      record {
        level = l;
        there = get_last xs l;
        from = refl;
        source = refl;
        few = few;
        action = here.place;
        first = ap (λ (gs : List Frame). first_action (doing gs)) (snoc [] xs l) ∙ here.first;
        rest =
            ap (λ (ls : List Level). stacked t program number trace bindings [] (ls ++ advanced (settled l q) ∷ [])) (take-append_seam xs (l ∷ []))
            ∙ snoc [] xs (advanced (settled l q)) ∙ here.rest ∙ ap removed (sym (snoc [] xs l));
      })

  module _ (l : Level) (none : reached (drop l.next.list (lists l)) l.next.list l.next.action ≡ None) where
    passed : (old : List Doing) → (first_action (left t program number trace bindings l ++ old) ≡ first_action old) × (without_first (left t program number trace bindings l ++ old) ≡ without_first old)
    passed old = spent (drop l.next.list (lists l)) old l.next.list l.next.action (made_by l) none

    nothing : first_action (left t program number trace bindings l) ≡ None
    nothing = ap first_action (sym (append-nil (left t program number trace bindings l))) ∙ (passed []).0

    -- below a level inside the frame that has no action left
    below_first : (fs : List Frame) → first_action (doing (on base.Inside l fs)) ≡ first_action (doing fs)
    below_first [] = nothing
    below_first (f ∷ fs) = (passed f.doing).0

    below_rest : (fs : List Frame) (y : Action × Bindings) → first_action (doing fs) ≡ Some y → removed fs ≡ removed (on base.Inside l fs)
    below_rest [] y e = absurd (cc)
    below_rest (f ∷ fs) y e = ap (λ (ds : List Doing). record f { doing = ds } ∷ fs) (sym (passed f.doing).1)

    pub first_below : (xs : List Level) (f : First) → l.base ≡ base.Inside → IsFirst t program number trace bindings xs f → IsFirst t program number trace bindings (xs ++ l ∷ []) f
    first_below xs f h i =
        let under = stacked t program number trace bindings [] xs in
        let whole : stacked t program number trace bindings [] (xs ++ l ∷ []) ≡ on base.Inside l under = snoc [] xs l ∙ ap (λ b. on b l under) h in
        let lt : f.below < length xs = slice_get_within xs f.below i.level i.there in
        let le : f.below ≤ length xs = omega arith in
        record {
          level = i.level;
          there = get_front xs (l ∷ []) f.below i.level i.there;
          from = i.from;
          source = i.source;
          few = i.few;
          action = i.action;
          first = ap (λ (gs : List Frame). first_action (doing gs)) whole ∙ below_first under ∙ i.first;
          rest =
              ap (λ (ls : List Level). stacked t program number trace bindings [] (ls ++ advanced f.level ∷ [])) (take-append-le f.below xs (l ∷ []) le)
              ∙ i.rest ∙ below_rest under _ i.first ∙ ap removed (sym whole);
        }

    pub none_below : (xs : List Level) → l.base ≡ base.Inside → first_action (doing (frames t program number trace bindings xs)) ≡ None →
        first_action (doing (frames t program number trace bindings (xs ++ l ∷ []))) ≡ None
    none_below xs h e =
        let under = stacked t program number trace bindings [] xs in
        ap (λ (gs : List Frame). first_action (doing gs)) (snoc [] xs l ∙ ap (λ b. on b l under) h) ∙ below_first under ∙ e

    only_this : (b : Base) (fs : List Frame) → (b ≡ base.Inside → ⊥) → first_action (doing (on b l fs)) ≡ None
    only_this base.Inside fs other = absurd (other refl)
    only_this base.Own fs other = nothing
    only_this base.Taken fs other = nothing
    only_this (base.Arrived p) fs other = nothing

    pub none_here : (xs : List Level) → (l.base ≡ base.Inside → ⊥) → first_action (doing (frames t program number trace bindings (xs ++ l ∷ []))) ≡ None
    none_here xs other = ap (λ (gs : List Frame). first_action (doing gs)) (snoc [] xs l) ∙ only_this l.base (stacked t program number trace bindings [] xs) other

    pub carried : (xs : List Level) (o : Option First) → l.base ≡ base.Inside →
        MatchOption o (first_action (doing (frames t program number trace bindings xs)) ≡ None) (IsFirst t program number trace bindings xs) →
        MatchOption o (first_action (doing (frames t program number trace bindings (xs ++ l ∷ []))) ≡ None) (IsFirst t program number trace bindings (xs ++ l ∷ []))
    carried xs None h m = none_below xs h m
    carried xs (Some f) h m = first_below xs f h m

  -- the level that begins the frame
  bottom_of : (b : Base) (l : Level) (fs : List Frame) → (b ≡ base.Inside → ⊥) → on b l fs ≡ framed t program number trace l (left t program number trace bindings l) ∷ fs
  bottom_of base.Inside l fs other = absurd (other refl)
  bottom_of base.Own l fs other = refl
  bottom_of base.Taken l fs other = refl
  bottom_of (base.Arrived p) l fs other = refl

  pub bottom_here : (xs : List Level) (l : Level) → (l.base ≡ base.Inside → ⊥) → IsBottom t program number trace bindings (xs ++ l ∷ []) (record { below = length xs; level = l })
  bottom_here xs l other = record {
    there = get_last xs l;
    doing = left t program number trace bindings l;
    is =
        snoc [] xs l ∙ bottom_of l.base l (stacked t program number trace bindings [] xs) other
        ∙ ap (λ (ls : List Level). framed t program number trace l (left t program number trace bindings l) ∷ stacked t program number trace bindings [] ls) (sym (take-append_seam xs (l ∷ [])));
  }

  -- a lowest level inside a frame counts as one that begins it
  bottom_least : (b : Base) (l : Level) → on b l [] ≡ framed t program number trace l (left t program number trace bindings l) ∷ []
  bottom_least base.Inside l = refl
  bottom_least base.Own l = refl
  bottom_least base.Taken l = refl
  bottom_least (base.Arrived p) l = refl

  pub bottom_alone : (l : Level) → IsBottom t program number trace bindings (l ∷ []) (record { below = 0; level = l })
  bottom_alone l = record {
    there = refl;
    doing = left t program number trace bindings l;
    is = bottom_least l.base l;
  }

  pub bottom_below : (xs : List Level) (l : Level) (b : Bottom) → l.base ≡ base.Inside → IsBottom t program number trace bindings xs b → IsBottom t program number trace bindings (xs ++ l ∷ []) b
  bottom_below xs l b h i =
      let lt : b.below < length xs = slice_get_within xs b.below b.level i.there in
      let le : b.below ≤ length xs = omega arith in
      record {
        there = get_front xs (l ∷ []) b.below b.level i.there;
        doing = left t program number trace bindings l ++ i.doing;
        is =
            snoc [] xs l ∙ ap (λ c. on c l (stacked t program number trace bindings [] xs)) h ∙ ap (on base.Inside l) i.is
            ∙ ap (λ (ls : List Level). framed t program number trace b.level (left t program number trace bindings l ++ i.doing) ∷ stacked t program number trace bindings [] ls)
            (sym (take-append-le b.below xs (l ∷ []) le));
      }

  pub bottom_first : (xs : List Level) (l : Level) → xs ≡ [] → IsBottom t program number trace bindings (xs ++ l ∷ []) (record { below = length xs; level = l })
  bottom_first [] l e = bottom_alone l
  bottom_first (x ∷ xs) l e = absurd (cc)
