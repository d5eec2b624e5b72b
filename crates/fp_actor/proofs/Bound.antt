-- What a binding that is made in the level on top changes.
use Rattle.std.proofs.Common.{◌≡◌, ℕ, suc, ◌+◌, ◌≤◌, true, is_some, List, [], ◌∷◌, ◌++◌, length, map, reverse, drop, take, Option, Some, None, option_map, unwrap_or, refl, sym, ap, ◌∙◌, arith}
use Rattle.std.specs.List.{slice_get}
use Rattle.std.specs.Option.{option_and_then}
use Rattle.std.proofs.lemmas.List.{reverse-append, length-take-le, length-append, take_all, take-take, take-append-le, drop-append-le}
use Rattle.fp_base.specs.declared.value.Value.{Value, Opaque}
use Rattle.fp_base.proofs.Lists.{drop_next}
use Rattle.fp_tables.specs.Lookup.{Described}
use Rattle.fp_tables.specs.declared.program.Program.{Program}
use Rattle.fp_events.specs.declared.event.Entry.{Entry}
use Rattle.fp_events.specs.declared.event.What.{What}
use Rattle.fp_events.specs.declared.event.What.TheVariants as what
use Rattle.fp_events.specs.Actor.{Action, act, send, advance, Bindings, Doing, Opened, arrived, Frame, Thread}
use Rattle.fp_events.specs.Due.{first_action}
use Rattle.fp_tables.specs.declared.program.Verb.{Verb}
use Rattle.fp_tables.specs.declared.program.Verb.TheVariants as verb
use Rattle.fp_events.specs.Follows.{doing, in_frame, removed, bind, bound_name, bound_below, closed, as_name, name_for, without_first, follows}
use Rattle.fp_actor.specs.declared.level.Position.{Position}
use Rattle.fp_actor.specs.declared.level.Base.{Base}
use Rattle.fp_actor.specs.declared.level.Base.TheVariants as base
use Rattle.fp_actor.specs.declared.level.Level.{Level}
use Rattle.fp_actor.specs.declared.level.Binding.{Binding}
use Rattle.fp_actor.specs.declared.stack.First.{First}
use Rattle.fp_actor.specs.declared.stack.Bottom.{Bottom}
use Rattle.fp_actor.specs.Levels.{begun, advanced, raised, AreUpTo}
use Rattle.fp_actor.specs.Entries.{value_given, IsReading, IsReturning}
use Rattle.fp_actor.specs.Stacked.{lists_in, with_nothing, given_at, binding, made, bindings_of, left, over, framed, frames, stacked, IsFirst, IsBindable, action_of, called, default_in, opened_in, IsBottom}
use Rattle.fp_actor.proofs.Stacking.{snoc}

pub some_of : {A : Type 0} (o : Option A) (x : A) → is_some o ≡ true → o ≡ Some (unwrap_or o x)
some_of None x e = absurd (cc)
some_of (Some y) x e = refl

module _ (t : Described) (program : Program) (number : ℕ) (trace : List Entry) where
  abbrev named : Binding → List ℕ × Value
  named b = binding t program number trace b

  name_of : (x : Action) (bs cs : Bindings) → bound_name t program (Some (x, bs)) ≡ bound_name t program (Some (x, cs))
  name_of (act a) bs cs = refl
  name_of (send s note) bs cs = refl
  name_of (advance r s v) bs cs = refl

  abbrev lists : Level → List Doing
  lists l = lists_in t program number trace l.next.source

  -- levels whose bindings are the same are the same
  module _ (bs cs : List Binding) where
    same_made : (n : ℕ) (l : Level) → take n bs ≡ take n cs → l.past ≤ n → made t program number trace bs l ≡ made t program number trace cs l
    same_made n l e le =
        let same : take l.past bs ≡ take l.past cs = sym (take-take l.past n bs le) ∙ ap (take l.past) e ∙ take-take l.past n cs le in
        ap (λ (ts : List Binding). map named (reverse (drop l.first ts))) same

    same_over : (b : Base) (l : Level) (fs : List Frame) → made t program number trace bs l ≡ made t program number trace cs l → over t program number trace bs b l fs ≡ over t program number trace cs b l fs
    same_over base.Inside l [] h = ap (λ (ms : Bindings). framed t program number trace l (begun l.next.action ms (drop l.next.list (lists l))) ∷ []) h
    same_over base.Inside l (f ∷ fs) h = ap (λ (ms : Bindings). record f { doing = begun l.next.action ms (drop l.next.list (lists l)) ++ f.doing } ∷ fs) h
    same_over base.Own l fs h = ap (λ (ms : Bindings). framed t program number trace l (begun l.next.action ms (drop l.next.list (lists l))) ∷ fs) h
    same_over (base.Arrived p) l fs h = ap (λ (ms : Bindings). framed t program number trace l (begun l.next.action ms (drop l.next.list (lists l))) ∷ fs) h
    same_over base.Taken l fs h = ap (λ (ms : Bindings). framed t program number trace l (begun l.next.action ms (drop l.next.list (lists l))) ∷ fs) h

    pub same_stacked : (n : ℕ) (fs : List Frame) (ls : List Level) → take n bs ≡ take n cs → AreUpTo n ls → stacked t program number trace bs fs ls ≡ stacked t program number trace cs fs ls
    same_stacked n fs [] e h = refl
    same_stacked n fs (l ∷ ls) e h =
        ap (λ (gs : List Frame). stacked t program number trace bs gs ls) (same_over l.base l fs (same_made n l e (h 0 l refl)))
        ∙ same_stacked n (over t program number trace cs l.base l fs) ls e (λ k m g. h (suc k) m g)

    -- a level that has one binding more
    bind_over : (p : List ℕ × Value) (b : Base) (l : Level) (x : Doing) (xs : List Doing) (fs : List Frame) → left t program number trace bs l ≡ x ∷ xs →
        left t program number trace cs (raised l) ≡ bind p.0 p.1 (x ∷ xs) → over t program number trace cs b (raised l) fs ≡ in_frame (bind p.0 p.1) (over t program number trace bs b l fs)
    bind_over p base.Inside l x xs [] e h = ap (λ (ds : List Doing). framed t program number trace l ds ∷ []) (h ∙ ap (bind p.0 p.1) (sym e))
    bind_over p base.Inside l x xs (f ∷ fs) e h =
        ap (λ (ds : List Doing). record f { doing = ds } ∷ fs) (ap (λ (ds : List Doing). ds ++ f.doing) h ∙ ap (λ (ds : List Doing). bind p.0 p.1 (ds ++ f.doing)) (sym e))
    bind_over p base.Own l x xs fs e h = ap (λ (ds : List Doing). framed t program number trace l ds ∷ fs) (h ∙ ap (bind p.0 p.1) (sym e))
    bind_over p (base.Arrived q) l x xs fs e h = ap (λ (ds : List Doing). framed t program number trace l ds ∷ fs) (h ∙ ap (bind p.0 p.1) (sym e))
    bind_over p base.Taken l x xs fs e h = ap (λ (ds : List Doing). framed t program number trace l ds ∷ fs) (h ∙ ap (bind p.0 p.1) (sym e))

  module _ (bs : List Binding) (l : Level) (b : Binding) (in_order : l.first ≤ l.past) (there : l.past ≤ length bs) where
    abbrev now : List Binding
    now = take l.past bs ++ b ∷ []

    kept : length (take l.past bs) ≡ l.past
    kept = length-take-le l.past bs there

    pub same_start : take l.past bs ≡ take l.past now
    same_start =
        let le : l.past ≤ length (take l.past bs) = omega (arith, kept) in
        let same : l.past ≤ l.past = omega arith in
        sym (take-append-le l.past (take l.past bs) (b ∷ []) le ∙ take-take l.past l.past bs same)

    one_more : made t program number trace now (raised l) ≡ named b ∷ made t program number trace bs l
    one_more =
        let whole : length now ≡ length (take l.past bs) + 1 = length-append (take l.past bs) (b ∷ []) in
        let all : length now ≤ l.past + 1 = omega (arith, whole, kept) in
        let le : l.first ≤ length (take l.past bs) = omega (arith, kept, in_order) in
        ap (λ (ts : List Binding). map named (reverse (drop l.first ts))) (take_all (l.past + 1) now all)
        ∙ ap (λ (ts : List Binding). map named (reverse ts)) (drop-append-le l.first (take l.past bs) (b ∷ []) le)
        ∙ ap (map named) (reverse-append (drop l.first (take l.past bs)) (b ∷ []))

    -- the latest binding of the first of a level's lists
    bind_left : (d : Doing) (ds : List Doing) → drop l.next.list (lists l) ≡ d ∷ ds →
        left t program number trace now (raised l) ≡ bind (named b).0 (named b).1 (record { actions = drop l.next.action d.actions; bound = made t program number trace bs l ++ d.bound } ∷ ds)
    bind_left d ds h =
        ap (begun l.next.action (made t program number trace now (raised l))) h
        ∙ ap (λ (ms : Bindings). record { actions = drop l.next.action d.actions; bound = ms ++ d.bound } ∷ ds) one_more

    pub bind_top : (xs : List Level) (d : Doing) → AreUpTo l.past xs → slice_get (lists l) l.next.list ≡ Some d →
        frames t program number trace now (xs ++ raised l ∷ []) ≡ in_frame (bind (named b).0 (named b).1) (frames t program number trace bs (xs ++ l ∷ []))
    bind_top xs d up e =
        let h = drop_next (lists l) l.next.list d e in
        snoc t program number trace now [] xs (raised l)
        ∙ ap (over t program number trace now l.base (raised l)) (sym (same_stacked bs now l.past [] xs same_start up))
        ∙ bind_over bs now (named b) l.base l _ _ (frames t program number trace bs xs) (ap (begun l.next.action (made t program number trace bs l)) h) (bind_left d _ h)
        ∙ ap (in_frame (bind (named b).0 (named b).1)) (sym (snoc t program number trace bs [] xs l))

  module _ (ls : List Level) (bs : List Binding) (f : First) (i : IsFirst t program number trace bs ls f) where
    name_there : bound_name t program (with_nothing t program number trace f.level.next) ≡ bound_name t program (first_action (doing (frames t program number trace bs ls)))
    name_there =
        ap (λ (o : Option Action). bound_name t program (option_map (λ (x : Action). (x, [])) o)) i.action ∙ name_of (action_of t program number trace f.deed) [] (bindings_of t program number trace bs f.level)
        ∙ ap (bound_name t program) (sym i.first)

    module _ (n : ℕ) (e : Entry) (there : slice_get trace n ≡ Some e) where
      given_there : given_at t program number trace n ≡ value_given e.what
      given_there = ap (λ (o : Option Entry). unwrap_or (option_map (λ (x : Entry). value_given x.what) o) Opaque) there

      read_same : (v : Value) (fs : List Frame) → in_frame (bind (bound_name t program (first_action (doing fs))) v) (removed fs) ≡ in_frame (λ old. bind (bound_name t program (first_action old)) v (without_first old)) fs
      read_same v [] = refl
      read_same v (g ∷ fs) = refl

      reading : (x : Thread) (w : What) → IsReading w → x.frames ≡ frames t program number trace bs ls →
          in_frame (bind (bound_name t program (first_action (doing (frames t program number trace bs ls)))) (value_given w)) (removed (frames t program number trace bs ls)) ≡ (follows t program e.instance x w).frames
      unfolding follows
      reading x (what.Read param v) o h = read_same v (frames t program number trace bs ls) ∙ ap (in_frame (λ old. bind (bound_name t program (first_action old)) v (without_first old))) (sym h)
      reading x (what.Enter r) o h = absurd o
      reading x (what.Guard r) o h = absurd o
      reading x (what.Set r) o h = absurd o
      reading x (what.Save r value) o h = absurd o
      reading x (what.Put k r) o h = absurd o
      reading x (what.Dropped r) o h = absurd o
      reading x (what.Hooked r) o h = absurd o
      reading x (what.Asserted r) o h = absurd o
      reading x (what.Leave v) o h = absurd o
      reading x what.Done o h = absurd o
      reading x (what.Take k point with) o h = absurd o
      reading x what.Empty o h = absurd o
      reading x (what.Emit event fate text) o h = absurd o
      reading x (what.Write channel fate v) o h = absurd o
      reading x (what.Start running actions leaf) o h = absurd o
      reading x (what.Move running signal actions leaf) o h = absurd o

      pub reading_follows : (x : Thread) → IsReading e.what → f.level.first ≤ f.level.past → f.level.past ≤ length bs → AreUpTo f.level.past (take f.below ls) → x.frames ≡ frames t program number trace bs ls →
          frames t program number trace (take f.level.past bs ++ record { name = f.level.next; value = n } ∷ []) (take f.below ls ++ raised (advanced f.level) ∷ []) ≡ (follows t program e.instance x e.what).frames
      reading_follows x o in_order in_reach up h = go (slice_get (lists f.level) f.level.next.list) refl i.action
        where
          b : Binding
          b = record { name = f.level.next; value = n }

          go : (d : Option Doing) → slice_get (lists f.level) f.level.next.list ≡ d → option_and_then (λ (y : Doing). slice_get y.actions f.level.next.action) d ≡ Some (action_of t program number trace f.deed) →
              frames t program number trace (take f.level.past bs ++ b ∷ []) (take f.below ls ++ raised (advanced f.level) ∷ []) ≡ (follows t program e.instance x e.what).frames
          go None s a = absurd (cc)
          go (Some d) s a =
              bind_top bs (advanced f.level) b in_order in_reach (take f.below ls) d up s
              ∙ (λ k. in_frame (bind (name_there k) (given_there k)) (i.rest k))
              ∙ reading x e.what o h

  -- the name that a call binds is the name of its action
  named_by : (v : Verb) (o : Option (List ℕ)) (name : List ℕ) → as_name v o ≡ Some name → unwrap_or o [] ≡ name
  named_by verb.Call o name e = ap (λ (p : Option (List ℕ)). unwrap_or p []) e
  named_by verb.Command o name e = absurd (cc)
  named_by verb.Emit o name e = absurd (cc)
  named_by verb.Write o name e = absurd (cc)
  named_by verb.Read o name e = absurd (cc)
  named_by verb.Signal o name e = absurd (cc)
  named_by verb.Post o name e = absurd (cc)
  named_by verb.Respond o name e = absurd (cc)
  named_by verb.Dispatch o name e = absurd (cc)
  named_by verb.Return o name e = absurd (cc)

  name_called : (o : Option (Action × Bindings)) (name : List ℕ) → name_for o ≡ Some name → bound_name t program o ≡ name
  name_called (Some (act x, bound)) name e = named_by x.verb x.bind name e
  name_called (Some (send from note, bound)) name e = absurd (cc)
  name_called (Some (advance running signal v, bound)) name e = absurd (cc)
  name_called None name e = absurd (cc)

  module _ (bs : List Binding) (q : Position) (n : ℕ) where
    abbrev returned : Binding
    returned = record { name = q; value = n }

    -- a frame that closes and returns a value
    closes : (o : Opened) (rest : List Frame) (d : Option Value) (name : List ℕ) (v : Value) → o ≡ arrived d (Some name) → bound_below o (Some v) rest ≡ in_frame (bind name v) rest
    closes o rest d name v e = ap (λ (p : Opened). bound_below p (Some v) rest) e

    module _ (ls : List Level) (b : Bottom) (i : IsBottom t program number trace bs ls b) (based : b.level.base ≡ base.Arrived (Some q)) (name : List ℕ) (is_called : called t program number trace (Some q) ≡ Some name) where
      opened_there : opened_in t program number trace b.level.base b.level.next.source ≡ arrived (default_in t program number trace b.level.next.source) (Some name)
      opened_there =
          ap (λ (c : Base). opened_in t program number trace c b.level.next.source) based
          ∙ ap (arrived (default_in t program number trace b.level.next.source)) is_called

      returning : (i : ℕ) (x : Thread) (w : What) → IsReturning w → x.frames ≡ frames t program number trace bs ls →
          in_frame (bind name (value_given w)) (frames t program number trace bs (take b.below ls)) ≡ (follows t program i x w).frames
      unfolding follows
      returning j x (what.Leave (Some v)) o h =
          sym (ap (closed (Some v)) (h ∙ i.is) ∙ closes _ (frames t program number trace bs (take b.below ls)) _ name v opened_there)
      returning j x (what.Leave None) o h = absurd o
      returning j x (what.Enter r) o h = absurd o
      returning j x (what.Guard r) o h = absurd o
      returning j x (what.Set r) o h = absurd o
      returning j x (what.Save r value) o h = absurd o
      returning j x (what.Put k r) o h = absurd o
      returning j x (what.Dropped r) o h = absurd o
      returning j x (what.Hooked r) o h = absurd o
      returning j x (what.Asserted r) o h = absurd o
      returning j x (what.Read param v) o h = absurd o
      returning j x what.Done o h = absurd o
      returning j x (what.Take k point with) o h = absurd o
      returning j x what.Empty o h = absurd o
      returning j x (what.Emit event fate text) o h = absurd o
      returning j x (what.Write channel fate v) o h = absurd o
      returning j x (what.Start running actions leaf) o h = absurd o
      returning j x (what.Move running signal actions leaf) o h = absurd o

      module _ (e : Entry) (there : slice_get trace n ≡ Some e) (x : Thread) (o : IsReturning e.what) (h : x.frames ≡ frames t program number trace bs ls) where
        -- with no frame below nothing is bound
        pub returning_nowhere : take b.below ls ≡ [] → frames t program number trace bs (take b.below ls) ≡ (follows t program e.instance x e.what).frames
        returning_nowhere none =
            ap (frames t program number trace bs) none ∙ ap (λ (ms : List Level). in_frame (bind name (value_given e.what)) (frames t program number trace bs ms)) (sym none)
            ∙ returning e.instance x e.what o h

        pub returning_follows : (xs : List Level) (l : Level) → take b.below ls ≡ xs ++ l ∷ [] → IsBindable t program number trace bs (take b.below ls) →
            frames t program number trace (take l.past bs ++ record { name = q; value = n } ∷ []) (xs ++ raised l ∷ []) ≡ (follows t program e.instance x e.what).frames
        returning_follows xs l split can = go (slice_get (lists l) l.next.list) refl (can xs l split).list
          where
            name_is : bound_name t program (with_nothing t program number trace q) ≡ name
            name_is = name_called (with_nothing t program number trace q) name is_called

            given : given_at t program number trace n ≡ value_given e.what
            given = ap (λ (y : Option Entry). unwrap_or (option_map (λ (z : Entry). value_given z.what) y) Opaque) there

            go : (d : Option Doing) → slice_get (lists l) l.next.list ≡ d → is_some d ≡ true →
                frames t program number trace (take l.past bs ++ returned ∷ []) (xs ++ raised l ∷ []) ≡ (follows t program e.instance x e.what).frames
            go None s some = absurd (cc)
            go (Some d) s some =
                let c = can xs l split in
                bind_top bs l returned c.within.0 c.within.1 xs d c.lowest s
                ∙ (λ k. in_frame (bind (name_is k) (given k)) (frames t program number trace bs (sym split k)))
                ∙ returning e.instance x e.what o h
