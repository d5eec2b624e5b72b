-- Levels and bindings stay as they are kept, whatever an entry makes of them.
use Rattle.std.proofs.Common.{◌≡◌, ℕ, zero, suc, ◌+◌, ◌≤◌, ◌<◌, true, is_some, List, [], ◌∷◌, ◌++◌, length, take, reverse, Option, Some, None, refl, sym, ap, ◌∙◌, subst, arith}
use Rattle.std.specs.List.{slice_get}
use Rattle.std.specs.Option.{option_and_then}
use Rattle.std.proofs.lemmas.List.{reverse-append, length-take-le, length-append}
use Rattle.std.proofs.Math.Seq.{take-append_seam}
use Rattle.fp_tables.specs.Lookup.{Described}
use Rattle.fp_tables.specs.declared.program.Caller.{Caller}
use Rattle.fp_tables.specs.declared.program.Program.{Program}
use Rattle.fp_events.specs.declared.event.Entry.{Entry}
use Rattle.fp_events.specs.Actor.{Action, Doing}
use Rattle.fp_actor.specs.declared.level.Source.{Source}
use Rattle.fp_actor.specs.declared.level.Source.TheVariants as source
use Rattle.fp_actor.specs.declared.level.Position.{Position}
use Rattle.fp_actor.specs.declared.level.Base.{Base}
use Rattle.fp_actor.specs.declared.level.Base.TheVariants as base
use Rattle.fp_actor.specs.declared.level.Level.{Level}
use Rattle.fp_actor.specs.declared.level.Binding.{Binding}
use Rattle.fp_actor.specs.declared.stack.First.{First}
use Rattle.fp_actor.specs.Levels.{opening_of, advanced, raised, settled, entry_of, level_of_entry, AreUpTo}
use Rattle.fp_actor.specs.Stacked.{lists_in, action_of, IsFirst, IsBindable}
use Rattle.fp_actor.specs.Placed.{IsBefore, IsBaseBefore, AreBefore, IsBeginning, HasList, Stands, AreStanding, AreKept}
use Rattle.fp_actor.proofs.Dueness.{settled_within}
use Rattle.fp_actor.proofs.Growing.{lists_grown}
use Rattle.fp_base.proofs.Lists.{get_last}

module _ {A : Type 0} where
  got_in : (n : ℕ) (xs : List A) (k : ℕ) (x : A) → slice_get (take n xs) k ≡ Some x → (slice_get xs k ≡ Some x) × (take k (take n xs) ≡ take k xs)
  got_in zero [] k x e = absurd (cc)
  got_in zero (y ∷ ys) k x e = absurd (cc)
  got_in (suc n) [] k x e = absurd (cc)
  got_in (suc n) (y ∷ ys) zero x e = (e, refl)
  got_in (suc n) (y ∷ ys) (suc k) x e =
      let r = got_in n ys k x e in
      (r.0, ap (λ (zs : List A). y ∷ zs) r.1)

  end_cases : (R : Type 0) (xs : List A) (y : A) (k : ℕ) (x : A) → slice_get (xs ++ y ∷ []) k ≡ Some x →
      (slice_get xs k ≡ Some x → take k (xs ++ y ∷ []) ≡ take k xs → R) → (x ≡ y → take k (xs ++ y ∷ []) ≡ xs → R) → R
  end_cases R [] y zero x e there last = let s : y ≡ x = cc in last (sym s) refl
  end_cases R [] y (suc k) x e there last = absurd (cc)
  end_cases R (z ∷ zs) y zero x e there last = there e refl
  end_cases R (z ∷ zs) y (suc k) x e there last =
      end_cases R zs y k x e (λ s t. there s (ap (λ (ws : List A). z ∷ ws) t)) (λ s t. last s (ap (λ (ws : List A). z ∷ ws) t))

  pub with_last : (R : Type 0) (xs : List A) → (xs ≡ [] → R) → ((ys : List A) (y : A) → xs ≡ ys ++ y ∷ [] → R) → R
  with_last R [] none some = none refl
  with_last R (x ∷ xs) none some =
      with_last R xs (λ e. some [] x (ap (λ (zs : List A). x ∷ zs) e)) (λ ys y e. some (x ∷ ys) y (ap (λ (zs : List A). x ∷ zs) e))

  pub last_same : (xs ys : List A) (x y : A) → xs ++ x ∷ [] ≡ ys ++ y ∷ [] → x ≡ y
  last_same xs ys x y e =
      let r : x ∷ reverse xs ≡ y ∷ reverse ys = sym (reverse-append xs (x ∷ [])) ∙ ap reverse e ∙ reverse-append ys (y ∷ []) in cc

  not_end : (xs : List A) (x : A) → [] ≡ xs ++ x ∷ [] → ⊥
  not_end [] x e = cc
  not_end (y ∷ ys) x e = cc

up_to_more : (n m : ℕ) (ls : List Level) → n ≤ m → AreUpTo n ls → AreUpTo m ls
up_to_more n m ls le h k l e = let p : l.past ≤ n = h k l e in omega arith

up_to_end : (n : ℕ) (xs : List Level) (x : Level) → AreUpTo n xs → x.past ≤ n → AreUpTo n (xs ++ x ∷ [])
up_to_end n xs x h le k l e = end_cases (l.past ≤ n) xs x k l e (λ s t. h k l s) (λ s t. subst (λ (y : Level). y.past ≤ n) (sym s) le)

there_of_action : (o : Option Doing) (g : Doing → Option Action) (x : Action) → option_and_then g o ≡ Some x → is_some o ≡ true
there_of_action None g x e = absurd (cc)
there_of_action (Some d) g x e = refl

module _ (t : Described) (program : Program) (number : ℕ) (trace : List Entry) where
  abbrev StandsSo : ℕ → List Level → Level → Type 0
  StandsSo = Stands t program number trace

  abbrev AllStand : ℕ → List Level → Type 0
  AllStand = AreStanding t program number trace

  abbrev Kept : List Binding → List Level → Type 0
  Kept = AreKept t program number trace

  standing_take : (n m : ℕ) (ls : List Level) → AllStand n ls → AllStand n (take m ls)
  standing_take n m ls h k l e =
      let r = got_in m ls k l e in
      subst (λ (lower : List Level). StandsSo n lower l) (sym r.1) (h k l r.0)

  standing_end : (n : ℕ) (xs : List Level) (x : Level) → AllStand n xs → StandsSo n xs x → AllStand n (xs ++ x ∷ [])
  standing_end n xs x h s k l e =
      end_cases (StandsSo n (take k (xs ++ x ∷ [])) l) xs x k l e
      (λ p q. subst (λ (lower : List Level). StandsSo n lower l) (sym q) (h k l p))
      (λ p q. subst (λ (lower : List Level). StandsSo n lower l) (sym q) (subst (λ (y : Level). StandsSo n xs y) (sym p) s))

  standing_below : (n : ℕ) (xs : List Level) (x : Level) → AllStand n (xs ++ x ∷ []) → AllStand n xs
  standing_below n xs x h = subst (λ (ls : List Level). AllStand n ls) (take-append_seam xs (x ∷ [])) (standing_take n (length xs) (xs ++ x ∷ []) h)

  standing_last : (n : ℕ) (xs : List Level) (x : Level) → AllStand n (xs ++ x ∷ []) → StandsSo n xs x
  standing_last n xs x h = subst (λ (lower : List Level). StandsSo n lower x) (take-append_seam xs (x ∷ [])) (h (length xs) x (get_last xs x))

  stands_settled : (n : ℕ) (lower : List Level) (l : Level) (p : Position) → p.source ≡ l.next.source → StandsSo n lower l → StandsSo n lower (settled l p)
  stands_settled n lower l p e s = record {
    within = settled_within n l p s.within;
    lowest = s.lowest;
    opened = s.opened;
    placed = subst (λ (from : Source). IsBefore (length trace) from) (sym e) s.placed;
    below = s.below;
  }

  stands_advanced : (n : ℕ) (lower : List Level) (l : Level) → StandsSo n lower l → StandsSo n lower (advanced l)
  stands_advanced n lower l s = record {
    within = s.within;
    lowest = s.lowest;
    opened = s.opened;
    placed = s.placed;
    below = s.below;
  }

  stands_raised : (lower : List Level) (n : ℕ) (l : Level) → StandsSo n lower l → StandsSo (l.past + 1) lower (raised l)
  stands_raised lower n l s =
      let first : l.first ≤ l.past = s.within.0 in
      let order : l.first ≤ l.past + 1 = omega arith in
      let all : l.past + 1 ≤ l.past + 1 = omega arith in
      record {
        within = (order, all);
        lowest = up_to_more l.past (l.past + 1) lower (omega arith) s.lowest;
        opened = s.opened;
        placed = s.placed;
        below = s.below;
      }

  stands_among : (n m : ℕ) (lower : List Level) (l : Level) → l.past ≤ m → StandsSo n lower l → StandsSo m lower l
  stands_among n m lower l le s = record {
    within = (s.within.0, le);
    lowest = s.lowest;
    opened = s.opened;
    placed = s.placed;
    below = s.below;
  }

  stands_new : (n : ℕ) (lower : List Level) (b : Base) (at v past : ℕ) → past ≤ n → AreUpTo past lower → IsBaseBefore (length trace) b → at < length trace → v < length trace →
      (IsBeginning b → (under : List Level) (m : Level) → lower ≡ under ++ m ∷ [] → HasList t program number trace m) → StandsSo n lower (level_of_entry b at v past)
  stands_new n lower b at v past le up before lt vlt list =
      let same : past ≤ past = omega arith in
      record {
        within = (same, le);
        lowest = up;
        opened = before;
        placed = (lt, vlt);
        below = list;
      }

  pub call_before : (n : ℕ) (lower : List Level) (l : Level) (q : Position) → l.base ≡ base.Arrived (Some q) → StandsSo n lower l → IsBefore (length trace) q.source
  call_before n lower l q e s = subst (λ (b : Base). IsBaseBefore (length trace) b) e s.opened

  pub before_all : (bs : List Binding) (ls : List Level) → Kept bs ls → AreBefore (length trace) ls
  before_all bs ls h k l e =
      let s = h.standing k l e in
      (s.opened, s.placed)

  -- the trace is longer than the entry of a source that is in it
  pub entry_before : (n : ℕ) (s : Source) → n < length trace → IsBefore (length trace) s → entry_of s < length trace
  entry_before n source.Own lt h = omega arith
  entry_before n (source.Entry k m) lt h = h.0

  module _ (bs : List Binding) (ls : List Level) (h : Kept bs ls) where
    pub kept_taken : (n : ℕ) → Kept bs (take n ls)
    kept_taken n = record { standing = standing_take (length bs) n ls h.standing; bound = h.bound }

    pub bindable : (k : ℕ) (m : Level) → slice_get ls k ≡ Some m → IsBeginning m.base → IsBindable t program number trace bs (take k ls)
    bindable k m there o lower l e =
        let s = standing_last (length bs) lower l (subst (λ (ms : List Level). AllStand (length bs) ms) e (standing_take (length bs) k ls h.standing)) in
        record { within = s.within; lowest = s.lowest; list = (h.standing k m there).below o lower l e }

    module _ (f : First) (i : IsFirst t program number trace bs ls f) where
      pub stands_first : StandsSo (length bs) (take f.below ls) f.level
      stands_first =
          subst (λ (l : Level). StandsSo (length bs) (take f.below ls) l) (sym i.from)
          (stands_settled (length bs) (take f.below ls) i.level f.level.next i.source (h.standing f.below i.level i.there))

      pub kept_removed : Kept bs (take f.below ls ++ advanced f.level ∷ [])
      kept_removed = record {
        standing =
            standing_end (length bs) (take f.below ls) (advanced f.level) (standing_take (length bs) f.below ls h.standing)
            (stands_advanced (length bs) (take f.below ls) f.level stands_first);
        bound = h.bound;
      }

      has_list : HasList t program number trace (advanced f.level)
      has_list =
          there_of_action (slice_get (lists_in t program number trace f.level.next.source) f.level.next.list) (λ (d : Doing). slice_get d.actions f.level.next.action)
          (action_of t program number trace f.deed) i.action

      pub kept_replaced : (b : Base) (at v : ℕ) → IsBaseBefore (length trace) b → at < length trace → v < length trace →
          Kept bs ((take f.below ls ++ advanced f.level ∷ []) ++ level_of_entry b at v f.level.past ∷ [])
      kept_replaced b at v before lt vlt =
          let same : f.level.past ≤ f.level.past = omega arith in
          record {
            standing =
                standing_end (length bs) (take f.below ls ++ advanced f.level ∷ []) (level_of_entry b at v f.level.past) kept_removed.standing
                (stands_new (length bs) (take f.below ls ++ advanced f.level ∷ []) b at v f.level.past stands_first.within.1
                (up_to_end f.level.past (take f.below ls) (advanced f.level) stands_first.lowest same) before lt vlt
                (λ o under m e. subst (λ (l : Level). HasList t program number trace l) (last_same (take f.below ls) under (advanced f.level) m e) has_list));
            bound = h.bound;
          }

      pub kept_started : (at v past : ℕ) → ((lower : List Level) (top : Level) → ls ≡ lower ++ top ∷ [] → past ≡ top.past) → at < length trace → v < length trace →
          Kept bs (ls ++ level_of_entry base.Inside at v past ∷ [])
      kept_started at v past is lt vlt =
          with_last (Kept bs (ls ++ level_of_entry base.Inside at v past ∷ [])) ls
          (λ e. let got : slice_get [] f.below ≡ Some i.level = subst (λ (ms : List Level). slice_get ms f.below ≡ Some i.level) e i.there in absurd (cc))
          (λ lower top e.
          let s = standing_last (length bs) lower top (subst (λ (ms : List Level). AllStand (length bs) ms) e h.standing) in
          let same : top.past ≤ top.past = omega arith in
          let up : AreUpTo top.past ls = subst (λ (ms : List Level). AreUpTo top.past ms) (sym e) (up_to_end top.past lower top s.lowest same) in
          record {
            standing =
                standing_end (length bs) ls (level_of_entry base.Inside at v past) h.standing
                (stands_new (length bs) ls base.Inside at v past (subst (λ n. n ≤ length bs) (sym (is lower top e)) s.within.1)
                (subst (λ n. AreUpTo n ls) (sym (is lower top e)) up) tt lt vlt (λ o. absurd o));
            bound = h.bound;
          })

  -- an actor's levels at the opening
  pub kept_opening : (o : Option Caller) → Kept [] (opening_of o)
  kept_opening None = record { standing = λ k l e. absurd (cc); bound = λ k b e. absurd (cc) }
  kept_opening (Some c) =
      let own : Level = record { base = base.Own; next = record { source = source.Own; list = 0; action = 0 }; first = 0; past = 0 } in
      let none : 0 ≤ 0 = omega arith in
      record {
        standing =
            standing_end 0 [] own (λ k l e. absurd (cc))
            (record { within = (none, none); lowest = λ k l e. absurd (cc); opened = tt; placed = tt; below = λ o under m e. absurd (not_end under m e) });
        bound = λ k b e. absurd (cc);
      }

  pub kept_first_taken : (bs : List Binding) (ls : List Level) (at : ℕ) → ls ≡ [] → at < length trace → Kept bs ls → Kept bs (ls ++ level_of_entry base.Taken at at 0 ∷ [])
  kept_first_taken bs ls at e lt h =
      let none : 0 ≤ length bs = omega arith in
      record {
        standing =
            standing_end (length bs) ls (level_of_entry base.Taken at at 0) h.standing
            (stands_new (length bs) ls base.Taken at at 0 none (λ k l got. let no : slice_get [] k ≡ Some l = subst (λ (ms : List Level). slice_get ms k ≡ Some l) e got in absurd (cc)) tt lt lt
            (λ o under m s. absurd (not_end under m (sym e ∙ s))));
        bound = h.bound;
      }

  pub kept_bound : (bs : List Binding) (xs : List Level) (l : Level) (b : Binding) → Kept bs (xs ++ l ∷ []) → IsBefore (length trace) b.name.source → b.value < length trace →
      Kept (take l.past bs ++ b ∷ []) (xs ++ raised l ∷ [])
  kept_bound bs xs l b h named valued =
      let s = standing_last (length bs) xs l h.standing in
      let all = standing_below (length bs) xs l h.standing in
      let size : length (take l.past bs ++ b ∷ []) ≡ l.past + 1 = length-append (take l.past bs) (b ∷ []) ∙ ap (λ n. n + 1) (length-take-le l.past bs s.within.1) in
      record {
        standing =
            subst (λ n. AllStand n (xs ++ raised l ∷ [])) (sym size)
            (standing_end (l.past + 1) xs (raised l)
            (λ k m e.
            let up : m.past ≤ l.past = s.lowest k m e in
            stands_among (length bs) (l.past + 1) (take k xs) m (omega arith) (all k m e))
            (stands_raised xs (length bs) l s));
        bound =
            λ k c e. end_cases (IsBefore (length trace) c.name.source × (c.value < length trace)) (take l.past bs) b k c e (λ p q. h.bound k c (got_in l.past bs k c p).0)
            (λ p q. subst (λ (d : Binding). IsBefore (length trace) d.name.source × (d.value < length trace)) (sym p) (named, valued));
      }

module _ (t : Described) (program : Program) (number : ℕ) (trace more : List Entry) where
  abbrev grown : List Entry
  grown = trace ++ more

  before_more : (s : Source) → IsBefore (length trace) s → IsBefore (length grown) s
  before_more source.Own h = tt
  before_more (source.Entry k m) h =
      let whole : length grown ≡ length trace + length more = length-append trace more in
      let first : k < length trace = h.0 in
      let second : m < length trace = h.1 in
      (omega (arith, whole), omega (arith, whole))

  base_more : (b : Base) → IsBaseBefore (length trace) b → IsBaseBefore (length grown) b
  base_more base.Inside h = tt
  base_more base.Own h = tt
  base_more base.Taken h = tt
  base_more (base.Arrived None) h = tt
  base_more (base.Arrived (Some p)) h = before_more p.source h

  list_more : (l : Level) → IsBefore (length trace) l.next.source → HasList t program number trace l → HasList t program number grown l
  list_more l h k = subst (λ (ds : List Doing). is_some (slice_get ds l.next.list) ≡ true) (sym (lists_grown t program number trace more l.next.source h)) k

  -- an entry more in the trace changes nothing of this
  pub kept_more : (bs : List Binding) (ls : List Level) → AreKept t program number trace bs ls → AreKept t program number grown bs ls
  kept_more bs ls h = record {
    standing =
        λ k l e.
        let s = h.standing k l e in
        record {
          within = s.within;
          lowest = s.lowest;
          opened = base_more l.base s.opened;
          placed = before_more l.next.source s.placed;
          below =
              λ o under m q.
              let lower = standing_take t program number trace (length bs) k ls h.standing in
              let n = standing_last t program number trace (length bs) under m (subst (λ (ms : List Level). AreStanding t program number trace (length bs) ms) q lower) in
              list_more m n.placed (s.below o under m q);
        };
    bound =
        λ k b e.
        let p = h.bound k b e in
        let whole : length grown ≡ length trace + length more = length-append trace more in
        let value : b.value < length trace = p.1 in
        (before_more b.name.source p.0, omega (arith, whole));
  }
