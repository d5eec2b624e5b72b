-- A walk that marks what it has found.
use Rattle.std.proofs.Common.{◌≡◌, ◌≢◌, ℕ, zero, suc, ◌+◌, ◌<◌, ◌≤◌, ◌⊎◌, Bool, true, false, MatchBool, List, [], ◌∷◌, ◌++◌, length, set, replicate, slice_get, Option, Some, None, unwrap_or, refl, sym, ap, subst, ◌∙◌, inl, inr, arith, length-set, length-append}
use Rattle.std.proofs.lemmas.Option.{slice_get_within}
use Rattle.fp_machine_rules.specs.declared.item.Target.{Target}
use Rattle.fp_machine_rules.specs.declared.item.Target.TheVariants.{To}
use Rattle.fp_machine_rules.specs.Reaching.{IsAmong, Edge, Reaches, begins, goes_on, IsReached}
use Rattle.fp_machine_rules.specs.Visits.{IsSeen, IsVisit, IsAdded, Adds, count_true, row_at}
use Rattle.fp_base.proofs.Lists.{get_front, get_last}
use Rattle.fp_base.proofs.Spots.{get_set_same, get_set_other, same_or_other, before_or_not, item_below}
use Rattle.fp_base.proofs.Numbers.{no_flag}
use Rattle.fp_machine_rules.proofs.Places.{behind, in_one_part, count_short, count_set}

to_parts : (v w : ℕ) → ◌≡◌ {A = Target} (To v) (To w) → v ≡ w
to_parts v w e = cc

only_one : {A : Type 0} (x y : A) → IsAmong (x ∷ []) y → x ≡ y
only_one x y (zero, e) = cc
only_one x y (suc k, e) = absurd cc

some_true_false : {o : Option Bool} → o ≡ Some true → o ≡ Some false → ⊥
some_true_false e f = cc

module _ (v : ℕ) (seen : List Bool) (found : List ℕ) where
  marked_visit : slice_get seen v ≡ Some false → IsVisit seen found → IsVisit (set seen v true) (found ++ v ∷ [])
  marked_visit e h = record { listed = listed; marked = marked; counted = counted }
    where
      within : v < length seen
      within = slice_get_within seen v false e

      listed_by : (w : ℕ) → (w ≡ v) ⊎ (w ≢ v) → IsSeen (set seen v true) w → IsAmong (found ++ v ∷ []) w
      listed_by w (inl s) is = subst (λ (x : ℕ). IsAmong (found ++ v ∷ []) x) (sym s) (length found, get_last found v)
      listed_by w (inr n) is = let t = h.listed w (sym (get_set_other seen v w true n) ∙ is) in (t.0, get_front found (v ∷ []) t.0 w t.1)

      listed : (w : ℕ) → IsSeen (set seen v true) w → IsAmong (found ++ v ∷ []) w
      listed w = listed_by w (same_or_other w v)

      seen_still : (w : ℕ) → IsSeen seen w → IsSeen (set seen v true) w
      seen_still w is = go (same_or_other w v)
        where
          go : (w ≡ v) ⊎ (w ≢ v) → IsSeen (set seen v true) w
          go (inl s) = subst (λ (x : ℕ). IsSeen (set seen v true) x) (sym s) (get_set_same seen v true within)
          go (inr n) = get_set_other seen v w true n ∙ is

      marked_by : (w : ℕ) → IsAmong found w ⊎ IsAmong (v ∷ []) w → IsSeen (set seen v true) w
      marked_by w (inl t) = seen_still w (h.marked w t)
      marked_by w (inr t) = subst (λ (x : ℕ). IsSeen (set seen v true) x) (only_one v w t) (get_set_same seen v true within)

      marked : (w : ℕ) → IsAmong (found ++ v ∷ []) w → IsSeen (set seen v true) w
      marked w t = marked_by w (in_one_part found (v ∷ []) w t)

      counted : count_true (set seen v true) ≡ length (found ++ v ∷ [])
      counted = count_set seen v e ∙ (ap suc h.counted ∙ omega (arith, length-append found (v ∷ [])))

  marked_adds : slice_get seen v ≡ Some false → Adds (To v ∷ []) seen found (set seen v true) (found ++ v ∷ [])
  marked_adds e =
      record { each = length-set seen v true; keeps = keeps; has = has; only = only; stands = λ k w t. get_front found (v ∷ []) k w t }
    where
      within : v < length seen
      within = slice_get_within seen v false e

      keeps_by : (w : ℕ) → (w ≡ v) ⊎ (w ≢ v) → IsSeen seen w → IsSeen (set seen v true) w
      keeps_by w (inl s) is = subst (λ (x : ℕ). IsSeen (set seen v true) x) (sym s) (get_set_same seen v true within)
      keeps_by w (inr n) is = get_set_other seen v w true n ∙ is

      keeps : (w : ℕ) → IsSeen seen w → IsSeen (set seen v true) w
      keeps w = keeps_by w (same_or_other w v)

      has : (w : ℕ) → IsAmong (To v ∷ []) (To w) → w < length seen → IsSeen (set seen v true) w
      has w t _ = subst (λ (x : ℕ). IsSeen (set seen v true) x) (to_parts v w (only_one (To v) (To w) t)) (get_set_same seen v true within)

      only_by : (w : ℕ) → (w ≡ v) ⊎ (w ≢ v) → IsSeen (set seen v true) w → IsSeen seen w ⊎ IsAmong (To v ∷ []) (To w)
      only_by w (inl s) is = inr (zero, ap (λ (x : ℕ). Some (To x)) (sym s))
      only_by w (inr n) is = inl (sym (get_set_other seen v w true n) ∙ is)

      only : (w : ℕ) → IsSeen (set seen v true) w → IsSeen seen w ⊎ IsAmong (To v ∷ []) (To w)
      only w = only_by w (same_or_other w v)

seen_or : (seen : List Bool) (v : ℕ) → (slice_get seen v ≡ Some false → ⊥) → v < length seen → IsSeen seen v
seen_or seen v other h = let t = item_below seen v h in go t.0 t.1
  where
    go : (b : Bool) → slice_get seen v ≡ Some b → IsSeen seen v
    go true e = e
    go false e = absurd (other e)

pub adds_nothing : (ts : List Target) (seen : List Bool) (found : List ℕ) → ((v : ℕ) → IsAmong ts (To v) → v < length seen → IsSeen seen v) → Adds ts seen found seen found
adds_nothing ts seen found has = record { each = refl; keeps = λ v h. h; has = has; only = λ v h. inl h; stands = λ k v h. h }

pub adds_stays : (t : Target) (seen : List Bool) (found : List ℕ) → ((v : ℕ) → ◌≡◌ {A = Target} t (To v) → ⊥) → Adds (t ∷ []) seen found seen found
adds_stays t seen found other = adds_nothing (t ∷ []) seen found (λ v h _. absurd (other v (only_one t (To v) h)))

pub added_visit : (v : ℕ) (seen : List Bool) (found : List ℕ) (seen' : List Bool) (found' : List ℕ) → IsAdded v seen found seen' found' → IsVisit seen found → IsVisit seen' found'
added_visit v seen found seen' found' (inl t) h =
    subst (λ (f : List ℕ). IsVisit seen' f) (sym t.2) (subst (λ (s : List Bool). IsVisit s (found ++ v ∷ [])) (sym t.1) (marked_visit v seen found t.0 h))
added_visit v seen found seen' found' (inr t) h = subst (λ (f : List ℕ). IsVisit seen' f) (sym t.2) (subst (λ (s : List Bool). IsVisit s found) (sym t.1) h)

pub added_adds : (v : ℕ) (seen : List Bool) (found : List ℕ) (seen' : List Bool) (found' : List ℕ) → IsAdded v seen found seen' found' → Adds (To v ∷ []) seen found seen' found'
added_adds v seen found seen' found' (inl t) =
    subst (λ (f : List ℕ). Adds (To v ∷ []) seen found seen' f) (sym t.2)
    (subst (λ (s : List Bool). Adds (To v ∷ []) seen found s (found ++ v ∷ [])) (sym t.1) (marked_adds v seen found t.0))
added_adds v seen found seen' found' (inr t) =
    subst (λ (f : List ℕ). Adds (To v ∷ []) seen found seen' f) (sym t.2)
    (subst (λ (s : List Bool). Adds (To v ∷ []) seen found s found) (sym t.1)
    (adds_nothing (To v ∷ []) seen found (λ w h l. subst (λ (x : ℕ). IsSeen seen x) (to_parts v w (only_one (To v) (To w) h)) (seen_or seen v t.0 (subst (λ (x : ℕ). x < length seen) (sym (to_parts v w (only_one (To v) (To w) h))) l)))))

pub adds_both : (ts us : List Target) (s0 : List Bool) (f0 : List ℕ) (s1 : List Bool) (f1 : List ℕ) (s2 : List Bool) (f2 : List ℕ)
    → Adds ts s0 f0 s1 f1 → Adds us s1 f1 s2 f2 → Adds (ts ++ us) s0 f0 s2 f2
adds_both ts us s0 f0 s1 f1 s2 f2 a b =
    record { each = b.each ∙ a.each; keeps = λ v h. b.keeps v (a.keeps v h); has = has; only = only; stands = λ k v h. b.stands k v (a.stands k v h) }
  where
    has_by : (v : ℕ) → IsAmong ts (To v) ⊎ IsAmong us (To v) → v < length s0 → IsSeen s2 v
    has_by v (inl h) l = b.keeps v (a.has v h l)
    has_by v (inr h) l = b.has v h (subst (λ (n : ℕ). v < n) (sym a.each) l)

    has : (v : ℕ) → IsAmong (ts ++ us) (To v) → v < length s0 → IsSeen s2 v
    has v h = has_by v (in_one_part ts us (To v) h)

    left : (v : ℕ) → IsAmong ts (To v) → IsAmong (ts ++ us) (To v)
    left v h = (h.0, get_front ts us h.0 (To v) h.1)

    only_first : (v : ℕ) → IsSeen s0 v ⊎ IsAmong ts (To v) → IsSeen s0 v ⊎ IsAmong (ts ++ us) (To v)
    only_first v (inl h) = inl h
    only_first v (inr h) = inr (left v h)

    only_by : (v : ℕ) → IsSeen s1 v ⊎ IsAmong us (To v) → IsSeen s0 v ⊎ IsAmong (ts ++ us) (To v)
    only_by v (inl h) = only_first v (a.only v h)
    only_by v (inr h) = inr (behind ts us (To v) h)

    only : (v : ℕ) → IsSeen s2 v → IsSeen s0 v ⊎ IsAmong (ts ++ us) (To v)
    only v h = only_by v (b.only v h)

-- what stands while vertices are looked at one after another
pub record IsWalked (rows : List (List Target)) (starts : List Target) (at : ℕ) (seen : List Bool) (found : List ℕ) : Type 0 where
  pub visit : IsVisit seen found
  pub each : length seen ≡ length rows
  pub started : (v : ℕ) → IsAmong starts (To v) → v < length rows → IsSeen seen v
  pub sound : (v : ℕ) → IsSeen seen v → Reaches rows starts v
  pub closed : (k v w : ℕ) → k < at → slice_get found k ≡ Some v → Edge rows v w → w < length rows → IsSeen seen w

module _ (rows : List (List Target)) (starts : List Target) where
  seen_within : (seen : List Bool) (v : ℕ) → IsSeen seen v → v < length seen
  seen_within seen v h = slice_get_within seen v true h

  pub walk_begins : (s0 : List Bool) (f0 : List ℕ) (seen : List Bool) (found : List ℕ) → length s0 ≡ length rows → ((v : ℕ) → IsSeen s0 v → ⊥) → IsVisit seen found
      → Adds starts s0 f0 seen found → IsWalked rows starts 0 seen found
  walk_begins s0 f0 seen found size none visit adds = record {
    visit = visit;
    each = adds.each ∙ size;
    started = λ v h l. adds.has v h (subst (λ (n : ℕ). v < n) (sym size) l);
    sound = sound;
    closed = λ k v w l. absurd (omega arith);
  }
    where
      sound_by : (v : ℕ) → v < length rows → IsSeen s0 v ⊎ IsAmong starts (To v) → Reaches rows starts v
      sound_by v l (inl h) = absurd (none v h)
      sound_by v l (inr h) = begins h l

      sound : (v : ℕ) → IsSeen seen v → Reaches rows starts v
      sound v h = sound_by v (subst (λ (n : ℕ). v < n) (adds.each ∙ size) (seen_within seen v h)) (adds.only v h)

  row_there : (v w : ℕ) (row : List Target) → row_at rows v ≡ row → IsAmong row (To w) → Edge rows v w
  row_there v w row e h = go (slice_get rows v) refl
    where
      empty : IsAmong [] (To w) → ⊥
      empty (k, x) = cc

      go : (o : Option (List Target)) → slice_get rows v ≡ o → Edge rows v w
      go (Some r) is = record { row = r; here = is; among = subst (λ (x : List Target). IsAmong x (To w)) (sym e ∙ ap (λ (o : Option (List Target)). unwrap_or o []) is) h }
      go None is = absurd (empty (subst (λ (x : List Target). IsAmong x (To w)) (sym e ∙ ap (λ (o : Option (List Target)). unwrap_or o []) is) h))

  edge_row : (v w : ℕ) → Edge rows v w → IsAmong (row_at rows v) (To w)
  edge_row v w e = subst (λ (x : List Target). IsAmong x (To w)) (sym (ap (λ (o : Option (List Target)). unwrap_or o []) e.here)) e.among

  pub walk_goes_on : (at v : ℕ) (s0 : List Bool) (f0 : List ℕ) (seen : List Bool) (found : List ℕ) → IsWalked rows starts at s0 f0 → slice_get f0 at ≡ Some v
      → (IsVisit s0 f0 → IsVisit seen found) → Adds (row_at rows v) s0 f0 seen found → IsWalked rows starts (at + 1) seen found
  walk_goes_on at v s0 f0 seen found h here kept adds = record {
    visit = kept h.visit;
    each = adds.each ∙ h.each;
    started = λ w s l. adds.keeps w (h.started w s l);
    sound = sound;
    closed = closed;
  }
    where
      from : Reaches rows starts v
      from = h.sound v (h.visit.marked v (at, here))

      sound_by : (w : ℕ) → w < length rows → IsSeen s0 w ⊎ IsAmong (row_at rows v) (To w) → Reaches rows starts w
      sound_by w l (inl s) = h.sound w s
      sound_by w l (inr s) = goes_on from (row_there v w (row_at rows v) refl s) l

      sound : (w : ℕ) → IsSeen seen w → Reaches rows starts w
      sound w s = sound_by w (subst (λ (n : ℕ). w < n) (adds.each ∙ h.each) (seen_within seen w s)) (adds.only w s)

      there : (k u : ℕ) → k < length f0 → slice_get found k ≡ Some u → slice_get f0 k ≡ Some u
      there k u l e = let t = item_below f0 k l in subst (λ (x : ℕ). slice_get f0 k ≡ Some x) (same t.0 u (sym (adds.stands k t.0 t.1) ∙ e)) t.1
        where
          same : (a b : ℕ) → ◌≡◌ {A = Option ℕ} (Some a) (Some b) → a ≡ b
          same a b x = cc

      below : at < length f0
      below = slice_get_within f0 at v here

      same_some : (a b : ℕ) → ◌≡◌ {A = Option ℕ} (Some a) (Some b) → a ≡ b
      same_some a b x = cc

      closed_by : (k u w : ℕ) → (k < at) ⊎ (at ≤ k) → k < at + 1 → slice_get found k ≡ Some u → Edge rows u w → w < length rows → IsSeen seen w
      closed_by k u w (inl l) _ e edge lw = adds.keeps w (h.closed k u w l (there k u (omega (arith, below)) e) edge lw)
      closed_by k u w (inr g) l e edge lw =
          adds.has w
          (subst (λ (x : ℕ). IsAmong (row_at rows x) (To w))
          (same_some u v (sym (there k u (omega (arith, below)) e) ∙ (ap (λ (x : ℕ). slice_get f0 x) (let s : k ≡ at = omega arith in s) ∙ here)))
          (edge_row u w edge))
          (subst (λ (n : ℕ). w < n) (sym h.each) lw)

      closed : (k u w : ℕ) → k < at + 1 → slice_get found k ≡ Some u → Edge rows u w → w < length rows → IsSeen seen w
      closed k u w l = closed_by k u w (before_or_not k at) l

  pub walk_short : (at : ℕ) (seen : List Bool) (found : List ℕ) → IsWalked rows starts at seen found → length found ≤ length rows
  walk_short at seen found h = omega (arith, count_short seen, h.visit.counted, h.each)

  pub walk_ends : (at : ℕ) (seen : List Bool) (found : List ℕ) → IsWalked rows starts at seen found → length found ≤ at → IsReached rows starts seen found
  walk_ends at seen found h end = record { each = h.each; exact = exact; listed = λ v. (λ a. h.sound v (h.visit.marked v a), λ r. h.visit.listed v (whole r)) }
    where
      whole : {v : ℕ} → Reaches rows starts v → IsSeen seen v
      whole (begins {v = v} s l) = h.started v s l
      whole (goes_on {v = v} {w = w} r e l) =
          let t = h.visit.listed v (whole r) in
          h.closed t.0 v w (let b : t.0 < length found = slice_get_within found t.0 v t.1 in omega arith) t.1 e l

      exact : (v : ℕ) (b : Bool) → slice_get seen v ≡ Some b → MatchBool b (Reaches rows starts v) (Reaches rows starts v → ⊥)
      exact v true e = h.sound v e
      exact v false e = λ r. some_true_false (whole r) e

count_none : (n : ℕ) → count_true (replicate n false) ≡ 0
count_none zero = refl
count_none (suc n) = count_none n

-- nothing is marked, and nothing is listed
pub unvisited : (n : ℕ) (seen : List Bool) (found : List ℕ) → seen ≡ replicate n false → found ≡ [] → IsVisit seen found
unvisited n seen found s f =
    subst (λ (xs : List Bool). IsVisit xs found) (sym s)
    (subst (λ (ys : List ℕ). IsVisit (replicate n false) ys) (sym f)
    (record { listed = λ v h. absurd (no_flag n v h); marked = λ v h. absurd (empty v h); counted = count_none n }))
  where
    empty : (v : ℕ) → IsAmong [] v → ⊥
    empty v (k, e) = cc
