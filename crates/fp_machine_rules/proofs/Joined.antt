-- The least of what is flagged, at the places of what it is flagged of.
use Rattle.std.proofs.Common.{◌≡◌, ◌↔◌, IsTrue, ℕ, Bool, true, false, MatchBool, IsSomeAnd, List, length, map, slice_get, Option, Some, None, option_map, unwrap_or, refl, sym, ap, subst, ◌∙◌, inl, inr, arith}
use Rattle.std.proofs.lemmas.List.{length-map}
use Rattle.std.proofs.lemmas.Option.{slice_get_within, slice_get-map}
use Rattle.fp_base.specs.declared.place.Place.{Place}
use Rattle.fp_base.specs.declared.refusal.Refusal.{Refusal}
use Rattle.fp_base.specs.declared.rule.Rule.{Rule}
use Rattle.fp_base.specs.declared.rule.Rule.TheVariants.{InitialCount, MachineTooLarge}
use Rattle.fp_base.specs.Least.{broken_at, InSome, IsLeast, NoLater}
use Rattle.fp_base.proofs.Calculus.{least_same}
use Rattle.fp_base.proofs.Options.{same_some, mapped_some}
use Rattle.fp_base.proofs.Spots.{item_below}
use Rattle.fp_machine_rules.specs.declared.item.Item.{Item}
use Rattle.fp_machine_rules.specs.declared.item.Use.{Use}
use Rattle.fp_machine_rules.specs.declared.item.Meaning.{Meaning}
use Rattle.fp_machine_rules.specs.declared.item.Meaning.TheVariants as meaning
use Rattle.fp_machine_rules.specs.declared.item.LaidMachine.{LaidMachine}
use Rattle.fp_machine_rules.specs.Broken.{AtEach, AreBehind, BrokenAsWhole, BrokenInside, BrokenUses, BrokenWays, IsBefore, IsFlaggedAt, IsUndefined, LacksValue, MachineBroken, is_nothing, RepeatedItems, RepeatedNames, StandsFirst}
use Rattle.fp_machine_rules.specs.Leaving.{AreFlags}
use Rattle.fp_machine_rules.specs.Repeated.{Key, IsRepeated}
use Rattle.fp_machine_rules.specs.Undefined.{is_marked}
use Rattle.fp_machine_rules.specs.Values.{AreUseFlags, IsMisgiven}

pub told_iff : (b : Bool) (P : Type 0) → IsTrue b ↔ P → MatchBool b P (P → ⊥)
told_iff true P h = h.0 refl
told_iff false P h = λ p. differ (h.1 p)
  where
    differ : ◌≡◌ {A = Bool} false true → ⊥
    differ z = cc

pub marked_set : (flags : List Bool) (k : ℕ) → is_marked flags k ≡ true → slice_get flags k ≡ Some true
marked_set flags k e = go (slice_get flags k) e
  where
    go : (o : Option Bool) → unwrap_or o false ≡ true → o ≡ Some true
    go (Some b) h = ap (λ (c : Bool). Some c) h
    go None h = absurd cc

pub set_marked : (flags : List Bool) (k : ℕ) → is_marked flags k ≡ false → slice_get flags k ≡ Some true → ⊥
set_marked flags k e s = differ (sym e ∙ ap (λ (o : Option Bool). unwrap_or o false) s)
  where
    differ : ◌≡◌ {A = Bool} false true → ⊥
    differ z = cc

pub lengths_same : {A B C : Type 0} (f : A → B) (g : A → C) (xs : List A) (bs : List B) (cs : List C) → bs ≡ map f xs → cs ≡ map g xs → length bs ≡ length cs
lengths_same f g xs bs cs e h = ap length e ∙ (length-map xs f ∙ (sym (length-map xs g) ∙ sym (ap length h)))

module _ (rule : Rule) (places : List Place) where
  -- what is flagged is what the flags tell
  pub flags_told : (P : ℕ → Type 0) (flags : List Bool) (o : Option Refusal) → AreFlags P (length places) flags
      → IsLeast (InSome (IsFlaggedAt rule flags) places) o → IsLeast (AtEach rule (λ (p : Place). p) places P) o
  flags_told P flags o h l = least_same to back l
    where
      set_by : (k : ℕ) → P k → (b : Bool) → slice_get flags k ≡ Some b → slice_get flags k ≡ Some true
      set_by k p true e = e
      set_by k p false e = absurd (h.exact k false e p)

      set : (k : ℕ) (p : Place) → slice_get places k ≡ Some p → P k → slice_get flags k ≡ Some true
      set k p here q = let w = slice_get_within places k p here in let t = item_below flags k (omega (arith, w, h.each)) in set_by k q t.0 t.1

      to : (f : Refusal) → InSome (IsFlaggedAt rule flags) places f → AtEach rule (λ (p : Place). p) places P f
      to f (k, p, here, (is, s)) = (k, p, here, (is, h.exact k true s))

      back : (f : Refusal) → AtEach rule (λ (p : Place). p) places P f → InSome (IsFlaggedAt rule flags) places f
      back f (k, p, here, (is, q)) = (k, p, here, (is, set k p here q))

  -- the places are those of a list
  pub placed : {A : Type 0} (place : A → Place) (xs : List A) (P Q : ℕ → Type 0) (o : Option Refusal) → places ≡ map place xs
      → ((k : ℕ) → P k → Q k) → ((k : ℕ) → Q k → P k) → IsLeast (AtEach rule (λ (p : Place). p) places P) o → IsLeast (AtEach rule place xs Q) o
  placed {A = A} place xs P Q o is there back_there l = least_same to back l
    where
      at : (k : ℕ) → slice_get places k ≡ option_map place (slice_get xs k)
      at k = ap (λ (ps : List Place). slice_get ps k) is ∙ slice_get-map place xs k

      to : (f : Refusal) → AtEach rule (λ (p : Place). p) places P f → AtEach rule place xs Q f
      to f (k, p, here, (e, q)) =
          let m = mapped_some place (slice_get xs k) p (sym (at k) ∙ here) in
          (k, m.0, m.1, (e ∙ ap (λ (r : Place). broken_at rule r) (sym m.2), there k q))

      back : (f : Refusal) → AtEach rule place xs Q f → AtEach rule (λ (p : Place). p) places P f
      back f (k, x, here, (e, q)) = (k, place x, at k ∙ ap (λ (y : Option A). option_map place y) here, (e, back_there k q))

-- both at once
pub flags_placed : {A : Type 0} (rule : Rule) (place : A → Place) (xs : List A) (P : ℕ → Type 0) (places : List Place) (flags : List Bool) (o : Option Refusal)
    → places ≡ map place xs → AreFlags P (length xs) flags → IsLeast (InSome (IsFlaggedAt rule flags) places) o → IsLeast (AtEach rule place xs P) o
flags_placed rule place xs P places flags o is h l =
    placed rule places place xs P P o is (λ k p. p) (λ k p. p)
    (flags_told rule places P flags o (subst (λ (n : ℕ). AreFlags P n flags) (sym (ap length is ∙ length-map xs place)) h) l)

pub keys_placed : {A : Type 0} (rule : Rule) (place : A → Place) (xs : List A) (places : List Place) (keys keys' : List (Option Key)) (o : Option Refusal)
    → places ≡ map place xs → keys ≡ keys' → IsLeast (AtEach rule (λ (p : Place). p) places (IsRepeated keys)) o → IsLeast (AtEach rule place xs (IsRepeated keys')) o
keys_placed rule place xs places keys keys' o is same l =
    placed rule places place xs (IsRepeated keys) (IsRepeated keys') o is
    (λ k r. subst (λ (ks : List (Option Key)). IsRepeated ks k) same r) (λ k r. subst (λ (ks : List (Option Key)). IsRepeated ks k) (sym same) r) l

-- flags by a test of each element
pub flags_mapped : {A : Type 0} (Q : A → Type 0) (test : A → Bool) (xs : List A) (flags : List Bool) → flags ≡ map test xs
    → ((x : A) → MatchBool (test x) (Q x) (Q x → ⊥)) → AreFlags (λ k. (x : A) × (slice_get xs k ≡ Some x) × Q x) (length xs) flags
flags_mapped {A = A} Q test xs flags is tells = record { each = ap length is ∙ length-map xs test; exact = λ k b e. exact k b (mapped_some test (slice_get xs k) b (sym (slice_get-map test xs k) ∙ (ap (λ (fs : List Bool). slice_get fs k) (sym is) ∙ e))) }
  where
    Here : ℕ → Type 0
    Here k = (x : A) × (slice_get xs k ≡ Some x) × Q x

    by : (k : ℕ) (x : A) → slice_get xs k ≡ Some x → (b : Bool) → test x ≡ b → MatchBool (test x) (Q x) (Q x → ⊥) → MatchBool b (Here k) (Here k → ⊥)
    by k x here true e m = (x, here, subst (λ (b : Bool). MatchBool b (Q x) (Q x → ⊥)) e m)
    by k x here false e m = λ (y, there, q). (subst (λ (b : Bool). MatchBool b (Q x) (Q x → ⊥)) e m) (subst Q (same_some (sym there ∙ here)) q)

    exact : (k : ℕ) (b : Bool) → (x : A) × (slice_get xs k ≡ Some x) × (test x ≡ b) → MatchBool b (Here k) (Here k → ⊥)
    exact k b (x, here, e) = by k x here b e (tells x)

nothing_told : (m : Meaning) → MatchBool (is_nothing m) (m ≡ meaning.Nothing) (m ≡ meaning.Nothing → ⊥)
nothing_told meaning.Nothing = refl
nothing_told meaning.Plain = differ
  where
    differ : meaning.Plain ≡ meaning.Nothing → ⊥
    differ e = cc
nothing_told (meaning.Typed k) = differ
  where
    differ : meaning.Typed k ≡ meaning.Nothing → ⊥
    differ e = cc

pub undefined_flags : (uses : List Use) (flags : List Bool) → flags ≡ map (λ (u : Use). is_nothing u.means) uses → AreFlags (IsUndefined uses) (length uses) flags
undefined_flags uses flags is = flags_mapped (λ (u : Use). u.means ≡ meaning.Nothing) (λ (u : Use). is_nothing u.means) uses flags is (λ u. nothing_told u.means)

-- flags of uses, by their places
pub value_flags : (items : List Item) (types : List (Option ℕ)) (uses : List Use) (n : ℕ) (flags : List Bool) → n ≡ length uses → AreUseFlags items types uses n flags
    → AreFlags (LacksValue items types uses) (length uses) flags
value_flags items types uses n flags s h = record { each = h.each ∙ s; exact = exact }
  where
    by : (k : ℕ) (x : Use) (b : Bool) → slice_get uses k ≡ Some x → MatchBool b (IsMisgiven items types x) (IsMisgiven items types x → ⊥)
        → MatchBool b (LacksValue items types uses k) (LacksValue items types uses k → ⊥)
    by k x true here m = (x, here, m)
    by k x false here m = λ (y, there, q). m (subst (λ (u : Use). IsMisgiven items types u) (same_some (sym there ∙ here)) q)

    exact : (k : ℕ) (b : Bool) → slice_get flags k ≡ Some b → MatchBool b (LacksValue items types uses k) (LacksValue items types uses k → ⊥)
    exact k b e =
        let w = slice_get_within flags k b e in
        let t = item_below uses k (omega (arith, w, h.each, s)) in by k t.0 b t.1 (h.exact k t.0 b t.1 e)

-- ---- what stands behind the name of the machine

before_later : (r s : Rule) (p q : Place) → IsBefore p q → NoLater (broken_at r p) (broken_at s q)
before_later r s p q (inl l) = inl l
before_later r s p q (inr (e, inl l)) = inr (e, inl l)
before_later r s p q (inr (e, inr (d, l))) = inr (e, inr (d, inl l))

module _ (place : Place) (f : Refusal) (r : Rule) (is : f ≡ broken_at r place) where
  each_later : {A : Type 0} (s : Rule) (at : A → Place) (xs : List A) (P : ℕ → Type 0) → AreBehind place at xs → (g : Refusal) → AtEach s at xs P g → NoLater f g
  each_later s at xs P h g (k, x, here, (e, q)) =
      subst (λ (a : Refusal). NoLater a g) (sym is) (subst (λ (b : Refusal). NoLater (broken_at r place) b) (sym e) (before_later r s place (at x) (h k x here)))

  ways_later : (items : List Item) → AreBehind place (λ (x : Item). x.place) items → (g : Refusal) → BrokenWays items g → NoLater f g
  ways_later items h g (inl t) = each_later _ _ items _ h g t
  ways_later items h g (inr (inl t)) = each_later _ _ items _ h g t
  ways_later items h g (inr (inr (inl t))) = each_later _ _ items _ h g t
  ways_later items h g (inr (inr (inr t))) = each_later _ _ items _ h g t

  repeated_later : (items : List Item) → AreBehind place (λ (x : Item). x.place) items → (g : Refusal) → RepeatedItems items g → NoLater f g
  repeated_later items h g (inl t) = each_later _ _ items _ h g t
  repeated_later items h g (inr (inl t)) = each_later _ _ items _ h g t
  repeated_later items h g (inr (inr (inl t))) = each_later _ _ items _ h g t
  repeated_later items h g (inr (inr (inr t))) = each_later _ _ items _ h g t

  uses_later : (items : List Item) (types : List (Option ℕ)) (uses : List Use) → AreBehind place (λ (u : Use). u.place) uses → (g : Refusal)
      → BrokenUses items types uses g → NoLater f g
  uses_later items types uses h g (inl t) = each_later _ _ uses _ h g t
  uses_later items types uses h g (inr t) = each_later _ _ uses _ h g t

  names_later : (items : List Item) → AreBehind place (λ (x : Item). x.place) items → (g : Refusal) → RepeatedNames items g → NoLater f g
  names_later items h g (inl t) = each_later _ _ items _ h g t
  names_later items h g (inr (inl t)) = each_later _ _ items _ h g t
  names_later items h g (inr (inr t)) = each_later _ _ items _ h g t

  pub inside_later : (m : LaidMachine) → place ≡ m.place → StandsFirst m → (g : Refusal) → BrokenInside m g → NoLater f g
  inside_later m same h g = go
    where
      items : AreBehind place (λ (x : Item). x.place) m.items
      items = subst (λ (p : Place). AreBehind p (λ (x : Item). x.place) m.items) (sym same) h.items

      uses : AreBehind place (λ (u : Use). u.place) m.uses
      uses = subst (λ (p : Place). AreBehind p (λ (u : Use). u.place) m.uses) (sym same) h.uses

      go : BrokenInside m g → NoLater f g
      go (inl (inl t)) = ways_later m.items items g t
      go (inl (inr (inl t))) = repeated_later m.items items g t
      go (inl (inr (inr t))) = names_later m.items items g t
      go (inr t) = uses_later m.items m.types m.uses uses g t

whole_place : (place : Place) (items : List Item) (f : Refusal) → BrokenAsWhole place items f → (r : Rule) × (f ≡ broken_at r place)
whole_place place items f (inl t) = (InitialCount, t.0)
whole_place place items f (inr t) = (MachineTooLarge, t.0)

-- what is broken as a whole is least
pub least_whole : (m : LaidMachine) (f : Refusal) → StandsFirst m → IsLeast (BrokenAsWhole m.place m.items) (Some f) → IsLeast (MachineBroken m) (Some f)
least_whole m f first l = record { holds = λ g e. inl (l.holds g e); least = least }
  where
    own : (r : Rule) × (f ≡ broken_at r m.place)
    own = whole_place m.place m.items f (l.holds f refl)

    least : (g : Refusal) → MachineBroken m g → IsSomeAnd (Some f) (λ h. NoLater h g)
    least g (inl t) = l.least g t
    least g (inr t) = inside_later m.place f own.0 own.1 m refl first g t

-- where nothing is, the least is inside
pub least_inside : (m : LaidMachine) (o : Option Refusal) → IsLeast (BrokenAsWhole m.place m.items) None → IsLeast (BrokenInside m) o → IsLeast (MachineBroken m) o
least_inside m o none l = record { holds = λ f e. inr (l.holds f e); least = least }
  where
    least : (g : Refusal) → MachineBroken m g → IsSomeAnd o (λ h. NoLater h g)
    least g (inl t) = absurd (none.least g t)
    least g (inr t) = l.least g t
