-- What is read of lists, one after another.
use Rattle.std.proofs.Common.{◌≡◌, ℕ, ◌+◌, ◌≤◌, List, [], ◌∷◌, ◌++◌, length, map, flat_map, take, slice_get, Option, Some, None, sym, ap, ◌∙◌, subst}
use Rattle.std.specs.List.{AllByRecursion}
use Rattle.std.proofs.lemmas.List.{append-nil, take_all}
use Rattle.std.proofs.lemmas.Grind.{flat_map-append}
use Rattle.std.specs.Option.{option_to_list}
use Rattle.fp_base.proofs.Lists.{each_before, each_behind, of_item, take_next}
use Rattle.fp_base.proofs.Mapped.{flat_next}
use Rattle.fp_base.specs.declared.value.Value.{Value}
use Rattle.fp_tree.specs.declared.source.Source.{Source}
use Rattle.fp_meaning.specs.declared.item.Item.{Item}
use Rattle.fp_meaning.specs.Layout as layout
use Rattle.fp_type_forms.specs.declared.resolving.Resolution.{Resolution}
use Rattle.fp_type_forms.specs.Resolved.{Takes}
use Rattle.fp_type_forms.specs.Written.{AllAt}
use Rattle.fp_type_forms.proofs.Adding.{parts_resolved}
use Rattle.fp_type_forms.proofs.Only.{all_joined}
use Rattle.fp_type_forms.proofs.Taking.{taken_as, taken_nothing, taken_then}
use Rattle.fp_component_forms.specs.Taken.{AreRead, Gives, IsGiven}
use Rattle.fp_component_forms.specs.Written.{ItemNamesStand}

-- what holds of all that a list gives holds of what each gives
pub each_given : {A B : Type 0} (P : B → Type 0) (f : A → List B) (xs : List A) → AllByRecursion P (flat_map f xs) → AllByRecursion (λ x. AllByRecursion P (f x)) xs
each_given P f [] h = tt
each_given P f (x ∷ xs) h = (each_before P (f x) (flat_map f xs) h, each_given P f xs (each_behind P (f x) (flat_map f xs) h))

pub each_of_map : {A B : Type 0} (P : B → Type 0) (f : A → B) (xs : List A) → AllByRecursion P (map f xs) → AllByRecursion (λ x. P (f x)) xs
each_of_map P f [] h = tt
each_of_map P f (x ∷ xs) h = (h.0, each_of_map P f xs h.1)

-- ---- parts

-- what the first so many give, where each of them is so
abbrev pub ReadsFirst : {A B : Type 0} → (List A → List B → Type 0) → (A → Type 0) → (A → List Item) → Source → List (Option Value) → List Resolution → List A → ℕ → ℕ → ℕ → List B → Type 0
ReadsFirst P S g source marks rs all k a b ys = Takes source marks rs (flat_map g (take k all)) a b (AllByRecursion S (take k all) → P (take k all) ys)

module _ {A B : Type 0} (P : List A → List B → Type 0) (nothing : P [] []) (joined : (xs us : List A) (ys vs : List B) → P xs ys → P us vs → P (xs ++ us) (ys ++ vs))
    (S : A → Type 0) (g : A → List Item) (source : Source) (marks : List (Option Value)) (rs : List Resolution) (all : List A) where
  pub none_read : (a b : ℕ) (ys : List B) → b ≡ a → ys ≡ [] → ReadsFirst P S g source marks rs all 0 a b ys
  none_read a b ys same is =
      subst (λ (n : ℕ). ReadsFirst P S g source marks rs all 0 a n ys) (sym same)
      (subst (λ (l : List B). ReadsFirst P S g source marks rs all 0 a a l) (sym is) (taken_nothing source marks rs a (λ s. nothing)))

  pub next_read : (k : ℕ) (x : A) (a b c : ℕ) (old new ws : List B) → slice_get all k ≡ Some x → new ≡ old ++ ws → ReadsFirst P S g source marks rs all k a b old
      → Takes source marks rs (g x) b c (S x → P (x ∷ []) ws) → ReadsFirst P S g source marks rs all (k + 1) a c new
  next_read k x a b c old new ws at is before here =
      let front = take k all in
      subst (λ (l : List Item). Takes source marks rs l a c (AllByRecursion S (take (k + 1) all) → P (take (k + 1) all) new)) (sym (flat_next g all k x at))
      (subst (λ (l : List A). Takes source marks rs (flat_map g front ++ g x) a c (AllByRecursion S l → P l new)) (sym (take_next all k x at))
      (taken_as source marks rs (flat_map g front ++ g x) a c
      (λ t s. subst (λ (l : List B). P (front ++ x ∷ []) l) (sym is)
      (joined front (x ∷ []) old ws (t.0 (each_before S front (x ∷ []) s)) (t.1 (each_behind S front (x ∷ []) s).0)))
      (taken_then source marks rs (flat_map g front) (g x) a b c before here)))

  pub all_read : (k a b : ℕ) (ys : List B) → length all ≤ k → ReadsFirst P S g source marks rs all k a b ys
      → Takes source marks rs (flat_map g all) a b (AllByRecursion S all → P all ys)
  all_read k a b ys past h = subst (λ (l : List A). Takes source marks rs (flat_map g l) a b (AllByRecursion S l → P l ys)) (take_all k all past) h

-- one for each
module _ {A B : Type 0} (R : A → B → Type 0) where
  abbrev pub EachIs : List A → List B → Type 0
  EachIs xs ys = AllAt (λ position. R) 0 xs ys

  pub each_joined : (xs us : List A) (ys vs : List B) → EachIs xs ys → EachIs us vs → EachIs (xs ++ us) (ys ++ vs)
  each_joined xs us ys vs h k = all_joined R 0 0 xs us ys vs h k

-- those that some are
module _ {A B : Type 0} (keep : A → List A) (R : A → B → Type 0) where
  abbrev pub KeptAre : List A → List B → Type 0
  KeptAre xs ys = AllAt (λ position. R) 0 (flat_map keep xs) ys

  pub kept_joined : (xs us : List A) (ys vs : List B) → KeptAre xs ys → KeptAre us vs → KeptAre (xs ++ us) (ys ++ vs)
  kept_joined xs us ys vs h k =
      subst (λ (l : List A). AllAt (λ position. R) 0 l (ys ++ vs)) (sym (flat_map-append keep xs us)) (all_joined R 0 0 (flat_map keep xs) (flat_map keep us) ys vs h k)

  pub kept_one : (x : A) (ys : List B) → AllAt (λ position. R) 0 (keep x) ys → KeptAre (x ∷ []) ys
  kept_one x ys h = subst (λ (l : List A). AllAt (λ position. R) 0 l ys) (sym (append-nil (keep x))) h

-- ---- items

abbrev pub GivesFirst : {A B : Type 0} → (Source → A → B → Type 0) → (Item → List A) → (Source → Type 0) → List (Option Value) → List Resolution → List Item → ℕ → List B → Type 0
GivesFirst R these_of P marks rs is k ws =
    (source : Source) → P source → AreRead source marks rs is → AllAt (λ position. R source) 0 (flat_map these_of (take k is)) ws

module _ {A B : Type 0} (R : Source → A → B → Type 0) (these_of : Item → List A) (P : Source → Type 0) (marks : List (Option Value)) (rs : List Resolution) where
  -- an item that gives nothing
  pub given_nothing : (start : ℕ) (i : Item) → these_of i ≡ [] → IsGiven R these_of P marks rs start i None
  given_nothing start i none source ready named h = subst (λ (l : List A). AllAt (λ position. R source) 0 l []) (sym none) tt

  module _ (is : List Item) where
    pub none_given : (ws : List B) → ws ≡ [] → GivesFirst R these_of P marks rs is 0 ws
    none_given ws e source ready read = subst (λ (l : List B). AllAt (λ position. R source) 0 [] l) (sym e) tt

    pub next_given : (k : ℕ) (i : Item) (old new : List B) (one : Option B) → slice_get is k ≡ Some i → new ≡ old ++ option_to_list one → GivesFirst R these_of P marks rs is k old
        → IsGiven R these_of P marks rs (k + 1) i one → GivesFirst R these_of P marks rs is (k + 1) new
    next_given k i old new one at made before here source ready read =
        let named : ItemNamesStand source i =
        of_item (ItemNamesStand source) (layout.items source) k i read.named (ap (λ (l : List Item). slice_get l k) (sym read.laid) ∙ at) in
        subst (λ (l : List A). AllAt (λ position. R source) 0 l new) (sym (flat_next these_of is k i at))
        (subst (λ (l : List B). AllAt (λ position. R source) 0 (flat_map these_of (take k is) ++ these_of i) l) (sym made)
        (all_joined (R source) 0 0 (flat_map these_of (take k is)) (these_of i) old (option_to_list one) (before source ready read)
        (here source ready named (parts_resolved source marks rs is k i read.laid at read.resolved))))

    pub all_given : (k : ℕ) (ws : List B) → length is ≤ k → GivesFirst R these_of P marks rs is k ws → Gives R these_of P marks rs is ws
    all_given k ws past h source ready read =
        subst (λ (l : List Item). AllAt (λ position. R source) 0 (flat_map these_of l) ws) (take_all k is past ∙ read.laid) (h source ready read)
