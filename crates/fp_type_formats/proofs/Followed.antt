-- A type is followed by the sorts of the definitions exactly where it ends as no integer type.
use Rattle.std.specs.Prelude.{flat_map}
use Rattle.std.proofs.lemmas.Grind.{flat_map-append}
use Rattle.std.proofs.lemmas.List.{take_all}
use Rattle.fp_base.proofs.Lists.{take_next}
use Rattle.std.proofs.Common.{◌≡◌, ℕ, zero, suc, ◌+◌, ◌≤◌, ◌<◌, ◌-◌, append-nil, length, take, Bool, true, false, MatchBool, cond, List, [], ◌∷◌, ◌++◌, slice_get, Option, Some, None, refl, sym, ◌∙◌, ap, subst, arith}
use Rattle.fp_base.proofs.Options.{same_some}
use Rattle.fp_base.proofs.Bools.{not_both}
use Rattle.fp_tree.specs.declared.definition.Def.{Def}
use Rattle.fp_tree.specs.declared.definition.Def.TheVariants as def
use Rattle.fp_tree.specs.declared.name.Qual.{Qual}
use Rattle.fp_tree.specs.declared.type_name.TypeForm.{TypeForm}
use Rattle.fp_tree.specs.declared.type_name.TypeForm.TheVariants as type
use Rattle.fp_meaning.specs.declared.group.Group.TheVariants.{Kind}
use Rattle.fp_meaning.specs.declared.item.Item.{Item}
use Rattle.fp_meaning.specs.declared.names.Definition.{Definition}
use Rattle.fp_meaning.specs.Meaning.{Means}
use Rattle.fp_meaning.specs.Names.{Path, definitions_of}
use Rattle.fp_meaning.specs.Sites.{Site}
use Rattle.fp_meaning.specs.Values.{names_of}
use Rattle.fp_meaning.proofs.Meanings.{one_meaning}
use Rattle.fp_type_formats.specs.declared.sorts.Sort.{Sort}
use Rattle.fp_type_formats.specs.declared.sorts.Sort.TheVariants as sort
use Rattle.fp_type_formats.specs.Integers.{NamesNoInteger, StandsAt, by_word, by_definition, by_alias, is_other_definition, is_other_word, sites_of}
use Rattle.fp_type_formats.specs.Sorted.{AreFound, AreSorts, IsSortOfDefinition, IsSortOfName, IsSortOfSite, IsSortOfUse, definition_sort, ends_other, sort_if, word_sort}

-- ---- the list of sorts

module _ (ds : List Definition) where
  pub sorts_more : (os qs : List (Option Site)) (ss ts : List Sort) → AreSorts ds os ss → AreSorts ds qs ts → AreSorts ds (os ++ qs) (ss ++ ts)
  sorts_more [] qs [] ts h k = k
  sorts_more [] qs (s ∷ ss) ts h k = absurd h
  sorts_more (o ∷ os) qs [] ts h k = absurd h
  sorts_more (o ∷ os) qs (s ∷ ss) ts h k = (h.0, sorts_more os qs ss ts h.1 k)

  sort_there : (os : List (Option Site)) (ss : List Sort) (n : ℕ) (o : Option Site) → AreSorts ds os ss → slice_get os n ≡ Some o → (s : Sort) × (slice_get ss n ≡ Some s) × IsSortOfSite ds o s
  sort_there [] [] n o h at = absurd (cc)
  sort_there [] (s ∷ ss) n o h at = absurd h
  sort_there (p ∷ os) [] n o h at = absurd h
  sort_there (p ∷ os) (s ∷ ss) zero o h at = (s, refl, subst (λ (x : Option Site). IsSortOfSite ds x s) (same_some at) h.0)
  sort_there (p ∷ os) (s ∷ ss) (suc n) o h at = sort_there os ss n o h.1 at

  site_there : (os : List (Option Site)) (ss : List Sort) (n : ℕ) (s : Sort) → AreSorts ds os ss → slice_get ss n ≡ Some s → (o : Option Site) × (slice_get os n ≡ Some o) × IsSortOfSite ds o s
  site_there [] [] n s h at = absurd (cc)
  site_there [] (t ∷ ss) n s h at = absurd h
  site_there (o ∷ os) [] n s h at = absurd h
  site_there (o ∷ os) (t ∷ ss) zero s h at = (o, refl, subst (λ (x : Sort). IsSortOfSite ds o x) (same_some at) h.0)
  site_there (o ∷ os) (t ∷ ss) (suc n) s h at = site_there os ss n s h.1 at

-- ---- words and definitions

module _ (ds : List Definition) (scope : Path) where
  word_ends : (n : ℕ) (ss : List Sort) (t : TypeForm) (s : Sort) → is_other_word t ≡ true → IsSortOfName ds scope t s → ends_other n ss s ≡ true
  word_ends n ss (type.Use q) s e h = absurd (cc)
  word_ends n ss t s e h = ap (ends_other n ss) (h ∙ ap (λ (b : Bool). cond b sort.Other sort.Integer) e)

  other_sort : (d : Def) (s : Sort) → is_other_definition d ≡ true → IsSortOfDefinition ds scope d s → s ≡ sort.Other
  other_sort (def.Alias d) s e h = absurd (cc)
  other_sort d s e h = h ∙ ap (λ (b : Bool). cond b sort.Other sort.Nothing) e

no_integer : {A : Type 0} (n : ℕ) (ss : List Sort) (s : Sort) → s ≡ sort.Integer → ends_other n ss s ≡ true → A
no_integer n ss s is e = not_both e (ap (ends_other n ss) is)

not_nothing : {A : Type 0} (n : ℕ) (ss : List Sort) (s : Sort) → s ≡ sort.Nothing → ends_other n ss s ≡ true → A
not_nothing n ss s is e = not_both e (ap (ends_other n ss) is)

module _ (is : List Item) (ss : List Sort) (sorted : AreSorts (flat_map definitions_of is) (flat_map sites_of is) ss) where
  abbrev ds : List Definition
  ds = flat_map definitions_of is

  abbrev os : List (Option Site)
  os = flat_map sites_of is

  -- ---- what is followed ends so

  by_a_word : (n : ℕ) (scope : Path) (t : TypeForm) (s : Sort) → s ≡ word_sort t → ends_other n ss s ≡ true → NamesNoInteger is n scope t
  by_a_word n scope t s k e = go (is_other_word t) refl
    where
      go : (b : Bool) → is_other_word t ≡ b → NamesNoInteger is n scope t
      go true f = by_word f
      go false f = no_integer n ss s (k ∙ ap (λ (b : Bool). cond b sort.Other sort.Integer) f) e

  module _ (n : ℕ) (scope : Path) (q : Qual) (number : ℕ) (means : Means ds scope (names_of q) Kind number) where
    by_a_definition : (x : Site) → StandsAt is number x → (d : Def) → x.definition ≡ d → (s : Sort) → s ≡ definition_sort d → ends_other n ss s ≡ true → NamesNoInteger is (suc n) scope (type.Use q)
    by_a_definition x stands d same s k e = go (is_other_definition d) refl
      where
        go : (b : Bool) → is_other_definition d ≡ b → NamesNoInteger is (suc n) scope (type.Use q)
        go true f = by_definition number x means stands (ap is_other_definition same ∙ f)
        go false f = not_nothing n ss s (k ∙ ap (λ (b : Bool). cond b sort.Other sort.Nothing) f) e

    through : (x : Site) → StandsAt is number x → (d : Def) → x.definition ≡ d → (s : Sort) → IsSortOfDefinition ds x.scope d s → ends_other n ss s ≡ true
        → ((t : TypeForm) → IsSortOfName ds x.scope t s → NamesNoInteger is n x.scope t) → NamesNoInteger is (suc n) scope (type.Use q)
    through x stands (def.Alias d) same s k e rest = by_alias number x d means stands same (rest d.target.form k)
    through x stands d same s k e rest = by_a_definition x stands d same s k e

    at_site : (o : Option Site) → slice_get os number ≡ Some o → (s : Sort) → IsSortOfSite ds o s → ends_other n ss s ≡ true
        → ((path : Path) (t : TypeForm) → IsSortOfName ds path t s → NamesNoInteger is n path t) → NamesNoInteger is (suc n) scope (type.Use q)
    at_site None at s k e rest = not_nothing n ss s k e
    at_site (Some x) at s k e rest = through x at x.definition refl s k e (rest x.scope)

    at_sort : (o : Option Sort) → slice_get ss number ≡ o → ends_other n ss (sort_if o) ≡ true
        → ((s : Sort) (path : Path) (t : TypeForm) → IsSortOfName ds path t s → ends_other n ss s ≡ true → NamesNoInteger is n path t) → NamesNoInteger is (suc n) scope (type.Use q)
    at_sort None at e rest = not_both e (nothing_ends n)
      where
        nothing_ends : (m : ℕ) → ends_other m ss sort.Nothing ≡ false
        nothing_ends m = refl
    at_sort (Some s) at e rest =
        let t = site_there ds os ss number s sorted at in
        at_site t.0 t.1 s t.2 e (λ path u k. rest s path u k e)

  abbrev Follows : ℕ → Type 0
  Follows n = (scope : Path) (t : TypeForm) (s : Sort) → IsSortOfName ds scope t s → ends_other n ss s ≡ true → NamesNoInteger is n scope t

  follow_use : (n : ℕ) (scope : Path) (q : Qual) (s : Sort) → IsSortOfUse ds scope q s → ends_other n ss s ≡ true → ((m : ℕ) → n ≡ suc m → Follows m) → NamesNoInteger is n scope (type.Use q)
  follow_use zero scope q (sort.Named number) k e rest = absurd (cc)
  follow_use (suc n) scope q (sort.Named number) k e rest = at_sort n scope q number k (slice_get ss number) refl e (λ s path t l f. rest n refl path t s l f)
  follow_use n scope q sort.Nothing k e rest = not_both e refl
  follow_use n scope q sort.Integer k e rest = absurd k
  follow_use n scope q sort.Other k e rest = absurd k

  follow_name : (n : ℕ) → ((m : ℕ) → n ≡ suc m → Follows m) → (scope : Path) (t : TypeForm) (s : Sort) → IsSortOfName ds scope t s → ends_other n ss s ≡ true → NamesNoInteger is n scope t
  follow_name n rest scope (type.Use q) s k e = follow_use n scope q s k e rest
  follow_name n rest scope t s k e = by_a_word n scope t s k e

  follow : (n : ℕ) → Follows n
  follow zero = follow_name zero (λ m e. absurd (cc))
  follow (suc n) = follow_name (suc n) (λ m e. let same : n ≡ m = cc in subst (λ (x : ℕ). Follows x) same (follow n))

  -- ---- what ends so is followed

  found_at : (n : ℕ) (scope : Path) (q : Qual) (number : ℕ) → Means ds scope (names_of q) Kind number → (x : Site) → StandsAt is number x
      → ((s : Sort) → IsSortOfDefinition ds x.scope x.definition s → ends_other n ss s ≡ true) → (s : Sort) → IsSortOfUse ds scope q s → ends_other (suc n) ss s ≡ true
  found_at n scope q number means x stands rest (sort.Named m) k =
      let same : m ≡ number = one_meaning ds scope (names_of q) Kind m number k means in
      let t = sort_there ds os ss number (Some x) sorted stands in
      ap (λ (o : Option Sort). ends_other n ss (sort_if o)) (ap (slice_get ss) same ∙ t.1) ∙ rest t.0 t.2
  found_at n scope q number means x stands rest sort.Nothing k = absurd (k number means)
  found_at n scope q number means x stands rest sort.Integer k = absurd k
  found_at n scope q number means x stands rest sort.Other k = absurd k

  ended : {n : ℕ} {scope : Path} {t : TypeForm} → NamesNoInteger is n scope t → (s : Sort) → IsSortOfName ds scope t s → ends_other n ss s ≡ true
  ended {n = n} {scope = scope} {t = t} (by_word e) s k = word_ends ds scope n ss t s e k
  ended {scope = scope} (by_definition {n = n} {q = q} number x means stands other) s k =
      found_at n scope q number means x stands (λ r l. ap (ends_other n ss) (other_sort ds x.scope x.definition r other l)) s k
  ended {scope = scope} (by_alias {n = n} {q = q} number x d means stands same rest) s k =
      found_at n scope q number means x stands (λ r l. ended rest r (subst (λ (y : Def). IsSortOfDefinition ds x.scope y r) same l)) s k

-- both, of what the code has
module _ (is : List Item) (names : List Definition) (ss : List Sort) (found : AreFound is names ss) (n : ℕ) (scope : Path) (t : TypeForm) (s : Sort) (k : IsSortOfName names scope t s) where
  sorted_here : AreSorts (flat_map definitions_of is) (flat_map sites_of is) ss
  sorted_here = subst (λ (l : List Definition). AreSorts l (flat_map sites_of is) ss) found.names found.sorts

  sort_here : IsSortOfName (flat_map definitions_of is) scope t s
  sort_here = subst (λ (l : List Definition). IsSortOfName l scope t s) found.names k

  yes_other : ends_other n ss s ≡ true → NamesNoInteger is n scope t
  yes_other e = follow is ss sorted_here n scope t s sort_here e

  no_other : ends_other n ss s ≡ false → NamesNoInteger is n scope t → ⊥
  no_other e h = not_both (ended is ss sorted_here h s sort_here) e

  pub told : (b : Bool) → b ≡ ends_other n ss s → MatchBool b (NamesNoInteger is n scope t) (NamesNoInteger is n scope t → ⊥)
  told true e = yes_other (sym e)
  told false e = no_other (sym e)

-- one step less
pub step_less : (n : ℕ) (ss : List Sort) (number : ℕ) → 0 < n → ends_other n ss (sort.Named number) ≡ ends_other (n - 1) ss (sort_if (slice_get ss number))
step_less zero ss number h = absurd (omega (arith, h))
step_less (suc n) ss number h = let e : n ≡ suc n - 1 = omega arith in ap (λ (m : ℕ). ends_other m ss (sort_if (slice_get ss number))) e

-- ---- the sorts of items, one after another

module _ (ds : List Definition) where
  pub add_site : (i : Item) (o : Option Site) (x : Sort) (old new : List Sort) → sites_of i ≡ o ∷ [] → IsSortOfSite ds o x → new ≡ old ++ x ∷ []
      → (before : List (Option Site)) → AreSorts ds before old → AreSorts ds (before ++ sites_of i) new
  add_site i o x old new is h e before k =
      subst (λ (qs : List (Option Site)). AreSorts ds (before ++ qs) new) (sym is) (subst (AreSorts ds (before ++ o ∷ [])) (sym e) (sorts_more ds before (o ∷ []) old (x ∷ []) k (h, tt)))

  pub sorts_next : (items : List Item) (k : ℕ) (i : Item) (ss : List Sort) → slice_get items k ≡ Some i → AreSorts ds (flat_map sites_of (take k items) ++ sites_of i) ss
      → AreSorts ds (flat_map sites_of (take (k + 1) items)) ss
  sorts_next items k i ss at h =
      let split : flat_map sites_of (take (k + 1) items) ≡ flat_map sites_of (take k items) ++ sites_of i
      = ap (flat_map sites_of) (take_next items k i at) ∙ flat_map-append sites_of (take k items) (i ∷ []) ∙ ap (λ (l : List (Option Site)). flat_map sites_of (take k items) ++ l) (append-nil (sites_of i)) in
      subst (λ (l : List (Option Site)). AreSorts ds l ss) (sym split) h

  pub sorts_whole : (items : List Item) (k : ℕ) (ss : List Sort) → length items ≤ k → AreSorts ds (flat_map sites_of (take k items)) ss → AreSorts ds (flat_map sites_of items) ss
  sorts_whole items k ss past h = subst (λ (l : List Item). AreSorts ds (flat_map sites_of l) ss) (take_all k items past) h
