-- What a look-up finds in a tree of names.
use Rattle.std.proofs.Common.{◌≡◌, ℕ, ◌<◌, ◌⊎◌, List, [], ◌∷◌, ◌++◌, length, slice_get, Option, Some, None, MatchOption, inl, inr, refl, sym, ap, subst, ◌∙◌, arith}
use Rattle.std.proofs.lemmas.List.{length-append, append-nil}
use Rattle.fp_base.proofs.Options.{same_some}
use Rattle.fp_meaning.specs.declared.group.Group.{Group}
use Rattle.fp_meaning.specs.declared.names.Definition.{Definition}
use Rattle.fp_meaning.specs.Names.{Path}
use Rattle.fp_meaning.specs.Meaning.{IsNamed, IsKnown, IsScopeOf, Means}
use Rattle.fp_meaning.proofs.Meanings.{same_start, neither_less}
use Rattle.fp_names.specs.declared.tree.Node.{Node}
use Rattle.fp_names.specs.Tree.{root, step, meaning_at, Spot, spot, IsTree, IsPart, IsTable, SaysFirst, onward, onward_or, or_of, walk, longest, looked_up}
use Rattle.fp_names.proofs.Growing.{none_some}
use Rattle.fp_names.proofs.Lists.{not_nil, snoc_more, split_last, split_more}

module _ (nodes : List Node) (spots : List Spot) (tree : IsTree nodes spots) (g : Group) where
  -- where the names lead stands for the names that they lead to
  pub walk_sound : (n j : ℕ) (p ts : Path) → slice_get spots n ≡ Some (spot g p) → walk nodes n ts ≡ Some j → slice_get spots j ≡ Some (spot g (p ++ ts))
  walk_sound n j p [] e w = subst (λ (i : ℕ). slice_get spots i ≡ Some (spot g (p ++ []))) (same_some w) (e ∙ ap (λ (q : Path). Some (spot g q)) (sym (append-nil p)))
  walk_sound n j p (t ∷ ts) e w = go (λ to a b. walk_sound to j (p ++ t ∷ []) ts a b) (step nodes n t) refl
    where
      go : ((to : ℕ) → slice_get spots to ≡ Some (spot g (p ++ t ∷ [])) → walk nodes to ts ≡ Some j → slice_get spots j ≡ Some (spot g ((p ++ t ∷ []) ++ ts)))
          → (o : Option ℕ) → step nodes n t ≡ o → slice_get spots j ≡ Some (spot g (p ++ t ∷ ts))
      go further None s = let f : None ≡ Some j = sym (ap (onward (λ to. walk nodes to ts)) s) ∙ w in cc
      go further (Some to) s =
          let f : walk nodes to ts ≡ Some j = sym (ap (onward (λ i. walk nodes i ts)) s) ∙ w in
          further to (tree.follows n to g p t e s) f ∙ ap (λ (q : Path). Some (spot g q)) (snoc_more p ts t)

  pub walk_full : (n j : ℕ) (p ts : Path) → slice_get spots n ≡ Some (spot g p) → slice_get spots j ≡ Some (spot g (p ++ ts)) → walk nodes n ts ≡ Some j
  walk_full n j p [] e f = ap (λ (i : ℕ). Some i) (tree.single n j (spot g p) e (f ∙ ap (λ (q : Path). Some (spot g q)) (append-nil p)))
  walk_full n j p (t ∷ ts) e f =
      let whole : slice_get spots j ≡ Some (spot g ((p ++ t ∷ []) ++ ts)) = f ∙ ap (λ (q : Path). Some (spot g q)) (sym (snoc_more p ts t)) in
      let to = tree.closed j g (p ++ t ∷ []) ts whole in
      let s = tree.leads n to.0 g p t e to.1 in
      ap (onward (λ i. walk nodes i ts)) s ∙ walk_full to.0 j (p ++ t ∷ []) ts to.1 whole

  -- the best of the names that begin those that are done
  pub record IsBest (name : List ℕ) (done : Path) (best : Option ℕ) : Type 0 where
    pub holds : (b : ℕ) → best ≡ Some b → (prefix rest : Path) × (done ≡ prefix ++ rest) × (slice_get spots b ≡ Some (spot g (prefix ++ name ∷ [])))
        × ((longer more : Path) (j : ℕ) → done ≡ longer ++ more → length prefix < length longer → slice_get spots j ≡ Some (spot g (longer ++ name ∷ [])) → ⊥)
    pub none : (prefix rest : Path) (j : ℕ) → best ≡ None → done ≡ prefix ++ rest → slice_get spots j ≡ Some (spot g (prefix ++ name ∷ [])) → ⊥

  module _ (name : List ℕ) where
    best_same : (a b : Path) (best : Option ℕ) → a ≡ b → IsBest name a best → IsBest name b best
    best_same a b best e i = subst (λ (q : Path). IsBest name q best) e i

    -- at the root
    pub best_first : IsBest name [] (step nodes (root g) name)
    best_first = record {
      holds = λ b e. ([], [], refl, tree.follows (root g) b g [] name (tree.roots g) e, λ longer more j d l f. too_long longer more d l);
      none = λ prefix rest j e d f. missing prefix rest j d e f;
    }
      where
        too_long : (longer more : Path) → [] ≡ longer ++ more → 0 < length longer → ⊥
        too_long [] more d l = omega arith
        too_long (x ∷ longer) more d l = cc

        missing : (prefix rest : Path) (j : ℕ) → [] ≡ prefix ++ rest → step nodes (root g) name ≡ None → slice_get spots j ≡ Some (spot g (prefix ++ name ∷ [])) → ⊥
        missing [] rest j d e f = let s = tree.leads (root g) j g [] name (tree.roots g) f in let c : None ≡ Some j = sym e ∙ s in cc
        missing (x ∷ prefix) rest j d e f = cc

    -- no further name leads on
    best_stops : (at : ℕ) (done ts : Path) (t : List ℕ) (best : Option ℕ) → slice_get spots at ≡ Some (spot g done) → step nodes at t ≡ None → IsBest name done best → IsBest name (done ++ t ∷ ts) best
    best_stops at done ts t best e s i = record {
      holds = λ b f. let h = i.holds b f in (
        h.0,
        h.1 ++ t ∷ ts,
        through (h.0) (h.1) h.2,
        h.3,
        λ longer more j d l k. elim (parts longer more d) [
          | inl m ↦ h.4 longer m.0 j m.1 l k
          | inr m ↦ beyond longer m.0 j m.1 k
        ],
      );
      none = λ prefix rest j f d k. elim (parts prefix rest d) [
        | inl m ↦ i.none prefix m.0 j f m.1 k
        | inr m ↦ beyond prefix m.0 j m.1 k
      ];
    }
      where
        append_parts : (a b c : Path) → (a ++ b) ++ c ≡ a ++ (b ++ c)
        append_parts [] b c = refl
        append_parts (x ∷ a) b c = ap (λ (q : Path). x ∷ q) (append_parts a b c)

        through : (a b : Path) → done ≡ a ++ b → done ++ t ∷ ts ≡ a ++ (b ++ t ∷ ts)
        through a b d = ap (λ (q : Path). q ++ t ∷ ts) d ∙ append_parts a b (t ∷ ts)

        parts : (q r : Path) → done ++ t ∷ ts ≡ q ++ r → ((more : Path) × (done ≡ q ++ more)) ⊎ ((more : Path) × (q ≡ (done ++ t ∷ []) ++ more))
        parts q r d = split_more q r done t ts (sym d)

        beyond : (q more : Path) (j : ℕ) → q ≡ (done ++ t ∷ []) ++ more → slice_get spots j ≡ Some (spot g (q ++ name ∷ [])) → ⊥
        beyond q more j d k =
            let whole : slice_get spots j ≡ Some (spot g ((done ++ t ∷ []) ++ (more ++ name ∷ []))) =
            k ∙ ap (λ (x : Path). Some (spot g x)) (ap (λ (x : Path). x ++ name ∷ []) d ∙ append_parts (done ++ t ∷ []) more (name ∷ [])) in
            let to = tree.closed j g (done ++ t ∷ []) (more ++ name ∷ []) whole in
            let c : None ≡ Some to.0 = sym s ∙ tree.leads at to.0 g done t e to.1 in
            cc

    -- one name further
    best_next : (to : ℕ) (done : Path) (t : List ℕ) (best here : Option ℕ) → slice_get spots to ≡ Some (spot g (done ++ t ∷ [])) → step nodes to name ≡ here → IsBest name done best
        → IsBest name (done ++ t ∷ []) (or_of here best)
    best_next to done t best (Some b) e s i = record {
      holds = λ c f. (
        done ++ t ∷ [],
        [],
        sym (append-nil (done ++ t ∷ [])),
        subst (λ (x : ℕ). slice_get spots x ≡ Some (spot g ((done ++ t ∷ []) ++ name ∷ []))) (same_some f) (tree.follows to b g (done ++ t ∷ []) name e s),
        λ longer more j d l k. let a = ap length d in let b = length-append longer more in omega arith,
      );
      none = λ prefix rest j f d k. cc;
    }
    best_next to done t best None e s i = record {
      holds = λ b f. let h = i.holds b f in (
        h.0,
        h.1 ++ t ∷ [],
        through h.0 h.1 h.2,
        h.3,
        λ longer more j d l k. elim (split_last longer more done t (sym d)) [
          | inl m ↦ h.4 longer m.0 j m.1 l k
          | inr m ↦ whole longer j m.1 k
        ],
      );
      none = λ prefix rest j f d k. elim (split_last prefix rest done t (sym d)) [
        | inl m ↦ i.none prefix m.0 j f m.1 k
        | inr m ↦ whole prefix j m.1 k
      ];
    }
      where
        append_parts : (a b c : Path) → (a ++ b) ++ c ≡ a ++ (b ++ c)
        append_parts [] b c = refl
        append_parts (x ∷ a) b c = ap (λ (q : Path). x ∷ q) (append_parts a b c)

        through : (a b : Path) → done ≡ a ++ b → done ++ t ∷ [] ≡ a ++ (b ++ t ∷ [])
        through a b d = ap (λ (q : Path). q ++ t ∷ []) d ∙ append_parts a b (t ∷ [])

        whole : (q : Path) (j : ℕ) → q ≡ done ++ t ∷ [] → slice_get spots j ≡ Some (spot g (q ++ name ∷ [])) → ⊥
        whole q j d k =
            let c : None ≡ Some j = sym s ∙ tree.leads to j g (done ++ t ∷ []) name e (k ∙ ap (λ (x : Path). Some (spot g (x ++ name ∷ []))) d) in
            cc

    pub best_longest : (at : ℕ) (done ts : Path) (best : Option ℕ) → slice_get spots at ≡ Some (spot g done) → IsBest name done best → IsBest name (done ++ ts) (longest nodes name at best ts)
    best_longest at done [] best e i = best_same done (done ++ []) best (sym (append-nil done)) i
    best_longest at done (t ∷ ts) best e i = go (λ to b a h. best_longest to (done ++ t ∷ []) ts b a h) (step nodes at t) refl
      where
        go : ((to : ℕ) (b : Option ℕ) → slice_get spots to ≡ Some (spot g (done ++ t ∷ [])) → IsBest name (done ++ t ∷ []) b → IsBest name ((done ++ t ∷ []) ++ ts) (longest nodes name to b ts))
            → (o : Option ℕ) → step nodes at t ≡ o → IsBest name (done ++ t ∷ ts) (onward_or best (λ to. longest nodes name to (or_of (step nodes to name) best) ts) o)
        go further None s = best_stops at done ts t best e s i
        go further (Some to) s =
            let there = tree.follows at to g done t e s in
            best_same ((done ++ t ∷ []) ++ ts) (done ++ t ∷ ts) _ (snoc_more done ts t)
            (further to (or_of (step nodes to name) best) there (best_next to done t best (step nodes to name) there refl i))

-- the number, where there is one, is what the use means
abbrev pub IsMeant : List Definition → Path → Path → Group → Option ℕ → Type 0
IsMeant ds scope name g o = MatchOption o ((k : ℕ) → Means ds scope name g k → ⊥) (λ k. Means ds scope name g k)

first_is : (a b : List ℕ) (p q : Path) → a ∷ p ≡ b ∷ q → b ≡ a
first_is a b p q e = cc

module _ (ds : List Definition) (nodes : List Node) (spots : List Spot) (part : IsPart ds ds nodes spots) (g : Group) (scope : Path) (first : List ℕ) (others : Path) where
  known_of : (k : ℕ) (m : Means ds scope (first ∷ others) g k) → IsKnown ds g (m.prefix ++ first ∷ [])
  known_of k m = subst (λ (x : List ℕ). IsKnown ds g (m.prefix ++ x ∷ [])) (first_is first m.first others m.others m.names) m.found.known

  none_found : (best : Option ℕ) → best ≡ None → IsBest nodes spots part.tree g first scope best → (k : ℕ) → Means ds scope (first ∷ others) g k → ⊥
  none_found best e i k m =
      let at = part.found g (m.prefix ++ first ∷ []) (known_of k m) in
      i.none m.prefix m.found.rest at.0 e m.found.within at.1

  module _ (b : ℕ) (prefix rest : Path) (within : scope ≡ prefix ++ rest) (here : slice_get spots b ≡ Some (spot g (prefix ++ first ∷ [])))
      (most : (longer more : Path) (j : ℕ) → scope ≡ longer ++ more → length prefix < length longer → slice_get spots j ≡ Some (spot g (longer ++ first ∷ [])) → ⊥) where
    scope_of : IsScopeOf ds scope g first prefix
    scope_of = record {
      rest = rest;
      within = within;
      known = elim (part.known b g (prefix ++ first ∷ []) here) [ inl n ↦ absurd (not_nil prefix first n) | inr k ↦ k ];
      longest = λ longer more d l k. let at = part.found g (longer ++ first ∷ []) k in most longer more at.0 d l at.1;
    }

    same_prefix : (k : ℕ) (m : Means ds scope (first ∷ others) g k) → m.prefix ≡ prefix
    same_prefix k m =
        let at = part.found g (m.prefix ++ first ∷ []) (known_of k m) in
        let back = subst (λ (x : List ℕ). IsKnown ds g (prefix ++ x ∷ [])) (sym (first_is first m.first others m.others m.names)) scope_of.known in
        let a : length prefix < length m.prefix → ⊥ = λ l. most m.prefix m.found.rest at.0 m.found.within l at.1 in
        let c : length m.prefix < length prefix → ⊥ = λ l. m.found.longest prefix rest within l back in
        same_start m.prefix m.found.rest prefix rest (sym m.found.within ∙ within) (neither_less (length m.prefix) (length prefix) a c)

    named_at : (k : ℕ) (m : Means ds scope (first ∷ others) g k) → IsNamed ds g (prefix ++ (first ∷ others)) k
    named_at k m = subst (λ (x : Path). IsNamed ds g (x ++ (first ∷ others)) k) (same_prefix k m) m.meant.named

    no_node : walk nodes b others ≡ None → (k : ℕ) → Means ds scope (first ∷ others) g k → ⊥
    no_node w k m =
        let n = subst (λ (x : Path). IsNamed ds g x k) (sym (append-nil (prefix ++ (first ∷ others)))) (named_at k m) in
        let at = part.found g (prefix ++ (first ∷ others)) (k, [], n) in
        let full = walk_full nodes spots part.tree g b at.0 (prefix ++ first ∷ []) others here (at.1 ∙ ap (λ (x : Path). Some (spot g x)) (sym (snoc_more prefix others first))) in
        none_some w full

    node_says : (n : ℕ) → walk nodes b others ≡ Some n → SaysFirst ds g (prefix ++ (first ∷ others)) (meaning_at nodes n)
    node_says n w =
        part.says n g (prefix ++ (first ∷ others))
        (walk_sound nodes spots part.tree g b n (prefix ++ first ∷ []) others here w ∙ ap (λ (x : Path). Some (spot g x)) (snoc_more prefix others first))

    by_meaning : (o : Option ℕ) → SaysFirst ds g (prefix ++ (first ∷ others)) o → IsMeant ds scope (first ∷ others) g o
    by_meaning None s = λ k m. s.none k refl (named_at k m)
    by_meaning (Some k) s = record { first = first; others = others; names = refl; prefix = prefix; found = scope_of; meant = s.holds k refl }

    by_node : (w : Option ℕ) → walk nodes b others ≡ w → IsMeant ds scope (first ∷ others) g (onward (meaning_at nodes) w)
    by_node None w = no_node w
    by_node (Some n) w = by_meaning (meaning_at nodes n) (node_says n w)

  by_best : (best : Option ℕ) → IsBest nodes spots part.tree g first scope best → IsMeant ds scope (first ∷ others) g (onward (λ b. onward (meaning_at nodes) (walk nodes b others)) best)
  by_best None i = none_found None refl i
  by_best (Some b) i = let h = i.holds b refl in by_node b h.0 h.1 h.2 h.3 h.4 (walk nodes b others) refl

-- it is what the use means
pub finds : (ds : List Definition) (nodes : List Node) (g : Group) (scope : Path) (first : List ℕ) (others : Path) → IsTable ds nodes
    → MatchOption (looked_up nodes g scope first others) ((k : ℕ) → Means ds scope (first ∷ others) g k → ⊥) (λ k. Means ds scope (first ∷ others) g k)
finds ds nodes g scope first others table =
    by_best ds nodes table.0 table.1 g scope first others _
    (best_longest nodes table.0 table.1.tree g first (root g) [] scope (step nodes (root g) first) (table.1.tree.roots g) (best_first nodes table.0 table.1.tree g first))
