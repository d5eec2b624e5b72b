-- How many definitions of a group stand before each definition.
use Rattle.std.proofs.Common.{◌≡◌, Bool, cond, ℕ, zero, suc, ◌+◌, ◌≤◌, List, [], ◌∷◌, ◌++◌, length, flat_map, take, slice_get, Some, refl, sym, ap, ◌∙◌, subst, arith}
use Rattle.std.proofs.lemmas.List.{append-nil, take_all}
use Rattle.std.proofs.lemmas.Grind.{flat_map-append}
use Rattle.fp_base.proofs.Lists.{take_next}
use Rattle.fp_tree.specs.declared.source.Source.{Source}
use Rattle.fp_meaning.specs.declared.group.Group.{Group}
use Rattle.fp_meaning.specs.declared.item.Item.{Item}
use Rattle.fp_meaning.specs.declared.names.Definition.{Definition}
use Rattle.fp_meaning.specs.Layout as layout
use Rattle.fp_meaning.specs.Names.{definitions, definitions_of}
use Rattle.fp_component_forms.specs.declared.ranking.Ranking.{Ranking}
use Rattle.fp_component_forms.specs.Positions.{IsRankedWith, RanksAre, count_in, ranks_from}
use Rattle.fp_component_forms.specs.Written.{among, before, same_group}

module _ (g : Group) where
  among_joined : (ds es : List Definition) → among g (ds ++ es) ≡ among g ds + among g es
  among_joined [] es = omega arith
  among_joined (d ∷ ds) es = let rest = among_joined ds es in omega arith

  ranks_joined : (n m : ℕ) (ds es : List Definition) → m ≡ n + among g ds → ranks_from g n (ds ++ es) ≡ ranks_from g n ds ++ ranks_from g m es
  ranks_joined n m [] es e = ap (λ (k : ℕ). ranks_from g k es) (omega arith)
  ranks_joined n m (d ∷ ds) es e = ap (λ (l : List ℕ). n ∷ l) (ranks_joined (n + count_in g d) m ds es (omega arith))

  rank_there : (ds : List Definition) (n k : ℕ) (d : Definition) → slice_get ds k ≡ Some d → slice_get (ranks_from g n ds) k ≡ Some (n + before g ds k)
  rank_there [] n k d at = absurd (cc)
  rank_there (x ∷ ds) n zero d at = ap (λ (m : ℕ). Some m) (omega arith)
  rank_there (x ∷ ds) n (suc k) d at = rank_there ds (n + count_in g x) k d at ∙ ap (λ (m : ℕ). Some m) (omega arith)

  -- at the number of each definition of a source
  pub ranks_are : (source : Source) (is : List Item) (ranks : List ℕ) → is ≡ layout.items source → ranks ≡ ranks_from g 0 (flat_map definitions_of is) → RanksAre g (definitions source) ranks
  ranks_are source is ranks laid made number d at =
      ap (λ (l : List ℕ). slice_get l number) (made ∙ ap (λ (l : List Item). ranks_from g 0 (flat_map definitions_of l)) laid)
      ∙ rank_there (definitions source) 0 number d at ∙ ap (λ (m : ℕ). Some m) (omega arith)

  -- of the first so many items
  pub record AreRankedFirst (is : List Item) (k : ℕ) (ranking : Ranking) : Type 0 where
    pub ranks : ranking.ranks ≡ ranks_from g 0 (flat_map definitions_of (take k is))
    pub next : ranking.next ≡ among g (flat_map definitions_of (take k is))

  module _ (is : List Item) where
    pub none_ranked : (r : Ranking) → r ≡ record { ranks = []; next = 0 } → AreRankedFirst is 0 r
    none_ranked r e = subst (λ (x : Ranking). AreRankedFirst is 0 x) (sym e) (record { ranks = refl; next = refl })

    pub next_ranked : (k : ℕ) (i : Item) (old new : Ranking) → slice_get is k ≡ Some i → AreRankedFirst is k old → IsRankedWith g i old new → AreRankedFirst is (k + 1) new
    next_ranked k i old new at h w =
        let front = flat_map definitions_of (take k is) in
        let whole : flat_map definitions_of (take (k + 1) is) ≡ front ++ definitions_of i =
        ap (λ (l : List Item). flat_map definitions_of l) (take_next is k i at) ∙ flat_map-append definitions_of (take k is) (i ∷ [])
        ∙ ap (λ (ds : List Definition). front ++ ds) (append-nil (definitions_of i)) in
        record {
          ranks =
              w.ranks ∙ ap (λ (l : List ℕ). l ++ ranks_from g old.next (definitions_of i)) h.ranks
              ∙ sym (ranks_joined 0 old.next front (definitions_of i) (omega (arith, h.next))) ∙ ap (λ (ds : List Definition). ranks_from g 0 ds) (sym whole);
          next = w.next ∙ ap (λ (n : ℕ). n + among g (definitions_of i)) h.next ∙ sym (among_joined front (definitions_of i)) ∙ ap (λ (ds : List Definition). among g ds) (sym whole);
        }

    pub all_ranked : (k : ℕ) (r : Ranking) → length is ≤ k → AreRankedFirst is k r → r.ranks ≡ ranks_from g 0 (flat_map definitions_of is)
    all_ranked k r past h = h.ranks ∙ ap (λ (l : List Item). ranks_from g 0 (flat_map definitions_of l)) (take_all k is past)

  -- with an item more
  pub ranked_definition : (i : Item) (d : Definition) (old new : Ranking) (b : Bool) → definitions_of i ≡ d ∷ [] → same_group g d.group ≡ b
      → new ≡ record { ranks = old.ranks ++ old.next ∷ []; next = old.next + cond b 1 0 } → IsRankedWith g i old new
  ranked_definition i d old new b is same made = record {
    ranks = ap (λ (r : Ranking). r.ranks) made ∙ ap (λ (ds : List Definition). old.ranks ++ ranks_from g old.next ds) (sym is);
    next =
        ap (λ (r : Ranking). r.next) made ∙ ap (λ (t : Bool). old.next + cond t 1 0) (sym same) ∙ omega arith
        ∙ ap (λ (ds : List Definition). old.next + among g ds) (sym is);
  }

  pub ranked_nothing : (i : Item) (old : Ranking) → definitions_of i ≡ [] → IsRankedWith g i old old
  ranked_nothing i old is = record {
    ranks = sym (append-nil old.ranks) ∙ ap (λ (ds : List Definition). old.ranks ++ ranks_from g old.next ds) (sym is);
    next = plus_nothing ∙ ap (λ (ds : List Definition). old.next + among g ds) (sym is);
  }
    where
      plus_nothing : old.next ≡ old.next + among g []
      plus_nothing = omega arith
