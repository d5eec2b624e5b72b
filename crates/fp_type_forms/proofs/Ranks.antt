-- How many types stand before each definition.
use Rattle.std.proofs.Common.{◌≡◌, Bool, false, cond, ℕ, zero, suc, ◌+◌, ◌≤◌, List, [], ◌∷◌, ◌++◌, length, flat_map, take, slice_get, Some, refl, sym, ap, ◌∙◌, subst, arith}
use Rattle.std.proofs.lemmas.List.{append-nil, take_all}
use Rattle.std.proofs.lemmas.Grind.{flat_map-append}
use Rattle.fp_base.proofs.Lists.{take_next}
use Rattle.fp_meaning.specs.declared.item.Item.{Item}
use Rattle.fp_meaning.specs.declared.names.Definition.{Definition}
use Rattle.fp_meaning.specs.Names.{definitions_of, model_group}
use Rattle.fp_meaning.specs.Sites.{ModelDef, machine, component, interface, instance, topology}
use Rattle.fp_type_forms.specs.declared.ranking.Ranking.{Ranking}
use Rattle.fp_type_forms.specs.Written.{is_kind, type_count, types_among, types_before}
use Rattle.fp_type_forms.specs.Resolved.{IsRankedWith, ranks_from}

types_joined : (ds es : List Definition) → types_among (ds ++ es) ≡ types_among ds + types_among es
types_joined [] es = omega arith
types_joined (d ∷ ds) es = let rest = types_joined ds es in omega arith

ranks_joined : (n m : ℕ) (ds es : List Definition) → m ≡ n + types_among ds → ranks_from n (ds ++ es) ≡ ranks_from n ds ++ ranks_from m es
ranks_joined n m [] es e = ap (λ (k : ℕ). ranks_from k es) (omega arith)
ranks_joined n m (d ∷ ds) es e = ap (λ (l : List ℕ). n ∷ l) (ranks_joined (n + type_count d) m ds es (omega arith))

pub rank_there : (ds : List Definition) (n k : ℕ) (d : Definition) → slice_get ds k ≡ Some d → slice_get (ranks_from n ds) k ≡ Some (n + types_before ds k)
rank_there [] n k d at = absurd (cc)
rank_there (x ∷ ds) n zero d at = ap (λ (m : ℕ). Some m) (omega arith)
rank_there (x ∷ ds) n (suc k) d at =
    rank_there ds (n + type_count x) k d at ∙ ap (λ (m : ℕ). Some m) (omega arith)

-- of the first so many items
pub record AreRankedFirst (is : List Item) (k : ℕ) (ranking : Ranking) : Type 0 where
  pub ranks : ranking.ranks ≡ ranks_from 0 (flat_map definitions_of (take k is))
  pub next : ranking.next ≡ types_among (flat_map definitions_of (take k is))

module _ (is : List Item) where
  pub none_ranked : (r : Ranking) → r ≡ record { ranks = []; next = 0 } → AreRankedFirst is 0 r
  none_ranked r e = subst (λ (x : Ranking). AreRankedFirst is 0 x) (sym e) (record { ranks = refl; next = refl })

  pub next_ranked : (k : ℕ) (i : Item) (before after : Ranking) → slice_get is k ≡ Some i → AreRankedFirst is k before → IsRankedWith i before after → AreRankedFirst is (k + 1) after
  next_ranked k i before after at h w =
      let front = flat_map definitions_of (take k is) in
      let whole : flat_map definitions_of (take (k + 1) is) ≡ front ++ definitions_of i =
      ap (λ (l : List Item). flat_map definitions_of l) (take_next is k i at) ∙ flat_map-append definitions_of (take k is) (i ∷ [])
      ∙ ap (λ (ds : List Definition). front ++ ds) (append-nil (definitions_of i)) in
      record {
        ranks =
            w.ranks ∙ ap (λ (l : List ℕ). l ++ ranks_from before.next (definitions_of i)) h.ranks
            ∙ sym (ranks_joined 0 before.next front (definitions_of i) (omega (arith, h.next))) ∙ ap (λ (ds : List Definition). ranks_from 0 ds) (sym whole);
        next = w.next ∙ ap (λ (n : ℕ). n + types_among (definitions_of i)) h.next ∙ sym (types_joined front (definitions_of i)) ∙ ap types_among (sym whole);
      }

  pub all_ranked : (k : ℕ) (r : Ranking) → length is ≤ k → AreRankedFirst is k r → r.ranks ≡ ranks_from 0 (flat_map definitions_of is)
  all_ranked k r past h = h.ranks ∙ ap (λ (l : List Item). ranks_from 0 (flat_map definitions_of l)) (take_all k is past)

-- machines, components, interfaces, instances and topologies are no types
pub never_kind : (d : ModelDef) → is_kind (model_group d) ≡ false
never_kind (machine d) = refl
never_kind (component d) = refl
never_kind (interface d) = refl
never_kind (instance d) = refl
never_kind (topology d) = refl

-- with an item more
pub ranked_definition : (i : Item) (d : Definition) (before after : Ranking) (b : Bool) → definitions_of i ≡ d ∷ [] → is_kind d.group ≡ b
    → after ≡ record { ranks = before.ranks ++ before.next ∷ []; next = before.next + cond b 1 0 } → IsRankedWith i before after
ranked_definition i d before after b is kind made = record {
  ranks = ap (λ (r : Ranking). r.ranks) made ∙ ap (λ (ds : List Definition). before.ranks ++ ranks_from before.next ds) (sym is);
  next =
      ap (λ (r : Ranking). r.next) made ∙ ap (λ (t : Bool). before.next + cond t 1 0) (sym kind) ∙ omega arith
      ∙ ap (λ (ds : List Definition). before.next + types_among ds) (sym is);
}

pub ranked_nothing : (i : Item) (before : Ranking) → definitions_of i ≡ [] → IsRankedWith i before before
ranked_nothing i before is = record {
  ranks = sym (append-nil before.ranks) ∙ ap (λ (ds : List Definition). before.ranks ++ ranks_from before.next ds) (sym is);
  next = plus_nothing ∙ ap (λ (ds : List Definition). before.next + types_among ds) (sym is);
}
  where
    plus_nothing : before.next ≡ before.next + types_among []
    plus_nothing = omega arith
