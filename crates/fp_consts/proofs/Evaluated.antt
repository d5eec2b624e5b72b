-- The values of all expressions, and the first of what constants break.
use Rattle.std.proofs.Common.{◌≡◌, ℕ, ◌+◌, ◌<◌, List, length, flat_map, slice_get, Option, Some, ap, subst, arith}
use Rattle.std.proofs.lemmas.Option.{slice_get_within}
use Rattle.fp_base.specs.declared.refusal.Refusal.{Refusal}
use Rattle.fp_tree.specs.declared.source.Source.{Source}
use Rattle.fp_meaning.specs.declared.group.Group.TheVariants as group
use Rattle.fp_meaning.specs.declared.item.Item.{Item}
use Rattle.fp_meaning.specs.declared.names.Mention.{Mention}
use Rattle.fp_meaning.specs.ConstantFaults.{ConstantsBroken}
use Rattle.fp_base.specs.Least.{IsLeast, lesser_of}
use Rattle.fp_meaning.specs.Layout as layout
use Rattle.fp_meaning.specs.Meaning.{AreMeanings}
use Rattle.fp_meaning.specs.Names.{definitions, mentions, uses_of}
use Rattle.fp_meaning.specs.Origins.{Placed, expressions, expressions_of}
use Rattle.fp_meaning.specs.Uses.{BrokenByChains}
use Rattle.fp_base.proofs.Calculus.{least_either}
use Rattle.fp_base.proofs.Spots.{item_below}
use Rattle.fp_consts.specs.declared.marking.Marking.{Marking}
use Rattle.fp_consts.specs.declared.measured.Measured.{Measured}
use Rattle.fp_consts.specs.Examined.{AreGiven}
use Rattle.fp_consts.specs.Laid.{firsts_from, spots_from}
use Rattle.fp_consts.specs.Marked.{AreValues, SomeBroken, IsMarked, Marks}
use Rattle.fp_consts.specs.Tabled.{IsLaidOut, AreExact}
use Rattle.fp_consts.proofs.Tabled.{given_each}

module _ (source : Source) (meanings : List ℕ) (items : List Item) (meant : AreMeanings (definitions source) (mentions source) meanings) (laid : items ≡ layout.items source) where
  the_uses : flat_map uses_of items ≡ mentions source
  the_uses = ap (λ (ps : List Item). flat_map uses_of ps) laid

  the_expressions : flat_map expressions_of items ≡ expressions source
  the_expressions = ap (λ (ps : List Item). flat_map expressions_of ps) laid

  all_given : (table : List (Option Measured)) → AreExact source table → AreGiven source table meanings (flat_map uses_of items) 0
  all_given table exact = given_each source table meanings (flat_map uses_of items) 0 (λ i m at.
      let there : slice_get (mentions source) i ≡ Some m = subst (λ (ms : List Mention). slice_get ms i ≡ Some m) the_uses at in
      let each = meant.each in
      let low : i < length (mentions source) = slice_get_within (mentions source) i m there in
      let u = item_below meanings i (omega arith) in
      let means = meant.meant i m u.0 there u.1 in
      let index : i ≡ 0 + i = omega arith in (
        u.0,
        subst (λ (n : ℕ). slice_get meanings n ≡ Some u.0) index u.1,
        means,
        exact u.0 (slice_get_within (definitions source) u.0 means.meant.named.definition means.meant.named.here),
      ))

  module _ (firsts spots : List ℕ) (table : List (Option Measured)) (m : Marking) (begun : firsts ≡ firsts_from (length meanings) 0 items) (spotted : spots ≡ spots_from 0 items)
      (tables : (s : Source) → IsLaidOut s items firsts spots meanings → AreExact s table) (marks : Marks table meanings items m) where
    all_marked : IsMarked source items m
    all_marked = marks source (all_given table (tables source (record { laid = laid; meant = meant; begun = begun; spotted = spotted })))

    pub all_values : AreValues source (expressions source) m.at
    all_values = subst (λ (ps : List Placed). AreValues source ps m.at) the_expressions all_marked.values

    pub all_broken : (o : Option Refusal) → IsLeast (BrokenByChains items group.Value) o → IsLeast (ConstantsBroken source) (lesser_of m.first o)
    all_broken o least =
        least_either m.first o (subst (λ (ps : List Placed). IsLeast (SomeBroken source ps) m.first) the_expressions all_marked.first)
        (subst (λ (ps : List Item). IsLeast (BrokenByChains ps group.Value) o) laid least)
