-- Items are resolved one after another, from what uses mean and the numbers of expressions.
use Rattle.std.proofs.Common.{◌≡◌, ℕ, zero, suc, ◌+◌, ◌<◌, ◌≤◌, min, max, List, [], ◌∷◌, ◌++◌, length, flat_map, take, slice_get, get_or, Option, Some, None, refl, sym, ap, ◌∙◌, subst, arith, length-append}
use Rattle.std.proofs.lemmas.List.{take_all}
use Rattle.std.proofs.lemmas.Option.{slice_get_within, slice_get-get_or}
use Rattle.fp_base.proofs.Lists.{get_front, get_last, take_next}
use Rattle.fp_base.proofs.Options.{same_some}
use Rattle.fp_base.proofs.Mapped.{flat_next}
use Rattle.fp_base.specs.declared.value.Value.{Value}
use Rattle.fp_tree.specs.declared.source.Source.{Source}
use Rattle.fp_tree.specs.declared.expression.Expr.{Expr}
use Rattle.fp_meaning.specs.declared.group.Group.{Group}
use Rattle.fp_meaning.specs.declared.group.Group.TheVariants as group
use Rattle.fp_meaning.specs.declared.names.Definition.{Definition}
use Rattle.fp_meaning.specs.declared.item.Item.{Item}
use Rattle.fp_meaning.specs.declared.item.Item.TheVariants as item
use Rattle.fp_meaning.specs.Names.{Path, definitions, mention_of, mentions, in_optional, uses_of}
use Rattle.fp_meaning.specs.Origins.{placed, one, expressions, expressions_of}
use Rattle.fp_meaning.specs.Sites.{Naming}
use Rattle.fp_consts.proofs.Counted.{past_twice}
use Rattle.fp_consts.specs.Laid.{past}
use Rattle.fp_type_forms.specs.declared.resolving.Resolution.{Resolution}
use Rattle.fp_type_forms.specs.declared.resolving.Resolution.TheVariants as resolution
use Rattle.fp_type_forms.specs.declared.resolving.Resolved.{Resolved}
use Rattle.fp_type_forms.specs.Resolved.{IsMarkOf, IsResolved, AreResolved, IsReady, IsResolvedWith, ResolvesAll, meant_in, numbered_in, ranks_from, resolved_to, type_ranked, use_resolved}
use Rattle.fp_type_forms.proofs.Ranks.{rank_there}

get_behind : {A : Type 0} (xs ys : List A) (n j : ℕ) → j ≡ length xs + n → slice_get (xs ++ ys) j ≡ slice_get ys n
get_behind [] ys n j e = ap (slice_get ys) (omega arith)
get_behind (x ∷ xs) ys n zero e = absurd (omega arith)
get_behind (x ∷ xs) ys n (suc j) e = get_behind xs ys n j (omega arith)

get_head : {A : Type 0} (xs ys zs : List A) (y : A) → xs ≡ y ∷ ys → slice_get (xs ++ zs) 0 ≡ Some y
get_head xs ys zs y is = ap (λ l. slice_get (l ++ zs) 0) is

flat_there : {A B : Type 0} (f : A → List B) (xs : List A) (k : ℕ) (x : A) (y : B) (ys : List B) → slice_get xs k ≡ Some x → f x ≡ y ∷ ys
    → slice_get (flat_map f xs) (length (flat_map f (take k xs))) ≡ Some y
flat_there f [] k x y ys at is = absurd (cc)
flat_there f (z ∷ xs) zero x y ys at is = get_head (f z) ys (flat_map f xs) y (ap f (same_some at) ∙ is)
flat_there f (z ∷ xs) (suc k) x y ys at is =
    get_behind (f z) (flat_map f xs) (length (flat_map f (take k xs))) (length (f z ++ flat_map f (take k xs))) (length-append (f z) (flat_map f (take k xs)))
    ∙ flat_there f xs k x y ys at is

past_more : {A B : Type 0} (f : A → List B) (xs : List A) (k : ℕ) (x : A) (limit b c : ℕ) → slice_get xs k ≡ Some x → b ≡ past (length (flat_map f (take k xs))) limit 0
    → c ≡ past (length (f x)) limit b → c ≡ past (length (flat_map f (take (k + 1) xs))) limit 0
past_more f xs k x limit b c at h g =
    past_twice (length (flat_map f (take k xs))) (length (f x)) (length (flat_map f (take (k + 1) xs))) limit 0 b c
    (ap length (flat_next f xs k x at) ∙ length-append (flat_map f (take k xs)) (f x)) h g

reached : (n limit j : ℕ) → j ≡ max 0 (min (0 + n) limit) → n < limit → j ≡ n
reached n limit j e low = omega arith

-- what stands at the number that a use means
numbered_use : (g : Group) (ds : List Definition) (ranks : List ℕ) (number : ℕ) (d : Definition) → ranks ≡ ranks_from 0 ds → slice_get ds number ≡ Some d
    → numbered_in g ranks number ≡ use_resolved g ds number
numbered_use group.Kind ds ranks number d ranked at =
    ap (λ (l : List ℕ). type_ranked (slice_get l number)) ranked ∙ ap type_ranked (rank_there ds 0 number d at) ∙ ap (λ (j : ℕ). resolution.Type j) (omega arith)
numbered_use g ds ranks number d ranked at = refl

module _ (source : Source) (marks : List (Option Value)) where
  pub resolved_more : (rs : List Resolution) (r : Resolution) (is : List Item) (i : Item) (at : ℕ) → length rs ≡ at + length is → AreResolved source marks rs is at
      → IsResolved source marks i r → AreResolved source marks (rs ++ r ∷ []) (is ++ i ∷ []) at
  resolved_more rs r [] i at e h g =
      let here : at ≡ length rs = omega arith in
      ((r, ap (slice_get (rs ++ r ∷ [])) here ∙ get_last rs r, g), tt)
  resolved_more rs r (j ∷ is) i at e h g =
      ((h.0.0, get_front rs (r ∷ []) at h.0.0 h.0.1, h.0.2), resolved_more rs r is i (at + 1) (omega arith) h.1 g)

  module _ (is : List Item) (meanings ranks : List ℕ) (limit : ℕ) (ready : IsReady source marks is meanings ranks limit) (k : ℕ) where
    mark_there : (i : Item) (scope : Path) (e : Expr) (mark : ℕ) → slice_get is k ≡ Some i → expressions_of i ≡ placed scope e ∷ []
        → mark ≡ past (length (flat_map expressions_of (take k is))) limit 0 → IsMarkOf source marks scope (Some e) (resolution.Expression mark)
    mark_there i scope e mark at gives far =
        let n = length (flat_map expressions_of (take k is)) in
        let there : slice_get (expressions source) n ≡ Some (placed scope e) =
        ap (λ (l : List Item). slice_get (flat_map expressions_of l) n) (sym ready.laid) ∙ flat_there expressions_of is k i (placed scope e) [] at gives in
        let within = slice_get_within (expressions source) n (placed scope e) there in
        let each = ready.valued.each in
        let counted = ready.counted in
        let low : n < length marks = omega arith in
        let same : mark ≡ n = reached n limit mark far (omega arith) in
        let here : slice_get marks n ≡ Some (get_or marks n None) = slice_get-get_or marks n None low in
        (mark, refl, (get_or marks n None, ap (slice_get marks) same ∙ here, ready.valued.exact n (placed scope e) (get_or marks n None) there here))

    use_there : (since : ℕ) (n : Naming) (use_ : ℕ) → slice_get is k ≡ Some (item.Used since n) → use_ ≡ past (length (flat_map uses_of (take k is))) (length meanings) 0
        → IsResolved source marks (item.Used since n) (meant_in n.group ranks (slice_get meanings use_))
    use_there since n use_ at far =
        let m = length (flat_map uses_of (take k is)) in
        let mention = mention_of n in
        let there : slice_get (mentions source) m ≡ Some mention =
        ap (λ (l : List Item). slice_get (flat_map uses_of l) m) (sym ready.laid) ∙ flat_there uses_of is k (item.Used since n) mention [] at refl in
        let within = slice_get_within (mentions source) m mention there in
        let each = ready.meant.each in
        let low : m < length meanings = omega arith in
        let same : use_ ≡ m = reached m (length meanings) use_ far low in
        let here : slice_get meanings m ≡ Some (get_or meanings m 0) = slice_get-get_or meanings m 0 low in
        let means = ready.meant.meant m mention (get_or meanings m 0) there here in (
          get_or meanings m 0,
          means,
          ap (λ (j : ℕ). meant_in n.group ranks (slice_get meanings j)) same ∙ ap (meant_in n.group ranks) here
              ∙ numbered_use n.group (definitions source) ranks (get_or meanings m 0) means.meant.named.definition ready.ranked means.meant.named.here,
        )

    resolved_here : (i : Item) (use_ mark : ℕ) → slice_get is k ≡ Some i → use_ ≡ past (length (flat_map uses_of (take k is))) (length meanings) 0
        → mark ≡ past (length (flat_map expressions_of (take k is))) limit 0 → IsResolved source marks i (resolved_to meanings ranks use_ mark i)
    resolved_here (item.Defined s) use_ mark at far behind = tt
    resolved_here (item.Enumerated e) use_ mark at far behind = go e.constant.value refl
      where
        go : (o : Option Expr) → e.constant.value ≡ o → IsMarkOf source marks e.scope o (resolution.Expression mark)
        go None is_ = tt
        go (Some x) is_ = mark_there (item.Enumerated e) e.scope x mark at (ap (in_optional (one e.scope)) is_) behind
    resolved_here (item.Declared d) use_ mark at far behind = tt
    resolved_here (item.Used since n) use_ mark at far behind = use_there since n use_ at far
    resolved_here (item.Written since p) use_ mark at far behind = mark_there (item.Written since p) p.scope p.expression mark at refl behind

-- of the first so many items
pub record AreResolvedFirst (meanings ranks : List ℕ) (limit : ℕ) (is : List Item) (k : ℕ) (r : Resolved) : Type 0 where
  pub uses : r.next_use ≡ past (length (flat_map uses_of (take k is))) (length meanings) 0
  pub expressions : r.next_mark ≡ past (length (flat_map expressions_of (take k is))) limit 0
  pub each : length r.at ≡ length (take k is)
  pub resolved : (source : Source) (marks : List (Option Value)) → IsReady source marks is meanings ranks limit → AreResolved source marks r.at (take k is) 0

module _ (meanings ranks : List ℕ) (limit : ℕ) (is : List Item) where
  pub none_resolved : (r : Resolved) → r ≡ record { at = []; next_use = 0; next_mark = 0 } → AreResolvedFirst meanings ranks limit is 0 r
  none_resolved r e =
      subst (λ (x : Resolved). AreResolvedFirst meanings ranks limit is 0 x) (sym e)
      (record { uses = omega arith; expressions = omega arith; each = refl; resolved = λ source marks ready. tt })

  pub next_resolved : (k : ℕ) (i : Item) (before after : Resolved) → slice_get is k ≡ Some i → AreResolvedFirst meanings ranks limit is k before
      → IsResolvedWith meanings ranks limit i before after → AreResolvedFirst meanings ranks limit is (k + 1) after
  next_resolved k i before after at h w =
      let r = resolved_to meanings ranks before.next_use before.next_mark i in
      let more = take_next is k i at in
      record {
        uses = past_more uses_of is k i (length meanings) before.next_use after.next_use at h.uses w.next_use;
        expressions = past_more expressions_of is k i limit before.next_mark after.next_mark at h.expressions w.next_mark;
        each =
            ap length w.at ∙ length-append before.at (r ∷ []) ∙ ap (λ (n : ℕ). n + 1) h.each ∙ sym (length-append (take k is) (i ∷ []))
            ∙ ap length (sym more);
        resolved = λ source marks ready.
            subst (λ (l : List Resolution). AreResolved source marks l (take (k + 1) is) 0) (sym w.at)
            (subst (λ (l : List Item). AreResolved source marks (before.at ++ r ∷ []) l 0) (sym more)
            (resolved_more source marks before.at r (take k is) i 0 (let long = h.each in omega arith) (h.resolved source marks ready)
            (resolved_here source marks is meanings ranks limit ready k i before.next_use before.next_mark at h.uses h.expressions)));
      }

  pub all_resolved : (k : ℕ) (r : Resolved) → length is ≤ k → AreResolvedFirst meanings ranks limit is k r → ResolvesAll is meanings ranks limit r.at
  all_resolved k r past_ h source marks ready = subst (λ (l : List Item). AreResolved source marks r.at l 0) (take_all k is past_) (h.resolved source marks ready)
