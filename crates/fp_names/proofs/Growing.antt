-- A tree of names stays one as it grows by a node.
use Rattle.std.proofs.Common.{◌≡◌, ℕ, ◌+◌, ◌<◌, ◌≤◌, List, [], ◌∷◌, ◌++◌, length, slice_get, Option, Some, None, inl, inr, sym, ap, subst, ◌∙◌, arith}
use Rattle.std.proofs.lemmas.Option.{slice_get_within, slice_get_past}
use Rattle.std.proofs.lemmas.List.{length-append}
use Rattle.fp_base.proofs.Lists.{get_front, get_last}
use Rattle.fp_base.proofs.Options.{same_some}
use Rattle.fp_base.proofs.Spots.{push_cases}
use Rattle.fp_meaning.specs.declared.group.Group.{Group}
use Rattle.fp_meaning.specs.Names.{Path}
use Rattle.fp_names.specs.declared.tree.Node.{Node}
use Rattle.fp_names.specs.Tree.{root, step, next_of, meaning_of, meaning_at, Spot, spot, IsTree, Grows}
use Rattle.fp_names.proofs.Lists.{both_or_not, snoc_same, not_longer, split_last}

pub group_same : {g h : Group} {p q : Path} → spot g p ≡ spot h q → g ≡ h
group_same e = ap (λ (s : Spot). s.group) e

pub names_same : {g h : Group} {p q : Path} → spot g p ≡ spot h q → p ≡ q
names_same e = ap (λ (s : Spot). s.names) e

-- nothing leads on from past the end
pub no_step : (nodes : List Node) (k : ℕ) (t : List ℕ) → length nodes ≤ k → step nodes k t ≡ None
no_step nodes k t past = ap (λ o. next_of o t) (slice_get_past nodes k past)

pub no_meaning : (nodes : List Node) (k : ℕ) → length nodes ≤ k → meaning_at nodes k ≡ None
no_meaning nodes k past = ap meaning_of (slice_get_past nodes k past)

pub none_some : {o : Option ℕ} {j : ℕ} → o ≡ None → o ≡ Some j → ⊥
none_some a b = cc

module _ (old new : List Node) (spots : List Spot) (n : ℕ) (g : Group) (p : Path) (t : List ℕ)
    (tree : IsTree old spots) (here : slice_get spots n ≡ Some (spot g p)) (grows : Grows old new n t) where
  -- no node stands for the new spot
  pub fresh : (j : ℕ) → slice_get spots j ≡ Some (spot g (p ++ t ∷ [])) → ⊥
  fresh j e = none_some grows.absent (tree.leads n j g p t here e)

  follow_here : (k j : ℕ) (h : Group) (q : Path) (c : List ℕ) → k ≡ n → c ≡ t → slice_get spots k ≡ Some (spot h q) → step new k c ≡ Some j
      → slice_get (spots ++ spot g (p ++ t ∷ []) ∷ []) j ≡ Some (spot h (q ++ c ∷ []))
  follow_here k j h q c ek ec es ej =
      let e : spot g p ≡ spot h q = same_some (sym here ∙ ap (λ i. slice_get spots i) (sym ek) ∙ es) in
      let eg : g ≡ h = group_same e in
      let ep : p ≡ q = names_same e in
      let last : j ≡ length spots = same_some (sym ej ∙ (λ i. step new (ek i) (ec i)) ∙ grows.here) ∙ tree.each in
      subst (λ (i : ℕ). slice_get (spots ++ spot g (p ++ t ∷ []) ∷ []) i ≡ Some (spot h (q ++ c ∷ []))) (sym last)
      (get_last spots (spot g (p ++ t ∷ [])) ∙ (λ i. Some (spot (eg i) (ep i ++ sym ec i ∷ []))))

  follow : (k j : ℕ) (h : Group) (q : Path) (c : List ℕ) → slice_get (spots ++ spot g (p ++ t ∷ []) ∷ []) k ≡ Some (spot h q) → step new k c ≡ Some j
      → slice_get (spots ++ spot g (p ++ t ∷ []) ∷ []) j ≡ Some (spot h (q ++ c ∷ []))
  follow k j h q c ek es = elim (push_cases spots (spot g (p ++ t ∷ [])) k (spot h q) ek) [
    | inl first ↦ elim (both_or_not k n c t) [
      | inl same ↦ follow_here k j h q c same.0 same.1 first es
      | inr other ↦ get_front spots _ j _ (tree.follows k j h q c first (sym (grows.others k c other) ∙ es))
    ]
    | inr last ↦
        let within : n < length spots = slice_get_within spots n _ here in
        let at = last.0 in
        let each = tree.each in
        let stays : step new k c ≡ step old k c = grows.others k c (λ e _. omega arith) in
        absurd (none_some (stays ∙ no_step old k c (omega arith)) es)
  ]

  lead_here : (k j : ℕ) (h : Group) (q : Path) (c : List ℕ) → slice_get spots k ≡ Some (spot h q) → j ≡ length spots → spot h (q ++ c ∷ []) ≡ spot g (p ++ t ∷ []) → step new k c ≡ Some j
  lead_here k j h q c ek ej e =
      let eg : h ≡ g = group_same e in
      let en = snoc_same q p c t (names_same e) in
      let same : k ≡ n = tree.single k n (spot g p) (ek ∙ (λ i. Some (spot (eg i) (en.0 i)))) here in
      (λ i. step new (same i) (en.1 i)) ∙ grows.here ∙ ap (λ (i : ℕ). Some i) (tree.each ∙ sym ej)

  lead : (k j : ℕ) (h : Group) (q : Path) (c : List ℕ) → slice_get (spots ++ spot g (p ++ t ∷ []) ∷ []) k ≡ Some (spot h q)
      → slice_get (spots ++ spot g (p ++ t ∷ []) ∷ []) j ≡ Some (spot h (q ++ c ∷ [])) → step new k c ≡ Some j
  lead k j h q c ek ej = elim (push_cases spots (spot g (p ++ t ∷ [])) k (spot h q) ek) [
    | inl first ↦ elim (push_cases spots (spot g (p ++ t ∷ [])) j (spot h (q ++ c ∷ [])) ej) [
      | inl second ↦
          let s = tree.leads k j h q c first second in
          grows.others k c (λ a b. none_some grows.absent ((λ i. step old (sym a i) (sym b i)) ∙ s)) ∙ s
      | inr last ↦ lead_here k j h q c first last.0 last.1
    ]
    | inr last ↦ elim (push_cases spots (spot g (p ++ t ∷ [])) j (spot h (q ++ c ∷ [])) ej) [
      | inl second ↦
          let parent = tree.closed j h q (c ∷ []) second in
          absurd (fresh parent.0 (parent.1 ∙ ap (λ (s : Spot). Some s) last.1))
      | inr other ↦ absurd (not_longer q c (names_same other.1 ∙ sym (names_same last.1)))
    ]
  ]

  close : (j : ℕ) (h : Group) (q r : Path) → slice_get (spots ++ spot g (p ++ t ∷ []) ∷ []) j ≡ Some (spot h (q ++ r))
      → (i : ℕ) × (slice_get (spots ++ spot g (p ++ t ∷ []) ∷ []) i ≡ Some (spot h q))
  close j h q r e = elim (push_cases spots (spot g (p ++ t ∷ [])) j (spot h (q ++ r)) e) [
    | inl first ↦ let c = tree.closed j h q r first in (c.0, get_front spots _ c.0 _ c.1)
    | inr last ↦
        let eg : h ≡ g = group_same last.1 in
        elim (split_last q r p t (names_same last.1)) [
          | inl m ↦
              let c = tree.closed n g q m.0 (here ∙ ap (λ (s : Path). Some (spot g s)) m.1) in
              (c.0, get_front spots _ c.0 _ (c.1 ∙ ap (λ (x : Group). Some (spot x q)) (sym eg)))
          | inr m ↦ (length spots, get_last spots (spot g (p ++ t ∷ [])) ∙ (λ i. Some (spot (sym eg i) (sym m.1 i))))
        ]
  ]

  one : (i j : ℕ) (s : Spot) → slice_get (spots ++ spot g (p ++ t ∷ []) ∷ []) i ≡ Some s → slice_get (spots ++ spot g (p ++ t ∷ []) ∷ []) j ≡ Some s → i ≡ j
  one i j s ei ej = elim (push_cases spots (spot g (p ++ t ∷ [])) i s ei) [
    | inl a ↦ elim (push_cases spots (spot g (p ++ t ∷ [])) j s ej) [
      | inl b ↦ tree.single i j s a b
      | inr b ↦ absurd (fresh i (a ∙ ap (λ (x : Spot). Some x) b.1))
    ]
    | inr a ↦ elim (push_cases spots (spot g (p ++ t ∷ [])) j s ej) [
      | inl b ↦ absurd (fresh j (b ∙ ap (λ (x : Spot). Some x) a.1))
      | inr b ↦ a.0 ∙ sym b.0
    ]
  ]

  pub grow : IsTree new (spots ++ spot g (p ++ t ∷ []) ∷ [])
  grow = record {
    each =
        (let each = tree.each in
        let longer = grows.longer in
        let l : length (spots ++ spot g (p ++ t ∷ []) ∷ []) ≡ length spots + 1 = length-append spots (spot g (p ++ t ∷ []) ∷ []) in
        omega arith);
    roots = λ h. get_front spots _ (root h) _ (tree.roots h);
    follows = follow;
    leads = lead;
    closed = close;
    single = one;
  }

-- what says as much stays a tree
pub retree : (old new : List Node) (spots : List Spot) → length new ≡ length old → ((k : ℕ) (t : List ℕ) → step new k t ≡ step old k t) → IsTree old spots → IsTree new spots
retree old new spots l s tree = record {
  each = l ∙ tree.each;
  roots = tree.roots;
  follows = λ n j g p t e f. tree.follows n j g p t e (sym (s n t) ∙ f);
  leads = λ n j g p t e f. s n t ∙ tree.leads n j g p t e f;
  closed = tree.closed;
  single = tree.single;
}
