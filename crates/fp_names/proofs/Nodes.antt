-- Nodes after one is added, and after one is changed.
use Rattle.std.proofs.Common.{◌≡◌, ℕ, zero, suc, ◌+◌, ◌<◌, cond, List, [], ◌∷◌, ◌++◌, length, set, get_or, slice_get, Some, None, inl, inr, refl, sym, ap, ◌∙◌, arith}
use Rattle.std.specs.HashMap.{get_by_text}
use Rattle.std.specs.Str.{bytes_eq}
use Rattle.std.proofs.lemmas.Option.{slice_get_read}
use Rattle.std.proofs.lemmas.List.{length-set, length-append}
use Rattle.std.proofs.lemmas.Bool.{cases_eq}
use Rattle.fp_base.proofs.Spots.{get_set_same, get_set_other}
use Rattle.fp_base.proofs.Bytes.{bytes_itself, differ_bytes}
use Rattle.fp_names.specs.declared.tree.Node.{Node}
use Rattle.fp_names.specs.Tree.{next_of, meaning_of, step, meaning_at, IsLeaf, LeadsOn, Grows}

-- a leaf at the end changes nothing
pub leaf_steps : (nodes : List Node) (leaf : Node) (k : ℕ) (name : List ℕ) → IsLeaf leaf → step (nodes ++ leaf ∷ []) k name ≡ step nodes k name
leaf_steps [] leaf zero name l = l.next name
leaf_steps [] leaf (suc k) name l = refl
leaf_steps (x ∷ nodes) leaf zero name l = refl
leaf_steps (x ∷ nodes) leaf (suc k) name l = leaf_steps nodes leaf k name l

pub leaf_meanings : (nodes : List Node) (leaf : Node) (k : ℕ) → IsLeaf leaf → meaning_at (nodes ++ leaf ∷ []) k ≡ meaning_at nodes k
leaf_meanings [] leaf zero l = l.meaning
leaf_meanings [] leaf (suc k) l = refl
leaf_meanings (x ∷ nodes) leaf zero l = refl
leaf_meanings (x ∷ nodes) leaf (suc k) l = leaf_meanings nodes leaf k l

-- a leaf at the end, and a name that leads to it
pub grows : (old pushed : List Node) (leaf node after : Node) (from to : ℕ) (name key : List ℕ)
    → step old from name ≡ None → pushed ≡ old ++ leaf ∷ [] → IsLeaf leaf → node ≡ get_or pushed from node → from < length old → LeadsOn node after key to → key ≡ name → to ≡ length old
    → Grows old (set pushed from after) from name
grows old pushed leaf node after from to name key none is l value small leads same last = record {
  absent = none;
  longer =
      (let a = length-set pushed from after in
      let b = ap length is in
      let c : length (old ++ leaf ∷ []) ≡ length old + 1 = length-append old (leaf ∷ []) in
      a ∙ b ∙ c);
  here =
      ap (λ o. next_of o name) (get_set_same pushed from after within) ∙ leads.next name
      ∙ ap (λ b. cond b (Some to) (get_by_text node.next name)) (ap (λ k. bytes_eq k name) same ∙ bytes_itself name) ∙ ap (λ (i : ℕ). Some i) last;
  others = λ k other apart. elim (cases_eq k from) [
    | inl e ↦
        let differs : other ≡ key → ⊥ = λ f. apart e (f ∙ same) in
        ap (λ i. step (set pushed from after) i other) e ∙ ap (λ o. next_of o other) (get_set_same pushed from after within) ∙ leads.next other
        ∙ ap (λ b. cond b (Some to) (get_by_text node.next other)) (differ_bytes key other (λ e. differs (sym e)))
        ∙ ap (λ o. next_of o other) (sym at) ∙ ap (λ i. step pushed i other) (sym e) ∙ before k other
    | inr d ↦ ap (λ o. next_of o other) (get_set_other pushed from k after d) ∙ before k other
  ];
  meanings = λ k. elim (cases_eq k from) [
    | inl e ↦
        ap (λ i. meaning_at (set pushed from after) i) e ∙ ap meaning_of (get_set_same pushed from after within) ∙ leads.meaning
        ∙ ap meaning_of (sym at) ∙ ap (λ i. meaning_at pushed i) (sym e) ∙ before_meaning k
    | inr d ↦ ap meaning_of (get_set_other pushed from k after d) ∙ before_meaning k
  ];
}
  where
    within : from < length pushed
    within =
        let a = ap length is in
        let b : length (old ++ leaf ∷ []) ≡ length old + 1 = length-append old (leaf ∷ []) in
        omega arith

    at : slice_get pushed from ≡ Some node
    at = slice_get_read pushed (length pushed) from node refl within value

    before : (k : ℕ) (other : List ℕ) → step pushed k other ≡ step old k other
    before k other = ap (λ ns. step ns k other) is ∙ leaf_steps old leaf k other l

    before_meaning : (k : ℕ) → meaning_at pushed k ≡ meaning_at old k
    before_meaning k = ap (λ ns. meaning_at ns k) is ∙ leaf_meanings old leaf k l
