-- A tree of names stands for one definition more.
use Rattle.std.proofs.Common.{◌≡◌, ℕ, Bool, MatchBool, is_some, take, get_or, ◌+◌, ◌<◌, ◌⊎◌, List, [], ◌∷◌, ◌++◌, length, slice_get, Option, Some, None, inl, inr, refl, sym, ap, subst, ◌∙◌, arith}
use Rattle.std.proofs.lemmas.Option.{slice_get_within, slice_get_read}
use Rattle.std.proofs.lemmas.List.{append-nil}
use Rattle.std.proofs.lemmas.Bool.{cases_eq}
use Rattle.fp_base.proofs.Lists.{get_front, get_last, take_next}
use Rattle.fp_base.proofs.Options.{same_some}
use Rattle.fp_base.proofs.Spots.{push_cases}
use Rattle.fp_meaning.specs.Broken.{HasEarlier}
use Rattle.fp_meaning.specs.declared.group.Group.{Group}
use Rattle.fp_meaning.specs.declared.names.Definition.{Definition}
use Rattle.fp_meaning.specs.Names.{Path}
use Rattle.fp_meaning.specs.Meaning.{IsNamed, IsKnown, IsFirst}
use Rattle.fp_names.specs.declared.tree.Node.{Node}
use Rattle.fp_names.specs.Tree.{root, meaning_at, Spot, spot, IsPart, IsTable, Within, SaysFirst, Grows, Enters, Says, or_number}
use Rattle.fp_names.proofs.Lists.{whole}
use Rattle.fp_names.proofs.Growing.{group_same, names_same, no_meaning, fresh, grow, retree}

pub named_more : (ds more : List Definition) (g : Group) (p : Path) (k : ℕ) → IsNamed ds g p k → IsNamed (ds ++ more) g p k
named_more ds more g p k n = record { definition = n.definition; here = get_front ds more k n.definition n.here; of_group = n.of_group; of_name = n.of_name }

pub known_more : (ds more : List Definition) (g : Group) (p : Path) → IsKnown ds g p → IsKnown (ds ++ more) g p
known_more ds more g p k = (k.0, k.1, named_more ds more g (p ++ k.1) k.0 k.2)

pub named_last : (ds : List Definition) (d : Definition) (g : Group) (p : Path) → d.group ≡ g → d.name ≡ p → IsNamed (ds ++ d ∷ []) g p (length ds)
named_last ds d g p a b = record { definition = d; here = get_last ds d; of_group = a; of_name = b }

pub named_cases : (ds : List Definition) (d : Definition) (g : Group) (p : Path) (k : ℕ) → IsNamed (ds ++ d ∷ []) g p k
    → IsNamed ds g p k ⊎ ((k ≡ length ds) × (d.group ≡ g) × (d.name ≡ p))
named_cases ds d g p k n = elim (push_cases ds d k n.definition n.here) [
  | inl h ↦ inl (record { definition = n.definition; here = h; of_group = n.of_group; of_name = n.of_name })
  | inr h ↦ inr (h.0, ap (λ (x : Definition). x.group) (sym h.1) ∙ n.of_group, ap (λ (x : Definition). x.name) (sym h.1) ∙ n.of_name)
]

pub named_within : (ds : List Definition) (g : Group) (p : Path) (k : ℕ) → IsNamed ds g p k → k < length ds
named_within ds g p k n = slice_get_within ds k n.definition n.here

-- the table of the definitions so far is part of one with a definition more
pub begin : (ds : List Definition) (d : Definition) (nodes : List Node) → (table : IsTable ds nodes) → IsPart (ds ++ d ∷ []) ds nodes table.0
begin ds d nodes table = record {
  tree = table.1.tree;
  known = λ j g p e. elim (table.1.known j g p e) [ inl n ↦ inl n | inr k ↦ inr (known_more ds (d ∷ []) g p k) ];
  found = table.1.found;
  says = table.1.says;
}

says_same : (ds : List Definition) (g : Group) (p : Path) (a b : Option ℕ) → a ≡ b → SaysFirst ds g p a → SaysFirst ds g p b
says_same ds g p a b e s = subst (λ (o : Option ℕ). SaysFirst ds g p o) e s

-- a node more, whose names begin the qualified name of one of the definitions after
module _ (after before : List Definition) (old new : List Node) (spots : List Spot) (n : ℕ) (g : Group) (p : Path) (t : List ℕ)
    (part : IsPart after before old spots) (here : slice_get spots n ≡ Some (spot g p)) (is : IsKnown after g (p ++ t ∷ [])) (grows : Grows old new n t) where
  none_yet : (h : Group) (q : Path) (k : ℕ) → spot h q ≡ spot g (p ++ t ∷ []) → IsNamed before h q k → ⊥
  none_yet h q k e named =
      let whole : IsNamed before h (q ++ []) k = record { definition = named.definition; here = named.here; of_group = named.of_group; of_name = named.of_name ∙ sym (append-nil q) } in
      let at = part.found h q (k, [], whole) in
      fresh old new spots n g p t part.tree here grows at.0 (at.1 ∙ ap (λ (s : Spot). Some s) e)

  grown_says : (j : ℕ) (h : Group) (q : Path) → slice_get (spots ++ spot g (p ++ t ∷ []) ∷ []) j ≡ Some (spot h q) → SaysFirst before h q (meaning_at new j)
  grown_says j h q e = elim (push_cases spots (spot g (p ++ t ∷ [])) j (spot h q) e) [
    | inl first ↦ says_same before h q _ _ (sym (grows.meanings j)) (part.says j h q first)
    | inr last ↦
        let at = last.0 in
        let each = part.tree.each in
        let says_none : meaning_at new j ≡ None = grows.meanings j ∙ no_meaning old j (omega arith) in
        record { holds = λ k e. let f : None ≡ Some k = sym says_none ∙ e in cc; none = λ k e named. none_yet h q k last.1 named }
  ]

  pub grow_part : IsPart after before new (spots ++ spot g (p ++ t ∷ []) ∷ [])
  grow_part = record {
    tree = grow old new spots n g p t part.tree here grows;
    known = λ j h q e. elim (push_cases spots (spot g (p ++ t ∷ [])) j (spot h q) e) [
      | inl first ↦ part.known j h q first
      | inr last ↦
          let eg = group_same last.1 in
          let en = names_same last.1 in
          inr (subst (λ (x : Group). IsKnown after x q) (sym eg) (subst (λ (x : Path). IsKnown after g x) (sym en) is))
    ];
    found = λ h q k. let at = part.found h q k in (at.0, get_front spots _ at.0 _ at.1);
    says = grown_says;
  }

pub enter_part : (after before : List Definition) (old new : List Node) (n to : ℕ) (g : Group) (p : Path) (t : List ℕ) → IsKnown after g (p ++ t ∷ [])
    → Within after before old g p n → Enters old new n t to → Within after before new g (p ++ t ∷ []) to
enter_part after before old new n to g p t is w (inl e) = (
  w.0,
  subst (λ (x : List Node). IsPart after before x w.0) (sym e.0) w.1,
  w.1.tree.follows n to g p t w.2 e.1,
)
enter_part after before old new n to g p t is w (inr e) = (
  w.0 ++ spot g (p ++ t ∷ []) ∷ [],
  grow_part after before old new w.0 n g p t w.1 w.2 is e.1,
  subst (λ (x : ℕ). slice_get (w.0 ++ spot g (p ++ t ∷ []) ∷ []) x ≡ Some (spot g (p ++ t ∷ []))) (sym (e.0 ∙ w.1.tree.each)) (get_last w.0 _),
)

pub within_nodes : (after before : List Definition) (nodes : List Node) (g : Group) (p : Path) (at : ℕ) → Within after before nodes g p at → at < length nodes
within_nodes after before nodes g p at w =
    let below = slice_get_within w.0 at (spot g p) w.2 in
    let each = w.1.tree.each in
    omega arith

-- at first the root stands for no names
pub begin_within : (ds : List Definition) (d : Definition) (nodes : List Node) (at : ℕ) → IsTable ds nodes → at ≡ root d.group → Within (ds ++ d ∷ []) ds nodes d.group [] at
begin_within ds d nodes at table e =
    (table.0, begin ds d nodes table, ap (λ i. slice_get table.0 i) e ∙ table.1.tree.roots d.group)

-- and then each node for one name more
pub enter_step : (ds : List Definition) (d : Definition) (old new : List Node) (n to i : ℕ) (t : List ℕ) → i < length d.name → t ≡ get_or d.name i t
    → Within (ds ++ d ∷ []) ds old d.group (take i d.name) n → Enters old new n t to → Within (ds ++ d ∷ []) ds new d.group (take (i + 1) d.name) to
enter_step ds d old new n to i t below is w enters =
    let at = slice_get_read d.name (length d.name) i t refl below is in
    let parts = whole d.name i t at in
    let known : IsKnown (ds ++ d ∷ []) d.group (take i d.name ++ t ∷ []) = (length ds, parts.0, named_last ds d d.group ((take i d.name ++ t ∷ []) ++ parts.0) refl parts.1) in
    subst (λ (p : Path). Within (ds ++ d ∷ []) ds new d.group p to) (sym (take_next d.name i t at))
    (enter_part (ds ++ d ∷ []) ds old new n to d.group (take i d.name) t known w enters)

-- the node says the number of a definition more
module _ (ds : List Definition) (d : Definition) where
  keeps_first : (g : Group) (p : Path) (k : ℕ) → IsFirst ds g p k → IsFirst (ds ++ d ∷ []) g p k
  keeps_first g p k f = record {
    named = named_more ds (d ∷ []) g p k f.named;
    first = λ j below n. elim (named_cases ds d g p j n) [
      | inl old ↦ f.first j below old
      | inr last ↦ let w = named_within ds g p k f.named in let e = last.0 in omega arith
    ];
  }

  says_more : (g : Group) (p : Path) (o : Option ℕ) → (d.group ≡ g → d.name ≡ p → ⊥) → SaysFirst ds g p o → SaysFirst (ds ++ d ∷ []) g p o
  says_more g p o other s = record {
    holds = λ k e. keeps_first g p k (s.holds k e);
    none = λ k e n. elim (named_cases ds d g p k n) [ inl old ↦ s.none k e old | inr last ↦ other last.1 last.2 ];
  }

  says_number : (o : Option ℕ) → SaysFirst ds d.group d.name o → SaysFirst (ds ++ d ∷ []) d.group d.name (or_number o (length ds))
  says_number None s = record {
    holds = λ k e.
        let at : length ds ≡ k = same_some e in
        let f : IsFirst (ds ++ d ∷ []) d.group d.name (length ds) = record {
          named = named_last ds d d.group d.name refl refl;
          first = λ j below n. elim (named_cases ds d d.group d.name j n) [ inl old ↦ s.none j refl old | inr last ↦ let e = last.0 in omega arith ];
        } in
        subst (λ (x : ℕ). IsFirst (ds ++ d ∷ []) d.group d.name x) at f;
    none = λ k e. cc;
  }
  says_number (Some i) s = record { holds = λ k e. keeps_first d.group d.name k (s.holds k e); none = λ k e. cc }

  pub finish : (old new : List Node) (n : ℕ) → Within (ds ++ d ∷ []) ds old d.group d.name n → Says old new n (length ds) → IsTable (ds ++ d ∷ []) new
  finish old new n w says = (
    w.0,
    record {
      tree = retree old new w.0 says.as_long says.steps w.1.tree;
      known = w.1.known;
      found = λ g p k. elim (named_cases ds d g (p ++ k.1) k.0 k.2) [
        | inl was ↦ w.1.found g p (k.0, k.1, was)
        | inr last ↦
            let at = w.1.tree.closed n d.group p k.1 (w.2 ∙ ap (λ (x : Path). Some (spot d.group x)) last.2) in
            (at.0, at.1 ∙ ap (λ (x : Group). Some (spot x p)) last.1)
      ];
      says = λ j g p e. elim (cases_eq j n) [
        | inl same ↦
            let s : spot d.group d.name ≡ spot g p = same_some (sym w.2 ∙ ap (λ i. slice_get w.0 i) (sym same) ∙ e) in
            let told = says_number (meaning_at old n) (w.1.says n d.group d.name w.2) in
            subst (λ (x : Group). SaysFirst (ds ++ d ∷ []) x p (meaning_at new j)) (group_same s)
            (subst (λ (x : Path). SaysFirst (ds ++ d ∷ []) d.group x (meaning_at new j)) (names_same s)
            (says_same (ds ++ d ∷ []) d.group d.name _ _ (sym (ap (λ i. meaning_at new i) same ∙ says.here)) told))
        | inr other ↦
            let apart : d.group ≡ g → d.name ≡ p → ⊥ = λ a b. other (w.1.tree.single j n (spot g p) e (w.2 ∙ (λ i. Some (spot (a i) (b i))))) in
            says_same (ds ++ d ∷ []) g p _ _ (sym (says.others j other)) (says_more g p (meaning_at old j) apart (w.1.says j g p e))
      ];
    },
  )

  earlier_told : (o : Option ℕ) → SaysFirst ds d.group d.name o → MatchBool (is_some o) (HasEarlier ds d) (HasEarlier ds d → ⊥)
  earlier_told None s = λ h. s.none h.0 refl h.1
  earlier_told (Some k) s = (k, (s.holds k refl).named)

  -- whether one before has the group and the name is what the node said
  pub earlier_said : (old : List Node) (n : ℕ) (b : Bool) → b ≡ is_some (meaning_at old n) → Within (ds ++ d ∷ []) ds old d.group d.name n → MatchBool b (HasEarlier ds d) (HasEarlier ds d → ⊥)
  earlier_said old n b e w = subst (λ (x : Bool). MatchBool x (HasEarlier ds d) (HasEarlier ds d → ⊥)) (sym e) (earlier_told (meaning_at old n) (w.1.says n d.group d.name w.2))
