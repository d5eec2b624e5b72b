-- The labels of a sound model's ports are lanes of a topology's ends.
use Rattle.std.proofs.Common.{◌≡◌, ◌∙◌, ap, refl, sym, subst, ℕ, zero, suc, ◌<◌, inl, inr, true, List, [], ◌∷◌, length, Option, None, Some, slice_get, get_or, arith}
use Rattle.std.specs.Prelude.{◌↔◌, unwrap_or}
use Rattle.std.specs.List.{list_all}
use Rattle.std.specs.Option.{option_and_then, option_map}
use Rattle.std.proofs.lemmas.Option.{slice_get-get_or, slice_get_within}
use Rattle.fp_tables.specs.Lists.{some_and}
use Rattle.fp_tables.specs.Positions.{has_port, link_lies}
use Rattle.fp_tables.specs.declared.component.Port.{Port}
use Rattle.fp_tables.specs.declared.component.Component.{Component}
use Rattle.fp_tables.specs.declared.topology.Instance.{Instance}
use Rattle.fp_tables.specs.declared.topology.Link.{Link}
use Rattle.fp_tables.specs.declared.model.Model.{Model}
use Rattle.fp_base.proofs.Options.{same_some}
use Rattle.fp_base.proofs.Numbers.{same_number}
use Rattle.fp_numbering.specs.declared.tips.Tip.{Tip}
use Rattle.fp_numbering.specs.Ends.{size_of, matches_of, from_tip, to_tip, tips_of}
use Rattle.fp_numbering.specs.Keys.{linked}
use Rattle.fp_numbering.specs.Labels.{labels_at, label_at, AreAllLabels, AreSound}
use Rattle.fp_numbering.specs.Origins.{AreLanes}
use Rattle.fp_numbering.proofs.Unique.{both_left, both_right}
use Rattle.fp_numbering.proofs.Joining.{Member}
use Rattle.fp_numbering.proofs.Keying.{ways}
use Rattle.fp_numbering.proofs.Sourcing.{member_contains}

module _ (m : Model) where
  -- an end is at a port, and has its size
  pub record IsPlaced (t : Tip) : Type 0 where
    pub port : has_port m t.instance t.port ≡ true
    pub size : t.size ≡ size_of m t.instance t.port

  placed : (links : List Link) (k : ℕ) (t : Tip) → list_all (link_lies m) links ≡ true → slice_get (tips_of m links) k ≡ Some t → IsPlaced t
  placed [] k t h at = cc
  placed (l ∷ links) zero t h at =
      let is : from_tip m l ≡ t = same_some at in
      let here = both_left (link_lies m l) (list_all (link_lies m) links) h in
      subst (λ (u : Tip). IsPlaced u) is (record { port = both_left (has_port m l.from l.from_port) (has_port m l.to l.to_port) here; size = refl })
  placed (l ∷ links) (suc zero) t h at =
      let is : to_tip m l ≡ t = same_some at in
      let here = both_left (link_lies m l) (list_all (link_lies m) links) h in
      subst (λ (u : Tip). IsPlaced u) is (record { port = both_right (has_port m l.from l.from_port) (has_port m l.to l.to_port) here; size = refl })
  placed (l ∷ links) (suc (suc k)) t h at = placed links k t (both_right (link_lies m l) (list_all (link_lies m) links) h) at

  -- the component of an instance that has a port
  pub record HasComponent (i p : ℕ) : Type 0 where
    pub instance : Instance
    pub component : Component
    pub at : slice_get m.instances i ≡ Some instance
    pub there : slice_get m.components instance.component ≡ Some component
    pub below : p < length component.ports

  has_component : (i p : ℕ) → has_port m i p ≡ true → HasComponent i p
  has_component i p h = by (slice_get m.instances i) refl h
    where
      by_port : (x : Instance) (c : Component) → slice_get m.instances i ≡ Some x → slice_get m.components x.component ≡ Some c → (o : Option Port) → slice_get c.ports p ≡ o → some_and (λ _. true) o ≡ true → HasComponent i p
      by_port x c a b (Some q) e f = record { instance = x; component = c; at = a; there = b; below = slice_get_within c.ports p q e }
      by_port x c a b None e f = cc

      by_component : (x : Instance) → slice_get m.instances i ≡ Some x → (o : Option Component) → slice_get m.components x.component ≡ o → some_and (λ _. true) (option_and_then (λ (c : Component). slice_get c.ports p) o) ≡ true
          → HasComponent i p
      by_component x a (Some c) b f = by_port x c a b (slice_get c.ports p) refl f
      by_component x a None b f = cc

      by : (o : Option Instance) → slice_get m.instances i ≡ o
          → some_and (λ _. true) (option_and_then (λ (c : Component). slice_get c.ports p) (option_and_then (λ (x : Instance). slice_get m.components x.component) o)) ≡ true → HasComponent i p
      by (Some x) a f = by_component x a (slice_get m.components x.component) refl f
      by None a f = cc

  module _ (links : List Link) (sound : AreSound m links) (ls : List (List ℕ)) (labels : AreAllLabels m.components ls) where
    label_same : (i p r : ℕ) (h : HasComponent i p) → r < length h.component.ports → (label_at m ls i p ≡ label_at m ls i r) ↔ (linked (matches_of m i) p r ≡ true)
    label_same i p r h l =
        let row = get_or ls h.instance.component [] in
        let within = slice_get_within m.components h.instance.component h.component h.there in
        let row_at : slice_get ls h.instance.component ≡ Some row = slice_get-get_or ls h.instance.component [] (omega (arith, labels.each)) in
        let rows : unwrap_or (labels_at m ls i) [] ≡ row =
        ap (λ (o : Option Instance). unwrap_or (option_and_then (λ (x : Instance). slice_get ls x.component) o) []) h.at ∙ ap (λ (o : Option (List ℕ)). unwrap_or o []) row_at in
        let ms : matches_of m i ≡ h.component.matches =
        ap (λ (o : Option Instance). unwrap_or (option_map (λ (c : Component). c.matches) (option_and_then (λ (x : Instance). slice_get m.components x.component) o)) []) h.at
        ∙ ap (λ (o : Option Component). unwrap_or (option_map (λ (c : Component). c.matches) o) []) h.there in
        let same = (labels.of h.instance.component h.component h.there).same p r h.below l in (
          λ e. subst (λ (qs : List (ℕ × ℕ)). linked qs p r ≡ true) (sym ms) (same.0 (ap (λ (x : List ℕ). get_or x p 0) (sym rows) ∙ e ∙ ap (λ (x : List ℕ). get_or x r 0) rows)),
          λ e. ap (λ (x : List ℕ). get_or x p 0) rows ∙ same.1 (subst (λ (qs : List (ℕ × ℕ)). linked qs p r ≡ true) ms e) ∙ ap (λ (x : List ℕ). get_or x r 0) (sym rows),
        )

    one_component : (i p r : ℕ) (h : HasComponent i p) → HasComponent i r → r < length h.component.ports
    one_component i p r h g =
        let x : h.instance ≡ g.instance = same_some (sym h.at ∙ g.at) in
        let c : h.component ≡ g.component = same_some (sym h.there ∙ ap (λ (y : Instance). slice_get m.components y.component) x ∙ g.there) in
        subst (λ (y : Component). r < length y.ports) (sym c) g.below

    size_same : (i : ℕ) (qs : List (ℕ × ℕ)) → ((q : ℕ × ℕ) → Member q qs → size_of m i q.0 ≡ size_of m i q.1) → (p r : ℕ) → linked qs p r ≡ true → size_of m i p ≡ size_of m i r
    size_same i [] each p r e = ap (λ (x : ℕ). size_of m i x) (same_number p r e)
    size_same i (q ∷ qs) each p r e =
        let here = each q (inl refl) in
        let rest = size_same i qs (λ x n. each x (inr n)) in
        elim (ways q qs p r e) [
          | inl a ↦ rest p r a
          | inr b ↦
              elim b [
                | inl x ↦ rest p q.0 x.0 ∙ here ∙ rest q.1 r x.1
                | inr y ↦ rest p q.1 y.0 ∙ sym here ∙ rest q.0 r y.1
              ]
        ]

    pub are_lanes : AreLanes (matches_of m) (tips_of m links) (label_at m ls)
    are_lanes =
        record {
          same = λ i j s t a b e.
              let x = placed links i s sound.ends a in
              let y = placed links j t sound.ends b in
              let h = has_component s.instance s.port x.port in
              let g = subst (λ (n : ℕ). HasComponent n t.port) (sym e) (has_component t.instance t.port y.port) in
              let r = label_same s.instance s.port t.port h (one_component s.instance s.port t.port h g) in
              (λ d. r.0 (d ∙ ap (λ (n : ℕ). label_at m ls n t.port) (sym e)), λ d. r.1 d ∙ ap (λ (n : ℕ). label_at m ls n t.port) e);
          sizes = λ i j s t a b e l.
              let x = placed links i s sound.ends a in
              let y = placed links j t sound.ends b in
              x.size ∙ size_same s.instance (matches_of m s.instance) (λ q n. sound.sizes s.instance q (member_contains (matches_of m s.instance) q n)) s.port t.port l ∙ ap (λ (n : ℕ). size_of m n t.port) e ∙ sym y.size;
        }
