-- What the numbers of connections break is broken at written numbers, or at connections.
use Rattle.std.proofs.Common.{◌≡◌, ℕ, List, [], ◌∷◌, Some, inl, inr, subst}
use Rattle.std.specs.Prelude.{slice_get}
use Rattle.std.specs.List.{AllByRecursion as Each}
use Rattle.fp_base.specs.declared.place.Place.{Place}
use Rattle.fp_base.specs.declared.refusal.Refusal.{Refusal}
use Rattle.fp_base.proofs.Lists.{InOption, each_flat, each_weaker, of_item}
use Rattle.fp_tables.specs.declared.model.Model.{Model}
use Rattle.fp_tables.specs.declared.topology.Link.{Link}
use Rattle.fp_tables.specs.declared.topology.Topology.{Topology}
use Rattle.fp_numbering.specs.declared.tips.Tip.{Tip}
use Rattle.fp_numbering.specs.Broken.{IsTipBroken}
use Rattle.fp_numbering.specs.Ends.{from_tip, matches_of, tips_of, to_tip}
use Rattle.fp_numbering.specs.Wired.{NumbersBroken}
use Rattle.fp_source_laws.proofs.LinkPlaces.{LinkStands, NumberStands}
use Rattle.fp_source_laws.proofs.Parted.{same_place}

module _ (G : Place → Type 0) where
  record TipStands (t : Tip) : Type 0 where
    pub here : G t.at
    pub of_written : InOption (NumberStands G) t.written

  tips_stand : (m : Model) (links : List Link) → Each (LinkStands G) links → Each TipStands (tips_of m links)
  tips_stand m links h =
      each_flat TipStands (λ (l : Link). from_tip m l ∷ to_tip m l ∷ []) links
      (each_weaker (LinkStands G) (λ (l : Link). Each TipStands (from_tip m l ∷ to_tip m l ∷ []))
      (λ l k. (record { here = k.here; of_written = k.of_from }, (record { here = k.here; of_written = k.of_to }, tt))) links h)

  tip_placed : (matches : ℕ → List (ℕ × ℕ)) (ts : List Tip) (k : ℕ) (t : Tip) (f : Refusal) → TipStands t → IsTipBroken matches ts k t f → G f.place
  tip_placed matches ts k t f h (inl (w, written, below, is)) = same_place G f _ is (subst (InOption (NumberStands G)) written h.of_written)
  tip_placed matches ts k t f h (inr (inl (j, s, z, before, there, begun, begins, together, said, again, is))) = same_place G f _ is h.here
  tip_placed matches ts k t f h (inr (inr (inl (q, among, stands, matched, none, is)))) = same_place G f _ is h.here
  tip_placed matches ts k t f h (inr (inr (inr (inl (q, j, s, among, stands, before, there, alike, port, is))))) = same_place G f _ is h.here
  tip_placed matches ts k t f h (inr (inr (inr (inr (inl (g, j, s, y, z, among, whole, of, to, before, there, one, other, differ, is)))))) = same_place G f _ is h.here
  tip_placed matches ts k t f h (inr (inr (inr (inr (inr (ns, numbered, none, asks, is)))))) = same_place G f _ is h.here

  -- where all connections of each topology stand
  pub numbers_placed : (m : Model) (f : Refusal) → ((t : ℕ) (o : Topology) → slice_get m.topologies t ≡ Some o → Each (LinkStands G) o.links) → NumbersBroken m f → G f.place
  numbers_placed m f h (t, o, at, (k, tip, there, b)) =
      tip_placed (matches_of m) (tips_of m o.links) k tip f (of_item TipStands (tips_of m o.links) k tip (tips_stand m o.links (h t o at)) there) b
