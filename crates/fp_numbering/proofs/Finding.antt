-- What is found of topologies, one after another.
use Rattle.std.proofs.Common.{◌≡◌, ℕ, ◌+◌, ◌<◌, ◌⊎◌, inl, inr, Bool, true, false, cond, List, [], ◌∷◌, ◌++◌, length, slice_get, Option, Some, None, refl, sym, ap, subst, ◌∙◌, arith}
use Rattle.std.specs.Prelude.{option_map, unwrap_or}
use Rattle.std.proofs.lemmas.Option.{slice_get_within}
use Rattle.std.proofs.lemmas.List.{length-append}
use Rattle.fp_base.specs.declared.refusal.Refusal.{Refusal}
use Rattle.fp_base.specs.Least.{InFirst, InSome, IsLeast, IsUnbroken, lesser_of, no_later}
use Rattle.fp_base.proofs.Calculus.{least_along, least_none, least_same}
use Rattle.fp_base.proofs.Elements.{least_first_next, least_first_none, least_in_one}
use Rattle.fp_base.proofs.Spots.{get_push, item_below}
use Rattle.fp_tables.specs.declared.model.Model.{Model}
use Rattle.fp_tables.specs.declared.topology.Link.{Link}
use Rattle.fp_tables.specs.declared.topology.Topology.{Topology}
use Rattle.fp_tables.specs.declared.topology.Wire.{Wire}
use Rattle.fp_numbering.specs.Answers.{AreNumbered, links_of}
use Rattle.fp_numbering.specs.Broken.{Breaks}
use Rattle.fp_numbering.specs.Ends.{matches_of, tips_of}
use Rattle.fp_numbering.specs.Found.{AreFound, AreFoundFirst, IsFoundWith}
use Rattle.fp_numbering.specs.Wired.{BrokenIn}
use Rattle.fp_numbering.specs.declared.wiring.WiresFound.{WiresFound}

lesser_none : (a : Option Refusal) → lesser_of a None ≡ a
lesser_none None = refl
lesser_none (Some f) = refl

never_none : {A : Type 0} (a : Option Refusal) (f : Refusal) → lesser_of a (Some f) ≡ None → A
never_none None f e = absurd (cc)
never_none (Some g) f e = go (no_later g f) e
  where
    go : {A : Type 0} (b : Bool) → cond b (Some g) (Some f) ≡ None → A
    go true e = absurd (cc)
    go false e = absurd (cc)

abbrev pub found_with : List (List Wire) → Option Refusal → WiresFound
found_with ws first = record { wires = ws; first = first }

module _ (m : Model) where
  pub nothing_found : (found : WiresFound) → found ≡ record { wires = []; first = None } → AreFoundFirst m 0 found
  nothing_found found e =
      subst (λ (f : WiresFound). AreFoundFirst m 0 f) (sym e)
      (record { least = least_first_none (BrokenIn m) m.topologies; each = λ e. refl; numbered = λ e t o w at here. absurd (cc) })

  its_links : (t : ℕ) (o : Topology) → slice_get m.topologies t ≡ Some o → links_of m t ≡ o.links
  its_links t o at = ap (λ (x : Option Topology). unwrap_or (option_map (λ (o : Topology). o.links) x) []) at

  module _ (t : ℕ) (o : Topology) (at : slice_get m.topologies t ≡ Some o) where
    -- a topology that is numbered
    pub one_numbered : (before after : WiresFound) (row : List Wire) → AreNumbered m (links_of m t) row → after ≡ record { wires = before.wires ++ row ∷ []; first = before.first }
        → AreFoundFirst m t before → AreFoundFirst m (t + 1) after
    one_numbered before after row is made h =
        subst (λ (f : WiresFound). AreFoundFirst m (t + 1) f) (sym made)
        (record {
          least = least_along (lesser_none before.first) (least_first_next (BrokenIn m) m.topologies t before.first None h.least (least_in_one (BrokenIn m) m.topologies t o None at (least_none unbroken)));
          each = λ e. length-append before.wires (row ∷ []) ∙ (let n = h.each e in omega arith);
          numbered = λ e u p w there here. go e u p w there (get_push before.wires row w u here);
        })
      where
        now : AreNumbered m o.links row
        now = subst (λ (ls : List Link). AreNumbered m ls row) (its_links t o at) is

        unbroken : (f : Refusal) → BrokenIn m t o f → ⊥
        unbroken f b = now.unbroken f b

        go : before.first ≡ None → (u : ℕ) (p : Topology) (w : List Wire) → slice_get m.topologies u ≡ Some p → (slice_get before.wires u ≡ Some w) ⊎ ((u ≡ length before.wires) × (row ≡ w)) → AreNumbered m p.links w
        go e u p w there (inl here) = h.numbered e u p w there here
        go e u p w there (inr (spot, same)) =
            let as_it : o ≡ p = (let as_t : u ≡ t = spot ∙ h.each e in cc) in
            subst (λ (ws : List Wire). AreNumbered m p.links ws) same (subst (λ (x : Topology). AreNumbered m x.links row) as_it now)

    -- one that breaks a rule
    pub one_broken : (before after : WiresFound) (f : Refusal) → IsLeast (Breaks (matches_of m) (tips_of m (links_of m t))) (Some f)
        → after ≡ record { wires = before.wires; first = lesser_of before.first (Some f) } → AreFoundFirst m t before → AreFoundFirst m (t + 1) after
    one_broken before after f is made h =
        subst (λ (x : WiresFound). AreFoundFirst m (t + 1) x) (sym made)
        (record {
          least = least_first_next (BrokenIn m) m.topologies t before.first (Some f) h.least (least_in_one (BrokenIn m) m.topologies t o (Some f) at here);
          each = λ e. never_none before.first f e;
          numbered = λ e u p w there stands. never_none before.first f e;
        })
      where
        here : IsLeast (BrokenIn m t o) (Some f)
        here = subst (λ (ls : List Link). IsLeast (Breaks (matches_of m) (tips_of m ls)) (Some f)) (its_links t o at) is

  pub all_found : (t : ℕ) (found : WiresFound) → t ≡ length m.topologies → AreFoundFirst m t found → AreFound m found
  all_found t found all h =
      record {
        least = least_same (λ f b. (b.0, b.1, b.3, b.4)) (λ f b. (b.0, b.1, (let low = slice_get_within m.topologies b.0 b.1 b.2 in omega arith), b.2, b.3)) h.least;
        each = λ e. h.each e ∙ all;
        numbered = h.numbered;
      }

module _ (m : Model) (t at : ℕ) (same : at ≡ t) (lies : t < length m.topologies) where
  pub with_numbered : (before after : WiresFound) (row : List Wire) → AreNumbered m (links_of m at) row → after ≡ record { wires = before.wires ++ row ∷ []; first = before.first } → IsFoundWith m t before after
  with_numbered before after row is made =
      let one = item_below m.topologies t lies in
      one_numbered m t one.0 one.1 before after row (subst (λ (n : ℕ). AreNumbered m (links_of m n) row) same is) made

  pub with_broken : (before after : WiresFound) (f : Refusal) → IsLeast (Breaks (matches_of m) (tips_of m (links_of m at))) (Some f)
      → after ≡ record { wires = before.wires; first = lesser_of before.first (Some f) } → IsFoundWith m t before after
  with_broken before after f is made =
      let one = item_below m.topologies t lies in
      one_broken m t one.0 one.1 before after f (subst (λ (n : ℕ). IsLeast (Breaks (matches_of m) (tips_of m (links_of m n))) (Some f)) same is) made
