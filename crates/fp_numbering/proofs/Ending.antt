-- What the walks over a topology's connections give.
use Rattle.std.proofs.Common.{◌≡◌, ◌∙◌, ap, refl, sym, subst, ℕ, ◌*◌, ◌<◌, List, [], ◌∷◌, length, true, Option, None, Some, slice_get, get_or, arith}
use Rattle.std.specs.Prelude.{is_some}
use Rattle.fp_base.specs.declared.refusal.Refusal.{Refusal}
use Rattle.fp_base.specs.Least.{IsLeast, IsUnbroken}
use Rattle.fp_tables.specs.declared.topology.Link.{Link}
use Rattle.fp_tables.specs.declared.model.Model.{Model}
use Rattle.fp_numbering.specs.declared.tips.Tip.{Tip}
use Rattle.fp_numbering.specs.declared.walked.Walked.{Walked}
use Rattle.fp_numbering.specs.Ends.{matches_of, tips_of}
use Rattle.fp_numbering.specs.Pairs.{first_of}
use Rattle.fp_numbering.specs.Numbers.{source_of, Numbered}
use Rattle.fp_numbering.specs.Numbers.Source.{Paired}
use Rattle.fp_numbering.specs.Broken.{Breaks}
use Rattle.fp_numbering.specs.Labels.{label_at, AreSound}
use Rattle.fp_numbering.specs.Origins.{AreOrigins, AreLanes}
use Rattle.fp_numbering.specs.Walked.{AreWalked, BreaksWalked}
use Rattle.fp_numbering.proofs.Sourcing.{first_source}
use Rattle.fp_numbering.proofs.Classing.{origins}
use Rattle.fp_numbering.proofs.Walkings.{by_walks, paired_number, number_at}
use Rattle.fp_numbering.proofs.Breaking.{least_broken, unbroken}
use Rattle.fp_numbering.proofs.Having.{all_have}
use Rattle.fp_numbering.proofs.Sized.{are_lanes}

two_each : (m : Model) (links : List Link) → length (tips_of m links) ≡ 2 * length links
two_each m [] = refl
two_each m (l ∷ links) = let rest : length (tips_of m links) ≡ 2 * length links = two_each m links in omega arith

module _ (m : Model) (ts : List Tip) (w : Walked) (walked : AreWalked m ts w) (lanes : AreLanes (matches_of m) ts (label_at m w.labels)) where
  are : AreOrigins (matches_of m) ts w.origins
  are = origins (matches_of m) ts (label_at m w.labels) lanes w.looks walked.looks w.origins walked.origins

  numbered_by : Numbered (matches_of m) ts w.numbers
  numbered_by = by_walks (matches_of m) ts w.origins are (label_at m w.labels) lanes w.lanes w.ports w.found w.numbers walked.lanes walked.found walked.ports walked.numbers

  least_by : (o : Option Refusal) → IsLeast (BreaksWalked m ts w) o → IsLeast (Breaks (matches_of m) ts) o
  least_by o l =
      least_broken (matches_of m) ts w.origins are (label_at m w.labels) lanes w.lanes w.ports w.found w.numbers walked.lanes walked.found walked.ports walked.numbers w.said walked.said o l

  unbroken_by : IsLeast (BreaksWalked m ts w) None → IsUnbroken (Breaks (matches_of m) ts)
  unbroken_by l =
      unbroken (matches_of m) ts w.origins are (label_at m w.labels) lanes w.lanes w.ports w.found w.numbers walked.lanes walked.found walked.ports walked.numbers w.said walked.said l

  first_has : (k : ℕ) (t : Tip) (g : List ℕ) → slice_get ts k ≡ Some t → slice_get w.numbers k ≡ Some None → source_of (matches_of m) ts t k ≡ Paired g
      → slice_get w.numbers (first_of (matches_of m) ts g) ≡ Some None
  first_has k t g at there e =
      let r = first_source (matches_of m) ts t k g e in
      let f = r.0 in
      let here : None ≡ get_or w.found (first_of (matches_of m) ts g) None =
      paired_number (matches_of m) ts w.origins are (label_at m w.labels) lanes w.lanes w.ports w.found w.numbers walked.lanes walked.found walked.ports walked.numbers k t None g at there e in
      let n = number_at (matches_of m) ts w.origins are (label_at m w.labels) lanes w.lanes w.ports w.found w.numbers walked.lanes walked.found walked.ports walked.numbers f r.1 r.3.end.at in
      let number : get_or w.numbers f None ≡ get_or w.found (first_of (matches_of m) ts r.2) None =
      paired_number (matches_of m) ts w.origins are (label_at m w.labels) lanes w.lanes w.ports w.found w.numbers walked.lanes walked.found walked.ports walked.numbers f r.1 (get_or w.numbers f None) r.2 r.3.end.at n
      r.3.source in
      ap (λ (x : ℕ). slice_get w.numbers x) r.3.end.first ∙ n
      ∙ ap (λ (x : Option ℕ). Some x) (number ∙ ap (λ (x : ℕ). get_or w.found x None) (r.3.first ∙ sym r.3.end.first) ∙ sym here)

  all_by : IsLeast (BreaksWalked m ts w) None → (k : ℕ) → k < length w.numbers → is_some (get_or w.numbers k None) ≡ true
  all_by l k lt = all_have (matches_of m) ts (label_at m w.labels) lanes w.numbers numbered_by (unbroken_by l) first_has k lt

module _ (m : Model) (links : List Link) (sound : AreSound m links) (ts : List Tip) (is : ts ≡ tips_of m links) (w : Walked) (walked : AreWalked m ts w) where
  pub lanes_of_tips : AreLanes (matches_of m) ts (label_at m w.labels)
  lanes_of_tips = subst (λ (us : List Tip). AreLanes (matches_of m) us (label_at m w.labels)) (sym is) (are_lanes m links sound w.labels walked.labels)

  pub numbered : Numbered (matches_of m) (tips_of m links) w.numbers
  numbered = subst (λ (us : List Tip). Numbered (matches_of m) us w.numbers) is (numbered_by m ts w walked lanes_of_tips)

  pub least : (o : Option Refusal) → IsLeast (BreaksWalked m ts w) o → IsLeast (Breaks (matches_of m) (tips_of m links)) o
  least o l = subst (λ (us : List Tip). IsLeast (Breaks (matches_of m) us) o) is (least_by m ts w walked lanes_of_tips o l)

  pub nothing : IsLeast (BreaksWalked m ts w) None → IsUnbroken (Breaks (matches_of m) (tips_of m links))
  nothing l = subst (λ (us : List Tip). IsUnbroken (Breaks (matches_of m) us)) is (unbroken_by m ts w walked lanes_of_tips l)

  pub all : IsLeast (BreaksWalked m ts w) None → (k : ℕ) → k < length w.numbers → is_some (get_or w.numbers k None) ≡ true
  all l k lt = all_by m ts w walked lanes_of_tips l k lt

  pub each : length w.numbers ≡ 2 * length links
  each = walked.numbers.each ∙ walked.ports.each ∙ ap (λ (us : List Tip). length us) is ∙ two_each m links
