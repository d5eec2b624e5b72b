-- A wire beside its connection: its ports, and its numbers as those of the connection's two ends.
use Rattle.std.proofs.Common.{◌≡◌, ◌∙◌, ap, refl, sym, ℕ, zero, suc, ◌<◌, List, [], ◌∷◌, map, Option, Some, slice_get, arith}
use Rattle.fp_base.proofs.Lists.{head_same, tail_same}
use Rattle.fp_tables.specs.declared.topology.Link.{Link}
use Rattle.fp_tables.specs.declared.topology.Wire.{Wire}
use Rattle.fp_tables.specs.declared.model.Model.{Model}
use Rattle.fp_numbering.specs.Answers.{numbers_of, ends_of_link, ends_of_wire}
use Rattle.fp_numbering.specs.Ends.{from_tip, to_tip, tips_of}

pub record IsOf (w : Wire) (l : Link) : Type 0 where
  pub from : w.from.instance ≡ l.from
  pub from_port : w.from.port ≡ l.from_port
  pub to : w.to.instance ≡ l.to
  pub to_port : w.to.port ≡ l.to_port

abbrev Ends : Type 0
Ends = (ℕ × ℕ) × (ℕ × ℕ)

is_of : (w : Wire) (l : Link) → ends_of_wire w ≡ ends_of_link l → IsOf w l
is_of w l e =
    record {
      from = ap (λ (x : Ends). x.0.0) e;
      from_port = ap (λ (x : Ends). x.0.1) e;
      to = ap (λ (x : Ends). x.1.0) e;
      to_port = ap (λ (x : Ends). x.1.1) e;
    }

pub beside : (links : List Link) (wires : List Wire) → map ends_of_wire wires ≡ map ends_of_link links → (k : ℕ) (w : Wire) → slice_get wires k ≡ Some w
    → (l : Link) × (slice_get links k ≡ Some l) × IsOf w l
beside links [] e k w at = absurd (cc)
beside [] (v ∷ wires) e k w at = absurd (cc)
beside (l ∷ links) (v ∷ wires) e zero w at =
    let same : v ≡ w = cc in
    let ends : ends_of_wire v ≡ ends_of_link l = head_same (ends_of_wire v) (ends_of_link l) (map ends_of_wire wires) (map ends_of_link links) e in
    (l, refl, is_of w l (ap ends_of_wire (sym same) ∙ ends))
beside (l ∷ links) (v ∷ wires) e (suc k) w at =
    beside links wires (tail_same (ends_of_wire v) (ends_of_link l) (map ends_of_wire wires) (map ends_of_link links) e) k w at

-- ---- the places of the two ends

abbrev pub place : ℕ → ℕ
place zero = zero
place (suc k) = suc (suc (place k))

pub places_rise : (j k : ℕ) → j < k → place j < place k
places_rise j zero l = absurd (omega arith)
places_rise zero (suc k) l = omega arith
places_rise (suc j) (suc k) l = let rest = places_rise j k (omega arith) in omega arith

pub from_tip_at : (m : Model) (links : List Link) (k : ℕ) (l : Link) → slice_get links k ≡ Some l → slice_get (tips_of m links) (place k) ≡ Some (from_tip m l)
from_tip_at m [] k l at = absurd (cc)
from_tip_at m (x ∷ links) zero l at = let same : x ≡ l = cc in ap (λ (y : Link). Some (from_tip m y)) same
from_tip_at m (x ∷ links) (suc k) l at = from_tip_at m links k l at

pub to_tip_at : (m : Model) (links : List Link) (k : ℕ) (l : Link) → slice_get links k ≡ Some l → slice_get (tips_of m links) (suc (place k)) ≡ Some (to_tip m l)
to_tip_at m [] k l at = absurd (cc)
to_tip_at m (x ∷ links) zero l at = let same : x ≡ l = cc in ap (λ (y : Link). Some (to_tip m y)) same
to_tip_at m (x ∷ links) (suc k) l at = to_tip_at m links k l at

abbrev pub numbered : ℕ → Option (Option ℕ)
numbered n = Some (Some n)

pub from_number_at : (wires : List Wire) (k : ℕ) (w : Wire) → slice_get wires k ≡ Some w → slice_get (numbers_of wires) (place k) ≡ Some (Some w.from.number)
from_number_at [] k w at = absurd (cc)
from_number_at (v ∷ wires) zero w at = let same : v ≡ w = cc in ap (λ (x : Wire). numbered x.from.number) same
from_number_at (v ∷ wires) (suc k) w at = from_number_at wires k w at

pub to_number_at : (wires : List Wire) (k : ℕ) (w : Wire) → slice_get wires k ≡ Some w → slice_get (numbers_of wires) (suc (place k)) ≡ Some (Some w.to.number)
to_number_at [] k w at = absurd (cc)
to_number_at (v ∷ wires) zero w at = let same : v ≡ w = cc in ap (λ (x : Wire). numbered x.to.number) same
to_number_at (v ∷ wires) (suc k) w at = to_number_at wires k w at
