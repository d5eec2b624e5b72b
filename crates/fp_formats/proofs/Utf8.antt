-- Where UTF-8 may be cut and what keeps it.
use Rattle.std.proofs.Common.{ℕ, ◌<◌, ◌+◌, List, [], ◌∷◌, ◌++◌, length, sym, subst, append_assoc, arith, length-append}
use Rattle.std.specs.Str.{IsUtf8}
use Rattle.std.proofs.lemmas.Str.{IsUtf8-append, IsUtf8-take, IsUtf8-drop, IsCharBoundary-before_ascii, IsCharBoundary-after_ascii}
use Rattle.std.proofs.Math.ListN.{take, drop, get_or}
use Rattle.std.proofs.Math.Seq.{take-append_seam, drop-append-add, get_or-append_seam}

within : (a c : List ℕ) (b : ℕ) → length a < length (a ++ (b ∷ c))
within a c b = rw (length-append a (b ∷ c)) (omega arith)

pub before_ascii : (a c : List ℕ) (b : ℕ) → b < 128 → IsUtf8 (a ++ (b ∷ c)) → IsUtf8 a
before_ascii a c b low u =
    let here : get_or (a ++ (b ∷ c)) (length a) 0 < 128 = rw (get_or-append_seam a b c 0) low in
    let cut : IsUtf8 (take (length a) (a ++ (b ∷ c))) = IsUtf8-take (a ++ (b ∷ c)) (length a) u (IsCharBoundary-before_ascii (a ++ (b ∷ c)) (length a) (within a c b) here) in
    subst IsUtf8 (take-append_seam a (b ∷ c)) cut

pub after_ascii : (a c : List ℕ) (b : ℕ) → b < 128 → IsUtf8 (a ++ (b ∷ c)) → IsUtf8 c
after_ascii a c b low u =
    let here : get_or (a ++ (b ∷ c)) (length a) 0 < 128 = rw (get_or-append_seam a b c 0) low in
    let cut : IsUtf8 (drop (length a + 1) (a ++ (b ∷ c))) = IsUtf8-drop (a ++ (b ∷ c)) (length a + 1) u (IsCharBoundary-after_ascii (a ++ (b ∷ c)) (length a) u (within a c b) here) in
    subst IsUtf8 (drop-append-add a (b ∷ c) 1) cut

-- from one ASCII byte to the next
pub from_ascii : (a c : List ℕ) (b : ℕ) → b < 128 → IsUtf8 (a ++ (b ∷ (b ∷ c))) → IsUtf8 ((a ++ (b ∷ [])) ++ c)
from_ascii a c b low u =
    let left : IsUtf8 a = before_ascii a (b ∷ c) b low u in
    let right : IsUtf8 (b ∷ c) = after_ascii a (b ∷ c) b low u in
    let whole : IsUtf8 (a ++ (b ∷ c)) = IsUtf8-append a (b ∷ c) left right in
    subst IsUtf8 (sym (append_assoc a (b ∷ []) c)) whole
