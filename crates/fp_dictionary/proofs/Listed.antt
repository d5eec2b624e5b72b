-- Four lists that are put behind another, one after the other.
use Rattle.std.proofs.Common.{◌≡◌, ◌∙◌, List, ◌++◌, ap}
use Rattle.std.proofs.lemmas.List.{append_assoc}

pub four_behind : {A : Type 0} (start x y z last a b c d : List A) → x ≡ start ++ a → y ≡ x ++ b → z ≡ y ++ c → last ≡ z ++ d → last ≡ start ++ (a ++ b ++ c ++ d)
four_behind {A = A} start x y z last a b c d e f g h =
    let two = f ∙ ap (λ (l : List A). l ++ b) e ∙ append_assoc start a b in
    let three = g ∙ ap (λ (l : List A). l ++ c) two ∙ append_assoc start (a ++ b) c in
    h ∙ ap (λ (l : List A). l ++ d) three ∙ append_assoc start (a ++ b ++ c) d
