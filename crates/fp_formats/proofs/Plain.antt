-- A text without fields as a format.
use Rattle.std.proofs.Common.{◌≡◌, ℕ, true, List, [], ◌∷◌, refl, sym, ◌∙◌, append-nil}
use Rattle.std.specs.Prelude.{flat_map}
use Rattle.fp_base.specs.Rendered.{rendered}
use Rattle.fp_formats.specs.Fits.{fits}
use Rattle.fp_base.specs.Formats.{doubled}
use Rattle.fp_formats.specs.Spelling.{IsFormat}
use Rattle.fp_formats.specs.Marks.{pending}
use Rattle.fp_formats.proofs.Steps.{spelling_pending}

pub plain_format : (text plain : List ℕ) → text ≡ flat_map doubled plain → IsFormat text (pending plain)
plain_format text [] e = record { spells = e; whole = refl }
plain_format text (b ∷ s) e = record { spells = e ∙ sym (spelling_pending (b ∷ s)); whole = refl }

pub plain_fits : (plain : List ℕ) → fits (pending plain) [] ≡ true
plain_fits [] = refl
plain_fits (b ∷ s) = refl

pub plain_rendered : (plain : List ℕ) → rendered (pending plain) [] ≡ plain
plain_rendered [] = refl
plain_rendered (b ∷ s) = append-nil (b ∷ s)
