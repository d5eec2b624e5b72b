-- A text is read as one format.
use Rattle.std.proofs.Common.{◌≡◌, ℕ, List}
use Rattle.fp_base.specs.declared.format.FormatPiece.{FormatPiece}
use Rattle.fp_formats.proofs.Pieces.{marks_of, same_pieces}
use Rattle.fp_formats.proofs.Readings.{one_reading, reads_format}
use Rattle.fp_formats.specs.Spelling.{IsFormat}

pub one_format : (text : List ℕ) (ps qs : List FormatPiece) → IsFormat text ps → IsFormat text qs → ps ≡ qs
one_format text ps qs h k =
    same_pieces ps qs h.whole k.whole (one_reading text _ _ (marks_of ps) (marks_of qs) (reads_format text ps h) (reads_format text qs k)).0
