-- Kinds that a test finds equal.
use Rattle.std.proofs.Common.{◌≡◌, true, refl, ap}
use Rattle.fp_base.proofs.Sameness.{nat_same}
use Rattle.fp_base.proofs.Numbers.{number_itself}
use Rattle.fp_tables.specs.Components.{same_kind}
use Rattle.fp_tables.specs.declared.kind.Kind.{Kind}
use Rattle.fp_tables.specs.declared.kind.Kind.TheVariants as kind

pub same_kind_is : (j k : Kind) → same_kind j k ≡ true → j ≡ k
same_kind_is kind.U8 kind.U8 h = refl
same_kind_is kind.U16 kind.U16 h = refl
same_kind_is kind.U32 kind.U32 h = refl
same_kind_is kind.U64 kind.U64 h = refl
same_kind_is kind.I8 kind.I8 h = refl
same_kind_is kind.I16 kind.I16 h = refl
same_kind_is kind.I32 kind.I32 h = refl
same_kind_is kind.I64 kind.I64 h = refl
same_kind_is kind.Bool kind.Bool h = refl
same_kind_is (kind.Str m) (kind.Str n) h = ap kind.Str (nat_same.equal m n h)
same_kind_is (kind.Named m) (kind.Named n) h = ap kind.Named (nat_same.equal m n h)
same_kind_is _ _ h = absurd (cc)

pub kind_itself : (k : Kind) → same_kind k k ≡ true
kind_itself (kind.Str n) = number_itself n
kind_itself (kind.Named n) = number_itself n
kind_itself k = refl
