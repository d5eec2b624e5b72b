-- The type behind aliases, as the crate of the tables finds it.
use Rattle.std.proofs.Common.{◌≡◌, ℕ, zero, suc, List, Option, Some, None, refl}
use Rattle.fp_tables.specs.Types.{form_at}
use Rattle.fp_tables.specs.Machines.{target_by, follow}
use Rattle.fp_tables.specs.declared.kind.Form.{Form}
use Rattle.fp_tables.specs.declared.kind.Form.TheVariants as form
use Rattle.fp_tables.specs.declared.kind.Kind.{Kind}
use Rattle.fp_tables.specs.declared.kind.Kind.TheVariants.{U8, U16, U32, U64, I8, I16, I32, I64, Bool, Str, Named}
use Rattle.fp_tables.specs.declared.kind.TypeDef.{TypeDef}
use Rattle.fp_dictionary.specs.Types.{underlying_by}

same_follow : (f g : Kind → Kind) → ((k : Kind) → f k ≡ g k) → (k : Kind) (o : Option Form) → follow f k o ≡ follow g k o
same_follow f g same k None = refl
same_follow f g same k (Some form.Abstract) = refl
same_follow f g same k (Some (form.Alias next)) = same next
same_follow f g same k (Some (form.Array size element format)) = refl
same_follow f g same k (Some (form.Struct fields)) = refl
same_follow f g same k (Some (form.Enum repr constants)) = refl

pub same_target : (types : List TypeDef) (n : ℕ) (k : Kind) → underlying_by types n k ≡ target_by types n k
unfolding target_by
same_target types zero k = refl
same_target types (suc n) U8 = refl
same_target types (suc n) U16 = refl
same_target types (suc n) U32 = refl
same_target types (suc n) U64 = refl
same_target types (suc n) I8 = refl
same_target types (suc n) I16 = refl
same_target types (suc n) I32 = refl
same_target types (suc n) I64 = refl
same_target types (suc n) Bool = refl
same_target types (suc n) (Str size) = refl
same_target types (suc n) (Named i) = same_follow _ _ (same_target types n) (Named i) (form_at types i)
