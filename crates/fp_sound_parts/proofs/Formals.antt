-- Parameters: where none is repeated they differ, and they have what those have that are written.
use Rattle.std.proofs.Common.{◌≡◌, ℕ, true, List, [], ◌∷◌, map, refl, ap, ◌∙◌}
use Rattle.std.specs.Str.{bytes_eq}
use Rattle.std.proofs.lemmas.List.Folds.{list_all-map}
use Rattle.fp_base.specs.Least.{IsUnbroken, broken_at}
use Rattle.fp_base.specs.Names.{is_name}
use Rattle.fp_base.specs.declared.rule.Rule.TheVariants.{ParameterRepeated}
use Rattle.fp_base.proofs.Bytes.{same_bytes}
use Rattle.fp_tables.specs.Components.{names_of}
use Rattle.fp_tables.specs.Names.{texts_differ}
use Rattle.fp_tables.specs.Positions as positions
use Rattle.fp_tables.specs.Sound as sound
use Rattle.fp_tables.specs.declared.kind.Formal.{Formal}
use Rattle.fp_tables.proofs.Indexed.{mapped_apart}
use Rattle.fp_written_parts.specs.declared.port.WrittenFormal.{WrittenFormal}
use Rattle.fp_dictdefs.specs.Broken.{RepeatedFormals}
use Rattle.fp_components.specs.Resolved.{formal_of, formals_of}
use Rattle.fp_sound_parts.specs.Ready.{formals_have_names, formals_lie}

names_alike : (fs : List WrittenFormal) → names_of (formals_of fs) ≡ map (λ (f : WrittenFormal). f.name) fs
names_alike [] = refl
names_alike (f ∷ fs) = ap (λ (ns : List (List ℕ)). f.name ∷ ns) (names_alike fs)

pub formals_apart : (fs : List WrittenFormal) → IsUnbroken (RepeatedFormals fs) → texts_differ (names_of (formals_of fs)) ≡ true
formals_apart fs unbroken =
    ap texts_differ (names_alike fs)
    ∙ mapped_apart bytes_eq (λ (f : WrittenFormal). f.name) fs
    (λ j k x y low d e same.
    unbroken (broken_at ParameterRepeated y.at) (k, y, e, (refl, (y.name, j, low, (x, d, same_bytes x.name y.name same), (y, e, refl)))))

pub formals_named : (fs : List WrittenFormal) → formals_have_names fs ≡ true → sound.formals_have_names (formals_of fs) ≡ true
formals_named fs h = list_all-map (λ (f : Formal). is_name f.name) formal_of fs ∙ h

pub formals_lying : (types : ℕ) (fs : List WrittenFormal) → formals_lie types fs ≡ true → positions.formals_lie types (formals_of fs) ≡ true
formals_lying types fs h = list_all-map (λ (f : Formal). positions.kind_lies types f.kind) formal_of fs ∙ h
