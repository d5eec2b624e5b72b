-- The ends of ports in a map, one port after another.
use Rattle.std.proofs.Common.{◌≡◌, ◌∙◌, ℕ, Bool, false, List, [], ◌∷◌, ◌++◌, Option, Some, None, cond, refl, sym, ap, bytes_eq, BTreeMap, nat_cmp}
use Rattle.std.specs.Prelude.{is_some, option_map}
use Rattle.std.specs.List.{find}
use Rattle.std.specs.BTreeMap.{IsEmpty, is_at}
use Rattle.std.specs.Map.{lookup}
use Rattle.std.specs.Cmp.Lexicographic.{slice_cmp}
use denote.Ref.{Bor}
use Rattle.fp_tables.proofs.Firsts.{mapped}
use Rattle.fp_written_parts.specs.declared.port.WrittenPort.{WrittenPort}
use Rattle.fp_component_rules.specs.Firsts.{is_named}
use Rattle.fp_component_rules.specs.declared.matching.End.{End}
use Rattle.fp_component_rules.specs.Tested.{end_of, find_end}
use Rattle.fp_component_rules.proofs.Passing.{find_pushed}

pub not_there : {A : Type 0} (o : Option A) (b : Bool) → b ≡ is_some o → b ≡ false → o ≡ None
not_there None b is e = refl
not_there (Some x) b is e = absurd (cc)

pub no_ends : (ends : BTreeMap (Bor (List ℕ)) End) → IsEmpty ends → (q : List ℕ) → find_end ends q ≡ None
no_ends ends empty q = ap (λ (es : List (Bor (List ℕ) × End)). lookup (is_at (λ (k : Bor (List ℕ)). slice_cmp nat_cmp q k.now)) es) empty

pub end_added : (q : List ℕ) (ps : List WrittenPort) (p : WrittenPort) (name : List ℕ) (end : End) (before now : Option End) → name ≡ p.name → end ≡ end_of p
    → before ≡ option_map end_of (find (is_named q) ps) → now ≡ cond (is_some before) before (cond (bytes_eq q name) (Some end) None)
    → now ≡ option_map end_of (find (is_named q) (ps ++ p ∷ []))
end_added q ps p name end before now named is known noted =
    noted
    ∙ ap (λ (o : Option End). cond (is_some o) o (cond (bytes_eq q name) (Some end) None)) known
    ∙ ap (λ (n : List ℕ). cond (is_some found) found (cond (bytes_eq q n) (Some end) None)) named
    ∙ ap (λ (e : End). cond (is_some found) found (cond (is_named q p) (Some e) None)) is
    ∙ sym (mapped end_of (find (is_named q) ps) (is_named q p) p)
    ∙ ap (option_map end_of) (sym (find_pushed (is_named q) ps p))
  where
    found : Option End
    found = option_map end_of (find (is_named q) ps)
