-- First ports and the set of their names, with one port more.
use Rattle.std.proofs.Common.{◌≡◌, ◌∙◌, ◌||◌, ℕ, Bool, true, false, not, cond, List, [], ◌∷◌, ◌++◌, map, BTreeSet, refl, sym, ap, bytes_eq}
use Rattle.std.proofs.lemmas.List.{map-append}
use Rattle.std.proofs.lemmas.List.Folds.{list_any-append}
use Rattle.std.proofs.Math.Bool.{or-false}
use denote.Ref.{Bor}
use Rattle.fp_base.proofs.Bytes.{same_bytes}
use Rattle.fp_base.proofs.Bools.{was_there, was_new}
use Rattle.fp_base.specs.NameSets.{has_name}
use Rattle.fp_written_parts.specs.declared.port.WrittenPort.{WrittenPort}
use Rattle.fp_component_rules.specs.Firsts.{has_port, is_named, with_port}
use Rattle.fp_component_rules.specs.Noted.{AreNames}

abbrev pub behind : Bor WrittenPort → WrittenPort
behind port = port.now

known_or : (a b : Bool) → (b ≡ true → a ≡ true) → (a || b) ≡ a
known_or true b h = refl
known_or false true h = sym (h refl)
known_or false false h = refl

module _ (ports : List (Bor WrittenPort)) where
  pub more_names : (after : List (Bor WrittenPort)) (port : Bor WrittenPort) (names more : BTreeSet (Bor (List ℕ))) (name : List ℕ) → name ≡ port.now.name → AreNames (map behind ports) names
      → ((q : List ℕ) → has_name more q ≡ (has_name names q || bytes_eq q name)) → after ≡ ports ++ port ∷ [] → AreNames (map behind after) more
  more_names after port names more name is known added pushed q =
      added q ∙ ap (λ (b : Bool). b || bytes_eq q name) (known q) ∙ ap (λ (n : List ℕ). has_port q (map behind ports) || bytes_eq q n) is
      ∙ ap (λ (b : Bool). has_port q (map behind ports) || b) (sym (or-false (bytes_eq q port.now.name)))
      ∙ sym (ap (λ (ps : List (Bor WrittenPort)). has_port q (map behind ps)) pushed ∙ ap (has_port q) (map-append behind ports (port ∷ [])) ∙ list_any-append (is_named q) (map behind ports) (port.now ∷ []))

  pub known_names : (port : Bor WrittenPort) (names more : BTreeSet (Bor (List ℕ))) (name : List ℕ) (added : Bool) → name ≡ port.now.name → AreNames (map behind ports) names
      → ((q : List ℕ) → has_name more q ≡ (has_name names q || bytes_eq q name)) → added ≡ not (has_name names name) → added ≡ false → AreNames (map behind ports) more
  known_names port names more name added is known adds told never q =
      adds q ∙ known_or (has_name names q) (bytes_eq q name) (λ e. ap (has_name names) (same_bytes q name e) ∙ was_there added (has_name names name) told never) ∙ known q

  pub more_ports : (after : List (Bor WrittenPort)) (port : Bor WrittenPort) (names : BTreeSet (Bor (List ℕ))) (name : List ℕ) (added : Bool) (firsts : List WrittenPort) → name ≡ port.now.name
      → AreNames (map behind ports) names → added ≡ not (has_name names name) → added ≡ true → after ≡ ports ++ port ∷ [] → map behind ports ≡ firsts → map behind after ≡ with_port port.now firsts
  more_ports after port names name added firsts is known told first pushed view =
      let new : has_port port.now.name (map behind ports) ≡ false = sym (known port.now.name) ∙ ap (has_name names) (sym is) ∙ was_new added (has_name names name) told first in
      ap (map behind) pushed ∙ map-append behind ports (port ∷ [])
      ∙ sym (ap (λ (b : Bool). cond b (map behind ports) (map behind ports ++ port.now ∷ [])) new) ∙ ap (with_port port.now) view

  pub known_ports : (port : Bor WrittenPort) (names : BTreeSet (Bor (List ℕ))) (name : List ℕ) (added : Bool) (firsts : List WrittenPort) → name ≡ port.now.name → AreNames (map behind ports) names
      → added ≡ not (has_name names name) → added ≡ false → map behind ports ≡ firsts → map behind ports ≡ with_port port.now firsts
  known_ports port names name added firsts is known told never view =
      let there : has_port port.now.name (map behind ports) ≡ true = sym (known port.now.name) ∙ ap (has_name names) (sym is) ∙ was_there added (has_name names name) told never in
      sym (ap (λ (b : Bool). cond b (map behind ports) (map behind ports ++ port.now ∷ [])) there) ∙ ap (with_port port.now) view
