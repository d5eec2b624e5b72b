-- Ports that are found by their names.
use Rattle.std.proofs.Common.{◌≡◌, ℕ, zero, suc, ◌<◌, ◌^◌, List, [], ◌∷◌, ◌++◌, length, slice_get, Option, None, Some, option_map, take, ◌+◌, refl, sym, ap, ◌∙◌, subst, BTreeMap}
use Rattle.std.specs.Prelude.{option_and_then, position, unwrap_or}
use Rattle.std.specs.Str.{bytes_eq}
use denote.Ref.{Bor}
use Rattle.fp_base.proofs.Lists.{take_next}
use Rattle.fp_tables.specs.declared.component.Component.{Component}
use Rattle.fp_tables.specs.declared.component.Port.{Port}
use Rattle.fp_tables.specs.declared.topology.Instance.{Instance}
use Rattle.fp_topologies.specs.Firsts.{FindsInEach, FindsPorts, named_in}
use Rattle.fp_topologies.specs.Ports.{port_named, ports_at}

pub each_push : (cs : List Component) (ms : List (BTreeMap (Bor (List ℕ)) ℕ)) (c : Component) (m : BTreeMap (Bor (List ℕ)) ℕ) → FindsInEach cs ms → FindsPorts c.ports m → FindsInEach (cs ++ c ∷ []) (ms ++ m ∷ [])
each_push [] [] c m h f = (f, tt)
each_push [] (n ∷ ms) c m h f = absurd h
each_push (d ∷ cs) [] c m h f = absurd h
each_push (d ∷ cs) (n ∷ ms) c m h f = (h.0, each_push cs ms c m h.1 f)

pub each_next : (all : List Component) (ms new : List (BTreeMap (Bor (List ℕ)) ℕ)) (n : ℕ) (c : Component) (m : BTreeMap (Bor (List ℕ)) ℕ) → slice_get all n ≡ Some c → new ≡ ms ++ m ∷ []
    → FindsPorts c.ports m → FindsInEach (take n all) ms → FindsInEach (take (n + 1) all) new
each_next all ms new n c m at is finds h =
    subst (λ (cs : List Component). FindsInEach cs new) (sym (take_next all n c at))
    (subst (λ (xs : List (BTreeMap (Bor (List ℕ)) ℕ)). FindsInEach (take n all ++ c ∷ []) xs) (sym is) (each_push (take n all) ms c m h finds))

abbrev named : List ℕ → Component → Option ℕ
named name c = position (λ (p : Port). bytes_eq p.name name) c.ports

found_in : (cs : List Component) (ms : List (BTreeMap (Bor (List ℕ)) ℕ)) (k : ℕ) (name : List ℕ) → FindsInEach cs ms
    → named_in ms k name ≡ option_and_then (named name) (slice_get cs k)
found_in [] [] k name h = refl
found_in [] (n ∷ ms) k name h = absurd h
found_in (d ∷ cs) [] k name h = absurd h
found_in (d ∷ cs) (n ∷ ms) zero name h = h.0.finds name
found_in (d ∷ cs) (n ∷ ms) (suc k) name h = found_in cs ms k name h.1

short_in : (cs : List Component) (ms : List (BTreeMap (Bor (List ℕ)) ℕ)) (k : ℕ) (c : Component) → FindsInEach cs ms → Some c ≡ slice_get cs k → length c.ports < 2 ^ 32
short_in [] [] k c h e = absurd (cc)
short_in [] (n ∷ ms) k c h e = absurd h
short_in (d ∷ cs) [] k c h e = absurd h
short_in (d ∷ cs) (n ∷ ms) zero c h e = subst (λ (o : Option Component). short_of o) (sym e) h.0.short
  where
    short_of : Option Component → Type 0
    short_of None = Unit {0}
    short_of (Some x) = length x.ports < 2 ^ 32
short_in (d ∷ cs) (n ∷ ms) (suc k) c h e = short_in cs ms k c h.1 e

pub short_at : (cs : List Component) (ms : List (BTreeMap (Bor (List ℕ)) ℕ)) (o : Option Instance) (c : Component) → FindsInEach cs ms
    → Some c ≡ option_and_then (λ (x : Instance). slice_get cs x.component) o → length c.ports < 2 ^ 32
short_at cs ms None c h e = absurd (cc)
short_at cs ms (Some x) c h e = short_in cs ms x.component c h e

named_of : (name : List ℕ) (o : Option Component) → option_and_then (named name) o ≡ position (λ (p : Port). bytes_eq p.name name) (unwrap_or (option_map (λ (c : Component). c.ports) o) [])
named_of name None = refl
named_of name (Some c) = refl

-- by the component of an instance
pub used_at : (cs : List Component) (is : List Instance) (ms : List (BTreeMap (Bor (List ℕ)) ℕ)) (i : ℕ) (x : Instance) (name : List ℕ) → FindsInEach cs ms → Some x ≡ slice_get is i
    → named_in ms x.component name ≡ port_named cs is i name
used_at cs is ms i x name h e =
    found_in cs ms x.component name h ∙ named_of name (slice_get cs x.component)
    ∙ ap (λ (o : Option Instance). position (λ (p : Port). bytes_eq p.name name) (unwrap_or (option_map (λ (c : Component). c.ports) (option_and_then (λ (y : Instance). slice_get cs y.component) o)) [])) e

pub none_at : (cs : List Component) (is : List Instance) (i : ℕ) (name : List ℕ) → None ≡ slice_get is i → None ≡ port_named cs is i name
none_at cs is i name e =
    ap (λ (o : Option Instance). position (λ (p : Port). bytes_eq p.name name) (unwrap_or (option_map (λ (c : Component). c.ports) (option_and_then (λ (y : Instance). slice_get cs y.component) o)) [])) e
