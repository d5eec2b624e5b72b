-- The leaves and levels of values.
use Rattle.std.proofs.Common.{◌≡◌, ℕ, ◌+◌, ℤ, Bool, List, map, sym, ap, ◌∙◌}
use Rattle.fp_base.specs.declared.value.Value.{Value, fold-roll-Value, Int, Bool as Truth, Text, Enumerated, Array}
use Rattle.fp_base.specs.declared.value.Value.TheOpen as value
use Rattle.fp_base.specs.declared.value.Value.TheVariants.{rolls-Int, rolls-Text, rolls-Bool, rolls-Enumerated, rolls-Array}
use Rattle.fp_meaning.specs.Values.{leaves, leaves_step, leaves_among, levels, levels_step, deepest}

abbrev part_step : value.MemberValue-F ℕ ℕ → ℕ
part_step p = p.value

pub number_leaves : (n : ℤ) → leaves (Int n) ≡ 1
number_leaves n = ap leaves (sym (rolls-Int n)) ∙ fold-roll-Value ℕ ℕ leaves_step part_step (value.Int n)

pub number_levels : (n : ℤ) → levels (Int n) ≡ 1
number_levels n = ap levels (sym (rolls-Int n)) ∙ fold-roll-Value ℕ ℕ levels_step part_step (value.Int n)

pub text_leaves : (t : List ℕ) → leaves (Text t) ≡ 1
text_leaves t = ap leaves (sym (rolls-Text t)) ∙ fold-roll-Value ℕ ℕ leaves_step part_step (value.Text t)

pub text_levels : (t : List ℕ) → levels (Text t) ≡ 1
text_levels t = ap levels (sym (rolls-Text t)) ∙ fold-roll-Value ℕ ℕ levels_step part_step (value.Text t)

pub truth_leaves : (b : Bool) → leaves (Truth b) ≡ 1
truth_leaves b = ap leaves (sym (rolls-Bool b)) ∙ fold-roll-Value ℕ ℕ leaves_step part_step (value.Bool b)

pub truth_levels : (b : Bool) → levels (Truth b) ≡ 1
truth_levels b = ap levels (sym (rolls-Bool b)) ∙ fold-roll-Value ℕ ℕ levels_step part_step (value.Bool b)

pub constant_leaves : (of name : List ℕ) (n : ℤ) → leaves (Enumerated of name n) ≡ 1
constant_leaves of name n = ap leaves (sym (rolls-Enumerated of name n)) ∙ fold-roll-Value ℕ ℕ leaves_step part_step (value.Enumerated of name n)

pub constant_levels : (of name : List ℕ) (n : ℤ) → levels (Enumerated of name n) ≡ 1
constant_levels of name n = ap levels (sym (rolls-Enumerated of name n)) ∙ fold-roll-Value ℕ ℕ levels_step part_step (value.Enumerated of name n)

pub array_leaves : (vs : List Value) → leaves (Array vs) ≡ leaves_among (map leaves vs)
array_leaves vs = ap leaves (sym (rolls-Array vs)) ∙ fold-roll-Value ℕ ℕ leaves_step part_step (value.Array vs)

pub array_levels : (vs : List Value) → levels (Array vs) ≡ 1 + deepest (map levels vs)
array_levels vs = ap levels (sym (rolls-Array vs)) ∙ fold-roll-Value ℕ ℕ levels_step part_step (value.Array vs)
