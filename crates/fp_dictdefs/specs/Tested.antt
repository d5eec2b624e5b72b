-- What is tested of names, ids and limits one after another.
use Rattle.std.specs.Prelude.{◌≡◌, ℕ, ◌+◌, ◌<◌, ◌≤◌, ◌^◌, ◌-◌, ◌⊎◌, ℤ, pos, ◌+ℤ◌, ◌≤ℤ◌, Bool, false, cond, not, Option, None, Some, option_map}
use Rattle.std.specs.Ordering.{nat_cmp, int_cmp, ordering_then, is_eq}
use Rattle.std.specs.declared.cmp.Ordering.{Ordering}
use Rattle.fp_base.specs.declared.place.Place.{Place}
use Rattle.fp_base.specs.declared.refusal.Refusal.{Refusal}
use Rattle.fp_base.specs.declared.rule.Rule.TheVariants.{IdRepeated, IdPast32Bits}
use Rattle.fp_base.specs.Least.{broken_at, lesser_of}
use Rattle.fp_tree.specs.declared.dictionary.Color.{Color}
use Rattle.fp_tree.specs.declared.dictionary.Color.TheVariants.{Yellow, Orange, Red}
use Rattle.fp_written_parts.specs.declared.dictionary.WrittenLimit.{WrittenLimit}
use Rattle.fp_written_parts.specs.declared.port.Given.{Given}
use Rattle.fp_dictdefs.specs.Broken.{Side, is_within, side_of}

-- ---- whole numbers past those of 128 bits

-- a number of 128 bits, and by how much the greatest of them is passed
abbrev pub Long : Type 0
Long = ℤ × ℕ

abbrev pub greatest : ℤ
greatest = pos (2 ^ 127 - 1)

abbrev pub StandsFor : Long → ℤ → Type 0
StandsFor p n = (n ≡ p.0 +ℤ pos p.1) × (p.0 ≤ℤ greatest) × ((p.1 ≡ 0) ⊎ (p.0 ≡ greatest))

abbrev pub long_cmp : Long → Long → Ordering
long_cmp a b = ordering_then (int_cmp a.0 b.0) (nat_cmp a.1 b.1)

-- the one is the other, where there is one
abbrev pub is_long : Long → Option Long → Bool
is_long q None = false
is_long q (Some p) = is_eq (long_cmp p q)

abbrev pub short : ℤ → Long
short n = (n, 0)

-- the number that is written, else the one that is implied
abbrev pub given_or : Option Long → Option Given → Option Long
given_or implied None = implied
given_or implied (Some g) = option_map short g.number

-- it stands for the one number after
abbrev pub IsAfter : Long → Long → Type 0
IsAfter p q = ((n : ℤ) → StandsFor p n → StandsFor q (n +ℤ pos 1)) × (q.1 ≤ p.1 + 1)

-- there is a number of 64 bits for what is past after it
abbrev pub HasRoom : Option Long → Type 0
HasRoom None = Unit {0}
HasRoom (Some p) = p.1 + 1 < 2 ^ 64

-- of 128 bits
abbrev pub Fits : Option Long → Type 0
Fits None = Unit {0}
Fits (Some p) = p.0 ≤ℤ greatest

abbrev pub is_of_32_bits : Long → Bool
is_of_32_bits p = is_within (pos 0) (pos (2 ^ 32 - 1)) p.0

-- what is broken by an id, by those that were noted before
abbrev pub id_fault : (Long → Bool) → Place → Option Long → Option Refusal
id_fault had place None = None
id_fault had place (Some p) =
    lesser_of (cond (had p) (Some (broken_at IdRepeated place)) None) (cond (not (is_of_32_bits p)) (Some (broken_at IdPast32Bits place)) None)

-- ---- limits

abbrev pub color_number : Color → ℕ
color_number Yellow = 0
color_number Orange = 1
color_number Red = 2

abbrev pub side_number : Bool → ℕ
side_number high = cond high 1 0

abbrev pub key_of : Side → Long
key_of s = (pos (color_number s.1), side_number s.0)

abbrev pub limit_key : WrittenLimit → Long
limit_key l = key_of (side_of l)
