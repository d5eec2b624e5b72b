-- Values as a dictionary says them. F Prime GDS JSON Dictionary Specification, "Values".
use Rattle.std.specs.Prelude.{ℕ, ℤ, pos, negsuc, cond, codes, nat_lt, List, ◌++◌, ◌^◌}
use Rattle.fp_base.specs.declared.value.Value.{Value, Int, Bool as Truth, Text, Enumerated, Array', Struct', Opaque, Row_of-Value, more_of-Value, end_of-Value}
use Rattle.fp_base.specs.declared.value.Value.TheBlock as block
use Rattle.fp_base.specs.declared.value.MemberValue.{MemberValue}
use Rattle.serde_json.specs.Data.{Data, null, boolean, number, string, array, object, unsigned, negative, Items, no_items, item, Members, no_members, put}
use Rattle.fp_dictionary.specs.Objects.{Entry}

-- A number, of at most 64 bits: those of a sound model are of integer types. JSON has no exact one that is wider.
abbrev pub number_data : ℤ → Data
number_data (pos n) = cond (nat_lt n (2 ^ 64)) (number (unsigned n)) null
number_data (negsuc n) = cond (nat_lt n (2 ^ 63)) (number (negative (negsuc n))) null

-- a constant of an enum by its qualified name
abbrev pub constant_data : List ℕ → List ℕ → Data
constant_data enumeration constant = string (enumeration ++ codes "." ++ constant)

abbrev mutual
  pub value_data : Value → Data
  value_data (Int n) = number_data n
  value_data (Truth b) = boolean b
  value_data (Text s) = string s
  value_data (Enumerated e c n) = constant_data e c
  value_data (Array' m vs) = array (items_data vs)
  value_data (Struct' m ps) = object (parts_data ps no_members)
  value_data Opaque = null

  pub items_data : {m : _} → Row_of-Value m → Items
  items_data end_of-Value = no_items
  items_data (more_of-Value v vs) = item (value_data v) (items_data vs)

  pub parts_data : {m : _} → block.Row_of-MemberValue m → Members → Members
  parts_data block.end_of-MemberValue members = members
  parts_data (block.more_of-MemberValue n v ps) members = parts_data ps (put n (value_data v) members)

-- a member of a struct value, by its name
abbrev pub part_entry : MemberValue → Entry
part_entry p = (p.name, value_data p.value)
