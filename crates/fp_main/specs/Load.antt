-- The load that measures a run: instances of one component in a chain, through which a caller sends a hundred numbers.
-- This profile: the whole of it, and how its source and its scenario are laid out.
use Rattle.std.specs.Prelude.{ℕ, zero, suc, ◌+◌, ◌-◌, codes, decimal, List, [], ◌++◌}

-- the texts of the numbers below n, one behind another
abbrev pub each_below : (ℕ → List ℕ) → ℕ → List ℕ
each_below text zero = []
each_below text (suc n) = each_below text n ++ text n

abbrev pub instance_line : ℕ → List ℕ
instance_line n = codes "  instance w" ++ decimal n ++ codes ": W base id " ++ decimal n ++ codes " queue size 4\n"

abbrev pub member_line : ℕ → List ℕ
member_line n = codes "    instance w" ++ decimal n ++ codes "\n"

-- from an instance to the next one
abbrev pub connection_line : ℕ → List ℕ
connection_line n = codes "      w" ++ decimal n ++ codes ".next -> w" ++ decimal (n + 1) ++ codes ".feed\n"

-- the source with so many instances
abbrev pub source_text : ℕ → List ℕ
source_text n =
    codes "module Gen {\n  port P(a: U32)\n  active component W { async input port feed: P block; output port next: P }\n" ++ each_below instance_line n
    ++ codes "  topology T {\n" ++ each_below member_line n ++ codes "    connections Chain {\n" ++ each_below connection_line (n - 1) ++ codes "    }\n  }\n}\n"

-- a call of the first instance, behind others
abbrev pub call_text : ℕ → List ℕ
call_text k = codes ",{\"call\":\"Gen.w0.feed\",\"with\":[" ++ decimal (k + 1) ++ codes "]}"

-- the scenario with so many instances, of which the last one hands nothing on
abbrev pub scenario_text : ℕ → List ℕ
scenario_text n =
    codes "{\"steps\":20000,\"callers\":[{\"name\":\"k\",\"do\":[{\"call\":\"Gen.w0.feed\",\"with\":[0]}" ++ each_below call_text 99
    ++ codes "]}],\"handlers\":[{\"of\":\"Gen.W\",\"on\":\"port feed\",\"do\":[{\"call\":\"next\",\"with\":[{\"$\":\"a\"}]}]},{\"of\":\"Gen.w" ++ decimal (n - 1)
    ++ codes "\",\"on\":\"port feed\",\"do\":[]}]}\n"
