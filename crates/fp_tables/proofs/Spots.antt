-- Places of handlers that pass for the same are the same.
use Rattle.std.proofs.Common.{◌≡◌, ℕ, true, ◌==◌, ap, ◌∙◌}
use Rattle.fp_base.proofs.Bools.{both}
use Rattle.fp_base.proofs.Sameness.{nat_same}
use Rattle.fp_tables.specs.SoundPrograms.{same_spot}
use Rattle.fp_tables.specs.declared.program.Spot.{Spot}
use Rattle.fp_tables.specs.declared.program.Spot.TheVariants as spot

pub spot_equal : (a b : Spot) → same_spot a b ≡ true → a ≡ b
spot_equal (spot.Port m) (spot.Port n) h = ap spot.Port (nat_same.equal m n h)
spot_equal (spot.Command m) (spot.Command n) h = ap spot.Command (nat_same.equal m n h)
spot_equal (spot.Action r a) (spot.Action q b) h =
    let e = both (r == q) (a == b) h in
    ap (λ (n : ℕ). spot.Action n a) (nat_same.equal r q e.0) ∙ ap (spot.Action q) (nat_same.equal a b e.1)
spot_equal (spot.HookPort m) (spot.HookPort n) h = ap spot.HookPort (nat_same.equal m n h)
spot_equal (spot.HookCommand m) (spot.HookCommand n) h = ap spot.HookCommand (nat_same.equal m n h)
spot_equal (spot.HookSignal m) (spot.HookSignal n) h = ap spot.HookSignal (nat_same.equal m n h)
spot_equal _ _ h = absurd (cc)
