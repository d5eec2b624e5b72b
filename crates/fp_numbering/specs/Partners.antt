-- What tells of ends at matched ports whether their partners are missing or repeated.
use Rattle.std.specs.Prelude.{ℕ, Bool, not, ◌&&◌, ◌||◌, ◌==◌, List}
use Rattle.std.specs.List.{list_any}
use Rattle.fp_base.specs.declared.refusal.Refusal.{Refusal}
use Rattle.fp_base.specs.Least.{Either, InSome}
use Rattle.fp_numbering.specs.declared.tips.Tip.{Tip}
use Rattle.fp_numbering.specs.Pairs.{is_at}
use Rattle.fp_numbering.specs.Broken.{IsMissing, IsRepeated}

-- an end of the instance, with the other instance, at the port
abbrev pub is_seen : ℕ × ℕ × ℕ → Tip → Bool
is_seen q s = not s.unmatched && (s.instance == q.0 && s.other == q.1 && s.port == q.2)

-- a match of its port has no end at one of its two ports
abbrev pub lacks : (ℕ × ℕ × ℕ → Bool) → Tip → ℕ × ℕ → Bool
lacks seen t q = is_at q t && (not (seen (t.instance, t.other, q.0)) || not (seen (t.instance, t.other, q.1)))

abbrev pub is_alone : (ℕ × ℕ × ℕ → Bool) → List (ℕ × ℕ) → Tip → Bool
is_alone seen qs t = not t.unmatched && list_any (lacks seen t) qs

abbrev pub is_one_more : (ℕ × ℕ × ℕ → Bool) → List (ℕ × ℕ) → Tip → Bool
is_one_more seen qs t = (not t.unmatched && seen (t.instance, t.other, t.port)) && list_any (λ q. is_at q t) qs

abbrev pub LackPartners : (ℕ → List (ℕ × ℕ)) → List Tip → Refusal → Type 0
LackPartners matches ts f = Either (InSome (IsMissing matches ts) ts) (InSome (IsRepeated matches ts) ts) f
