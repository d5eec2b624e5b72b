-- Pieces that are written one after another.
use Rattle.std.proofs.Common.{◌≡◌, ◌+◌, ℕ, List, ◌++◌, Option, Some, None, length, take, drop, refl, ap, sym, ◌∙◌, append_assoc, ◌-◌, length-drop, arith, Bool, true, false, inl, inr}
use Rattle.std.proofs.lemmas.List.{take_all}
use Rattle.fp_main.specs.Lines.{write_fault_line}
use Rattle.fp_main.specs.Delivery.{SinkRun, AddsFront, HadFault, Written, Delivered}
use Rattle.fp_main.specs.declared.status.Status.{Status}
use Rattle.fp_main.specs.declared.status.Status.TheVariants.{WriteFault}
use Rattle.std.proofs.Math.Seq.{take-add}
use Rattle.std.specs.Option.{option_map}

-- one more piece
pub adds_more : (before mid after : Option (List ℕ)) (bytes : List ℕ) (at taken : ℕ)
    → mid ≡ option_map (λ written. written ++ take at bytes) before
    → after ≡ option_map (λ written. written ++ take taken (drop at bytes)) mid
    → after ≡ option_map (λ written. written ++ take (at + taken) bytes) before
adds_more None mid after bytes at taken e f = f ∙ ap (option_map (λ written. written ++ take taken (drop at bytes))) e
adds_more (Some w) mid after bytes at taken e f =
    f ∙ ap (option_map (λ written. written ++ take taken (drop at bytes))) e
    ∙ ap Some (append_assoc w (take at bytes) (take taken (drop at bytes)) ∙ ap (λ b. w ++ b) (sym (take-add at taken bytes)))

-- the same, where the piece is what is left
pub adds_more_of : (before mid after : Option (List ℕ)) (bytes : List ℕ) (at taken : ℕ)
    → mid ≡ option_map (λ written. written ++ take at bytes) before
    → after ≡ option_map (λ written. written ++ take taken (take (length bytes - at) (drop at bytes))) mid
    → after ≡ option_map (λ written. written ++ take (at + taken) bytes) before
adds_more_of before mid after bytes at taken e f =
    adds_more before mid after bytes at taken e
    (f ∙ ap (λ piece. option_map (λ written. written ++ take taken piece) mid) (take_all (length bytes - at) (drop at bytes) (omega (arith, length-drop at bytes))))

-- a write to out failed
pub failed_out : (due : Status) (output line : List ℕ) (out diag : SinkRun) (whole : Bool)
    → AddsFront output out × HadFault out → Written whole write_fault_line diag → Delivered due output line out diag WriteFault
failed_out due output line out diag true f w = inr (inl (record { ends = refl; written = f.0; fault = f.1; said = inl w }))
failed_out due output line out diag false f w = inr (inl (record { ends = refl; written = f.0; fault = f.1; said = inr w }))
