-- Two copies, one behind the other, and the sheet that they make.
-- Assumes nothing.
use mathlib.Core.Path.{◌≡◌, ◌∙◌, refl, sym, ap}
use mathlib.Core.List.{List, ◌++◌, append_assoc}
use Prim.Native.Nat.{ℕ, ◌+◌, ◌-◌}
use native.Mathlib.Omega.{arith}
use lib.ListN.{length, take, drop}
use lib.Seq.{take_at, drop_at, drop-drop}
use Rattle.rules.specs.declared.Picture.{Picture}
use Rattle.numbers.specs.Numbers.{in_bytes}
use Rattle.rules.specs.Sheets.{sheet_of, sheet_over}
use Rattle.sheet.proofs.Checks.{sheet_length}
use Rattle.sheet.specs.write.Front.{front_of_lem}

-- n elements in front, and then the data behind them
pub twice : (n : ℕ) (front b out mid part : List ℕ)
    → length front ≡ n
    → mid ≡ front ++ drop n out
    → part ≡ b
    → take n mid ++ (part ++ drop (n + length b - n) (drop n mid)) ≡ (front ++ b) ++ drop (n + length b) out
twice n front b out mid part l o f =
    let t : take n mid ≡ front = ap (take n) o ∙ take_at front (drop n out) n l in
    let d : drop n mid ≡ drop n out = ap (drop n) o ∙ drop_at front (drop n out) n l in
    let k : n + length b - n ≡ length b = omega arith in
    ap (λ (y : List ℕ). y ++ (part ++ drop (n + length b - n) (drop n mid))) t
    ∙ ap (λ (y : List ℕ). front ++ (y ++ drop (n + length b - n) (drop n mid))) f
    ∙ ap (λ (y : List ℕ). front ++ (b ++ drop (n + length b - n) y)) d
    ∙ ap (λ (m : ℕ). front ++ (b ++ drop m (drop n out))) k
    ∙ ap (λ (y : List ℕ). front ++ (b ++ y)) (drop-drop (length b) n out)
    ∙ sym (append_assoc front b (drop (n + length b) out))

-- what stands before the blocks, and the blocks
pub is_sheet_said : (f : ℕ) (p : Picture) (b out : List ℕ) → (front_of_lem f p (length b) ++ b) ++ drop (21 + length b) out ≡ sheet_over f p b out
unfolding sheet_of
is_sheet_said f p b out =
    let e : front_of_lem f p (length b) ++ b ≡ sheet_of f p b = simp append_assoc in
    ap (λ (z : List ℕ). z ++ drop (21 + length b) out) e
    ∙ ap (λ (z : ℕ). sheet_of f p b ++ drop z out) (sym (sheet_length f p b))

pub front_length : (f : ℕ) (p : Picture) (n : ℕ) → length (front_of_lem f p n) ≡ 21
unfolding in_bytes
front_length f p n = refl
