-- Checks in any order: where all pass, what comes then is said; where the verdict accepts, all have passed; and where one fails,
-- nothing after it is asked.
-- Assumes nothing.
use mathlib.Core.Path.{◌≡◌, ◌∙◌, refl, sym, ap}
use mathlib.Core.Bool.{Bool, true, false, cond, true≢false, ◌&&◌}
use mathlib.Core.List.{List, [], ◌∷◌}
use Prim.Native.Nat.{ℕ, ◌<◌}
use native.Mathlib.Omega.{arith}
use borrow.Author.Tests.{ne_eqb}
use lib.Dec.{T, ltb, ltb→lt}
use Rattle.rules.specs.Answers.{Answer, said, accepts, Check, judged, verdict}

-- every check passes
pub record Both (P Q : Type 0) : Type 0 where
  pub first : P
  pub rest : Q

pub record Nothing : Type 0 where

abbrev pub Clear : List Check → Type 0
Clear [] = Nothing
Clear (c ∷ cs) = Both (c.fails ≡ false) (Clear cs)

-- no check has number 0, which is no refusal; `tt` shows it of a list that is written out
abbrev pub numbered : List Check → Bool
numbered [] = true
numbered (c ∷ cs) = ltb 0 c.number && numbered cs

-- all pass
pub all_pass : (cs : List Check) (then : List ℕ) → Clear cs → judged cs then ≡ then
all_pass [] then e = refl
all_pass (c ∷ cs) then e = let f = e.first in rw f (all_pass cs then e.rest)

refuses : (n : ℕ) → 0 < n → accepts (n ∷ []) ≡ true → ⊥
refuses n h e = true≢false (sym e ∙ ne_eqb n 0 (λ z. omega (arith, z)))

fst : (s t : Bool) → T (s && t) → T s
fst true t h = tt
fst false t h = absurd h

snd : (s t : Bool) → T (s && t) → T t
snd true t h = h
snd false t h = absurd h

-- what passed
step : (then : List ℕ) (c : Check) (cs : List Check) (t : Bool) → c.fails ≡ t → T (numbered (c ∷ cs))
    → (T (numbered cs) → accepts (judged cs then) ≡ true → Clear cs)
    → accepts (cond t (c.number ∷ []) (judged cs then)) ≡ true → Clear (c ∷ cs)
step then c cs true h n k e = absurd (refuses c.number (ltb→lt 0 c.number (fst (ltb 0 c.number) (numbered cs) n)) e)
step then c cs false h n k e = record { first = h; rest = k (snd (ltb 0 c.number) (numbered cs) n) e }

pub passed : (cs : List Check) (then : List ℕ) → T (numbered cs) → accepts (judged cs then) ≡ true → Clear cs
passed [] then n e = record {}
passed (c ∷ cs) then n e = step then c cs c.fails refl n (passed cs then) e

-- one halts
halt : (t : Bool) (x a b : List ℕ) → (accepts a ≡ false → a ≡ b) → accepts (cond t x a) ≡ false → cond t x a ≡ cond t x b
halt true x a b k e = refl
halt false x a b k e = k e

pub halted : (cs : List Check) (then : List ℕ) → accepts (verdict cs) ≡ false → verdict cs ≡ judged cs then
halted [] then e = absurd (true≢false e)
halted (c ∷ cs) then e = halt c.fails (c.number ∷ []) (verdict cs) (judged cs then) (halted cs then) e

-- so of an answer to the checks: a refusal is the answer to all that is asked, and after an acceptance the rest is
pub stops : (cs : List Check) (then : List ℕ) (a : Answer) → said a ≡ verdict cs → accepts (said a) ≡ false → said a ≡ judged cs then
stops cs then a e r = e ∙ halted cs then (sym (ap accepts e) ∙ r)

pub goes_on : (cs : List Check) (then : List ℕ) → T (numbered cs) → 0 ∷ [] ≡ verdict cs → judged cs then ≡ then
goes_on cs then n e = all_pass cs then (passed cs (0 ∷ []) n (sym (ap accepts e)))
